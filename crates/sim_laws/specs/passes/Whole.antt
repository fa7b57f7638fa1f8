-- The law of a whole walk: it tells all that becomes of the copies with which it begins.
use Rattle.std.specs.Prelude.{List, []}
use Rattle.net_model.specs.Trail.{Trail, Lists}
use Rattle.switch_engine.specs.Zones.{ZoneLists}
use Rattle.switch_engine.specs.declared.carried.Carried.{Carried}
use Rattle.switch_engine.specs.declared.effect.Effect.{Effect}
use Rattle.switch_engine.specs.declared.walk.Step.{Step}
use Rattle.sim_laws.specs.passes.ToEnd.{EndsAs}
use Rattle.sim_laws.specs.pipelines.Standing.{Chassis, course_of}
use Rattle.sim_laws.specs.pipelines.WalkOn.{Walks, Comes}

-- A walk with no other copies behind those that come to their end so tells just that, and leaves the zones so.
abbrev pub WholeWalkLaw : Type 0
WholeWalkLaw =
    (s : Chassis) (way : Trail → Trail) (lists : Lists) (zones : ZoneLists) (copies : List Carried) → Comes (course_of s) zones copies (EndsAs s way lists)
    → (steps : List Step) (effects : List Effect) (last : ZoneLists) → Walks (course_of s) zones copies steps effects last → EndsAs s way lists effects last []
