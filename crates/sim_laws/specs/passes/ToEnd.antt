-- How a walk takes copies to their end.
use Rattle.std.specs.Prelude.{List}
use Rattle.net_model.specs.Trail.{Trail, Lists}
use Rattle.switch_engine.specs.Zones.{ZoneLists}
use Rattle.switch_engine.specs.declared.carried.Carried.{Carried}
use Rattle.switch_engine.specs.declared.effect.Effect.{Effect}
use Rattle.sim_laws.specs.pipelines.Pieces.{ComesTo}
use Rattle.sim_laws.specs.pipelines.Standing.{Chassis}

-- nothing goes on
abbrev pub Never : Lists → ⊥ → ZoneLists → Carried → Type 0
Never lists x zones copy = ⊥

-- The walk has told all that becomes of the packet on its way, and has made the choices of the way: with these in front, whatever
-- choices follow, and whatever ended before, the way comes to the same. No copy is left.
abbrev pub EndsAs : Chassis → (Trail → Trail) → Lists → List Effect → ZoneLists → List Carried → Type 0
EndsAs s way lists told zones copies = ComesTo s (λ rest t. way t) lists Never told zones copies
