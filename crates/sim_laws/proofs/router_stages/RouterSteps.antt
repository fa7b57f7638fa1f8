-- How a walk goes on behind a table of a router.
use Rattle.std.specs.Prelude.{◌≡◌, ◌++◌, List, [], ◌∷◌}
use Rattle.std.proofs.Common.{sym, subst}
use Rattle.switch_engine.specs.Zones.{ZoneLists}
use Rattle.switch_engine.specs.declared.carried.Carried.{Carried}
use Rattle.switch_engine.specs.declared.effect.Effect.{Effect}
use Rattle.sim_laws.proofs.pipelines.WalkOn.{comes_on}
use Rattle.sim_laws.specs.pipelines.Standing.{Chassis, course_of}
use Rattle.sim_laws.specs.pipelines.WalkOn.{Reached, Comes}

-- nothing was told, and one copy is left
abbrev pub IsNext : ZoneLists → Carried → Reached
IsNext zones next told last copies = (told ≡ []) × (last ≡ zones) × (copies ≡ next ∷ [])

pub goes_then : (s : Chassis) (zones : ZoneLists) (copy next : Carried) (Then : Reached) → Comes (course_of s) zones (copy ∷ []) (IsNext zones next) → Comes (course_of s) zones (next ∷ []) Then
    → Comes (course_of s) zones (copy ∷ []) Then
goes_then s zones copy next Then first rest = comes_on (course_of s) zones (copy ∷ []) (IsNext zones next) Then first on
  where
    After : List Effect → Reached
    After told more last copies = Then (told ++ more) last copies

    on : (told : List Effect) (middle : ZoneLists) (left : List Carried) → IsNext zones next told middle left → Comes (course_of s) middle left (After told)
    on told middle left is =
        subst (λ (t : List Effect). Comes (course_of s) middle left (After t)) (sym is.0)
        (subst (λ (z : ZoneLists). Comes (course_of s) z left (After [])) (sym is.1)
        (subst (λ (l : List Carried). Comes (course_of s) zones l (After [])) (sym is.2) rest))
