-- A whole walk tells all that becomes of the copies with which it begins.
use Rattle.std.specs.Prelude.{◌≡◌, ◌++◌, List, [], refl}
use Rattle.std.proofs.Common.{sym, ap, ◌∙◌, subst, append-nil}
use Rattle.switch_engine.specs.Walk.IsWalk.{over}
use Rattle.switch_engine.specs.Zones.{ZoneLists}
use Rattle.switch_engine.specs.declared.carried.Carried.{Carried}
use Rattle.switch_engine.specs.declared.effect.Effect.{Effect}
use Rattle.switch_engine.specs.declared.walk.Step.{Step}
use Rattle.sim_laws.proofs.passes.Ends.{ended, ends_so}
use Rattle.sim_laws.specs.passes.ToEnd.{EndsAs}
use Rattle.sim_laws.specs.passes.Whole.{WholeWalkLaw}
use Rattle.sim_laws.specs.pipelines.Standing.{course_of}
use Rattle.sim_laws.specs.pipelines.WalkOn.{Course, Walks}

-- of no copies nothing is told
nothing_left : (c : Course) (zones last : ZoneLists) (steps : List Step) (more : List Effect) → Walks c zones [] steps more last → (more ≡ []) × (last ≡ zones)
nothing_left c _ _ _ _ (over zones) = (refl, refl)

pub tells_all : WholeWalkLaw
tells_all s way lists zones copies comes steps effects last walk =
    let c = course_of s in
    let f = comes.each [] steps effects last (subst (λ (l : List Carried). Walks c zones l steps effects last) (sym (append-nil copies)) walk) in
    let a = ended s way lists f.told f.zones f.copies f.so in
    let n = nothing_left c f.zones last f.steps f.more (subst (λ (l : List Carried). Walks c f.zones (l ++ []) f.steps f.more last) a.none f.walk) in
    let told : effects ≡ f.told = f.effects ∙ ap (λ l. f.told ++ l) n.0 ∙ append-nil f.told in
    subst (λ (l : List Effect). EndsAs s way lists l last []) (sym told)
    (subst (λ (z : ZoneLists). EndsAs s way lists f.told z []) (sym n.1) (ends_so s way lists a.after f.told a.own f.zones a.numbered a.hold a.is))
