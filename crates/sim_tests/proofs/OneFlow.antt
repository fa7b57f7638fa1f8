-- Lists of one flow.
use Rattle.std.specs.Prelude.{◌≡◌, List, [], ◌∷◌}
use Rattle.std.proofs.Common.{sym, subst, inl, inr}
use Rattle.ovn_base.specs.lists.Among.{Among}
use Rattle.ovn_base.proofs.AmongLaws.{among_none, among_cases}
use Rattle.flow_table.specs.declared.flow.Flow.{Flow}
use Rattle.switch_engine.specs.Proper.{IsProper, IsProperFlow}

-- where it is proper, all are
pub one_proper : (flow : Flow) (flows : List Flow) → flows ≡ flow ∷ [] → IsProperFlow flow → IsProper flows
one_proper flow flows one own f m = elim (among_cases f flow [] (subst (λ l. Among f l) one m)) [ inl e ↦ subst IsProperFlow (sym e) own | inr n ↦ absurd (among_none f n) ]
