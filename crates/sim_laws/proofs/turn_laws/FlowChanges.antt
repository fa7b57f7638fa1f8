-- What a change of flows is for those that are held as a list: a delta of them, that leads to the flows of the other set.
use Rattle.std.specs.Prelude.{◌≡◌, ◌↔◌, ◌⊎◌, Bool, true, false, List, refl}
use Rattle.std.specs.Set.{is_member}
use Rattle.std.proofs.Common.{sym, ◌∙◌, inl, inr}
use Rattle.std.proofs.lemmas.Bool.{false≢true}
use Rattle.flow_table.specs.Change.{IsDeltaOf, IsReplaced}
use Rattle.flow_table.specs.declared.flow.Flow.{Flow}
use Rattle.ovn_base.proofs.AmongLaws.{among_member, member_among}
use Rattle.ovn_base.specs.declared.delta.Delta.{Delta}
use Rattle.ovn_base.specs.lists.Among.{Among}
use Rattle.ovn_base.specs.lists.Once.{EachOnce}
use Rattle.physical_flows.specs.ChassisFlows.{AreExactly}
use Rattle.physical_flows.specs.UnitFlows.{same_flow}
use Rattle.sim_laws.specs.journeys.TurnedTables.{IsFlowChange}

-- equal flows are the same
abbrev pub IsExact : Type 0
IsExact = (f g : Flow) → (same_flow f g ≡ true) ↔ (f ≡ g)

listed_or_not : IsExact → (f : Flow) (fs : List Flow) → Among f fs ⊎ (¬ Among f fs)
listed_or_not exact f fs = by (is_member same_flow fs f) refl
  where
    by : (member : Bool) → is_member same_flow fs f ≡ member → Among f fs ⊎ (¬ Among f fs)
    by true is = inl (member_among same_flow (λ g h e. (exact g h).0 e) f fs is)
    by false is = inr (λ m. false≢true (sym is ∙ among_member same_flow (λ g. (exact g g).1 refl) f fs m))

module _ (Before After : Flow → Type 0) (held : List Flow) (delta : Delta Flow) (exactly : AreExactly Before held) (change : IsFlowChange Before After delta) where
  -- what comes isn't there
  pub delta_of_held : IsDeltaOf held delta
  delta_of_held = record { once = change.come_once; new = λ f a m. absurd (((change.come f).0 a).0 ((exactly.same f).0 m)) }

  -- and the list that it leads to has exactly the flows of the other set
  pub replaced_exactly : IsExact → (others : List Flow) → IsReplaced held delta others → EachOnce others → AreExactly After others
  replaced_exactly exact others replaced once = record { same = λ f. (is_one f, is_listed f); once = once }
    where
      is_one : (f : Flow) → Among f others → After f
      is_one f m = elim ((replaced f).0 m) [
        | inl a ↦ ((change.come f).0 a).1
        | inr k ↦ elim (change.rest f ((exactly.same f).0 k.0)) [ inl stays ↦ stays | inr goes ↦ absurd (k.1 goes) ]
      ]

      is_listed : (f : Flow) → After f → Among f others
      is_listed f after = elim (listed_or_not exact f held) [
        | inl m ↦ (replaced f).1 (inr (m, λ g. (change.go f g).1 after))
        | inr out ↦ (replaced f).1 (inl ((change.come f).1 (λ before. out ((exactly.same f).1 before), after)))
      ]
