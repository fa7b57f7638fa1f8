use Rattle.std.proofs.Common.{◌≡◌, List, [], ◌∷◌, ◌++◌, sym, ◌∙◌, ap, subst, inl, inr}
use Rattle.ovn_base.specs.lists.Among.{Among, here}
use Rattle.ovn_base.proofs.AmongLaws.{among_none, among_cases}
use Rattle.flow_table.specs.Change.{IsReplaced}
use Rattle.flow_table.specs.declared.flow.Flow.{Flow}
use Rattle.flow_table.proofs.ChangeLaws.{delta_of_any}
use Rattle.switch_engine.specs.Proper.{IsProper, IsProperFlow}
use Rattle.engine_tests.proofs.rows.put.Goals as goal

is_one : (flow f : Flow) (flows : List Flow) → flows ≡ flow ∷ [] → Among f flows → f ≡ flow
is_one flow f flows one m = elim (among_cases f flow [] (subst (λ l. Among f l) one m)) [ inl e ↦ e | inr n ↦ absurd (among_none f n) ]

still_proper : (flow : Flow) (flows added removed after : List Flow) → IsProper flows → IsProperFlow flow → added ≡ flow ∷ [] → IsReplaced flows (record { added = added; removed = removed }) after → IsProper after
still_proper flow flows added removed after proper own comes replaced f m = elim ((replaced f).0 m) [ inl a ↦ subst IsProperFlow (sym (is_one flow f added comes a)) own | inr b ↦ proper f b.0 ]

pub returns-in_err-prepare : goal.returns-in_err-prepare
returns-in_err-prepare c = subst IsProper (sym c.prepare.ensures.same) c.requires.tables

pub prepare-requires : goal.prepare-requires
prepare-requires c =
    let goes : c.push.new.self ≡ c.args.flow ∷ [] = c.in_ok-push.ensures.ok ∙ ap (λ l. l ++ c.in_ok-share.field-0 ∷ []) c.new-removed.ensures ∙ ap (λ f. f ∷ []) c.in_ok-share.ensures in
    delta_of_any _ _ c.args.flow (c.in_ok-push-2.ensures.ok ∙ ap (λ l. l ++ c.args.flow ∷ []) c.new-added.ensures) (subst (λ l. Among c.args.flow l) (sym goes) here)

pub returns : goal.returns
returns c =
    still_proper c.args.flow _ _ _ _ (subst IsProper (sym c.prepare.ensures.same) c.requires.tables) c.requires.flow
    (c.in_ok-push-2.ensures.ok ∙ ap (λ l. l ++ c.args.flow ∷ []) c.new-added.ensures) c.replace.ensures
