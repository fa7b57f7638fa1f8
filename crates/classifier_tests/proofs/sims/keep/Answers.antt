use Rattle.std.specs.Prelude.{refl}
use Rattle.std.proofs.Common.{◌≡◌, [], ◌∷◌, ◌++◌, sym, subst, ap, ◌∙◌, inl, inr}
use Rattle.std.specs.List.{list_any}
use Rattle.std.proofs.lemmas.Bool.{false≢true}
use Rattle.ovn_base.specs.lists.Among.{Among}
use Rattle.ovn_base.specs.lists.Once.{EachOnce}
use Rattle.ovn_base.proofs.AmongLaws.{among_any, among_append, among_cases, among_none}
use Rattle.flow_table.proofs.OnceLaws.{once_push}
use Rattle.flow_table.specs.contracts.flow.FlowPartialEq.TheImpl.{ghosts}
use Rattle.switch_engine.specs.Proper.{IsProperFlow}
use Rattle.classifier_tests.proofs.sims.keep.Goals as goal

pub returns-clause-once : goal.returns-clause-once
returns-clause-once c = λ once.
    let flow = c.args.flow.now in
    let pushed : c.push.new.self ≡ c.args.kept.now ++ flow ∷ [] = c.in_ok-push.ensures.ok ∙ ap (λ f. c.args.kept.now ++ f ∷ []) c.in_ok-share.ensures in
    let value : c.contains.result ≡ list_any (λ y. ghosts.eq y flow) c.args.kept.now = c.contains.ensures.value ∙ ap (λ l. list_any (λ y. ghosts.eq y flow) l) c.as_slice.ensures in
    let fresh : ¬ Among flow c.args.kept.now = λ m. false≢true (sym c.if-contains.false ∙ value ∙ among_any (λ y. ghosts.eq y flow) flow c.args.kept.now m ((c.exact_flow.ensures flow flow).1 refl)) in
    subst EachOnce (sym pushed) (once_push c.args.kept.now flow once fresh)

pub returns-clause-proper : goal.returns-clause-proper
returns-clause-proper c = λ proper.
    let flow = c.args.flow.now in
    let pushed : c.push.new.self ≡ c.args.kept.now ++ flow ∷ [] = c.in_ok-push.ensures.ok ∙ ap (λ f. c.args.kept.now ++ f ∷ []) c.in_ok-share.ensures in
    λ f m. elim (among_append f c.args.kept.now (flow ∷ []) (subst (λ l. Among f l) pushed m)) [
      | inl a ↦ proper f a
      | inr b ↦ elim (among_cases f flow [] b) [ inl e ↦ subst IsProperFlow (sym e) (c.is_proper.ensures c.if-not-is_proper.false) | inr n ↦ absurd (among_none f n) ]
    ]
