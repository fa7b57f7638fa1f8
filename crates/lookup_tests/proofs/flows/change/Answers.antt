use Rattle.std.proofs.Common.{◌++◌, ◌∷◌, [], sym, ap, subst, ◌∙◌}
use Rattle.ovn_base.specs.lists.Among.{Among, here}
use Rattle.ovn_base.proofs.AmongLaws.{among_right}
use Rattle.flow_table.proofs.ChangeLaws.{delta_of_any}
use Rattle.lookup_tests.proofs.flows.change.Goals as goal

pub prepare-requires : goal.prepare-requires
prepare-requires g c =
    let named : Among c.args.comes (c.args.goes ++ c.args.comes ∷ []) = among_right c.args.comes c.args.goes (c.args.comes ∷ []) here in
    delta_of_any _ _ c.args.comes (c.in_ok-push-2.ensures.ok ∙ ap (λ l. l ++ c.args.comes ∷ []) c.new-added.ensures) (subst (λ l. Among c.args.comes l) (sym (c.in_ok-push.ensures.ok ∙ ap (λ f. c.args.goes ++ f ∷ []) c.in_ok-share.ensures)) named)
