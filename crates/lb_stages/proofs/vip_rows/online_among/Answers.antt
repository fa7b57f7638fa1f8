use Rattle.std.proofs.Common.{◌≡◌, ◌+◌, ◌∷◌, ◌++◌, Bool, List, filter, drop, slice_index_or, sym, ap, ◌∙◌}
use Rattle.std.proofs.lemmas.List.{drop_more}
use Rattle.ovn_base.specs.declared.address.Backend.{Backend}
use Rattle.nb_records.specs.Network.{is_online}
use Rattle.lb_stages.proofs.Kept.{kept, left_out}
use Rattle.lb_stages.proofs.vip_rows.online_among.Goals as goal
use Rattle.lb_stages.proofs.vip_rows.online_among.Goals.{then-is_online+in_ok-push, else-is_online}

pub backends-preserved : goal.backends-preserved
backends-preserved c =
    let test : Backend → Bool = is_online c.args.records.now c.args.balancer.now in
    let none : Backend = record { ip = record { 0 = 0 }; port = 0 } in
    let backend : Backend = slice_index_or c.args.backends.now c.backends.backend-index none in
    let rest : List Backend = drop (c.backends.backend-index + 1) c.args.backends.now in
    let left : drop c.backends.backend-index c.args.backends.now ≡ backend ∷ rest = drop_more c.args.backends.now c.backends.backend-index none c.backends-test.true in
    let before = ap (λ (bs : List Backend). c.backends.online ++ filter test bs) (sym left) ∙ c.backends.invariant in
    elim c.if-is_online.branch [
      | then-is_online+in_ok-push w ↦
          ap (λ (bs : List Backend). bs ++ filter test rest) (w.online-is ∙ w.in_ok-push.ensures.ok)
          ∙ kept test c.backends.online backend rest (sym c.is_online.ensures ∙ w.if-is_online.true)
          ∙ before
      | else-is_online w ↦
          ap (λ (bs : List Backend). bs ++ filter test rest) w.online-is
          ∙ left_out test c.backends.online backend rest (sym c.is_online.ensures ∙ w.if-is_online.false)
          ∙ before
    ]
