use Rattle.std.proofs.Common.{◌∙◌, List, ℕ, ap, subst, length, arith}
use Rattle.std.proofs.lemmas.Result.{on_ok_weaker}
use Rattle.ovn_base.specs.lists.Among.{Among}
use Rattle.conn_zones.specs.Rezoning.{IsLeastFree}
use Rattle.conn_zones.proofs.giving.give.Goals as goal

pub least_free-requires : goal.least_free-requires
least_free-requires c =
    let same = c.as_slice.ensures ∙ c.in_ok-taken.ensures in
    let long = ap (λ (l : List ℕ). length l) same in
    omega (arith, c.requires, long)

pub returns : goal.returns
returns c =
    let same = c.as_slice.ensures ∙ c.in_ok-taken.ensures in
    let least = subst (λ (l : List ℕ). IsLeastFree (λ m. Among m l) c.in_ok-number.number) same c.in_ok-number.ensures.least in
    on_ok_weaker c.put.result (λ e. record { number = c.in_ok-number.number; least = least; few = c.in_ok-number.ensures.few; put = e }) c.put.ensures
