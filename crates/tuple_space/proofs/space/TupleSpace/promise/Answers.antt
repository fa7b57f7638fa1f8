use Rattle.std.proofs.Common.{◌≡◌, ◌+◌, ℕ, List, cond, nat_eq, ap, ◌∙◌}
use Rattle.std.specs.Cmp.Lexicographic.{pointwise}
use Rattle.indexmap.proofs.MapLemmas.{OnOk-map}
use Rattle.tuple_space.specs.Bunches.{promised_under}
use Rattle.tuple_space.specs.Space.{key_in}
use Rattle.tuple_space.proofs.space.TupleSpace.promise.Goals as goal

pub returns-clause-promised : goal.returns-clause-promised
returns-clause-promised c =
    let ms = c.self.inside.masks in
    let is : c.as_slice.result.now ≡ key_in ms c.args.flow.now = c.as_slice.ensures.value ∙ c.write_key.ensures.key in
    OnOk-map c.promise.result ((k : List ℕ) → promised_under c.promise.new.self k ≡ promised_under c.self.inside.buckets k + cond (pointwise nat_eq c.as_slice.result.now k) 1 0)
    ((k : List ℕ) → promised_under c.promise.new.self k ≡ promised_under c.args.self.now.bunches k + cond (pointwise nat_eq (key_in c.args.self.now.masks c.args.flow.now) k) 1 0)
    (λ h k. h k ∙ (λ i. promised_under (c.self.view_is i).bunches k + cond (pointwise nat_eq (is i) k) 1 0) ∙ ap (λ v. promised_under c.args.self.now.bunches k + cond (pointwise nat_eq (key_in v.masks c.args.flow.now) k) 1 0) c.self.view_is)
    c.promise.ensures.promised
