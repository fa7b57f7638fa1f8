use Rattle.std.proofs.Common.{◌≡◌, sym, subst, ap, ◌∙◌}
use mathlib.Core.Logic.{inl, inr}
use Rattle.tuple_space.specs.Sieving.{IsMarked, asked_value, row_place}
use Rattle.tuple_space.proofs.SieveLaws.{bit_left, bit_right}
use Rattle.tuple_space.proofs.sieve.Sieve.word.Goals as goal

pub returns : goal.returns
returns c = λ bit l h.
    let row : c.place-row.result ≡ row_place c.args.i c.args.self.now.many (asked_value c.args.asked.now c.args.values.now) = c.place-row.ensures ∙ ap (λ v. row_place c.args.i c.args.self.now.many v) c.value_at.ensures in
    elim h [
      | inl a ↦ bit_left c.word_at.result c.word_at-2.result bit (c.word_at.ensures bit l (subst (λ ws. IsMarked ws c.args.i bit) (sym c.as_slice.ensures.value) a))
      | inr b ↦ bit_right c.word_at.result c.word_at-2.result bit (c.word_at-2.ensures bit l (subst (λ ws. IsMarked ws c.place-row.result bit) (sym c.as_slice-2.ensures.value) (subst (λ p. IsMarked c.args.self.now.rows.items p bit) (sym row) b)))
    ]
