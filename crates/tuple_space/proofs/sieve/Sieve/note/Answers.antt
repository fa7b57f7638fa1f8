use Rattle.std.proofs.Common.{◌≡◌, ◌<◌, ◌*◌, ◌%◌, ◌^◌, Some, length, slice_get, arith, refl, sym, subst, ap, ◌∙◌}
use mathlib.Core.Logic.{inl, inr}
use Rattle.std.specs.Int.{w128}
use Rattle.std.proofs.lemmas.Bool.{cases_eq}
use Rattle.std.proofs.lemmas.Nat.Bits.{bit_at_set_same}
use Rattle.std.proofs.lemmas.Option.{same_Some, slice_get-get_or, slice_get_within}
use Rattle.tuple_space.specs.declared.mask.Asked.{Asked}
use Rattle.tuple_space.specs.Sieving.{HasBit, IsLet, IsLetAt}
use Rattle.tuple_space.proofs.SieveLaws.{bit_left}
use Rattle.tuple_space.proofs.sieve.Sieve.note.Goals as goal

pub loop-i-init : goal.loop-i-init
loop-i-init c =
    let small : c.bit_for-bit.result < 128 = omega (arith, c.bit_for-bit.ensures) in
    record {
      asks = refl;
      seen = bit_at_set_same w128 c.args.self.now.seen c.bit_for-bit.result small;
      kept = λ xs b h. record { seen = bit_left c.args.self.now.seen (1 * 2 ^ c.bit_for-bit.result % 2 ^ 128) b h.seen; at_each = h.at_each };
      noted = λ j a l. absurd (omega (arith, l));
    }

pub loop-i-preserved : goal.loop-i-preserved
loop-i-preserved c =
    let i = c.loop-i.i in
    let asks = c.loop-i.self.asks.items in
    let within : i < length asks = let same = ap length c.loop-i.invariant.asks in omega (arith, same, c.len-i-end.ensures, c.loop-i-test.true) in
    let here : slice_get asks i ≡ Some c.index.result.now = slice_get-get_or asks i c.index.result.now within ∙ ap (λ (a : Asked). Some a) (sym c.index.ensures) in
    record {
      asks = c.note_at.ensures.asks ∙ c.loop-i.invariant.asks;
      seen = subst (λ n. HasBit n c.bit_for-bit.result) (sym c.note_at.ensures.seen) c.loop-i.invariant.seen;
      kept = λ xs b h.
          let k = c.loop-i.invariant.kept xs b h in
          record {
            seen = subst (λ n. HasBit n b) (sym c.note_at.ensures.seen) k.seen;
            at_each = λ j a at. c.note_at.ensures.kept j a xs b (k.at_each j a (subst (λ l. slice_get l j ≡ Some a) c.note_at.ensures.asks at));
          };
      noted = λ j a l at xs fit.
          let was : slice_get asks j ≡ Some a = subst (λ l. slice_get l j ≡ Some a) c.note_at.ensures.asks at in
          elim (cases_eq j i) [
            | inl e ↦
                let same : c.index.result.now ≡ a = same_Some c.index.result.now a (sym here ∙ ap (λ k. slice_get asks k) (sym e) ∙ was) in
                subst (λ k. IsLetAt c.note_at.new.self k a xs c.bit_for-bit.result) (sym e) (subst (λ x. IsLetAt c.note_at.new.self i x xs c.bit_for-bit.result) same (c.note_at.ensures.noted xs fit))
            | inr n ↦ c.note_at.ensures.kept j a xs c.bit_for-bit.result (c.loop-i.invariant.noted j a (let lower : j < i = omega (arith, l, n) in lower) was xs fit)
          ];
    }

pub returns-clause-noted : goal.returns-clause-noted
returns-clause-noted c = λ xs fit.
    let all = c.loop-i.invariant in
    let same = ap length all.asks in
    subst (λ b. IsLet c.loop-i.self xs b) c.bit_for-bit.ensures
    (record { seen = all.seen; at_each = λ j a at. let within = slice_get_within c.loop-i.self.asks.items j a at in all.noted j a (let passed : j < c.loop-i.i = omega (arith, within, same, c.len-i-end.ensures, c.loop-i-test.false) in passed) at xs fit })
