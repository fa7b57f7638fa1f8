use Rattle.std.proofs.Common.{◌≡◌, ◌≤◌, ◌+◌, ◌++◌, length, drop, arith, sym, subst, ap, ◌∙◌}
use mathlib.Core.Logic.{inl, inr}
use Rattle.std.proofs.lemmas.List.{drop_all}
use Rattle.std.specs.Option.{option_map}
use Rattle.std.specs.Map.Iter.{deref_pair}
use Rattle.ovn_base.specs.lists.Among.{Among}
use Rattle.ovn_base.proofs.AmongLaws.{among_append, among_none}
use Rattle.tuple_space.specs.Masks.{cube_mask}
use Rattle.tuple_space.specs.Bunches.{flows_in}
use Rattle.tuple_space.specs.Sieving.{bit_of}
use Rattle.tuple_space.specs.Space.{mask_number}
use Rattle.tuple_space.proofs.BunchLaws.{get_in_step}
use Rattle.tuple_space.proofs.buckets.Buckets.note_all.Goals as goal

pub loop-i-preserved : goal.loop-i-preserved
loop-i-preserved c = λ f m e.
    let es = c.self.inside.places.entries in
    let b = c.in-Some.bucket.now in
    let k = c.in-Some.field-0-0.now in
    let i = c.loop-i.i in
    let step : flows_in (drop i c.args.self.now) ≡ b.flows ++ flows_in (drop (i + 1) c.args.self.now) = subst (λ v. flows_in (drop i v) ≡ b.flows ++ flows_in (drop (i + 1) v)) c.self.view_is (get_in_step es i (k, b) (sym c.get_index.ensures.entry ∙ ap (option_map deref_pair) c.in-Some.is)) in
    elim (c.loop-i.invariant f m e) [
      | inl a ↦ elim (among_append f b.flows (flows_in (drop (i + 1) c.args.self.now)) (subst (λ l. Among f l) step a)) [ inl x ↦ inr (c.note_all.ensures.noted f x e) | inr y ↦ inl y ]
      | inr n ↦ inr (λ xs fit. c.note_all.ensures.kept xs (bit_of (mask_number c.args.masks.now (cube_mask f.cube))) (n xs fit))
    ]

pub returns : goal.returns
returns c = λ f m e.
    let i = c.loop-i.i in
    let many : length c.args.self.now ≤ i = subst (λ v. length v ≤ i) c.self.view_is (omega (arith, c.len-i-end.ensures.len, c.loop-i-test.false)) in
    elim (c.loop-i.invariant f m e) [
      | inl a ↦ absurd (among_none f (subst (λ l. Among f l) (ap (λ l. flows_in l) (drop_all i c.args.self.now many)) a))
      | inr n ↦ n
    ]
