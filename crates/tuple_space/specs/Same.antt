-- Masks are the same exactly where they test equal.
use Rattle.std.specs.Prelude.{◌≡◌, Bool, true, ◌&&◌, nat_eq, refl}
use Rattle.std.specs.Bool.{Decides, beq}
use Rattle.std.specs.Cmp.{first_so, second_so, booleans_Decides}
use Rattle.std.specs.Cmp.Lexicographic.{pointwise, pointwise_decides}
use Rattle.std.proofs.lemmas.Bool.Decides.{Decides-eqb}
use mathlib.Core.Path.{ap, subst, ◌∙◌}
use Rattle.tuple_space.specs.declared.mask.Asked.{Asked}
use Rattle.tuple_space.specs.declared.mask.Mask.{Mask}
use Rattle.tuple_space.specs.Space.{same_asked, same_mask}

both : (a b : Bool) → a ≡ true → b ≡ true → (a && b) ≡ true
both a b h k = ap (λ (x : Bool). x && b) h ∙ k

asked_exact : (a b : Asked) → same_asked a b ≡ true → a ≡ b
asked_exact a b h =
    let f = (Decides-eqb a.field b.field).0 (first_so (nat_eq a.field b.field) (nat_eq a.bits b.bits) h) in
    let g = (Decides-eqb a.bits b.bits).0 (second_so (nat_eq a.field b.field) (nat_eq a.bits b.bits) h) in
    λ i. record { field = f i; bits = g i }

asked_own : (a : Asked) → same_asked a a ≡ true
asked_own a = both (nat_eq a.field a.field) (nat_eq a.bits a.bits) ((Decides-eqb a.field a.field).1 refl) ((Decides-eqb a.bits a.bits).1 refl)

asked_decides : (a b : Asked) → Decides (same_asked a b) (a ≡ b)
asked_decides a b = (asked_exact a b, λ e. subst (λ x. same_asked a x ≡ true) e (asked_own a))

-- masks are compared exactly
pub mask_exact : (m n : Mask) → same_mask m n ≡ true → m ≡ n
mask_exact m n h =
    let a = (pointwise_decides asked_decides m.asks n.asks).0 (first_so (pointwise same_asked m.asks n.asks) (beq m.entry n.entry) h) in
    let e = (booleans_Decides m.entry n.entry).0 (second_so (pointwise same_asked m.asks n.asks) (beq m.entry n.entry) h) in
    λ i. record { asks = a i; entry = e i }

pub mask_own : (m : Mask) → same_mask m m ≡ true
mask_own m = both (pointwise same_asked m.asks m.asks) (beq m.entry m.entry) ((pointwise_decides asked_decides m.asks m.asks).1 refl) ((booleans_Decides m.entry m.entry).1 refl)

-- the same of one is the same of the other
pub mask_like : {X : Type 0} (f : Mask → X) (m n : Mask) → same_mask m n ≡ true → f m ≡ f n
mask_like f m n h = ap f (mask_exact m n h)
