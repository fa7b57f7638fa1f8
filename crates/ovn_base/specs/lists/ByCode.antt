-- Equality of values by their codes. A type whose values have codes, one to one, has an equality that answers whether two
-- values are one value.
use Rattle.std.specs.Prelude.{◌≡◌, Bool, true, false, ◌&&◌, Decides, nat_eq, refl}
use mathlib.Core.Path.{sym, ap, subst, ◌∙◌}
use Rattle.std.proofs.lemmas.Bool.{false≢true}
use Rattle.std.proofs.lemmas.Bool.Decides.{same_from_decides, Decides-eqb}
use Rattle.std.specs.Cmp.{IsEquivalence, first_so, second_so}
use base.Stored.{Coded, Gv, gnil, gnum, gcons}

-- whether two codes are the same
gv_eq : Gv → Gv → Bool
gv_eq gnil gnil = true
gv_eq (gnum m) (gnum n) = nat_eq m n
gv_eq (gcons a b) (gcons c d) = gv_eq a c && gv_eq b d
gv_eq a b = false

gv_exact : (a b : Gv) → gv_eq a b ≡ true → a ≡ b
unfolding gv_eq
gv_exact gnil gnil h = refl
gv_exact (gnum m) (gnum n) h = ap gnum ((Decides-eqb m n).0 h)
gv_exact (gcons a b) (gcons c d) h =
    let p = gv_exact a c (first_so (gv_eq a c) (gv_eq b d) h) in
    let q = gv_exact b d (second_so (gv_eq a c) (gv_eq b d) h) in
    λ i. gcons (p i) (q i)
gv_exact gnil (gnum n) h = absurd (false≢true h)
gv_exact gnil (gcons c d) h = absurd (false≢true h)
gv_exact (gnum m) gnil h = absurd (false≢true h)
gv_exact (gnum m) (gcons c d) h = absurd (false≢true h)
gv_exact (gcons a b) gnil h = absurd (false≢true h)
gv_exact (gcons a b) (gnum n) h = absurd (false≢true h)

gv_own : (a : Gv) → gv_eq a a ≡ true
unfolding gv_eq
gv_own gnil = refl
gv_own (gnum n) = (Decides-eqb n n).1 refl
gv_own (gcons a b) = ap (λ (x : Bool). x && gv_eq b b) (gv_own a) ∙ gv_own b

-- whether the codes are the same
pub by_code : {A : Type 0} → Coded A → A → A → Bool
by_code c a b = gv_eq (c.code a) (c.code b)

-- that is, whether the values are
pub by_code_decides : {A : Type 0} (c : Coded A) (a b : A) → Decides (by_code c a b) (a ≡ b)
unfolding by_code
by_code_decides c a b =
    (λ h. c.inj a b (gv_exact (c.code a) (c.code b) h), λ e. subst (λ x. gv_eq (c.code a) (c.code x) ≡ true) e (gv_own (c.code a)))

-- what decides `≡` is an equivalence
pub equiv_from_decides : {A : Type 0} (E : A → A → Bool) → ((a b : A) → Decides (E a b) (a ≡ b)) → IsEquivalence E
equiv_from_decides E d = record {
  refl = λ x. (d x x).1 refl;
  symm = λ x y. same_from_decides (E x y) (E y x) (d x y) (λ h. sym ((d y x).0 h), λ e. (d y x).1 (sym e));
  congr = λ x y z h. ap (λ k. E k z) ((d x y).0 h);
}

-- equality by code is an equivalence
pub by_code_equiv : {A : Type 0} (c : Coded A) → IsEquivalence (by_code c)
by_code_equiv c = equiv_from_decides (by_code c) (by_code_decides c)
