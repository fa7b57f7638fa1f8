-- Laws of changes by flows one after the other.
use Rattle.std.specs.Prelude.{◌≡◌, ◌<◌, ◌≤◌, ◌↔◌, ◌+◌, ℕ, Bool, cond, List, [], ◌∷◌, ◌++◌, length, nat_eq, refl}
use mathlib.Core.Path.{sym, ap, subst}
use mathlib.Core.Logic.{inl, inr}
use native.Mathlib.Omega.{arith}
use Rattle.std.specs.Cmp.Lexicographic.{pointwise}
use Rattle.ovn_base.specs.lists.Among.{Among, here}
use Rattle.ovn_base.proofs.AmongLaws.{among_append, among_cases, among_none, among_left, among_right}
use Rattle.flow_table.specs.declared.flow.Flow.{Flow}
use Rattle.tuple_space.specs.declared.mask.Mask.{Mask}
use Rattle.tuple_space.specs.Space.{key_in, count_under}
use Rattle.tuple_space.proofs.BunchLaws.{key_own}

-- one flow more is counted
pub count_push : (ms : List Mask) (k : List ℕ) (fs : List Flow) (f : Flow) → count_under ms k (fs ++ f ∷ []) ≡ count_under ms k fs + cond (pointwise nat_eq (key_in ms f) k) 1 0
count_push ms k [] f = omega arith
count_push ms k (g ∷ fs) f =
    let ih = count_push ms k fs f in
    omega (arith, ih)

-- the first flow is counted at its own key
pub count_first : (ms : List Mask) (f : Flow) (fs : List Flow) (n : ℕ) → count_under ms (key_in ms f) (f ∷ fs) ≤ n → 0 < n
count_first ms f fs n h =
    let one : ◌≡◌ {A = ℕ} (cond (pointwise nat_eq (key_in ms f) (key_in ms f)) 1 0) 1 = ap {B = ℕ} (λ (b : Bool). cond b 1 0) (key_own (key_in ms f)) in
    omega (arith, h, one)

-- one flow more is out
pub kept_more : (old mid new gone : List Flow) (x f : Flow) → (Among f mid ↔ (Among f old × ¬ Among f gone)) → (Among f new ↔ (Among f mid × ¬ (f ≡ x))) → Among f new ↔ (Among f old × ¬ Among f (gone ++ x ∷ []))
kept_more old mid new gone x f a b = (
  λ m.
      let p = b.0 m in
      let q = a.0 p.0 in
      (q.0, λ n. elim (among_append f gone (x ∷ []) n) [ inl g ↦ q.1 g | inr l ↦ elim (among_cases f x [] l) [ inl e ↦ p.1 e | inr z ↦ among_none f z ] ]),
  λ p. b.1 (a.1 (p.0, λ g. p.1 (among_left f gone (x ∷ []) g)), λ e. p.1 (among_right f gone (x ∷ []) (subst (λ y. Among y (x ∷ [])) (sym e) here))),
)

pub nothing_left : {X : Type 0} (xs : List X) → length xs ≡ 0 → xs ≡ []
nothing_left [] h = refl
nothing_left (x ∷ xs) h = absurd (omega (arith, h))
