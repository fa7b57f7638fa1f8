-- Laws of marks, and of what sieves let through.
use Rattle.std.specs.Prelude.{◌≡◌, ◌<◌, ℕ, zero, suc, Bool, true, false, cond, List, [], ◌∷◌, Option, Some, is_some, IfSome, Result, Ok, Err, OnOk, OnErr, length, nat_eq, bit_and, bit_or, slice_get, refl}
use Rattle.std.proofs.Common.{get_or, set}
use mathlib.Core.Path.{sym, ap, subst, ◌∙◌}
use mathlib.Core.Logic.{inl, inr}
use native.Mathlib.Omega.{arith}
use Rattle.std.specs.Map.{lookup, set_value}
use Rattle.std.proofs.lemmas.Bool.{cases_eq}
use Rattle.std.proofs.lemmas.List.{get_or-set_same, get_or-set_other, length-set}
use Rattle.std.proofs.lemmas.Nat.Bits.{bit_at_and, bit_at_or, bit_at-lt}
use Rattle.std.proofs.lemmas.Option.{none-some, same_Some}
use Rattle.ovn_base.proofs.Exact.{nat_exact}
use Rattle.ovn_base.specs.lists.Among.{Among}
use Rattle.inet_packet.specs.declared.cube.Bits.{Bits}
use Rattle.flow_table.specs.declared.flow.Flow.{Flow}
use Rattle.tuple_space.specs.declared.mask.Mask.{Mask}
use Rattle.tuple_space.specs.declared.sieve.Sieve.{Sieve}
use Rattle.tuple_space.specs.Masks.{AllFit, cube_bits, cube_mask}
use Rattle.tuple_space.specs.Bunches.{Bunch, flows_in, flows_under}
use Rattle.tuple_space.specs.Sieving.{HasBit, IsMarked, IsLet, IsLetIn, IsLetWhole, bit_of}
use Rattle.tuple_space.specs.Space.{mask_number, IsLetThrough, AreLetThrough}
use Rattle.tuple_space.proofs.BunchLaws.{under_in}
use Rattle.tuple_space.proofs.MapLaws.{at_write, everywhere}
use Rattle.tuple_space.proofs.TableLaws.{nat_own}

-- a bit stays where others come, and is in two words together where it is in both
pub bit_left : (a b i : ℕ) → HasBit a i → HasBit (bit_or a b) i
bit_left a b i h = let e = bit_at_or a b i in let l = bit_at-lt b i in omega (arith, e, l, h)

pub bit_right : (a b i : ℕ) → HasBit b i → HasBit (bit_or a b) i
bit_right a b i h = let e = bit_at_or a b i in let l = bit_at-lt a i in omega (arith, e, l, h)

pub bit_both : (a b i : ℕ) → HasBit a i → HasBit b i → HasBit (bit_and a b) i
bit_both a b i g h = let e = bit_at_and a b i in omega (arith, e, g, h)

-- where a word gains bits
pub marked_kept : (words : List ℕ) (place v p b : ℕ) → place < length words → (HasBit (get_or words place 0) b → HasBit v b) → IsMarked words p b → IsMarked (set words place v) p b
marked_kept words place v p b l more h within =
    let inside : p < length words = subst (λ n. p < n) (length-set words place v) within in
    elim (cases_eq p place) [
      | inl e ↦ subst (λ q. HasBit (get_or (set words place v) q 0) b) (sym e) (subst (λ n. HasBit n b) (sym (get_or-set_same words place v 0 l)) (more (subst (λ q. HasBit (get_or words q 0) b) e (h inside))))
      | inr n ↦ subst (λ m. HasBit m b) (sym (get_or-set_other words place p v 0 n)) (h inside)
    ]

pub marked_there : (words : List ℕ) (place v b : ℕ) → place < length words → HasBit v b → IsMarked (set words place v) place b
marked_there words place v b l h within = subst (λ n. HasBit n b) (sym (get_or-set_same words place v 0 l)) h

-- where all fields fit, each does
pub fit_at : (bs : List Bits) (xs : List ℕ) (i : ℕ) (b : Bits) → AllFit bs xs → slice_get bs i ≡ Some b → bit_and (get_or xs i 0) b.mask ≡ b.value
fit_at [] xs i b h at = absurd (none-some b at)
fit_at (c ∷ bs) [] i b h at = absurd h
fit_at (c ∷ bs) (x ∷ xs) zero b h at = subst (λ (d : Bits). bit_and x d.mask ≡ d.value) (same_Some c b at) h.0
fit_at (c ∷ bs) (x ∷ xs) (suc i) b h at = fit_at bs xs i b h.1 at

-- the sieves after a change of one table's
abbrev pub IsSifted : ℕ → Sieve → List (ℕ × Sieve) → List (ℕ × Sieve) → Type 0
IsSifted table w old new = (k : ℕ) → lookup (nat_eq k) new ≡ cond (nat_eq table k) (Some w) (lookup (nat_eq k) old)

module _ (table : ℕ) (w : Sieve) (old new : List (ℕ × Sieve)) (at : IsSifted table w old new) where
  pub let_there : (xs : List ℕ) (b : ℕ) → IsLet w xs b → IsLetIn new table xs b
  let_there xs b h = subst (λ (o : Option Sieve). IfSome o (λ s. IsLet s xs b)) (sym (at table ∙ ap (λ (c : Bool). cond c (Some w) (lookup (nat_eq table) old)) (nat_own table))) h

  pub let_kept : ((xs : List ℕ) (b : ℕ) → IsLetIn old table xs b → IsLet w xs b) → (k : ℕ) (xs : List ℕ) (b : ℕ) → IsLetIn old k xs b → IsLetIn new k xs b
  let_kept one = everywhere nat_eq nat_exact nat_own (λ k o n. (xs : List ℕ) (b : ℕ) → IfSome o (λ (s : Sieve). IsLet s xs b) → IfSome n (λ (s : Sieve). IsLet s xs b)) table old new w at one (λ k e xs b h. h)

-- a table's new sieve, that lets all its flows through
pub set_through : {X E : Type 0} (r : Result X E) (masks : List Mask) (sieves after : List (ℕ × Sieve)) (bunches : List (List ℕ × Bunch)) (table : ℕ) (w : Sieve) → OnOk r (IsSifted table w sieves after) → OnErr r (after ≡ sieves) → AreLetThrough masks sieves bunches
    → ((f : Flow) → Among f (flows_in bunches) → f.table ≡ table → IsLetWhole w (cube_bits f.cube) (bit_of (mask_number masks (cube_mask f.cube)))) → AreLetThrough masks after bunches
set_through (Err e) masks sieves after bunches table w ok err lets all = subst (λ s. AreLetThrough masks s bunches) (sym err) lets
set_through (Ok u) masks sieves after bunches table w ok err lets all = λ key f m. by key f m (nat_eq table f.table) refl
  where
    by : (key : List ℕ) (f : Flow) → Among f (flows_under bunches key) → (b : Bool) → nat_eq table f.table ≡ b → IsLetThrough masks after f
    by key f m true e = λ xs fit. let is : table ≡ f.table = nat_exact table f.table e in subst (λ t. IsLetIn after t xs (bit_of (mask_number masks (cube_mask f.cube)))) is (let_there table w sieves after ok xs (bit_of (mask_number masks (cube_mask f.cube))) (all f (under_in bunches key f m) (sym is) xs fit))
    by key f m false e = λ xs fit. subst (λ (o : Option Sieve). IfSome o (λ s. IsLet s xs (bit_of (mask_number masks (cube_mask f.cube))))) (sym (ok f.table ∙ ap (λ (c : Bool). cond c (Some w) (lookup (nat_eq f.table) sieves)) e)) (lets key f m xs fit)

pub sifted_write : (table : ℕ) (es after : List (ℕ × Sieve)) (s w : Sieve) → lookup (nat_eq table) es ≡ Some s → after ≡ set_value (nat_eq table) es w → IsSifted table w es after
sifted_write table es after s w at is k = ap (λ l. lookup (nat_eq k) l) is ∙ at_write nat_eq nat_exact nat_own table es w k (ap (λ o. is_some o) at)
