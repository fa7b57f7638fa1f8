-- What the grammar lets stand is suited.
use Rattle.std.specs.Prelude.{◌≡◌, ◌≤◌, ◌<◌, ℕ, ◌^◌, Bool, true, false, not, ◌&&◌, nat_lt, List, ◌∷◌, map}
use Rattle.std.specs.List.{list_all}
use Rattle.std.proofs.Common.{refl, sym, ap, ◌∙◌, subst, arith}
use Rattle.std.proofs.lemmas.Bool.{and_from, lt-ltb}
use Rattle.std.proofs.lemmas.Nat.{pow_pos}
use Rattle.match_language.specs.declared.expr.Expr.{Expr}
use Rattle.match_language.specs.declared.expr.Rel.{Rel}
use Rattle.match_language.specs.declared.expr.Value.{Value}
use Rattle.match_language.specs.declared.expr.Value.TheVariants as v
use Rattle.match_language.specs.declared.field.Direction.{Direction}
use Rattle.match_language.specs.declared.field.Field.{Field}
use Rattle.match_language.specs.declared.field.Field.TheVariants as f
use Rattle.match_language.specs.declared.field.Predicate.{Predicate}
use Rattle.match_language.specs.declared.field.Predicate.TheVariants as p
use Rattle.match_language.specs.Tables.{field_bits, field_max, is_port_field}
use Rattle.match_language.specs.Nesting.{TakesValue, TakesEach, TakesAll, Nests, AllNest, FitsLevels}
use Rattle.match_language.specs.Nesting.TakesValue.{takes_number, takes_masked, takes_port, takes_group, takes_set}
use Rattle.match_language.specs.Nesting.TakesEach.{takes_last, takes_more}
use Rattle.match_language.specs.Nesting.TakesAll.{takes_one, takes_several}
use Rattle.match_language.specs.Nesting.Nests.{nests_constant, nests_predicate, nests_compared, nests_negated, nests_all, nests_any}
use Rattle.match_language.specs.Nesting.AllNest.{nests_last, nests_before}
use Rattle.match_language.specs.Nesting.FitsLevels.{fits_one, fits_all, fits_any}
use Rattle.match_cubes.specs.Asked.{bit_width}
use Rattle.match_cubes.specs.Inwards.{Meaning, turn, joins, predicate, meaning, each_compare, are_all}
use Rattle.match_cubes.specs.Suited.{suits, are_suited}
use Rattle.match_cubes.proofs.Cases.{meaning_const, meaning_is, meaning_not, meaning_all, meaning_any, meaning_compare}

-- ---- values

number_bits : (g : Field) → is_port_field g ≡ false → bit_width g ≡ field_bits g
number_bits f.Inport h = absurd cc
number_bits f.Outport h = absurd cc
number_bits _ h = refl

within_width : (g : Field) (n : ℕ) → is_port_field g ≡ false → n ≤ field_max g → nat_lt n (2 ^ bit_width g) ≡ true
within_width g n h below =
    lt-ltb n (2 ^ bit_width g) (subst (λ (w : ℕ). n < 2 ^ w) (sym (number_bits g h)) (omega (arith, pow_pos (field_bits g))))

suits_number : (g : Field) (n m : ℕ) → is_port_field g ≡ false → n ≤ field_max g → m ≤ field_max g → suits g (v.Number n m) ≡ true
suits_number g n m h a b =
    and_from (not (is_port_field g)) (nat_lt n (2 ^ bit_width g) && nat_lt m (2 ^ bit_width g)) (ap not h) (and_from (nat_lt n (2 ^ bit_width g)) (nat_lt m (2 ^ bit_width g)) (within_width g n h a) (within_width g m h b))

suits_taken : (g : Field) (rel : Rel) (x : Value) → TakesValue g rel x → suits g x ≡ true
suits_taken _ _ _ (takes_number g rel n h below) = suits_number g n (field_max g) h below (omega arith)
suits_taken _ _ _ (takes_masked g rel n m e h below mask inside) = suits_number g n m h below mask
suits_taken _ _ _ (takes_port g rel text h e q) = h
suits_taken _ _ _ (takes_group g rel name h e q) = h
suits_taken _ _ _ (takes_set g rel name h e q) = refl

each_taken : (g : Field) (rel : Rel) (xs : List Value) → TakesEach g rel xs → list_all (suits g) xs ≡ true
each_taken _ _ _ (takes_last g rel x t) = and_from (suits g x) true (suits_taken g rel x t) refl
each_taken _ _ _ (takes_more g rel x xs t ts) = and_from (suits g x) (list_all (suits g) xs) (suits_taken g rel x t) (each_taken g rel xs ts)

all_taken : (g : Field) (rel : Rel) (xs : List Value) → TakesAll g rel xs → list_all (suits g) xs ≡ true
all_taken _ _ _ (takes_one g rel x t) = and_from (suits g x) true (suits_taken g rel x t) refl
all_taken _ _ _ (takes_several g rel x y xs e t ts) = and_from (suits g x) (list_all (suits g) (y ∷ xs)) (suits_taken g rel x t) (each_taken g rel (y ∷ xs) ts)

-- ---- expressions

abbrev pub ok : Meaning Bool
ok = each_compare (λ g rel xs. list_all (suits g) xs)

joins_ok : (is_every : Bool) (bs : List Bool) → list_all (λ b. b) bs ≡ true → joins ok is_every bs ≡ true
joins_ok true bs h = h
joins_ok false bs h = h

pub predicate_ok : (q : Predicate) (positive : Bool) → predicate ok q positive ≡ true
predicate_ok p.Ip4 true = refl
predicate_ok p.Ip4 false = refl
predicate_ok _ true = refl
predicate_ok _ false = refl

mutual
  nested : (way : Direction) (n : ℕ) (x : Expr) → Nests way n x → (positive : Bool) → meaning ok x positive ≡ true
  nested _ _ _ (nests_constant way n b) positive = meaning_const ok positive b
  nested _ _ _ (nests_predicate way n q) positive = meaning_is ok positive q ∙ predicate_ok q positive
  nested _ _ _ (nests_compared way n g rel xs s t) positive = meaning_compare ok positive g rel xs ∙ all_taken g rel xs t
  nested _ _ _ (nests_negated way n x h) positive = meaning_not ok positive x ∙ nested way n x h (not positive)
  nested _ _ _ (nests_all way n x xs h hs) positive =
      meaning_all ok positive (x ∷ xs)
      ∙ joins_ok (turn positive true) (map (λ (e : Expr). meaning ok e positive) (x ∷ xs)) (and_from (meaning ok x positive) (list_all (λ b. b) (map (λ (e : Expr). meaning ok e positive) xs)) (nested way n x h positive) (all_nested way n xs hs positive))
  nested _ _ _ (nests_any way n x xs h hs) positive =
      meaning_any ok positive (x ∷ xs)
      ∙ joins_ok (turn positive false) (map (λ (e : Expr). meaning ok e positive) (x ∷ xs)) (and_from (meaning ok x positive) (list_all (λ b. b) (map (λ (e : Expr). meaning ok e positive) xs)) (nested way n x h positive) (all_nested way n xs hs positive))

  all_nested : (way : Direction) (n : ℕ) (xs : List Expr) → AllNest way n xs → (positive : Bool) → list_all (λ b. b) (map (λ e. meaning ok e positive) xs) ≡ true
  all_nested _ _ _ (nests_last way n x h) positive = and_from (meaning ok x positive) true (nested way n x h positive) refl
  all_nested _ _ _ (nests_before way n x xs h hs) positive = and_from (meaning ok x positive) (list_all (λ b. b) (map (λ (e : Expr). meaning ok e positive) xs)) (nested way n x h positive) (all_nested way n xs hs positive)

pub fits_suited : (way : Direction) (n : ℕ) (x : Expr) → FitsLevels way n x → are_suited x true ≡ true
unfolding are_all
fits_suited _ _ _ (fits_one way n x h) = nested way n x h true
fits_suited _ _ _ (fits_all way n x xs h hs) = meaning_all ok true (x ∷ xs) ∙ and_from (meaning ok x true) (list_all (λ b. b) (map (λ (e : Expr). meaning ok e true) xs)) (nested way n x h true) (all_nested way n xs hs true)
fits_suited _ _ _ (fits_any way n x xs h hs) = meaning_any ok true (x ∷ xs) ∙ and_from (meaning ok x true) (list_all (λ b. b) (map (λ (e : Expr). meaning ok e true) xs)) (nested way n x h true) (all_nested way n xs hs true)
