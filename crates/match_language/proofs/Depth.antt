-- What a text spells has a text: its values are taken, and it nests no deeper than the grammar allows.
use Rattle.std.specs.Prelude.{◌≡◌, ◌≤◌, ◌<◌, ◌-◌, ◌^◌, ℕ, suc, Bool, true, false, cond, ◌==◌, nat_le, List, [], ◌∷◌, Option, Some, None, Result, Ok, Err, IfOk}
use Rattle.std.proofs.Common.{refl, ap, sym, subst, arith, pow_pos}
use Rattle.std.proofs.lemmas.Bool.{leb-true}
use Rattle.std.proofs.lemmas.Bool.Decides.{Decides-eqb}
use Rattle.match_language.specs.declared.expr.Expr.{Expr}
use Rattle.match_language.specs.declared.expr.Value.{Value}
use Rattle.match_language.specs.declared.expr.Rel.{Rel}
use Rattle.match_language.specs.declared.field.Field.{Field}
use Rattle.match_language.specs.declared.field.Field.TheVariants as f
use Rattle.match_language.specs.declared.field.Direction.{Direction}
use Rattle.match_language.specs.declared.token.Token.{Token}
use Rattle.match_language.specs.declared.token.Token.TheVariants as t
use Rattle.match_language.specs.Tables.{field_bits, field_max, is_port_field}
use Rattle.match_language.specs.Relations.{is_equality}
use Rattle.match_language.specs.Constants.{prefix_mask, ◌>>=◌}
use Rattle.match_language.specs.Values.{constant_of, mask_of, number_of, decimal_of, at_most, prefix_of, dotted_mask, ether_mask}
use Rattle.match_language.specs.Input.{Input, token, next, quoted, skip}
use Rattle.match_language.specs.Grammar.{IsOne, IsList, IsValues, IsTerm, IsExpr, IsJoined, SpellsExpr}
use Rattle.match_language.specs.Grammar.IsOne.{unmasked, masked, port, of_group, of_set}
use Rattle.match_language.specs.Grammar.IsList.{last_value, with_comma, without_comma}
use Rattle.match_language.specs.Grammar.IsValues.{one_value, in_braces}
use Rattle.match_language.specs.Grammar.IsTerm.{constant, predicate, compared, negated, grouped}
use Rattle.match_language.specs.Grammar.IsExpr.{alone, all_of, any_of}
use Rattle.match_language.specs.Grammar.IsJoined.{last_term, before_others}
use Rattle.match_language.specs.Nesting.{TakesValue, TakesEach, TakesAll, Nests, AllNest, FitsLevels}
use Rattle.match_language.specs.Nesting.TakesValue.{takes_number, takes_masked, takes_port, takes_group, takes_set}
use Rattle.match_language.specs.Nesting.TakesEach.{takes_last, takes_more}
use Rattle.match_language.specs.Nesting.TakesAll.{takes_one, takes_several}
use Rattle.match_language.specs.Nesting.Nests.{nests_constant, nests_predicate, nests_compared, nests_negated, nests_all, nests_any}
use Rattle.match_language.specs.Nesting.AllNest.{nests_last, nests_before}
use Rattle.match_language.specs.Nesting.FitsLevels.{fits_one, fits_all, fits_any}
use Rattle.match_language.proofs.TokenLaws.{string_quoteless, set_named, group_named}

none_is : {A : Type 0} (x : A) → None ≡ Some x → ⊥
none_is x e = absurd cc

pub some_is : (x y : ℕ) → Some x ≡ Some y → x ≡ y
some_is x y e = cc

-- a test whose other way gives nothing went this way
pub chosen_some : (b : Bool) (o : Option ℕ) (n : ℕ) → cond b o None ≡ Some n → (b ≡ true) × (o ≡ Some n)
chosen_some true o n e = (refl, e)
chosen_some false o n e = absurd (none_is n e)

-- a test whose first way gives nothing went the other
pub passed_some : (b : Bool) (o : Option ℕ) (n : ℕ) → cond b None o ≡ Some n → (b ≡ false) × (o ≡ Some n)
passed_some false o n e = (refl, e)
passed_some true o n e = absurd (none_is n e)

pub bind_some : (o : Option ℕ) (g : ℕ → Option ℕ) (n : ℕ) → (o >>= g) ≡ Some n → (m : ℕ) × (g m ≡ Some n)
bind_some (Some m) g n e = (m, e)
bind_some None g n e = absurd (none_is n e)

pub at_most_is : (most m n : ℕ) → at_most most m ≡ Some n → n ≤ most
at_most_is most m n e =
    let a = chosen_some (nat_le m most) (Some m) n e in
    subst (λ (k : ℕ). k ≤ most) (some_is m n a.1) (leb-true m most a.0)

wide_no_port : (x : Field) (b : ℕ) → field_bits x ≡ suc b → is_port_field x ≡ false
wide_no_port f.Inport b e = absurd (omega (arith, e))
wide_no_port f.Outport b e = absurd (omega (arith, e))
wide_no_port _ b e = refl

constant_fits : (x : Field) (k : Token) (n : ℕ) → constant_of x k ≡ Some n → (is_port_field x ≡ false) × (n ≤ field_max x)
constant_fits x (t.Dotted m) n e =
    let a = chosen_some (field_bits x == 32) (at_most (field_max x) m) n e in
    (wide_no_port x 31 ((Decides-eqb (field_bits x) 32).0 a.0), at_most_is (field_max x) m n a.1)
constant_fits x (t.Ether m) n e =
    let a = chosen_some (field_bits x == 48) (at_most (field_max x) m) n e in
    (wide_no_port x 47 ((Decides-eqb (field_bits x) 48).0 a.0), at_most_is (field_max x) m n a.1)
constant_fits x other n e =
    let a = passed_some (is_port_field x) (number_of other >>= at_most (field_max x)) n e in
    let b = bind_some (number_of other) (at_most (field_max x)) n a.1 in
    (a.0, at_most_is (field_max x) b.0 n b.1)

prefix_small : (len : ℕ) → prefix_mask len ≤ 4294967295
prefix_small len = let some : 0 < 2 ^ (32 - len) = pow_pos (32 - len) in omega (arith, some)

prefix_fits : (len n : ℕ) → prefix_of len ≡ Some n → n ≤ 4294967295
prefix_fits len n e =
    let a = chosen_some (nat_le len 32) (Some (prefix_mask len)) n e in
    subst (λ (k : ℕ). k ≤ 4294967295) (some_is (prefix_mask len) n a.1) (prefix_small len)

dotted_fits : (x : Field) (m : Token) (n : ℕ) → field_max x ≡ 4294967295 → dotted_mask x m ≡ Some n → n ≤ field_max x
dotted_fits x (t.Dotted k) n same e = at_most_is (field_max x) k n e
dotted_fits x other n same e =
    let a = bind_some (decimal_of other) prefix_of n e in
    subst (λ (k : ℕ). n ≤ k) (sym same) (prefix_fits a.0 n a.1)

ether_fits : (x : Field) (m : Token) (n : ℕ) → ether_mask x m ≡ Some n → n ≤ field_max x
ether_fits x (t.Ether k) n e = at_most_is (field_max x) k n e
ether_fits x other n e = absurd (none_is n e)

mask_fits : (x : Field) (k m : Token) (n o : ℕ) → constant_of x k ≡ Some o → mask_of x k m ≡ Some n → n ≤ field_max x
mask_fits x (t.Dotted j) m n o is e =
    let a = chosen_some (field_bits x == 32) (at_most (field_max x) j) o is in
    dotted_fits x m n (ap (λ (b : ℕ). 2 ^ b - 1) ((Decides-eqb (field_bits x) 32).0 a.0)) e
mask_fits x (t.Ether j) m n o is e = ether_fits x m n e
mask_fits x other m n o is e = let a = bind_some (number_of m) (at_most (field_max x)) n e in at_most_is (field_max x) a.0 n a.1

one_takes : (x : Field) (r : Rel) (y : Value) (i j : Input) → IsOne x r y i j → TakesValue x r y
one_takes _ _ _ _ _ (unmasked x r n i is bare) = let a = constant_fits x (token i) n is in takes_number x r n a.0 a.1
one_takes _ _ _ _ _ (masked x r n m i eq is slash of within) =
    let a = constant_fits x (token i) n is in
    takes_masked x r n m eq a.0 a.1 (mask_fits x (token i) (token (next (next i))) m n is of) within
one_takes _ _ _ _ _ (port x r i is eq at) = takes_port x r (quoted i) is eq (string_quoteless i at)
one_takes _ _ _ _ _ (of_group x r name i is eq at) = takes_group x r name is eq (group_named i name at)
one_takes _ _ _ _ _ (of_set x r name i is eq at) = takes_set x r name is eq (set_named i name at)

list_takes : (x : Field) (r : Rel) (ys : List Value) (i j : Input) → IsList x r ys i j → TakesEach x r ys
list_takes _ _ _ _ _ (last_value x r y i j h) = takes_last x r y (one_takes x r y i j h)
list_takes _ _ _ _ _ (with_comma x r y ys i j k h at hs) = takes_more x r y ys (one_takes x r y i j h) (list_takes x r ys (next j) k hs)
list_takes _ _ _ _ _ (without_comma x r y ys i j k h hs) = takes_more x r y ys (one_takes x r y i j h) (list_takes x r ys j k hs)

braced : (x : Field) (r : Rel) (ys : List Value) → is_equality r ≡ true → TakesEach x r ys → TakesAll x r ys
braced _ _ _ eq (takes_last x r y h) = takes_one x r y h
braced _ _ _ eq (takes_more x r y (z ∷ ys) h hs) = takes_several x r y z ys eq h hs
braced _ _ _ eq (takes_more x r y [] h hs) = takes_one x r y h

values_take : (x : Field) (r : Rel) (ys : List Value) (i j : Input) → IsValues x r ys i j → TakesAll x r ys
values_take _ _ _ _ _ (one_value x r y i j h) = takes_one x r y (one_takes x r y i j h)
values_take _ _ _ _ _ (in_braces x r ys i j eq opened hs close) = braced x r ys eq (list_takes x r ys (next i) j hs)

mutual
  nests_deeper : (way : Direction) (n : ℕ) (x : Expr) → Nests way n x → Nests way (suc n) x
  nests_deeper _ _ _ (nests_constant way n b) = nests_constant way (suc n) b
  nests_deeper _ _ _ (nests_predicate way n p) = nests_predicate way (suc n) p
  nests_deeper _ _ _ (nests_compared way n f r xs stood h) = nests_compared way (suc n) f r xs stood h
  nests_deeper _ _ _ (nests_negated way n x h) = nests_negated way (suc n) x (nests_deeper way n x h)
  nests_deeper _ _ _ (nests_all way n x xs h hs) = nests_all way (suc n) x xs (nests_deeper way n x h) (all_deeper way n xs hs)
  nests_deeper _ _ _ (nests_any way n x xs h hs) = nests_any way (suc n) x xs (nests_deeper way n x h) (all_deeper way n xs hs)

  all_deeper : (way : Direction) (n : ℕ) (xs : List Expr) → AllNest way n xs → AllNest way (suc n) xs
  all_deeper _ _ _ (nests_last way n x h) = nests_last way (suc n) x (nests_deeper way n x h)
  all_deeper _ _ _ (nests_before way n x xs h hs) = nests_before way (suc n) x xs (nests_deeper way n x h) (all_deeper way n xs hs)

-- in parentheses
enclosed : (way : Direction) (n : ℕ) (x : Expr) → FitsLevels way n x → Nests way (suc n) x
enclosed _ _ _ (fits_one way n x h) = nests_deeper way n x h
enclosed _ _ _ (fits_all way n x xs h hs) = nests_all way n x xs h hs
enclosed _ _ _ (fits_any way n x xs h hs) = nests_any way n x xs h hs

mutual
  term_nests : (way : Direction) (n : ℕ) (x : Expr) (i j : Input) → IsTerm way n x i j → Nests way n x
  term_nests _ _ _ _ _ (constant way n b i at) = nests_constant way n b
  term_nests _ _ _ _ _ (predicate way n p i at) = nests_predicate way n p
  term_nests _ _ _ _ _ (compared way n f r xs i j at stood rel val) = nests_compared way n f r xs stood (values_take f r xs (next (next i)) j val)
  term_nests _ _ _ _ _ (negated way n x i j at h) = nests_negated way n x (term_nests way n x (next i) j h)
  term_nests _ _ _ _ _ (grouped way n x i j at h close) = enclosed way n x (expr_fits way n x (next i) j h)

  expr_fits : (way : Direction) (n : ℕ) (x : Expr) (i j : Input) → IsExpr way n x i j → FitsLevels way n x
  expr_fits _ _ _ _ _ (alone way n x i j h) = fits_one way n x (term_nests way n x i j h)
  expr_fits _ _ _ _ _ (all_of way n x xs i j k h at hs) = fits_all way n x xs (term_nests way n x i j h) (joined_nest way n t.And xs (next j) k hs)
  expr_fits _ _ _ _ _ (any_of way n x xs i j k h at hs) = fits_any way n x xs (term_nests way n x i j h) (joined_nest way n t.Or xs (next j) k hs)

  joined_nest : (way : Direction) (n : ℕ) (op : Token) (xs : List Expr) (i j : Input) → IsJoined way n op xs i j → AllNest way n xs
  joined_nest _ _ _ _ _ _ (last_term way n op x i j h) = nests_last way n x (term_nests way n x i j h)
  joined_nest _ _ _ _ _ _ (before_others way n op x xs i j k h at hs) = nests_before way n x xs (term_nests way n x i j h) (joined_nest way n op xs (next j) k hs)

-- what a text spells fits 64 levels
pub spelled_fits : (way : Direction) (text : List ℕ) (x : Expr) → SpellsExpr way text x → FitsLevels way 64 x
spelled_fits way text x h = expr_fits way 64 x (skip 0 text) h.end h.body

-- what spells something fits
pub found_fits : {E : Type 0} (way : Direction) (text : List ℕ) (r : Result Expr E) → IfOk r (λ x. SpellsExpr way text x) → IfOk r (λ x. FitsLevels way 64 x)
found_fits way text (Ok x) h = spelled_fits way text x h
found_fits way text (Err e) h = tt
