-- The values that stand somewhere are read there.
use Rattle.std.specs.Prelude.{◌≡◌, ◌≤◌, ◌+◌, ℕ, zero, suc, Bool, true, false, cond, ◌&&◌, ◌==◌, List, [], ◌∷◌, ◌++◌, Option, Some, None, Ok, bit_and}
use Rattle.std.proofs.Common.{refl, ap, ◌∙◌, sym, subst, append_assoc, arith}
use Rattle.std.proofs.lemmas.Bool.{cond-true, cond-false}
use Rattle.std.proofs.lemmas.Bool.Decides.{Decides-eqb}
use mathlib.Core.Bool.{true≢false}
use Rattle.match_language.specs.declared.expr.Expr.TheVariants as ex
use Rattle.match_language.specs.declared.expr.Value.{Value}
use Rattle.match_language.specs.declared.expr.Value.TheVariants as v
use Rattle.match_language.specs.declared.expr.Rel.{Rel}
use Rattle.match_language.specs.declared.field.Field.{Field}
use Rattle.match_language.specs.declared.token.Token.{Token}
use Rattle.match_language.specs.declared.token.Token.TheVariants as t
use Rattle.match_language.specs.Tables.{field_max, is_port_field, is_address}
use Rattle.match_language.specs.Relations.{is_equality}
use Rattle.match_language.specs.Constants.{◌>>=◌ as ◌>?=◌}
use Rattle.match_language.specs.Values.{is_constant_token, constant_of, mask_of, number_of, decimal_of, at_most, prefix_of, dotted_mask, ether_mask}
use Rattle.match_language.specs.Input.{Input, token, next, quoted, left}
use Rattle.match_language.specs.Grammar.{is_slash, IsOne, IsList, IsValues}
use Rattle.match_language.specs.Grammar.IsOne.{unmasked, masked, port, of_group, of_set}
use Rattle.match_language.specs.Grammar.IsList.{last_value, with_comma, without_comma}
use Rattle.match_language.specs.Grammar.IsValues.{one_value, in_braces}
use Rattle.match_language.specs.Reading.{Read, ◌>>=◌, relation, relation_by, masked_value, mask, after_constant, number_by, number, where_taken, one_by, one, closes, past_comma, more_values, several, opens, values, comparison}
use Rattle.match_language.proofs.Shorter.{is_end, next_shorter, next_no_longer}

none_is : {A : Type 0} (x : A) → None ≡ Some x → ⊥
none_is x e = absurd cc

no_number : (b : Bool) (n : ℕ) → cond b None None ≡ Some n → ⊥
no_number true n e = none_is n e
no_number false n e = none_is n e

-- a token with which a value begins
record Starts (k : Token) : Type 0 where
  pub no_open : opens k ≡ false
  pub close : closes k ≡ false
  pub comma : (i : Input) → past_comma k i ≡ i
  pub end : is_end k ≡ false

constant_starts : (f : Field) (k : Token) (n : ℕ) → constant_of f k ≡ Some n → Starts k
constant_starts f (t.Bit b) n e = record { no_open = refl; close = refl; comma = λ i. refl; end = refl }
constant_starts f (t.Number m) n e = record { no_open = refl; close = refl; comma = λ i. refl; end = refl }
constant_starts f (t.Hex m) n e = record { no_open = refl; close = refl; comma = λ i. refl; end = refl }
constant_starts f (t.Dotted m) n e = record { no_open = refl; close = refl; comma = λ i. refl; end = refl }
constant_starts f (t.Ether m) n e = record { no_open = refl; close = refl; comma = λ i. refl; end = refl }
constant_starts f t.BadConstant n e = record { no_open = refl; close = refl; comma = λ i. refl; end = refl }
constant_starts f other n e = absurd (no_number (is_port_field f) n e)

-- a constant is read as one
constant_reads : (f : Field) (r : Rel) (k : Token) (n : ℕ) → constant_of f k ≡ Some n → (i : Input) → one_by f r k i ≡ number f r k i
constant_reads f r (t.Bit b) n e i = refl
constant_reads f r (t.Number m) n e i = refl
constant_reads f r (t.Hex m) n e i = refl
constant_reads f r (t.Dotted m) n e i = refl
constant_reads f r (t.Ether m) n e i = refl
constant_reads f r t.BadConstant n e i = refl
constant_reads f r other n e i = absurd (no_number (is_port_field f) n e)

pub number_constant : (m : Token) (n : ℕ) → number_of m ≡ Some n → is_constant_token m ≡ true
number_constant (t.Bit b) n e = refl
number_constant (t.Number k) n e = refl
number_constant (t.Hex k) n e = refl
number_constant other n e = absurd (none_is n e)

decimal_constant : (m : Token) (n : ℕ) → decimal_of m ≡ Some n → is_constant_token m ≡ true
decimal_constant (t.Bit b) n e = refl
decimal_constant (t.Number k) n e = refl
decimal_constant other n e = absurd (none_is n e)

-- a value that leads on to one
pub some_first : (o : Option ℕ) (g : ℕ → Option ℕ) (n : ℕ) → (o >?= g) ≡ Some n → (m : ℕ) × (o ≡ Some m)
some_first (Some m) g n e = (m, refl)
some_first None g n e = absurd (none_is n e)

dotted_constant : (f : Field) (m : Token) (n : ℕ) → dotted_mask f m ≡ Some n → is_constant_token m ≡ true
dotted_constant f (t.Dotted k) n e = refl
dotted_constant f other n e = let a = some_first (decimal_of other) prefix_of n e in decimal_constant other a.0 a.1

ether_constant : (f : Field) (m : Token) (n : ℕ) → ether_mask f m ≡ Some n → is_constant_token m ≡ true
ether_constant f (t.Ether k) n e = refl
ether_constant f other n e = absurd (none_is n e)

-- a mask is a constant
pub mask_constant : (f : Field) (k m : Token) (n : ℕ) → mask_of f k m ≡ Some n → is_constant_token m ≡ true
mask_constant f (t.Dotted j) m n e = dotted_constant f m n e
mask_constant f (t.Ether j) m n e = ether_constant f m n e
mask_constant f _ m n e = let a = some_first (number_of m) (at_most (field_max f)) n e in number_constant m a.0 a.1

mask_only : (f : Field) (r : Rel) (k : Token) (n place : ℕ) (j : Input) (m : ℕ) → is_equality r ≡ true → mask_of f k (token j) ≡ Some m → bit_and n m ≡ n → mask f r k n place j ≡ Ok (v.Number n m, next j)
unfolding mask
mask_only f r k n place j m eq of within =
    cond-true (is_constant_token (token j)) _ _ (mask_constant f k (token j) m of)
    ∙ cond-true (is_equality r) _ _ eq
    ∙ ap (λ (o : Option ℕ). masked_value n place o j) of
    ∙ cond-true (bit_and n m == n) _ _ ((Decides-eqb (bit_and n m) n).1 within)

after_unmasked : (f : Field) (r : Rel) (k : Token) (n place : ℕ) (m : Token) (j : Input) → is_slash m ≡ false → after_constant f r k n place m j ≡ Ok (v.Number n (field_max f), j)
after_unmasked f r k n place t.Slash j bare = absurd (true≢false bare)
after_unmasked f r k n place _ j bare = refl

number_at : (f : Field) (r : Rel) (n : ℕ) (i : Input) → constant_of f (token i) ≡ Some n → one f r i ≡ after_constant f r (token i) n i.place (token (next i)) (next i)
unfolding one number
number_at f r n i is = constant_reads f r (token i) n is i ∙ ap (λ (o : Option ℕ). number_by f r (token i) o i) is

taken_only : (a b : Bool) (x : Value) (i : Input) → a ≡ true → b ≡ true → where_taken (a && b) x i ≡ Ok (x, next i)
taken_only a b x i e g = ap (λ (c : Bool). where_taken (c && b) x i) e ∙ ap (λ (c : Bool). where_taken c x i) g

pub one_only : (f : Field) (r : Rel) (x : Value) (i j : Input) → IsOne f r x i j → one f r i ≡ Ok (x, j)
unfolding one
one_only _ _ _ _ _ (unmasked f r n i is bare) = number_at f r n i is ∙ after_unmasked f r (token i) n i.place (token (next i)) (next i) bare
one_only _ _ _ _ _ (masked f r n m i eq is slash of within) =
    number_at f r n i is
    ∙ ap (λ (c : Token). after_constant f r (token i) n i.place c (next i)) slash
    ∙ mask_only f r (token i) n i.place (next (next i)) m eq of within
one_only _ _ _ _ _ (port f r i is eq at) = ap (λ (c : Token). one_by f r c i) at ∙ taken_only (is_port_field f) (is_equality r) (v.Port (quoted i)) i is eq
one_only _ _ _ _ _ (of_group f r name i is eq at) = ap (λ (c : Token). one_by f r c i) at ∙ taken_only (is_port_field f) (is_equality r) (v.Group name) i is eq
one_only _ _ _ _ _ (of_set f r name i is eq at) = ap (λ (c : Token). one_by f r c i) at ∙ taken_only (is_address f) (is_equality r) (v.Set name) i is eq

text_starts : Starts t.Text
text_starts = record { no_open = refl; close = refl; comma = λ i. refl; end = refl }

group_starts : (name : List ℕ) → Starts (t.Group name)
group_starts name = record { no_open = refl; close = refl; comma = λ i. refl; end = refl }

set_starts : (name : List ℕ) → Starts (t.Set name)
set_starts name = record { no_open = refl; close = refl; comma = λ i. refl; end = refl }

one_starts : (f : Field) (r : Rel) (x : Value) (i j : Input) → IsOne f r x i j → Starts (token i)
one_starts _ _ _ _ _ (unmasked f r n i is bare) = constant_starts f (token i) n is
one_starts _ _ _ _ _ (masked f r n m i eq is slash of within) = constant_starts f (token i) n is
one_starts _ _ _ _ _ (port f r i is eq at) = subst Starts (sym at) text_starts
one_starts _ _ _ _ _ (of_group f r name i is eq at) = subst Starts (sym at) (group_starts name)
one_starts _ _ _ _ _ (of_set f r name i is eq at) = subst Starts (sym at) (set_starts name)

-- a value takes bytes
pub one_shorter : (f : Field) (r : Rel) (x : Value) (i j : Input) → IsOne f r x i j → left j + 1 ≤ left i
one_shorter _ _ _ _ _ (unmasked f r n i is bare) = next_shorter i (constant_starts f (token i) n is).end
one_shorter _ _ _ _ _ (masked f r n m i eq is slash of within) =
    let a = next_shorter i (constant_starts f (token i) n is).end in
    let b = next_no_longer (next i) in
    let c = next_no_longer (next (next i)) in
    omega (arith, a, b, c)
one_shorter _ _ _ _ _ (port f r i is eq at) = next_shorter i (ap is_end at)
one_shorter _ _ _ _ _ (of_group f r name i is eq at) = next_shorter i (ap is_end at)
one_shorter _ _ _ _ _ (of_set f r name i is eq at) = next_shorter i (ap is_end at)

-- one more value
turn : (f : Field) (r : Rel) (m : ℕ) (acc : List Value) (i0 i j : Input) (x : Value) → closes (token i0) ≡ false → past_comma (token i0) i0 ≡ i → one f r i ≡ Ok (x, j)
    → more_values f r (suc m) acc i0 ≡ more_values f r m (acc ++ x ∷ []) j
unfolding more_values
turn f r m acc i0 i j x close comma e =
    cond-false (closes (token i0)) _ _ close
    ∙ ap (λ (k : Input). one f r k >>= λ y. more_values f r m (acc ++ y.0 ∷ []) y.1) comma
    ∙ ap (λ (y : Read Value). y >>= λ y. more_values f r m (acc ++ y.0 ∷ []) y.1) e

-- no more value
stop : (f : Field) (r : Rel) (m : ℕ) (acc : List Value) (k : Input) → token k ≡ t.CloseBrace → left k ≤ m → more_values f r m acc k ≡ Ok (acc, next k)
unfolding more_values
stop f r zero acc k close fit = let a = next_shorter k (ap is_end close) in absurd (omega (arith, a))
stop f r (suc m) acc k close fit = cond-true (closes (token k)) _ _ (ap closes close)

list_starts : (f : Field) (r : Rel) (xs : List Value) (i j : Input) → IsList f r xs i j → Starts (token i)
list_starts _ _ _ _ _ (last_value f r x i j h) = one_starts f r x i j h
list_starts _ _ _ _ _ (with_comma f r x xs i j k h at hs) = one_starts f r x i j h
list_starts _ _ _ _ _ (without_comma f r x xs i j k h hs) = one_starts f r x i j h

list_only : (f : Field) (r : Rel) (xs : List Value) (i k : Input) → IsList f r xs i k → token k ≡ t.CloseBrace → (acc : List Value) (m : ℕ) (i0 : Input)
    → closes (token i0) ≡ false → past_comma (token i0) i0 ≡ i → left i ≤ left i0 → left i0 ≤ m → more_values f r m acc i0 ≡ Ok (acc ++ xs, next k)
list_only _ _ _ _ _ (last_value f r x i j h) end acc zero i0 close comma le fit = let a = one_shorter f r x i j h in absurd (omega (arith, a))
list_only _ _ _ _ _ (last_value f r x i j h) end acc (suc m) i0 close comma le fit =
    let a = one_shorter f r x i j h in
    turn f r m acc i0 i j x close comma (one_only f r x i j h) ∙ stop f r m (acc ++ x ∷ []) j end (omega (arith, a))
list_only _ _ _ _ _ (with_comma f r x xs i j k h at hs) end acc zero i0 close comma le fit = let a = one_shorter f r x i j h in absurd (omega (arith, a))
list_only _ _ _ _ _ (with_comma f r x xs i j k h at hs) end acc (suc m) i0 close comma le fit =
    let a = one_shorter f r x i j h in
    turn f r m acc i0 i j x close comma (one_only f r x i j h)
    ∙ list_only f r xs (next j) k hs end (acc ++ x ∷ []) m j (ap closes at) (ap (λ (c : Token). past_comma c j) at) (next_no_longer j) (omega (arith, a))
    ∙ ap (λ (ys : List Value). Ok (ys, next k)) (append_assoc acc (x ∷ []) xs)
list_only _ _ _ _ _ (without_comma f r x xs i j k h hs) end acc zero i0 close comma le fit = let a = one_shorter f r x i j h in absurd (omega (arith, a))
list_only _ _ _ _ _ (without_comma f r x xs i j k h hs) end acc (suc m) i0 close comma le fit =
    let a = one_shorter f r x i j h in
    let starts = list_starts f r xs j k hs in
    turn f r m acc i0 i j x close comma (one_only f r x i j h)
    ∙ list_only f r xs j k hs end (acc ++ x ∷ []) m j starts.close (starts.comma j) (omega arith) (omega (arith, a))
    ∙ ap (λ (ys : List Value). Ok (ys, next k)) (append_assoc acc (x ∷ []) xs)

several_only : (f : Field) (r : Rel) (xs : List Value) (i j : Input) → IsList f r xs i j → token j ≡ t.CloseBrace → several f r i ≡ Ok (xs, next j)
unfolding several
several_only _ _ _ _ _ (last_value f r x i j h) end =
    ap (λ (y : Read Value). y >>= λ y. more_values f r (left y.1) (y.0 ∷ []) y.1) (one_only f r x i j h) ∙ stop f r (left j) (x ∷ []) j end (omega arith)
several_only _ _ _ _ _ (with_comma f r x xs i j k h at hs) end =
    ap (λ (y : Read Value). y >>= λ y. more_values f r (left y.1) (y.0 ∷ []) y.1) (one_only f r x i j h)
    ∙ list_only f r xs (next j) k hs end (x ∷ []) (left j) j (ap closes at) (ap (λ (c : Token). past_comma c j) at) (next_no_longer j) (omega arith)
several_only _ _ _ _ _ (without_comma f r x xs i j k h hs) end =
    let starts = list_starts f r xs j k hs in
    ap (λ (y : Read Value). y >>= λ y. more_values f r (left y.1) (y.0 ∷ []) y.1) (one_only f r x i j h)
    ∙ list_only f r xs j k hs end (x ∷ []) (left j) j starts.close (starts.comma j) (omega arith) (omega arith)

pub values_only : (f : Field) (r : Rel) (xs : List Value) (i j : Input) → IsValues f r xs i j → values f r i ≡ Ok (xs, j)
unfolding values
values_only _ _ _ _ _ (one_value f r x i j h) =
    cond-false (opens (token i)) _ _ (one_starts f r x i j h).no_open
    ∙ ap (λ (y : Read Value). y >>= λ y. Ok (y.0 ∷ [], y.1)) (one_only f r x i j h)
values_only _ _ _ _ _ (in_braces f r xs i j eq opened hs close) =
    cond-true (opens (token i)) _ _ (ap opens opened) ∙ cond-true (is_equality r) _ _ eq ∙ several_only f r xs (next i) j hs close

pub comparison_only : (f : Field) (r : Rel) (xs : List Value) (i j : Input) → token i ≡ t.Relation r → IsValues f r xs (next i) j → comparison f i ≡ Ok (ex.Compare f r xs, j)
unfolding comparison relation
comparison_only f r xs i j at h =
    ap (λ (c : Token). relation_by c i >>= λ rel. values f rel.0 rel.1 >>= λ ys. Ok (ex.Compare f rel.0 ys.0, ys.1)) at
    ∙ ap (λ (y : Read (List Value)). y >>= λ ys. Ok (ex.Compare f r ys.0, ys.1)) (values_only f r xs (next i) j h)

list_shorter : (f : Field) (r : Rel) (xs : List Value) (i j : Input) → IsList f r xs i j → left j ≤ left i
list_shorter _ _ _ _ _ (last_value f r x i j h) = let a = one_shorter f r x i j h in omega (arith, a)
list_shorter _ _ _ _ _ (with_comma f r x xs i j k h at hs) = let a = one_shorter f r x i j h in let b = next_no_longer j in let c = list_shorter f r xs (next j) k hs in omega (arith, a, b, c)
list_shorter _ _ _ _ _ (without_comma f r x xs i j k h hs) = let a = one_shorter f r x i j h in let c = list_shorter f r xs j k hs in omega (arith, a, c)

-- the values of a comparison stand no earlier than their begin
pub values_no_longer : (f : Field) (r : Rel) (xs : List Value) (i j : Input) → IsValues f r xs i j → left j ≤ left i
values_no_longer _ _ _ _ _ (one_value f r x i j h) = let a = one_shorter f r x i j h in omega (arith, a)
values_no_longer _ _ _ _ _ (in_braces f r xs i j eq opened hs close) =
    let a = next_no_longer i in
    let b = list_shorter f r xs (next i) j hs in
    let c = next_no_longer j in
    omega (arith, a, b, c)
