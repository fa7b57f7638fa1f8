-- The values that are read stand where they are read.
use Rattle.std.specs.Prelude.{◌≡◌, ℕ, zero, suc, Bool, true, cond, ◌&&◌, ◌==◌, List, [], ◌∷◌, ◌++◌, Option, Some, None, Ok, Err, bit_and}
use Rattle.std.specs.Cmp.{first_so, second_so}
use Rattle.std.proofs.Common.{refl, ap, ◌∙◌, sym, subst, inl, inr, append_assoc, append-nil}
use Rattle.std.proofs.lemmas.Bool.Decides.{Decides-eqb}
use Rattle.match_language.specs.declared.expr.Expr.{Expr}
use Rattle.match_language.specs.declared.expr.Expr.TheVariants as ex
use Rattle.match_language.specs.declared.expr.Value.{Value}
use Rattle.match_language.specs.declared.expr.Value.TheVariants as v
use Rattle.match_language.specs.declared.expr.Rel.{Rel}
use Rattle.match_language.specs.declared.fault.MatchFault.TheVariants as fault
use Rattle.match_language.specs.declared.field.Field.{Field}
use Rattle.match_language.specs.declared.field.Direction.{Direction}
use Rattle.match_language.specs.declared.token.Token.{Token}
use Rattle.match_language.specs.declared.token.Token.TheVariants as t
use Rattle.match_language.specs.Tables.{field_max, is_port_field, is_address, stands}
use Rattle.match_language.specs.Relations.{is_equality}
use Rattle.match_language.specs.Values.{is_constant_token, constant_of, mask_of}
use Rattle.match_language.specs.Input.{Input, token, next, quoted, left}
use Rattle.match_language.specs.Grammar.{is_slash, IsOne, IsList, IsValues, IsTerm}
use Rattle.match_language.specs.Grammar.IsOne.{unmasked, masked, port, of_group, of_set}
use Rattle.match_language.specs.Grammar.IsList.{last_value, with_comma, without_comma}
use Rattle.match_language.specs.Grammar.IsValues.{one_value, in_braces}
use Rattle.match_language.specs.Grammar.IsTerm.{compared}
use Rattle.match_language.specs.Reading.{◌>>=◌, unexpected, relation, relation_by, masked_value, mask, after_constant, number_by, number, where_taken, one_by, one, closes, past_comma, more_values, several, opens, values, comparison}
use Rattle.match_language.proofs.Steps.{bind_ok, done, ok_is, never, chosen, chosen_ok}

abbrev Standing : Field → Rel → Input → Value × Input → Type 0
Standing f r i y = IsOne f r y.0 i y.1

taken_found : (taken : Bool) (w : Value) (i : Input) (x : Value × Input) → where_taken taken w i ≡ Ok x → (taken ≡ true) × ((w, next i) ≡ x)
taken_found taken w i x e =
    let a = chosen_ok taken (done (w, next i)) (fault.BadConstant i.place) x e in
    (a.0, ok_is (w, next i) x a.1)

under_found : (f : Field) (r : Rel) (n place : ℕ) (o : Option ℕ) (j : Input) (x : Value × Input) → masked_value n place o j ≡ Ok x → (m : ℕ) × (o ≡ Some m) × (bit_and n m ≡ n) × ((v.Number n m, next j) ≡ x)
under_found f r n place None j x e = absurd (never (fault.BadConstant j.place) x e)
under_found f r n place (Some m) j x e =
    let a = chosen_ok (bit_and n m == n) (done (v.Number n m, next j)) (fault.BadConstant place) x e in
    (m, refl, (Decides-eqb (bit_and n m) n).0 a.0, ok_is (v.Number n m, next j) x a.1)

mask_found : (f : Field) (r : Rel) (k : Token) (n place : ℕ) (j : Input) (x : Value × Input) → mask f r k n place j ≡ Ok x
    → (m : ℕ) × (is_equality r ≡ true) × (mask_of f k (token j) ≡ Some m) × (bit_and n m ≡ n) × ((v.Number n m, next j) ≡ x)
unfolding mask
mask_found f r k n place j x e =
    let a = chosen_ok (is_constant_token (token j)) (cond (is_equality r) (masked_value n place (mask_of f k (token j)) j) (Err (fault.BadConstant j.place))) (unexpected (token j) j.place) x e in
    let b = chosen_ok (is_equality r) (masked_value n place (mask_of f k (token j)) j) (fault.BadConstant j.place) x a.1 in
    let c = under_found f r n place (mask_of f k (token j)) j x b.1 in
    (c.0, b.0, c.1, c.2, c.3)

after_found : (f : Field) (r : Rel) (k : Token) (n : ℕ) (i : Input) (x : Value × Input) → token i ≡ k → constant_of f k ≡ Some n → (m : Token) → token (next i) ≡ m
    → after_constant f r k n i.place m (next i) ≡ Ok x → IsOne f r x.0 i x.1
after_found f r k n i x at is t.Slash slash e =
    let a = mask_found f r k n i.place (next (next i)) x e in
    let of : mask_of f (token i) (token (next (next i))) ≡ Some a.0 = ap (λ (c : Token). mask_of f c (token (next (next i)))) at ∙ a.2 in
    subst (Standing f r i) a.4 (masked f r n a.0 i a.1 (ap (constant_of f) at ∙ is) slash of a.3)
after_found f r k n i x at is other slash e =
    let same = ok_is (v.Number n (field_max f), next i) x e in
    subst (Standing f r i) same (unmasked f r n i (ap (constant_of f) at ∙ is) (ap is_slash slash))

number_case : (f : Field) (r : Rel) (k : Token) (i : Input) (x : Value × Input) → token i ≡ k → (o : Option ℕ) → constant_of f k ≡ o → number_by f r k o i ≡ Ok x → IsOne f r x.0 i x.1
number_case f r k i x at None is e = absurd (never (fault.BadConstant i.place) x e)
number_case f r k i x at (Some n) is e = after_found f r k n i x at is (token (next i)) refl e

number_found : (f : Field) (r : Rel) (k : Token) (i : Input) (x : Value × Input) → token i ≡ k → number f r k i ≡ Ok x → IsOne f r x.0 i x.1
unfolding number
number_found f r k i x at e = number_case f r k i x at (constant_of f k) refl e

one_case : (f : Field) (r : Rel) (k : Token) (i : Input) (x : Value × Input) → token i ≡ k → one_by f r k i ≡ Ok x → IsOne f r x.0 i x.1
one_case f r t.Text i x at e =
    let a = taken_found (is_port_field f && is_equality r) (v.Port (quoted i)) i x e in
    subst (Standing f r i) a.1 (port f r i (first_so (is_port_field f) (is_equality r) a.0) (second_so (is_port_field f) (is_equality r) a.0) at)
one_case f r (t.Group name) i x at e =
    let a = taken_found (is_port_field f && is_equality r) (v.Group name) i x e in
    subst (Standing f r i) a.1 (of_group f r name i (first_so (is_port_field f) (is_equality r) a.0) (second_so (is_port_field f) (is_equality r) a.0) at)
one_case f r (t.Set name) i x at e =
    let a = taken_found (is_address f && is_equality r) (v.Set name) i x e in
    subst (Standing f r i) a.1 (of_set f r name i (first_so (is_address f) (is_equality r) a.0) (second_so (is_address f) (is_equality r) a.0) at)
one_case f r (t.Bit b) i x at e = number_found f r (t.Bit b) i x at e
one_case f r (t.Number n) i x at e = number_found f r (t.Number n) i x at e
one_case f r (t.Hex n) i x at e = number_found f r (t.Hex n) i x at e
one_case f r (t.Dotted n) i x at e = number_found f r (t.Dotted n) i x at e
one_case f r (t.Ether n) i x at e = number_found f r (t.Ether n) i x at e
one_case f r t.BadConstant i x at e = number_found f r t.BadConstant i x at e
one_case f r other i x at e = absurd (never (unexpected other i.place) x e)

pub one_found : (f : Field) (r : Rel) (i : Input) (x : Value × Input) → one f r i ≡ Ok x → IsOne f r x.0 i x.1
unfolding one
one_found f r i x e = one_case f r (token i) i x refl e

-- behind a value, up to that behind the brace
abbrev Rest : Field → Rel → List Value → Input → Input → Type 0
Rest f r [] i k = (token i ≡ t.CloseBrace) × (next i ≡ k)
Rest f r (y ∷ ys) i k = (j : Input) × IsList f r (y ∷ ys) (past_comma (token i) i) j × (token j ≡ t.CloseBrace) × (next j ≡ k)

comma_between : (f : Field) (r : Rel) (x y : Value) (ys : List Value) (i j k : Input) → IsOne f r x i j → (c : Token) → token j ≡ c → IsList f r (y ∷ ys) (past_comma c j) k → IsList f r (x ∷ y ∷ ys) i k
comma_between f r x y ys i j k h t.Comma at hs = with_comma f r x (y ∷ ys) i j k h at hs
comma_between f r x y ys i j k h _ at hs = without_comma f r x (y ∷ ys) i j k h hs

-- a value, and the rest
listed : (f : Field) (r : Rel) (x : Value) (ys : List Value) (i j k : Input) → IsOne f r x i j → Rest f r ys j k → (l : Input) × IsList f r (x ∷ ys) i l × (token l ≡ t.CloseBrace) × (next l ≡ k)
listed f r x [] i j k h rest = (j, last_value f r x i j h, rest.0, rest.1)
listed f r x (y ∷ ys) i j k h rest = (rest.0, comma_between f r x y ys i j rest.0 h (token j) refl rest.1, rest.2, rest.3)

closes_is : (k : Token) → closes k ≡ true → k ≡ t.CloseBrace
closes_is t.CloseBrace e = refl
closes_is _ e = absurd cc

more_found : (f : Field) (r : Rel) (m : ℕ) (xs : List Value) (i : Input) (x : List Value × Input) → more_values f r m xs i ≡ Ok x → (ys : List Value) × (x.0 ≡ xs ++ ys) × Rest f r ys i x.1
unfolding more_values
more_found f r zero xs i x e = absurd (never (fault.Syntax i.place) x e)
more_found f r (suc m) xs i x e = elim (chosen (closes (token i)) (done (xs, next i)) (one f r (past_comma (token i) i) >>= λ y. more_values f r m (xs ++ y.0 ∷ []) y.1) (Ok x) e) [
  | inl h ↦
      let same = ok_is (xs, next i) x h.1 in
      ([], ap (λ (y : List Value × Input). y.0) (sym same) ∙ sym (append-nil xs), (closes_is (token i) h.0, ap (λ (y : List Value × Input). y.1) same))
  | inr h ↦
      let a = bind_ok (one f r (past_comma (token i) i)) (λ y. more_values f r m (xs ++ y.0 ∷ []) y.1) x h.1 in
      let first = one_found f r (past_comma (token i) i) a.0 a.1 in
      let others = more_found f r m (xs ++ a.0.0 ∷ []) a.0.1 x a.2 in
      (a.0.0 ∷ others.0, others.1 ∙ append_assoc xs (a.0.0 ∷ []) others.0, listed f r a.0.0 others.0 (past_comma (token i) i) a.0.1 x.1 first others.2)
]

several_found : (f : Field) (r : Rel) (i : Input) (x : List Value × Input) → several f r i ≡ Ok x → (l : Input) × IsList f r x.0 i l × (token l ≡ t.CloseBrace) × (next l ≡ x.1)
unfolding several
several_found f r i x e =
    let a = bind_ok (one f r i) (λ y. more_values f r (left y.1) (y.0 ∷ []) y.1) x e in
    let first = one_found f r i a.0 a.1 in
    let others = more_found f r (left a.0.1) (a.0.0 ∷ []) a.0.1 x a.2 in
    let made = listed f r a.0.0 others.0 i a.0.1 x.1 first others.2 in
    (made.0, subst (λ (ys : List Value). IsList f r ys i made.0) (sym others.1) made.1, made.2, made.3)

opens_is : (k : Token) → opens k ≡ true → k ≡ t.OpenBrace
opens_is t.OpenBrace e = refl
opens_is _ e = absurd cc

pub values_found : (f : Field) (r : Rel) (i : Input) (x : List Value × Input) → values f r i ≡ Ok x → IsValues f r x.0 i x.1
unfolding values
values_found f r i x e = elim (chosen (opens (token i)) (cond (is_equality r) (several f r (next i)) (Err (fault.BadConstant i.place))) (one f r i >>= λ y. Ok (y.0 ∷ [], y.1)) (Ok x) e) [
  | inl h ↦
      let a = chosen_ok (is_equality r) (several f r (next i)) (fault.BadConstant i.place) x h.1 in
      let b = several_found f r (next i) x a.1 in
      subst (λ (k : Input). IsValues f r x.0 i k) b.3 (in_braces f r x.0 i b.0 a.0 (opens_is (token i) h.0) b.1 b.2)
  | inr h ↦
      let a = bind_ok (one f r i) (λ y. Ok (y.0 ∷ [], y.1)) x h.1 in
      let first = one_found f r i a.0 a.1 in
      subst (λ (y : List Value × Input). IsValues f r y.0 i y.1) (ok_is (a.0.0 ∷ [], a.0.1) x a.2) (one_value f r a.0.0 i a.0.1 first)
]

relation_case : (k : Token) (i : Input) (x : Rel × Input) → token i ≡ k → relation_by k i ≡ Ok x → (token i ≡ t.Relation x.0) × (next i ≡ x.1)
relation_case (t.Relation r) i x at e =
    let same = ok_is (r, next i) x e in
    (at ∙ ap (λ (y : Rel × Input). t.Relation y.0) same, ap (λ (y : Rel × Input). y.1) same)
relation_case other i x at e = absurd (never (unexpected other i.place) x e)

relation_found : (i : Input) (x : Rel × Input) → relation i ≡ Ok x → (token i ≡ t.Relation x.0) × (next i ≡ x.1)
unfolding relation
relation_found i x e = relation_case (token i) i x refl e

pub comparison_found : (way : Direction) (n : ℕ) (f : Field) (i : Input) (x : Expr × Input) → token i ≡ t.Field f → stands way f ≡ true → comparison f (next i) ≡ Ok x → IsTerm way n x.0 i x.1
unfolding comparison
comparison_found way n f i x at stood e =
    let a = bind_ok (relation (next i)) (λ rel. values f rel.0 rel.1 >>= λ xs. Ok (ex.Compare f rel.0 xs.0, xs.1)) x e in
    let rel = relation_found (next i) a.0 a.1 in
    let b = bind_ok (values f a.0.0 a.0.1) (λ xs. Ok (ex.Compare f a.0.0 xs.0, xs.1)) x a.2 in
    let xs = values_found f a.0.0 a.0.1 b.0 b.1 in
    let same = ok_is (ex.Compare f a.0.0 b.0.0, b.0.1) x b.2 in
    subst (λ (y : Expr × Input). IsTerm way n y.0 i y.1) same (compared way n f a.0.0 b.0.0 i b.0.1 at stood rel.0 (subst (λ (k : Input). IsValues f a.0.0 b.0.0 k b.0.1) (sym rel.1) xs))
