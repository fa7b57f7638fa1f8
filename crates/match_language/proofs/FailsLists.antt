-- Where the reading of values and comparisons fails, and how the text could go on there.
use Rattle.std.specs.Prelude.{◌≡◌, ◌≤◌, ◌+◌, ℕ, zero, suc, Bool, true, false, cond, ◌&&◌, List, [], ◌∷◌, ◌++◌, Option, Some, None, Ok, Err}
use Rattle.std.proofs.Common.{refl, ap, ◌∙◌, sym, subst, inl, inr, arith}
use mathlib.Core.Bool.{false≢true}
use Rattle.match_language.specs.declared.expr.Expr.{Expr}
use Rattle.match_language.specs.declared.expr.Expr.TheVariants as ex
use Rattle.match_language.specs.declared.expr.Value.{Value}
use Rattle.match_language.specs.declared.expr.Value.TheVariants as v
use Rattle.match_language.specs.declared.expr.Rel.{Rel}
use Rattle.match_language.specs.declared.expr.Rel.TheVariants as rel
use Rattle.match_language.specs.declared.fault.MatchFault.{MatchFault}
use Rattle.match_language.specs.declared.fault.MatchFault.TheVariants as fault
use Rattle.match_language.specs.declared.field.Field.{Field}
use Rattle.match_language.specs.declared.field.Field.TheVariants as f
use Rattle.match_language.specs.declared.token.Token.{Token}
use Rattle.match_language.specs.declared.token.Token.TheVariants as t
use Rattle.match_language.specs.Tables.{is_port_field, is_address}
use Rattle.match_language.specs.Relations.{is_equality, rel_text}
use Rattle.match_language.specs.Values.{constant_of}
use Rattle.match_language.specs.Input.{Input, token, next, quoted, skip, left}
use Rattle.match_language.specs.Grammar.{is_slash, IsOne, IsList, IsValues}
use Rattle.match_language.specs.Grammar.IsList.{last_value, with_comma, without_comma}
use Rattle.match_language.specs.Grammar.IsValues.{one_value, in_braces}
use Rattle.match_language.specs.Nesting.{TakesValue}
use Rattle.match_language.specs.Spelling.{value_text}
use Rattle.match_language.specs.FirstFault as ff
use Rattle.match_language.specs.FirstFault.{after, Same, Shares, tokens_seen, wanted, fault_by, is_value, is_outside, is_passed}
use Rattle.match_language.specs.FirstFault.Wanted.{wants_relation, wants_value, wants_more, wants_operator}
use Rattle.match_language.specs.Reading.{Read, ◌>>=◌, unexpected, relation, relation_by, number, number_by, where_taken, one_by, one, closes, past_comma, more_values, several, opens, values, comparison}
use Rattle.match_language.proofs.Steps.{done, failed}
use Rattle.match_language.proofs.ParseValues.{one_found}
use Rattle.match_language.proofs.OnlyValues.{one_only, one_shorter}
use Rattle.match_language.proofs.Shorter.{next_no_longer, empty_token}
use Rattle.match_language.proofs.Begins.{Follows, begins_close_brace, close_brace_follows, blank_skipped}
use Rattle.match_language.proofs.Again.{relation_begins}
use Rattle.match_language.proofs.CommonParts.{plus, Fails, fails_here, fails_within, fails_behind}
use Rattle.match_language.proofs.TokenMoves.{Past, token_moves, one_moves, other_settled, lone}
use Rattle.match_language.proofs.FailsValues.{err_is, bind_err, err_never, Admits, sample, sample_bare, sample_stands, ValueDue, more_due, relation_due, one_fails}

-- ---- the bound on the turns

pub bind_same : {A B : Type 0} (r : Read A) (g h : A × Input → Read B) → ((x : A × Input) → r ≡ Ok x → g x ≡ h x) → (r >>= g) ≡ (r >>= h)
bind_same (Ok x) g h e = e x refl
bind_same (Err f) g h e = refl

-- how a list goes on behind a value
abbrev goes_on : Field → Rel → ℕ → List Value → Token → Input → Read (List Value)
goes_on f r m xs c i = cond (closes c) (Ok (xs, next i)) (one f r (past_comma c i) >>= λ x. more_values f r m (xs ++ x.0 ∷ []) x.1)

more_suc : (f : Field) (r : Rel) (m : ℕ) (xs : List Value) (i : Input) → more_values f r (suc m) xs i ≡ goes_on f r m xs (token i) i
unfolding more_values
more_suc f r m xs i = refl

more_zero : (f : Field) (r : Rel) (xs : List Value) (i : Input) → more_values f r 0 xs i ≡ Err (fault.Syntax i.place)
unfolding more_values
more_zero f r xs i = refl

-- at the end of the text it doesn't go on
goes_nowhere : (f : Field) (r : Rel) (m : ℕ) (xs : List Value) (i : Input) → token i ≡ t.End → goes_on f r m xs (token i) i ≡ Err (fault.Syntax i.place)
unfolding one
goes_nowhere f r m xs i at =
    ap (λ (c : Token). goes_on f r m xs c i) at ∙ ap (λ (c : Token). one_by f r c i >>= λ x. more_values f r m (xs ++ x.0 ∷ []) x.1) at

comma_no_longer : (c : Token) (i : Input) → left (past_comma c i) ≤ left i
comma_no_longer t.Comma i = next_no_longer i
comma_no_longer _ i = omega arith

-- the bound on the turns is never met
fuel : (f : Field) (r : Rel) (m n : ℕ) (xs : List Value) (i : Input) → left i ≤ m → left i ≤ n → more_values f r m xs i ≡ more_values f r n xs i
fuel f r zero zero xs i a b = refl
fuel f r zero (suc n) xs i a b = more_zero f r xs i ∙ sym (goes_nowhere f r n xs i (empty_token i (omega (arith, a)))) ∙ sym (more_suc f r n xs i)
fuel f r (suc m) zero xs i a b = more_suc f r m xs i ∙ goes_nowhere f r m xs i (empty_token i (omega (arith, b))) ∙ sym (more_zero f r xs i)
fuel f r (suc m) (suc n) xs i a b =
    let j = past_comma (token i) i in
    let shorter = comma_no_longer (token i) i in
    let others = bind_same (one f r j) (λ x. more_values f r m (xs ++ x.0 ∷ []) x.1) (λ x. more_values f r n (xs ++ x.0 ∷ []) x.1) (λ x e.
    let less = one_shorter f r x.0 j x.1 (one_found f r j x e) in
    fuel f r m n (xs ++ x.0 ∷ []) x.1 (omega (arith, less, shorter, a)) (omega (arith, less, shorter, b))) in
    more_suc f r m xs i ∙ ap (cond (closes (token i)) (Ok (xs, next i))) others ∙ sym (more_suc f r n xs i)

abbrev values_from : Field → Rel → List Value → Input → Read (List Value)
values_from f r xs i = more_values f r (left i) xs i

-- how it goes on, without a bound
abbrev body : Field → Rel → List Value → Token → Input → Read (List Value)
body f r xs c i = cond (closes c) (Ok (xs, next i)) (one f r (past_comma c i) >>= λ x. values_from f r (xs ++ x.0 ∷ []) x.1)

unrolled : (f : Field) (r : Rel) (xs : List Value) (i : Input) → values_from f r xs i ≡ body f r xs (token i) i
unrolled f r xs i =
    let j = past_comma (token i) i in
    let shorter = comma_no_longer (token i) i in
    let others = bind_same (one f r j) (λ x. more_values f r (left i) (xs ++ x.0 ∷ []) x.1) (λ x. values_from f r (xs ++ x.0 ∷ []) x.1) (λ x e.
    let less = one_shorter f r x.0 j x.1 (one_found f r j x e) in
    fuel f r (left i) (left x.1) (xs ++ x.0 ∷ []) x.1 (omega (arith, less, shorter)) (omega arith)) in
    fuel f r (left i) (suc (left i)) xs i (omega arith) (omega arith) ∙ more_suc f r (left i) xs i ∙ ap (cond (closes (token i)) (Ok (xs, next i))) others

-- ---- several values

-- values up to the brace, and behind it
abbrev Several : Field → Rel → Input → Input → Type 0
Several f r k l = (ys : List Value) × (e : Input) × (IsList f r ys k e) × (token e ≡ t.CloseBrace) × (l ≡ next e)

-- so it is with the value before
abbrev Rest : Field → Rel → Input → Input → Type 0
Rest f r k l = (before : Input) (x : Value) → IsOne f r x before k → Several f r before l

-- a value and what follows it
abbrev value_then : Field → Rel → List Value → Input → Read (List Value)
value_then f r xs i = one f r i >>= λ x. values_from f r (xs ++ x.0 ∷ []) x.1

module _ (f : Field) (r : Rel) (eq : is_equality r ≡ true) (admits : Admits f r) where
  -- what is known in braces, behind a value
  record Within (us : List Token) (c : Token) : Type 0 where
    pub before : List Token
    pub past : Past before us c
    pub braces : ff.in_braces before ≡ true
    pub compares : ff.compared before ≡ Some (f, r)

  within_due : (us : List Token) (i : Input) → Within us (token i) → ValueDue f r us i
  within_due us i h = more_due f r us i eq (h.past.compares ∙ h.compares) (h.past.wants ∙ ap (λ (b : Bool). cond b wants_more wants_operator) h.braces) h.past.settled h.past.clean

  comma_due : (us : List Token) (c : Token) (i : Input) → Within us c → ValueDue f r (t.Comma ∷ us) i
  comma_due us c i h =
      more_due f r (t.Comma ∷ us) i eq (h.past.compares ∙ h.compares) (ap (λ (b : Bool). cond b wants_more wants_operator) (h.past.braces ∙ h.braces)) (other_settled (token i) t.Comma us refl refl) (λ d. refl)

  -- the reading of the rest fails where it comes to it
  abbrev Again : List Value → Input → MatchFault → Type 0
  Again xs i g = (x : Value) (j : Input) → left j + 1 ≤ left i → (us : List Token) → Within us (token j) → values_from f r (xs ++ x ∷ []) j ≡ Err g → Fails (values_from f r (xs ++ x ∷ [])) (Rest f r) us j g

  value_then_fails : (xs : List Value) (ts : List Token) (i : Input) (g : MatchFault) → ValueDue f r ts i → ff.in_braces ts ≡ true → Again xs i g → value_then f r xs i ≡ Err g → Fails (value_then f r xs) (Several f r) ts i g
  value_then_fails xs ts i g due braces again e = elim (bind_err (one f r i) (λ x. values_from f r (xs ++ x.0 ∷ []) x.1) g e) [
    | inl h ↦
        fails_within {K = Several f r} (one f r) (value_then f r xs) ts i g (λ rest. 125 ∷ rest) (λ rest follows. close_brace_follows rest)
        (λ k d same fails. (d, ap (λ (x : Read Value). x >>= λ x. values_from f r (xs ++ x.0 ∷ []) x.1) fails))
        (λ k q rest follows x.
        let b = begins_close_brace q rest in
        (b.place, (x.0 ∷ [], skip q (125 ∷ rest), last_value f r x.0 k (skip q (125 ∷ rest)) x.1, b.is, sym b.after)))
        (one_fails f r admits ts i due g h)
    | inr h ↦
        let x = h.0 in
        let found = one_found f r i x h.1.0 in
        fails_behind {H = Several f r} (values_from f r (xs ++ x.0 ∷ [])) (value_then f r xs) ts i x.1 g (one_moves f r x.0 i x.1 found ts)
        (λ us past. again x.0 x.1 (one_shorter f r x.0 i x.1 found) us (record { before = ts; past = past; braces = braces; compares = due.compares }) h.1.1)
        (λ k l d stands same fails. (d, ap (λ (y : Read Value). y >>= λ y. values_from f r (xs ++ y.0 ∷ []) y.1) (one_only f r x.0 k l stands) ∙ fails))
        (λ k m l stands rest. rest k x.0 stands)
  ]

  -- behind a comma
  comma_fails : (xs : List Value) (us : List Token) (i : Input) (g : MatchFault) → token i ≡ t.Comma → Within us (token i) → Again xs (next i) g → value_then f r xs (next i) ≡ Err g → Fails (values_from f r xs) (Rest f r) us i g
  comma_fails xs us i g at h again e =
      fails_behind {H = Rest f r} (value_then f r xs) (values_from f r xs) us i (next i) g (token_moves t.Comma i us at refl)
      (λ vs same. subst (λ (x : List Token). Fails (value_then f r xs) (Several f r) x (next i) g) (sym same)
      (value_then_fails xs (t.Comma ∷ us) (next i) g (comma_due us (token i) (next i) h) (h.past.braces ∙ h.braces) again e))
      (λ k l d stands same fails. (d, unrolled f r xs k ∙ ap (λ (c : Token). body f r xs c k) stands.0 ∙ ap (value_then f r xs) (sym stands.1) ∙ fails))
      (λ k m l stands list before x value. (x ∷ list.0, list.1, with_comma f r x list.0 before k list.1 value stands.0 (subst (λ (y : Input). IsList f r list.0 y list.1) stands.1 list.2), list.3, list.4))

  -- with no comma
  bare_fails : (xs : List Value) (us : List Token) (i : Input) (g : MatchFault) → ((k : Input) → Same i k → body f r xs (token k) k ≡ value_then f r xs k) → Within us (token i) → Again xs i g → value_then f r xs i ≡ Err g → Fails (values_from f r xs) (Rest f r) us i g
  bare_fails xs us i g reads h again e =
      fails_within {K = Rest f r} (value_then f r xs) (values_from f r xs) us i g (λ rest. rest) (λ rest follows. follows)
      (λ k d same fails. (d, unrolled f r xs k ∙ reads k same ∙ fails))
      (λ k q rest follows list. (q, λ before x value. (x ∷ list.0, list.1, without_comma f r x list.0 before k list.1 value list.2, list.3, list.4)))
      (value_then_fails xs us i g (within_due us i h) (h.past.braces ∙ h.braces) again e)

  rest_each : (xs : List Value) (us : List Token) (i : Input) (g : MatchFault) → Within us (token i) → Again xs i g → (c : Token) → token i ≡ c → body f r xs c i ≡ Err g → Fails (values_from f r xs) (Rest f r) us i g
  rest_each xs us i g h again t.CloseBrace at e = absurd (err_never (xs, next i) g e)
  rest_each xs us i g h again t.Comma at e =
      let shorter = next_no_longer i in
      comma_fails xs us i g at h (λ x j less us h e. again x j (omega (arith, less, shorter)) us h e) e
  rest_each xs us i g h again other at e = bare_fails xs us i g (λ k same. ap (λ (c : Token). body f r xs c k) (sym same.0 ∙ at)) h again e

  rest_fails : (m : ℕ) (xs : List Value) (us : List Token) (i : Input) (g : MatchFault) → left i ≤ m → Within us (token i) → values_from f r xs i ≡ Err g → Fails (values_from f r xs) (Rest f r) us i g
  rest_fails zero xs us i g small h e = rest_each xs us i g h (λ x j less us h e. absurd (omega (arith, less, small))) (token i) refl (sym (unrolled f r xs i) ∙ e)
  rest_fails (suc m) xs us i g small h e =
      rest_each xs us i g h (λ x j less us h e. rest_fails m (xs ++ x ∷ []) us j g (omega (arith, less, small)) h e) (token i) refl (sym (unrolled f r xs i) ∙ e)

  several_fails : (ts : List Token) (i : Input) (g : MatchFault) → ff.compared ts ≡ Some (f, r) → several f r i ≡ Err g → Fails (several f r) (Several f r) (t.OpenBrace ∷ ts) i g
  unfolding several
  several_fails ts i g compares e =
      value_then_fails [] (t.OpenBrace ∷ ts) i g (more_due f r (t.OpenBrace ∷ ts) i eq compares refl (other_settled (token i) t.OpenBrace ts refl refl) (λ d. refl)) refl
      (λ x j less us h e. rest_fails (left j) (x ∷ []) us j g (omega arith) h e) e

-- ---- the values of a comparison

abbrev SomeValues : Field → Rel → Input → Input → Type 0
SomeValues f r k l = (xs : List Value) × IsValues f r xs k l

module _ (f : Field) (r : Rel) (admits : Admits f r) (ts : List Token) (i : Input) where
  abbrev before_values : List Token
  before_values = t.Relation r ∷ t.Field f ∷ ts

  values_at : (k : Input) (c : Token) → token k ≡ c → values f r k ≡ cond (opens c) (cond (is_equality r) (several f r (next k)) (Err (fault.BadConstant k.place))) (one f r k >>= λ x. Ok (x.0 ∷ [], x.1))
  unfolding values
  values_at k c at = ap (λ (x : Token). cond (opens x) (cond (is_equality r) (several f r (next k)) (Err (fault.BadConstant k.place))) (one f r k >>= λ x. Ok (x.0 ∷ [], x.1))) at

  braces_fail : (g : MatchFault) → token i ≡ t.OpenBrace → (b : Bool) → is_equality r ≡ b → cond b (several f r (next i)) (Err (fault.BadConstant i.place)) ≡ Err g → Fails (values f r) (SomeValues f r) before_values i g
  braces_fail g at true eq e =
      fails_behind {H = SomeValues f r} (several f r) (values f r) before_values i (next i) g (token_moves t.OpenBrace i before_values at refl)
      (λ vs same. subst (λ (x : List Token). Fails (several f r) (Several f r) x (next i) g) (sym same) (several_fails f r eq admits before_values (next i) g refl e))
      (λ k l d stands same fails. (d, values_at k t.OpenBrace stands.0 ∙ ap (λ (b : Bool). cond b (several f r (next k)) (Err (fault.BadConstant k.place))) eq ∙ ap (several f r) (sym stands.1) ∙ fails))
      (λ k m l stands list.
      (list.0, subst (λ (y : Input). IsValues f r list.0 k y) (sym list.4) (in_braces f r list.0 k list.1 eq stands.0 (subst (λ (y : Input). IsList f r list.0 y list.1) stands.1 list.2) list.3)))
  braces_fail g at false eq e =
      let y = sample f r admits in
      fails_here {H = SomeValues f r} (values f r) before_values i g
      (sym (err_is {A = List Value × Input} (fault.BadConstant i.place) g e) ∙ ap (λ (c : Token). fault_by wants_value c i.place) (sym at)) refl (other_settled (token i) (t.Relation r) (t.Field f ∷ ts) refl refl)
      (λ k s. (fault.BadConstant k.place, values_at k t.OpenBrace (sym s ∙ at) ∙ ap (λ (b : Bool). cond b (several f r (next k)) (Err (fault.BadConstant k.place))) eq))
      (λ rest. value_text f y.0 ++ rest) (sample_bare f r y.0 y.1)
      (λ rest follows q. let a = sample_stands f r y.0 y.1 rest follows q in (a.0, (a.1.0 ∷ [], one_value f r a.1.0 (skip q (value_text f y.0 ++ rest)) (skip a.0 rest) a.1.1)))

  -- one value with no braces
  lone_fails : (g : MatchFault) → ff.is_open_brace (token i) ≡ false → ((k : Input) → Same i k → values f r k ≡ (one f r k >>= λ x. Ok (x.0 ∷ [], x.1))) → (one f r i >>= λ x. done (x.0 ∷ [], x.1)) ≡ failed g → Fails (values f r) (SomeValues f r) before_values i g
  lone_fails g plain reads e = elim (bind_err (one f r i) (λ x. Ok (x.0 ∷ [], x.1)) g e) [
    | inl h ↦
        fails_within {K = SomeValues f r} (one f r) (values f r) before_values i g (λ rest. rest) (λ rest follows. follows)
        (λ k d same fails. (d, reads k same ∙ ap (λ (x : Read Value). x >>= λ x. Ok (x.0 ∷ [], x.1)) fails))
        (λ k q rest follows x. (q, (x.0 ∷ [], one_value f r x.0 k (skip q rest) x.1)))
        (one_fails f r admits before_values i (relation_due f r ts i plain) g h)
    | inr h ↦ absurd (err_never (h.0.0 ∷ [], h.0.1) g h.1.1)
  ]

  values_each : (c : Token) (g : MatchFault) → token i ≡ c → cond (opens c) (cond (is_equality r) (several f r (next i)) (Err (fault.BadConstant i.place))) (one f r i >>= λ x. Ok (x.0 ∷ [], x.1)) ≡ Err g → Fails (values f r) (SomeValues f r) before_values i g
  values_each t.OpenBrace g at e = braces_fail g at (is_equality r) refl e
  values_each other g at e = lone_fails g (ap ff.is_open_brace at) (λ k same. values_at k other (sym same.0 ∙ at)) e

  values_fails : (g : MatchFault) → values f r i ≡ Err g → Fails (values f r) (SomeValues f r) before_values i g
  unfolding values
  values_fails g e = values_each (token i) g refl e

-- ---- where no value can stand

port_constant : (x : Field) (k : Token) → is_port_field x ≡ true → constant_of x k ≡ None
port_constant f.Inport (t.Dotted n) e = refl
port_constant f.Inport (t.Ether n) e = refl
port_constant f.Inport _ e = refl
port_constant f.Outport (t.Dotted n) e = refl
port_constant f.Outport (t.Ether n) e = refl
port_constant f.Outport _ e = refl
port_constant _ k e = absurd (false≢true e)

module _ (x : Field) (r : Rel) (of_port : is_port_field x ≡ true) (eq : is_equality r ≡ false) where
  one_at : (k : Input) (c : Token) → token k ≡ c → one x r k ≡ one_by x r c k
  unfolding one
  one_at k c at = ap (λ (y : Token). one_by x r y k) at

  abbrev alone : Read Value → Read (List Value)
  alone y = y >>= λ y. Ok (y.0 ∷ [], y.1)

  one_value_at : (k : Input) (c : Token) → token k ≡ c → opens c ≡ false → values x r k ≡ alone (one_by x r c k)
  unfolding values
  one_value_at k c at bare = ap (λ (y : Token). cond (opens y) (cond (is_equality r) (several x r (next k)) (Err (fault.BadConstant k.place))) (alone (one x r k))) at
      ∙ ap (λ (b : Bool). cond b (cond (is_equality r) (several x r (next k)) (Err (fault.BadConstant k.place))) (alone (one x r k))) bare
      ∙ ap alone (one_at k c at)

  not_taken : (k : Input) (c : Token) (b : Bool) (y : Value) → token k ≡ c → opens c ≡ false → one_by x r c k ≡ where_taken (b && is_equality r) y k → values x r k ≡ Err (fault.BadConstant k.place)
  not_taken k c b y at bare reads =
      one_value_at k c at bare ∙ ap alone reads ∙ ap (λ (e : Bool). alone (where_taken (b && e) y k)) eq ∙ ap (λ (e : Bool). alone (where_taken e y k)) (and_false b)
    where
      and_false : (b : Bool) → (b && false) ≡ false
      and_false true = refl
      and_false false = refl

  no_constant : (k : Input) (c : Token) → token k ≡ c → opens c ≡ false → one_by x r c k ≡ number x r c k → values x r k ≡ Err (fault.BadConstant k.place)
  unfolding number
  no_constant k c at bare reads = one_value_at k c at bare ∙ ap alone reads ∙ ap (λ (o : Option ℕ). alone (number_by x r c o k)) (port_constant x c of_port)

  no_values : (k : Input) (c : Token) → token k ≡ c → values x r k ≡ Err (fault_by wants_value c k.place)
  unfolding values
  no_values k t.OpenBrace at =
      ap (λ (y : Token). cond (opens y) (cond (is_equality r) (several x r (next k)) (Err (fault.BadConstant k.place))) (alone (one x r k))) at
      ∙ ap (λ (b : Bool). cond b (several x r (next k)) (Err (fault.BadConstant k.place))) eq
  no_values k t.Text at = not_taken k t.Text (is_port_field x) (v.Port (quoted k)) at refl refl
  no_values k (t.Group name) at = not_taken k (t.Group name) (is_port_field x) (v.Group name) at refl refl
  no_values k (t.Set name) at = not_taken k (t.Set name) (is_address x) (v.Set name) at refl refl
  no_values k (t.Bit b) at = no_constant k (t.Bit b) at refl refl
  no_values k (t.Number n) at = no_constant k (t.Number n) at refl refl
  no_values k (t.Hex n) at = no_constant k (t.Hex n) at refl refl
  no_values k (t.Dotted n) at = no_constant k (t.Dotted n) at refl refl
  no_values k (t.Ether n) at = no_constant k (t.Ether n) at refl refl
  no_values k t.BadConstant at = no_constant k t.BadConstant at refl refl
  no_values k other at = one_value_at k other at refl

-- ---- comparisons

abbrev pub SomeComparison : Field → Input → Input → Type 0
SomeComparison x k l = (r : Rel) × (xs : List Value) × (token k ≡ t.Relation r) × IsValues x r xs (next k) l

admits_by : (x : Field) (r : Rel) → is_equality r ≡ true → (b : Bool) → is_port_field x ≡ b → Admits x r
admits_by x r eq true e = inr (e, eq)
admits_by x r eq false e = inl e

module _ (x : Field) (ts : List Token) (i : Input) where
  abbrev an_equal : (y : Value) × TakesValue x rel.Eq y
  an_equal = sample x rel.Eq (admits_by x rel.Eq refl (is_port_field x) refl)

  abbrev equal_tail : List ℕ → List ℕ
  equal_tail rest = rel_text rel.Eq ++ (32 ∷ (value_text x an_equal.0 ++ rest))

  equal_bare : (rest : List ℕ) → Follows rest → (q : ℕ) → is_slash (token (skip q (equal_tail rest))) ≡ false
  equal_bare rest follows q = ap is_slash (relation_begins rel.Eq q (value_text x an_equal.0 ++ rest)).is

  equal_stands : (rest : List ℕ) → Follows rest → (q : ℕ) → (l : ℕ) × SomeComparison x (skip q (equal_tail rest)) (skip l rest)
  equal_stands rest follows q =
      let text = value_text x an_equal.0 ++ rest in
      let b = relation_begins rel.Eq q text in
      let there : next (skip q (equal_tail rest)) ≡ skip (b.place + 1) text = b.after ∙ blank_skipped b.place text in
      let a = sample_stands x rel.Eq an_equal.0 an_equal.1 rest follows (b.place + 1) in
      let made = one_value x rel.Eq a.1.0 (skip (b.place + 1) text) (skip a.0 rest) a.1.1 in
      (a.0, (rel.Eq, a.1.0 ∷ [], b.is, subst (λ (y : Input). IsValues x rel.Eq (a.1.0 ∷ []) y (skip a.0 rest)) (sym there) made))

  abbrev compares : Rel → Read (List Value) → Read Expr
  compares r xs = xs >>= λ xs. Ok (ex.Compare x r xs.0, xs.1)

  comparison_at : (k : Input) (c : Token) → token k ≡ c → comparison x k ≡ (relation_by c k >>= λ r. compares r.0 (values x r.0 r.1))
  unfolding comparison relation
  comparison_at k c at = ap (λ (y : Token). relation_by y k >>= λ r. compares r.0 (values x r.0 r.1)) at

  -- a value can stand behind the relation
  taken_fails : (r : Rel) (g : MatchFault) → Admits x r → token i ≡ t.Relation r → values x r (next i) ≡ Err g → Fails (comparison x) (SomeComparison x) (t.Field x ∷ ts) i g
  taken_fails r g admits at e =
      fails_behind {H = SomeComparison x} (values x r) (comparison x) (t.Field x ∷ ts) i (next i) g (token_moves (t.Relation r) i (t.Field x ∷ ts) at refl)
      (λ us same. subst (λ (us : List Token). Fails (values x r) (SomeValues x r) us (next i) g) (sym same) (values_fails x r admits ts (next i) g e))
      (λ k l d stands same fails. (d, comparison_at k (t.Relation r) stands.0 ∙ ap (λ (y : Input). compares r (values x r y)) (sym stands.1) ∙ ap (compares r) fails))
      (λ k m l stands xs. (r, xs.0, stands.0, subst (λ (y : Input). IsValues x r xs.0 y l) stands.1 xs.1))

  -- none can
  port_fails : (r : Rel) (g : MatchFault) → is_port_field x ≡ true → is_equality r ≡ false → token i ≡ t.Relation r → values x r (next i) ≡ Err g → Fails (comparison x) (SomeComparison x) (t.Field x ∷ ts) i g
  port_fails r g is eq at e =
      let shown = no_values x r is eq (next i) (token (next i)) refl in
      record {
        index = 1;
        named = 1;
        at = ap (λ (c : Token). plus 1 (cond (is_outside (c ∷ t.Field x ∷ ts) (token (next i))) 2 0)) (sym at);
        is = err_is {A = List Value × Input} g (fault_by wants_value (token (next i)) (next i).place) (sym e ∙ shown)
            ∙ ap (λ (c : Token). fault_by (wanted (c ∷ t.Field x ∷ ts)) (token (next i)) (next i).place) (sym at);
        settled = ap (λ (c : Token). is_passed (token (next i) ∷ c ∷ t.Field x ∷ ts)) at ∙ other_settled (token (next i)) (t.Relation r) (t.Field x ∷ ts) refl refl;
        same = λ k s.
            let fails = no_values x r is eq (next k) (token (next k)) refl in
            (fault_by wants_value (token (next k)) (next k).place, comparison_at k (t.Relation r) (sym s.0.0 ∙ at) ∙ ap (compares r) fails);
        kept = 0;
        gap = inr (refl, ap (λ (c : Token). is_passed (c ∷ t.Field x ∷ ts)) at);
        plain = tt;
        tail = equal_tail;
        bare = equal_bare;
        goes = λ rest follows k s q e. subst (λ (y : Input). (l : ℕ) × SomeComparison x y (skip l rest)) (sym e) (equal_stands rest follows q);
      }

  relation_fails : (r : Rel) (g : MatchFault) → token i ≡ t.Relation r → values x r (next i) ≡ Err g → (b c : Bool) → is_port_field x ≡ b → is_equality r ≡ c → Fails (comparison x) (SomeComparison x) (t.Field x ∷ ts) i g
  relation_fails r g at e false c is eq = taken_fails r g (inl is) at e
  relation_fails r g at e true true is eq = taken_fails r g (inr (is, eq)) at e
  relation_fails r g at e true false is eq = port_fails r g is eq at e

  no_relation : (c : Token) (g : MatchFault) → token i ≡ c → ((p : ℕ) → fault_by wants_relation c p ≡ unexpected c p) → is_passed (c ∷ t.Field x ∷ ts) ≡ false → ((k : Input) → relation_by c k ≡ Err (unexpected c k.place)) → relation_by c i ≡ Err g → Fails (comparison x) (SomeComparison x) (t.Field x ∷ ts) i g
  no_relation c g at kind settled reads e =
      fails_here {H = SomeComparison x} (comparison x) (t.Field x ∷ ts) i g
      (err_is {A = Rel × Input} g (unexpected c i.place) (sym e ∙ reads i) ∙ sym (kind i.place) ∙ ap (λ (c : Token). fault_by wants_relation c i.place) (sym at)) refl
      (ap (λ (c : Token). is_passed (c ∷ t.Field x ∷ ts)) at ∙ settled)
      (λ k s. (unexpected c k.place, comparison_at k c (sym s ∙ at) ∙ ap (λ (y : Read Rel). y >>= λ r. compares r.0 (values x r.0 r.1)) (reads k)))
      equal_tail equal_bare equal_stands

  comparison_each : (c : Token) (g : MatchFault) → token i ≡ c → (relation_by c i >>= λ r. compares r.0 (values x r.0 r.1)) ≡ Err g → Fails (comparison x) (SomeComparison x) (t.Field x ∷ ts) i g
  comparison_each (t.Relation r) g at e = elim (bind_err (values x r (next i)) (λ xs. Ok (ex.Compare x r xs.0, xs.1)) g e) [
    | inl h ↦ relation_fails r g at h (is_port_field x) (is_equality r) refl refl
    | inr h ↦ absurd (err_never (ex.Compare x r h.0.0, h.0.1) g h.1.1)
  ]
  comparison_each t.Slash g at e = no_relation t.Slash g at (λ p. refl) (lone (t.Field x) ts refl) (λ k. refl) (ap (λ (y : MatchFault). failed y) (err_is {A = Expr × Input} (unexpected t.Slash i.place) g e))
  comparison_each other g at e = no_relation other g at (λ p. refl) refl (λ k. refl) (ap (λ (y : MatchFault). failed y) (err_is {A = Expr × Input} (unexpected other i.place) g e))

  pub comparison_fails : (g : MatchFault) → comparison x i ≡ Err g → Fails (comparison x) (SomeComparison x) (t.Field x ∷ ts) i g
  comparison_fails g e = comparison_each (token i) g refl (sym (comparison_at i (token i) refl) ∙ e)
