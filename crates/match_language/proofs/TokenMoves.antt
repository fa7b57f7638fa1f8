-- What stands between two places stands wherever the same tokens are.
use Rattle.std.specs.Prelude.{◌≡◌, ℕ, suc, Bool, true, false, cond, ◌&&◌, List, [], ◌∷◌, Some, None}
use Rattle.std.proofs.Common.{refl, ap, ◌∙◌, sym, subst}
use mathlib.Core.Bool.{true≢false, false≢true}
use Rattle.match_language.specs.declared.expr.Expr.{Expr}
use Rattle.match_language.specs.declared.expr.Value.{Value}
use Rattle.match_language.specs.declared.expr.Value.TheVariants as v
use Rattle.match_language.specs.declared.expr.Rel.{Rel}
use Rattle.match_language.specs.declared.field.Field.{Field}
use Rattle.match_language.specs.declared.field.Predicate.{Predicate}
use Rattle.match_language.specs.declared.field.Direction.{Direction}
use Rattle.match_language.specs.declared.token.Token.{Token}
use Rattle.match_language.specs.declared.token.Token.TheVariants as t
use Rattle.match_language.specs.Tables.{is_port_field}
use Rattle.match_language.specs.Values.{is_constant_token, constant_of, mask_of}
use Rattle.match_language.specs.Input.{Input, token, next, quoted}
use Rattle.match_language.specs.Grammar.{is_slash, IsOne, IsList, IsValues, IsTerm, IsExpr, IsJoined}
use Rattle.match_language.specs.Grammar.IsOne.{unmasked, masked, port, of_group, of_set}
use Rattle.match_language.specs.Grammar.IsList.{last_value, with_comma, without_comma}
use Rattle.match_language.specs.Grammar.IsValues.{one_value, in_braces}
use Rattle.match_language.specs.Grammar.IsTerm.{constant, predicate, compared, negated, grouped}
use Rattle.match_language.specs.Grammar.IsExpr.{alone, all_of, any_of}
use Rattle.match_language.specs.Grammar.IsJoined.{last_term, before_others}
use Rattle.match_language.specs.FirstFault as ff
use Rattle.match_language.specs.FirstFault.{Same, Wanted, wanted, is_value, is_outside, is_passed}
use Rattle.match_language.specs.FirstFault.Wanted.{wants_term, wants_relation, wants_value, wants_mask, wants_more, wants_operator}
use Rattle.match_language.proofs.OnlyValues.{mask_constant}
use Rattle.match_language.proofs.CommonParts.{is_plain, Moves, single, then, weaken}

-- ---- tokens

pub constant_plain : (k : Token) → is_constant_token k ≡ true → is_plain k ≡ true
constant_plain t.Bad e = absurd (false≢true e)
constant_plain t.End e = absurd (false≢true e)
constant_plain _ e = refl

pub constant_value : (k : Token) → is_constant_token k ≡ true → is_value k ≡ true
constant_value t.Text e = refl
constant_value (t.Set name) e = refl
constant_value (t.Group name) e = refl
constant_value k e = e

no_number : (b : Bool) (n : ℕ) → cond b None None ≡ Some n → ⊥
no_number true n e = absurd cc
no_number false n e = absurd cc

-- what writes a number beside a field is a constant
pub constant_is : (f : Field) (k : Token) (n : ℕ) → constant_of f k ≡ Some n → is_constant_token k ≡ true
constant_is f (t.Bit b) n e = refl
constant_is f (t.Number m) n e = refl
constant_is f (t.Hex m) n e = refl
constant_is f (t.Dotted m) n e = refl
constant_is f (t.Ether m) n e = refl
constant_is f t.BadConstant n e = refl
constant_is f other n e = absurd (no_number (is_port_field f) n e)

-- ---- what was seen

-- behind a value stands what stands before it: more values in braces, else an operator
pub record Past (ts us : List Token) (c : Token) : Type 0 where
  pub wants : wanted us ≡ cond (ff.in_braces ts) wants_more wants_operator
  pub braces : ff.in_braces us ≡ ff.in_braces ts
  pub compares : ff.compared us ≡ ff.compared ts
  pub settled : is_passed (c ∷ us) ≡ false
  pub clean : (d : Token) → is_outside us d ≡ false

-- behind a term stands an operator
pub record Ended (us : List Token) (c : Token) : Type 0 where
  pub wants : wanted us ≡ wants_operator
  pub settled : is_passed (c ∷ us) ≡ false
  pub clean : (d : Token) → is_outside us d ≡ false

-- a slash is not passed behind what is no constant
pub lone : (k : Token) (ts : List Token) → is_constant_token k ≡ false → is_passed (t.Slash ∷ k ∷ ts) ≡ false
lone k [] e = refl
lone k (t.Relation r ∷ ts) e = e
lone k (_ ∷ ts) e = refl

-- nor is a slash behind a constant that is a mask
masked_settled : (c m k : Token) (ts : List Token) → is_constant_token m ≡ true → is_passed (c ∷ m ∷ t.Slash ∷ k ∷ ts) ≡ false
masked_settled (t.Relation r) (t.Field f) k ts e = absurd (false≢true e)
masked_settled (t.Relation r) _ k ts e = refl
masked_settled _ m k ts e = refl

unmasked_settled : (c k : Token) (ts : List Token) → is_constant_token k ≡ true → is_slash c ≡ false → is_passed (c ∷ k ∷ ts) ≡ false
unmasked_settled t.Slash k ts e bare = absurd (true≢false bare)
unmasked_settled (t.Relation r) (t.Field f) ts e bare = absurd (false≢true e)
unmasked_settled (t.Relation r) _ ts e bare = refl
unmasked_settled _ k ts e bare = refl

-- behind what is neither a field nor a constant nothing is passed
abbrev pub is_field : Token → Bool
is_field (t.Field f) = true
is_field _ = false

pub other_settled : (c k : Token) (ts : List Token) → is_constant_token k ≡ false → is_field k ≡ false → is_passed (c ∷ k ∷ ts) ≡ false
other_settled t.Slash k ts e g = lone k ts e
other_settled (t.Relation r) (t.Field f) ts e g = absurd (true≢false g)
other_settled (t.Relation r) _ ts e g = refl
other_settled _ k ts e g = refl

value_clean : (k d : Token) (ts : List Token) → is_value k ≡ true → is_outside (k ∷ ts) d ≡ false
value_clean t.Slash d ts e = absurd (false≢true e)
value_clean _ d ts e = refl

value_compared : (k : Token) (ts : List Token) → is_value k ≡ true → ff.compared (k ∷ ts) ≡ ff.compared ts
value_compared (t.Relation r) ts e = absurd (false≢true e)
value_compared _ ts e = refl

-- the rows of the table behind a value
value_braces : (k : Token) (ts : List Token) → is_value k ≡ true → ff.in_braces (k ∷ ts) ≡ ff.in_braces ts
value_braces t.OpenBrace ts e = absurd (false≢true e)
value_braces t.Comma ts e = refl
value_braces t.Slash ts e = refl
value_braces t.Text ts e = refl
value_braces (t.Set name) ts e = refl
value_braces (t.Group name) ts e = refl
value_braces k ts e = ap (λ (b : Bool). b && ff.in_braces ts) e

value_wants : (k : Token) (ts : List Token) → is_value k ≡ true → wanted (k ∷ ts) ≡ cond (ff.in_braces (k ∷ ts)) wants_more wants_operator
value_wants t.Bang ts e = absurd (false≢true e)
value_wants t.Open ts e = absurd (false≢true e)
value_wants t.And ts e = absurd (false≢true e)
value_wants t.Or ts e = absurd (false≢true e)
value_wants (t.Field f) ts e = absurd (false≢true e)
value_wants (t.Relation r) ts e = absurd (false≢true e)
value_wants t.Slash ts e = absurd (false≢true e)
value_wants _ ts e = refl

-- one token that is a value
past_value : (k c : Token) (ts : List Token) → is_value k ≡ true → is_passed (c ∷ k ∷ ts) ≡ false → Past ts (k ∷ ts) c
past_value k c ts e settled = record {
  wants = value_wants k ts e ∙ ap (λ (b : Bool). cond b wants_more wants_operator) (value_braces k ts e);
  braces = value_braces k ts e;
  compares = value_compared k ts e;
  settled = settled;
  clean = λ d. value_clean k d ts e;
}

-- a constant, a slash and its mask
past_masked : (k m c : Token) (ts : List Token) → is_constant_token k ≡ true → is_constant_token m ≡ true → Past ts (m ∷ t.Slash ∷ k ∷ ts) c
past_masked k m c ts e g =
    let value = constant_value k e in
    let mask = constant_value m g in
    let us = t.Slash ∷ k ∷ ts in
    record {
      wants = value_wants m us mask ∙ ap (λ (b : Bool). cond b wants_more wants_operator) (value_braces m us mask ∙ value_braces k ts value);
      braces = value_braces m us mask ∙ value_braces k ts value;
      compares = value_compared m us mask ∙ value_compared k ts value;
      settled = masked_settled c m k ts g;
      clean = λ d. value_clean m d us mask;
    }

-- ---- values

value_by : (f : Field) (r : Rel) (i : Input) (k : Token) (x : Value) (ts : List Token) → token i ≡ k → is_plain k ≡ true → is_value k ≡ true → is_constant_token k ≡ false → is_field k ≡ false → ((l : Input) → Same i l → IsOne f r x l (next l))
    → Moves (IsOne f r x) (λ us. Past ts us (token (next i))) ts i (next i)
value_by f r i k x ts at plain value no_constant no_field same =
    single ts i (ap is_plain at ∙ plain)
    (past_value (token i) (token (next i)) ts (ap is_value at ∙ value) (other_settled (token (next i)) (token i) ts (ap is_constant_token at ∙ no_constant) (ap is_field at ∙ no_field)))
    same

pub one_moves : (f : Field) (r : Rel) (x : Value) (i j : Input) → IsOne f r x i j → (ts : List Token) → Moves (IsOne f r x) (λ us. Past ts us (token j)) ts i j
one_moves _ _ _ _ _ (unmasked f r n i is bare) ts =
    let constant = constant_is f (token i) n is in
    record {
      more = 0;
      there = refl;
      plain = (constant_plain (token i) constant, tt);
      same = λ k s tame. unmasked f r n k (ap (constant_of f) (sym s.0.0) ∙ is) (tame bare);
      left = past_value (token i) (token (next i)) ts (constant_value (token i) constant) (unmasked_settled (token (next i)) (token i) ts constant bare);
    }
one_moves _ _ _ _ _ (masked f r n m i eq is slash of within) ts =
    let constant = constant_is f (token i) n is in
    let mask = mask_constant f (token i) (token (next (next i))) m of in
    let c = token (next (next (next i))) in
    record {
      more = 2;
      there = refl;
      plain = (constant_plain (token i) constant, (ap is_plain slash, (constant_plain (token (next (next i))) mask, tt)));
      same = λ k s tame.
          masked f r n m k eq (ap (constant_of f) (sym s.0.0) ∙ is) (sym s.1.0.0 ∙ slash)
          (ap (λ (x : Token). mask_of f x (token (next (next k)))) (sym s.0.0) ∙ ap (mask_of f (token i)) (sym s.1.1.0.0) ∙ of) within;
      left = subst (λ (x : Token). Past ts (token (next (next i)) ∷ x ∷ token i ∷ ts) c) (sym slash) (past_masked (token i) (token (next (next i))) c ts constant mask);
    }
one_moves _ _ _ _ _ (port f r i is eq at) ts =
    value_by f r i t.Text (v.Port (quoted i)) ts at refl refl refl refl
    (λ l s. subst (λ (text : List ℕ). IsOne f r (v.Port text) l (next l)) (sym (s.1 at)) (port f r l is eq (sym s.0 ∙ at)))
one_moves _ _ _ _ _ (of_group f r name i is eq at) ts = value_by f r i (t.Group name) (v.Group name) ts at refl refl refl refl (λ l s. of_group f r name l is eq (sym s.0 ∙ at))
one_moves _ _ _ _ _ (of_set f r name i is eq at) ts = value_by f r i (t.Set name) (v.Set name) ts at refl refl refl refl (λ l s. of_set f r name l is eq (sym s.0 ∙ at))

abbrev Any : List Token → Type 0
Any us = Unit {0}

-- a token between
abbrev pub Stands : Token → Input → Input → Type 0
Stands c k l = (token k ≡ c) × (l ≡ next k)

pub token_moves : (c : Token) (i : Input) (ts : List Token) → token i ≡ c → is_plain c ≡ true → Moves (Stands c) (λ us. us ≡ c ∷ ts) ts i (next i)
token_moves c i ts at plain = single ts i (ap is_plain at ∙ plain) (ap (λ (x : Token). x ∷ ts) at) (λ k s. (sym s.0 ∙ at, refl))

-- a value and the comma behind it
abbrev WithComma : Field → Rel → Value → Input → Input → Type 0
WithComma f r x k e = (m : Input) × (IsOne f r x k m × Stands t.Comma m e)

comma_moves : (f : Field) (r : Rel) (x : Value) (i j : Input) (ts : List Token) → token j ≡ t.Comma → Moves (IsOne f r x) (λ us. Past ts us (token j)) ts i j → Moves (WithComma f r x) Any ts i (next j)
comma_moves f r x i j ts at M = then ts i j (next j) M (λ us g. weaken us j (next j) (λ k l g. g) (λ us g. tt) (token_moves t.Comma j us at refl)) (λ k m e a b. (m, (a, b)))

-- a brace and the values behind it
abbrev Opened : Field → Rel → List Value → Input → Input → Type 0
Opened f r xs k e = (token k ≡ t.OpenBrace) × IsList f r xs (next k) e

-- a relation and the values behind it
abbrev Related : Field → Rel → List Value → Input → Input → Type 0
Related f r xs k e = (token k ≡ t.Relation r) × IsValues f r xs (next k) e

pub list_moves : (f : Field) (r : Rel) (xs : List Value) (i j : Input) → IsList f r xs i j → (ts : List Token) → Moves (IsList f r xs) Any ts i j
list_moves _ _ _ _ _ (last_value f r x i j h) ts = weaken ts i j (λ k l g. last_value f r x k l g) (λ us g. tt) (one_moves f r x i j h ts)
list_moves _ _ _ _ _ (with_comma f r x xs i j k h at hs) ts =
    then ts i (next j) k (comma_moves f r x i j ts at (one_moves f r x i j h ts))
    (λ us g. list_moves f r xs (next j) k hs us)
    (λ k m e a b. with_comma f r x xs k a.0 e a.1.0 a.1.1.0 (subst (λ (y : Input). IsList f r xs y e) a.1.1.1 b))
list_moves _ _ _ _ _ (without_comma f r x xs i j k h hs) ts =
    then ts i j k (one_moves f r x i j h ts) (λ us g. list_moves f r xs j k hs us) (λ k m e a b. without_comma f r x xs k m e a b)

closed : (c : Token) (us : List Token) → Ended (t.CloseBrace ∷ us) c
closed c us = record { wants = refl; settled = other_settled c t.CloseBrace us refl refl; clean = λ d. refl }

pub values_moves : (f : Field) (r : Rel) (xs : List Value) (i j : Input) → IsValues f r xs i j → (ts : List Token) → ff.in_braces ts ≡ false → Moves (IsValues f r xs) (λ us. Ended us (token j)) ts i j
values_moves _ _ _ _ _ (one_value f r x i j h) ts out =
    weaken ts i j (λ k l g. one_value f r x k l g)
    (λ us g. record { wants = g.wants ∙ ap (λ (b : Bool). cond b wants_more wants_operator) out; settled = g.settled; clean = g.clean }) (one_moves f r x i j h ts)
values_moves _ _ _ _ _ (in_braces f r xs i j eq at h close) ts out =
    then ts i j (next j)
    (then {H = Opened f r xs} ts i (next i) j (token_moves t.OpenBrace i ts at refl) (λ us g. list_moves f r xs (next i) j h us) (λ k m e a b. (a.0, subst (λ (y : Input). IsList f r xs y e) a.1 b)))
    (λ us g. weaken us j (next j) (λ k l g. g) (λ vs e. subst (λ (x : List Token). Ended x (token (next j))) (sym e) (closed (token (next j)) us)) (token_moves t.CloseBrace j us close refl))
    (λ k m e a b. subst (λ (y : Input). IsValues f r xs k y) (sym b.1) (in_braces f r xs k m eq a.0 a.1 b.0))

-- ---- terms

-- behind these tokens a term begins
pub record Opens (ts : List Token) : Type 0 where
  pub wants : wanted ts ≡ wants_term
  pub braces : ff.in_braces ts ≡ false
  pub lone : (k : Token) → is_passed (t.Slash ∷ k ∷ ts) ≡ false
  pub settled : (c : Token) → is_passed (c ∷ ts) ≡ false
  pub clean : (c : Token) → is_outside ts c ≡ false

first_settled : (c : Token) → is_passed (c ∷ []) ≡ false
first_settled t.Slash = refl
first_settled (t.Relation r) = refl
first_settled _ = refl

pub at_first : Opens []
at_first = record { wants = refl; braces = refl; lone = λ k. refl; settled = first_settled; clean = λ c. refl }

pub behind_bang : (ts : List Token) → Opens (t.Bang ∷ ts)
behind_bang ts = record { wants = refl; braces = refl; lone = λ k. refl; settled = λ c. other_settled c t.Bang ts refl refl; clean = λ c. refl }

pub behind_open : (ts : List Token) → Opens (t.Open ∷ ts)
behind_open ts = record { wants = refl; braces = refl; lone = λ k. refl; settled = λ c. other_settled c t.Open ts refl refl; clean = λ c. refl }

-- an operator
pub record Operates (op : Token) : Type 0 where
  pub plain : is_plain op ≡ true
  pub opens : (ts : List Token) → Opens (op ∷ ts)

pub and_operates : Operates t.And
and_operates = record { plain = refl; opens = λ ts. record { wants = refl; braces = refl; lone = λ k. refl; settled = λ c. other_settled c t.And ts refl refl; clean = λ c. refl } }

pub or_operates : Operates t.Or
or_operates = record { plain = refl; opens = λ ts. record { wants = refl; braces = refl; lone = λ k. refl; settled = λ c. other_settled c t.Or ts refl refl; clean = λ c. refl } }

bit_settled : (c : Token) (b : Bool) (ts : List Token) → Opens ts → is_passed (c ∷ t.Bit b ∷ ts) ≡ false
bit_settled t.Slash b ts h = h.lone (t.Bit b)
bit_settled (t.Relation r) b ts h = refl
bit_settled _ b ts h = refl

bit_ended : (c : Token) (b : Bool) (ts : List Token) → Opens ts → Ended (t.Bit b ∷ ts) c
bit_ended c b ts h = record { wants = ap (λ (x : Bool). cond x wants_more wants_operator) h.braces; settled = bit_settled c b ts h; clean = λ d. refl }

predicate_ended : (c : Token) (p : Predicate) (ts : List Token) → Ended (t.Predicate p ∷ ts) c
predicate_ended c p ts = record { wants = refl; settled = other_settled c (t.Predicate p) ts refl refl; clean = λ d. refl }

close_ended : (c : Token) (ts : List Token) → Ended (t.Close ∷ ts) c
close_ended c ts = record { wants = refl; settled = other_settled c t.Close ts refl refl; clean = λ d. refl }

-- a term and the operator behind it
abbrev pub WithOperator : Direction → ℕ → Token → Expr → Input → Input → Type 0
WithOperator way n op x k e = (m : Input) × (IsTerm way n x k m × Stands op m e)

pub operator_moves : (way : Direction) (n : ℕ) (op : Token) (x : Expr) (i j : Input) (ts : List Token) → Operates op → token j ≡ op → Moves (IsTerm way n x) (λ us. Ended us (token j)) ts i j → Moves (WithOperator way n op x) Opens ts i (next j)
operator_moves way n op x i j ts operates at M =
    then ts i j (next j) M
    (λ us g. weaken us j (next j) (λ k l g. g) (λ vs e. subst Opens (sym e) (operates.opens us)) (token_moves op j us at operates.plain))
    (λ k m e a b. (m, (a, b)))

-- `(` and the expression behind it
abbrev Inside : Direction → ℕ → Expr → Input → Input → Type 0
Inside way n x k e = (token k ≡ t.Open) × IsExpr way n x (next k) e

mutual
  pub term_moves : (way : Direction) (n : ℕ) (x : Expr) (i j : Input) → IsTerm way n x i j → (ts : List Token) → Opens ts → Moves (IsTerm way n x) (λ us. Ended us (token j)) ts i j
  term_moves _ _ _ _ _ (constant way n b i at) ts h =
      single ts i (ap is_plain at) (subst (λ (c : Token). Ended (c ∷ ts) (token (next i))) (sym at) (bit_ended (token (next i)) b ts h)) (λ k s. constant way n b k (sym s.0 ∙ at))
  term_moves _ _ _ _ _ (predicate way n p i at) ts h =
      single ts i (ap is_plain at) (subst (λ (c : Token). Ended (c ∷ ts) (token (next i))) (sym at) (predicate_ended (token (next i)) p ts)) (λ k s. predicate way n p k (sym s.0 ∙ at))
  term_moves _ _ _ _ _ (compared way n f r xs i j at stood rel val) ts h =
      then ts i (next i) j (token_moves (t.Field f) i ts at refl)
      (λ us g. then {H = Related f r xs} us (next i) (next (next i)) j (token_moves (t.Relation r) (next i) us rel refl)
      (λ vs e. values_moves f r xs (next (next i)) j val vs (ap ff.in_braces e)) (λ k m e a b. (a.0, subst (λ (y : Input). IsValues f r xs y e) a.1 b)))
      (λ k m e a b. compared way n f r xs k e a.0 stood (subst (λ (y : Input). token y ≡ t.Relation r) a.1 b.0) (subst (λ (y : Input). IsValues f r xs (next y) e) a.1 b.1))
  term_moves _ _ _ _ _ (negated way n x i j at h) ts o =
      then ts i (next i) j (token_moves t.Bang i ts at refl) (λ us g. term_moves way n x (next i) j h us (subst Opens (sym g) (behind_bang ts)))
      (λ k m e a b. negated way n x k e a.0 (subst (λ (y : Input). IsTerm way n x y e) a.1 b))
  term_moves _ _ _ _ _ (grouped way n x i j at h close) ts o =
      then ts i j (next j)
      (then {H = Inside way n x} ts i (next i) j (token_moves t.Open i ts at refl) (λ us g. expr_moves way n x (next i) j h us (subst Opens (sym g) (behind_open ts))) (λ k m e a b. (a.0, subst (λ (y : Input). IsExpr way n x y e) a.1 b)))
      (λ us g. weaken us j (next j) (λ k l g. g) (λ vs e. subst (λ (y : List Token). Ended y (token (next j))) (sym e) (close_ended (token (next j)) us)) (token_moves t.Close j us close refl))
      (λ k m e a b. subst (λ (y : Input). IsTerm way (suc n) x k y) (sym b.1) (grouped way n x k m a.0 a.1 b.0))

  pub expr_moves : (way : Direction) (n : ℕ) (x : Expr) (i j : Input) → IsExpr way n x i j → (ts : List Token) → Opens ts → Moves (IsExpr way n x) (λ us. Ended us (token j)) ts i j
  expr_moves _ _ _ _ _ (alone way n x i j h) ts o = weaken ts i j (λ k l g. alone way n x k l g) (λ us g. g) (term_moves way n x i j h ts o)
  expr_moves _ _ _ _ _ (all_of way n x xs i j k h at hs) ts o =
      then ts i (next j) k
      (operator_moves way n t.And x i j ts and_operates at (term_moves way n x i j h ts o))
      (λ us g. joined_moves way n t.And xs (next j) k hs us and_operates g)
      (λ k m e a b. all_of way n x xs k a.0 e a.1.0 a.1.1.0 (subst (λ (y : Input). IsJoined way n t.And xs y e) a.1.1.1 b))
  expr_moves _ _ _ _ _ (any_of way n x xs i j k h at hs) ts o =
      then ts i (next j) k
      (operator_moves way n t.Or x i j ts or_operates at (term_moves way n x i j h ts o))
      (λ us g. joined_moves way n t.Or xs (next j) k hs us or_operates g)
      (λ k m e a b. any_of way n x xs k a.0 e a.1.0 a.1.1.0 (subst (λ (y : Input). IsJoined way n t.Or xs y e) a.1.1.1 b))

  pub joined_moves : (way : Direction) (n : ℕ) (op : Token) (xs : List Expr) (i j : Input) → IsJoined way n op xs i j → (ts : List Token) → Operates op → Opens ts → Moves (IsJoined way n op xs) (λ us. Ended us (token j)) ts i j
  joined_moves _ _ _ _ _ _ (last_term way n op x i j h) ts operates o = weaken ts i j (λ k l g. last_term way n op x k l g) (λ us g. g) (term_moves way n x i j h ts o)
  joined_moves _ _ _ _ _ _ (before_others way n op x xs i j k h at hs) ts operates o =
      then ts i (next j) k
      (operator_moves way n op x i j ts operates at (term_moves way n x i j h ts o))
      (λ us g. joined_moves way n op xs (next j) k hs us operates g)
      (λ k m e a b. before_others way n op x xs k a.0 e a.1.0 a.1.1.0 (subst (λ (y : Input). IsJoined way n op xs y e) a.1.1.1 b))
