-- Where the reading of a value fails, and how the text could go on there.
use Rattle.std.specs.Prelude.{◌≡◌, ◌⊎◌, ◌≤◌, ◌<◌, ◌-◌, ◌^◌, ℕ, Bool, true, false, cond, ◌&&◌, ◌||◌, ◌==◌, List, [], ◌∷◌, ◌++◌, length, Option, Some, None, Ok, Err, bit_and}
use Rattle.std.specs.List.{list_all}
use Rattle.std.specs.Fmt.{decimal}
use Rattle.std.specs.Int.Bits.{and_self}
use Rattle.std.proofs.Common.{refl, ap, ◌∙◌, sym, subst, inl, inr, arith}
use Rattle.std.proofs.lemmas.Bool.Decides.{Decides-eqb}
use Rattle.std.proofs.lemmas.Fmt.{decimal_nonempty}
use mathlib.Core.Bool.{true≢false, false≢true}
use Rattle.match_language.specs.declared.expr.Value.{Value}
use Rattle.match_language.specs.declared.expr.Value.TheVariants as v
use Rattle.match_language.specs.declared.expr.Rel.{Rel}
use Rattle.match_language.specs.declared.fault.MatchFault.{MatchFault}
use Rattle.match_language.specs.declared.fault.MatchFault.TheVariants as fault
use Rattle.match_language.specs.declared.field.Field.{Field}
use Rattle.match_language.specs.declared.token.Token.{Token}
use Rattle.match_language.specs.declared.token.Token.TheVariants as t
use Rattle.match_language.specs.Tables.{field_bits, field_max, is_port_field, is_address}
use Rattle.match_language.specs.Relations.{is_equality}
use Rattle.match_language.specs.Tokens.{is_run, word_token}
use Rattle.match_language.specs.Values.{is_constant_token, constant_of, mask_of, number_of, at_most, dotted_mask, ether_mask}
use Rattle.match_language.specs.Constants.{◌>>=◌ as ◌>?=◌}
use Rattle.match_language.specs.Input.{Input, token, next, quoted, skip}
use Rattle.match_language.specs.Grammar.{is_slash, IsOne}
use Rattle.match_language.specs.Grammar.IsOne.{unmasked, masked, port, of_group, of_set}
use Rattle.match_language.specs.Nesting.{TakesValue}
use Rattle.match_language.specs.Nesting.TakesValue.{takes_number, takes_port}
use Rattle.match_language.specs.Spelling.{value_text}
use Rattle.match_language.specs.FirstFault as ff
use Rattle.match_language.specs.FirstFault.{after, Same, Shares, tokens_seen, wanted, fault_by, is_value, is_outside, back, is_passed, is_some, takes_mask, misplaced}
use Rattle.match_language.specs.FirstFault.Wanted.{wants_value, wants_mask, wants_more}
use Rattle.match_language.specs.Reading.{Read, ◌>>=◌, unexpected, masked_value, mask, mask_by, after_constant, number_by, number, where_taken, one_by, one}
use Rattle.match_language.proofs.Steps.{done, failed, never, chosen}
use Rattle.match_language.proofs.Depth.{chosen_some, passed_some, bind_some, at_most_is}
use Rattle.match_language.proofs.Begins.{Follows, begins_run}
use Rattle.match_language.proofs.PrintLaws.{decimal_word, decimal_passes, digits_run, ip4_word, mac_word}
use Rattle.match_language.proofs.AgainValues.{one_again, at_most_within, field_max_small}
use Rattle.match_language.proofs.OnlyValues.{mask_constant}
use Rattle.match_language.proofs.CommonParts.{plus, is_plain, Fails, fails_here}
use Rattle.match_language.proofs.TokenMoves.{constant_is, constant_value, constant_plain, other_settled}

-- ---- failed steps

pub err_is : {A : Type 0} (f g : MatchFault) → failed {A = A} f ≡ failed g → f ≡ g
err_is f g e = cc

pub bind_err : {A B : Type 0} (r : Read A) (f : A × Input → Read B) (g : MatchFault) → (r >>= f) ≡ Err g → (r ≡ Err g) ⊎ ((x : A × Input) × ((r ≡ Ok x) × (f x ≡ Err g)))
bind_err (Ok x) f g e = inr (x, (refl, e))
bind_err (Err d) f g e = inl (ap (λ (x : MatchFault). failed x) (err_is d g e))

pub err_never : {A : Type 0} (x : A) (g : MatchFault) → done x ≡ failed g → ⊥
err_never x g e = never g x (sym e)

-- ---- a value that could stand there

-- some value stands beside the field and the relation
abbrev pub Admits : Field → Rel → Type 0
Admits f r = (is_port_field f ≡ false) ⊎ ((is_port_field f ≡ true) × (is_equality r ≡ true))

pub sample : (f : Field) (r : Rel) → Admits f r → (y : Value) × TakesValue f r y
sample f r (inl e) = (v.Number 0 (field_max f), takes_number f r 0 e (omega arith))
sample f r (inr e) = (v.Port [], takes_port f r [] e.0 e.1 refl)

pub constant_bare : (k : Token) → is_constant_token k ≡ true → is_slash k ≡ false
constant_bare t.Slash e = absurd (false≢true e)
constant_bare _ e = refl

pub one_bare : (f : Field) (r : Rel) (x : Value) (i j : Input) → IsOne f r x i j → is_slash (token i) ≡ false
one_bare _ _ _ _ _ (unmasked f r n i is bare) = constant_bare (token i) (constant_is f (token i) n is)
one_bare _ _ _ _ _ (masked f r n m i eq is slash of within) = constant_bare (token i) (constant_is f (token i) n is)
one_bare _ _ _ _ _ (port f r i is eq at) = ap is_slash at
one_bare _ _ _ _ _ (of_group f r name i is eq at) = ap is_slash at
one_bare _ _ _ _ _ (of_set f r name i is eq at) = ap is_slash at

pub sample_bare : (f : Field) (r : Rel) (y : Value) → TakesValue f r y → (rest : List ℕ) → Follows rest → (q : ℕ) → is_slash (token (skip q (value_text f y ++ rest))) ≡ false
sample_bare f r y h rest follows q = let a = one_again f r y h rest follows q in one_bare f r y (skip q (value_text f y ++ rest)) (skip a.0 rest) a.1

abbrev pub SomeOne : Field → Rel → Input → Input → Type 0
SomeOne f r k l = (x : Value) × IsOne f r x k l

pub sample_stands : (f : Field) (r : Rel) (y : Value) → TakesValue f r y → (rest : List ℕ) → Follows rest → (q : ℕ) → (l : ℕ) × SomeOne f r (skip q (value_text f y ++ rest)) (skip l rest)
sample_stands f r y h rest follows q = let a = one_again f r y h rest follows q in (a.0, (y, a.1))

-- ---- what stands before a value

-- Behind these tokens a value of the field stands, as the relation takes it.
pub record ValueDue (f : Field) (r : Rel) (ts : List Token) (i : Input) : Type 0 where
  pub compares : ff.compared ts ≡ Some (f, r)
  pub valued : (c : Token) → is_value c ≡ true → (p : ℕ) → fault_by (wanted ts) c p ≡ fault.BadConstant p
  pub other : is_value (token i) ≡ false → (p : ℕ) → fault_by (wanted ts) (token i) p ≡ unexpected (token i) p
  pub settled : is_passed (token i ∷ ts) ≡ false
  pub clean : (c : Token) → is_outside ts c ≡ false
  pub alone : is_equality r ≡ false → (k : Token) → is_constant_token k ≡ true → is_passed (t.Slash ∷ k ∷ ts) ≡ true

more_valued : (c : Token) (p : ℕ) → is_value c ≡ true → fault_by wants_more c p ≡ fault.BadConstant p
more_valued t.Bad p e = absurd (false≢true e)
more_valued c p e = ap (λ (b : Bool). misplaced b p) e

more_other : (c : Token) (p : ℕ) → is_value c ≡ false → fault_by wants_more c p ≡ unexpected c p
more_other t.Bad p e = refl
more_other c p e = ap (λ (b : Bool). misplaced b p) e

value_valued : (c : Token) (p : ℕ) → is_value c ≡ true → fault_by wants_value c p ≡ fault.BadConstant p
value_valued t.Bad p e = absurd (false≢true e)
value_valued c p e = ap (λ (b : Bool). misplaced (b || ff.is_open_brace c) p) e

value_other : (c : Token) (p : ℕ) → is_value c ≡ false → ff.is_open_brace c ≡ false → fault_by wants_value c p ≡ unexpected c p
value_other t.Bad p e g = refl
value_other c p e g = ap (λ (b : Bool). misplaced (b || ff.is_open_brace c) p) e ∙ ap (λ (b : Bool). misplaced b p) g

mask_valued : (c : Token) (p : ℕ) → is_constant_token c ≡ true → fault_by wants_mask c p ≡ fault.BadConstant p
mask_valued t.Bad p e = absurd (false≢true e)
mask_valued c p e = ap (λ (b : Bool). misplaced b p) e

mask_other : (c : Token) (p : ℕ) → is_constant_token c ≡ false → fault_by wants_mask c p ≡ unexpected c p
mask_other t.Bad p e = refl
mask_other c p e = ap (λ (b : Bool). misplaced b p) e

-- in braces
pub more_due : (f : Field) (r : Rel) (ts : List Token) (i : Input) → is_equality r ≡ true → ff.compared ts ≡ Some (f, r) → wanted ts ≡ wants_more → is_passed (token i ∷ ts) ≡ false → ((d : Token) → is_outside ts d ≡ false) → ValueDue f r ts i
more_due f r ts i eq compares wants settled clean = record {
  compares = compares;
  valued = λ c e p. ap (λ (w : ff.Wanted). fault_by w c p) wants ∙ more_valued c p e;
  other = λ e p. ap (λ (w : ff.Wanted). fault_by w (token i) p) wants ∙ more_other (token i) p e;
  settled = settled;
  clean = clean;
  alone = λ e k c. absurd (true≢false (sym eq ∙ e));
}

-- behind a relation
pub relation_due : (f : Field) (r : Rel) (ts : List Token) (i : Input) → ff.is_open_brace (token i) ≡ false → ValueDue f r (t.Relation r ∷ t.Field f ∷ ts) i
relation_due f r ts i no_brace = record {
  compares = refl;
  valued = λ c e p. value_valued c p e;
  other = λ e p. value_other (token i) p e no_brace;
  settled = other_settled (token i) (t.Relation r) (t.Field f ∷ ts) refl refl;
  clean = λ c. refl;
  alone = λ e k c. c;
}

-- ---- masks

-- what the token behind the slash is
data Mask : Type 0 where
  wrong : Mask
  unfit : Mask
  outside : Mask
  inside : ℕ → Mask

abbrev under_out : ℕ → Option ℕ → Mask
under_out n (Some m) = cond (bit_and n m == n) (inside m) outside
under_out n None = unfit

abbrev mask_out : Field → Rel → Token → ℕ → Token → Mask
mask_out f r k n m = cond (is_constant_token m) (cond (is_equality r) (under_out n (mask_of f k m)) unfit) wrong

abbrev read_as : ℕ → ℕ → Mask → Token → Input → Read Value
read_as n place wrong m j = Err (unexpected m j.place)
read_as n place unfit m j = Err (fault.BadConstant j.place)
read_as n place outside m j = Err (fault.BadConstant place)
read_as n place (inside k) m j = Ok (v.Number n k, next j)

cond_through : {A B : Type 0} (g : A → B) (b : Bool) (x y : A) → g (cond b x y) ≡ cond b (g x) (g y)
cond_through g true x y = refl
cond_through g false x y = refl

under_same : (n place : ℕ) (o : Option ℕ) (m : Token) (j : Input) → read_as n place (under_out n o) m j ≡ masked_value n place o j
under_same n place (Some k) m j = cond_through (λ (x : Mask). read_as n place x m j) (bit_and n k == n) (inside k) outside
under_same n place None m j = refl

mask_same : (f : Field) (r : Rel) (k : Token) (n place : ℕ) (m : Token) (j : Input) → read_as n place (mask_out f r k n m) m j ≡ mask_by f r k n place m j
mask_same f r k n place m j =
    cond_through (λ (x : Mask). read_as n place x m j) (is_constant_token m) (cond (is_equality r) (under_out n (mask_of f k m)) unfit) wrong
    ∙ ap (λ (x : Read Value). cond (is_constant_token m) x (Err (unexpected m j.place)))
    (cond_through (λ (x : Mask). read_as n place x m j) (is_equality r) (under_out n (mask_of f k m)) unfit
    ∙ ap (λ (x : Read Value). cond (is_equality r) x (Err (fault.BadConstant j.place))) (under_same n place (mask_of f k m) m j))

no_wrong : (n : ℕ) → inside n ≡ wrong → ⊥
no_wrong n e = absurd cc

unfit_wrong : unfit ≡ wrong → ⊥
unfit_wrong e = absurd cc

outside_wrong : outside ≡ wrong → ⊥
outside_wrong e = absurd cc

unfit_outside : unfit ≡ outside → ⊥
unfit_outside e = absurd cc

wrong_outside : wrong ≡ outside → ⊥
wrong_outside e = absurd cc

wrong_unfit : wrong ≡ unfit → ⊥
wrong_unfit e = absurd cc

inside_unfit : (n : ℕ) → inside n ≡ unfit → ⊥
inside_unfit n e = absurd cc

outside_unfit : outside ≡ unfit → ⊥
outside_unfit e = absurd cc

under_no_wrong : (n : ℕ) (o : Option ℕ) → under_out n o ≡ wrong → ⊥
under_no_wrong n None e = unfit_wrong e
under_no_wrong n (Some m) e = elim (chosen (bit_and n m == n) (inside m) outside wrong e) [
  | inl h ↦ no_wrong m h.1
  | inr h ↦ outside_wrong h.1
]

-- what is wrong is no constant
wrong_is : (f : Field) (r : Rel) (k : Token) (n : ℕ) (m : Token) → mask_out f r k n m ≡ wrong → is_constant_token m ≡ false
wrong_is f r k n m e = elim (chosen (is_constant_token m) (cond (is_equality r) (under_out n (mask_of f k m)) unfit) wrong wrong e) [
  | inl h ↦ elim (chosen (is_equality r) (under_out n (mask_of f k m)) unfit wrong h.1) [
    | inl g ↦ absurd (under_no_wrong n (mask_of f k m) g.1)
    | inr g ↦ absurd (unfit_wrong g.1)
  ]
  | inr h ↦ h.0
]

under_unfit : (n : ℕ) (o : Option ℕ) → under_out n o ≡ unfit → is_some o ≡ false
under_unfit n None e = refl
under_unfit n (Some m) e = elim (chosen (bit_and n m == n) (inside m) outside unfit e) [
  | inl h ↦ absurd (inside_unfit m h.1)
  | inr h ↦ absurd (outside_unfit h.1)
]

-- what does not fit is a constant, and no mask of the field stands there
unfit_is : (f : Field) (r : Rel) (k : Token) (n : ℕ) (m : Token) → mask_out f r k n m ≡ unfit → (is_constant_token m ≡ true) × ((is_equality r && is_some (mask_of f k m)) ≡ false)
unfit_is f r k n m e = elim (chosen (is_constant_token m) (cond (is_equality r) (under_out n (mask_of f k m)) unfit) wrong unfit e) [
  | inl h ↦ (
    h.0,
    elim (chosen (is_equality r) (under_out n (mask_of f k m)) unfit unfit h.1) [
      | inl g ↦ ap (λ (b : Bool). b && is_some (mask_of f k m)) g.0 ∙ under_unfit n (mask_of f k m) g.1
      | inr g ↦ ap (λ (b : Bool). b && is_some (mask_of f k m)) g.0
    ],
  )
  | inr h ↦ absurd (wrong_unfit h.1)
]

under_outside : (n : ℕ) (o : Option ℕ) → under_out n o ≡ outside → is_some o ≡ true
under_outside n None e = absurd (unfit_outside e)
under_outside n (Some m) e = refl

-- a mask stands there
outside_is : (f : Field) (r : Rel) (k : Token) (n : ℕ) (m : Token) → mask_out f r k n m ≡ outside → (is_constant_token m ≡ true) × ((is_equality r && is_some (mask_of f k m)) ≡ true)
outside_is f r k n m e = elim (chosen (is_constant_token m) (cond (is_equality r) (under_out n (mask_of f k m)) unfit) wrong outside e) [
  | inl h ↦ (
    h.0,
    elim (chosen (is_equality r) (under_out n (mask_of f k m)) unfit outside h.1) [
      | inl g ↦ ap (λ (b : Bool). b && is_some (mask_of f k m)) g.0 ∙ under_outside n (mask_of f k m) g.1
      | inr g ↦ absurd (unfit_outside g.1)
    ],
  )
  | inr h ↦ absurd (wrong_outside h.1)
]

-- what is no constant is no mask
no_mask : (f : Field) (k m : Token) (o : Option ℕ) → mask_of f k m ≡ o → is_constant_token m ≡ false → is_some o ≡ false
no_mask f k m None e bare = refl
no_mask f k m (Some n) e bare = absurd (true≢false (sym (mask_constant f k m n e) ∙ bare))

and_false : (a b : Bool) → b ≡ false → (a && b) ≡ false
and_false true b e = e
and_false false b e = refl

-- a word that is the constant's own number, as a mask behind it
record OwnMask (f : Field) (k : Token) (n : ℕ) : Type 0 where
  pub word : List ℕ
  pub some : 0 < length word
  pub runs : list_all is_run word ≡ true
  pub is : mask_of f k (word_token word) ≡ Some n

own_number : (f : Field) (k : Token) (n : ℕ) → ((m : Token) → mask_of f k m ≡ number_of m >?= at_most (field_max f)) → n ≤ field_max f → OwnMask f k n
own_number f k n is within =
    let small = field_max_small f in
    let fits : n < 2 ^ 64 = omega (arith, within, small) in
    record {
      word = decimal n;
      some = decimal_nonempty n fits;
      runs = decimal_passes is_run digits_run n fits;
      is = is (word_token (decimal n)) ∙ ap (λ (o : Option ℕ). o >?= at_most (field_max f)) (decimal_word n fits).number ∙ at_most_within (field_max f) n within;
    }

own_mask : (f : Field) (k : Token) (n : ℕ) → constant_of f k ≡ Some n → OwnMask f k n
own_mask f (t.Dotted m) n e =
    let a = chosen_some (field_bits f == 32) (at_most (field_max f) m) n e in
    let within = at_most_is (field_max f) m n a.1 in
    let bits = (Decides-eqb (field_bits f) 32).0 a.0 in
    let most : n ≤ 0xffff_ffff = subst (λ (k : ℕ). n ≤ 2 ^ k - 1) bits within in
    let w = ip4_word n most in
    record { word = _; some = w.some; runs = w.runs; is = ap (dotted_mask f) w.is ∙ at_most_within (field_max f) n within }
own_mask f (t.Ether m) n e =
    let a = chosen_some (field_bits f == 48) (at_most (field_max f) m) n e in
    let within = at_most_is (field_max f) m n a.1 in
    let bits = (Decides-eqb (field_bits f) 48).0 a.0 in
    let most : n ≤ 0xffff_ffff_ffff = subst (λ (k : ℕ). n ≤ 2 ^ k - 1) bits within in
    let w = mac_word n most in
    record { word = _; some = w.some; runs = w.runs; is = ap (ether_mask f) w.is ∙ at_most_within (field_max f) n within }
own_mask f other n e =
    let a = passed_some (is_port_field f) (number_of other >?= at_most (field_max f)) n e in
    let b = bind_some (number_of other) (at_most (field_max f)) n a.1 in
    own_number f other n (λ m. refl) (at_most_is (field_max f) b.0 n b.1)

-- ---- one value

module _ (f : Field) (r : Rel) (admits : Admits f r) (ts : List Token) (i : Input) (due : ValueDue f r ts i) where
  wrong_here : (g : MatchFault) → g ≡ fault_by (wanted ts) (token i) i.place → ((k : Input) → token i ≡ token k → (d : MatchFault) × (one f r k ≡ Err d)) → Fails (one f r) (SomeOne f r) ts i g
  wrong_here g is same =
      let y = sample f r admits in
      fails_here (one f r) ts i g is (due.clean (token i)) due.settled same (λ rest. value_text f y.0 ++ rest) (sample_bare f r y.0 y.1) (sample_stands f r y.0 y.1)

  one_at : (k : Input) (c : Token) → token k ≡ c → one f r k ≡ one_by f r c k
  unfolding one
  one_at k c at = ap (λ (x : Token). one_by f r x k) at

  taken_err : (b : Bool) (x : Value) (g : MatchFault) → where_taken b x i ≡ Err g → (b ≡ false) × (g ≡ fault.BadConstant i.place)
  taken_err true x g e = absurd (err_never (x, next i) g e)
  taken_err false x g e = (refl, sym (err_is {A = Value × Input} (fault.BadConstant i.place) g e))

  -- a string, a group or a set that is not taken
  not_taken : (c : Token) (b : Bool) (x : Input → Value) (g : MatchFault) → token i ≡ c → is_value c ≡ true → ((k : Input) → one_by f r c k ≡ where_taken b (x k) k) → where_taken b (x i) i ≡ Err g → Fails (one f r) (SomeOne f r) ts i g
  not_taken c b x g at value reads e =
      let a = taken_err b (x i) g e in
      wrong_here g (a.1 ∙ sym (due.valued (token i) (ap is_value at ∙ value) i.place))
      (λ k s. (fault.BadConstant k.place, one_at k c (sym s ∙ at) ∙ reads k ∙ ap (λ (y : Bool). where_taken y (x k) k) a.0))

  -- no value at all
  no_value : (c : Token) (g : MatchFault) → token i ≡ c → is_value c ≡ false → ((k : Input) → one_by f r c k ≡ Err (unexpected c k.place)) → failed {A = Value × Input} (unexpected c i.place) ≡ failed g → Fails (one f r) (SomeOne f r) ts i g
  no_value c g at value reads e =
      wrong_here g (sym (err_is {A = Value × Input} (unexpected c i.place) g e) ∙ ap (λ (x : Token). unexpected x i.place) (sym at) ∙ sym (due.other (ap is_value at ∙ value) i.place))
      (λ k s. (unexpected c k.place, one_at k c (sym s ∙ at) ∙ reads k))

  -- a constant and what follows it
  abbrev constant_read : Token → ℕ → Input → Read Value
  constant_read k n j = after_constant f r k n j.place (token (next j)) (next j)

  constant_slash : (k : Token) (n : ℕ) (j : Input) → token (next j) ≡ t.Slash → constant_read k n j ≡ read_as n j.place (mask_out f r k n (token (next (next j)))) (token (next (next j))) (next (next j))
  unfolding mask
  constant_slash k n j slash = ap (λ (c : Token). after_constant f r k n j.place c (next j)) slash ∙ sym (mask_same f r k n j.place (token (next (next j))) (next (next j)))

  -- how a constant is read
  abbrev Constant : Token → Type 0
  Constant k = (j : Input) → one_by f r k j ≡ number f r k j

  read_constant : (k : Token) (n : ℕ) → Constant k → constant_of f k ≡ Some n → (j : Input) → token j ≡ k → one f r j ≡ constant_read k n j
  unfolding number
  read_constant k n reads is j at = one_at j k at ∙ reads j ∙ ap (λ (o : Option ℕ). number_by f r k o j) is

  -- the mask fails
  module _ (k : Token) (n : ℕ) (at : token i ≡ k) (reads : Constant k) (is : constant_of f k ≡ Some n) (slash : token (next i) ≡ t.Slash) where
    mask_fails : (g : MatchFault) (named : ℕ) → 2 ≡ plus named (back (token (next i) ∷ token i ∷ ts) (token (next (next i))))
        → g ≡ fault_by (wanted (token (next i) ∷ token i ∷ ts)) (token (next (next i))) (after named i).place
        → ((j : Input) → token (next (next i)) ≡ token (next (next j)) → (d : MatchFault) × (read_as n j.place (mask_out f r k n (token (next (next j)))) (token (next (next j))) (next (next j)) ≡ Err d))
        → (b : Bool) → is_equality r ≡ b → Fails (one f r) (SomeOne f r) ts i g
    mask_fails g named place shows fails true eq =
        let own = own_mask f k n is in
        record {
          index = 2;
          named = named;
          at = place;
          is = shows;
          settled = ap (λ (c : Token). is_passed (token (next (next i)) ∷ c ∷ token i ∷ ts)) slash ∙ other_settled (token (next (next i))) t.Slash (token i ∷ ts) refl refl;
          same = λ j s.
              let e = fails j s.1.1.0.0 in
              (e.0, read_constant k n reads is j (sym s.0.0 ∙ at) ∙ constant_slash k n j (sym s.1.0.0 ∙ slash) ∙ e.1);
          kept = 2;
          gap = inl refl;
          plain = (constant_plain (token i) (constant_is f (token i) n (ap (constant_of f) at ∙ is)), (ap is_plain slash, tt));
          tail = λ rest. own.word ++ rest;
          bare = λ rest follows q.
              let b = begins_run q own.word rest own.some own.runs follows.runs in
              ap is_slash b.is ∙ constant_bare (word_token own.word) (mask_constant f k (word_token own.word) n own.is);
          goes = λ rest follows j s q e.
              let b = begins_run q own.word rest own.some own.runs follows.runs in
              let third : token (next (next j)) ≡ word_token own.word = ap token e ∙ b.is in
              let first = sym s.0.0 ∙ at in
              let of : mask_of f (token j) (token (next (next j))) ≡ Some n = ap (λ (x : Token). mask_of f x (token (next (next j)))) first ∙ ap (mask_of f k) third ∙ own.is in
              let made = masked f r n n j eq (ap (constant_of f) first ∙ is) (sym s.1.0.0 ∙ slash) of (and_self n) in
              (b.place, (v.Number n n, subst (λ (l : Input). IsOne f r (v.Number n n) j l) (ap next e ∙ b.after) made));
        }
    mask_fails g named place shows fails false eq =
        let constant = constant_is f k n is in
        record {
          index = 2;
          named = named;
          at = place;
          is = shows;
          settled = ap (λ (c : Token). is_passed (token (next (next i)) ∷ c ∷ token i ∷ ts)) slash ∙ other_settled (token (next (next i))) t.Slash (token i ∷ ts) refl refl;
          same = λ j s.
              let e = fails j s.1.1.0.0 in
              (e.0, read_constant k n reads is j (sym s.0.0 ∙ at) ∙ constant_slash k n j (sym s.1.0.0 ∙ slash) ∙ e.1);
          kept = 1;
          gap = inr (refl, ap (λ (c : Token). is_passed (c ∷ token i ∷ ts)) slash ∙ due.alone eq (token i) (ap is_constant_token at ∙ constant));
          plain = (constant_plain (token i) (ap is_constant_token at ∙ constant), tt);
          tail = λ rest. rest;
          bare = λ rest follows q. follows.slash q;
          goes = λ rest follows j s q e.
              let made = unmasked f r n j (ap (constant_of f) (sym s.0.0 ∙ at) ∙ is) (ap (λ (l : Input). is_slash (token l)) e ∙ follows.slash q) in
              (q, (v.Number n (field_max f), subst (λ (l : Input). IsOne f r (v.Number n (field_max f)) j l) e made));
        }

    -- what was seen when the mask comes
    seen_mask : (m : Token) → is_outside (token (next i) ∷ token i ∷ ts) m ≡ (is_equality r && is_some (mask_of f k m))
    seen_mask m =
        ap (λ (c : Token). is_outside (c ∷ token i ∷ ts) m) slash ∙ ap (λ (c : Token). takes_mask (ff.compared ts) c m) at
        ∙ ap (λ (o : Option (Field × Rel)). takes_mask o k m) due.compares

    shown : (m : Token) (p : ℕ) → fault_by (wanted (token (next i) ∷ token i ∷ ts)) m p ≡ fault_by wants_mask m p
    shown m p = ap (λ (c : Token). fault_by (wanted (c ∷ token i ∷ ts)) m p) slash

    -- at the mask
    back_none : (m : Token) → (is_equality r && is_some (mask_of f k m)) ≡ false → 2 ≡ plus 2 (back (token (next i) ∷ token i ∷ ts) m)
    back_none m e = ap (λ (b : Bool). plus 2 (cond b 2 0)) (sym (seen_mask m ∙ e))

    back_two : (m : Token) → (is_equality r && is_some (mask_of f k m)) ≡ true → 2 ≡ plus 0 (back (token (next i) ∷ token i ∷ ts) m)
    back_two m e = ap (λ (b : Bool). plus 0 (cond b 2 0)) (sym (seen_mask m ∙ e))

    masked_fails : (g : MatchFault) (o : Mask) → mask_out f r k n (token (next (next i))) ≡ o → read_as n i.place o (token (next (next i))) (next (next i)) ≡ Err g → Fails (one f r) (SomeOne f r) ts i g
    masked_fails g wrong w e =
        let m = token (next (next i)) in
        let bare = wrong_is f r k n m w in
        mask_fails g 2 (back_none m (and_false (is_equality r) (is_some (mask_of f k m)) (no_mask f k m (mask_of f k m) refl bare)))
        (sym (err_is {A = Value × Input} (unexpected m (next (next i)).place) g e) ∙ sym (shown m (next (next i)).place ∙ mask_other m (next (next i)).place bare))
        (λ j s. (unexpected (token (next (next j))) (next (next j)).place, ap (λ (x : Mask). read_as n j.place x (token (next (next j))) (next (next j))) (ap (mask_out f r k n) (sym s) ∙ w)))
        (is_equality r) refl
    masked_fails g unfit w e =
        let m = token (next (next i)) in
        let a = unfit_is f r k n m w in
        mask_fails g 2 (back_none m a.1)
        (sym (err_is {A = Value × Input} (fault.BadConstant (next (next i)).place) g e) ∙ sym (shown m (next (next i)).place ∙ mask_valued m (next (next i)).place a.0))
        (λ j s. (fault.BadConstant (next (next j)).place, ap (λ (x : Mask). read_as n j.place x (token (next (next j))) (next (next j))) (ap (mask_out f r k n) (sym s) ∙ w)))
        (is_equality r) refl
    masked_fails g outside w e =
        let m = token (next (next i)) in
        let a = outside_is f r k n m w in
        mask_fails g 0 (back_two m a.1)
        (sym (err_is {A = Value × Input} (fault.BadConstant i.place) g e) ∙ sym (shown m i.place ∙ mask_valued m i.place a.0))
        (λ j s. (fault.BadConstant j.place, ap (λ (x : Mask). read_as n j.place x (token (next (next j))) (next (next j))) (ap (mask_out f r k n) (sym s) ∙ w)))
        (is_equality r) refl
    masked_fails g (inside m) w e = absurd (err_never (v.Number n m, next (next (next i))) g e)

  after_fails : (k : Token) (n : ℕ) (g : MatchFault) → token i ≡ k → Constant k → constant_of f k ≡ Some n → (c : Token) → token (next i) ≡ c → after_constant f r k n i.place c (next i) ≡ Err g → Fails (one f r) (SomeOne f r) ts i g
  after_fails k n g at reads is t.Slash slash e =
      masked_fails k n at reads is slash g (mask_out f r k n (token (next (next i)))) refl
      (sym (constant_slash k n i slash) ∙ ap (λ (c : Token). after_constant f r k n i.place c (next i)) slash ∙ e)
  after_fails k n g at reads is _ next_is e = absurd (err_never (v.Number n (field_max f), next i) g e)

  number_fails : (k : Token) (g : MatchFault) → token i ≡ k → is_constant_token k ≡ true → Constant k → (o : Option ℕ) → constant_of f k ≡ o → number_by f r k o i ≡ Err g → Fails (one f r) (SomeOne f r) ts i g
  unfolding number
  number_fails k g at constant reads None is e =
      wrong_here g (sym (err_is {A = Value × Input} (fault.BadConstant i.place) g e) ∙ sym (due.valued (token i) (ap is_value at ∙ constant_value k constant) i.place))
      (λ j s. (fault.BadConstant j.place, one_at j k (sym s ∙ at) ∙ reads j ∙ ap (λ (o : Option ℕ). number_by f r k o j) is))
  number_fails k g at constant reads (Some n) is e = after_fails k n g at reads is (token (next i)) refl e

  constant_fails : (k : Token) (g : MatchFault) → token i ≡ k → is_constant_token k ≡ true → Constant k → number f r k i ≡ Err g → Fails (one f r) (SomeOne f r) ts i g
  unfolding number
  constant_fails k g at constant reads e = number_fails k g at constant reads (constant_of f k) refl e

  one_each : (c : Token) (g : MatchFault) → token i ≡ c → one_by f r c i ≡ Err g → Fails (one f r) (SomeOne f r) ts i g
  one_each t.Text g at e = not_taken t.Text (is_port_field f && is_equality r) (λ k. v.Port (quoted k)) g at refl (λ k. refl) e
  one_each (t.Group name) g at e = not_taken (t.Group name) (is_port_field f && is_equality r) (λ k. v.Group name) g at refl (λ k. refl) e
  one_each (t.Set name) g at e = not_taken (t.Set name) (is_address f && is_equality r) (λ k. v.Set name) g at refl (λ k. refl) e
  one_each (t.Bit b) g at e = constant_fails (t.Bit b) g at refl (λ k. refl) e
  one_each (t.Number n) g at e = constant_fails (t.Number n) g at refl (λ k. refl) e
  one_each (t.Hex n) g at e = constant_fails (t.Hex n) g at refl (λ k. refl) e
  one_each (t.Dotted n) g at e = constant_fails (t.Dotted n) g at refl (λ k. refl) e
  one_each (t.Ether n) g at e = constant_fails (t.Ether n) g at refl (λ k. refl) e
  one_each t.BadConstant g at e = constant_fails t.BadConstant g at refl (λ k. refl) e
  one_each other g at e = no_value other g at refl (λ k. refl) e

  pub one_fails : (g : MatchFault) → one f r i ≡ Err g → Fails (one f r) (SomeOne f r) ts i g
  unfolding one
  one_fails g e = one_each (token i) g refl e
