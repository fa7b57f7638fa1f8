-- What is printed spells the expression again.
use Rattle.std.specs.Prelude.{◌≡◌, ◌<◌, ◌+◌, ℕ, suc, Bool, true, false, cond, ◌==◌, List, [], ◌∷◌, ◌++◌, map, length, codes}
use Rattle.std.specs.List.{list_all}
use Rattle.std.specs.Cmp.{first_so}
use Rattle.std.proofs.Common.{refl, ap, ◌∙◌, sym, subst, arith, append_assoc}
use Rattle.std.proofs.lemmas.Bool.Decides.{Decides-eqb}
use Rattle.std.proofs.lemmas.List.{append-nil}
use mathlib.Core.Bool.{true≢false}
use Rattle.match_language.specs.declared.expr.Expr.{Expr}
use Rattle.match_language.specs.declared.expr.Expr.TheVariants as ex
use Rattle.match_language.specs.declared.expr.Value.{Value}
use Rattle.match_language.specs.declared.expr.Rel.{Rel}
use Rattle.match_language.specs.declared.expr.Rel.TheVariants as r
use Rattle.match_language.specs.declared.field.Field.{Field}
use Rattle.match_language.specs.declared.field.Field.TheVariants as f
use Rattle.match_language.specs.declared.field.Predicate.{Predicate}
use Rattle.match_language.specs.declared.field.Predicate.TheVariants as p
use Rattle.match_language.specs.declared.field.Direction.{Direction}
use Rattle.match_language.specs.declared.token.Token.{Token}
use Rattle.match_language.specs.declared.token.Token.TheVariants as t
use Rattle.match_language.specs.Tables.{field_name, predicate_name, field_named, predicate_named, stands}
use Rattle.match_language.specs.Relations.{rel_text}
use Rattle.match_language.specs.Tokens.{is_run, word_token, constant_token, first_token}
use Rattle.match_language.specs.Input.{Input, token, next, skip}
use Rattle.match_language.specs.Grammar.{IsTerm, IsExpr, IsJoined, IsValues, SpellsExpr}
use Rattle.match_language.specs.Grammar.IsTerm.{constant, predicate, compared, negated, grouped}
use Rattle.match_language.specs.Grammar.IsExpr.{alone, all_of, any_of}
use Rattle.match_language.specs.Grammar.IsJoined.{last_term, before_others}
use Rattle.match_language.specs.Nesting.{TakesAll, Nests, AllNest, FitsLevels}
use Rattle.match_language.specs.Nesting.Nests.{nests_constant, nests_predicate, nests_compared, nests_negated, nests_all, nests_any}
use Rattle.match_language.specs.Nesting.AllNest.{nests_last, nests_before}
use Rattle.match_language.specs.Nesting.FitsLevels.{fits_one, fits_all, fits_any}
use Rattle.match_language.specs.Spelling.{text_of, spelling, inner_spelling, rest_text, joined_text, values_text, comparison_text, bit_text}
use Rattle.match_language.proofs.ExprTexts.{spells_const, spells_is, spells_not, spells_all, spells_any, spells_compare, joined_const, joined_is, joined_not, joined_all, joined_any, joined_compare}
use Rattle.match_language.proofs.Begins.{Begins, Follows, begins_run, begins_first, begins_open, begins_close, begins_bang, begins_and, begins_or, begins_blank, blank_skipped, end_follows, close_follows, and_follows, or_follows}
use Rattle.match_language.proofs.AgainValues.{values_again}
use Rattle.match_language.proofs.Depth.{spelled_fits}

-- ---- the names of the tables

field_token : (x : Field) → word_token (field_name x) ≡ t.Field x
unfolding word_token field_named
field_token f.EthSrc = refl
field_token _ = refl

predicate_token : (x : Predicate) → word_token (predicate_name x) ≡ t.Predicate x
unfolding word_token field_named predicate_named
predicate_token p.Ip4 = refl
predicate_token _ = refl

field_run : (x : Field) → list_all is_run (field_name x) ≡ true
field_run f.EthSrc = refl
field_run _ = refl

predicate_run : (x : Predicate) → list_all is_run (predicate_name x) ≡ true
predicate_run p.Ip4 = refl
predicate_run _ = refl

field_some : (x : Field) → 0 < length (field_name x)
field_some f.EthSrc = omega arith
field_some _ = omega arith

predicate_some : (x : Predicate) → 0 < length (predicate_name x)
predicate_some p.Ip4 = omega arith
predicate_some _ = omega arith

bit_token : (b : Bool) → word_token (bit_text b) ≡ t.Bit b
unfolding word_token constant_token
bit_token true = refl
bit_token false = refl

bit_run : (b : Bool) → list_all is_run (bit_text b) ≡ true
bit_run true = refl
bit_run false = refl

bit_some : (b : Bool) → 0 < length (bit_text b)
bit_some true = omega arith
bit_some false = omega arith

pub relation_begins : (x : Rel) (p : ℕ) (rest : List ℕ) → Begins p (rel_text x ++ (32 ∷ rest)) (t.Relation x) (32 ∷ rest)
unfolding first_token
relation_begins r.Eq p rest = begins_first p 61 (61 ∷ 32 ∷ rest) (t.Relation r.Eq) 2 (32 ∷ rest) refl refl refl
relation_begins r.Ne p rest = begins_first p 33 (61 ∷ 32 ∷ rest) (t.Relation r.Ne) 2 (32 ∷ rest) refl refl refl
relation_begins r.Lt p rest = begins_first p 60 (32 ∷ rest) (t.Relation r.Lt) 1 (32 ∷ rest) refl refl refl
relation_begins r.Le p rest = begins_first p 60 (61 ∷ 32 ∷ rest) (t.Relation r.Le) 2 (32 ∷ rest) refl refl refl
relation_begins r.Gt p rest = begins_first p 62 (32 ∷ rest) (t.Relation r.Gt) 1 (32 ∷ rest) refl refl refl
relation_begins r.Ge p rest = begins_first p 62 (61 ∷ 32 ∷ rest) (t.Relation r.Ge) 2 (32 ∷ rest) refl refl refl

-- ---- terms

-- wherever the text stands, it is the term up to the rest
abbrev IsTermIn : Direction → ℕ → Expr → List ℕ → List ℕ → Type 0
IsTermIn way n x text rest = (p : ℕ) → (q : ℕ) × IsTerm way n x (skip p text) (skip q rest)

pub const_in : (way : Direction) (n : ℕ) (b : Bool) (rest : List ℕ) → Follows rest → IsTermIn way n (ex.Const b) (bit_text b ++ rest) rest
const_in way n b rest follows p =
    let a = begins_run p (bit_text b) rest (bit_some b) (bit_run b) follows.runs in
    let i = skip p (bit_text b ++ rest) in
    (a.place, subst (λ (j : Input). IsTerm way n (ex.Const b) i j) a.after (constant way n b i (a.is ∙ bit_token b)))

is_in : (way : Direction) (n : ℕ) (x : Predicate) (rest : List ℕ) → Follows rest → IsTermIn way n (ex.Is x) (predicate_name x ++ rest) rest
is_in way n x rest follows p =
    let a = begins_run p (predicate_name x) rest (predicate_some x) (predicate_run x) follows.runs in
    let i = skip p (predicate_name x ++ rest) in
    (a.place, subst (λ (j : Input). IsTerm way n (ex.Is x) i j) a.after (predicate way n x i (a.is ∙ predicate_token x)))

compare_in : (way : Direction) (n : ℕ) (x : Field) (y : Rel) (ys : List Value) (rest : List ℕ) → stands way x ≡ true → TakesAll x y ys → Follows rest
    → IsTermIn way n (ex.Compare x y ys) (field_name x ++ (32 ∷ (rel_text y ++ (32 ∷ (values_text x ys ++ rest))))) rest
compare_in way n x y ys rest stood h follows p =
    let values = values_text x ys ++ rest in
    let behind = 32 ∷ (rel_text y ++ (32 ∷ values)) in
    let a = begins_run p (field_name x) behind (field_some x) (field_run x) refl in
    let i = skip p (field_name x ++ behind) in
    let at_rel : next i ≡ skip (a.place + 1) (rel_text y ++ (32 ∷ values)) = a.after ∙ blank_skipped a.place (rel_text y ++ (32 ∷ values)) in
    let b = relation_begins y (a.place + 1) values in
    let at_values : next (next i) ≡ skip (b.place + 1) values = ap next at_rel ∙ b.after ∙ blank_skipped b.place values in
    let c = values_again x y ys h rest follows (b.place + 1) in
    let moved = subst (λ (j : Input). IsValues x y ys j (skip c.0 rest)) (sym at_values) c.1 in
    (c.0, compared way n x y ys i (skip c.0 rest) (a.is ∙ field_token x) stood (ap token at_rel ∙ b.is) moved)

-- the first byte of a text isn't `=`
abbrev NoEquals : List ℕ → Type 0
NoEquals [] = ⊥
NoEquals (b ∷ text) = (b == 61) ≡ false

bang_in : (way : Direction) (n : ℕ) (x : Expr) (text rest : List ℕ) → NoEquals text → IsTermIn way n x text rest → IsTermIn way (suc n) (ex.Not x) (33 ∷ text) rest
bang_in way n x [] rest other h p = absurd other
bang_in way n x (b ∷ text) rest other h p =
    let a = begins_bang p b text other in
    let c = h a.place in
    let moved = subst (λ (j : Input). IsTerm way n x j (skip c.0 rest)) (sym a.after) c.1 in
    (c.0, negated way n x (skip p (33 ∷ b ∷ text)) (skip c.0 rest) a.is moved)

grouped_in : (way : Direction) (n : ℕ) (x : Expr) (body rest : List ℕ) (p : ℕ) → ((p : ℕ) → (q : ℕ) × IsExpr way n x (skip p (body ++ (41 ∷ rest))) (skip q (41 ∷ rest))) → (q : ℕ) × IsTerm way (suc n) x (skip p ((40 ∷ (body ++ (41 ∷ []))) ++ rest)) (skip q rest)
grouped_in way n x body rest p h =
    let a = begins_open p (body ++ (41 ∷ rest)) in
    let b = h a.place in
    let c = begins_close b.0 rest in
    let i = skip p (40 ∷ (body ++ (41 ∷ rest))) in
    let moved = subst (λ (j : Input). IsExpr way n x j (skip b.0 (41 ∷ rest))) (sym a.after) b.1 in
    let made = grouped way n x i (skip b.0 (41 ∷ rest)) a.is moved c.is in
    let ended = subst (λ (j : Input). IsTerm way (suc n) x i j) c.after made in
    (c.place, subst (λ (w : List ℕ). IsTerm way (suc n) x (skip p (40 ∷ w)) (skip c.place rest)) (sym (append_assoc body (41 ∷ []) rest)) ended)

-- ---- lists

abbrev op_text : Bool → List ℕ
op_text true = codes " && "
op_text false = codes " || "

abbrev op_token : Bool → Token
op_token true = t.And
op_token false = t.Or

op_begins : (is_and : Bool) (p : ℕ) (rest : List ℕ) → (q : ℕ) × (token (skip p (op_text is_and ++ rest)) ≡ op_token is_and) × (next (skip p (op_text is_and ++ rest)) ≡ skip q rest)
op_begins true p rest =
    let a = begins_blank p (38 ∷ 38 ∷ 32 ∷ rest) t.And (32 ∷ rest) (begins_and (p + 1) (32 ∷ rest)) in
    (a.place + 1, a.is, a.after ∙ blank_skipped a.place rest)
op_begins false p rest =
    let a = begins_blank p (124 ∷ 124 ∷ 32 ∷ rest) t.Or (32 ∷ rest) (begins_or (p + 1) (32 ∷ rest)) in
    (a.place + 1, a.is, a.after ∙ blank_skipped a.place rest)

op_follows : (is_and : Bool) (rest : List ℕ) → Follows (op_text is_and ++ rest)
op_follows true rest = and_follows (32 ∷ rest)
op_follows false rest = or_follows (32 ∷ rest)

-- an operator, and the other terms
abbrev GoesOn : Direction → ℕ → Bool → List Expr → List ℕ → List ℕ → Type 0
GoesOn way n is_and xs text rest = (p : ℕ) → (q : ℕ) × (token (skip p text) ≡ op_token is_and) × IsJoined way n (op_token is_and) xs (next (skip p text)) (skip q rest)

-- Where the others go on behind an operator, nothing that a term goes on with stands.
rest_follows : (is_and : Bool) (x : Expr) (xs : List Expr) (rest : List ℕ) → Follows (rest_text (op_text is_and) (map inner_spelling (x ∷ xs)) ++ rest)
rest_follows is_and x xs rest =
    let more = rest_text (op_text is_and) (map inner_spelling xs) in
    subst Follows (sym (append_assoc (op_text is_and) (inner_spelling x ++ more) rest)) (op_follows is_and ((inner_spelling x ++ more) ++ rest))

-- the last of them
last_in : (way : Direction) (n : ℕ) (is_and : Bool) (x : Expr) (rest : List ℕ) → IsTermIn way n x (inner_spelling x ++ rest) rest → GoesOn way n is_and (x ∷ []) (rest_text (op_text is_and) (map inner_spelling (x ∷ [])) ++ rest) rest
last_in way n is_and x rest h p =
    let same : rest_text (op_text is_and) (map inner_spelling (x ∷ [])) ++ rest ≡ op_text is_and ++ (inner_spelling x ++ rest) =
    append_assoc (op_text is_and) (inner_spelling x ++ []) rest ∙ ap (λ (w : List ℕ). op_text is_and ++ w) (append_assoc (inner_spelling x) [] rest) in
    let a = op_begins is_and p (inner_spelling x ++ rest) in
    let b = h a.0 in
    let moved = subst (λ (j : Input). IsTerm way n x j (skip b.0 rest)) (sym a.2) b.1 in
    let made = last_term way n (op_token is_and) x (next (skip p (op_text is_and ++ (inner_spelling x ++ rest)))) (skip b.0 rest) moved in
    (b.0, ap (λ (w : List ℕ). token (skip p w)) same ∙ a.1, subst (λ (w : List ℕ). IsJoined way n (op_token is_and) (x ∷ []) (next (skip p w)) (skip b.0 rest)) (sym same) made)

-- one of them, before others
before_in : (way : Direction) (n : ℕ) (is_and : Bool) (x : Expr) (xs : List Expr) (tail rest : List ℕ) → IsTermIn way n x (inner_spelling x ++ (tail ++ rest)) (tail ++ rest) → GoesOn way n is_and xs (tail ++ rest) rest
    → GoesOn way n is_and (x ∷ xs) ((op_text is_and ++ (inner_spelling x ++ tail)) ++ rest) rest
before_in way n is_and x xs tail rest h hs p =
    let same : (op_text is_and ++ (inner_spelling x ++ tail)) ++ rest ≡ op_text is_and ++ (inner_spelling x ++ (tail ++ rest)) =
    append_assoc (op_text is_and) (inner_spelling x ++ tail) rest ∙ ap (λ (w : List ℕ). op_text is_and ++ w) (append_assoc (inner_spelling x) tail rest) in
    let a = op_begins is_and p (inner_spelling x ++ (tail ++ rest)) in
    let b = h a.0 in
    let c = hs b.0 in
    let moved = subst (λ (j : Input). IsTerm way n x j (skip b.0 (tail ++ rest))) (sym a.2) b.1 in
    let made = before_others way n (op_token is_and) x xs (next (skip p (op_text is_and ++ (inner_spelling x ++ (tail ++ rest))))) (skip b.0 (tail ++ rest)) (skip c.0 rest) moved c.1 c.2 in
    (c.0, ap (λ (w : List ℕ). token (skip p w)) same ∙ a.1, subst (λ (w : List ℕ). IsJoined way n (op_token is_and) (x ∷ xs) (next (skip p w)) (skip c.0 rest)) (sym same) made)

-- wherever the text stands, it is the expression up to the rest
abbrev IsExprIn : Direction → ℕ → Expr → List ℕ → List ℕ → Type 0
IsExprIn way n x text rest = (p : ℕ) → (q : ℕ) × IsExpr way n x (skip p text) (skip q rest)

all_in : (way : Direction) (n : ℕ) (x : Expr) (xs : List Expr) (tail rest : List ℕ) → IsTermIn way n x (inner_spelling x ++ (tail ++ rest)) (tail ++ rest) → GoesOn way n true xs (tail ++ rest) rest
    → IsExprIn way n (ex.All (x ∷ xs)) ((inner_spelling x ++ tail) ++ rest) rest
all_in way n x xs tail rest h hs p =
    let a = h p in
    let c = hs a.0 in
    let made = all_of way n x xs (skip p (inner_spelling x ++ (tail ++ rest))) (skip a.0 (tail ++ rest)) (skip c.0 rest) a.1 c.1 c.2 in
    (c.0, subst (λ (w : List ℕ). IsExpr way n (ex.All (x ∷ xs)) (skip p w) (skip c.0 rest)) (sym (append_assoc (inner_spelling x) tail rest)) made)

any_in : (way : Direction) (n : ℕ) (x : Expr) (xs : List Expr) (tail rest : List ℕ) → IsTermIn way n x (inner_spelling x ++ (tail ++ rest)) (tail ++ rest) → GoesOn way n false xs (tail ++ rest) rest
    → IsExprIn way n (ex.Any (x ∷ xs)) ((inner_spelling x ++ tail) ++ rest) rest
any_in way n x xs tail rest h hs p =
    let a = h p in
    let c = hs a.0 in
    let made = any_of way n x xs (skip p (inner_spelling x ++ (tail ++ rest))) (skip a.0 (tail ++ rest)) (skip c.0 rest) a.1 c.1 c.2 in
    (c.0, subst (λ (w : List ℕ). IsExpr way n (ex.Any (x ∷ xs)) (skip p w) (skip c.0 rest)) (sym (append_assoc (inner_spelling x) tail rest)) made)

-- ---- texts within others

inner_by : (x : Expr) (b : Bool) → (text_of x).is_joined ≡ b → inner_spelling x ≡ cond b (40 ∷ (spelling x ++ (41 ∷ []))) (spelling x)
unfolding inner_spelling spelling
inner_by x b e = ap (λ (c : Bool). cond c (40 ∷ ((text_of x).bare ++ (41 ∷ []))) (text_of x).bare) e

inner_const : (b : Bool) → inner_spelling (ex.Const b) ≡ bit_text b
inner_const b = inner_by (ex.Const b) false (joined_const b) ∙ spells_const b

inner_is : (x : Predicate) → inner_spelling (ex.Is x) ≡ predicate_name x
inner_is x = inner_by (ex.Is x) false (joined_is x) ∙ spells_is x

inner_not : (x : Expr) → inner_spelling (ex.Not x) ≡ 33 ∷ inner_spelling x
inner_not x = inner_by (ex.Not x) false (joined_not x) ∙ spells_not x

inner_compare : (x : Field) (y : Rel) (ys : List Value) → inner_spelling (ex.Compare x y ys) ≡ comparison_text x y ys
inner_compare x y ys = inner_by (ex.Compare x y ys) false (joined_compare x y ys) ∙ spells_compare x y ys

inner_all : (xs : List Expr) → inner_spelling (ex.All xs) ≡ 40 ∷ (joined_text (op_text true) (map inner_spelling xs) ++ (41 ∷ []))
inner_all xs = inner_by (ex.All xs) true (joined_all xs) ∙ ap (λ (w : List ℕ). 40 ∷ (w ++ (41 ∷ []))) (spells_all xs)

inner_any : (xs : List Expr) → inner_spelling (ex.Any xs) ≡ 40 ∷ (joined_text (op_text false) (map inner_spelling xs) ++ (41 ∷ []))
inner_any xs = inner_by (ex.Any xs) true (joined_any xs) ∙ ap (λ (w : List ℕ). 40 ∷ (w ++ (41 ∷ []))) (spells_any xs)

comparison_append : (x : Field) (y : Rel) (ys : List Value) (rest : List ℕ) → comparison_text x y ys ++ rest ≡ field_name x ++ (32 ∷ (rel_text y ++ (32 ∷ (values_text x ys ++ rest))))
comparison_append x y ys rest =
    append_assoc (field_name x) (32 ∷ (rel_text y ++ (32 ∷ values_text x ys))) rest
    ∙ ap (λ (w : List ℕ). field_name x ++ (32 ∷ w)) (append_assoc (rel_text y) (32 ∷ values_text x ys) rest)

equals_by : (b : ℕ) (r : Bool) → (b == 61) ≡ r → is_run b ≡ true → r ≡ false
equals_by b false e run = refl
equals_by b true e run = absurd (true≢false (sym run ∙ ap is_run ((Decides-eqb b 61).0 e)))

-- a word does not begin with `=`
run_no_equals : (w rest : List ℕ) → 0 < length w → list_all is_run w ≡ true → NoEquals (w ++ rest)
run_no_equals [] rest some all = absurd (omega (arith, some))
run_no_equals (b ∷ w) rest some all = equals_by b (b == 61) refl (first_so (is_run b) (list_all is_run w) all)

term_no_equals : (way : Direction) (n : ℕ) (x : Expr) → Nests way n x → (rest : List ℕ) → NoEquals (inner_spelling x ++ rest)
term_no_equals _ _ _ (nests_constant way n b) rest = subst (λ (w : List ℕ). NoEquals (w ++ rest)) (sym (inner_const b)) (run_no_equals (bit_text b) rest (bit_some b) (bit_run b))
term_no_equals _ _ _ (nests_predicate way n x) rest = subst (λ (w : List ℕ). NoEquals (w ++ rest)) (sym (inner_is x)) (run_no_equals (predicate_name x) rest (predicate_some x) (predicate_run x))
term_no_equals _ _ _ (nests_compared way n x y ys stood h) rest =
    subst (λ (w : List ℕ). NoEquals (w ++ rest)) (sym (inner_compare x y ys))
    (subst NoEquals (sym (comparison_append x y ys rest)) (run_no_equals (field_name x) (32 ∷ (rel_text y ++ (32 ∷ (values_text x ys ++ rest)))) (field_some x) (field_run x)))
term_no_equals _ _ _ (nests_negated way n x h) rest = subst (λ (w : List ℕ). NoEquals (w ++ rest)) (sym (inner_not x)) refl
term_no_equals _ _ _ (nests_all way n x xs h hs) rest = subst (λ (w : List ℕ). NoEquals (w ++ rest)) (sym (inner_all (x ∷ xs))) refl
term_no_equals _ _ _ (nests_any way n x xs h hs) rest = subst (λ (w : List ℕ). NoEquals (w ++ rest)) (sym (inner_any (x ∷ xs))) refl

-- behind a term stand other terms
joined_follows : (way : Direction) (n : ℕ) (is_and : Bool) (xs : List Expr) → AllNest way n xs → (rest : List ℕ) → Follows (rest_text (op_text is_and) (map inner_spelling xs) ++ rest)
joined_follows _ _ is_and _ (nests_last way n x h) rest = rest_follows is_and x [] rest
joined_follows _ _ is_and _ (nests_before way n x xs h hs) rest = rest_follows is_and x xs rest

-- ---- the induction

mutual
  term_again : (way : Direction) (n : ℕ) (x : Expr) → Nests way n x → (rest : List ℕ) → Follows rest → IsTermIn way n x (inner_spelling x ++ rest) rest
  term_again _ _ _ (nests_constant way n b) rest follows = subst (λ (w : List ℕ). IsTermIn way n (ex.Const b) (w ++ rest) rest) (sym (inner_const b)) (const_in way n b rest follows)
  term_again _ _ _ (nests_predicate way n x) rest follows = subst (λ (w : List ℕ). IsTermIn way n (ex.Is x) (w ++ rest) rest) (sym (inner_is x)) (is_in way n x rest follows)
  term_again _ _ _ (nests_compared way n x y ys stood h) rest follows =
      subst (λ (w : List ℕ). IsTermIn way n (ex.Compare x y ys) (w ++ rest) rest) (sym (inner_compare x y ys))
      (subst (λ (w : List ℕ). IsTermIn way n (ex.Compare x y ys) w rest) (sym (comparison_append x y ys rest)) (compare_in way n x y ys rest stood h follows))
  term_again _ _ _ (nests_negated way n x h) rest follows =
      subst (λ (w : List ℕ). IsTermIn way (suc n) (ex.Not x) (w ++ rest) rest) (sym (inner_not x))
      (bang_in way n x (inner_spelling x ++ rest) rest (term_no_equals way n x h rest) (term_again way n x h rest follows))
  term_again _ _ _ (nests_all way n x xs h hs) rest follows =
      let tail = rest_text (op_text true) (map inner_spelling xs) in
      let follows_x = joined_follows way n true xs hs (41 ∷ rest) in
      let body = all_in way n x xs tail (41 ∷ rest) (term_again way n x h (tail ++ (41 ∷ rest)) follows_x) (joined_again way n xs hs true (41 ∷ rest) (close_follows rest)) in
      subst (λ (w : List ℕ). IsTermIn way (suc n) (ex.All (x ∷ xs)) (w ++ rest) rest) (sym (inner_all (x ∷ xs))) (λ p. grouped_in way n (ex.All (x ∷ xs)) (joined_text (op_text true) (map inner_spelling (x ∷ xs))) rest p body)
  term_again _ _ _ (nests_any way n x xs h hs) rest follows =
      let tail = rest_text (op_text false) (map inner_spelling xs) in
      let follows_x = joined_follows way n false xs hs (41 ∷ rest) in
      let body = any_in way n x xs tail (41 ∷ rest) (term_again way n x h (tail ++ (41 ∷ rest)) follows_x) (joined_again way n xs hs false (41 ∷ rest) (close_follows rest)) in
      subst (λ (w : List ℕ). IsTermIn way (suc n) (ex.Any (x ∷ xs)) (w ++ rest) rest) (sym (inner_any (x ∷ xs))) (λ p. grouped_in way n (ex.Any (x ∷ xs)) (joined_text (op_text false) (map inner_spelling (x ∷ xs))) rest p body)

  joined_again : (way : Direction) (n : ℕ) (xs : List Expr) → AllNest way n xs → (is_and : Bool) (rest : List ℕ) → Follows rest → GoesOn way n is_and xs (rest_text (op_text is_and) (map inner_spelling xs) ++ rest) rest
  joined_again _ _ _ (nests_last way n x h) is_and rest follows = last_in way n is_and x rest (term_again way n x h rest follows)
  joined_again _ _ _ (nests_before way n x xs h hs) is_and rest follows =
      let tail = rest_text (op_text is_and) (map inner_spelling xs) in
      before_in way n is_and x xs tail rest (term_again way n x h (tail ++ rest) (joined_follows way n is_and xs hs rest)) (joined_again way n xs hs is_and rest follows)

every_again : (way : Direction) (n : ℕ) (x : Expr) (xs : List Expr) → Nests way n x → AllNest way n xs → (rest : List ℕ) → Follows rest → IsExprIn way n (ex.All (x ∷ xs)) (spelling (ex.All (x ∷ xs)) ++ rest) rest
every_again way n x xs h hs rest follows =
    let tail = rest_text (op_text true) (map inner_spelling xs) in
    subst (λ (w : List ℕ). IsExprIn way n (ex.All (x ∷ xs)) (w ++ rest) rest) (sym (spells_all (x ∷ xs)))
    (all_in way n x xs tail rest (term_again way n x h (tail ++ rest) (joined_follows way n true xs hs rest)) (joined_again way n xs hs true rest follows))

some_again : (way : Direction) (n : ℕ) (x : Expr) (xs : List Expr) → Nests way n x → AllNest way n xs → (rest : List ℕ) → Follows rest → IsExprIn way n (ex.Any (x ∷ xs)) (spelling (ex.Any (x ∷ xs)) ++ rest) rest
some_again way n x xs h hs rest follows =
    let tail = rest_text (op_text false) (map inner_spelling xs) in
    subst (λ (w : List ℕ). IsExprIn way n (ex.Any (x ∷ xs)) (w ++ rest) rest) (sym (spells_any (x ∷ xs)))
    (any_in way n x xs tail rest (term_again way n x h (tail ++ rest) (joined_follows way n false xs hs rest)) (joined_again way n xs hs false rest follows))

single : (way : Direction) (n : ℕ) (x : Expr) (rest text : List ℕ) → spelling x ≡ text → inner_spelling x ≡ text → IsTermIn way n x (inner_spelling x ++ rest) rest → IsExprIn way n x (spelling x ++ rest) rest
single way n x rest text e g h p =
    let a = h p in
    let same : inner_spelling x ++ rest ≡ spelling x ++ rest = ap (λ (w : List ℕ). w ++ rest) (g ∙ sym e) in
    (a.0, subst (λ (w : List ℕ). IsExpr way n x (skip p w) (skip a.0 rest)) same (alone way n x (skip p (inner_spelling x ++ rest)) (skip a.0 rest) a.1))

mutual
  term_deeper : (way : Direction) (n : ℕ) (x : Expr) (i j : Input) → IsTerm way n x i j → IsTerm way (suc n) x i j
  term_deeper _ _ _ _ _ (constant way n b i at) = constant way (suc n) b i at
  term_deeper _ _ _ _ _ (predicate way n y i at) = predicate way (suc n) y i at
  term_deeper _ _ _ _ _ (compared way n y z ys i j at stood rel val) = compared way (suc n) y z ys i j at stood rel val
  term_deeper _ _ _ _ _ (negated way n x i j at h) = negated way (suc n) x i j at (term_deeper way n x (next i) j h)
  term_deeper _ _ _ _ _ (grouped way n x i j at h close) = grouped way (suc n) x i j at (expr_deeper way n x (next i) j h) close

  expr_deeper : (way : Direction) (n : ℕ) (x : Expr) (i j : Input) → IsExpr way n x i j → IsExpr way (suc n) x i j
  expr_deeper _ _ _ _ _ (alone way n x i j h) = alone way (suc n) x i j (term_deeper way n x i j h)
  expr_deeper _ _ _ _ _ (all_of way n x xs i j k h at hs) = all_of way (suc n) x xs i j k (term_deeper way n x i j h) at (joined_deeper way n t.And xs (next j) k hs)
  expr_deeper _ _ _ _ _ (any_of way n x xs i j k h at hs) = any_of way (suc n) x xs i j k (term_deeper way n x i j h) at (joined_deeper way n t.Or xs (next j) k hs)

  joined_deeper : (way : Direction) (n : ℕ) (op : Token) (xs : List Expr) (i j : Input) → IsJoined way n op xs i j → IsJoined way (suc n) op xs i j
  joined_deeper _ _ _ _ _ _ (last_term way n op x i j h) = last_term way (suc n) op x i j (term_deeper way n x i j h)
  joined_deeper _ _ _ _ _ _ (before_others way n op x xs i j k h at hs) = before_others way (suc n) op x xs i j k (term_deeper way n x i j h) at (joined_deeper way n op xs (next j) k hs)

deeper_in : (way : Direction) (n : ℕ) (x : Expr) (text rest : List ℕ) → IsExprIn way n x text rest → IsExprIn way (suc n) x text rest
deeper_in way n x text rest h p = let a = h p in (a.0, expr_deeper way n x (skip p text) (skip a.0 rest) a.1)

single_again : (way : Direction) (n : ℕ) (x : Expr) → Nests way n x → (rest : List ℕ) → Follows rest → IsExprIn way n x (spelling x ++ rest) rest
single_again _ _ _ (nests_constant way n b) rest follows = single way n (ex.Const b) rest (bit_text b) (spells_const b) (inner_const b) (term_again way n (ex.Const b) (nests_constant way n b) rest follows)
single_again _ _ _ (nests_predicate way n x) rest follows = single way n (ex.Is x) rest (predicate_name x) (spells_is x) (inner_is x) (term_again way n (ex.Is x) (nests_predicate way n x) rest follows)
single_again _ _ _ (nests_compared way n x y ys stood h) rest follows =
    single way n (ex.Compare x y ys) rest (comparison_text x y ys) (spells_compare x y ys) (inner_compare x y ys) (term_again way n (ex.Compare x y ys) (nests_compared way n x y ys stood h) rest follows)
single_again _ _ _ (nests_negated way n x h) rest follows =
    single way (suc n) (ex.Not x) rest (33 ∷ inner_spelling x) (spells_not x) (inner_not x) (term_again way (suc n) (ex.Not x) (nests_negated way n x h) rest follows)
single_again _ _ _ (nests_all way n x xs h hs) rest follows = deeper_in way n (ex.All (x ∷ xs)) (spelling (ex.All (x ∷ xs)) ++ rest) rest (every_again way n x xs h hs rest follows)
single_again _ _ _ (nests_any way n x xs h hs) rest follows = deeper_in way n (ex.Any (x ∷ xs)) (spelling (ex.Any (x ∷ xs)) ++ rest) rest (some_again way n x xs h hs rest follows)

expr_again : (way : Direction) (n : ℕ) (x : Expr) → FitsLevels way n x → (rest : List ℕ) → Follows rest → IsExprIn way n x (spelling x ++ rest) rest
expr_again _ _ _ (fits_one way n x h) rest follows = single_again way n x h rest follows
expr_again _ _ _ (fits_all way n x xs h hs) rest follows = every_again way n x xs h hs rest follows
expr_again _ _ _ (fits_any way n x xs h hs) rest follows = some_again way n x xs h hs rest follows

pub ended : (q : ℕ) → token (skip q []) ≡ t.End
unfolding token skip first_token
ended q = refl

-- the text of an expression that fits spells it
pub fitting_again : (way : Direction) (x : Expr) → FitsLevels way 64 x → SpellsExpr way (spelling x) x
fitting_again way x h =
    let a = expr_again way 64 x h [] end_follows 0 in
    record {
      end = skip a.0 [];
      body = subst (λ (w : List ℕ). IsExpr way 64 x (skip 0 w) (skip a.0 [])) (append-nil (spelling x)) a.1;
      whole = ended a.0;
    }

-- what a text spells is spelled by its own text
pub again : (way : Direction) (text : List ℕ) (x : Expr) → SpellsExpr way text x → SpellsExpr way (spelling x) x
again way text x h = fitting_again way x (spelled_fits way text x h)
