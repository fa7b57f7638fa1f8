-- Each token but the end takes bytes.
use Rattle.std.specs.Prelude.{◌≡◌, ◌⊎◌, ◌≤◌, ◌+◌, ℕ, Bool, true, false, cond, ◌==◌, nat_lt, List, [], ◌∷◌, length, take, drop}
use Rattle.std.specs.List.{prefix_len}
use Rattle.std.proofs.Common.{refl, ap, ◌∙◌, sym, subst, arith}
use Rattle.std.proofs.Common.{length-drop, inl, inr}
use mathlib.Core.Bool.{true≢false}
use Rattle.match_language.specs.declared.expr.Rel.TheVariants.{Eq, Ne, Lt, Le, Gt, Ge}
use Rattle.match_language.specs.declared.token.Token.{Token}
use Rattle.match_language.specs.declared.token.Token.TheVariants as t
use Rattle.match_language.specs.Tokens.{is_run, run_len, first_token, symbol, pair, first_is, string_token, quoted_len, set_token, group_token, name_len, is_name_len, word_token}
use Rattle.match_language.specs.Input.{Input, token, next, skip, blanks, left}

-- the token takes a byte
abbrev Takes : Token × ℕ → Type 0
Takes x = 1 ≤ x.1

either : (b : Bool) (x y : Token × ℕ) → Takes x → Takes y → Takes (cond b x y)
either true x y h g = h
either false x y h g = g

pair_takes : (rest : List ℕ) (b : ℕ) (both alone : Token) → Takes (pair rest b both alone)
pair_takes rest b both alone = either (first_is b rest) (both, 2) (alone, 1) (omega arith) (omega arith)

string_takes : (rest : List ℕ) → Takes (string_token rest)
unfolding string_token
string_takes rest = either (nat_lt (quoted_len rest) (length rest)) (t.Text, quoted_len rest + 2) (t.Bad, 1) (omega arith) (omega arith)

set_takes : (rest : List ℕ) → Takes (set_token rest)
unfolding set_token
set_takes rest = either (is_name_len (name_len rest)) (t.Set (take (name_len rest) rest), name_len rest + 1) (t.Bad, 1) (omega arith) (omega arith)

group_takes : (rest : List ℕ) → Takes (group_token rest)
unfolding group_token
group_takes rest = either (is_name_len (name_len rest)) (t.Group (take (name_len rest) rest), name_len rest + 1) (t.Bad, 1) (omega arith) (omega arith)

symbol_takes : (b : ℕ) (rest : List ℕ) → Takes (symbol b rest)
symbol_takes b rest =
    either (b == 40) _ _ (omega arith) (either (b == 41) _ _ (omega arith)
    (either (b == 123) _ _ (omega arith) (either (b == 125) _ _ (omega arith)
    (either (b == 44) _ _ (omega arith) (either (b == 47) _ _ (omega arith)
    (either (b == 33) _ _ (pair_takes rest 61 (t.Relation Ne) t.Bang)
    (either (b == 38) _ _ (pair_takes rest 38 t.And t.Bad)
    (either (b == 124) _ _ (pair_takes rest 124 t.Or t.Bad)
    (either (b == 61) _ _ (pair_takes rest 61 (t.Relation Eq) t.Bad)
    (either (b == 60) _ _ (pair_takes rest 61 (t.Relation Le) (t.Relation Lt))
    (either (b == 62) _ _ (pair_takes rest 61 (t.Relation Ge) (t.Relation Gt))
    (either (b == 34) _ _ (string_takes rest)
    (either (b == 36) _ _ (set_takes rest)
    (either (b == 64) _ _ (group_takes rest) (omega arith)))))))))))))))

run_takes : (b : ℕ) (rest : List ℕ) → is_run b ≡ true → 1 ≤ run_len (b ∷ rest)
run_takes b rest run = subst (λ (c : Bool). 1 ≤ cond c (1 + prefix_len is_run rest) 0) (sym run) (omega arith)

first_takes_by : (b : ℕ) (rest : List ℕ) (r : Bool) → is_run b ≡ r → Takes (cond r (word_token (take (run_len (b ∷ rest)) (b ∷ rest)), run_len (b ∷ rest)) (symbol b rest))
first_takes_by b rest true run = run_takes b rest run
first_takes_by b rest false run = symbol_takes b rest

pub first_takes : (b : ℕ) (rest : List ℕ) → Takes (first_token (b ∷ rest))
unfolding first_token
first_takes b rest = first_takes_by b rest (is_run b) refl

-- the next token stands no earlier
pub next_no_longer : (i : Input) → left (next i) ≤ left i
unfolding next skip
next_no_longer i =
    let rest = drop (first_token i.text).1 i.text in
    let a = length-drop (first_token i.text).1 i.text in
    let b = length-drop (blanks rest) rest in
    omega (arith, a, b)

shorter_by : (place : ℕ) (text : List ℕ) → (text ≡ []) ⊎ (left (next (record { place = place; text = text })) + 1 ≤ length text)
unfolding next skip
shorter_by place [] = inl refl
shorter_by place (c ∷ text) =
    let rest = drop (first_token (c ∷ text)).1 (c ∷ text) in
    let a = length-drop (first_token (c ∷ text)).1 (c ∷ text) in
    let b = length-drop (blanks rest) rest in
    let some = first_takes c text in
    inr (omega (arith, a, b, some))

-- whether it is the end
abbrev pub is_end : Token → Bool
is_end t.End = true
is_end _ = false

empty_ends : (i : Input) → i.text ≡ [] → is_end (token i) ≡ true
unfolding token first_token
empty_ends i e = ap (λ (text : List ℕ). is_end (first_token text).0) e

-- behind a token that isn't the end, fewer bytes are left
pub next_shorter : (i : Input) → is_end (token i) ≡ false → left (next i) + 1 ≤ left i
next_shorter i other = elim (shorter_by i.place i.text) [
  | inl empty ↦ absurd (true≢false (sym (empty_ends i empty) ∙ other))
  | inr fewer ↦ fewer
]

empty_by : (text : List ℕ) → length text ≤ 0 → (first_token text).0 ≡ t.End
unfolding first_token
empty_by [] small = refl
empty_by (b ∷ text) small = absurd (omega (arith, small))

-- where no byte is left, the text ends
pub empty_token : (i : Input) → left i ≤ 0 → token i ≡ t.End
unfolding token
empty_token i small = empty_by i.text small

empty_next_by : (place : ℕ) (text : List ℕ) → length text ≤ 0 → (left (next (record { place = place; text = text })) ≤ 0) × ((next (record { place = place; text = text })).place ≡ place)
unfolding next skip first_token
empty_next_by place [] small = (omega arith, omega arith)
empty_next_by place (b ∷ text) small = absurd (omega (arith, small))

-- and ends behind it, at the same place
pub empty_next : (i : Input) → left i ≤ 0 → (left (next i) ≤ 0) × ((next i).place ≡ i.place)
empty_next i small = empty_next_by i.place i.text small
