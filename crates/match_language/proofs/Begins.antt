-- What stands at the front of a text that begins with a token's bytes.
use Rattle.std.specs.Prelude.{◌≡◌, ◌<◌, ◌+◌, ◌-◌, ℕ, zero, suc, Bool, true, false, not, ◌==◌, nat_lt, nat_le, ◌&&◌, ◌||◌, List, [], ◌∷◌, ◌++◌, length, take, drop}
use Rattle.std.specs.List.{prefix_len, list_all}
use Rattle.std.specs.Cmp.{first_so, second_so}
use Rattle.std.proofs.Common.{refl, ap, ◌∙◌, sym, subst, inl, inr, arith, append_assoc, length-append}
use Rattle.std.proofs.Math.Nat.{add-zero}
use Rattle.std.proofs.Math.Seq.{take-append_seam, drop-append_seam}
use Rattle.std.proofs.lemmas.Bool.{cond-true, cond-false, lt-ltb, le-leb, cases_lt}
use Rattle.std.proofs.lemmas.Bool.Decides.{Decides-eqb}
use mathlib.Core.Bool.{true≢false}
use Rattle.ovn_base.specs.names.NameText.{IsName, name_byte}
use Rattle.match_language.specs.declared.token.Token.{Token}
use Rattle.match_language.specs.declared.token.Token.TheVariants as t
use Rattle.match_language.specs.Tokens.{is_token_blank, is_run, first_token, string_token, quoted_len, set_token, group_token, name_len, is_name_len, word_token}
use Rattle.match_language.specs.Input.{Input, token, next, skip, quoted, blanks}
use Rattle.match_language.specs.Grammar.{is_slash}

-- ---- tests of every number below another

abbrev pub all_below : (ℕ → Bool) → ℕ → Bool
all_below p zero = true
all_below p (suc n) = p n && all_below p n

pub test_below : (p : ℕ → Bool) (n : ℕ) → all_below p n ≡ true → (k : ℕ) → k < n → p k ≡ true
test_below p zero h k less = absurd (omega (arith, less))
test_below p (suc n) h k less = elim (cases_lt k n) [
  | inl below ↦ test_below p n (second_so (p n) (all_below p n) h) k below
  | inr above ↦ let same : n ≡ k = omega (arith, less, above) in subst (λ (j : ℕ). p j ≡ true) same (first_so (p n) (all_below p n) h)
]

-- ---- runs

-- the text does not go on with a byte that passes the test
abbrev pub StopsRun : (ℕ → Bool) → List ℕ → Type 0
StopsRun p [] = Unit {0}
StopsRun p (b ∷ rest) = p b ≡ false

prefix_stop : (p : ℕ → Bool) (rest : List ℕ) → StopsRun p rest → prefix_len p rest ≡ 0
prefix_stop p [] h = refl
prefix_stop p (b ∷ rest) h = cond-false (p b) _ _ h

-- the prefix ends where the passing bytes do
pub prefix_exact : (p : ℕ → Bool) (xs rest : List ℕ) → list_all p xs ≡ true → StopsRun p rest → prefix_len p (xs ++ rest) ≡ length xs
prefix_exact p [] rest all stops = prefix_stop p rest stops
prefix_exact p (x ∷ xs) rest all stops =
    let more = prefix_exact p xs rest (second_so (p x) (list_all p xs) all) stops in
    cond-true (p x) _ _ (first_so (p x) (list_all p xs) all) ∙ omega (arith, more)

-- ---- tokens

-- the token stands at the front, and behind it the rest, wherever the text stands
pub record Begins (p : ℕ) (text : List ℕ) (k : Token) (rest : List ℕ) : Type 0 where
  pub is : token (skip p text) ≡ k
  pub place : ℕ
  pub after : next (skip p text) ≡ skip place rest

pub skip_none : (p b : ℕ) (text : List ℕ) → is_token_blank b ≡ false → skip p (b ∷ text) ≡ record { place = p; text = b ∷ text }
unfolding skip
skip_none p b text h =
    let none : blanks (b ∷ text) ≡ 0 = cond-false (is_token_blank b) _ _ h in
    let at : Input = record { place = p; text = b ∷ text } in
    ap (λ (n : ℕ). record at { place = p + n; text = drop n (b ∷ text) }) none ∙ ap (λ (n : ℕ). record at { place = n }) (add-zero p)

pub begins_first : (p b : ℕ) (text : List ℕ) (k : Token) (n : ℕ) (rest : List ℕ) → is_token_blank b ≡ false → first_token (b ∷ text) ≡ (k, n) → drop n (b ∷ text) ≡ rest → Begins p (b ∷ text) k rest
unfolding token next
begins_first p b text k n rest blank e left =
    let here = skip_none p b text blank in
    record {
      is = ap (λ (i : Input). (first_token i.text).0) here ∙ ap (λ (x : Token × ℕ). x.0) e;
      place = p + n;
      after = ap (λ (i : Input). skip (i.place + (first_token i.text).1) (drop (first_token i.text).1 i.text)) here
          ∙ ap (λ (x : Token × ℕ). skip (p + x.1) (drop x.1 (b ∷ text))) e
          ∙ ap (skip (p + n)) left;
    }

pub begins_open : (p : ℕ) (rest : List ℕ) → Begins p (40 ∷ rest) t.Open rest
unfolding first_token
begins_open p rest = begins_first p 40 rest t.Open 1 rest refl refl refl

pub begins_close : (p : ℕ) (rest : List ℕ) → Begins p (41 ∷ rest) t.Close rest
unfolding first_token
begins_close p rest = begins_first p 41 rest t.Close 1 rest refl refl refl

pub begins_open_brace : (p : ℕ) (rest : List ℕ) → Begins p (123 ∷ rest) t.OpenBrace rest
unfolding first_token
begins_open_brace p rest = begins_first p 123 rest t.OpenBrace 1 rest refl refl refl

pub begins_close_brace : (p : ℕ) (rest : List ℕ) → Begins p (125 ∷ rest) t.CloseBrace rest
unfolding first_token
begins_close_brace p rest = begins_first p 125 rest t.CloseBrace 1 rest refl refl refl

pub begins_comma : (p : ℕ) (rest : List ℕ) → Begins p (44 ∷ rest) t.Comma rest
unfolding first_token
begins_comma p rest = begins_first p 44 rest t.Comma 1 rest refl refl refl

pub begins_slash : (p : ℕ) (rest : List ℕ) → Begins p (47 ∷ rest) t.Slash rest
unfolding first_token
begins_slash p rest = begins_first p 47 rest t.Slash 1 rest refl refl refl

pub begins_and : (p : ℕ) (rest : List ℕ) → Begins p (38 ∷ 38 ∷ rest) t.And rest
unfolding first_token
begins_and p rest = begins_first p 38 (38 ∷ rest) t.And 2 rest refl refl refl

pub begins_or : (p : ℕ) (rest : List ℕ) → Begins p (124 ∷ 124 ∷ rest) t.Or rest
unfolding first_token
begins_or p rest = begins_first p 124 (124 ∷ rest) t.Or 2 rest refl refl refl

-- no `=` follows
pub begins_bang : (p b : ℕ) (rest : List ℕ) → (b == 61) ≡ false → Begins p (33 ∷ b ∷ rest) t.Bang (b ∷ rest)
unfolding first_token
begins_bang p b rest other = begins_first p 33 (b ∷ rest) t.Bang 1 (b ∷ rest) refl (cond-false (b == 61) _ _ other) refl

-- a blank is passed over
pub blank_skipped : (p : ℕ) (text : List ℕ) → skip p (32 ∷ text) ≡ skip (p + 1) text
unfolding skip
blank_skipped p text =
    let place : p + (1 + blanks text) ≡ p + 1 + blanks text = omega arith in
    let n : 1 + blanks text ≡ suc (blanks text) = omega arith in
    λ i. record { place = place i; text = drop (n i) (32 ∷ text) }

-- a blank before it
pub begins_blank : (p : ℕ) (text : List ℕ) (k : Token) (rest : List ℕ) → Begins (p + 1) text k rest → Begins p (32 ∷ text) k rest
begins_blank p text k rest h =
    let same = blank_skipped p text in
    record { is = ap token same ∙ h.is; place = h.place; after = ap next same ∙ h.after }

-- ---- words

not_equal : (b n : ℕ) → is_run n ≡ false → is_run b ≡ true → (r : Bool) → (b == n) ≡ r → r ≡ false
not_equal b n other run false e = refl
not_equal b n other run true e = absurd (true≢false (sym run ∙ ap is_run ((Decides-eqb b n).0 e) ∙ other))

-- a byte of a word is no blank
pub run_no_blank : (b : ℕ) → is_run b ≡ true → is_token_blank b ≡ false
run_no_blank b run =
    let a = not_equal b 32 refl run (b == 32) refl in
    let c = not_equal b 9 refl run (b == 9) refl in
    let d = not_equal b 10 refl run (b == 10) refl in
    ap (λ (x : Bool). x || b == 9 || b == 10) a ∙ ap (λ (x : Bool). x || b == 10) c ∙ d

pub begins_word : (p b : ℕ) (word rest : List ℕ) → list_all is_run (b ∷ word) ≡ true → StopsRun is_run rest → Begins p ((b ∷ word) ++ rest) (word_token (b ∷ word)) rest
unfolding first_token
begins_word p b word rest all stops =
    let run = first_so (is_run b) (list_all is_run word) all in
    let len = prefix_exact is_run (b ∷ word) rest all stops in
    let whole = (b ∷ word) ++ rest in
    begins_first p b (word ++ rest) (word_token (b ∷ word)) (length (b ∷ word)) rest (run_no_blank b run)
    (cond-true (is_run b) _ _ run ∙ ap (λ (n : ℕ). (word_token (take n whole), n)) len ∙ ap (λ (w : List ℕ). (word_token w, length (b ∷ word))) (take-append_seam (b ∷ word) rest))
    (drop-append_seam (b ∷ word) rest)

-- ---- strings and names

pub record BeginsText (p : ℕ) (text : List ℕ) (inside : List ℕ) (rest : List ℕ) : Type 0 where
  pub begins : Begins p text t.Text rest
  pub inner : quoted (skip p text) ≡ inside

string_token_is : (s rest : List ℕ) → list_all (λ b. not (b == 34)) s ≡ true → string_token (s ++ (34 ∷ rest)) ≡ (t.Text, length s + 2)
unfolding string_token
string_token_is s rest all =
    let len = prefix_exact (λ b. not (b == 34)) s (34 ∷ rest) all refl in
    let whole = length-append s (34 ∷ rest) in
    let short : nat_lt (quoted_len (s ++ (34 ∷ rest))) (length (s ++ (34 ∷ rest))) ≡ true = lt-ltb (quoted_len (s ++ (34 ∷ rest))) (length (s ++ (34 ∷ rest))) (omega (arith, len, whole)) in
    cond-true _ _ _ short ∙ ap (λ (n : ℕ). (t.Text, n + 2)) len

string_drop : (s rest : List ℕ) → drop (length s + 2) (34 ∷ (s ++ (34 ∷ rest))) ≡ rest
string_drop s rest =
    let whole = drop-append_seam (34 ∷ (s ++ (34 ∷ []))) rest in
    let len = length-append s (34 ∷ []) in
    let same : length s + 2 ≡ length (34 ∷ (s ++ (34 ∷ []))) = omega (arith, len) in
    ap (λ (n : ℕ). drop n (34 ∷ (s ++ (34 ∷ rest)))) same ∙ ap (λ (w : List ℕ). drop (length (34 ∷ (s ++ (34 ∷ [])))) (34 ∷ w)) (sym (append_assoc s (34 ∷ []) rest)) ∙ whole

pub begins_string : (p : ℕ) (s rest : List ℕ) → list_all (λ b. not (b == 34)) s ≡ true → BeginsText p (34 ∷ (s ++ (34 ∷ rest))) s rest
unfolding first_token quoted
begins_string p s rest all =
    let e = string_token_is s rest all in
    let here = skip_none p 34 (s ++ (34 ∷ rest)) refl in
    let less : length s + 2 - 2 ≡ length s = omega arith in
    record {
      begins = begins_first p 34 (s ++ (34 ∷ rest)) t.Text (length s + 2) rest refl e (string_drop s rest);
      inner = ap (λ (i : Input). take ((first_token i.text).1 - 2) (drop 1 i.text)) here
          ∙ ap (λ (x : Token × ℕ). take (x.1 - 2) (s ++ (34 ∷ rest))) e
          ∙ ap (λ (n : ℕ). take n (s ++ (34 ∷ rest))) less
          ∙ take-append_seam s (34 ∷ rest);
    }

named_len : (name rest : List ℕ) → IsName name → list_all name_byte name ≡ true → StopsRun name_byte rest → (is_name_len (name_len (name ++ rest)) ≡ true) × (name_len (name ++ rest) ≡ length name)
named_len name rest h all stops =
    let len = prefix_exact name_byte name rest all stops in
    let above : nat_le 1 (length name) ≡ true = le-leb 1 (length name) h.some in
    let below : nat_le (length name) 64 ≡ true = le-leb (length name) 64 h.few in
    (ap is_name_len len ∙ ap (λ (b : Bool). b && nat_le (length name) 64) above ∙ below, len)

set_token_is : (name rest : List ℕ) → IsName name → list_all name_byte name ≡ true → StopsRun name_byte rest → set_token (name ++ rest) ≡ (t.Set name, length name + 1)
unfolding set_token
set_token_is name rest h all stops =
    let a = named_len name rest h all stops in
    cond-true _ _ _ a.0 ∙ ap (λ (n : ℕ). (t.Set (take n (name ++ rest)), n + 1)) a.1 ∙ ap (λ (w : List ℕ). (t.Set w, length name + 1)) (take-append_seam name rest)

group_token_is : (name rest : List ℕ) → IsName name → list_all name_byte name ≡ true → StopsRun name_byte rest → group_token (name ++ rest) ≡ (t.Group name, length name + 1)
unfolding group_token
group_token_is name rest h all stops =
    let a = named_len name rest h all stops in
    cond-true _ _ _ a.0 ∙ ap (λ (n : ℕ). (t.Group (take n (name ++ rest)), n + 1)) a.1 ∙ ap (λ (w : List ℕ). (t.Group w, length name + 1)) (take-append_seam name rest)

name_drop : (b : ℕ) (name rest : List ℕ) → drop (length name + 1) (b ∷ (name ++ rest)) ≡ rest
name_drop b name rest =
    let same : length name + 1 ≡ length (b ∷ name) = omega arith in
    ap (λ (n : ℕ). drop n (b ∷ (name ++ rest))) same ∙ drop-append_seam (b ∷ name) rest

pub begins_set : (p : ℕ) (name rest : List ℕ) → IsName name → list_all name_byte name ≡ true → StopsRun name_byte rest → Begins p (36 ∷ (name ++ rest)) (t.Set name) rest
unfolding first_token
begins_set p name rest h all stops = begins_first p 36 (name ++ rest) (t.Set name) (length name + 1) rest refl (set_token_is name rest h all stops) (name_drop 36 name rest)

pub begins_group : (p : ℕ) (name rest : List ℕ) → IsName name → list_all name_byte name ≡ true → StopsRun name_byte rest → Begins p (64 ∷ (name ++ rest)) (t.Group name) rest
unfolding first_token
begins_group p name rest h all stops = begins_first p 64 (name ++ rest) (t.Group name) (length name + 1) rest refl (group_token_is name rest h all stops) (name_drop 64 name rest)

-- ---- what follows an expression

-- neither words nor names go on here, and no mask follows
pub record Follows (rest : List ℕ) : Type 0 where
  pub runs : StopsRun is_run rest
  pub names : StopsRun name_byte rest
  pub slash : (q : ℕ) → is_slash (token (skip q rest)) ≡ false

pub end_follows : Follows []
unfolding token skip first_token
end_follows = record { runs = tt; names = tt; slash = λ q. refl }

pub close_follows : (rest : List ℕ) → Follows (41 ∷ rest)
close_follows rest = record { runs = refl; names = refl; slash = λ q. ap is_slash (begins_close q rest).is }

pub close_brace_follows : (rest : List ℕ) → Follows (125 ∷ rest)
close_brace_follows rest = record { runs = refl; names = refl; slash = λ q. ap is_slash (begins_close_brace q rest).is }

pub comma_follows : (rest : List ℕ) → Follows (44 ∷ rest)
comma_follows rest = record { runs = refl; names = refl; slash = λ q. ap is_slash (begins_comma q rest).is }

pub and_follows : (rest : List ℕ) → Follows (32 ∷ 38 ∷ 38 ∷ rest)
and_follows rest = record { runs = refl; names = refl; slash = λ q. ap is_slash (begins_blank q (38 ∷ 38 ∷ rest) t.And rest (begins_and (q + 1) rest)).is }

pub or_follows : (rest : List ℕ) → Follows (32 ∷ 124 ∷ 124 ∷ rest)
or_follows rest = record { runs = refl; names = refl; slash = λ q. ap is_slash (begins_blank q (124 ∷ 124 ∷ rest) t.Or rest (begins_or (q + 1) rest)).is }

-- a word of one byte or more
pub begins_run : (p : ℕ) (word rest : List ℕ) → 0 < length word → list_all is_run word ≡ true → StopsRun is_run rest → Begins p (word ++ rest) (word_token word) rest
begins_run p [] rest some all stops = absurd (omega (arith, some))
begins_run p (b ∷ word) rest some all stops = begins_word p b word rest all stops
