-- A text may go on otherwise behind any of its tokens.
use Rattle.std.specs.Prelude.{◌≡◌, ◌≤◌, ◌<◌, ◌+◌, ◌-◌, ℕ, zero, suc, Bool, true, false, not, cond, ◌==◌, nat_lt, ◌||◌, List, [], ◌∷◌, ◌++◌, length, take, drop}
use Rattle.std.specs.List.{prefix_len}
use Rattle.std.proofs.Common.{refl, ap, ◌∙◌, sym, subst, arith, length-append}
use Rattle.std.proofs.Math.Seq.{take-append_seam, drop-append_seam}
use Rattle.std.proofs.lemmas.List.{length-take-le}
use Rattle.std.proofs.lemmas.List.Folds.{length-prefix_len}
use Rattle.std.proofs.lemmas.List.Sums.{prefix_len-le-length}
use Rattle.std.proofs.lemmas.Bool.{cond-true, cond-false, lt-ltb, ltb-true}
use Rattle.std.proofs.lemmas.Bool.Decides.{Decides-eqb}
use mathlib.Core.Bool.{false≢true}
use Rattle.ovn_base.specs.names.NameText.{name_byte}
use Rattle.match_language.specs.declared.expr.Rel.TheVariants.{Eq, Ne, Lt, Le, Gt, Ge}
use Rattle.match_language.specs.declared.token.Token.{Token}
use Rattle.match_language.specs.declared.token.Token.TheVariants as t
use Rattle.match_language.specs.Tokens.{is_token_blank, is_run, run_len, first_token, symbol, pair, string_token, quoted_len, set_token, group_token, name_len, is_name_len, word_token}
use Rattle.match_language.specs.Input.{Input, token, next, skip, quoted}
use Rattle.match_language.specs.FirstFault.{after, Same, Shares}
use Rattle.match_language.proofs.Names.{prefix_passes}
use Rattle.match_language.proofs.Begins.{begins_first, blank_skipped, skip_none, prefix_exact}
use Rattle.match_language.proofs.Shorter.{first_takes}
use Rattle.match_language.proofs.CommonParts.{is_plain, Plain}

-- ---- prefixes

prefix_kept : (p : ℕ → Bool) (xs c : List ℕ) → p 32 ≡ false → prefix_len p (take (prefix_len p xs) xs ++ (32 ∷ c)) ≡ prefix_len p xs
prefix_kept p xs c blank = prefix_exact p (take (prefix_len p xs) xs) (32 ∷ c) (prefix_passes p xs) blank ∙ length-prefix_len p xs

take_kept : (p : ℕ → Bool) (xs c : List ℕ) → take (prefix_len p xs) (take (prefix_len p xs) xs ++ (32 ∷ c)) ≡ take (prefix_len p xs) xs
take_kept p xs c = ap (λ (k : ℕ). take k (take (prefix_len p xs) xs ++ (32 ∷ c))) (sym (length-prefix_len p xs)) ∙ take-append_seam (take (prefix_len p xs) xs) (32 ∷ c)

take_less : (n m : ℕ) (xs ys : List ℕ) → n ≤ m → m ≤ length xs → take n (take m xs ++ ys) ≡ take n xs
take_less zero m xs ys less within = refl
take_less (suc n) zero xs ys less within = absurd (omega (arith, less))
take_less (suc n) (suc m) [] ys less within = absurd (omega (arith, within))
take_less (suc n) (suc m) (x ∷ xs) ys less within = ap (λ (zs : List ℕ). x ∷ zs) (take_less n m xs ys (omega (arith, less)) (omega (arith, within)))

drop_kept : (m : ℕ) (xs ys : List ℕ) → m ≤ length xs → drop m (take m xs ++ ys) ≡ ys
drop_kept m xs ys within = ap (λ (k : ℕ). drop k (take m xs ++ ys)) (sym (length-take-le m xs within)) ∙ drop-append_seam (take m xs) ys

-- up to the closing quote and with it
quoted_by : (d : ℕ) (rest ys : List ℕ) (b : Bool) → not (d == 34) ≡ b → (quoted_len rest < length rest → quoted_len (take (quoted_len rest + 1) rest ++ ys) ≡ quoted_len rest) → cond b (1 + quoted_len rest) 0 < length (d ∷ rest)
    → quoted_len (take (cond b (1 + quoted_len rest) 0 + 1) (d ∷ rest) ++ ys) ≡ cond b (1 + quoted_len rest) 0
quoted_by d rest ys true e more less =
    let n : 1 + quoted_len rest + 1 ≡ suc (quoted_len rest + 1) = omega arith in
    ap (λ (k : ℕ). quoted_len (take k (d ∷ rest) ++ ys)) n ∙ cond-true (not (d == 34)) _ _ e ∙ ap (λ (k : ℕ). 1 + k) (more (omega (arith, less)))
quoted_by d rest ys false e more less = cond-false (not (d == 34)) _ _ e

quoted_kept : (rest ys : List ℕ) → quoted_len rest < length rest → quoted_len (take (quoted_len rest + 1) rest ++ ys) ≡ quoted_len rest
quoted_kept [] ys less = absurd (omega (arith, less))
quoted_kept (d ∷ rest) ys less = quoted_by d rest ys (not (d == 34)) refl (quoted_kept rest ys) less

-- ---- tokens

module _ (rest c : List ℕ) where
  -- what follows up to the token's end
  abbrev rest_of : ℕ → List ℕ
  rest_of n = take (n - 1) rest ++ (32 ∷ c)

  -- The token is the same where the text goes on otherwise behind it.
  record Cut (x : Token × ℕ) (cut : List ℕ → Token × ℕ) : Type 0 where
    pub kept : is_plain x.0 ≡ true → (cut (rest_of x.1) ≡ x) × (x.1 ≤ length rest + 1)

  either : (b : Bool) (x y : Token × ℕ) (g h : List ℕ → Token × ℕ) → Cut x g → Cut y h → Cut (cond b x y) (λ r. cond b (g r) (h r))
  either true x y g h a e = a
  either false x y g h a e = e

  one_cut : (k : Token) → Cut (k, 1) (λ r. (k, 1))
  one_cut k = record { kept = λ plain. (refl, omega arith) }

  string_by : (b : Bool) → nat_lt (quoted_len rest) (length rest) ≡ b → Cut (cond b (t.Text, quoted_len rest + 2) (t.Bad, 1)) string_token
  unfolding string_token
  string_by false e = record { kept = λ plain. absurd (false≢true plain) }
  string_by true e =
      let less = ltb-true (quoted_len rest) (length rest) e in
      let n : quoted_len rest + 2 - 1 ≡ quoted_len rest + 1 = omega arith in
      let cut = take (quoted_len rest + 1) rest ++ (32 ∷ c) in
      let len = quoted_kept rest (32 ∷ c) less in
      let whole = length-append (take (quoted_len rest + 1) rest) (32 ∷ c) in
      let front = length-take-le (quoted_len rest + 1) rest (omega (arith, less)) in
      let short : nat_lt (quoted_len cut) (length cut) ≡ true = lt-ltb (quoted_len cut) (length cut) (omega (arith, len, whole, front)) in
      record { kept = λ plain. (ap (λ (k : ℕ). string_token (take k rest ++ (32 ∷ c))) n ∙ cond-true _ _ _ short ∙ ap (λ (k : ℕ). (t.Text, k + 2)) len, omega (arith, less)) }

  string_cut : Cut (string_token rest) string_token
  unfolding string_token
  string_cut = string_by (nat_lt (quoted_len rest) (length rest)) refl

  set_by : (b : Bool) → is_name_len (name_len rest) ≡ b → Cut (cond b (t.Set (take (name_len rest) rest), name_len rest + 1) (t.Bad, 1)) set_token
  unfolding set_token
  set_by false e = record { kept = λ plain. absurd (false≢true plain) }
  set_by true e =
      let n : name_len rest + 1 - 1 ≡ name_len rest = omega arith in
      let cut = take (name_len rest) rest ++ (32 ∷ c) in
      let len : name_len cut ≡ name_len rest = prefix_kept name_byte rest c refl in
      let within = prefix_len-le-length name_byte rest in
      record {
        kept = λ plain. (
          ap (λ (k : ℕ). set_token (take k rest ++ (32 ∷ c))) n ∙ cond-true _ _ _ (ap is_name_len len ∙ e) ∙ ap (λ (k : ℕ). (t.Set (take k cut), k + 1)) len
              ∙ ap (λ (w : List ℕ). (t.Set w, name_len rest + 1)) (take_kept name_byte rest c),
          omega (arith, within),
        );
      }

  set_cut : Cut (set_token rest) set_token
  unfolding set_token
  set_cut = set_by (is_name_len (name_len rest)) refl

  group_by : (b : Bool) → is_name_len (name_len rest) ≡ b → Cut (cond b (t.Group (take (name_len rest) rest), name_len rest + 1) (t.Bad, 1)) group_token
  unfolding group_token
  group_by false e = record { kept = λ plain. absurd (false≢true plain) }
  group_by true e =
      let n : name_len rest + 1 - 1 ≡ name_len rest = omega arith in
      let cut = take (name_len rest) rest ++ (32 ∷ c) in
      let len : name_len cut ≡ name_len rest = prefix_kept name_byte rest c refl in
      let within = prefix_len-le-length name_byte rest in
      record {
        kept = λ plain. (
          ap (λ (k : ℕ). group_token (take k rest ++ (32 ∷ c))) n ∙ cond-true _ _ _ (ap is_name_len len ∙ e) ∙ ap (λ (k : ℕ). (t.Group (take k cut), k + 1)) len
              ∙ ap (λ (w : List ℕ). (t.Group w, name_len rest + 1)) (take_kept name_byte rest c),
          omega (arith, within),
        );
      }

  group_cut : Cut (group_token rest) group_token
  unfolding group_token
  group_cut = group_by (is_name_len (name_len rest)) refl

-- a byte that follows, or another
pair_by : (d : ℕ) (rest c : List ℕ) (s : ℕ) (both alone : Token) (b : Bool) → (d == s) ≡ b → (32 == s) ≡ false → Cut (d ∷ rest) c (cond b (both, 2) (alone, 1)) (λ r. pair r s both alone)
pair_by d rest c s both alone true e blank = record { kept = λ plain. (cond-true (d == s) _ _ e, omega arith) }
pair_by d rest c s both alone false e blank = record { kept = λ plain. (cond-false (32 == s) _ _ blank, omega arith) }

pair_cut : (rest c : List ℕ) (s : ℕ) (both alone : Token) → (32 == s) ≡ false → Cut rest c (pair rest s both alone) (λ r. pair r s both alone)
pair_cut [] c s both alone blank = record { kept = λ plain. (cond-false (32 == s) _ _ blank, omega arith) }
pair_cut (d ∷ rest) c s both alone blank = pair_by d rest c s both alone (d == s) refl blank

symbol_cut : (b : ℕ) (rest c : List ℕ) → Cut rest c (symbol b rest) (symbol b)
symbol_cut b rest c =
    either rest c (b == 40) _ _ _ _ (one_cut rest c t.Open) (either rest c (b == 41) _ _ _ _ (one_cut rest c t.Close)
    (either rest c (b == 123) _ _ _ _ (one_cut rest c t.OpenBrace) (either rest c (b == 125) _ _ _ _ (one_cut rest c t.CloseBrace)
    (either rest c (b == 44) _ _ _ _ (one_cut rest c t.Comma) (either rest c (b == 47) _ _ _ _ (one_cut rest c t.Slash)
    (either rest c (b == 33) _ _ _ _ (pair_cut rest c 61 (t.Relation Ne) t.Bang refl)
    (either rest c (b == 38) _ _ _ _ (pair_cut rest c 38 t.And t.Bad refl)
    (either rest c (b == 124) _ _ _ _ (pair_cut rest c 124 t.Or t.Bad refl)
    (either rest c (b == 61) _ _ _ _ (pair_cut rest c 61 (t.Relation Eq) t.Bad refl)
    (either rest c (b == 60) _ _ _ _ (pair_cut rest c 61 (t.Relation Le) (t.Relation Lt) refl)
    (either rest c (b == 62) _ _ _ _ (pair_cut rest c 61 (t.Relation Ge) (t.Relation Gt) refl)
    (either rest c (b == 34) _ _ _ _ (string_cut rest c)
    (either rest c (b == 36) _ _ _ _ (set_cut rest c)
    (either rest c (b == 64) _ _ _ _ (group_cut rest c) (one_cut rest c t.Bad)))))))))))))))

-- a word
word_same : (b : ℕ) (cut rest : List ℕ) → is_run b ≡ true → run_len (b ∷ cut) ≡ run_len (b ∷ rest) → take (run_len (b ∷ rest)) (b ∷ cut) ≡ take (run_len (b ∷ rest)) (b ∷ rest)
    → first_token (b ∷ cut) ≡ (word_token (take (run_len (b ∷ rest)) (b ∷ rest)), run_len (b ∷ rest))
unfolding first_token
word_same b cut rest run len front =
    cond-true (is_run b) _ _ run ∙ ap (λ (k : ℕ). (word_token (take k (b ∷ cut)), k)) len ∙ ap (λ (w : List ℕ). (word_token w, run_len (b ∷ rest))) front

word_cut : (b : ℕ) (rest c : List ℕ) → is_run b ≡ true → Cut rest c (word_token (take (run_len (b ∷ rest)) (b ∷ rest)), run_len (b ∷ rest)) (λ r. first_token (b ∷ r))
word_cut b rest c run =
    let m = prefix_len is_run rest in
    let len : run_len (b ∷ rest) ≡ 1 + m = cond-true (is_run b) _ _ run in
    let n : run_len (b ∷ rest) - 1 ≡ m = omega (arith, len) in
    let s : run_len (b ∷ rest) ≡ suc m = omega (arith, len) in
    let cut = take m rest ++ (32 ∷ c) in
    let kept = prefix_kept is_run rest c refl in
    let whole : run_len (b ∷ cut) ≡ run_len (b ∷ rest) = cond-true (is_run b) _ _ run ∙ ap (λ (k : ℕ). 1 + k) kept ∙ sym len in
    let within = prefix_len-le-length is_run rest in
    let front : take (run_len (b ∷ rest)) (b ∷ cut) ≡ take (run_len (b ∷ rest)) (b ∷ rest) = ap (λ (k : ℕ). take k (b ∷ cut)) s ∙ ap (λ (w : List ℕ). b ∷ w) (take_kept is_run rest c) ∙ ap (λ (k : ℕ). take k (b ∷ rest)) (sym s) in
    record { kept = λ plain. (ap (λ (k : ℕ). first_token (b ∷ (take k rest ++ (32 ∷ c)))) n ∙ word_same b cut rest run whole front, omega (arith, len, within)) }

other_cut : (b : ℕ) (rest c : List ℕ) → is_run b ≡ false → Cut rest c (symbol b rest) (λ r. first_token (b ∷ r))
unfolding first_token
other_cut b rest c run = record { kept = λ plain. let a = (symbol_cut b rest c).kept plain in (cond-false (is_run b) _ _ run ∙ a.0, a.1) }

first_by : (b : ℕ) (rest c : List ℕ) (r : Bool) → is_run b ≡ r → Cut rest c (cond r (word_token (take (run_len (b ∷ rest)) (b ∷ rest)), run_len (b ∷ rest)) (symbol b rest)) (λ r. first_token (b ∷ r))
first_by b rest c true run = word_cut b rest c run
first_by b rest c false run = other_cut b rest c run

first_cut : (b : ℕ) (rest c : List ℕ) → Cut rest c (first_token (b ∷ rest)) (λ r. first_token (b ∷ r))
unfolding first_token
first_cut b rest c = first_by b rest c (is_run b) refl

-- at a blank no token begins
blank_bad : (b : ℕ) (rest : List ℕ) (x y z : Bool) → (b == 32) ≡ x → (b == 9) ≡ y → (b == 10) ≡ z → (x || y || z) ≡ true → (first_token (b ∷ rest)).0 ≡ t.Bad
unfolding first_token
blank_bad b rest true y z e g h any = ap (λ (k : ℕ). (first_token (k ∷ rest)).0) ((Decides-eqb b 32).0 e)
blank_bad b rest false true z e g h any = ap (λ (k : ℕ). (first_token (k ∷ rest)).0) ((Decides-eqb b 9).0 g)
blank_bad b rest false false true e g h any = ap (λ (k : ℕ). (first_token (k ∷ rest)).0) ((Decides-eqb b 10).0 h)
blank_bad b rest false false false e g h any = absurd (false≢true any)

blank_by : (b : ℕ) (rest : List ℕ) (r : Bool) → is_token_blank b ≡ r → is_plain (first_token (b ∷ rest)).0 ≡ true → r ≡ false
blank_by b rest false e plain = refl
blank_by b rest true e plain = absurd (false≢true (ap is_plain (sym (blank_bad b rest (b == 32) (b == 9) (b == 10) refl refl refl e)) ∙ plain))

-- the token of a text, where the text goes on otherwise behind it
pub record Grafted (b : ℕ) (rest c : List ℕ) : Type 0 where
  pub blank : is_token_blank b ≡ false
  pub text : List ℕ
  pub token : first_token (b ∷ text) ≡ first_token (b ∷ rest)
  pub left : drop (first_token (b ∷ rest)).1 (b ∷ text) ≡ 32 ∷ c
  pub quoted : take ((first_token (b ∷ rest)).1 - 2) text ≡ take ((first_token (b ∷ rest)).1 - 2) rest

grafted_by : (b : ℕ) (rest c : List ℕ) (x : Token × ℕ) → first_token (b ∷ rest) ≡ x → is_plain x.0 ≡ true → 1 ≤ x.1 → x.1 ≤ length rest + 1 → first_token (b ∷ (take (x.1 - 1) rest ++ (32 ∷ c))) ≡ x → Grafted b rest c
grafted_by b rest c x e plain some within same =
    let n : x.1 ≡ suc (x.1 - 1) = omega (arith, some) in
    let text = take (x.1 - 1) rest ++ (32 ∷ c) in
    record {
      blank = blank_by b rest (is_token_blank b) refl (ap (λ (y : Token × ℕ). is_plain y.0) e ∙ plain);
      text = text;
      token = same ∙ sym e;
      left = ap (λ (y : Token × ℕ). drop y.1 (b ∷ text)) e ∙ ap (λ (k : ℕ). drop k (b ∷ text)) n ∙ drop_kept (x.1 - 1) rest (32 ∷ c) (omega (arith, within));
      quoted = ap (λ (y : Token × ℕ). take (y.1 - 2) text) e ∙ take_less (x.1 - 2) (x.1 - 1) rest (32 ∷ c) (omega arith) (omega (arith, within)) ∙ ap (λ (y : Token × ℕ). take (y.1 - 2) rest) (sym e);
    }

pub grafted : (b : ℕ) (rest c : List ℕ) → is_plain (first_token (b ∷ rest)).0 ≡ true → Grafted b rest c
grafted b rest c plain = let a = (first_cut b rest c).kept plain in grafted_by b rest c (first_token (b ∷ rest)) refl plain (first_takes b rest) a.1 a.0

-- ---- the text that goes on so

-- a token, and then another text
abbrev Step : Input → List ℕ → Type 0
Step i c = (w : List ℕ) × ((p : ℕ) → Same i (skip p w) × ((q : ℕ) × (next (skip p w) ≡ skip q c)))

step_at : (place b : ℕ) (rest c : List ℕ) → Grafted b rest c → Step (record { place = place; text = b ∷ rest }) c
unfolding token next quoted
step_at place b rest c g = (
  b ∷ g.text,
  λ p.
      let here = skip_none p b g.text g.blank in
      let begun = begins_first p b g.text (first_token (b ∷ rest)).0 (first_token (b ∷ rest)).1 (32 ∷ c) g.blank g.token g.left in
      ((sym begun.is, λ text. sym (ap (λ (i : Input). take ((first_token i.text).1 - 2) (drop 1 i.text)) here ∙ ap (λ (x : Token × ℕ). take (x.1 - 2) g.text) g.token ∙ g.quoted)), (begun.place + 1, begun.after ∙ blank_skipped begun.place c)),
)

step_by : (place : ℕ) (text c : List ℕ) → is_plain (token (record { place = place; text = text })) ≡ true → Step (record { place = place; text = text }) c
unfolding token first_token
step_by place [] c plain = absurd (false≢true plain)
step_by place (b ∷ rest) c plain = step_at place b rest c (grafted b rest c plain)

step : (i : Input) (c : List ℕ) → is_plain (token i) ≡ true → Step i c
step i c plain = step_by i.place i.text c plain

-- n tokens, and then another text
abbrev pub Goes : ℕ → Input → List ℕ → Type 0
Goes n i c = (w : List ℕ) × ((p : ℕ) → Shares n i (skip p w) × ((q : ℕ) × (after n (skip p w) ≡ skip q c)))

pub graft : (n : ℕ) (i : Input) (c : List ℕ) → Plain n i → Goes n i c
graft zero i c plain = (c, λ p. (tt, (p, refl)))
graft (suc n) i c plain =
    let others = graft n (next i) c plain.1 in
    let first = step i others.0 plain.0 in (
      first.0,
      λ p.
          let a = first.1 p in
          let b = others.1 a.1.0 in
          ((a.0, subst (Shares n (next i)) (sym a.1.1) b.0), (b.1.0, ap (after n) a.1.1 ∙ b.1.1)),
    )
