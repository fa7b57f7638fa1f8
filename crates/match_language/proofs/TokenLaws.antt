-- What the token at the front of a text tells of it.
use Rattle.std.specs.Prelude.{◌≡◌, ◌+◌, ◌-◌, ℕ, Bool, true, false, not, cond, ◌==◌, nat_lt, List, [], ◌∷◌, length, take, drop, Option, Some, None}
use Rattle.std.specs.List.{list_all}
use Rattle.std.proofs.Common.{refl, ap, ◌∙◌, subst, arith}
use Rattle.ovn_base.specs.names.NameText.{IsName}
use Rattle.match_language.specs.declared.expr.Rel.TheVariants.{Eq, Ne, Lt, Le, Gt, Ge}
use Rattle.match_language.specs.declared.field.Field.{Field}
use Rattle.match_language.specs.declared.field.Predicate.{Predicate}
use Rattle.match_language.specs.declared.token.Token.{Token}
use Rattle.match_language.specs.declared.token.Token.TheVariants as t
use Rattle.std.specs.Str.{bytes_eq}
use Rattle.std.specs.Prelude.{codes}
use Rattle.match_language.specs.Tables.{field_named, predicate_named}
use Rattle.match_language.specs.Constants.{decimal_value, dotted_value, ether_value, hex_value}
use Rattle.match_language.specs.Tokens.{is_run, run_len, first_token, symbol, pair, first_is, string_token, quoted_len, set_token, group_token, name_len, is_name_len, word_token, is_constant, constant_token, decimal_token, address_token, dotted_token, ether_token, hex_token, name_token, predicate_token}
use Rattle.match_language.specs.Input.{Input, token, quoted}
use Rattle.match_language.proofs.Names.{name_is, prefix_passes}

-- no quote among them
abbrev pub quoteless : List ℕ → Bool
quoteless = list_all (λ b. not (b == 34))

-- Behind its first byte stands this rest: the bytes of a string have no quote, and those of a name are one.
abbrev Sound : List ℕ → Token → ℕ → Type 0
Sound rest t.Text n = quoteless (take (n - 2) rest) ≡ true
Sound rest (t.Set name) n = IsName name
Sound rest (t.Group name) n = IsName name
Sound rest _ n = Unit {0}

abbrev SoundPair : List ℕ → Token × ℕ → Type 0
SoundPair rest x = Sound rest x.0 x.1

either : (rest : List ℕ) (b : Bool) (x y : Token × ℕ) → SoundPair rest x → SoundPair rest y → SoundPair rest (cond b x y)
either rest true x y h g = h
either rest false x y h g = g

string_by : (rest : List ℕ) (b : Bool) → SoundPair rest (cond b (t.Text, quoted_len rest + 2) (t.Bad, 1))
string_by rest true =
    let same : quoted_len rest + 2 - 2 ≡ quoted_len rest = omega arith in
    ap (λ (k : ℕ). quoteless (take k rest)) same ∙ prefix_passes (λ b. not (b == 34)) rest
string_by rest false = tt

string_sound : (rest : List ℕ) → SoundPair rest (string_token rest)
unfolding string_token
string_sound rest = string_by rest (nat_lt (quoted_len rest) (length rest))

set_by : (rest : List ℕ) (b : Bool) → is_name_len (name_len rest) ≡ b → SoundPair rest (cond b (t.Set (take (name_len rest) rest), name_len rest + 1) (t.Bad, 1))
set_by rest true e = name_is rest e
set_by rest false e = tt

set_sound : (rest : List ℕ) → SoundPair rest (set_token rest)
unfolding set_token
set_sound rest = set_by rest (is_name_len (name_len rest)) refl

group_by : (rest : List ℕ) (b : Bool) → is_name_len (name_len rest) ≡ b → SoundPair rest (cond b (t.Group (take (name_len rest) rest), name_len rest + 1) (t.Bad, 1))
group_by rest true e = name_is rest e
group_by rest false e = tt

group_sound : (rest : List ℕ) → SoundPair rest (group_token rest)
unfolding group_token
group_sound rest = group_by rest (is_name_len (name_len rest)) refl

pair_sound : (rest : List ℕ) (b : ℕ) (both alone : Token) → Sound rest both 2 → Sound rest alone 1 → SoundPair rest (pair rest b both alone)
pair_sound rest b both alone h g = either rest (first_is b rest) (both, 2) (alone, 1) h g

symbol_sound : (b : ℕ) (rest : List ℕ) → SoundPair rest (symbol b rest)
symbol_sound b rest =
    either rest (b == 40) _ _ tt (either rest (b == 41) _ _ tt
    (either rest (b == 123) _ _ tt (either rest (b == 125) _ _ tt
    (either rest (b == 44) _ _ tt (either rest (b == 47) _ _ tt
    (either rest (b == 33) _ _ (pair_sound rest 61 (t.Relation Ne) t.Bang tt tt)
    (either rest (b == 38) _ _ (pair_sound rest 38 t.And t.Bad tt tt)
    (either rest (b == 124) _ _ (pair_sound rest 124 t.Or t.Bad tt tt)
    (either rest (b == 61) _ _ (pair_sound rest 61 (t.Relation Eq) t.Bad tt tt)
    (either rest (b == 60) _ _ (pair_sound rest 61 (t.Relation Le) (t.Relation Lt) tt tt)
    (either rest (b == 62) _ _ (pair_sound rest 61 (t.Relation Ge) (t.Relation Gt) tt tt)
    (either rest (b == 34) _ _ (string_sound rest)
    (either rest (b == 36) _ _ (set_sound rest)
    (either rest (b == 64) _ _ (group_sound rest) tt))))))))))))))

choose : (rest : List ℕ) (n : ℕ) (b : Bool) (x y : Token) → Sound rest x n → Sound rest y n → Sound rest (cond b x y) n
choose rest n true x y h g = h
choose rest n false x y h g = g

module _ (rest : List ℕ) (n : ℕ) where
  hex_sound : (o : Option ℕ) → Sound rest (hex_token o) n
  hex_sound (Some k) = tt
  hex_sound None = tt

  ether_sound : (o : Option ℕ) (word : List ℕ) → Sound rest (ether_token o word) n
  ether_sound (Some k) word = tt
  ether_sound None word = hex_sound (hex_value word)

  dotted_sound : (o : Option ℕ) (word : List ℕ) → Sound rest (dotted_token o word) n
  dotted_sound (Some k) word = tt
  dotted_sound None word = ether_sound (ether_value word) word

  decimal_sound : (o : Option ℕ) (word : List ℕ) → Sound rest (decimal_token o word) n
  unfolding address_token
  decimal_sound (Some k) word = tt
  decimal_sound None word = dotted_sound (dotted_value word) word

  constant_sound : (word : List ℕ) → Sound rest (constant_token word) n
  unfolding constant_token
  constant_sound word =
      choose rest n (bytes_eq word (codes "0")) (t.Bit false) _ tt (choose rest n (bytes_eq word (codes "1")) (t.Bit true) _ tt (decimal_sound (decimal_value word) word))

  predicate_sound : (o : Option Predicate) → Sound rest (predicate_token o) n
  predicate_sound (Some p) = tt
  predicate_sound None = tt

  name_sound : (o : Option Field) (p : Option Predicate) → Sound rest (name_token o p) n
  name_sound (Some f) p = tt
  name_sound None p = predicate_sound p

  word_sound : (word : List ℕ) → Sound rest (word_token word) n
  unfolding word_token
  word_sound word = choose rest n (is_constant word) (constant_token word) _ (constant_sound word) (name_sound (field_named word) (predicate_named word))

first_sound : (b : ℕ) (rest : List ℕ) → SoundPair rest (first_token (b ∷ rest))
unfolding first_token
first_sound b rest =
    either rest (is_run b) (word_token (take (run_len (b ∷ rest)) (b ∷ rest)), run_len (b ∷ rest)) (symbol b rest) (word_sound rest (run_len (b ∷ rest)) (take (run_len (b ∷ rest)) (b ∷ rest))) (symbol_sound b rest)

text_sound : (text : List ℕ) → (first_token text).0 ≡ t.Text → quoteless (take ((first_token text).1 - 2) (drop 1 text)) ≡ true
unfolding first_token
text_sound [] at = absurd cc
text_sound (b ∷ rest) at = subst (λ (k : Token). Sound rest k (first_token (b ∷ rest)).1) at (first_sound b rest)

-- a string holds no quote
pub string_quoteless : (i : Input) → token i ≡ t.Text → quoteless (quoted i) ≡ true
unfolding token quoted
string_quoteless i at = text_sound i.text at

set_at : (text name : List ℕ) → (first_token text).0 ≡ t.Set name → IsName name
unfolding first_token
set_at [] name at = absurd cc
set_at (b ∷ rest) name at = subst (λ (k : Token). Sound rest k (first_token (b ∷ rest)).1) at (first_sound b rest)

-- the name of a set is one
pub set_named : (i : Input) (name : List ℕ) → token i ≡ t.Set name → IsName name
unfolding token
set_named i name at = set_at i.text name at

group_at : (text name : List ℕ) → (first_token text).0 ≡ t.Group name → IsName name
unfolding first_token
group_at [] name at = absurd cc
group_at (b ∷ rest) name at = subst (λ (k : Token). Sound rest k (first_token (b ∷ rest)).1) at (first_sound b rest)

-- the name of a group is one
pub group_named : (i : Input) (name : List ℕ) → token i ≡ t.Group name → IsName name
unfolding token
group_named i name at = group_at i.text name at
