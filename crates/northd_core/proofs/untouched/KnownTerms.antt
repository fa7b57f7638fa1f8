-- The terms of which rows are made name no port but those of which they ask.
use Rattle.std.specs.Prelude.{◌≡◌, ◌++◌, ℕ, Bool, true, false, not, List, [], ◌∷◌}
use Rattle.std.specs.List.{AllByRecursion, list_all}
use Rattle.std.proofs.Common.{refl, ◌∙◌}
use Rattle.std.proofs.lemmas.Bool.{and_from}
use Rattle.std.proofs.lemmas.List.Folds.{list_all-map}
use Rattle.ovn_base.specs.declared.address.Cidr.{Cidr}
use Rattle.ovn_base.specs.declared.address.Ip4.{Ip4}
use Rattle.ovn_base.specs.declared.name.Name.{Name}
use Rattle.match_language.specs.declared.expr.Expr.{Expr}
use Rattle.match_language.specs.declared.expr.Expr.TheVariants as e
use Rattle.match_language.specs.declared.expr.Rel.TheVariants as r
use Rattle.match_language.specs.declared.expr.Value.{Value}
use Rattle.match_language.specs.declared.expr.Value.TheVariants as v
use Rattle.match_language.specs.declared.field.Field.{Field}
use Rattle.match_language.specs.declared.field.Field.TheVariants as f
use Rattle.match_language.specs.declared.field.Predicate.{Predicate}
use Rattle.match_language.specs.declared.field.Predicate.TheVariants as p
use Rattle.match_cubes.proofs.Cases.{meaning_const, meaning_is, meaning_not, meaning_all, meaning_any, meaning_compare}
use Rattle.match_cubes.specs.Inwards.{Meaning, predicate, each_compare, are_all}
use Rattle.stage_rows.specs.Rows.{all_of, field_with, field_is, ip_in, in_is, out_is, unicast, asks_for, whole_number, prefix_value}
use Rattle.northd_core.proofs.untouched.KnownNames as names

module _ (known : Name → Bool) where
  -- the match names known ports alone
  abbrev pub IsKnown : Expr → Type 0
  IsKnown x = names.names_known known x ≡ true

  -- each term does
  abbrev pub AreKnown : List Expr → Type 0
  AreKnown xs = AllByRecursion IsKnown xs

  abbrev ok : Meaning Bool
  ok = each_compare (λ g rel xs. list_all (names.is_known known) xs)

  -- ---- terms together

  all_known : (xs : List Expr) → AreKnown xs → list_all (names.names_known known) xs ≡ true
  all_known [] h = refl
  all_known (x ∷ xs) h = and_from (names.names_known known x) (list_all (names.names_known known) xs) h.0 (all_known xs h.1)

  -- terms that all have to hold
  pub known_all : (xs : List Expr) → AreKnown xs → IsKnown (all_of xs)
  unfolding are_all
  known_all [] h = meaning_const ok true true
  known_all (x ∷ []) h = h.0
  known_all (x ∷ y ∷ xs) h = meaning_all ok true (x ∷ y ∷ xs) ∙ list_all-map (λ b. b) (names.names_known known) (x ∷ y ∷ xs) ∙ all_known (x ∷ y ∷ xs) h

  -- one of two terms
  pub known_either : (x y : Expr) → IsKnown x → IsKnown y → IsKnown (e.Any (x ∷ y ∷ []))
  unfolding are_all
  known_either x y h k = meaning_any ok true (x ∷ y ∷ []) ∙ list_all-map (λ b. b) (names.names_known known) (x ∷ y ∷ []) ∙ all_known (x ∷ y ∷ []) (h, (k, tt))

  -- terms and further ones
  pub known_more : (xs ys : List Expr) → AreKnown xs → AreKnown ys → AreKnown (xs ++ ys)
  known_more [] ys h k = k
  known_more (x ∷ xs) ys h k = (h.0, known_more xs ys h.1 k)

  -- ---- predicates

  predicate_ok : (q : Predicate) (positive : Bool) → predicate ok q positive ≡ true
  predicate_ok p.Ip4 true = refl
  predicate_ok p.Ip4 false = refl
  predicate_ok _ true = refl
  predicate_ok _ false = refl

  -- a predicate names none
  pub known_is : (q : Predicate) → IsKnown (e.Is q)
  unfolding are_all
  known_is q = meaning_is ok true q ∙ predicate_ok q true

  pub known_unicast : IsKnown unicast
  unfolding are_all
  known_unicast = meaning_not ok true (e.Is p.EthMcast) ∙ meaning_is ok (not true) p.EthMcast ∙ predicate_ok p.EthMcast (not true)

  -- ---- values

  -- a field with known values
  pub known_with : (g : Field) (xs : List Value) → list_all (names.is_known known) xs ≡ true → IsKnown (field_with g xs)
  unfolding are_all
  known_with g xs h = meaning_compare ok true g r.Eq xs ∙ h

  -- a field with a number
  pub known_field : (g : Field) (n : ℕ) → IsKnown (field_is g n)
  known_field g n = known_with g (whole_number g n ∷ []) refl

  -- an address in a prefix
  pub known_prefix : (g : Field) (c : Cidr) → IsKnown (ip_in g c)
  known_prefix g c = known_with g (prefix_value c ∷ []) refl

  -- a known port of entry
  pub known_in : (q : Name) → known q ≡ true → IsKnown (in_is q)
  known_in q h = known_with f.Inport (v.Port q ∷ []) (and_from (known q) true h refl)

  -- a known port by which the packet leaves
  pub known_out : (q : Name) → known q ≡ true → IsKnown (out_is q)
  known_out q h = known_with f.Outport (v.Port q ∷ []) (and_from (known q) true h refl)

  -- a request for an address
  pub known_asks : (ip : Ip4) → AreKnown (asks_for ip)
  known_asks ip = (known_field f.ArpOp 1, (known_field f.ArpTpa ip.0, tt))
