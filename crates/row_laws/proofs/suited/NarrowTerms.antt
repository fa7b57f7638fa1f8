-- The widths of the terms of which rows are made, where names of sets and groups stand for these members.
use Rattle.std.specs.Prelude.{◌≡◌, ◌≤◌, ◌+◌, ◌*◌, ◌++◌, ℕ, suc, true, false, List, [], ◌∷◌, map, length, bit_and, count_ones}
use Rattle.std.specs.List.{AllByRecursion}
use Rattle.std.proofs.Common.{refl, ap, ◌∙◌, arith}
use Rattle.std.proofs.lemmas.Bool.{false≢true}
use Rattle.std.proofs.lemmas.Nat.{ones_cat}
use Rattle.ovn_base.specs.declared.address.Cidr.{Cidr}
use Rattle.ovn_base.specs.declared.address.Ip4.{Ip4}
use Rattle.ovn_base.specs.declared.address.Mac.{Mac}
use Rattle.ovn_base.specs.declared.limits.TheConstants.{MAX_WIDTH}
use Rattle.ovn_base.specs.declared.name.Name.{Name}
use Rattle.match_language.specs.Constants.{prefix_mask}
use Rattle.match_language.specs.Tables.{field_max}
use Rattle.match_language.specs.declared.expr.Expr.{Expr}
use Rattle.match_language.specs.declared.expr.Expr.TheVariants as e
use Rattle.match_language.specs.declared.expr.Rel.TheVariants as r
use Rattle.match_language.specs.declared.expr.Value.{Value}
use Rattle.match_language.specs.declared.expr.Value.TheVariants as v
use Rattle.match_language.specs.declared.field.Field.{Field}
use Rattle.match_language.specs.declared.field.Field.TheVariants as f
use Rattle.match_language.specs.declared.field.Predicate.{Predicate}
use Rattle.match_language.specs.declared.field.Predicate.TheVariants as p
use Rattle.match_cubes.proofs.Cases.{meaning_const, meaning_is, meaning_not, meaning_all, meaning_any, meaning_compare}
use Rattle.match_cubes.proofs.TernaryLaws.{ones_bit}
use Rattle.match_cubes.specs.Inwards.{predicate, asks_all}
use Rattle.match_cubes.specs.Points.{Members}
use Rattle.match_cubes.specs.Width.{product, weights, compare_width, widths, width_in, width_of}
use Rattle.stage_rows.specs.Rows.{all_of, field_with, field_is, field_among, mac_is, ip_is, ip_in, ip_in_some, in_is, out_is, prefix_value, unicast, asks_for}

-- the bit of groups
one_group_bit : count_ones 0x100_0000_0000 ≡ 1
one_group_bit = ones_cat 40 1 0 (omega arith) ∙ omega (arith, ones_bit 1 (omega arith), ones_bit 0 (omega arith))

module _ (s : Members) where
  -- ---- terms together

  -- the term has one cube
  abbrev pub IsOne : Expr → Type 0
  IsOne x = width_of s x ≡ 1

  abbrev pub AreOne : List Expr → Type 0
  AreOne xs = AllByRecursion IsOne xs

  abbrev pub IsNarrow : Expr → Type 0
  IsNarrow x = width_of s x ≤ MAX_WIDTH

  width_all : (xs : List Expr) → width_of s (all_of xs) ≡ product (map (width_of s) xs)
  unfolding width_in
  width_all [] = meaning_const (widths s) true true
  width_all (x ∷ []) = omega arith
  width_all (x ∷ y ∷ xs) = meaning_all (widths s) true (x ∷ y ∷ xs)

  all_one : (xs : List Expr) → AreOne xs → product (map (width_of s) xs) ≡ 1
  all_one [] h = refl
  all_one (x ∷ xs) h = ap (λ (n : ℕ). n * product (map (width_of s) xs)) h.0 ∙ ap (λ (n : ℕ). 1 * n) (all_one xs h.1)

  last_wide : (xs : List Expr) (y : Expr) → AreOne xs → product (map (width_of s) (xs ++ y ∷ [])) ≡ width_of s y
  last_wide [] y h = omega arith
  last_wide (x ∷ xs) y h =
      let one : width_of s x * product (map (width_of s) (xs ++ y ∷ [])) ≡ 1 * product (map (width_of s) (xs ++ y ∷ [])) = ap (λ (n : ℕ). n * product (map (width_of s) (xs ++ y ∷ []))) h.0 in
      omega (arith, one, last_wide xs y h.1)

  -- terms of one cube each have one together
  pub narrow : (xs : List Expr) → AreOne xs → IsNarrow (all_of xs)
  narrow xs h = omega (arith, width_all xs ∙ all_one xs h)

  -- and as many as the last, where that one has more
  pub narrow_by_last : (xs : List Expr) (y : Expr) → AreOne xs → IsNarrow y → IsNarrow (all_of (xs ++ y ∷ []))
  narrow_by_last xs y h k = omega (arith, width_all (xs ++ y ∷ []) ∙ last_wide xs y h, k)

  -- ---- predicates

  predicate_one : (q : Predicate) → asks_all q ≡ true → predicate (widths s) q true ≡ 1
  unfolding compare_width weights
  predicate_one p.Ip h = absurd (false≢true h)
  predicate_one _ h = refl

  pub one_is : (q : Predicate) → asks_all q ≡ true → IsOne (e.Is q)
  unfolding width_in
  one_is q h = meaning_is (widths s) true q ∙ predicate_one q h

  pub one_unicast : IsOne unicast
  unfolding width_in compare_width weights
  one_unicast = meaning_not (widths s) true (e.Is p.EthMcast) ∙ meaning_is (widths s) false p.EthMcast ∙ omega (arith, one_group_bit)

  -- ---- values

  width_values : (g : Field) (xs : List Value) → width_of s (field_with g xs) ≡ length (weights s g xs)
  unfolding width_in compare_width
  width_values g xs = meaning_compare (widths s) true g r.Eq xs

  pub one_number : (g : Field) (n m : ℕ) → IsOne (field_with g (v.Number n m ∷ []))
  unfolding weights
  one_number g n m = width_values g (v.Number n m ∷ [])

  pub one_field : (g : Field) (n : ℕ) → IsOne (field_is g n)
  one_field g n = one_number g n (field_max g)

  pub one_prefix : (g : Field) (c : Cidr) → IsOne (ip_in g c)
  one_prefix g c = one_number g (bit_and c.addr.0 (prefix_mask c.len)) (prefix_mask c.len)

  one_port : (g : Field) (q : Name) → IsOne (field_with g (v.Port q ∷ []))
  unfolding weights
  one_port g q = width_values g _

  pub one_in : (q : Name) → IsOne (in_is q)
  one_in q = one_port f.Inport q

  pub one_out : (q : Name) → IsOne (out_is q)
  one_out q = one_port f.Outport q

  pub one_mac : (g : Field) (mac : Mac) → IsOne (mac_is g mac)
  one_mac g mac = one_field g mac.number

  pub one_ip : (g : Field) (ip : Ip4) → IsOne (ip_is g ip)
  one_ip g ip = one_field g ip.0

  pub one_asks : (ip : Ip4) → AreOne (asks_for ip)
  one_asks ip = (one_field f.ArpOp 1, (one_ip f.ArpTpa ip, tt))

  -- a field beside two numbers, and an address beside some prefixes
  pub width_two : (g : Field) (m n : ℕ) → width_of s (field_among g (m ∷ n ∷ [])) ≡ 2
  unfolding weights
  width_two g m n = width_values g _

  prefix_weights : (g : Field) (cs : List Cidr) → length (weights s g (map prefix_value cs)) ≡ length cs
  unfolding weights
  prefix_weights g [] = refl
  prefix_weights g (c ∷ cs) = ap suc (prefix_weights g cs)

  pub width_prefixes : (g : Field) (cs : List Cidr) → width_of s (ip_in_some g cs) ≡ length cs
  width_prefixes g cs = width_values g (map prefix_value cs) ∙ prefix_weights g cs

  -- ---- one of two

  pub width_either : (x y : Expr) → width_of s (e.Any (x ∷ y ∷ [])) ≡ width_of s x + width_of s y
  unfolding width_in
  width_either x y = meaning_any (widths s) true (x ∷ y ∷ []) ∙ omega arith
