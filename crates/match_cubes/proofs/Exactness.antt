-- A packet with its registers is in one of the cubes of a match exactly where the match holds.
use Rattle.std.specs.Prelude.{◌≡◌, ◌<◌, ℕ, ◌-◌, ◌^◌, Bool, true, false, not, ◌&&◌, ◌||◌, cond, ◌==◌, nat_lt, List, [], ◌∷◌, ◌++◌, map, flat_map, Option, Some, None, option_to_list}
use Rattle.std.specs.List.{list_all, list_any}
use Rattle.std.proofs.Common.{refl, sym, ap, ◌∙◌, subst, arith}
use Rattle.std.proofs.Math.Bool.{or-false}
use Rattle.std.proofs.lemmas.Bool.{and_parts, ltb-true, eqb-true, not-true}
use Rattle.std.proofs.lemmas.List.Folds.{list_any-append}
use Rattle.std.proofs.lemmas.Nat.{pow_pos}
use Rattle.ovn_base.specs.addresses.EtherAddress.{mac_number}
use Rattle.inet_packet.specs.declared.cube.Bits.{Bits}
use Rattle.inet_packet.specs.declared.cube.Cube.{Cube}
use Rattle.inet_packet.specs.declared.packet.Packet.{Packet}
use Rattle.inet_packet.specs.declared.regs.Regs.{Regs}
use Rattle.match_language.specs.declared.expr.Expr.{Expr}
use Rattle.match_language.specs.declared.expr.Rel.{Rel}
use Rattle.match_language.specs.declared.expr.Rel.TheVariants as r
use Rattle.match_language.specs.declared.expr.Value.{Value}
use Rattle.match_language.specs.declared.expr.Value.TheVariants as v
use Rattle.match_language.specs.declared.field.Field.{Field}
use Rattle.match_language.specs.declared.field.Field.TheVariants as f
use Rattle.match_language.specs.Constants.{prefix_mask}
use Rattle.match_language.specs.Tables.{is_port_field}
use Rattle.ovn_base.specs.declared.address.SetEntry.{SetEntry}
use Rattle.ovn_base.specs.declared.address.SetEntry.TheVariants as entry
use Rattle.match_cubes.specs.Ternary.{fits, under, any_bits, turned_bits, meet_bits, meets}
use Rattle.match_cubes.specs.Asked.{number_in, bit_width, all_packets, is_in_cube, in_one, meet}
use Rattle.match_cubes.specs.Inwards.{meaning}
use Rattle.match_cubes.specs.Points.{Setting, entry_bits, key_bits, port_bits, points_of, points}
use Rattle.match_cubes.specs.Holds.{equals, is_ordered, stands_in, has_needs, all_true, one_true, truth}
use Rattle.match_cubes.specs.Cubes.{unlike, ordered, alternatives, comparing, meets_with, all_cubes, constant_cubes, as_cubes, cubes_in}
use Rattle.match_cubes.specs.Suited.{suits, are_suited, HasFieldsInRange}
use Rattle.match_cubes.proofs.TernaryLaws.{any_fits, meet_any, IsWithin, under_within, turned_any}
use Rattle.match_cubes.proofs.Alternatives.{any_map, any_same, any_and, any_meets}
use Rattle.match_cubes.proofs.PrefixLaws.{prefixes_any}
use Rattle.match_cubes.proofs.AskedLaws.{cubes_meet, all_in, comparing_in}
use Rattle.match_cubes.proofs.Relations.{Zips, zips_none, zips_more, related}

-- ---- the values of a comparison

-- each value lies within the lowest w bits
abbrev pub ArePoints : ℕ → List (Option Bits) → Type 0
ArePoints w [] = Unit {0}
ArePoints w (Some b ∷ ps) = IsWithin w b × ArePoints w ps
ArePoints w (None ∷ ps) = ArePoints w ps

points_cat : (w : ℕ) (ps qs : List (Option Bits)) → ArePoints w ps → ArePoints w qs → ArePoints w (ps ++ qs)
points_cat w [] qs h k = k
points_cat w (Some b ∷ ps) qs h k = (h.0, points_cat w ps qs h.1 k)
points_cat w (None ∷ ps) qs h k = points_cat w ps qs h k

port_width : (g : Field) → is_port_field g ≡ true → bit_width g ≡ 16
port_width f.Inport h = refl
port_width f.Outport h = refl
port_width _ h = absurd cc

key_point : (g : Field) (k : Option ℕ) → is_port_field g ≡ true → ArePoints (bit_width g) (key_bits k ∷ [])
key_point g (Some k) h = (under_within (bit_width g) k 0xffff (subst (λ (w : ℕ). 0xffff < 2 ^ w) (sym (port_width g h)) (omega arith)), tt)
key_point g None h = tt

ports_points : (s : Setting) (g : Field) (names : List (List ℕ)) → is_port_field g ≡ true → ArePoints (bit_width g) (map (port_bits s) names)
ports_points s g [] h = tt
ports_points s g (n ∷ ns) h = points_cat (bit_width g) (port_bits s n ∷ []) (map (port_bits s) ns) (key_point g (s.key n) h) (ports_points s g ns h)

ip_point : (g : Field) (a len : ℕ) (b : Bool) → (bit_width g == 32) ≡ b → ArePoints (bit_width g) (cond b (Some (under a (prefix_mask len))) None ∷ [])
ip_point g a len true h = (under_within (bit_width g) a (prefix_mask len) (subst (λ (w : ℕ). prefix_mask len < 2 ^ w) (sym (eqb-true (bit_width g) 32 h)) (omega (arith, pow_pos (32 - len)))), tt)
ip_point g a len false h = tt

mac_point : (g : Field) (n : ℕ) (b : Bool) → (bit_width g == 48) ≡ b → ArePoints (bit_width g) (cond b (Some (under n 0xffff_ffff_ffff)) None ∷ [])
mac_point g n true h = (under_within (bit_width g) n 0xffff_ffff_ffff (subst (λ (w : ℕ). 0xffff_ffff_ffff < 2 ^ w) (sym (eqb-true (bit_width g) 48 h)) (omega arith)), tt)
mac_point g n false h = tt

entry_point : (g : Field) (e : SetEntry) → ArePoints (bit_width g) (entry_bits g e ∷ [])
entry_point g (entry.Ip c) = ip_point g c.addr.0 c.len (bit_width g == 32) refl
entry_point g (entry.Ether m) = mac_point g (mac_number m) (bit_width g == 48) refl

entries_points : (g : Field) (es : List SetEntry) → ArePoints (bit_width g) (map (entry_bits g) es)
entries_points g [] = tt
entries_points g (e ∷ es) = points_cat (bit_width g) (entry_bits g e ∷ []) (map (entry_bits g) es) (entry_point g e) (entries_points g es)

value_points : (s : Setting) (g : Field) (x : Value) → suits g x ≡ true → ArePoints (bit_width g) (points_of s g x)
value_points s g (v.Number n m) h =
    let parts = and_parts (not (is_port_field g)) (nat_lt n (2 ^ bit_width g) && nat_lt m (2 ^ bit_width g)) h in
    let below = and_parts (nat_lt n (2 ^ bit_width g)) (nat_lt m (2 ^ bit_width g)) parts.1 in
    (under_within (bit_width g) n m (ltb-true m (2 ^ bit_width g) below.1), tt)
value_points s g (v.Port text) h = key_point g (s.key text) h
value_points s g (v.Set name) h = entries_points g (s.members.entries name)
value_points s g (v.Group name) h = ports_points s g (s.members.ports name) h

are_points : (s : Setting) (g : Field) (xs : List Value) → list_all (suits g) xs ≡ true → ArePoints (bit_width g) (points s g xs)
unfolding points
are_points s g [] h = tt
are_points s g (x ∷ xs) h =
    let parts = and_parts (suits g x) (list_all (suits g) xs) h in
    points_cat (bit_width g) (points_of s g x) (flat_map (points_of s g) xs) (value_points s g x parts.0) (are_points s g xs parts.1)

-- ---- what is one of the values, and what is none of them

equal_any : (n : ℕ) (ps : List (Option Bits)) → list_any (λ b. fits b n) (flat_map option_to_list ps) ≡ list_any (equals n) ps
equal_any n [] = refl
equal_any n (Some b ∷ ps) = ap (λ (x : Bool). fits b n || x) (equal_any n ps)
equal_any n (None ∷ ps) = equal_any n ps

and_true : (a : Bool) → a ≡ (a && true)
and_true true = refl
and_true false = refl

and_group : (a b c : Bool) → ((a && b) && c) ≡ (a && (b && c))
and_group true b c = refl
and_group false b c = refl

and_nor : (a b c : Bool) → ((a && not b) && not c) ≡ (a && not (b || c))
and_nor true true c = refl
and_nor true false c = refl
and_nor false b c = refl

and_always : (a c : Bool) → ((a && true) && c) ≡ (a && c)
and_always true c = refl
and_always false c = refl

unlike_any : (w n : ℕ) (bs : List Bits) (ps : List (Option Bits)) → ArePoints w ps → list_any (λ b. fits b n) (unlike w bs ps) ≡ (list_any (λ b. fits b n) bs && not (list_any (equals n) ps))
unfolding unlike
unlike_any w n bs [] h = and_true (list_any (λ (b : Bits). fits b n) bs)
unlike_any w n bs (Some p ∷ ps) h =
    unlike_any w n (meets meet_bits bs (turned_bits w p)) ps h.1
    ∙ ap (λ (x : Bool). x && not (list_any (equals n) ps)) (any_meets (λ (b : Bits). fits b n) meet_bits (meet_any n) bs (turned_bits w p) ∙ ap (λ (x : Bool). list_any (λ (b : Bits). fits b n) bs && x) (turned_any w p n h.0))
    ∙ and_nor (list_any (λ (b : Bits). fits b n) bs) (fits p n) (list_any (equals n) ps)
unlike_any w n bs (None ∷ ps) h =
    unlike_any w n (meets meet_bits bs (any_bits ∷ [])) ps h
    ∙ ap (λ (x : Bool). x && not (list_any (equals n) ps)) (any_meets (λ (b : Bits). fits b n) meet_bits (meet_any n) bs (any_bits ∷ []) ∙ ap (λ (x : Bool). list_any (λ (b : Bits). fits b n) bs && (x || false)) (any_fits n))
    ∙ and_always (list_any (λ (b : Bits). fits b n) bs) (not (list_any (equals n) ps))

-- ---- comparisons

number_field : (g : Field) (n m : ℕ) → list_all (suits g) (v.Number n m ∷ []) ≡ true → is_port_field g ≡ false
number_field g n m h =
    let one = and_parts (suits g (v.Number n m)) true h in
    let parts = and_parts (not (is_port_field g)) (nat_lt n (2 ^ bit_width g) && nat_lt m (2 ^ bit_width g)) one.0 in
    not-true (is_port_field g) parts.0

ordered_any : (g : Field) (rel : Rel) (xs : List Value) (n : ℕ) → list_all (suits g) xs ≡ true → (is_port_field g ≡ false → n < 2 ^ bit_width g) → list_any (λ b. fits b n) (ordered (bit_width g) rel xs) ≡ is_ordered rel xs n
ordered_any g rel [] n h small = refl
ordered_any g rel (v.Number bound m ∷ []) n h small = prefixes_any (bit_width g) rel bound n (small (number_field g bound m h))
ordered_any g rel (v.Number bound m ∷ y ∷ ys) n h small = refl
ordered_any g rel (v.Port text ∷ ys) n h small = refl
ordered_any g rel (v.Set name ∷ ys) n h small = refl
ordered_any g rel (v.Group name ∷ ys) n h small = refl

-- A number has one of the alternatives exactly where it stands in the relation to the values.
pub alternatives_any : (s : Setting) (g : Field) (rel : Rel) (xs : List Value) (n : ℕ) → list_all (suits g) xs ≡ true → (is_port_field g ≡ false → n < 2 ^ bit_width g) → list_any (λ b. fits b n) (alternatives s g rel xs) ≡ stands_in s g rel xs n
unfolding alternatives stands_in
alternatives_any s g r.Eq xs n h small = equal_any n (points s g xs)
alternatives_any s g r.Ne xs n h small =
    unlike_any (bit_width g) n (any_bits ∷ []) (points s g xs) (are_points s g xs h)
    ∙ ap (λ (b : Bool). (b || false) && not (list_any (equals n) (points s g xs))) (any_fits n)
alternatives_any s g r.Lt xs n h small = ordered_any g r.Lt xs n h small
alternatives_any s g r.Le xs n h small = ordered_any g r.Le xs n h small
alternatives_any s g r.Gt xs n h small = ordered_any g r.Gt xs n h small
alternatives_any s g r.Ge xs n h small = ordered_any g r.Ge xs n h small

-- ---- expressions

module _ (s : Setting) (regs : Regs) (packet : Packet) (range : HasFieldsInRange packet) where
  abbrev Same : List Cube → Bool → Type 0
  Same cs b = in_one regs packet cs ≡ b

  constant_in : (b : Bool) → Same (constant_cubes b) b
  constant_in true = or-false (is_in_cube regs packet all_packets) ∙ all_in regs packet
  constant_in false = refl

  compare_in : (g : Field) (rel : Rel) (xs : List Value) → list_all (suits g) xs ≡ true → Same (map (comparing g) (alternatives s g rel xs)) (has_needs g regs packet && stands_in s g rel xs (number_in g regs packet))
  compare_in g rel xs h =
      any_map (is_in_cube regs packet) (comparing g) (alternatives s g rel xs)
      ∙ any_same (λ (b : Bits). is_in_cube regs packet (comparing g b)) (λ (b : Bits). has_needs g regs packet && fits b (number_in g regs packet)) (comparing_in regs packet g) (alternatives s g rel xs)
      ∙ any_and (has_needs g regs packet) (λ (b : Bits). fits b (number_in g regs packet)) (alternatives s g rel xs)
      ∙ ap (λ (b : Bool). has_needs g regs packet && b) (alternatives_any s g rel xs (number_in g regs packet) h (range.below g regs))

  meets_in : (so_far : List Cube) (xs : List (List Cube)) (ys : List Bool) → Zips Same xs ys → in_one regs packet (meets_with so_far xs) ≡ (in_one regs packet so_far && all_true ys)
  unfolding meets_with
  meets_in so_far [] [] zips_none = and_true (in_one regs packet so_far)
  meets_in so_far (x ∷ xs) (y ∷ ys) (zips_more _ _ _ _ e z) =
      meets_in (meets meet so_far x) xs ys z
      ∙ ap (λ (b : Bool). b && all_true ys) (any_meets (is_in_cube regs packet) meet (cubes_meet regs packet) so_far x)
      ∙ ap (λ (b : Bool). (in_one regs packet so_far && b) && all_true ys) e
      ∙ and_group (in_one regs packet so_far) y (all_true ys)
  meets_in so_far [] (y ∷ ys) z = elim z [ ]
  meets_in so_far (x ∷ xs) [] z = elim z [ ]

  every_in : (xs : List (List Cube)) (ys : List Bool) → Zips Same xs ys → Same (meets_with (all_packets ∷ []) xs) (all_true ys)
  every_in xs ys z = meets_in (all_packets ∷ []) xs ys z ∙ ap (λ (b : Bool). b && all_true ys) (constant_in true)

  either_in : (xs : List (List Cube)) (ys : List Bool) → Zips Same xs ys → Same (all_cubes xs) (one_true ys)
  unfolding all_cubes
  either_in [] [] zips_none = refl
  either_in (x ∷ xs) (y ∷ ys) (zips_more _ _ _ _ e z) =
      list_any-append (is_in_cube regs packet) x (all_cubes xs)
      ∙ ap (λ (b : Bool). b || in_one regs packet (all_cubes xs)) e
      ∙ ap (λ (b : Bool). y || b) (either_in xs ys z)
  either_in [] (y ∷ ys) z = elim z [ ]
  either_in (x ∷ xs) [] z = elim z [ ]

  -- it is in one of the cubes exactly where the match holds
  pub cubes_hold : (e : Expr) (positive : Bool) → are_suited e positive ≡ true → in_one regs packet (cubes_in s e positive) ≡ meaning (truth s regs packet) e positive
  unfolding cubes_in
  cubes_hold e positive h = related (as_cubes s) (truth s regs packet) (λ g rel xs. list_all (suits g) xs) Same constant_in compare_in every_in either_in e positive h
