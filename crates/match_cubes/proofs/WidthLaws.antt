-- A match has at most as many cubes as it is wide.
use Rattle.std.specs.Prelude.{◌≡◌, ◌≤◌, ℕ, ◌*◌, ◌%◌, ◌/◌, ◌^◌, Bool, true, false, cond, ◌==◌, List, [], ◌∷◌, ◌++◌, map, flat_map, length, Option, Some, None, option_to_list, count_ones}
use Rattle.std.specs.Int.Count.{ones-ones}
use Rattle.std.proofs.Common.{ap, arith, length-append}
use Rattle.std.proofs.lemmas.List.{length-map}
use Rattle.std.proofs.lemmas.Nat.{pow_pos, mod_below, ones_cat, shr_split, mul-le}
use Rattle.ovn_base.specs.addresses.EtherAddress.{mac_number}
use Rattle.inet_packet.specs.declared.cube.Bits.{Bits}
use Rattle.inet_packet.specs.declared.cube.Cube.{Cube}
use Rattle.match_language.specs.declared.expr.Expr.{Expr}
use Rattle.match_language.specs.declared.expr.Rel.{Rel}
use Rattle.match_language.specs.declared.expr.Rel.TheVariants as r
use Rattle.match_language.specs.declared.expr.Value.{Value}
use Rattle.match_language.specs.declared.expr.Value.TheVariants as v
use Rattle.match_language.specs.declared.field.Field.{Field}
use Rattle.match_language.specs.Constants.{prefix_mask}
use Rattle.ovn_base.specs.declared.address.SetEntry.{SetEntry}
use Rattle.ovn_base.specs.declared.address.SetEntry.TheVariants as entry
use Rattle.match_cubes.specs.Ternary.{under, any_bits, turned_bits, meet_bits, meets}
use Rattle.match_cubes.specs.Asked.{bit_width, all_packets, meet}
use Rattle.match_cubes.specs.Points.{Setting, entry_bits, key_bits, port_bits, points_of, points}
use Rattle.match_cubes.specs.Cubes.{other, unlike, alternatives, comparing, meets_with, all_cubes, constant_cubes, as_cubes, cubes_in}
use Rattle.match_cubes.specs.Width.{product, total, entry_weight, weights_of, weights, compare_width, widths, width_in}
use Rattle.match_cubes.proofs.TernaryLaws.{meet_few, turned_length}
use Rattle.match_cubes.proofs.Alternatives.{few_meets}
use Rattle.match_cubes.proofs.AskedLaws.{cubes_few_meet}
use Rattle.match_cubes.proofs.Relations.{Zips, zips_none, zips_more, related, always}

-- ---- how many cubes one value has that differ from it

ones_mod : (w m : ℕ) → count_ones (m % 2 ^ w) ≤ count_ones m
ones_mod w m =
    omega (arith, ones_cat w (m / 2 ^ w) (m % 2 ^ w) (mod_below m (2 ^ w) (pow_pos w)), ap count_ones (shr_split m w))

-- each value has at most as many as it weighs
abbrev pub AreFew : ℕ → List (Option Bits) → List ℕ → Type 0
AreFew w [] [] = Unit {0}
AreFew w (p ∷ ps) (n ∷ ns) = (length (other w p) ≤ n) × AreFew w ps ns
AreFew w _ _ = ⊥

few_cat : (w : ℕ) (ps qs : List (Option Bits)) (ns ms : List ℕ) → AreFew w ps ns → AreFew w qs ms → AreFew w (ps ++ qs) (ns ++ ms)
few_cat w [] qs [] ms h k = k
few_cat w (p ∷ ps) qs (n ∷ ns) ms h k = (h.0, few_cat w ps qs ns ms h.1 k)
few_cat w [] qs (n ∷ ns) ms h k = absurd h
few_cat w (p ∷ ps) qs [] ms h k = absurd h

few_under : (w n m : ℕ) → length (turned_bits w (under n m)) ≤ count_ones m
few_under w n m = omega (arith, turned_length w (under n m), ones_mod w m)

few_key : (w : ℕ) (k : Option ℕ) → length (other w (key_bits k)) ≤ 16
few_key w (Some k) = omega (arith, few_under w k 0xffff, ones-ones 16)
few_key w None = omega arith

few_ports : (s : Setting) (w : ℕ) (names : List (List ℕ)) → AreFew w (map (port_bits s) names) (map (λ p. 16) names)
few_ports s w [] = tt
few_ports s w (n ∷ ns) = (few_key w (s.key n), few_ports s w ns)

few_ip : (w a m : ℕ) (b : Bool) → length (other w (cond b (Some (under a m)) None)) ≤ cond b (count_ones m) 1
few_ip w a m true = few_under w a m
few_ip w a m false = omega arith

few_mac : (w n : ℕ) (b : Bool) → length (other w (cond b (Some (under n 0xffff_ffff_ffff)) None)) ≤ cond b 48 1
few_mac w n true = omega (arith, few_under w n 0xffff_ffff_ffff, ones-ones 48)
few_mac w n false = omega arith

few_entry : (g : Field) (e : SetEntry) → length (other (bit_width g) (entry_bits g e)) ≤ entry_weight g e
few_entry g (entry.Ip c) = few_ip (bit_width g) c.addr.0 (prefix_mask c.len) (bit_width g == 32)
few_entry g (entry.Ether m) = few_mac (bit_width g) (mac_number m) (bit_width g == 48)

few_entries : (g : Field) (es : List SetEntry) → AreFew (bit_width g) (map (entry_bits g) es) (map (entry_weight g) es)
few_entries g [] = tt
few_entries g (e ∷ es) = (few_entry g e, few_entries g es)

few_value : (s : Setting) (g : Field) (x : Value) → AreFew (bit_width g) (points_of s g x) (weights_of s.members g x)
few_value s g (v.Number n m) = (few_under (bit_width g) n m, tt)
few_value s g (v.Port text) = (few_key (bit_width g) (s.key text), tt)
few_value s g (v.Set name) = few_entries g (s.members.entries name)
few_value s g (v.Group name) = few_ports s (bit_width g) (s.members.ports name)

few_values : (s : Setting) (g : Field) (xs : List Value) → AreFew (bit_width g) (points s g xs) (weights s.members g xs)
unfolding points weights
few_values s g [] = tt
few_values s g (x ∷ xs) = few_cat (bit_width g) (points_of s g x) (flat_map (points_of s g) xs) (weights_of s.members g x) (flat_map (weights_of s.members g) xs) (few_value s g x) (few_values s g xs)

-- ---- comparisons

few_equal : (w : ℕ) (ps : List (Option Bits)) (ns : List ℕ) → AreFew w ps ns → length (flat_map option_to_list ps) ≤ length ns
few_equal w [] [] h = omega arith
few_equal w (Some b ∷ ps) (n ∷ ns) h = omega (arith, few_equal w ps ns h.1)
few_equal w (None ∷ ps) (n ∷ ns) h = omega (arith, few_equal w ps ns h.1)
few_equal w [] (n ∷ ns) h = absurd h
few_equal w (Some b ∷ ps) [] h = absurd h
few_equal w (None ∷ ps) [] h = absurd h

times_swap : (a b c : ℕ) → (a * b) * c ≡ a * (b * c)
times_swap a b c = grind arith

few_step : (w : ℕ) (bs : List Bits) (p : Option Bits) (n : ℕ) → length (other w p) ≤ n → length (meets meet_bits bs (other w p)) ≤ length bs * n
few_step w bs p n h =
    omega (arith, few_meets meet_bits meet_few bs (other w p), mul-le (length bs) (length (other w p)) (length bs) n (omega arith) h)

few_unlike : (w : ℕ) (bs : List Bits) (ps : List (Option Bits)) (ns : List ℕ) → AreFew w ps ns → length (unlike w bs ps) ≤ length bs * product ns
unfolding unlike
few_unlike w bs [] [] h = omega arith
few_unlike w bs (p ∷ ps) (n ∷ ns) h =
    let rest = few_unlike w (meets meet_bits bs (other w p)) ps ns h.1 in
    let step = mul-le (length (meets meet_bits bs (other w p))) (product ns) (length bs * n) (product ns) (few_step w bs p n h.0) (omega arith) in
    omega (arith, rest, step, times_swap (length bs) n (product ns))
few_unlike w bs [] (n ∷ ns) h = absurd h
few_unlike w bs (p ∷ ps) [] h = absurd h

few_compare : (s : Setting) (g : Field) (rel : Rel) (xs : List Value) → length (alternatives s g rel xs) ≤ compare_width s.members g rel xs
unfolding alternatives compare_width
few_compare s g r.Eq xs = few_equal (bit_width g) (points s g xs) (weights s.members g xs) (few_values s g xs)
few_compare s g r.Ne xs = omega (arith, few_unlike (bit_width g) (any_bits ∷ []) (points s g xs) (weights s.members g xs) (few_values s g xs))
few_compare s g r.Lt xs = omega arith
few_compare s g r.Le xs = omega arith
few_compare s g r.Gt xs = omega arith
few_compare s g r.Ge xs = omega arith

-- ---- expressions

abbrev pub Few : List Cube → ℕ → Type 0
Few cs n = length cs ≤ n

few_constant : (b : Bool) → Few (constant_cubes b) 1
few_constant true = omega arith
few_constant false = omega arith

few_with : (so_far : List Cube) (xs : List (List Cube)) (ns : List ℕ) → Zips Few xs ns → length (meets_with so_far xs) ≤ length so_far * product ns
unfolding meets_with
few_with so_far [] [] zips_none = omega arith
few_with so_far (x ∷ xs) (n ∷ ns) (zips_more _ _ _ _ h z) =
    let rest = few_with (meets meet so_far x) xs ns z in
    let first = few_meets meet cubes_few_meet so_far x in
    let second = mul-le (length so_far) (length x) (length so_far) n (omega arith) h in
    let step = mul-le (length (meets meet so_far x)) (product ns) (length so_far * n) (product ns) (omega (arith, first, second)) (omega arith) in
    omega (arith, rest, step, times_swap (length so_far) n (product ns))
few_with so_far [] (n ∷ ns) z = elim z [ ]
few_with so_far (x ∷ xs) [] z = elim z [ ]

pub few_every : (xs : List (List Cube)) (ns : List ℕ) → Zips Few xs ns → Few (meets_with (all_packets ∷ []) xs) (product ns)
few_every xs ns z = omega (arith, few_with (all_packets ∷ []) xs ns z)

few_either : (xs : List (List Cube)) (ns : List ℕ) → Zips Few xs ns → Few (all_cubes xs) (total ns)
unfolding all_cubes
few_either [] [] zips_none = omega arith
few_either (x ∷ xs) (n ∷ ns) (zips_more _ _ _ _ h z) = omega (arith, length-append x (flat_map (λ cs. cs) xs), few_either xs ns z, h)
few_either [] (n ∷ ns) z = elim z [ ]
few_either (x ∷ xs) [] z = elim z [ ]

few_compared : (s : Setting) (g : Field) (rel : Rel) (xs : List Value) → Few (map (comparing g) (alternatives s g rel xs)) (compare_width s.members g rel xs)
few_compared s g rel xs = omega (arith, length-map (alternatives s g rel xs) (comparing g), few_compare s g rel xs)

-- there are at most as many cubes as the match is wide
pub cubes_few : (s : Setting) (e : Expr) (positive : Bool) → length (cubes_in s e positive) ≤ width_in s.members e positive
unfolding cubes_in width_in
cubes_few s e positive =
    related (as_cubes s) (widths s.members) (λ g rel xs. true) Few few_constant (λ g rel xs h. few_compared s g rel xs) few_every few_either e positive (always e positive)
