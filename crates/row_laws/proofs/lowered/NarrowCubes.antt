-- The cubes of a match ask for no bit above the width of a field.
use Rattle.std.specs.Prelude.{◌≡◌, ◌<◌, ◌≤◌, ◌+◌, ◌*◌, ◌^◌, ◌&&◌, ◌++◌, ◌==◌, ◌∷◌, [], ℕ, ◌-◌, zero, suc, Bool, true, false, not, cond, nat_lt, List, map, flat_map, Option, Some, None, option_to_list}
use Rattle.std.specs.Int.{bit_at}
use Rattle.std.specs.List.{AllByRecursion, list_all}
use Rattle.std.proofs.Common.{refl, sym, subst, arith}
use Rattle.std.proofs.Math.Pow.{pow-lt, pow-sub-lt}
use Rattle.std.proofs.lemmas.Bool.{and_parts, eqb-true, ltb-true}
use Rattle.std.proofs.lemmas.Nat.{or_lt, pow_pos}
use Rattle.ovn_base.specs.declared.address.SetEntry.{SetEntry}
use Rattle.ovn_base.specs.declared.address.SetEntry.TheVariants as entry
use Rattle.inet_packet.specs.declared.cube.Bits.{Bits}
use Rattle.inet_packet.specs.declared.cube.Cube.{Cube}
use Rattle.match_language.specs.Constants.{prefix_mask}
use Rattle.match_language.specs.Tables.{is_port_field, prerequisite}
use Rattle.match_language.specs.declared.expr.Expr.{Expr}
use Rattle.match_language.specs.declared.expr.Rel.{Rel}
use Rattle.match_language.specs.declared.expr.Rel.TheVariants as r
use Rattle.match_language.specs.declared.expr.Value.{Value}
use Rattle.match_language.specs.declared.expr.Value.TheVariants as v
use Rattle.match_language.specs.declared.field.Field.{Field}
use Rattle.match_language.specs.declared.field.Field.TheVariants as f
use Rattle.match_language.specs.declared.field.Predicate.{Predicate}
use Rattle.match_language.specs.declared.field.Predicate.TheVariants as p
use Rattle.match_cubes.proofs.Relations.{Zips, zips_none, zips_more, related}
use Rattle.match_cubes.specs.Asked.{bit_width, asked_of_field, all_packets, ask, agree_all, joined_all, meet}
use Rattle.match_cubes.specs.Cubes.{other, unlike, ordered, alternatives, ask_all, comparing, meets_with, all_cubes, constant_cubes, as_cubes, cubes_in}
use Rattle.match_cubes.specs.Holds.{needs}
use Rattle.match_cubes.specs.Inwards.{tests}
use Rattle.match_cubes.specs.Points.{Setting, entry_bits, key_bits, port_bits, points_of, points}
use Rattle.match_cubes.specs.Prefixes.{lies, prefix, largest, prefixes}
use Rattle.match_cubes.specs.Suited.{suits, are_suited}
use Rattle.match_cubes.specs.Ternary.{under, any_bits, agree, both_bits, turned, turned_bits, meet_bits, meets}

-- ---- bits

abbrev pub IsBelow : ℕ → Bits → Type 0
IsBelow w b = b.mask < 2 ^ w

abbrev AreBelow : ℕ → List Bits → Type 0
AreBelow w bs = AllByRecursion (IsBelow w) bs

abbrev IsPointBelow : ℕ → Option Bits → Type 0
IsPointBelow w (Some b) = IsBelow w b
IsPointBelow w None = Unit {0}

abbrev ArePointsBelow : ℕ → List (Option Bits) → Type 0
ArePointsBelow w ps = AllByRecursion (IsPointBelow w) ps

module _ {Y : Type 0} (P : Y → Type 0) where
  cat : (xs ys : List Y) → AllByRecursion P xs → AllByRecursion P ys → AllByRecursion P (xs ++ ys)
  cat [] ys h k = k
  cat (x ∷ xs) ys h k = (h.0, cat xs ys h.1 k)

  mapped : {X : Type 0} (g : X → Y) → ((x : X) → P (g x)) → (xs : List X) → AllByRecursion P (map g xs)
  mapped g h [] = tt
  mapped g h (x ∷ xs) = (h x, mapped g h xs)

  mapped_of : {X : Type 0} (Q : X → Type 0) (g : X → Y) → ((x : X) → Q x → P (g x)) → (xs : List X) → AllByRecursion Q xs → AllByRecursion P (map g xs)
  mapped_of Q g h [] k = tt
  mapped_of Q g h (x ∷ xs) k = (h x k.0, mapped_of Q g h xs k.1)

  flat_of : {X : Type 0} (Q : X → Type 0) (g : X → List Y) → ((x : X) → Q x → AllByRecursion P (g x)) → (xs : List X) → AllByRecursion Q xs → AllByRecursion P (flat_map g xs)
  flat_of Q g h [] k = tt
  flat_of Q g h (x ∷ xs) k = cat (g x) (flat_map g xs) (h x k.0) (flat_of Q g h xs k.1)

  met : (meet : Y → Y → List Y) → ((x y : Y) → P x → P y → AllByRecursion P (meet x y)) → (xs ys : List Y) → AllByRecursion P xs → AllByRecursion P ys → AllByRecursion P (meets meet xs ys)
  unfolding meets
  met meet each xs ys h k = flat_of P (λ x. flat_map (meet x) ys) (λ x p. flat_of P (meet x) (λ y q. each x y p q) ys k) xs h

-- ---- the values of a comparison

port_wide : (g : Field) → is_port_field g ≡ true → bit_width g ≡ 16
port_wide f.Inport h = refl
port_wide f.Outport h = refl
port_wide _ h = absurd cc

key_below : (g : Field) (k : Option ℕ) → is_port_field g ≡ true → IsPointBelow (bit_width g) (key_bits k)
key_below g (Some k) h = subst (λ (w : ℕ). 0xffff < 2 ^ w) (sym (port_wide g h)) (omega arith)
key_below g None h = tt

ip_below : (w a len : ℕ) (b : Bool) → (w == 32) ≡ b → IsPointBelow w (cond b (Some (under a (prefix_mask len))) None)
ip_below w a len true h = subst (λ (w : ℕ). prefix_mask len < 2 ^ w) (sym (eqb-true w 32 h)) (omega (arith, pow_pos (32 - len)))
ip_below w a len false h = tt

mac_below : (w n : ℕ) (b : Bool) → (w == 48) ≡ b → IsPointBelow w (cond b (Some (under n 0xffff_ffff_ffff)) None)
mac_below w n true h = subst (λ (w : ℕ). 0xffff_ffff_ffff < 2 ^ w) (sym (eqb-true w 48 h)) (omega arith)
mac_below w n false h = tt

entry_below : (g : Field) (x : SetEntry) → IsPointBelow (bit_width g) (entry_bits g x)
entry_below g (entry.Ip c) = ip_below (bit_width g) c.addr.0 c.len (bit_width g == 32) refl
entry_below g (entry.Ether m) = mac_below (bit_width g) _ (bit_width g == 48) refl

value_below : (s : Setting) (g : Field) (x : Value) → suits g x ≡ true → ArePointsBelow (bit_width g) (points_of s g x)
value_below s g (v.Number n m) h =
    let parts = and_parts (not (is_port_field g)) (nat_lt n (2 ^ bit_width g) && nat_lt m (2 ^ bit_width g)) h in
    (ltb-true m (2 ^ bit_width g) (and_parts (nat_lt n (2 ^ bit_width g)) (nat_lt m (2 ^ bit_width g)) parts.1).1, tt)
value_below s g (v.Port text) h = (key_below g (s.key text) h, tt)
value_below s g (v.Set name) h = mapped (IsPointBelow (bit_width g)) (entry_bits g) (entry_below g) (s.members.entries name)
value_below s g (v.Group name) h = mapped (IsPointBelow (bit_width g)) (port_bits s) (λ q. key_below g (s.key q) h) (s.members.ports name)

points_below : (s : Setting) (g : Field) (xs : List Value) → list_all (suits g) xs ≡ true → ArePointsBelow (bit_width g) (points s g xs)
unfolding points
points_below s g [] h = tt
points_below s g (x ∷ xs) h =
    let parts = and_parts (suits g x) (list_all (suits g) xs) h in
    cat (IsPointBelow (bit_width g)) (points_of s g x) (flat_map (points_of s g) xs) (value_below s g x parts.0) (points_below s g xs parts.1)

-- ---- its alternatives

zero_below : (w : ℕ) → 0 < 2 ^ w
zero_below w = pow_pos w

turned_below : (w k : ℕ) (b : Bits) → k ≤ w → AreBelow w (turned_bits k b)
unfolding turned_bits
turned_below w zero b h = tt
turned_below w (suc k) b h = cat (IsBelow w) (turned_bits k b) _ (turned_below w k b (omega (arith, h))) (by (bit_at b.mask k == 1))
  where
    by : (t : Bool) → AreBelow w (cond t (turned b.value k ∷ []) [])
    by true = (pow-lt (omega (arith, h)), tt)
    by false = tt

other_below : (w : ℕ) (o : Option Bits) → AreBelow w (other w o)
other_below w (Some b) = turned_below w w b (omega arith)
other_below w None = (zero_below w, tt)

meet_below : (w : ℕ) (a b : Bits) → IsBelow w a → IsBelow w b → AreBelow w (meet_bits a b)
meet_below w a b h k = by (agree a b)
  where
    by : (t : Bool) → AreBelow w (cond t (both_bits a b ∷ []) [])
    by true = (or_lt w a.mask b.mask h k, tt)
    by false = tt

unlike_below : (w : ℕ) (bs : List Bits) (ps : List (Option Bits)) → AreBelow w bs → AreBelow w (unlike w bs ps)
unfolding unlike
unlike_below w bs [] h = h
unlike_below w bs (o ∷ ps) h = unlike_below w (meets meet_bits bs (other w o)) ps (met (IsBelow w) meet_bits (meet_below w) bs (other w o) h (other_below w o))

prefix_below : (w i n : ℕ) → IsBelow w (prefix w i n)
prefix_below w i n = pow-sub-lt w (pow_pos i)

largest_below : (w : ℕ) (rel : Rel) (bound i n : ℕ) → AreBelow w (largest w rel bound i n)
unfolding largest
largest_below w rel bound zero n = by (lies rel bound zero n)
  where
    by : (t : Bool) → AreBelow w (cond t (prefix w zero n ∷ []) [])
    by true = (prefix_below w zero n, tt)
    by false = tt
largest_below w rel bound (suc i) n = by (lies rel bound (suc i) n) (cat (IsBelow w) (largest w rel bound i (2 * n)) (largest w rel bound i (2 * n + 1)) (largest_below w rel bound i (2 * n)) (largest_below w rel bound i (2 * n + 1)))
  where
    by : (t : Bool) → AreBelow w (largest w rel bound i (2 * n) ++ largest w rel bound i (2 * n + 1)) → AreBelow w (cond t (prefix w (suc i) n ∷ []) (largest w rel bound i (2 * n) ++ largest w rel bound i (2 * n + 1)))
    by true rest = (prefix_below w (suc i) n, tt)
    by false rest = rest

ordered_below : (w : ℕ) (rel : Rel) (xs : List Value) → AreBelow w (ordered w rel xs)
unfolding prefixes
ordered_below w rel [] = tt
ordered_below w rel (v.Number bound m ∷ []) = largest_below w rel bound w 0
ordered_below w rel (v.Number bound m ∷ x ∷ xs) = tt
ordered_below w rel (v.Port text ∷ xs) = tt
ordered_below w rel (v.Set name ∷ xs) = tt
ordered_below w rel (v.Group name ∷ xs) = tt

equal_below : (w : ℕ) (o : Option Bits) → IsPointBelow w o → AreBelow w (option_to_list o)
equal_below w (Some b) h = (h, tt)
equal_below w None h = tt

alternatives_below : (s : Setting) (g : Field) (rel : Rel) (xs : List Value) → list_all (suits g) xs ≡ true → AreBelow (bit_width g) (alternatives s g rel xs)
unfolding alternatives
alternatives_below s g r.Eq xs h = flat_of (IsBelow (bit_width g)) (IsPointBelow (bit_width g)) option_to_list (equal_below (bit_width g)) (points s g xs) (points_below s g xs h)
alternatives_below s g r.Ne xs h = unlike_below (bit_width g) (any_bits ∷ []) (points s g xs) (zero_below (bit_width g), tt)
alternatives_below s g rel xs h = ordered_below (bit_width g) rel xs

-- ---- cubes

-- the words in which registers stand that are no ports, but for the flags
abbrev pub AreWordsBelow : Cube → Type 0
AreWordsBelow c =
    IsBelow 24 c.dp × IsBelow 32 c.next × IsBelow 16 c.z_in × IsBelow 16 c.z_out × IsBelow 16 c.z_dnat × IsBelow 16 c.z_snat × IsBelow 3 c.state × IsBelow 3 c.verdict × IsBelow 3 c.tier

-- the cube asks for no bit above a field or a register
pub record IsNarrow (c : Cube) : Type 0 where
  pub fields : (g : Field) → IsBelow (bit_width g) (asked_of_field g c)
  pub words : AreWordsBelow c

abbrev AreNarrow : List Cube → Type 0
AreNarrow cs = AllByRecursion IsNarrow cs

no_words : AreWordsBelow all_packets
no_words = (omega arith, omega arith, omega arith, omega arith, omega arith, omega arith, omega arith, omega arith, omega arith)

no_fields : (g : Field) → IsBelow (bit_width g) (asked_of_field g all_packets)
no_fields f.EthSrc = omega arith
no_fields _ = omega arith

all_narrow : IsNarrow all_packets
all_narrow = record { fields = no_fields; words = no_words }

ask_fields : (h : Field) (b : Bits) (c : Cube) → IsBelow (bit_width h) b → ((g : Field) → IsBelow (bit_width g) (asked_of_field g c)) → (g : Field) → IsBelow (bit_width g) (asked_of_field g (ask h b c))
ask_fields f.EthSrc b c k n f.EthSrc = k
ask_fields f.EthDst b c k n f.EthDst = k
ask_fields f.EthType b c k n f.EthType = k
ask_fields f.Ip4Src b c k n f.Ip4Src = k
ask_fields f.Ip4Dst b c k n f.Ip4Dst = k
ask_fields f.IpProto b c k n f.IpProto = k
ask_fields f.IpTtl b c k n f.IpTtl = k
ask_fields f.TcpSrc b c k n f.TcpSrc = k
ask_fields f.TcpDst b c k n f.TcpDst = k
ask_fields f.UdpSrc b c k n f.UdpSrc = k
ask_fields f.UdpDst b c k n f.UdpDst = k
ask_fields f.Icmp4Type b c k n f.Icmp4Type = k
ask_fields f.Icmp4Code b c k n f.Icmp4Code = k
ask_fields f.ArpOp b c k n f.ArpOp = k
ask_fields f.ArpSpa b c k n f.ArpSpa = k
ask_fields f.ArpTpa b c k n f.ArpTpa = k
ask_fields f.ArpSha b c k n f.ArpSha = k
ask_fields f.ArpTha b c k n f.ArpTha = k
ask_fields f.Inport b c k n f.Inport = k
ask_fields f.Outport b c k n f.Outport = k
ask_fields _ b c k n g = n g

ask_words : (h : Field) (b : Bits) (c : Cube) → AreWordsBelow c → AreWordsBelow (ask h b c)
ask_words f.EthSrc b c n = n
ask_words _ b c n = n

ask_narrow : (h : Field) (b : Bits) (c : Cube) → IsBelow (bit_width h) b → IsNarrow c → IsNarrow (ask h b c)
ask_narrow h b c k n = record { fields = ask_fields h b c k n.fields; words = ask_words h b c n.words }

abbrev IsTestBelow : Field × Bits → Type 0
IsTestBelow t = IsBelow (bit_width t.0) t.1

ask_all_narrow : (ts : List (Field × Bits)) (c : Cube) → AllByRecursion IsTestBelow ts → IsNarrow c → IsNarrow (ask_all c ts)
ask_all_narrow [] c h n = n
ask_all_narrow (t ∷ ts) c h n = ask_all_narrow ts (ask t.0 t.1 c) h.1 (ask_narrow t.0 t.1 c h.0 n)

tests_below : (q : Predicate) → AllByRecursion IsTestBelow (tests q)
tests_below p.Ip4 = (omega arith, tt)
tests_below p.Ip6 = (omega arith, tt)
tests_below p.Arp = (omega arith, tt)
tests_below p.Ip = (omega arith, (omega arith, tt))
tests_below p.Tcp = (omega arith, (omega arith, tt))
tests_below p.Udp = (omega arith, (omega arith, tt))
tests_below p.Icmp4 = (omega arith, (omega arith, tt))
tests_below p.EthBcast = (omega arith, tt)
tests_below p.EthMcast = (omega arith, tt)
tests_below p.Ip4Mcast = (omega arith, (omega arith, tt))

needs_below : (o : Option Predicate) → AllByRecursion IsTestBelow (needs o)
needs_below None = tt
needs_below (Some q) = tests_below q

comparing_narrow : (g : Field) (b : Bits) → IsBelow (bit_width g) b → IsNarrow (comparing g b)
unfolding comparing
comparing_narrow g b k = ask_narrow g b _ k (ask_all_narrow (needs (prerequisite g)) all_packets (needs_below (prerequisite g)) all_narrow)

joined_fields : (a b : Cube) → IsNarrow a → IsNarrow b → (g : Field) → IsBelow (bit_width g) (asked_of_field g (joined_all a b))
joined_fields a b n k f.EthSrc = or_lt 48 _ _ (n.fields f.EthSrc) (k.fields f.EthSrc)
joined_fields a b n k g = or_lt (bit_width g) _ _ (n.fields g) (k.fields g)

meet_narrow : (a b : Cube) → IsNarrow a → IsNarrow b → AreNarrow (meet a b)
unfolding meet
meet_narrow a b n k = by (agree_all a b)
  where
    by : (t : Bool) → AreNarrow (cond t (joined_all a b ∷ []) [])
    by true = (record { fields = joined_fields a b n k; words = no_words }, tt)
    by false = tt

every_narrow : (so_far : List Cube) (xs ys : List (List Cube)) → AreNarrow so_far → Zips (λ cs ds. AreNarrow cs) xs ys → AreNarrow (meets_with so_far xs)
unfolding meets_with
every_narrow so_far [] [] h zips_none = h
every_narrow so_far (x ∷ xs) (y ∷ ys) h (zips_more _ _ _ _ k z) = every_narrow (meets meet so_far x) xs ys (met IsNarrow meet meet_narrow so_far x h k) z
every_narrow so_far [] (y ∷ ys) h z = elim z [ ]
every_narrow so_far (x ∷ xs) [] h z = elim z [ ]

either_narrow : (xs ys : List (List Cube)) → Zips (λ cs ds. AreNarrow cs) xs ys → AreNarrow (all_cubes xs)
unfolding all_cubes
either_narrow [] [] zips_none = tt
either_narrow (x ∷ xs) (y ∷ ys) (zips_more _ _ _ _ k z) = cat IsNarrow x (flat_map (λ cs. cs) xs) k (either_narrow xs ys z)
either_narrow [] (y ∷ ys) z = elim z [ ]
either_narrow (x ∷ xs) [] z = elim z [ ]

constant_narrow : (b : Bool) → AreNarrow (constant_cubes b)
constant_narrow true = (all_narrow, tt)
constant_narrow false = tt

pub cubes_narrow : (s : Setting) (e : Expr) (positive : Bool) → are_suited e positive ≡ true → AllByRecursion IsNarrow (cubes_in s e positive)
unfolding cubes_in
cubes_narrow s e positive suited =
    related (as_cubes s) (as_cubes s) (λ g rel xs. list_all (suits g) xs) (λ cs ds. AreNarrow cs) constant_narrow
    (λ g rel xs h. mapped_of IsNarrow (IsBelow (bit_width g)) (comparing g) (comparing_narrow g) (alternatives s g rel xs) (alternatives_below s g rel xs h))
    (λ xs ys z. every_narrow (all_packets ∷ []) xs ys (all_narrow, tt) z) either_narrow e positive suited
