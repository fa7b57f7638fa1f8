-- The values of terms of which rows are made stand with their fields.
use Rattle.std.specs.Prelude.{◌≡◌, ◌≤◌, ◌<◌, ◌-◌, ◌^◌, ◌&&◌, ◌++◌, ℕ, Bool, true, false, not, List, [], ◌∷◌, nat_lt, bit_and}
use Rattle.std.specs.List.{AllByRecursion, list_all}
use Rattle.std.proofs.Common.{refl, ◌∙◌, arith}
use Rattle.std.proofs.lemmas.Bool.{and_from, lt-ltb}
use Rattle.std.proofs.lemmas.List.Folds.{list_all-map}
use Rattle.std.proofs.lemmas.Nat.{pow_pos, shr_split}
use Rattle.std.proofs.lemmas.Nat.Bits.{and_high_mask}
use Rattle.ovn_base.specs.declared.address.Backend.{Backend}
use Rattle.ovn_base.specs.declared.address.Cidr.{Cidr}
use Rattle.ovn_base.specs.declared.address.Ip4.{Ip4}
use Rattle.ovn_base.specs.declared.address.Mac.{Mac}
use Rattle.ovn_base.specs.declared.name.Name.{Name}
use Rattle.match_language.specs.Constants.{prefix_mask}
use Rattle.match_language.specs.declared.expr.Expr.{Expr}
use Rattle.match_language.specs.declared.expr.Expr.TheVariants as e
use Rattle.match_language.specs.declared.expr.Rel.TheVariants as r
use Rattle.match_language.specs.declared.expr.Value.{Value}
use Rattle.match_language.specs.declared.expr.Value.TheVariants as v
use Rattle.match_language.specs.declared.field.Field.{Field}
use Rattle.match_language.specs.declared.field.Field.TheVariants as f
use Rattle.match_language.specs.declared.field.Predicate.{Predicate}
use Rattle.match_language.specs.declared.field.Predicate.TheVariants as p
use Rattle.match_cubes.proofs.Cases.{meaning_const, meaning_is, meaning_not, meaning_all, meaning_any, meaning_compare}
use Rattle.match_cubes.proofs.SuitedLaws.{ok, predicate_ok}
use Rattle.match_cubes.specs.Inwards.{are_all}
use Rattle.match_cubes.specs.Suited.{suits, are_suited}
use Rattle.nb_records.specs.Grammar.{IsIp4, IsCidr, IsBackend}
use Rattle.nb_records.specs.declared.balancer.BalancerProtocol.{BalancerProtocol}
use Rattle.nb_records.specs.declared.balancer.BalancerProtocol.TheVariants as balanced
use Rattle.stage_rows.specs.BalancerRows.{to_vip}
use Rattle.stage_rows.specs.Rows.{all_of, field_with, field_is, mac_is, ip_is, ip_in, in_is, out_is, unicast, asks_for, whole_number, prefix_value}

abbrev pub suited : Expr → Bool
suited x = are_suited x true

-- ---- terms together

-- each term is suited
abbrev pub AreSuited : List Expr → Type 0
AreSuited xs = AllByRecursion (λ (x : Expr). suited x ≡ true) xs

all_suited : (xs : List Expr) → AreSuited xs → list_all suited xs ≡ true
all_suited [] h = refl
all_suited (x ∷ xs) h = and_from (suited x) (list_all suited xs) h.0 (all_suited xs h.1)

pub suited_all : (xs : List Expr) → AreSuited xs → suited (all_of xs) ≡ true
unfolding are_all
suited_all [] h = meaning_const ok true true
suited_all (x ∷ []) h = h.0
suited_all (x ∷ y ∷ xs) h = meaning_all ok true (x ∷ y ∷ xs) ∙ list_all-map (λ b. b) suited (x ∷ y ∷ xs) ∙ all_suited (x ∷ y ∷ xs) h

pub suited_either : (x y : Expr) → suited x ≡ true → suited y ≡ true → suited (e.Any (x ∷ y ∷ [])) ≡ true
unfolding are_all
suited_either x y h k = meaning_any ok true (x ∷ y ∷ []) ∙ list_all-map (λ b. b) suited (x ∷ y ∷ []) ∙ and_from (suited x) (suited y && true) h (and_from (suited y) true k refl)

pub suited_more : (xs ys : List Expr) → AreSuited xs → AreSuited ys → AreSuited (xs ++ ys)
suited_more [] ys h k = k
suited_more (x ∷ xs) ys h k = (h.0, suited_more xs ys h.1 k)

-- ---- predicates

pub suited_is : (q : Predicate) → suited (e.Is q) ≡ true
unfolding are_all
suited_is q = meaning_is ok true q ∙ predicate_ok q true

pub suited_unicast : suited unicast ≡ true
unfolding are_all
suited_unicast = meaning_not ok true (e.Is p.EthMcast) ∙ meaning_is ok (not true) p.EthMcast ∙ predicate_ok p.EthMcast (not true)

-- ---- values

pub suited_with : (g : Field) (xs : List Value) → list_all (suits g) xs ≡ true → suited (field_with g xs) ≡ true
unfolding are_all
suited_with g xs h = meaning_compare ok true g r.Eq xs ∙ h

pub suited_number : (g : Field) (n : ℕ) → suits g (whole_number g n) ≡ true → suited (field_is g n) ≡ true
suited_number g n h = suited_with g (whole_number g n ∷ []) (and_from (suits g (whole_number g n)) true h refl)

pub suited_in : (q : Name) → suited (in_is q) ≡ true
suited_in q = suited_with f.Inport (v.Port q ∷ []) refl

pub suited_out : (q : Name) → suited (out_is q) ≡ true
suited_out q = suited_with f.Outport (v.Port q ∷ []) refl

below : (n w : ℕ) → n < 2 ^ w → (nat_lt n (2 ^ w) && nat_lt (2 ^ w - 1) (2 ^ w)) ≡ true
below n w h = and_from (nat_lt n (2 ^ w)) (nat_lt (2 ^ w - 1) (2 ^ w)) (lt-ltb n (2 ^ w) h) (lt-ltb (2 ^ w - 1) (2 ^ w) (omega (arith, pow_pos w)))

pub suited_src : (m : Mac) → suited (mac_is f.EthSrc m) ≡ true
suited_src m = suited_number f.EthSrc m.number (below m.number 48 m.below)

pub suited_dst : (m : Mac) → suited (mac_is f.EthDst m) ≡ true
suited_dst m = suited_number f.EthDst m.number (below m.number 48 m.below)

pub suited_sha : (m : Mac) → suited (mac_is f.ArpSha m) ≡ true
suited_sha m = suited_number f.ArpSha m.number (below m.number 48 m.below)

pub suited_ip_dst : (ip : Ip4) → IsIp4 ip → suited (ip_is f.Ip4Dst ip) ≡ true
suited_ip_dst ip h = suited_number f.Ip4Dst ip.0 (below ip.0 32 h)

suited_tpa : (ip : Ip4) → IsIp4 ip → suited (ip_is f.ArpTpa ip) ≡ true
suited_tpa ip h = suited_number f.ArpTpa ip.0 (below ip.0 32 h)

pub suited_asks : (ip : Ip4) → IsIp4 ip → AreSuited (asks_for ip)
suited_asks ip h = (suited_number f.ArpOp 1 refl, (suited_tpa ip h, tt))

-- ---- prefixes

mask_small : (len : ℕ) → prefix_mask len < 2 ^ 32
mask_small len = omega (arith, pow_pos (32 - len))

value_small : (a len : ℕ) → a < 2 ^ 32 → bit_and a (prefix_mask len) < 2 ^ 32
value_small a len h =
    let k : ℕ = 32 - len in
    let within : k ≤ 32 = omega arith in
    omega (arith, and_high_mask 32 k within a h, shr_split a k, h)

prefix_ok : (c : Cidr) → IsCidr c → (nat_lt (bit_and c.addr.0 (prefix_mask c.len)) (2 ^ 32) && nat_lt (prefix_mask c.len) (2 ^ 32)) ≡ true
prefix_ok c h = and_from (nat_lt (bit_and c.addr.0 (prefix_mask c.len)) (2 ^ 32)) (nat_lt (prefix_mask c.len) (2 ^ 32)) (lt-ltb (bit_and c.addr.0 (prefix_mask c.len)) (2 ^ 32) (value_small c.addr.0 c.len h.0)) (lt-ltb (prefix_mask c.len) (2 ^ 32) (mask_small c.len))

pub suited_src_in : (c : Cidr) → IsCidr c → suited (ip_in f.Ip4Src c) ≡ true
suited_src_in c h = suited_with f.Ip4Src (prefix_value c ∷ []) (and_from (suits f.Ip4Src (prefix_value c)) true (prefix_ok c h) refl)

pub suited_dst_in : (c : Cidr) → IsCidr c → suited (ip_in f.Ip4Dst c) ≡ true
suited_dst_in c h = suited_with f.Ip4Dst (prefix_value c ∷ []) (and_from (suits f.Ip4Dst (prefix_value c)) true (prefix_ok c h) refl)

pub suited_spa_in : (c : Cidr) → IsCidr c → suited (ip_in f.ArpSpa c) ≡ true
suited_spa_in c h = suited_with f.ArpSpa (prefix_value c ∷ []) (and_from (suits f.ArpSpa (prefix_value c)) true (prefix_ok c h) refl)

-- ---- virtual addresses

pub suited_vip : (kind : BalancerProtocol) (at : Backend) → IsBackend at → AreSuited (to_vip kind at)
suited_vip balanced.Tcp at h = (suited_is p.Tcp, (suited_ip_dst at.ip h.ip, (suited_number f.TcpDst at.port (below at.port 16 h.few), tt)))
suited_vip balanced.Udp at h = (suited_is p.Udp, (suited_ip_dst at.ip h.ip, (suited_number f.UdpDst at.port (below at.port 16 h.few), tt)))
