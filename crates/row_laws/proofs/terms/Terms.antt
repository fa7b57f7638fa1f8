-- What the terms of which rows are made say of a packet, in the words of the network.
use Rattle.std.specs.Prelude.{◌≡◌, ◌≤◌, ◌<◌, ◌-◌, ◌/◌, ◌%◌, ◌^◌, ◌==◌, ◌&&◌, ◌||◌, ℕ, Bool, true, false, not, List, [], ◌∷◌, Some, bit_and}
use Rattle.std.specs.Int.{bit_at}
use Rattle.std.specs.List.{list_all}
use Rattle.std.proofs.Common.{refl, sym, ap, ◌∙◌, subst, arith}
use Rattle.std.proofs.Math.Bool.{or-false, and-true}
use Rattle.std.proofs.lemmas.Bool.{cond-false, eqb-true, eq-eqb}
use Rattle.std.proofs.lemmas.List.Folds.{list_all-map}
use Rattle.std.proofs.lemmas.Nat.Bits.{and_pow, and_high_mask, and_high_mask_twice}
use Rattle.ovn_base.proofs.MacLemmas.{and_all}
use Rattle.ovn_base.specs.addresses.EtherAddress.{is_multicast_mac}
use Rattle.ovn_base.specs.declared.address.Cidr.{Cidr}
use Rattle.ovn_base.specs.declared.address.Mac.{Mac}
use Rattle.ovn_base.specs.declared.name.Name.{Name}
use Rattle.inet_packet.specs.Fields as field
use Rattle.match_language.specs.Constants.{prefix_mask}
use Rattle.match_language.specs.Tables.{field_bits, field_max, is_port_field}
use Rattle.match_language.specs.declared.expr.Expr.{Expr}
use Rattle.match_language.specs.declared.expr.Expr.TheVariants as e
use Rattle.match_language.specs.declared.expr.Rel.TheVariants as r
use Rattle.match_language.specs.declared.expr.Value.TheVariants as v
use Rattle.match_language.specs.declared.field.Field.{Field}
use Rattle.match_language.specs.declared.field.Field.TheVariants as f
use Rattle.match_language.specs.declared.field.Predicate.TheVariants as p
use Rattle.match_cubes.proofs.Cases.{meaning_const, meaning_is, meaning_not, meaning_all, meaning_any, meaning_compare}
use Rattle.match_cubes.proofs.TernaryLaws.{same_tests, times_test}
use Rattle.match_cubes.specs.Asked.{number_in}
use Rattle.match_cubes.specs.Holds.{stands_in, has_needs}
use Rattle.match_cubes.specs.Points.{points}
use Rattle.match_cubes.specs.Suited.{HasFieldsInRange}
use Rattle.match_cubes.specs.Ternary.{fits, under}
use Rattle.nb_records.specs.Routers.{contains}
use Rattle.nb_records.specs.Switches.{same_mac}
use Rattle.net_model.specs.Headers.{carries_ip4, carries_arp, ip_of, is_tagged}
use Rattle.net_model.specs.Sights.{Sight, Roster, is_live_one, port_relates, port_in, numbers_of, no_regs, compares, truth_at, holds_at}
use Rattle.stage_rows.specs.Rows.{all_of, field_is, mac_is, ip_in, ip_in_some, in_is, out_is, unicast, prefix_value}
use Rattle.stage_rows.specs.SwitchRows.{from_group}

-- ---- numbers

-- a number has all of its bits
pub whole : (w n k : ℕ) → n < 2 ^ w → k < 2 ^ w → (bit_and n (2 ^ w - 1) == bit_and k (2 ^ w - 1)) ≡ (n == k)
whole w n k small also = λ i. and_all n w small i == and_all k w also i

pub swapped : (n k : ℕ) → (n == k) ≡ (k == n)
swapped n k = same_tests (n == k) (k == n) (λ h. eq-eqb k n (sym (eqb-true n k h))) (λ h. eq-eqb n k (sym (eqb-true k n h)))

-- it has the bits of a prefix exactly where the prefix has it
pub in_prefix : (n a len : ℕ) → n < 2 ^ 32 → a < 2 ^ 32 → len ≤ 32
    → fits (under (bit_and a (prefix_mask len)) (prefix_mask len)) n ≡ (n / 2 ^ (32 - len) == a / 2 ^ (32 - len))
in_prefix n a len small also short =
    let k : ℕ = 32 - len in
    let within : k ≤ 32 = omega arith in
    (λ i. and_high_mask 32 k within n small i == (and_high_mask_twice 32 k within a k (omega arith) ∙ and_high_mask 32 k within a also) i)
    ∙ times_test (n / 2 ^ k) (a / 2 ^ k) k

-- the multicast bit
multicast_bit : (n : ℕ) → fits (under (2 ^ 40) (2 ^ 40)) n ≡ (n / 2 ^ 40 % 2 == 1)
multicast_bit n = ap (λ (k : ℕ). k == 2 ^ 40) (and_pow n 40) ∙ times_test (bit_at n 40) 1 40

module _ (who : Roster) (s : Sight) where
  abbrev pub says : Expr → Bool
  says x = holds_at who s x

  -- ---- terms together

  pub says_all : (xs : List Expr) → says (all_of xs) ≡ list_all says xs
  says_all [] = meaning_const (truth_at who s) true true
  says_all (x ∷ []) = sym (and-true (says x))
  says_all (x ∷ y ∷ xs) = meaning_all (truth_at who s) true (x ∷ y ∷ xs) ∙ list_all-map (λ b. b) says (x ∷ y ∷ xs)

  pub says_either : (x y : Expr) → says (e.Any (x ∷ y ∷ [])) ≡ (says x || says y)
  says_either x y = meaning_any (truth_at who s) true (x ∷ y ∷ []) ∙ ap (λ b. says x || b) (or-false (says y))

  -- ---- ports

  pub says_in : (q : Name) → says (in_is q) ≡ is_live_one (Some s.in_port) (who.live q)
  says_in q = meaning_compare (truth_at who s) true f.Inport r.Eq (v.Port q ∷ []) ∙ or-false (is_live_one (Some s.in_port) (who.live q))

  pub says_out : (q : Name) → says (out_is q) ≡ is_live_one s.out_port (who.live q)
  says_out q = meaning_compare (truth_at who s) true f.Outport r.Eq (v.Port q ∷ []) ∙ or-false (is_live_one s.out_port (who.live q))

  -- ---- one number

  pub compared : (g : Field) → is_port_field g ≡ false → (n m : ℕ) → compares who s g r.Eq (v.Number n m ∷ []) ≡ (has_needs g no_regs s.packet && fits (under n m) (number_in g no_regs s.packet))
  unfolding stands_in points
  compared g other n m =
      ap (λ b. has_needs g no_regs s.packet && b)
      (cond-false (is_port_field g) (port_relates who (port_in s g) r.Eq (v.Number n m ∷ [])) (stands_in (numbers_of who) g r.Eq (v.Number n m ∷ []) (number_in g no_regs s.packet)) other
      ∙ or-false (fits (under n m) (number_in g no_regs s.packet)))

  pub says_number : (g : Field) → is_port_field g ≡ false → (n m : ℕ) → says (e.Compare g r.Eq (v.Number n m ∷ [])) ≡ (has_needs g no_regs s.packet && fits (under n m) (number_in g no_regs s.packet))
  says_number g other n m = meaning_compare (truth_at who s) true g r.Eq (v.Number n m ∷ []) ∙ compared g other n m

  module _ (range : HasFieldsInRange s.packet) where
    pub small : (g : Field) → is_port_field g ≡ false → (w : ℕ) → field_bits g ≡ w → number_in g no_regs s.packet < 2 ^ w
    small f.Inport other w e = absurd cc
    small f.Outport other w e = absurd cc
    small g other w e = subst (λ (k : ℕ). number_in g no_regs s.packet < 2 ^ k) e (range.below g no_regs refl)

    -- the number is the field's
    pub says_is : (g : Field) → is_port_field g ≡ false → (n : ℕ) → n < 2 ^ field_bits g → says (field_is g n) ≡ (has_needs g no_regs s.packet && (number_in g no_regs s.packet == n))
    says_is g other n fit =
        says_number g other n (field_max g)
        ∙ ap (λ b. has_needs g no_regs s.packet && b) (whole (field_bits g) (number_in g no_regs s.packet) n (small g other (field_bits g) refl) fit)

    -- it lies in the prefix
    pub says_in_prefix : (g : Field) → is_port_field g ≡ false → field_bits g ≡ 32 → (c : Cidr) → c.addr.0 < 2 ^ 32 → c.len ≤ 32
        → says (ip_in g c) ≡ (has_needs g no_regs s.packet && contains c (ip_of (number_in g no_regs s.packet)))
    says_in_prefix g other wide c fit short =
        says_number g other (bit_and c.addr.0 (prefix_mask c.len)) (prefix_mask c.len)
        ∙ ap (λ b. has_needs g no_regs s.packet && b) (in_prefix (number_in g no_regs s.packet) c.addr.0 c.len (small g other 32 wide) fit short)

    -- it lies in one of two
    pub says_in_two : (g : Field) → is_port_field g ≡ false → field_bits g ≡ 32 → (c o : Cidr) → c.addr.0 < 2 ^ 32 → c.len ≤ 32 → o.addr.0 < 2 ^ 32 → o.len ≤ 32
        → says (ip_in_some g (c ∷ o ∷ [])) ≡ (has_needs g no_regs s.packet && (contains c (ip_of (number_in g no_regs s.packet)) || contains o (ip_of (number_in g no_regs s.packet))))
    unfolding stands_in points
    says_in_two g other wide c o fit short also brief =
        meaning_compare (truth_at who s) true g r.Eq (prefix_value c ∷ prefix_value o ∷ [])
        ∙ ap (λ b. has_needs g no_regs s.packet && b)
        (cond-false (is_port_field g) (port_relates who (port_in s g) r.Eq (prefix_value c ∷ prefix_value o ∷ [])) (stands_in (numbers_of who) g r.Eq (prefix_value c ∷ prefix_value o ∷ []) (number_in g no_regs s.packet)) other
        ∙ (λ i. in_prefix (number_in g no_regs s.packet) c.addr.0 c.len (small g other 32 wide) fit short i || (or-false (fits (under (bit_and o.addr.0 (prefix_mask o.len)) (prefix_mask o.len)) (number_in g no_regs s.packet)) ∙ in_prefix (number_in g no_regs s.packet) o.addr.0 o.len (small g other 32 wide) also brief) i))

    -- ---- the Ethernet header

    type_is : (n : ℕ) → n < 2 ^ 16 → compares who s f.EthType r.Eq (v.Number n 0xffff ∷ []) ≡ (field.ether_type s.packet.body == n)
    type_is n fit = compared f.EthType refl n 0xffff ∙ whole 16 (field.ether_type s.packet.body) n (small f.EthType refl 16 refl) fit

    pub says_ip4 : says (e.Is p.Ip4) ≡ carries_ip4 s.packet
    says_ip4 = meaning_is (truth_at who s) true p.Ip4 ∙ and-true (compares who s f.EthType r.Eq (v.Number 0x800 0xffff ∷ [])) ∙ type_is 0x800 (omega arith)

    pub says_arp : says (e.Is p.Arp) ≡ carries_arp s.packet
    says_arp = meaning_is (truth_at who s) true p.Arp ∙ and-true (compares who s f.EthType r.Eq (v.Number 0x806 0xffff ∷ [])) ∙ type_is 0x806 (omega arith)

    pub says_tagged : says (field_is f.EthType 0x8100) ≡ is_tagged s.packet
    says_tagged = says_is f.EthType refl 0x8100 (omega arith)

    pub says_src : (m : Mac) → says (mac_is f.EthSrc m) ≡ same_mac m s.packet.src
    says_src m = says_is f.EthSrc refl m.number m.below ∙ swapped s.packet.src.number m.number

    pub says_dst : (m : Mac) → says (mac_is f.EthDst m) ≡ same_mac m s.packet.dst
    says_dst m = says_is f.EthDst refl m.number m.below ∙ swapped s.packet.dst.number m.number

  pub says_from_group : says from_group ≡ is_multicast_mac s.packet.src
  says_from_group = says_number f.EthSrc refl (2 ^ 40) (2 ^ 40) ∙ multicast_bit s.packet.src.number

  pub says_mcast : says (e.Is p.EthMcast) ≡ is_multicast_mac s.packet.dst
  says_mcast = meaning_is (truth_at who s) true p.EthMcast ∙ and-true (compares who s f.EthDst r.Eq (v.Number (2 ^ 40) (2 ^ 40) ∷ [])) ∙ compared f.EthDst refl (2 ^ 40) (2 ^ 40) ∙ multicast_bit s.packet.dst.number

  pub says_unicast : says unicast ≡ not (is_multicast_mac s.packet.dst)
  unfolding stands_in points
  says_unicast =
      meaning_not (truth_at who s) true (e.Is p.EthMcast) ∙ meaning_is (truth_at who s) false p.EthMcast
      ∙ or-false (not (fits (under (2 ^ 40) (2 ^ 40)) s.packet.dst.number || false))
      ∙ ap not (or-false (fits (under (2 ^ 40) (2 ^ 40)) s.packet.dst.number) ∙ multicast_bit s.packet.dst.number)
