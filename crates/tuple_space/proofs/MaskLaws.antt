-- The law of masks: a cube holds a packet exactly where the values under its mask are the ones that it wants.
use Rattle.std.specs.Prelude.{◌≡◌, ◌↔◌, ◌+◌, ℕ, suc, Bool, true, false, cond, List, [], ◌∷◌, ◌++◌, Option, Some, None, is_some, length, take, drop, bit_and, refl}
use Rattle.std.proofs.Common.{get_or, rules}
use mathlib.Core.Path.{sym, ap, subst, ◌∙◌}
use native.Mathlib.Omega.{arith}
use Rattle.std.specs.Cmp.{first_so, second_so}
use Rattle.std.proofs.Math.Seq.{take-append_seam, drop-append_seam}
use Rattle.ovn_base.proofs.Exact.{nat_exact}
use Rattle.inet_packet.specs.declared.cube.Bits.{Bits}
use Rattle.inet_packet.specs.declared.cube.Cube.{Cube}
use Rattle.inet_packet.specs.declared.packet.Packet.{Packet}
use Rattle.inet_packet.specs.declared.regs.At.{At}
use Rattle.inet_packet.specs.declared.regs.At.TheVariants.{Tunnel, Local}
use Rattle.inet_packet.specs.declared.regs.Regs.{Regs}
use Rattle.inet_packet.specs.Fits.{BitsFit, EntryFits, CubeFits}
use Rattle.tuple_space.specs.Masks.{cube_bits, field_values, AllFit, is_open, one_asked, one_wanted, each_field, masked, entry_numbers, wanted_entry, entry_under, cube_mask, values_wanted, values_under}

and_zero : (n : ℕ) → bit_and n 0 ≡ 0
and_zero n = search rules

-- what asks for nothing fits everything
open_fits : (b : Bits) (x : ℕ) → is_open b ≡ true → BitsFit b x
open_fits b x o =
    let m = nat_exact b.mask 0 (first_so _ _ o) in
    let v = nat_exact b.value 0 (second_so _ _ o) in
    ap (λ k. bit_and x k) m ∙ and_zero x ∙ sym v

-- by fields: all of them fit where the values under the mask are the ones that are wanted, and only there
fit_key : (bs : List Bits) (xs all : List ℕ) (i : ℕ) → length bs ≡ length xs → ((k : ℕ) → get_or all (i + k) 0 ≡ get_or xs k 0) → AllFit bs xs ↔ (masked (each_field one_asked i bs) all ≡ each_field one_wanted i bs)
fit_key [] [] all i n at = (λ h. refl, λ e. tt)
fit_key [] (x ∷ xs) all i n at = absurd (omega (arith, n))
fit_key (b ∷ bs) [] all i n at = absurd (omega (arith, n))
fit_key (b ∷ bs) (x ∷ xs) all i n at =
    let here : get_or all i 0 ≡ x = subst (λ k. get_or all k 0 ≡ x) (let e : i + 0 ≡ i = omega arith in e) (at 0) in
    let ih = fit_key bs xs all (i + 1) (omega (arith, n)) (λ k. subst (λ m. get_or all m 0 ≡ get_or xs k 0) (let e : i + suc k ≡ (i + 1) + k = omega arith in e) (at (suc k))) in
    by (is_open b) refl here ih
  where
    by : (o : Bool) → is_open b ≡ o → get_or all i 0 ≡ x → AllFit bs xs ↔ (masked (each_field one_asked (i + 1) bs) all ≡ each_field one_wanted (i + 1) bs)
        → (BitsFit b x × AllFit bs xs) ↔ (masked (cond o [] (record { field = i; bits = b.mask } ∷ []) ++ each_field one_asked (i + 1) bs) all ≡ cond o [] (b.value ∷ []) ++ each_field one_wanted (i + 1) bs)
    by true o here ih = (λ h. ih.0 h.1, λ e. (open_fits b x o, ih.1 e))
    by false o here ih = (
      λ h. let v : bit_and (get_or all i 0) b.mask ≡ b.value = ap (λ k. bit_and k b.mask) here ∙ h.0 in let r = ih.0 h.1 in λ j. v j ∷ r j,
      λ e. (ap (λ k. bit_and k b.mask) (sym here) ∙ ap (λ l. get_or l 0 0) e, ih.1 (ap (λ l. drop 1 l) e)),
    )

as_many : (bs : List Bits) (all : List ℕ) (i : ℕ) → length (masked (each_field one_asked i bs) all) ≡ length (each_field one_wanted i bs)
as_many [] all i = refl
as_many (b ∷ bs) all i = by (is_open b) (as_many bs all (i + 1))
  where
    by : (o : Bool) → length (masked (each_field one_asked (i + 1) bs) all) ≡ length (each_field one_wanted (i + 1) bs) → length (masked (cond o [] (record { field = i; bits = b.mask } ∷ []) ++ each_field one_asked (i + 1) bs) all) ≡ length (cond o [] (b.value ∷ []) ++ each_field one_wanted (i + 1) bs)
    by true ih = ih
    by false ih = ap (λ n. suc n) ih

same_many : (cube : Cube) (regs : Regs) (packet : Packet) → length (cube_bits cube) ≡ length (field_values regs packet)
unfolding cube_bits field_values
same_many cube regs packet = refl

-- a cube holds a packet where the entry and all fields fit
pub fits_all : (cube : Cube) (regs : Regs) (packet : Packet) → CubeFits cube regs packet ↔ (EntryFits cube.at regs.at × AllFit (cube_bits cube) (field_values regs packet))
unfolding cube_bits field_values
fits_all cube regs packet = (
  λ h. (h.entry, (h.place.dp_fits, (h.place.in_port_fits, (h.place.out_port_fits, (h.place.next_fits, (h.zones.z_in_fits, (h.zones.z_out_fits, (h.zones.z_dnat_fits, (h.zones.z_snat_fits, (h.state.state_fits, (h.state.verdict_fits, (h.state.tier_fits, (h.state.flags_fits, (h.ether.eth_src_fits, (h.ether.eth_dst_fits, (h.ether.eth_type_fits, (h.ip.ip4_src_fits, (h.ip.ip4_dst_fits, (h.ip.ip_proto_fits, (h.ip.ip_ttl_fits, (h.ports.tcp_src_fits, (h.ports.tcp_dst_fits, (h.ports.udp_src_fits, (h.ports.udp_dst_fits, (h.icmp.icmp4_type_fits, (h.icmp.icmp4_code_fits, (h.arp.arp_op_fits, (h.arp.arp_spa_fits, (h.arp.arp_tpa_fits, (h.arp.arp_sha_fits, (h.arp.arp_tha_fits, tt))))))))))))))))))))))))))))))),
  λ p. record { entry = p.0; place = record { dp_fits = p.1.0; in_port_fits = p.1.1.0; out_port_fits = p.1.1.1.0; next_fits = p.1.1.1.1.0 }; zones = record { z_in_fits = p.1.1.1.1.1.0; z_out_fits = p.1.1.1.1.1.1.0; z_dnat_fits = p.1.1.1.1.1.1.1.0; z_snat_fits = p.1.1.1.1.1.1.1.1.0 }; state = record { state_fits = p.1.1.1.1.1.1.1.1.1.0; verdict_fits = p.1.1.1.1.1.1.1.1.1.1.0; tier_fits = p.1.1.1.1.1.1.1.1.1.1.1.0; flags_fits = p.1.1.1.1.1.1.1.1.1.1.1.1.0 }; ether = record { eth_src_fits = p.1.1.1.1.1.1.1.1.1.1.1.1.1.0; eth_dst_fits = p.1.1.1.1.1.1.1.1.1.1.1.1.1.1.0; eth_type_fits = p.1.1.1.1.1.1.1.1.1.1.1.1.1.1.1.0 }; ip = record { ip4_src_fits = p.1.1.1.1.1.1.1.1.1.1.1.1.1.1.1.1.0; ip4_dst_fits = p.1.1.1.1.1.1.1.1.1.1.1.1.1.1.1.1.1.0; ip_proto_fits = p.1.1.1.1.1.1.1.1.1.1.1.1.1.1.1.1.1.1.0; ip_ttl_fits = p.1.1.1.1.1.1.1.1.1.1.1.1.1.1.1.1.1.1.1.0 }; ports = record { tcp_src_fits = p.1.1.1.1.1.1.1.1.1.1.1.1.1.1.1.1.1.1.1.1.0; tcp_dst_fits = p.1.1.1.1.1.1.1.1.1.1.1.1.1.1.1.1.1.1.1.1.1.0; udp_src_fits = p.1.1.1.1.1.1.1.1.1.1.1.1.1.1.1.1.1.1.1.1.1.1.0; udp_dst_fits = p.1.1.1.1.1.1.1.1.1.1.1.1.1.1.1.1.1.1.1.1.1.1.1.0 }; icmp = record { icmp4_type_fits = p.1.1.1.1.1.1.1.1.1.1.1.1.1.1.1.1.1.1.1.1.1.1.1.1.0; icmp4_code_fits = p.1.1.1.1.1.1.1.1.1.1.1.1.1.1.1.1.1.1.1.1.1.1.1.1.1.0 }; arp = record { arp_op_fits = p.1.1.1.1.1.1.1.1.1.1.1.1.1.1.1.1.1.1.1.1.1.1.1.1.1.1.0; arp_spa_fits = p.1.1.1.1.1.1.1.1.1.1.1.1.1.1.1.1.1.1.1.1.1.1.1.1.1.1.1.0; arp_tpa_fits = p.1.1.1.1.1.1.1.1.1.1.1.1.1.1.1.1.1.1.1.1.1.1.1.1.1.1.1.1.0; arp_sha_fits = p.1.1.1.1.1.1.1.1.1.1.1.1.1.1.1.1.1.1.1.1.1.1.1.1.1.1.1.1.1.0; arp_tha_fits = p.1.1.1.1.1.1.1.1.1.1.1.1.1.1.1.1.1.1.1.1.1.1.1.1.1.1.1.1.1.1.0 } },
)

-- entries, by their numbers
entry_key : (wanted : Option At) (at : At) → EntryFits wanted at ↔ (entry_under (is_some wanted) at ≡ wanted_entry wanted)
entry_key None at = (λ h. refl, λ e. tt)
entry_key (Some Tunnel) Tunnel = (λ h. refl, λ e. refl)
entry_key (Some Tunnel) (Local n) = (λ h. ap (λ a. entry_numbers a) h, λ e. absurd (one_zero (ap (λ l. get_or l 0 0) e)))
  where
    one_zero : ◌≡◌ {A = ℕ} 1 0 → ⊥
    one_zero h = absurd (omega (arith, h))
entry_key (Some (Local n)) Tunnel = (λ h. ap (λ a. entry_numbers a) h, λ e. absurd (zero_one (ap (λ l. get_or l 0 0) e)))
  where
    zero_one : ◌≡◌ {A = ℕ} 0 1 → ⊥
    zero_one h = absurd (omega (arith, h))
entry_key (Some (Local n)) (Local m) = (λ h. ap (λ a. entry_numbers a) h, λ e. ap (λ l. Local (drop 1 l)) e)

-- two lists end to end, whose fronts are of one length
same_fronts : (xs us ys vs : List ℕ) → length xs ≡ length ys → xs ++ us ≡ ys ++ vs → (xs ≡ ys) × (us ≡ vs)
same_fronts xs us ys vs n e = (
  sym (take-append_seam xs us) ∙ ap (take (length xs)) e ∙ ap (λ k. take k (ys ++ vs)) n ∙ take-append_seam ys vs,
  sym (drop-append_seam xs us) ∙ ap (drop (length xs)) e ∙ ap (λ k. drop k (ys ++ vs)) n ∙ drop-append_seam ys vs,
)

pub fits_key : (cube : Cube) (regs : Regs) (packet : Packet) → CubeFits cube regs packet ↔ (values_under (cube_mask cube) regs packet ≡ values_wanted cube)
fits_key cube regs packet =
    let all = fits_all cube regs packet in
    let fields = fit_key (cube_bits cube) (field_values regs packet) (field_values regs packet) 0 (same_many cube regs packet) (λ k. ap (λ m. get_or (field_values regs packet) m 0) (let e : 0 + k ≡ k = omega arith in e)) in
    let entry = entry_key cube.at regs.at in (
      λ h. let p = all.0 h in let a = fields.0 p.1 in let b = entry.0 p.0 in λ j. a j ++ b j,
      λ e. let p = same_fronts _ _ _ _ (as_many (cube_bits cube) (field_values regs packet) 0) e in all.1 (entry.1 p.1, fields.1 p.0),
    )
