-- What a cube asks of registers, and what it asks of all else.
use Rattle.std.specs.Prelude.{◌≡◌, ℕ}
use Rattle.std.proofs.Common.{refl, subst}
use Rattle.ovn_base.specs.addresses.EtherAddress.{mac_number}
use Rattle.inet_packet.specs.declared.cube.Bits.{Bits}
use Rattle.inet_packet.specs.declared.cube.Cube.{Cube}
use Rattle.inet_packet.specs.declared.packet.Packet.{Packet}
use Rattle.inet_packet.specs.declared.regs.Reg.{Reg}
use Rattle.inet_packet.specs.declared.regs.Reg.TheVariants as reg
use Rattle.inet_packet.specs.declared.regs.Regs.{Regs}
use Rattle.inet_packet.specs.Fields.{ether_type, ip4_src, ip4_dst, ip_proto, ip_ttl, tcp_src, tcp_dst, udp_src, udp_dst, icmp4_type, icmp4_code, arp_op, arp_spa, arp_tpa, arp_sha, arp_tha}
use Rattle.inet_packet.specs.Fits.{BitsFit, EntryFits, CubeFits}
use Rattle.flow_lowering.specs.Registers.{asked_of_reg, ask_reg}

-- the word in which the register stands
abbrev pub reg_word : Reg → Regs → ℕ
reg_word reg.Dp regs = regs.dp
reg_word reg.InPort regs = regs.in_port
reg_word reg.OutPort regs = regs.out_port
reg_word reg.Next regs = regs.next
reg_word reg.ZIn regs = regs.z_in
reg_word reg.ZOut regs = regs.z_out
reg_word reg.ZDnat regs = regs.z_dnat
reg_word reg.ZSnat regs = regs.z_snat
reg_word reg.State regs = regs.state
reg_word reg.Verdict regs = regs.verdict
reg_word reg.Tier regs = regs.tier
reg_word reg.Loopback regs = regs.flags.0
reg_word reg.Tracked regs = regs.flags.0
reg_word reg.Blocked regs = regs.flags.0
reg_word reg.Own regs = regs.flags.0
reg_word reg.Arrived regs = regs.flags.0

-- the cube that asks this of a register asks it of that, and asking what was asked before gives the cube back
pub asked_there : (r : Reg) (b : Bits) (c : Cube) → asked_of_reg r (ask_reg r b c) ≡ b
asked_there reg.Dp b c = refl
asked_there _ b c = refl

pub asked_back : (r : Reg) (b : Bits) (c : Cube) → ask_reg r (asked_of_reg r c) (ask_reg r b c) ≡ c
asked_back reg.Dp b c = refl
asked_back _ b c = refl

module _ (regs : Regs) (packet : Packet) where
  -- what the cube asks of the register's word is there
  abbrev WordFits : Cube → Reg → Type 0
  WordFits c r = BitsFit (asked_of_reg r c) (reg_word r regs)

  -- what it asks of the entry and of the fields is there
  abbrev EtherFits : Cube → Type 0
  EtherFits c = BitsFit c.eth_src (mac_number packet.src) × BitsFit c.eth_dst (mac_number packet.dst) × BitsFit c.eth_type (ether_type packet.body)

  abbrev IpFits : Cube → Type 0
  IpFits c = BitsFit c.ip4_src (ip4_src packet.body) × BitsFit c.ip4_dst (ip4_dst packet.body) × BitsFit c.ip_proto (ip_proto packet.body) × BitsFit c.ip_ttl (ip_ttl packet.body)

  abbrev PortsFit : Cube → Type 0
  PortsFit c = BitsFit c.tcp_src (tcp_src packet.body) × BitsFit c.tcp_dst (tcp_dst packet.body) × BitsFit c.udp_src (udp_src packet.body) × BitsFit c.udp_dst (udp_dst packet.body)

  abbrev IcmpFits : Cube → Type 0
  IcmpFits c = BitsFit c.icmp4_type (icmp4_type packet.body) × BitsFit c.icmp4_code (icmp4_code packet.body)

  abbrev ArpFits : Cube → Type 0
  ArpFits c =
      BitsFit c.arp_op (arp_op packet.body) × BitsFit c.arp_spa (arp_spa packet.body) × BitsFit c.arp_tpa (arp_tpa packet.body) × BitsFit c.arp_sha (arp_sha packet.body)
      × BitsFit c.arp_tha (arp_tha packet.body)

  abbrev OthersFit : Cube → Type 0
  OthersFit c = EntryFits c.at regs.at × (EtherFits c × (IpFits c × (PortsFit c × (IcmpFits c × ArpFits c))))

  pub word_fits : (c : Cube) → CubeFits c regs packet → (r : Reg) → BitsFit (asked_of_reg r c) (reg_word r regs)
  word_fits c k reg.Dp = k.place.dp_fits
  word_fits c k reg.InPort = k.place.in_port_fits
  word_fits c k reg.OutPort = k.place.out_port_fits
  word_fits c k reg.Next = k.place.next_fits
  word_fits c k reg.ZIn = k.zones.z_in_fits
  word_fits c k reg.ZOut = k.zones.z_out_fits
  word_fits c k reg.ZDnat = k.zones.z_dnat_fits
  word_fits c k reg.ZSnat = k.zones.z_snat_fits
  word_fits c k reg.State = k.state.state_fits
  word_fits c k reg.Verdict = k.state.verdict_fits
  word_fits c k reg.Tier = k.state.tier_fits
  word_fits c k reg.Loopback = k.state.flags_fits
  word_fits c k reg.Tracked = k.state.flags_fits
  word_fits c k reg.Blocked = k.state.flags_fits
  word_fits c k reg.Own = k.state.flags_fits
  word_fits c k reg.Arrived = k.state.flags_fits

  others_fit : (c : Cube) → CubeFits c regs packet → OthersFit c
  others_fit c k = (
    k.entry,
    (
      (k.ether.eth_src_fits, k.ether.eth_dst_fits, k.ether.eth_type_fits),
      (
        (k.ip.ip4_src_fits, k.ip.ip4_dst_fits, k.ip.ip_proto_fits, k.ip.ip_ttl_fits),
        (
          (k.ports.tcp_src_fits, k.ports.tcp_dst_fits, k.ports.udp_src_fits, k.ports.udp_dst_fits),
          ((k.icmp.icmp4_type_fits, k.icmp.icmp4_code_fits), (k.arp.arp_op_fits, k.arp.arp_spa_fits, k.arp.arp_tpa_fits, k.arp.arp_sha_fits, k.arp.arp_tha_fits)),
        ),
      ),
    ),
  )

  parts_fit : (c : Cube) → ((r : Reg) → WordFits c r) → OthersFit c → CubeFits c regs packet
  parts_fit c w o =
      let ether : EtherFits c = o.1.0 in
      let ip : IpFits c = o.1.1.0 in
      let ports : PortsFit c = o.1.1.1.0 in
      let icmp : IcmpFits c = o.1.1.1.1.0 in
      let arp : ArpFits c = o.1.1.1.1.1 in
      record {
        entry = o.0;
        place = record { dp_fits = w reg.Dp; in_port_fits = w reg.InPort; out_port_fits = w reg.OutPort; next_fits = w reg.Next };
        zones = record { z_in_fits = w reg.ZIn; z_out_fits = w reg.ZOut; z_dnat_fits = w reg.ZDnat; z_snat_fits = w reg.ZSnat };
        state = record { state_fits = w reg.State; verdict_fits = w reg.Verdict; tier_fits = w reg.Tier; flags_fits = w reg.Loopback };
        ether = record { eth_src_fits = ether.0; eth_dst_fits = ether.1; eth_type_fits = ether.2 };
        ip = record { ip4_src_fits = ip.0; ip4_dst_fits = ip.1; ip_proto_fits = ip.2; ip_ttl_fits = ip.3 };
        ports = record { tcp_src_fits = ports.0; tcp_dst_fits = ports.1; udp_src_fits = ports.2; udp_dst_fits = ports.3 };
        icmp = record { icmp4_type_fits = icmp.0; icmp4_code_fits = icmp.1 };
        arp = record { arp_op_fits = arp.0; arp_spa_fits = arp.1; arp_tpa_fits = arp.2; arp_sha_fits = arp.3; arp_tha_fits = arp.4 };
      }

  -- ---- a cube that asks something else of one register

  others_asked : (r : Reg) (b : Bits) (c : Cube) → OthersFit c → OthersFit (ask_reg r b c)
  others_asked reg.Dp b c o = o
  others_asked _ b c o = o

  flags_asked : (q : Reg) (b : Bits) (c : Cube) → BitsFit b regs.flags.0 → WordFits c q → WordFits (record c { flags = b }) q
  flags_asked reg.Loopback b c h k = h
  flags_asked reg.Tracked b c h k = h
  flags_asked reg.Blocked b c h k = h
  flags_asked reg.Own b c h k = h
  flags_asked reg.Arrived b c h k = h
  flags_asked _ b c h k = k

  word_asked : (r q : Reg) (b : Bits) (c : Cube) → BitsFit b (reg_word r regs) → WordFits c q → WordFits (ask_reg r b c) q
  word_asked reg.Dp reg.Dp b c h k = h
  word_asked reg.Dp _ b c h k = k
  word_asked reg.InPort reg.InPort b c h k = h
  word_asked reg.InPort _ b c h k = k
  word_asked reg.OutPort reg.OutPort b c h k = h
  word_asked reg.OutPort _ b c h k = k
  word_asked reg.Next reg.Next b c h k = h
  word_asked reg.Next _ b c h k = k
  word_asked reg.ZIn reg.ZIn b c h k = h
  word_asked reg.ZIn _ b c h k = k
  word_asked reg.ZOut reg.ZOut b c h k = h
  word_asked reg.ZOut _ b c h k = k
  word_asked reg.ZDnat reg.ZDnat b c h k = h
  word_asked reg.ZDnat _ b c h k = k
  word_asked reg.ZSnat reg.ZSnat b c h k = h
  word_asked reg.ZSnat _ b c h k = k
  word_asked reg.State reg.State b c h k = h
  word_asked reg.State _ b c h k = k
  word_asked reg.Verdict reg.Verdict b c h k = h
  word_asked reg.Verdict _ b c h k = k
  word_asked reg.Tier reg.Tier b c h k = h
  word_asked reg.Tier _ b c h k = k
  word_asked reg.Loopback q b c h k = flags_asked q b c h k
  word_asked reg.Tracked q b c h k = flags_asked q b c h k
  word_asked reg.Blocked q b c h k = flags_asked q b c h k
  word_asked reg.Own q b c h k = flags_asked q b c h k
  word_asked reg.Arrived q b c h k = flags_asked q b c h k

  -- it holds what has this there, and what it held before
  pub fits_asked : (r : Reg) (b : Bits) (c : Cube) → CubeFits c regs packet → BitsFit b (reg_word r regs) → CubeFits (ask_reg r b c) regs packet
  fits_asked r b c k h = parts_fit (ask_reg r b c) (λ q. word_asked r q b c h (word_fits c k q)) (others_asked r b c (others_fit c k))

  -- and the other way round
  pub fits_before : (r : Reg) (b : Bits) (c : Cube) → CubeFits (ask_reg r b c) regs packet → BitsFit (asked_of_reg r c) (reg_word r regs) → CubeFits c regs packet
  fits_before r b c k h = subst (λ (d : Cube). CubeFits d regs packet) (asked_back r b c) (fits_asked r (asked_of_reg r c) (ask_reg r b c) k h)
