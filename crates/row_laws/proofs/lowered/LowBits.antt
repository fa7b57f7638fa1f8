-- A packet and registers of which the low bits are kept: what asks for no bit above them sees no other packet.
use Rattle.std.specs.Prelude.{◌≡◌, ◌<◌, ◌≤◌, ◌+◌, ◌%◌, ◌^◌, ℕ, false, bit_and}
use Rattle.std.specs.Int.{bit_at}
use Rattle.std.proofs.Common.{refl, sym, ap, ◌∙◌, arith, subst}
use Rattle.std.proofs.Math.Nat.{mod-lt, mod-eq_of_lt}
use Rattle.std.proofs.lemmas.Nat.{and_mod, and_le_r, pow_pos}
use Rattle.std.proofs.lemmas.Nat.Bits.{bit_at-lt}
use Rattle.inet_packet.specs.Fields as field
use Rattle.inet_packet.specs.Fits.{CubeFits, EntryFits}
use Rattle.inet_packet.specs.declared.cube.Cube.{Cube}
use Rattle.inet_packet.specs.declared.packet.Body.{Body}
use Rattle.inet_packet.specs.declared.packet.Body.TheVariants.{Arp, Ip4, Other}
use Rattle.inet_packet.specs.declared.packet.Packet.{Packet}
use Rattle.inet_packet.specs.declared.packet.Part.{Part}
use Rattle.inet_packet.specs.declared.packet.Part.TheVariants.{Tcp, Udp, Icmp, OtherIp, Fragment}
use Rattle.inet_packet.specs.declared.regs.Reg.{Reg}
use Rattle.inet_packet.specs.declared.regs.Reg.TheVariants as reg
use Rattle.inet_packet.specs.declared.regs.Regs.{Regs}
use Rattle.match_language.specs.Tables.{is_port_field}
use Rattle.match_language.specs.declared.field.Field.{Field}
use Rattle.match_language.specs.declared.field.Field.TheVariants as f
use Rattle.match_cubes.specs.Asked.{number_in, bit_width, asked_of_field}
use Rattle.match_cubes.specs.Suited.{HasFieldsInRange}
use Rattle.flow_lowering.specs.Registers.{reg_number, reg_max, HasRegistersInRange}
use Rattle.row_laws.proofs.lowered.NarrowCubes.{IsNarrow}

-- ---- numbers

abbrev low : ℕ → ℕ → ℕ
low w n = n % 2 ^ w

low_below : (w n : ℕ) → low w n < 2 ^ w
low_below w n = mod-lt n (pow_pos w)

-- a mask that has no higher bit sees no other number
abbrev SeesSame : ℕ → ℕ → ℕ → Type 0
SeesSame w n k = (mask : ℕ) → mask < 2 ^ w → bit_and n mask ≡ bit_and k mask

low_same : (w n : ℕ) → SeesSame w (low w n) n
low_same w n mask h =
    let under : bit_and n mask < 2 ^ w = let k = and_le_r n mask in omega (arith, k, h) in
    sym (sym (mod-eq_of_lt under) ∙ and_mod n mask w ∙ ap (bit_and (n % 2 ^ w)) (mod-eq_of_lt h))

same : (w n : ℕ) → SeesSame w n n
same w n mask h = refl

-- ---- packets

abbrev low_part : Part → Part
low_part (Tcp src_port dst_port middle sum urgent) = Tcp (low 16 src_port) (low 16 dst_port) middle sum urgent
low_part (Udp src_port dst_port len sum) = Udp (low 16 src_port) (low 16 dst_port) len sum
low_part (Icmp kind code sum ident) = Icmp (low 8 kind) (low 8 code) sum ident
low_part OtherIp = OtherIp
low_part Fragment = Fragment

abbrev low_body : Body → Body
low_body (Arp a) = Arp (record a { op = low 16 a.op; spa = record { 0 = low 32 a.spa.0 }; tpa = record { 0 = low 32 a.tpa.0 } })
low_body (Ip4 i) = Ip4 (record i { proto = low 8 i.proto; ttl = low 8 i.ttl; src = record { 0 = low 32 i.src.0 }; dst = record { 0 = low 32 i.dst.0 }; part = low_part i.part })
low_body (Other t) = Other (low 16 t)

abbrev pub low_packet : Packet → Packet
low_packet p = record p { body = low_body p.body }

-- of the part's number both are so
abbrev PartSame : ℕ → (Part → ℕ) → Type 0
PartSame w number = (x : Part) → (number (low_part x) < 2 ^ w) × SeesSame w (number (low_part x)) (number x)

lowered : (w n : ℕ) → (low w n < 2 ^ w) × SeesSame w (low w n) n
lowered w n = (low_below w n, low_same w n)

nothing : (w : ℕ) → (0 < 2 ^ w) × SeesSame w 0 0
nothing w = (pow_pos w, same w 0)

tcp_src_part : PartSame 16 field.part_tcp_src
tcp_src_part (Tcp src_port dst_port middle sum urgent) = lowered 16 src_port
tcp_src_part (Udp src_port dst_port len sum) = nothing 16
tcp_src_part (Icmp kind code sum ident) = nothing 16
tcp_src_part OtherIp = nothing 16
tcp_src_part Fragment = nothing 16

tcp_dst_part : PartSame 16 field.part_tcp_dst
tcp_dst_part (Tcp src_port dst_port middle sum urgent) = lowered 16 dst_port
tcp_dst_part (Udp src_port dst_port len sum) = nothing 16
tcp_dst_part (Icmp kind code sum ident) = nothing 16
tcp_dst_part OtherIp = nothing 16
tcp_dst_part Fragment = nothing 16

udp_src_part : PartSame 16 field.part_udp_src
udp_src_part (Udp src_port dst_port len sum) = lowered 16 src_port
udp_src_part (Tcp src_port dst_port middle sum urgent) = nothing 16
udp_src_part (Icmp kind code sum ident) = nothing 16
udp_src_part OtherIp = nothing 16
udp_src_part Fragment = nothing 16

udp_dst_part : PartSame 16 field.part_udp_dst
udp_dst_part (Udp src_port dst_port len sum) = lowered 16 dst_port
udp_dst_part (Tcp src_port dst_port middle sum urgent) = nothing 16
udp_dst_part (Icmp kind code sum ident) = nothing 16
udp_dst_part OtherIp = nothing 16
udp_dst_part Fragment = nothing 16

icmp_type_part : PartSame 8 field.part_icmp4_type
icmp_type_part (Icmp kind code sum ident) = lowered 8 kind
icmp_type_part (Tcp src_port dst_port middle sum urgent) = nothing 8
icmp_type_part (Udp src_port dst_port len sum) = nothing 8
icmp_type_part OtherIp = nothing 8
icmp_type_part Fragment = nothing 8

icmp_code_part : PartSame 8 field.part_icmp4_code
icmp_code_part (Icmp kind code sum ident) = lowered 8 code
icmp_code_part (Tcp src_port dst_port middle sum urgent) = nothing 8
icmp_code_part (Udp src_port dst_port len sum) = nothing 8
icmp_code_part OtherIp = nothing 8
icmp_code_part Fragment = nothing 8

-- so of the body's
abbrev BodySame : ℕ → (Body → ℕ) → Type 0
BodySame w number = (b : Body) → (number (low_body b) < 2 ^ w) × SeesSame w (number (low_body b)) (number b)

type_body : BodySame 16 field.ether_type
type_body (Arp a) = (omega arith, same 16 0x0806)
type_body (Ip4 i) = (omega arith, same 16 0x0800)
type_body (Other t) = lowered 16 t

src_body : BodySame 32 field.ip4_src
src_body (Arp a) = nothing 32
src_body (Ip4 i) = lowered 32 i.src.0
src_body (Other t) = nothing 32

dst_body : BodySame 32 field.ip4_dst
dst_body (Arp a) = nothing 32
dst_body (Ip4 i) = lowered 32 i.dst.0
dst_body (Other t) = nothing 32

proto_body : BodySame 8 field.ip_proto
proto_body (Arp a) = nothing 8
proto_body (Ip4 i) = lowered 8 i.proto
proto_body (Other t) = nothing 8

ttl_body : BodySame 8 field.ip_ttl
ttl_body (Arp a) = nothing 8
ttl_body (Ip4 i) = lowered 8 i.ttl
ttl_body (Other t) = nothing 8

tcp_src_body : BodySame 16 field.tcp_src
tcp_src_body (Arp a) = nothing 16
tcp_src_body (Ip4 i) = tcp_src_part i.part
tcp_src_body (Other t) = nothing 16

tcp_dst_body : BodySame 16 field.tcp_dst
tcp_dst_body (Arp a) = nothing 16
tcp_dst_body (Ip4 i) = tcp_dst_part i.part
tcp_dst_body (Other t) = nothing 16

udp_src_body : BodySame 16 field.udp_src
udp_src_body (Arp a) = nothing 16
udp_src_body (Ip4 i) = udp_src_part i.part
udp_src_body (Other t) = nothing 16

udp_dst_body : BodySame 16 field.udp_dst
udp_dst_body (Arp a) = nothing 16
udp_dst_body (Ip4 i) = udp_dst_part i.part
udp_dst_body (Other t) = nothing 16

icmp_type_body : BodySame 8 field.icmp4_type
icmp_type_body (Arp a) = nothing 8
icmp_type_body (Ip4 i) = icmp_type_part i.part
icmp_type_body (Other t) = nothing 8

icmp_code_body : BodySame 8 field.icmp4_code
icmp_code_body (Arp a) = nothing 8
icmp_code_body (Ip4 i) = icmp_code_part i.part
icmp_code_body (Other t) = nothing 8

op_body : BodySame 16 field.arp_op
op_body (Arp a) = lowered 16 a.op
op_body (Ip4 i) = nothing 16
op_body (Other t) = nothing 16

spa_body : BodySame 32 field.arp_spa
spa_body (Arp a) = lowered 32 a.spa.0
spa_body (Ip4 i) = nothing 32
spa_body (Other t) = nothing 32

tpa_body : BodySame 32 field.arp_tpa
tpa_body (Arp a) = lowered 32 a.tpa.0
tpa_body (Ip4 i) = nothing 32
tpa_body (Other t) = nothing 32

sha_body : BodySame 48 field.arp_sha
sha_body (Arp a) = (a.sha.below, same 48 a.sha.number)
sha_body (Ip4 i) = nothing 48
sha_body (Other t) = nothing 48

tha_body : BodySame 48 field.arp_tha
tha_body (Arp a) = (a.tha.below, same 48 a.tha.number)
tha_body (Ip4 i) = nothing 48
tha_body (Other t) = nothing 48

-- ---- registers

abbrev pub low_regs : Regs → Regs
low_regs x = record x {
  dp = low 24 x.dp;
  in_port = low 16 x.in_port;
  out_port = low 16 x.out_port;
  next = low 32 x.next;
  z_in = low 16 x.z_in;
  z_out = low 16 x.z_out;
  z_dnat = low 16 x.z_dnat;
  z_snat = low 16 x.z_snat;
  state = low 3 x.state;
  verdict = low 3 x.verdict;
  tier = low 3 x.tier;
}

up_to : (w m n : ℕ) → m + 1 ≡ 2 ^ w → low w n ≤ m
up_to w m n e = let k = low_below w n in omega (arith, e, k)

flag_up_to : (n k : ℕ) → bit_at n k ≤ 1
flag_up_to n k = let h = bit_at-lt n k in omega (arith, h)

regs_within : (x : Regs) (r : Reg) → reg_number r (low_regs x) ≤ reg_max r
regs_within x reg.Dp = up_to 24 0xff_ffff x.dp refl
regs_within x reg.InPort = up_to 16 0xffff x.in_port refl
regs_within x reg.OutPort = up_to 16 0xffff x.out_port refl
regs_within x reg.Next = up_to 32 0xffff_ffff x.next refl
regs_within x reg.ZIn = up_to 16 0xffff x.z_in refl
regs_within x reg.ZOut = up_to 16 0xffff x.z_out refl
regs_within x reg.ZDnat = up_to 16 0xffff x.z_dnat refl
regs_within x reg.ZSnat = up_to 16 0xffff x.z_snat refl
regs_within x reg.State = up_to 3 7 x.state refl
regs_within x reg.Verdict = up_to 3 7 x.verdict refl
regs_within x reg.Tier = up_to 3 7 x.tier refl
regs_within x reg.Loopback = flag_up_to x.flags.0 0
regs_within x reg.Tracked = flag_up_to x.flags.0 1
regs_within x reg.Blocked = flag_up_to x.flags.0 2
regs_within x reg.Own = flag_up_to x.flags.0 3
regs_within x reg.Arrived = flag_up_to x.flags.0 4

pub low_registers : (x : Regs) → HasRegistersInRange (low_regs x)
low_registers x = record { within = regs_within x }

-- ---- both

fields_same : (x : Regs) (p : Packet) (g : Field) → (number_in g (low_regs x) (low_packet p) < 2 ^ bit_width g) × SeesSame (bit_width g) (number_in g (low_regs x) (low_packet p)) (number_in g x p)
fields_same x p f.EthSrc = (p.src.below, same 48 p.src.number)
fields_same x p f.EthDst = (p.dst.below, same 48 p.dst.number)
fields_same x p f.EthType = type_body p.body
fields_same x p f.Ip4Src = src_body p.body
fields_same x p f.Ip4Dst = dst_body p.body
fields_same x p f.IpProto = proto_body p.body
fields_same x p f.IpTtl = ttl_body p.body
fields_same x p f.TcpSrc = tcp_src_body p.body
fields_same x p f.TcpDst = tcp_dst_body p.body
fields_same x p f.UdpSrc = udp_src_body p.body
fields_same x p f.UdpDst = udp_dst_body p.body
fields_same x p f.Icmp4Type = icmp_type_body p.body
fields_same x p f.Icmp4Code = icmp_code_body p.body
fields_same x p f.ArpOp = op_body p.body
fields_same x p f.ArpSpa = spa_body p.body
fields_same x p f.ArpTpa = tpa_body p.body
fields_same x p f.ArpSha = sha_body p.body
fields_same x p f.ArpTha = tha_body p.body
fields_same x p f.Inport = lowered 16 x.in_port
fields_same x p f.Outport = lowered 16 x.out_port

fields_below : (p : Packet) (g : Field) (x : Regs) → is_port_field g ≡ false → number_in g x (low_packet p) < 2 ^ bit_width g
fields_below p f.Inport x h = absurd cc
fields_below p f.Outport x h = absurd cc
fields_below p g x h = (fields_same x p g).0

pub low_fields : (p : Packet) → HasFieldsInRange (low_packet p)
low_fields p = record { below = fields_below p }

-- a cube that asks for no higher bit sees the same of both
record AreAlike (c : Cube) (x : Regs) (p : Packet) (y : Regs) (q : Packet) : Type 0 where
  entry : x.at ≡ y.at
  flags : x.flags ≡ y.flags
  fields : (g : Field) → bit_and (number_in g x p) (asked_of_field g c).mask ≡ bit_and (number_in g y q) (asked_of_field g c).mask
  dp : bit_and x.dp c.dp.mask ≡ bit_and y.dp c.dp.mask
  next : bit_and x.next c.next.mask ≡ bit_and y.next c.next.mask
  z_in : bit_and x.z_in c.z_in.mask ≡ bit_and y.z_in c.z_in.mask
  z_out : bit_and x.z_out c.z_out.mask ≡ bit_and y.z_out c.z_out.mask
  z_dnat : bit_and x.z_dnat c.z_dnat.mask ≡ bit_and y.z_dnat c.z_dnat.mask
  z_snat : bit_and x.z_snat c.z_snat.mask ≡ bit_and y.z_snat c.z_snat.mask
  state : bit_and x.state c.state.mask ≡ bit_and y.state c.state.mask
  verdict : bit_and x.verdict c.verdict.mask ≡ bit_and y.verdict c.verdict.mask
  tier : bit_and x.tier c.tier.mask ≡ bit_and y.tier c.tier.mask

turned : {c : Cube} {x y : Regs} {p q : Packet} → AreAlike c x p y q → AreAlike c y q x p
turned h = record {
  entry = sym h.entry;
  flags = sym h.flags;
  fields = λ g. sym (h.fields g);
  dp = sym h.dp;
  next = sym h.next;
  z_in = sym h.z_in;
  z_out = sym h.z_out;
  z_dnat = sym h.z_dnat;
  z_snat = sym h.z_snat;
  state = sym h.state;
  verdict = sym h.verdict;
  tier = sym h.tier;
}

alike_fits : {c : Cube} {x y : Regs} {p q : Packet} → AreAlike c x p y q → CubeFits c x p → CubeFits c y q
alike_fits {c = c} h k = record {
  entry = subst (λ a. EntryFits c.at a) h.entry k.entry;
  place = record { dp_fits = sym h.dp ∙ k.place.dp_fits; in_port_fits = sym (h.fields f.Inport) ∙ k.place.in_port_fits; out_port_fits = sym (h.fields f.Outport) ∙ k.place.out_port_fits; next_fits = sym h.next ∙ k.place.next_fits };
  zones = record { z_in_fits = sym h.z_in ∙ k.zones.z_in_fits; z_out_fits = sym h.z_out ∙ k.zones.z_out_fits; z_dnat_fits = sym h.z_dnat ∙ k.zones.z_dnat_fits; z_snat_fits = sym h.z_snat ∙ k.zones.z_snat_fits };
  state = record { state_fits = sym h.state ∙ k.state.state_fits; verdict_fits = sym h.verdict ∙ k.state.verdict_fits; tier_fits = sym h.tier ∙ k.state.tier_fits; flags_fits = ap (λ z. bit_and z.0 c.flags.mask) (sym h.flags) ∙ k.state.flags_fits };
  ether = record { eth_src_fits = sym (h.fields f.EthSrc) ∙ k.ether.eth_src_fits; eth_dst_fits = sym (h.fields f.EthDst) ∙ k.ether.eth_dst_fits; eth_type_fits = sym (h.fields f.EthType) ∙ k.ether.eth_type_fits };
  ip = record { ip4_src_fits = sym (h.fields f.Ip4Src) ∙ k.ip.ip4_src_fits; ip4_dst_fits = sym (h.fields f.Ip4Dst) ∙ k.ip.ip4_dst_fits; ip_proto_fits = sym (h.fields f.IpProto) ∙ k.ip.ip_proto_fits; ip_ttl_fits = sym (h.fields f.IpTtl) ∙ k.ip.ip_ttl_fits };
  ports = record { tcp_src_fits = sym (h.fields f.TcpSrc) ∙ k.ports.tcp_src_fits; tcp_dst_fits = sym (h.fields f.TcpDst) ∙ k.ports.tcp_dst_fits; udp_src_fits = sym (h.fields f.UdpSrc) ∙ k.ports.udp_src_fits; udp_dst_fits = sym (h.fields f.UdpDst) ∙ k.ports.udp_dst_fits };
  icmp = record { icmp4_type_fits = sym (h.fields f.Icmp4Type) ∙ k.icmp.icmp4_type_fits; icmp4_code_fits = sym (h.fields f.Icmp4Code) ∙ k.icmp.icmp4_code_fits };
  arp = record { arp_op_fits = sym (h.fields f.ArpOp) ∙ k.arp.arp_op_fits; arp_spa_fits = sym (h.fields f.ArpSpa) ∙ k.arp.arp_spa_fits; arp_tpa_fits = sym (h.fields f.ArpTpa) ∙ k.arp.arp_tpa_fits; arp_sha_fits = sym (h.fields f.ArpSha) ∙ k.arp.arp_sha_fits; arp_tha_fits = sym (h.fields f.ArpTha) ∙ k.arp.arp_tha_fits };
}

alike : (c : Cube) → IsNarrow c → (x : Regs) (p : Packet) → AreAlike c (low_regs x) (low_packet p) x p
alike c n x p = record {
  entry = refl;
  flags = refl;
  fields = λ g. (fields_same x p g).1 _ (n.fields g);
  dp = low_same 24 x.dp _ n.words.0;
  next = low_same 32 x.next _ n.words.1;
  z_in = low_same 16 x.z_in _ n.words.2;
  z_out = low_same 16 x.z_out _ n.words.3;
  z_dnat = low_same 16 x.z_dnat _ n.words.4;
  z_snat = low_same 16 x.z_snat _ n.words.5;
  state = low_same 3 x.state _ n.words.6;
  verdict = low_same 3 x.verdict _ n.words.7;
  tier = low_same 3 x.tier _ n.words.8;
}

-- The cube holds what has the low bits exactly where it holds the packet with its registers.
pub low_fits : (c : Cube) → IsNarrow c → (x : Regs) (p : Packet) → CubeFits c x p → CubeFits c (low_regs x) (low_packet p)
low_fits c n x p = alike_fits (turned (alike c n x p))

pub fits_low : (c : Cube) → IsNarrow c → (x : Regs) (p : Packet) → CubeFits c (low_regs x) (low_packet p) → CubeFits c x p
fits_low c n x p = alike_fits (alike c n x p)
