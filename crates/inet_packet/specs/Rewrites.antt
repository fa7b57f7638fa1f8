-- What a rewrite makes of a packet. A sum changes word by word (RFC 1624).
use Rattle.std.specs.Prelude.{◌≡◌, ℕ, ◌+◌, ◌*◌, ◌-◌, ◌/◌, ◌%◌, ◌==◌, if◌then◌else◌}
use Rattle.ovn_base.specs.declared.address.Ip4 as addresses
use Rattle.ovn_base.specs.declared.address.Mac.{Mac}
use Rattle.inet_packet.specs.declared.packet.Body.{Body}
use Rattle.inet_packet.specs.declared.packet.Body.TheVariants.{Arp, Ip4, Other}
use Rattle.inet_packet.specs.declared.packet.Ip4Packet.{Ip4Packet}
use Rattle.inet_packet.specs.declared.packet.Packet.{Packet}
use Rattle.inet_packet.specs.declared.packet.Part.{Part}
use Rattle.inet_packet.specs.declared.packet.Part.TheVariants.{Tcp, Udp, Icmp, OtherIp, Fragment}
use Rattle.inet_packet.specs.Sums.{add_words}

-- the bits of a word turned over
abbrev pub not_word : ℕ → ℕ
not_word n = 65535 - n

-- the sum after a word m has become n: HC' = ~(~HC + ~m + m') (RFC 1624 section 3). A word that stays changes nothing.
abbrev pub updated : ℕ → ℕ → ℕ → ℕ
updated sum m n = if m == n then sum else not_word (add_words (add_words (not_word sum) (not_word m)) n)

-- the same where 0 says that there is no sum (RFC 768)
abbrev pub updated_set : ℕ → ℕ → ℕ → ℕ
updated_set sum m n = if m == n then sum else (if updated sum m n == 0 then 0xffff else updated sum m n)

-- a sum that was not given stays so
abbrev pub udp_updated : ℕ → ℕ → ℕ → ℕ
udp_updated sum m n = if sum == 0 then 0 else updated_set sum m n

-- the sum after an address has become another, its high word first
abbrev pub over_address : (ℕ → ℕ → ℕ → ℕ) → ℕ → ℕ → ℕ → ℕ
over_address update sum a b = update (update sum (a / 65536) (b / 65536)) (a % 65536) (b % 65536)

-- the sum of a transport header after an address of the header before it has become another
abbrev pub part_over_address : ℕ → ℕ → Part → Part
part_over_address a b (Tcp src_port dst_port middle sum urgent) = Tcp src_port dst_port middle (over_address updated sum a b) urgent
part_over_address a b (Udp src_port dst_port len sum) = Udp src_port dst_port len (over_address udp_updated sum a b)
part_over_address a b (Icmp kind code sum ident) = Icmp kind code sum ident
part_over_address a b OtherIp = OtherIp
part_over_address a b Fragment = Fragment

-- a header with another source, or another destination
abbrev pub ip4_with_src : addresses.Ip4 → Ip4Packet → Ip4Packet
ip4_with_src ip i = record i { src = ip; sum = over_address updated i.sum i.src.0 ip.0; part = part_over_address i.src.0 ip.0 i.part }

abbrev pub ip4_with_dst : addresses.Ip4 → Ip4Packet → Ip4Packet
ip4_with_dst ip i = record i { dst = ip; sum = over_address updated i.sum i.dst.0 ip.0; part = part_over_address i.dst.0 ip.0 i.part }

-- a header with another time to live; it is the high byte of the word that the protocol ends
abbrev pub ip4_with_ttl : ℕ → Ip4Packet → Ip4Packet
ip4_with_ttl ttl i = record i { ttl = ttl; sum = updated i.sum (i.ttl * 256 + i.proto) (ttl * 256 + i.proto) }

abbrev pub ip4_dec_ttl : Ip4Packet → Ip4Packet
ip4_dec_ttl i = ip4_with_ttl (i.ttl - 1) i

-- other ports, or another identifier
abbrev pub part_with_ports : ℕ → ℕ → Part → Part
part_with_ports src dst (Tcp src_port dst_port middle sum urgent) = Tcp src dst middle (updated (updated sum src_port src) dst_port dst) urgent
part_with_ports src dst (Udp src_port dst_port len sum) = Udp src dst len (udp_updated (udp_updated sum src_port src) dst_port dst)
part_with_ports src dst (Icmp kind code sum ident) = Icmp kind code (updated_set sum ident src) src
part_with_ports src dst OtherIp = OtherIp
part_with_ports src dst Fragment = Fragment

-- the message as an answer, of type 0
abbrev pub part_as_reply : Part → Part
part_as_reply (Tcp src_port dst_port middle sum urgent) = Tcp src_port dst_port middle sum urgent
part_as_reply (Udp src_port dst_port len sum) = Udp src_port dst_port len sum
part_as_reply (Icmp kind code sum ident) = Icmp 0 code (updated_set sum (kind * 256 + code) code) ident
part_as_reply OtherIp = OtherIp
part_as_reply Fragment = Fragment

-- the body, where it is an IPv4 packet
abbrev pub over_ip4 : (Ip4Packet → Ip4Packet) → Body → Body
over_ip4 f (Arp a) = Arp a
over_ip4 f (Ip4 i) = Ip4 (f i)
over_ip4 f (Other t) = Other t

-- the packet, with its body changed so
abbrev pub with_ip4 : (Ip4Packet → Ip4Packet) → Packet → Packet
with_ip4 f p = record p { body = over_ip4 f p.body }

abbrev pub ip4_with_ports : ℕ → ℕ → Ip4Packet → Ip4Packet
ip4_with_ports src dst i = record i { part = part_with_ports src dst i.part }

-- the answer to an echo request: the addresses swapped, a time to live of 255, and the message as an answer
abbrev pub ip4_swapped : Ip4Packet → Ip4Packet
ip4_swapped i = ip4_with_dst i.src (ip4_with_src i.dst i)

abbrev pub ip4_as_reply : Ip4Packet → Ip4Packet
ip4_as_reply i = let swapped = ip4_with_ttl 255 (ip4_swapped i) in record swapped { part = part_as_reply swapped.part }

-- the part has ports that can become these, or an identifier
abbrev pub HasPorts : ℕ → ℕ → Part → Type 0
HasPorts src dst (Tcp src_port dst_port middle sum urgent) = Unit {0}
HasPorts src dst (Udp src_port dst_port len sum) = Unit {0}
HasPorts src dst (Icmp kind code sum ident) = src ≡ dst
HasPorts src dst OtherIp = ⊥
HasPorts src dst Fragment = ⊥

abbrev pub CanSetPorts : ℕ → ℕ → Body → Type 0
CanSetPorts src dst (Arp a) = ⊥
CanSetPorts src dst (Ip4 i) = HasPorts src dst i.part
CanSetPorts src dst (Other t) = ⊥

-- the body is an ARP packet
abbrev pub IsArp : Body → Type 0
IsArp (Arp a) = Unit {0}
IsArp (Ip4 i) = ⊥
IsArp (Other t) = ⊥

-- the answer to an ARP packet, from this hardware address for that protocol address
abbrev pub arp_as_reply : Mac → addresses.Ip4 → Body → Body
arp_as_reply mac ip (Arp a) = Arp (record { op = 2; sha = mac; spa = ip; tha = a.sha; tpa = a.spa })
arp_as_reply mac ip (Ip4 i) = Ip4 i
arp_as_reply mac ip (Other t) = Other t

abbrev pub with_arp_reply : Mac → addresses.Ip4 → Packet → Packet
with_arp_reply mac ip p = record { dst = p.src; src = mac; body = arp_as_reply mac ip p.body; tail = p.tail }
