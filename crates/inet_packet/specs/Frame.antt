-- The bytes of a packet.
use Rattle.std.specs.Prelude.{ℕ, ◌+◌, ◌/◌, ◌%◌, List, ◌∷◌, [], ◌++◌, length}
use Rattle.std.specs.Int.{w16, w32, to_be_bytes}
use Rattle.ovn_base.specs.addresses.EtherAddress.{mac_bytes}
use Rattle.inet_packet.specs.declared.packet.Arp as records
use Rattle.inet_packet.specs.declared.packet.Body.{Body}
use Rattle.inet_packet.specs.declared.packet.Body.TheVariants.{Arp, Ip4, Other}
use Rattle.inet_packet.specs.declared.packet.Ip4Packet.{Ip4Packet}
use Rattle.inet_packet.specs.declared.packet.Packet.{Packet}
use Rattle.inet_packet.specs.declared.packet.Part.{Part}
use Rattle.inet_packet.specs.declared.packet.Part.TheVariants.{Tcp, Udp, Icmp, OtherIp, Fragment}

-- a number in two or four bytes, the highest first
abbrev pub two : ℕ → List ℕ
two n = to_be_bytes w16 n

abbrev pub four : ℕ → List ℕ
four n = to_be_bytes w32 n

-- hardware type 1, protocol type 0x0800 and their lengths 6 and 4: Ethernet for IPv4 (RFC 826)
abbrev pub ethernet_ip4 : List ℕ
ethernet_ip4 = 0 ∷ 1 ∷ 8 ∷ 0 ∷ 6 ∷ 4 ∷ []

-- an ARP packet (RFC 826)
abbrev pub arp_bytes : records.Arp → List ℕ
arp_bytes a = ethernet_ip4 ++ (two a.op ++ (mac_bytes a.sha ++ (four a.spa.0 ++ (mac_bytes a.tha ++ four a.tpa.0))))

-- an IPv4 header from its second byte up to its addresses (RFC 791 section 3.1)
abbrev pub ip4_front : Ip4Packet → List ℕ
ip4_front i = i.tos ∷ (two i.total ++ (two i.ident ++ (two i.frag ++ (i.ttl ∷ i.proto ∷ two i.sum))))

-- the whole header, which begins with version 4 and its length in words of four bytes
unfoldable pub ip4_header : Ip4Packet → List ℕ
ip4_header i = ((64 + (5 + length i.options / 4)) % 256) ∷ (ip4_front i ++ (four i.src.0 ++ (four i.dst.0 ++ i.options)))

-- a transport header, as far as its fields go (RFC 793, 768, 792)
abbrev pub part_bytes : Part → List ℕ
part_bytes (Tcp src_port dst_port middle sum urgent) = two src_port ++ (two dst_port ++ (middle ++ (two sum ++ two urgent)))
part_bytes (Udp src_port dst_port len sum) = two src_port ++ (two dst_port ++ (two len ++ two sum))
part_bytes (Icmp kind code sum ident) = kind ∷ code ∷ (two sum ++ two ident)
part_bytes OtherIp = []
part_bytes Fragment = []

-- the type and the fields of a body
abbrev pub body_bytes : Body → List ℕ
body_bytes (Arp a) = two 0x0806 ++ arp_bytes a
body_bytes (Ip4 i) = two 0x0800 ++ (ip4_header i ++ part_bytes i.part)
body_bytes (Other t) = two t

-- the frame of a packet: the two addresses, the body and the rest
unfoldable pub frame_of : Packet → List ℕ
frame_of p = mac_bytes p.dst ++ (mac_bytes p.src ++ (body_bytes p.body ++ p.tail))
