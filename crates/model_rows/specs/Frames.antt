-- Packets, written as the hexadecimal text of their frames.
use Rattle.std.specs.Prelude.{◌≡◌, ℕ, ◌+◌, ◌-◌, ◌*◌, ◌==◌, ◌&&◌, nat_lt, nat_le, Bool, List, [], ◌∷◌, map, cond, drop, take, length}
use Rattle.ovn_base.specs.addresses.EtherAddress.{EtherAddress, mac_of}
use Rattle.ovn_base.specs.declared.address.Ip4.{Ip4}
use Rattle.inet_packet.specs.declared.packet.Arp as records
use Rattle.inet_packet.specs.declared.packet.Body.{Body}
use Rattle.inet_packet.specs.declared.packet.Body.TheVariants as body
use Rattle.inet_packet.specs.declared.packet.Ip4Packet.{Ip4Packet}
use Rattle.inet_packet.specs.declared.packet.Packet.{Packet}
use Rattle.inet_packet.specs.declared.packet.Part.{Part}
use Rattle.inet_packet.specs.declared.packet.Part.TheVariants as part
use Rattle.inet_packet.specs.Frame.{frame_of}

-- ---- texts

-- the value of a hexadecimal digit, which is a small letter from 10 on
abbrev pub digit : ℕ → ℕ
digit c = cond (nat_lt c 58) (c - 48) (c - 87)

-- the bytes, of two digits each
abbrev pub hex : List ℕ → List ℕ
hex [] = []
hex (a ∷ []) = []
hex (a ∷ b ∷ text) = (16 * digit a + digit b) ∷ hex text

-- the number in the bytes, the first the highest
abbrev pub number_behind : ℕ → List ℕ → ℕ
number_behind n [] = n
number_behind n (b ∷ bytes) = number_behind (n * 256 + b) bytes

-- the number in so many bytes from this one on
abbrev pub number_at : ℕ → ℕ → List ℕ → ℕ
number_at from count bytes = number_behind 0 (take count (drop from bytes))

abbrev pub mac_at : ℕ → List ℕ → EtherAddress
mac_at from bytes = mac_of (number_at from 6 bytes)

abbrev pub ip_at : ℕ → List ℕ → Ip4
ip_at from bytes = record { 0 = number_at from 4 bytes }

-- ---- packets

-- an ARP packet behind the addresses and the type
abbrev pub arp_in : List ℕ → records.Arp
arp_in b = record { op = number_at 20 2 b; sha = mac_at 22 b; spa = ip_at 28 b; tha = mac_at 32 b; tpa = ip_at 38 b }

-- a transport header behind an IPv4 header of 20 bytes, where all of it is there, and how many bytes it has
abbrev pub is_tcp : List ℕ → Bool
is_tcp b = (number_at 23 1 b == 6) && nat_le 54 (length b)

abbrev pub is_udp : List ℕ → Bool
is_udp b = (number_at 23 1 b == 17) && nat_le 42 (length b)

abbrev pub part_in : List ℕ → Part
part_in b =
    cond (is_tcp b) (part.Tcp (number_at 34 2 b) (number_at 36 2 b) (take 12 (drop 38 b)) (number_at 50 2 b) (number_at 52 2 b))
    (cond (is_udp b) (part.Udp (number_at 34 2 b) (number_at 36 2 b) (number_at 38 2 b) (number_at 40 2 b)) part.OtherIp)

abbrev pub part_length : List ℕ → ℕ
part_length b = cond (is_tcp b) 20 (cond (is_udp b) 8 0)

-- an IPv4 packet without options that is no fragment
abbrev pub ip4_in : List ℕ → Ip4Packet
ip4_in b = record {
  tos = number_at 15 1 b;
  total = number_at 16 2 b;
  ident = number_at 18 2 b;
  frag = number_at 20 2 b;
  ttl = number_at 22 1 b;
  proto = number_at 23 1 b;
  sum = number_at 24 2 b;
  src = ip_at 26 b;
  dst = ip_at 30 b;
  options = [];
  part = part_in b;
}

abbrev pub packet_with : List ℕ → Body → ℕ → Packet
packet_with b body fields = record { dst = mac_at 0 b; src = mac_at 6 b; body = body; tail = drop fields b }

-- the packet of the frame: a whole ARP packet, an IPv4 packet without options that is no fragment, or one of another type
abbrev pub packet_in : List ℕ → Packet
packet_in b =
    cond (number_at 12 2 b == 0x0806) (packet_with b (body.Arp (arp_in b)) 42)
    (cond (number_at 12 2 b == 0x0800) (packet_with b (body.Ip4 (ip4_in b)) (34 + part_length b))
    (packet_with b (body.Other (number_at 12 2 b)) 14))

-- the packet of the text
abbrev pub packet : List ℕ → Packet
packet text = packet_in (hex text)

-- the frames of the packets of the texts are those of the texts
unfoldable pub AreFramesOf : List (List ℕ) → Type 0
AreFramesOf texts = map (λ text. frame_of (packet text)) texts ≡ map hex texts
