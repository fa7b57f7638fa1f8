-- The sum of a transport header (RFC 793, 768, 792).
use Rattle.std.specs.Prelude.{◌≡◌, ◌⊎◌, ℕ, ◌+◌, ◌-◌, List, ◌∷◌, ◌++◌, length, take}
use Rattle.inet_packet.specs.declared.packet.Body.{Body}
use Rattle.inet_packet.specs.declared.packet.Body.TheVariants.{Arp, Ip4, Other}
use Rattle.inet_packet.specs.declared.packet.Ip4Packet.{Ip4Packet}
use Rattle.inet_packet.specs.declared.packet.Packet.{Packet}
use Rattle.inet_packet.specs.declared.packet.Part.{Part}
use Rattle.inet_packet.specs.declared.packet.Part.TheVariants.{Tcp, Udp, Icmp, OtherIp, Fragment}
use Rattle.inet_packet.specs.Frame.{two, four, part_bytes}
use Rattle.inet_packet.specs.Sums.{words, ones_sum}

-- how many bytes of the transport the total length leaves
abbrev pub segment_len : Ip4Packet → ℕ
segment_len i = i.total - (20 + length i.options)

-- the transport header and its data, so far
abbrev pub segment : Ip4Packet → List ℕ → List ℕ
segment i tail = take (segment_len i) (part_bytes i.part ++ tail)

-- the pseudo-header of TCP and UDP: the two addresses, a zero, the protocol and the length
abbrev pub pseudo_header : Ip4Packet → List ℕ
pseudo_header i = four i.src.0 ++ (four i.dst.0 ++ (0 ∷ i.proto ∷ two (segment_len i)))

-- the words add up to 0xffff
abbrev pub SumsUp : List ℕ → Type 0
SumsUp bytes = ones_sum (words bytes) ≡ 0xffff

-- the sum of the part is right, or it is UDP's 0, which is no sum
abbrev pub IsRightPart : List ℕ → List ℕ → Part → Type 0
IsRightPart pseudo bytes (Tcp src_port dst_port middle sum urgent) = SumsUp (pseudo ++ bytes)
IsRightPart pseudo bytes (Udp src_port dst_port len sum) = (sum ≡ 0) ⊎ SumsUp (pseudo ++ bytes)
IsRightPart pseudo bytes (Icmp kind code sum ident) = SumsUp bytes
IsRightPart pseudo bytes OtherIp = Unit {0}
IsRightPart pseudo bytes Fragment = Unit {0}

abbrev pub IsRightBody : Body → List ℕ → Type 0
IsRightBody (Arp a) tail = Unit {0}
IsRightBody (Ip4 i) tail = IsRightPart (pseudo_header i) (segment i tail) i.part
IsRightBody (Other t) tail = Unit {0}

-- the transport sum of the packet is right, if it has one
unfoldable pub HasRightSum : Packet → Type 0
HasRightSum p = IsRightBody p.body p.tail
