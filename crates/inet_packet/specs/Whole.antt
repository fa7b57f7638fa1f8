-- Which packets have a frame that is read back as they are.
use Rattle.std.specs.Prelude.{◌≡◌, ◌≢◌, ℕ, ◌+◌, ◌-◌, ◌%◌, ◌^◌, ◌<◌, ◌≤◌, List, length, take, bit_and}
use Rattle.std.specs.List.{All}
use Rattle.ovn_base.specs.declared.limits.TheConstants.{MIN_FRAME, MAX_FRAME}
use Rattle.inet_packet.specs.declared.packet.Arp as records
use Rattle.inet_packet.specs.declared.packet.Body.{Body}
use Rattle.inet_packet.specs.declared.packet.Body.TheVariants.{Arp, Ip4, Other}
use Rattle.inet_packet.specs.declared.packet.Ip4Packet.{Ip4Packet}
use Rattle.inet_packet.specs.declared.packet.Packet.{Packet}
use Rattle.inet_packet.specs.declared.packet.Part.{Part}
use Rattle.inet_packet.specs.declared.packet.Part.TheVariants.{Tcp, Udp, Icmp, OtherIp, Fragment}
use Rattle.inet_packet.specs.Frame.{ethernet_ip4, ip4_header, part_bytes, frame_of}
use Rattle.inet_packet.specs.Sums.{words, ones_sum}

-- each is a byte
abbrev pub AreBytes : List ℕ → Type 0
AreBytes bytes = All (λ b. b < 256) bytes

-- the bytes behind the type 0x0806 are an ARP packet of Ethernet for IPv4
pub record IsArpBytes (bytes : List ℕ) : Type 0 where
  pub long : 28 ≤ length bytes
  pub kind : take 6 bytes ≡ ethernet_ip4

-- the fields of an ARP packet are in their ranges
pub record IsWholeArp (a : records.Arp) : Type 0 where
  pub op : a.op < 2 ^ 16
  pub spa : a.spa.0 < 2 ^ 32
  pub tpa : a.tpa.0 < 2 ^ 32

-- another type, and an ARP packet only where it isn't Ethernet for IPv4 or is cut
pub record IsWholeOther (ether_type : ℕ) (tail : List ℕ) : Type 0 where
  pub within : ether_type < 2 ^ 16
  pub not_ip4 : ether_type ≢ 0x0800
  pub not_arp : ether_type ≡ 0x0806 → ¬ IsArpBytes tail

-- the fields of a transport header are in their ranges
abbrev pub IsPartWithin : Part → Type 0
IsPartWithin (Tcp src_port dst_port middle sum urgent) = (src_port < 2 ^ 16) × (dst_port < 2 ^ 16) × (length middle ≡ 12) × AreBytes middle × (sum < 2 ^ 16) × (urgent < 2 ^ 16)
IsPartWithin (Udp src_port dst_port len sum) = (src_port < 2 ^ 16) × (dst_port < 2 ^ 16) × (len < 2 ^ 16) × (sum < 2 ^ 16)
IsPartWithin (Icmp kind code sum ident) = (kind < 256) × (code < 256) × (sum < 2 ^ 16) × (ident < 2 ^ 16)
IsPartWithin OtherIp = Unit {0}
IsPartWithin Fragment = Unit {0}

-- more fragments follow, or the fragment has an offset (RFC 791 section 3.1)
abbrev pub IsFragment : ℕ → Type 0
IsFragment frag = bit_and frag 0x3fff ≢ 0

-- the part is the one that the fragment bits, the protocol and the number of bytes behind the header name
abbrev pub IsPart : ℕ → ℕ → ℕ → Part → Type 0
IsPart frag proto len (Tcp src_port dst_port middle sum urgent) = (¬ IsFragment frag) × (proto ≡ 6) × (20 ≤ len)
IsPart frag proto len (Udp src_port dst_port udp_len sum) = (¬ IsFragment frag) × (proto ≡ 17) × (8 ≤ len)
IsPart frag proto len (Icmp kind code sum ident) = (¬ IsFragment frag) × (proto ≡ 1) × (8 ≤ len)
IsPart frag proto len OtherIp = (¬ IsFragment frag) × (proto ≡ 6 → len < 20) × (proto ≡ 17 → len < 8) × (proto ≡ 1 → len < 8)
IsPart frag proto len Fragment = IsFragment frag

-- the fields of an IPv4 header are in their ranges
pub record IsIp4Within (i : Ip4Packet) : Type 0 where
  pub tos : i.tos < 256
  pub total : i.total < 2 ^ 16
  pub ident : i.ident < 2 ^ 16
  pub frag : i.frag < 2 ^ 16
  pub ttl : i.ttl < 256
  pub proto : i.proto < 256
  pub sum : i.sum < 2 ^ 16
  pub src : i.src.0 < 2 ^ 32
  pub dst : i.dst.0 < 2 ^ 32
  pub options : AreBytes i.options
  pub part : IsPartWithin i.part

-- an IPv4 header whose lengths and sum are right, and the part that it names
pub record IsWholeIp4 (i : Ip4Packet) (tail : List ℕ) : Type 0 where
  pub within : IsIp4Within i
  pub words_of_four : length i.options % 4 ≡ 0
  pub few_options : length i.options ≤ 40
  pub has_header : 20 + length i.options ≤ i.total
  pub is_there : i.total ≤ 20 + length i.options + length (part_bytes i.part) + length tail
  pub sums_up : ones_sum (words (ip4_header i)) ≡ 0xffff
  pub named : IsPart i.frag i.proto (i.total - (20 + length i.options)) i.part

-- the body is the one that the bytes have
abbrev pub IsWholeBody : Body → List ℕ → Type 0
IsWholeBody (Arp a) tail = IsWholeArp a
IsWholeBody (Ip4 i) tail = IsWholeIp4 i tail
IsWholeBody (Other t) tail = IsWholeOther t tail

-- a packet that is what its frame says, of 14 to 9,216 bytes
pub record IsWhole (p : Packet) : Type 0 where
  pub tail : AreBytes p.tail
  pub long : MIN_FRAME ≤ length (frame_of p)
  pub short : length (frame_of p) ≤ MAX_FRAME
  pub body : IsWholeBody p.body p.tail
