-- The packet of a frame: its fields stand at fixed places. Bytes that are no frame have some packet too.
use Rattle.std.specs.Prelude.{◌+◌, ◌*◌, ◌-◌, ◌==◌, ◌&&◌, ℕ, List, cond, length, take, drop, slice_index, nat_le, bit_and}
use Rattle.ovn_base.specs.addresses.EtherAddress.{EtherAddress, mac_of_bytes}
use Rattle.ovn_base.specs.declared.address.Ip4.{Ip4}
use Rattle.inet_packet.specs.Frame.{body_bytes}
use Rattle.inet_packet.specs.Reading.{header_len, total_len}
use Rattle.inet_packet.specs.declared.packet.Arp as records
use Rattle.inet_packet.specs.declared.packet.Body as packet
use Rattle.inet_packet.specs.declared.packet.Body.TheVariants as body
use Rattle.inet_packet.specs.declared.packet.Ip4Packet.{Ip4Packet}
use Rattle.inet_packet.specs.declared.packet.Packet.{Packet}
use Rattle.inet_packet.specs.declared.packet.Part.{Part}
use Rattle.inet_packet.specs.declared.packet.Part.TheVariants.{Tcp, Udp, Icmp, OtherIp, Fragment}
use Rattle.world_setup.specs.Frames.{is_arp_bytes}

-- the number in two bytes at a place, the highest first, and that in four
abbrev pub two_at : ℕ → List ℕ → ℕ
two_at k bytes = slice_index (drop k bytes) 0 * 256 + slice_index (drop k bytes) 1

abbrev pub four_at : ℕ → List ℕ → ℕ
four_at k bytes = two_at k bytes * 65536 + two_at (k + 2) bytes

-- the address at a place
abbrev pub mac_at : ℕ → List ℕ → EtherAddress
mac_at k bytes = mac_of_bytes (take 6 (drop k bytes))

abbrev pub ip_at : ℕ → List ℕ → Ip4
ip_at k bytes = record { 0 = four_at k bytes }

-- an ARP packet (RFC 826)
abbrev pub arp_in : List ℕ → records.Arp
arp_in bytes = record { op = two_at 6 bytes; sha = mac_at 8 bytes; spa = ip_at 14 bytes; tha = mac_at 18 bytes; tpa = ip_at 24 bytes }

-- transport headers (RFC 793, 768, 792)
abbrev pub tcp_in : List ℕ → Part
tcp_in bytes = Tcp (two_at 0 bytes) (two_at 2 bytes) (take 12 (drop 4 bytes)) (two_at 16 bytes) (two_at 18 bytes)

abbrev pub udp_in : List ℕ → Part
udp_in bytes = Udp (two_at 0 bytes) (two_at 2 bytes) (two_at 4 bytes) (two_at 6 bytes)

abbrev pub icmp_in : List ℕ → Part
icmp_in bytes = Icmp (slice_index bytes 0) (slice_index bytes 1) (two_at 2 bytes) (two_at 4 bytes)

-- the transport header that the fragment bits, the protocol and the number of bytes behind the header name
abbrev pub part_in : ℕ → ℕ → ℕ → List ℕ → Part
part_in frag proto len bytes =
    cond (bit_and frag 0x3fff == 0)
    (cond (proto == 6 && nat_le 20 len) (tcp_in bytes)
    (cond (proto == 17 && nat_le 8 len) (udp_in bytes)
    (cond (proto == 1 && nat_le 8 len) (icmp_in bytes) OtherIp)))
    Fragment

-- how many bytes the options of an IPv4 header have
abbrev pub options_len : List ℕ → ℕ
options_len bytes = header_len bytes - 20

-- an IPv4 packet (RFC 791 section 3.1)
abbrev pub ip4_in : List ℕ → Ip4Packet
ip4_in bytes = record {
  tos = slice_index bytes 1;
  total = total_len bytes;
  ident = two_at 4 bytes;
  frag = two_at 6 bytes;
  ttl = slice_index bytes 8;
  proto = slice_index bytes 9;
  sum = two_at 10 bytes;
  src = ip_at 12 bytes;
  dst = ip_at 16 bytes;
  options = take (options_len bytes) (drop 20 bytes);
  part = part_in (two_at 6 bytes) (slice_index bytes 9) (total_len bytes - header_len bytes) (drop (options_len bytes) (drop 20 bytes));
}

-- what stands behind the addresses: IPv4, ARP for it over Ethernet, or another type
abbrev pub body_in : List ℕ → packet.Body
body_in bytes =
    cond (two_at 0 bytes == 0x0800) (body.Ip4 (ip4_in (drop 2 bytes)))
    (cond (two_at 0 bytes == 0x0806 && is_arp_bytes (drop 2 bytes)) (body.Arp (arp_in (drop 2 bytes)))
    (body.Other (two_at 0 bytes)))

-- the packet; its tail is what is left behind the fields of its body
unfoldable pub packet_in : List ℕ → Packet
packet_in frame = record {
  dst = mac_at 0 frame;
  src = mac_at 6 frame;
  body = body_in (drop 12 frame);
  tail = drop (length (body_bytes (body_in (drop 12 frame)))) (drop 12 frame);
}
