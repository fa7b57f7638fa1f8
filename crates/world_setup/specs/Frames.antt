-- What is wrong with the frame of a packet that would enter.
use Rattle.std.specs.Prelude.{◌/◌, ◌&&◌, ◌==◌, ℕ, Bool, not, List, length, drop, take, nat_le, nat_lt, slice_index}
use Rattle.std.specs.Cmp.Lexicographic.{pointwise}
use Rattle.std.proofs.Math.Dec.{eqb as nat_eq}
use Rattle.ovn_base.specs.declared.limits.TheConstants.{MIN_FRAME, MAX_FRAME}
use Rattle.inet_packet.specs.Frame.{ethernet_ip4}
use Rattle.inet_packet.specs.Reading.{ether_type_at, header_len, total_len}
use Rattle.inet_packet.specs.Sums.{words, ones_sum}

-- the bytes begin with an IPv4 header whose version, lengths and sum are right
unfoldable pub is_ip4_bytes : List ℕ → Bool
is_ip4_bytes bytes =
    nat_le 20 (length bytes) && slice_index bytes 0 / 16 == 4 && nat_le 20 (header_len bytes) && nat_le (header_len bytes) (total_len bytes) && nat_le (total_len bytes) (length bytes)
    && ones_sum (words (take (header_len bytes) bytes)) == 0xffff

-- the bytes begin with an ARP packet of Ethernet for IPv4
unfoldable pub is_arp_bytes : List ℕ → Bool
is_arp_bytes bytes = nat_le 28 (length bytes) && pointwise nat_eq (take 6 bytes) ethernet_ip4

-- fewer than 14 bytes; more than 9,216; of the type of IPv4, and no IPv4 packet
abbrev pub is_too_short : List ℕ → Bool
is_too_short frame = nat_lt (length frame) MIN_FRAME

abbrev pub is_too_big : List ℕ → Bool
is_too_big frame = nat_lt MAX_FRAME (length frame)

abbrev pub is_bad_ip4 : List ℕ → Bool
is_bad_ip4 frame = ether_type_at frame == 0x0800 && not (is_ip4_bytes (drop 14 frame))
