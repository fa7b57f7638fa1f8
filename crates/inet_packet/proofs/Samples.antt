-- Packets whose sums are known from outside: the definitions say that they are right.
use Rattle.std.proofs.Common.{◌≡◌, [], ◌∷◌, ◌++◌, refl, inr}
use Rattle.inet_packet.specs.declared.packet.Body.TheVariants.{Ip4}
use Rattle.inet_packet.specs.declared.packet.Ip4Packet.{Ip4Packet}
use Rattle.inet_packet.specs.declared.packet.Part.TheVariants.{Tcp, Udp}
use Rattle.inet_packet.specs.Frame.{four, part_bytes}
use Rattle.inet_packet.specs.Rewrites.{updated, updated_set, udp_updated}
use Rattle.inet_packet.specs.Sums.{words, ones_sum}
use Rattle.inet_packet.specs.Transport.{IsRightBody}

-- RFC 1071 section 3
rfc_1071 : ones_sum (words (0x00 ∷ 0x01 ∷ 0xf2 ∷ 0x03 ∷ 0xf4 ∷ 0xf5 ∷ 0xf6 ∷ 0xf7 ∷ [])) ≡ 0xddf2
unfolding words ones_sum
rfc_1071 = refl

-- a last byte alone is the high one of its word
odd_number : ones_sum (words (0x00 ∷ 0x01 ∷ 0xf2 ∷ [])) ≡ 0xf201
unfolding words ones_sum
odd_number = refl

-- RFC 1624 section 4: a word of a header changes, and its sum becomes 0, where sums that can't be 0 become all ones
rfc_1624 : updated 0xdd2f 0x5555 0x3285 ≡ 0x0000
rfc_1624 = refl

rfc_1624_set : updated_set 0xdd2f 0x5555 0x3285 ≡ 0xffff
rfc_1624_set = refl

-- a word that stays leaves its sum, and a UDP sum that was not given isn't made
same_word : updated 0xffff 0x5555 0x5555 ≡ 0xffff
same_word = refl

no_sum : udp_updated 0 0x5555 0x3285 ≡ 0
no_sum = refl

-- TCP from 10.0.0.1 port 5000 to 10.0.0.100 port 80, with no data
syn : Ip4Packet
syn = record { tos = 0; total = 40; ident = 1; frag = 0; ttl = 64; proto = 6; sum = 0x666b; src = record { 0 = 0x0a000001 }; dst = record { 0 = 0x0a000064 }; options = []; part = Tcp 5000 80 (0 ∷ 0 ∷ 0 ∷ 0 ∷ 0 ∷ 0 ∷ 0 ∷ 0 ∷ 0x50 ∷ 0x02 ∷ 0xff ∷ 0xff ∷ []) 0x87a6 0 }

syn_right : IsRightBody (Ip4 syn) []
unfolding words ones_sum syn
syn_right = refl

-- its words miss 0xffff by 20 where the pseudo-header lacks the length, which is 20
syn_without_length : ones_sum (words (four 0x0a000001 ++ (four 0x0a000064 ++ (0 ∷ 6 ∷ part_bytes syn.part)))) ≡ 0xffeb
unfolding words ones_sum syn
syn_without_length = refl

-- UDP from 10.0.0.1 port 5000 to 10.0.0.2 port 5001, with one byte of data
datagram : Ip4Packet
datagram = record { tos = 0; total = 29; ident = 1; frag = 0; ttl = 64; proto = 17; sum = 0x66cd; src = record { 0 = 0x0a000001 }; dst = record { 0 = 0x0a000002 }; options = []; part = Udp 5000 5001 9 0x63c8 }

datagram_right : IsRightBody (Ip4 datagram) (0x61 ∷ [])
unfolding words ones_sum datagram
datagram_right = inr refl

-- padding does not count
padded_right : IsRightBody (Ip4 datagram) (0x61 ∷ 0xaa ∷ 0xaa ∷ [])
unfolding words ones_sum datagram
padded_right = inr refl
