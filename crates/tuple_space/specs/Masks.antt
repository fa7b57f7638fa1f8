-- Which bits of which fields a cube asks for, what it wants in them, and what a packet has in them.
use Rattle.std.specs.Prelude.{ℕ, ◌+◌, Bool, true, false, cond, ◌&&◌, List, [], ◌∷◌, ◌++◌, map, Option, Some, None, is_some, nat_eq, bit_and, slice_index}
use Rattle.ovn_base.specs.addresses.EtherAddress.{mac_number}
use Rattle.inet_packet.specs.declared.cube.Bits.{Bits}
use Rattle.inet_packet.specs.declared.cube.Cube.{Cube}
use Rattle.inet_packet.specs.declared.packet.Packet.{Packet}
use Rattle.inet_packet.specs.declared.regs.At.{At}
use Rattle.inet_packet.specs.declared.regs.At.TheVariants.{Tunnel, Local}
use Rattle.inet_packet.specs.declared.regs.Regs.{Regs}
use Rattle.inet_packet.specs.Fits.{BitsFit}
use Rattle.inet_packet.specs.Fields.{ether_type, ip4_src, ip4_dst, ip_proto, ip_ttl, tcp_src, tcp_dst, udp_src, udp_dst, icmp4_type, icmp4_code, arp_op, arp_spa, arp_tpa, arp_sha, arp_tha}
use Rattle.tuple_space.specs.declared.mask.Asked.{Asked}
use Rattle.tuple_space.specs.declared.mask.Mask.{Mask}

-- what the cube asks of each field
unfoldable pub cube_bits : Cube → List Bits
cube_bits cube = cube.dp ∷ cube.in_port ∷ cube.out_port ∷ cube.next ∷ cube.z_in ∷ cube.z_out ∷ cube.z_dnat ∷ cube.z_snat ∷ cube.state ∷ cube.verdict ∷ cube.tier ∷ cube.flags ∷ cube.eth_src ∷ cube.eth_dst ∷ cube.eth_type ∷ cube.ip4_src ∷ cube.ip4_dst ∷ cube.ip_proto ∷ cube.ip_ttl ∷ cube.tcp_src ∷ cube.tcp_dst ∷ cube.udp_src ∷ cube.udp_dst ∷ cube.icmp4_type ∷ cube.icmp4_code ∷ cube.arp_op ∷ cube.arp_spa ∷ cube.arp_tpa ∷ cube.arp_sha ∷ cube.arp_tha ∷ []

-- what the registers and the packet have in each field
unfoldable pub field_values : Regs → Packet → List ℕ
field_values regs packet = regs.dp ∷ regs.in_port ∷ regs.out_port ∷ regs.next ∷ regs.z_in ∷ regs.z_out ∷ regs.z_dnat ∷ regs.z_snat ∷ regs.state ∷ regs.verdict ∷ regs.tier ∷ regs.flags.0 ∷ mac_number packet.src ∷ mac_number packet.dst ∷ ether_type packet.body ∷ ip4_src packet.body ∷ ip4_dst packet.body ∷ ip_proto packet.body ∷ ip_ttl packet.body ∷ tcp_src packet.body ∷ tcp_dst packet.body ∷ udp_src packet.body ∷ udp_dst packet.body ∷ icmp4_type packet.body ∷ icmp4_code packet.body ∷ arp_op packet.body ∷ arp_spa packet.body ∷ arp_tpa packet.body ∷ arp_sha packet.body ∷ arp_tha packet.body ∷ []

-- the value of each field fits
abbrev pub AllFit : List Bits → List ℕ → Type 0
AllFit [] [] = Unit {0}
AllFit [] (x ∷ xs) = ⊥
AllFit (b ∷ bs) [] = ⊥
AllFit (b ∷ bs) (x ∷ xs) = BitsFit b x × AllFit bs xs

-- nothing is asked for
abbrev pub is_open : Bits → Bool
is_open b = nat_eq b.mask 0 && nat_eq b.value 0

abbrev pub one_asked : ℕ → Bits → List Asked
one_asked i b = cond (is_open b) [] (record { field = i; bits = b.mask } ∷ [])

-- what the function gives for each of the fields, from the i-th on
abbrev pub each_field : {X : Type 0} → (ℕ → Bits → List X) → ℕ → List Bits → List X
each_field f i [] = []
each_field f i (b ∷ bs) = f i b ++ each_field f (i + 1) bs

-- the fields that are asked for, with their masks
abbrev pub asked_fields : List Bits → List Asked
asked_fields bs = each_field one_asked 0 bs

abbrev pub one_wanted : ℕ → Bits → List ℕ
one_wanted i b = cond (is_open b) [] (b.value ∷ [])

-- what is wanted in them
abbrev pub wanted_values : List Bits → List ℕ
wanted_values bs = each_field one_wanted 0 bs

-- what the values have in the fields and bits that are asked for
abbrev pub masked : List Asked → List ℕ → List ℕ
masked asks xs = map (λ a. bit_and (slice_index xs a.field) a.bits) asks

-- the entry as numbers
abbrev pub entry_numbers : At → List ℕ
entry_numbers (Local name) = 1 ∷ name
entry_numbers Tunnel = 0 ∷ []

abbrev pub wanted_entry : Option At → List ℕ
wanted_entry None = []
wanted_entry (Some at) = entry_numbers at

abbrev pub entry_under : Bool → At → List ℕ
entry_under false at = []
entry_under true at = entry_numbers at

-- what the cube asks for
abbrev pub cube_mask : Cube → Mask
cube_mask cube = record { asks = asked_fields (cube_bits cube); entry = is_some cube.at }

-- what the cube wants under its mask
abbrev pub values_wanted : Cube → List ℕ
values_wanted cube = wanted_values (cube_bits cube) ++ wanted_entry cube.at

-- what the registers and the packet have under a mask
abbrev pub values_under : Mask → Regs → Packet → List ℕ
values_under mask regs packet = masked mask.asks (field_values regs packet) ++ entry_under mask.entry regs.at
