-- When the cube of a row holds a packet, and what follows where it does.
use Rattle.std.specs.Prelude.{◌≡◌, ◌<◌, ◌-◌, ◌^◌, ℕ, Bool, false, cond, Some, None, Option, bit_and}
use Rattle.std.specs.Int.Bits.{and_zero_r}
use Rattle.std.proofs.Common.{sym, ap, ◌∙◌}
use Rattle.ovn_base.specs.declared.name.Name.{Name}
use Rattle.ovn_base.proofs.MacLemmas.{and_all}
use Rattle.inet_packet.specs.declared.cube.Bits.{Bits}
use Rattle.inet_packet.specs.declared.cube.Cube.{Cube}
use Rattle.inet_packet.specs.declared.packet.Packet.{Packet}
use Rattle.inet_packet.specs.declared.regs.At.{At}
use Rattle.inet_packet.specs.declared.regs.At.TheVariants.{Local, Tunnel}
use Rattle.inet_packet.specs.declared.regs.Regs.{Regs}
use Rattle.inet_packet.specs.Fits.{BitsFit, EntryFits, CubeFits}
use Rattle.physical_flows.specs.GroupKeys.{group_key}
use Rattle.net_model.specs.declared.crossing.Group.{Group}
use Rattle.inet_packet.specs.Cubes.{any, exactly, everything}
use Rattle.physical_flows.specs.Rows.{arrived_is, on_entry, on_tunnel, on_exit, on_return, on_way, on_group}

-- ---- one field

pub any_fits : (n : ℕ) → BitsFit any n
any_fits n = and_zero_r n

pub exactly_fits : (width n m : ℕ) → n < 2 ^ width → m ≡ n → BitsFit (exactly width n) m
exactly_fits width n m small same = ap (λ k. bit_and k (2 ^ width - 1)) same ∙ and_all n width small

pub exactly_is : (width n m : ℕ) → m < 2 ^ width → BitsFit (exactly width n) m → m ≡ n
exactly_is width n m small fits = sym (and_all m width small) ∙ fits

-- ---- the cubes of rows

-- the fields that rows ask for, whatever they are; the others are free
abbrev asking : Option At → Bits → Bits → Bits → Bits → Cube
asking entry datapath from to word = record everything { at = entry; dp = datapath; in_port = from; out_port = to; flags = word }

module _ (regs : Regs) (packet : Packet) where
  asking_fits : (entry : Option At) (datapath from to word : Bits) → EntryFits entry regs.at → BitsFit datapath regs.dp → BitsFit from regs.in_port → BitsFit to regs.out_port → BitsFit word regs.flags.0
      → CubeFits (asking entry datapath from to word) regs packet
  asking_fits entry datapath from to word e d f t w = record {
    entry = e;
    place = record { dp_fits = d; in_port_fits = f; out_port_fits = t; next_fits = any_fits _ };
    zones = record { z_in_fits = any_fits _; z_out_fits = any_fits _; z_dnat_fits = any_fits _; z_snat_fits = any_fits _ };
    state = record { state_fits = any_fits _; verdict_fits = any_fits _; tier_fits = any_fits _; flags_fits = w };
    ether = record { eth_src_fits = any_fits _; eth_dst_fits = any_fits _; eth_type_fits = any_fits _ };
    ip = record { ip4_src_fits = any_fits _; ip4_dst_fits = any_fits _; ip_proto_fits = any_fits _; ip_ttl_fits = any_fits _ };
    ports = record { tcp_src_fits = any_fits _; tcp_dst_fits = any_fits _; udp_src_fits = any_fits _; udp_dst_fits = any_fits _ };
    icmp = record { icmp4_type_fits = any_fits _; icmp4_code_fits = any_fits _ };
    arp = record { arp_op_fits = any_fits _; arp_spa_fits = any_fits _; arp_tpa_fits = any_fits _; arp_sha_fits = any_fits _; arp_tha_fits = any_fits _ };
  }

  any_from : BitsFit any regs.in_port
  any_from = any_fits regs.in_port

  any_to : BitsFit any regs.out_port
  any_to = any_fits regs.out_port

  any_word : BitsFit any regs.flags.0
  any_word = any_fits regs.flags.0

  pub everything_fits : CubeFits everything regs packet
  everything_fits = asking_fits None any any any any tt (any_fits regs.dp) any_from any_to any_word

  pub entry_fits : (port : Name) → regs.at ≡ Local port → CubeFits (on_entry port) regs packet
  entry_fits port at = asking_fits (Some (Local port)) any any any any at (any_fits regs.dp) any_from any_to any_word

  pub tunnel_fits : regs.at ≡ Tunnel → CubeFits on_tunnel regs packet
  tunnel_fits at = asking_fits (Some Tunnel) any any any any at (any_fits regs.dp) any_from any_to any_word

  -- those of one datapath
  module _ (dp : ℕ) (small : dp < 2 ^ 24) (on : regs.dp ≡ dp) where
    on_fits : BitsFit (exactly 24 dp) regs.dp
    on_fits = exactly_fits 24 dp regs.dp small on

    -- and of one exit
    module _ (key : ℕ) (short : key < 2 ^ 16) (aimed : regs.out_port ≡ key) where
      to_fits : BitsFit (exactly 16 key) regs.out_port
      to_fits = exactly_fits 16 key regs.out_port short aimed

      pub exit_fits : CubeFits (on_exit dp key) regs packet
      exit_fits = asking_fits None (exactly 24 dp) any (exactly 16 key) any tt on_fits any_from to_fits any_word

      -- the flag `arrived` is off
      pub way_fits : bit_and regs.flags.0 16 ≡ 0 → CubeFits (on_way dp key) regs packet
      way_fits off = asking_fits None (exactly 24 dp) any (exactly 16 key) (arrived_is false) tt on_fits any_from to_fits off

      -- the flag `loopback` is off
      pub return_fits : regs.in_port ≡ key → bit_and regs.flags.0 1 ≡ 0 → CubeFits (on_return dp key) regs packet
      return_fits entered off = asking_fits None (exactly 24 dp) (exactly 16 key) (exactly 16 key) (exactly 1 0) tt on_fits (exactly_fits 16 key regs.in_port short entered) to_fits off

    pub group_fits : (group : Group) (arrived : Bool) → group_key group < 2 ^ 16 → regs.out_port ≡ group_key group → bit_and regs.flags.0 16 ≡ cond arrived 16 0 → CubeFits (on_group dp group arrived) regs packet
    group_fits group arrived short aimed word = asking_fits None (exactly 24 dp) any (exactly 16 (group_key group)) (arrived_is arrived) tt on_fits any_from (to_fits (group_key group) short aimed) word

  -- ---- and back

  pub fits_entry : (port : Name) → CubeFits (on_entry port) regs packet → regs.at ≡ Local port
  fits_entry port fits = fits.entry

  pub fits_tunnel : CubeFits on_tunnel regs packet → regs.at ≡ Tunnel
  fits_tunnel fits = fits.entry

  pub fits_exit : (dp key : ℕ) → regs.dp < 2 ^ 24 → regs.out_port < 2 ^ 16 → CubeFits (on_exit dp key) regs packet → (regs.dp ≡ dp) × (regs.out_port ≡ key)
  fits_exit dp key small short fits = (exactly_is 24 dp regs.dp small fits.place.dp_fits, exactly_is 16 key regs.out_port short fits.place.out_port_fits)

  pub fits_way : (dp key : ℕ) → regs.dp < 2 ^ 24 → regs.out_port < 2 ^ 16 → CubeFits (on_way dp key) regs packet → (regs.dp ≡ dp) × (regs.out_port ≡ key) × (bit_and regs.flags.0 16 ≡ 0)
  fits_way dp key small short fits = (
    exactly_is 24 dp regs.dp small fits.place.dp_fits,
    exactly_is 16 key regs.out_port short fits.place.out_port_fits,
    fits.state.flags_fits,
  )

  pub fits_group : (dp : ℕ) (group : Group) (arrived : Bool) → regs.dp < 2 ^ 24 → regs.out_port < 2 ^ 16 → CubeFits (on_group dp group arrived) regs packet
      → (regs.dp ≡ dp) × (regs.out_port ≡ group_key group) × (bit_and regs.flags.0 16 ≡ cond arrived 16 0)
  fits_group dp group arrived small short fits = (
    exactly_is 24 dp regs.dp small fits.place.dp_fits,
    exactly_is 16 (group_key group) regs.out_port short fits.place.out_port_fits,
    fits.state.flags_fits,
  )

  pub fits_return : (dp key : ℕ) → regs.dp < 2 ^ 24 → regs.out_port < 2 ^ 16 → regs.in_port < 2 ^ 16 → CubeFits (on_return dp key) regs packet
      → (regs.dp ≡ dp) × (regs.out_port ≡ key) × (regs.in_port ≡ key) × (bit_and regs.flags.0 1 ≡ 0)
  fits_return dp key small short narrow fits = (
    exactly_is 24 dp regs.dp small fits.place.dp_fits,
    exactly_is 16 key regs.out_port short fits.place.out_port_fits,
    exactly_is 16 key regs.in_port narrow fits.place.in_port_fits,
    fits.state.flags_fits,
  )
