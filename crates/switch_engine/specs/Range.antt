-- The numbers in the registers.
use Rattle.std.specs.Prelude.{◌<◌, ◌^◌}
use Rattle.inet_packet.specs.declared.regs.Regs.{Regs}

-- each register holds a number that lies within it, and the port of entry is one of a port, not of a group
pub record IsInRange (regs : Regs) : Type 0 where
  pub dp_within : regs.dp < 2 ^ 24
  pub in_port_within : regs.in_port < 2 ^ 15
  pub out_port_within : regs.out_port < 2 ^ 16
  pub next_within : regs.next < 2 ^ 32
  pub z_in_within : regs.z_in < 2 ^ 16
  pub z_out_within : regs.z_out < 2 ^ 16
  pub z_dnat_within : regs.z_dnat < 2 ^ 16
  pub z_snat_within : regs.z_snat < 2 ^ 16
  pub state_within : regs.state < 2 ^ 3
  pub verdict_within : regs.verdict < 2 ^ 3
  pub tier_within : regs.tier < 2 ^ 3
  pub flags_within : regs.flags.0 < 2 ^ 8
