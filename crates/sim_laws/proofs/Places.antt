-- Where packets come in: at a port, or out of a tunnel.
use Rattle.std.specs.Prelude.{Bool, true, false, []}
use Rattle.ovn_base.specs.declared.name.Name.{Name}
use Rattle.inet_packet.specs.declared.regs.At.{At}
use Rattle.inet_packet.specs.declared.regs.At.TheVariants as at_of

-- the name of the port, or no name
abbrev pub name_at : At → Name
name_at (at_of.Local n) = n
name_at at_of.Tunnel = []

-- it is a port
abbrev pub is_local : At → Bool
is_local (at_of.Local n) = true
is_local at_of.Tunnel = false
