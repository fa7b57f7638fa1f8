-- When a match holds of a packet in the network: ports are compared as identities.
use Rattle.std.specs.Prelude.{Bool, true, false, not, ◌&&◌, ℕ, List, [], Option, Some, None, option_map, cond}
use Rattle.std.specs.List.{list_any}
use Rattle.inet_packet.specs.declared.packet.Packet.{Packet}
use Rattle.inet_packet.specs.declared.regs.At.TheVariants.{Tunnel}
use Rattle.inet_packet.specs.declared.regs.Regs.{Regs}
use Rattle.match_cubes.specs.Asked.{number_in}
use Rattle.match_cubes.specs.Holds.{has_needs, stands_in, all_true, one_true}
use Rattle.match_cubes.specs.Inwards.{Meaning, meaning}
use Rattle.match_cubes.specs.Points.{Members, Setting}
use Rattle.match_language.specs.Tables.{is_port_field}
use Rattle.match_language.specs.declared.expr.Expr.{Expr}
use Rattle.match_language.specs.declared.expr.Rel.{Rel}
use Rattle.match_language.specs.declared.expr.Rel.TheVariants as rel
use Rattle.match_language.specs.declared.expr.Value.{Value}
use Rattle.match_language.specs.declared.expr.Value.TheVariants as value
use Rattle.match_language.specs.declared.field.Field.{Field}
use Rattle.match_language.specs.declared.field.Field.TheVariants as fields
use Rattle.nb_records.specs.Network.{Network}
use Rattle.nb_records.specs.declared.rule.AddressSet.{AddressSet}
use Rattle.nb_records.specs.declared.rule.PortGroup.{PortGroup}
use Rattle.ovn_base.specs.declared.address.SetEntry.{SetEntry}
use Rattle.ovn_base.specs.declared.name.Name.{Name}
use Rattle.ovn_base.specs.names.ByName.{at}
use Rattle.tunnel_keys.specs.Same.{same_identity}
use Rattle.tunnel_keys.specs.declared.owner.Identity.{Identity}
use Rattle.net_model.specs.Config.{port_identity}

-- a packet, the port by which it came into the switch, and the one by which it leaves, once that is known
pub record Sight : Type 0 where
  pub packet : Packet
  pub in_port : Identity
  pub out_port : Option Identity

-- what names in matches stand for: the entries of each address set, the ports of each group, and the port that has the name now
pub record Roster : Type 0 where
  pub members : Members
  pub live : List ℕ → Option Identity

-- ---- what the network gives for names; a name that is not there stands for nothing

abbrev pub entries_in : Option AddressSet → List SetEntry
entries_in None = []
entries_in (Some set) = set.addresses

abbrev pub names_in : Option PortGroup → List Name
names_in None = []
names_in (Some group) = group.ports

abbrev pub roster_of : Network → Roster
roster_of net = record {
  members = record { entries = λ name. entries_in (at net.address_sets name); ports = λ name. names_in (at net.port_groups name) };
  live = λ name. option_map port_identity (at net.switch_ports name);
}

-- ---- ports

-- the port is the one that has the name now
abbrev pub is_live_one : Option Identity → Option Identity → Bool
is_live_one (Some id) (Some now) = same_identity id now
is_live_one _ _ = false

-- the port that stands in the field
abbrev pub port_in : Sight → Field → Option Identity
port_in s fields.Outport = s.out_port
port_in s _ = Some s.in_port

-- the port is the one of that name, or one of the group's
abbrev pub is_port_of : Roster → Option Identity → Value → Bool
is_port_of r id (value.Port name) = is_live_one id (r.live name)
is_port_of r id (value.Group name) = list_any (λ port. is_live_one id (r.live port)) (r.members.ports name)
is_port_of r id _ = false

-- ports are equal or not, and neither less nor greater
abbrev pub port_relates : Roster → Option Identity → Rel → List Value → Bool
port_relates r id rel.Eq values = list_any (is_port_of r id) values
port_relates r id rel.Ne values = not (list_any (is_port_of r id) values)
port_relates r id _ values = false

-- ---- other fields

-- only ports stand in registers, and no number stands for a port here
abbrev pub no_regs : Regs
no_regs = record { dp = 0; in_port = 0; out_port = 0; next = 0; z_in = 0; z_out = 0; z_dnat = 0; z_snat = 0; state = 0; verdict = 0; tier = 0; flags = record { 0 = 0 }; at = Tunnel }

abbrev pub numbers_of : Roster → Setting
numbers_of r = record { members = r.members; key = λ name. None }

-- ---- matches

-- a comparison is true where its prerequisite holds, and its field has a value that stands so to those of the text
abbrev pub compares : Roster → Sight → Field → Rel → List Value → Bool
compares r s f relation values = has_needs f no_regs s.packet
    && cond (is_port_field f) (port_relates r (port_in s f) relation values) (stands_in (numbers_of r) f relation values (number_in f no_regs s.packet))

abbrev pub truth_at : Roster → Sight → Meaning Bool
truth_at r s = record { constant = λ b. b; compare = compares r s; every = all_true; either = one_true }

-- the match holds of the packet with its ports
abbrev pub holds_at : Roster → Sight → Expr → Bool
holds_at r s e = meaning (truth_at r s) e true
