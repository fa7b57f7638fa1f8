-- The widths of matches, and how many records there may be.
use Rattle.std.specs.Prelude.{◌+◌, nat_lt, ℕ, max, [], length, Option, unwrap_or, cond, option_map}
use Rattle.std.specs.List.{sum_by}
use Rattle.ovn_base.specs.declared.limits.TheConstants.{MAX_DATAPATHS, MAX_PORTS, MAX_ACLS, MAX_WIDTH}
use Rattle.ovn_base.specs.declared.name.Name.{Name}
use Rattle.ovn_base.specs.names.ByName.{at}
use Rattle.match_cubes.specs.Points.{Members}
use Rattle.match_cubes.specs.Width.{width_of, saturated}
use Rattle.nb_records.specs.Network.{Network}
use Rattle.nb_records.specs.Switches.{or_else, applies}
use Rattle.nb_records.specs.declared.rule.Acl.{Acl}
use Rattle.nb_records.specs.declared.rule.AddressSet.{AddressSet}
use Rattle.nb_records.specs.declared.rule.PortGroup.{PortGroup}
use Rattle.nb_records.specs.declared.switch.Switch.{Switch}
use Rattle.nb_rules.specs.First.{first_of, fault_if}
use Rattle.nb_rules.specs.declared.fault.Limited.{Limited}
use Rattle.nb_rules.specs.declared.fault.Limited.TheVariants as limited
use Rattle.nb_rules.specs.declared.fault.SchemaFault.{SchemaFault}
use Rattle.nb_rules.specs.declared.fault.SchemaFault.TheVariants as fault

-- the entries of the records' address sets, and the ports of their groups
abbrev pub members_in : Network → Members
members_in net = record {
  entries = λ name. unwrap_or (option_map (λ (s : AddressSet). s.addresses) (at net.address_sets name)) [];
  ports = λ name. unwrap_or (option_map (λ (g : PortGroup). g.ports) (at net.port_groups name)) [];
}

abbrev pub rule_width : Network → Acl → ℕ
rule_width net rule = width_of (members_in net) rule.matching

abbrev pub width_fault : ℕ → Option SchemaFault
width_fault n = fault_if (nat_lt MAX_WIDTH n) (fault.TooWide (saturated n))

-- a match is too wide
unfoldable pub too_wide : Network → Option SchemaFault
too_wide net = first_of (λ (rule : Acl). width_fault (rule_width net rule)) net.acls

-- how many cubes the rule has on the switch: its width, counted as at least 1, where it applies to the switch
abbrev pub cubes_on : Network → Acl → Switch → ℕ
cubes_on net rule s = cond (applies net s.name rule) (max 1 (rule_width net rule)) 0

abbrev pub cubes_of : Network → Acl → ℕ
cubes_of net rule = sum_by (λ (e : Name × Switch). cubes_on net rule e.1) net.switches

-- those of all rules on all switches
abbrev pub all_cubes : Network → ℕ
all_cubes net = sum_by (λ (e : Name × Acl). cubes_of net e.1) net.acls

abbrev pub over : ℕ → ℕ → Limited → Option SchemaFault
over most n what = fault_if (nat_lt most n) (fault.Limit what)

-- there are too many
unfoldable pub over_limit : Network → Option SchemaFault
over_limit net =
    or_else (over MAX_DATAPATHS (length net.switches + length net.routers) limited.Datapath)
    (or_else (over MAX_PORTS (length net.router_ports + length net.switch_ports) limited.Port)
    (or_else (over MAX_ACLS (length net.acls) limited.Acl)
    (over MAX_WIDTH (all_cubes net) limited.Cubes)))
