-- Only gateway routers translate.
use Rattle.std.specs.Prelude.{Bool, false, not, Option, Some, None}
use Rattle.std.specs.List.{list_any}
use Rattle.ovn_base.specs.declared.name.Name.{Name}
use Rattle.ovn_base.specs.names.ByName.{at}
use Rattle.nb_records.specs.Network.{Network, name_of}
use Rattle.nb_records.specs.Routers.{is_gateway}
use Rattle.nb_records.specs.declared.record.Record.{Record}
use Rattle.nb_records.specs.declared.record.Record.TheVariants as row
use Rattle.nb_records.specs.declared.router.Router.{Router}
use Rattle.nb_rules.specs.First.{first_record, fault_if}
use Rattle.nb_rules.specs.declared.fault.SchemaFault.{SchemaFault}
use Rattle.nb_rules.specs.declared.fault.SchemaFault.TheVariants as fault

abbrev pub has_no_chassis : Option Router → Bool
has_no_chassis None = false
has_no_chassis (Some r) = not (is_gateway r)

-- the router is distributed
abbrev pub is_distributed : Network → Name → Bool
is_distributed net router = has_no_chassis (at net.routers router)

abbrev pub needs_chassis : Network → Record → Bool
needs_chassis net (row.Nat r) = is_distributed net r.router
needs_chassis net (row.LoadBalancer r) = list_any (is_distributed net) r.routers
needs_chassis net _ = false

abbrev pub chassis_fault : Network → Record → Option SchemaFault
chassis_fault net r = fault_if (needs_chassis net r) (fault.NatNeedsChassis (name_of r))

-- a translation or a balancer is of a distributed router
unfoldable pub nat_needs_chassis : Network → Option SchemaFault
nat_needs_chassis net = first_record (chassis_fault net) net
