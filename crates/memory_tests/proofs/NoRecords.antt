-- Where there is no record, the records are valid.
use Rattle.std.proofs.Common.{◌≡◌, [], sym, subst, arith}
use Rattle.std.specs.List.Sorted.{IsStrictlySortedBy}
use Rattle.nb_records.specs.Network.{Network, empty_network}
use Rattle.nb_rules.proofs.Validity.{unbroken}
use Rattle.nb_rules.specs.Valid.{IsValid}
use Rattle.northd_core.specs.Held.{North, StandsFor}
use Rattle.memory_tests.specs.Compiled.{IsCompiled}

valid_empty : IsValid empty_network
unfolding IsStrictlySortedBy
valid_empty = record {
  in_order = record { switches = tt; routers = tt; router_ports = tt; switch_ports = tt; address_sets = tt; port_groups = tt; acls = tt; routes = tt; nats = tt; load_balancers = tt; static_macs = tt; offline = tt };
  named = record { switches = tt; routers = tt; router_ports = tt; switch_ports = tt; address_sets = tt; port_groups = tt; acls = tt; routes = tt; nats = tt; load_balancers = tt; static_macs = tt };
  datapaths = tt;
  ports = tt;
  in_grammar = tt;
  directed = tt;
  unbroken = (unbroken empty_network []).1 (record { references = tt; addresses = tt; peers = tt; macs = tt; ips = tt; networks = tt; switch_vips = tt; router_vips = tt; bindings = tt; prefixes = tt; next_hops = tt; chassis = tt; widths = tt; datapaths = omega arith; ports = omega arith; acls = omega arith; cubes = omega arith });
}

-- records without any, and valid
pub no_record : (net : Network) → net ≡ empty_network → IsValid net
no_record net none = subst IsValid (sym none) valid_empty

-- what stands for no record is compiled
pub nothing_compiled : (net : Network) (north : North) → net ≡ empty_network → StandsFor empty_network north → IsCompiled net north
nothing_compiled net north none stands = subst (λ (n : Network). IsCompiled n north) (sym none) (record {
  valid = valid_empty;
  stands = stands;
})
