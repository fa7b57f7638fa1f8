-- Who has a key by the records has a live one, and their rows can be lowered; the switch of a port is there, and there are not too many ports and routers.
use Rattle.std.specs.Prelude.{◌≡◌, ◌≤◌, true, length, [], Option, Some, None, IsSome, is_some, option_map}
use Rattle.std.proofs.Common.{arith}
use Rattle.nb_records.specs.Network.{Network, records_of}
use Rattle.nb_records.specs.declared.record.Record.{Record}
use Rattle.nb_records.specs.declared.record.Record.TheVariants as row
use Rattle.nb_records.specs.declared.switch.Switch.{Switch}
use Rattle.nb_records.specs.declared.switch.SwitchPort.{SwitchPort}
use Rattle.nb_rules.proofs.Validity.{unbroken}
use Rattle.nb_rules.specs.References.{references_of}
use Rattle.nb_rules.specs.Unbroken.{AreThere}
use Rattle.nb_rules.specs.Valid.{IsValid}
use Rattle.row_laws.proofs.records.ValidPorts.{port_row}
use Rattle.ovn_base.proofs.AmongLaws.{among_all}
use Rattle.ovn_base.specs.declared.name.Name.{Name}
use Rattle.ovn_base.specs.names.ByName.{at}
use Rattle.northd_core.specs.Lowering.{CanCompile}
use Rattle.physical_flows.specs.RecordKeys.{HaveKeys}
use Rattle.physical_flows.specs.Switched.{IsKeyed}
use Rattle.tunnel_keys.specs.Keys.{Keys}
use Rattle.world_setup.proofs.EditedKeys.{owner_lives}

module _ (net : Network) (keys : Keys) (valid : IsValid net) (have : HaveKeys net keys) where
  pub keyed : IsKeyed net keys
  keyed = record { valid = valid; keyed = have }

  pub can_compile : CanCompile (record { net = net; keys = keys })
  can_compile = record {
    valid = valid;
    hold = have.hold;
    live = owner_lives net keys have valid.in_order;
  }

-- the switch of a port is there
there_some : (o : Option Switch) → is_some (option_map row.Switch o) ≡ true → IsSome o
there_some None h = h
there_some (Some switch) h = h

pub on_switch : (net : Network) → IsValid net → (q : Name) (port : SwitchPort) → at net.switch_ports q ≡ Some port → IsSome (at net.switches port.switch)
on_switch net valid q port found =
    there_some (at net.switches port.switch) (among_all (λ (r : Record). AreThere net (references_of r)) (row.SwitchPort port) (records_of net) ((unbroken net []).0 valid.unbroken).references (port_row net valid q port found)).0

-- there are not too many ports, and not too many routers
pub few_ports : (net : Network) → IsValid net → length net.switch_ports ≤ 10000
few_ports net valid = let ports = ((unbroken net []).0 valid.unbroken).ports in omega (arith, ports)

pub few_routers : (net : Network) → IsValid net → length net.routers ≤ 1024
few_routers net valid = let datapaths = ((unbroken net []).0 valid.unbroken).datapaths in omega (arith, datapaths)
