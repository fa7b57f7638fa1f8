-- In valid records each port is on a switch or a router that is there.
use Rattle.std.specs.Prelude.{◌≡◌, [], Option, Some, None, option_map, IsSome, refl}
use Rattle.std.proofs.lemmas.Bool.{false≢true}
use Rattle.nb_records.specs.Network.{Network, records_of}
use Rattle.nb_records.specs.declared.record.Record.{Record}
use Rattle.nb_records.specs.declared.record.Record.TheVariants as row
use Rattle.nb_records.specs.declared.router.RouterPort.{RouterPort}
use Rattle.nb_records.specs.declared.switch.SwitchPort.{SwitchPort}
use Rattle.nb_rules.proofs.Validity.{unbroken}
use Rattle.nb_rules.specs.References.{references_of}
use Rattle.nb_rules.specs.Unbroken.{AreThere}
use Rattle.nb_rules.specs.Valid.{IsValid}
use Rattle.ovn_base.proofs.AmongLaws.{among_all, among_left, among_right, among_map}
use Rattle.ovn_base.proofs.ByNameLaws.{at_among}
use Rattle.ovn_base.specs.declared.name.Name.{Name}
use Rattle.ovn_base.specs.lists.Among.{Among}
use Rattle.ovn_base.specs.names.ByName.{at}

some_mapped : {X Y : Type 0} (f : X → Y) (o : Option X) → IsSome (option_map f o) → IsSome o
some_mapped f None h = absurd (false≢true h)
some_mapped f (Some x) h = refl

module _ (net : Network) (valid : IsValid net) where
  -- what a record names is there
  named_there : (r : Record) → Among r (records_of net) → AreThere net (references_of r)
  named_there r m = among_all (λ (r : Record). AreThere net (references_of r)) r (records_of net) ((unbroken net []).0 valid.unbroken).references m

  module _ (q : Name) (port : SwitchPort) (found : at net.switch_ports q ≡ Some port) where
    port_among : Among (row.SwitchPort port) (records_of net)
    port_among =
        let r = row.SwitchPort port in
        let own = among_map (λ (e : Name × SwitchPort). row.SwitchPort e.1) (q, port) net.switch_ports (at_among net.switch_ports q port found) in
        among_left r _ _ (among_left r _ _ (among_left r _ _ (among_left r _ _ (among_left r _ _ (among_left r _ _ (among_left r _ _ (among_right r _ _ own)))))))

    pub switch_there : IsSome (at net.switches port.switch)
    switch_there = some_mapped row.Switch (at net.switches port.switch) (named_there (row.SwitchPort port) port_among).0

  module _ (q : Name) (port : RouterPort) (found : at net.router_ports q ≡ Some port) where
    router_port_among : Among (row.RouterPort port) (records_of net)
    router_port_among =
        let r = row.RouterPort port in
        let own = among_map (λ (e : Name × RouterPort). row.RouterPort e.1) (q, port) net.router_ports (at_among net.router_ports q port found) in
        among_left r _ _ (among_left r _ _ (among_left r _ _ (among_left r _ _ (among_left r _ _ (among_left r _ _ (among_left r _ _ (among_left r _ _ (among_right r _ _ own))))))))

    pub router_there : IsSome (at net.routers port.router)
    router_there = some_mapped row.Router (at net.routers port.router) (named_there (row.RouterPort port) router_port_among).0
