use Rattle.std.proofs.Common.{◌≡◌, ◌&&◌}
use Rattle.std.specs.List.{find}
use Rattle.std.specs.Map.{values_of}
use Rattle.std.specs.Option.{option_map}
use Rattle.nb_records.specs.Neighbours.{static_neighbour}
use Rattle.nb_records.specs.Switches.{same_ip}
use Rattle.nb_records.specs.declared.router.StaticMac.{StaticMac}
use Rattle.ovn_base.specs.names.SameName.{same_name}
use Rattle.net_model.proofs.neighbours.static_neighbour.Given as goal

-- those that are left tell it
abbrev pub invariant-bindings : goal.invariant-bindings
invariant-bindings l =
    option_map (λ (s : StaticMac). s.mac) (find (λ (s : StaticMac). same_name s.port l.port.name && same_ip s.ip l.ip) (values_of l._name-iterator))
    ≡ static_neighbour l.records l.port l.ip
