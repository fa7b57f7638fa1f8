-- Neighbours as they are looked for are those of the network.
use Rattle.std.specs.Prelude.{◌≡◌, ◌&&◌, Bool, true, false, List, [], ◌∷◌, Option, Some, None, cond, refl}
use Rattle.std.proofs.Common.{ap}
use Rattle.std.specs.List.{filter, filter_map, cons_option}
use Rattle.std.specs.Map.{values_of}
use Rattle.nb_records.specs.Neighbours.{virtual_neighbour, answering_mac, router_neighbour}
use Rattle.nb_records.specs.Network.{Network}
use Rattle.nb_records.specs.Switches.{is_virtual, mac_of_ip, first_answer, or_else, router_port_behind}
use Rattle.nb_records.specs.declared.router.RouterPort.{RouterPort}
use Rattle.nb_records.specs.declared.switch.SwitchPort.{SwitchPort}
use Rattle.ovn_base.specs.declared.address.Ip4.{Ip4}
use Rattle.ovn_base.specs.declared.name.Name.{Name}
use Rattle.ovn_base.specs.names.SameName.{same_name}
use Rattle.net_model.specs.Nearby.{virtual_among, mac_behind, router_among}

-- the enabled ports of the switch among these
abbrev enabled_among : List (Name × SwitchPort) → Name → List SwitchPort
enabled_among es switch = filter (λ q. q.enabled) (filter (λ q. same_name q.switch switch) (values_of es))

-- those that are virtual ports
abbrev virtual_in : List (Name × SwitchPort) → Name → List SwitchPort
virtual_in es switch = filter is_virtual (enabled_among es switch)

-- the ports of the switch among these
abbrev switch_among : List (Name × SwitchPort) → Name → List SwitchPort
switch_among es switch = filter (λ q. same_name q.switch switch) (values_of es)

pub virtual_is : (switch : Name) (ip : Ip4) (es : List (Name × SwitchPort)) → virtual_among switch ip es ≡ first_answer (mac_of_ip ip) (virtual_in es switch)
virtual_is switch ip [] = refl
virtual_is switch ip (e ∷ es) = on_switch (same_name e.1.switch switch) (virtual_is switch ip es)
  where
    on_virtual : (c : Bool) → virtual_among switch ip es ≡ first_answer (mac_of_ip ip) (virtual_in es switch)
        → or_else (cond c (mac_of_ip ip e.1) None) (virtual_among switch ip es) ≡ first_answer (mac_of_ip ip) (cond c (e.1 ∷ virtual_in es switch) (virtual_in es switch))
    on_virtual true ih = ap (or_else (mac_of_ip ip e.1)) ih
    on_virtual false ih = ih

    on_enabled : (b : Bool) → virtual_among switch ip es ≡ first_answer (mac_of_ip ip) (virtual_in es switch)
        → or_else (cond (b && is_virtual e.1) (mac_of_ip ip e.1) None) (virtual_among switch ip es) ≡ first_answer (mac_of_ip ip) (filter is_virtual (cond b (e.1 ∷ enabled_among es switch) (enabled_among es switch)))
    on_enabled true ih = on_virtual (is_virtual e.1) ih
    on_enabled false ih = ih

    on_switch : (a : Bool) → virtual_among switch ip es ≡ first_answer (mac_of_ip ip) (virtual_in es switch)
        → or_else (cond (a && (e.1.enabled && is_virtual e.1)) (mac_of_ip ip e.1) None) (virtual_among switch ip es) ≡ first_answer (mac_of_ip ip) (filter is_virtual (filter (λ q. q.enabled) (cond a (e.1 ∷ switch_among es switch) (switch_among es switch))))
    on_switch true ih = on_enabled e.1.enabled ih
    on_switch false ih = ih

pub virtual_neighbour_is : (net : Network) (switch : Name) (ip : Ip4) → virtual_among switch ip net.switch_ports ≡ virtual_neighbour net switch ip
virtual_neighbour_is net switch ip = virtual_is switch ip net.switch_ports

pub router_is : (net : Network) (p switch : Name) (ip : Ip4) (es : List (Name × SwitchPort)) → router_among net p switch ip es ≡ first_answer (answering_mac net p ip) (filter_map (router_port_behind net) (enabled_among es switch))
router_is net p switch ip [] = refl
router_is net p switch ip (e ∷ es) = on_switch (same_name e.1.switch switch) (router_is net p switch ip es)
  where
    behind : (o : Option RouterPort) → router_among net p switch ip es ≡ first_answer (answering_mac net p ip) (filter_map (router_port_behind net) (enabled_among es switch))
        → or_else (mac_behind net p ip o) (router_among net p switch ip es) ≡ first_answer (answering_mac net p ip) (cons_option o (filter_map (router_port_behind net) (enabled_among es switch)))
    behind None ih = ih
    behind (Some r) ih = ap (or_else (answering_mac net p ip r)) ih

    on_enabled : (b : Bool) → router_among net p switch ip es ≡ first_answer (answering_mac net p ip) (filter_map (router_port_behind net) (enabled_among es switch))
        → or_else (cond b (mac_behind net p ip (router_port_behind net e.1)) None) (router_among net p switch ip es) ≡ first_answer (answering_mac net p ip) (filter_map (router_port_behind net) (cond b (e.1 ∷ enabled_among es switch) (enabled_among es switch)))
    on_enabled true ih = behind (router_port_behind net e.1) ih
    on_enabled false ih = ih

    on_switch : (a : Bool) → router_among net p switch ip es ≡ first_answer (answering_mac net p ip) (filter_map (router_port_behind net) (enabled_among es switch))
        → or_else (cond (a && e.1.enabled) (mac_behind net p ip (router_port_behind net e.1)) None) (router_among net p switch ip es)
        ≡ first_answer (answering_mac net p ip) (filter_map (router_port_behind net) (filter (λ q. q.enabled) (cond a (e.1 ∷ switch_among es switch) (switch_among es switch))))
    on_switch true ih = on_enabled e.1.enabled ih
    on_switch false ih = ih

pub router_neighbour_is : (net : Network) (p switch : Name) (ip : Ip4) → router_among net p switch ip net.switch_ports ≡ router_neighbour net p switch ip
router_neighbour_is net p switch ip = router_is net p switch ip net.switch_ports
