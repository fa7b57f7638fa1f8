-- The keys of router ports, and a copy in a router with another way.
use Rattle.std.specs.Prelude.{◌≡◌, Option, Some, option_map, refl}
use Rattle.std.specs.Option.{unwrap_or}
use Rattle.std.proofs.Common.{sym, ap}
use Rattle.flow_lowering.specs.LoweredFlows.{live_port_key}
use Rattle.inet_packet.specs.declared.packet.Packet.{Packet}
use Rattle.nb_records.specs.Network.{Network}
use Rattle.nb_records.specs.declared.router.RouterPort.{RouterPort}
use Rattle.net_model.specs.Owners.{owners_of, router_port_owner}
use Rattle.ovn_base.proofs.AmongLaws.{among_left, among_right, among_map}
use Rattle.ovn_base.proofs.ByNameLaws.{at_among}
use Rattle.ovn_base.specs.lists.Among.{Among}
use Rattle.ovn_base.specs.names.ByName.{at}
use Rattle.row_laws.specs.Numbers.{IsPortKey}
use Rattle.row_laws.specs.routers.RouterCopies.{RouterCopy, RouterWords, router_port_identity}
use Rattle.tunnel_keys.specs.Edits.{IsLive}
use Rattle.tunnel_keys.specs.Keys.{Keys}
use Rattle.tunnel_keys.specs.declared.owner.KeyOwner.{KeyOwner}
use Rattle.tunnel_keys.specs.declared.owner.PortKey.{PortKey}

-- a router's port has a live key
pub router_port_live : (net : Network) (keys : Keys) → ((owner : KeyOwner) → Among owner (owners_of net) → IsLive keys owner) → (q : RouterPort) → at net.router_ports q.name ≡ Some q
    → IsPortKey keys q.router q.name (live_port_key keys q.name)
router_port_live net keys live q there =
    let owner = router_port_owner (q.name, q) in
    let own = among_map router_port_owner (q.name, q) net.router_ports (at_among net.router_ports q.name q there) in
    let k = live owner (among_left owner _ _ (among_right owner _ _ own)) in
    let key : PortKey = record { birth = q.birth; datapath = q.router; key = k.0 } in
    (key, k.1, refl, sym (ap (λ (o : Option PortKey). unwrap_or (option_map (λ (x : PortKey). x.key) o) 0) k.1))

-- the same copy, with another packet, way out and words
abbrev pub led_on : RouterCopy → Option RouterPort → Packet → RouterWords → RouterCopy
led_on c out p w = record { port = c.port; out = out; sight = record { packet = p; in_port = c.sight.in_port; out_port = option_map router_port_identity out }; words = w }
