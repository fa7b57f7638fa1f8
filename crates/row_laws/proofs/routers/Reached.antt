-- The rows of the neighbours that a router port reaches.
use Rattle.std.specs.Prelude.{◌≡◌, ◌&&◌, ◌++◌, Bool, true, false, not, cond, filter, flat_map, filter_map, Option, Some, None, option_map, is_some}
use Rattle.std.specs.List.{find}
use Rattle.std.specs.Map.{values_of}
use Rattle.std.specs.Option.{option_and_then}
use Rattle.std.proofs.Common.{refl, ap, ◌∙◌, subst}
use Rattle.std.proofs.lemmas.Bool.{and_parts}
use Rattle.std.proofs.lemmas.Option.{none-some}
use Rattle.ovn_base.proofs.AmongLaws.{among_left, among_right, among_map, among_filter, among_flat_map, filter_map_among}
use Rattle.ovn_base.proofs.ByNameLaws.{at_among}
use Rattle.ovn_base.specs.declared.address.Ip4.{Ip4}
use Rattle.ovn_base.specs.declared.address.Mac.{Mac}
use Rattle.ovn_base.specs.declared.name.Name.{Name}
use Rattle.ovn_base.specs.lists.Among.{Among, here}
use Rattle.ovn_base.specs.names.ByName.{at}
use Rattle.ovn_base.specs.names.SameName.{same_name}
use Rattle.nb_records.specs.Neighbours.{neighbour_of, static_neighbour, virtual_neighbour, answering_mac, router_neighbour, joined_neighbour}
use Rattle.nb_records.specs.Network.{Network}
use Rattle.nb_records.specs.Routers.{Partner, switch_side, router_side, partner_of_router_port, answers}
use Rattle.nb_records.specs.Switches.{same_ip, or_else, is_virtual, enabled_ports, router_port_behind, mac_of_ip}
use Rattle.nb_records.specs.declared.router.RouterPort.{RouterPort}
use Rattle.nb_records.specs.declared.router.StaticMac.{StaticMac}
use Rattle.logical_flows.specs.Stages.{stage_table}
use Rattle.logical_flows.specs.declared.stage.Stage.TheVariants as stage
use Rattle.logical_flows.specs.declared.unit.UnitId.TheVariants as unit
use Rattle.stage_rows.specs.Facts.{answered_ips, port_ips}
use Rattle.stage_rows.specs.RouterRows.{neighbour_row}
use Rattle.stage_rows.specs.Rows.{on_some}
use Rattle.stage_rows.specs.Units.{bound_ips, ips_beyond, neighbour_ips, neighbour_rows, neighbour_named, units_of_router_port}
use Rattle.row_laws.proofs.records.AnsweredIps.{answered_to, order_to}
use Rattle.row_laws.proofs.records.Searches.{answered_by, found_by}
use Rattle.row_laws.proofs.records.SwitchPorts.{listed_ip}
use Rattle.row_laws.proofs.records.ValidPorts.{one_ip}
use Rattle.row_laws.proofs.units.RowUnits.{rows_among, some_in}
use Rattle.row_laws.specs.Rows.{IsRowIn}

module _ (net : Network) (p : RouterPort) (ip : Ip4) (mac : Mac) where
  -- an address with a static binding
  bound : (o : Option StaticMac) → find (λ (s : StaticMac). same_name s.port p.name && same_ip s.ip ip) (values_of net.static_macs) ≡ o → option_map (λ (s : StaticMac). s.mac) o ≡ Some mac → Among ip (bound_ips net p)
  bound None is h = absurd (none-some mac h)
  bound (Some s) is h =
      let x = found_by (λ (s : StaticMac). same_name s.port p.name && same_ip s.ip ip) (values_of net.static_macs) s is in
      let two = and_parts (same_name s.port p.name) (same_ip s.ip ip) x.1 in
      subst (λ (y : Ip4). Among y (bound_ips net p)) (one_ip s.ip ip two.1) (among_map (λ (s : StaticMac). s.ip) s _ (among_filter (λ (s : StaticMac). same_name s.port p.name) s (values_of net.static_macs) x.0 two.0))

  -- that of a virtual port
  by_virtual : (d : Name) → virtual_neighbour net d ip ≡ Some mac → Among ip (flat_map port_ips (filter is_virtual (enabled_ports net d)))
  by_virtual d h = let x = answered_by (mac_of_ip ip) (filter is_virtual (enabled_ports net d)) mac h in among_flat_map port_ips x.0 ip (filter is_virtual (enabled_ports net d)) x.1 (listed_ip x.0 ip mac x.2)

  answering : (r : RouterPort) (b : Bool) → answers net r ip ≡ b → cond b (Some r.mac) None ≡ Some mac → Among ip (answered_ips net r)
  answering r true is h = answered_to net ip r is
  answering r false is h = absurd (none-some mac h)

  other : (r : RouterPort) (b : Bool) → (not (same_name r.name p.name) && answers net r ip) ≡ b → cond b (Some r.mac) None ≡ Some mac → Among ip (answered_ips net r)
  other r true is h = answered_to net ip r (and_parts (not (same_name r.name p.name)) (answers net r ip) is).1
  other r false is h = absurd (none-some mac h)

  -- that of a router port behind a port
  by_router_port : (d : Name) → router_neighbour net p.name d ip ≡ Some mac → Among ip (flat_map (λ x. on_some (router_port_behind net x) (answered_ips net)) (enabled_ports net d))
  by_router_port d h =
      let x = answered_by (answering_mac net p.name ip) (filter_map (router_port_behind net) (enabled_ports net d)) mac h in
      let q = filter_map_among (router_port_behind net) x.0 (enabled_ports net d) x.1 in
      among_flat_map (λ x. on_some (router_port_behind net x) (answered_ips net)) q.0 ip (enabled_ports net d) q.1
      (some_in ip (router_port_behind net q.0) (answered_ips net) x.0 q.2 (other x.0 (not (same_name x.0.name p.name) && answers net x.0 ip) refl x.2))

  beyond : (o : Option Partner) → joined_neighbour net p ip o ≡ Some mac → Among ip (ips_beyond net o)
  beyond None h = absurd (none-some mac h)
  beyond (Some (router_side r)) h = answering r (answers net r ip) refl h
  beyond (Some (switch_side q)) h = by (virtual_neighbour net q.switch ip) refl h
    where
      by : (o : Option Mac) → virtual_neighbour net q.switch ip ≡ o → or_else o (router_neighbour net p.name q.switch ip) ≡ Some mac → Among ip (ips_beyond net (Some (switch_side q)))
      by None is k = among_right ip (flat_map port_ips (filter is_virtual (enabled_ports net q.switch))) _ (by_router_port q.switch k)
      by (Some m) is k = among_left ip (flat_map port_ips (filter is_virtual (enabled_ports net q.switch))) _ (by_virtual q.switch (is ∙ k))

  -- one that is reached is bound, or beyond the port's partner
  pub reached : neighbour_of net p ip ≡ Some mac → Among ip (bound_ips net p ++ ips_beyond net (partner_of_router_port net p))
  reached h = by (static_neighbour net p ip) refl h
    where
      by : (o : Option Mac) → static_neighbour net p ip ≡ o → or_else o (joined_neighbour net p ip (partner_of_router_port net p)) ≡ Some mac → Among ip (bound_ips net p ++ ips_beyond net (partner_of_router_port net p))
      by None is k = among_right ip (bound_ips net p) _ (beyond (partner_of_router_port net p) k)
      by (Some m) is k = among_left ip (bound_ips net p) _ (bound (find (λ (s : StaticMac). same_name s.port p.name && same_ip s.ip ip) (values_of net.static_macs)) refl (is ∙ k))

  -- so its row stands in the table
  pub a_neighbour_row : (d q : Name) → at net.router_ports q ≡ Some p → p.router ≡ d → neighbour_of net p ip ≡ Some mac → IsRowIn net (stage_table stage.RouterNeighbour) d (neighbour_row q ip mac)
  a_neighbour_row d q is on known = record {
    pair = record {
      origin = unit.Neighbour q ip;
      there =
          let u = unit.Neighbour q ip in
          let ips = bound_ips net p ++ ips_beyond net (partner_of_router_port net p) in
          let one = among_filter (λ x. is_some (neighbour_of net p x)) ip _ (order_to ips ip (reached known)) (ap is_some known) in
          let own = among_flat_map (units_of_router_port net) (q, p) u net.router_ports (at_among net.router_ports q p is) (among_map (unit.Neighbour q) ip (neighbour_ips net p) one) in
          among_left u _ _ (among_left u _ _ (among_left u _ _ (among_left u _ _ (among_right u _ _ own))));
      among = rows_among net stage.RouterNeighbour (neighbour_row q ip mac) (unit.Neighbour q ip)
          (some_in (neighbour_row q ip mac) (neighbour_named net q ip) (neighbour_rows stage.RouterNeighbour q ip) mac (ap (λ (o : Option RouterPort). option_and_then (λ x. neighbour_of net x ip) o) is ∙ known) here);
      on = ap (λ (o : Option RouterPort). option_map (λ (x : RouterPort). x.router) o) is ∙ ap (λ n. Some n) on;
    };
    in_table = refl;
  }
