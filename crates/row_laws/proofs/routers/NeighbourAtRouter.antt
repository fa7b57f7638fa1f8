-- r_neighbour sends a packet to the Ethernet address of its next hop, where there is one.
use Rattle.std.specs.Prelude.{◌≡◌, [], true, Option, Some, None}
use Rattle.std.specs.Option.{option_and_then}
use Rattle.std.proofs.Common.{refl, sym, ap, ◌∙◌, arith, subst}
use Rattle.std.proofs.lemmas.Bool.{false≢true}
use Rattle.ovn_base.specs.declared.address.Ip4.{Ip4}
use Rattle.ovn_base.specs.declared.address.Mac.{Mac}
use Rattle.ovn_base.specs.declared.name.Name.{Name}
use Rattle.ovn_base.specs.lists.Among.{Among, here}
use Rattle.ovn_base.specs.names.ByName.{at}
use Rattle.flow_table.specs.declared.flow.Cause.TheVariants as cause
use Rattle.inet_packet.specs.declared.regs.Reg.TheVariants as reg
use Rattle.inet_packet.specs.declared.regs.Regs.{Regs}
use Rattle.nb_records.specs.Neighbours.{neighbour_of}
use Rattle.nb_records.specs.Network.{Network}
use Rattle.nb_records.specs.declared.router.RouterPort.{RouterPort}
use Rattle.logical_flows.specs.declared.flow.LFlow.{LFlow}
use Rattle.logical_flows.specs.declared.flow.RegIs.{RegIs}
use Rattle.logical_flows.specs.declared.stage.Stage.TheVariants as stage
use Rattle.stage_rows.specs.RouterRows.{neighbour_row}
use Rattle.stage_rows.specs.Rows.{reg_is, drop_row}
use Rattle.flow_lowering.specs.Registers.{reg_number}
use Rattle.net_model.specs.Sights.{holds_at, is_live_one}
use Rattle.row_laws.proofs.routers.Reached.{a_neighbour_row}
use Rattle.row_laws.proofs.routers.RouterUnits.{RouterRow, by_port, by_route, by_neighbour, by_nat, by_balancer, by_router}
use Rattle.row_laws.proofs.routers.TakenAtRouter.{IsTakenThere, its_unit, none_above, port_meant, port_own, port_named}
use Rattle.row_laws.proofs.terms.Terms.{says_out}
use Rattle.row_laws.proofs.units.TakenRow.{among_one}
use Rattle.row_laws.specs.routers.RouterActions.{neighbour_actions, router_actions_at}
use Rattle.row_laws.specs.routers.RouterCopies.{RouterCopy, HasWayOut, router_roster}
use Rattle.row_laws.specs.routers.RouterLaws.{RouterStageLaw}

module _ (net : Network) (c : RouterCopy) (regs : Regs) (r : LFlow) (t : IsTakenThere net stage.RouterNeighbour c regs r) where
  abbrev next : Ip4
  next = c.words.next

  -- the Ethernet address of the next hop, by the port of exit
  abbrev known_by : Option RouterPort → Option Mac
  known_by o = option_and_then (λ q. neighbour_of net q next) o

  -- a neighbour's row is that of the port of exit and the next hop
  module _ (q : Name) (port : RouterPort) (is : at net.router_ports q ≡ Some port) (ip : Ip4) (mac : Mac) (known : neighbour_of net port ip ≡ Some mac) (e : r ≡ neighbour_row q ip mac) where
    says_exit : is_live_one c.sight.out_port ((router_roster net).live port.name) ≡ true
    says_exit =
        ap (λ n. is_live_one c.sight.out_port ((router_roster net).live n)) (port_named net t.valid q port is)
        ∙ sym (says_out (router_roster net) c.sight q) ∙ subst (λ (z : LFlow). holds_at (router_roster net) c.sight z.matching ≡ true) e t.best.holds_here.matching

    is_next : next ≡ ip
    is_next =
        let n : reg_number reg.Next regs ≡ ip.0 = t.best.holds_here.registers (reg_is reg.Next ip.0) (subst (λ (z : LFlow). Among (reg_is reg.Next ip.0) z.regs) (sym e) here) in
        let k = sym t.at_port.words.next ∙ n in
        λ i. record { 0 = k i }

    reaches : (o : Option RouterPort) → HasWayOut net c o → known_by o ≡ Some mac
    reaches None none = absurd (false≢true (ap (λ id. is_live_one id ((router_roster net).live port.name)) (sym none) ∙ says_exit))
    reaches (Some w) way =
        let own = port_meant net t.valid c.sight.out_port w way.there way.is_port q port is says_exit in
        (λ i. neighbour_of net (sym own i) (is_next i)) ∙ known

  -- where there is a neighbour, the base row is not taken
  none_known : r.priority ≡ 0 → (o : Option RouterPort) → HasWayOut net c o → (found : Option Mac) → known_by o ≡ found → found ≡ None
  none_known is None way found k = sym k
  none_known is (Some w) way None k = refl
  none_known is (Some w) way (Some mac) k =
      let row = neighbour_row w.name next mac in
      absurd (none_above t 0 is row (omega arith) (a_neighbour_row net w next mac c.port.router w.name way.there way.on k) (record {
        registers = λ x m. by x (among_one x (reg_is reg.Next next.0) m);
        matching = says_out (router_roster net) c.sight w.name ∙ port_own net t.valid c.sight.out_port w way.there way.is_port;
      }))
    where
      by : (x : RegIs) → x ≡ reg_is reg.Next next.0 → reg_number x.reg regs ≡ x.value
      by x e = subst (λ (y : RegIs). reg_number y.reg regs ≡ y.value) (sym e) t.at_port.words.next

  sent : RouterRow net stage.RouterNeighbour c.port.router r → r.actions ≡ router_actions_at stage.RouterNeighbour net c
  sent (by_port q port is on m) = elim m [ ]
  sent (by_route q x is on m) = elim m [ ]
  sent (by_neighbour q port is on ip mac known m) =
      let e = among_one r (neighbour_row q ip mac) m in
      ap (λ (z : LFlow). z.actions) e ∙ ap neighbour_actions (sym (reaches q port is ip mac known e c.out t.at_port.way_out))
  sent (by_nat q x is on m) = elim m [ ]
  sent (by_balancer b x is m) = elim m [ ]
  sent (by_router x is m) =
      let e = among_one r (drop_row stage.RouterNeighbour 0 [] cause.NoNeighbour) m in
      ap (λ (z : LFlow). z.actions) e ∙ ap neighbour_actions (sym (none_known (ap (λ (z : LFlow). z.priority) e) c.out t.at_port.way_out (known_by c.out) refl))

pub neighbour_law : RouterStageLaw stage.RouterNeighbour
neighbour_law net valid c regs h r best = let t : IsTakenThere net stage.RouterNeighbour c regs r = record { valid = valid; of = refl; at_port = h; best = best } in sent net c regs r t (its_unit t)
