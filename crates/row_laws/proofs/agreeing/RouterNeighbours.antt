-- r_neighbour: the port of exit and the next hop have one Ethernet address.
use Rattle.std.specs.Prelude.{◌≡◌, ◌∷◌, [], true, Some}
use Rattle.std.proofs.Common.{sym, ap, ◌∙◌, arith, subst}
use Rattle.std.proofs.lemmas.Option.{same_Some}
use Rattle.ovn_base.specs.declared.address.Ip4.{Ip4}
use Rattle.ovn_base.specs.declared.address.Mac.{Mac}
use Rattle.ovn_base.specs.declared.name.Name.{Name}
use Rattle.ovn_base.specs.lists.Among.{Among, here}
use Rattle.ovn_base.specs.names.ByName.{at}
use Rattle.flow_table.specs.declared.flow.Cause.TheVariants as cause
use Rattle.inet_packet.specs.declared.regs.Reg.TheVariants as reg
use Rattle.inet_packet.specs.declared.regs.Regs.{Regs}
use Rattle.nb_records.specs.Neighbours.{neighbour_of}
use Rattle.nb_records.specs.Network.{Network}
use Rattle.nb_records.specs.declared.router.RouterPort.{RouterPort}
use Rattle.logical_flows.specs.declared.action.Action.TheVariants as a
use Rattle.logical_flows.specs.declared.flow.LFlow.{LFlow}
use Rattle.logical_flows.specs.declared.stage.Stage.TheVariants as stage
use Rattle.stage_rows.specs.RouterRows.{neighbour_row}
use Rattle.stage_rows.specs.Rows.{reg_is, drop_row, deliver}
use Rattle.flow_lowering.specs.Registers.{reg_number}
use Rattle.net_model.specs.Sights.{Sight, holds_at, is_live_one}
use Rattle.row_laws.proofs.agreeing.TwoRouterRows.{AreTakenThere, OwnRow, of_port, of_route, of_neighbour, of_router, same_priority, one_port}
use Rattle.row_laws.proofs.routers.TakenAtRouter.{port_named, own_place}
use Rattle.row_laws.proofs.terms.Terms.{says_out}
use Rattle.row_laws.proofs.units.TakenRow.{among_one}
use Rattle.row_laws.specs.Rows.{RowHolds}
use Rattle.row_laws.specs.routers.RouterCopies.{router_roster}

module _ (net : Network) (d : Name) (regs : Regs) (sight : Sight) (r q : LFlow) (t : AreTakenThere net stage.RouterNeighbour d regs sight r q) where
  -- a row drops what has no neighbour, or sends to that of the port of exit and the next hop
  record IsSent (row : LFlow) : Type 0 where
    port : RouterPort
    there' : at net.router_ports port.name ≡ Some port
    exit : is_live_one sight.out_port ((router_roster net).live port.name) ≡ true
    ip : Ip4
    next : reg_number reg.Next regs ≡ ip.0
    mac : Mac
    known : neighbour_of net port ip ≡ Some mac
    sends : row.actions ≡ a.EthDst mac ∷ deliver ∷ []

  data Kind (row : LFlow) : Type 0 where
    drops : row.priority ≡ 0 → row.actions ≡ a.Drop cause.NoNeighbour ∷ [] → Kind row
    sends : row.priority ≡ 100 → IsSent row → Kind row

  kind : (row : LFlow) → RowHolds (router_roster net) regs sight row → OwnRow net stage.RouterNeighbour d row → Kind row
  kind row holds (of_port name port is on m) = elim m [ ]
  kind row holds (of_route name x is on m) = elim m [ ]
  kind row holds (of_neighbour name port is on ip mac known m) =
      let e = among_one row (neighbour_row name ip mac) m in
      sends (ap (λ (z : LFlow). z.priority) e) (record {
        port = port;
        there' = own_place net t.valid name port is;
        exit =
            ap (λ n. is_live_one sight.out_port ((router_roster net).live n)) (port_named net t.valid name port is)
            ∙ sym (says_out (router_roster net) sight name) ∙ subst (λ (z : LFlow). holds_at (router_roster net) sight z.matching ≡ true) e holds.matching;
        ip = ip;
        next = holds.registers (reg_is reg.Next ip.0) (subst (λ (z : LFlow). Among (reg_is reg.Next ip.0) z.regs) (sym e) here);
        mac = mac;
        known = known;
        sends = ap (λ (z : LFlow). z.actions) e;
      })
  kind row holds (of_router x is m) =
      let e = among_one row (drop_row stage.RouterNeighbour 0 [] cause.NoNeighbour) m in
      drops (ap (λ (z : LFlow). z.priority) e) (ap (λ (z : LFlow). z.actions) e)

  one_neighbour : IsSent r → IsSent q → r.actions ≡ q.actions
  one_neighbour x y =
      let port : x.port ≡ y.port = one_port net t.valid sight.out_port x.port y.port x.there' y.there' x.exit y.exit in
      let number : x.ip.0 ≡ y.ip.0 = sym x.next ∙ y.next in
      let ip : x.ip ≡ y.ip = λ i. record { 0 = number i } in
      let mac : x.mac ≡ y.mac = same_Some x.mac y.mac (sym x.known ∙ (λ i. neighbour_of net (port i) (ip i)) ∙ y.known) in
      x.sends ∙ (λ i. a.EthDst (mac i) ∷ deliver ∷ []) ∙ sym y.sends

  agree : Kind r → Kind q → r.actions ≡ q.actions
  agree (drops h k) (drops l m) = k ∙ sym m
  agree (drops h k) (sends l y) = let same = same_priority t in absurd (omega (arith, same, h, l))
  agree (sends h x) (drops l m) = let same = same_priority t in absurd (omega (arith, same, h, l))
  agree (sends h x) (sends l y) = one_neighbour x y

  pub sent : OwnRow net stage.RouterNeighbour d r → OwnRow net stage.RouterNeighbour d q → r.actions ≡ q.actions
  sent first second = agree (kind r t.first.holds_here first) (kind q t.second.holds_here second)
