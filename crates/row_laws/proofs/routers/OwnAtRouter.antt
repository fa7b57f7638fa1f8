-- r_own drops what is for an address of the router itself.
use Rattle.std.specs.Prelude.{◌≡◌, ◌∷◌, [], Bool, true, cond, map, List, Some, None}
use Rattle.std.proofs.Common.{refl, sym, ap, ◌∙◌, arith, subst}
use Rattle.std.proofs.lemmas.Bool.{and_parts, and_from, false_from_ne_true}
use Rattle.ovn_base.proofs.AmongLaws.{among_map, map_among}
use Rattle.ovn_base.specs.declared.address.Cidr.{Cidr}
use Rattle.ovn_base.specs.declared.address.Ip4.{Ip4}
use Rattle.ovn_base.specs.declared.name.Name.{Name}
use Rattle.ovn_base.specs.names.ByName.{at}
use Rattle.ovn_base.specs.lists.Among.{Among}
use Rattle.flow_table.specs.declared.flow.Cause.TheVariants as cause
use Rattle.inet_packet.specs.declared.regs.Regs.{Regs}
use Rattle.match_language.specs.declared.field.Field.TheVariants as f
use Rattle.nb_records.specs.Grammar.{IsIp4}
use Rattle.nb_records.specs.Network.{Network}
use Rattle.nb_records.specs.Routers.{is_own_ip}
use Rattle.nb_records.specs.declared.router.RouterPort.{RouterPort}
use Rattle.nb_rules.specs.Valid.{IsValid}
use Rattle.logical_flows.specs.declared.action.Action.{Action}
use Rattle.logical_flows.specs.declared.action.Action.TheVariants as a
use Rattle.logical_flows.specs.declared.flow.LFlow.{LFlow}
use Rattle.logical_flows.specs.declared.stage.Stage.TheVariants as stage
use Rattle.stage_rows.specs.Facts.{own_ips}
use Rattle.stage_rows.specs.RouterRows.{own_row}
use Rattle.stage_rows.specs.Rows.{ip_is, base_row}
use Rattle.net_model.specs.Headers.{dst_of}
use Rattle.net_model.specs.Sights.{holds_at}
use Rattle.row_laws.proofs.records.AnsweredIps.{network_ok}
use Rattle.row_laws.proofs.routers.OwnIps.{is_own, whose_own, for_from, for_to}
use Rattle.row_laws.proofs.routers.RouterUnits.{RouterRow, by_port, by_route, by_neighbour, by_nat, by_balancer, by_router}
use Rattle.row_laws.proofs.routers.TakenAtRouter.{IsTakenThere, its_unit, fields, taken_terms, no_port_above}
use Rattle.row_laws.proofs.units.TakenRow.{among_one}
use Rattle.row_laws.specs.StageActions.{unless_dropped}
use Rattle.row_laws.specs.routers.RouterActions.{router_actions_at}
use Rattle.row_laws.specs.routers.RouterCopies.{RouterCopy, router_roster}
use Rattle.row_laws.specs.routers.RouterLaws.{RouterStageLaw}

-- an address of a router port's own has 32 bits
pub own_ok : (net : Network) → IsValid net → (q : Name) (port : RouterPort) → at net.router_ports q ≡ Some port → (ip : Ip4) → Among ip (own_ips port) → IsIp4 ip
own_ok net valid q port is ip m = let n = map_among (λ (n : Cidr). n.addr) ip port.networks m in subst IsIp4 (sym n.2) (network_ok net valid q port is n.0 n.1)

-- what is done, by whether the packet is for the router
abbrev done : Bool → List Action
done own = unless_dropped stage.RouterOwn (cond own (Some cause.ForRouter) None)

module _ (net : Network) (c : RouterCopy) (regs : Regs) (r : LFlow) (t : IsTakenThere net stage.RouterOwn c regs r) where
  abbrev dst : Ip4
  dst = dst_of c.sight.packet

  abbrev own : Bool
  own = is_own_ip net c.port.router dst

  by_address : (q : Name) (port : RouterPort) → at net.router_ports q ≡ Some port → port.router ≡ c.port.router → Among r (map own_row (own_ips port)) → r.actions ≡ done own
  by_address q port is on m =
      let x = map_among own_row r (own_ips port) m in
      let say = (and_parts (holds_at (router_roster net) c.sight (ip_is f.Ip4Dst x.0)) true (taken_terms t 100 (ip_is f.Ip4Dst x.0 ∷ []) (a.Drop cause.ForRouter ∷ []) x.2)).0 in
      let same = for_from (router_roster net) c.sight (fields t) x.0 (own_ok net t.valid q port is x.0 x.1) say in
      ap (λ (z : LFlow). z.actions) x.2 ∙ ap done (sym (ap (is_own_ip net c.port.router) same ∙ is_own net c.port.router q port is on x.0 x.1))

  -- the base row is taken of no packet for the router
  not_own : r.priority ≡ 0 → own ≡ true → ⊥
  not_own is h =
      let p = whose_own net c.port.router t.valid dst h in
      no_port_above t 0 is 100 (ip_is f.Ip4Dst dst ∷ []) (a.Drop cause.ForRouter ∷ []) (omega arith) (and_from (holds_at (router_roster net) c.sight (ip_is f.Ip4Dst dst)) true (for_to (router_roster net) c.sight (fields t) t.at_port.passed) refl)
      p.0.name p.0 p.1 p.2 (among_map own_row dst (own_ips p.0) p.3)

  passed : RouterRow net stage.RouterOwn c.port.router r → r.actions ≡ router_actions_at stage.RouterOwn net c
  passed (by_port q port is on m) = by_address q port is on m
  passed (by_route q x is on m) = elim m [ ]
  passed (by_neighbour q port is on ip mac known m) = elim m [ ]
  passed (by_nat q x is on m) = elim m [ ]
  passed (by_balancer b x is m) = elim m [ ]
  passed (by_router x is m) =
      let e = among_one r (base_row stage.RouterOwn) m in
      ap (λ (z : LFlow). z.actions) e ∙ ap done (sym (false_from_ne_true own (not_own (ap (λ (z : LFlow). z.priority) e))))

pub own_law : RouterStageLaw stage.RouterOwn
own_law net valid c regs h r best = let t : IsTakenThere net stage.RouterOwn c regs r = record { valid = valid; of = refl; at_port = h; best = best } in passed net c regs r t (its_unit t)
