-- r_admit passes what is for the port alone.
use Rattle.std.specs.Prelude.{◌≡◌, ◌∷◌, ◌&&◌, [], Bool, true, false, not, cond, List, Some, None}
use Rattle.std.proofs.Common.{refl, sym, ap, ◌∙◌, arith, inl, inr}
use Rattle.std.proofs.lemmas.Bool.{and_parts, and_from, or_cases, or_left, or_right, false_from_ne_true}
use Rattle.ovn_base.proofs.AmongLaws.{among_cases}
use Rattle.ovn_base.specs.addresses.EtherAddress.{is_multicast_mac}
use Rattle.ovn_base.specs.declared.name.Name.{Name}
use Rattle.ovn_base.specs.lists.Among.{here, there}
use Rattle.ovn_base.specs.names.ByName.{at}
use Rattle.flow_table.specs.declared.flow.Cause.TheVariants as cause
use Rattle.inet_packet.specs.declared.packet.Packet.{Packet}
use Rattle.inet_packet.specs.declared.regs.Regs.{Regs}
use Rattle.match_language.specs.declared.expr.Expr.{Expr}
use Rattle.match_language.specs.declared.expr.Expr.TheVariants as expr
use Rattle.match_language.specs.declared.field.Field.TheVariants as f
use Rattle.match_language.specs.declared.field.Predicate.TheVariants as p
use Rattle.nb_records.specs.Network.{Network}
use Rattle.nb_records.specs.Switches.{same_mac}
use Rattle.nb_records.specs.declared.router.RouterPort.{RouterPort}
use Rattle.logical_flows.specs.declared.action.Action.TheVariants as a
use Rattle.logical_flows.specs.declared.flow.LFlow.{LFlow}
use Rattle.logical_flows.specs.declared.stage.Stage.TheVariants as stage
use Rattle.stage_rows.specs.Rows.{in_is, mac_is, pass_row, drop_row, go_on}
use Rattle.net_model.specs.Headers.{carries_arp}
use Rattle.net_model.specs.RouterInput.{is_for_port}
use Rattle.net_model.specs.Sights.{holds_at}
use Rattle.row_laws.proofs.routers.RouterUnits.{RouterRow, by_port, by_route, by_neighbour, by_nat, by_balancer, by_router}
use Rattle.row_laws.proofs.routers.TakenAtRouter.{IsTakenThere, its_unit, fields, taken_terms, no_port_above, entry_meant, entry_own}
use Rattle.row_laws.proofs.terms.Terms.{says_dst, says_mcast, says_arp}
use Rattle.row_laws.proofs.units.TakenRow.{among_one}
use Rattle.row_laws.specs.StageActions.{unless_dropped}
use Rattle.row_laws.specs.routers.RouterActions.{not_for_port, router_actions_at}
use Rattle.row_laws.specs.routers.RouterCopies.{RouterCopy, router_roster}
use Rattle.row_laws.specs.routers.RouterLaws.{RouterStageLaw}

module _ (net : Network) (c : RouterCopy) (regs : Regs) (r : LFlow) (t : IsTakenThere net stage.RouterAdmit c regs r) where
  abbrev says : Expr → Bool
  says x = holds_at (router_roster net) c.sight x

  abbrev i : RouterPort
  i = c.port

  abbrev packet : Packet
  packet = c.sight.packet

  -- the terms of a port's two rows
  abbrev own_terms : RouterPort → List Expr
  own_terms q = in_is q.name ∷ mac_is f.EthDst q.mac ∷ []

  abbrev group_terms : RouterPort → List Expr
  group_terms q = in_is q.name ∷ expr.Is p.EthMcast ∷ expr.Is p.Arp ∷ []

  passes : is_for_port i packet ≡ true → unless_dropped stage.RouterAdmit (not_for_port i packet) ≡ go_on stage.RouterAdmit ∷ []
  passes h = λ k. unless_dropped stage.RouterAdmit (cond (not (h k)) (Some cause.NotForRouter) None)

  drops : is_for_port i packet ≡ false → unless_dropped stage.RouterAdmit (not_for_port i packet) ≡ a.Drop cause.NotForRouter ∷ []
  drops h = λ k. unless_dropped stage.RouterAdmit (cond (not (h k)) (Some cause.NotForRouter) None)

  -- what a port's row asks for makes the packet one for the port
  by_address : (q : Name) (port : RouterPort) → at net.router_ports q ≡ Some port → r ≡ pass_row stage.RouterAdmit 50 (own_terms port) → is_for_port i packet ≡ true
  by_address q port is e =
      let two = and_parts (says (in_is port.name)) _ (taken_terms t 50 (own_terms port) (go_on stage.RouterAdmit ∷ []) e) in
      let own : port ≡ i = entry_meant t q port is two.0 in
      or_left (same_mac i.mac packet.dst) _ (ap (λ (x : RouterPort). same_mac x.mac packet.dst) (sym own) ∙ sym (says_dst (router_roster net) c.sight (fields t) port.mac) ∙ (and_parts (says (mac_is f.EthDst port.mac)) true two.1).0)

  by_group : (q : Name) (port : RouterPort) → r ≡ pass_row stage.RouterAdmit 50 (group_terms port) → is_for_port i packet ≡ true
  by_group q port e =
      let two = and_parts (says (in_is port.name)) _ (taken_terms t 50 (group_terms port) (go_on stage.RouterAdmit ∷ []) e) in
      let three = and_parts (says (expr.Is p.EthMcast)) _ two.1 in
      or_right (same_mac i.mac packet.dst) _ (and_from (is_multicast_mac packet.dst) (carries_arp packet) (sym (says_mcast (router_roster net) c.sight) ∙ three.0)
      (sym (says_arp (router_roster net) c.sight (fields t)) ∙ (and_parts (says (expr.Is p.Arp)) true three.1).0))

  -- the base row is taken of no packet for the port
  not_for : r.priority ≡ 0 → is_for_port i packet ≡ true → ⊥
  not_for is h = elim (or_cases (same_mac i.mac packet.dst) (is_multicast_mac packet.dst && carries_arp packet) h) [
    | inl own ↦
        no_port_above t 0 is 50 (own_terms i) (go_on stage.RouterAdmit ∷ []) (omega arith)
        (and_from (says (in_is i.name)) _ (entry_own t) (and_from (says (mac_is f.EthDst i.mac)) true (says_dst (router_roster net) c.sight (fields t) i.mac ∙ own) refl)) i.name i t.at_port.there refl here
    | inr many ↦
        let two = and_parts (is_multicast_mac packet.dst) (carries_arp packet) many in
        no_port_above t 0 is 50 (group_terms i) (go_on stage.RouterAdmit ∷ []) (omega arith)
        (and_from (says (in_is i.name)) _ (entry_own t) (and_from (says (expr.Is p.EthMcast)) _ (says_mcast (router_roster net) c.sight ∙ two.0)
        (and_from (says (expr.Is p.Arp)) true (says_arp (router_roster net) c.sight (fields t) ∙ two.1) refl))) i.name i t.at_port.there refl (there here)
  ]

  admitted : RouterRow net stage.RouterAdmit c.port.router r → r.actions ≡ router_actions_at stage.RouterAdmit net c
  admitted (by_port q port is on m) = elim (among_cases r (pass_row stage.RouterAdmit 50 (own_terms port)) (pass_row stage.RouterAdmit 50 (group_terms port) ∷ []) m) [
    | inl e ↦ ap (λ (z : LFlow). z.actions) e ∙ sym (passes (by_address q port is e))
    | inr n ↦ let e = among_one r (pass_row stage.RouterAdmit 50 (group_terms port)) n in ap (λ (z : LFlow). z.actions) e ∙ sym (passes (by_group q port e))
  ]
  admitted (by_route q x is on m) = elim m [ ]
  admitted (by_neighbour q port is on ip mac known m) = elim m [ ]
  admitted (by_nat q x is on m) = elim m [ ]
  admitted (by_balancer b x is m) = elim m [ ]
  admitted (by_router x is m) =
      let e = among_one r (drop_row stage.RouterAdmit 0 [] cause.NotForRouter) m in
      ap (λ (z : LFlow). z.actions) e ∙ sym (drops (false_from_ne_true (is_for_port i packet) (not_for (ap (λ (z : LFlow). z.priority) e))))

pub admit_law : RouterStageLaw stage.RouterAdmit
admit_law net valid c regs h r best = let t : IsTakenThere net stage.RouterAdmit c regs r = record { valid = valid; of = refl; at_port = h; best = best } in admitted net c regs r t (its_unit t)
