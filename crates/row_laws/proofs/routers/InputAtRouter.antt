-- r_input answers requests for the port's addresses and echo requests for the router's, and drops what no router passes on.
use Rattle.std.specs.Prelude.{◌≡◌, ◌<◌, ◌∷◌, ◌&&◌, ◌||◌, [], ℕ, Bool, true, false, not, nat_le, cond, map, List, Option, Some, None}
use Rattle.std.proofs.Common.{refl, sym, ap, ◌∙◌, arith, inl, inr}
use Rattle.std.proofs.lemmas.Bool.{and_parts, and_from, false_from_ne_true, false≢true}
use Rattle.std.proofs.lemmas.Option.{none-some, same_Some}
use Rattle.ovn_base.proofs.AmongLaws.{among_cases, among_append, among_left, among_right, among_map, map_among}
use Rattle.ovn_base.specs.declared.address.Ip4.{Ip4}
use Rattle.ovn_base.specs.declared.name.Name.{Name}
use Rattle.ovn_base.specs.lists.Among.{Among, here, there}
use Rattle.ovn_base.specs.names.ByName.{at}
use Rattle.conn_table.specs.Tuples.{tuple_of}
use Rattle.flow_table.specs.declared.flow.Cause.TheVariants as cause
use Rattle.inet_packet.specs.Fields as field
use Rattle.inet_packet.specs.Rewrites.{with_ip4, ip4_as_reply}
use Rattle.inet_packet.specs.declared.packet.Packet.{Packet}
use Rattle.inet_packet.specs.declared.regs.Reg.TheVariants as reg
use Rattle.inet_packet.specs.declared.regs.Regs.{Regs}
use Rattle.match_language.specs.declared.expr.Expr.{Expr}
use Rattle.match_language.specs.declared.expr.Expr.TheVariants as expr
use Rattle.match_language.specs.declared.field.Field.TheVariants as f
use Rattle.match_language.specs.declared.field.Predicate.TheVariants as p
use Rattle.nb_records.specs.Network.{Network}
use Rattle.nb_records.specs.Routers.{answers, is_own_ip}
use Rattle.nb_records.specs.declared.router.RouterPort.{RouterPort}
use Rattle.logical_flows.specs.declared.action.Action.{Action}
use Rattle.logical_flows.specs.declared.action.Action.TheVariants as a
use Rattle.logical_flows.specs.declared.flow.LFlow.{LFlow}
use Rattle.logical_flows.specs.declared.stage.Stage.TheVariants as stage
use Rattle.stage_rows.specs.Facts.{own_ips, answered_ips}
use Rattle.stage_rows.specs.RouterRows.{answered_input, echo_input, from_or_to_unroutable, port_input}
use Rattle.stage_rows.specs.Rows.{in_is, ip_is, field_is, field_among, asks_for, pass_row, drop_row, go_on}
use Rattle.stage_rows.specs.SwitchRows.{answer_actions}
use Rattle.net_model.specs.Headers.{carries_ip4, carries_arp, ip_of, src_of, dst_of, asked_ip, is_bad_ip}
use Rattle.net_model.specs.RouterInput.{answers_with, becomes, passes_on, refuses, answers_asked, arp_answer, is_echo_request}
use Rattle.net_model.specs.Sights.{holds_at}
use Rattle.row_laws.proofs.records.AnsweredIps.{answered_from, answered_to, answered_ok}
use Rattle.row_laws.proofs.routers.InputTerms.{says_unroutable, says_ttl, request_from, request_to, echo_ip4}
use Rattle.row_laws.proofs.routers.OwnAtRouter.{own_ok}
use Rattle.row_laws.proofs.routers.OwnIps.{is_own, whose_own, for_from, for_to}
use Rattle.row_laws.proofs.routers.RouterUnits.{RouterRow, by_port, by_route, by_neighbour, by_nat, by_balancer, by_router}
use Rattle.row_laws.proofs.routers.TakenAtRouter.{IsTakenThere, its_unit, fields, taken_terms, no_port_above, no_router_above, entry_meant, entry_own}
use Rattle.row_laws.proofs.terms.PacketTerms.{asks_from, asks_to}
use Rattle.row_laws.proofs.terms.Terms.{says_ip4, says_arp}
use Rattle.row_laws.proofs.units.TakenRow.{among_one}
use Rattle.row_laws.specs.routers.RouterActions.{intake_actions, router_actions_at}
use Rattle.row_laws.specs.routers.RouterCopies.{RouterCopy, router_roster}
use Rattle.row_laws.specs.routers.RouterLaws.{RouterStageLaw}

module _ (net : Network) (c : RouterCopy) (regs : Regs) (r : LFlow) (t : IsTakenThere net stage.RouterInput c regs r) where
  abbrev says : Expr → Bool
  says x = holds_at (router_roster net) c.sight x

  abbrev i : RouterPort
  i = c.port

  abbrev packet : Packet
  packet = c.sight.packet

  -- what is tested, in order
  abbrev asked : Bool
  asked = answers_asked net i (asked_ip packet)

  abbrev bad : Bool
  bad = carries_ip4 packet && (is_bad_ip (src_of packet) || is_bad_ip (dst_of packet))

  abbrev echo : Bool
  echo = is_echo_request (tuple_of packet) && is_own_ip net i.router (dst_of packet)

  abbrev ends : Bool
  ends = carries_ip4 packet && nat_le (field.ip_ttl packet.body) 1

  -- what is done, by the tests
  abbrev done : Bool → Bool → Bool → Bool → Bool → Bool → List Action
  done is_asked is_arp is_bad is_echo is_end is_ip4 =
      intake_actions i packet (cond is_asked (answers_with (arp_answer i packet)) (cond is_arp (refuses cause.Arp) (cond is_bad (refuses cause.BadIp) (cond is_echo (becomes (with_ip4 ip4_as_reply packet)) (cond is_end (refuses cause.Ttl) (cond (not is_ip4) (refuses cause.NotIp4) passes_on))))))

  abbrev all_done : List Action
  all_done = done asked (carries_arp packet) bad echo ends (carries_ip4 packet)

  -- the packet is for the port
  admitted : router_actions_at stage.RouterInput net c ≡ all_done
  admitted = λ k. intake_actions i packet (cond (not (t.at_port.passed k)) (refuses cause.NotForRouter) (cond asked (answers_with (arp_answer i packet)) (cond (carries_arp packet) (refuses cause.Arp) (cond bad (refuses cause.BadIp) (cond echo (becomes (with_ip4 ip4_as_reply packet)) (cond ends (refuses cause.Ttl) (cond (not (carries_ip4 packet)) (refuses cause.NotIp4) passes_on)))))))

  -- ---- no row above it holds

  none_asked : (low : ℕ) → r.priority ≡ low → low < 100 → (o : Option Ip4) → asked_ip packet ≡ o → answers_asked net i o ≡ true → ⊥
  none_asked low is less None e h = false≢true h
  none_asked low is less (Some ip) e h =
      no_port_above t low is 100 (in_is i.name ∷ asks_for ip) (answer_actions i.mac ip) less (and_from (says (in_is i.name)) _ (entry_own t) (asks_to (router_roster net) c.sight (fields t) ip e)) i.name i t.at_port.there refl
      (among_left (answered_input i ip) (map (answered_input i) (answered_ips net i)) (map echo_input (own_ips i)) (among_map (answered_input i) ip (answered_ips net i) (answered_to net ip i h)))

  not_asked : (low : ℕ) → r.priority ≡ low → low < 100 → asked ≡ false
  not_asked low is less = false_from_ne_true asked (none_asked low is less (asked_ip packet) refl)

  not_arp : (low : ℕ) → r.priority ≡ low → low < 90 → carries_arp packet ≡ false
  not_arp low is less = false_from_ne_true (carries_arp packet) (λ h. no_router_above t low is 90 (expr.Is p.Arp ∷ []) (a.Drop cause.Arp ∷ []) less (and_from (says (expr.Is p.Arp)) true (says_arp (router_roster net) c.sight (fields t) ∙ h) refl) here)

  not_bad : (low : ℕ) → r.priority ≡ low → low < 80 → bad ≡ false
  not_bad low is less =
      false_from_ne_true bad (λ h. no_router_above t low is 80 (from_or_to_unroutable ∷ []) (a.Drop cause.BadIp ∷ []) less (and_from (says from_or_to_unroutable) true (says_unroutable (router_roster net) c.sight (fields t) ∙ h) refl) (there here))

  abbrev echo_terms : Ip4 → List Expr
  echo_terms ip = ip_is f.Ip4Dst ip ∷ field_is f.Icmp4Type 8 ∷ field_is f.Icmp4Code 0 ∷ []

  abbrev echo_actions : List Action
  echo_actions = a.EchoReply ∷ a.Set reg.Own 1 ∷ a.Go 13 ∷ []

  none_echo : (low : ℕ) → r.priority ≡ low → low < 70 → echo ≡ true → ⊥
  none_echo low is less h =
      let two = and_parts (is_echo_request (tuple_of packet)) (is_own_ip net i.router (dst_of packet)) h in
      let ip4 = echo_ip4 packet.body two.0 in
      let q = whose_own net i.router t.valid (dst_of packet) two.1 in
      let asks = request_to (router_roster net) c.sight (fields t) t.at_port.whole.body ip4 two.0 in
      no_port_above t low is 70 (echo_terms (dst_of packet)) echo_actions less
      (and_from (says (ip_is f.Ip4Dst (dst_of packet))) _ (for_to (router_roster net) c.sight (fields t) ip4) (and_from (says (field_is f.Icmp4Type 8)) _ asks.0 (and_from (says (field_is f.Icmp4Code 0)) true asks.1 refl))) q.0.name q.0 q.1 q.2
      (among_right (echo_input (dst_of packet)) (map (answered_input q.0) (answered_ips net q.0)) (map echo_input (own_ips q.0)) (among_map echo_input (dst_of packet) (own_ips q.0) q.3))

  not_echo : (low : ℕ) → r.priority ≡ low → low < 70 → echo ≡ false
  not_echo low is less = false_from_ne_true echo (none_echo low is less)

  not_end : (low : ℕ) → r.priority ≡ low → low < 60 → ends ≡ false
  not_end low is less =
      false_from_ne_true ends (λ h. no_router_above t low is 60 (field_among f.IpTtl (0 ∷ 1 ∷ []) ∷ []) (a.Drop cause.Ttl ∷ []) less (and_from (says (field_among f.IpTtl (0 ∷ 1 ∷ []))) true (says_ttl (router_roster net) c.sight (fields t) ∙ h) refl) (there (there here)))

  not_ip4 : (low : ℕ) → r.priority ≡ low → low < 50 → carries_ip4 packet ≡ false
  not_ip4 low is less =
      false_from_ne_true (carries_ip4 packet) (λ h. no_router_above t low is 50 (expr.Is p.Ip4 ∷ []) (go_on stage.RouterInput ∷ []) less (and_from (says (expr.Is p.Ip4)) true (says_ip4 (router_roster net) c.sight (fields t) ∙ h) refl) (there (there (there here))))

  -- ---- each row

  rank : (row : LFlow) → r ≡ row → r.priority ≡ row.priority
  rank row e = ap (λ (z : LFlow). z.priority) e

  acts : (row : LFlow) → r ≡ row → r.actions ≡ row.actions
  acts row e = ap (λ (z : LFlow). z.actions) e

  the_asked : (b : Bool) (x ip : Ip4) → cond b (Some x) None ≡ Some ip → x ≡ ip
  the_asked true x ip h = same_Some x ip h
  the_asked false x ip h = absurd (none-some ip h)

  by_answer : (q : Name) (port : RouterPort) → at net.router_ports q ≡ Some port → (ip : Ip4) → Among ip (answered_ips net port) → r ≡ answered_input port ip → r.actions ≡ all_done
  by_answer q port is ip m e =
      let two = and_parts (says (in_is port.name)) _ (taken_terms t 100 (in_is port.name ∷ asks_for ip) (answer_actions port.mac ip) e) in
      let own : port ≡ i = entry_meant t q port is two.0 in
      let asks = asks_from (router_roster net) c.sight (fields t) ip (answered_ok net t.valid q port is ip m) two.1 in
      let yes : asked ≡ true = ap (answers_asked net i) asks ∙ ap (λ (x : RouterPort). answers net x ip) (sym own) ∙ answered_from net ip port m in
      let tpa = the_asked _ (ip_of (field.arp_tpa packet.body)) ip asks in
      acts (answered_input port ip) e ∙ (λ k. answer_actions (own k).mac (sym tpa k)) ∙ sym (λ k. done (yes k) (carries_arp packet) bad echo ends (carries_ip4 packet))

  by_echo : (q : Name) (port : RouterPort) → at net.router_ports q ≡ Some port → port.router ≡ i.router → (ip : Ip4) → Among ip (own_ips port) → r ≡ echo_input ip → r.actions ≡ all_done
  by_echo q port is on ip m e =
      let one = and_parts (says (ip_is f.Ip4Dst ip)) _ (taken_terms t 70 (echo_terms ip) echo_actions e) in
      let two = and_parts (says (field_is f.Icmp4Type 8)) _ one.1 in
      let three = and_parts (says (field_is f.Icmp4Code 0)) true two.1 in
      let same = for_from (router_roster net) c.sight (fields t) ip (own_ok net t.valid q port is ip m) one.0 in
      let yes : echo ≡ true = and_from (is_echo_request (tuple_of packet)) _ (request_from (router_roster net) c.sight (fields t) two.0 three.0) (ap (is_own_ip net i.router) same ∙ is_own net i.router q port is on ip m) in
      let low = rank (echo_input ip) e in
      acts (echo_input ip) e ∙ sym (λ k. done (not_asked 70 low (omega arith) k) (not_arp 70 low (omega arith) k) (not_bad 70 low (omega arith) k) (yes k) ends (carries_ip4 packet))

  abbrev arp_row : LFlow
  arp_row = drop_row stage.RouterInput 90 (expr.Is p.Arp ∷ []) cause.Arp

  abbrev bad_row : LFlow
  bad_row = drop_row stage.RouterInput 80 (from_or_to_unroutable ∷ []) cause.BadIp

  abbrev end_row : LFlow
  end_row = drop_row stage.RouterInput 60 (field_among f.IpTtl (0 ∷ 1 ∷ []) ∷ []) cause.Ttl

  abbrev ip4_row : LFlow
  ip4_row = pass_row stage.RouterInput 50 (expr.Is p.Ip4 ∷ [])

  abbrev last_row : LFlow
  last_row = drop_row stage.RouterInput 0 [] cause.NotIp4

  by_last : Among r (ip4_row ∷ last_row ∷ []) → r.actions ≡ all_done
  by_last m = elim (among_cases r ip4_row (last_row ∷ []) m) [
    | inl e ↦
        let low = rank ip4_row e in
        let yes = sym (says_ip4 (router_roster net) c.sight (fields t)) ∙ (and_parts (says (expr.Is p.Ip4)) true (taken_terms t 50 (expr.Is p.Ip4 ∷ []) (go_on stage.RouterInput ∷ []) e)).0 in
        acts ip4_row e ∙ sym (λ k. done (not_asked 50 low (omega arith) k) (not_arp 50 low (omega arith) k) (not_bad 50 low (omega arith) k) (not_echo 50 low (omega arith) k) (not_end 50 low (omega arith) k) (yes k))
    | inr n ↦
        let e = among_one r last_row n in
        let low = rank last_row e in
        acts last_row e ∙ sym (λ k. done (not_asked 0 low (omega arith) k) (not_arp 0 low (omega arith) k) (not_bad 0 low (omega arith) k) (not_echo 0 low (omega arith) k) (not_end 0 low (omega arith) k) (not_ip4 0 low (omega arith) k))
  ]

  by_end : Among r (end_row ∷ ip4_row ∷ last_row ∷ []) → r.actions ≡ all_done
  by_end m = elim (among_cases r end_row (ip4_row ∷ last_row ∷ []) m) [
    | inl e ↦
        let low = rank end_row e in
        let yes = sym (says_ttl (router_roster net) c.sight (fields t)) ∙ (and_parts (says (field_among f.IpTtl (0 ∷ 1 ∷ []))) true (taken_terms t 60 (field_among f.IpTtl (0 ∷ 1 ∷ []) ∷ []) (a.Drop cause.Ttl ∷ []) e)).0 in
        acts end_row e ∙ sym (λ k. done (not_asked 60 low (omega arith) k) (not_arp 60 low (omega arith) k) (not_bad 60 low (omega arith) k) (not_echo 60 low (omega arith) k) (yes k) (carries_ip4 packet))
    | inr n ↦ by_last n
  ]

  by_router_row : Among r (arp_row ∷ bad_row ∷ end_row ∷ ip4_row ∷ last_row ∷ []) → r.actions ≡ all_done
  by_router_row m = elim (among_cases r arp_row (bad_row ∷ end_row ∷ ip4_row ∷ last_row ∷ []) m) [
    | inl e ↦
        let yes = sym (says_arp (router_roster net) c.sight (fields t)) ∙ (and_parts (says (expr.Is p.Arp)) true (taken_terms t 90 (expr.Is p.Arp ∷ []) (a.Drop cause.Arp ∷ []) e)).0 in
        acts arp_row e ∙ sym (λ k. done (not_asked 90 (rank arp_row e) (omega arith) k) (yes k) bad echo ends (carries_ip4 packet))
    | inr n ↦ elim (among_cases r bad_row (end_row ∷ ip4_row ∷ last_row ∷ []) n) [
      | inl e ↦
          let low = rank bad_row e in
          let yes = sym (says_unroutable (router_roster net) c.sight (fields t)) ∙ (and_parts (says from_or_to_unroutable) true (taken_terms t 80 (from_or_to_unroutable ∷ []) (a.Drop cause.BadIp ∷ []) e)).0 in
          acts bad_row e ∙ sym (λ k. done (not_asked 80 low (omega arith) k) (not_arp 80 low (omega arith) k) (yes k) echo ends (carries_ip4 packet))
      | inr o ↦ by_end o
    ]
  ]

  by_port_row : (q : Name) (port : RouterPort) → at net.router_ports q ≡ Some port → port.router ≡ i.router → Among r (port_input net port) → r.actions ≡ all_done
  by_port_row q port is on m = elim (among_append r (map (answered_input port) (answered_ips net port)) (map echo_input (own_ips port)) m) [
    | inl n ↦ let x = map_among (answered_input port) r (answered_ips net port) n in by_answer q port is x.0 x.1 x.2
    | inr n ↦ let x = map_among echo_input r (own_ips port) n in by_echo q port is on x.0 x.1 x.2
  ]

  taken : RouterRow net stage.RouterInput c.port.router r → r.actions ≡ all_done
  taken (by_port q port is on m) = by_port_row q port is on m
  taken (by_route q x is on m) = elim m [ ]
  taken (by_neighbour q port is on ip mac known m) = elim m [ ]
  taken (by_nat q x is on m) = elim m [ ]
  taken (by_balancer b x is m) = elim m [ ]
  taken (by_router x is m) = by_router_row m

pub input_law : RouterStageLaw stage.RouterInput
input_law net valid c regs h r best = let t : IsTakenThere net stage.RouterInput c regs r = record { valid = valid; of = refl; at_port = h; best = best } in taken net c regs r t (its_unit t) ∙ sym (admitted net c regs r t)
