-- s_arp answers requests for the addresses of enabled virtual ports, but not those that come from the port itself.
use Rattle.std.specs.Prelude.{◌≡◌, ◌∷◌, [], ◌&&◌, Bool, true, false, not, List, flat_map, Option, Some, None, option_map}
use Rattle.std.specs.List.{list_all, filter}
use Rattle.std.proofs.Common.{refl, sym, ap, ◌∙◌, arith, inl, inr}
use Rattle.std.proofs.lemmas.Bool.{and_parts, and_from, false≢true, false_from_ne_true}
use Rattle.ovn_base.proofs.AmongLaws.{among_cases, among_filter, filter_among, among_flat_map, flat_map_among}
use Rattle.ovn_base.specs.declared.address.Ip4.{Ip4}
use Rattle.ovn_base.specs.declared.address.Mac.{Mac}
use Rattle.ovn_base.specs.declared.name.Name.{Name}
use Rattle.ovn_base.specs.lists.Among.{Among, here, there}
use Rattle.ovn_base.specs.names.ByName.{at}
use Rattle.ovn_base.specs.names.SameName.{same_name, bytes_decides}
use Rattle.inet_packet.specs.declared.regs.Regs.{Regs}
use Rattle.match_language.specs.declared.expr.Expr.{Expr}
use Rattle.nb_records.specs.Network.{Network}
use Rattle.nb_records.specs.Switches.{is_virtual, enabled_ports, mac_of_ip, first_answer}
use Rattle.nb_records.specs.declared.switch.SwitchPort.{SwitchPort}
use Rattle.logical_flows.specs.declared.action.Action.{Action}
use Rattle.logical_flows.specs.declared.flow.LFlow.{LFlow}
use Rattle.logical_flows.specs.declared.stage.Pipeline.TheVariants.{Ingress}
use Rattle.logical_flows.specs.declared.stage.Stage.TheVariants as stage
use Rattle.stage_rows.specs.Facts.{port_ips}
use Rattle.stage_rows.specs.Rows.{in_is, asks_for, pass_row, match_row, base_row, go_on, on_some}
use Rattle.stage_rows.specs.SwitchRows.{answer_actions, address_arp, port_arp}
use Rattle.net_model.specs.Headers.{asked_ip}
use Rattle.net_model.specs.Sights.{roster_of, holds_at}
use Rattle.net_model.specs.Targets.{answer_from, answer_target, is_other}
use Rattle.row_laws.proofs.terms.PacketTerms.{asks_from, asks_to}
use Rattle.row_laws.proofs.units.RowUnits.{SwitchRow, by_port, by_rule, by_balancer, by_switch, in_when, when_in, in_some, some_in}
use Rattle.row_laws.proofs.records.Searches.{no_answer, one_answer}
use Rattle.row_laws.proofs.records.SwitchPorts.{in_enabled, enabled_is, listed_ip, virtual_holds, ip_ok}
use Rattle.row_laws.proofs.units.TakenRow.{IsTaken, among_one, its_unit, fields, taken_terms, no_port_above, entry_meant, entry_own}
use Rattle.row_laws.proofs.records.ValidPorts.{own_place, one_ip_holder}
use Rattle.row_laws.specs.Copies.{Copy}
use Rattle.row_laws.specs.StageActions.{answer_or_pass, actions_at}
use Rattle.row_laws.specs.StageLaws.{StageLaw}

module _ (net : Network) (c : Copy) (regs : Regs) (r : LFlow) (t : IsTaken net stage.SwitchArp Ingress c regs r) where
  abbrev says : Expr → Bool
  says x = holds_at (roster_of net) c.sight x

  abbrev i : SwitchPort
  i = c.port

  -- the ports that others may ask for
  abbrev may_answer : SwitchPort → Bool
  may_answer q = is_virtual q && is_other i q

  abbrev askable : List SwitchPort
  askable = filter may_answer (enabled_ports net i.switch)

  -- what is done where an address is asked for, by what answers
  abbrev done : Option Ip4 → List Action
  done ip = answer_or_pass (answer_target net i ip)

  abbrev answer : Ip4 → Option Mac → List Action
  answer ip o = answer_or_pass (option_map (λ mac. answer_from mac ip) o)

  -- ---- the rows of a port

  record IsAsked (q : SwitchPort) (ip : Ip4) (mac : Mac) : Type 0 where
    there' : at net.switch_ports q.name ≡ Some q
    on : q.switch ≡ i.switch
    virtual : is_virtual q ≡ true
    enabled : q.enabled ≡ true
    listed : Among ip (port_ips q)
    known : mac_of_ip ip q ≡ Some mac

  -- the port's rows for an address stand among its rows
  its_rows : (q : SwitchPort) (ip : Ip4) (mac : Mac) → IsAsked q ip mac → (row : LFlow) → Among row (address_arp q ip mac) → Among row (port_arp q)
  its_rows q ip mac a row m =
      when_in row (is_virtual q && q.enabled) (flat_map (λ x. on_some (mac_of_ip x q) (address_arp q x)) (port_ips q)) (and_from (is_virtual q) q.enabled a.virtual a.enabled)
      (among_flat_map (λ x. on_some (mac_of_ip x q) (address_arp q x)) ip row (port_ips q) a.listed (some_in row (mac_of_ip ip q) (address_arp q ip) mac a.known m))

  -- one port alone holds an address
  one_holder : (q z : SwitchPort) (ip : Ip4) (mac other : Mac) → IsAsked q ip mac → IsAsked z ip other → z ≡ q
  one_holder q z ip mac other a b =
      one_ip_holder net t.valid ip z.name q.name z q b.there' a.there' (b.on ∙ sym a.on) (virtual_holds net z ip b.virtual b.listed) (virtual_holds net q ip a.virtual a.listed)

  -- one that may answer for an address
  asked : (z : SwitchPort) (ip : Ip4) (mac : Mac) → Among z askable → mac_of_ip ip z ≡ Some mac → IsAsked z ip mac × (is_other i z ≡ true)
  asked z ip mac m known =
      let f = filter_among may_answer z (enabled_ports net i.switch) m in
      let both = and_parts (is_virtual z) (is_other i z) f.1 in
      let e = enabled_is net t.valid i.switch z f.0 in
      (record { there' = e.there; on = e.on; virtual = both.0; enabled = e.enabled; listed = listed_ip z ip mac known; known = known }, both.1)

  -- a port is another one, or it is that of entry
  is_itself : (z : SwitchPort) → at net.switch_ports z.name ≡ Some z → is_other i z ≡ true → z ≡ i → ⊥
  is_itself z there' h same = false≢true (sym (ap not ((bytes_decides z.name i.name).1 (ap (λ (x : SwitchPort). x.name) same))) ∙ h)

  -- ---- the three kinds of rows

  own_row : (q : SwitchPort) (ip : Ip4) (mac : Mac) → IsAsked q ip mac → r ≡ pass_row stage.SwitchArp 100 (in_is q.name ∷ asks_for ip) → r.actions ≡ done (asked_ip c.sight.packet)
  own_row q ip mac a e =
      let say = and_parts (says (in_is q.name)) (list_all says (asks_for ip)) (taken_terms t 100 (in_is q.name ∷ asks_for ip) (go_on stage.SwitchArp ∷ []) e) in
      let own : q ≡ i = entry_meant t q.name q a.there' say.0 in
      let ask : asked_ip c.sight.packet ≡ Some ip = asks_from (roster_of net) c.sight (fields t) ip (ip_ok net t.valid q.name q a.there' ip a.listed) say.1 in
      let none : first_answer (mac_of_ip ip) askable ≡ None =
      no_answer (mac_of_ip ip) askable (λ z w m known.
      let b = asked z ip w m known in
      is_itself z b.0.there' b.1 (one_holder q z ip mac w a b.0 ∙ own)) in
      ap (λ (z : LFlow). z.actions) e ∙ sym (ap done ask ∙ ap (answer ip) none)

  asked_row : (q : SwitchPort) (ip : Ip4) (mac : Mac) → IsAsked q ip mac → r ≡ match_row stage.SwitchArp 50 (asks_for ip) (answer_actions mac ip) → r.actions ≡ done (asked_ip c.sight.packet)
  asked_row q ip mac a e =
      let say = taken_terms t 50 (asks_for ip) (answer_actions mac ip) e in
      let ask : asked_ip c.sight.packet ≡ Some ip = asks_from (roster_of net) c.sight (fields t) ip (ip_ok net t.valid q.name q a.there' ip a.listed) say in
      let apart : same_name q.name i.name ≡ false =
      false_from_ne_true (same_name q.name i.name) (λ h.
      let name = (bytes_decides q.name i.name).0 h in
      no_port_above t 50 (ap (λ (z : LFlow). z.priority) e) 100 (in_is q.name ∷ asks_for ip) (go_on stage.SwitchArp ∷ []) (omega arith)
      (and_from (says (in_is q.name)) (list_all says (asks_for ip)) (ap (λ n. says (in_is n)) name ∙ entry_own t) say)
      q.name q a.there' a.on (its_rows q ip mac a (pass_row stage.SwitchArp 100 (in_is q.name ∷ asks_for ip)) here)) in
      let among : Among q askable =
      among_filter may_answer q (enabled_ports net i.switch) (in_enabled net t.valid i.switch q.name q a.there' a.on a.enabled) (and_from (is_virtual q) (is_other i q) a.virtual (ap not apart)) in
      let found : first_answer (mac_of_ip ip) askable ≡ Some mac =
      one_answer (mac_of_ip ip) askable q mac among a.known (λ z w m known. one_holder q z ip mac w a (asked z ip w m known).0) in
      ap (λ (z : LFlow). z.actions) e ∙ sym (ap done ask ∙ ap (answer ip) found)

  base : r ≡ base_row stage.SwitchArp → (o : Option Ip4) → asked_ip c.sight.packet ≡ o → r.actions ≡ done o
  base e None ask = ap (λ (z : LFlow). z.actions) e
  base e (Some ip) ask =
      let none : first_answer (mac_of_ip ip) askable ≡ None =
      no_answer (mac_of_ip ip) askable (λ z w m known.
      let b = (asked z ip w m known).0 in
      no_port_above t 0 (ap (λ (z : LFlow). z.priority) e) 50 (asks_for ip) (answer_actions w ip) (omega arith) (asks_to (roster_of net) c.sight (fields t) ip ask) z.name z b.there' b.on
      (its_rows z ip w b (match_row stage.SwitchArp 50 (asks_for ip) (answer_actions w ip)) (there here))) in
      ap (λ (z : LFlow). z.actions) e ∙ sym (ap (answer ip) none)

  of_port : (q : Name) (port : SwitchPort) → at net.switch_ports q ≡ Some port → port.switch ≡ i.switch → Among r (port_arp port) → r.actions ≡ done (asked_ip c.sight.packet)
  of_port q port is on m =
      let k = in_when r (is_virtual port && port.enabled) (flat_map (λ x. on_some (mac_of_ip x port) (address_arp port x)) (port_ips port)) m in
      let both = and_parts (is_virtual port) port.enabled k.0 in
      let ip = flat_map_among (λ x. on_some (mac_of_ip x port) (address_arp port x)) r (port_ips port) k.1 in
      let mac = in_some r (mac_of_ip ip.0 port) (address_arp port ip.0) ip.2 in
      let a : IsAsked port ip.0 mac.0 = record { there' = own_place net t.valid q port is; on = on; virtual = both.0; enabled = both.1; listed = ip.1; known = mac.1 } in
      elim (among_cases r (pass_row stage.SwitchArp 100 (in_is port.name ∷ asks_for ip.0)) (match_row stage.SwitchArp 50 (asks_for ip.0) (answer_actions mac.0 ip.0) ∷ []) mac.2) [
        | inl e ↦ own_row port ip.0 mac.0 a e
        | inr n ↦ asked_row port ip.0 mac.0 a (among_one r (match_row stage.SwitchArp 50 (asks_for ip.0) (answer_actions mac.0 ip.0)) n)
      ]

  answered : SwitchRow net stage.SwitchArp c.port.switch r → r.actions ≡ actions_at stage.SwitchArp net c
  answered (by_port q port is on m) = of_port q port is on m
  answered (by_rule x y is on m) = elim m [ ]
  answered (by_balancer x y is m) = elim m [ ]
  answered (by_switch m) = base (among_one r (base_row stage.SwitchArp) m) (asked_ip c.sight.packet) refl

pub arp_law : StageLaw stage.SwitchArp
arp_law net valid c regs h r best =
    let t : IsTaken net stage.SwitchArp Ingress c regs r = record { valid = valid; of = refl; at_port = h; best = best } in
    answered net c regs r t (its_unit t)
