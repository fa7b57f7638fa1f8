-- s_lookup: one port alone answers for an address, and one has an Ethernet address.
use Rattle.std.specs.Prelude.{◌≡◌, ◌∷◌, [], ℕ, true, not, cond, nat_eq, List, map, Option, Some, None}
use Rattle.std.specs.List.{list_all, find}
use Rattle.std.specs.Option.{option_and_then}
use Rattle.std.proofs.Common.{refl, sym, ap, ◌∙◌, inl, inr}
use Rattle.std.proofs.lemmas.Bool.{and_parts}
use Rattle.ovn_base.proofs.AmongLaws.{among_cases, among_append, map_among, among_any}
use Rattle.ovn_base.specs.declared.address.Ip4.{Ip4}
use Rattle.ovn_base.specs.declared.address.Mac.{Mac}
use Rattle.ovn_base.specs.declared.limits.TheConstants.{FLOOD_KEY}
use Rattle.ovn_base.specs.declared.name.Name.{Name}
use Rattle.ovn_base.specs.lists.Among.{Among}
use Rattle.ovn_base.specs.names.ByName.{at}
use Rattle.inet_packet.specs.declared.regs.Regs.{Regs}
use Rattle.match_language.specs.declared.expr.Expr.TheVariants as e
use Rattle.match_language.specs.declared.field.Field.TheVariants as f
use Rattle.match_language.specs.declared.field.Predicate.TheVariants as p
use Rattle.nb_records.specs.Grammar.{IsIp4}
use Rattle.nb_records.specs.Network.{Network}
use Rattle.nb_records.specs.Switches.{is_virtual, same_mac, enabled_ports, router_port_behind, macs_of, has_mac}
use Rattle.nb_records.specs.declared.router.RouterPort.{RouterPort}
use Rattle.nb_records.specs.declared.switch.SwitchPort.{SwitchPort}
use Rattle.logical_flows.specs.declared.action.Action.{Action}
use Rattle.logical_flows.specs.declared.flow.LFlow.{LFlow}
use Rattle.logical_flows.specs.declared.stage.Stage.TheVariants as stage
use Rattle.stage_rows.specs.Facts.{answered_if}
use Rattle.stage_rows.specs.Rows.{mac_is, asks_for, match_row, when, on_some}
use Rattle.stage_rows.specs.SwitchRows.{goes_to_port, goes_to_group, answered_lookup, address_lookup, port_lookup, some_take_unknown, unknown_actions}
use Rattle.net_model.specs.Headers.{asked_ip}
use Rattle.net_model.specs.Sights.{Sight, roster_of, holds_at}
use Rattle.net_model.specs.Targets.{answers_behind}
use Rattle.row_laws.proofs.agreeing.TwoRows.{AreTaken, same_priority, law_by}
use Rattle.row_laws.proofs.records.AnsweredIps.{behind_from, answered_ok}
use Rattle.row_laws.proofs.records.Searches.{one_found}
use Rattle.row_laws.proofs.records.SwitchPorts.{in_enabled, enabled_is, answering_holds}
use Rattle.row_laws.proofs.records.ValidPorts.{own_place, one_mac, own_mac, one_mac_holder, one_ip_holder}
use Rattle.row_laws.proofs.terms.PacketTerms.{asks_from}
use Rattle.row_laws.proofs.terms.Terms.{says_dst}
use Rattle.row_laws.proofs.units.RowUnits.{SwitchRow, by_port, by_rule, by_balancer, by_switch, in_when}
use Rattle.row_laws.proofs.units.TakenRow.{among_one, terms_hold}
use Rattle.row_laws.specs.AgreeAnywhere.{AgreeAnywhereLaw}
use Rattle.row_laws.specs.Rows.{RowHolds}

module _ (net : Network) (d : Name) (regs : Regs) (sight : Sight) (r q : LFlow) (t : AreTaken net stage.SwitchLookup d regs sight r q) where
  -- who answers for the address that is asked for, and who has the destination
  abbrev answering : Option SwitchPort
  answering = option_and_then (λ ip. find (answers_behind net ip) (enabled_ports net d)) (asked_ip sight.packet)

  abbrev having : Option SwitchPort
  having = find (has_mac net sight.packet.dst) (enabled_ports net d)

  -- what a row of the priority does
  abbrev told : ℕ → List Action
  told n = cond (nat_eq n 80) (on_some answering goes_to_port) (cond (nat_eq n 70) (goes_to_group FLOOD_KEY) (cond (nat_eq n 50) (on_some having goes_to_port) (unknown_actions (some_take_unknown net d))))

  abbrev Holds : LFlow → Type 0
  Holds row = RowHolds (roster_of net) regs sight row

  answer_row : (row : LFlow) → Holds row → (x : SwitchPort) → at net.switch_ports x.name ≡ Some x → x.switch ≡ d → x.enabled ≡ true → (ip : Ip4) → IsIp4 ip → answers_behind net ip x ≡ true → row ≡ answered_lookup x ip
      → row.actions ≡ told row.priority
  answer_row row holds x there' on enabled ip small k is =
      let say = and_parts (holds_at (roster_of net) sight (e.Is p.EthMcast)) (list_all (λ z. holds_at (roster_of net) sight z) (asks_for ip)) (terms_hold net stage.SwitchLookup sight regs row holds 80 (e.Is p.EthMcast ∷ asks_for ip) (goes_to_port x) is) in
      let ask : asked_ip sight.packet ≡ Some ip = asks_from (roster_of net) sight t.fields ip small say.1 in
      let found : find (answers_behind net ip) (enabled_ports net d) ≡ Some x =
      one_found (answers_behind net ip) (enabled_ports net d) x (in_enabled net t.valid d x.name x there' on enabled) k (λ z m j.
      let en = enabled_is net t.valid d z m in
      one_ip_holder net t.valid ip z.name x.name z x en.there there' (en.on ∙ sym on) (answering_holds net t.valid z.name z en.there ip j) (answering_holds net t.valid x.name x there' ip k)) in
      ap (λ (z : LFlow). z.actions) is ∙ sym (ap (λ (z : LFlow). told z.priority) is ∙ ap (λ o. on_some (option_and_then (λ (i : Ip4). find (answers_behind net i) (enabled_ports net d)) o) goes_to_port) ask ∙ ap (λ o. on_some o goes_to_port) found)

  address_row : (row : LFlow) → Holds row → (x : SwitchPort) → at net.switch_ports x.name ≡ Some x → x.switch ≡ d → x.enabled ≡ true → (mac : Mac) → Among mac (macs_of net x) → row ≡ address_lookup x mac
      → row.actions ≡ told row.priority
  address_row row holds x there' on enabled mac m is =
      let say = sym (says_dst (roster_of net) sight t.fields mac) ∙ (and_parts (holds_at (roster_of net) sight (mac_is f.EthDst mac)) true (terms_hold net stage.SwitchLookup sight regs row holds 50 (mac_is f.EthDst mac ∷ []) (goes_to_port x) is)).0 in
      let same : mac ≡ sight.packet.dst = one_mac mac sight.packet.dst say in
      let has : has_mac net sight.packet.dst x ≡ true = among_any (same_mac sight.packet.dst) mac (macs_of net x) m (ap (same_mac sight.packet.dst) same ∙ own_mac sight.packet.dst) in
      let found : having ≡ Some x =
      one_found (has_mac net sight.packet.dst) (enabled_ports net d) x (in_enabled net t.valid d x.name x there' on enabled) has (λ z n j.
      let en = enabled_is net t.valid d z n in
      one_mac_holder net t.valid sight.packet.dst z.name x.name z x en.there there' (en.on ∙ sym on) j has) in
      ap (λ (z : LFlow). z.actions) is ∙ sym (ap (λ (z : LFlow). told z.priority) is ∙ ap (λ o. on_some o goes_to_port) found)

  ip_small : (o : Option RouterPort) (name : Option Name) → o ≡ option_and_then (at net.router_ports) name → (ip : Ip4) → Among ip (answered_if net o) → IsIp4 ip
  ip_small None name is ip n = elim n [ ]
  ip_small (Some x) (Some name) is ip n = answered_ok net t.valid name x (sym is) ip n
  ip_small (Some x) None is ip n = absurd cc

  of_port : (row : LFlow) → Holds row → (name : Name) (x : SwitchPort) → at net.switch_ports name ≡ Some x → x.switch ≡ d → Among row (port_lookup net x) → row.actions ≡ told row.priority
  of_port row holds name x is on m =
      let k = in_when row x.enabled _ m in
      let there' = own_place net t.valid name x is in
      elim (among_append row (when (not (is_virtual x)) (map (answered_lookup x) (answered_if net (router_port_behind net x)))) (map (address_lookup x) (macs_of net x)) k.1) [
        | inl n ↦
            let j = in_when row (not (is_virtual x)) (map (answered_lookup x) (answered_if net (router_port_behind net x))) n in
            let ip = map_among (answered_lookup x) row (answered_if net (router_port_behind net x)) j.1 in
            answer_row row holds x there' on k.0 ip.0 (ip_small (router_port_behind net x) x.router_port refl ip.0 ip.1) (behind_from net ip.0 (router_port_behind net x) ip.1) ip.2
        | inr n ↦ let mac = map_among (address_lookup x) row (macs_of net x) n in address_row row holds x there' on k.0 mac.0 mac.1 mac.2
      ]

  told_of : (row : LFlow) → Holds row → SwitchRow net stage.SwitchLookup d row → row.actions ≡ told row.priority
  told_of row holds (by_port name x is on m) = of_port row holds name x is on m
  told_of row holds (by_rule x y is on m) = elim m [ ]
  told_of row holds (by_balancer x y is m) = elim m [ ]
  told_of row holds (by_switch m) = elim (among_cases row (match_row stage.SwitchLookup 70 (e.Is p.EthMcast ∷ []) (goes_to_group FLOOD_KEY)) _ m) [
    | inl is ↦ ap (λ (z : LFlow). z.actions) is ∙ sym (ap (λ (z : LFlow). told z.priority) is)
    | inr n ↦ let is = among_one row (match_row stage.SwitchLookup 0 [] (unknown_actions (some_take_unknown net d))) n in ap (λ (z : LFlow). z.actions) is ∙ sym (ap (λ (z : LFlow). told z.priority) is)
  ]

  looked_up : SwitchRow net stage.SwitchLookup d r → SwitchRow net stage.SwitchLookup d q → r.actions ≡ q.actions
  looked_up first second = told_of r t.first.holds_here first ∙ ap told (same_priority t) ∙ sym (told_of q t.second.holds_here second)

pub lookup_agrees : AgreeAnywhereLaw stage.SwitchLookup
lookup_agrees = law_by stage.SwitchLookup refl looked_up
