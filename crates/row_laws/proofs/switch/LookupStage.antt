-- s_lookup sends a packet to the target that the network finds for it.
use Rattle.std.specs.Prelude.{◌≡◌, ◌<◌, ◌∷◌, ◌++◌, [], ◌||◌, ℕ, Bool, true, false, not, cond, List, map, filter, Option, Some, None, option_map}
use Rattle.std.specs.List.{list_all, list_any, find}
use Rattle.std.specs.Option.{option_and_then}
use Rattle.std.proofs.Common.{refl, sym, ap, ◌∙◌, arith, inl, inr}
use Rattle.std.proofs.lemmas.Bool.{and_parts, and_from, cond-true, false≢true, false_from_ne_true}
use Rattle.ovn_base.proofs.AmongLaws.{among_cases, among_append, among_left, among_right, among_map, map_among, among_any, any_among}
use Rattle.ovn_base.specs.addresses.EtherAddress.{is_multicast_mac}
use Rattle.ovn_base.specs.declared.address.Ip4.{Ip4}
use Rattle.ovn_base.specs.declared.address.Mac.{Mac}
use Rattle.ovn_base.specs.declared.limits.TheConstants.{FLOOD_KEY}
use Rattle.ovn_base.specs.declared.name.Name.{Name}
use Rattle.ovn_base.specs.lists.Among.{Among, here}
use Rattle.ovn_base.specs.names.ByName.{at}
use Rattle.inet_packet.specs.declared.packet.Packet.{Packet}
use Rattle.inet_packet.specs.declared.regs.Regs.{Regs}
use Rattle.match_language.specs.declared.expr.Expr.{Expr}
use Rattle.match_language.specs.declared.expr.Expr.TheVariants as e
use Rattle.match_language.specs.declared.field.Field.TheVariants as f
use Rattle.match_language.specs.declared.field.Predicate.TheVariants as p
use Rattle.nb_records.specs.Grammar.{IsIp4}
use Rattle.nb_records.specs.Network.{Network}
use Rattle.nb_records.specs.Switches.{is_virtual, same_mac, enabled_ports, router_port_behind, takes_unknown, macs_of, has_mac}
use Rattle.nb_records.specs.declared.router.RouterPort.{RouterPort}
use Rattle.nb_records.specs.declared.switch.SwitchPort.{SwitchPort}
use Rattle.logical_flows.specs.declared.action.Action.{Action}
use Rattle.logical_flows.specs.declared.flow.LFlow.{LFlow}
use Rattle.logical_flows.specs.declared.stage.Pipeline.TheVariants.{Ingress}
use Rattle.logical_flows.specs.declared.stage.Stage.TheVariants as stage
use Rattle.stage_rows.specs.Facts.{answered_if}
use Rattle.stage_rows.specs.Rows.{mac_is, asks_for, match_row, when}
use Rattle.stage_rows.specs.SwitchRows.{goes_to_port, goes_to_group, answered_lookup, address_lookup, port_lookup, some_take_unknown, unknown_actions}
use Rattle.net_model.specs.declared.crossing.Group.TheVariants.{Flood, Unknown}
use Rattle.net_model.specs.Headers.{asked_ip}
use Rattle.net_model.specs.Sights.{roster_of, holds_at}
use Rattle.net_model.specs.Targets.{Target, to_one, to_group, to_nobody, answers_behind, router_target, known_target, unknown_target, group_if}
use Rattle.net_model.specs.Trail.{given_or}
use Rattle.row_laws.proofs.records.AnsweredIps.{behind_from, behind_to, answered_ok}
use Rattle.row_laws.proofs.terms.PacketTerms.{asks_from, asks_to}
use Rattle.row_laws.proofs.units.RowUnits.{SwitchRow, by_port, by_rule, by_balancer, by_switch, in_when, when_in}
use Rattle.row_laws.proofs.records.Searches.{none_found, one_found}
use Rattle.row_laws.proofs.records.SwitchPorts.{in_enabled, enabled_is, answering_is, answering_holds}
use Rattle.row_laws.proofs.units.TakenRow.{IsTaken, among_one, its_unit, fields, taken_terms, no_port_above, no_switch_above}
use Rattle.row_laws.proofs.terms.Terms.{says_mcast, says_dst}
use Rattle.row_laws.proofs.records.ValidPorts.{own_place, one_mac, own_mac, one_mac_holder, one_ip_holder}
use Rattle.row_laws.specs.Copies.{Copy}
use Rattle.row_laws.specs.StageActions.{target_actions, actions_at}
use Rattle.row_laws.specs.StageLaws.{StageLaw}

-- ---- the ports that take unknown addresses

none_take : (xs : List SwitchPort) → list_any (λ (q : SwitchPort). takes_unknown q.addresses) xs ≡ false → filter (λ (q : SwitchPort). takes_unknown q.addresses) xs ≡ []
none_take [] h = refl
none_take (x ∷ xs) h = by (takes_unknown x.addresses) (none_take xs) h
  where
    by : (b : Bool) → (list_any (λ (q : SwitchPort). takes_unknown q.addresses) xs ≡ false → filter (λ (q : SwitchPort). takes_unknown q.addresses) xs ≡ []) → (b || list_any (λ (q : SwitchPort). takes_unknown q.addresses) xs) ≡ false
        → cond b (x ∷ filter (λ (q : SwitchPort). takes_unknown q.addresses) xs) (filter (λ (q : SwitchPort). takes_unknown q.addresses) xs) ≡ []
    by true rest k = absurd (false≢true (sym k))
    by false rest k = rest k

group_by : (xs : List SwitchPort) → list_any (λ (q : SwitchPort). takes_unknown q.addresses) xs ≡ true → group_if Unknown (filter (λ (q : SwitchPort). takes_unknown q.addresses) xs) ≡ Some (to_group Unknown)
group_by [] h = absurd (false≢true h)
group_by (x ∷ xs) h = by (takes_unknown x.addresses) (group_by xs) h
  where
    by : (b : Bool) → (list_any (λ (q : SwitchPort). takes_unknown q.addresses) xs ≡ true → group_if Unknown (filter (λ (q : SwitchPort). takes_unknown q.addresses) xs) ≡ Some (to_group Unknown)) → (b || list_any (λ (q : SwitchPort). takes_unknown q.addresses) xs) ≡ true
        → group_if Unknown (cond b (x ∷ filter (λ (q : SwitchPort). takes_unknown q.addresses) xs) (filter (λ (q : SwitchPort). takes_unknown q.addresses) xs)) ≡ Some (to_group Unknown)
    by true rest k = refl
    by false rest k = rest k

-- what is left over goes to them, or to nobody
left_over : (net : Network) (d : Name) → unknown_actions (some_take_unknown net d) ≡ target_actions (given_or (unknown_target net d) to_nobody)
left_over net d = by (some_take_unknown net d) refl
  where
    by : (b : Bool) → some_take_unknown net d ≡ b → unknown_actions b ≡ target_actions (given_or (unknown_target net d) to_nobody)
    by true h = sym (ap (λ o. target_actions (given_or o to_nobody)) (group_by (enabled_ports net d) h))
    by false h = sym (ap (λ xs. target_actions (given_or (group_if Unknown xs) to_nobody)) (none_take (enabled_ports net d) h))

module _ (net : Network) (c : Copy) (regs : Regs) (r : LFlow) (t : IsTaken net stage.SwitchLookup Ingress c regs r) where
  abbrev packet : Packet
  packet = c.sight.packet

  abbrev d : Name
  d = c.port.switch

  abbrev says : Expr → Bool
  says x = holds_at (roster_of net) c.sight x

  abbrev many : Bool
  many = is_multicast_mac packet.dst

  -- ---- the target, by its parts

  abbrev done : Option Target → Option Target → Option Target → List Action
  done router flood known = target_actions (given_or router (given_or flood (given_or known (given_or (unknown_target net d) to_nobody))))

  abbrev routed : Option Ip4 → Option Target
  routed ip = router_target net d ip

  abbrev flooded : Bool → Option Target
  flooded b = cond b (Some (to_group Flood)) None

  abbrev known : Option Target
  known = known_target net d packet.dst

  abbrev asked : Bool → Option Ip4
  asked b = cond b (asked_ip packet) None

  -- ---- rows above

  rank : (row : LFlow) → r ≡ row → r.priority ≡ row.priority
  rank row e = ap (λ (z : LFlow). z.priority) e

  single : (low : ℕ) → r.priority ≡ low → low < 70 → many ≡ false
  single low is less = false_from_ne_true many (λ h.
      no_switch_above t low is 70 (e.Is p.EthMcast ∷ []) (goes_to_group FLOOD_KEY) less (and_from (says (e.Is p.EthMcast)) true (says_mcast (roster_of net) c.sight ∙ h) refl) here)

  -- the rows of a port that is enabled
  its_row : (q : SwitchPort) → q.enabled ≡ true → (row : LFlow) → Among row (when (not (is_virtual q)) (map (answered_lookup q) (answered_if net (router_port_behind net q))) ++ map (address_lookup q) (macs_of net q)) → Among row (port_lookup net q)
  its_row q on row m = when_in row q.enabled _ on m

  answers_above : (low : ℕ) → r.priority ≡ low → low < 80 → many ≡ true → (ip : Ip4) → asked_ip packet ≡ Some ip → (q : SwitchPort) → Among q (enabled_ports net d) → answers_behind net ip q ≡ true → ⊥
  answers_above low is less h ip ask q m k =
      let en = enabled_is net t.valid d q m in
      let row = answered_lookup q ip in
      no_port_above t low is 80 (e.Is p.EthMcast ∷ asks_for ip) (goes_to_port q) less
      (and_from (says (e.Is p.EthMcast)) (list_all says (asks_for ip)) (says_mcast (roster_of net) c.sight ∙ h) (asks_to (roster_of net) c.sight (fields t) ip ask))
      q.name q en.there en.on (its_row q en.enabled row (among_left row (when (not (is_virtual q)) (map (answered_lookup q) (answered_if net (router_port_behind net q)))) (map (address_lookup q) (macs_of net q))
      (when_in row (not (is_virtual q)) (map (answered_lookup q) (answered_if net (router_port_behind net q))) (ap not (answering_is net t.valid q.name q en.there ip k))
      (among_map (answered_lookup q) ip (answered_if net (router_port_behind net q)) (behind_to net ip (router_port_behind net q) k)))))

  address_above : (low : ℕ) → r.priority ≡ low → low < 50 → (q : SwitchPort) → Among q (enabled_ports net d) → has_mac net packet.dst q ≡ true → ⊥
  address_above low is less q m k =
      let en = enabled_is net t.valid d q m in
      let mac = any_among (same_mac packet.dst) (macs_of net q) k in
      let row = address_lookup q mac.0 in
      no_port_above t low is 50 (mac_is f.EthDst mac.0 ∷ []) (goes_to_port q) less
      (and_from (says (mac_is f.EthDst mac.0)) true (says_dst (roster_of net) c.sight (fields t) mac.0 ∙ ap (λ (x : Mac). same_mac mac.0 x) (one_mac packet.dst mac.0 mac.2) ∙ own_mac mac.0) refl)
      q.name q en.there en.on (its_row q en.enabled row (among_right row (when (not (is_virtual q)) (map (answered_lookup q) (answered_if net (router_port_behind net q)))) (map (address_lookup q) (macs_of net q))
      (among_map (address_lookup q) mac.0 (macs_of net q) mac.1)))

  -- no router port answers where no row of one holds
  unrouted_by : (o : Option Ip4) → ((ip : Ip4) → o ≡ Some ip → (q : SwitchPort) → Among q (enabled_ports net d) → answers_behind net ip q ≡ true → ⊥) → routed o ≡ None
  unrouted_by None none = refl
  unrouted_by (Some ip) none = ap (option_map to_one) (none_found (answers_behind net ip) (enabled_ports net d) (none ip refl))

  -- ---- the rows

  answer_row : (q : SwitchPort) → at net.switch_ports q.name ≡ Some q → q.switch ≡ d → q.enabled ≡ true → (ip : Ip4) → IsIp4 ip → answers_behind net ip q ≡ true → r ≡ answered_lookup q ip
      → r.actions ≡ done (routed (asked many)) (flooded many) known
  answer_row q there' on enabled ip small k e' =
      let say = and_parts (says (e.Is p.EthMcast)) (list_all says (asks_for ip)) (taken_terms t 80 (e.Is p.EthMcast ∷ asks_for ip) (goes_to_port q) e') in
      let h : many ≡ true = sym (says_mcast (roster_of net) c.sight) ∙ say.0 in
      let ask : asked_ip packet ≡ Some ip = asks_from (roster_of net) c.sight (fields t) ip small say.1 in
      let found : find (answers_behind net ip) (enabled_ports net d) ≡ Some q =
      one_found (answers_behind net ip) (enabled_ports net d) q (in_enabled net t.valid d q.name q there' on enabled) k (λ z m j.
      let en = enabled_is net t.valid d z m in
      one_ip_holder net t.valid ip z.name q.name z q en.there there' (en.on ∙ sym on) (answering_holds net t.valid z.name z en.there ip j) (answering_holds net t.valid q.name q there' ip k)) in
      ap (λ (z : LFlow). z.actions) e' ∙ sym (ap (λ o. done (routed o) (flooded many) known) (cond-true many (asked_ip packet) None h ∙ ask) ∙ ap (λ o. done (option_map to_one o) (flooded many) known) found)

  flood_row : r ≡ match_row stage.SwitchLookup 70 (e.Is p.EthMcast ∷ []) (goes_to_group FLOOD_KEY) → r.actions ≡ done (routed (asked many)) (flooded many) known
  flood_row e' =
      let h : many ≡ true = sym (says_mcast (roster_of net) c.sight) ∙ (and_parts (says (e.Is p.EthMcast)) true (taken_terms t 70 (e.Is p.EthMcast ∷ []) (goes_to_group FLOOD_KEY) e')).0 in
      let none : routed (asked_ip packet) ≡ None = unrouted_by (asked_ip packet) (λ ip ask q m k. answers_above 70 (ap (λ (z : LFlow). z.priority) e') (omega arith) h ip ask q m k) in
      ap (λ (z : LFlow). z.actions) e'
      ∙ sym (ap (λ b. done (routed (asked b)) (flooded b) known) h ∙ ap (λ o. done o (flooded true) known) none)

  -- what is for one station is not routed here, and not flooded
  plain : many ≡ false → done (routed (asked many)) (flooded many) known ≡ done None None known
  plain h = ap (λ b. done (routed (asked b)) (flooded b) known) h

  address_row : (q : SwitchPort) → at net.switch_ports q.name ≡ Some q → q.switch ≡ d → q.enabled ≡ true → (mac : Mac) → Among mac (macs_of net q) → r ≡ address_lookup q mac → r.actions ≡ done (routed (asked many)) (flooded many) known
  address_row q there' on enabled mac m e' =
      let say = sym (says_dst (roster_of net) c.sight (fields t) mac) ∙ (and_parts (says (mac_is f.EthDst mac)) true (taken_terms t 50 (mac_is f.EthDst mac ∷ []) (goes_to_port q) e')).0 in
      let same : mac ≡ packet.dst = one_mac mac packet.dst say in
      let has : has_mac net packet.dst q ≡ true = among_any (same_mac packet.dst) mac (macs_of net q) m (ap (same_mac packet.dst) same ∙ own_mac packet.dst) in
      let found : find (has_mac net packet.dst) (enabled_ports net d) ≡ Some q =
      one_found (has_mac net packet.dst) (enabled_ports net d) q (in_enabled net t.valid d q.name q there' on enabled) has (λ z n j.
      let en = enabled_is net t.valid d z n in
      one_mac_holder net t.valid packet.dst z.name q.name z q en.there there' (en.on ∙ sym on) j has) in
      ap (λ (z : LFlow). z.actions) e' ∙ sym (plain (single 50 (ap (λ (z : LFlow). z.priority) e') (omega arith)) ∙ ap (λ o. done None None (option_map to_one o)) found)

  last_row : r ≡ match_row stage.SwitchLookup 0 [] (unknown_actions (some_take_unknown net d)) → r.actions ≡ done (routed (asked many)) (flooded many) known
  last_row e' =
      let is : r.priority ≡ 0 = ap (λ (z : LFlow). z.priority) e' in
      let none : known ≡ None = ap (option_map to_one) (none_found (has_mac net packet.dst) (enabled_ports net d) (address_above 0 is (omega arith))) in
      ap (λ (z : LFlow). z.actions) e' ∙ left_over net d ∙ sym (plain (single 0 is (omega arith)) ∙ ap (done None None) none)

  of_port : (q : Name) (port : SwitchPort) → at net.switch_ports q ≡ Some port → port.switch ≡ d → Among r (port_lookup net port) → r.actions ≡ done (routed (asked many)) (flooded many) known
  of_port q port is on m =
      let k = in_when r port.enabled _ m in
      let there' = own_place net t.valid q port is in
      elim (among_append r (when (not (is_virtual port)) (map (answered_lookup port) (answered_if net (router_port_behind net port)))) (map (address_lookup port) (macs_of net port)) k.1) [
        | inl n ↦
            let a = in_when r (not (is_virtual port)) (map (answered_lookup port) (answered_if net (router_port_behind net port))) n in
            let ip = map_among (answered_lookup port) r (answered_if net (router_port_behind net port)) a.1 in
            answer_row port there' on k.0 ip.0 (ip_small (router_port_behind net port) port.router_port refl ip.0 ip.1) (behind_from net ip.0 (router_port_behind net port) ip.1) ip.2
        | inr n ↦ let mac = map_among (address_lookup port) r (macs_of net port) n in address_row port there' on k.0 mac.0 mac.1 mac.2
      ]
    where
      ip_small : (o : Option RouterPort) (name : Option Name) → o ≡ option_and_then (at net.router_ports) name → (ip : Ip4) → Among ip (answered_if net o) → IsIp4 ip
      ip_small None name e' ip n = elim n [ ]
      ip_small (Some x) (Some name) e' ip n = answered_ok net t.valid name x (sym e') ip n
      ip_small (Some x) None e' ip n = absurd cc

  looked_up : SwitchRow net stage.SwitchLookup d r → r.actions ≡ actions_at stage.SwitchLookup net c
  looked_up (by_port q port is on m) = of_port q port is on m
  looked_up (by_rule x y is on m) = elim m [ ]
  looked_up (by_balancer x y is m) = elim m [ ]
  looked_up (by_switch m) = elim (among_cases r (match_row stage.SwitchLookup 70 (e.Is p.EthMcast ∷ []) (goes_to_group FLOOD_KEY)) _ m) [
    | inl e' ↦ flood_row e'
    | inr n ↦ last_row (among_one r (match_row stage.SwitchLookup 0 [] (unknown_actions (some_take_unknown net d))) n)
  ]

pub lookup_law : StageLaw stage.SwitchLookup
lookup_law net valid c regs h r best =
    let t : IsTaken net stage.SwitchLookup Ingress c regs r = record { valid = valid; of = refl; at_port = h; best = best } in
    looked_up net c regs r t (its_unit t)
