-- s_arp: one port alone answers for an address.
use Rattle.std.specs.Prelude.{◌≡◌, ◌∷◌, [], ◌&&◌, true, false, nat_eq, flat_map, Some}
use Rattle.std.proofs.Common.{refl, sym, ap, ◌∙◌, subst, inl, inr}
use Rattle.std.proofs.lemmas.Bool.{and_parts, false≢true}
use Rattle.std.proofs.lemmas.Option.{same_Some}
use Rattle.ovn_base.proofs.AmongLaws.{among_cases, flat_map_among}
use Rattle.ovn_base.specs.declared.address.Ip4.{Ip4}
use Rattle.ovn_base.specs.declared.address.Mac.{Mac}
use Rattle.ovn_base.specs.declared.name.Name.{Name}
use Rattle.ovn_base.specs.lists.Among.{Among}
use Rattle.ovn_base.specs.names.ByName.{at}
use Rattle.inet_packet.specs.declared.regs.Regs.{Regs}
use Rattle.nb_records.specs.Network.{Network}
use Rattle.nb_records.specs.Switches.{is_virtual, mac_of_ip}
use Rattle.nb_records.specs.declared.switch.SwitchPort.{SwitchPort}
use Rattle.logical_flows.specs.declared.flow.LFlow.{LFlow}
use Rattle.logical_flows.specs.declared.stage.Stage.TheVariants as stage
use Rattle.stage_rows.specs.Facts.{port_ips}
use Rattle.stage_rows.specs.Rows.{in_is, asks_for, pass_row, match_row, base_row, go_on, on_some}
use Rattle.stage_rows.specs.SwitchRows.{answer_actions, address_arp}
use Rattle.net_model.specs.Headers.{asked_ip}
use Rattle.net_model.specs.Sights.{Sight, roster_of}
use Rattle.row_laws.proofs.agreeing.TwoRows.{AreTaken, same_priority, law_by}
use Rattle.row_laws.proofs.records.SwitchPorts.{virtual_holds, ip_ok}
use Rattle.row_laws.proofs.records.ValidPorts.{own_place, one_ip_holder}
use Rattle.row_laws.proofs.terms.PacketTerms.{asks_from}
use Rattle.row_laws.proofs.units.RowUnits.{SwitchRow, by_port, by_rule, by_balancer, by_switch, in_when, in_some}
use Rattle.row_laws.proofs.units.TakenRow.{among_one, terms_hold}
use Rattle.row_laws.specs.AgreeAnywhere.{AgreeAnywhereLaw}
use Rattle.row_laws.specs.Rows.{RowHolds}

module _ (net : Network) (d : Name) (regs : Regs) (sight : Sight) (r q : LFlow) (t : AreTaken net stage.SwitchArp d regs sight r q) where
  -- a row lets the packet pass, or answers for a port of the switch that has the address
  record IsAnswer (row : LFlow) : Type 0 where
    port : SwitchPort
    there' : at net.switch_ports port.name ≡ Some port
    on : port.switch ≡ d
    virtual : is_virtual port ≡ true
    ip : Ip4
    listed : Among ip (port_ips port)
    mac : Mac
    known : mac_of_ip ip port ≡ Some mac
    asked : asked_ip sight.packet ≡ Some ip
    answers : row.actions ≡ answer_actions mac ip

  data Kind (row : LFlow) : Type 0 where
    passes : nat_eq row.priority 50 ≡ false → row.actions ≡ go_on stage.SwitchArp ∷ [] → Kind row
    answers : nat_eq row.priority 50 ≡ true → IsAnswer row → Kind row

  of_address : (row : LFlow) → RowHolds (roster_of net) regs sight row → (x : Name) (port : SwitchPort) → at net.switch_ports x ≡ Some port → port.switch ≡ d → is_virtual port ≡ true
      → (ip : Ip4) (mac : Mac) → Among ip (port_ips port) → mac_of_ip ip port ≡ Some mac → Among row (address_arp port ip mac) → Kind row
  of_address row holds x port is on virtual ip mac listed known m =
      elim (among_cases row (pass_row stage.SwitchArp 100 (in_is port.name ∷ asks_for ip)) (match_row stage.SwitchArp 50 (asks_for ip) (answer_actions mac ip) ∷ []) m) [
        | inl e ↦ passes (ap (λ (z : LFlow). nat_eq z.priority 50) e) (ap (λ (z : LFlow). z.actions) e)
        | inr n ↦
            let e = among_one row (match_row stage.SwitchArp 50 (asks_for ip) (answer_actions mac ip)) n in
            let say = terms_hold net stage.SwitchArp sight regs row holds 50 (asks_for ip) (answer_actions mac ip) e in
            answers (ap (λ (z : LFlow). nat_eq z.priority 50) e) (record {
              port = port;
              there' = own_place net t.valid x port is;
              on = on;
              virtual = virtual;
              ip = ip;
              listed = listed;
              mac = mac;
              known = known;
              asked = asks_from (roster_of net) sight t.fields ip (ip_ok net t.valid x port is ip listed) say;
              answers = ap (λ (z : LFlow). z.actions) e;
            })
      ]

  kind : (row : LFlow) → RowHolds (roster_of net) regs sight row → SwitchRow net stage.SwitchArp d row → Kind row
  kind row holds (by_port x port is on m) =
      let k = in_when row (is_virtual port && port.enabled) (flat_map (λ ip. on_some (mac_of_ip ip port) (address_arp port ip)) (port_ips port)) m in
      let ip = flat_map_among (λ ip. on_some (mac_of_ip ip port) (address_arp port ip)) row (port_ips port) k.1 in
      let mac = in_some row (mac_of_ip ip.0 port) (address_arp port ip.0) ip.2 in
      of_address row holds x port is on (and_parts (is_virtual port) port.enabled k.0).0 ip.0 mac.0 ip.1 mac.1 mac.2
  kind row holds (by_rule x y is on m) = elim m [ ]
  kind row holds (by_balancer x y is m) = elim m [ ]
  kind row holds (by_switch m) =
      let e = among_one row (base_row stage.SwitchArp) m in
      passes (ap (λ (z : LFlow). nat_eq z.priority 50) e) (ap (λ (z : LFlow). z.actions) e)

  one_answer : IsAnswer r → IsAnswer q → r.actions ≡ q.actions
  one_answer x y =
      let ip : x.ip ≡ y.ip = same_Some x.ip y.ip (sym x.asked ∙ y.asked) in
      let port : x.port ≡ y.port =
      one_ip_holder net t.valid x.ip x.port.name y.port.name x.port y.port x.there' y.there' (x.on ∙ sym y.on) (virtual_holds net x.port x.ip x.virtual x.listed)
      (virtual_holds net y.port x.ip y.virtual (subst (λ (z : Ip4). Among z (port_ips y.port)) (sym ip) y.listed)) in
      let mac : x.mac ≡ y.mac = same_Some x.mac y.mac (sym x.known ∙ (λ i. mac_of_ip (ip i) (port i)) ∙ y.known) in
      x.answers ∙ (λ i. answer_actions (mac i) (ip i)) ∙ sym y.answers

  agree : Kind r → Kind q → r.actions ≡ q.actions
  agree (passes h k) (passes l m) = k ∙ sym m
  agree (passes h k) (answers l y) = absurd (false≢true (sym h ∙ ap (λ n. nat_eq n 50) (same_priority t) ∙ l))
  agree (answers h x) (passes l m) = absurd (false≢true (sym l ∙ ap (λ n. nat_eq n 50) (sym (same_priority t)) ∙ h))
  agree (answers h x) (answers l y) = one_answer x y

  answered : SwitchRow net stage.SwitchArp d r → SwitchRow net stage.SwitchArp d q → r.actions ≡ q.actions
  answered first second = agree (kind r t.first.holds_here first) (kind q t.second.holds_here second)

pub arp_agrees : AgreeAnywhereLaw stage.SwitchArp
arp_agrees = law_by stage.SwitchArp refl answered
