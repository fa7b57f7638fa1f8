-- r_input: one port of a router answers, the one of entry, and what else is done is told by the priority.
use Rattle.std.specs.Prelude.{◌≡◌, ◌∷◌, [], ℕ, true, false, cond, nat_eq, map, List, Some}
use Rattle.std.proofs.Common.{refl, sym, ap, ◌∙◌, inl, inr}
use Rattle.std.proofs.lemmas.Bool.{and_parts, false≢true}
use Rattle.std.proofs.lemmas.Option.{same_Some}
use Rattle.ovn_base.proofs.AmongLaws.{among_all, among_append, map_among}
use Rattle.ovn_base.specs.declared.address.Ip4.{Ip4}
use Rattle.ovn_base.specs.declared.name.Name.{Name}
use Rattle.ovn_base.specs.names.ByName.{at}
use Rattle.flow_table.specs.declared.flow.Cause.TheVariants as cause
use Rattle.inet_packet.specs.declared.regs.Reg.TheVariants as reg
use Rattle.inet_packet.specs.declared.regs.Regs.{Regs}
use Rattle.nb_records.specs.Network.{Network}
use Rattle.nb_records.specs.declared.router.RouterPort.{RouterPort}
use Rattle.logical_flows.specs.declared.action.Action.{Action}
use Rattle.logical_flows.specs.declared.action.Action.TheVariants as a
use Rattle.logical_flows.specs.declared.flow.LFlow.{LFlow}
use Rattle.logical_flows.specs.declared.stage.Stage.TheVariants as stage
use Rattle.stage_rows.specs.Facts.{own_ips, answered_ips}
use Rattle.stage_rows.specs.RouterRows.{answered_input, echo_input, router_input}
use Rattle.stage_rows.specs.Rows.{in_is, asks_for, go_on}
use Rattle.stage_rows.specs.SwitchRows.{answer_actions}
use Rattle.net_model.specs.Headers.{asked_ip}
use Rattle.net_model.specs.Sights.{Sight, holds_at, is_live_one}
use Rattle.row_laws.proofs.agreeing.TwoRouterRows.{AreTakenThere, OwnRow, of_port, of_route, of_neighbour, of_router, same_priority, terms_hold, one_port}
use Rattle.row_laws.proofs.records.AnsweredIps.{answered_ok}
use Rattle.row_laws.proofs.routers.TakenAtRouter.{own_place}
use Rattle.row_laws.proofs.terms.PacketTerms.{asks_from}
use Rattle.row_laws.proofs.terms.Terms.{says_in}
use Rattle.row_laws.specs.Rows.{RowHolds}
use Rattle.row_laws.specs.routers.RouterCopies.{router_roster}

module _ (net : Network) (d : Name) (regs : Regs) (sight : Sight) (r q : LFlow) (t : AreTakenThere net stage.RouterInput d regs sight r q) where
  -- what a row of the priority does, where it answers no request
  abbrev told : ℕ → List Action
  told p =
      cond (nat_eq p 90) (a.Drop cause.Arp ∷ []) (cond (nat_eq p 80) (a.Drop cause.BadIp ∷ []) (cond (nat_eq p 70) (a.EchoReply ∷ a.Set reg.Own 1 ∷ a.Go 13 ∷ []) (cond (nat_eq p 60) (a.Drop cause.Ttl ∷ []) (cond (nat_eq p 50) (go_on stage.RouterInput ∷ []) (a.Drop cause.NotIp4 ∷ [])))))

  -- a row that answers is that of the port of entry and the address that is asked for
  record IsAnswer (row : LFlow) : Type 0 where
    port : RouterPort
    there' : at net.router_ports port.name ≡ Some port
    entry : is_live_one (Some sight.in_port) ((router_roster net).live port.name) ≡ true
    ip : Ip4
    asked : asked_ip sight.packet ≡ Some ip
    answers : row.actions ≡ answer_actions port.mac ip

  data Kind (row : LFlow) : Type 0 where
    does : nat_eq row.priority 100 ≡ false → row.actions ≡ told row.priority → Kind row
    answers : nat_eq row.priority 100 ≡ true → IsAnswer row → Kind row

  abbrev IsTold : LFlow → Type 0
  IsTold row = (nat_eq row.priority 100 ≡ false) × (row.actions ≡ told row.priority)

  does_so : (row : LFlow) → IsTold row → Kind row
  does_so row h = does h.0 h.1

  echo_told : (row : LFlow) (ip : Ip4) → row ≡ echo_input ip → IsTold row
  echo_told row ip e = (ap (λ (z : LFlow). nat_eq z.priority 100) e, ap (λ (z : LFlow). z.actions) e ∙ sym (ap (λ (z : LFlow). told z.priority) e))

  kind : (row : LFlow) → RowHolds (router_roster net) regs sight row → OwnRow net stage.RouterInput d row → Kind row
  kind row holds (of_port name port is on m) = elim (among_append row (map (answered_input port) (answered_ips net port)) (map echo_input (own_ips port)) m) [
    | inl n ↦
        let ip = map_among (answered_input port) row (answered_ips net port) n in
        let two = and_parts (holds_at (router_roster net) sight (in_is port.name)) _ (terms_hold net stage.RouterInput sight regs row holds 100 (in_is port.name ∷ asks_for ip.0) (answer_actions port.mac ip.0) ip.2) in
        answers (ap (λ (z : LFlow). nat_eq z.priority 100) ip.2) (record {
          port = port;
          there' = own_place net t.valid name port is;
          entry = sym (says_in (router_roster net) sight port.name) ∙ two.0;
          ip = ip.0;
          asked = asks_from (router_roster net) sight t.fields ip.0 (answered_ok net t.valid name port is ip.0 ip.1) two.1;
          answers = ap (λ (z : LFlow). z.actions) ip.2;
        })
    | inr n ↦ let ip = map_among echo_input row (own_ips port) n in does_so row (echo_told row ip.0 ip.2)
  ]
  kind row holds (of_route name x is on m) = elim m [ ]
  kind row holds (of_neighbour name port is on ip mac known m) = elim m [ ]
  kind row holds (of_router x is m) = does_so row (among_all IsTold row router_input ((refl, refl), ((refl, refl), ((refl, refl), ((refl, refl), ((refl, refl), tt))))) m)

  one_answer : IsAnswer r → IsAnswer q → r.actions ≡ q.actions
  one_answer x y =
      let port : x.port ≡ y.port = one_port net t.valid (Some sight.in_port) x.port y.port x.there' y.there' x.entry y.entry in
      let ip : x.ip ≡ y.ip = same_Some x.ip y.ip (sym x.asked ∙ y.asked) in
      x.answers ∙ (λ i. answer_actions (port i).mac (ip i)) ∙ sym y.answers

  agree : Kind r → Kind q → r.actions ≡ q.actions
  agree (does h k) (does l m) = k ∙ ap told (same_priority t) ∙ sym m
  agree (does h k) (answers l y) = absurd (false≢true (sym h ∙ ap (λ n. nat_eq n 100) (same_priority t) ∙ l))
  agree (answers h x) (does l m) = absurd (false≢true (sym l ∙ ap (λ n. nat_eq n 100) (sym (same_priority t)) ∙ h))
  agree (answers h x) (answers l y) = one_answer x y

  pub taken_in : OwnRow net stage.RouterInput d r → OwnRow net stage.RouterInput d q → r.actions ≡ q.actions
  taken_in first second = agree (kind r t.first.holds_here first) (kind q t.second.holds_here second)
