-- s_state_in and s_state_out: one row of connections and verdicts, and one backend list of a virtual address.
use Rattle.std.specs.Prelude.{◌≡◌, ◌<◌, ◌^◌, ◌==◌, ◌&&◌, ◌∷◌, [], ℕ, true, false, filter, Some}
use Rattle.std.specs.List.{list_all}
use Rattle.std.proofs.Common.{refl, sym, ap, ◌∙◌, subst, arith}
use Rattle.std.proofs.Math.Bool.{and-true}
use Rattle.std.proofs.lemmas.Bool.{and_parts, eqb-true, or_left}
use Rattle.ovn_base.proofs.AmongLaws.{among_all, map_among}
use Rattle.ovn_base.specs.declared.address.Backend.{Backend}
use Rattle.ovn_base.specs.declared.name.Name.{Name}
use Rattle.ovn_base.specs.lists.Among.{Among}
use Rattle.ovn_base.specs.names.ByName.{at}
use Rattle.flow_table.specs.declared.flow.ZoneOf.TheVariants as zone
use Rattle.inet_packet.specs.Fields as field
use Rattle.inet_packet.specs.declared.packet.Packet.{Packet}
use Rattle.inet_packet.specs.declared.regs.Regs.{Regs}
use Rattle.match_cubes.specs.Asked.{number_in}
use Rattle.match_cubes.specs.Holds.{has_needs}
use Rattle.match_cubes.specs.Suited.{HasFieldsInRange}
use Rattle.match_language.specs.Tables.{field_bits, is_port_field}
use Rattle.match_language.specs.declared.expr.Expr.TheVariants as e
use Rattle.match_language.specs.declared.field.Field.{Field}
use Rattle.match_language.specs.declared.field.Field.TheVariants as f
use Rattle.match_language.specs.declared.field.Predicate.TheVariants as p
use Rattle.nb_records.specs.Grammar.{IsBackend, IsVip}
use Rattle.nb_records.specs.Network.{Network, is_online}
use Rattle.nb_records.specs.Switches.{is_named}
use Rattle.nb_records.specs.declared.balancer.BalancerProtocol.{BalancerProtocol}
use Rattle.nb_records.specs.declared.balancer.BalancerProtocol.TheVariants as balanced
use Rattle.nb_records.specs.declared.balancer.LoadBalancer.{LoadBalancer}
use Rattle.nb_records.specs.declared.balancer.Vip.{Vip}
use Rattle.logical_flows.specs.declared.action.Action.TheVariants as a
use Rattle.logical_flows.specs.declared.flow.LFlow.{LFlow}
use Rattle.logical_flows.specs.declared.stage.Stage.TheVariants as stage
use Rattle.stage_rows.specs.BalancerRows.{to_vip, switch_vip_row, switch_vips}
use Rattle.stage_rows.specs.Rows.{field_is, ip_is, go_on, when}
use Rattle.net_model.specs.Headers.{carries_ip4}
use Rattle.net_model.specs.Sights.{Sight, Roster, roster_of, no_regs}
use Rattle.row_laws.proofs.agreeing.StateRows.{one_state_row, no_vip_priority}
use Rattle.row_laws.proofs.agreeing.TwoRows.{AreTaken, same_priority, law_by}
use Rattle.row_laws.proofs.records.VipHolders.{IsServing, one_balancer, one_of_vips, balancer_ok, name_of_balancer}
use Rattle.row_laws.proofs.terms.Terms.{says, says_all, says_is, whole, small}
use Rattle.row_laws.proofs.units.RowUnits.{SwitchRow, by_port, by_rule, by_balancer, by_switch, in_when}
use Rattle.row_laws.specs.AgreeAnywhere.{AgreeAnywhereLaw}
use Rattle.row_laws.specs.Rows.{RowHolds}

-- ---- virtual addresses to which a packet goes

abbrev pub proto_of : BalancerProtocol → ℕ
proto_of balanced.Tcp = 6
proto_of balanced.Udp = 17

abbrev pub port_of : BalancerProtocol → Packet → ℕ
port_of balanced.Tcp packet = field.tcp_dst packet.body
port_of balanced.Udp packet = field.udp_dst packet.body

-- what the terms of a virtual address ask of a packet: the protocol's number and the destination
pub record GoesAt (packet : Packet) (kind : BalancerProtocol) (at : Backend) : Type 0 where
  pub ip : field.ip4_dst packet.body ≡ at.ip.0
  pub proto : field.ip_proto packet.body ≡ proto_of kind
  pub port : port_of kind packet ≡ at.port

module _ (who : Roster) (s : Sight) (range : HasFieldsInRange s.packet) where
  -- the field is there, and has the number
  has : (g : Field) → is_port_field g ≡ false → (n : ℕ) → n < 2 ^ field_bits g → says who s (field_is g n) ≡ true → (has_needs g no_regs s.packet ≡ true) × (number_in g no_regs s.packet ≡ n)
  has g other n fit h =
      let parts = and_parts (has_needs g no_regs s.packet) (number_in g no_regs s.packet == n) (sym (says_is who s range g other n fit) ∙ h) in
      (parts.0, eqb-true (number_in g no_regs s.packet) n parts.1)

  tcp_needs : has_needs f.TcpDst no_regs s.packet ≡ (carries_ip4 s.packet && (field.ip_proto s.packet.body == 6))
  tcp_needs = λ i. whole 16 (field.ether_type s.packet.body) 0x800 (small who s range f.EthType refl 16 refl) (omega arith) i && (and-true _ ∙ whole 8 (field.ip_proto s.packet.body) 6 (small who s range f.IpProto refl 8 refl) (omega arith)) i

  udp_needs : has_needs f.UdpDst no_regs s.packet ≡ (carries_ip4 s.packet && (field.ip_proto s.packet.body == 17))
  udp_needs = λ i. whole 16 (field.ether_type s.packet.body) 0x800 (small who s range f.EthType refl 16 refl) (omega arith) i && (and-true _ ∙ whole 8 (field.ip_proto s.packet.body) 17 (small who s range f.IpProto refl 8 refl) (omega arith)) i

  pub goes : (kind : BalancerProtocol) (at : Backend) → IsBackend at → list_all (says who s) (to_vip kind at) ≡ true → GoesAt s.packet kind at
  goes balanced.Tcp at ok h =
      let one = and_parts (says who s (e.Is p.Tcp)) _ h in
      let two = and_parts (says who s (ip_is f.Ip4Dst at.ip)) _ one.1 in
      let port = has f.TcpDst refl at.port ok.few (and_parts (says who s (field_is f.TcpDst at.port)) true two.1).0 in
      let proto = and_parts (carries_ip4 s.packet) _ (sym tcp_needs ∙ port.0) in
      record { ip = (has f.Ip4Dst refl at.ip.0 ok.ip two.0).1; proto = eqb-true (field.ip_proto s.packet.body) 6 proto.1; port = port.1 }
  goes balanced.Udp at ok h =
      let one = and_parts (says who s (e.Is p.Udp)) _ h in
      let two = and_parts (says who s (ip_is f.Ip4Dst at.ip)) _ one.1 in
      let port = has f.UdpDst refl at.port ok.few (and_parts (says who s (field_is f.UdpDst at.port)) true two.1).0 in
      let proto = and_parts (carries_ip4 s.packet) _ (sym udp_needs ∙ port.0) in
      record { ip = (has f.Ip4Dst refl at.ip.0 ok.ip two.0).1; proto = eqb-true (field.ip_proto s.packet.body) 17 proto.1; port = port.1 }

pub one_kind : (x y : BalancerProtocol) → proto_of x ≡ proto_of y → x ≡ y
one_kind balanced.Tcp balanced.Tcp h = refl
one_kind balanced.Udp balanced.Udp h = refl
one_kind balanced.Tcp balanced.Udp h = absurd (omega (arith, h))
one_kind balanced.Udp balanced.Tcp h = absurd (omega (arith, h))

pub one_place : (packet : Packet) (x y : BalancerProtocol) (v w : Backend) → x ≡ y → GoesAt packet x v → GoesAt packet y w → v ≡ w
one_place packet x y v w same h k =
    let ip : v.ip.0 ≡ w.ip.0 = sym h.ip ∙ k.ip in
    let port : v.port ≡ w.port = sym h.port ∙ ap (λ z. port_of z packet) same ∙ k.port in
    λ i. record { ip = record { 0 = ip i }; port = port i }

-- ---- s_state_in

module _ (net : Network) (d : Name) (regs : Regs) (sight : Sight) (r q : LFlow) (t : AreTaken net stage.SwitchStateIn d regs sight r q) where
  abbrev Serves : Name → LoadBalancer → Type 0
  Serves = IsServing net t.valid d t.switch t.there'

  -- a row of a balancer that holds
  record IsVipRow (row : LFlow) : Type 0 where
    name : Name
    balancer : LoadBalancer
    serving : Serves name balancer
    vip : Vip
    among : Among vip balancer.vips
    is : row ≡ switch_vip_row (is_online net name) balancer.protocol vip
    to : GoesAt sight.packet balancer.protocol vip.at

  vip_row : (row : LFlow) → RowHolds (roster_of net) regs sight row → (name : Name) (x : LoadBalancer) → at net.load_balancers name ≡ Some x
      → Among row (when (is_named d x.switches) (switch_vips (is_online net name) x)) → IsVipRow row
  vip_row row holds name x is m =
      let k = in_when row (is_named d x.switches) (switch_vips (is_online net name) x) m in
      let v = map_among (switch_vip_row (is_online net name) x.protocol) row x.vips k.1 in
      let own : RowHolds (roster_of net) regs sight (switch_vip_row (is_online net name) x.protocol v.0) = subst (λ (z : LFlow). RowHolds (roster_of net) regs sight z) v.2 holds in
      let ok = (among_all IsVip v.0 x.vips (balancer_ok net t.valid d t.switch t.there' name x is).vips.each v.1).0 in
      record {
        name = name;
        balancer = x;
        serving = record { there' = is; serves = or_left (is_named d x.switches) (is_named d x.routers) k.0 };
        vip = v.0;
        among = v.1;
        is = v.2;
        to = goes (roster_of net) sight t.fields x.protocol v.0.at ok (sym (says_all (roster_of net) sight (to_vip x.protocol v.0.at)) ∙ own.matching);
      }

  -- two of them are of one balancer
  one_vip_row : IsVipRow r → IsVipRow q → r.actions ≡ q.actions
  one_vip_row x y =
      let kind = one_kind x.balancer.protocol y.balancer.protocol (sym x.to.proto ∙ y.to.proto) in
      let place = one_place sight.packet x.balancer.protocol y.balancer.protocol x.vip.at y.vip.at kind x.to y.to in
      let one : x.balancer ≡ y.balancer = one_balancer net t.valid d t.switch t.there' x.name y.name x.balancer y.balancer x.serving y.serving kind x.vip y.vip x.among y.among place in
      let name : x.name ≡ y.name =
      sym (name_of_balancer net t.valid d t.switch t.there' x.name x.balancer x.serving.there') ∙ ap (λ (z : LoadBalancer). z.name) one ∙ name_of_balancer net t.valid d t.switch t.there' y.name y.balancer y.serving.there' in
      let vip : x.vip ≡ y.vip = one_of_vips net t.valid d t.switch t.there' y.name y.balancer y.serving.there' x.vip y.vip (subst (λ (z : LoadBalancer). Among x.vip z.vips) one x.among) y.among place in
      ap (λ (z : LFlow). z.actions) x.is
      ∙ (λ i. a.Balance zone.In (vip i).at (filter (is_online net (name i)) (vip i).backends) ∷ go_on stage.SwitchStateIn ∷ [])
      ∙ sym (ap (λ (z : LFlow). z.actions) y.is)

  vip_priority : (row : LFlow) → IsVipRow row → row.priority ≡ 55
  vip_priority row x = ap (λ (z : LFlow). z.priority) x.is

  decided : SwitchRow net stage.SwitchStateIn d r → SwitchRow net stage.SwitchStateIn d q → r.actions ≡ q.actions
  decided (by_port x port is on m) other = elim m [ ]
  decided (by_rule x y is on m) other = elim m [ ]
  decided (by_balancer x y is m) (by_port z port is' on n) = elim n [ ]
  decided (by_balancer x y is m) (by_rule z w is' on n) = elim n [ ]
  decided (by_balancer x y is m) (by_balancer z w is' n) = one_vip_row (vip_row r t.first.holds_here x y is m) (vip_row q t.second.holds_here z w is' n)
  decided (by_balancer x y is m) (by_switch n) =
      absurd (no_vip_priority stage.SwitchStateIn zone.In _ q n (sym (same_priority t) ∙ vip_priority r (vip_row r t.first.holds_here x y is m)))
  decided (by_switch m) (by_port z port is' on n) = elim n [ ]
  decided (by_switch m) (by_rule z w is' on n) = elim n [ ]
  decided (by_switch m) (by_balancer z w is' n) =
      absurd (no_vip_priority stage.SwitchStateIn zone.In _ r m (same_priority t ∙ vip_priority q (vip_row q t.second.holds_here z w is' n)))
  decided (by_switch m) (by_switch n) =
      ap (λ (z : LFlow). z.actions) (one_state_row stage.SwitchStateIn zone.In regs _ r q m n t.first.holds_here.registers t.second.holds_here.registers (same_priority t))

pub state_in_agrees : AgreeAnywhereLaw stage.SwitchStateIn
state_in_agrees = law_by stage.SwitchStateIn refl decided

-- ---- s_state_out

pub state_out_agrees : AgreeAnywhereLaw stage.SwitchStateOut
state_out_agrees = law_by stage.SwitchStateOut refl two
  where
    two : (net : Network) (d : Name) (regs : Regs) (sight : Sight) (r q : LFlow) → AreTaken net stage.SwitchStateOut d regs sight r q → SwitchRow net stage.SwitchStateOut d r → SwitchRow net stage.SwitchStateOut d q → r.actions ≡ q.actions
    two net d regs sight r q t (by_port x port is on m) other = elim m [ ]
    two net d regs sight r q t (by_rule x y is on m) other = elim m [ ]
    two net d regs sight r q t (by_balancer x y is m) other = elim m [ ]
    two net d regs sight r q t (by_switch m) (by_port z port is' on n) = elim n [ ]
    two net d regs sight r q t (by_switch m) (by_rule z w is' on n) = elim n [ ]
    two net d regs sight r q t (by_switch m) (by_balancer z w is' n) = elim n [ ]
    two net d regs sight r q t (by_switch m) (by_switch n) =
        ap (λ (z : LFlow). z.actions) (one_state_row stage.SwitchStateOut zone.Out regs _ r q m n t.first.holds_here.registers t.second.holds_here.registers (same_priority t))
