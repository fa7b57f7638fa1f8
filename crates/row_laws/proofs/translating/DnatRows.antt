-- r_dnat: rows of known connections have one meaning, one balancer has a virtual address, and one row of NAT a destination.
use Rattle.std.specs.Prelude.{◌≡◌, ◌∷◌, [], true, filter, Some}
use Rattle.std.proofs.Common.{refl, sym, ap, ◌∙◌, subst, arith}
use Rattle.ovn_base.proofs.AmongLaws.{among_all, map_among}
use Rattle.ovn_base.specs.declared.name.Name.{Name}
use Rattle.ovn_base.specs.lists.Among.{Among}
use Rattle.ovn_base.specs.names.ByName.{at}
use Rattle.flow_table.specs.declared.flow.ZoneOf.TheVariants as zone
use Rattle.inet_packet.specs.declared.regs.Regs.{Regs}
use Rattle.match_language.specs.declared.field.Field.TheVariants as f
use Rattle.nb_records.specs.Grammar.{IsVip}
use Rattle.nb_records.specs.Network.{Network, is_online}
use Rattle.nb_records.specs.Routers.{translates_destinations}
use Rattle.nb_records.specs.Switches.{is_named}
use Rattle.nb_records.specs.declared.balancer.LoadBalancer.{LoadBalancer}
use Rattle.nb_records.specs.declared.balancer.Vip.{Vip}
use Rattle.nb_records.specs.declared.router.Nat.{Nat}
use Rattle.logical_flows.specs.declared.action.Action.TheVariants as a
use Rattle.logical_flows.specs.declared.flow.LFlow.{LFlow}
use Rattle.logical_flows.specs.declared.stage.Stage.TheVariants as stage
use Rattle.stage_rows.specs.BalancerRows.{to_vip, router_vip_row, router_vips}
use Rattle.stage_rows.specs.NatRows.{nat_dnat}
use Rattle.stage_rows.specs.RouterRows.{known_dnat, router_dnat}
use Rattle.stage_rows.specs.Rows.{is_new, ip_is, go_on, tracked_row}
use Rattle.net_model.specs.Headers.{dst_of}
use Rattle.net_model.specs.Sights.{Sight}
use Rattle.row_laws.proofs.agreeing.StateStages.{GoesAt, goes, one_kind, one_place}
use Rattle.row_laws.proofs.agreeing.TwoRouterRows.{AreTakenThere, same_priority}
use Rattle.row_laws.proofs.records.NatHolders.{nat_ok, one_destination}
use Rattle.row_laws.proofs.records.VipHolders.{IsServingAt, own_name, in_grammar, one_of_its, one_serving, once_on_router}
use Rattle.row_laws.proofs.routers.OwnIps.{for_from}
use Rattle.row_laws.proofs.routers.RouterUnits.{RouterRow, by_port, by_route, by_neighbour, by_nat, by_balancer, by_router}
use Rattle.row_laws.proofs.terms.Terms.{says_all}
use Rattle.row_laws.proofs.translating.AnyRows.{any_law_by}
use Rattle.row_laws.proofs.units.RowUnits.{in_when}
use Rattle.row_laws.proofs.units.TakenRow.{among_one}
use Rattle.std.proofs.lemmas.Bool.{or_right}
use Rattle.row_laws.specs.AgreeTranslating.{AnyRouterAgreesAnywhereLaw}
use Rattle.row_laws.specs.Rows.{RowHolds}
use Rattle.row_laws.specs.routers.RouterCopies.{router_roster}

-- the row of a row of NAT
abbrev pub dnat_row_of : Nat → LFlow
dnat_row_of x = tracked_row stage.RouterDnat 80 (is_new ∷ []) (ip_is f.Ip4Dst x.external_ip ∷ []) (a.Dnat zone.Dnat x.logical_ip.addr ∷ go_on stage.RouterDnat ∷ [])

module _ (net : Network) (d : Name) (regs : Regs) (sight : Sight) (r q : LFlow) (t : AreTakenThere net stage.RouterDnat d regs sight r q) where
  abbrev Holds : LFlow → Type 0
  Holds row = RowHolds (router_roster net) regs sight row

  -- a row of a balancer, to whose virtual address the packet goes
  record IsVipRow (row : LFlow) : Type 0 where
    name : Name
    balancer : LoadBalancer
    serving : IsServingAt net d name balancer
    vip : Vip
    among : Among vip balancer.vips
    is : row ≡ router_vip_row (is_online net name) balancer.protocol vip
    to : GoesAt sight.packet balancer.protocol vip.at

  -- a row of a row of NAT, to whose address the packet goes
  record IsNatRow (row : LFlow) : Type 0 where
    name : Name
    nat : Nat
    there' : at net.nats name ≡ Some nat
    on : nat.router ≡ d
    translates' : translates_destinations nat.kind ≡ true
    to : dst_of sight.packet ≡ nat.external_ip
    is : row ≡ dnat_row_of nat

  data Kind (row : LFlow) : Type 0 where
    known : row.priority ≡ 100 → row.actions ≡ known_dnat → Kind row
    balances : row.priority ≡ 90 → IsVipRow row → Kind row
    translates : row.priority ≡ 80 → IsNatRow row → Kind row
    passes : row.priority ≡ 0 → row.actions ≡ go_on stage.RouterDnat ∷ [] → Kind row

  -- ---- of which kind a row is

  nat_row : (row : LFlow) → Holds row → (name : Name) (x : Nat) → at net.nats name ≡ Some x → x.router ≡ d → translates_destinations x.kind ≡ true → row ≡ dnat_row_of x → IsNatRow row
  nat_row row holds name x is on translates' e =
      let own : Holds (dnat_row_of x) = subst (λ (z : LFlow). Holds z) e holds in
      record {
        name = name;
        nat = x;
        there' = is;
        on = on;
        translates' = translates';
        to = for_from (router_roster net) sight t.fields x.external_ip (nat_ok net t.valid name x is).external_ip own.matching;
        is = e;
      }

  vip_row : (row : LFlow) → Holds row → (name : Name) (x : LoadBalancer) → at net.load_balancers name ≡ Some x → is_named d x.routers ≡ true → (v : Vip) → Among v x.vips → row ≡ router_vip_row (is_online net name) x.protocol v → IsVipRow row
  vip_row row holds name x is named v m e =
      let own : Holds (router_vip_row (is_online net name) x.protocol v) = subst (λ (z : LFlow). Holds z) e holds in
      let ok = (among_all IsVip v x.vips (in_grammar net t.valid name x is).vips.each m).0 in
      record {
        name = name;
        balancer = x;
        serving = record { there' = is; serves = or_right (is_named d x.switches) (is_named d x.routers) named };
        vip = v;
        among = m;
        is = e;
        to = goes (router_roster net) sight t.fields x.protocol v.at ok (sym (says_all (router_roster net) sight (to_vip x.protocol v.at)) ∙ own.matching);
      }

  kind : (row : LFlow) → Holds row → RouterRow net stage.RouterDnat d row → Kind row
  kind row holds (by_port name port is on m) = elim m [ ]
  kind row holds (by_route name x is on m) = elim m [ ]
  kind row holds (by_neighbour name port is on ip mac mac_is m) = elim m [ ]
  kind row holds (by_nat name x is on m) =
      let k = in_when row (translates_destinations x.kind) (nat_dnat x) m in
      let e : row ≡ dnat_row_of x = among_one row (dnat_row_of x) k.1 in
      translates (ap (λ (z : LFlow). z.priority) e) (nat_row row holds name x is on k.0 e)
  kind row holds (by_balancer name x is m) =
      let k = in_when row (is_named d x.routers) (router_vips (is_online net name) x) m in
      let v = map_among (router_vip_row (is_online net name) x.protocol) row x.vips k.1 in
      balances (ap (λ (z : LFlow). z.priority) v.2) (vip_row row holds name x is k.0 v.0 v.1 v.2)
  kind row holds (by_router x is m) = among_all Kind row router_dnat (known refl refl, (known refl refl, (passes refl refl, tt))) m

  -- ---- two of a kind

  one_vip_row : IsVipRow r → IsVipRow q → r.actions ≡ q.actions
  one_vip_row x y =
      let alike = one_kind x.balancer.protocol y.balancer.protocol (sym x.to.proto ∙ y.to.proto) in
      let place = one_place sight.packet x.balancer.protocol y.balancer.protocol x.vip.at y.vip.at alike x.to y.to in
      let once = once_on_router net t.valid d t.router t.there' in
      let one : x.balancer ≡ y.balancer = one_serving net t.valid d once x.name y.name x.balancer y.balancer x.serving y.serving alike x.vip y.vip x.among y.among place in
      let name : x.name ≡ y.name = sym (own_name net t.valid x.name x.balancer x.serving.there') ∙ ap (λ (z : LoadBalancer). z.name) one ∙ own_name net t.valid y.name y.balancer y.serving.there' in
      let vip : x.vip ≡ y.vip = one_of_its net t.valid y.name y.balancer y.serving.there' x.vip y.vip (subst (λ (z : LoadBalancer). Among x.vip z.vips) one x.among) y.among place in
      ap (λ (z : LFlow). z.actions) x.is
      ∙ (λ i. a.Balance zone.Dnat (vip i).at (filter (is_online net (name i)) (vip i).backends) ∷ go_on stage.RouterDnat ∷ [])
      ∙ sym (ap (λ (z : LFlow). z.actions) y.is)

  one_nat_row : IsNatRow r → IsNatRow q → r.actions ≡ q.actions
  one_nat_row x y =
      let one : x.nat ≡ y.nat = one_destination net t.valid x.name y.name x.nat y.nat x.there' y.there' (x.on ∙ sym y.on) x.translates' y.translates' (sym x.to ∙ y.to) in
      ap (λ (z : LFlow). z.actions) x.is ∙ ap (λ (n : Nat). (dnat_row_of n).actions) one ∙ sym (ap (λ (z : LFlow). z.actions) y.is)

  agree : Kind r → Kind q → r.actions ≡ q.actions
  agree (known h k) (known l m) = k ∙ sym m
  agree (balances h x) (balances l y) = one_vip_row x y
  agree (translates h x) (translates l y) = one_nat_row x y
  agree (passes h k) (passes l m) = k ∙ sym m
  agree (known h k) (balances l y) = let same = same_priority t in absurd (omega (arith, same, h, l))
  agree (known h k) (translates l y) = let same = same_priority t in absurd (omega (arith, same, h, l))
  agree (known h k) (passes l m) = let same = same_priority t in absurd (omega (arith, same, h, l))
  agree (balances h x) (known l m) = let same = same_priority t in absurd (omega (arith, same, h, l))
  agree (balances h x) (translates l y) = let same = same_priority t in absurd (omega (arith, same, h, l))
  agree (balances h x) (passes l m) = let same = same_priority t in absurd (omega (arith, same, h, l))
  agree (translates h x) (known l m) = let same = same_priority t in absurd (omega (arith, same, h, l))
  agree (translates h x) (balances l y) = let same = same_priority t in absurd (omega (arith, same, h, l))
  agree (translates h x) (passes l m) = let same = same_priority t in absurd (omega (arith, same, h, l))
  agree (passes h k) (known l m) = let same = same_priority t in absurd (omega (arith, same, h, l))
  agree (passes h k) (balances l y) = let same = same_priority t in absurd (omega (arith, same, h, l))
  agree (passes h k) (translates l y) = let same = same_priority t in absurd (omega (arith, same, h, l))

  decided : RouterRow net stage.RouterDnat d r → RouterRow net stage.RouterDnat d q → r.actions ≡ q.actions
  decided first second = agree (kind r t.first.holds_here first) (kind q t.second.holds_here second)

pub any_dnat_agrees : AnyRouterAgreesAnywhereLaw stage.RouterDnat
any_dnat_agrees = any_law_by stage.RouterDnat refl decided
