-- A packet that enters a switch and begins a connection, also one to a virtual address.
use Rattle.std.specs.Prelude.{◌≡◌, ◌==◌, ◌<◌, ◌^◌, ℕ, Bool, true, false, cond, List, [], ◌∷◌, Option, Some, None, option_map, refl}
use Rattle.std.specs.List.{filter, find}
use Rattle.std.specs.Map.{values_of}
use Rattle.std.specs.Option.{option_and_then}
use Rattle.std.proofs.Common.{sym, ap, subst}
use Rattle.std.proofs.lemmas.Bool.{false≢true, and_parts, eqb-true}
use Rattle.std.proofs.lemmas.Option.{none-some, same_Some}
use Rattle.conn_table.specs.Connections.{ConnectionList}
use Rattle.conn_table.specs.Picks.{towards, is_free_backend, is_backend, is_backend_of}
use Rattle.conn_table.specs.Tracking.{new, seen}
use Rattle.conn_table.specs.Tuples.{tuple_of, is_echo_reply}
use Rattle.conn_table.specs.declared.tuple.Protocol.{Protocol}
use Rattle.conn_table.specs.declared.tuple.Protocol.TheVariants as protocol
use Rattle.conn_table.specs.declared.tuple.Tuple.{Tuple}
use Rattle.inet_packet.specs.declared.packet.Packet.{Packet}
use Rattle.logical_flows.specs.Stages.{stage_table}
use Rattle.logical_flows.specs.declared.action.Action.{Action}
use Rattle.logical_flows.specs.declared.stage.Pipeline.TheVariants.{Ingress}
use Rattle.logical_flows.specs.declared.stage.Stage.TheVariants as stage
use Rattle.match_language.specs.declared.field.Direction.TheVariants.{FromLport}
use Rattle.nb_records.specs.Grammar.{IsBackend, IsVip}
use Rattle.nb_records.specs.Network.{Network, is_online}
use Rattle.nb_records.specs.Switches.{is_virtual, serves_at, balancers_of}
use Rattle.nb_records.specs.declared.balancer.BalancerProtocol.{BalancerProtocol}
use Rattle.nb_records.specs.declared.balancer.BalancerProtocol.TheVariants as balanced
use Rattle.nb_records.specs.declared.balancer.LoadBalancer.{LoadBalancer}
use Rattle.nb_records.specs.declared.balancer.Vip.{Vip}
use Rattle.nb_records.specs.declared.switch.SwitchPort.{SwitchPort}
use Rattle.nb_rules.specs.Valid.{IsValid}
use Rattle.net_model.specs.Balancing.{Service, serves_protocol, is_to_vip, service_in, service_for, pick_backend}
use Rattle.net_model.specs.Entry.{sight_in}
use Rattle.net_model.specs.Tracking.{Passage, desk_of, begin, begin_to}
use Rattle.net_model.specs.Trail.{Lists, of_port, list_of, finally}
use Rattle.net_model.specs.Verdict.{Verdict}
use Rattle.ovn_base.proofs.AmongLaws.{among_all, filter_among, map_among, any_among}
use Rattle.ovn_base.proofs.ByNameLaws.{among_at}
use Rattle.ovn_base.specs.declared.address.Backend.{Backend}
use Rattle.ovn_base.specs.declared.name.Name.{Name}
use Rattle.ovn_base.specs.lists.Among.{Among}
use Rattle.ovn_base.specs.names.ByName.{at}
use Rattle.row_laws.proofs.records.Searches.{answered_by, found_by}
use Rattle.row_laws.proofs.records.ValidPorts.{on_switch}
use Rattle.row_laws.proofs.records.VipHolders.{balancer_ok}
use Rattle.row_laws.proofs.switch.Passing.{both_filters}
use Rattle.row_laws.specs.Copies.{Copy}
use Rattle.row_laws.specs.StageActions.{begin_in, begin_with}
use Rattle.stage_rows.specs.Rows.{table_behind, go_on}
use Rattle.switch_engine.specs.Commits.{is_balanced}
use Rattle.switch_engine.specs.Zones.{ZoneLists}
use Rattle.switch_engine.specs.declared.carried.Carried.{Carried}
use Rattle.sim_laws.proofs.pipelines.Copies.{reworded}
use Rattle.sim_laws.proofs.pipelines.Noting.{Stands, StandsBy, BeforeStage, Step, Came, own_zone}
use Rattle.sim_laws.proofs.pipelines.Pieces.{comes_same}
use Rattle.sim_laws.proofs.pipelines.Seeing.{tuple_is}
use Rattle.sim_laws.proofs.pipelines.StateBegins.{commit_step, balance_step}
use Rattle.sim_laws.proofs.pipelines.StateCarried.{BeforeState}
use Rattle.sim_laws.proofs.pipelines.TrackJudge.{at_port}
use Rattle.sim_laws.specs.pipelines.HeldLists.{IsTupleWithin}
use Rattle.sim_laws.specs.pipelines.Pieces.{Piece, trail_with}
use Rattle.sim_laws.specs.pipelines.Standing.{Chassis, net_of, course_of, IsLaidOut}
use Rattle.sim_laws.specs.pipelines.WalkOn.{Comes}
use Rattle.sim_laws.specs.routers.TranslatingWords.{Bring}

-- ---- services of a switch

-- a virtual address of a balancer that serves the tuple
pub record IsServed (net : Network) (t : Tuple) (service : Service) : Type 0 where
  pub balancer : LoadBalancer
  pub name : Name
  pub there : at net.load_balancers name ≡ Some balancer
  pub serves : serves_protocol balancer.protocol t.protocol ≡ true
  pub vip : Among service.vip balancer.vips

module _ (net : Network) (valid : IsValid net) (d : Name) (t : Tuple) where
  served_vip : (b : LoadBalancer) (o : Option Vip) → find (is_to_vip t) b.vips ≡ o → (service : Service) → option_map (λ (v : Vip). record { balancer = b.name; vip = v }) o ≡ Some service → Among service.vip b.vips
  served_vip b None is service h = absurd (none-some service h)
  served_vip b (Some v) is service h = subst (λ (x : Service). Among x.vip b.vips) (same_Some (record { balancer = b.name; vip = v }) service h) (found_by (is_to_vip t) b.vips v is).0

  served_by : (b : LoadBalancer) (k : Bool) → serves_protocol b.protocol t.protocol ≡ k → (service : Service)
      → cond k (option_map (λ (v : Vip). record { balancer = b.name; vip = v }) (find (is_to_vip t) b.vips)) None ≡ Some service → (serves_protocol b.protocol t.protocol ≡ true) × Among service.vip b.vips
  served_by b true is service h = (is, served_vip b (find (is_to_vip t) b.vips) refl service h)
  served_by b false is service h = absurd (none-some service h)

  pub is_served : (service : Service) → service_for net d t ≡ Some service → IsServed net t service
  is_served service h =
      let a = answered_by (service_in t) (balancers_of net d) service h in
      let e = map_among (λ (x : Name × LoadBalancer). x.1) a.0 net.load_balancers (filter_among (serves_at d) a.0 (values_of net.load_balancers) a.1).0 in
      let by = served_by a.0 (serves_protocol a.0.protocol t.protocol) refl service a.2 in
      record {
        balancer = a.0;
        name = e.0.0;
        there = subst (λ (b : LoadBalancer). at net.load_balancers e.0.0 ≡ Some b) (sym e.2) (among_at e.0.0 e.0.1 net.load_balancers valid.in_order.load_balancers e.1);
        serves = by.0;
        vip = by.1;
      }

-- only TCP and UDP are served
pub served_protocol : (k : BalancerProtocol) (p : Protocol) → serves_protocol k p ≡ true → is_balanced p ≡ true
served_protocol balanced.Tcp protocol.Tcp h = refl
served_protocol balanced.Udp protocol.Udp h = refl
served_protocol balanced.Tcp protocol.Udp h = absurd (false≢true h)
served_protocol balanced.Tcp protocol.EchoRequest h = absurd (false≢true h)
served_protocol balanced.Tcp protocol.EchoReply h = absurd (false≢true h)
served_protocol balanced.Tcp (protocol.Other n) h = absurd (false≢true h)
served_protocol balanced.Udp protocol.Tcp h = absurd (false≢true h)
served_protocol balanced.Udp protocol.EchoRequest h = absurd (false≢true h)
served_protocol balanced.Udp protocol.EchoReply h = absurd (false≢true h)
served_protocol balanced.Udp (protocol.Other n) h = absurd (false≢true h)

-- a backend that is one of good ones is good
pub record IsBackendWithin (b : Backend) : Type 0 where
  pub ip : b.ip.0 < 2 ^ 32
  pub port : b.port < 2 ^ 16

pub one_of_good : (bs : List Backend) → ((x : Backend) → Among x bs → IsBackendWithin x) → (b : Backend) → is_backend_of bs b ≡ true → IsBackendWithin b
one_of_good bs each b h =
    let x = any_among (is_backend b) bs h in
    let same = and_parts (b.ip.0 == x.0.ip.0) (b.port == x.0.port) x.2 in
    let good = each x.0 x.1 in
    record {
      ip = subst (λ (n : ℕ). n < 2 ^ 32) (sym (eqb-true b.ip.0 x.0.ip.0 same.0)) good.ip;
      port = subst (λ (n : ℕ). n < 2 ^ 16) (sym (eqb-true b.port x.0.port same.1)) good.port;
    }

-- ---- how a connection begins

module _ (s : Chassis) (laid : IsLaidOut s) (first : Carried) (i : SwitchPort) (p : Packet) (v : Verdict) (lists : Lists) (zones : ZoneLists) (copy : Carried)
    (h : StandsBy s Ingress (stage_table stage.SwitchStateIn) first (at_port i (sight_in i p) lists v true) lists zones copy)
    (virtual : is_virtual i ≡ true) (Goes : Lists → Packet → ZoneLists → Carried → Type 0)
    (so : (after : Lists) (q : Packet) (last : ZoneLists) (next : Carried)
    → Stands s Ingress (table_behind stage.SwitchStateIn) first (reworded (at_port i (sight_in i p) lists v true) q (at_port i (sight_in i p) lists v true).words) after last next → Goes after q last next) where
  abbrev here : Copy
  here = at_port i (sight_in i p) lists v true

  abbrev before : BeforeStage s
  before = record { stage = stage.SwitchStateIn; way = Ingress; first = first; c = here; lists = lists; zones = zones; copy = copy; here = h.here; place = λ regs. refl }

  abbrev in_state : BeforeState s
  in_state = record { before = before; has_zone = h.here.stands.zone virtual; own = own_zone s h.here.stands virtual; dir = FromLport; verdict = v; Goes = Goes; so = so }

  abbrev passage : Passage
  passage = record { net = net_of s; now = s.scene.now; way = FromLport; port = i; verdict = v }

  abbrev StepOf : List Action → Type 1
  StepOf actions = Step s before actions

  abbrev CameBy : Piece Packet → Type 0
  CameBy piece = Came s before piece Goes

  abbrev own : ConnectionList
  own = list_of lists (of_port i.name)

  module _ (t : Tuple) (is : seen own p ≡ new t) (has : tuple_of p ≡ Some t) (plain : is_echo_reply t.protocol ≡ false) where
    -- the backends of a service have their numbers in range
    backends_within : (service : Service) → service_for (net_of s) i.switch t ≡ Some service
        → (b : Backend) → is_backend_of (filter (is_free_backend own t) (filter (is_online (net_of s) service.balancer) service.vip.backends)) b ≡ true → IsTupleWithin (towards b t)
    backends_within service served b legal =
        let x = is_served (net_of s) laid.valid i.switch t service served in
        let sw = on_switch (net_of s) laid.valid i.name i h.here.stands.at_port.there in
        let vip : IsVip service.vip = among_all IsVip service.vip x.balancer.vips (balancer_ok (net_of s) laid.valid i.switch sw.0 sw.1 x.name x.balancer x.there).vips.each x.vip in
        let online = filter (is_online (net_of s) service.balancer) service.vip.backends in
        let good = one_of_good (filter (is_free_backend own t) online) (λ y m.
        let listed = (filter_among (is_online (net_of s) service.balancer) y service.vip.backends (filter_among (is_free_backend own t) y online m).0).0 in
        let k = among_all IsBackend y service.vip.backends vip.1 listed in
        record { ip = k.ip; port = k.few }) b legal in
        let w = (tuple_is p h.here.stands.at_port.whole t has).within in
        record { src = w.src; src_port = w.src_port; dst = good.ip; dst_port = good.port }

    by_service : (o : Option Service) → service_for (net_of s) i.switch t ≡ o → StepOf (begin_with (net_of s) o ∷ go_on stage.SwitchStateIn ∷ []) → CameBy (λ rest u. finally (begin_to passage t o u p) rest)
    by_service None served step =
        commit_step s laid in_state t is has plain step
    by_service (Some service) served step =
        let x = is_served (net_of s) laid.valid i.switch t service served in
        let online = filter (is_online (net_of s) service.balancer) service.vip.backends in
        comes_same s (λ rest u. finally (pick_backend (desk_of passage) t service.vip.at (filter (is_free_backend own t) online) u p) rest) (λ rest u. finally (begin_to passage t (Some service) u p) rest) lists Goes
        (λ rest choices ends. ap (λ bs. finally (pick_backend (desk_of passage) t service.vip.at bs (trail_with lists choices ends) p) rest) (both_filters (is_free_backend own t) (is_online (net_of s) service.balancer) service.vip.backends))
        zones (copy ∷ [])
        (balance_step s laid in_state t is has plain
        service.vip.at online (served_protocol x.balancer.protocol t.protocol x.serves) (backends_within service served) step)

    pub begins_in : StepOf (begin_in (net_of s) i.switch p ∷ go_on stage.SwitchStateIn ∷ []) → CameBy (λ rest u. finally (begin FromLport passage t u p) rest)
    begins_in step =
        by_service (service_for (net_of s) i.switch t) refl
        (λ So. subst (λ (o : Option Tuple). Bring s (begin_with (net_of s) (option_and_then (service_for (net_of s) i.switch) o) ∷ go_on stage.SwitchStateIn ∷ []) zones copy So → Comes (course_of s) zones (copy ∷ []) So) has (step So))
