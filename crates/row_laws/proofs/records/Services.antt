-- The service of a packet: the virtual address to which it goes, of a balancer of the switch or router.
use Rattle.std.specs.Prelude.{◌≡◌, ◌==◌, Bool, true, false, cond, Option, Some, None, option_map}
use Rattle.std.specs.List.{find}
use Rattle.std.specs.Map.{values_of}
use Rattle.std.specs.Option.{option_and_then}
use Rattle.std.proofs.Common.{refl, sym, ap, ◌∙◌}
use Rattle.std.proofs.lemmas.Bool.{and_parts, and_from, cond-true, false≢true, eqb-true, eq-eqb}
use Rattle.std.proofs.lemmas.Option.{none-some, same_Some}
use Rattle.ovn_base.proofs.AmongLaws.{among_all, among_map, map_among, among_filter, filter_among}
use Rattle.ovn_base.proofs.ByNameLaws.{at_among, among_at}
use Rattle.ovn_base.specs.declared.name.Name.{Name}
use Rattle.ovn_base.specs.lists.Among.{Among}
use Rattle.ovn_base.specs.names.ByName.{at}
use Rattle.conn_table.specs.Tuples.{tuple_of}
use Rattle.conn_table.specs.declared.tuple.Protocol.{Protocol}
use Rattle.conn_table.specs.declared.tuple.Protocol.TheVariants as protocol
use Rattle.conn_table.specs.declared.tuple.Tuple.{Tuple}
use Rattle.inet_packet.specs.declared.packet.Packet.{Packet}
use Rattle.nb_records.specs.Grammar.{IsBackend, IsVip}
use Rattle.nb_records.specs.Network.{Network}
use Rattle.nb_records.specs.Switches.{same_ip, first_answer, serves_at, balancers_of}
use Rattle.nb_records.specs.declared.balancer.BalancerProtocol.{BalancerProtocol}
use Rattle.nb_records.specs.declared.balancer.BalancerProtocol.TheVariants as balanced
use Rattle.nb_records.specs.declared.balancer.LoadBalancer.{LoadBalancer}
use Rattle.nb_records.specs.declared.balancer.Vip.{Vip}
use Rattle.nb_rules.specs.Holders.{repeated_vip}
use Rattle.nb_rules.specs.Valid.{IsValid}
use Rattle.net_model.specs.Balancing.{serves_protocol, is_to_vip, Service, service_in, service_for}
use Rattle.row_laws.proofs.records.Searches.{answered_by, found_by, one_found, one_answer}
use Rattle.row_laws.proofs.records.VipHolders.{IsServingAt, in_grammar, one_of_its, one_serving}
use Rattle.row_laws.proofs.terms.VipTerms.{IsTo}
use Rattle.row_laws.specs.StageActions.{service_of}

-- ---- virtual addresses

is_to : (t : Tuple) (v : Vip) → IsTo v.at t → is_to_vip t v ≡ true
is_to t v h = and_from (same_ip v.at.ip t.dst) (v.at.port == t.dst_port) (eq-eqb v.at.ip.0 t.dst.0 (sym h.ip)) (eq-eqb v.at.port t.dst_port (sym h.port))

to_is : (t : Tuple) (v : Vip) → is_to_vip t v ≡ true → IsTo v.at t
to_is t v h = let parts = and_parts (same_ip v.at.ip t.dst) (v.at.port == t.dst_port) h in record { ip = sym (eqb-true v.at.ip.0 t.dst.0 parts.0); port = sym (eqb-true v.at.port t.dst_port parts.1) }

same_place : (t : Tuple) (v w : Vip) → IsTo v.at t → IsTo w.at t → v.at ≡ w.at
same_place t v w h k = let ip = sym h.ip ∙ k.ip in let port = sym h.port ∙ k.port in λ i. record { ip = record { 0 = ip i }; port = port i }

one_kind : (x y : BalancerProtocol) (k : Protocol) → serves_protocol x k ≡ true → serves_protocol y k ≡ true → x ≡ y
one_kind balanced.Tcp balanced.Tcp k h j = refl
one_kind balanced.Udp balanced.Udp k h j = refl
one_kind balanced.Tcp balanced.Udp protocol.Tcp h j = absurd (false≢true j)
one_kind balanced.Tcp balanced.Udp _ h j = absurd (false≢true h)
one_kind balanced.Udp balanced.Tcp protocol.Udp h j = absurd (false≢true j)
one_kind balanced.Udp balanced.Tcp _ h j = absurd (false≢true h)

abbrev pub service : LoadBalancer → Vip → Service
service x v = record { balancer = x.name; vip = v }

-- ---- what a balancer answers

-- one that has the address answers, and what answers has it
answers_to : (x : LoadBalancer) (u : Tuple) (v : Vip) → serves_protocol x.protocol u.protocol ≡ true → find (is_to_vip u) x.vips ≡ Some v → service_in u x ≡ Some (service x v)
answers_to x u v serves found = cond-true (serves_protocol x.protocol u.protocol) _ None serves ∙ ap (λ o. option_map (service x) o) found

pub record Answers (x : LoadBalancer) (u : Tuple) (s : Service) : Type 0 where
  pub serves : serves_protocol x.protocol u.protocol ≡ true
  pub vip : Vip
  pub among : Among vip x.vips
  pub to : IsTo vip.at u
  pub is : s ≡ service x vip

answers_from : (x : LoadBalancer) (u : Tuple) (s : Service) → service_in u x ≡ Some s → Answers x u s
answers_from x u s h = by (serves_protocol x.protocol u.protocol) refl h
  where
    at_vip : serves_protocol x.protocol u.protocol ≡ true → (o : Option Vip) → find (is_to_vip u) x.vips ≡ o → option_map (service x) o ≡ Some s → Answers x u s
    at_vip serves None found k = absurd (none-some s k)
    at_vip serves (Some v) found k =
        let f = found_by (is_to_vip u) x.vips v found in
        record { serves = serves; vip = v; among = f.0; to = to_is u v f.1; is = sym (same_Some (service x v) s k) }

    by : (b : Bool) → serves_protocol x.protocol u.protocol ≡ b → cond b (option_map (service x) (find (is_to_vip u) x.vips)) None ≡ Some s → Answers x u s
    by true serves k = at_vip serves (find (is_to_vip u) x.vips) refl k
    by false serves k = absurd (none-some s k)

-- ---- the balancer that has the address

module _ (net : Network) (valid : IsValid net) (d : Name) (once : repeated_vip net d ≡ None) where
  -- a balancer of the datapath is one of the records
  served : (x : LoadBalancer) → Among x (balancers_of net d) → (name : Name) × IsServingAt net d name x
  served x m =
      let f = filter_among (serves_at d) x (values_of net.load_balancers) m in
      let e = map_among (λ (e : Name × LoadBalancer). e.1) x net.load_balancers f.0 in
      (e.0.0, record { there' = among_at e.0.0 e.0.1 net.load_balancers valid.in_order.load_balancers e.1 ∙ ap (λ y. Some y) (sym e.2); serves = f.1 })

  pub vip_ok : (name : Name) (x : LoadBalancer) → at net.load_balancers name ≡ Some x → (v : Vip) → Among v x.vips → IsBackend v.at
  vip_ok name x is v m = (among_all IsVip v x.vips (in_grammar net valid name x is).vips.each m).0

  module _ (packet : Packet) where
    -- it answers for the packet
    pub its_service : (name : Name) (x : LoadBalancer) → IsServingAt net d name x → (v : Vip) → Among v x.vips → (u : Tuple) → tuple_of packet ≡ Some u → serves_protocol x.protocol u.protocol ≡ true → IsTo v.at u
        → service_of net d packet ≡ Some (service x v)
    its_service name x serves v m u is kind to =
        let found : find (is_to_vip u) x.vips ≡ Some v =
        one_found (is_to_vip u) x.vips v m (is_to u v to) (λ w n k. one_of_its net valid name x serves.there' w v n m (same_place u w v (to_is u w k) to)) in
        let among : Among x (balancers_of net d) =
        among_filter (serves_at d) x (values_of net.load_balancers) (among_map (λ (e : Name × LoadBalancer). e.1) (name, x) net.load_balancers (at_among net.load_balancers name x serves.there')) serves.serves in
        let one : first_answer (service_in u) (balancers_of net d) ≡ Some (service x v) =
        one_answer (service_in u) (balancers_of net d) x (service x v) among (answers_to x u v kind found) (λ y s n k.
        let other = served y n in
        let a' = answers_from y u s k in
        one_serving net valid d once other.0 name y x other.1 serves (one_kind y.protocol x.protocol u.protocol a'.serves kind) a'.vip v a'.among m (same_place u a'.vip v a'.to to)) in
        ap (option_and_then (service_for net d)) is ∙ one

    -- and a service is that of a balancer that has the address
    pub record IsServiceBy (s : Service) : Type 0 where
      pub tuple : Tuple
      pub is : tuple_of packet ≡ Some tuple
      pub name : Name
      pub balancer : LoadBalancer
      pub serving : IsServingAt net d name balancer
      pub answers : Answers balancer tuple s

    pub service_by : (s : Service) → service_of net d packet ≡ Some s → IsServiceBy s
    service_by s h = by (tuple_of packet) refl h
      where
        by : (o : Option Tuple) → tuple_of packet ≡ o → option_and_then (service_for net d) o ≡ Some s → IsServiceBy s
        by None is k = absurd (none-some s k)
        by (Some u) is k =
            let x = answered_by (service_in u) (balancers_of net d) s k in
            let own = served x.0 x.1 in
            record { tuple = u; is = is; name = own.0; balancer = x.0; serving = own.1; answers = answers_from x.0 u s x.2 }
