-- Numbers of rows of NAT and of virtual addresses are in their ranges; the addresses of a packet are those of its tuple.
use Rattle.std.specs.Prelude.{◌≡◌, ◌==◌, ◌&&◌, ℕ, Bool, true, false, cond, Some, None, option_map}
use Rattle.std.specs.List.{filter}
use Rattle.std.specs.Map.{values_of}
use Rattle.std.proofs.Common.{sym, ap, subst}
use Rattle.std.proofs.lemmas.Option.{none-some, same_Some}
use Rattle.conn_table.specs.Picks.{towards, is_free_backend, is_backend_of}
use Rattle.conn_table.specs.Connections.{ConnectionList}
use Rattle.conn_table.specs.Tuples.{tuple_of, body_tuple, ip4_tuple, tuple_between}
use Rattle.conn_table.specs.declared.tuple.Protocol.{Protocol}
use Rattle.conn_table.specs.declared.tuple.Protocol.TheVariants as protocol
use Rattle.conn_table.specs.declared.tuple.Tuple.{Tuple}
use Rattle.inet_packet.specs.Fields as field
use Rattle.inet_packet.specs.declared.packet.Body.{Body}
use Rattle.inet_packet.specs.declared.packet.Body.TheVariants as body
use Rattle.inet_packet.specs.declared.packet.Ip4Packet.{Ip4Packet}
use Rattle.inet_packet.specs.declared.packet.Packet.{Packet}
use Rattle.inet_packet.specs.declared.packet.Part.{Part}
use Rattle.inet_packet.specs.declared.packet.Part.TheVariants as part
use Rattle.nb_records.specs.Grammar.{IsBackend, IsVip, IsInGrammar, IsNat, IsLoadBalancer}
use Rattle.nb_records.specs.Network.{Network, records_of, is_online}
use Rattle.nb_records.specs.Routers.{nats_of}
use Rattle.nb_records.specs.declared.balancer.LoadBalancer.{LoadBalancer}
use Rattle.nb_records.specs.declared.record.Record.TheVariants as row
use Rattle.nb_records.specs.declared.router.Nat.{Nat}
use Rattle.nb_rules.specs.Valid.{IsValid}
use Rattle.net_model.specs.Balancing.{Service}
use Rattle.net_model.specs.Dnat.{is_dnat_for, dnat_row}
use Rattle.net_model.specs.Headers.{ip_of, src_of, dst_of}
use Rattle.net_model.specs.Snat.{is_snat_for, is_narrower, snat_row}
use Rattle.ovn_base.proofs.AmongLaws.{among_all, among_left, among_right, among_map, map_among, filter_among}
use Rattle.ovn_base.proofs.ByNameLaws.{at_among}
use Rattle.ovn_base.specs.declared.address.Backend.{Backend}
use Rattle.ovn_base.specs.declared.address.Ip4.{Ip4}
use Rattle.ovn_base.specs.declared.name.Name.{Name}
use Rattle.ovn_base.specs.lists.Among.{Among}
use Rattle.ovn_base.specs.names.ByName.{at}
use Rattle.ovn_base.specs.names.SameName.{same_name}
use Rattle.row_laws.proofs.records.Searches.{found_by}
use Rattle.row_laws.proofs.units.BestOf.{best_among}
use Rattle.sim_laws.proofs.pipelines.Services.{IsServed, one_of_good}
use Rattle.sim_laws.specs.pipelines.HeldLists.{IsTupleWithin}

module _ (net : Network) (valid : IsValid net) where
  -- ---- rows of NAT

  nat_ok : (router : Name) (x : Nat) → Among x (nats_of net router) → IsNat x
  nat_ok router x m =
      let e = map_among (λ (e : Name × Nat). e.1) x net.nats (filter_among (λ (r : Nat). same_name r.router router) x (values_of net.nats) m).0 in
      let r = row.Nat e.0.1 in
      let own = among_map (λ (e : Name × Nat). row.Nat e.1) e.0 net.nats e.1 in
      subst IsNat (sym e.2) (among_all IsInGrammar r (records_of net) valid.in_grammar (among_left r _ _ (among_left r _ _ (among_right r _ _ own))))

  pub dnat_row_ok : (router : Name) (ip : Ip4) (x : Nat) → dnat_row net router ip ≡ Some x → IsNat x
  dnat_row_ok router ip x h = nat_ok router x (found_by (is_dnat_for ip) (nats_of net router) x h).0

  pub snat_row_ok : (router : Name) (ip : Ip4) (x : Nat) → snat_row net router ip ≡ Some x → IsNat x
  snat_row_ok router ip x h = nat_ok router x (filter_among (is_snat_for ip) x (nats_of net router) (best_among is_narrower (filter (is_snat_for ip) (nats_of net router)) x h)).0

  -- ---- backends

  balancer_ok : (name : Name) (b : LoadBalancer) → at net.load_balancers name ≡ Some b → IsLoadBalancer b
  balancer_ok name b is =
      let r = row.LoadBalancer b in
      let own = among_map (λ (e : Name × LoadBalancer). row.LoadBalancer e.1) (name, b) net.load_balancers (at_among net.load_balancers name b is) in
      among_all IsInGrammar r (records_of net) valid.in_grammar (among_left r _ _ (among_right r _ _ own))

  -- the tuple to one that may be picked is in its ranges
  pub backend_within : (list : ConnectionList) (t : Tuple) (service : Service) → IsServed net t service → IsTupleWithin t
      → (b : Backend) → is_backend_of (filter (is_free_backend list t) (filter (is_online net service.balancer) service.vip.backends)) b ≡ true → IsTupleWithin (towards b t)
  backend_within list t service x w b legal =
      let vip : IsVip service.vip = among_all IsVip service.vip x.balancer.vips (balancer_ok x.name x.balancer x.there).vips.each x.vip in
      let online = filter (is_online net service.balancer) service.vip.backends in
      let good = one_of_good (filter (is_free_backend list t) online) (λ y m.
      let listed = (filter_among (is_online net service.balancer) y service.vip.backends (filter_among (is_free_backend list t) y online m).0).0 in
      let k = among_all IsBackend y service.vip.backends vip.1 listed in
      record { ip = k.ip; port = k.few }) b legal in
      record { src = w.src; src_port = w.src_port; dst = good.ip; dst_port = good.port }

-- ---- the addresses of a packet

-- the tuple has the addresses of the header
record HasEnds (i : Ip4Packet) (t : Tuple) : Type 0 where
  src : t.src ≡ i.src
  dst : t.dst ≡ i.dst

between : (i : Ip4Packet) (k : Protocol) (a b : ℕ) (t : Tuple) → Some (tuple_between k a b i) ≡ Some t → HasEnds i t
between i k a b t h = let e = same_Some (tuple_between k a b i) t h in record { src = ap (λ (x : Tuple). x.src) (sym e); dst = ap (λ (x : Tuple). x.dst) (sym e) }

part_ends : (i : Ip4Packet) (x : Part) (t : Tuple) → ip4_tuple i x ≡ Some t → HasEnds i t
part_ends i (part.Tcp a b middle sum urgent) t h = between i protocol.Tcp a b t h
part_ends i (part.Udp a b len sum) t h = between i protocol.Udp a b t h
part_ends i (part.Icmp kind code sum ident) t h = by (code == 0 && kind == 8) (code == 0 && kind == 0) h
  where
    by : (b c : Bool) → option_map (λ k. tuple_between k ident ident i) (cond b (Some protocol.EchoRequest) (cond c (Some protocol.EchoReply) None)) ≡ Some t → HasEnds i t
    by true c h = between i protocol.EchoRequest ident ident t h
    by false true h = between i protocol.EchoReply ident ident t h
    by false false h = absurd (none-some t h)
part_ends i part.OtherIp t h = by (i.proto == 1) h
  where
    by : (b : Bool) → cond b None (Some (tuple_between (protocol.Other i.proto) 0 0 i)) ≡ Some t → HasEnds i t
    by true h = absurd (none-some t h)
    by false h = between i (protocol.Other i.proto) 0 0 t h
part_ends i part.Fragment t h = absurd (none-some t h)

pub src_is : (p : Packet) (t : Tuple) → tuple_of p ≡ Some t → src_of p ≡ t.src
src_is p t h = by p.body h
  where
    by : (b : Body) → body_tuple b ≡ Some t → ip_of (field.ip4_src b) ≡ t.src
    by (body.Arp a) h = absurd (none-some t h)
    by (body.Ip4 i) h = sym (part_ends i i.part t h).src
    by (body.Other n) h = absurd (none-some t h)

pub dst_is : (p : Packet) (t : Tuple) → tuple_of p ≡ Some t → dst_of p ≡ t.dst
dst_is p t h = by p.body h
  where
    by : (b : Body) → body_tuple b ≡ Some t → ip_of (field.ip4_dst b) ≡ t.dst
    by (body.Arp a) h = absurd (none-some t h)
    by (body.Ip4 i) h = sym (part_ends i i.part t h).dst
    by (body.Other n) h = absurd (none-some t h)
