-- The rows of a router's port name that port alone, a route's one port of its router, what a port reaches that port, and the rows of NAT, balancers and routers none; none names a set or a group.
use Rattle.std.specs.Prelude.{◌≡◌, Bool, true, false, List, [], ◌∷◌, map}
use Rattle.std.proofs.Common.{refl}
use Rattle.std.proofs.lemmas.Bool.{and_from}
use Rattle.ovn_base.specs.declared.address.Backend.{Backend}
use Rattle.ovn_base.specs.declared.address.Cidr.{Cidr}
use Rattle.ovn_base.specs.declared.address.Ip4.{Ip4}
use Rattle.ovn_base.specs.declared.address.Mac.{Mac}
use Rattle.ovn_base.specs.declared.name.Name.{Name}
use Rattle.match_language.specs.declared.expr.Expr.TheVariants as e
use Rattle.match_language.specs.declared.field.Field.TheVariants as f
use Rattle.match_language.specs.declared.field.Predicate.TheVariants as p
use Rattle.nb_records.specs.Network.{Network}
use Rattle.nb_records.specs.Routers.{translates_destinations, translates_sources}
use Rattle.nb_records.specs.Switches.{is_named}
use Rattle.nb_records.specs.Ways.{best_by, is_better_way, network_ways}
use Rattle.nb_records.specs.declared.balancer.BalancerProtocol.{BalancerProtocol}
use Rattle.nb_records.specs.declared.balancer.BalancerProtocol.TheVariants as protocol
use Rattle.nb_records.specs.declared.balancer.LoadBalancer.{LoadBalancer}
use Rattle.nb_records.specs.declared.router.Nat.{Nat}
use Rattle.nb_records.specs.declared.router.Route.{Route}
use Rattle.nb_records.specs.declared.router.RouterPort.{RouterPort}
use Rattle.logical_flows.specs.declared.flow.LFlow.{LFlow}
use Rattle.logical_flows.specs.declared.stage.Stage.{Stage}
use Rattle.logical_flows.specs.declared.stage.Stage.TheVariants as stage
use Rattle.stage_rows.specs.BalancerRows.{router_vip_row, router_vips, switch_vip_row, switch_vips, to_vip}
use Rattle.stage_rows.specs.Facts.{answered_ips, own_ips}
use Rattle.stage_rows.specs.NatRows.{nat_dnat, nat_snat}
use Rattle.stage_rows.specs.RouterRows as router
use Rattle.stage_rows.specs.Rows.{all_of, asks_for, field_is, in_is, ip_in_some, ip_is, mac_is, prefix_value, whole_number}
use Rattle.stage_rows.specs.Units.{balancer_rows, nat_rows, neighbour_rows, route_rows, router_port_rows, router_rows}
use Rattle.row_laws.proofs.suited.EachRow as rows
use Rattle.northd_core.proofs.untouched.KnownRows as named
use Rattle.northd_core.proofs.untouched.KnownTerms as terms

module _ (known : Name → Bool) where
  abbrev NamesKnown : LFlow → Type 0
  NamesKnown r = named.NamesKnown known r

  abbrev Are : List LFlow → Type 0
  Are rs = named.Are known rs

  bare : terms.IsKnown known (all_of [])
  bare = terms.known_all known [] tt

  -- ---- a port that is known

  module _ (q : RouterPort) (own : known q.name ≡ true) where
    came : terms.IsKnown known (in_is q.name)
    came = terms.known_in known q.name own

    admits : Are (router.port_for_router q)
    admits = (
      (terms.known_all known (in_is q.name ∷ mac_is f.EthDst q.mac ∷ []) (came, (terms.known_field known f.EthDst q.mac.number, tt)), refl),
      ((terms.known_all known (in_is q.name ∷ e.Is p.EthMcast ∷ e.Is p.Arp ∷ []) (came, (terms.known_is known p.EthMcast, (terms.known_is known p.Arp, tt))), refl), tt),
    )

    answers : (ip : Ip4) → NamesKnown (router.answered_input q ip)
    answers ip = (terms.known_all known (in_is q.name ∷ asks_for ip) (came, terms.known_asks known ip), refl)

    echoes : (ip : Ip4) → NamesKnown (router.echo_input ip)
    echoes ip = (
      terms.known_all known (ip_is f.Ip4Dst ip ∷ field_is f.Icmp4Type 8 ∷ field_is f.Icmp4Code 0 ∷ []) (terms.known_field known f.Ip4Dst ip.0, (terms.known_field known f.Icmp4Type 8, (terms.known_field known f.Icmp4Code 0, tt))),
      refl,
    )

    routes : (n : Cidr) → NamesKnown (router.network_row q n)
    routes n = (terms.known_prefix known f.Ip4Dst n, and_from (known q.name) true own refl)

    -- its rows name it alone
    pub router_port_known : (net : Network) (s : Stage) → Are (router_port_rows s net q)
    router_port_known net stage.RouterAdmit = admits
    router_port_known net stage.RouterInput =
        rows.both NamesKnown (map (router.answered_input q) (answered_ips net q)) (map router.echo_input (own_ips q)) (rows.each NamesKnown (router.answered_input q) (answered_ips net q) (λ ip m. answers ip))
        (rows.each NamesKnown router.echo_input (own_ips q) (λ ip m. echoes ip))
    router_port_known net stage.RouterOwn = rows.each NamesKnown router.own_row (own_ips q) (λ ip m. (terms.known_field known f.Ip4Dst ip.0, refl))
    router_port_known net stage.RouterRoute = rows.each NamesKnown (router.network_row q) q.networks (λ n m. routes n)
    router_port_known net _ = tt

  -- the row of what it reaches does too
  pub neighbour_known : (port : Name) → known port ≡ true → (s : Stage) (ip : Ip4) (mac : Mac) → Are (neighbour_rows s port ip mac)
  neighbour_known port own stage.RouterNeighbour ip mac = ((terms.known_out known port own, refl), tt)
  neighbour_known port own _ ip mac = tt

  -- ---- rows that name none

  pub nat_known : (s : Stage) (r : Nat) → Are (nat_rows s r)
  nat_known stage.RouterDnat r = rows.if_so NamesKnown (translates_destinations r.kind) (nat_dnat r) ((terms.known_field known f.Ip4Dst r.external_ip.0, refl), tt)
  nat_known stage.RouterSnat r =
      rows.if_so NamesKnown (translates_sources r.kind) (nat_snat r) ((terms.known_prefix known f.Ip4Src r.logical_ip, refl), ((terms.known_prefix known f.Ip4Src r.logical_ip, refl), tt))
  nat_known _ r = tt

  vip_known : (k : BalancerProtocol) (v : Backend) → terms.AreKnown known (to_vip k v)
  vip_known protocol.Tcp v = (terms.known_is known p.Tcp, (terms.known_field known f.Ip4Dst v.ip.0, (terms.known_field known f.TcpDst v.port, tt)))
  vip_known protocol.Udp v = (terms.known_is known p.Udp, (terms.known_field known f.Ip4Dst v.ip.0, (terms.known_field known f.UdpDst v.port, tt)))

  pub balancer_known : (s : Stage) (online : Backend → Bool) (d : Name) (b : LoadBalancer) → Are (balancer_rows s online d b)
  balancer_known stage.SwitchStateIn online d b =
      rows.if_so NamesKnown (is_named d b.switches) (switch_vips online b) (rows.each NamesKnown (switch_vip_row online b.protocol) b.vips (λ v m. (terms.known_all known (to_vip b.protocol v.at) (vip_known b.protocol v.at), refl)))
  balancer_known stage.RouterDnat online d b =
      rows.if_so NamesKnown (is_named d b.routers) (router_vips online b) (rows.each NamesKnown (router_vip_row online b.protocol) b.vips (λ v m. (terms.known_all known (to_vip b.protocol v.at) (vip_known b.protocol v.at), refl)))
  balancer_known _ online d b = tt

  pub router_known : (s : Stage) (translating : Bool) → Are (router_rows s translating)
  router_known stage.RouterAdmit translating = ((bare, refl), tt)
  router_known stage.RouterInput translating = (
    (terms.known_is known p.Arp, refl),
    (
      (
        terms.known_either known (ip_in_some f.Ip4Src router.unroutable) (ip_in_some f.Ip4Dst router.unroutable) (terms.known_with known f.Ip4Src (map prefix_value router.unroutable) refl) (terms.known_with known f.Ip4Dst (map prefix_value router.unroutable) refl),
        refl,
      ),
      ((terms.known_with known f.IpTtl (map (whole_number f.IpTtl) (0 ∷ 1 ∷ [])) refl, refl), ((terms.known_is known p.Ip4, refl), ((bare, refl), tt))),
    ),
  )
  router_known stage.RouterUndo true = ((terms.known_is known p.Ip4, refl), ((bare, refl), tt))
  router_known stage.RouterUndo false = ((bare, refl), tt)
  router_known stage.RouterDnat translating = ((bare, refl), ((bare, refl), ((bare, refl), tt)))
  router_known stage.RouterOwn translating = ((bare, refl), tt)
  router_known stage.RouterRoute translating = ((bare, refl), tt)
  router_known stage.RouterNeighbour translating = ((bare, refl), tt)
  router_known stage.RouterFind true = ((terms.known_is known p.Ip4, refl), ((bare, refl), tt))
  router_known stage.RouterFind false = ((bare, refl), tt)
  router_known stage.RouterSnat translating = ((bare, refl), ((bare, refl), tt))
  router_known _ translating = tt

-- ---- routes

-- any port
abbrev pub any_port : Name → Bool
any_port n = true

-- the row of a route names no set and no group
pub route_known : (net : Network) (s : Stage) (r : Route) → named.Are any_port (route_rows s net r)
route_known net stage.RouterRoute r =
    rows.if_some (named.NamesKnown any_port) (best_by is_better_way (network_ways net r.router r.nexthop)) (λ w. router.route_row r w ∷ []) (λ w is. ((terms.known_prefix any_port f.Ip4Dst r.prefix, refl), tt))
route_known net _ r = tt
