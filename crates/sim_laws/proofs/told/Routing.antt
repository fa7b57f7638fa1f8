-- The pieces of the way through a router tell of its records.
use Rattle.std.specs.Prelude.{Bool, true, false, Option, Some, None}
use Rattle.flow_table.specs.declared.flow.Cause.TheVariants as cause
use Rattle.inet_packet.specs.declared.packet.Packet.{Packet}
use Rattle.nb_records.specs.Neighbours.{neighbour_of}
use Rattle.nb_records.specs.Routers.{partner_of_router_port}
use Rattle.nb_records.specs.Ways.{NextHop, route_of}
use Rattle.nb_records.specs.declared.router.RouterPort.{RouterPort}
use Rattle.net_model.specs.Dnat.{undo_snat, dnat}
use Rattle.net_model.specs.Entry.{Scene, Onward}
use Rattle.net_model.specs.Forwarding.{is_translating, where_translating, leave_router, send_out, routed, to_neighbour, over_hop, route_on, own_address, not_own, translate_destination, come_in, go_through, take_in, into_router}
use Rattle.net_model.specs.Headers.{dst_of}
use Rattle.net_model.specs.RouterInput.{Intake, answers_with, becomes, passes_on, refuses, intake}
use Rattle.net_model.specs.Snat.{snat}
use Rattle.net_model.specs.Trail.{Trail, spot_in_router, Point}
use Rattle.ovn_base.specs.declared.address.Mac.{Mac}
use Rattle.sim_laws.proofs.told.Found.{HasHop, hop_there, partner_there}
use Rattle.sim_laws.proofs.told.Picked.{undo_tells, dnat_tells, snat_tells}
use Rattle.sim_laws.proofs.told.Told.{HasRouterPort, in_router, PieceTells, WayTells, OnwardTells, drop_tells, unless_tells, then_tells, finally_tells}

module _ (s : Scene) where
  where_tells : (b : Bool) (piece : Trail → Packet → Point) → PieceTells s.config piece → PieceTells s.config (where_translating b piece)
  where_tells true piece tells t p h = tells t p h
  where_tells false piece tells t p h = h

  -- ---- into the router

  module _ (b : Bool) (i : RouterPort) (has : HasRouterPort s.config.net i) where
    not_own_tells : PieceTells s.config (not_own s i)
    not_own_tells t p h = unless_tells s.config (own_address s.config.net i p) (spot_in_router i) (in_router i has) t p h

    destination_tells : PieceTells s.config (translate_destination s b i)
    destination_tells t p h =
        let piece = dnat s.config.net s.now (spot_in_router i) in
        then_tells s.config (where_translating b piece t p) (not_own s i) (where_tells b piece (dnat_tells s.config s.now (spot_in_router i) (in_router i has)) t p h) not_own_tells

    come_in_tells : PieceTells s.config (come_in s b i)
    come_in_tells t p h =
        let piece = undo_snat s.now i.router in
        then_tells s.config (where_translating b piece t p) (translate_destination s b i) (where_tells b piece (undo_tells s.config s.now i.router) t p h) destination_tells

  -- ---- through it

  module _ (onward : Onward) (tells : OnwardTells s.config onward) where
    leave_router_tells : (out : RouterPort) → HasRouterPort s.config.net out → WayTells s.config (leave_router onward s.config.net out)
    leave_router_tells out has t p h = tells (spot_in_router out) (partner_of_router_port s.config.net out) (in_router out has) (partner_there s.config.net out) t p h

    send_out_tells : (b : Bool) (out : RouterPort) → HasRouterPort s.config.net out → WayTells s.config (send_out onward s b out)
    send_out_tells b out has t p h =
        let piece = snat s.config.net s.now (spot_in_router out) out.router in
        finally_tells s.config (where_translating b piece t p) (leave_router onward s.config.net out) (where_tells b piece (snat_tells s.config s.now out has) t p h) (leave_router_tells out has)

    module _ (i : RouterPort) (has : HasRouterPort s.config.net i) where
      neighbour_tells : (b : Bool) (out : RouterPort) → HasRouterPort s.config.net out → (mac : Option Mac) → WayTells s.config (to_neighbour onward s b i out mac)
      neighbour_tells b out leaves None t p h = drop_tells s.config cause.NoNeighbour (spot_in_router i) t (in_router i has) h
      neighbour_tells b out leaves (Some mac) t p h = send_out_tells b out leaves t (routed out mac p) h

      hop_tells : (b : Bool) (hop : Option NextHop) → HasHop s.config.net hop → WayTells s.config (over_hop onward s b i hop)
      hop_tells b None leaves t p h = drop_tells s.config cause.NoRoute (spot_in_router i) t (in_router i has) h
      hop_tells b (Some hop) leaves t p h = neighbour_tells b hop.port leaves (neighbour_of s.config.net hop.port hop.next) t p h

      route_tells : (b : Bool) → WayTells s.config (route_on onward s b i)
      route_tells b t p h = hop_tells b (route_of s.config.net i.router (dst_of p)) (hop_there s.config.net i.router (dst_of p)) t p h

      through_tells : (b : Bool) → WayTells s.config (go_through onward s b i)
      through_tells b t p h = finally_tells s.config (come_in s b i t p) (route_on onward s b i) (come_in_tells b i has t p h) (route_tells b)

      take_in_tells : (taken : Intake) (b : Bool) → WayTells s.config (take_in taken onward s b i)
      take_in_tells (refuses why) b t p h = drop_tells s.config why (spot_in_router i) t (in_router i has) h
      take_in_tells (answers_with q) b t p h = leave_router_tells i has t q h
      take_in_tells (becomes q) b t p h = route_tells false t q h
      take_in_tells passes_on b t p h = through_tells b t p h

      pub into_router_tells : WayTells s.config (into_router onward s i)
      into_router_tells t p h = take_in_tells (intake s.config.net i p) (is_translating s.config.net i) t p h
