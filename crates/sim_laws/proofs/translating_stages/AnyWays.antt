-- The way to a port of a router, and out by it, is the network's whole way through the router.
use Rattle.std.specs.Prelude.{◌≡◌, Bool, false, Option, Some, None, refl}
use Rattle.inet_packet.specs.declared.packet.Packet.{Packet}
use Rattle.nb_records.specs.Neighbours.{neighbour_of}
use Rattle.nb_records.specs.Ways.{NextHop, route_of}
use Rattle.nb_records.specs.declared.router.RouterPort.{RouterPort}
use Rattle.net_model.specs.Entry.{Onward}
use Rattle.net_model.specs.Forwarding.{is_translating, leave_router, to_neighbour, over_hop, route_on, come_in, take_in}
use Rattle.net_model.specs.Headers.{dst_of}
use Rattle.net_model.specs.RouterInput.{Intake, answers_with, becomes, passes_on, refuses, intake}
use Rattle.net_model.specs.Trail.{Trail, Point, goes, stops, finally}
use Rattle.ovn_base.specs.declared.address.Mac.{Mac}
use Rattle.sim_laws.specs.pipelines.Standing.{Chassis, net_of}
use Rattle.sim_laws.specs.routers.RouterWays.{Leaving, by_neighbour, by_hop, by_route, taken_in, way_by_port, RouterWayLaw}

module _ (s : Chassis) (i : RouterPort) (onward : Onward) where
  -- how it goes on from the port
  abbrev rest : Trail → Leaving → Trail
  rest u x = way_by_port s x (leave_router onward (net_of s) x.out) u

  neighbour_is : (b : Bool) (out : RouterPort) (o : Option Mac) (t : Trail) (p : Packet) → by_neighbour s.scene i b rest out o t p ≡ to_neighbour onward s.scene b i out o t p
  neighbour_is b out None t p = refl
  neighbour_is b out (Some mac) t p = refl

  hop_is : (b : Bool) (o : Option NextHop) (t : Trail) (p : Packet) → by_hop s.scene i b rest o t p ≡ over_hop onward s.scene b i o t p
  hop_is b None t p = refl
  hop_is b (Some hop) t p = neighbour_is b hop.port (neighbour_of (net_of s) hop.port hop.next) t p

  route_is : (b : Bool) (t : Trail) (p : Packet) → by_route s.scene i b rest t p ≡ route_on onward s.scene b i t p
  route_is b t p = hop_is b (route_of (net_of s) i.router (dst_of p)) t p

  behind_is : (b : Bool) (x : Point) → finally x (by_route s.scene i b rest) ≡ finally x (route_on onward s.scene b i)
  behind_is b (goes t p) = route_is b t p
  behind_is b (stops t) = refl

  pub taken_is : (x : Intake) (b : Bool) (t : Trail) (p : Packet) → taken_in x s.scene b i rest t p ≡ take_in x onward s.scene b i t p
  taken_is (refuses why) b t p = refl
  taken_is (answers_with q) b t p = refl
  taken_is (becomes q) b t p = route_is false t q
  taken_is passes_on b t p = behind_is b (come_in s.scene b i t p)

pub ways_are : RouterWayLaw
ways_are s i p onward t = taken_is s i onward (intake (net_of s) i p) (is_translating (net_of s) i) t p
