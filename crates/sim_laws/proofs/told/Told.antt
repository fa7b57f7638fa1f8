-- Of what the ends of a way can tell: of ports among the records, of chassis that are there or to which a port is bound, and of picks
-- that the records allow.
use Rattle.std.specs.Prelude.{◌≡◌, ◌⊎◌, ◌≤◌, ℕ, true, Option, Some, None}
use Rattle.std.specs.List.{AllByRecursion}
use Rattle.std.specs.Map.{values_of}
use Rattle.conn_table.specs.declared.tuple.Tuple.{Tuple}
use Rattle.flow_table.specs.declared.flow.Cause.{Cause}
use Rattle.inet_packet.specs.declared.packet.Packet.{Packet}
use Rattle.nb_records.specs.Network.{Network}
use Rattle.nb_records.specs.Routers.{Partner, switch_side, router_side}
use Rattle.nb_records.specs.declared.router.Nat.{Nat}
use Rattle.nb_records.specs.declared.router.RouterPort.{RouterPort}
use Rattle.nb_records.specs.declared.switch.SwitchPort.{SwitchPort}
use Rattle.net_model.specs.Balancing.{Service, service_for}
use Rattle.net_model.specs.Config.{Config}
use Rattle.net_model.specs.Snat.{snat_row}
use Rattle.net_model.specs.Spread.{SentFrom, crossing_to}
use Rattle.net_model.specs.Trail.{Trail, End, leaves, is_dropped, crosses, picks_backend, picks_port, is_lost, tell, Spot, spot_of, spot_in_router, drop_for, Point, goes, stops, then, finally, unless}
use Rattle.net_model.specs.declared.crossing.Aim.{Aim}
use Rattle.net_model.specs.declared.crossing.Aim.TheVariants.{ToPort, ToGroup}
use Rattle.ovn_base.specs.declared.address.Backend.{Backend}
use Rattle.ovn_base.specs.declared.address.Ip4.{Ip4}
use Rattle.ovn_base.specs.declared.name.Name.{Name}
use Rattle.ovn_base.specs.lists.Among.{Among}
use Rattle.switch_engine.proofs.Lists.{all_append}

-- ---- the records

abbrev pub HasPort : Network → SwitchPort → Type 0
HasPort net q = Among q (values_of net.switch_ports)

abbrev pub HasRouterPort : Network → RouterPort → Type 0
HasRouterPort net r = Among r (values_of net.router_ports)

pub data HasSpot (net : Network) : Spot → Type 0 where
  in_switch : (q : SwitchPort) → HasPort net q → HasSpot net (spot_of q)
  in_router : (r : RouterPort) → HasRouterPort net r → HasSpot net (spot_in_router r)

abbrev pub HasPartner : Network → Option Partner → Type 0
HasPartner net None = Unit {0}
HasPartner net (Some (switch_side q)) = HasPort net q
HasPartner net (Some (router_side r)) = HasRouterPort net r

abbrev pub HasAim : Network → Aim → Type 0
HasAim net (ToPort id) = (q : SwitchPort) × HasPort net q × (id.name ≡ q.name)
HasAim net (ToGroup g) = Unit {0}

-- the chassis is there, or a port is bound to it
abbrev pub HasChassis : Config → Name → Type 0
HasChassis c chassis = Among chassis c.chassis ⊎ Among chassis (values_of c.bindings)

-- ---- ends

-- By the records a packet leaves by a port that is there, or is dropped at one; it crosses from a chassis to another one, to a port that
-- is there or to a group; a backend is picked of a virtual address that is served there, and a port where a row translates sources on
-- the router; a crossing of any number is lost.
pub data IsTold (c : Config) : End → Type 0 where
  leaves_by : (q : SwitchPort) (p : Packet) → HasPort c.net q → IsTold c (leaves q.name p)
  drops_at : (spot : Spot) (why : Cause) → HasSpot c.net spot → IsTold c (is_dropped spot.datapath spot.port why)
  crosses_to : (chassis home : Name) (from : SentFrom) (aim : Aim) (p : Packet) → HasChassis c chassis → HasChassis c home → HasAim c.net aim
      → IsTold c (crosses chassis (crossing_to from aim home p))
  picks_one : (spot : Spot) (tuple : Tuple) (s : Service) (b : Backend) → HasSpot c.net spot → service_for c.net spot.datapath tuple ≡ Some s → Among b s.vip.backends
      → IsTold c (picks_backend spot.datapath s.vip.at b)
  picks_from : (out : RouterPort) (ip : Ip4) (row : Nat) (n : ℕ) → HasRouterPort c.net out → snat_row c.net out.router ip ≡ Some row → 1024 ≤ n → n ≤ 65535
      → IsTold c (picks_port out.router n)
  loses : (n : ℕ) → IsTold c (is_lost n)

-- ---- pieces and ways

module _ (c : Config) where
  -- where all choices were legal, all ends so far tell of such
  abbrev pub TellsSo : Trail → Type 0
  TellsSo t = t.legal ≡ true → AllByRecursion (IsTold c) t.ends

  abbrev pub PointTells : Point → Type 0
  PointTells (goes t p) = TellsSo t
  PointTells (stops t) = TellsSo t

  abbrev pub PieceTells : (Trail → Packet → Point) → Type 0
  PieceTells f = (t : Trail) (p : Packet) → TellsSo t → PointTells (f t p)

  abbrev pub WayTells : (Trail → Packet → Trail) → Type 0
  WayTells f = (t : Trail) (p : Packet) → TellsSo t → TellsSo (f t p)

  abbrev pub OnwardTells : (Spot → Option Partner → Trail → Packet → Trail) → Type 0
  OnwardTells onward = (spot : Spot) (partner : Option Partner) → HasSpot c.net spot → HasPartner c.net partner → WayTells (onward spot partner)

  pub tell_tells : (e : End) (t : Trail) → IsTold c e → TellsSo t → TellsSo (tell e t)
  tell_tells e t is h legal = all_append (IsTold c) t.ends _ (h legal) (is, tt)

  pub drop_tells : (why : Cause) (spot : Spot) (t : Trail) → HasSpot c.net spot → TellsSo t → TellsSo (drop_for why spot t)
  drop_tells why spot t has h = tell_tells (is_dropped spot.datapath spot.port why) t (IsTold.drops_at spot why has) h

  pub unless_tells : (why : Option Cause) (spot : Spot) → HasSpot c.net spot → PieceTells (unless why spot)
  unless_tells None spot has t p h = h
  unless_tells (Some why) spot has t p h = drop_tells why spot t has h

  pub then_tells : (a : Point) (f : Trail → Packet → Point) → PointTells a → PieceTells f → PointTells (then a f)
  then_tells (goes t p) f h g = g t p h
  then_tells (stops t) f h g = h

  pub finally_tells : (a : Point) (f : Trail → Packet → Trail) → PointTells a → WayTells f → TellsSo (finally a f)
  finally_tells (goes t p) f h g = g t p h
  finally_tells (stops t) f h g = h
