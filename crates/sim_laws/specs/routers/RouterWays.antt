-- The laws of the two pipelines of a router, be it one that translates or not.
use Rattle.std.specs.Prelude.{◌≡◌, ◌&&◌, Bool, false, not, [], ◌∷◌, Option, Some, None}
use Rattle.flow_lowering.specs.Registers.{reg_number, HasRegistersInRange}
use Rattle.flow_table.specs.declared.flow.Cause.TheVariants as cause
use Rattle.inet_packet.specs.Whole.{IsWhole}
use Rattle.inet_packet.specs.declared.packet.Packet.{Packet}
use Rattle.inet_packet.specs.declared.regs.Reg.TheVariants as reg
use Rattle.logical_flows.specs.Stages.{stage_table}
use Rattle.logical_flows.specs.declared.stage.Stage.TheVariants as stage
use Rattle.nb_records.specs.Neighbours.{neighbour_of}
use Rattle.nb_records.specs.Ways.{NextHop, route_of}
use Rattle.nb_records.specs.declared.router.RouterPort.{RouterPort}
use Rattle.net_model.specs.Entry.{Onward, Scene}
use Rattle.net_model.specs.Forwarding.{is_translating, where_translating, routed, leave_router, come_in, into_router}
use Rattle.net_model.specs.Headers.{carries_ip4, dst_of}
use Rattle.net_model.specs.RouterInput.{Intake, answers_with, becomes, passes_on, refuses, intake}
use Rattle.net_model.specs.Snat.{snat}
use Rattle.net_model.specs.Trail.{Trail, Lists, spot_in_router, drop_for, finally}
use Rattle.ovn_base.specs.declared.address.Mac.{Mac}
use Rattle.ovn_base.specs.declared.stages.TheConstants.{ADMIT_TABLE, REMOTE_TABLE, OUTPUT_TABLE}
use Rattle.row_laws.specs.Copies.{not_sought}
use Rattle.row_laws.specs.routers.RouterCopies.{RouterCopy}
use Rattle.row_laws.specs.routers.RouterThrough.{entering}
use Rattle.switch_engine.specs.Zones.{ZoneLists}
use Rattle.switch_engine.specs.declared.carried.Carried.{Carried}
use Rattle.sim_laws.specs.pipelines.HeldLists.{HoldLists}
use Rattle.sim_laws.specs.pipelines.Pieces.{Piece, ComesTo}
use Rattle.sim_laws.specs.pipelines.Standing.{Chassis, net_of, course_of, IsLaidOut, IsStill}
use Rattle.sim_laws.specs.pipelines.WalkOn.{Comes}
use Rattle.sim_laws.specs.routers.RouterStanding.{StandsInRouter, is_for_way}
use Rattle.sim_laws.specs.routers.TranslatingWords.{is_sought}

-- ---- what the network says

-- a packet that is to leave a router by a port, and whether its source is translated there
pub record Leaving : Type 0 where
  pub out : RouterPort
  pub translates : Bool
  pub packet : Packet

module _ (s : Scene) (i : RouterPort) (translating : Bool) (rest : Trail → Leaving → Trail) where
  abbrev pub by_neighbour : RouterPort → Option Mac → Trail → Packet → Trail
  by_neighbour out None t p = drop_for cause.NoNeighbour (spot_in_router i) t
  by_neighbour out (Some mac) t p = rest t (record { out = out; translates = translating; packet = routed out mac p })

  abbrev pub by_hop : Option NextHop → Trail → Packet → Trail
  by_hop None t p = drop_for cause.NoRoute (spot_in_router i) t
  by_hop (Some hop) t p = by_neighbour hop.port (neighbour_of s.config.net hop.port hop.next) t p

  -- it is routed to the port, and to its neighbour there
  abbrev pub by_route : Trail → Packet → Trail
  by_route t p = by_hop (route_of s.config.net i.router (dst_of p)) t p

-- it enters the router at the port, and comes to the port by which it is to leave, as an answer to that of entry
abbrev pub taken_in : Intake → Scene → Bool → RouterPort → (Trail → Leaving → Trail) → Trail → Packet → Trail
taken_in (refuses why) s translating i rest t p = drop_for why (spot_in_router i) t
taken_in (answers_with q) s translating i rest t p = rest t (record { out = i; translates = false; packet = q })
taken_in (becomes q) s translating i rest t p = by_route s i false rest t q
taken_in passes_on s translating i rest t p = finally (come_in s translating i t p) (by_route s i translating rest)

abbrev pub way_to_port : Chassis → RouterPort → Packet → Piece Leaving
way_to_port s i p rest t = taken_in (intake (net_of s) i p) s.scene (is_translating (net_of s) i) i rest t p

-- there its source is translated, unless it is the router's own answer
abbrev pub way_by_port : Chassis → Leaving → Piece Packet
way_by_port s x rest t = finally (where_translating x.translates (snat (net_of s) s.scene.now (spot_in_router x.out) x.out.router) t x.packet) rest

-- One after the other they are the network's whole way through the router.
abbrev pub RouterWayLaw : Type 0
RouterWayLaw =
    (s : Chassis) (i : RouterPort) (p : Packet) (onward : Onward) (t : Trail)
    → way_to_port s i p (λ u x. way_by_port s x (leave_router onward (net_of s) x.out) u) t ≡ into_router onward s.scene i t p

-- ---- what the tables do

-- The copy goes to the port from table 32 on, as the first stage of exit asks, and may go back to the port of entry; its other registers
-- are as they were at first.
pub record GoesOut (s : Chassis) (i : RouterPort) (first : Carried) (lists : Lists) (x : Leaving) (zones : ZoneLists) (copy : Carried) : Type 0 where
  pub c : RouterCopy
  pub port : c.port ≡ i
  pub to : c.out ≡ Some x.out
  pub packet : x.packet ≡ c.sight.packet
  pub translates : x.translates ≡ (not c.words.own && (is_translating (net_of s) i && carries_ip4 c.sight.packet))
  pub stands : StandsInRouter s stage.RouterFind REMOTE_TABLE c lists zones copy
  pub loopback : reg_number reg.Loopback copy.regs ≡ 1
  pub still : IsStill is_for_way first copy

-- Whatever walk takes on a copy that enters a router at a port does with it what the network says: a translation of its source is undone, its destination is
-- translated, and it is answered, routed to a port, or dropped. The rows of routers stand in the tables of a switch's stages, as those of all units do.
abbrev pub RouterIngressLaw : Type 0
RouterIngressLaw =
    (s : Chassis) → IsLaidOut s → (i : RouterPort) (p : Packet) (lists : Lists) (zones : ZoneLists) (copy : Carried)
    → StandsInRouter s stage.RouterAdmit ADMIT_TABLE (entering i p) lists zones copy
    → Comes (course_of s) zones (copy ∷ []) (ComesTo s (way_to_port s i p) lists (GoesOut s i copy))

-- the copy comes to the output; its registers are as they were at first, but for what a list said
pub record ComesToOutput (s : Chassis) (first : Carried) (lists : Lists) (p : Packet) (zones : ZoneLists) (copy : Carried) : Type 0 where
  pub in_table : copy.table ≡ OUTPUT_TABLE
  pub packet : copy.packet ≡ p
  pub whole : IsWhole p
  pub within : HasRegistersInRange copy.regs
  pub still : IsStill is_sought first copy
  pub hold : HoldLists s.number zones lists

-- And whatever walk takes on a copy that leaves a router by a port, and of which no list was asked since it went there, translates its source as the network says
-- and brings it to the output, or drops it.
abbrev pub RouterEgressLaw : Type 0
RouterEgressLaw =
    (s : Chassis) → IsLaidOut s → (c : RouterCopy) (x : Leaving) (lists : Lists) (zones : ZoneLists) (copy : Carried)
    → c.out ≡ Some x.out → x.packet ≡ c.sight.packet → x.translates ≡ (not c.words.own && (is_translating (net_of s) c.port && carries_ip4 c.sight.packet))
    → c.words.finding ≡ not_sought → StandsInRouter s stage.RouterFind (stage_table stage.RouterFind) c lists zones copy
    → Comes (course_of s) zones (copy ∷ []) (ComesTo s (way_by_port s x) lists (ComesToOutput s copy))
