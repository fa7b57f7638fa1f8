-- What each stage of any router does with a packet, by the network alone: what a gateway router looks for, translates and drops, as actions.
use Rattle.std.specs.Prelude.{◌≡◌, ◌&&◌, Bool, true, false, not, List, [], ◌∷◌, filter, Option, Some, None}
use Rattle.ovn_base.specs.names.ByName.{at}
use Rattle.flow_table.specs.declared.flow.Cause.TheVariants as cause
use Rattle.flow_table.specs.declared.flow.ZoneOf.TheVariants as zone
use Rattle.inet_packet.specs.Whole.{IsWhole}
use Rattle.inet_packet.specs.declared.packet.Packet.{Packet}
use Rattle.inet_packet.specs.declared.regs.Regs.{Regs}
use Rattle.nb_records.specs.Network.{Network, is_online}
use Rattle.nb_records.specs.declared.router.Nat.{Nat}
use Rattle.logical_flows.specs.declared.action.Action.{Action}
use Rattle.logical_flows.specs.declared.action.Action.TheVariants as a
use Rattle.logical_flows.specs.declared.stage.Stage.{Stage}
use Rattle.logical_flows.specs.declared.stage.Stage.TheVariants as stage
use Rattle.stage_rows.specs.Rows.{go_on}
use Rattle.net_model.specs.Balancing.{Service}
use Rattle.net_model.specs.Dnat.{dnat_row}
use Rattle.net_model.specs.Forwarding.{is_translating}
use Rattle.net_model.specs.Headers.{carries_ip4, src_of, dst_of}
use Rattle.net_model.specs.Snat.{snat_row}
use Rattle.row_laws.specs.Copies.{Finding, not_sought, found_new, found_forward, found_reply, found_invalid}
use Rattle.row_laws.specs.StageActions.{service_of}
use Rattle.row_laws.specs.routers.RouterActions.{router_actions_at}
use Rattle.row_laws.specs.routers.RouterCopies.{RouterCopy, HasPassed, HasWayOut, HaveRouterWords, router_port_identity}

-- ---- destinations

-- where the packet is translated, a translation of its source is undone, and it is looked for in the list of destinations
abbrev pub undo_actions : Bool → List Action
undo_actions true = a.Undo ∷ a.Find zone.Dnat ∷ go_on stage.RouterUndo ∷ []
undo_actions false = go_on stage.RouterUndo ∷ []

-- a packet of a known connection is translated as that is
abbrev pub carry_actions : Stage → List Action
carry_actions s = a.Touch ∷ a.Translate ∷ go_on s ∷ []

-- a connection begins: to a virtual address by one of its backends that are online, or else to the address that a row gives
abbrev pub begin_dnat : Network → Option Service → Option Nat → List Action
begin_dnat net (Some s) row = a.Balance zone.Dnat s.vip.at (filter (is_online net s.balancer) s.vip.backends) ∷ go_on stage.RouterDnat ∷ []
begin_dnat net None (Some r) = a.Dnat zone.Dnat r.logical_ip.addr ∷ go_on stage.RouterDnat ∷ []
begin_dnat net None None = go_on stage.RouterDnat ∷ []

-- by what the list said
abbrev pub dnat_actions : Network → Option Service → Option Nat → Finding → List Action
dnat_actions net service row found_forward = carry_actions stage.RouterDnat
dnat_actions net service row found_reply = carry_actions stage.RouterDnat
dnat_actions net service row found_new = begin_dnat net service row
dnat_actions net service row found_invalid = go_on stage.RouterDnat ∷ []
dnat_actions net service row not_sought = go_on stage.RouterDnat ∷ []

-- ---- sources

-- where its source is translated, the packet is looked for in the list of sources
abbrev pub find_actions : Bool → List Action
find_actions true = a.Find zone.Snat ∷ go_on stage.RouterFind ∷ []
find_actions false = go_on stage.RouterFind ∷ []

-- a connection begins, with the address that a row gives
abbrev pub begin_snat : Option Nat → List Action
begin_snat (Some r) = a.Snat zone.Snat r.external_ip ∷ go_on stage.RouterSnat ∷ []
begin_snat None = go_on stage.RouterSnat ∷ []

-- what is to be translated and can begin no connection is dropped
abbrev pub refuse_snat : Option Nat → List Action
refuse_snat (Some r) = a.Drop cause.Invalid ∷ []
refuse_snat None = go_on stage.RouterSnat ∷ []

-- by what the list said
abbrev pub snat_actions : Option Nat → Finding → List Action
snat_actions row found_forward = carry_actions stage.RouterSnat
snat_actions row found_reply = go_on stage.RouterSnat ∷ []
snat_actions row found_new = begin_snat row
snat_actions row found_invalid = refuse_snat row
snat_actions row not_sought = go_on stage.RouterSnat ∷ []

-- ---- each stage

-- what the stage of a router does with the copy, be it a router that translates or not; its own answer is not translated on its way out
abbrev pub router_actions_by : Stage → Network → RouterCopy → List Action
router_actions_by stage.RouterUndo net c = undo_actions (is_translating net c.port && carries_ip4 c.sight.packet)
router_actions_by stage.RouterDnat net c = dnat_actions net (service_of net c.port.router c.sight.packet) (dnat_row net c.port.router (dst_of c.sight.packet)) c.words.finding
router_actions_by stage.RouterFind net c = find_actions (not c.words.own && (is_translating net c.port && carries_ip4 c.sight.packet))
router_actions_by stage.RouterSnat net c = snat_actions (snat_row net c.port.router (src_of c.sight.packet)) c.words.finding
router_actions_by s net c = router_actions_at s net c

-- ---- copies

-- a packet for which a list was asked is one of IPv4
abbrev pub IsAskedOf : Packet → Finding → Type 0
IsAskedOf p not_sought = Unit {0}
IsAskedOf p _ = carries_ip4 p ≡ true

-- what the stages before saw to, as on a router that translates nothing, but for the stages of NAT
abbrev pub HasComeTo : Network → Stage → RouterCopy → Type 0
HasComeTo net stage.RouterUndo c = Unit {0}
HasComeTo net stage.RouterDnat c = IsAskedOf c.sight.packet c.words.finding
HasComeTo net stage.RouterFind c = Unit {0}
HasComeTo net stage.RouterSnat c = IsAskedOf c.sight.packet c.words.finding
HasComeTo net s c = HasPassed net s c

-- the copy is at the stage of any router, and its registers have the numbers of its words
pub record IsAtAnyRouterPort (net : Network) (s : Stage) (c : RouterCopy) (regs : Regs) : Type 0 where
  pub there : at net.router_ports c.port.name ≡ Some c.port
  pub is_port : c.sight.in_port ≡ router_port_identity c.port
  pub way_out : HasWayOut net c c.out
  pub words : HaveRouterWords c.words regs
  pub whole : IsWhole c.sight.packet
  pub passed : HasComeTo net s c
