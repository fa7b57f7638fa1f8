-- A packet at a stage of a router, in names and words.
use Rattle.std.specs.Prelude.{◌≡◌, Bool, true, [], Option, Some, None, option_map}
use Rattle.ovn_base.specs.declared.address.Ip4.{Ip4}
use Rattle.ovn_base.specs.names.ByName.{at}
use Rattle.inet_packet.specs.Whole.{IsWhole}
use Rattle.inet_packet.specs.declared.regs.Reg.TheVariants as reg
use Rattle.inet_packet.specs.declared.regs.Regs.{Regs}
use Rattle.nb_records.specs.Network.{Network}
use Rattle.nb_records.specs.Routers.{nats_of}
use Rattle.nb_records.specs.Switches.{balancers_of}
use Rattle.nb_records.specs.declared.router.RouterPort.{RouterPort}
use Rattle.logical_flows.specs.declared.stage.Stage.{Stage}
use Rattle.logical_flows.specs.declared.stage.Stage.TheVariants as stage
use Rattle.flow_lowering.specs.Registers.{reg_number}
use Rattle.tunnel_keys.specs.declared.owner.Identity.{Identity}
use Rattle.net_model.specs.Headers.{carries_ip4}
use Rattle.net_model.specs.RouterInput.{is_for_port}
use Rattle.net_model.specs.Sights.{Sight, Roster, roster_of}
use Rattle.row_laws.specs.Copies.{Finding, not_sought, finding_code, flag_number}

-- ---- router ports

abbrev pub router_port_identity : RouterPort → Identity
router_port_identity port = record { name = port.name; birth = port.birth }

-- in the rows of routers a name stands for the router port that has it now
abbrev pub router_roster : Network → Roster
router_roster net = record { members = (roster_of net).members; live = λ name. option_map router_port_identity (at net.router_ports name) }

-- ---- words

-- what earlier stages found out: whether the packet is the router's own answer, the address of its next hop, and what its connection list
-- said
pub record RouterWords : Type 0 where
  pub own : Bool
  pub next : Ip4
  pub finding : Finding

-- the registers have the numbers of the words
pub record HaveRouterWords (w : RouterWords) (regs : Regs) : Type 0 where
  pub own : reg_number reg.Own regs ≡ flag_number w.own
  pub next : reg_number reg.Next regs ≡ w.next.0
  pub finding : reg_number reg.State regs ≡ finding_code w.finding

-- ---- at a stage

-- a packet with what was found out of it, the router port at which it came in, and the one by which it leaves, once that is known
pub record RouterCopy : Type 0 where
  pub port : RouterPort
  pub out : Option RouterPort
  pub sight : Sight
  pub words : RouterWords

-- the port by which it leaves is one of the router
pub record IsWayOut (net : Network) (c : RouterCopy) (q : RouterPort) : Type 0 where
  pub there : at net.router_ports q.name ≡ Some q
  pub on : q.router ≡ c.port.router
  pub is_port : c.sight.out_port ≡ Some (router_port_identity q)

abbrev pub HasWayOut : Network → RouterCopy → Option RouterPort → Type 0
HasWayOut net c None = c.sight.out_port ≡ None
HasWayOut net c (Some q) = IsWayOut net c q

-- the router translates nothing, and no connection list was asked
pub record IsPlain (net : Network) (c : RouterCopy) : Type 0 where
  pub nats : nats_of net c.port.router ≡ []
  pub balancers : balancers_of net c.port.router ≡ []
  pub finding : c.words.finding ≡ not_sought

-- what the stages before saw to: the first passes packets for the port alone, the second IPv4 packets alone; of the stages of NAT it is told
-- for routers that translate nothing
abbrev pub HasPassed : Network → Stage → RouterCopy → Type 0
HasPassed net stage.RouterAdmit c = Unit {0}
HasPassed net stage.RouterInput c = is_for_port c.port c.sight.packet ≡ true
HasPassed net stage.RouterUndo c = IsPlain net c
HasPassed net stage.RouterDnat c = IsPlain net c
HasPassed net stage.RouterFind c = IsPlain net c
HasPassed net stage.RouterSnat c = IsPlain net c
HasPassed net _ c = carries_ip4 c.sight.packet ≡ true

-- the copy is at the stage of the router, and its registers have the numbers of its words
pub record IsAtRouterPort (net : Network) (s : Stage) (c : RouterCopy) (regs : Regs) : Type 0 where
  pub there : at net.router_ports c.port.name ≡ Some c.port
  pub is_port : c.sight.in_port ≡ router_port_identity c.port
  pub way_out : HasWayOut net c c.out
  pub words : HaveRouterWords c.words regs
  pub whole : IsWhole c.sight.packet
  pub passed : HasPassed net s c
