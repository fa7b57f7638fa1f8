-- That the stages of a router, one after another, take a packet through as the model says, where the router translates nothing.
use Rattle.std.specs.Prelude.{◌≡◌, ◌==◌, ℕ, true, false, List, [], ◌∷◌, Option, Some, None, option_map, cond}
use Rattle.conn_table.specs.Tuples.{tuple_of}
use Rattle.inet_packet.specs.Fields as field
use Rattle.inet_packet.specs.Rewrites.{with_ip4, ip4_as_reply, ip4_dec_ttl, with_arp_reply}
use Rattle.inet_packet.specs.declared.packet.Packet.{Packet}
use Rattle.inet_packet.specs.declared.regs.Reg.{Reg}
use Rattle.inet_packet.specs.declared.regs.Reg.TheVariants as reg
use Rattle.nb_records.specs.Network.{Network}
use Rattle.nb_records.specs.Routers.{nats_of}
use Rattle.nb_records.specs.Switches.{balancers_of}
use Rattle.nb_records.specs.declared.router.RouterPort.{RouterPort}
use Rattle.nb_rules.specs.Valid.{IsValid}
use Rattle.ovn_base.specs.declared.address.Ip4.{Ip4}
use Rattle.ovn_base.specs.names.ByName.{at}
use Rattle.logical_flows.specs.Stages.{stage_table}
use Rattle.logical_flows.specs.declared.action.Action.{Action}
use Rattle.logical_flows.specs.declared.action.Action.TheVariants as a
use Rattle.logical_flows.specs.declared.stage.Stage.{Stage}
use Rattle.logical_flows.specs.declared.stage.Stage.TheVariants as stage
use Rattle.net_model.specs.Entry.{Scene, Onward}
use Rattle.net_model.specs.Forwarding.{is_translating, leave_router, into_router}
use Rattle.net_model.specs.Headers.{carries_ip4, asked_ip, ip_of, dst_of}
use Rattle.net_model.specs.RouterInput.{Intake, answers_with, becomes, passes_on, refuses, arp_answer, is_echo_request, intake}
use Rattle.net_model.specs.Trail.{Trail, spot_in_router, drop_for}
use Rattle.row_laws.specs.Copies.{not_sought}
use Rattle.row_laws.specs.routers.RouterActions.{router_actions_at}
use Rattle.row_laws.specs.routers.RouterCopies.{RouterCopy, router_port_identity}

-- ---- what actions do

-- after actions the packet comes to a table with what was found out of it, or it has ended
pub data Reaching : Type 0 where
  comes_to : ℕ → Trail → RouterCopy → Reaching
  has_ended : Trail → Reaching

abbrev pub with_packet : Packet → RouterCopy → RouterCopy
with_packet p c = record c { sight = record c.sight { packet = p } }

-- it is to leave by the port
abbrev pub with_out : Option RouterPort → RouterCopy → RouterCopy
with_out out c = record c { out = out; sight = record c.sight { out_port = option_map router_port_identity out } }

abbrev pub with_next : Ip4 → RouterCopy → RouterCopy
with_next ip c = record c { words = record c.words { next = ip } }

abbrev pub with_word : Reg → ℕ → RouterCopy → RouterCopy
with_word reg.Own n c = record c { words = record c.words { own = n == 1 } }
with_word reg.Next n c = with_next (ip_of n) c
with_word _ n c = c

-- Each action does its part, up to the one after which the packet comes to a table or is dropped. What translates does nothing here.
abbrev pub done_by : Network → List Action → Trail → RouterCopy → Reaching
done_by net [] t c = has_ended t
done_by net (a.Set r n ∷ more) t c = done_by net more t (with_word r n c)
done_by net (a.SetOut q ∷ more) t c = done_by net more t (with_out (at net.router_ports q) c)
done_by net (a.OutIsIn ∷ more) t c = done_by net more t (with_out (Some c.port) c)
done_by net (a.NextDst ∷ more) t c = done_by net more t (with_next (dst_of c.sight.packet) c)
done_by net (a.ArpReply mac ip ∷ more) t c = done_by net more t (with_packet (with_arp_reply mac ip c.sight.packet) c)
done_by net (a.EchoReply ∷ more) t c = done_by net more t (with_packet (with_ip4 ip4_as_reply c.sight.packet) c)
done_by net (a.DecTtl ∷ more) t c = done_by net more t (with_packet (with_ip4 ip4_dec_ttl c.sight.packet) c)
done_by net (a.EthSrc mac ∷ more) t c = done_by net more t (with_packet (record c.sight.packet { src = mac }) c)
done_by net (a.EthDst mac ∷ more) t c = done_by net more t (with_packet (record c.sight.packet { dst = mac }) c)
done_by net (a.Go table ∷ more) t c = comes_to table t c
done_by net (a.Drop why ∷ more) t c = has_ended (drop_for why (spot_in_router c.port) t)
done_by net (_ ∷ more) t c = done_by net more t c

-- ---- through stages

-- a stage does what the network tells of it with a packet that comes to its table
abbrev pub at_stage : Network → Stage → Reaching → Reaching
at_stage net s (has_ended t) = has_ended t
at_stage net s (comes_to table t c) = cond (table == stage_table s) (done_by net (router_actions_at s net c) t c) (comes_to table t c)

abbrev pub through_router : Network → List Stage → Reaching → Reaching
through_router net [] r = r
through_router net (s ∷ ss) r = through_router net ss (at_stage net s r)

abbrev pub router_entry_stages : List Stage
router_entry_stages =
    stage.RouterAdmit ∷ stage.RouterInput ∷ stage.RouterUndo ∷ stage.RouterDnat ∷ stage.RouterOwn ∷ stage.RouterRoute ∷ stage.RouterNeighbour ∷ []

abbrev pub router_exit_stages : List Stage
router_exit_stages = stage.RouterFind ∷ stage.RouterSnat ∷ []

-- ---- from port to port

-- a packet that enters at the port, of which nothing was found out yet
abbrev pub entering : RouterPort → Packet → RouterCopy
entering i p = record {
  port = i;
  out = None;
  sight = record { packet = p; in_port = router_port_identity i; out_port = None };
  words = record { own = false; next = ip_of 0; finding = not_sought };
}

-- one that has a port by which it leaves comes to the first table of the pipeline of exit
abbrev pub at_exit : Reaching → Reaching
at_exit (comes_to table t c) = comes_to (stage_table stage.RouterFind) t c
at_exit (has_ended t) = has_ended t

-- and behind the last it leaves by the port
abbrev pub leaves_by : Onward → Network → Option RouterPort → Trail → Packet → Trail
leaves_by onward net None t p = t
leaves_by onward net (Some out) t p = leave_router onward net out t p

abbrev pub left_by : Onward → Network → Reaching → Trail
left_by onward net (comes_to table t c) = leaves_by onward net c.out t c.sight.packet
left_by onward net (has_ended t) = t

abbrev pub taken_through : Onward → Network → RouterPort → Trail → Packet → Trail
taken_through onward net i t p =
    left_by onward net (through_router net router_exit_stages (at_exit (through_router net router_entry_stages (comes_to (stage_table stage.RouterAdmit) t (entering i p)))))

-- ---- the laws

-- The stages of a router that translates nothing take a packet through as the model says.
abbrev pub ThroughLaw : Type 0
ThroughLaw =
    (s : Scene) → IsValid s.config.net → (i : RouterPort) → is_translating s.config.net i ≡ false
    → (onward : Onward) (t : Trail) (p : Packet) → taken_through onward s.config.net i t p ≡ into_router onward s i t p

-- Such a router has no row of NAT and no balancer.
abbrev pub TranslatesNothingLaw : Type 0
TranslatesNothingLaw =
    (net : Network) → IsValid net → (i : RouterPort) → at net.router_ports i.name ≡ Some i → is_translating net i ≡ false
    → (nats_of net i.router ≡ []) × (balancers_of net i.router ≡ [])

-- what an intake tells of the packet: only requests of ARP are answered, only echo requests become answers, and only packets of IPv4 pass on
abbrev pub IsIntake : RouterPort → Packet → Intake → Type 0
IsIntake i p (answers_with q) = (asked_ip p ≡ Some (ip_of (field.arp_tpa p.body))) × (q ≡ arp_answer i p)
IsIntake i p (becomes q) = (is_echo_request (tuple_of p) ≡ true) × (carries_ip4 p ≡ true) × (q ≡ with_ip4 ip4_as_reply p)
IsIntake i p passes_on = carries_ip4 p ≡ true
IsIntake i p (refuses why) = Unit {0}

abbrev pub IntakeLaw : Type 0
IntakeLaw = (net : Network) (i : RouterPort) (p : Packet) → IsIntake i p (intake net i p)
