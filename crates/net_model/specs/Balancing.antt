-- New entries of connection lists, and how balancers spread new connections over backends.
use Rattle.std.specs.Prelude.{◌==◌, ◌&&◌, ℕ, Bool, true, false, List, [], ◌∷◌, Option, None, option_map, cond, Result, Ok, Err}
use Rattle.std.specs.List.{filter, find, list_any}
use Rattle.conn_table.specs.Connections.{ConnectionList, committed}
use Rattle.conn_table.specs.Picks.{Chosen, choose_backend, towards, is_free_backend}
use Rattle.conn_table.specs.Tuples.{reversed, with_tuple}
use Rattle.conn_table.specs.declared.connection.CommitFault.{CommitFault}
use Rattle.conn_table.specs.declared.connection.CommitFault.TheVariants as fault
use Rattle.conn_table.specs.declared.tuple.Protocol.{Protocol}
use Rattle.conn_table.specs.declared.tuple.Protocol.TheVariants as protocol
use Rattle.conn_table.specs.declared.tuple.Tuple.{Tuple}
use Rattle.flow_table.specs.declared.flow.Cause.{Cause}
use Rattle.flow_table.specs.declared.flow.Cause.TheVariants as cause
use Rattle.inet_packet.specs.declared.packet.Packet.{Packet}
use Rattle.nb_records.specs.Network.{Network, same_backend, is_online}
use Rattle.nb_records.specs.Switches.{same_ip, first_answer, balancers_of}
use Rattle.nb_records.specs.declared.balancer.BalancerProtocol.{BalancerProtocol}
use Rattle.nb_records.specs.declared.balancer.BalancerProtocol.TheVariants as balanced
use Rattle.nb_records.specs.declared.balancer.LoadBalancer.{LoadBalancer}
use Rattle.nb_records.specs.declared.balancer.Vip.{Vip}
use Rattle.ovn_base.specs.declared.address.Backend.{Backend}
use Rattle.ovn_base.specs.declared.name.Name.{Name}
use Rattle.net_model.specs.Trail.{Trail, ListOwner, list_of, write_list, Spot, drop_for, tell, picks_backend, after_choice, Point, goes, stops}

-- ---- new entries

-- where a packet is held against a connection list: the time, the spot at which it would be dropped, and whose list it is
pub record Desk : Type 0 where
  pub now : ℕ
  pub spot : Spot
  pub owner : ListOwner

-- want of memory is no matter of the network, and `committed` never answers it
abbrev pub commit_cause : CommitFault → Cause
commit_cause (fault.Clash t) = cause.Clash
commit_cause fault.Full = cause.Full
commit_cause fault.Memory = cause.Full

-- the packet goes on once its connection stands in the list, or it is dropped
abbrev pub after_commit : Desk → Result ConnectionList CommitFault → Trail → Packet → Point
after_commit d (Ok list) t p = goes (write_list d.owner list t) p
after_commit d (Err why) t p = stops (drop_for (commit_cause why) d.spot t)

-- a connection of these two tuples begins
abbrev pub commit_or_drop : Desk → Tuple → Tuple → Trail → Packet → Point
commit_or_drop d from back t p = after_commit d (committed (list_of t.lists d.owner) from back d.now) t p

-- ---- virtual addresses

abbrev pub serves_protocol : BalancerProtocol → Protocol → Bool
serves_protocol balanced.Tcp protocol.Tcp = true
serves_protocol balanced.Udp protocol.Udp = true
serves_protocol _ _ = false

abbrev pub is_to_vip : Tuple → Vip → Bool
is_to_vip t vip = same_ip vip.at.ip t.dst && (vip.at.port == t.dst_port)

-- a virtual address, with the name of its balancer
pub record Service : Type 0 where
  pub balancer : Name
  pub vip : Vip

abbrev pub service_in : Tuple → LoadBalancer → Option Service
service_in t b = cond (serves_protocol b.protocol t.protocol) (option_map (λ (v : Vip). record { balancer = b.name; vip = v }) (find (is_to_vip t) b.vips)) None

-- the virtual address to which the tuple goes, of a balancer that serves the switch or router
abbrev pub service_for : Network → Name → Tuple → Option Service
service_for net datapath t = first_answer (service_in t) (balancers_of net datapath)

-- ---- picking a backend

-- a backend may be picked that is online, and whose answers are no other connection's
abbrev pub may_serve : Network → ConnectionList → Tuple → Name → Backend → Bool
may_serve net list t balancer b = is_online net balancer b && is_free_backend list t b

abbrev pub legal_backends : Network → ConnectionList → Tuple → Service → List Backend
legal_backends net list t s = filter (may_serve net list t s.balancer) s.vip.backends

-- the pick is told before the connection is committed
abbrev pub send_to_backend : Desk → Tuple → Backend → Chosen Backend → Trail → Packet → Point
send_to_backend d tuple vip c t p =
    commit_or_drop d tuple (reversed (towards c.what tuple)) (tell (picks_backend d.spot.datapath vip c.what) (after_choice c t)) (with_tuple (towards c.what tuple) p)

abbrev pub pick_backend : Desk → Tuple → Backend → List Backend → Trail → Packet → Point
pick_backend d tuple vip [] t p = stops (drop_for cause.NoLiveBackend d.spot t)
pick_backend d tuple vip (b ∷ bs) t p = send_to_backend d tuple vip (choose_backend (λ c. list_any (same_backend c) (b ∷ bs)) vip t.choices) t p

-- a new connection to a virtual address: one of the backends is picked that may be, and the packet goes there
abbrev pub balance : Network → Desk → Tuple → Service → Trail → Packet → Point
balance net d tuple s t p = pick_backend d tuple s.vip.at (legal_backends net (list_of t.lists d.owner) tuple s) t p
