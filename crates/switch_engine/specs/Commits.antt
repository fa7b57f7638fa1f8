-- What actions do with a packet that begins a connection.
use Rattle.std.specs.Prelude.{ℕ, Bool, true, false, cond, List, [], ◌∷◌, Option, Some, None, Result, Ok, Err}
use Rattle.std.specs.List.{filter}
use Rattle.ovn_base.specs.declared.address.Backend.{Backend}
use Rattle.ovn_base.specs.declared.address.Ip4.{Ip4}
use Rattle.inet_packet.specs.declared.packet.Packet.{Packet}
use Rattle.flow_table.specs.declared.flow.Cause.{Cause}
use Rattle.flow_table.specs.declared.flow.Cause.TheVariants as cause
use Rattle.conn_table.specs.declared.connection.CommitFault.{CommitFault}
use Rattle.conn_table.specs.declared.connection.CommitFault.TheVariants as fault
use Rattle.conn_table.specs.declared.tuple.Protocol.{Protocol}
use Rattle.conn_table.specs.declared.tuple.Protocol.TheVariants as protocol
use Rattle.conn_table.specs.declared.tuple.Tuple.{Tuple}
use Rattle.conn_table.specs.Connections.{ConnectionList, is_free, committed}
use Rattle.conn_table.specs.Picks.{Chosen, choose_backend, choose_port, to_address, from_address, towards, with_port, is_free_backend, may_pick, has_free_port, is_backend_of, is_first_choice, is_least_port}
use Rattle.conn_table.specs.Tracking.{Seen, new, seen}
use Rattle.conn_table.specs.Tuples.{reversed, with_tuple}
use Rattle.switch_engine.specs.declared.effect.Effect.TheVariants.{PickBackend, PickPort}
use Rattle.switch_engine.specs.Acts.{Doing, Act, goes_next, tells, drops}
use Rattle.switch_engine.specs.Zones.{ZoneLists, zone_at, with_zone}

-- ---- a new entry

-- want of memory is no matter of the walk, and `committed` never answers it
abbrev pub commit_cause : CommitFault → Cause
commit_cause (fault.Clash t) = cause.Clash
commit_cause fault.Full = cause.Full
commit_cause fault.Memory = cause.Full

abbrev pub added : ℕ → Packet → Doing → Result ConnectionList CommitFault → Act
added z packet d (Ok list) = goes_next (record d { zones = with_zone d.zones z list; copy = record d.copy { packet = packet } })
added z packet d (Err why) = drops (commit_cause why) d

-- a packet that begins a connection in a zone: the zone's list, and the packet's tuple
pub record Newcomer : Type 0 where
  pub zone : ℕ
  pub list : ConnectionList
  pub tuple : Tuple

-- it is one where its tuple is new to the list
abbrev pub newcomer_seen : ℕ → ConnectionList → Seen → Option Newcomer
newcomer_seen z list (new t) = Some (record { zone = z; list = list; tuple = t })
newcomer_seen z list _ = None

abbrev pub newcomer_in : ℕ → Option ConnectionList → Packet → Option Newcomer
newcomer_in z None p = None
newcomer_in z (Some list) p = newcomer_seen z list (seen list p)

abbrev pub newcomer : ℕ → ZoneLists → Packet → Option Newcomer
newcomer z zones p = newcomer_in z (zone_at zones z) p

-- such a packet begins its connection so; any other goes on
abbrev pub begins_as : Option Newcomer → (Newcomer → Doing → Act) → Doing → Act
begins_as None begin d = goes_next d
begins_as (Some n) begin d = begin n d

abbrev pub begins : ℕ → (Newcomer → Doing → Act) → Doing → Act
begins z begin d = begins_as (newcomer z d.zones d.copy.packet) begin d

-- a connection with this reply tuple is added at a time, and the copy goes on with this packet; or it is dropped
abbrev pub adds : ℕ → Newcomer → Tuple → Packet → Doing → Act
adds now n back packet d = added n.zone packet d (committed n.list n.tuple back now)

-- ---- without a choice

-- the answers come back as they are
abbrev pub commits : ℕ → Newcomer → Doing → Act
commits now n d = adds now n (reversed n.tuple) d.copy.packet d

-- the packet goes to the address, and the answers come from there
abbrev pub translates_to : ℕ → Ip4 → Newcomer → Doing → Act
translates_to now ip n d = adds now n (reversed (to_address ip n.tuple)) (with_tuple (to_address ip n.tuple) d.copy.packet) d

-- ---- a backend

-- TCP and UDP alone have ports to which a virtual address can be given
abbrev pub is_balanced : Protocol → Bool
is_balanced protocol.Tcp = true
is_balanced protocol.Udp = true
is_balanced _ = false

-- the pick is told before the connection is added
abbrev pub sends_to : ℕ → Backend → List Backend → Newcomer → Chosen Backend → Doing → Act
sends_to now vip legal n c d =
    record (tells (PickBackend d.copy.regs.dp vip c.what) (adds now n (reversed (towards c.what n.tuple)) (with_tuple (towards c.what n.tuple) d.copy.packet) (record d { choices = c.left }))) {
      legal = c.legal;
      own = is_first_choice n.tuple legal c.what;
    }

abbrev pub balances_over : ℕ → Backend → List Backend → Newcomer → Doing → Act
balances_over now vip [] n d = drops cause.NoLiveBackend d
balances_over now vip (b ∷ bs) n d = sends_to now vip (b ∷ bs) n (choose_backend (is_backend_of (b ∷ bs)) vip d.choices) d

-- one of the backends is picked whose answers are no other connection's
abbrev pub balances : ℕ → Backend → List Backend → Newcomer → Doing → Act
balances now vip bs n d = cond (is_balanced n.tuple.protocol) (balances_over now vip (filter (is_free_backend n.list n.tuple) bs) n d) (goes_next d)

-- ---- a port

-- with this reply tuple the packet comes from where the answers go
abbrev pub translates_from : ℕ → Tuple → Newcomer → Doing → Act
translates_from now back n d = adds now n back (with_tuple (reversed back) d.copy.packet) d

-- the pick is told before the connection is added
abbrev pub comes_from : ℕ → Tuple → Newcomer → Chosen ℕ → Doing → Act
comes_from now back n c d =
    record (tells (PickPort d.copy.regs.dp c.what) (translates_from now (with_port c.what back) n (record d { choices = c.left }))) {
      legal = c.legal;
      own = is_least_port n.list back c.what;
    }

abbrev pub picks_port : ℕ → Bool → Tuple → Newcomer → Doing → Act
picks_port now true back n d = comes_from now back n (choose_port (may_pick n.list back) d.choices) d
picks_port now false back n d = drops cause.NoFreePort d

-- the source port is kept where its reply tuple is free, and else a free one is picked
abbrev pub keeps_port : ℕ → Bool → Tuple → Newcomer → Doing → Act
keeps_port now true back n d = translates_from now back n d
keeps_port now false back n d = picks_port now (has_free_port n.list back) back n d

abbrev pub hides_behind : ℕ → Ip4 → Newcomer → Doing → Act
hides_behind now ip n d = let back = reversed (from_address ip n.tuple) in keeps_port now (is_free n.list back) back n d
