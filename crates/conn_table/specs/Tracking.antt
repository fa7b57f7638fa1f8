-- What a list of connections says of a packet.
use Rattle.std.specs.Prelude.{◌≡◌, cond, Option, Some, None, IsSome}
use Rattle.std.specs.Option.{option_map}
use Rattle.inet_packet.specs.declared.packet.Packet.{Packet}
use Rattle.conn_table.specs.declared.connection.Entry.{Entry}
use Rattle.conn_table.specs.declared.connection.Slot.{Slot}
use Rattle.conn_table.specs.declared.connection.State.{State}
use Rattle.conn_table.specs.declared.connection.State.TheVariants as states
use Rattle.conn_table.specs.declared.tuple.Tuple.{Tuple}
use Rattle.conn_table.specs.Connections.{ConnectionList, entry_of, answered}
use Rattle.conn_table.specs.Tuples.{tuple_of, reversed, is_echo_reply, with_tuple}

-- ---- what is seen

pub data Seen : Type 0 where
  -- a packet of this connection
  forward : Entry → Seen
  -- an answer to it
  reply : Entry → Seen
  -- neither, and nothing that a connection can begin with
  invalid : Seen
  new : Tuple → Seen

abbrev pub seen_as_reply : Tuple → Option Entry → Seen
seen_as_reply t (Some e) = reply e
seen_as_reply t None = cond (is_echo_reply t.protocol) invalid (new t)

abbrev pub seen_as_forward : ConnectionList → Tuple → Option Entry → Seen
seen_as_forward list t (Some e) = forward e
seen_as_forward list t None = seen_as_reply t (answered list t)

-- the forward tuples are looked through first
abbrev pub seen_tuple : ConnectionList → Option Tuple → Seen
seen_tuple list (Some t) = seen_as_forward list t (entry_of list t)
seen_tuple list None = invalid

abbrev pub seen : ConnectionList → Packet → Seen
seen list p = seen_tuple list (tuple_of p)

-- ---- the state that names it

abbrev pub slot_of : Entry → Slot
slot_of e = record { forward = e.forward }

abbrev pub state_of : Seen → State
state_of (forward e) = states.Forward (slot_of e)
state_of (reply e) = states.Reply (slot_of e)
state_of invalid = states.Invalid
state_of (new t) = states.New

-- the entry of the slot is there
abbrev pub IsHeld : ConnectionList → Slot → Type 0
IsHeld list slot = IsSome (entry_of list slot.forward)

-- ---- translation

-- the tuple of the packets of this state
abbrev pub tuple_before : ConnectionList → State → Option Tuple
tuple_before list (states.Forward slot) = option_map (λ e. e.forward) (entry_of list slot.forward)
tuple_before list (states.Reply slot) = option_map (λ e. e.reply) (entry_of list slot.forward)
tuple_before list states.New = None
tuple_before list states.Invalid = None

-- the tuple that they get: the reverse of the entry's other tuple
abbrev pub tuple_after : ConnectionList → State → Option Tuple
tuple_after list (states.Forward slot) = option_map (λ e. reversed e.reply) (entry_of list slot.forward)
tuple_after list (states.Reply slot) = option_map (λ e. reversed e.forward) (entry_of list slot.forward)
tuple_after list states.New = None
tuple_after list states.Invalid = None

-- the state names an entry that has the tuple so
abbrev pub NamesEntry : ConnectionList → Option Tuple → State → Type 0
NamesEntry list t (states.Forward slot) = IsHeld list slot × (t ≡ tuple_before list (states.Forward slot))
NamesEntry list t (states.Reply slot) = IsHeld list slot × (t ≡ tuple_before list (states.Reply slot))
NamesEntry list t states.New = Unit {0}
NamesEntry list t states.Invalid = Unit {0}

-- and a packet of the tuple can be translated by it
abbrev pub CanTranslate : ConnectionList → Option Tuple → State → Type 0
CanTranslate list t (states.Forward slot) = NamesEntry list t (states.Forward slot)
CanTranslate list t (states.Reply slot) = NamesEntry list t (states.Reply slot)
CanTranslate list t states.New = ⊥
CanTranslate list t states.Invalid = ⊥

abbrev pub with_option : Option Tuple → Packet → Packet
with_option None p = p
with_option (Some t) p = with_tuple t p

abbrev pub translated : ConnectionList → State → Packet → Packet
translated list state p = with_option (tuple_after list state) p
