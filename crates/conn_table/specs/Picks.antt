-- What may be picked for a connection that begins: a backend of a virtual address, or a port.
use Rattle.std.specs.Prelude.{◌==◌, ◌&&◌, ◌+◌, ◌-◌, ◌%◌, ℕ, zero, suc, nat_le, Bool, true, false, not, cond, List, ◌∷◌, length, slice_get, Option, Some, None}
use Rattle.std.specs.List.{list_any}
use Rattle.conn_table.specs.Connections.{ConnectionList, is_free}
use Rattle.conn_table.specs.Tuples.{reversed, has_ports}
use Rattle.conn_table.specs.declared.ports.TheConstants.{FIRST_PORT, LAST_PORT}
use Rattle.conn_table.specs.declared.tuple.Protocol.{Protocol}
use Rattle.conn_table.specs.declared.tuple.Protocol.TheVariants as protocol
use Rattle.conn_table.specs.declared.tuple.Tuple.{Tuple}
use Rattle.ovn_base.specs.declared.address.Backend.{Backend}
use Rattle.ovn_base.specs.declared.address.Ip4.{Ip4}

-- ---- choices

-- what the rules leave open
pub data Choice : Type 0 where
  to_backend : Backend → Choice
  to_port : ℕ → Choice

-- what was chosen, whether that is legal, and the choices that are left
pub record Chosen (X : Type 0) : Type 0 where
  pub what : X
  pub legal : Bool
  pub left : List Choice

-- a choice that is missing, or of the wrong kind, is not legal, and then this stands in its place
abbrev pub choose_backend : (Backend → Bool) → Backend → List Choice → Chosen Backend
choose_backend is_legal otherwise (to_backend b ∷ choices) = record { what = b; legal = is_legal b; left = choices }
choose_backend is_legal otherwise choices = record { what = otherwise; legal = false; left = choices }

abbrev pub choose_port : (ℕ → Bool) → List Choice → Chosen ℕ
choose_port is_legal (to_port n ∷ choices) = record { what = n; legal = is_legal n; left = choices }
choose_port is_legal choices = record { what = 0; legal = false; left = choices }

-- ---- other tuples

-- the tuple to another address, and from another address
abbrev pub to_address : Ip4 → Tuple → Tuple
to_address ip t = record t { dst = ip }

abbrev pub from_address : Ip4 → Tuple → Tuple
from_address ip t = record t { src = ip }

-- the tuple to the backend, in place of the virtual address
abbrev pub towards : Backend → Tuple → Tuple
towards b t = record t { dst = b.ip; dst_port = b.port }

-- answers come back to the port; an echo has its identifier twice
abbrev pub with_port_of : Protocol → ℕ → Tuple → Tuple
with_port_of protocol.EchoReply n back = record back { src_port = n; dst_port = n }
with_port_of _ n back = record back { dst_port = n }

abbrev pub with_port : ℕ → Tuple → Tuple
with_port n back = with_port_of back.protocol n back

-- ---- backends

-- the backend's answers are no other connection's
abbrev pub is_free_backend : ConnectionList → Tuple → Backend → Bool
is_free_backend list t b = is_free list (reversed (towards b t))

-- ---- ports

-- the port is free: answers to it would be no other connection's
abbrev pub is_free_port : ConnectionList → Tuple → ℕ → Bool
is_free_port list back n = is_free list (with_port n back)

abbrev pub first_port : ℕ
first_port = FIRST_PORT

abbrev pub last_port : ℕ
last_port = LAST_PORT

-- how many there are from the first to the last
abbrev pub ports_to_pick : ℕ
ports_to_pick = suc (last_port - first_port)

abbrev pub may_pick : ConnectionList → Tuple → ℕ → Bool
may_pick list back n = nat_le first_port n && (nat_le n last_port && is_free_port list back n)

-- so many numbers from this one on have one that passes (it looks no further than it has to, so that it computes)
abbrev pub some_from : (ℕ → Bool) → ℕ → ℕ → Bool
some_from test from zero = false
some_from test from (suc n) = elim (test from) [ true ↦ true | false ↦ some_from test (from + 1) n ]

-- there is a port that may be picked; a protocol without ports has none
abbrev pub has_free_port : ConnectionList → Tuple → Bool
has_free_port list back = cond (has_ports back.protocol) (some_from (is_free_port list back) first_port ports_to_pick) false

-- ---- how a program picks

-- the backends are the same
abbrev pub is_backend : Backend → Backend → Bool
is_backend a b = (a.ip.0 == b.ip.0) && (a.port == b.port)

-- one of these
abbrev pub is_backend_of : List Backend → Backend → Bool
is_backend_of bs b = list_any (is_backend b) bs

-- by the source and the two ports, so that the packets of one tuple go one way
abbrev pub backend_index : Tuple → ℕ → ℕ
backend_index t n = (t.src.0 + t.src_port + t.dst_port) % n

abbrev pub is_backend_at : Option Backend → Backend → Bool
is_backend_at None b = false
is_backend_at (Some c) b = is_backend c b

abbrev pub is_first_choice : Tuple → List Backend → Backend → Bool
is_first_choice t bs b = is_backend_at (slice_get bs (backend_index t (length bs))) b

-- no lesser port is free
abbrev pub is_least_port : ConnectionList → Tuple → ℕ → Bool
is_least_port list back n = not (some_from (is_free_port list back) first_port (n - first_port))
