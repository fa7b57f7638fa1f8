-- What is learnt about held ports.
use Rattle.std.specs.Prelude.{◌≡◌, ◌+◌, ◌-◌, ◌%◌, ◌≤◌, ◌<◌, ℕ, true, false, List, Option, Some, None, unwrap_or}
use Rattle.std.specs.BTreeMap.{is_at}
use Rattle.std.specs.Map.{lookup}
use Rattle.ovn_base.specs.lists.Among.{Among}
use Rattle.conn_table.specs.declared.connection.Entry.{Entry}
use Rattle.conn_table.specs.declared.ports.TheConstants.{BLOCK_PORTS, ALL_PORTS}
use Rattle.conn_table.specs.declared.tuple.Tuple.{Tuple}
use Rattle.conn_table.specs.Connections.{ConnectionList, is_free, is_idle}
use Rattle.conn_table.specs.Order.{tuple_cmp}
use Rattle.conn_table.specs.Picks.{with_port, first_port, is_free_port}

-- numbers at the tuples of blocks
abbrev pub FloorList : Type 0
FloorList = List (Tuple × ℕ)

abbrev pub floor_at : FloorList → Tuple → Option ℕ
floor_at floors block = lookup (is_at (tuple_cmp block)) floors

-- the block of this size that the port of the tuple is in, as the tuple with its first port
abbrev pub block_of : ℕ → Tuple → Tuple
block_of size t = with_port (t.dst_port - t.dst_port % size) t

-- a block of which nothing is known has its first port as its floor
abbrev pub floor_of : FloorList → Tuple → ℕ
floor_of floors block = unwrap_or (floor_at floors block) block.dst_port

-- ---- what always holds

-- the tuple has the first port of a block, and an echo has it twice
pub record IsBlock (size : ℕ) (block : Tuple) : Type 0 where
  pub whole : with_port block.dst_port block ≡ block
  pub first : block.dst_port % size ≡ 0
  pub ends : block.dst_port + size ≤ 65536

-- no port of the block below this number is free, but for ports that aren't picked
pub record IsFloor (size : ℕ) (list : ConnectionList) (block : Tuple) (floor : ℕ) : Type 0 where
  pub low : block.dst_port ≤ floor
  pub high : floor ≤ block.dst_port + size
  pub held : (n : ℕ) → first_port ≤ n → block.dst_port ≤ n → n < floor → is_free list (with_port n block) ≡ false

-- what was learnt is true of the list
pub record AreFloors (size : ℕ) (list : ConnectionList) (floors : FloorList) : Type 0 where
  pub block : (t : Tuple) (n : ℕ) → floor_at floors t ≡ Some n → IsBlock size t
  pub floor : (t : Tuple) (n : ℕ) → floor_at floors t ≡ Some n → IsFloor size list t n

-- and so for blocks of few ports and for all ports together
pub record AreLearnt (list : ConnectionList) (floors starts : FloorList) : Type 0 where
  pub few : AreFloors BLOCK_PORTS list floors
  pub all : AreFloors ALL_PORTS list starts

-- none of the ports that may be picked is free below this number
abbrev pub NoneFreeBelow : ConnectionList → Tuple → ℕ → Type 0
NoneFreeBelow list back end = (n : ℕ) → first_port ≤ n → n < end → is_free_port list back n ≡ false

-- ---- entries that end

-- nothing is known of the block any more, and nothing else is known of the others
pub record IsWithout (block : Tuple) (floors after : FloorList) : Type 0 where
  pub gone : floor_at after block ≡ None
  pub fewer : (t : Tuple) (n : ℕ) → floor_at after t ≡ Some n → floor_at floors t ≡ Some n

-- so for the blocks of an entry, if it ends
pub record Forgets (size now : ℕ) (e : Entry) (floors after : FloorList) : Type 0 where
  pub forward : is_idle now e ≡ true → floor_at after (block_of size e.forward) ≡ None
  pub reply : is_idle now e ≡ true → floor_at after (block_of size e.reply) ≡ None
  pub fewer : (t : Tuple) (n : ℕ) → floor_at after t ≡ Some n → floor_at floors t ≡ Some n

-- and of all entries that end
pub record AreForgotten (size now : ℕ) (list : ConnectionList) (floors after : FloorList) : Type 0 where
  pub forward : (t : Tuple) (e : Entry) → Among (t, e) list → is_idle now e ≡ true → floor_at after (block_of size e.forward) ≡ None
  pub reply : (t : Tuple) (e : Entry) → Among (t, e) list → is_idle now e ≡ true → floor_at after (block_of size e.reply) ≡ None
  pub fewer : (t : Tuple) (n : ℕ) → floor_at after t ≡ Some n → floor_at floors t ≡ Some n
