-- What a sink in memory is seen as.
use Rattle.std.specs.Prelude.{ℕ, ◌+◌, ◌-◌, List, ◌++◌, length, take, ◌==◌, if◌then◌else◌, nat_lt, Bool, ◌||◌, Option, option_map, unwrap_or, find, is_some}
use Rattle.ovn_base.specs.streams.Causes.{one_more}

-- a sink in memory: the bytes that it has, the room for all of them, how many calls were made, the calls that fail
-- with how many bytes each then keeps, and how many failed
pub record SinkState : Type 0 where
  pub bytes : List ℕ
  pub room : ℕ
  pub calls : ℕ
  pub failing : List (ℕ × ℕ)
  pub faults : ℕ

-- how many bytes the next call keeps if it is one that the list names; a call's first entry counts
abbrev pub listed : SinkState → Option ℕ
listed s = option_map (λ e. e.1) (find (λ e. e.0 == s.calls + 1) s.failing)

-- the piece is longer than the room that is left
abbrev pub is_too_long : SinkState → List ℕ → Bool
is_too_long s piece = nat_lt (s.room - length s.bytes) (length piece)

-- how many bytes of its piece the next call keeps, where it has so many
abbrev pub kept_of : SinkState → List ℕ → ℕ
kept_of s piece = if is_too_long s piece then 0 else unwrap_or (listed s) (length piece)

-- the next call fails with this piece
abbrev pub is_to_refuse : SinkState → List ℕ → Bool
is_to_refuse s piece = is_too_long s piece || is_some (listed s)

-- the sink after a call
abbrev pub given_to : SinkState → List ℕ → SinkState
given_to s piece = record s {
  bytes = s.bytes ++ take (kept_of s piece) piece;
  calls = one_more s.calls;
  faults = if is_to_refuse s piece then one_more s.faults else s.faults;
}
