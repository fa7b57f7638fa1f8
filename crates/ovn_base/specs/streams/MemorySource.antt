-- What a source in memory is seen as.
use Rattle.std.specs.Prelude.{ℕ, ◌+◌, List, drop, ◌==◌, Bool}
use Rattle.std.specs.List.{list_any}
use Rattle.ovn_base.specs.streams.Causes.{one_more}

-- a source in memory: the bytes that are left, how many calls were made, the calls that fail, and how many did
pub record SourceState : Type 0 where
  pub left : List ℕ
  pub calls : ℕ
  pub failing : List ℕ
  pub faults : ℕ

-- the next call is one that the list names
abbrev pub is_to_fail : SourceState → Bool
is_to_fail s = list_any (λ call. call == s.calls + 1) s.failing

-- the source after a call that failed
abbrev pub failed_take : SourceState → SourceState
failed_take s = record s { calls = one_more s.calls; faults = one_more s.faults }

-- the source after a call that took the first n bytes
abbrev pub taken_from : ℕ → SourceState → SourceState
taken_from n s = record s { left = drop n s.left; calls = one_more s.calls }
