-- What a list of flows shows of itself.
use Rattle.std.specs.Prelude.{◌≤◌, ℕ, List, length}
use Rattle.ovn_base.specs.declared.delta.Delta.{Delta}
use Rattle.flow_table.specs.declared.flow.Flow.{Flow}
use Rattle.flow_table.specs.Change.{IsDeltaOf}

-- the flows, and how many more there is room for
pub record HeldFlows : Type 0 where
  pub flows : List Flow
  pub room : ℕ

-- the delta is one of the flows held, and there is room for what comes
pub record IsReady (held : HeldFlows) (delta : Delta Flow) : Type 0 where
  pub room : length delta.added ≤ held.room
  pub fits : IsDeltaOf held.flows delta
