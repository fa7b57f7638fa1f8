-- How the flows of a chassis change.
use Rattle.std.specs.Prelude.{◌⊎◌, ◌↔◌, List}
use Rattle.ovn_base.specs.lists.Among.{Among}
use Rattle.ovn_base.specs.lists.Once.{EachOnce}
use Rattle.ovn_base.specs.declared.delta.Delta.{Delta}
use Rattle.flow_table.specs.declared.flow.Flow.{Flow}

-- what comes isn't there, unless it goes as well, and comes once
pub record IsDeltaOf (flows : List Flow) (delta : Delta Flow) : Type 0 where
  pub once : EachOnce delta.added
  pub new : (f : Flow) → Among f delta.added → Among f flows → Among f delta.removed

-- the new flows are the old ones without those that went, and those that came
abbrev pub IsReplaced : List Flow → Delta Flow → List Flow → Type 0
IsReplaced old delta new = (f : Flow) → Among f new ↔ (Among f delta.added ⊎ (Among f old × ¬ Among f delta.removed))
