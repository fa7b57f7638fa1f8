-- What tables hold of wanted flows.
use Rattle.std.specs.Prelude.{◌↔◌, List}
use Rattle.ovn_base.specs.lists.Among.{Among}
use Rattle.ovn_base.specs.lists.Once.{EachOnce}
use Rattle.flow_table.specs.declared.flow.Flow.{Flow}

-- the same flows, each once
pub record HaveSame (wanted held : List Flow) : Type 0 where
  pub same : (f : Flow) → Among f held ↔ Among f wanted
  pub once : EachOnce held
