-- What proper flows set.
use Rattle.std.specs.Prelude.{ℕ}
use Rattle.std.specs.List.{AllByRecursion}
use Rattle.std.proofs.Common.{sym, subst}
use Rattle.flow_table.specs.declared.flow.Flow.{Flow}
use Rattle.flow_table.specs.declared.flow.FlowOp.{FlowOp}
use Rattle.flow_table.specs.declared.flow.FlowOp.TheVariants as op
use Rattle.switch_engine.specs.Proper.{IsProperFlow, rising, raising, Rises, Sets}
use Rattle.switch_engine.proofs.Lists.{all_by}

-- an action that rises sets no register beyond what can be set
rises_sets : (table : ℕ) (o : FlowOp) → Rises table o → Sets o
rises_sets table (op.Set reg n) h = h
rises_sets table (op.Patch dp in_port z_dnat z_snat) h = h.1
rises_sets table _ h = tt

-- nor does a proper flow
pub proper_sets : (flow : Flow) → IsProperFlow flow → AllByRecursion Sets flow.ops
proper_sets flow (rising h) = all_by Sets (Rises flow.table) (rises_sets flow.table) flow.ops h
proper_sets flow (raising reg n h) = subst (AllByRecursion Sets) (sym h.only) (h.can, (tt, tt))
