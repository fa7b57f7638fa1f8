use Rattle.std.proofs.Common.{◌≡◌, ◌++◌, drop, map}
use Rattle.flow_table.specs.declared.flow.FlowOp.TheVariants.{Frame}
use Rattle.physical_flows.proofs.rows.frames_to.Given as goal

-- the frames so far, and those to the chassis that are left
abbrev pub invariant-homes : goal.invariant-homes
invariant-homes l = l.ops ++ map (λ home. Frame home) (drop l.home-index l.homes) ≡ map (λ home. Frame home) l.homes
