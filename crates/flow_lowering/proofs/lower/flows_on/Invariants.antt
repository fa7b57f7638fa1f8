use Rattle.std.proofs.Common.{◌≡◌, ◌++◌, ◌∷◌, drop, map}
use Rattle.std.specs.List.{filter_map}
use Rattle.flow_lowering.specs.LoweredFlows as spec
use Rattle.flow_lowering.specs.Registers.{dp_is, met_with_all}
use Rattle.flow_lowering.proofs.lower.flows_on.Given as goal

-- the flows so far, and those of the cubes that are left
abbrev pub invariant-loop-cube : goal.invariant-loop-cube
invariant-loop-cube l =
    l.flows ++ map (spec.flow_on l.flow l.ops) (filter_map (met_with_all (dp_is l.key ∷ l.flow.regs)) (drop l.cube-index l.cubes))
    ≡ map (spec.flow_on l.flow l.ops) (filter_map (met_with_all (dp_is l.key ∷ l.flow.regs)) l.cubes)
