use Rattle.std.proofs.Common.{◌≡◌, drop}
use Rattle.flow_lowering.specs.Registers as spec
use Rattle.flow_lowering.proofs.registers.met_with_all.Given as goal

-- the cube so far, met with the registers that are left
abbrev pub invariant-loop-test : goal.invariant-loop-test
invariant-loop-test l = spec.met_with_all (drop l.test-index l.tests) l.met ≡ spec.met_with_all l.tests l.fn.cube
