-- The flows of what holds those of a chassis.
use Rattle.std.specs.Prelude.{List}
use Rattle.flow_table.specs.declared.flow.Flow.{Flow}
use Rattle.tuple_space.specs.Bunches.{flows_in}
use Rattle.tuple_space.specs.declared.space.TupleSpace.{TupleSpace}
use Rattle.physical_flows.specs.ChassisFlows.{AreExactly}
use Rattle.world_setup.specs.Holding.{HaveSame}

abbrev pub flows_of : TupleSpace → List Flow
flows_of held = flows_in held.bunches

-- what holds the flows of a set holds exactly the set
pub held_exactly : (Wanted : Flow → Type 0) (wanted held : List Flow) → AreExactly Wanted wanted → HaveSame wanted held → AreExactly Wanted held
held_exactly Wanted wanted held exact have = record {
  same = λ f. (λ h. (exact.same f).0 ((have.same f).0 h), λ t. (have.same f).1 ((exact.same f).1 t));
  once = have.once;
}
