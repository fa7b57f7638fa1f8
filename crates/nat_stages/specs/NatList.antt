-- The rows of a row of NAT, in the order of the stages.
use Rattle.std.specs.Prelude.{List, ◌++◌}
use Rattle.logical_flows.specs.declared.flow.LFlow.{LFlow}
use Rattle.nb_records.specs.Routers.{translates_sources, translates_destinations}
use Rattle.nb_records.specs.declared.router.Nat.{Nat}
use Rattle.stage_rows.specs.NatRows.{nat_dnat, nat_snat}
use Rattle.stage_rows.specs.Rows.{when}

abbrev pub nat_list : Nat → List LFlow
nat_list r = when (translates_destinations r.kind) (nat_dnat r) ++ when (translates_sources r.kind) (nat_snat r)
