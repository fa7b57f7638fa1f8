use Rattle.std.proofs.Common.{◌≡◌, ◌++◌, OnOk, List, subst, sym, ◌∙◌}
use Rattle.logical_flows.specs.declared.flow.LFlow.{LFlow}
use Rattle.router_stages.proofs.PortUnits.{rows_of_found}
use Rattle.router_stages.proofs.port_unit.RouterPortUnitStageUnit.translate.Goals as goal

-- the rows that were made are those of the port that was found
pub returns-in_ok-port_rows-in-Some-clause-rows : goal.returns-in_ok-port_rows-in-Some-clause-rows
returns-in_ok-port_rows-in-Some-clause-rows g c =
    let all = sym (rows_of_found c.args.facts.now c.args.self.now.port c.in-Some.port.now c.requires c.in-Some.ensures) in
    subst (λ (l : List LFlow). OnOk c.append.result (c.append.new.self ≡ c.args.out.now ++ l)) (c.in_ok-port_rows-in-Some.ensures ∙ all) c.append.ensures.ok
