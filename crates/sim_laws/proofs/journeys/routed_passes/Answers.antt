use Rattle.ovn_base.specs.declared.limits.TheConstants.{MAX_HOPS}
use Rattle.sim_laws.proofs.journeys.routed_passes.Goals as goal
use Rattle.sim_laws.proofs.router_passes.ThroughSwitches.{through_switches, visits_routed, arrives_routed}

pub returns-clause-passes : goal.returns-clause-passes
returns-clause-passes c left = c.router_passes.ensures.on_and_on (through_switches c.switches_lead_on.ensures.enters) left

pub returns-clause-enters : goal.returns-clause-enters
returns-clause-enters c left = through_switches c.switches_lead_on.ensures.enters left (c.router_passes.ensures.on_and_on (through_switches c.switches_lead_on.ensures.enters) left)

pub returns-clause-visits : goal.returns-clause-visits
returns-clause-visits c = visits_routed c.switches_lead_on.ensures.visits (c.router_passes.ensures.on_and_on (through_switches c.switches_lead_on.ensures.enters) MAX_HOPS)

pub returns-clause-arrives : goal.returns-clause-arrives
returns-clause-arrives c = arrives_routed c.switches_lead_on.ensures.arrives (c.router_passes.ensures.on_and_on (through_switches c.switches_lead_on.ensures.enters) MAX_HOPS)
