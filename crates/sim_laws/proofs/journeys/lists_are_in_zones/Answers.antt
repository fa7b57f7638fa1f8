use Rattle.sim_laws.proofs.journey_laws.ListsSeen.{lists_are_seen}
use Rattle.sim_laws.proofs.journeys.lists_are_in_zones.Goals as goal

pub returns : goal.returns
returns c = lists_are_seen
