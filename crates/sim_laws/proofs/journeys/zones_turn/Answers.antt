use Rattle.sim_laws.proofs.turn_laws.BoundPorts.{binds_so}
use Rattle.sim_laws.proofs.turn_laws.ComingHome.{comes_home}
use Rattle.sim_laws.proofs.turn_laws.KeepingTurns.{chassis_keep, edits_keep}
use Rattle.sim_laws.proofs.turn_laws.TurnedLists.{turned_at_home}
use Rattle.sim_laws.proofs.journeys.zones_turn.Goals as goal

pub returns-clause-at_home : goal.returns-clause-at_home
returns-clause-at_home c = turned_at_home

pub returns-clause-comes_home : goal.returns-clause-comes_home
returns-clause-comes_home c = comes_home

pub returns-clause-edits : goal.returns-clause-edits
returns-clause-edits c = edits_keep

pub returns-clause-chassis_come : goal.returns-clause-chassis_come
returns-clause-chassis_come c = chassis_keep

pub returns-clause-binds : goal.returns-clause-binds
returns-clause-binds c = binds_so
