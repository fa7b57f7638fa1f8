use Rattle.ovnsim.proofs.Admits.{all_admitted}
use Rattle.ovnsim.proofs.OneReading.{same_asked, same_events}
use Rattle.ovnsim.proofs.OneRun as one
use Rattle.ovnsim.proofs.one_run.one_run.Goals as goal

pub returns-clause-of_line : goal.returns-clause-of_line
returns-clause-of_line c = same_asked

pub returns-clause-of_lines : goal.returns-clause-of_lines
returns-clause-of_lines c = same_events

pub returns-clause-of_events : goal.returns-clause-of_events
returns-clause-of_events c = one.one_run c.packets_count.ensures.enters c.packets_count.ensures.arrives c.events_count.ensures.drains c.events_count.ensures.through

pub returns-clause-of_input : goal.returns-clause-of_input
returns-clause-of_input c = one.one_run_of_lines c.packets_count.ensures.enters c.packets_count.ensures.arrives c.events_count.ensures.drains c.events_count.ensures.through

pub returns-clause-network : goal.returns-clause-network
returns-clause-network c = one.network_run

pub returns-clause-admitted : goal.returns-clause-admitted
returns-clause-admitted c = all_admitted c.read_is_in_grammar.ensures
