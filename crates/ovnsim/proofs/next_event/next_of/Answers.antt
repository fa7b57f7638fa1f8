use Rattle.ovnsim.proofs.next_event.next_of.Goals as goal

pub returns-in-Ok-clause-admitted : goal.returns-in-Ok-clause-admitted
returns-in-Ok-clause-admitted c = c.read_is_in_grammar.ensures _ _ c.in-Ok.ensures
