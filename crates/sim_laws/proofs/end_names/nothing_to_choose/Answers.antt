use Rattle.std.proofs.Common.{sym, ◌∙◌}
use Rattle.sim_laws.proofs.end_names.nothing_to_choose.Goals as goal
use Rattle.sim_laws.proofs.told.Named.{none_chosen}

pub returns-clause-none : goal.returns-clause-none
returns-clause-none c = λ m traffic ends after none travels. none_chosen m none traffic ends after travels

pub returns-clause-determined : goal.returns-clause-determined
returns-clause-determined c = λ m traffic es fs a b none g h.
    c.choices_determine_all.ensures m traffic es fs a b g h (none_chosen m none traffic es a g ∙ sym (none_chosen m none traffic fs b h))
