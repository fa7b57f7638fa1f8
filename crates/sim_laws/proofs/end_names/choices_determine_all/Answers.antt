use Rattle.std.specs.Prelude.{[], ◌++◌}
use Rattle.std.proofs.Common.{ap}
use Rattle.sim_laws.proofs.end_names.choices_determine_all.Goals as goal

pub returns : goal.returns
returns c = λ m traffic es fs a b g h same.
    let all = c.choices_determine_ends.ensures m traffic es fs a b [] [] g h (ap (λ cs. cs ++ []) same) in
    (all.0, all.1)
