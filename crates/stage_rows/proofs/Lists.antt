-- Filters of lists that are joined, for tactics.
use Rattle.std.proofs.lemmas.List.{append_assoc}
use Rattle.std.proofs.lemmas.List.Elements.{filter-append}

pub ruleset on_filters = (filter-append, append_assoc)
