-- Maps of lists that are joined, for tactics.
use Rattle.std.proofs.lemmas.List.{map-append, append_assoc}

pub ruleset on_maps = (map-append, append_assoc)
