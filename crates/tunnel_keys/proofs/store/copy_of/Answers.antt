use Rattle.std.proofs.lemmas.Map.Entries.{entries_from_clone}
use Rattle.tunnel_keys.proofs.store.copy_of.Goals as goal

pub returns : goal.returns
returns t c = entries_from_clone _ _ (λ x y h. h) c.requires.clones _ _ c.in_ok-clone.ensures.cases
