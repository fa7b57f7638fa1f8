use Rattle.std.proofs.Common.{◌≡◌, refl, rules}
use Rattle.std.specs.Prelude.{is_some}
use Rattle.std.proofs.lemmas.Map.Entries.{filter_from_retain_pairs}
use Rattle.conn_table.specs.declared.tuple.Tuple.{Tuple}
use Rattle.conn_table.specs.Connections.{entry_of}
use Rattle.conn_table.proofs.zone.keep_of.Goals as goal

pub returns-clause-kept : goal.returns-clause-kept
returns-clause-kept c =
    filter_from_retain_pairs _ (λ f. f.0.now ≡ c.args.entries.now) (λ (e : Tuple × Tuple). is_some (entry_of c.args.entries.now.entries e.1))
    (λ g k v b w g' i t. let shows = t.shows in let leaves = t.leaves in let called = t.called in search rules)
    _ c.args.forwards.now.entries c.retain.new.self.entries refl c.retain.ensures.filtered
