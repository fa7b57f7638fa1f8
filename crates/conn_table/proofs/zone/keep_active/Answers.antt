use Rattle.std.proofs.Common.{◌≡◌, refl, rules}
use Rattle.std.specs.Prelude.{not}
use Rattle.std.proofs.lemmas.Map.Entries.{filter_from_retain_pairs}
use Rattle.conn_table.specs.declared.connection.Entry.{Entry}
use Rattle.conn_table.specs.declared.tuple.Tuple.{Tuple}
use Rattle.conn_table.specs.Connections.{is_idle}
use Rattle.conn_table.proofs.zone.keep_active.Goals as goal

pub returns-clause-kept : goal.returns-clause-kept
returns-clause-kept c =
    filter_from_retain_pairs _ (λ f. f.0.now ≡ c.args.now) (λ (e : Tuple × Entry). not (is_idle c.args.now e.1))
    (λ g k v b w g' i t. let shows = t.shows in let leaves = t.leaves in let called = t.called in search rules)
    _ c.args.entries.now.entries c.retain.new.self.entries refl c.retain.ensures.filtered
