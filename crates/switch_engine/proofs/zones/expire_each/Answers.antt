use Rattle.std.proofs.Common.{rules}
use Rattle.std.proofs.lemmas.Map.Made.{map_same_pairs}
use Rattle.conn_table.specs.Connections.{expired}
use Rattle.switch_engine.proofs.zones.expire_each.Goals as goal

pub returns-clause-zones : goal.returns-clause-zones
returns-clause-zones c = map_same_pairs _ (expired c.args.now) _ (λ k v b w f' t. search rules) c.args.zones.now.entries c.retain.new.self.entries c.retain.ensures.filtered
