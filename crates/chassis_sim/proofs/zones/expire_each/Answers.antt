use Rattle.std.proofs.Common.{rules}
use Rattle.switch_engine.specs.Zones.{all_expired}
use Rattle.chassis_sim.proofs.Emptying.{seen_kept}
use Rattle.chassis_sim.proofs.Readiness.{expired_rooms}
use Rattle.chassis_sim.proofs.zones.expire_each.Goals as goal

pub returns-clause-lists : goal.returns-clause-lists
returns-clause-lists c = seen_kept _ (all_expired c.args.now) _ (λ k v b w f' t. search rules) c.args.zones.now.entries c.retain.new.self.entries c.retain.ensures.filtered

pub returns-clause-room : goal.returns-clause-room
returns-clause-room c = expired_rooms _ c.args.now _ (λ k v b w f' t. search rules) c.args.zones.now.entries c.retain.new.self.entries c.retain.ensures.filtered
