use Rattle.std.proofs.Common.{◌≡◌, [], sym, subst, ap, ◌∙◌}
use Rattle.tuple_space.specs.Bunches.{flows_under, promised_under}
use Rattle.tuple_space.proofs.ClearLaws.{cleared_under, cleared_promised, cleared_law}
use Rattle.tuple_space.proofs.buckets.Buckets.clear.Goals as goal

pub invariant_of-self : goal.invariant_of-self
invariant_of-self c =
    let idle = subst (λ v. (flows_under v c.args.key.now ≡ []) × (promised_under v c.args.key.now ≡ 0)) (sym c.self.view_is) c.requires in
    let es = c.self.inside.places.entries in
    let after = c.swap_remove.new.self.entries in
    cleared_law c.args.key.now es after c.swap_remove.ensures.updates.1 c.swap_remove.ensures.updates.3 idle c.self.invariant c.swap_remove.ensures.unique

pub returns-clause-under : goal.returns-clause-under
returns-clause-under c = λ k.
    let idle = subst (λ v. (flows_under v c.args.key.now ≡ []) × (promised_under v c.args.key.now ≡ 0)) (sym c.self.view_is) c.requires in
    let es = c.self.inside.places.entries in
    let after = c.swap_remove.new.self.entries in
    cleared_under c.args.key.now es after c.swap_remove.ensures.updates.1 c.swap_remove.ensures.updates.3 idle k ∙ ap (λ v. flows_under v k) c.self.view_is

pub returns-clause-promised : goal.returns-clause-promised
returns-clause-promised c = λ k.
    let idle = subst (λ v. (flows_under v c.args.key.now ≡ []) × (promised_under v c.args.key.now ≡ 0)) (sym c.self.view_is) c.requires in
    let es = c.self.inside.places.entries in
    let after = c.swap_remove.new.self.entries in
    cleared_promised c.args.key.now es after c.swap_remove.ensures.updates.1 c.swap_remove.ensures.updates.3 idle k ∙ ap (λ v. promised_under v k) c.self.view_is
