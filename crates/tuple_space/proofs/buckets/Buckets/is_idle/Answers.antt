use Rattle.std.proofs.Common.{◌≡◌, [], sym, subst, ap, ◌∙◌}
use Rattle.std.specs.Option.{option_copied}
use Rattle.tuple_space.specs.Bunches.{flows_under, promised_under}
use Rattle.tuple_space.proofs.BunchLaws.{under_found, promised_found}
use Rattle.tuple_space.proofs.buckets.Buckets.is_idle.Goals as goal

pub returns-in-Some : goal.returns-in-Some
returns-in-Some c = λ h.
    let es = c.self.inside.places.entries in
    let at = sym c.get.ensures.value ∙ ap option_copied c.in-Some.is in
    let idle = c.is_idle.ensures.0 h in
    subst (λ v. (flows_under v c.args.key.now ≡ []) × (promised_under v c.args.key.now ≡ 0)) c.self.view_is
    (under_found c.args.key.now es c.in-Some.bucket.now at ∙ idle.0, promised_found c.args.key.now es c.in-Some.bucket.now at ∙ idle.1)
