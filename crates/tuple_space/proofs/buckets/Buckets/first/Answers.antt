use Rattle.std.proofs.Common.{[], slice_get, sym, ap, ◌∙◌}
use Rattle.std.specs.Option.{option_copied, option_map_or}
use Rattle.tuple_space.specs.Bunches.{Bunch, flows_under}
use Rattle.tuple_space.proofs.BunchLaws.{under_found}
use Rattle.tuple_space.proofs.buckets.Buckets.first.Goals as goal

pub returns-in-Some : goal.returns-in-Some
returns-in-Some c =
    let at = sym c.get.ensures.value ∙ ap option_copied c.in-Some.is in
    c.get-in-Some.ensures ∙ ap (λ fs. slice_get fs 0) (sym (under_found c.args.key.now c.self.inside.places.entries c.in-Some.bucket.now at)) ∙ ap (λ v. slice_get (flows_under v c.args.key.now) 0) c.self.view_is

pub returns-in-None : goal.returns-in-None
returns-in-None c =
    let at = sym c.get.ensures.value ∙ ap option_copied c.in-None.is in
    ap (λ o. slice_get (option_map_or (λ (b : Bunch). b.flows) o []) 0) (sym at) ∙ ap (λ v. slice_get (flows_under v c.args.key.now) 0) c.self.view_is
