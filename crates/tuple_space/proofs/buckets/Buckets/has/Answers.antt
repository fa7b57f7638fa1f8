use Rattle.std.proofs.Common.{is_some, nat_eq, ap, ◌∙◌}
use Rattle.std.specs.Cmp.Lexicographic.{pointwise}
use Rattle.std.specs.Map.{lookup}
use Rattle.tuple_space.proofs.buckets.Buckets.has.Goals as goal

pub returns : goal.returns
returns c = c.contains_key.ensures ∙ ap (λ v. is_some (lookup (pointwise nat_eq c.args.key.now) v)) c.self.view_is
