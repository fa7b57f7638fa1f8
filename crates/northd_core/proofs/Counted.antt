-- Steps that are counted on.
use Rattle.std.specs.Prelude.{◌≡◌, ◌+◌, ℕ}
use Rattle.std.proofs.Common.{sym, ap, ◌∙◌}
use Rattle.ovn_base.proofs.StepLaws.{after_sum, after_none}
use Rattle.ovn_base.specs.numbers.Steps.{after_steps}
use Rattle.northd_core.specs.Listing.{HasCountedOn}

pub none_counted : (s : ℕ) → HasCountedOn s s
none_counted s = (0, sym (after_none s))

pub one_counted : (s t : ℕ) → t ≡ after_steps 1 s → HasCountedOn s t
one_counted s t is = (1, is)

pub more_counted : (s t u : ℕ) → HasCountedOn s t → HasCountedOn t u → HasCountedOn s u
more_counted s t u one two = (one.0 + two.0, two.1 ∙ ap (λ x. after_steps two.0 x) one.1 ∙ after_sum one.0 two.0 s)
