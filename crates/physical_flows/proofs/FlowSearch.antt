-- What there is, by a look-up.
use Rattle.std.specs.Prelude.{◌≡◌, Option, Some, None, IsSome, is_some, refl}
use mathlib.Core.Path.{ap}
use Rattle.std.proofs.lemmas.Bool.{false≢true}

pub some_of : {X : Type 0} (o : Option X) → IsSome o → (x : X) × (o ≡ Some x)
some_of None h = absurd (false≢true h)
some_of (Some x) h = (x, refl)

pub is_some_of : {X : Type 0} (o : Option X) (x : X) → o ≡ Some x → IsSome o
is_some_of o x e = ap (λ p. is_some p) e
