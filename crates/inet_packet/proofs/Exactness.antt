-- A test of optional values that answers true for equal ones alone.
use Rattle.std.proofs.Common.{◌≡◌, Bool, true, Option, Some, None, refl, ap}
use Rattle.std.proofs.lemmas.Bool.{false≢true}
use Rattle.std.specs.Option.{option_eq}

pub option_exact : {K : Type 0} (E : K → K → Bool) → ((x y : K) → E x y ≡ true → x ≡ y) → (a b : Option K) → option_eq E a b ≡ true → a ≡ b
option_exact E exact None None h = refl
option_exact E exact None (Some y) h = absurd (false≢true h)
option_exact E exact (Some x) None h = absurd (false≢true h)
option_exact E exact (Some x) (Some y) h = ap Some (exact x y h)
