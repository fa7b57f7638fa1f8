-- Laws of what a source or a sink tells.
use Rattle.std.proofs.Common.{◌≡◌, ℕ, List, [], ◌++◌, Option, Some, None, IfSome, refl, ap, sym, append_assoc, append-nil}
use Rattle.std.specs.Io.KnownBytes.{prepend_known, append_known}
use Rattle.ovn_base.specs.streams.WhereTold.{WhereTold}

-- one piece before the known bytes, and then another before both
pub prepend_twice : (a b : List ℕ) (known : Option (List ℕ)) → prepend_known a (prepend_known b known) ≡ prepend_known (a ++ b) known
prepend_twice a b None = refl
prepend_twice a b (Some x) = ap Some (sym (append_assoc a b x))

-- one piece after the known bytes, and then another after both
pub append_twice : (known : Option (List ℕ)) (a b : List ℕ) → append_known (append_known known a) b ≡ append_known known (a ++ b)
append_twice None a b = refl
append_twice (Some x) a b = ap Some (append_assoc x a b)

-- nothing before the known bytes
pub prepend_none : (known : Option (List ℕ)) → prepend_known [] known ≡ known
prepend_none None = refl
prepend_none (Some x) = refl

-- nothing after the known bytes
pub append_none : (known : Option (List ℕ)) → append_known known [] ≡ known
append_none None = refl
append_none (Some x) = ap Some (append-nil x)

-- facts on what is told follow one another
pub told_then : {A : Type 0} (X Y Z : Option A) (P Q R : A → A → Type 0) → WhereTold X Y P → WhereTold Y Z Q → ((x y z : A) → P x y → Q y z → R x z) → WhereTold X Z R
told_then None Y Z P Q R p q k = tt
told_then (Some x) None Z P Q R p q k = absurd p
told_then (Some x) (Some y) None P Q R p q k = absurd q
told_then (Some x) (Some y) (Some z) P Q R p q k = k x y z p q

-- a fact on what is told weakens
pub told_weaker : {A : Type 0} (X Y : Option A) (P Q : A → A → Type 0) → WhereTold X Y P → ((x y : A) → P x y → Q x y) → WhereTold X Y Q
told_weaker None Y P Q p k = tt
told_weaker (Some x) None P Q p k = absurd p
told_weaker (Some x) (Some y) P Q p k = k x y p

-- a fact on what was told first
pub told_some : {A : Type 0} (X Y : Option A) (P : A → A → Type 0) (Q : A → Type 0) → WhereTold X Y P → ((x y : A) → P x y → Q x) → IfSome X Q
told_some None Y P Q p k = tt
told_some (Some x) None P Q p k = absurd p
told_some (Some x) (Some y) P Q p k = k x y p
