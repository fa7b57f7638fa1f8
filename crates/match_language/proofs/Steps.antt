-- Steps of reading: what follows from their success.
use Rattle.std.specs.Prelude.{◌≡◌, ◌⊎◌, Bool, true, false, cond, Result, Ok, Err}
use Rattle.std.proofs.Common.{refl, inl, inr}
use Rattle.match_language.specs.declared.fault.MatchFault.{MatchFault}
use Rattle.match_language.specs.Input.{Input}
use Rattle.match_language.specs.Reading.{Read, ◌>>=◌}

-- the value of a step that did not fail
pub bind_ok : {A B : Type 0} (r : Read A) (f : A × Input → Read B) (y : B × Input) → (r >>= f) ≡ Ok y → (x : A × Input) × (r ≡ Ok x) × (f x ≡ Ok y)
bind_ok (Ok x) f y e = (x, refl, e)
bind_ok (Err d) f y e = absurd cc

abbrev pub done : {A : Type 0} → A → Result A MatchFault
done x = Ok x

abbrev pub failed : {A : Type 0} → MatchFault → Result A MatchFault
failed f = Err f

pub ok_is : {A : Type 0} (x y : A) → done x ≡ done y → x ≡ y
ok_is x y e = cc

pub never : {A : Type 0} (f : MatchFault) (x : A) → failed {A = A} f ≡ done x → ⊥
never f x e = absurd cc

-- which way a test went
pub chosen : {A : Type 0} (b : Bool) (x y z : A) → cond b x y ≡ z → ((b ≡ true) × (x ≡ z)) ⊎ ((b ≡ false) × (y ≡ z))
chosen true x y z e = inl (refl, e)
chosen false x y z e = inr (refl, e)

-- a test whose other way fails went this way
pub chosen_ok : {A : Type 0} (b : Bool) (r : Result A MatchFault) (f : MatchFault) (x : A) → cond b r (Err f) ≡ Ok x → (b ≡ true) × (r ≡ Ok x)
chosen_ok true r f x e = (refl, e)
chosen_ok false r f x e = absurd (never f x e)
