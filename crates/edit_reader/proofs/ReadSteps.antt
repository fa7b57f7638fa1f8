-- Steps of reading: what follows from their success.
use Rattle.std.specs.Prelude.{◌≡◌, ◌⊎◌, ℕ, Bool, true, false, cond, List, Option, Some, None, option_map, option_and_then, Ok, Err, refl}
use Rattle.std.proofs.Common.{inl, inr}
use Rattle.edit_reader.specs.Outcomes.{Read, ◌>>=◌, of_kind, in_range}
use Rattle.edit_reader.specs.declared.event.ReadRefusal.{ReadRefusal}

abbrev pub done : {A : Type 0} → A → Read A
done x = Ok x

abbrev pub found : {A : Type 0} → A → Option A
found x = Some x

pub ok_is : {A : Type 0} (x y : A) → done x ≡ done y → x ≡ y
ok_is x y e = cc

pub some_is : {A : Type 0} (x y : A) → found x ≡ found y → x ≡ y
some_is x y e = cc

pub not_none : {A : Type 0} (x : A) → None ≡ found x → ⊥
not_none x e = absurd cc

abbrev failed : {A : Type 0} → ReadRefusal → Read A
failed f = Err f

pub not_failed : {A : Type 0} (f : ReadRefusal) (x : A) → failed {A = A} f ≡ done x → ⊥
not_failed f x e = absurd cc

-- the value of a step that did not fail
pub bound : {A B : Type 0} (r : Read A) (f : A → Read B) (y : B) → (r >>= f) ≡ Ok y → (x : A) × (r ≡ Ok x) × (f x ≡ Ok y)
bound (Ok x) f y e = (x, refl, e)
bound (Err d) f y e = absurd (not_failed d y e)

pub and_then_some : {A B : Type 0} (f : A → Option B) (o : Option A) (y : B) → option_and_then f o ≡ Some y → (x : A) × (o ≡ Some x) × (f x ≡ Some y)
and_then_some f (Some x) y e = (x, refl, e)
and_then_some f None y e = absurd (not_none y e)

pub mapped_some : {A B : Type 0} (f : A → B) (o : Option A) (y : B) → option_map f o ≡ Some y → (x : A) × (o ≡ Some x) × (f x ≡ y)
mapped_some f (Some x) y e = (x, refl, some_is (f x) y e)
mapped_some f None y e = absurd (not_none y e)

-- which way a test went
pub chosen_some : {A : Type 0} (b : Bool) (o : Option A) (z : A) → cond b o None ≡ Some z → (b ≡ true) × (o ≡ Some z)
chosen_some true o z e = (refl, e)
chosen_some false o z e = absurd (not_none z e)

pub chosen_ok : {A : Type 0} (b : Bool) (r : Read A) (f : ReadRefusal) (z : A) → cond b r (Err f) ≡ Ok z → (b ≡ true) × (r ≡ Ok z)
chosen_ok true r f z e = (refl, e)
chosen_ok false r f z e = absurd (not_failed f z e)

-- a value of the field's kind, and one in its range
pub kind_is : {A : Type 0} (field : List ℕ) (o : Option A) (x : A) → of_kind field o ≡ Ok x → o ≡ Some x
kind_is field (Some y) x e = let same : y ≡ x = ok_is y x e in λ i. Some (same i)
kind_is field None x e = absurd cc

pub range_is : {A : Type 0} (field : List ℕ) (o : Option A) (x : A) → in_range field o ≡ Ok x → o ≡ Some x
range_is field (Some y) x e = let same : y ≡ x = ok_is y x e in λ i. Some (same i)
range_is field None x e = absurd cc
