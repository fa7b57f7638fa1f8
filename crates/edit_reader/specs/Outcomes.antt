-- What reading gives: a value, or the first fault.
use Rattle.std.specs.Prelude.{◌≡◌, ℕ, List, Option, Some, None, Result, Ok, Err}
use Rattle.edit_reader.specs.declared.event.ReadError.{ReadError}
use Rattle.edit_reader.specs.declared.event.ReadError.TheVariants.{Refused, Memory}
use Rattle.edit_reader.specs.declared.event.ReadRefusal.{ReadRefusal}
use Rattle.edit_reader.specs.declared.event.ReadRefusal.TheVariants.{WrongKind, OutOfRange}

abbrev pub Read : Type 0 → Type 0
Read A = Result A ReadRefusal

-- what is read next; a fault ends the reading
infixl 10 ◌>>=◌
abbrev pub ◌>>=◌ : {A B : Type 0} → Read A → (A → Read B) → Read B
(Ok x) >>= f = f x
(Err e) >>= f = Err e

abbrev pub Fails : {A : Type 0} → ReadError → Read A → Type 0
Fails Memory read = Unit {0}
Fails (Refused fault) read = read ≡ Err fault

-- what a function answers: what reading gives, unless memory ran out
abbrev pub Gives : {A : Type 0} → Result A ReadError → Read A → Type 0
Gives (Ok x) read = read ≡ Ok x
Gives (Err e) read = Fails e read

-- the same, where the values are seen by `view`
abbrev pub GivesBy : {A B : Type 0} → (A → B) → Result A ReadError → Read B → Type 0
GivesBy view (Ok x) read = read ≡ Ok (view x)
GivesBy view (Err e) read = Fails e read

-- a value of the field's kind of JSON
abbrev pub of_kind : {A : Type 0} → List ℕ → Option A → Read A
of_kind field (Some x) = Ok x
of_kind field None = Err (WrongKind field)

-- a value in the field's grammar and range
abbrev pub in_range : {A : Type 0} → List ℕ → Option A → Read A
in_range field (Some x) = Ok x
in_range field None = Err (OutOfRange field)
