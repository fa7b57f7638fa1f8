-- One field of an object: whether it is there, and what its values are.
use Rattle.std.specs.Prelude.{ℕ, ◌&&◌, if◌then◌else◌, nat_le, Bool, true, false, List, [], ◌∷◌, ⊤, Option, Some, None, Ok, Err, option_and_then}
use Rattle.std.specs.List.{list_any}
use Rattle.std.specs.Str.{bytes_eq}
use Rattle.serde_json.specs.Data.{Data, object, Items, no_items, item, Members, no_members, member}
use Rattle.serde_json.specs.Find.{get, as_str, as_array, as_bool, as_number, as_u64}
use Rattle.edit_reader.specs.Outcomes.{Read, ◌>>=◌, of_kind, in_range}
use Rattle.edit_reader.specs.declared.event.ReadRefusal.TheVariants.{MissingField, UnknownField}

-- ---- the names of an object's fields

-- the first of the names, in byte order, that is none of these
abbrev pub first_other : List (List ℕ) → Members → Option (List ℕ)
first_other names no_members = None
first_other names (member k d ms) = if list_any (bytes_eq k) names then first_other names ms else Some k

abbrev pub members_in : Data → Members
members_in (object ms) = ms
members_in _ = no_members

abbrev pub none_other : Option (List ℕ) → Read ⊤
none_other None = Ok tt
none_other (Some k) = Err (UnknownField k)

-- the object has fields of these names alone
unfoldable pub only : List (List ℕ) → Data → Read ⊤
only names d = none_other (first_other names (members_in d))

-- ---- one field: `reads` is what its values are

abbrev pub needed_at : {A : Type 0} → (List ℕ → Data → Read A) → List ℕ → Option Data → Read A
needed_at reads field (Some v) = reads field v
needed_at reads field None = Err (MissingField field)

-- a field that has to be there
unfoldable pub needed : {A : Type 0} → (List ℕ → Data → Read A) → List ℕ → Data → Read A
needed reads field d = needed_at reads field (get field d)

abbrev pub given_at : {A : Type 0} → (List ℕ → Data → Read A) → List ℕ → Option Data → Read (Option A)
given_at reads field (Some v) = reads field v >>= λ x. Ok (Some x)
given_at reads field None = Ok None

-- a field that may be left out
unfoldable pub given : {A : Type 0} → (List ℕ → Data → Read A) → List ℕ → Data → Read (Option A)
given reads field d = given_at reads field (get field d)

abbrev pub default_at : {A : Type 0} → (List ℕ → Data → Read A) → A → List ℕ → Option Data → Read A
default_at reads x field (Some v) = reads field v
default_at reads x field None = Ok x

-- a field with a default
unfoldable pub default_or : {A : Type 0} → (List ℕ → Data → Read A) → A → List ℕ → Data → Read A
default_or reads x field d = default_at reads x field (get field d)

-- a field that has to be there where it is asked for, and is passed over elsewhere
unfoldable pub needed_where : {A : Type 0} → Bool → (List ℕ → Data → Read A) → List ℕ → Data → Read (Option A)
needed_where true reads field d = needed reads field d >>= λ x. Ok (Some x)
needed_where false reads field d = Ok None

-- ---- what the values of a field are

abbrev pub text_in : List ℕ → Data → Read (List ℕ)
text_in field d = of_kind field (as_str d)

-- a text in a grammar
unfoldable pub text_by : {A : Type 0} → (List ℕ → Option A) → List ℕ → Data → Read A
text_by grammar field d = text_in field d >>= λ s. in_range field (grammar s)

abbrev pub texts_of : List ℕ → Items → Read (List (List ℕ))
texts_of field no_items = Ok []
texts_of field (item d ds) = text_in field d >>= λ s. texts_of field ds >>= λ ss. Ok (s ∷ ss)

abbrev pub each_by : {A : Type 0} → (List ℕ → Option A) → List (List ℕ) → Option (List A)
each_by grammar [] = Some []
each_by grammar (s ∷ ss) = option_and_then (λ x. option_and_then (λ xs. Some (x ∷ xs)) (each_by grammar ss)) (grammar s)

-- an array of texts in a grammar: first each element is a text, then each text is in the grammar
unfoldable pub texts_by : {A : Type 0} → (List ℕ → Option A) → List ℕ → Data → Read (List A)
texts_by grammar field d = do
  items ← of_kind field (as_array d)
  texts ← texts_of field items
  in_range field (each_by grammar texts)

unfoldable pub flag : List ℕ → Data → Read Bool
flag field d = of_kind field (as_bool d)

abbrev pub between : ℕ → ℕ → ℕ → Option ℕ
between least most n = if nat_le least n && nat_le n most then Some n else None

-- a whole number from `least` to `most`
unfoldable pub number_in : ℕ → ℕ → List ℕ → Data → Read ℕ
number_in least most field d = of_kind field (option_and_then as_u64 (as_number d)) >>= λ n. in_range field (between least most n)
