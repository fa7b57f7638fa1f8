-- Readings that go over a list.
use Rattle.std.specs.Prelude.{List, ◌++◌, Option, Some, Ok, option_and_then}
use Rattle.edit_reader.specs.Outcomes.{Read, ◌>>=◌}

-- the list that is read, behind those that were read before
abbrev pub behind : {A : Type 0} → List A → Read (List A) → Read (List A)
behind front read = read >>= λ xs. Ok (front ++ xs)

abbrev pub behind_found : {A : Type 0} → List A → Option (List A) → Option (List A)
behind_found front found = option_and_then (λ xs. Some (front ++ xs)) found
