-- The first record that gives an answer, and the least address of several.
use Rattle.std.specs.Prelude.{◌||◌, nat_lt, ℕ, Bool, true, false, cond, List, [], ◌∷◌, Option, Some, None}
use Rattle.ovn_base.specs.declared.name.Name.{Name}
use Rattle.nb_records.specs.Network.{Network, records_of}
use Rattle.nb_records.specs.Switches.{or_else, first_answer}
use Rattle.nb_records.specs.declared.record.Record.{Record}
use Rattle.nb_rules.specs.declared.fault.SchemaFault.{SchemaFault}

-- ---- the first

-- the first answer that a record of the kind gives, in order of name
abbrev pub first_of : {X A : Type 0} → (X → Option A) → List (Name × X) → Option A
first_of answer [] = None
first_of answer (e ∷ es) = or_else (answer e.1) (first_of answer es)

-- the first answer that any record gives, in the order of the kinds and then of names
unfoldable pub first_record : {A : Type 0} → (Record → Option A) → Network → Option A
first_record answer net = first_answer answer (records_of net)

-- the fault, where the clause is broken
abbrev pub fault_if : Bool → SchemaFault → Option SchemaFault
fault_if true fault = Some fault
fault_if false fault = None

-- ---- a second one

-- a second one passes the test, where one did before or none
abbrev pub has_second : {X : Type 0} → (X → Bool) → Bool → List X → Bool
has_second test seen [] = false
has_second test seen (x ∷ xs) = cond (test x) (seen || has_second test true xs) (has_second test seen xs)

-- ---- the least

-- the one with the lesser number
abbrev pub lesser : {A : Type 0} → (A → ℕ) → A → Option A → A
lesser number a None = a
lesser number a (Some b) = cond (nat_lt (number b) (number a)) b a

-- the least address of those that pass the test, and of the one so far
abbrev pub least_of : {X A : Type 0} → (A → ℕ) → (X → A) → (X → Bool) → Option A → List X → Option A
least_of number address test so_far [] = so_far
least_of number address test so_far (x ∷ xs) = least_of number address test (cond (test x) (Some (lesser number (address x) so_far)) so_far) xs
