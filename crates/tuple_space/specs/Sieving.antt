-- Which masks of a table can have a flow that holds a packet.
use Rattle.std.specs.Prelude.{◌≡◌, ◌⊎◌, ◌+◌, ◌-◌, ◌*◌, ◌/◌, ◌%◌, ◌^◌, ◌<◌, ℕ, List, Some, length, nat_eq, bit_and, slice_get, slice_index, IfSome}
use Rattle.std.specs.Int.{bit_at}
use Rattle.std.specs.Map.{lookup}
use Rattle.inet_packet.specs.declared.cube.Bits.{Bits}
use Rattle.tuple_space.specs.declared.mask.Asked.{Asked}
use Rattle.tuple_space.specs.declared.sieve.Sieve.{Sieve}
use Rattle.tuple_space.specs.Masks.{AllFit}

-- the bit of a mask: those whose numbers are equal modulo 128 share one
abbrev pub bit_of : ℕ → ℕ
bit_of number = number % 128

abbrev pub HasBit : ℕ → ℕ → Type 0
HasBit word bit = bit_at word bit ≡ 1

-- the word at the place has the bit, if there is such a word
abbrev pub IsMarked : List ℕ → ℕ → ℕ → Type 0
IsMarked words place bit = place < length words → HasBit (slice_index words place) bit

-- where the row of a value stands, among so many rows for each of the fields and bits that are asked for
unfoldable pub row_place : ℕ → ℕ → ℕ → ℕ
row_place ask many value = (ask * many % 2 ^ 64 + bit_and (value * 11400714819323198485 % 2 ^ 64 / 2 ^ 32) (many - 1)) % 2 ^ 64

-- what the values have in the field and its bits
abbrev pub asked_value : Asked → List ℕ → ℕ
asked_value a xs = bit_and (slice_index xs a.field) a.bits

-- the bit is let through at one of the fields and bits that are asked for: it doesn't ask for them, or wants such a value there
abbrev pub IsLetAt : Sieve → ℕ → Asked → List ℕ → ℕ → Type 0
IsLetAt sieve i a xs bit = IsMarked sieve.free.items i bit ⊎ IsMarked sieve.rows.items (row_place i sieve.many (asked_value a xs)) bit

-- the sieve lets the bit through where the fields have these values
pub record IsLet (sieve : Sieve) (xs : List ℕ) (bit : ℕ) : Type 0 where
  pub seen : HasBit sieve.seen bit
  pub at_each : (i : ℕ) (a : Asked) → slice_get sieve.asks.items i ≡ Some a → IsLetAt sieve i a xs bit

-- the sieve lets the bit through wherever all fields fit
abbrev pub IsLetWhole : Sieve → List Bits → ℕ → Type 0
IsLetWhole sieve bits bit = (xs : List ℕ) → AllFit bits xs → IsLet sieve xs bit

-- the table's sieve, if it has one, lets the bit through
abbrev pub IsLetIn : List (ℕ × Sieve) → ℕ → List ℕ → ℕ → Type 0
IsLetIn sieves table xs bit = IfSome (lookup (nat_eq table) sieves) (λ s. IsLet s xs bit)
