-- Values under masks.
use Rattle.std.specs.Prelude.{ℕ, zero, suc, ◌-◌, ◌*◌, ◌^◌, Bool, if◌then◌else◌, ◌==◌, List, [], ◌∷◌, ◌++◌, flat_map, bit_and, bit_or}
use Rattle.std.specs.Int.{bit_at}
use Rattle.inet_packet.specs.declared.cube.Bits.{Bits}
use Rattle.inet_packet.specs.Cubes.{any}

-- the number has the value in the bits that count
abbrev pub fits : Bits → ℕ → Bool
fits b n = bit_and n b.mask == b.value

-- the number in the bits of the mask
abbrev pub under : ℕ → ℕ → Bits
under n m = record { value = bit_and n m; mask = m }

-- no bit counts
abbrev pub any_bits : Bits
any_bits = any

-- the bits that count in both have one value
abbrev pub agree : Bits → Bits → Bool
agree a b = bit_and a.value b.mask == bit_and b.value a.mask

-- the bits that count in either
abbrev pub both_bits : Bits → Bits → Bits
both_bits a b = record { value = bit_or a.value b.value; mask = bit_or a.mask b.mask }

-- the bit alone, other than it is in the value
abbrev pub turned : ℕ → ℕ → Bits
turned v i = record { value = (1 - bit_at v i) * 2 ^ i; mask = 2 ^ i }

-- each of the lowest w bits that counts, alone and turned
unfoldable pub turned_bits : ℕ → Bits → List Bits
turned_bits zero b = []
turned_bits (suc w) b = turned_bits w b ++ (if bit_at b.mask w == 1 then turned b.value w ∷ [] else [])

-- what is in both; none, where they ask for both values of one bit
abbrev pub meet_bits : Bits → Bits → List Bits
meet_bits a b = if agree a b then both_bits a b ∷ [] else []

-- the meets of one of each
unfoldable pub meets : {X : Type 0} → (X → X → List X) → List X → List X → List X
meets meet xs ys = flat_map (λ x. flat_map (meet x) ys) xs
