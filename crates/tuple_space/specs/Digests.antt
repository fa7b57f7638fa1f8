-- What is hashed of the numbers of a key.
use Rattle.std.specs.Prelude.{◌≡◌, ◌*◌, ◌%◌, ◌^◌, ℕ, true, List, [], ◌∷◌, nat_eq, bit_xor}
use Rattle.std.specs.Hash as fed
use Rattle.std.specs.Cmp.Lexicographic.{pointwise}
use Rattle.ovn_base.specs.names.SameName.{bytes_decides}
use mathlib.Core.Path.{ap}

-- a digest with one number more
abbrev pub digest_with : ℕ → ℕ → ℕ
digest_with digest number = bit_xor digest number * 11400714819323198485 % 2 ^ 64

-- a digest with all the numbers more
abbrev pub digest_from : ℕ → List ℕ → ℕ
digest_from digest [] = digest
digest_from digest (x ∷ xs) = digest_from (digest_with digest x) xs

-- the digest of the numbers
abbrev pub digest_of : List ℕ → ℕ
digest_of xs = digest_from 0 xs

-- the same numbers are hashed as one
pub same_digest : (xs ys : List ℕ) → pointwise nat_eq xs ys ≡ true → fed.u64 (digest_of xs) ≡ fed.u64 (digest_of ys)
same_digest xs ys h = ap (λ l. fed.u64 (digest_of l)) ((bytes_decides xs ys).0 h)
