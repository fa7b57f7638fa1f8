-- The ranges of order relations, as prefixes.
use Rattle.std.specs.Prelude.{ℕ, zero, suc, ◌+◌, ◌-◌, ◌*◌, ◌^◌, Bool, false, ◌&&◌, if◌then◌else◌, nat_lt, nat_le, List, [], ◌∷◌, ◌++◌, ◌/◌, ◌≤◌, ◌<◌, ◌↔◌, ◌≡◌, true}
use Rattle.ovn_base.specs.lists.Among.{Among}
use Rattle.inet_packet.specs.declared.cube.Bits.{Bits}
use Rattle.match_language.specs.declared.expr.Rel.{Rel}
use Rattle.match_language.specs.declared.expr.Rel.TheVariants as r

-- the number stands in the order relation to the value
abbrev pub relates : Rel → ℕ → ℕ → Bool
relates r.Lt n v = nat_lt n v
relates r.Le n v = nat_le n v
relates r.Gt n v = nat_lt v n
relates r.Ge n v = nat_le v n
relates _ n v = false

-- All numbers of the prefix p, behind which i bits are free, stand in the relation: its least and its greatest do.
abbrev pub lies : Rel → ℕ → ℕ → ℕ → Bool
lies rel v i p = relates rel (p * 2 ^ i) v && relates rel (p * 2 ^ i + (2 ^ i - 1)) v

-- the prefix p of numbers of w bits, behind which i bits are free
abbrev pub prefix : ℕ → ℕ → ℕ → Bits
prefix w i p = record { value = p * 2 ^ i; mask = 2 ^ w - 2 ^ i }

-- The prefix p, if all of its numbers stand in the relation, else the largest ones within it that do, the least first.
unfoldable pub largest : ℕ → Rel → ℕ → ℕ → ℕ → List Bits
largest w rel v zero p = if lies rel v zero p then prefix w zero p ∷ [] else []
largest w rel v (suc i) p = if lies rel v (suc i) p then prefix w (suc i) p ∷ [] else largest w rel v i (2 * p) ++ largest w rel v i (2 * p + 1)

-- the largest prefixes of numbers of w bits that stand in the relation to the value
unfoldable pub prefixes : ℕ → Rel → ℕ → List Bits
prefixes w rel v = largest w rel v w 0

-- the prefix p, behind which i bits are free, lies in the range and in no larger prefix that does
pub record IsLargest (w : ℕ) (rel : Rel) (v i p : ℕ) : Type 0 where
  pub within : i ≤ w
  pub below : p < 2 ^ (w - i)
  pub in_range : lies rel v i p ≡ true
  pub alone : (k : ℕ) → 0 < k → i + k ≤ w → lies rel v (i + k) (p / 2 ^ k) ≡ false

-- The prefixes are exactly those that lie in the range and in no larger one that does.
abbrev pub AreLargest : ℕ → Rel → ℕ → Type 0
AreLargest w rel v = (b : Bits) → Among b (prefixes w rel v) ↔ ((i : ℕ) × (p : ℕ) × IsLargest w rel v i p × (b ≡ prefix w i p))
