-- Names are compared by their bytes.
use Rattle.std.specs.Prelude.{◌≡◌, ℕ, List, Bool, refl}
use Rattle.std.specs.Bool.{Decides}
use Rattle.std.specs.Cmp.Lexicographic.{pointwise}
use Rattle.std.proofs.Math.Dec.{eqb as nat_eq}
use Rattle.std.proofs.lemmas.Bool.Decides.{Decides-eqb}
use Rattle.std.proofs.lemmas.Slice.Eq.{slice_eq-Decides}
use Rattle.ovn_base.specs.declared.name.Name.{Name}

-- the names are one
abbrev pub same_name : Name → Name → Bool
same_name a b = pointwise nat_eq a b

-- the test of two names tells whether they are one
pub bytes_decides : (a b : List ℕ) → Decides (pointwise nat_eq a b) (a ≡ b)
bytes_decides a b = slice_eq-Decides Decides-eqb a b (pointwise nat_eq a b) refl
