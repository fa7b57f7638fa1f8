-- Names in order stand once.
use Rattle.std.specs.Prelude.{◌≡◌, List, [], ◌∷◌, refl}
use Rattle.std.specs.Cmp.Lexicographic.{slice_cmp}
use Rattle.std.specs.List.Sorted.{IsStrictlySortedBy}
use Rattle.std.specs.Ordering.{nat_cmp}
use Rattle.std.specs.declared.cmp.Ordering.TheVariants.{Less}
use Rattle.ovn_base.specs.declared.name.Name.{Name}
use Rattle.ovn_base.specs.lists.Once.{EachOnce}
use Rattle.ovn_base.proofs.AmongLaws.{among_all}
use Rattle.ovn_base.proofs.ByNameLaws.{below_apart}

pub names_once : (names : List Name) → IsStrictlySortedBy (slice_cmp nat_cmp) names → EachOnce names
unfolding IsStrictlySortedBy
names_once [] s = tt
names_once (a ∷ names) s = (λ m. below_apart a a (among_all (λ y. slice_cmp nat_cmp a y ≡ Less) a names s.0 m) refl, names_once names s.1)
