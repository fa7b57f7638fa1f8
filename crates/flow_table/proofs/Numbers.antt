-- Lists of numbers, each once.
use Rattle.std.specs.Prelude.{◌≡◌, ℕ, true, false, List, nat_eq}
use mathlib.Core.Path.{sym, ◌∙◌}
use Rattle.std.proofs.lemmas.Bool.{false≢true}
use Rattle.std.specs.List.{list_any}
use Rattle.ovn_base.specs.lists.Among.{Among}
use Rattle.ovn_base.proofs.AmongLaws.{among_any}

-- by a test that is computed
pub number_apart : (n : ℕ) (ns : List ℕ) → nat_eq n n ≡ true → list_any (nat_eq n) ns ≡ false → ¬ Among n ns
number_apart n ns own none m = false≢true (sym none ∙ among_any (nat_eq n) n ns m own)
