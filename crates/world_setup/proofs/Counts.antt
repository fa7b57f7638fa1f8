-- How many entries there are, where each name of the one list is one of the other.
use Rattle.std.specs.Prelude.{◌≡◌, ◌≤◌, List, Option, true, is_some, IsSome, length}
use Rattle.std.proofs.Common.{◌∙◌, subst}
use Rattle.std.specs.Cmp.Lexicographic.{slice_cmp}
use Rattle.std.specs.Map.{keys_of}
use Rattle.std.specs.Ordering.{nat_cmp, eq_by_cmp}
use Rattle.std.proofs.lemmas.Cmp.{eq_by_cmp_equiv, nat_list_cmp_total}
use Rattle.std.proofs.lemmas.Map.Entries.{length-keys_of}
use Rattle.std.proofs.lemmas.Map.Keys.{IsDistinct-from_sorted}
use Rattle.std.proofs.lemmas.Map.Made.{is_some-lookup}
use Rattle.std.proofs.lemmas.Map.Steps.{length-le_from_keys}
use Rattle.ovn_base.specs.declared.name.Name.{Name}
use Rattle.ovn_base.specs.names.ByName.{at, IsByName}

some_is : {X : Type 0} (o : Option X) → is_some o ≡ true → IsSome o
some_is o h = search h

pub few_entries : {X Y : Type 0} (xs : List (Name × X)) (es : List (Name × Y)) → IsByName xs → ((q : Name) → IsSome (at xs q) → IsSome (at es q)) → length xs ≤ length es
few_entries xs es sorted there =
    subst (λ n. n ≤ length es) (length-keys_of xs)
    (length-le_from_keys (eq_by_cmp_equiv nat_list_cmp_total) (keys_of xs) es (IsDistinct-from_sorted (slice_cmp nat_cmp) (keys_of xs) sorted)
    (λ q h. there q (some_is (at xs q) (is_some-lookup (eq_by_cmp (slice_cmp nat_cmp) q) xs ∙ h))))
