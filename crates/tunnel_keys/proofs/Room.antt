-- How many keys are free, and keys of which none is retired.
use Rattle.std.specs.Prelude.{◌≡◌, ℕ, zero, suc, ◌+◌, ◌≤◌, ◌<◌, Bool, true, false, cond, not, List, [], ◌∷◌, ◌++◌, length, map, refl}
use mathlib.Core.Path.{ap, ◌∙◌}
use mathlib.Core.Logic.{inl, inr}
use native.Mathlib.Omega.{arith}
use Rattle.std.specs.List.{filter, filter_map}
use Rattle.std.specs.Set.{is_member}
use Rattle.std.proofs.Math.Dec.{eqb as nat_eq}
use Rattle.std.proofs.Common.{length-append}
use Rattle.std.proofs.lemmas.Bool.{cases_lt}
use Rattle.std.proofs.lemmas.Bool.Decides.{Decides-eqb}
use Rattle.std.proofs.lemmas.Map.Steps.{le-length_from_below}
use Rattle.ovn_base.specs.lists.Among.{Among, here, there}
use Rattle.ovn_base.proofs.AmongLaws.{among_left, among_right, among_same, among_filter, among_member, member_among}
use Rattle.tunnel_keys.specs.Keys.{Keys, numbers_to, free_in, retire, held_datapath, held_port}
use Rattle.tunnel_keys.proofs.Lists.{append_none}

-- ---- how many are free

numbers_in : (n k : ℕ) → 1 ≤ k → k ≤ n → Among k (numbers_to n)
unfolding numbers_to
numbers_in zero k low high = absurd (omega (arith, low, high))
numbers_in (suc n) k low high = elim (cases_lt n k) [
  | inl last ↦ among_right k (numbers_to n) (suc n ∷ []) (among_same k (suc n) [] (omega (arith, last, high)))
  | inr before ↦ among_left k (numbers_to n) (suc n ∷ []) (numbers_in n k low (omega (arith, before)))
]

module _ (range : ℕ) (taken : List ℕ) where
  -- a key in range is free or taken
  free_or_taken : (k : ℕ) → 1 ≤ k → k ≤ range → Among k (free_in range taken ++ taken)
  free_or_taken k low high = by (is_member nat_eq taken k) refl
    where
      by : (b : Bool) → is_member nat_eq taken k ≡ b → Among k (free_in range taken ++ taken)
      by true is = among_right k (free_in range taken) taken (member_among nat_eq (λ a b h. (Decides-eqb a b).0 h) k taken is)
      by false is = among_left k (free_in range taken) taken (among_filter (λ key. not (is_member nat_eq taken key)) k (numbers_to range) (numbers_in range k low high) (ap not is))

  -- at least as many are free as are not taken
  pub free_count : range ≤ length (free_in range taken) + length taken
  free_count =
      let all : suc range ≤ length (0 ∷ (free_in range taken ++ taken)) = le-length_from_below (0 ∷ (free_in range taken ++ taken)) (suc range) (λ q below. among_member nat_eq (λ a. (Decides-eqb a a).1 refl) q (0 ∷ (free_in range taken ++ taken)) (found q below)) in
      let sum : length (free_in range taken ++ taken) ≡ length (free_in range taken) + length taken = length-append (free_in range taken) taken in
      omega (arith, all, sum)
    where
      found : (q : ℕ) → q < suc range → Among q (0 ∷ (free_in range taken ++ taken))
      found zero below = here
      found (suc q) below = there (free_or_taken (suc q) (omega arith) (omega (arith, below)))

-- ---- nobody is removed

filter_all : {X : Type 0} (xs : List X) → filter (λ x. true) xs ≡ xs
filter_all [] = refl
filter_all (x ∷ xs) = ap (λ l. x ∷ l) (filter_all xs)

filter_none : {X : Type 0} (xs : List X) → filter (λ x. false) xs ≡ []
filter_none [] = refl
filter_none (x ∷ xs) = filter_none xs

pub retire_none : (keys : Keys) → retire keys [] ≡ keys
retire_none keys =
    let datapaths = filter_all keys.datapaths in
    let ports = filter_all keys.ports in
    let retired_datapaths = ap (λ l. keys.retired_datapaths ++ map held_datapath l) (filter_none keys.datapaths) ∙ append_none keys.retired_datapaths in
    let retired_ports = ap (λ l. keys.retired_ports ++ filter_map (held_port keys.datapaths) l) (filter_none keys.ports) ∙ append_none keys.retired_ports in
    λ i. record keys { datapaths = datapaths i; ports = ports i; retired_datapaths = retired_datapaths i; retired_ports = retired_ports i }

-- what passes a test is at most all
pub filter_few : {X : Type 0} (p : X → Bool) (xs : List X) → length (filter p xs) ≤ length xs
filter_few p [] = omega arith
filter_few p (x ∷ xs) = by (p x) (filter_few p xs)
  where
    by : (b : Bool) → length (filter p xs) ≤ length xs → length (cond b (x ∷ filter p xs) (filter p xs)) ≤ suc (length xs)
    by true ih = omega (arith, ih)
    by false ih = omega (arith, ih)
