-- What a counted store holds, and what is prepared for it.
use Rattle.std.specs.Prelude.{◌≡◌, ◌≤◌, ℕ, Bool, true, List, [], ◌∷◌, length, Some, IsSome}
use Rattle.std.specs.BTreeMap.{is_at}
use Rattle.std.specs.List.{AllByRecursion, IsDistinct, AllZip}
use Rattle.std.specs.Map.{keys_of, lookup, set_value, remove_entry}
use Rattle.std.specs.Ordering.{eq_by_cmp}
use Rattle.std.specs.Set.{is_member}
use Rattle.std.specs.declared.cmp.Ordering.{Ordering}
use Rattle.ovn_base.specs.declared.delta.Delta.{Delta}
use Rattle.flow_refs.specs.Origins.{flows_of, flows_after, IsEachOnce, IsDifference}
use Rattle.flow_refs.specs.Counts.{count_of, positive, kept_number, HaveOnce}

-- each origin with its flows, each held flow with the number of its origins, for how many more flows there is room, and the
-- origins that are noted since their places may be without flows
pub record Store (F O : Type 0) : Type 0 where
  pub origins : List (O × List F)
  pub counts : List (F × ℕ)
  pub room : ℕ
  pub idle : List O

-- origins with the flows that they shall have, flows with the numbers that they then have, and what comes and goes
pub record Prepared (F O : Type 0) : Type 0 where
  pub changes : List (O × List F)
  pub numbers : List (F × ℕ)
  pub delta : Delta F

module _ {F O : Type 0} (cmp : O → O → Ordering) where
  -- each of the origins has a place
  abbrev pub HavePlaces : List (O × List F) → List (O × List F) → Type 0
  HavePlaces es cs = AllByRecursion (λ c. IsSome (lookup (is_at (cmp c.0)) es)) cs

-- the flows are put at their origin's place; where there are none the place goes
abbrev pub put_flows : {F O : Type 0} → (O → Bool) → List (O × List F) → List F → List (O × List F)
put_flows test es [] = remove_entry test es
put_flows test es (f ∷ fs) = set_value test es (f ∷ fs)

module _ {F O : Type 0} (cmp : O → O → Ordering) where
  -- the same for each of the changes in turn
  abbrev pub put_all : List (O × List F) → List (O × List F) → List (O × List F)
  put_all es [] = es
  put_all es (c ∷ cs) = put_all (put_flows (is_at (cmp c.0)) es c.1) cs

-- the same origins with the same flows, though in another order or number
abbrev pub AreSame : {F O : Type 0} → (F → F → Bool) → List (O × List F) → List (O × List F) → Type 0
AreSame {F} eq given changes = AllZip (λ g c. (c.0 ≡ g.0) × ((flow : F) → is_member eq c.1 flow ≡ is_member eq g.1 flow)) given changes

-- a flow is listed exactly where some origin has it, with the number of these
abbrev pub AreCounted : {F O : Type 0} → (F → F → Bool) → List (O × List F) → List (F × ℕ) → Type 0
AreCounted {F} eq origins counts = (flow : F) → lookup (eq flow) counts ≡ positive (count_of eq origins flow)

-- the places without flows are those of listed origins
abbrev pub AreIdleAmong : {F O : Type 0} → (O → O → Ordering) → List (O × List F) → List O → Type 0
AreIdleAmong {F} {O} cmp origins places = (o : O) → lookup (is_at (cmp o)) origins ≡ Some [] → is_member (eq_by_cmp cmp) places o ≡ true

-- what always holds: flows are counted, each origin has its flows once, and the places without flows are known
pub record IsStore {F O : Type 0} (eq : F → F → Bool) (cmp : O → O → Ordering) (origins : List (O × List F)) (counts : List (F × ℕ)) (places : List O) : Type 0 where
  pub counted : AreCounted eq origins counts
  pub once : HaveOnce eq origins
  pub idle : AreIdleAmong cmp origins places

-- it was prepared for what the store holds
pub record IsPreparedFor {F O : Type 0} (eq : F → F → Bool) (cmp : O → O → Ordering) (store : Store F O) (prepared : Prepared F O) : Type 0 where
  pub delta : IsDifference eq (flows_of cmp store.origins) (flows_after cmp store.origins prepared.changes) prepared.delta
  pub each_once : IsEachOnce cmp prepared.changes
  pub have_once : HaveOnce eq prepared.changes
  pub places : HavePlaces cmp store.origins prepared.changes
  pub numbers_once : IsDistinct eq (keys_of prepared.numbers)
  pub numbers : (flow : F) → kept_number eq store.counts prepared.numbers flow ≡ positive (count_of eq (put_all cmp store.origins prepared.changes) flow)
  pub room : length prepared.numbers ≤ store.room

-- each origin has what it had, and each flow the number that it had
pub record IsKept {F O : Type 0} (eq : F → F → Bool) (cmp : O → O → Ordering) (before after : List (O × List F)) : Type 0 where
  pub flows : (o : O) → flows_of cmp after o ≡ flows_of cmp before o
  pub counts : (flow : F) → count_of eq after flow ≡ count_of eq before flow
