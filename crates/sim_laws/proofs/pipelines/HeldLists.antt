-- Zones that hold the lists hold them still, once one of them was written on both sides.
use Rattle.std.specs.Prelude.{◌≡◌, ◌≢◌, ℕ, nat_eq, List, [], Option, Some, is_some, refl}
use Rattle.std.specs.BTreeMap.{is_at}
use Rattle.std.specs.Cmp.Lexicographic.{slice_cmp}
use Rattle.std.specs.Option.{unwrap_or}
use Rattle.std.specs.Ordering.{nat_cmp}
use Rattle.std.proofs.Common.{sym, ap, ◌∙◌, subst, inl, inr}
use Rattle.std.proofs.lemmas.Bool.{cases_Bool, eqb-true, eq-eqb, false≢true, false_from_ne_true}
use Rattle.conn_table.specs.Connections.{ConnectionList}
use Rattle.net_model.specs.Trail.{Lists, ListOwner, of_port, dnat_of, snat_of, list_of, with_list, with_list_at}
use Rattle.ovn_base.proofs.ByNameLaws.{same_name, other_name}
use Rattle.ovn_base.specs.declared.name.Name.{Name}
use Rattle.ovn_base.specs.names.ByName.{at}
use Rattle.switch_engine.specs.Zones.{ZoneLists, zone_at, with_zone}
use Rattle.sim_laws.proofs.pipelines.SetValues.{set_same, set_apart}
use Rattle.sim_laws.specs.pipelines.HeldLists.{ZoneNumbers, AreApart, IsGoodList, list_there, IsHeldIn, HoldLists}

-- the list that is there is the owner's
pub list_is : (lists : Lists) (owner : ListOwner) (list : ConnectionList) → list_there lists owner ≡ Some list → list_of lists owner ≡ list
list_is lists (of_port q) list has = ap (λ (o : Option ConnectionList). unwrap_or o []) has
list_is lists (dnat_of r) list has = ap (λ (o : Option ConnectionList). unwrap_or o []) has
list_is lists (snat_of r) list has = ap (λ (o : Option ConnectionList). unwrap_or o []) has

-- ---- the lists

module _ (list : ConnectionList) where
  own_at : (lists : List (Name × ConnectionList)) (q : Name) (old : ConnectionList) → at lists q ≡ Some old → at (with_list_at lists q list) q ≡ Some list
  own_at lists q old has = set_same (is_at (slice_cmp nat_cmp q)) lists list (ap (λ o. is_some o) has)

  other_at : (lists : List (Name × ConnectionList)) (q r : Name) → q ≢ r → at (with_list_at lists q list) r ≡ at lists r
  other_at lists q r apart =
      set_apart (is_at (slice_cmp nat_cmp q)) (is_at (slice_cmp nat_cmp r)) (λ n h. other_name r n (λ same. apart (same_name q n h ∙ sym same))) lists list

  pub own_list : (lists : Lists) (owner : ListOwner) (old : ConnectionList) → list_there lists owner ≡ Some old → list_there (with_list lists owner list) owner ≡ Some list
  own_list lists (of_port q) old has = own_at lists.ports q old has
  own_list lists (dnat_of r) old has = own_at lists.dnats r old has
  own_list lists (snat_of r) old has = own_at lists.snats r old has

  other_list : (lists : Lists) (owner other : ListOwner) → owner ≢ other → list_there (with_list lists owner list) other ≡ list_there lists other
  other_list lists (of_port q) (of_port r) apart = other_at lists.ports q r (λ same. apart (ap of_port same))
  other_list lists (of_port q) (dnat_of r) apart = refl
  other_list lists (of_port q) (snat_of r) apart = refl
  other_list lists (dnat_of q) (of_port r) apart = refl
  other_list lists (dnat_of q) (dnat_of r) apart = other_at lists.dnats q r (λ same. apart (ap dnat_of same))
  other_list lists (dnat_of q) (snat_of r) apart = refl
  other_list lists (snat_of q) (of_port r) apart = refl
  other_list lists (snat_of q) (dnat_of r) apart = refl
  other_list lists (snat_of q) (snat_of r) apart = other_at lists.snats q r (λ same. apart (ap snat_of same))

-- ---- the zones

module _ (zones : ZoneLists) (z : ℕ) (list : ConnectionList) where
  pub own_zone : (old : ConnectionList) → zone_at zones z ≡ Some old → zone_at (with_zone zones z list) z ≡ Some list
  own_zone old has = set_same (nat_eq z) zones list (ap (λ o. is_some o) has)

  other_zone : (y : ℕ) → z ≢ y → zone_at (with_zone zones z list) y ≡ zone_at zones y
  other_zone y apart = set_apart (nat_eq z) (nat_eq y) (λ n h. false_from_ne_true (nat_eq y n) (λ k. apart (eqb-true z n h ∙ sym (eqb-true y n k)))) zones list

-- ---- both

module _ (number : ZoneNumbers) (apart : AreApart number) (zones : ZoneLists) (lists : Lists) (hold : HoldLists number zones lists) (owner : ListOwner) (z : ℕ)
    (has : number owner ≡ Some z) (list : ConnectionList) (good : IsGoodList list) where
  abbrev held_by : ListOwner → ℕ → Type 0
  held_by other y = IsHeldIn (with_zone zones z list) (with_list lists owner list) other y

  held_own : held_by owner z
  held_own =
      let old = hold owner z has in
      record { list = list; has = own_list list lists owner old.list old.has; held = own_zone zones z list old.list old.held; good = good }

  held_other : (other : ListOwner) (y : ℕ) → number other ≡ Some y → z ≢ y → held_by other y
  held_other other y is far =
      let old = hold other y is in
      let differs : owner ≢ other = λ same. far (same_number (sym has ∙ ap number same ∙ is)) in
      record { list = old.list; has = other_list list lists owner other differs ∙ old.has; held = other_zone zones z list y far ∙ old.held; good = old.good }
    where
      same_number : Some z ≡ Some y → z ≡ y
      same_number e = ap (λ o. unwrap_or o z) e

  pub held_after : HoldLists number (with_zone zones z list) (with_list lists owner list)
  held_after other y is = elim (cases_Bool (nat_eq z y)) [
    | inl same ↦
        let one : z ≡ y = eqb-true z y same in
        let both : owner ≡ other = apart owner other y (has ∙ ap (λ n. Some n) one) is in
        subst (λ o. held_by o y) both (subst (λ n. held_by owner n) one held_own)
    | inr far ↦ held_other other y is (λ e. false≢true (sym far ∙ eq-eqb z y e))
  ]
