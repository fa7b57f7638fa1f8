-- The connection lists after a turn, by those before.
use Rattle.std.specs.Prelude.{◌≡◌, Bool, true, false, List, [], ◌∷◌, map, Option, Some, None, cond, unwrap_or, refl}
use Rattle.std.specs.Cmp.Lexicographic.{slice_cmp}
use Rattle.std.specs.List.Sorted.{IsStrictlySortedBy}
use Rattle.std.specs.Map.{keys_of}
use Rattle.std.specs.Ordering.{nat_cmp}
use Rattle.std.proofs.Common.{sym, ap, ◌∙◌, subst, inl, inr}
use Rattle.std.proofs.lemmas.Bool.{cond-true, cond-false}
use Rattle.conn_table.specs.Connections.{ConnectionList}
use Rattle.nb_records.specs.Switches.{is_named}
use Rattle.net_model.specs.ListOwners.{homed_routers, list_unless, names_of}
use Rattle.net_model.specs.Trail.{list_at}
use Rattle.ovn_base.proofs.AmongLaws.{among_cases, among_none, map_among}
use Rattle.ovn_base.proofs.ByNameLaws.{among_at, at_head, at_tail, one_or_two}
use Rattle.ovn_base.specs.declared.name.Name.{Name}
use Rattle.ovn_base.specs.lists.Among.{Among}
use Rattle.ovn_base.specs.names.ByName.{at}
use Rattle.sim_laws.specs.journeys.TurnedZones.{TurnedAtHomeLaw}

-- names in order
abbrev pub AreInOrder : List Name → Type 0
AreInOrder names = IsStrictlySortedBy (slice_cmp nat_cmp) names

module _ (emptied : List Name) (lists : List (Name × ConnectionList)) where
  -- the lists of these
  abbrev pub lists_of : List Name → List (Name × ConnectionList)
  lists_of names = map (list_unless emptied lists) names

  pub owners_are : (names : List Name) → keys_of (lists_of names) ≡ names
  owners_are [] = refl
  owners_are (n ∷ names) = ap (λ (ns : List Name). n ∷ ns) (owners_are names)

  -- each of them has the list that it had, or an empty one
  list_is : (names : List Name) (n : Name) → Among n names → at (lists_of names) n ≡ Some (cond (is_named n emptied) [] (list_at lists n))
  list_is [] n among = absurd (among_none n among)
  list_is (k ∷ names) n among = elim (one_or_two n k) [
    | inl same ↦
        subst (λ j. at (lists_of (k ∷ names)) j ≡ Some (cond (is_named j emptied) [] (list_at lists j))) (sym same) (at_head (list_unless emptied lists k) (lists_of names))
    | inr apart ↦ elim (among_cases n k names among) [
      | inl is ↦ absurd (apart is)
      | inr later ↦ at_tail (list_unless emptied lists k) (lists_of names) n apart ∙ list_is names n later
    ]
  ]

  pub list_empty : (names : List Name) (n : Name) → Among n names → is_named n emptied ≡ true → at (lists_of names) n ≡ Some []
  list_empty names n among is = list_is names n among ∙ ap (λ (l : ConnectionList). Some l) (cond-true (is_named n emptied) [] (list_at lists n) is)

  pub list_kept : (names : List Name) (n : Name) (list : ConnectionList) → Among n names → is_named n emptied ≡ false → at lists n ≡ Some list → at (lists_of names) n ≡ Some list
  list_kept names n list among apart has =
      list_is names n among ∙ ap (λ (l : ConnectionList). Some l) (cond-false (is_named n emptied) [] (list_at lists n) apart ∙ ap (λ o. unwrap_or o []) has)

  -- who had none has an empty one
  pub list_new : (names : List Name) (n : Name) → Among n names → at lists n ≡ None → at (lists_of names) n ≡ Some []
  list_new names n among none = list_is names n among ∙ ap (λ (l : ConnectionList). Some l) (empty (is_named n emptied) (at lists n) none)
    where
      empty : (b : Bool) (o : Option ConnectionList) → o ≡ None → cond b [] (unwrap_or o []) ≡ []
      empty true o is = refl
      empty false o is = ap (λ (p : Option ConnectionList). unwrap_or p []) is

-- where the owners are these, each has a list
pub owned : (lists : List (Name × ConnectionList)) (names : List Name) → keys_of lists ≡ names → AreInOrder names → (n : Name) → Among n names → (list : ConnectionList) × (at lists n ≡ Some list)
owned lists names owners sorted n among =
    let e = map_among (λ (x : Name × ConnectionList). x.0) n lists (subst (λ ns. Among n ns) (sym owners) among) in
    (e.0.1, ap (at lists) e.2 ∙ among_at e.0.0 e.0.1 lists (subst AreInOrder (sym owners) sorted) e.1)

pub turned_at_home : TurnedAtHomeLaw
turned_at_home m turn =
    let routers = names_of turn.emptied.routers in
    record {
      ports = owners_are (names_of turn.emptied.ports) m.lists.ports (keys_of turn.next.bindings);
      dnats = owners_are routers m.lists.dnats (homed_routers turn.next);
      snats = owners_are routers m.lists.snats (homed_routers turn.next);
    }
