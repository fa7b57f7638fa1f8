-- Ways, turns and the clock keep connection lists.
use Rattle.std.specs.Prelude.{ℕ, ◌+◌, Bool, true, false, List, [], ◌∷◌, Some, cond, unwrap_or, map}
use Rattle.std.specs.BTreeMap.{is_at}
use Rattle.std.specs.Cmp.Lexicographic.{slice_cmp}
use Rattle.std.specs.Map.{keys_of}
use Rattle.std.specs.Ordering.{nat_cmp}
use Rattle.std.proofs.Common.{arith}
use Rattle.conn_table.specs.Connections.{ConnectionList, changed, expired}
use Rattle.nb_records.specs.Switches.{is_named}
use Rattle.ovn_base.specs.declared.name.Name.{Name}
use Rattle.ovn_base.specs.names.ByName.{at}
use Rattle.net_model.proofs.ConnectionLaws.{committed_at, changed_at, expired_at, none_at}
use Rattle.net_model.specs.Leads.{Leads, stays, tells, commits, refreshes, chooses}
use Rattle.net_model.specs.ListOwners.{list_unless, names_of, lists_for, homed_routers}
use Rattle.net_model.specs.ListsAt.{IsListAt, AreListsAt}
use Rattle.net_model.specs.State.{State, empty, expired_in, clocked}
use Rattle.net_model.specs.Transition.{Turn, turned_by}
use Rattle.net_model.specs.Trail.{Trail, Lists, ListOwner, of_port, dnat_of, snat_of, list_at, list_of, with_list_at, with_list}

abbrev is_at_name : Name → Name → Bool
is_at_name q name = is_at (slice_cmp nat_cmp q) name

-- ---- a list that is written

-- each name has the list, or what it had
module _ (now : ℕ) (name : Name) (list : ConnectionList) (given : IsListAt now list) (q : Name) where
  written_at : (lists : List (Name × ConnectionList)) → IsListAt now (list_at lists q) → IsListAt now (list_at (with_list_at lists name list) q)
  written_at [] old = old
  written_at (e ∷ es) old = by (is_at_name name e.0) (written_at es)
    where
      here : (b : Bool) → IsListAt now (unwrap_or (cond b (Some e.1) (at es q)) []) → IsListAt now (unwrap_or (cond b (Some list) (at es q)) [])
      here true h = given
      here false h = h

      there : (b : Bool) → (IsListAt now (list_at es q) → IsListAt now (list_at (with_list_at es name list) q)) → IsListAt now (unwrap_or (cond b (Some e.1) (at es q)) [])
          → IsListAt now (unwrap_or (cond b (Some e.1) (at (with_list_at es name list) q)) [])
      there true later h = h
      there false later h = later h

      by : (b : Bool) → (IsListAt now (list_at es q) → IsListAt now (list_at (with_list_at es name list) q)) → IsListAt now (list_at (cond b ((e.0, list) ∷ es) (e ∷ with_list_at es name list)) q)
      by true later = here (is_at_name q e.0) old
      by false later = there (is_at_name q e.0) later old

pub written_lists : (now : ℕ) (lists : Lists) (owner : ListOwner) (list : ConnectionList) → IsListAt now list → AreListsAt now lists → AreListsAt now (with_list lists owner list)
written_lists now lists (of_port q) list given old (of_port o) = written_at now q list given o lists.ports (old (of_port o))
written_lists now lists (of_port q) list given old (dnat_of o) = old (dnat_of o)
written_lists now lists (of_port q) list given old (snat_of o) = old (snat_of o)
written_lists now lists (dnat_of r) list given old (of_port o) = old (of_port o)
written_lists now lists (dnat_of r) list given old (dnat_of o) = written_at now r list given o lists.dnats (old (dnat_of o))
written_lists now lists (dnat_of r) list given old (snat_of o) = old (snat_of o)
written_lists now lists (snat_of r) list given old (of_port o) = old (of_port o)
written_lists now lists (snat_of r) list given old (dnat_of o) = old (dnat_of o)
written_lists now lists (snat_of r) list given old (snat_of o) = written_at now r list given o lists.snats (old (snat_of o))

-- ---- ways

pub leads_keep : {now : ℕ} {t u : Trail} → Leads now t u → AreListsAt now t.lists → AreListsAt now u.lists
leads_keep stays h = h
leads_keep (tells e g) h = leads_keep g h
leads_keep {now} (commits {u} owner from back list fresh pair done g) h =
    let before = leads_keep g h in
    written_lists now u.lists owner list (committed_at (list_of u.lists owner) from back now list fresh pair done (before owner)) before
leads_keep {now} (refreshes {u} owner change e keeps uses g) h =
    let before = leads_keep g h in
    written_lists now u.lists owner (changed change e.forward (list_of u.lists owner)) (changed_at now change e.forward (list_of u.lists owner) keeps uses (before owner)) before
leads_keep (chooses legal left g) h = leads_keep g h

-- ---- turns

-- each name has what it had, or an empty list
module _ (now : ℕ) (emptied : List Name) (lists : List (Name × ConnectionList)) (old : (q : Name) → IsListAt now (list_at lists q)) (q : Name) where
  turned_at : (names : List Name) → IsListAt now (list_at (map (list_unless emptied lists) names) q)
  turned_at [] = none_at now
  turned_at (name ∷ names) = by (is_at_name q name) (turned_at names)
    where
      kept : (b : Bool) → IsListAt now (cond b [] (list_at lists name))
      kept true = none_at now
      kept false = old name

      by : (b : Bool) → IsListAt now (list_at (map (list_unless emptied lists) names) q)
          → IsListAt now (unwrap_or (cond b (Some (cond (is_named name emptied) [] (list_at lists name))) (at (map (list_unless emptied lists) names) q)) [])
      by true later = kept (is_named name emptied)
      by false later = later

pub turned_keep : (turn : Turn) (m : State) → AreListsAt m.clock m.lists → AreListsAt m.clock (turned_by turn m).lists
turned_keep turn m old = by
  where
    by : (owner : ListOwner) → IsListAt m.clock (list_of (lists_for turn.next turn.emptied m.lists) owner)
    by (of_port q) = turned_at m.clock (names_of turn.emptied.ports) m.lists.ports (λ name. old (of_port name)) q (keys_of turn.next.bindings)
    by (dnat_of r) = turned_at m.clock (names_of turn.emptied.routers) m.lists.dnats (λ name. old (dnat_of name)) r (homed_routers turn.next)
    by (snat_of r) = turned_at m.clock (names_of turn.emptied.routers) m.lists.snats (λ name. old (snat_of name)) r (homed_routers turn.next)

-- ---- the clock

module _ (now seconds : ℕ) (q : Name) where
  clocked_at : (lists : List (Name × ConnectionList)) → IsListAt now (list_at lists q) → IsListAt (now + seconds) (list_at (expired_in (now + seconds) lists) q)
  clocked_at [] old = none_at (now + seconds)
  clocked_at (e ∷ es) old = by (is_at_name q e.0) old (clocked_at es)
    where
      by : (b : Bool) → IsListAt now (unwrap_or (cond b (Some e.1) (at es q)) []) → (IsListAt now (list_at es q) → IsListAt (now + seconds) (list_at (expired_in (now + seconds) es) q))
          → IsListAt (now + seconds) (unwrap_or (cond b (Some (expired (now + seconds) e.1)) (at (expired_in (now + seconds) es) q)) [])
      by true h later = expired_at now (now + seconds) e.1 (omega arith) h
      by false h later = later h

pub clocked_keep : (seconds : ℕ) (m : State) → AreListsAt m.clock m.lists → AreListsAt (clocked seconds m).clock (clocked seconds m).lists
clocked_keep seconds m old (of_port q) = clocked_at m.clock seconds q m.lists.ports (old (of_port q))
clocked_keep seconds m old (dnat_of r) = clocked_at m.clock seconds r m.lists.dnats (old (dnat_of r))
clocked_keep seconds m old (snat_of r) = clocked_at m.clock seconds r m.lists.snats (old (snat_of r))

-- ---- the empty state

pub empty_keep : AreListsAt empty.clock empty.lists
empty_keep (of_port q) = none_at 0
empty_keep (dnat_of r) = none_at 0
empty_keep (snat_of r) = none_at 0
