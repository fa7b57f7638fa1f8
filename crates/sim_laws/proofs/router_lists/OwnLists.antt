-- A router's connection list in its zone, and the list that is written there.
use Rattle.std.specs.Prelude.{◌≡◌, ℕ, nat_eq, Bool, true, false, cond, List, [], ◌∷◌, Some, refl}
use Rattle.std.specs.Map.{lookup, set_value}
use Rattle.std.proofs.Common.{sym, ap, ◌∙◌, subst}
use Rattle.std.proofs.lemmas.Option.{same_Some}
use Rattle.conn_table.specs.Connections.{ConnectionList}
use Rattle.net_model.specs.Trail.{Lists, ListOwner, with_list}
use Rattle.switch_engine.specs.Zones.{ZoneLists, zone_at, with_zone}
use Rattle.sim_laws.proofs.pipelines.HeldLists.{list_is, held_after}
use Rattle.sim_laws.proofs.pipelines.Noting.{IsOwnZone}
use Rattle.sim_laws.specs.pipelines.HeldLists.{ZoneNumbers, AreApart, IsGoodList, HoldLists}

-- the zone of an owner holds its list
pub owned : {number : ZoneNumbers} {zones : ZoneLists} {lists : Lists} → HoldLists number zones lists → (owner : ListOwner) (z : ℕ) → number owner ≡ Some z → IsOwnZone zones lists owner z
owned {lists = lists} hold owner z has =
    let e = hold owner z has in
    let same = list_is lists owner e.list e.has in
    record { held = e.held ∙ ap (λ (l : ConnectionList). Some l) (sym same); good = subst IsGoodList (sym same) e.good }

-- ---- the same list again

-- the value that is there is set
pub set_itself : {K X : Type 0} (test : K → Bool) (es : List (K × X)) (v : X) → lookup test es ≡ Some v → set_value test es v ≡ es
set_itself test [] v h = refl
set_itself test (e ∷ es) v h = by (set_itself test es v) (test e.0) refl h
  where
    by : (lookup test es ≡ Some v → set_value test es v ≡ es) → (b : Bool) → test e.0 ≡ b → cond b (Some e.1) (lookup test es) ≡ Some v → cond b ((e.0, v) ∷ es) (e ∷ set_value test es v) ≡ e ∷ es
    by later true is h = ap (λ x. (e.0, x) ∷ es) (sym (same_Some e.1 v h))
    by later false is h = ap (λ l. e ∷ l) (later h)

pub same_zones : (zones : ZoneLists) (z : ℕ) (list : ConnectionList) → zone_at zones z ≡ Some list → with_zone zones z list ≡ zones
same_zones zones z list held = set_itself (nat_eq z) zones list held

-- ---- another list

module _ (number : ZoneNumbers) (apart : AreApart number) (zones : ZoneLists) (lists : Lists) (hold : HoldLists number zones lists) (owner : ListOwner) (z : ℕ) (has : number owner ≡ Some z) where
  pub holds_written : (list : ConnectionList) → IsGoodList list → HoldLists number (with_zone zones z list) (with_list lists owner list)
  holds_written list good = held_after number apart zones lists hold owner z has list good
