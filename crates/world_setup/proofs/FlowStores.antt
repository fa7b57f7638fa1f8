-- The stores of the chassis, while patches are prepared and put into force.
use Rattle.std.specs.Prelude.{◌≡◌, ◌<◌, ◌+◌, ℕ, suc, Bool, true, false, cond, List, [], ◌∷◌, ◌++◌, length, take, drop, map, Option, Some, None, refl}
use Rattle.std.specs.List.{AllByRecursion}
use Rattle.std.specs.Map.{keys_of}
use Rattle.std.proofs.Common.{sym, ap, subst, ◌∙◌, inl, inr, get_or, add-one}
use Rattle.std.proofs.lemmas.Bool.{false≢true}
use Rattle.std.proofs.lemmas.List.{map-append}
use Rattle.std.proofs.lemmas.Option.{none-some, same_Some}
use Rattle.ovn_base.specs.declared.delta.Delta.{Delta}
use Rattle.ovn_base.specs.declared.name.Name.{Name}
use Rattle.ovn_base.specs.lists.Among.{Among, there}
use Rattle.ovn_base.specs.lists.Once.{EachOnce}
use Rattle.ovn_base.specs.names.SameName.{same_name, bytes_decides}
use Rattle.ovn_base.proofs.AmongLaws.{all_among, among_cases, among_map, among_none, split_among}
use Rattle.chassis_sim.specs.State.{at_name}
use Rattle.chassis_sim.proofs.Lookups.{none_named, others_apart, same_back, split_at, take_more}
use Rattle.flow_refs.specs.Store.{Prepared}
use Rattle.flow_table.specs.declared.flow.Flow.{Flow}
use Rattle.physical_flows.specs.ChassisFlows.{AreExactly}
use Rattle.northd_core.specs.Lowering.{IsLoweredIn}
use Rattle.northd_core.specs.Plans.{ListsEach}
use Rattle.physical_flows.specs.Around.{around_everywhere, around_rows}
use Rattle.physical_flows.specs.RecordKeys.{HaveKeys}
use Rattle.physical_flows.specs.Stages.{Basis}
use Rattle.physical_flows.specs.Switched.{IsKeyed}
use Rattle.physical_flows.specs.UnitFlows.{UnitStore, HaveRows, IsRowChange, rows_held}
use Rattle.physical_flows.specs.Units.{ChangeOnly, all_units, no_rows}
use Rattle.physical_flows.specs.declared.unit.FlowUnit.{FlowUnit}
use Rattle.physical_flows.proofs.UnitLaws.{around_units, keyed_units_once}
use Rattle.switch_engine.proofs.Lists.{all_append}
use Rattle.tuple_space.specs.Bunches.{flows_in}
use Rattle.tuple_space.specs.declared.space.TupleSpace.{TupleSpace}
use Rattle.world_setup.specs.Ground.{GroundView, basis_in}
use Rattle.world_setup.specs.Holding.{HaveSame}
use Rattle.world_setup.specs.Setup.{ArePatches, HasRowsAt, HasStore, HaveStores, IsFlowBy, IsOnTheWay, IsPatchAt, IsReadyAt, IsReadyOrDone, rows_at, rows_on}
use Rattle.world_setup.proofs.ApartTables.{flows_of_both}
use Rattle.world_setup.proofs.HeldFlows.{held_exactly}

-- ---- what the units of stores have

module _ (old new : List (Name × UnitStore)) (name : Name) (others : (c : Name) → same_name name c ≡ false → at_name new c ≡ at_name old c) where
  -- where one store is made ready, all units have what they had
  pub rows_stay : (a b : UnitStore) → at_name old name ≡ Some a → at_name new name ≡ Some b → rows_held b ≡ rows_held a → (c : Name) → rows_at (at_name new c) ≡ rows_at (at_name old c)
  rows_stay a b before after same c = by (same_name name c) refl
    where
      by : (t : Bool) → same_name name c ≡ t → rows_at (at_name new c) ≡ rows_at (at_name old c)
      by true is = subst (λ n. rows_at (at_name new n) ≡ rows_at (at_name old n)) ((bytes_decides name c).0 is) (ap rows_at after ∙ ap Some same ∙ sym (ap rows_at before))
      by false is = ap rows_at (others c is)

-- a chassis whose units have what they had has its store still
pub has_still : (g : GroundView) (old new : List (Name × UnitStore)) (c : Name) → rows_at (at_name new c) ≡ rows_at (at_name old c) → HasStore g old c → HasStore g new c
has_still g old new c same has = by (at_name new c) refl
  where
    shown : rows_at (at_name new c) ≡ Some (rows_held has.store)
    shown = same ∙ ap rows_at has.is

    by : (o : Option UnitStore) → at_name new c ≡ o → HasStore g new c
    by None is = absurd (none-some (rows_held has.store) (sym (ap rows_at is) ∙ shown))
    by (Some store) is = record {
      store = store;
      is = is;
      rows = subst (λ rows. HaveRows (rows_on g c) rows) (sym (same_Some (rows_held store) (rows_held has.store) (sym (ap rows_at is) ∙ shown))) has.rows;
    }

-- ---- units with their rows

pub units_of_rows : (f : FlowUnit → List Flow) (us : List FlowUnit) → keys_of (map (λ u. (u, f u)) us) ≡ us
units_of_rows f [] = refl
units_of_rows f (u ∷ us) = ap (λ l. u ∷ l) (units_of_rows f us)

pub all_have : (f g : FlowUnit → List Flow) → ((u : FlowUnit) → f u ≡ g u) → (us : List FlowUnit) → AllByRecursion (λ (e : FlowUnit × List Flow). e.1 ≡ g e.0) (map (λ u. (u, f u)) us)
all_have f g same [] = tt
all_have f g same (u ∷ us) = (same u, all_have f g same us)

-- ---- patches

-- each of the patches leads from one ground to the other
abbrev pub AllLead : GroundView → GroundView → List (Name × UnitStore) → List (Name × Prepared Flow FlowUnit) → Type 0
AllLead before after stores patches = AllByRecursion (λ p. IsPatchAt (rows_on before p.0) (rows_on after p.0) (at_name stores p.0) (Some p.1)) patches

-- those of other chassis go on to do so
pub all_lead : (before after : GroundView) (old new : List (Name × UnitStore)) (name : Name) → ((c : Name) → same_name name c ≡ false → at_name new c ≡ at_name old c)
    → (patches : List (Name × Prepared Flow FlowUnit)) → ¬ Among name (keys_of patches) → AllLead before after old patches → AllLead before after new patches
all_lead before after old new name others [] absent all = tt
all_lead before after old new name others (p ∷ ps) absent all = (
  subst (λ o. IsPatchAt (rows_on before p.0) (rows_on after p.0) o (Some p.1)) (sym (others p.0 (others_apart name (p ∷ ps) absent).0)) all.0,
  all_lead before after old new name others ps (λ m. absent (there m)) all.1,
)

-- what is found under a name that stands there is as all are
pub found_so : {X : Type 0} (P : Name → X → Type 0) (es : List (Name × X)) (c : Name) → Among c (keys_of es) → AllByRecursion (λ e. P e.0 e.1) es → (x : X) × (at_name es c ≡ Some x) × P c x
found_so P [] c m all = absurd (among_none c m)
found_so {X} P (e ∷ es) c m all = by (same_name c e.0) refl (λ later. found_so P es c later all.1)
  where
    by : (t : Bool) → same_name c e.0 ≡ t → (Among c (keys_of es) → (x : X) × (at_name es c ≡ Some x) × P c x) → (x : X) × (cond t (Some e.1) (at_name es c) ≡ Some x) × P c x
    by true is rest = (e.1, refl, subst (λ n. P n e.1) (sym ((bytes_decides c e.0).0 is)) all.0)
    by false is rest = rest (elim (among_cases c e.0 (keys_of es) m) [ inl same ↦ absurd (false≢true (sym is ∙ (bytes_decides c e.0).1 same)) | inr later ↦ later ])

-- a patch that leads to the rows of the basis
abbrev pub MakesPatch : List (Name × UnitStore) → List (Name × UnitStore) → List FlowUnit → Option (Prepared Flow FlowUnit) → Basis → Type 0
MakesPatch stores new units patch b =
    (rows : FlowUnit → List Flow) (store : UnitStore) → at_name stores b.chassis ≡ Some store → HaveRows rows (rows_held store) → ChangeOnly units rows (around_rows b) → IsPatchAt rows (around_rows b) (at_name new b.chassis) patch

pub patch_made : (before after : GroundView) (name : Name) (stores new : List (Name × UnitStore)) (units touched : List FlowUnit) (b : Basis) (patch : Option (Prepared Flow FlowUnit)) → b ≡ basis_in after name → units ≡ touched
    → MakesPatch stores new units patch b → HasStore before stores name → ChangeOnly touched (rows_on before name) (rows_on after name) → IsPatchAt (rows_on before name) (rows_on after name) (at_name new name) patch
patch_made before after name stores new units touched b patch basis same made has only =
    let there' : MakesPatch stores new touched patch (basis_in after name) = subst (λ us. MakesPatch stores new us patch (basis_in after name)) same (subst (λ (x : Basis). MakesPatch stores new units patch x) basis made) in
    there' (rows_on before name) has.store has.is has.rows only

-- one more patch, of the next chassis
pub lead_more : (before after : GroundView) (old new : List (Name × UnitStore)) (name : Name) → ((c : Name) → same_name name c ≡ false → at_name new c ≡ at_name old c)
    → (patches : List (Name × Prepared Flow FlowUnit)) (patch : Prepared Flow FlowUnit) → ¬ Among name (keys_of patches) → AllLead before after old patches → IsPatchAt (rows_on before name) (rows_on after name) (at_name new name) (Some patch)
    → AllLead before after new (patches ++ (name, patch) ∷ [])
lead_more before after old new name others patches patch absent all one =
    all_append (λ (p : Name × Prepared Flow FlowUnit). IsPatchAt (rows_on before p.0) (rows_on after p.0) (at_name new p.0) (Some p.1)) patches ((name, patch) ∷ []) (all_lead before after old new name others patches absent all) (one, tt)

pub names_more : (patches : List (Name × Prepared Flow FlowUnit)) (patch : Prepared Flow FlowUnit) (names : List Name) (i : ℕ) (name : Name) → keys_of patches ≡ take i names → i < length names → name ≡ get_or names i name
    → keys_of (patches ++ (name, patch) ∷ []) ≡ take (i + 1) names
names_more patches patch names i name so_far below is =
    map-append (λ (p : Name × Prepared Flow FlowUnit). p.0) patches ((name, patch) ∷ []) ∙ ap (λ l. l ++ name ∷ []) so_far ∙ sym (ap (λ n. take n names) (add-one i) ∙ take_more names i name below is)

-- where a store is there, its patch is too
pub no_patch : (b a : FlowUnit → List Flow) (o : Option UnitStore) → IsPatchAt b a o None → ⊥
no_patch b a None h = h
no_patch b a (Some store) h = h

-- a name that stands later isn't among those before, and is one of all
pub not_before : (before after : List Name) (name : Name) → EachOnce (before ++ name ∷ after) → ¬ Among name before
not_before [] after name once m = among_none name m
not_before (n ∷ before) after name once m = elim (among_cases name n before m) [
  | inl same ↦ once.0 (subst (λ x. Among x (before ++ name ∷ after)) same (split_among name before after))
  | inr later ↦ not_before before after name once.1 later
]

pub next_apart : (names : List Name) (i : ℕ) (name : Name) → EachOnce names → i < length names → name ≡ get_or names i name → ¬ Among name (take i names)
next_apart names i name once below is = not_before (take i names) (drop (suc i) names) name (subst EachOnce (split_at names i name below is) once)

pub next_among : (names : List Name) (i : ℕ) (name : Name) → i < length names → name ≡ get_or names i name → Among name names
next_among names i name below is = subst (λ l. Among name l) (sym (split_at names i name below is)) (split_among name (take i names) (drop (suc i) names))

-- so each chassis has its patch
pub are_patches : (before after : GroundView) (stores : List (Name × UnitStore)) (patches : List (Name × Prepared Flow FlowUnit)) → keys_of patches ≡ before.config.chassis → EachOnce before.config.chassis → HaveStores before stores → AllLead before after stores patches
    → ArePatches before after stores patches
are_patches before after stores patches chassis once have all = record {
  chassis = chassis;
  once = subst EachOnce (sym chassis) once;
  each = λ c m.
      let has = have c m in
      let found = found_so (λ n p. IsPatchAt (rows_on before n) (rows_on after n) (at_name stores n) (Some p)) patches c (subst (λ l. Among c l) (sym chassis) m) all in
      record {
        store = has.store;
        is = has.is;
        stands = subst (λ o. IsReadyOrDone before after c o has.store) (sym found.1) (subst (λ o. IsPatchAt (rows_on before c) (rows_on after c) o (Some found.0)) has.is found.2);
      };
}

-- ---- patches that are put into force

-- what stands once under a name is found there
found_once : {X : Type 0} (es : List (Name × X)) (e : Name × X) → EachOnce (keys_of es) → Among e es → at_name es e.0 ≡ Some e.1
found_once [] e once m = absurd (among_none e m)
found_once {X} (d ∷ es) e once m = by (same_name e.0 d.0) refl (λ later. found_once es e once.1 later)
  where
    by : (t : Bool) → same_name e.0 d.0 ≡ t → (Among e es → at_name es e.0 ≡ Some e.1) → cond t (Some d.1) (at_name es e.0) ≡ Some e.1
    by true is rest = elim (among_cases e d es m) [
      | inl same ↦ ap (λ (x : Name × X). Some x.1) (sym same)
      | inr later ↦ absurd (once.0 (subst (λ n. Among n (keys_of es)) ((bytes_decides e.0 d.0).0 is) (among_map (λ (x : Name × X). x.0) e es later)))
    ]
    by false is rest = elim (among_cases e d es m) [ inl same ↦ absurd (false≢true (sym is ∙ (bytes_decides e.0 d.0).1 (ap (λ (x : Name × X). x.0) same))) | inr later ↦ rest later ]

-- all patches can be put into force
pub all_ready : (before after : GroundView) (stores : List (Name × UnitStore)) (patches : List (Name × Prepared Flow FlowUnit)) → ArePatches before after stores patches → AllByRecursion (λ p. IsReadyAt p.1 (at_name stores p.0)) patches
all_ready before after stores patches are = all_among (λ (p : Name × Prepared Flow FlowUnit). IsReadyAt p.1 (at_name stores p.0)) patches one
  where
    one : (p : Name × Prepared Flow FlowUnit) → Among p patches → IsReadyAt p.1 (at_name stores p.0)
    one p m =
        let way = are.each p.0 (subst (λ l. Among p.0 l) are.chassis (among_map (λ (x : Name × Prepared Flow FlowUnit). x.0) p patches m)) in
        let patch : IsReadyOrDone before after p.0 (Some p.1) way.store = subst (λ o. IsReadyOrDone before after p.0 o way.store) (found_once patches p are.once m) way.stands in
        subst (λ o. IsReadyAt p.1 o) (sym way.is) patch.ready

-- the patch of one chassis is in force: all are on the way by the others
pub one_applied : (before after : GroundView) (name : Name) (patch : Prepared Flow FlowUnit) (rest : List (Name × Prepared Flow FlowUnit)) (old new : List (Name × UnitStore)) → ¬ Among name (keys_of rest)
    → ((b a : FlowUnit → List Flow) → IsPatchAt b a (at_name old name) (Some patch) → HasRowsAt a (at_name new name)) → ((c : Name) → same_name name c ≡ false → at_name new c ≡ at_name old c)
    → (c : Name) → IsOnTheWay before after ((name, patch) ∷ rest) old c → IsOnTheWay before after rest new c
one_applied before after name patch rest old new absent applied others c way = by (same_name c name) refl way.stands
  where
    is_done : ¬ Among c (keys_of rest) → (o : Option UnitStore) → at_name new c ≡ o → HasRowsAt (rows_on after c) o → IsOnTheWay before after rest new c
    is_done gone None is rows = absurd rows
    is_done gone (Some store) is rows = record { store = store; is = is; stands = subst (λ o. IsReadyOrDone before after c o store) (sym (none_named rest c gone)) rows }

    by : (t : Bool) → same_name c name ≡ t → IsReadyOrDone before after c (cond t (Some patch) (at_name rest c)) way.store → IsOnTheWay before after rest new c
    by true is stands =
        let same : c ≡ name = (bytes_decides c name).0 is in
        let there' : at_name old name ≡ Some way.store = subst (λ n. at_name old n ≡ Some way.store) same way.is in
        let rows : HasRowsAt (rows_on after c) (at_name new name) = applied (rows_on before c) (rows_on after c) (subst (λ o. IsPatchAt (rows_on before c) (rows_on after c) o (Some patch)) (sym there') stands) in
        is_done (subst (λ n. ¬ Among n (keys_of rest)) (sym same) absent) (at_name new c) refl (subst (λ n. HasRowsAt (rows_on after c) (at_name new n)) (sym same) rows)
    by false is stands = record { store = way.store; is = others c (same_back c name is) ∙ way.is; stands = stands }

-- once all are in force, each chassis is there
pub all_applied : (before after : GroundView) (stores : List (Name × UnitStore)) (c : Name) → IsOnTheWay before after [] stores c → HasStore after stores c
all_applied before after stores c way = record { store = way.store; is = way.is; rows = way.stands }

-- ---- flows of a new chassis

-- the rows of all units, from none
module _ (b : Basis) (units : List FlowUnit) (everywhere : List (FlowUnit × List Flow)) (are : units ≡ all_units b.net) (rows : everywhere ≡ map (λ u. (u, around_everywhere b u)) units) where
  named : keys_of everywhere ≡ all_units b.net
  named = ap keys_of rows ∙ units_of_rows (around_everywhere b) units ∙ are

  pub each_unit_once : IsKeyed b.net b.keys → EachOnce (keys_of everywhere)
  each_unit_once keyed = subst EachOnce (sym named) (keyed_units_once b.net b.keys keyed)

  pub each_has_rows : AllByRecursion (λ e. e.1 ≡ around_everywhere b e.0) everywhere
  each_has_rows = subst (λ l. AllByRecursion (λ (e : FlowUnit × List Flow). e.1 ≡ around_everywhere b e.0) l) (sym rows) (all_have (around_everywhere b) (around_everywhere b) (λ u j. around_everywhere b u) units)

  pub units_change : ChangeOnly (keys_of everywhere) no_rows (around_rows b)
  units_change = subst (λ us. ChangeOnly us no_rows (around_rows b)) (sym named) (around_units b)

-- with the lowered rows, what comes around the pipelines are all flows of the chassis
pub flows_joined : (b : Basis) → IsKeyed b.net b.keys → (listed : List Flow) → ListsEach (IsLoweredIn (record { net = b.net; keys = b.keys })) listed → (planned delta : Delta Flow) → IsRowChange no_rows (around_rows b) planned → delta ≡ planned
    → (all : List Flow) → all ≡ listed ++ delta.added → AreExactly (IsFlowBy b) all
flows_joined b keys listed lists planned delta change same all are =
    subst (AreExactly (IsFlowBy b)) (sym (are ∙ ap (λ (d : Delta Flow). listed ++ d.added) same)) (flows_of_both b keys listed lists planned change)

-- so are those of what holds them
pub flows_of_rows : (b : Basis) (all : List Flow) (held : TupleSpace) → AreExactly (IsFlowBy b) all → HaveSame all (flows_in held.bunches) → AreExactly (IsFlowBy b) (flows_in held.bunches)
flows_of_rows b all held exact have = held_exactly (IsFlowBy b) all (flows_in held.bunches) (record { same = λ f. (λ m. (exact.same f).0 m, λ t. (exact.same f).1 t); once = exact.once }) have
