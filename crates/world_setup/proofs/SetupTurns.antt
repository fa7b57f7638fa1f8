-- What is prepared for the stores of all chassis, with the one that comes, and what stands once it is in force.
use Rattle.std.specs.Prelude.{◌≡◌, ◌++◌, ◌⊎◌, ℕ, Bool, true, false, cond, List, [], ◌∷◌, map, Option, Some, None, refl, option_map}
use Rattle.std.specs.List.{AllByRecursion}
use Rattle.std.specs.Map.{keys_of}
use Rattle.std.proofs.Common.{sym, ap, subst, ◌∙◌, inl, inr}
use Rattle.std.proofs.lemmas.Bool.{false≢true}
use Rattle.std.proofs.lemmas.Option.{none-some, same_Some}
use Rattle.ovn_base.specs.declared.delta.Delta.{Delta}
use Rattle.ovn_base.specs.declared.name.Name.{Name}
use Rattle.ovn_base.specs.lists.Among.{Among, here}
use Rattle.ovn_base.specs.lists.Once.{EachOnce}
use Rattle.ovn_base.specs.names.ByName.{at}
use Rattle.ovn_base.specs.names.SameName.{same_name, bytes_decides}
use Rattle.ovn_base.proofs.AmongLaws.{among_cases, among_none}
use Rattle.chassis_sim.specs.State.{at_name}
use Rattle.chassis_sim.specs.declared.change.SimChange.{SimChange}
use Rattle.chassis_sim.proofs.Lookups.{seen_found}
use Rattle.flow_refs.specs.Store.{Prepared, Store}
use Rattle.logical_flows.specs.declared.unit.UnitId.{UnitId}
use Rattle.northd_core.specs.Lowering.{IsLoweredIn, LeavesLowered}
use Rattle.northd_core.specs.Plans.{IsChange}
use Rattle.world_setup.proofs.ApartTables.{change_of_both, nothing_changes}
use Rattle.flow_table.specs.declared.flow.Flow.{Flow}
use Rattle.nb_records.specs.declared.switch.Switch.{Switch}
use Rattle.nb_records.specs.declared.switch.SwitchPort.{SwitchPort}
use Rattle.physical_flows.specs.ChassisFlows.{AreExactly}
use Rattle.physical_flows.specs.Numbers.{datapath_number, port_number}
use Rattle.physical_flows.specs.Stages.{Basis, PatchPort, zone_of, switch_patch, router_patch, beyond}
use Rattle.physical_flows.specs.UnitFlows.{UnitStore, HaveRows, rows_held}
use Rattle.physical_flows.specs.Around.{around_rows, port_around, router_port_around}
use Rattle.physical_flows.specs.Switched.{IsKeyed}
use Rattle.physical_flows.specs.Units.{keyed_here, port_here, switch_here, keyed_router_port, router_port_here, patch_rows, patch_rows_if}
use Rattle.physical_flows.specs.declared.unit.FlowUnit.{FlowUnit}
use Rattle.physical_flows.specs.declared.unit.FlowUnit.TheVariants as unit
use Rattle.tunnel_keys.specs.Keys.{settled}
use Rattle.tuple_space.specs.Bunches.{flows_in}
use Rattle.tuple_space.specs.declared.space.TupleSpace.{TupleSpace}
use Rattle.world_setup.specs.Ground.{GroundView, basis_in}
use Rattle.world_setup.specs.Setup.{ArePatches, ComesOver, HasCome, HasDelta, HasStore, IsFlowOn, IsLoweredOrDone, IsReadyOrDone, IsTurnOfTables, StandsForGround, every_delta, both_deltas, lowering_in, rows_on, units_of}
use Rattle.world_setup.proofs.FlowStores.{found_so}
use Rattle.sim_laws.proofs.turn_laws.KeepingTurns.{name_kept}
use Rattle.world_setup.proofs.NamesInOrder.{name_cases, name_put}
use Rattle.nb_records.specs.Routers.{Partner, switch_side, router_side}
use Rattle.nb_records.specs.Switches.{is_virtual}
use Rattle.nb_records.specs.declared.router.RouterPort.{RouterPort}
use Rattle.physical_flows.specs.TableList.{bound_rows, homed_rows, way_row}

-- ---- once retired keys are free

module _ (b : Basis) where
  abbrev later : Basis
  later = record b { keys = settled b.keys }

  switch_settled : (a : Name) (o : Option Switch) (n : Option ℕ) → switch_here later a o n ≡ switch_here b a o n
  switch_settled a None n = refl
  switch_settled a (Some s) None = refl
  switch_settled a (Some s) (Some dp) = refl

  beyond_settled : (o : Option Partner) → option_map (beyond later) o ≡ option_map (beyond b) o
  beyond_settled None = refl
  beyond_settled (Some (switch_side q)) = refl
  beyond_settled (Some (router_side r)) = refl

  patch_settled : (x : PatchPort) → patch_rows later x ≡ patch_rows b x
  patch_settled x = ap (λ o. homed_rows b.chassis x.home x.dp x.key ++ way_row x.dp x.key o ∷ []) (beyond_settled x.partner)

  patch_if_settled : (virtual : Bool) (x : PatchPort) → patch_rows_if virtual later x ≡ patch_rows_if virtual b x
  patch_if_settled true x = refl
  patch_if_settled false x = patch_settled x

  keyed_settled : (q : Name) (port : SwitchPort) (dp key : Option ℕ) → keyed_here later q port dp key ≡ keyed_here b q port dp key
  keyed_settled q port None key = refl
  keyed_settled q port (Some dp) None = refl
  keyed_settled q port (Some dp) (Some key) = ap (λ l. bound_rows b.chassis (at b.bindings q) (zone_of b q) dp q key ++ l) (patch_if_settled (is_virtual port) (switch_patch b port dp key))

  port_settled : (q : Name) (o : Option SwitchPort) → port_around later q o ++ port_here later q o ≡ port_around b q o ++ port_here b q o
  port_settled q None = refl
  port_settled q (Some port) = ap (λ l. port_around b q (Some port) ++ l) (keyed_settled q port (datapath_number b.keys port.switch) (port_number b.keys q))

  keyed_in_router : (port : RouterPort) (dp key : Option ℕ) → keyed_router_port later port dp key ≡ keyed_router_port b port dp key
  keyed_in_router port None key = refl
  keyed_in_router port (Some dp) None = refl
  keyed_in_router port (Some dp) (Some key) = patch_settled (router_patch b port dp key)

  router_port_settled : (q : Name) (o : Option RouterPort) → router_port_around later q o ++ router_port_here later q o ≡ router_port_around b q o ++ router_port_here b q o
  router_port_settled q None = refl
  router_port_settled q (Some port) = ap (λ l. router_port_around b q (Some port) ++ l) (keyed_in_router port (datapath_number b.keys port.router) (port_number b.keys q))

  -- all rows stay
  rows_settled : (u : FlowUnit) → around_rows later u ≡ around_rows b u
  rows_settled unit.Common = refl
  rows_settled (unit.Switch a) = switch_settled a (at b.net.switches a) (datapath_number b.keys a)
  rows_settled (unit.Port q) = port_settled q (at b.net.switch_ports q)
  rows_settled (unit.RouterPort q) = router_port_settled q (at b.net.router_ports q)

pub settled_store : (g : GroundView) (stores : List (Name × UnitStore)) (c : Name) → HasStore g stores c → HasStore (record g { keys = settled g.keys }) stores c
settled_store g stores c has = record {
  store = has.store;
  is = has.is;
  rows = λ u f. (
    λ m. subst (λ l. Among f l) (sym (rows_settled (basis_in g c) u)) ((has.rows u f).0 m),
    λ m. (has.rows u f).1 (subst (λ l. Among f l) (rows_settled (basis_in g c) u) m),
  );
}

-- so it does where the lowered rows are left as they were
pub stands_left : (g : GroundView) (old new : Store Flow UnitId) (stores : List (Name × UnitStore)) → LeavesLowered old new → StandsForGround g old stores → StandsForGround g new stores
stands_left g old new stores left stands = record { lowered = left.stands (lowering_in g) stands.lowered; stores = stands.stores }

-- ---- who comes

-- nobody comes, or one chassis, whose flows both have
abbrev pub ComesWith : GroundView → Option Name → Option (Name × UnitStore) → List (Name × TupleSpace) → Type 0
ComesWith after None come added = (come ≡ None) × (added ≡ [])
ComesWith after (Some c) come added =
    (flows : UnitStore) × (held : TupleSpace) × (come ≡ Some (c, flows)) × (added ≡ (c, held) ∷ []) × HaveRows (rows_on after c) (rows_held flows) × AreExactly (IsFlowOn after c) (flows_in held.bunches)

module _ (before after : GroundView) (come : Option (Name × UnitStore)) (added : List (Name × TupleSpace)) where
  pub was_or_comes : (who : Option Name) → ComesOver before.config.chassis who after.config.chassis → ComesWith after who come added → (c : Name) → Among c after.config.chassis → Among c before.config.chassis ⊎ HasCome after come c
  was_or_comes None over comes c m = inl (subst (λ l. Among c l) over m)
  was_or_comes (Some d) over comes c m = elim (name_cases before.config.chassis d c (subst (λ l. Among c l) over.1 m)) [
    | inl same ↦ inr (comes.0, comes.2 ∙ ap (λ n. Some (n, comes.0)) (sym same), subst (λ n. HaveRows (rows_on after n) (rows_held comes.0)) (sym same) comes.4)
    | inr old ↦ inl old
  ]

  pub new_rows : (who : Option Name) → ComesWith after who come added → (c : Name) (store : UnitStore) → come ≡ Some (c, store) → HaveRows (rows_on after c) (rows_held store)
  new_rows None comes c store is = absurd (none-some (c, store) (sym comes.0 ∙ is))
  new_rows (Some d) comes c store is =
      let same : (d, comes.0) ≡ (c, store) = same_Some (d, comes.0) (c, store) (sym comes.2 ∙ is) in
      subst (λ (e : Name × UnitStore). HaveRows (rows_on after e.0) (rows_held e.1)) same comes.4

  pub was_or_added : (who : Option Name) → ComesOver before.config.chassis who after.config.chassis → ComesWith after who come added → (c : Name) → Among c after.config.chassis → Among c before.config.chassis ⊎ Among c (keys_of added)
  was_or_added None over comes c m = inl (subst (λ l. Among c l) over m)
  was_or_added (Some d) over comes c m = elim (name_cases before.config.chassis d c (subst (λ l. Among c l) over.1 m)) [
    | inl same ↦ inr (subst (λ (l : List (Name × TupleSpace)). Among c (keys_of l)) (sym comes.3) (subst (λ n. Among n (d ∷ [])) (sym same) here))
    | inr old ↦ inl old
  ]

  pub stay : (who : Option Name) → ComesOver before.config.chassis who after.config.chassis → (c : Name) → Among c before.config.chassis → Among c after.config.chassis
  stay None over c m = subst (λ l. Among c l) (sym over) m
  stay (Some d) over c m = subst (λ l. Among c l) (sym over.1) (name_kept before.config.chassis d c m)

  pub all_added : (who : Option Name) → ComesOver before.config.chassis who after.config.chassis → ComesWith after who come added → (e : Name × TupleSpace) → Among e added
      → Among e.0 after.config.chassis × (¬ Among e.0 before.config.chassis) × AreExactly (IsFlowOn after e.0) (flows_in e.1.bunches)
  all_added None over comes e m = absurd (among_none e (subst (λ l. Among e l) comes.1 m))
  all_added (Some d) over comes e m = elim (among_cases e (d, comes.1) [] (subst (λ l. Among e l) comes.3 m)) [
    | inl same ↦ subst (λ (x : Name × TupleSpace). Among x.0 after.config.chassis × (¬ Among x.0 before.config.chassis) × AreExactly (IsFlowOn after x.0) (flows_in x.1.bunches)) (sym same)
        (subst (λ l. Among d l) (sym over.1) (name_put before.config.chassis d), over.0, comes.5)
    | inr none ↦ absurd (among_none e none)
  ]

-- ---- what the simulated chassis are told

-- to every chassis the same, and then what its own patch says
abbrev delta_in : Delta Flow → Prepared Flow FlowUnit → Delta Flow
delta_in every p = both_deltas every p.delta

abbrev pub deltas_told : Delta Flow → List (Name × Prepared Flow FlowUnit) → List (Name × Delta Flow)
deltas_told every patches = map (λ p. (p.0, both_deltas every p.1.delta)) patches

pub names_same : (every : Delta Flow) (patches : List (Name × Prepared Flow FlowUnit)) → keys_of (deltas_told every patches) ≡ keys_of patches
names_same every [] = refl
names_same every (p ∷ ps) = ap (λ l. p.0 ∷ l) (names_same every ps)

anything : (es : List (Name × Prepared Flow FlowUnit)) → AllByRecursion (λ e. Unit {0}) es
anything [] = tt
anything (e ∷ es) = (tt, anything es)

-- the tables of a ground and of the next, and what every chassis is told of the change of the lowered rows
pub record AreTablesTurned (before after : GroundView) (every : Delta Flow) : Type 0 where
  pub had : IsKeyed before.config.net before.keys
  pub have : IsKeyed after.config.net after.keys
  pub lowered : IsChange (IsLoweredIn (lowering_in before)) (IsLoweredIn (lowering_in after)) every

-- what is planned is that change
pub planned_change : (before after : GroundView) (lowered : Store Flow UnitId) (plan : Option (Prepared Flow UnitId)) → IsLoweredOrDone before after lowered plan → IsChange (IsLoweredIn (lowering_in before)) (IsLoweredIn (lowering_in after)) (every_delta plan)
planned_change before after lowered (Some plan) h = h.change
planned_change before after lowered None same = subst (λ l. IsChange (IsLoweredIn (lowering_in before)) (IsLoweredIn l) (record { added = []; removed = [] })) (sym same) (nothing_changes (IsLoweredIn (lowering_in before)))

pub deltas_lead : (before after : GroundView) (every : Delta Flow) → AreTablesTurned before after every → (stores : List (Name × UnitStore)) (patches : List (Name × Prepared Flow FlowUnit)) → ArePatches before after stores patches → (c : Name) → Among c before.config.chassis
    → HasDelta before after (deltas_told every patches) c
deltas_lead before after every turned stores patches are c m =
    let way = are.each c m in
    let found = found_so (λ n p. Unit {0}) patches c (subst (λ l. Among c l) (sym are.chassis) m) (anything patches) in
    let patch : IsReadyOrDone before after c (Some found.0) way.store = subst (λ o. IsReadyOrDone before after c o way.store) found.1 way.stands in
    record {
      delta = both_deltas every found.0.delta;
      is = seen_found (delta_in every) patches c found.0 found.1;
      change = change_of_both (basis_in before c) (basis_in after c) turned.had turned.have every found.0.delta turned.lowered patch.change;
    }

pub turn_of_tables : (before after : GroundView) (every : Delta Flow) → AreTablesTurned before after every → (stores : List (Name × UnitStore)) (patches : List (Name × Prepared Flow FlowUnit)) (who : Option Name) (come : Option (Name × UnitStore)) (change : SimChange TupleSpace)
    → ArePatches before after stores patches → ComesOver before.config.chassis who after.config.chassis → ComesWith after who come change.added → change.removed ≡ [] → change.tables ≡ deltas_told every patches
    → IsTurnOfTables before after change
turn_of_tables before after every turned stores patches who come change are over comes removed tables = record {
  removed = removed;
  tables = ap keys_of tables ∙ names_same every patches ∙ are.chassis;
  deltas = λ c m. subst (λ t. HasDelta before after t c) (sym tables) (deltas_lead before after every turned stores patches are c m);
  chassis = was_or_added before after come change.added who over comes;
  stay = stay before after come change.added who over;
  added = all_added before after come change.added who over comes;
}

-- ---- what stands once all is in force

module _ (before after : GroundView) (come : Option (Name × UnitStore)) (stores : List (Name × UnitStore)) (olds : (c : Name) → Among c before.config.chassis → HasStore after stores c)
    (there : (c : Name) → Among c after.config.chassis → Among c before.config.chassis ⊎ HasCome after come c) where
  -- where nobody comes
  pub nobody_came : come ≡ None → (c : Name) → Among c after.config.chassis → HasStore after stores c
  nobody_came none c m = elim (there c m) [ inl old ↦ olds c old | inr new ↦ absurd (none-some (c, new.0) (sym none ∙ new.1)) ]

  -- the store stands under the name, and all others as before
  abbrev pub IsPut : Name → UnitStore → List (Name × UnitStore) → Type 0
  IsPut name flows all = (c : Name) → at_name all c ≡ cond (same_name name c) (Some flows) (at_name stores c)

  pub put_same : (n name : Name) (f flows : UnitStore) (all : List (Name × UnitStore)) → IsPut n f all → come ≡ Some (n, f) → come ≡ Some (name, flows) → IsPut name flows all
  put_same n name f flows all put own is = subst (λ (e : Name × UnitStore). IsPut e.0 e.1 all) (same_Some (n, f) (name, flows) (sym own ∙ is)) put

  -- where one comes
  pub one_came : (name : Name) (flows : UnitStore) (all : List (Name × UnitStore)) → come ≡ Some (name, flows) → HaveRows (rows_on after name) (rows_held flows) → IsPut name flows all
      → (c : Name) → Among c after.config.chassis → HasStore after all c
  one_came name flows all is rows put c m = by (same_name name c) refl
    where
      by : (t : Bool) → same_name name c ≡ t → HasStore after all c
      by true same = record { store = flows; is = put c ∙ ap (λ t. cond t (Some flows) (at_name stores c)) same; rows = subst (λ n. HaveRows (rows_on after n) (rows_held flows)) ((bytes_decides name c).0 same) rows }
      by false other =
          let found : at_name all c ≡ at_name stores c = put c ∙ ap (λ t. cond t (Some flows) (at_name stores c)) other in
          elim (there c m) [
            | inl old ↦ let has = olds c old in record { store = has.store; is = found ∙ has.is; rows = has.rows }
            | inr new ↦
                let same : (name, flows) ≡ (c, new.0) = same_Some (name, flows) (c, new.0) (sym is ∙ new.1) in
                absurd (false≢true (sym other ∙ (bytes_decides name c).1 (ap (λ (e : Name × UnitStore). e.0) same)))
          ]

-- a port and its switch are two units
pub units_once : (port : Option SwitchPort) (q : Name) → EachOnce (units_of port q)
units_once None q = (λ m. among_none (unit.Port q) m, tt)
units_once (Some port) q = (λ m. elim (among_cases (unit.Switch port.switch) (unit.Port q) [] m) [ inl same ↦ cc | inr later ↦ among_none (unit.Switch port.switch) later ], (λ m. among_none (unit.Port q) m, tt))
