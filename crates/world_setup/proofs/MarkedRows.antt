-- Rows where records are others in their marks alone: around the pipelines all stay, and of the flows that every chassis has those of all units but routers and balancers.
use Rattle.std.specs.Prelude.{◌≡◌, ◌↔◌, ℕ, List, [], refl}
use Rattle.std.proofs.Common.{subst, sym}
use Rattle.logical_flows.specs.declared.unit.UnitId.{UnitId}
use Rattle.logical_flows.specs.declared.unit.UnitId.TheVariants as rows
use Rattle.nb_edits.specs.declared.plan.EditPlan.{EditPlan}
use Rattle.nb_records.specs.Network.{Network}
use Rattle.nb_records.specs.declared.balancer.OfflineMark.{OfflineMark}
use Rattle.nb_records.specs.declared.router.RouterPort.{RouterPort}
use Rattle.nb_records.specs.declared.switch.PortKind.{PortKind}
use Rattle.nb_records.specs.declared.switch.PortKind.TheVariants as port_kind
use Rattle.nb_records.specs.declared.switch.SwitchPort.{SwitchPort}
use Rattle.nb_rules.specs.Valid.{IsValid}
use Rattle.net_model.specs.Config.{home_by_kind, home_of}
use Rattle.northd_core.specs.Lowering.{CanCompile, Lowering, StayLowered}
use Rattle.northd_core.specs.Touched.{IsSameButFor, TouchedLaw, touched_rows}
use Rattle.ovn_base.proofs.AmongLaws.{among_none}
use Rattle.ovn_base.specs.lists.Among.{Among}
use Rattle.physical_flows.proofs.UnitReads.{IsSameMember, only_these}
use Rattle.physical_flows.specs.Around.{around_rows}
use Rattle.physical_flows.specs.RecordKeys.{HaveKeys}
use Rattle.physical_flows.specs.Stages.{Basis, config_of, router_patch, switch_patch}
use Rattle.physical_flows.specs.Units.{ChangeOnly, patch_rows}
use Rattle.physical_flows.specs.Switched.{IsKeyed}
use Rattle.tunnel_keys.specs.Keys.{Keys}
use Rattle.world_setup.proofs.BuiltTables.{can_compile}
use Rattle.world_setup.specs.Ground.{GroundView, basis_in, ground_after, mark_change}
use Rattle.world_setup.specs.Setup.{AreTouched, lowering_in, rows_on}
use Rattle.world_setup.specs.Turning.{IsPlannedMark}

-- the records with these marks
abbrev pub with_marks : Network → List OfflineMark → Network
with_marks net marks = record net { offline = marks }

-- ---- around the pipelines

module _ (before : Basis) (marks : List OfflineMark) where
  abbrev pub marked_basis : Basis
  marked_basis = record before { net = with_marks before.net marks }

  home_stays : (q : SwitchPort) → home_of (config_of marked_basis) q ≡ home_of (config_of before) q
  home_stays q = by q.kind
    where
      by : (k : PortKind) → home_by_kind (config_of marked_basis) q k ≡ home_by_kind (config_of before) q k
      by port_kind.Virtual = refl
      by port_kind.Router = refl

  member_stays : (q : SwitchPort) → IsSameMember before marked_basis q
  member_stays q = record { number = refl; home = home_stays q; zone = refl }

  switch_leads : (q : SwitchPort) (dp key : ℕ) → patch_rows marked_basis (switch_patch marked_basis q dp key) ≡ patch_rows before (switch_patch before q dp key)
  switch_leads q dp key = refl

  router_leads : (q : RouterPort) (dp key : ℕ) → patch_rows marked_basis (router_patch marked_basis q dp key) ≡ patch_rows before (router_patch before q dp key)
  router_leads q dp key = refl

  pub around_stays : ChangeOnly [] (around_rows before) (around_rows marked_basis)
  around_stays =
      only_these before marked_basis []
      (λ a out. record { chassis = refl; entry = refl; number = λ r is. refl; in_group = λ group. refl; each = λ group q m. member_stays q; homes = λ group. refl })
      (λ q out. record { chassis = refl; entry = refl; beneath = λ r is. refl; number = λ r is. refl; home = refl; zone = refl; leads = λ r is leads dp key. switch_leads r dp key })
      (λ q out. record { entry = refl; beneath = λ r is. refl; number = λ r is. refl; leads = λ r is dp key. router_leads r dp key })

-- ---- keys, and the flows that every chassis has

module _ (net : Network) (keys : Keys) (had : HaveKeys net keys) (marks : List OfflineMark) where
  pub still_have : HaveKeys (with_marks net marks) keys
  still_have = record {
    hold = had.hold;
    datapath_has = had.datapath_has;
    router_has = had.router_has;
    datapath_of = had.datapath_of;
    port_has = had.port_has;
    router_port_has = had.router_port_has;
    port_of = had.port_of;
    datapath_range = had.datapath_range;
    port_range = had.port_range;
    no_retired_datapaths = had.no_retired_datapaths;
    no_retired_ports = had.no_retired_ports;
  }

  abbrev before : Lowering
  before = record { net = net; keys = keys }

  abbrev later : Lowering
  later = record { net = with_marks net marks; keys = keys }

  same_but_for : IsSameButFor before later [] []
  same_but_for = record {
    ports = λ q out. refl;
    port_keys = λ q port out is. refl;
    switches = λ d out. refl;
    switch_keys = λ d switch out is. refl;
    beneath = λ q port out is. refl;
    on = λ q port listed is. absurd (among_none (rows.Port q) listed);
    had = had.port_of;
    have = had.port_of;
    rules = λ r out. refl;
    sets = λ r rule out is. refl;
  }

  pub marks_stay_lowered : TouchedLaw → IsValid net → IsValid (with_marks net marks) → StayLowered before later (touched_rows net (with_marks net marks) [] [])
  marks_stay_lowered law valid valid_then = law before later (can_compile net keys valid had) (can_compile (with_marks net marks) keys valid_then still_have) [] [] same_but_for

-- ---- in the terms in which the setup has it

module _ (g : GroundView) (plan : EditPlan) (planned : IsPlannedMark g plan) where
  -- the ground then
  abbrev then' : GroundView
  then' = record { config = record g.config { net = with_marks g.config.net plan.after.offline }; keys = g.keys; zones = g.zones }

  ground_is : ground_after (mark_change plan) g ≡ then'
  ground_is = λ i. record { config = record g.config { net = planned.alone i; bindings = planned.homes i }; keys = g.keys; zones = g.zones }

  -- the rows can be lowered, before and after
  pub mark_compiled : CanCompile (lowering_in g) × CanCompile (record { net = plan.after; keys = g.keys })
  mark_compiled = (
    can_compile g.config.net g.keys planned.keyed.valid planned.keyed.keyed,
    can_compile plan.after g.keys planned.valid (subst (λ net. HaveKeys net g.keys) (sym planned.alone) (still_have g.config.net g.keys planned.keyed.keyed plan.after.offline)),
  )

  pub mark_keyed : IsKeyed plan.after g.keys
  mark_keyed = record { valid = planned.valid; keyed = subst (λ net. HaveKeys net g.keys) (sym planned.alone) (still_have g.config.net g.keys planned.keyed.keyed plan.after.offline) }

  -- no unit of flows is touched
  pub mark_touches_none : AreTouched g (ground_after (mark_change plan) g) []
  mark_touches_none = record { once = tt; only = λ d among. subst (λ x. ChangeOnly [] (rows_on g d) (rows_on x d)) (sym ground_is) (around_stays (basis_in g d) plan.after.offline) }

  -- with the list of rows that was made, of records that are those
  pub mark_stays : TouchedLaw → (had left : Network) → had ≡ g.config.net → left ≡ plan.after → (listed : List UnitId) → ((u : UnitId) → Among u listed ↔ Among u (touched_rows had left [] []))
      → StayLowered (lowering_in g) (record { net = plan.after; keys = g.keys }) listed
  mark_stays law had left is is_left listed are u out =
      let same : touched_rows had left [] [] ≡ touched_rows g.config.net plan.after [] [] = λ i. touched_rows (is i) (is_left i) [] [] in
      let stays : StayLowered (lowering_in g) (record { net = plan.after; keys = g.keys }) (touched_rows g.config.net plan.after [] []) =
      subst (λ net. StayLowered (lowering_in g) (record { net = net; keys = g.keys }) (touched_rows g.config.net net [] [])) (sym planned.alone)
      (marks_stay_lowered g.config.net g.keys planned.keyed.keyed plan.after.offline law planned.keyed.valid (subst IsValid planned.alone planned.valid)) in
      stays u (λ m. out ((are u).1 (subst (λ us. Among u us) (sym same) m)))
