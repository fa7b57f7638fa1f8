-- What an edit leaves lowered as it was: every row but those that its operations touch.
use Rattle.std.specs.Prelude.{◌≡◌, ◌↔◌, ◌<◌, ◌+◌, ◌^◌, ℕ, List, filter_map, Option, Some, None, unwrap_or, refl}
use Rattle.std.proofs.Common.{ap, subst, sym, ◌∙◌}
use Rattle.std.proofs.lemmas.Option.{none-some}
use Rattle.conn_zones.specs.Zoning.{Zoned}
use Rattle.edit_reader.specs.Fitting.{IsEventInGrammar}
use Rattle.edit_reader.specs.declared.event.Event.TheVariants as event_of
use Rattle.logical_flows.specs.declared.unit.UnitId.{UnitId}
use Rattle.logical_flows.specs.declared.unit.UnitId.TheVariants as rows
use Rattle.nb_edits.specs.declared.plan.EditPlan.{EditPlan}
use Rattle.nb_records.specs.Network.{Network}
use Rattle.nb_records.specs.declared.change.Op.{Op}
use Rattle.nb_records.specs.declared.switch.SwitchPort.{SwitchPort}
use Rattle.net_model.specs.Owners.{owners_only_in}
use Rattle.net_model.specs.State.{State, event_count}
use Rattle.northd_core.specs.Lowering.{Lowering, StayLowered}
use Rattle.northd_core.specs.Touched.{IsSameButFor, TouchedLaw, touched_rows}
use Rattle.ovn_base.proofs.AmongLaws.{among_filter_map, filter_map_among}
use Rattle.ovn_base.specs.declared.name.Name.{Name}
use Rattle.ovn_base.specs.lists.Among.{Among}
use Rattle.ovn_base.specs.names.ByName.{at}
use Rattle.physical_flows.specs.RecordKeys.{HaveKeys}
use Rattle.physical_flows.specs.Touching.{IsSameBeside}
use Rattle.physical_flows.specs.declared.unit.FlowUnit.{FlowUnit}
use Rattle.physical_flows.specs.declared.unit.FlowUnit.TheVariants as unit
use Rattle.tunnel_keys.specs.Edits.{GivesKeysAfter}
use Rattle.tunnel_keys.specs.Keys.{Keys}
use Rattle.world_setup.specs.Editing.{next_net}
use Rattle.world_setup.specs.Ground.{GroundView, ground_of}
use Rattle.world_setup.specs.Setup.{lowering_in}
use Rattle.world_setup.specs.Touched.{row_unit, rules_touched, touched_by}
use Rattle.world_setup.specs.Turning.{IsPlannedEdit, MayTurn}
use Rattle.world_setup.specs.Consistent.{IsConsistent}
use Rattle.world_setup.proofs.EditedStates.{gives, have, same_beside, sound}
use Rattle.world_setup.proofs.BuiltTables.{can_compile}
use Rattle.world_setup.proofs.NewKeys.{given_beside}
use Rattle.world_setup.proofs.ReadiedChanges.{edit_leaves, planned_here}
use Rattle.world_setup.proofs.TouchedRules.{rule_kept, sets_kept}

-- ---- units of rows

-- a unit of flows whose rows are the port's is the port's unit
of_port : (u : FlowUnit) (q : Name) → row_unit u ≡ Some (rows.Port q) → u ≡ unit.Port q
of_port unit.Common q is = absurd (none-some (rows.Port q) is)
of_port (unit.Switch a) q is = cc
of_port (unit.Port p) q is = cc
of_port (unit.RouterPort p) q is = absurd (none-some (rows.Port q) is)

-- a port is among the units of rows only if it is among the units of flows
port_listed : (units : List FlowUnit) (q : Name) → Among (rows.Port q) (filter_map row_unit units) → Among (unit.Port q) units
port_listed units q m = let r = filter_map_among row_unit (rows.Port q) units m in subst (λ (u : FlowUnit). Among u units) (of_port r.0 q r.2) r.1

-- who is outside the units of rows is outside the units of flows
port_outside : (units : List FlowUnit) (q : Name) → ¬ Among (rows.Port q) (filter_map row_unit units) → ¬ Among (unit.Port q) units
port_outside units q out m = out (among_filter_map row_unit (unit.Port q) (rows.Port q) units m refl)

switch_outside : (units : List FlowUnit) (d : Name) → ¬ Among (rows.Switch d) (filter_map row_unit units) → ¬ Among (unit.Switch d) units
switch_outside units d out m = out (among_filter_map row_unit (unit.Switch d) (rows.Switch d) units m refl)

-- ---- a planned edit

module _ (m : State) (zones : Zoned) (old : IsConsistent m zones) (room : event_count m < 2 ^ 42) (ops : List Op) (grammar : IsEventInGrammar (event_of.Edit ops)) (plan : EditPlan) (keys : Keys)
    (planned : IsPlannedEdit (ground_of m zones) (event_count m + 1) ops plan keys) where
  abbrev net : Network
  net = m.config.net

  abbrev next : Network
  next = next_net m ops

  abbrev before : Lowering
  before = record { net = net; keys = m.keys }

  abbrev later : Lowering
  later = record { net = next; keys = keys }

  module _ (units : List FlowUnit) (are : (u : FlowUnit) → Among u units ↔ Among u (touched_by net next ops)) where
    -- beside the units all stays, each record has its key then, and who had a key keeps it
    same : IsSameBeside units net next m.keys keys
    same = same_beside m zones old room ops grammar plan keys planned units are

    have_then : HaveKeys next keys
    have_then = have m zones old room ops grammar plan keys planned

    given : GivesKeysAfter m.keys (owners_only_in next net) keys
    given = given_beside m.keys (owners_only_in next net) keys (gives m zones old room ops grammar plan keys planned)

    -- records and keys of what no operation names stay
    same_but_for : IsSameButFor before later (filter_map row_unit units) (rules_touched net ops)
    same_but_for = record {
      ports = λ q out. sym (same.ports q (port_outside units q out));
      port_keys = λ q port out is. let own = old.at_rest.keys.port_has q port is in own.1 ∙ sym (given.port_kept q own.0 own.1);
      switches = λ d out. sym (same.switches d (switch_outside units d out));
      switch_keys = λ d switch out is. ap (λ (o : Option ℕ). unwrap_or o 0) (sym (same.datapaths d switch (switch_outside units d out) is));
      beneath = λ q port out is. ap (λ (o : Option ℕ). unwrap_or o 0) (sym (same.beneath q port (port_outside units q out) is));
      on = λ q port listed is. among_filter_map row_unit (unit.Switch port.switch) (rows.Switch port.switch) units (same.on q port (port_listed units q listed) is) refl;
      had = old.at_rest.keys.port_of;
      have = have_then.port_of;
      rules = λ r out. sym (rule_kept net ops (event_count m + 1) old.at_rest.valid grammar.each planned.faultless r out);
      sets = λ r rule out is. sym (sets_kept net ops (event_count m + 1) old.at_rest.valid grammar.each planned.faultless r rule out is);
    }

    -- so the rows alone are lowered to other flows that its operations touch
    edit_stay_lowered : TouchedLaw → StayLowered before later (touched_rows net next (filter_map row_unit units) (rules_touched net ops))
    edit_stay_lowered law =
        law before later
        (can_compile net m.keys old.at_rest.valid old.at_rest.keys)
        (can_compile next keys (sound m zones old room ops grammar plan keys planned).valid have_then)
        (filter_map row_unit units) (rules_touched net ops) same_but_for

-- ---- in the terms in which the setup has it

-- the operations leave every row lowered as it was but those that they touch
abbrev StayUntouched : Lowering → Lowering → List Op → Type 0
StayUntouched before after ops =
    (units : List FlowUnit) → ((u : FlowUnit) → Among u units ↔ Among u (touched_by before.net after.net ops))
    → StayLowered before after (touched_rows before.net after.net (filter_map row_unit units) (rules_touched before.net ops))

module _ (g : GroundView) (n : ℕ) (ops : List Op) (m : State) (may : MayTurn g n (event_of.Edit ops) m) (plan : EditPlan) (keys : Keys) (planned : IsPlannedEdit g n ops plan keys) (law : TouchedLaw) where
  -- the records after it
  leaves : next_net m ops ≡ plan.after
  leaves = sym (planned.stands.after ∙ edit_leaves g n ops m may)

  abbrev after : Lowering
  after = record { net = plan.after; keys = keys }

  -- by the records that are in force and those that the edit leaves
  stay_here : StayUntouched (lowering_in g) after ops
  stay_here =
      subst (λ (x : GroundView). StayUntouched (lowering_in x) after ops) may.ground
      (subst (λ (x : Network). StayUntouched (lowering_in (ground_of m g.zones)) (record { net = x; keys = keys }) ops) leaves
      (λ units are. edit_stay_lowered m g.zones may.consistent may.few ops may.in_grammar plan keys (planned_here g n ops m may plan keys planned) units are law))

  -- with the lists that were made, of records that are those
  pub edit_stays : (had left : Network) → had ≡ g.config.net → left ≡ plan.after → (units : List FlowUnit) → ((u : FlowUnit) → Among u units ↔ Among u (touched_by had left ops))
      → (named : List UnitId) → named ≡ filter_map row_unit units → (rules : List Name) → rules ≡ rules_touched had ops → (listed : List UnitId) → ((u : UnitId) → Among u listed ↔ Among u (touched_rows had left named rules))
      → StayLowered (lowering_in g) after listed
  edit_stays had left is is_left units are named named_are rules rules_are listed listed_are u out =
      let are_here =
      subst (λ (x : Network). (u : FlowUnit) → Among u units ↔ Among u (touched_by g.config.net x ops)) is_left
      (subst (λ (x : Network). (u : FlowUnit) → Among u units ↔ Among u (touched_by x left ops)) is are) in
      let rules_here : rules ≡ rules_touched g.config.net ops = rules_are ∙ (λ i. rules_touched (is i) ops) in
      let same : touched_rows had left named rules ≡ touched_rows g.config.net plan.after (filter_map row_unit units) (rules_touched g.config.net ops) = λ i. touched_rows (is i) (is_left i) (named_are i) (rules_here i) in
      stay_here units are_here u (λ m. out ((listed_are u).1 (subst (λ (us : List UnitId). Among u us) (sym same) m)))
