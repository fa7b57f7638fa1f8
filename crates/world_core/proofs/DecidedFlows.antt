-- Whether a flow is one of a chassis can be told: these are the flows of a list.
use Rattle.std.specs.Prelude.{◌≡◌, ◌↔◌, ◌⊎◌, true, List, flat_map, Option, Some, None, refl}
use Rattle.std.proofs.Common.{sym, ◌∙◌, subst, inl, inr}
use Rattle.std.proofs.lemmas.Bool.{cases_Bool, false≢true}
use Rattle.std.specs.List.{list_any}
use Rattle.flow_table.specs.declared.flow.Flow.{Flow}
use Rattle.flow_lowering.specs.LoweredFlows.{lowered_flows}
use Rattle.address_sets.specs.Members.{sets_of}
use Rattle.logical_flows.specs.declared.flow.LFlow.{LFlow}
use Rattle.logical_flows.specs.declared.unit.UnitId.{UnitId}
use Rattle.northd_core.specs.Lowering.{IsLoweredIn, Lowering, flows_of_rows, lowered_of}
use Rattle.ovn_base.proofs.AmongLaws.{among_any, among_flat_map, among_none, any_among, flat_map_among}
use Rattle.ovn_base.specs.declared.name.Name.{Name}
use Rattle.ovn_base.specs.lists.Among.{Among}
use Rattle.physical_flows.proofs.AroundSets.{around_set}
use Rattle.physical_flows.proofs.UnitLaws.{around_there}
use Rattle.physical_flows.specs.Around.{AroundFlow, around_rows}
use Rattle.physical_flows.specs.Switched.{IsKeyed}
use Rattle.physical_flows.specs.Stages.{Basis}
use Rattle.physical_flows.specs.UnitFlows.{same_flow}
use Rattle.physical_flows.specs.Units.{HasRow, all_units}
use Rattle.stage_rows.specs.Rows.{on_some}
use Rattle.stage_rows.specs.Units.{datapath_of, rows_of, units_of}
use Rattle.world_setup.specs.Setup.{IsFlowBy}

-- equal flows are the same
abbrev pub IsExactFlow : Type 0
IsExactFlow = (f g : Flow) → (same_flow f g ≡ true) ↔ (f ≡ g)

-- a flow is one of a list or not
pub among_or_not : IsExactFlow → (f : Flow) (flows : List Flow) → Among f flows ⊎ (¬ Among f flows)
among_or_not exact f flows = elim (cases_Bool (list_any (λ g. same_flow g f) flows)) [
  | inl some ↦ let g = any_among (λ g. same_flow g f) flows some in inl (subst (λ h. Among h flows) ((exact g.0 f).0 g.2) g.1)
  | inr none ↦ inr (λ among. false≢true (sym none ∙ among_any (λ g. same_flow g f) f flows among ((exact f f).1 refl)))
]

-- ---- lowered rows

module _ (l : Lowering) where
  -- those of all units
  lowered_list : List Flow
  lowered_list = flat_map (lowered_of l) (units_of l.net)

  on_its_datapath : (f : Flow) (d : Name) (row : LFlow) (rows : List LFlow) → Among row rows → Among f (lowered_flows l.keys (sets_of l.net) row d) → Among f (flows_of_rows l.keys (sets_of l.net) rows d)
  on_its_datapath f d row rows m n = among_flat_map (λ r. lowered_flows l.keys (sets_of l.net) r d) row f rows m n

  lowered_listed : (f : Flow) → IsLoweredIn l f → Among f lowered_list
  unfolding lowered_list
  lowered_listed f is =
      let own : Among f (on_some (Some is.datapath) (flows_of_rows l.keys (sets_of l.net) (rows_of l.net is.pair.origin))) = on_its_datapath f is.datapath is.row (rows_of l.net is.pair.origin) is.pair.among is.among in
      among_flat_map (lowered_of l) is.pair.origin f (units_of l.net) is.pair.there (subst (λ o. Among f (on_some o (flows_of_rows l.keys (sets_of l.net) (rows_of l.net is.pair.origin)))) (sym is.pair.on) own)

  listed_lowered : (f : Flow) → Among f lowered_list → IsLoweredIn l f
  unfolding lowered_list
  listed_lowered f among =
      let u = flat_map_among (lowered_of l) f (units_of l.net) among in
      by u.0 u.1 (datapath_of l.net u.0) refl u.2
    where
      by : (u : UnitId) → Among u (units_of l.net) → (o : Option Name) → datapath_of l.net u ≡ o → Among f (on_some o (flows_of_rows l.keys (sets_of l.net) (rows_of l.net u))) → IsLoweredIn l f
      by u m None is n = absurd (among_none f n)
      by u m (Some d) is n =
          let r = flat_map_among (λ r. lowered_flows l.keys (sets_of l.net) r d) f (rows_of l.net u) n in
          record { row = r.0; datapath = d; pair = record { origin = u; there = m; among = r.1; on = is }; among = r.2 }

  decided_lowered : IsExactFlow → (f : Flow) → IsLoweredIn l f ⊎ (¬ IsLoweredIn l f)
  decided_lowered exact f = elim (among_or_not exact f lowered_list) [ inl m ↦ inl (listed_lowered f m) | inr out ↦ inr (λ is. out (lowered_listed f is)) ]

-- ---- rows around the pipelines

module _ (b : Basis) (keys : IsKeyed b.net b.keys) where
  around_list : List Flow
  around_list = flat_map (around_rows b) (all_units b.net)

  around_listed : (f : Flow) → AroundFlow b f → Among f around_list
  unfolding around_list
  around_listed f is =
      let row : HasRow (around_rows b) f = (around_set b keys f).1 is in
      among_flat_map (around_rows b) row.unit f (all_units b.net) (around_there b row.unit f row.among) row.among

  listed_around : (f : Flow) → Among f around_list → AroundFlow b f
  unfolding around_list
  listed_around f among =
      let u = flat_map_among (around_rows b) f (all_units b.net) among in
      (around_set b keys f).0 (record { unit = u.0; among = u.2 })

  decided_around : IsExactFlow → (f : Flow) → AroundFlow b f ⊎ (¬ AroundFlow b f)
  decided_around exact f = elim (among_or_not exact f around_list) [ inl m ↦ inl (listed_around f m) | inr out ↦ inr (λ is. out (around_listed f is)) ]

  -- ---- both

  pub decided_flow : IsExactFlow → (f : Flow) → IsFlowBy b f ⊎ (¬ IsFlowBy b f)
  decided_flow exact f = elim (decided_lowered (record { net = b.net; keys = b.keys }) exact f) [
    | inl is ↦ inl (inl is)
    | inr out ↦ elim (decided_around exact f) [
      | inl is ↦ inl (inr is)
      | inr not ↦ inr (λ both. elim both [ inl l ↦ out l | inr a ↦ not a ])
    ]
  ]
