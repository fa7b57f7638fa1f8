-- The laws of the stages of a router, that in each some row holds of every packet, and what they say of tables.
use Rattle.std.specs.Prelude.{◌∷◌, [], Bool, true, false, List}
use Rattle.std.proofs.Common.{refl, sym, ap, ◌∙◌}
use Rattle.ovn_base.specs.lists.Among.{Among, here, there}
use Rattle.ovn_base.specs.names.ByName.{at}
use Rattle.flow_table.specs.declared.flow.Cause.TheVariants as cause
use Rattle.nb_records.specs.Routers.{translates}
use Rattle.logical_flows.specs.Stages.{stage_table}
use Rattle.logical_flows.specs.declared.action.Action.{Action}
use Rattle.logical_flows.specs.declared.action.Action.TheVariants as a
use Rattle.logical_flows.specs.declared.stage.Stage.{Stage}
use Rattle.logical_flows.specs.declared.stage.Stage.TheVariants as stage
use Rattle.stage_rows.specs.Rows.{go_on, match_row}
use Rattle.stage_rows.specs.Units.{router_rows}
use Rattle.tunnel_keys.proofs.HeldKeys.{found, is_found}
use Rattle.flow_lowering.specs.LoweredFlows.{lowered_ops}
use Rattle.row_laws.proofs.lowered.BestRows.{best_row, some_matches}
use Rattle.row_laws.proofs.routers.AdmitAtRouter.{admit_law}
use Rattle.row_laws.proofs.routers.InputAtRouter.{input_law}
use Rattle.row_laws.proofs.routers.NeighbourAtRouter.{neighbour_law}
use Rattle.row_laws.proofs.routers.OwnAtRouter.{own_law}
use Rattle.row_laws.proofs.routers.PlainAtRouter.{undo_law, dnat_law, find_law, snat_law}
use Rattle.row_laws.proofs.routers.RouteAtRouter.{route_law}
use Rattle.row_laws.proofs.routers.RouterUnits.{a_router_row}
use Rattle.row_laws.proofs.routers.TakenAtRouter.{on_router, row_holds}
use Rattle.row_laws.specs.routers.RouterCopies.{router_roster}
use Rattle.row_laws.specs.routers.RouterLaws.{RouterStageLaw, RouterBaseLaw, RouterAgreeLaw, RouterTableLaw, OfEachRouterStage}

pub each_law : OfEachRouterStage RouterStageLaw
each_law = record {
  admit = admit_law;
  input = input_law;
  undo = undo_law;
  dnat = dnat_law;
  own = own_law;
  route = route_law;
  neighbour = neighbour_law;
  find = find_law;
  snat = snat_law;
}

-- ---- the row of priority 0

base_by : (s : Stage) (actions : List Action) → ((translating : Bool) → Among (match_row s 0 [] actions) (router_rows s translating)) → RouterBaseLaw s
base_by s actions among net d there' regs sight =
    let x = found (at net.routers d) there' in
    let row = match_row s 0 [] actions in
    (row, a_router_row net s row d x.0 x.1 (among (translates net x.0)), row_holds net s sight regs 0 [] actions refl)

passing : (s : Stage) → ((translating : Bool) → Among (match_row s 0 [] (go_on s ∷ [])) (router_rows s translating)) → RouterBaseLaw s
passing s among = base_by s (go_on s ∷ []) among

last_undo : (translating : Bool) → Among (match_row stage.RouterUndo 0 [] (go_on stage.RouterUndo ∷ [])) (router_rows stage.RouterUndo translating)
last_undo true = there here
last_undo false = here

last_find : (translating : Bool) → Among (match_row stage.RouterFind 0 [] (go_on stage.RouterFind ∷ [])) (router_rows stage.RouterFind translating)
last_find true = there here
last_find false = here

pub each_base : OfEachRouterStage RouterBaseLaw
each_base = record {
  admit = base_by stage.RouterAdmit (a.Drop cause.NotForRouter ∷ []) (λ b. here);
  input = base_by stage.RouterInput (a.Drop cause.NotIp4 ∷ []) (λ b. there (there (there (there here))));
  undo = passing stage.RouterUndo last_undo;
  dnat = passing stage.RouterDnat (λ b. there (there here));
  own = passing stage.RouterOwn (λ b. here);
  route = base_by stage.RouterRoute (a.Drop cause.NoRoute ∷ []) (λ b. here);
  neighbour = base_by stage.RouterNeighbour (a.Drop cause.NoNeighbour ∷ []) (λ b. here);
  find = passing stage.RouterFind last_find;
  snat = passing stage.RouterSnat (λ b. there here);
}

-- ---- what follows from the law of a stage

module _ (s : Stage) (law : RouterStageLaw s) where
  agree : RouterAgreeLaw s
  agree net valid c regs h row other first second = law net valid c regs h row first ∙ sym (law net valid c regs h other second)

  in_table : RouterBaseLaw s → RouterTableLaw s
  in_table base net keys sets flows c regs h =
      let who = router_roster net in
      let x = on_router net h.valid c.port.name c.port h.copy.there in
      let some = base net c.port.router (is_found (at net.routers c.port.router) x.0 x.1) regs c.sight in (
        some_matches net keys sets flows (stage_table s) h.holds who c.port.router regs c.sight h.numbers some.0 some.1 some.2,
        λ f best.
            let own = best_row net keys sets flows (stage_table s) h.holds who c.port.router regs c.sight h.numbers f best in
            own.ops ∙ ap (lowered_ops keys) (law net h.valid c regs h.copy own.row own.best),
      )

pub each_agrees : OfEachRouterStage RouterAgreeLaw
each_agrees = record {
  admit = agree stage.RouterAdmit admit_law;
  input = agree stage.RouterInput input_law;
  undo = agree stage.RouterUndo undo_law;
  dnat = agree stage.RouterDnat dnat_law;
  own = agree stage.RouterOwn own_law;
  route = agree stage.RouterRoute route_law;
  neighbour = agree stage.RouterNeighbour neighbour_law;
  find = agree stage.RouterFind find_law;
  snat = agree stage.RouterSnat snat_law;
}

pub each_table : OfEachRouterStage RouterTableLaw
each_table = record {
  admit = in_table stage.RouterAdmit admit_law each_base.admit;
  input = in_table stage.RouterInput input_law each_base.input;
  undo = in_table stage.RouterUndo undo_law each_base.undo;
  dnat = in_table stage.RouterDnat dnat_law each_base.dnat;
  own = in_table stage.RouterOwn own_law each_base.own;
  route = in_table stage.RouterRoute route_law each_base.route;
  neighbour = in_table stage.RouterNeighbour neighbour_law each_base.neighbour;
  find = in_table stage.RouterFind find_law each_base.find;
  snat = in_table stage.RouterSnat snat_law each_base.snat;
}
