-- The laws of the stages of any router, what they say of tables, and that they are those of routers that translate nothing, on such routers.
use Rattle.std.specs.Prelude.{◌≡◌, ◌&&◌, ◌||◌, Bool, true, false, not, Option, Some, None}
use Rattle.std.proofs.Common.{refl, sym, ap, ◌∙◌}
use Rattle.ovn_base.proofs.AmongLaws.{among_all}
use Rattle.ovn_base.proofs.ByNameLaws.{at_among}
use Rattle.ovn_base.specs.declared.name.Name.{Name}
use Rattle.ovn_base.specs.names.ByName.{at}
use Rattle.nb_records.specs.Network.{Network}
use Rattle.nb_records.specs.Routers.{is_gateway, nats_of}
use Rattle.nb_records.specs.Switches.{has_some, balancers_of}
use Rattle.nb_records.specs.declared.router.Router.{Router}
use Rattle.nb_rules.specs.Valid.{IsValid}
use Rattle.logical_flows.specs.Stages.{stage_table}
use Rattle.logical_flows.specs.declared.stage.Stage.{Stage}
use Rattle.logical_flows.specs.declared.stage.Stage.TheVariants as stage
use Rattle.tunnel_keys.proofs.HeldKeys.{is_found}
use Rattle.flow_lowering.specs.LoweredFlows.{lowered_ops}
use Rattle.net_model.specs.Dnat.{dnat_row}
use Rattle.net_model.specs.Forwarding.{translates_if, is_translating}
use Rattle.net_model.specs.Headers.{carries_ip4, src_of, dst_of}
use Rattle.net_model.specs.Snat.{snat_row}
use Rattle.row_laws.proofs.lowered.BestRows.{best_row, some_matches}
use Rattle.row_laws.proofs.routers.AdmitAtRouter.{admit_law}
use Rattle.row_laws.proofs.routers.EachAtRouter.{each_base}
use Rattle.row_laws.proofs.routers.InputAtRouter.{input_law}
use Rattle.row_laws.proofs.routers.NeighbourAtRouter.{neighbour_law}
use Rattle.row_laws.proofs.routers.OwnAtRouter.{own_law}
use Rattle.row_laws.proofs.routers.RouteAtRouter.{route_law}
use Rattle.row_laws.proofs.routers.TakenAtRouter.{on_router}
use Rattle.row_laws.proofs.translating.DnatAtAny.{any_dnat_law}
use Rattle.row_laws.proofs.translating.SnatAtAny.{any_snat_law}
use Rattle.row_laws.proofs.translating.UndoAndFind.{any_undo_law, any_find_law}
use Rattle.row_laws.specs.StageActions.{service_of}
use Rattle.row_laws.specs.routers.RouterActions.{router_actions_at}
use Rattle.row_laws.specs.routers.RouterCopies.{RouterCopy, HasPassed, IsPlain, router_roster}
use Rattle.row_laws.specs.routers.RouterLaws.{RouterStageLaw, RouterBaseLaw, OfEachRouterStage}
use Rattle.row_laws.specs.routers.TranslatingActions.{HasComeTo, undo_actions, dnat_actions, find_actions, snat_actions, router_actions_by}
use Rattle.row_laws.specs.routers.TranslatingLaws.{AnyRouterStageLaw, AnyRouterAgreeLaw, AnyRouterTableLaw, PlainActionsLaw}

-- a stage of which the law of routers that translate nothing says as much
as_before : (s : Stage) → ((net : Network) (c : RouterCopy) → HasComeTo net s c → HasPassed net s c) → ((net : Network) (c : RouterCopy) → router_actions_at s net c ≡ router_actions_by s net c) → RouterStageLaw s → AnyRouterStageLaw s
as_before s passed same law net valid c regs h row best =
    law net valid c regs (record { there = h.there; is_port = h.is_port; way_out = h.way_out; words = h.words; whole = h.whole; passed = passed net c h.passed }) row best ∙ same net c

pub each_any_law : OfEachRouterStage AnyRouterStageLaw
each_any_law = record {
  admit = as_before stage.RouterAdmit (λ net c h. h) (λ net c. refl) admit_law;
  input = as_before stage.RouterInput (λ net c h. h) (λ net c. refl) input_law;
  undo = any_undo_law;
  dnat = any_dnat_law;
  own = as_before stage.RouterOwn (λ net c h. h) (λ net c. refl) own_law;
  route = as_before stage.RouterRoute (λ net c h. h) (λ net c. refl) route_law;
  neighbour = as_before stage.RouterNeighbour (λ net c h. h) (λ net c. refl) neighbour_law;
  find = any_find_law;
  snat = any_snat_law;
}

-- ---- what follows from the law of a stage

module _ (s : Stage) (law : AnyRouterStageLaw s) where
  agree : AnyRouterAgreeLaw s
  agree net valid c regs h row other first second = law net valid c regs h row first ∙ sym (law net valid c regs h other second)

  in_table : RouterBaseLaw s → AnyRouterTableLaw s
  in_table base net keys sets flows c regs h =
      let who = router_roster net in
      let x = on_router net h.valid c.port.name c.port h.copy.there in
      let some = base net c.port.router (is_found (at net.routers c.port.router) x.0 x.1) regs c.sight in (
        some_matches net keys sets flows (stage_table s) h.holds who c.port.router regs c.sight h.numbers some.0 some.1 some.2,
        λ f best.
            let own = best_row net keys sets flows (stage_table s) h.holds who c.port.router regs c.sight h.numbers f best in
            own.ops ∙ ap (lowered_ops keys) (law net h.valid c regs h.copy own.row own.best),
      )

pub each_any_agrees : OfEachRouterStage AnyRouterAgreeLaw
each_any_agrees = record {
  admit = agree stage.RouterAdmit each_any_law.admit;
  input = agree stage.RouterInput each_any_law.input;
  undo = agree stage.RouterUndo each_any_law.undo;
  dnat = agree stage.RouterDnat each_any_law.dnat;
  own = agree stage.RouterOwn each_any_law.own;
  route = agree stage.RouterRoute each_any_law.route;
  neighbour = agree stage.RouterNeighbour each_any_law.neighbour;
  find = agree stage.RouterFind each_any_law.find;
  snat = agree stage.RouterSnat each_any_law.snat;
}

pub each_any_table : OfEachRouterStage AnyRouterTableLaw
each_any_table = record {
  admit = in_table stage.RouterAdmit each_any_law.admit each_base.admit;
  input = in_table stage.RouterInput each_any_law.input each_base.input;
  undo = in_table stage.RouterUndo each_any_law.undo each_base.undo;
  dnat = in_table stage.RouterDnat each_any_law.dnat each_base.dnat;
  own = in_table stage.RouterOwn each_any_law.own each_base.own;
  route = in_table stage.RouterRoute each_any_law.route each_base.route;
  neighbour = in_table stage.RouterNeighbour each_any_law.neighbour each_base.neighbour;
  find = in_table stage.RouterFind each_any_law.find each_base.find;
  snat = in_table stage.RouterSnat each_any_law.snat each_base.snat;
}

-- ---- routers that translate nothing

no_both : (b : Bool) → (b && false) ≡ false
no_both true = refl
no_both false = refl

module _ (net : Network) (valid : IsValid net) (c : RouterCopy) (plain : IsPlain net c) where
  abbrev d : Name
  d = c.port.router

  off : is_translating net c.port ≡ false
  off = by (at net.routers d) refl
    where
      by : (o : Option Router) → at net.routers d ≡ o → translates_if net o ≡ false
      by None is = refl
      by (Some x) is =
          let named : x.name ≡ d = among_all (λ (e : Name × Router). e.1.name ≡ e.0) (d, x) net.routers valid.named.routers (at_among net.routers d x is) in
          ap (λ n. is_gateway x && (has_some (nats_of net n) || has_some (balancers_of net n))) named
          ∙ (λ k. is_gateway x && (has_some (plain.nats k) || has_some (plain.balancers k))) ∙ no_both (is_gateway x)

  plain_undo : router_actions_by stage.RouterUndo net c ≡ router_actions_at stage.RouterUndo net c
  plain_undo = ap (λ b. undo_actions (b && carries_ip4 c.sight.packet)) off

  plain_dnat : router_actions_by stage.RouterDnat net c ≡ router_actions_at stage.RouterDnat net c
  plain_dnat = ap (λ k. dnat_actions net (service_of net d c.sight.packet) (dnat_row net d (dst_of c.sight.packet)) k) plain.finding

  plain_find : router_actions_by stage.RouterFind net c ≡ router_actions_at stage.RouterFind net c
  plain_find = ap (λ b. find_actions (not c.words.own && (b && carries_ip4 c.sight.packet))) off ∙ ap find_actions (no_both (not c.words.own))

  plain_snat : router_actions_by stage.RouterSnat net c ≡ router_actions_at stage.RouterSnat net c
  plain_snat = ap (λ k. snat_actions (snat_row net d (src_of c.sight.packet)) k) plain.finding

pub each_plain : OfEachRouterStage PlainActionsLaw
each_plain = record {
  admit = λ net valid c plain. refl;
  input = λ net valid c plain. refl;
  undo = plain_undo;
  dnat = plain_dnat;
  own = λ net valid c plain. refl;
  route = λ net valid c plain. refl;
  neighbour = λ net valid c plain. refl;
  find = plain_find;
  snat = plain_snat;
}
