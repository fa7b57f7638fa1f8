-- The egress pipeline of any router: the packet is looked up in the SNAT list, and its source translated.
use Rattle.std.specs.Prelude.{◌≡◌, ◌≤◌, ◌&&◌, not, ℕ, Bool, true, false, [], ◌∷◌, Some, refl}
use Rattle.std.proofs.Common.{sym, ap, ◌∙◌, subst}
use Rattle.std.proofs.lemmas.Bool.{and_parts}
use Rattle.flow_table.specs.declared.flow.ZoneOf.TheVariants as zone
use Rattle.inet_packet.specs.declared.packet.Packet.{Packet}
use Rattle.inet_packet.specs.declared.regs.Reg.TheVariants as reg
use Rattle.logical_flows.specs.Stages.{stage_table}
use Rattle.logical_flows.specs.declared.stage.Stage.TheVariants as stage
use Rattle.nb_records.specs.declared.router.RouterPort.{RouterPort}
use Rattle.net_model.specs.Forwarding.{is_translating}
use Rattle.net_model.specs.Headers.{carries_ip4, src_of}
use Rattle.net_model.specs.Snat.{snat_row}
use Rattle.net_model.specs.Trail.{Lists, snat_of, spot_in_router}
use Rattle.ovn_base.specs.declared.name.Name.{Name}
use Rattle.row_laws.specs.Copies.{Finding, not_sought}
use Rattle.row_laws.specs.Passages.{finding_of}
use Rattle.row_laws.specs.routers.RouterCopies.{RouterCopy, IsWayOut, HasWayOut}
use Rattle.row_laws.specs.routers.RouterLaws.{OfEachRouterStage}
use Rattle.row_laws.specs.routers.TranslatingActions.{IsAskedOf, find_actions, snat_actions}
use Rattle.row_laws.specs.routers.TranslatingLaws.{AnyRouterTableLaw}
use Rattle.switch_engine.specs.Actions.{gone_on}
use Rattle.switch_engine.specs.Zones.{ZoneLists}
use Rattle.switch_engine.specs.declared.carried.Carried.{Carried}
use Rattle.sim_laws.proofs.pipelines.Copies.{goes_so}
use Rattle.sim_laws.proofs.pipelines.Doings.{go_does}
use Rattle.sim_laws.proofs.pipelines.Pieces.{comes_same, comes_goes, comes_then}
use Rattle.sim_laws.proofs.pipelines.Registers.{still_after}
use Rattle.sim_laws.proofs.router_lists.Snats.{seeks_so, snats}
use Rattle.sim_laws.proofs.router_stages.RouterSteps.{IsNext, goes_then}
use Rattle.sim_laws.proofs.translating_stages.AnyCopiesOn.{sought_in, sought_of, stands_on, stands_sought, at_exit}
use Rattle.sim_laws.proofs.translating_stages.AnyIn.{any_step}
use Rattle.sim_laws.proofs.translating_stages.AnyRegisters.{none_sought, sought_within}
use Rattle.sim_laws.specs.pipelines.Pieces.{Piece, trail_with, ComesTo}
use Rattle.sim_laws.specs.pipelines.Standing.{Chassis, net_of, course_of, IsLaidOut}
use Rattle.sim_laws.specs.pipelines.WalkOn.{Reached, Comes}
use Rattle.sim_laws.specs.routers.TranslatingLists.{translating_snat}
use Rattle.sim_laws.proofs.translating_stages.AnyTables.{DoesAsTold, do_so}
use Rattle.sim_laws.specs.routers.RouterStanding.{StandsInRouter}
use Rattle.sim_laws.specs.routers.RouterWays.{way_by_port, ComesToOutput, RouterEgressLaw}
use Rattle.sim_laws.specs.routers.TranslatingWords.{seen_by, is_none_set, GoesOnAt, GoesOnSought, Bring}

module _ (s : Chassis) (laid : IsLaidOut s) (find_law : DoesAsTold s stage.RouterFind) (snat_law : DoesAsTold s stage.RouterSnat) (c : RouterCopy) (out : RouterPort) (lists : Lists) (zones : ZoneLists) (copy : Carried)
    (to : c.out ≡ Some out) (h : StandsInRouter s stage.RouterFind (stage_table stage.RouterFind) c lists zones copy) where
  abbrev q : Packet
  q = c.sight.packet

  way : IsWayOut (net_of s) c out
  way = subst (HasWayOut (net_of s) c) to h.at_port.way_out

  abbrev out_piece : Bool → Packet → Piece Packet
  out_piece k p = way_by_port s (record { out = out; translates = k; packet = p })

  abbrev Lands : Piece Packet → Type 0
  Lands piece = Comes (course_of s) zones (copy ∷ []) (ComesTo s piece lists (ComesToOutput s copy))

  abbrev StepIf : Bool → Type 1
  StepIf k = (So : Reached) → Bring s (find_actions k) zones copy So → Comes (course_of s) zones (copy ∷ []) So

  -- its source is translated
  module _ (on : is_translating (net_of s) c.port ≡ true) (ip4 : carries_ip4 q ≡ true) where
    abbrev Sought : Lists → Packet → ZoneLists → Carried → Type 0
    Sought = GoesOnSought s 41 zone.Snat (snat_of out.router) copy

    module _ (after : Lists) (r : Packet) (last : ZoneLists) (next : Carried) (goes : Sought after r last next) where
      abbrev f : Finding
      f = finding_of (seen_by (snat_of out.router) after r)

      stands : StandsInRouter s stage.RouterSnat 41 (sought_in c r f) after last next
      stands =
          stands_sought s h r f stage.RouterSnat 41 next after last goes.goes.still goes.goes.in_table goes.goes.packet goes.goes.whole goes.sought.state goes.goes.hold
          (sought_of r f (sym (ap carries_ip4 goes.goes.packet) ∙ goes.goes.ip4 ∙ ap carries_ip4 h.packet ∙ ip4))

      snat_lands : Comes (course_of s) last (next ∷ []) (ComesTo s (translating_snat s (spot_in_router out) r) after (ComesToOutput s copy))
      snat_lands =
          let So = ComesTo s (translating_snat s (spot_in_router out) r) after (GoesOnAt s 64 is_none_set next) in
          let does = snats s laid (spot_in_router out) r after last next (at_exit s stands (λ regs. refl) on out (record { there = way.there; on = way.on; is_port = way.is_port })) goes.sought in
          comes_goes s (translating_snat s (spot_in_router out) r) after (GoesOnAt s 64 is_none_set next) (ComesToOutput s copy)
          (λ later p end final k. record {
            in_table = k.in_table;
            packet = k.packet;
            whole = k.whole;
            within = sought_within next final (none_sought next final k.still) stands.numbers.within (subst (λ (n : ℕ). n ≤ 7) (sym (k.still.registers reg.State refl)) (stands.numbers.within.within reg.State));
            still = still_after copy next final goes.goes.still (none_sought next final k.still);
            hold = k.hold;
          }) last (next ∷ [])
          (any_step s stage.RouterSnat snat_law (sought_in c r f) after last next stands So
          (subst (λ (d : Name). Bring s (snat_actions (snat_row (net_of s) d (src_of r)) f) last next So) way.on does))

    translated_lands : StepIf true → Lands (out_piece true q)
    translated_lands step =
        let spot = spot_in_router out in
        comes_then s (λ rest t. rest t q) (λ r. translating_snat s spot r) lists Sought (ComesToOutput s copy) zones (copy ∷ [])
        (step (ComesTo s (λ rest t. rest t q) lists Sought) (seeks_so s spot q lists zones copy (at_exit s h (λ regs. refl) on out way)))
        snat_lands

  -- it is not
  untranslated_lands : c.words.finding ≡ not_sought → StepIf false → Lands (out_piece false q)
  untranslated_lands none step =
      let next : Carried = gone_on 41 copy in
      let last : Carried = gone_on 64 next in
      let So = ComesTo s (out_piece false q) lists (ComesToOutput s copy) in
      let stands : StandsInRouter s stage.RouterSnat 41 c lists zones next = stands_on s h stage.RouterSnat 41 (subst (IsAskedOf q) (sym none) tt) in
      goes_then s zones copy next So (step (IsNext zones next) (go_does s zones copy (IsNext zones next) 41 (refl, refl, refl)))
      (any_step s stage.RouterSnat snat_law c lists zones next stands So
      (subst (λ (x : Finding). Bring s (snat_actions (snat_row (net_of s) c.port.router (src_of q)) x) zones next So) (sym none)
      (go_does s zones next So 64 (goes_so s (out_piece false q) lists lists (ComesToOutput s copy) zones q last (record {
        in_table = refl;
        packet = h.packet;
        whole = h.at_port.whole;
        within = h.numbers.within;
        still = record { passes = refl; entry = refl; registers = λ r free. refl };
        hold = h.hold;
      }) (λ rest choices ends. refl)))))

  by_kind : (k : Bool) → k ≡ (not c.words.own && (is_translating (net_of s) c.port && carries_ip4 q)) → c.words.finding ≡ not_sought → StepIf k → Lands (out_piece k q)
  by_kind true tells none step =
      let both = (and_parts (not c.words.own) (is_translating (net_of s) c.port && carries_ip4 q) (sym tells)).1 in
      let each = and_parts (is_translating (net_of s) c.port) (carries_ip4 q) both in
      translated_lands each.0 each.1 step
  by_kind false tells none step = untranslated_lands none step

  pub exit_lands : (k : Bool) → k ≡ (not c.words.own && (is_translating (net_of s) c.port && carries_ip4 q)) → c.words.finding ≡ not_sought → Lands (out_piece k q)
  exit_lands k tells none = by_kind k tells none (λ So. subst (λ (x : Bool). Bring s (find_actions x) zones copy So → Comes (course_of s) zones (copy ∷ []) So) (sym tells) (any_step s stage.RouterFind find_law c lists zones copy h So))

pub any_egress : OfEachRouterStage AnyRouterTableLaw → RouterEgressLaw
any_egress tables s laid c x lists zones copy to packet tells none h =
    let one : Piece Packet = way_by_port s (record { out = x.out; translates = x.translates; packet = c.sight.packet }) in
    comes_same s one (way_by_port s x) lists (ComesToOutput s copy)
    (λ rest choices ends. ap (λ (p : Packet). way_by_port s (record { out = x.out; translates = x.translates; packet = p }) rest (trail_with lists choices ends)) (sym packet)) zones (copy ∷ [])
    (exit_lands s laid (do_so tables s laid).find (do_so tables s laid).snat c x.out lists zones copy to h x.translates tells none)
