use Rattle.std.proofs.Common.{◌≡◌, ◌↔◌, ap, map, refl, subst, sym, ◌∙◌}
use Rattle.conn_zones.specs.Rezoning.{IsRezoned}
use Rattle.conn_zones.specs.Zoning.{Zoned}
use Rattle.edit_reader.specs.declared.event.Event.TheVariants as event_of
use Rattle.nb_records.specs.Editing.{accepted}
use Rattle.nb_records.specs.Network.{Network}
use Rattle.northd_core.specs.Lowering.{IsLoweredPlan, Lowering}
use Rattle.ovn_base.specs.lists.Among.{Among}
use Rattle.physical_flows.specs.declared.unit.FlowUnit.{FlowUnit}
use Rattle.sim_laws.specs.journeys.TurnedZones.{coming_home}
use Rattle.world_setup.specs.Ground.{GroundView, ground_after}
use Rattle.world_setup.specs.Homecoming.{homes_by}
use Rattle.world_setup.specs.KeyLines.{key_effects, key_name}
use Rattle.world_setup.specs.Setup.{SetupView, lowering_in}
use Rattle.world_setup.specs.Touched.{touched_by}
use Rattle.world_setup.specs.Turning.{IsTurned}
use Rattle.world_setup.specs.declared.setup.Setup.TheInside.{Inside}
use Rattle.world_setup.proofs.ReadiedChanges.{IsReadied, begun_there, edit_change, edit_may_come, edit_readied, edit_turns, ground_with, may_come_there, rezoned_there, tables_then}
use Rattle.world_setup.proofs.setup.Setup.edited.Goals as goal

pub come_home-requires : goal.come_home-requires
come_home-requires c =
    let g = c.args.self.now.ground in
    let start = ap (λ (i : Inside). i.ground) c.self-inside.view_is ∙ ap (λ (s : SetupView). s.ground) c.self.view_is in
    may_come_there g _ start c.args.records.after c.after.result.now c.after.ensures g.config.chassis c.as_slice.result.now (c.as_slice.ensures ∙ ap (λ (x : GroundView). x.config.chassis) start)
    (edit_may_come g c.args.number c.args.ops.now c.requires.may.0 c.requires.may.1 c.args.records c.args.keys c.requires.planned)

-- the homes and zones then
rezoned : (c : goal.After-as_slice-2) → IsRezoned c.args.self.now.ground.zones (coming_home c.args.self.now.ground.zones.homes (homes_by c.args.self.now.ground.zones.homes c.args.records.after c.args.self.now.ground.config.chassis)) c.in_ok-home.home.zones
rezoned c =
    let g = c.args.self.now.ground in
    let start = ap (λ (i : Inside). i.ground) c.self-inside.view_is ∙ ap (λ (s : SetupView). s.ground) c.self.view_is in
    rezoned_there g _ start c.args.records.after c.after.result.now c.after.ensures g.config.chassis c.as_slice.result.now (c.as_slice.ensures ∙ ap (λ (x : GroundView). x.config.chassis) start) c.in_ok-home.home.zones c.in_ok-home.ensures.rezoned

-- what `prepare` asks for
readied : (c : goal.After-as_slice-2) → IsReadied (ground_with c.self-inside.inside.0.0.records c.self-inside.inside.0.0.chassis c.self-inside.inside.0.0.keys c.come_home.new.zones) (edit_change c.args.records c.args.keys c.in_ok-home.home.zones) c.as_slice-2.result.now
readied c =
    let g = c.args.self.now.ground in
    let ops = c.args.ops.now in
    let touched = c.in_ok-touched.touched in
    let start = ap (λ (i : Inside). i.ground) c.self-inside.view_is ∙ ap (λ (s : SetupView). s.ground) c.self.view_is in
    let now = ap (λ (z : Zoned). ground_with c.self-inside.inside.0.0.records c.self-inside.inside.0.0.chassis c.self-inside.inside.0.0.keys z) c.come_home.ensures.kept ∙ start in
    let after : c.after-4.result.now ≡ accepted g.config.net ops c.args.number = c.after-4.ensures ∙ c.requires.planned.stands.after in
    let are : (u : FlowUnit) → Among u touched ↔ Among u (touched_by g.config.net (accepted g.config.net ops c.args.number) ops) =
    subst (λ (net : Network). (u : FlowUnit) → Among u touched ↔ Among u (touched_by g.config.net net ops)) after
    (subst (λ (x : GroundView). (u : FlowUnit) → Among u touched ↔ Among u (touched_by x.config.net c.after-4.result.now ops)) start c.in_ok-touched.ensures.all) in
    subst (λ units. IsReadied (ground_with c.self-inside.inside.0.0.records c.self-inside.inside.0.0.chassis c.self-inside.inside.0.0.keys c.come_home.new.zones) (edit_change c.args.records c.args.keys c.in_ok-home.home.zones) units) (sym c.as_slice-2.ensures)
    (edit_readied g c.args.number ops c.requires.may.0 c.requires.may.1 c.args.records c.args.keys c.requires.planned c.in_ok-home.home.zones (rezoned c) _ now touched c.in_ok-touched.ensures.once are)

pub prepare-requires-clause-fits : goal.prepare-requires-clause-fits
prepare-requires-clause-fits c = (readied c).fits

pub prepare-requires-clause-once : goal.prepare-requires-clause-once
prepare-requires-clause-once c = (readied c).once

pub prepare-requires-clause-before : goal.prepare-requires-clause-before
prepare-requires-clause-before c = (readied c).tables.keyed

pub prepare-requires-clause-keyed : goal.prepare-requires-clause-keyed
prepare-requires-clause-keyed c = (readied c).tables_then.keyed

pub prepare-requires-clause-compiled : goal.prepare-requires-clause-compiled
prepare-requires-clause-compiled c = (readied c).tables_then.compiled

pub prepare-requires-clause-planned : goal.prepare-requires-clause-planned
prepare-requires-clause-planned c =
    let after : Lowering = record { net = c.args.records.after; keys = c.args.keys } in
    subst (λ (i : Inside). IsLoweredPlan (lowering_in i.ground) after i.lowered c.args.lowered) (sym c.self-inside.view_is)
    (subst (λ (s : SetupView). IsLoweredPlan (lowering_in s.ground) after s.lowered c.args.lowered) (sym c.self.view_is) c.requires.lowered)

pub prepare-requires-clause-touched : goal.prepare-requires-clause-touched
prepare-requires-clause-touched c = (readied c).touched_alone

pub returns-clause-turn : goal.returns-clause-turn
returns-clause-turn c =
    let g = c.args.self.now.ground in
    let n = c.args.number in
    let ops = c.args.ops.now in
    let plan = c.args.records in
    let keys = c.args.keys in
    let later = c.in_ok-home.home.zones in
    let turn = c.in_ok-turn.turn in
    let effects = c.in_ok-effects.effects in
    let sim = record turn.sim { names = c.in_ok-names.names; emptied = c.in_ok-home.home.begun } in
    let start = ap (λ (i : Inside). i.ground) c.self-inside.view_is ∙ ap (λ (s : SetupView). s.ground) c.self.view_is in
    let now = ap (λ (z : Zoned). ground_with c.self-inside.inside.0.0.records c.self-inside.inside.0.0.chassis c.self-inside.inside.0.0.keys z) c.come_home.ensures.kept ∙ start in
    let told : effects ≡ key_effects plan.added keys = c.in_ok-effects.ensures ∙ (λ i. key_effects (c.added.ensures i) (c.after-2.ensures i)) in
    let named : c.in_ok-names.names ≡ map (key_name keys) plan.added = c.in_ok-names.ensures ∙ (λ i. map (key_name (c.after-3.ensures i)) (c.added-2.ensures i)) in
    let chassis = c.as_slice.ensures ∙ ap (λ (x : GroundView). x.config.chassis) start in
    let rezoned = rezoned_there g _ start plan.after c.after.result.now c.after.ensures g.config.chassis c.as_slice.result.now chassis later c.in_ok-home.ensures.rezoned in
    let begun = begun_there g _ start plan.after c.after.result.now c.after.ensures g.config.chassis c.as_slice.result.now chassis later c.in_ok-home.home.begun c.in_ok-home.ensures.begun in
    record {
      patch = c.in_ok-turn.ensures.patch;
      tables = tables_then _ g now turn.patch.change _ c.in_ok-turn.ensures.change turn.sim sim refl refl refl c.in_ok-turn.ensures.turned;
      turned = λ m may.
          subst (λ ch. IsTurned m g.zones (event_of.Edit ops) effects sim (ground_after ch g)) (sym c.in_ok-turn.ensures.change)
          (edit_turns g n ops m may plan keys c.requires.planned later rezoned effects told sim c.in_ok-turn.ensures.bare.bound begun named);
    }
