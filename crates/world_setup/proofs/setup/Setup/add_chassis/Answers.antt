use Rattle.std.proofs.Common.{◌<◌, ◌≡◌, ◌↔◌, None, ap, false, length, nat_cmp, nat_le, refl, subst, sym, ◌∙◌}
use Rattle.std.proofs.lemmas.Bool.{lt-leb}
use Rattle.std.specs.BTreeSet.{insert_key}
use Rattle.std.specs.Cmp.Lexicographic.{slice_cmp}
use Rattle.conn_zones.specs.Zoning.{Zoned}
use Rattle.edit_reader.specs.declared.event.Event.TheVariants as event_of
use Rattle.ovn_base.specs.lists.Among.{Among}
use Rattle.physical_flows.specs.declared.unit.FlowUnit.{FlowUnit}
use Rattle.world_setup.specs.Ground.{GroundView, ground_after}
use Rattle.world_setup.specs.Setup.{SetupView}
use Rattle.net_model.specs.State.{State}
use Rattle.world_setup.specs.Refusing.{refusal}
use Rattle.world_setup.specs.Touched.{leading_units}
use Rattle.world_setup.specs.Turning.{IsTurned, MayTurn}
use Rattle.world_setup.specs.declared.setup.Setup.TheInside.{Inside}
use Rattle.world_setup.proofs.ReadiedChanges.{IsReadied, begun_there, chassis_absent, chassis_change, chassis_may_bring, chassis_may_come, chassis_readied, chassis_turns, ground_with, may_come_there, rezoned_there, tables_then}
use Rattle.world_setup.proofs.setup.Setup.add_chassis.Goals as goal

pub come_home-requires : goal.come_home-requires
come_home-requires c =
    let g = c.args.self.now.ground in
    let start = ap (λ (i : Inside). i.ground) c.self-inside.view_is ∙ ap (λ (s : SetupView). s.ground) c.self.view_is in
    let names = c.in_ok-all.ensures ∙ ap (λ l. insert_key (slice_cmp nat_cmp) l c.args.chassis) (c.as_slice.ensures ∙ ap (λ (x : GroundView). x.config.chassis) start) in
    may_come_there g _ start g.config.net _ (ap (λ (x : GroundView). x.config.net) start) c.in_ok-all.all c.as_slice-2.result.now c.as_slice-2.ensures
    (chassis_may_bring g c.args.number c.args.chassis c.requires.may.0 c.requires.may.1 c.in_ok-all.all names)

-- the names with one more
names_are : (c : goal.After-as_slice-3) → c.in_ok-all.all ≡ insert_key (slice_cmp nat_cmp) c.args.self.now.ground.config.chassis c.args.chassis
names_are c =
    c.in_ok-all.ensures
    ∙ ap (λ l. insert_key (slice_cmp nat_cmp) l c.args.chassis) (c.as_slice.ensures ∙ ap (λ (x : GroundView). x.config.chassis) (ap (λ (i : Inside). i.ground) c.self-inside.view_is ∙ ap (λ (s : SetupView). s.ground) c.self.view_is))

-- nothing refuses it
allowed : (c : goal.After-as_slice-3) → refusal c.requires.may.0 (event_of.AddChassis c.args.chassis) ≡ None
allowed c =
    chassis_may_come c.args.self.now.ground c.args.number c.args.chassis c.requires.may.0 c.requires.may.1 c.self.inside.ground (ap (λ (s : SetupView). s.ground) c.self.view_is)
    (sym c.is_chassis.ensures ∙ c.if-is_chassis.false)
    (subst (λ (x : GroundView). nat_le 64 (length x.config.chassis) ≡ false) (ap (λ (i : Inside). i.ground) c.self-inside.view_is) (lt-leb 64 _ (subst (λ k. k < 64) c.len.ensures c.if-len-ge-MAX_CHASSIS.false)))

-- what `prepare` asks for
readied : (c : goal.After-as_slice-3) → IsReadied (ground_with c.self-inside.inside.0.0.records c.self-inside.inside.0.0.chassis c.self-inside.inside.0.0.keys c.come_home.new.zones) (chassis_change c.in_ok-all.all c.in_ok-home.home.zones) c.as_slice-3.result.now
readied c =
    let g = c.args.self.now.ground in
    let later = c.in_ok-home.home.zones in
    let touched = c.in_ok-touched.touched in
    let start = ap (λ (i : Inside). i.ground) c.self-inside.view_is ∙ ap (λ (s : SetupView). s.ground) c.self.view_is in
    let now = ap (λ (z : Zoned). ground_with c.self-inside.inside.0.0.records c.self-inside.inside.0.0.chassis c.self-inside.inside.0.0.keys z) c.come_home.ensures.kept ∙ start in
    let rezoned = rezoned_there g _ start g.config.net _ (ap (λ (x : GroundView). x.config.net) start) c.in_ok-all.all c.as_slice-2.result.now c.as_slice-2.ensures later c.in_ok-home.ensures.rezoned in
    let are : (u : FlowUnit) → Among u touched ↔ Among u (leading_units g.config.net g.config.net) =
    subst (λ (x : GroundView). (u : FlowUnit) → Among u touched ↔ Among u (leading_units x.config.net x.config.net)) start c.in_ok-touched.ensures.all in
    subst (λ units. IsReadied (ground_with c.self-inside.inside.0.0.records c.self-inside.inside.0.0.chassis c.self-inside.inside.0.0.keys c.come_home.new.zones) (chassis_change c.in_ok-all.all later) units) (sym c.as_slice-3.ensures)
    (chassis_readied g c.args.number c.args.chassis c.requires.may.0 c.requires.may.1 c.in_ok-all.all (names_are c) (allowed c) later rezoned _ now touched c.in_ok-touched.ensures.once are)

pub prepare-requires-clause-fits : goal.prepare-requires-clause-fits
prepare-requires-clause-fits c = (readied c).fits

pub prepare-requires-clause-before : goal.prepare-requires-clause-before
prepare-requires-clause-before c = (readied c).tables.keyed

pub prepare-requires-clause-keyed : goal.prepare-requires-clause-keyed
prepare-requires-clause-keyed c = (readied c).tables_then.keyed

pub prepare-requires-clause-compiled : goal.prepare-requires-clause-compiled
prepare-requires-clause-compiled c = (readied c).tables_then.compiled

pub prepare-requires-clause-once : goal.prepare-requires-clause-once
prepare-requires-clause-once c = (readied c).once

pub prepare-requires-clause-touched : goal.prepare-requires-clause-touched
prepare-requires-clause-touched c = (readied c).touched_alone

pub prepare-requires-clause-chassis : goal.prepare-requires-clause-chassis
prepare-requires-clause-chassis c =
    let start = ap (λ (i : Inside). i.ground) c.self-inside.view_is ∙ ap (λ (s : SetupView). s.ground) c.self.view_is in (
      λ among. chassis_absent c.args.self.now.ground c.args.number c.args.chassis c.requires.may.0 c.requires.may.1 (allowed c) (subst (λ (x : GroundView). Among c.args.chassis x.config.chassis) start among),
      c.in_ok-all.ensures ∙ ap (λ l. insert_key (slice_cmp nat_cmp) l c.args.chassis) c.as_slice.ensures,
    )

pub returns-clause-turn : goal.returns-clause-turn
returns-clause-turn c =
    let g = c.args.self.now.ground in
    let n = c.args.number in
    let chassis = c.args.chassis in
    let later = c.in_ok-home.home.zones in
    let turn = c.in_ok-turn.turn in
    let sim = record turn.sim { emptied = c.in_ok-home.home.begun } in
    let start = ap (λ (i : Inside). i.ground) c.self-inside.view_is ∙ ap (λ (s : SetupView). s.ground) c.self.view_is in
    let now = ap (λ (z : Zoned). ground_with c.self-inside.inside.0.0.records c.self-inside.inside.0.0.chassis c.self-inside.inside.0.0.keys z) c.come_home.ensures.kept ∙ start in
    let names : c.in_ok-all.all ≡ insert_key (slice_cmp nat_cmp) g.config.chassis chassis = c.in_ok-all.ensures ∙ ap (λ l. insert_key (slice_cmp nat_cmp) l chassis) (c.as_slice.ensures ∙ ap (λ (x : GroundView). x.config.chassis) start) in
    let net = ap (λ (x : GroundView). x.config.net) start in
    let rezoned = rezoned_there g _ start g.config.net _ net c.in_ok-all.all c.as_slice-2.result.now c.as_slice-2.ensures later c.in_ok-home.ensures.rezoned in
    let begun = begun_there g _ start g.config.net _ net c.in_ok-all.all c.as_slice-2.result.now c.as_slice-2.ensures later c.in_ok-home.home.begun c.in_ok-home.ensures.begun in
    let allowed_then : (m : State) → MayTurn g n (event_of.AddChassis chassis) m → refusal m (event_of.AddChassis chassis) ≡ None = λ m may.
    chassis_may_come g n chassis m may c.self.inside.ground (ap (λ (s : SetupView). s.ground) c.self.view_is) (sym c.is_chassis.ensures ∙ c.if-is_chassis.false)
    (subst (λ (x : GroundView). nat_le 64 (length x.config.chassis) ≡ false) (ap (λ (i : Inside). i.ground) c.self-inside.view_is) (lt-leb 64 _ (subst (λ k. k < 64) c.len.ensures c.if-len-ge-MAX_CHASSIS.false))) in
    record {
      patch = c.in_ok-turn.ensures.patch;
      tables = tables_then _ g now turn.patch.change _ c.in_ok-turn.ensures.change turn.sim sim refl refl refl c.in_ok-turn.ensures.turned;
      turned = λ m may.
          subst (λ ch. IsTurned m g.zones (event_of.AddChassis chassis) turn.effects sim (ground_after ch g)) (sym c.in_ok-turn.ensures.change)
          (chassis_turns g n chassis m may c.in_ok-all.all names (allowed_then m may) later rezoned turn.effects c.in_ok-turn.ensures.bare.effects sim c.in_ok-turn.ensures.bare.bound c.in_ok-turn.ensures.bare.names begun);
    }
