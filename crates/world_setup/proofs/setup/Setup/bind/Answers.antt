use Rattle.std.proofs.Common.{◌≡◌, ◌++◌, ◌∷◌, [], ℕ, List, None, Option, Some, ap, refl, subst, sym, ◌∙◌}
use Rattle.conn_zones.specs.Rezoning.{IsHomeChange, IsRezoned}
use Rattle.conn_zones.specs.Zoning.{GivenNumbers, Zoned, number_on}
use Rattle.conn_zones.specs.declared.numbers.ZoneUse.TheVariants.{Port}
use Rattle.conn_zones.specs.declared.change.HomeChange.{HomeChange}
use Rattle.edit_reader.specs.declared.event.Event.TheVariants as event_of
use Rattle.ovn_base.specs.declared.name.Name.{Name}
use Rattle.ovn_base.specs.names.ByName.{at}
use Rattle.world_setup.specs.Ground.{GroundView, ground_after}
use Rattle.world_setup.specs.Setup.{AreTouched, SetupView, units_of}
use Rattle.net_model.specs.State.{State}
use Rattle.std.proofs.lemmas.Result.{err_from_is_err_and}
use Rattle.world_setup.specs.Refusing.{refusal}
use Rattle.world_setup.specs.Turning.{IsTurned, MayTurn, Tells}
use Rattle.world_setup.specs.Zones.{home_change}
use Rattle.world_setup.specs.declared.setup.Setup.TheInside.{Inside}
use Rattle.world_setup.proofs.ReadiedChanges.{IsReadied, binding_can_come, binding_numbered, binding_readied, binding_turns, ground_with, port_may_be_bound, tables_then}
use Rattle.world_setup.proofs.setup.Setup.bind.Goals as goal

pub prepare-requires : goal.prepare-requires
prepare-requires c =
    let allowed_here =
    port_may_be_bound c.args.self.now.ground c.args.number c.args.port c.args.chassis c.requires.may.0 c.requires.may.1 c.self.inside.ground (ap (λ (s : SetupView). s.ground) c.self.view_is)
    (sym c.is_virtual_port.ensures ∙ c.if-not-is_virtual_port.false) (sym c.is_chassis.ensures ∙ c.if-not-is_chassis.false) in
    let start = ap (λ (i : Inside). i.ground) c.self-inside.view_is ∙ ap (λ (s : SetupView). s.ground) c.self.view_is in
    subst (λ (x : GroundView). IsHomeChange x.zones.homes c.in_ok-home_change.field-0) (sym start)
    (subst (λ (h : HomeChange). IsHomeChange c.args.self.now.ground.zones.homes h) (sym c.in_ok-home_change.ensures)
    (binding_can_come c.args.self.now.ground c.args.number c.args.port c.args.chassis c.requires.may.0 c.requires.may.1 (allowed_here)))

-- what `prepare` asks for
readied : (c : goal.After-as_slice) → IsReadied (ground_with c.self-inside.inside.0.0.records c.self-inside.inside.0.0.chassis c.self-inside.inside.0.0.keys c.prepare.new.self) (record { records = None; chassis = None; keys = None; zones = Some c.in_ok-zones.zones }) (units_of (at c.args.self.now.ground.config.net.switch_ports c.args.port) c.args.port)
readied c =
    let allowed =
    port_may_be_bound c.args.self.now.ground c.args.number c.args.port c.args.chassis c.requires.may.0 c.requires.may.1 c.self.inside.ground (ap (λ (s : SetupView). s.ground) c.self.view_is)
    (sym c.is_virtual_port.ensures ∙ c.if-not-is_virtual_port.false) (sym c.is_chassis.ensures ∙ c.if-not-is_chassis.false) in
    let g = c.args.self.now.ground in
    let start = ap (λ (i : Inside). i.ground) c.self-inside.view_is ∙ ap (λ (s : SetupView). s.ground) c.self.view_is in
    let rezoned : IsRezoned g.zones (home_change c.args.port c.args.chassis) c.in_ok-zones.zones =
    subst (λ (x : GroundView). IsRezoned x.zones (home_change c.args.port c.args.chassis) c.in_ok-zones.zones) start
    (subst (λ (h : HomeChange). IsRezoned c.self-inside.inside.0.0.zones h c.in_ok-zones.zones) c.in_ok-home_change.ensures c.in_ok-zones.ensures.rezoned) in
    subst (λ (x : GroundView). IsReadied x (record { records = None; chassis = None; keys = None; zones = Some c.in_ok-zones.zones }) (units_of (at g.config.net.switch_ports c.args.port) c.args.port))
    (sym (ap (λ (z : Zoned). ground_with c.self-inside.inside.0.0.records c.self-inside.inside.0.0.chassis c.self-inside.inside.0.0.keys z) c.prepare.ensures.kept ∙ start))
    (binding_readied g c.args.number c.args.port c.args.chassis c.requires.may.0 c.requires.may.1 allowed c.in_ok-zones.zones rezoned g refl)

-- the touched units
touched_are : (c : goal.After-as_slice) → c.as_slice.result.now ≡ units_of (at c.args.self.now.ground.config.net.switch_ports c.args.port) c.args.port
touched_are c =
    let start = ap (λ (i : Inside). i.ground) c.self-inside.view_is ∙ ap (λ (s : SetupView). s.ground) c.self.view_is in
    c.as_slice.ensures ∙ c.in_ok-touched.ensures ∙ ap (λ (x : GroundView). units_of (at x.config.net.switch_ports c.args.port) c.args.port) start

pub prepare-requires-2-clause-fits : goal.prepare-requires-2-clause-fits
prepare-requires-2-clause-fits c = (readied c).fits

pub prepare-requires-2-clause-once : goal.prepare-requires-2-clause-once
prepare-requires-2-clause-once c = (readied c).once

pub prepare-requires-2-clause-before : goal.prepare-requires-2-clause-before
prepare-requires-2-clause-before c = (readied c).tables.keyed

pub prepare-requires-2-clause-keyed : goal.prepare-requires-2-clause-keyed
prepare-requires-2-clause-keyed c = (readied c).tables_then.keyed

pub prepare-requires-2-clause-compiled : goal.prepare-requires-2-clause-compiled
prepare-requires-2-clause-compiled c = (readied c).tables_then.compiled

pub prepare-requires-2-clause-touched : goal.prepare-requires-2-clause-touched
prepare-requires-2-clause-touched c = subst
    (λ l. AreTouched (ground_with c.self-inside.inside.0.0.records c.self-inside.inside.0.0.chassis c.self-inside.inside.0.0.keys c.prepare.new.self) (ground_after (record { records = None; chassis = None; keys = None; zones = Some c.in_ok-zones.zones }) (ground_with c.self-inside.inside.0.0.records c.self-inside.inside.0.0.chassis c.self-inside.inside.0.0.keys c.prepare.new.self)) l)
    (sym (touched_are c)) (readied c).touched_alone

-- who is at home has a number
pub unreachable-requires : goal.unreachable-requires
unreachable-requires c =
    let g = c.args.self.now.ground in
    let p = c.args.port in
    let chassis = c.args.chassis in
    let zones = c.in_ok-zones.zones in
    let start = ap (λ (i : Inside). i.ground) c.self-inside.view_is ∙ ap (λ (s : SetupView). s.ground) c.self.view_is in
    let rezoned : IsRezoned g.zones (home_change p chassis) zones =
    subst (λ (x : GroundView). IsRezoned x.zones (home_change p chassis) zones) start (subst (λ (h : HomeChange). IsRezoned c.self-inside.inside.0.0.zones h zones) c.in_ok-home_change.ensures c.in_ok-zones.ensures.rezoned) in
    let allowed =
    port_may_be_bound g c.args.number p chassis c.requires.may.0 c.requires.may.1 c.self.inside.ground (ap (λ (s : SetupView). s.ground) c.self.view_is)
    (sym c.is_virtual_port.ensures ∙ c.if-not-is_virtual_port.false) (sym c.is_chassis.ensures ∙ c.if-not-is_chassis.false) in
    let none : number_on zones.numbers chassis (Port p) ≡ None = sym (c.port.ensures ∙ ap (λ (n : GivenNumbers). number_on n chassis (Port p)) c.numbers.ensures) ∙ c.in_default.is in
    absurd (binding_numbered g c.args.number p chassis c.requires.may.0 c.requires.may.1 allowed zones rezoned none)

pub returns-in_err-push-clause-turn : goal.returns-in_err-push-clause-turn
returns-in_err-push-clause-turn c = let failed = err_from_is_err_and c.from_residual-in_err-push.result c.from_residual-in_err-push.ensures.1 in rw failed.1 tt

pub returns-in_err-push-2-clause-refused : goal.returns-in_err-push-2-clause-refused
returns-in_err-push-2-clause-refused c =
    let failed = err_from_is_err_and c.from_residual-in_err-push-2.result c.from_residual-in_err-push-2.ensures.1 in
    rw failed.1 (λ m may. subst (λ f. Tells f (refusal m (event_of.Bind c.args.port c.args.chassis))) (sym failed.2) tt)

pub returns-in_err-push-clause-refused : goal.returns-in_err-push-clause-refused
returns-in_err-push-clause-refused c =
    let failed = err_from_is_err_and c.from_residual-in_err-push.result c.from_residual-in_err-push.ensures.1 in
    rw failed.1 (λ m may. subst (λ f. Tells f (refusal m (event_of.Bind c.args.port c.args.chassis))) (sym failed.2) tt)

pub returns-clause-turn : goal.returns-clause-turn
returns-clause-turn c =
    let g = c.args.self.now.ground in
    let p = c.args.port in
    let chassis = c.args.chassis in
    let zones = c.in_ok-zones.zones in
    let turn = c.in_ok-turn.turn in
    let sim = record turn.sim { bound = c.push.new.self; emptied = c.push-2.new.self } in
    let start = ap (λ (i : Inside). i.ground) c.self-inside.view_is ∙ ap (λ (s : SetupView). s.ground) c.self.view_is in
    let rezoned : IsRezoned g.zones (home_change p chassis) zones =
    subst (λ (x : GroundView). IsRezoned x.zones (home_change p chassis) zones) start (subst (λ (h : HomeChange). IsRezoned c.self-inside.inside.0.0.zones h zones) c.in_ok-home_change.ensures c.in_ok-zones.ensures.rezoned) in
    let bound : c.push.new.self ≡ (p, Some chassis) ∷ [] = c.in_ok-push.ensures.ok ∙ ap (λ (l : List (Name × Option Name)). l ++ (p, Some chassis) ∷ []) c.in_ok-turn.ensures.bare.bound in
    let emptied : c.push-2.new.self ≡ (chassis, c.in-Some.zone) ∷ [] = c.in_ok-push-2.ensures.ok ∙ ap (λ (l : List (Name × ℕ)). l ++ (chassis, c.in-Some.zone) ∷ []) c.in_ok-turn.ensures.bare.emptied in
    let numbered : number_on zones.numbers chassis (Port p) ≡ Some c.in-Some.zone = sym (c.port.ensures ∙ ap (λ (n : GivenNumbers). number_on n chassis (Port p)) c.numbers.ensures) ∙ c.in-Some.is in
    let allowed : (m : State) → MayTurn g c.args.number (event_of.Bind p chassis) m → refusal m (event_of.Bind p chassis) ≡ None = λ m may.
    port_may_be_bound g c.args.number p chassis m may c.self.inside.ground (ap (λ (s : SetupView). s.ground) c.self.view_is)
    (sym c.is_virtual_port.ensures ∙ c.if-not-is_virtual_port.false) (sym c.is_chassis.ensures ∙ c.if-not-is_chassis.false) in
    record {
      patch = c.in_ok-turn.ensures.patch;
      tables = tables_then _ g (ap (λ (z : Zoned). ground_with c.self-inside.inside.0.0.records c.self-inside.inside.0.0.chassis c.self-inside.inside.0.0.keys z) c.prepare.ensures.kept ∙ start) turn.patch.change _ c.in_ok-turn.ensures.change turn.sim sim refl refl refl c.in_ok-turn.ensures.turned;
      turned = λ m may.
          subst (λ ch. IsTurned m g.zones (event_of.Bind p chassis) turn.effects sim (ground_after ch g)) (sym c.in_ok-turn.ensures.change)
          (binding_turns g c.args.number p chassis m may (allowed m may) zones rezoned c.in-Some.zone numbered turn.effects c.in_ok-turn.ensures.bare.effects sim bound c.in_ok-turn.ensures.bare.names emptied);
    }
