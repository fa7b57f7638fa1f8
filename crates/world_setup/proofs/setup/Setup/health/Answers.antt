use Rattle.std.proofs.Common.{◌≡◌, None, ap, refl, subst, sym, ◌∙◌}
use Rattle.edit_reader.specs.declared.event.Event.TheVariants as event_of
use Rattle.nb_edits.specs.Plans.{IsPlanBetween}
use Rattle.nb_records.specs.Network.{Network, marked}
use Rattle.world_setup.specs.Ground.{GroundView, ground_after}
use Rattle.world_setup.specs.Refusing.{cause_of_mark}
use Rattle.world_setup.specs.Setup.{SetupView}
use Rattle.world_setup.specs.Turning.{IsTurned}
use Rattle.world_setup.specs.declared.setup.Setup.TheInside.{Inside}
use Rattle.world_setup.proofs.MarkedBackends.{mark_planned, mark_turns}
use Rattle.world_setup.proofs.ReadiedChanges.{ground_with, tables_then}
use Rattle.world_setup.proofs.setup.Setup.health.Goals as goal

pub marked-requires : goal.marked-requires
marked-requires g c =
    let before = c.args.self.now.ground in
    let balancer = c.args.balancer in
    let backend = c.args.backend in
    let plan = c.in_ok-records.records in
    let start = ap (λ (i : Inside). i.ground) c.self-inside.view_is ∙ ap (λ (s : SetupView). s.ground) c.self.view_is in
    let now = ap (λ (net : Network). ground_with net c.self-inside.inside.0.0.chassis c.self-inside.inside.0.0.keys c.self-inside.inside.0.0.zones) c.planned_mark.ensures.kept ∙ start in
    let allowed : cause_of_mark before.config.net balancer backend ≡ None = ap (λ (x : GroundView). cause_of_mark x.config.net balancer backend) (sym start) ∙ sym c.refusal_of_mark.ensures ∙ c.in_default.is in
    let stands : IsPlanBetween before.config.net (marked before.config.net balancer backend c.args.online) plan = subst (λ (x : GroundView). IsPlanBetween x.config.net (marked x.config.net balancer backend c.args.online) plan) start c.in_ok-records.ensures.stands in
    record { planned = mark_planned before c.args.number balancer backend c.args.online c.requires.may.0 c.requires.may.1 allowed plan stands _ now }

pub returns-clause-turn : goal.returns-clause-turn
returns-clause-turn g c =
    let before = c.args.self.now.ground in
    let balancer = c.args.balancer in
    let backend = c.args.backend in
    let plan = c.in_ok-records.records in
    let turn = c.in_ok-marked.field-0 in
    let start = ap (λ (i : Inside). i.ground) c.self-inside.view_is ∙ ap (λ (s : SetupView). s.ground) c.self.view_is in
    let now = ap (λ (net : Network). ground_with net c.self-inside.inside.0.0.chassis c.self-inside.inside.0.0.keys c.self-inside.inside.0.0.zones) c.planned_mark.ensures.kept ∙ start in
    let allowed : cause_of_mark before.config.net balancer backend ≡ None = ap (λ (x : GroundView). cause_of_mark x.config.net balancer backend) (sym start) ∙ sym c.refusal_of_mark.ensures ∙ c.in_default.is in
    let stands : IsPlanBetween before.config.net (marked before.config.net balancer backend c.args.online) plan = subst (λ (x : GroundView). IsPlanBetween x.config.net (marked x.config.net balancer backend c.args.online) plan) start c.in_ok-records.ensures.stands in
    record {
      patch = c.in_ok-marked.ensures.patch;
      tables = tables_then _ before now turn.patch.change _ c.in_ok-marked.ensures.change turn.sim turn.sim refl refl refl c.in_ok-marked.ensures.turned;
      turned = λ m may.
          subst (λ ch. IsTurned m before.zones (event_of.Health balancer backend c.args.online) turn.effects turn.sim (ground_after ch before)) (sym c.in_ok-marked.ensures.change)
          (mark_turns before c.args.number balancer backend c.args.online m may allowed plan stands turn.effects c.in_ok-marked.ensures.bare.effects turn.sim c.in_ok-marked.ensures.bare.bound c.in_ok-marked.ensures.bare.emptied c.in_ok-marked.ensures.bare.names);
    }
