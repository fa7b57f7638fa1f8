use Rattle.std.proofs.Common.{◌≡◌, ◌-◌, [], ◌∷◌, sym, ap, ◌∙◌, subst, inl, inr, arith, false}
use Rattle.std.proofs.lemmas.Bool.{false≢true}
use Rattle.world_core.specs.Draining.{AreDraining}
use Rattle.world_core.specs.Packets.{HasArrived}
use Rattle.world_core.specs.Waiting.{crossing_of, crossings_of, frame_under}
use Rattle.world_core.specs.WorldView.{WorldView}
use Rattle.world_core.proofs.DrainSteps.{drain_begins, drain_goes_on, drain_ends, first_is, first_waits, none_there, one_less}
use Rattle.world_core.proofs.world.World.drain.Goals as goal

pub arrivals-init : goal.arrivals-init
arrivals-init c = record { draining = drain_begins c.args.self.now c.args.out.now c.args.most c.requires.under_way c.requires.held; taken = c.requires.taken }

pub returns-in_default : goal.returns-in_default
returns-in_default c =
    let frames = c.self.inside.sim.state.waiting in
    let none = none_there c.self.inside.crossings.entries (λ some. false≢true (c.in_default.ensures.variant.1 some)) in
    let waiting : c.arrivals.self.state.waiting ≡ [] = ap (λ (v : WorldView). v.state.waiting) (sym c.self.view_is) ∙ ap (λ names. crossings_of names frames) none in
    drain_ends c.args.self.now c.args.out.now c.args.most c.arrivals.left c.arrivals.self c.arrivals.out c.arrivals.invariant.draining (inr waiting)

pub arrive-requires-clause-waits : goal.arrive-requires-clause-waits
arrive-requires-clause-waits c =
    let first = first_is c.self.inside.crossings.entries (c.in-Some.field-0-0.now, c.in-Some.field-0-1.now) c.in-Some.ensures.first in
    let frames = c.self.inside.sim.state.waiting in
    let n = c.in-Some.field-0-0.now in
    let x = crossing_of c.in-Some.field-0-1.now (frame_under frames n) in
    let behind = crossings_of first.0 frames in
    first_waits c.arrivals.self.state n x behind (ap (λ (v : WorldView). v.state.waiting) (sym c.self.view_is) ∙ ap (λ names. crossings_of names frames) first.1)

pub arrivals-preserved : goal.arrivals-preserved
arrivals-preserved c =
    let first = first_is c.self.inside.crossings.entries (c.in-Some.field-0-0.now, c.in-Some.field-0-1.now) c.in-Some.ensures.first in
    let frames = c.self.inside.sim.state.waiting in
    let n = c.in-Some.field-0-0.now in
    let x = crossing_of c.in-Some.field-0-1.now (frame_under frames n) in
    let behind = crossings_of first.0 frames in
    let waiting : c.arrivals.self.state.waiting ≡ (n, x) ∷ behind = ap (λ (v : WorldView). v.state.waiting) (sym c.self.view_is) ∙ ap (λ names. crossings_of names frames) first.1 in
    let draining = subst (λ k. AreDraining c.args.self.now c.args.out.now c.args.most k c.arrivals.self c.arrivals.out) (one_less c.arrivals.left c.arrivals-test.true) c.arrivals.invariant.draining in
    let passed : HasArrived c.arrivals.self c.in-Some.field-0-0.now false c.arrivals.out c.arrive.new.out c.arrive.new.self = c.in_ok-arrive.ensures in
    record {
      draining = drain_goes_on c.args.self.now c.args.out.now c.args.most (c.arrivals.left - 1) c.arrivals.self c.arrive.new.self c.arrivals.out c.arrive.new.out n x behind draining waiting passed;
      taken = ap (λ (v : WorldView). v.whole) passed.rest ∙ c.arrivals.invariant.taken;
    }

pub returns : goal.returns
returns c = drain_ends c.args.self.now c.args.out.now c.args.most c.arrivals.left c.arrivals.self c.arrivals.out c.arrivals.invariant.draining (inl (omega (arith, c.arrivals-test.false)))
