use Rattle.std.proofs.Common.{◌≡◌, sym, ap, ◌∙◌}
use Rattle.sim_laws.specs.journeys.Refining.{waiting_on}
use Rattle.world_core.proofs.WaitingNames.{removed_named}
use Rattle.world_core.specs.Inside.{seen_of}
use Rattle.world_core.specs.Waiting.{crossings_of}
use Rattle.world_core.specs.WorldView.{WorldView}
use Rattle.world_core.proofs.world.World.let_go.Goals as goal

pub returns-then-not-keep : goal.returns-then-not-keep
returns-then-not-keep c =
    let old = seen_of c.self.inside in
    let n = c.args.frame in
    let left : crossings_of c.remove.new.self.entries old.sim.waiting ≡ waiting_on c.args.keep n old.state.waiting =
    ap (λ es. crossings_of es old.sim.waiting) c.remove.ensures.entries ∙ sym (removed_named n c.self.inside.crossings.entries old.sim.waiting) ∙ ap (λ k. waiting_on k n old.state.waiting) (sym c.if-not-keep.true) in
    (λ i. record old { state = record old.state { waiting = left i } }) ∙ ap (λ (v : WorldView). record v { state = record v.state { waiting = waiting_on c.args.keep n v.state.waiting } }) c.self.view_is

pub returns-else-not-keep : goal.returns-else-not-keep
returns-else-not-keep c =
    let now = c.args.self.now in
    let left : now.state.waiting ≡ waiting_on c.args.keep c.args.frame now.state.waiting = ap (λ k. waiting_on k c.args.frame now.state.waiting) (sym c.if-not-keep.false) in
    λ i. record now { state = record now.state { waiting = left i } }
