use Rattle.std.proofs.Common.{◌≡◌, ◌+◌, ap, ◌∙◌, subst, sym}
use Rattle.chassis_sim.specs.State as sim
use Rattle.net_model.specs.State.{expired_lists}
use Rattle.sim_laws.specs.journeys.SeenLists.{lists_seen}
use Rattle.sim_laws.specs.journeys.Ticking.{all_zones_expired}
use Rattle.world_core.proofs.ClockEvents.{lists_left}
use Rattle.world_core.specs.Inside.{seen_of}
use Rattle.world_core.specs.StepParts.{IsTaken, clocked_world}
use Rattle.world_core.specs.Waiting.{crossings_of}
use Rattle.world_core.specs.WorldView.{WorldView}
use Rattle.world_core.proofs.world.World.tick.Goals as goal

pub returns : goal.returns
returns c =
    let old = seen_of c.self.inside in
    let now = old.state.clock + c.args.seconds in
    let names = c.self.inside.crossings.entries in
    let taken : IsTaken old = subst IsTaken (sym c.self.view_is) c.requires.taken in
    let s = all_zones_expired now old.sim in
    let then' : c.expire.new.self.state ≡ s = c.expire.ensures.state in
    let lists : lists_seen old.zones s.zones ≡ expired_lists now old.state.lists = lists_left old.state old.zones old.sim c.args.seconds taken.consistent taken.held in
    (λ i. record old { state = record old.state { lists = lists_seen old.zones (then' i).zones; waiting = crossings_of names (then' i).waiting; next = (then' i).next; clock = now }; sim = then' i })
    ∙ (λ i. record old { state = record old.state { lists = lists i; clock = now }; sim = s })
    ∙ ap (λ (v : WorldView). clocked_world v c.args.seconds) c.self.view_is
