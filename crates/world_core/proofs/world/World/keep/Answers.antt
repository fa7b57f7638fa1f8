use Rattle.std.proofs.Common.{◌≡◌, ap, ◌∙◌}
use Rattle.std.specs.BTreeMap.{insert_entry}
use Rattle.std.specs.Ordering.{nat_cmp}
use Rattle.world_core.specs.Inside.{seen_of}
use Rattle.world_core.specs.Waiting.{crossing_of, crossings_of, frame_under}
use Rattle.world_core.specs.WorldView.{WorldView}
use Rattle.world_core.specs.declared.crossing_names.CrossingNames.{CrossingNames}
use Rattle.world_core.proofs.WaitingNames.{insert_named}
use Rattle.world_core.proofs.world.World.keep.Goals as goal

pub returns : goal.returns
returns c =
    let old = seen_of c.self.inside in
    let n = c.args.frame in
    let own : CrossingNames = record { datapath = c.args.datapath; in_port = c.args.in_port; aim = c.args.aim } in
    let put : crossings_of c.insert.new.self.entries old.sim.waiting ≡ insert_entry nat_cmp old.state.waiting n (crossing_of own (frame_under old.sim.waiting n)) =
    ap (λ es. crossings_of es old.sim.waiting) c.in_ok-insert.ensures.entries ∙ insert_named old.sim.waiting c.self.inside.crossings.entries n own in
    (λ i. record old { state = record old.state { waiting = put i } })
    ∙ ap (λ (v : WorldView). record v { state = record v.state { waiting = insert_entry nat_cmp v.state.waiting n (crossing_of own (frame_under v.sim.waiting n)) } }) c.self.view_is
