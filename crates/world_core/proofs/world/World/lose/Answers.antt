use Rattle.std.specs.BTreeMap.{is_at}
use Rattle.std.specs.Map.{remove_entry}
use Rattle.std.specs.Ordering.{nat_cmp}
use Rattle.std.proofs.Common.{◌≡◌, false, [], IsSome, map, option_map, sym, ap, ◌∙◌, subst, append-nil}
use Rattle.std.proofs.lemmas.Option.{none-some}
use Rattle.chassis_sim.specs.State.{SimView, numbered, without}
use Rattle.physical_flows.proofs.FlowSearch.{some_of}
use Rattle.sim_laws.proofs.WaitingCrossings.{crossings_kept}
use Rattle.sim_laws.proofs.WaitingLists.{numbered_map, removed_map}
use Rattle.sim_laws.specs.Held.{frame_of_crossing}
use Rattle.sim_laws.specs.Sound.{AreCrossings}
use Rattle.sim_laws.specs.journeys.Refining.{without_crossing}
use Rattle.sim_laws.specs.journeys.SeenLists.{lists_seen}
use Rattle.tuple_space.specs.declared.space.TupleSpace.{TupleSpace}
use Rattle.world_core.proofs.WaitingNames.{all_names, removed_names, seen_front}
use Rattle.world_core.specs.Inside.{seen_of}
use Rattle.world_core.specs.Waiting.{crossings_of}
use Rattle.world_core.specs.WorldView.{AreHeld, WorldView}
use Rattle.world_core.proofs.world.World.lose.Goals as goal

pub unreachable-requires-in-Err-NoFrame : goal.unreachable-requires-in-Err-NoFrame
unreachable-requires-in-Err-NoFrame c =
    let old = seen_of c.self.inside in
    let waits : IsSome (numbered old.state.waiting c.args.frame) = subst (λ (v : WorldView). IsSome (numbered v.state.waiting c.args.frame)) (sym c.self.view_is) c.requires.waits in
    let held : AreHeld old.state old.zones old.sim = subst (λ (v : WorldView). AreHeld v.state v.zones v.sim) (sym c.self.view_is) c.requires.held in
    let answer = rw c.in-Err-NoFrame.field-0-is at c.in-Err-NoFrame.ensures in
    let x = some_of (numbered old.state.waiting c.args.frame) waits in
    let found = ap (λ ws. numbered ws c.args.frame) held.waiting ∙ numbered_map (λ y. (frame_of_crossing old.state.keys (0, y)).1) old.state.waiting c.args.frame ∙ ap (λ o. option_map (λ y. (frame_of_crossing old.state.keys (0, y)).1) o) x.1 in
    absurd (none-some _ (sym answer.1 ∙ found))

pub returns : goal.returns
returns c =
    let old = seen_of c.self.inside in
    let n = c.args.frame in
    let names = c.remove.new.self.entries in
    let left = without_crossing old.state n in
    let gone = without old.sim n in
    let crossings : AreCrossings old.state = subst (λ (v : WorldView). AreCrossings v.state) (sym c.self.view_is) c.requires.crossings in
    let held : AreHeld old.state old.zones old.sim = subst (λ (v : WorldView). AreHeld v.state v.zones v.sim) (sym c.self.view_is) c.requires.held in
    let names_are : names ≡ all_names left.waiting = c.remove.ensures.entries ∙ removed_names c.self.inside.crossings.entries old.sim.waiting n in
    let frames : gone.waiting ≡ map (frame_of_crossing old.state.keys) left.waiting =
    ap (λ ws. remove_entry (is_at (nat_cmp n)) ws) held.waiting ∙ removed_map (λ x. (frame_of_crossing old.state.keys (0, x)).1) old.state.waiting n in
    let seen : crossings_of names gone.waiting ≡ left.waiting = seen_front left left.waiting [] gone (sym (append-nil left.waiting)) (crossings_kept false old.state n crossings) frames names names_are in
    let then' : c.lose.new.self.state ≡ gone = ap (λ (s : SimView TupleSpace). s.state) c.in-Ok.ensures.1 in
    (λ i. record old { state = record old.state { lists = lists_seen old.zones (then' i).zones; waiting = crossings_of names (then' i).waiting; next = (then' i).next }; sim = then' i })
    ∙ (λ i. record old { state = record old.state { waiting = seen i }; sim = gone })
    ∙ ap (λ (v : WorldView). record v { state = without_crossing v.state n; sim = without v.sim n }) c.self.view_is
