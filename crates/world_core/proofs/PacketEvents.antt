-- What an event that takes packets leaves, once it is counted.
use Rattle.std.specs.Prelude.{◌≡◌, ◌<◌, ◌≤◌, ◌^◌, ◌+◌, ◌*◌, ◌++◌, ℕ, Bool, true, false, cond, List, [], None, length, refl}
use Rattle.std.specs.Option.{option_and_then}
use Rattle.std.proofs.Common.{sym, ap, ◌∙◌, subst, arith}
use Rattle.std.proofs.lemmas.Bool.{false≢true}
use Rattle.address_sets.specs.Members.{sets_of}
use Rattle.chassis_sim.specs.Passing as passing
use Rattle.chassis_sim.specs.State as sim
use Rattle.chassis_sim.specs.declared.out.SimOut.{SimOut}
use Rattle.conn_zones.specs.Zoning.{Zoned}
use Rattle.edit_reader.specs.declared.event.Event.{Event}
use Rattle.edit_reader.specs.declared.event.Event.TheVariants as event_of
use Rattle.event_lines.specs.Lines.{accepted_lines}
use Rattle.inet_packet.specs.declared.packet.Packet as inet
use Rattle.nb_edits.specs.EditLeaves.{AreListed}
use Rattle.net_model.specs.Journey.{arrive_all, arrive_one, enter_and_arrive, enter_one, lose_one}
use Rattle.net_model.specs.State.{State, event_count, finished}
use Rattle.ovn_base.specs.declared.limits.TheConstants.{MAX_CLOCK}
use Rattle.ovn_base.specs.declared.name.Name.{Name}
use Rattle.sim_laws.proofs.journey_laws.Draining.{effects_append}
use Rattle.sim_laws.proofs.journey_laws.Finishing.{begins, finishes}
use Rattle.sim_laws.proofs.journey_laws.Losing.{loses_so}
use Rattle.sim_laws.proofs.journey_laws.Moving.{all_drain, enters_and_drains, travels}
use Rattle.sim_laws.specs.Effects.{effects_of}
use Rattle.sim_laws.specs.Passing.{most_arrivals, AreDrained, no_out}
use Rattle.sim_laws.specs.journeys.Refining.{without_crossing}
use Rattle.sim_laws.specs.journeys.UnderWay.{IsUnderWay}
use Rattle.switch_engine.specs.Outcome.{of_program}
use Rattle.switch_engine.specs.Zones.{ZoneLists, zone_at}
use Rattle.switch_engine.specs.declared.effect.NetEffect.{NetEffect}
use Rattle.switch_engine.specs.declared.walk.Walk.{Walk}
use Rattle.world_setup.proofs.FreedKeys.{clock_still}
use Rattle.world_core.proofs.KeptLists.{does_keep}
use Rattle.world_core.proofs.PacketState.{frames_few}
use Rattle.world_core.proofs.Refusal.{taken_of}
use Rattle.world_core.specs.EventPasses.{Passes}
use Rattle.world_core.specs.Outcome.{IsAccepted, matched, moves_packets}
use Rattle.world_core.specs.Packets.{AreGone, HasArrived, HasEntered, IsPacketOf, sent_among, state_with}
use Rattle.world_setup.specs.Refusing.{no_frame}
use Rattle.world_setup.specs.Step.{Does, Moves}
use Rattle.world_core.specs.StepParts.{IsDone, IsTaken}
use Rattle.world_core.specs.WorldView.{AreHeld, IsSound, WorldView}
use Rattle.world_setup.specs.Zones.{Relists, Rezones}

-- ---- the event is done

-- a state that is left by packets is counted: with it the world is one that events can leave
pub finish_done : (old : WorldView) (event : Event) (effects : List NetEffect) (walks : List Walk) (mid new : WorldView) (more count : ℕ) → more ≤ 2 ^ 64 → IsTaken old → event_count old.state < 2 ^ 42 → mid.state ≡ state_with old.state mid.state.lists mid.state.waiting mid.state.next
    → Does old.state event effects mid.state → Passes of_program old.state.clock old.sim event (record { effects = effects; walks = walks }) mid.sim → IsUnderWay mid.state mid.zones more → AreHeld mid.state mid.zones mid.sim
    → mid ≡ record old { state = mid.state; sim = mid.sim } → new ≡ record mid { state = finished mid.state } → Rezones event old.zones old.zones → (moves_packets event ≡ false → Relists event old.state.clock old.zones old.zones old.sim mid.sim) → count ≡ matched walks → IsDone old event effects walks count new
finish_done old event effects walks mid new more count few t room still does passes u held rest then zones lists counts =
    let same : event_count mid.state ≡ event_count old.state = ap event_count still in
    let end = finishes mid.state mid.zones (sets_of mid.state.config.net) more mid.sim u few (omega (arith, room, same)) held in
    let whole : mid.whole ≡ false = ap (λ (w : WorldView). w.whole) rest ∙ t.taken in
    let zoned : mid.zones ≡ old.zones = ap (λ (w : WorldView). w.zones) rest in
    let marks : AreListed mid.state.config.net = subst (λ (m : State). AreListed m.config.net) (sym still) t.consistent.marks in
    let clock : mid.state.clock ≤ MAX_CLOCK * event_count mid.state = subst (λ (m : State). m.clock ≤ MAX_CLOCK * event_count m) (sym still) t.consistent.clock in
    record {
      step = record { mid = mid.state; does = does; state = ap (λ (w : WorldView). w.state) then };
      passed = subst (λ s. Passes of_program old.state.clock old.sim event (record { effects = effects; walks = walks }) s) (sym (ap (λ (w : WorldView). w.sim) then)) passes;
      counts = counts;
      zones = subst (λ z. Rezones event old.zones z) (sym (ap (λ (w : WorldView). w.zones) then ∙ zoned)) zones;
      lists = λ none. subst (λ (w : WorldView). Relists event old.state.clock old.zones w.zones old.sim w.sim) (sym then) (subst (λ z. Relists event old.state.clock old.zones z old.sim mid.sim) (sym zoned) (lists none));
      now = subst IsTaken (sym then) (record { consistent = record { at_rest = end.0; marks = marks; clock = clock_still mid.state.clock mid.state.accepted mid.state.refused clock; lists = does_keep old.state effects mid.state t.consistent.lists event does }; held = end.1; taken = whole });
    }

-- an event that moves packets is none that moves none
moves_some : {X : Type 0} → true ≡ false → X
moves_some e = absurd (false≢true (sym e))

-- what is left of a state but for the number of the next frame
next_aside : (m n : State) (next : ℕ) → n ≡ state_with m n.lists n.waiting next → n ≡ state_with m n.lists n.waiting n.next
next_aside m n next is = is ∙ ap (λ k. state_with m n.lists n.waiting k) (sym (ap (λ (s : State). s.next) is))

-- nothing came before
pub record IsNothing (out : SimOut) : Type 0 where
  pub effects : out.effects ≡ []
  pub walks : out.walks ≡ []

nothing : (out : SimOut) → IsNothing out → out ≡ no_out
nothing out n = λ i. record { effects = n.effects i; walks = n.walks i }

-- no more frames were sent than there are effects
few_sent : (effects : List NetEffect) → length effects < 2 ^ 64 → sent_among effects ≤ 2 ^ 64
few_sent effects fits = let frames = frames_few effects in omega (arith, frames, fits)

pub entry_done : (old : WorldView) (p : Name) (frame : List ℕ) (packet : inet.Packet) (before after : SimOut) (mid new : WorldView) (count : ℕ) → IsPacketOf packet frame → IsTaken old → event_count old.state < 2 ^ 42 → IsNothing before → HasEntered old p packet before after mid
    → new ≡ record mid { state = finished mid.state } → length after.effects < 2 ^ 64 → count ≡ matched after.walks → IsDone old (event_of.Inject p frame) after.effects after.walks count new
entry_done old p frame packet before after mid new count is t room none h then fits counts =
    let m = old.state in
    finish_done old (event_of.Inject p frame) after.effects after.walks mid new (sent_among after.effects) count (few_sent after.effects fits) t room (next_aside m mid.state _ h.still)
    (record {
      packet = packet;
      whole = is.whole;
      frame_is = is.frame_is;
      moves = record { ends = h.ends; travels = travels m (enter_one p packet) h.ends mid.state h.moved; effects_are = h.effects ∙ ap (λ l. l ++ effects_of m.keys m.next h.ends) none.effects };
    })
    (record { packet = packet; whole = is.whole; frame_is = is.frame_is; injected = subst (λ b. passing.IsInjected of_program old.sim p m.clock packet b after mid.sim) (nothing before none) h.passed })
    h.under_way h.held h.rest then refl moves_some counts

pub arrival_done : (old : WorldView) (n : ℕ) (keep : Bool) (before after : SimOut) (mid new : WorldView) (count : ℕ) → IsTaken old → event_count old.state < 2 ^ 42 → IsNothing before → HasArrived old n keep before after mid
    → new ≡ record mid { state = finished mid.state } → length after.effects < 2 ^ 64 → count ≡ matched after.walks → IsDone old (cond keep (event_of.Repeat n) (event_of.Deliver n)) after.effects after.walks count new
arrival_done old n keep before after mid new count t room none h then fits counts = by keep h
  where
    moves : (k : Bool) → (a : HasArrived old n k before after mid) → Moves old.state (arrive_one n k) after.effects mid.state
    moves k a = record { ends = a.ends; travels = travels old.state (arrive_one n k) a.ends mid.state a.moved; effects_are = a.effects ∙ ap (λ l. l ++ effects_of old.state.keys old.state.next a.ends) none.effects }

    passed : (k : Bool) → (a : HasArrived old n k before after mid) → passing.IsArrived of_program old.sim n k old.state.clock no_out after mid.sim
    passed k a = subst (λ b. passing.IsArrived of_program old.sim n k old.state.clock b after mid.sim) (nothing before none) a.passed

    by : (k : Bool) → HasArrived old n k before after mid → IsDone old (cond k (event_of.Repeat n) (event_of.Deliver n)) after.effects after.walks count new
    by true a = finish_done old (event_of.Repeat n) after.effects after.walks mid new (sent_among after.effects) count (few_sent after.effects fits) t room (next_aside old.state mid.state _ a.still) (moves true a) (passed true a) a.under_way a.held a.rest then refl moves_some counts
    by false a = finish_done old (event_of.Deliver n) after.effects after.walks mid new (sent_among after.effects) count (few_sent after.effects fits) t room (next_aside old.state mid.state _ a.still) (moves false a) (passed false a) a.under_way a.held a.rest then refl moves_some counts

pub drain_done : (old : WorldView) (before after : SimOut) (mid new : WorldView) (count : ℕ) → IsTaken old → event_count old.state < 2 ^ 42 → IsNothing before → AreGone most_arrivals old before after mid
    → new ≡ record mid { state = finished mid.state } → length after.effects < 2 ^ 64 → count ≡ matched after.walks → IsDone old event_of.Drain after.effects after.walks count new
drain_done old before after mid new count t room none h then fits counts =
    let m = old.state in
    finish_done old event_of.Drain after.effects after.walks mid new (sent_among after.effects) count (few_sent after.effects fits) t room (next_aside m mid.state _ h.still)
    (record { ends = h.ends; travels = travels m arrive_all h.ends mid.state (all_drain m h.ends mid.state h.moved); effects_are = h.effects ∙ ap (λ l. l ++ effects_of m.keys m.next h.ends) none.effects })
    (subst (λ b. AreDrained of_program m.clock most_arrivals old.sim b after mid.sim) (nothing before none) h.passed) h.under_way h.held h.rest then refl moves_some counts

pub packet_done : (old : WorldView) (p : Name) (frame : List ℕ) (packet : inet.Packet) (before between after : SimOut) (first mid new : WorldView) (count : ℕ) → IsPacketOf packet frame → IsTaken old → event_count old.state < 2 ^ 42 → IsNothing before → HasEntered old p packet before between first
    → AreGone most_arrivals first between after mid → new ≡ record mid { state = finished mid.state } → length after.effects < 2 ^ 64 → count ≡ matched after.walks → IsDone old (event_of.Packet p frame) after.effects after.walks count new
packet_done old p frame packet before between after first mid new count is t room none e d then fits counts =
    let m = old.state in
    let k = first.state in
    let clock : k.clock ≡ m.clock = ap (λ (s : State). s.clock) e.still in
    let own : between.effects ≡ effects_of m.keys m.next e.ends = e.effects ∙ ap (λ l. l ++ effects_of m.keys m.next e.ends) none.effects in
    let all : after.effects ≡ effects_of m.keys m.next (e.ends ++ d.ends) =
    d.effects
    ∙ ap (λ l. l ++ effects_of k.keys k.next d.ends) own
    ∙ (λ i. effects_of m.keys m.next e.ends ++ effects_of (e.still i).keys (e.still i).next d.ends)
    ∙ sym (effects_append m.keys m.next e.ends d.ends) in
    let still : mid.state ≡ state_with m mid.state.lists mid.state.waiting mid.state.next = next_aside k mid.state _ d.still ∙ ap (λ (s : State). state_with s mid.state.lists mid.state.waiting mid.state.next) e.still in
    let rest : mid ≡ record old { state = mid.state; sim = mid.sim } = d.rest ∙ ap (λ (w : WorldView). record w { state = mid.state; sim = mid.sim }) e.rest in
    finish_done old (event_of.Packet p frame) after.effects after.walks mid new (sent_among after.effects) count (few_sent after.effects fits) t room still
    (record {
      packet = packet;
      whole = is.whole;
      frame_is = is.frame_is;
      moves = record { ends = e.ends ++ d.ends; travels = travels m (enter_and_arrive p packet) (e.ends ++ d.ends) mid.state (enters_and_drains m p packet e.ends d.ends k mid.state e.moved d.moved); effects_are = all };
    })
    (record {
      between = between;
      mid = first.sim;
      goes_in = record { packet = packet; whole = is.whole; frame_is = is.frame_is; injected = subst (λ b. passing.IsInjected of_program old.sim p m.clock packet b between first.sim) (nothing before none) e.passed };
      drained = subst (λ now. AreDrained of_program now most_arrivals first.sim between after mid.sim) clock d.passed;
    })
    d.under_way d.held rest then refl moves_some counts

-- what is handed on is what came
pub handed_on : (old new : WorldView) (event : Event) (out : SimOut) (effects : List NetEffect) (walks : List Walk) (count : ℕ) → effects ≡ out.effects → walks ≡ out.walks → IsDone old event out.effects out.walks count new
    → IsDone old event effects walks count new
handed_on old new event out effects walks count e w done =
    subst (λ es. IsDone old event es walks count new) (sym e) (subst (λ ws. IsDone old event out.effects ws count new) (sym w) done)

-- ---- events begin

-- a state between events is one in the midst of an event, of which nothing came yet
pub under_way_of : (w : WorldView) (effects : List NetEffect) → IsTaken w → effects ≡ [] → IsUnderWay w.state w.zones (sent_among effects)
under_way_of w effects t none = subst (λ es. IsUnderWay w.state w.zones (sent_among es)) (sym none) (begins w.state w.zones t.consistent.at_rest)

-- ---- a frame is lost

-- the world without the frame, before the event is counted, and once it is
abbrev pub lost_world : WorldView → ℕ → WorldView
lost_world w n = record w { state = without_crossing w.state n; sim = sim.without w.sim n; whole = false }

abbrev pub counted_world : WorldView → List Walk → WorldView
counted_world w walks = record w { state = finished w.state; walks = walks; whole = true }

-- its lists stay
lost_lists : (zones : Zoned) (now : ℕ) (s : sim.SimState) (n : ℕ) → Relists (event_of.Lose n) now zones zones s (sim.without s n)
lost_lists zones now s n chassis lists is z = sym (ap (option_and_then (λ (held : ZoneLists). zone_at held z)) is)

pub loss_taken : (old : WorldView) (n : ℕ) → IsSound old → event_count old.state < 2 ^ 42 → no_frame old.state n ≡ None → (before text : List ℕ) → text ≡ before ++ accepted_lines (event_count old.state + 1) [] 0
    → IsAccepted old (event_of.Lose n) before text (counted_world (lost_world old n) []) × IsSound (counted_world (lost_world old n) [])
loss_taken old n sound room allowed before text lines =
    let marked : WorldView = record old { whole = false } in
    let t : IsTaken marked = taken_of old sound in
    let mid = lost_world old n in
    let m = old.state in
    let lost = loses_so m old.zones (sets_of m.config.net) 0 old.sim n (begins m old.zones sound.consistent.at_rest) sound.held in
    let done =
    finish_done marked (event_of.Lose n) [] [] mid (record mid { state = finished mid.state }) 0 0 (omega arith) t room refl
    (record { ends = []; travels = travels m (lose_one n) [] (without_crossing m n) lost.0; effects_are = refl }) refl lost.1 lost.2 refl refl refl (λ none. lost_lists old.zones m.clock old.sim n) refl in (
      record { admitted = allowed; effects = []; step = done.step; passed = refl; zones = done.zones; lists = λ none. lost_lists old.zones m.clock old.sim n; text = lines },
      record { whole = refl; consistent = done.now.consistent; held = done.now.held },
    )
