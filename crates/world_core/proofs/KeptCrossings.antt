-- The crossings of the frames that packets sent are kept behind those that are kept already.
use Rattle.std.specs.Prelude.{◌≡◌, ◌++◌, ℕ, Bool, List, drop, length, refl}
use Rattle.std.proofs.Common.{sym, ◌∙◌, subst}
use Rattle.chassis_sim.specs.InNames.{frames_sent}
use Rattle.chassis_sim.specs.Passing.{IsArrived, IsInjected}
use Rattle.chassis_sim.specs.State as sim
use Rattle.chassis_sim.specs.declared.out.SimOut.{SimOut}
use Rattle.inet_packet.specs.Whole.{IsWhole}
use Rattle.inet_packet.specs.declared.packet.Packet as inet
use Rattle.nb_rules.specs.Valid.{IsValid}
use Rattle.net_model.specs.State.{State}
use Rattle.net_model.specs.Trail.{End}
use Rattle.net_model.specs.declared.crossing.Crossing.{Crossing}
use Rattle.ovn_base.specs.declared.name.Name.{Name}
use Rattle.physical_flows.specs.RecordKeys.{HaveKeys}
use Rattle.sim_laws.specs.Held.{HaveOwnersNames}
use Rattle.sim_laws.specs.journeys.Refining.{ArrivalJourneyLaw, EntryJourneyLaw, waiting_on}
use Rattle.sim_laws.specs.journeys.UnderWay.{IsUnderWay}
use Rattle.switch_engine.specs.Outcome.{of_program}
use Rattle.switch_engine.specs.declared.effect.NetEffect.{NetEffect}
use Rattle.world_core.proofs.PacketState.{GoesOn, arrival_goes_on, entry_goes_on, world_with}
use Rattle.world_core.proofs.WaitingNames.{named_on, names_back, names_on, on_named, others_wait, seen_front}
use Rattle.world_core.specs.Inside.{seen_of}
use Rattle.world_core.specs.Packets.{CanBeKept, HasArrived, HasEntered, HasPassed, sent_among}
use Rattle.world_core.specs.Waiting.{AreWaiting, crossings_of}
use Rattle.world_core.specs.WorldView.{AreHeld, WorldView}
use Rattle.world_core.specs.declared.world.World.TheInside.{Inside}

-- ---- the crossings of any packets

-- What is needed of a world in which the crossings of the frames among the effects are to be kept, and what holds once they are.
pub record KeepsOn (now : WorldView) (effects : List NetEffect) (Done : WorldView → Type 0) : Type 0 where
  pub crossings : List (ℕ × Crossing)
  pub can : CanBeKept now.state effects crossings
  pub valid : IsValid now.state.config.net
  pub keys : HaveKeys now.state.config.net now.state.keys
  pub names : HaveOwnersNames now.state.keys now.sim
  pub waiting : AreWaiting now.sim (frames_sent effects)
  pub done : (new : WorldView) → new ≡ record now { state = record now.state { waiting = now.state.waiting ++ crossings } } → Done new

-- the world in which those are kept that wait on
pub keeps_on : (old : WorldView) (first : List (ℕ × Crossing)) (s : sim.SimState) (effects : List NetEffect) (before after : SimOut) (Passed : sim.SimState → SimOut → SimOut → sim.SimState → Type 0) (Moved : State → List End → State → Type 0)
    → GoesOn old first s effects (λ new. HasPassed old before after new Passed Moved) → (now : WorldView) → now ≡ world_with old first s → KeepsOn now effects (λ new. HasPassed old before after new Passed Moved)
keeps_on old first s effects before after Passed Moved g now is = subst (λ (k : WorldView). KeepsOn k effects (λ new. HasPassed old before after new Passed Moved)) (sym is) (record {
  crossings = g.crossings;
  can = g.can;
  valid = g.done.under_way.valid;
  keys = g.done.under_way.keys;
  names = g.done.held.names;
  waiting = others_wait (world_with old (first ++ g.crossings) s).state first g.crossings s refl g.done.under_way.crossings g.done.held.waiting (frames_sent effects) g.can.sent.frames;
  done = λ new then'. subst (λ (k : WorldView). HasPassed old before after k Passed Moved) (sym then') g.done;
})

-- ---- a packet that goes in

module _ (law : EntryJourneyLaw) (w : Inside) (v : WorldView) (view : seen_of w ≡ v) (p : Name) (packet : inet.Packet) (before after : SimOut) (s : sim.SimState) (effects : List NetEffect) (under_way : IsUnderWay v.state v.zones (sent_among before.effects))
    (held : AreHeld v.state v.zones v.sim) (whole : IsWhole packet) (injected : IsInjected of_program w.sim.state p w.clock packet before after s) (are : effects ≡ drop (length before.effects) after.effects) where
  pub entering : GoesOn (seen_of w) (seen_of w).state.waiting s effects (λ new. HasEntered (seen_of w) p packet before after new)
  entering =
      entry_goes_on law (seen_of w) p packet before after s effects (subst (λ (v : WorldView). IsUnderWay v.state v.zones (sent_among before.effects)) (sym view) under_way)
      (subst (λ (v : WorldView). AreHeld v.state v.zones v.sim) (sym view) held) whole injected are

  -- those that are kept are those that waited
  seen_still : crossings_of w.crossings.entries s.waiting ≡ (seen_of w).state.waiting
  seen_still =
      seen_front (world_with (seen_of w) ((seen_of w).state.waiting ++ entering.crossings) s).state (seen_of w).state.waiting entering.crossings s refl entering.done.under_way.crossings entering.done.held.waiting
      w.crossings.entries (sym (names_back w.crossings.entries w.sim.state.waiting))

  pub entry_keeps : (now : WorldView) → now ≡ world_with (seen_of w) (crossings_of w.crossings.entries s.waiting) s → KeepsOn now effects (λ new. HasEntered v p packet before after new)
  entry_keeps now is =
      subst (λ (k : WorldView). KeepsOn now effects (λ new. HasEntered k p packet before after new)) view
      (keeps_on (seen_of w) (seen_of w).state.waiting s effects before after _ _ entering now (is ∙ (λ i. world_with (seen_of w) (seen_still i) s)))

-- ---- a frame that arrives

module _ (law : ArrivalJourneyLaw) (w : Inside) (v : WorldView) (view : seen_of w ≡ v) (n : ℕ) (keep : Bool) (before after : SimOut) (s : sim.SimState) (effects : List NetEffect) (under_way : IsUnderWay v.state v.zones (sent_among before.effects))
    (held : AreHeld v.state v.zones v.sim) (arrives : IsArrived of_program w.sim.state n keep w.clock before after s) (are : effects ≡ drop (length before.effects) after.effects) where
  abbrev waits_on : List (ℕ × Crossing)
  waits_on = waiting_on keep n (seen_of w).state.waiting

  arriving : GoesOn (seen_of w) waits_on s effects (λ new. HasArrived (seen_of w) n keep before after new)
  arriving =
      arrival_goes_on law (seen_of w) n keep before after s effects (subst (λ (v : WorldView). IsUnderWay v.state v.zones (sent_among before.effects)) (sym view) under_way)
      (subst (λ (v : WorldView). AreHeld v.state v.zones v.sim) (sym view) held) arrives are

  -- those that are kept are those that wait on
  seen_on : waiting_on keep n (crossings_of w.crossings.entries s.waiting) ≡ waits_on
  seen_on =
      named_on keep n w.crossings.entries s.waiting
      ∙ seen_front (world_with (seen_of w) (waits_on ++ arriving.crossings) s).state waits_on arriving.crossings s refl arriving.done.under_way.crossings arriving.done.held.waiting (names_on keep n w.crossings.entries)
      (on_named keep n w.crossings.entries w.sim.state.waiting)

  pub arrival_keeps : (now : WorldView) → now ≡ world_with (seen_of w) (waiting_on keep n (crossings_of w.crossings.entries s.waiting)) s → KeepsOn now effects (λ new. HasArrived v n keep before after new)
  arrival_keeps now is =
      subst (λ (k : WorldView). KeepsOn now effects (λ new. HasArrived k n keep before after new)) view
      (keeps_on (seen_of w) waits_on s effects before after _ _ arriving now (is ∙ (λ i. world_with (seen_of w) (seen_on i) s)))
