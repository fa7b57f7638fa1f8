-- The one frame that a packet sends where none waits, which arrives before it is named.
use Rattle.std.specs.Prelude.{◌≡◌, ◌<◌, ◌^◌, ◌+◌, ◌++◌, ℕ, suc, false, cond, List, [], ◌∷◌, Some, drop, length, map, refl}
use Rattle.std.proofs.Common.{sym, ap, ◌∙◌, subst, arith}
use Rattle.chassis_sim.specs.Passing.{IsArrived, IsInjected}
use Rattle.chassis_sim.specs.State as sim
use Rattle.chassis_sim.specs.State.{numbered}
use Rattle.chassis_sim.specs.declared.out.SimOut.{SimOut}
use Rattle.inet_packet.specs.Whole.{IsWhole}
use Rattle.inet_packet.specs.declared.packet.Packet as inet
use Rattle.net_model.specs.Journey.{numbered_from}
use Rattle.net_model.specs.declared.crossing.Crossing.{Crossing}
use Rattle.ovn_base.specs.declared.name.Name.{Name}
use Rattle.sim_laws.specs.Held.{frame_of_crossing}
use Rattle.sim_laws.specs.Passing.{most_arrivals}
use Rattle.sim_laws.specs.journeys.Refining.{ArrivalJourneyLaw, EntryJourneyLaw, waiting_on}
use Rattle.sim_laws.specs.journeys.UnderWay.{IsUnderWay}
use Rattle.switch_engine.specs.Outcome.{of_program}
use Rattle.switch_engine.specs.declared.effect.NetEffect.{NetEffect}
use Rattle.world_core.proofs.DrainSteps.{drain_begins, drain_goes_on, none_there, own_waits}
use Rattle.world_core.proofs.KeptCrossings.{KeepsOn, entering, keeps_on}
use Rattle.world_core.proofs.PacketState.{GoesOn, arrival_goes_on, has_room, world_with}
use Rattle.world_core.proofs.WaitingNames.{all_names, names_back, own_number}
use Rattle.world_core.specs.Draining.{AreDraining, HasBegun, IsUnnamed}
use Rattle.world_core.specs.Inside.{seen_of}
use Rattle.world_core.specs.Packets.{HasArrived, HasEntered, sent_among}
use Rattle.world_core.specs.Waiting.{crossings_of}
use Rattle.world_core.specs.WorldView.{AreHeld, WorldView}
use Rattle.world_core.specs.declared.world.World.TheInside.{Inside}

-- ---- one frame

one_numbered : (n : ℕ) (xs : List Crossing) → length xs ≡ 1 → (x : Crossing) × (numbered_from n xs ≡ (n, x) ∷ [])
one_numbered n [] e = absurd (omega (arith, e))
one_numbered n (x ∷ []) e = (x, refl)
one_numbered n (x ∷ y ∷ xs) e = absurd (omega (arith, e))

module _ (law : EntryJourneyLaw) (w : Inside) (v : WorldView) (view : seen_of w ≡ v) (p : Name) (packet : inet.Packet) (before between : SimOut) (s : sim.SimState) (effects : List NetEffect) (under_way : IsUnderWay v.state v.zones (sent_among before.effects))
    (held : AreHeld v.state v.zones v.sim) (whole : IsWhole packet) (injected : IsInjected of_program w.sim.state p w.clock packet before between s) (are : effects ≡ drop (length before.effects) between.effects) where
  pub enters : GoesOn (seen_of w) (seen_of w).state.waiting s effects (λ new. HasEntered (seen_of w) p packet before between new)
  enters = entering law w v view p packet before between s effects under_way held whole injected are

  -- the world in which the frame waits
  abbrev pub first_sent : WorldView
  first_sent = world_with (seen_of w) ((seen_of w).state.waiting ++ enters.crossings) s

  pub first_entered : HasEntered v p packet before between first_sent
  first_entered = subst (λ (k : WorldView). HasEntered k p packet before between first_sent) view enters.done

  -- it is one in which the frame may arrive unnamed
  module _ (none : length w.crossings.entries ≡ 0) (n : ℕ) (number : n ≡ w.sim.state.next) (one : s.next ≡ n + 1) where
    no_names : w.crossings.entries ≡ []
    no_names = none_there w.crossings.entries (λ some. omega (arith, none, some))

    it_waits : (x : Crossing) × (first_sent.state.waiting ≡ (n, x) ∷ [])
    it_waits =
        let count = enters.count in
        let few : length enters.sent ≡ 1 = omega (arith, count, one, number) in
        let alone = one_numbered w.sim.state.next enters.sent few in
        (alone.0, (λ i. crossings_of (no_names i) w.sim.state.waiting ++ enters.crossings) ∙ enters.numbers ∙ alone.1 ∙ (λ i. (sym number i, alone.0) ∷ []))

    pub first_unnamed : (now : WorldView) → now ≡ world_with (seen_of w) (crossings_of w.crossings.entries s.waiting) s → IsUnnamed first_sent n between now
    first_unnamed now is = record {
      crossing = it_waits.0;
      alone = it_waits.1;
      under_way = enters.done.under_way;
      held = enters.done.held;
      now_is = is ∙ (λ i. world_with (seen_of w) (crossings_of (no_names i) s.waiting) s);
    }

-- ---- it arrives

module _ (w : Inside) (v : WorldView) (now : WorldView) (view : seen_of w ≡ now) (n : ℕ) (before : SimOut) (u : IsUnnamed v n before now) where
  seen_is : seen_of w ≡ record v { state = record v.state { waiting = [] } }
  seen_is = view ∙ u.now_is

  pub room_of : length before.effects < 2 ^ 64 → w.sim.state.next < 2 ^ 127
  room_of fits = subst (λ (k : WorldView). k.state.next < 2 ^ 127) (sym seen_is) (has_room v.state v.zones before.effects fits u.under_way)

  -- the frame waits
  pub it_is_there : numbered w.sim.state.waiting n ≡ Some (frame_of_crossing v.state.keys (n, u.crossing)).1
  it_is_there =
      ap (λ (k : WorldView). numbered k.sim.waiting n) seen_is ∙ ap (λ ws. numbered ws n) u.held.waiting ∙ ap (λ ws. numbered (map (frame_of_crossing v.state.keys) ws) n) u.alone
      ∙ own_waits n (frame_of_crossing v.state.keys (n, u.crossing)).1 []

module _ (law : ArrivalJourneyLaw) (w : Inside) (v : WorldView) (now : WorldView) (view : seen_of w ≡ now) (n : ℕ) (before after : SimOut) (s : sim.SimState) (effects : List NetEffect) (u : IsUnnamed v n before now) (arrives : IsArrived of_program w.sim.state n false w.clock before after s)
    (are : effects ≡ drop (length before.effects) after.effects) where
  is : seen_of w ≡ record v { state = record v.state { waiting = [] } }
  is = seen_is w v now view n before u

  none_on : waiting_on false n v.state.waiting ≡ []
  none_on = ap (λ ws. waiting_on false n ws) u.alone ∙ ap (λ b. cond b [] ((n, u.crossing) ∷ [])) (own_number n)

  goes : GoesOn v [] s effects (λ new. HasArrived v n false before after new)
  goes =
      let so : IsArrived of_program v.sim n false v.state.clock before after s = subst (λ (k : WorldView). IsArrived of_program k.sim n false k.state.clock before after s) is arrives in
      subst (λ ws. GoesOn v ws s effects (λ new. HasArrived v n false before after new)) none_on (arrival_goes_on law v n false before after s effects u.under_way u.held so are)

  nobody : w.crossings.entries ≡ []
  nobody = sym (names_back w.crossings.entries w.sim.state.waiting) ∙ ap (λ (k : WorldView). all_names k.state.waiting) is

  pub unnamed_keeps : (new : WorldView) → new ≡ world_with (seen_of w) (crossings_of w.crossings.entries s.waiting) s → KeepsOn new effects (λ new. HasArrived v n false before after new)
  unnamed_keeps new then' = keeps_on v [] s effects before after _ _ goes new (then' ∙ (λ i. world_with (is i) (crossings_of (nobody i) s.waiting) s))

-- ---- and so a drain has begun

-- where nothing arrived yet
pub begun_with_none : (old : WorldView) (p : Name) (packet : inet.Packet) (before after : SimOut) (new : WorldView) → HasEntered old p packet before after new → HasBegun old p packet before after most_arrivals new
begun_with_none old p packet before after new e = record {
  between = after;
  first = new;
  entered = e;
  draining = drain_begins new after most_arrivals e.under_way e.held;
}

-- and where it did
pub begun_with_one : (old : WorldView) (p : Name) (packet : inet.Packet) (before between after : SimOut) (first now new : WorldView) (n left : ℕ) → HasEntered old p packet before between first → IsUnnamed first n between now → HasArrived first n false between after new → most_arrivals ≡ suc left
    → HasBegun old p packet before after left new
begun_with_one old p packet before between after first now new n left e u a most = record {
  between = between;
  first = first;
  entered = e;
  draining =
      drain_goes_on first between most_arrivals left first new between after n u.crossing [] (subst (λ k. AreDraining first between most_arrivals k first between) most (drain_begins first between most_arrivals u.under_way u.held)) u.alone a;
}
