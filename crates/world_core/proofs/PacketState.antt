-- What packets leave in a world: the state that the network is in, and the simulated chassis that hold it.
use Rattle.std.specs.Prelude.{◌≡◌, ◌≤◌, ◌<◌, ◌^◌, ◌+◌, ◌++◌, ℕ, suc, Bool, List, [], ◌∷◌, drop, length, refl}
use Rattle.std.proofs.Common.{sym, ap, ◌∙◌, subst, arith}
use Rattle.std.proofs.lemmas.Grind.{flat_map-append}
use Rattle.std.proofs.lemmas.List.{drop_at, length-append, length-map}
use Rattle.ovn_base.specs.lists.Among.{Among}
use Rattle.ovn_base.specs.declared.name.Name.{Name}
use Rattle.address_sets.specs.Members.{sets_of}
use Rattle.chassis_sim.specs.InNames.{frames_sent, sent_by}
use Rattle.chassis_sim.specs.Passing as passing
use Rattle.chassis_sim.specs.State as sim
use Rattle.chassis_sim.specs.declared.out.SimOut.{SimOut}
use Rattle.conn_zones.specs.Zoning.{Zoned}
use Rattle.inet_packet.specs.Whole.{IsWhole}
use Rattle.inet_packet.specs.declared.packet.Packet as inet
use Rattle.net_model.specs.Journey.{Traffic, arrive_one, enter_one, numbered_from}
use Rattle.net_model.specs.State.{State}
use Rattle.net_model.specs.Trail.{End, crossings_in}
use Rattle.net_model.specs.declared.crossing.Crossing.{Crossing}
use Rattle.sim_laws.proofs.EffectNames.{frames_named}
use Rattle.sim_laws.proofs.WaitingCrossings.{from_among}
use Rattle.sim_laws.proofs.journey_laws.ListsSeen.{lists_are_seen}
use Rattle.sim_laws.proofs.journey_laws.Telling.{may_still}
use Rattle.sim_laws.specs.Effects.{effects_of}
use Rattle.sim_laws.specs.Held.{frame_of_crossing}
use Rattle.sim_laws.specs.Sound.{MayWait}
use Rattle.sim_laws.specs.journeys.Holding.{HoldsNetwork}
use Rattle.sim_laws.specs.journeys.Moves.{MovesFor}
use Rattle.sim_laws.specs.journeys.Refining.{ArrivalJourneyLaw, EntryJourneyLaw, IsJourney, waiting_on}
use Rattle.sim_laws.specs.journeys.SeenLists.{lists_seen}
use Rattle.sim_laws.specs.journeys.UnderWay.{IsUnderWay}
use Rattle.switch_engine.specs.Outcome.{of_program}
use Rattle.switch_engine.specs.declared.effect.NetEffect.{NetEffect}
use Rattle.switch_engine.specs.declared.effect.NetEffect.TheVariants as net
use Rattle.world_core.specs.Packets.{CanBeKept, HasArrived, HasEntered, HasPassed, sent_among, state_with}
use Rattle.world_core.specs.WorldView.{AreHeld, WorldView}
use Rattle.tunnel_keys.specs.Keys.{Keys}

-- the world with other crossings, and other simulated chassis, whose zones show the connection lists
abbrev pub world_with : WorldView → List (ℕ × Crossing) → sim.SimState → WorldView
world_with w waiting s = record w { state = state_with w.state (lists_seen w.zones s.zones) waiting s.next; sim = s }

-- what packets leave, once the crossings of the frames that they sent wait behind these
pub record GoesOn (old : WorldView) (first : List (ℕ × Crossing)) (s : sim.SimState) (effects : List NetEffect) (Done : WorldView → Type 0) : Type 0 where
  pub sent : List Crossing
  pub count : s.next ≡ old.state.next + length sent
  pub crossings : List (ℕ × Crossing)
  pub numbers : crossings ≡ numbered_from old.state.next sent
  pub can : CanBeKept (world_with old first s).state effects crossings
  pub done : Done (world_with old (first ++ crossings) s)

-- crossings can be kept as well behind the same ones
pub can_also : (m : State) (waiting : List (ℕ × Crossing)) (effects : List NetEffect) (ws : List (ℕ × Crossing)) → waiting ≡ m.waiting → CanBeKept m effects ws → CanBeKept (record m { waiting = waiting }) effects ws
can_also m waiting effects ws same can = subst (λ l. CanBeKept (record m { waiting = l }) effects ws) (sym same) can

-- ---- how many frames were sent

-- there are no more frames than effects
pub frames_few : (effects : List NetEffect) → sent_among effects ≤ length effects
frames_few [] = omega arith
frames_few (net.DatapathKey name key ∷ es) = let rest = frames_few es in omega (arith, rest)
frames_few (net.PortKey name key ∷ es) = let rest = frames_few es in omega (arith, rest)
frames_few (net.PickBackend datapath vip backend ∷ es) = let rest = frames_few es in omega (arith, rest)
frames_few (net.PickPort router port ∷ es) = let rest = frames_few es in omega (arith, rest)
frames_few (net.Tunnel n from to bytes ∷ es) = let rest = frames_few es in omega (arith, rest)
frames_few (net.Out port packet ∷ es) = let rest = frames_few es in omega (arith, rest)
frames_few (net.Drop datapath port cause ∷ es) = let rest = frames_few es in omega (arith, rest)
frames_few (net.Lost n ∷ es) = let rest = frames_few es in omega (arith, rest)

-- so the next frame has a number
pub has_room : (m : State) (zones : Zoned) (effects : List NetEffect) → length effects < 2 ^ 64 → IsUnderWay m zones (sent_among effects) → m.next < 2 ^ 127
has_room m zones effects fits u = let few = u.few in let sent = u.few_sent in let frames = frames_few effects in omega (arith, few, sent, frames, fits)

numbers_as_many : (n : ℕ) (xs : List Crossing) → length (numbered_from n xs) ≡ length xs
numbers_as_many n [] = refl
numbers_as_many n (x ∷ xs) = ap suc (numbers_as_many (n + 1) xs)

-- those of a journey come to the others
sent_then : (keys : Keys) (next : ℕ) (before after : List NetEffect) (ends : List End) → after ≡ before ++ effects_of keys next ends → sent_among before + length (crossings_in ends) ≡ sent_among after
sent_then keys next before after ends are =
    let told = effects_of keys next ends in
    let all : sent_among after ≡ length (frames_sent before ++ frames_sent told) = ap (λ es. sent_among es) are ∙ ap length (flat_map-append sent_by before told) in
    let both : length (frames_sent before ++ frames_sent told) ≡ sent_among before + sent_among told = length-append (frames_sent before) (frames_sent told) in
    let own : sent_among told ≡ length (crossings_in ends) =
    ap length (frames_named keys next ends) ∙ length-map (numbered_from next (crossings_in ends)) (frame_of_crossing keys) ∙ numbers_as_many next (crossings_in ends) in
    omega (arith, all, both, own)

-- ---- a journey

module _ (old : WorldView) (more : ℕ) (s : sim.SimState) (before after : SimOut) (traffic : Traffic) (j : IsJourney old.state old.zones (sets_of old.state.config.net) more traffic before after s) where
  next_is : s.next ≡ old.state.next + length (crossings_in j.ends)
  next_is = j.held.next ∙ ap (λ (m : State). m.next) j.moves.rest

  lists_are : lists_seen old.zones s.zones ≡ j.left.lists
  lists_are = sym (lists_are_seen j.left old.zones (sets_of old.state.config.net) more s j.sound j.held)

  -- the world with the crossings that are left has the state that is left
  pub left_seen : (waiting : List (ℕ × Crossing)) → waiting ≡ j.left.waiting → (world_with old waiting s).state ≡ j.left
  left_seen waiting is = (λ i. state_with old.state (lists_are i) (is i) (next_is i)) ∙ sym j.moves.rest

  -- where the frames that were sent before are all among the effects, those that are sent now are, too
  module _ (sent : ℕ) (count : length (crossings_in j.ends) ≡ sent) (most : more ≡ sent_among before.effects + sent) where
    all_told : more ≡ sent_among after.effects
    all_told = most ∙ ap (λ n. sent_among before.effects + n) (sym count) ∙ sent_then old.state.keys old.state.next before.effects after.effects j.ends j.effects

    pub passed_at : (waiting : List (ℕ × Crossing)) → waiting ≡ j.left.waiting → (Passed : sim.SimState → SimOut → SimOut → sim.SimState → Type 0) → Passed old.sim before after s
        → HasPassed old before after (world_with old waiting s) Passed (λ m ends k. MovesFor traffic m ends k)
    passed_at waiting is Passed passed =
        let same = left_seen waiting is in
        record {
          passed = passed;
          ends = j.ends;
          effects = j.effects;
          moved = subst (λ m. MovesFor traffic old.state j.ends m) (sym same) j.moves;
          still = λ i. state_with old.state (lists_seen old.zones s.zones) waiting (next_is i);
          under_way = subst (λ n. IsUnderWay (world_with old waiting s).state old.zones n) all_told (subst (λ m. IsUnderWay m old.zones more) (sym same) j.sound);
          held = subst (λ m. HoldsNetwork m old.zones.numbers (sets_of old.state.config.net) s) (sym same) j.held;
          rest = refl;
        }

    -- the crossings that are sent can be kept behind those that wait on, and then the packets have passed
    pub goes_on : (first : List (ℕ × Crossing)) (effects : List NetEffect) → j.left.waiting ≡ first ++ numbered_from old.state.next (crossings_in j.ends) → ((x : Crossing) → Among x (crossings_in j.ends) → MayWait old.state x)
        → effects ≡ drop (length before.effects) after.effects → (Passed : sim.SimState → SimOut → SimOut → sim.SimState → Type 0) → Passed old.sim before after s
        → GoesOn old first s effects (λ new. HasPassed old before after new Passed (λ m ends k. MovesFor traffic m ends k))
    goes_on first effects waiting may are Passed passed =
        let m = old.state in
        let ws = numbered_from m.next (crossings_in j.ends) in
        let told = effects_of m.keys m.next j.ends in
        let effects_are : effects ≡ told = are ∙ ap (λ l. drop (length before.effects) l) j.effects ∙ drop_at before.effects told (length before.effects) refl in
        let done = passed_at (first ++ ws) (sym waiting) Passed passed in
        record {
          sent = crossings_in j.ends;
          count = next_is;
          crossings = ws;
          numbers = refl;
          can = record {
            sent = record {
              frames = ap frames_sent effects_are ∙ frames_named m.keys m.next j.ends;
              sent = λ n x among. record {
                may = may_still m (lists_seen old.zones s.zones) first s.next x (may x (from_among m.next (crossings_in j.ends) n x among).2);
                home = refl;
                spelled_so = refl;
              };
            };
            behind = done.under_way.crossings.in_order;
          };
          done = done;
        }

-- ---- a packet that goes in

pub entry_goes_on : EntryJourneyLaw → (old : WorldView) (p : Name) (packet : inet.Packet) (before after : SimOut) (s : sim.SimState) (effects : List NetEffect) → IsUnderWay old.state old.zones (sent_among before.effects) → AreHeld old.state old.zones old.sim
    → IsWhole packet → passing.IsInjected of_program old.sim p old.state.clock packet before after s → effects ≡ drop (length before.effects) after.effects → GoesOn old old.state.waiting s effects (λ new. HasEntered old p packet before after new)
entry_goes_on law old p packet before after s effects u h whole injected are =
    let m = old.state in
    let sent = sent_among before.effects in
    let entry = law m old.zones (sets_of m.config.net) sent old.sim s of_program p packet before after u h whole injected in
    goes_on old (sent + entry.sent) s before after (enter_one p packet) entry.journey entry.sent entry.count refl m.waiting effects entry.waiting entry.may are (λ s b a t. passing.IsInjected of_program s p m.clock packet b a t) injected

-- ---- a frame that arrives

pub arrival_goes_on : ArrivalJourneyLaw → (old : WorldView) (n : ℕ) (keep : Bool) (before after : SimOut) (s : sim.SimState) (effects : List NetEffect) → IsUnderWay old.state old.zones (sent_among before.effects) → AreHeld old.state old.zones old.sim
    → passing.IsArrived of_program old.sim n keep old.state.clock before after s → effects ≡ drop (length before.effects) after.effects → GoesOn old (waiting_on keep n old.state.waiting) s effects (λ new. HasArrived old n keep before after new)
arrival_goes_on law old n keep before after s effects u h arrives are =
    let m = old.state in
    let sent = sent_among before.effects in
    let came = law m old.zones (sets_of m.config.net) sent old.sim s of_program n keep before after u h arrives in
    goes_on old (sent + came.sent) s before after (arrive_one n keep) came.journey came.sent came.count refl (waiting_on keep n m.waiting) effects came.waiting came.may are (λ s b a t. passing.IsArrived of_program s n keep m.clock b a t) arrives
