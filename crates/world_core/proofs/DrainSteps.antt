-- How the waiting frames arrive, one after another.
use Rattle.std.specs.Prelude.{◌≡◌, ◌⊎◌, ◌+◌, ◌-◌, ◌<◌, ℕ, zero, suc, false, cond, List, [], ◌∷◌, ◌++◌, map, Some, IsSome, length, slice_get, refl}
use Rattle.std.proofs.Common.{sym, ap, ◌∙◌, subst, arith, inl, inr, append_assoc, append-nil}
use Rattle.std.proofs.lemmas.Option.{same_Some, none-some}
use Rattle.chassis_sim.specs.State as sim
use Rattle.chassis_sim.specs.State.{numbered}
use Rattle.chassis_sim.specs.declared.out.SimOut.{SimOut}
use Rattle.conn_zones.specs.Zoning.{Zoned}
use Rattle.switch_engine.specs.Outcome.{of_program}
use Rattle.chassis_sim.specs.Passing as passing
use Rattle.net_model.specs.declared.crossing.Crossing.{Crossing}
use Rattle.world_core.proofs.WaitingNames.{own_number}
use Rattle.world_core.specs.Draining.{AreDraining}
use Rattle.world_core.specs.Packets.{AreGone, HasArrived, sent_among, state_with}
use Rattle.sim_laws.proofs.journey_laws.Draining.{effects_append}
use Rattle.sim_laws.proofs.journey_laws.Moving.{length_append}
use Rattle.sim_laws.proofs.journey_laws.Ways.{crossings_append}
use Rattle.sim_laws.specs.Effects.{effects_of}
use Rattle.sim_laws.specs.Passing.{AreDrained}
use Rattle.sim_laws.specs.journeys.Moves.{AreMoved}
use Rattle.sim_laws.specs.journeys.UnderWay.{IsUnderWay}
use Rattle.world_core.specs.WorldView.{AreHeld, WorldView}
use Rattle.sim_laws.specs.Held.{frame_of_crossing}
use Rattle.net_model.specs.State.{State}
use Rattle.net_model.specs.Trail.{End, crossings_in}
use Rattle.physical_flows.proofs.FlowSearch.{is_some_of}

-- none arrived yet
pub drain_begins : (old : WorldView) (before : SimOut) (most : ℕ) → IsUnderWay old.state old.zones (sent_among before.effects) → AreHeld old.state old.zones old.sim → AreDraining old before most most old before
drain_begins old before most u h = record {
  own = [];
  all = sym (append-nil before.effects);
  drained = λ after s d. d;
  moves = λ ends m d. d;
  still = λ i. state_with old.state old.state.lists old.state.waiting (zero_more old.state.next i);
  under_way = u;
  held = h;
  rest = refl;
}
  where
    zero_more : (n : ℕ) → n ≡ n + 0
    zero_more n = omega arith

-- the first of some entries
pub first_is : {X : Type 0} (xs : List X) (x : X) → slice_get xs 0 ≡ Some x → (behind : List X) × (xs ≡ x ∷ behind)
first_is [] x e = absurd (none-some x e)
first_is (y ∷ ys) x e = (ys, ap (λ z. z ∷ ys) (same_Some y x e))

pub own_waits : {X : Type 0} (n : ℕ) (x : X) (behind : List (ℕ × X)) → numbered ((n, x) ∷ behind) n ≡ Some x
own_waits n x behind = ap (λ b. cond b (Some x) (numbered behind n)) (own_number n)

pub first_waits : (m : State) (n : ℕ) (x : Crossing) (behind : List (ℕ × Crossing)) → m.waiting ≡ (n, x) ∷ behind → IsSome (numbered m.waiting n)
first_waits m n x behind e = is_some_of (numbered m.waiting n) x (ap (λ ws. numbered ws n) e ∙ own_waits n x behind)

-- ---- what comes behind

module _ (old : WorldView) (before : SimOut) (most left : ℕ) (now : WorldView) (told : SimOut) where
  -- further effects come behind those that came
  effects_on : (more : SimOut) (ends : List End) → (d : AreDraining old before most left now told) → more.effects ≡ told.effects ++ effects_of now.state.keys now.state.next ends → more.effects ≡ before.effects ++ effects_of old.state.keys old.state.next (d.own ++ ends)
  effects_on more ends d are =
      let keys : now.state.keys ≡ old.state.keys = ap (λ (m : State). m.keys) d.still in
      let number : now.state.next ≡ old.state.next + length (crossings_in d.own) = ap (λ (m : State). m.next) d.still in
      are
      ∙ ap (λ l. l ++ effects_of now.state.keys now.state.next ends) d.all
      ∙ append_assoc before.effects (effects_of old.state.keys old.state.next d.own) (effects_of now.state.keys now.state.next ends)
      ∙ (λ i. before.effects ++ (effects_of old.state.keys old.state.next d.own ++ effects_of (keys i) (number i) ends))
      ∙ ap (λ es. before.effects ++ es) (sym (effects_append old.state.keys old.state.next d.own ends))

  -- the state has other lists and crossings, and the number behind those that were sent in all
  still_on : (next : WorldView) (ends : List End) → (d : AreDraining old before most left now told) → next.state ≡ state_with now.state next.state.lists next.state.waiting (now.state.next + length (crossings_in ends))
      → next.state ≡ state_with old.state next.state.lists next.state.waiting (old.state.next + length (crossings_in (d.own ++ ends)))
  still_on next ends d still =
      let number : now.state.next ≡ old.state.next + length (crossings_in d.own) = ap (λ (m : State). m.next) d.still in
      let both : length (crossings_in (d.own ++ ends)) ≡ length (crossings_in d.own) + length (crossings_in ends) = ap length (crossings_append d.own ends) ∙ length_append (crossings_in d.own) (crossings_in ends) in
      let count : now.state.next + length (crossings_in ends) ≡ old.state.next + length (crossings_in (d.own ++ ends)) = omega (arith, number, both) in
      still ∙ (λ i. state_with (d.still i) next.state.lists next.state.waiting (count i))

  rest_on : (next : WorldView) → AreDraining old before most left now told → next ≡ record now { state = next.state; sim = next.sim } → next ≡ record old { state = next.state; sim = next.sim }
  rest_on next d rest = rest ∙ ap (λ (w : WorldView). record w { state = next.state; sim = next.sim }) d.rest

-- one frame more
pub drain_goes_on : (old : WorldView) (before : SimOut) (most left : ℕ) (now next : WorldView) (told more : SimOut) (n : ℕ) (x : Crossing) (behind : List (ℕ × Crossing)) → AreDraining old before most (suc left) now told → now.state.waiting ≡ (n, x) ∷ behind
    → HasArrived now n false told more next → AreDraining old before most left next more
drain_goes_on old before most left now next told more n x behind d first p =
    let clock : now.state.clock ≡ old.state.clock = ap (λ (m : State). m.clock) d.still in
    record {
      own = d.own ++ p.ends;
      all = effects_on old before most (suc left) now told more p.ends d p.effects;
      drained = λ after s rest. d.drained after s (inr (record {
        n = n;
        frame = (frame_of_crossing now.state.keys (n, x)).1;
        behind = map (frame_of_crossing now.state.keys) behind;
        first = d.held.waiting ∙ ap (λ ws. map (frame_of_crossing now.state.keys) ws) first;
        between = more;
        mid = next.sim;
        arrives = subst (λ t. passing.IsArrived of_program now.sim n false t told more next.sim) clock p.passed;
        others = rest;
      }));
      moves = λ ends m rest. subst (λ l. AreMoved most old.state l m) (sym (append_assoc d.own p.ends ends)) (d.moves (p.ends ++ ends) m (inr (record {
        n = n;
        crossing = x;
        behind = behind;
        first = first;
        own = p.ends;
        more = ends;
        all = refl;
        mid = next.state;
        arrives = p.moved;
        others = rest;
      })));
      still = still_on old before most (suc left) now told next p.ends d p.still;
      under_way = p.under_way;
      held = p.held;
      rest = rest_on old before most (suc left) now told next d p.rest;
    }

over_sim : (now left : ℕ) (s : sim.SimState) (told : SimOut) → (left ≡ 0) ⊎ (s.waiting ≡ []) → AreDrained of_program now left s told told s
over_sim now zero s told e = (refl, refl)
over_sim now (suc left) s told (inl z) = absurd (omega (arith, z))
over_sim now (suc left) s told (inr none) = inl (none, refl, refl)

over_net : (left : ℕ) (m : State) → (left ≡ 0) ⊎ (m.waiting ≡ []) → AreMoved left m [] m
over_net zero m e = (refl, refl)
over_net (suc left) m (inl z) = absurd (omega (arith, z))
over_net (suc left) m (inr none) = inl (none, refl, refl)

none_held : (m : State) (zones : Zoned) (s : sim.SimState) → AreHeld m zones s → m.waiting ≡ [] → s.waiting ≡ []
none_held m zones s h none = h.waiting ∙ ap (λ ws. map (frame_of_crossing m.keys) ws) none

-- none is left, or enough arrived
pub drain_ends : (old : WorldView) (before : SimOut) (most left : ℕ) (now : WorldView) (told : SimOut) → AreDraining old before most left now told → (left ≡ 0) ⊎ (now.state.waiting ≡ []) → AreGone most old before told now
drain_ends old before most left now told d e = record {
  passed = d.drained told now.sim (over_sim old.state.clock left now.sim told (elim e [ inl z ↦ inl z | inr none ↦ inr (none_held now.state now.zones now.sim d.held none) ]));
  ends = d.own;
  effects = d.all;
  moved = subst (λ l. AreMoved most old.state l now.state) (append-nil d.own) (d.moves [] now.state (over_net left now.state e));
  still = d.still;
  under_way = d.under_way;
  held = d.held;
  rest = d.rest;
}

-- some arrived, and then those that may still
pub drain_joins : (old : WorldView) (before : SimOut) (most left : ℕ) (now : WorldView) (told after : SimOut) (new : WorldView) → AreDraining old before most left now told → AreGone left now told after new → AreGone most old before after new
drain_joins old before most left now told after new d g =
    let clock : now.state.clock ≡ old.state.clock = ap (λ (m : State). m.clock) d.still in
    record {
      passed = d.drained after new.sim (subst (λ t. AreDrained of_program t left now.sim told after new.sim) clock g.passed);
      ends = d.own ++ g.ends;
      effects = effects_on old before most left now told after g.ends d g.effects;
      moved = d.moves g.ends new.state g.moved;
      still = still_on old before most left now told new g.ends d g.still;
      under_way = g.under_way;
      held = g.held;
      rest = rest_on old before most left now told new d g.rest;
    }

-- nothing is there where no first entry is
pub none_there : {X : Type 0} (xs : List X) → (0 < length xs → ⊥) → xs ≡ []
none_there [] h = refl
none_there (x ∷ xs) h = absurd (h (omega arith))

pub one_less : (n : ℕ) → 0 < n → n ≡ suc (n - 1)
one_less n h = omega (arith, h)
