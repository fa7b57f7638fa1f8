-- Frames that arrive on the simulated chassis one after another, and a packet that goes in before.
use Rattle.std.specs.Prelude.{◌≡◌, ◌+◌, ◌++◌, ℕ, zero, suc, false, List, [], ◌∷◌, length, map, refl}
use Rattle.std.proofs.Common.{sym, ap, ◌∙◌, subst, append_assoc, append-nil, length-append, arith, inl, inr}
use Rattle.chassis_sim.specs.State.{SimState}
use Rattle.chassis_sim.specs.declared.out.SimOut.{SimOut}
use Rattle.chassis_sim.specs.declared.underlay.WaitingFrame.{WaitingFrame}
use Rattle.conn_zones.specs.Zoning.{Zoned}
use Rattle.match_cubes.specs.declared.sets.Sets.{Sets}
use Rattle.net_model.specs.Journey.{enter_one, enter_and_arrive}
use Rattle.net_model.specs.State.{State}
use Rattle.net_model.specs.Trail.{End, leaves, is_dropped, crosses, picks_backend, picks_port, is_lost, crossings_in}
use Rattle.net_model.specs.declared.crossing.Crossing.{Crossing}
use Rattle.switch_engine.specs.Outcome.{any_legal}
use Rattle.switch_engine.specs.declared.effect.NetEffect.{NetEffect}
use Rattle.switch_engine.specs.declared.effect.NetEffect.TheVariants as net
use Rattle.tunnel_keys.specs.Keys.{Keys}
use Rattle.ovn_base.specs.declared.name.Name.{Name}
use Rattle.sim_laws.proofs.journey_laws.Moving.{all_drain, enters_and_drains}
use Rattle.sim_laws.proofs.journey_laws.Ways.{crossings_append}
use Rattle.sim_laws.specs.Effects.{effects_of, spelled}
use Rattle.sim_laws.specs.Held.{frame_of_crossing}
use Rattle.sim_laws.specs.Passing.{most_arrivals, AreDrained, no_out, GoesThrough}
use Rattle.sim_laws.specs.journeys.Events.{IsThrough, AllArriveLaw, GoesThroughLaw}
use Rattle.sim_laws.specs.journeys.Holding.{HoldsNetwork}
use Rattle.sim_laws.specs.journeys.Moves.{AreMoved}
use Rattle.sim_laws.specs.journeys.Refining.{IsJourney, EntryJourneyLaw, ArrivalJourneyLaw}
use Rattle.sim_laws.specs.journeys.UnderWay.{IsUnderWay}

-- ---- effects

-- those of later ends come behind, with the next numbers
pub effects_append : (keys : Keys) (n : ℕ) (es fs : List End) → effects_of keys n (es ++ fs) ≡ effects_of keys n es ++ effects_of keys (n + length (crossings_in es)) fs
effects_append keys n [] fs = let same : n ≡ n + 0 = omega arith in ap (λ k. effects_of keys k fs) same
effects_append keys n (leaves q packet ∷ es) fs = ap (λ r. net.Out q packet ∷ r) (effects_append keys n es fs)
effects_append keys n (is_dropped d q cause ∷ es) fs = ap (λ r. net.Drop d q cause ∷ r) (effects_append keys n es fs)
effects_append keys n (crosses chassis x ∷ es) fs =
    let same : (n + 1) + length (crossings_in es) ≡ n + suc (length (crossings_in es)) = omega arith in
    ap (λ r. net.Tunnel n chassis x.home (spelled keys x) ∷ r) (effects_append keys (n + 1) es fs ∙ ap (λ k. effects_of keys (n + 1) es ++ effects_of keys k fs) same)
effects_append keys n (picks_backend d vip backend ∷ es) fs = ap (λ r. net.PickBackend d vip backend ∷ r) (effects_append keys n es fs)
effects_append keys n (picks_port router port ∷ es) fs = ap (λ r. net.PickPort router port ∷ r) (effects_append keys n es fs)
effects_append keys n (is_lost k ∷ es) fs = ap (λ r. net.Lost k ∷ r) (effects_append keys n es fs)

-- ---- what waits

-- the crossing of the first frame
record IsFirst (m : State) (n : ℕ) : Type 0 where
  crossing : Crossing
  behind : List (ℕ × Crossing)
  first : m.waiting ≡ (n, crossing) ∷ behind

first_of : (m : State) (n : ℕ) (frame : WaitingFrame) (frames : List (ℕ × WaitingFrame)) → map (frame_of_crossing m.keys) m.waiting ≡ (n, frame) ∷ frames → IsFirst m n
first_of m n frame frames e = by m.waiting refl e
  where
    number_of : List (ℕ × WaitingFrame) → ℕ
    number_of [] = 0
    number_of (w ∷ ws) = w.0

    by : (waiting : List (ℕ × Crossing)) → m.waiting ≡ waiting → map (frame_of_crossing m.keys) waiting ≡ (n, frame) ∷ frames → IsFirst m n
    by [] is h = cc h
    by (w ∷ ws) is h = let same : w.0 ≡ n = ap number_of h in record { crossing = w.1; behind = ws; first = is ∙ (λ i. (same i, w.1) ∷ ws) }

none_of : (m : State) → map (frame_of_crossing m.keys) m.waiting ≡ [] → m.waiting ≡ []
none_of m e = by m.waiting e
  where
    by : (waiting : List (ℕ × Crossing)) → map (frame_of_crossing m.keys) waiting ≡ [] → waiting ≡ []
    by [] h = refl
    by (w ∷ ws) h = cc h

-- ---- one after another

-- what came of the frames that arrived, and of those that were sent for them
pub record IsDrained (k : ℕ) (m : State) (zones : Zoned) (sets : Sets) (more : ℕ) (before after : SimOut) (new : SimState) : Type 0 where
  pub ends : List End
  pub effects : after.effects ≡ before.effects ++ effects_of m.keys m.next ends
  pub left : State
  pub moved : AreMoved k m ends left
  pub sound : IsUnderWay left zones (more + length (crossings_in ends))
  pub held : HoldsNetwork left zones.numbers sets new

-- the effects of ends that come behind others
behind_effects : (m mid : State) (own more : List End) (first second third : List NetEffect) → mid.keys ≡ m.keys → mid.next ≡ m.next + length (crossings_in own)
    → second ≡ first ++ effects_of m.keys m.next own → third ≡ second ++ effects_of mid.keys mid.next more → third ≡ first ++ effects_of m.keys m.next (own ++ more)
behind_effects m mid own more first second third keys next is also =
    also
    ∙ ap (λ es. es ++ effects_of mid.keys mid.next more) is
    ∙ append_assoc first (effects_of m.keys m.next own) (effects_of mid.keys mid.next more)
    ∙ ap (λ es. first ++ (effects_of m.keys m.next own ++ es)) (ap (λ k. effects_of k mid.next more) keys ∙ ap (λ n. effects_of m.keys n more) next)
    ∙ ap (λ es. first ++ es) (sym (effects_append m.keys m.next own more))

-- the frames that were sent for one and for the others are those sent for both
sound_both : (m : State) (zones : Zoned) (more sent : ℕ) (es fs : List End) → length (crossings_in es) ≡ sent → IsUnderWay m zones ((more + sent) + length (crossings_in fs)) → IsUnderWay m zones (more + length (crossings_in (es ++ fs)))
sound_both m zones more sent es fs count u =
    let all : length (crossings_in (es ++ fs)) ≡ length (crossings_in es) + length (crossings_in fs) = ap (λ (xs : List Crossing). length xs) (crossings_append es fs) ∙ length-append (crossings_in es) (crossings_in fs) in
    let same : (more + sent) + length (crossings_in fs) ≡ more + length (crossings_in (es ++ fs)) = omega (arith, all, count) in
    subst (λ n. IsUnderWay m zones n) same u

none_more : (m : State) (zones : Zoned) (more : ℕ) → IsUnderWay m zones more → IsUnderWay m zones (more + length (crossings_in []))
none_more m zones more u = let same : more ≡ more + 0 = omega arith in subst (λ n. IsUnderWay m zones n) same u

module _ (arrival : ArrivalJourneyLaw) (zones : Zoned) (sets : Sets) where
  drained : (k more : ℕ) (m : State) (s new : SimState) (before after : SimOut) → IsUnderWay m zones more → HoldsNetwork m zones.numbers sets s → AreDrained any_legal m.clock k s before after new → IsDrained k m zones sets more before after new
  drained zero more m s new before after u h d = record {
    ends = [];
    effects = ap (λ (o : SimOut). o.effects) d.0 ∙ sym (append-nil before.effects);
    left = m;
    moved = (refl, refl);
    sound = none_more m zones more u;
    held = subst (λ (z : SimState). HoldsNetwork m zones.numbers sets z) (sym d.1) h;
  }
  drained (suc k) more m s new before after u h (inl d) = record {
    ends = [];
    effects = ap (λ (o : SimOut). o.effects) d.1 ∙ sym (append-nil before.effects);
    left = m;
    moved = inl (none_of m (sym h.waiting ∙ d.0), refl, refl);
    sound = none_more m zones more u;
    held = subst (λ (z : SimState). HoldsNetwork m zones.numbers sets z) (sym d.2) h;
  }
  drained (suc k) more m s new before after u h (inr f) =
      let first = first_of m f.n f.frame f.behind (sym h.waiting ∙ f.first) in
      let came = arrival m zones sets more s f.mid any_legal f.n false before f.between u h f.arrives in
      let a = came.journey in
      let still = a.moves.rest in
      let r =
      drained k (more + came.sent) a.left f.mid new f.between after a.sound a.held (subst (λ t. AreDrained any_legal t k f.mid f.between after new) (sym (ap (λ (l : State). l.clock) still)) f.others) in
      record {
        ends = a.ends ++ r.ends;
        effects = behind_effects m a.left a.ends r.ends before.effects f.between.effects after.effects (ap (λ (l : State). l.keys) still) (ap (λ (l : State). l.next) still) a.effects r.effects;
        left = r.left;
        moved = inr (record { n = f.n; crossing = first.crossing; behind = first.behind; first = first.first; own = a.ends; more = r.ends; all = refl; mid = a.left; arrives = a.moves; others = r.moved });
        sound = sound_both r.left zones more came.sent a.ends r.ends came.count r.sound;
        held = r.held;
      }

  pub all_arrive : (more : ℕ) (m : State) (s new : SimState) (before after : SimOut) → IsUnderWay m zones more → HoldsNetwork m zones.numbers sets s → AreDrained any_legal m.clock most_arrivals s before after new → IsDrained most_arrivals m zones sets more before after new
  all_arrive more m s new before after u h d = drained most_arrivals more m s new before after u h d

pub all_arrives : ArrivalJourneyLaw → AllArriveLaw
all_arrives arrival m zones sets more s new before after u h d =
    let r = all_arrive arrival zones sets more m s new before after u h d in
    record {
      sent = length (crossings_in r.ends);
      journey = record { ends = r.ends; effects = r.effects; left = r.left; moves = all_drain m r.ends r.left r.moved; sound = r.sound; held = r.held };
      count = refl;
    }

-- what a packet left that went in, and what all left that waited then
then_drained : ArrivalJourneyLaw → (m : State) (zones : Zoned) (sets : Sets) (more first : ℕ) (s new : SimState) (port : Name) (frame : List ℕ) (after : SimOut) (through : GoesThrough any_legal m.clock s port frame after new)
    → (a : IsJourney m zones sets (more + first) (enter_one port through.goes_in.packet) no_out through.between through.mid) → length (crossings_in a.ends) ≡ first
    → IsThrough m zones sets more (enter_and_arrive port through.goes_in.packet) no_out after new
then_drained arrival m zones sets more first s new port frame after through a count =
    let still = a.moves.rest in
    let r =
    all_arrive arrival zones sets (more + first) a.left through.mid new through.between after a.sound a.held (subst (λ t. AreDrained any_legal t most_arrivals through.mid through.between after new) (sym (ap (λ (l : State). l.clock) still)) through.drained) in
    record {
      sent = length (crossings_in (a.ends ++ r.ends));
      journey = record {
        ends = a.ends ++ r.ends;
        effects = behind_effects m a.left a.ends r.ends no_out.effects through.between.effects after.effects (ap (λ (l : State). l.keys) still) (ap (λ (l : State). l.next) still) a.effects r.effects;
        left = r.left;
        moves = enters_and_drains m port through.goes_in.packet a.ends r.ends a.left r.left a.moves r.moved;
        sound = sound_both r.left zones more first a.ends r.ends count r.sound;
        held = r.held;
      };
      count = refl;
    }

pub goes_through : EntryJourneyLaw → ArrivalJourneyLaw → GoesThroughLaw
goes_through entry arrival m zones sets more s new port frame after u h through =
    let g = through.goes_in in
    let e = entry m zones sets more s through.mid any_legal port g.packet no_out through.between u h g.whole g.injected in
    then_drained arrival m zones sets more e.sent s new port frame after through e.journey e.count
