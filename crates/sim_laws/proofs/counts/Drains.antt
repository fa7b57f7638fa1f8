-- Frames that arrive one after another in two simulations that hold one state, and a packet that goes in before.
use Rattle.std.specs.Prelude.{◌≡◌, ◌+◌, ◌++◌, ℕ, zero, suc, false, List, [], ◌∷◌, length}
use Rattle.std.proofs.Common.{refl, sym, ap, ◌∙◌, subst, inl, inr}
use Rattle.std.proofs.lemmas.List.{append_cancel_left}
use Rattle.chassis_sim.specs.Passing.{IsInjected, IsArrived}
use Rattle.chassis_sim.specs.State.{SimState, at_name}
use Rattle.chassis_sim.specs.declared.out.SimOut.{SimOut}
use Rattle.chassis_sim.specs.declared.underlay.WaitingFrame.{WaitingFrame}
use Rattle.conn_table.specs.Picks.{Choice}
use Rattle.conn_zones.specs.Zoning.{Zoned}
use Rattle.inet_packet.proofs.OnePacket.{one_packet_at_most}
use Rattle.match_cubes.specs.declared.sets.Sets.{Sets}
use Rattle.net_model.specs.Journey.{Journey, Traffic, enter_one, arrive_one, travel, places_of}
use Rattle.net_model.specs.State.{State}
use Rattle.net_model.specs.Trail.{End, choices_in, crossings_in}
use Rattle.switch_engine.specs.Outcome.{any_legal}
use Rattle.sim_laws.proofs.counts.Cames.{told_of_ends, told_both, matched_both, came_none, came_as, came_then, came_injected, came_arrived, came_drained}
use Rattle.sim_laws.proofs.counts.OneWalks.{Alike, injected_alike, arrived_alike}
use Rattle.sim_laws.specs.Effects.{effects_of}
use Rattle.sim_laws.specs.Passing.{most_arrivals, AreDrained, no_out}
use Rattle.sim_laws.specs.journeys.Counts.{ChassisWalksLaw, Came, HaveSameZones, BothHold, DrainCountLaw, ThroughCountLaw, choices_told}
use Rattle.sim_laws.specs.journeys.Holding.{HoldsNetwork}
use Rattle.sim_laws.specs.journeys.Moves.{Moves, MovesFor, journey_in}
use Rattle.sim_laws.specs.journeys.Refining.{IsJourney, EntryJourneyLaw, ArrivalJourneyLaw}
use Rattle.sim_laws.specs.journeys.UnderWay.{IsUnderWay}

-- ---- one move

-- two moves whose choices begin one list are one
record IsOne (es fs : List End) (a b : State) (r q : List Choice) : Type 0 where
  ends : es ≡ fs
  left : a ≡ b
  rest : r ≡ q

one_move : (move : Journey → Journey) (m : State) (es fs : List End) (a b : State) → Moves move m es a → Moves move m fs b → (r q : List Choice) → choices_in es ++ r ≡ choices_in fs ++ q → IsOne es fs a b r q
one_move move m es fs a b x y r q same =
    let j : journey_in a r es ≡ journey_in b q fs = sym (x.is r []) ∙ ap (λ (cs : List Choice). move (journey_in m cs [])) same ∙ y.is q [] in
    let ends : es ≡ fs = ap (λ (k : Journey). k.trail.ends) j in
    let lists = ap (λ (k : Journey). k.trail.lists) j in
    let waiting = ap (λ (k : Journey). k.waiting) j in
    record {
      ends = ends;
      left = x.rest ∙ (λ i. record m { lists = lists i; waiting = waiting i; next = m.next + length (crossings_in (ends i)) }) ∙ sym y.rest;
      rest = ap (λ (k : Journey). k.trail.choices) j;
    }

-- ---- what follows what

module _ (zones : Zoned) (sets : Sets) (m : State) where
  -- the effects that came are those of the journey's ends
  told_so : {traffic : Traffic} {more : ℕ} {before after : SimOut} {new : SimState} (j : IsJourney m zones sets more traffic before after new) (c : Came before after) → choices_told c.effects ≡ choices_in j.ends
  told_so {before = before} j c = ap choices_told (append_cancel_left before.effects c.effects (effects_of m.keys m.next j.ends) (sym c.all_effects ∙ j.effects)) ∙ told_of_ends m.keys m.next j.ends

  -- two parts that are alike one after another: the first parts of equal choices are those of one journey
  alike_then : {traffic other_traffic : Traffic} {more most : ℕ} {before between after then middle later : SimOut} {mid other new end : SimState} (a : Came before between) (b : Came then middle) (c : Came between after) (d : Came middle later)
      → (j : IsJourney m zones sets more traffic before between mid) (k : IsJourney m zones sets most other_traffic then middle other) → traffic ≡ other_traffic
      → Alike a b mid other → (j.left ≡ k.left → HaveSameZones mid other → Alike c d new end) → Alike (came_then a c) (came_then b d) new end
  alike_then {traffic = traffic} a b c d j k is first rest picks =
      let whole : choices_in j.ends ++ choices_told c.effects ≡ choices_in k.ends ++ choices_told d.effects =
      ap (λ cs. cs ++ choices_told c.effects) (sym (told_so j a)) ∙ sym (told_both a.effects c.effects) ∙ picks ∙ told_both b.effects d.effects ∙ ap (λ cs. cs ++ choices_told d.effects) (told_so k b) in
      let theirs : MovesFor traffic m k.ends k.left = subst (λ z. MovesFor z m k.ends k.left) (sym is) k.moves in
      let one = one_move (travel (places_of m) traffic) m j.ends k.ends j.left k.left j.moves theirs (choices_told c.effects) (choices_told d.effects) whole in
      let f = first (told_so j a ∙ ap choices_in one.ends ∙ sym (told_so k b)) in
      let r = rest one.left f.zones one.rest in
      record { count = matched_both a.walks c.walks ∙ (λ i. f.count i + r.count i) ∙ sym (matched_both b.walks d.walks); zones = r.zones }

-- nothing came
alike_none : {before after then later : SimOut} {s t new end : SimState} (one : after ≡ before) (other : later ≡ then) → new ≡ s → end ≡ t → HaveSameZones s t → Alike (came_as one (came_none before)) (came_as other (came_none then)) new end
alike_none {s = s} {t = t} one other is also same picks = record { count = refl; zones = λ c l o x y. same c l o (sym (ap (λ (z : SimState). at_name z.zones c) is) ∙ x) (sym (ap (λ (z : SimState). at_name z.zones c) also) ∙ y) }

abbrev first_number : List (ℕ × WaitingFrame) → ℕ
first_number [] = 0
first_number (w ∷ ws) = w.0

none_first : (w : ℕ × WaitingFrame) (ws : List (ℕ × WaitingFrame)) → [] ≡ w ∷ ws → ⊥
none_first w ws e = cc e

-- ---- all that wait

module _ (law : ChassisWalksLaw) (arrival : ArrivalJourneyLaw) (zones : Zoned) (sets : Sets) where
  waiting_same : (m : State) (s t : SimState) → BothHold m zones sets s t → s.waiting ≡ t.waiting
  waiting_same m s t h = h.first.waiting ∙ sym h.second.waiting

  arrived_at : (more : ℕ) (m : State) (s t mid other : SimState) (before between then middle : SimOut) → IsUnderWay m zones more → BothHold m zones sets s t → (now : ℕ) → m.clock ≡ now → (n l : ℕ) → n ≡ l
      → (a : IsArrived any_legal s n false now before between mid) (b : IsArrived any_legal t l false now then middle other) → Alike (came_arrived a) (came_arrived b) mid other
  arrived_at more m s t mid other before between then middle u h now is n l same =
      subst (λ k. (a : IsArrived any_legal s n false k before between mid) (b : IsArrived any_legal t l false k then middle other) → Alike (came_arrived a) (came_arrived b) mid other) is
      (λ a. subst (λ e. (b : IsArrived any_legal t e false m.clock then middle other) → Alike (came_arrived a) (came_arrived b) mid other) same (λ b. arrived_alike law m zones sets more u s t h mid other before between then middle n false a b))

  pub drained_alike : (k now more : ℕ) (m : State) (s t new end : SimState) (before after then later : SimOut) → m.clock ≡ now → IsUnderWay m zones more → BothHold m zones sets s t
      → (a : AreDrained any_legal now k s before after new) (b : AreDrained any_legal now k t then later end) → Alike (came_drained k now s new before after a) (came_drained k now t end then later b) new end
  drained_alike zero now more m s t new end before after then later is u h a b = alike_none a.0 b.0 a.1 b.1 h.same_zones
  drained_alike (suc k) now more m s t new end before after then later is u h (inl a) (inl b) = alike_none a.1 b.1 a.2 b.2 h.same_zones
  drained_alike (suc k) now more m s t new end before after then later is u h (inl a) (inr g) = absurd (none_first (g.n, g.frame) g.behind (sym a.0 ∙ waiting_same m s t h ∙ g.first))
  drained_alike (suc k) now more m s t new end before after then later is u h (inr f) (inl b) = absurd (none_first (f.n, f.frame) f.behind (sym b.0 ∙ sym (waiting_same m s t h) ∙ f.first))
  drained_alike (suc k) now more m s t new end before after then later is u h (inr f) (inr g) =
      let n : f.n ≡ g.n = ap first_number (sym f.first ∙ waiting_same m s t h ∙ g.first) in
      let came = arrival m zones sets more s f.mid any_legal f.n false before f.between u h.first (subst (λ c. IsArrived any_legal s f.n false c before f.between f.mid) (sym is) f.arrives) in
      let comes = arrival m zones sets more t g.mid any_legal g.n false then g.between u h.second (subst (λ c. IsArrived any_legal t g.n false c then g.between g.mid) (sym is) g.arrives) in
      let j = came.journey in
      let i = comes.journey in
      let still = j.moves.rest in
      alike_then zones sets m (came_arrived f.arrives) (came_arrived g.arrives) (came_drained k now f.mid new f.between after f.others) (came_drained k now g.mid end g.between later g.others) j i (ap (λ l. arrive_one l false) n)
      (arrived_at more m s t f.mid g.mid before f.between then g.between u h now is f.n g.n n f.arrives g.arrives)
      (λ left zs. drained_alike k now (more + came.sent) j.left f.mid g.mid new end f.between after g.between later (ap (λ (l : State). l.clock) still ∙ is) j.sound
      (record { first = j.held; second = subst (λ (l : State). HoldsNetwork l zones.numbers sets g.mid) (sym left) i.held; same_zones = zs }) f.others g.others)

-- ---- the laws

pub drains_count : ChassisWalksLaw → ArrivalJourneyLaw → DrainCountLaw
drains_count law arrival m zones sets more most s t new end before after then later u h a b = record {
  one = came_drained most m.clock s new before after a;
  other = came_drained most m.clock t end then later b;
  alike = drained_alike law arrival zones sets most m.clock more m s t new end before after then later refl u h a b;
}

pub through_count : ChassisWalksLaw → EntryJourneyLaw → ArrivalJourneyLaw → ThroughCountLaw
through_count law entry arrival m zones sets more s t new end port frame after later u h a b =
    let packet : b.goes_in.packet ≡ a.goes_in.packet = one_packet_at_most b.goes_in.packet a.goes_in.packet b.goes_in.whole a.goes_in.whole (b.goes_in.frame_is ∙ sym a.goes_in.frame_is) in
    let e = entry m zones sets more s a.mid any_legal port a.goes_in.packet no_out a.between u h.first a.goes_in.whole a.goes_in.injected in
    let f = entry m zones sets more t b.mid any_legal port b.goes_in.packet no_out b.between u h.second b.goes_in.whole b.goes_in.injected in
    let j = e.journey in
    let i = f.journey in
    let still = j.moves.rest in
    record {
      one = came_then (came_injected a.goes_in.injected) (came_drained most_arrivals m.clock a.mid new a.between after a.drained);
      other = came_then (came_injected b.goes_in.injected) (came_drained most_arrivals m.clock b.mid end b.between later b.drained);
      alike = alike_then zones sets m (came_injected a.goes_in.injected) (came_injected b.goes_in.injected) (came_drained most_arrivals m.clock a.mid new a.between after a.drained)
          (came_drained most_arrivals m.clock b.mid end b.between later b.drained) j i (ap (enter_one port) (sym packet))
          (subst (λ p. (x : IsInjected any_legal t port m.clock p no_out b.between b.mid) → Alike (came_injected a.goes_in.injected) (came_injected x) a.mid b.mid) (sym packet)
          (λ x. injected_alike law m zones sets more u s t h a.mid b.mid no_out a.between no_out b.between port a.goes_in.packet a.goes_in.injected x) b.goes_in.injected)
          (λ left zs. drained_alike law arrival zones sets most_arrivals m.clock (more + e.sent) j.left a.mid b.mid new end a.between after b.between later (ap (λ (l : State). l.clock) still) j.sound
          (record { first = j.held; second = subst (λ (l : State). HoldsNetwork l zones.numbers sets b.mid) (sym left) i.held; same_zones = zs }) a.drained b.drained);
    }
