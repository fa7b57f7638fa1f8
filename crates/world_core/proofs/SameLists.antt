-- An event that is accepted in two worlds of one state, with the same lists in their zones and with the same effects, matches as many flows in both and leaves the
-- same lists.
use Rattle.std.specs.Prelude.{◌≡◌, ◌+◌, ℕ, Bool, true, false, List, [], ◌∷◌, length, fold, Option, Some, None, is_some, refl}
use Rattle.std.specs.Option.{option_and_then}
use Rattle.std.proofs.Common.{sym, ap, ◌∙◌, subst, arith}
use Rattle.std.proofs.lemmas.Bool.{false≢true}
use Rattle.address_sets.specs.Members.{sets_of}
use Rattle.chassis_sim.specs.Changing.{emptied_at}
use Rattle.chassis_sim.specs.State.{SimState, at_name}
use Rattle.chassis_sim.specs.declared.out.SimOut.{SimOut}
use Rattle.conn_table.specs.Connections.{ConnectionList}
use Rattle.conn_zones.specs.Zoning.{Zoned}
use Rattle.edit_reader.specs.declared.event.Event.{Event}
use Rattle.edit_reader.specs.declared.event.Event.TheVariants.{Edit, Bind, Unbind, AddChassis, RemoveChassis, Keys, Health, Clock, Inject, Deliver, Lose, Repeat, Drain, Packet, Unread}
use Rattle.inet_packet.proofs.OnePacket.{one_packet_at_most}
use Rattle.inet_packet.specs.declared.packet.Packet as inet
use Rattle.chassis_sim.specs.Passing.{IsInjected}
use Rattle.match_cubes.specs.declared.sets.Sets.{Sets}
use Rattle.net_model.specs.State.{State}
use Rattle.ovn_base.specs.declared.name.Name.{Name}
use Rattle.physical_flows.proofs.FlowSearch.{is_some_of}
use Rattle.sim_laws.proofs.journey_laws.Finishing.{begins}
use Rattle.sim_laws.specs.Passing.{most_arrivals, no_out, GoesIn}
use Rattle.sim_laws.specs.journeys.Counts.{ArrivalCountLaw, AreAlike, BothHold, CountsAlike, DrainCountLaw, EntryCountLaw, HaveSameZones, ThroughCountLaw, choices_told, matched_on}
use Rattle.sim_laws.specs.journeys.UnderWay.{IsUnderWay}
use Rattle.switch_engine.specs.Outcome.{any_legal}
use Rattle.switch_engine.specs.Zones.{ZoneLists, zone_at}
use Rattle.switch_engine.specs.declared.effect.NetEffect.{NetEffect}
use Rattle.switch_engine.specs.declared.walk.Walk.{Walk}
use Rattle.world_core.specs.EventPasses.{Passes}
use Rattle.world_core.specs.Outcome.{IsAcceptedBy, matched, moves_packets}
use Rattle.world_core.specs.WorldView.{AreHeld, IsSound, WorldView}
use Rattle.world_setup.specs.Zones.{Relists, emptied_by, left_by, list_on}

-- ---- how many flows were matched

-- counted from a number on
matched_from : (n : ℕ) (walks : List Walk) → fold (λ a (walk : Walk). a + length walk.steps) n walks ≡ n + matched_on walks
matched_from n [] = omega arith
matched_from n (walk ∷ walks) = let rest = matched_from (n + length walk.steps) walks in omega (arith, rest)

-- from none on nothing is added
none_before : (n : ℕ) → 0 + n ≡ n
none_before n = omega arith

-- two ways of counting them are one
pub matched_is : (walks : List Walk) → matched walks ≡ matched_on walks
matched_is walks = matched_from 0 walks ∙ none_before (matched_on walks)

-- ---- events without packets

-- no flow is matched
none_matched : (event : Event) (now : ℕ) (s : SimState) (out : SimOut) (new : SimState) → moves_packets event ≡ false → Passes any_legal now s event out new → out.walks ≡ []
none_matched (Edit ops) now s out new none h = h
none_matched (Bind p chassis) now s out new none h = h
none_matched (Unbind p) now s out new none h = h
none_matched (AddChassis chassis) now s out new none h = h
none_matched (RemoveChassis chassis) now s out new none h = h
none_matched (Keys datapaths ports) now s out new none h = h
none_matched (Health balancer backend online) now s out new none h = h
none_matched (Clock seconds) now s out new none h = h
none_matched (Inject p frame) now s out new none h = absurd (false≢true (sym none))
none_matched (Deliver n) now s out new none h = absurd (false≢true (sym none))
none_matched (Lose n) now s out new none h = h
none_matched (Repeat n) now s out new none h = absurd (false≢true (sym none))
none_matched Drain now s out new none h = absurd (false≢true (sym none))
none_matched (Packet p frame) now s out new none h = absurd (false≢true (sym none))
none_matched (Unread fault) now s out new none h = absurd h

-- both have zones of the same chassis
module _ (m : State) (zones : Zoned) (sets : Sets) (s t : SimState) (both : BothHold m zones sets s t) where
  -- whom the first has the second has
  zoned_too : (c : Name) → is_some (at_name s.zones c) ≡ true → is_some (at_name t.zones c) ≡ true
  zoned_too c some = both.second.zoned c ∙ (both.second.held c).1 ((both.first.held c).0 (sym (both.first.zoned c) ∙ some))

  -- and the other way round
  zoned_also : (c : Name) → is_some (at_name t.zones c) ≡ true → is_some (at_name s.zones c) ≡ true
  zoned_also c some = both.first.zoned c ∙ (both.first.held c).1 ((both.second.held c).0 (sym (both.second.zoned c) ∙ some))

  -- and so the same lists on all
  lists_same : (c : Name) (z : ℕ) → list_on s c z ≡ list_on t c z
  lists_same c z = by (at_name s.zones c) (at_name t.zones c) refl refl
    where
      among : ℕ → Option ZoneLists → Option ConnectionList
      among z zones = option_and_then (λ (lists : ZoneLists). zone_at lists z) zones

      by : (a b : Option ZoneLists) → at_name s.zones c ≡ a → at_name t.zones c ≡ b → list_on s c z ≡ list_on t c z
      by None None is also = ap (among z) is ∙ sym (ap (among z) also)
      by None (Some others) is also = absurd (false≢true (sym (ap (λ o. is_some o) is) ∙ zoned_also c (is_some_of (at_name t.zones c) others also)))
      by (Some lists) None is also = absurd (false≢true (sym (ap (λ o. is_some o) also) ∙ zoned_too c (is_some_of (at_name s.zones c) lists is)))
      by (Some lists) (Some others) is also = ap (among z) is ∙ both.same_zones c lists others is also z ∙ sym (ap (among z) also)

  -- an event without packets leaves the same
  lists_left : (event : Event) (now : ℕ) (before after : Zoned) (new end : SimState) → Relists event now before after s new → Relists event now before after t end → HaveSameZones new end
  lists_left event now before after new end h k c lists others is also z =
      h c lists is z ∙ ap (λ list. emptied_at (emptied_by event before after) c z (left_by event now list)) (lists_same c z) ∙ sym (k c others also z)

-- ---- events with packets

-- where nothing came before, equal effects tell of equal choices
alike_from : (after later : SimOut) (new end : SimState) → CountsAlike no_out after no_out later new end → after.effects ≡ later.effects → AreAlike after.walks later.walks new end
alike_from after later new end c same =
    let a = c.alike (ap choices_told (sym c.one.all_effects ∙ same ∙ c.other.all_effects)) in
    record { count = ap matched_on c.one.all_walks ∙ a.count ∙ sym (ap matched_on c.other.all_walks); zones = a.zones }

module _ (enters : EntryCountLaw) (arrives : ArrivalCountLaw) (drains : DrainCountLaw) (through : ThroughCountLaw) where
  module _ (m : State) (zones : Zoned) (sets : Sets) (u : IsUnderWay m zones 0) (s t : SimState) (both : BothHold m zones sets s t) (out other : SimOut) (same : out.effects ≡ other.effects) (new end : SimState) where
    -- a packet goes in
    entries_alike : (p : Name) (frame : List ℕ) → GoesIn any_legal m.clock s p frame no_out out new → GoesIn any_legal m.clock t p frame no_out other end → AreAlike out.walks other.walks new end
    entries_alike p frame h k =
        let packet : k.packet ≡ h.packet = one_packet_at_most k.packet h.packet k.whole h.whole (k.frame_is ∙ sym h.frame_is) in
        let also = subst (λ (x : inet.Packet). IsInjected any_legal t p m.clock x no_out other end) packet k.injected in
        alike_from out other new end (enters m zones sets 0 s t new end p h.packet no_out out no_out other u both h.injected also) same

    -- so it is with each event that moves packets
    passes_alike : (event : Event) → moves_packets event ≡ true → Passes any_legal m.clock s event out new → Passes any_legal m.clock t event other end → AreAlike out.walks other.walks new end
    passes_alike (Edit ops) moves h k = absurd (false≢true moves)
    passes_alike (Bind p chassis) moves h k = absurd (false≢true moves)
    passes_alike (Unbind p) moves h k = absurd (false≢true moves)
    passes_alike (AddChassis chassis) moves h k = absurd (false≢true moves)
    passes_alike (RemoveChassis chassis) moves h k = absurd (false≢true moves)
    passes_alike (Keys datapaths ports) moves h k = absurd (false≢true moves)
    passes_alike (Health balancer backend online) moves h k = absurd (false≢true moves)
    passes_alike (Clock seconds) moves h k = absurd (false≢true moves)
    passes_alike (Inject p frame) moves h k = entries_alike p frame h k
    passes_alike (Deliver n) moves h k = alike_from out other new end (arrives m zones sets 0 s t new end n false no_out out no_out other u both h k) same
    passes_alike (Lose n) moves h k = absurd (false≢true moves)
    passes_alike (Repeat n) moves h k = alike_from out other new end (arrives m zones sets 0 s t new end n true no_out out no_out other u both h k) same
    passes_alike Drain moves h k = alike_from out other new end (drains m zones sets 0 most_arrivals s t new end no_out out no_out other u both h k) same
    passes_alike (Packet p frame) moves h k = alike_from out other new end (through m zones sets 0 s t new end p frame out other u both h k) same
    passes_alike (Unread fault) moves h k = absurd h

  -- ---- both

  -- whichever event it is
  pub accepted_alike : (one two mid after : WorldView) (event : Event) (first other : List ℕ) → IsSound one → IsSound two → one.state ≡ two.state → one.zones ≡ two.zones → HaveSameZones one.sim two.sim
      → (h : IsAcceptedBy any_legal one event [] first mid) (k : IsAcceptedBy any_legal two event [] other after) → h.effects ≡ k.effects → mid.zones ≡ after.zones → AreAlike mid.walks after.walks mid.sim after.sim
  accepted_alike one two mid after event first other sound also state zones lists h k effects later = by (moves_packets event) refl
    where
      m : State
      m = one.state

      out : WorldView → List NetEffect → SimOut
      out w told = record { effects = told; walks = w.walks }

      held : AreHeld m one.zones two.sim
      held = subst (λ (n : State). AreHeld n one.zones two.sim) (sym state) (subst (λ z. AreHeld two.state z two.sim) (sym zones) also.held)

      both : BothHold m one.zones (sets_of m.config.net) one.sim two.sim
      both = record { first = sound.held; second = held; same_zones = lists }

      passed : Passes any_legal m.clock two.sim event (out after k.effects) after.sim
      passed = subst (λ (n : State). Passes any_legal n.clock two.sim event (out after k.effects) after.sim) (sym state) k.passed

      relisted : moves_packets event ≡ false → Relists event m.clock one.zones mid.zones two.sim after.sim
      relisted none =
          subst (λ z. Relists event m.clock z mid.zones two.sim after.sim) (sym zones) (subst (λ z. Relists event m.clock two.zones z two.sim after.sim) (sym later)
          (subst (λ (n : State). Relists event n.clock two.zones after.zones two.sim after.sim) (sym state) (k.lists none)))

      by : (b : Bool) → moves_packets event ≡ b → AreAlike mid.walks after.walks mid.sim after.sim
      by true moves =
          passes_alike m one.zones (sets_of m.config.net) (begins m one.zones sound.consistent.at_rest) one.sim two.sim both
          (out mid h.effects) (out after k.effects) effects mid.sim after.sim event moves h.passed passed
      by false none = record {
        count = ap matched_on (none_matched event m.clock one.sim (out mid h.effects) mid.sim none h.passed ∙ sym (none_matched event m.clock two.sim (out after k.effects) after.sim none passed));
        zones = lists_left m one.zones (sets_of m.config.net) one.sim two.sim both event m.clock one.zones mid.zones mid.sim after.sim (h.lists none) (relisted none);
      }
