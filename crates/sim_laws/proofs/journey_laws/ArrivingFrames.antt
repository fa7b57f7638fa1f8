-- A frame that arrives on the simulated chassis is a journey of the network: that of its crossing.
use Rattle.std.specs.Prelude.{◌≡◌, ◌≤◌, ◌+◌, ◌*◌, ◌^◌, ◌++◌, ℕ, Bool, true, false, cond, List, [], ◌∷◌, length, map, Some, None, refl}
use Rattle.std.specs.BTreeMap.{is_at}
use Rattle.std.specs.List.{AllZip}
use Rattle.std.specs.Map.{remove_entry}
use Rattle.std.specs.Ordering.{nat_cmp}
use Rattle.std.proofs.Common.{sym, ap, ◌∙◌, subst, arith, inl, inr}
use Rattle.std.proofs.lemmas.Bool.{cases_Bool}
use Rattle.std.proofs.lemmas.Option.{none-some}
use Rattle.chassis_sim.specs.Frames.{Carries}
use Rattle.chassis_sim.specs.Holding.{AreZoned, IsWalkBy, with_lists}
use Rattle.chassis_sim.specs.Passing as passing
use Rattle.chassis_sim.specs.Passing.{IsTold, arrived}
use Rattle.chassis_sim.specs.State as sim
use Rattle.chassis_sim.specs.State.{at_name}
use Rattle.chassis_sim.specs.declared.out.SimOut.{SimOut}
use Rattle.chassis_sim.specs.declared.underlay.WaitingFrame.{WaitingFrame}
use Rattle.conn_table.specs.Picks.{Choice}
use Rattle.conn_zones.specs.Zoning.{Zoned}
use Rattle.flow_table.specs.declared.flow.Flow.{Flow}
use Rattle.match_cubes.specs.declared.sets.Sets.{Sets}
use Rattle.nb_records.specs.Switches.{is_virtual}
use Rattle.nb_records.specs.declared.switch.SwitchPort.{SwitchPort}
use Rattle.net_model.specs.Arrival.{is_reached, arrival}
use Rattle.net_model.specs.Config.{is_chassis}
use Rattle.net_model.specs.Entry.{Scene}
use Rattle.net_model.specs.Journey.{joined_by, kept_or_not, arrive_at, comes_as, arrive_one, scene_at, scenes_of, go}
use Rattle.net_model.specs.Leads.{list_owners}
use Rattle.net_model.specs.State.{State, event_count}
use Rattle.net_model.specs.Trail.{Trail, Lists, End, is_lost, choices_in, crossings_in}
use Rattle.net_model.specs.declared.crossing.Aim.{Aim}
use Rattle.net_model.specs.declared.crossing.Aim.TheVariants.{ToPort, ToGroup}
use Rattle.net_model.specs.declared.crossing.Crossing.{Crossing}
use Rattle.ovn_base.proofs.AmongLaws.{among_none, any_among}
use Rattle.ovn_base.specs.declared.name.Name.{Name}
use Rattle.ovn_base.specs.lists.Among.{Among}
use Rattle.ovn_base.specs.names.SameName.{same_name, bytes_decides}
use Rattle.physical_flows.proofs.FlowSearch.{is_some_of}
use Rattle.row_laws.specs.Distributed.{AreDistributed}
use Rattle.switch_engine.specs.Outcome.{Choosing}
use Rattle.switch_engine.specs.Walk.{start}
use Rattle.switch_engine.specs.Zones.{ZoneLists}
use Rattle.switch_engine.specs.declared.effect.Effect.{Effect}
use Rattle.switch_engine.specs.declared.effect.Effect.TheVariants as effect
use Rattle.switch_engine.specs.declared.effect.Entry.{Entry}
use Rattle.switch_engine.specs.declared.effect.Entry.TheVariants.{Tunnel}
use Rattle.switch_engine.specs.declared.walk.Start.TheVariants as start_of
use Rattle.switch_engine.specs.declared.walk.Step.{Step}
use Rattle.tunnel_keys.proofs.HeldKeys.{found}
use Rattle.sim_laws.proofs.EffectNames.{AreEndsOn}
use Rattle.sim_laws.proofs.WaitingCrossings.{crossings_kept}
use Rattle.sim_laws.proofs.WaitingLists.{numbered_among, removed_map}
use Rattle.sim_laws.proofs.router_passes.Everywhere.{reached_virtual}
use Rattle.sim_laws.proofs.journey_laws.Entering.{scene_there}
use Rattle.sim_laws.proofs.journey_laws.Premises.{may_arrive}
use Rattle.sim_laws.proofs.journey_laws.ReadFrames.{read_so, crossing_of}
use Rattle.sim_laws.proofs.journey_laws.Ready.{is_ready}
use Rattle.sim_laws.proofs.journey_laws.Rezoning.{rezoned_hold, zoned_still}
use Rattle.sim_laws.proofs.journey_laws.SentCrossings.{member_enabled}
use Rattle.sim_laws.proofs.journey_laws.Telling.{at_home_still, other, led, led_sound, told_effects, told_held}
use Rattle.sim_laws.proofs.journey_laws.ArrivalWays.{IsAimed, arrival_on}
use Rattle.sim_laws.proofs.journey_laws.ReachedWays.{arrival_left}
use Rattle.sim_laws.proofs.journey_laws.Ways.{WayOn, one_way}
use Rattle.sim_laws.proofs.journey_laws.Walked.{IsWalked, walked}
use Rattle.sim_laws.specs.Held.{frame_of_crossing}
use Rattle.sim_laws.specs.Naming.{IsNumbered}
use Rattle.sim_laws.specs.Sound.{AreCrossings, MayWait}
use Rattle.sim_laws.specs.passes.Arriving.{tunnel_entry_of}
use Rattle.sim_laws.specs.routers.Visits.{RoutedArrivalLaw}
use Rattle.sim_laws.specs.journeys.Filling.{FillingLaw}
use Rattle.sim_laws.specs.journeys.Holding.{HoldsNetwork}
use Rattle.sim_laws.specs.journeys.InState.{chassis_at, zones_on}
use Rattle.sim_laws.specs.journeys.Moves.{journey_in}
use Rattle.sim_laws.specs.journeys.Premises.{IsReadyForPasses}
use Rattle.sim_laws.specs.journeys.Refining.{IsComing, IsJourney, ArrivalJourneyLaw, waiting_on}
use Rattle.sim_laws.specs.journeys.UnderWay.{IsUnderWay}
use Rattle.sim_laws.specs.passes.Whole.{WholeWalkLaw}
use Rattle.sim_laws.specs.pipelines.HeldLists.{HoldLists}
use Rattle.sim_laws.specs.pipelines.Pieces.{trail_with}
use Rattle.sim_laws.specs.pipelines.Standing.{Chassis}

-- ---- what waits then

abbrev rest_of : Bool → State → ℕ → List (ℕ × Crossing)
rest_of keep m n = waiting_on keep n m.waiting

frames_kept : (keep : Bool) (m : State) (s : sim.SimState) (n : ℕ) → s.waiting ≡ map (frame_of_crossing m.keys) m.waiting → (arrived s n keep).waiting ≡ map (frame_of_crossing m.keys) (rest_of keep m n)
frames_kept true m s n waits = waits
frames_kept false m s n waits = ap (λ ws. remove_entry (is_at (nat_cmp n)) ws) waits ∙ removed_map (λ x. (frame_of_crossing m.keys (0, x)).1) m.waiting n

crossings_rest : (keep : Bool) (m : State) (n : ℕ) → AreCrossings m → AreCrossings (other m m.lists (rest_of keep m n) m.next)
crossings_rest true m n c = c
crossings_rest false m n c = crossings_kept false m n c

-- the journey once the crossing is taken off
kept_is : (keep : Bool) (m : State) (n : ℕ) (choices : List Choice) (ends : List End) → kept_or_not keep n (journey_in m choices ends) ≡ journey_in (other m m.lists (rest_of keep m n) m.next) choices ends
kept_is true m n choices ends = refl
kept_is false m n choices ends = refl

-- a chassis that is gone has no scene
no_scene : (m : State) (chassis : Name) → ¬ Among chassis m.config.chassis → scenes_of m chassis ≡ None
no_scene m chassis none = elim (cases_Bool (is_chassis m.config chassis)) [
  | inl is ↦ let f = any_among (λ c. same_name c chassis) m.config.chassis is in absurd (none (subst (λ c. Among c m.config.chassis) ((bytes_decides f.0 chassis).0 f.2) f.1))
  | inr absent ↦ ap (λ b. cond b (Some (scene_at m chassis)) None) absent
]

module _ (m : State) (zones : Zoned) (sets : Sets) (more : ℕ) (s new : sim.SimState) (n : ℕ) (keep : Bool) (before after : SimOut) (u : IsUnderWay m zones more) (h : HoldsNetwork m zones.numbers sets s) where
  abbrev IsArrival : Type 0
  IsArrival = IsComing m zones sets more n keep before after new

  -- the crossings may wait, and there is none where all routers are distributed
  abbrev Such : List Crossing → Type 0
  Such xs = ((y : Crossing) → Among y xs → MayWait m y) × (AreDistributed m.config.net → xs ≡ [])

  -- ---- with its ends

  module _ (x : Crossing) (waits : sim.numbered m.waiting n ≡ Some x) (own : List End) (lists : Lists) (zs : List (Name × ZoneLists)) (hold : (c : Name) (held : ZoneLists) → at_name zs c ≡ Some held → HoldLists (zones_on zones.numbers c) held lists) (zoned : AreZoned s.chassis zs)
      (steps : List Step) (effects : List Effect) (owners : list_owners lists ≡ list_owners m.lists) (numbered : AllZip (IsNumbered m.keys) own effects) (on : AreEndsOn x.home n own) (such : Such (crossings_in own))
      (is : (choices : List Choice) → arrive_at (scenes_of m x.home) n x (trail_with m.lists (choices_in own ++ choices) []) ≡ trail_with lists choices own)
      (told : IsTold (record (arrived s n keep) { zones = zs }) x.home (start_of.Frame n) steps effects before after new) where
    abbrev rest : List (ℕ × Crossing)
    rest = rest_of keep m n

    abbrev sent : ℕ
    sent = length (crossings_in own)

    few_then : m.next + sent ≤ 1 + 2 ^ 64 * event_count m + (more + sent)
    few_then = let few = u.few_sent in omega (arith, few)

    pub came : IsArrival
    came =
        let frames = frames_kept keep m s n h.waiting in
        let journey : IsJourney m zones sets (more + sent) (arrive_one n keep) before after new = record {
          ends = own;
          effects = told_effects m zones.numbers sets s h lists rest zs (arrived s n keep).waiting hold frames x.home (start_of.Frame n) steps own effects numbered on before after new told;
          left = led m lists rest own;
          moves = record {
            is = λ choices ends.
                let j = journey_in m (choices_in own ++ choices) ends in
                let way : Trail → Trail = arrive_at (scenes_of m x.home) n x in
                ap (λ o. comes_as (scenes_of m) n keep o j) waits
                ∙ ap (go way) (kept_is keep m n (choices_in own ++ choices) ends)
                ∙ ap (joined_by (journey_in (other m m.lists rest m.next) (choices_in own ++ choices) ends)) (is choices);
            rest = refl;
          };
          sound = led_sound m zones more (more + sent) lists rest own u (at_home_still m.config m.lists lists owners u.at_home) (crossings_rest keep m n u.crossings) such.0 few_then;
          held = told_held m zones.numbers sets s h lists rest zs (arrived s n keep).waiting hold frames x.home (start_of.Frame n) steps own effects numbered on before after new told zoned;
        } in
        record { sent = sent; journey = journey; count = refl; may = such.0; waiting = refl; none_sent = such.1 }

  -- ---- through the tables

  module _ (fills : FillingLaw) (arrives : RoutedArrivalLaw) (whole_walk : WholeWalkLaw) (by : Choosing) (x : Crossing) (waits : sim.numbered m.waiting n ≡ Some x) (flows : List Flow) (there : at_name s.chassis x.home ≡ Some flows)
      (lists left : ZoneLists) (listed : at_name s.zones x.home ≡ Some lists) (steps : List Step) (effects : List Effect) (walk : IsWalkBy by flows (tunnel_entry_of m.keys x) m.clock x.packet lists steps effects left)
      (told : IsTold (record (arrived s n keep) { zones = with_lists s.zones x.home left }) x.home (start_of.Frame n) steps effects before after new) where
    abbrev k : Chassis
    k = chassis_at m zones.numbers sets by flows (tunnel_entry_of m.keys x) x.home

    abbrev scene : Scene
    scene = scene_at m x.home

    abbrev way : Trail → Trail
    way t = arrival scene n x t

    ready : IsReadyForPasses k zones.numbers
    ready = is_ready fills m zones more sets s u h x.home flows there by (tunnel_entry_of m.keys x)

    may_wait : MayWait m x
    may_wait = u.crossings.may n x (numbered_among m.waiting n x waits)

    module _ (distributed : AreDistributed m.config.net) where
      -- a port that is reached is virtual: those that lead to routers are at home everywhere
      aimed_virtual : (aim : Aim) → (q : SwitchPort) → IsAimed scene n x aim q → is_reached scene q ≡ true → is_virtual q ≡ true
      aimed_virtual (ToPort id) q aimed at_home = reached_virtual m.config u.valid distributed x.home id.name q aimed.0 at_home
      aimed_virtual (ToGroup g) q among at_home = let e = member_enabled m.config.net u.valid x.datapath.name g q among in reached_virtual m.config u.valid distributed x.home q.name q e.there at_home

      -- so nothing crosses
      none_crosses : (xs : List Crossing) (t : Trail) → WayOn m.config x.home n xs t (way t) → xs ≡ []
      none_crosses xs t on = one_way m.config x.home n xs [] t (way t) on (arrival_on scene n x (λ is q aimed at_home. aimed_virtual x.aim q aimed at_home) t)

    w : IsWalked k n Such way m.lists effects left
    w =
        let may = may_arrive m zones.numbers sets by flows (tunnel_entry_of m.keys x) x.home x may_wait in
        walked k n Such whole_walk way m.lists lists (start (tunnel_entry_of m.keys x) x.packet ∷ []) (arrives k zones.numbers ready.around ready.owned n x may refl m.lists lists (h.zones x.home lists listed))
        (λ choices.
        let first : Trail = trail_with m.lists choices [] in
        let a = arrival_left m u.valid u.keys x.home n x first in
        record { crossings = a.crossings; such = λ wholes. ((λ y among. a.may y among (wholes y among)), λ distributed. none_crosses distributed a.crossings first a.way); way = a.way }) steps effects left walk

    pub comes_through : IsArrival
    comes_through =
        let scenes = scene_there m x.home ((h.held x.home).0 (is_some_of (at_name s.chassis x.home) flows there)) in
        came x waits w.own w.after (with_lists s.zones x.home left) (rezoned_hold m zones u.bound sets s h x.home lists listed w.after left w.hold w.others) (zoned_still s.chassis s.zones x.home left h.zoned) steps effects w.owners w.numbered w.on w.crossings
        (λ choices. ap (λ o. arrive_at o n x (trail_with m.lists (choices_in w.own ++ choices) [])) scenes ∙ w.is choices []) told

  -- ---- where its chassis is gone

  pub comes_lost : (x : Crossing) → sim.numbered m.waiting n ≡ Some x → ¬ Among x.home m.config.chassis → IsTold (arrived s n keep) x.home (start_of.Frame n) [] (effect.Lost ∷ []) before after new → IsArrival
  comes_lost x waits gone told =
      came x waits (is_lost n ∷ []) m.lists s.zones h.zones h.zoned [] (effect.Lost ∷ []) refl (IsNumbered.lost, tt) (refl, tt) ((λ y among. absurd (among_none y among)), λ distributed. refl)
      (λ choices. ap (λ o. arrive_at o n x (trail_with m.lists choices [])) (no_scene m x.home gone)) told

  pub arrives_by : FillingLaw → RoutedArrivalLaw → WholeWalkLaw → (by : Choosing) → passing.IsArrived by s n keep m.clock before after new → IsArrival
  arrives_by fills arrives whole_walk by (passing.IsArrived.through frame flows lists left vni in_key out_key packet steps effects waits held listed carries walk told) =
      let c = crossing_of m zones.numbers sets s h n frame waits in
      let x = c.crossing in
      let may = u.crossings.may n x (numbered_among m.waiting n x c.waits) in
      let home : frame.to ≡ x.home = ap (λ (f : WaitingFrame). f.to) c.is in
      let read = read_so m u.keys x may vni in_key out_key packet (subst (λ (f : WaitingFrame). Carries f.bytes vni in_key out_key packet) c.is carries) in
      comes_through fills arrives whole_walk by x c.waits flows (ap (at_name s.chassis) (sym home) ∙ held) lists left (ap (at_name s.zones) (sym home) ∙ listed) steps effects
      (subst (λ (e : Entry). IsWalkBy by flows e m.clock x.packet lists steps effects left) read.0 (subst (λ p. IsWalkBy by flows (Tunnel vni in_key out_key) m.clock p lists steps effects left) read.1 walk))
      (subst (λ d. IsTold (record (arrived s n keep) { zones = with_lists s.zones d left }) d (start_of.Frame n) steps effects before after new) home told)
  arrives_by fills arrives whole_walk by (passing.IsArrived.gone frame waits none told) =
      let c = crossing_of m zones.numbers sets s h n frame waits in
      let x = c.crossing in
      let home : frame.to ≡ x.home = ap (λ (f : WaitingFrame). f.to) c.is in
      comes_lost x c.waits (λ known.
      let f = found (at_name s.chassis x.home) ((h.held x.home).1 known) in
      none-some f.0 (sym (ap (at_name s.chassis) (sym home) ∙ none) ∙ f.1))
      (subst (λ d. IsTold (arrived s n keep) d (start_of.Frame n) [] (effect.Lost ∷ []) before after new) home told)

pub arrives_so : FillingLaw → RoutedArrivalLaw → WholeWalkLaw → ArrivalJourneyLaw
arrives_so fills arrives whole_walk m zones sets more s new by n keep before after u h told =
    arrives_by m zones sets more s new n keep before after u h fills arrives whole_walk by told
