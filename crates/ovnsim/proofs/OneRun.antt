-- Events and picks have one run.
use Rattle.std.proofs.Common.{◌≡◌, ◌+◌, ◌++◌, ℕ, List, [], ◌∷◌, refl, sym, ap, ◌∙◌, subst, arith}
use Rattle.std.proofs.lemmas.Option.{none-some, same_Some}
use Rattle.conn_zones.specs.Zoning.{KnownHomes}
use Rattle.edit_reader.specs.declared.event.Event.{Event}
use Rattle.event_lines.specs.Lines.{accepted_lines, refused_line}
use Rattle.event_lines.specs.Picks.{Pick}
use Rattle.sim_laws.specs.journeys.Counts.{ArrivalCountLaw, DrainCountLaw, EntryCountLaw, HaveSameZones, ThroughCountLaw}
use Rattle.world_core.specs.Outcome.{matched}
use Rattle.world_core.specs.StepParts.{new_world}
use Rattle.world_core.specs.Picks.{Fate, Run, was_accepted, was_refused}
use Rattle.world_core.specs.Picks as network
use Rattle.world_setup.specs.Refusing.{refusal}
use Rattle.world_core.specs.WorldView.{IsSound, WorldView}
use Rattle.net_model.specs.Config.{Config}
use Rattle.net_model.specs.State.{State, event_count}
use Rattle.physical_flows.specs.Bindings.{router_homes}
use Rattle.world_setup.specs.Step as net
use Rattle.world_setup.specs.Zones.{Rezones}
use Rattle.world_core.proofs.EmptyWorld.{new_sound}
use Rattle.world_core.proofs.OneStep.{step_with}
use Rattle.world_core.proofs.SameLists.{accepted_alike, matched_is}
use Rattle.world_core.proofs.SameZones.{same_zones}
use Rattle.ovnsim.specs.Runs.{Runs, RunsLines, Takes, accepts, refuses, IsTextOf, AreTexts}
use Rattle.ovnsim.proofs.OneReading.{same_events}
use Rattle.ovnsim.proofs.OneEvent.{step_counts}

-- two sound worlds of one state, with the same zones, which hold the same lists
pub record AreAlike (one two : WorldView) : Type 0 where
  pub state : one.state ≡ two.state
  pub zones : one.zones ≡ two.zones
  pub lists : HaveSameZones one.sim two.sim
  pub sound : IsSound one
  pub also : IsSound two

-- the like worlds, the same text, and the same picks left
pub record SameTaking (mid after : WorldView) (first other : List ℕ) (left more : List Pick) : Type 0 where
  pub like : AreAlike mid after
  pub text : first ≡ other
  pub rest : left ≡ more

-- where everyone is at home follows from the configuration
abbrev homes_of : Config → KnownHomes
homes_of config = record { ports = config.bindings; routers = router_homes config }

-- no chassis has zones yet
none_zoned : HaveSameZones new_world.sim new_world.sim
none_zoned c lists others is also z = absurd (none-some lists is)

module _ (enters : EntryCountLaw) (arrives : ArrivalCountLaw) (drains : DrainCountLaw) (through : ThroughCountLaw) where
  takes_same : (one two : WorldView) (event : Event) (own their left more : List Pick) (first other : List ℕ) (mid after : WorldView) → AreAlike one two → Takes one event own first mid → Takes two event their other after → IsSound mid → IsSound after
      → own ++ left ≡ their ++ more → SameTaking mid after first other left more
  takes_same one two event own their left more first other mid after like (accepts h p) (accepts k q) sound also e =
      let moved : net.NetworkStep one.state event k.effects after.state = subst (λ s. net.NetworkStep s event k.effects after.state) (sym like.state) k.step in
      let step =
      step_with one.state event h.effects k.effects mid.state after.state left more h.step moved (sym (ap (λ ps. ps ++ left) p) ∙ e ∙ ap (λ ps. ps ++ more) q) in
      let homes : mid.zones.homes ≡ after.zones.homes =
      sound.consistent.at_rest.bound.homes ∙ ap (λ (s : State). homes_of s.config) step.state ∙ sym also.consistent.at_rest.bound.homes in
      let zones = same_zones event two.zones mid.zones after.zones homes (subst (λ z. Rezones event z mid.zones) like.zones h.zones) k.zones in
      let lists = accepted_alike enters arrives drains through one two mid after event first other like.sound like.also like.state like.zones like.lists h k step.effects_are zones in
      let count : matched mid.walks ≡ matched after.walks = matched_is mid.walks ∙ lists.count ∙ sym (matched_is after.walks) in
      record {
        like = record { state = step.state; zones = zones; lists = lists.zones; sound = sound; also = also };
        text = h.text ∙ (λ i. accepted_lines (event_count (like.state i) + 1) (step.effects_are i) (count i)) ∙ sym k.text;
        rest = step.rest;
      }
  takes_same one two event own their left more first other mid after like (accepts h p) (refuses why k q) sound also e = absurd (none-some why (sym h.admitted ∙ ap (λ s. refusal s event) like.state ∙ k.first))
  takes_same one two event own their left more first other mid after like (refuses why h p) (accepts k q) sound also e = absurd (none-some why (sym k.admitted ∙ ap (λ s. refusal s event) (sym like.state) ∙ h.first))
  takes_same one two event own their left more first other mid after like (refuses why h p) (refuses who k q) sound also e =
      let cause : why ≡ who = same_Some why who (sym h.first ∙ ap (λ s. refusal s event) like.state ∙ k.first) in
      record {
        like = record {
          state = ap (λ (w : WorldView). w.state) h.kept ∙ ap (λ (s : State). record s { refused = s.refused + 1 }) like.state ∙ sym (ap (λ (w : WorldView). w.state) k.kept);
          zones = ap (λ (w : WorldView). w.zones) h.kept ∙ like.zones ∙ sym (ap (λ (w : WorldView). w.zones) k.kept);
          lists = subst (λ (w : WorldView). HaveSameZones w.sim after.sim) (sym h.kept) (subst (λ (w : WorldView). HaveSameZones one.sim w.sim) (sym k.kept) like.lists);
          sound = sound;
          also = also;
        };
        text = h.text ∙ (λ i. refused_line (event_count (like.state i) + 1) (cause i)) ∙ sym k.text;
        rest = sym (ap (λ ps. ps ++ left) p) ∙ e ∙ ap (λ ps. ps ++ more) q;
      }

  runs_same : (one two : WorldView) (events : List Event) (picks others : List Pick) (text other : List ℕ) (last end : WorldView) → AreAlike one two → picks ≡ others → Runs one events picks text last → Runs two events others other end
      → AreAlike last end × (text ≡ other)
  runs_same one two [] picks others text other last end like same h k = (
    subst (λ w. AreAlike w end) (sym h.2) (subst (λ w. AreAlike one w) (sym k.2) like),
    h.1 ∙ sym k.1,
  )
  runs_same one two (event ∷ events) picks others text other last end like same h k =
      let first = takes_same one two event h.own k.own h.left k.left h.first k.first h.mid k.mid like h.takes k.takes h.sound k.sound (sym h.picked ∙ same ∙ k.picked) in
      let rest = runs_same h.mid k.mid events h.left k.left h.rest k.rest last end first.like first.rest h.others k.others in
      (rest.0, h.whole ∙ (λ i. first.text i ++ rest.1 i) ∙ sym k.whole)

  -- events and picks have one text, one last state, and the same zones at the end
  pub one_run : (events : List Event) (picks : List Pick) (text other : List ℕ) (last end : WorldView) → Runs new_world events picks text last → Runs new_world events picks other end
      → (text ≡ other) × (last.state ≡ end.state) × (last.zones ≡ end.zones)
  one_run events picks text other last end h k =
      let same = runs_same new_world new_world events picks picks text other last end (record { state = refl; zones = refl; lists = none_zoned; sound = new_sound; also = new_sound }) refl h k in
      (same.1, same.0.state, same.0.zones)

  -- and so have lines and picks
  pub one_run_of_lines : (lines : List (List ℕ)) (picks : List Pick) (text other : List ℕ) (last end : WorldView) → RunsLines lines picks text last → RunsLines lines picks other end
      → (text ≡ other) × (last.state ≡ end.state) × (last.zones ≡ end.zones)
  one_run_of_lines lines picks text other last end h k =
      one_run k.events picks text other last end (subst (λ es. Runs new_world es picks text last) (same_events lines h.events k.events h.are k.are) h.run) k.run

-- what became of an event, with its text
record IsFate (n : ℕ) (m : State) (event : Event) (own : List Pick) (text : List ℕ) (after : State) : Type 0 where
  fate : Fate
  happens : network.Happens m event own fate after
  is : IsTextOf n fate text

-- an event is counted
one_more : (old : WorldView) (event : Event) (own : List Pick) (text : List ℕ) (new : WorldView) → Takes old event own text new → event_count new.state ≡ event_count old.state + 1
one_more old event own text new (accepts h e) = let counts = step_counts old.state event h.effects new.state h.step in omega (arith, counts.0, counts.1)
one_more old event own text new (refuses why h e) =
    let accepted : new.state.accepted ≡ old.state.accepted = ap (λ (w : WorldView). w.state.accepted) h.kept in
    let refused : new.state.refused ≡ old.state.refused + 1 = ap (λ (w : WorldView). w.state.refused) h.kept in
    omega (arith, accepted, refused)

-- a run of the world is one of the network, and its text is that of what became of the events
fate_of : (old : WorldView) (event : Event) (own : List Pick) (text : List ℕ) (new : WorldView) → Takes old event own text new → (n : ℕ) → n ≡ event_count old.state + 1 → IsFate n old.state event own text new.state
fate_of old event own text new (accepts h e) n number = record {
  fate = was_accepted h.effects;
  happens = network.Happens.accepts h.effects h.admitted h.step e refl;
  is = (matched new.walks, h.text ∙ ap (λ k. accepted_lines k h.effects (matched new.walks)) (sym number));
}
fate_of old event own text new (refuses why h e) n number = record {
  fate = was_refused why;
  happens = network.Happens.refuses why h.first e refl (ap (λ (w : WorldView). w.state) h.kept);
  is = h.text ∙ ap (λ k. refused_line k why) (sym number);
}

more_texts : (n : ℕ) (fate : Fate) (fates : List Fate) (first rest text : List ℕ) → IsTextOf n fate first → text ≡ first ++ rest → AreTexts (n + 1) fates rest → AreTexts n (fate ∷ fates) text
more_texts n fate fates first rest text is whole others = record { first = first; rest = rest; whole = whole; is = is; others = others }

run_from : (old : WorldView) (events : List Event) (picks : List Pick) (text : List ℕ) (last : WorldView) → Runs old events picks text last → (n : ℕ) → n ≡ event_count old.state + 1
    → (fates : List Fate) × Run old.state events picks fates last.state × AreTexts n fates text
run_from old [] picks text last h n is = ([], (h.0, refl, ap (λ (w : WorldView). w.state) h.2), h.1)
run_from old (event ∷ events) picks text last h n is =
    let one = fate_of old event h.own h.first h.mid h.takes n is in
    let rest = run_from h.mid events h.left h.rest last h.others (n + 1) (ap (λ k. k + 1) is ∙ ap (λ k. k + 1) (sym (one_more old event h.own h.first h.mid h.takes))) in (
      one.fate ∷ rest.0,
      record { mid = h.mid.state; own = h.own; left = h.left; fate = one.fate; others = rest.0; picked = h.picked; all = refl; happens = one.happens; after = rest.1 },
      more_texts n one.fate rest.0 h.first h.rest text one.is h.whole rest.2,
    )

pub network_run : (events : List Event) (picks : List Pick) (text : List ℕ) (last : WorldView) → Runs new_world events picks text last → (fates : List Fate) × Run new_world.state events picks fates last.state × AreTexts 1 fates text
network_run events picks text last h = run_from new_world events picks text last h 1 refl
