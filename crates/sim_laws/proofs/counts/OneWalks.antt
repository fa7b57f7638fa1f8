-- Two walks of one packet on a chassis, in two simulations that hold one state.
use Rattle.std.specs.Prelude.{◌≡◌, ◌≢◌, ◌+◌, ℕ, Bool, List, [], ◌∷◌, Some, None, is_some}
use Rattle.std.proofs.Common.{refl, sym, ap, ◌∙◌, subst, inl, inr}
use Rattle.std.proofs.lemmas.Bool.{false_from_ne_true}
use Rattle.std.proofs.lemmas.Option.{none-some, same_Some}
use Rattle.chassis_sim.specs.Holding.{IsWalkBy, with_lists}
use Rattle.chassis_sim.specs.Frames.{Carries}
use Rattle.chassis_sim.specs.Passing as passing
use Rattle.chassis_sim.specs.Passing.{IsInjected, IsArrived, IsTold, rezoned, arrived}
use Rattle.chassis_sim.specs.State.{SimState, at_name, numbered}
use Rattle.chassis_sim.specs.declared.out.SimOut.{SimOut}
use Rattle.conn_zones.specs.Zoning.{Zoned}
use Rattle.flow_table.specs.declared.flow.Flow.{Flow}
use Rattle.inet_packet.specs.declared.packet.Packet.{Packet}
use Rattle.match_cubes.specs.declared.sets.Sets.{Sets}
use Rattle.net_model.specs.State.{State}
use Rattle.net_model.specs.declared.crossing.Crossing.{Crossing}
use Rattle.ovn_base.proofs.ByNameLaws.{one_or_two}
use Rattle.ovn_base.specs.declared.name.Name.{Name}
use Rattle.ovn_base.specs.names.SameName.{same_name, bytes_decides}
use Rattle.physical_flows.proofs.FlowSearch.{is_some_of}
use Rattle.physical_flows.specs.ChassisFlows.{AreExactly}
use Rattle.chassis_sim.specs.declared.underlay.WaitingFrame.{WaitingFrame}
use Rattle.switch_engine.specs.Outcome.{any_legal}
use Rattle.switch_engine.specs.Zones.{ZoneLists, zone_at}
use Rattle.switch_engine.specs.declared.effect.Effect.{Effect}
use Rattle.switch_engine.specs.declared.effect.Effect.TheVariants as effect
use Rattle.switch_engine.specs.declared.effect.Entry.{Entry}
use Rattle.switch_engine.specs.declared.effect.Entry.TheVariants.{Vif, Tunnel}
use Rattle.switch_engine.specs.declared.walk.Start.{Start}
use Rattle.switch_engine.specs.declared.walk.Start.TheVariants as start_of
use Rattle.switch_engine.specs.declared.walk.Step.{Step}
use Rattle.tunnel_keys.proofs.HeldKeys.{found}
use Rattle.sim_laws.proofs.WaitingLists.{numbered_among}
use Rattle.sim_laws.proofs.counts.Cames.{came_told, came_injected, came_arrived, told_in_names}
use Rattle.sim_laws.proofs.journey_laws.ReadFrames.{read_so, crossing_of}
use Rattle.sim_laws.proofs.pipelines.SetValues.{set_same, set_apart}
use Rattle.sim_laws.specs.journeys.Counts.{AreSameZones, WalkAlike, ChassisWalksLaw, Came, AreAlike, HaveSameZones, BothHold, EntryCountLaw, ArrivalCountLaw, choices_told}
use Rattle.sim_laws.specs.journeys.Tables.{ChassisFlow}
use Rattle.sim_laws.specs.journeys.UnderWay.{IsUnderWay}

-- where these two came, the same choices match as many flows and leave the same zones
abbrev pub Alike : {before after then later : SimOut} → Came before after → Came then later → SimState → SimState → Type 0
Alike one other new end = choices_told one.effects ≡ choices_told other.effects → AreAlike one.walks other.walks new end

-- ---- zones that are written

module _ (chassis : Name) where
  own : (all : List (Name × ZoneLists)) (lists left : ZoneLists) → at_name all chassis ≡ Some lists → at_name (with_lists all chassis left) chassis ≡ Some left
  own all lists left is = set_same (same_name chassis) all left (ap (λ o. is_some o) is)

  away : (all : List (Name × ZoneLists)) (left : ZoneLists) (c : Name) → chassis ≢ c → at_name (with_lists all chassis left) c ≡ at_name all c
  away all left c apart = set_apart (same_name chassis) (same_name c) (λ n is. false_from_ne_true (same_name c n) (λ k. apart ((bytes_decides chassis n).0 is ∙ sym ((bytes_decides c n).0 k)))) all left

  -- what is found there is what was written
  found_own : (all : List (Name × ZoneLists)) (lists left : ZoneLists) → at_name all chassis ≡ Some lists → (c : Name) → chassis ≡ c → (l : ZoneLists) → at_name (with_lists all chassis left) c ≡ Some l → left ≡ l
  found_own all lists left is c same l found = same_Some left l (sym (own all lists left is) ∙ subst (λ d. at_name (with_lists all chassis left) d ≡ Some l) (sym same) found)

  written : (zones others : List (Name × ZoneLists)) → ((c : Name) (l o : ZoneLists) → at_name zones c ≡ Some l → at_name others c ≡ Some o → AreSameZones l o) → (lists theirs left also : ZoneLists)
      → at_name zones chassis ≡ Some lists → at_name others chassis ≡ Some theirs → AreSameZones left also
      → (c : Name) (l o : ZoneLists) → at_name (with_lists zones chassis left) c ≡ Some l → at_name (with_lists others chassis also) c ≡ Some o → AreSameZones l o
  written zones others same lists theirs left also listed listed' one c l o is too = elim (one_or_two chassis c) [
    | inl e ↦ λ z. ap (λ x. zone_at x z) (sym (found_own zones lists left listed c e l is)) ∙ one z ∙ ap (λ x. zone_at x z) (found_own others theirs also listed' c e o too)
    | inr apart ↦ same c l o (sym (away zones left c apart) ∙ is) (sym (away others also c apart) ∙ too)
  ]

-- ---- a walk on a chassis

-- the packet went through the chassis, and it is told
record Went (base : SimState) (from : Start) (entry : Entry) (now : ℕ) (packet : Packet) (before after : SimOut) (new : SimState) (chassis : Name) : Type 0 where
  flows : List Flow
  lists : ZoneLists
  left : ZoneLists
  steps : List Step
  effects : List Effect
  held : at_name base.chassis chassis ≡ Some flows
  listed : at_name base.zones chassis ≡ Some lists
  walk : IsWalkBy any_legal flows entry now packet lists steps effects left
  told : IsTold (rezoned base chassis left) chassis from steps effects before after new

module _ (law : ChassisWalksLaw) (m : State) (zones : Zoned) (sets : Sets) (more : ℕ) (u : IsUnderWay m zones more) where
  -- both hold the flows of the state
  abbrev Tables : SimState → Type 0
  Tables s = (c : Name) (flows : List Flow) → at_name s.chassis c ≡ Some flows → AreExactly (ChassisFlow m zones.numbers sets c) flows

  module _ (s t : SimState) (h : BothHold m zones sets s t) where
    went_alike : (base other : SimState) → Tables base → Tables other → HaveSameZones base other → (from : Start) (entry : Entry) (now : ℕ) (packet : Packet) (before after then later : SimOut) (new end : SimState) (chassis : Name)
        → (a : Went base from entry now packet before after new chassis) (b : Went other from entry now packet then later end chassis) → Alike (came_told a.told) (came_told b.told) new end
    went_alike base other tables also same from entry now packet before after then later new end chassis a b picks =
        let chosen = sym (told_in_names base.names chassis from base.next a.effects) ∙ picks ∙ told_in_names other.names chassis from other.next b.effects in
        let one : WalkAlike a.steps b.steps a.effects b.effects a.left b.left =
        law m zones more sets u h.first.members chassis a.flows b.flows (tables chassis a.flows a.held) (also chassis b.flows b.held) entry now packet a.lists b.lists a.left b.left a.steps b.steps a.effects b.effects
        (same chassis a.lists b.lists a.listed b.listed) a.walk b.walk chosen in
        record {
          count = ap (λ n. n + 0) one.same_lengths;
          zones = λ c l o is too.
              written chassis base.zones other.zones same a.lists b.lists a.left b.left a.listed b.listed one.same_zones c l o (sym (ap (λ (z : SimState). at_name z.zones c) a.told.state) ∙ is)
              (sym (ap (λ (z : SimState). at_name z.zones c) b.told.state) ∙ too);
        }

    -- what no walk is told of matches nothing
    untold_alike : (base other : SimState) → HaveSameZones base other → (c d : Name) (from to : Start) (es fs : List Effect) (before after then later : SimOut) (new end : SimState)
        → (a : IsTold base c from [] es before after new) (b : IsTold other d to [] fs then later end) → Alike (came_told a) (came_told b) new end
    untold_alike base other same c d from to es fs before after then later new end a b picks =
        record { count = refl; zones = λ e l o is too. same e l o (sym (ap (λ (z : SimState). at_name z.zones e) a.state) ∙ is) (sym (ap (λ (z : SimState). at_name z.zones e) b.state) ∙ too) }

    -- ---- a packet goes in

    held_too : (c : Name) (flows : List Flow) → at_name s.chassis c ≡ Some flows → at_name t.chassis c ≡ None → ⊥
    held_too c flows is none =
        let f = found (at_name t.chassis c) ((h.second.held c).1 ((h.first.held c).0 (is_some_of (at_name s.chassis c) flows is))) in
        none-some f.0 (sym none ∙ f.1)

    held_also : (c : Name) (flows : List Flow) → at_name t.chassis c ≡ Some flows → at_name s.chassis c ≡ None → ⊥
    held_also c flows is none =
        let f = found (at_name s.chassis c) ((h.first.held c).1 ((h.second.held c).0 (is_some_of (at_name t.chassis c) flows is))) in
        none-some f.0 (sym none ∙ f.1)

    one_home : (port c d : Name) → at_name s.bindings port ≡ Some c → at_name t.bindings port ≡ Some d → c ≡ d
    one_home port c d is also = same_Some c d (sym is ∙ h.first.bindings port ∙ sym (h.second.bindings port) ∙ also)

    module _ (new end : SimState) (before after then later : SimOut) where
      pub injected_alike : (port : Name) (packet : Packet) (a : IsInjected any_legal s port m.clock packet before after new) (b : IsInjected any_legal t port m.clock packet then later end)
          → Alike (came_injected a) (came_injected b) new end
      injected_alike port packet (passing.IsInjected.through c flows lists left steps effects bound held listed walk told) (passing.IsInjected.through d flows' lists' left' steps' effects' bound' held' listed' walk' told') =
          let a : Went s (start_of.Port port) (Vif port) m.clock packet before after new c = record { flows = flows; lists = lists; left = left; steps = steps; effects = effects; held = held; listed = listed; walk = walk; told = told } in
          let b : Went t (start_of.Port port) (Vif port) m.clock packet then later end d = record { flows = flows'; lists = lists'; left = left'; steps = steps'; effects = effects'; held = held'; listed = listed'; walk = walk'; told = told' } in
          by c d (one_home port c d bound bound') a b
        where
          by : (c d : Name) → c ≡ d → (a : Went s (start_of.Port port) (Vif port) m.clock packet before after new c) (b : Went t (start_of.Port port) (Vif port) m.clock packet then later end d) → Alike (came_told a.told) (came_told b.told) new end
          by c d same a =
              subst (λ e. (b : Went t (start_of.Port port) (Vif port) m.clock packet then later end e) → Alike (came_told a.told) (came_told b.told) new end) same
              (λ b. went_alike s t h.first.tables h.second.tables h.same_zones (start_of.Port port) (Vif port) m.clock packet before after then later new end c a b)
      injected_alike port packet (passing.IsInjected.through c flows lists left steps effects bound held listed walk told) (passing.IsInjected.nowhere d bound' none told') =
          absurd (held_too c flows held (ap (at_name t.chassis) (one_home port c d bound bound') ∙ none))
      injected_alike port packet (passing.IsInjected.nowhere c bound none told) (passing.IsInjected.through d flows' lists' left' steps' effects' bound' held' listed' walk' told') =
          absurd (held_also d flows' held' (ap (at_name s.chassis) (sym (one_home port c d bound bound')) ∙ none))
      injected_alike port packet (passing.IsInjected.nowhere c bound none told) (passing.IsInjected.nowhere d bound' none' told') =
          untold_alike s t h.same_zones c d (start_of.Port port) (start_of.Port port) [] [] before after then later new end told told'

      -- ---- a frame arrives

      -- both read the crossing off the frame
      same_frame : (n : ℕ) (frame other : WaitingFrame) → numbered s.waiting n ≡ Some frame → numbered t.waiting n ≡ Some other → frame ≡ other
      same_frame n frame other is also = same_Some frame other (sym is ∙ ap (λ ws. numbered ws n) (h.first.waiting ∙ sym h.second.waiting) ∙ also)

      pub arrived_alike : (n : ℕ) (keep : Bool) (a : IsArrived any_legal s n keep m.clock before after new) (b : IsArrived any_legal t n keep m.clock then later end) → Alike (came_arrived a) (came_arrived b) new end
      arrived_alike n keep (passing.IsArrived.through frame flows lists left vni in_key out_key packet steps effects waits held listed carries walk told)
          (passing.IsArrived.through frame' flows' lists' left' vni' in_key' out_key' packet' steps' effects' waits' held' listed' carries' walk' told') =
          let c = crossing_of m zones.numbers sets s h.first n frame waits in
          let x : Crossing = c.crossing in
          let may = u.crossings.may n x (numbered_among m.waiting n x c.waits) in
          let same = same_frame n frame frame' waits waits' in
          let read = read_so m u.keys x may vni in_key out_key packet (subst (λ (f : WaitingFrame). Carries f.bytes vni in_key out_key packet) c.is carries) in
          let other = read_so m u.keys x may vni' in_key' out_key' packet' (subst (λ (f : WaitingFrame). Carries f.bytes vni' in_key' out_key' packet') (sym same ∙ c.is) carries') in
          let a : Went (arrived s n keep) (start_of.Frame n) (Tunnel vni in_key out_key) m.clock packet before after new frame.to = record { flows = flows; lists = lists; left = left; steps = steps; effects = effects; held = held; listed = listed; walk = walk; told = told } in
          let b : Went (arrived t n keep) (start_of.Frame n) (Tunnel vni' in_key' out_key') m.clock packet' then later end frame'.to = record { flows = flows'; lists = lists'; left = left'; steps = steps'; effects = effects'; held = held'; listed = listed'; walk = walk'; told = told' } in
          by frame.to frame'.to (ap (λ (f : WaitingFrame). f.to) same) (Tunnel vni in_key out_key) (Tunnel vni' in_key' out_key') (read.0 ∙ sym other.0) packet packet' (read.1 ∙ sym other.1) a b
        where
          by : (c d : Name) → c ≡ d → (entry entry' : Entry) → entry ≡ entry' → (packet packet' : Packet) → packet ≡ packet' → (a : Went (arrived s n keep) (start_of.Frame n) entry m.clock packet before after new c)
              → (b : Went (arrived t n keep) (start_of.Frame n) entry' m.clock packet' then later end d) → Alike (came_told a.told) (came_told b.told) new end
          by c d home entry entry' es packet packet' ps a =
              subst (λ e. (b : Went (arrived t n keep) (start_of.Frame n) entry' m.clock packet' then later end e) → Alike (came_told a.told) (came_told b.told) new end) home
              (subst (λ e. (b : Went (arrived t n keep) (start_of.Frame n) e m.clock packet' then later end c) → Alike (came_told a.told) (came_told b.told) new end) es
              (subst (λ p. (b : Went (arrived t n keep) (start_of.Frame n) entry m.clock p then later end c) → Alike (came_told a.told) (came_told b.told) new end) ps
              (λ b. went_alike (arrived s n keep) (arrived t n keep) h.first.tables h.second.tables h.same_zones (start_of.Frame n) entry m.clock packet before after then later new end c a b)))
      arrived_alike n keep (passing.IsArrived.through frame flows lists left vni in_key out_key packet steps effects waits held listed carries walk told) (passing.IsArrived.gone frame' waits' none told') =
          absurd (held_too frame.to flows held (ap (λ (f : WaitingFrame). at_name t.chassis f.to) (same_frame n frame frame' waits waits') ∙ none))
      arrived_alike n keep (passing.IsArrived.gone frame waits none told) (passing.IsArrived.through frame' flows' lists' left' vni' in_key' out_key' packet' steps' effects' waits' held' listed' carries' walk' told') =
          absurd (held_also frame'.to flows' held' (ap (λ (f : WaitingFrame). at_name s.chassis f.to) (sym (same_frame n frame frame' waits waits')) ∙ none))
      arrived_alike n keep (passing.IsArrived.gone frame waits none told) (passing.IsArrived.gone frame' waits' none' told') =
          untold_alike (arrived s n keep) (arrived t n keep) h.same_zones frame.to frame'.to (start_of.Frame n) (start_of.Frame n) (effect.Lost ∷ []) (effect.Lost ∷ []) before after then later new end told told'

-- ---- the laws

pub entries_count : ChassisWalksLaw → EntryCountLaw
entries_count law m zones sets more s t new end port packet before after then later u h a b =
    record { one = came_injected a; other = came_injected b; alike = injected_alike law m zones sets more u s t h new end before after then later port packet a b }

pub arrivals_count : ChassisWalksLaw → ArrivalCountLaw
arrivals_count law m zones sets more s t new end n keep before after then later u h a b =
    record { one = came_arrived a; other = came_arrived b; alike = arrived_alike law m zones sets more u s t h new end before after then later n keep a b }
