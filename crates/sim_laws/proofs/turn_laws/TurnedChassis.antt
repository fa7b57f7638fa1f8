-- Once a turn is made on the simulated chassis, they hold the state after it.
use Rattle.std.specs.Prelude.{◌≡◌, ◌++◌, ℕ, List, [], map, Option, Some, None, IsSome, refl}
use Rattle.std.specs.List.Sorted.{IsStrictlySortedBy}
use Rattle.std.specs.Map.{keys_of}
use Rattle.std.proofs.Common.{sym, ap, ◌∙◌, subst, arith, inl, inr}
use Rattle.std.proofs.lemmas.Option.{none-some, same_Some}
use Rattle.chassis_sim.proofs.Lookups.{set_append}
use Rattle.chassis_sim.proofs.Rezoning as rezoning
use Rattle.chassis_sim.specs.Changing.{AllAreDeltas, AreEmptied, AreReplaced, IsApplied, IsDeltaOfAny, come, gone, without_zone}
use Rattle.chassis_sim.specs.Holding.{AreZoned}
use Rattle.chassis_sim.specs.Settings.{set_in_turn}
use Rattle.chassis_sim.specs.State as sim
use Rattle.chassis_sim.specs.State.{at_name}
use Rattle.chassis_sim.specs.declared.change.SimChange.{SimChange}
use Rattle.conn_zones.specs.Zoning.{Zoned, GivenNumbers, KnownHomes, home_for}
use Rattle.conn_zones.specs.declared.numbers.ZoneUse.TheVariants as zone
use Rattle.flow_table.specs.declared.flow.Flow.{Flow}
use Rattle.match_cubes.specs.declared.sets.Sets.{Sets}
use Rattle.net_model.specs.State.{State}
use Rattle.net_model.specs.Trail.{ListOwner, of_port, dnat_of, snat_of}
use Rattle.ovn_base.proofs.AmongLaws.{all_among, among_map, among_none, map_among}
use Rattle.ovn_base.specs.declared.delta.Delta.{Delta}
use Rattle.ovn_base.specs.declared.name.Name.{Name}
use Rattle.ovn_base.specs.lists.Among.{Among}
use Rattle.ovn_base.specs.names.SameName.{same_name}
use Rattle.physical_flows.proofs.FlowSearch.{is_some_of, some_of}
use Rattle.physical_flows.specs.Bindings.{AreBound}
use Rattle.physical_flows.specs.ChassisFlows.{AreExactly}
use Rattle.switch_engine.specs.Zones.{ZoneLists, zone_at}
use Rattle.sim_laws.proofs.turn_laws.FlowChanges.{IsExact, delta_of_held, replaced_exactly}
use Rattle.sim_laws.proofs.turn_laws.RouterZones.{home_there}
use Rattle.sim_laws.proofs.turn_laws.SetEntries.{among_or_not, emptied_then, found_once, gone_then, kept_then, none_comes, one_comes, stays_there}
use Rattle.sim_laws.specs.journeys.Holding.{HoldsNetwork}
use Rattle.sim_laws.specs.journeys.InState.{zones_on}
use Rattle.sim_laws.specs.journeys.Tables.{ChassisFlow}
use Rattle.sim_laws.specs.journeys.Turning.{TurnLaw, DeltaLaw}
use Rattle.sim_laws.specs.journeys.TurnedTables.{IsFlowChange, IsTurnOfTables}
use Rattle.sim_laws.specs.journeys.TurnedZones.{turned_with}
use Rattle.sim_laws.specs.pipelines.HeldLists.{IsGoodList, HoldLists}

-- who has a zone on a chassis is at home there
pub zone_home : (zones : Zoned) (m : State) → AreBound m.config zones → (c : Name) (owner : ListOwner) (z : ℕ) → zones_on zones.numbers c owner ≡ Some z → Among c m.config.chassis
zone_home zones m bound c (of_port q) z is =
    let home = (bound.zoned.at_home c (zone.Port q)).1 (is_some_of (zones_on zones.numbers c (of_port q)) z is) in
    bound.chassis_there q c (ap (λ (k : KnownHomes). home_for k (zone.Port q)) (sym bound.homes) ∙ home)
zone_home zones m bound c (dnat_of r) z is =
    let home = (bound.zoned.at_home c (zone.Dnat r)).1 (is_some_of (zones_on zones.numbers c (dnat_of r)) z is) in
    home_there m.config r c (ap (λ (k : KnownHomes). home_for k (zone.Dnat r)) (sym bound.homes) ∙ home)
zone_home zones m bound c (snat_of r) z is =
    let home = (bound.zoned.at_home c (zone.Snat r)).1 (is_some_of (zones_on zones.numbers c (snat_of r)) z is) in
    home_there m.config r c (ap (λ (k : KnownHomes). home_for k (zone.Snat r)) (sym bound.homes) ∙ home)

-- a list without connections is one that a zone holds
empty_good : IsGoodList []
unfolding IsStrictlySortedBy
empty_good = record {
  forwards = [];
  zone = record {
    law = record {
      in_order = tt;
      connections = λ t e m. absurd (among_none (t, e) m);
      replies_apart = λ t u e f m n same. absurd (among_none (t, e) m);
      ends_apart = λ t u e f m n same. absurd (among_none (t, e) m);
      few = omega arith;
    };
    index = record { sound = λ r t found. absurd (none-some t found); whole = λ t e m. absurd (among_none (t, e) m) };
  };
  within = λ t e m. absurd (among_none (t, e) m);
}

module _ {T : Type 0} (flows_of : T → List Flow) (m : State) (numbers : GivenNumbers) (sets : Sets) (next : List Name) (After : Name → Flow → Type 0) (change : SimChange T) (s : sim.SimState) (h : HoldsNetwork m numbers sets s)
    (t : IsTurnOfTables flows_of m.config.chassis next (ChassisFlow m numbers sets) After change) where
  -- ---- deltas

  pub are_deltas : AllAreDeltas s.chassis change.tables
  are_deltas = all_among (λ e. IsDeltaOfAny e.1 (at_name s.chassis e.0)) change.tables (λ e among. by e (at_name s.chassis e.0) refl (changes e among))
    where
      changes : (e : Name × Delta Flow) → Among e change.tables → IsFlowChange (ChassisFlow m numbers sets e.0) (After e.0) e.1
      changes e among =
          let both = t.told e.0 (among_map (λ (x : Name × Delta Flow). x.0) e change.tables among) in
          let has = t.stay e.0 both.0 both.1 in
          subst (λ d. IsFlowChange (ChassisFlow m numbers sets e.0) (After e.0) d) (same_Some has.delta e.1 (sym has.is ∙ found_once change.tables e t.told_once among)) has.change

      by : (e : Name × Delta Flow) (had : Option (List Flow)) → at_name s.chassis e.0 ≡ had → IsFlowChange (ChassisFlow m numbers sets e.0) (After e.0) e.1 → IsDeltaOfAny e.1 had
      by e None is d = tt
      by e (Some flows) is d = delta_of_held (ChassisFlow m numbers sets e.0) (After e.0) flows e.1 (h.tables e.0 flows is) d

  -- ---- flows

  module _ (new : sim.SimState) (made : IsApplied flows_of s change new) (exact : IsExact) where
    abbrev between : Name → Option (List Flow)
    between c = (made.chassis c).0

    not_removed : (c : Name) → Among c next → ¬ Among c change.removed
    not_removed c then among = ((t.go c).0 among).1 then

    not_added : (c : Name) → Among c m.config.chassis → ¬ Among c (keys_of change.added)
    not_added c was among =
        let e = map_among (λ (x : Name × T). x.0) c change.added among in
        (t.added e.0 e.1).1 (subst (λ d. Among d m.config.chassis) e.2 was)

    added_then : (c : Name) → Among c (keys_of change.added) → Among c next
    added_then c among =
        let e = map_among (λ (x : Name × T). x.0) c change.added among in
        subst (λ d. Among d next) (sym e.2) (t.added e.0 e.1).0

    -- the flows of a chassis, once chassis went and came
    flows_are : (c : Name) → at_name new.chassis c ≡ set_in_turn same_name (map (come flows_of) change.added) c (set_in_turn same_name (map gone change.removed) c (between c))
    flows_are c = (made.chassis c).2 ∙ set_append same_name (map gone change.removed) (map (come flows_of) change.added) c (between c)

    -- who stays has its flows after the delta
    stays : (c : Name) → Among c m.config.chassis → Among c next → (others : List Flow) × (at_name new.chassis c ≡ Some others) × AreExactly (After c) others
    stays c was then =
        let has = t.stay c was then in
        let had = some_of (at_name s.chassis c) ((h.held c).1 was) in
        let r : AreReplaced (Some has.delta) (Some had.0) (between c) = subst (λ d. AreReplaced d (Some had.0) (between c)) has.is (subst (λ o. AreReplaced (at_name change.tables c) o (between c)) had.1 (made.chassis c).1) in
        let same : at_name new.chassis c ≡ between c =
        flows_are c ∙ none_comes flows_of change.added c (set_in_turn same_name (map gone change.removed) c (between c)) (not_added c was) ∙ stays_there change.removed c (between c) (not_removed c then) in
        (r.0, same ∙ r.1, replaced_exactly (ChassisFlow m numbers sets c) (After c) had.0 has.delta (h.tables c had.0 had.1) has.change exact r.0 r.2 r.3)

    -- who comes has all of its own
    comes : (c : Name) → Among c (keys_of change.added) → (others : List Flow) × (at_name new.chassis c ≡ Some others) × AreExactly (After c) others
    comes c among =
        let r = one_comes flows_of change.added c (set_in_turn same_name (map gone change.removed) c (between c)) among in
        (flows_of r.entry.1, flows_are c ∙ r.is, subst (λ d. AreExactly (After d) (flows_of r.entry.1)) r.own (t.added r.entry r.among).2)

    there_then : (c : Name) → Among c next → (others : List Flow) × (at_name new.chassis c ≡ Some others) × AreExactly (After c) others
    there_then c then = elim (among_or_not c m.config.chassis) [
      | inl was ↦ stays c was then
      | inr new' ↦ elim (t.come c then) [ inl was ↦ absurd (new' was) | inr among ↦ comes c among ]
    ]

    -- who isn't there then has no flows
    wasn't : (c : Name) → ¬ Among c m.config.chassis → between c ≡ None
    wasn't c apart = none_then (at_name change.tables c) (between c) (subst (λ o. AreReplaced (at_name change.tables c) o (between c)) (none_before (at_name s.chassis c) refl) (made.chassis c).1)
      where
        none_before : (had : Option (List Flow)) → at_name s.chassis c ≡ had → had ≡ None
        none_before None is = refl
        none_before (Some flows) is = absurd (apart ((h.held c).0 (is_some_of (at_name s.chassis c) flows is)))

        none_then : (d : Option (Delta Flow)) (then : Option (List Flow)) → AreReplaced d None then → then ≡ None
        none_then None then is = is
        none_then (Some delta) then is = is

    gone_so : (c : Name) → ¬ Among c next → at_name new.chassis c ≡ None
    gone_so c none =
        flows_are c ∙ none_comes flows_of change.added c (set_in_turn same_name (map gone change.removed) c (between c)) (λ among. none (added_then c among)) ∙ left
      where
        left : set_in_turn same_name (map gone change.removed) c (between c) ≡ None
        left = elim (among_or_not c m.config.chassis) [
          | inl was ↦ gone_then change.removed c (between c) ((t.go c).1 (was, none))
          | inr apart ↦ stays_there change.removed c (between c) (λ among. apart ((t.go c).0 among).0) ∙ wasn't c apart
        ]

    pub held_there : (c : Name) → Among c next → IsSome (at_name new.chassis c)
    held_there c then = let r = there_then c then in is_some_of (at_name new.chassis c) r.0 r.1

    pub there_held : (c : Name) → IsSome (at_name new.chassis c) → Among c next
    there_held c has = elim (among_or_not c next) [
      | inl then ↦ then
      | inr none ↦ let r = some_of (at_name new.chassis c) has in absurd (none-some r.0 (sym (gone_so c none) ∙ r.1))
    ]

    pub flows_then : (c : Name) (flows : List Flow) → at_name new.chassis c ≡ Some flows → AreExactly (After c) flows
    flows_then c flows is =
        let r = there_then c (there_held c (is_some_of (at_name new.chassis c) flows is)) in
        subst (λ fs. AreExactly (After c) fs) (same_Some r.0 flows (sym r.1 ∙ is)) r.2

    -- ---- zones

    abbrev zones_between : Name → Option ZoneLists
    zones_between c = set_in_turn same_name (map gone change.removed ++ map without_zone change.added) c (at_name s.zones c)

    -- just the chassis that are held have zones
    pub zoned_then : AreZoned new.chassis new.zones
    zoned_then c =
        rezoning.zoned_still flows_of change c (at_name s.chassis c) (between c) (set_in_turn same_name (map gone change.removed) c (between c)) (at_name new.chassis c)
        (at_name s.zones c) (set_in_turn same_name (map gone change.removed) c (at_name s.zones c)) (zones_between c) (at_name new.zones c)
        (h.zoned c) (made.chassis c).1 refl (flows_are c) refl (set_append same_name (map gone change.removed) (map without_zone change.added) c (at_name s.zones c)) (made.zones c)

    -- who stays has the zones that it had
    pub zones_stay : (c : Name) → Among c m.config.chassis → Among c next → zones_between c ≡ at_name s.zones c
    zones_stay c was then =
        set_append same_name (map gone change.removed) (map without_zone change.added) c (at_name s.zones c)
        ∙ none_comes (λ tables. []) change.added c (set_in_turn same_name (map gone change.removed) c (at_name s.zones c)) (not_added c was)
        ∙ stays_there change.removed c (at_name s.zones c) (not_removed c then)

    -- a zone that isn't emptied is the one before
    pub zone_kept : (c : Name) → Among c m.config.chassis → Among c next → (lists : ZoneLists) → at_name new.zones c ≡ Some lists → (z : ℕ) → ¬ Among (c, z) change.emptied
        → (old : ZoneLists) × (at_name s.zones c ≡ Some old) × (zone_at lists z ≡ zone_at old z)
    zone_kept c was then lists is z apart = by (at_name s.zones c) refl (subst (λ o. AreEmptied change.emptied c o (at_name new.zones c)) (zones_stay c was then) (made.zones c))
      where
        by : (had : Option ZoneLists) → at_name s.zones c ≡ had → AreEmptied change.emptied c had (at_name new.zones c) → (old : ZoneLists) × (at_name s.zones c ≡ Some old) × (zone_at lists z ≡ zone_at old z)
        by None e r = absurd (none-some lists (sym r ∙ is))
        by (Some old) e r = (old, e, ap (λ (k : ZoneLists). zone_at k z) (same_Some lists r.0 (sym is ∙ r.1)) ∙ r.2 z ∙ kept_then c z change.emptied (zone_at old z) apart)

    -- and one that is emptied is empty
    pub zone_empty : (c : Name) (lists : ZoneLists) → at_name new.zones c ≡ Some lists → (z : ℕ) → Among (c, z) change.emptied → zone_at lists z ≡ Some []
    zone_empty c lists is z among = by (zones_between c) (made.zones c)
      where
        by : (had : Option ZoneLists) → AreEmptied change.emptied c had (at_name new.zones c) → zone_at lists z ≡ Some []
        by None r = absurd (none-some lists (sym r ∙ is))
        by (Some old) r = ap (λ (k : ZoneLists). zone_at k z) (same_Some lists r.0 (sym is ∙ r.1)) ∙ r.2 z ∙ emptied_then c z change.emptied (zone_at old z) among

-- ---- all of it

module _ {T : Type 0} (flows_of : T → List Flow) (exact : IsExact) where
  pub turns : TurnLaw flows_of
  turns m zones later sets others more turn keys change s new u bound h t made = record {
    bindings = λ q. made.bindings q ∙ ap (set_in_turn same_name change.bound q) (h.bindings q) ∙ t.bindings q;
    names = t.names s new h.names made.names;
    held = λ c. (there_held flows_of m zones.numbers sets turn.next.chassis After change s h t.tables new made exact c, held_there flows_of m zones.numbers sets turn.next.chassis After change s h t.tables new made exact c);
    members = t.members;
    tables = flows_then flows_of m zones.numbers sets turn.next.chassis After change s h t.tables new made exact;
    zoned = zoned_then flows_of m zones.numbers sets turn.next.chassis After change s h t.tables new made exact;
    zones = hold;
    waiting = made.waiting ∙ h.waiting ∙ sym t.frames;
    next = made.next ∙ h.next;
  }
    where
      After : Name → Flow → Type 0
      After c = ChassisFlow (turned_with turn keys m) later.numbers others c

      hold : (c : Name) (lists : ZoneLists) → at_name new.zones c ≡ Some lists → HoldLists (zones_on later.numbers c) lists (turned_with turn keys m).lists
      hold c lists is owner z numbered = elim (t.zones c then owner z numbered) [
        | inl k ↦
            let kept = zone_kept flows_of m zones.numbers sets turn.next.chassis After change s h t.tables new made exact c k.was then lists is z k.kept in
            let old = h.zones c kept.0 kept.1 owner z k.number in
            record { list = old.list; has = k.list ∙ old.has; held = kept.2 ∙ old.held; good = old.good }
        | inr b ↦ record {
          list = [];
          has = b.list;
          held = zone_empty flows_of m zones.numbers sets turn.next.chassis After change s h t.tables new made exact c lists is z b.empties;
          good = empty_good;
        }
      ]
        where
          then : Among c turn.next.chassis
          then = zone_home later (turned_with turn keys m) bound c owner z numbered

pub deltas : {T : Type 0} (flows_of : T → List Flow) → DeltaLaw flows_of
deltas flows_of m before after sets others turn keys change s h t =
    are_deltas flows_of m before sets turn.next.chassis (ChassisFlow (turned_with turn keys m) after others) change s h t.tables
