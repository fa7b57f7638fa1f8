-- A turn of the configuration empties the zones that its event empties, and all others stay.
use Rattle.std.specs.Prelude.{◌≡◌, ◌++◌, ℕ, List, [], map, Option, Some, None, is_some, refl}
use Rattle.std.specs.Map.{keys_of}
use Rattle.std.specs.Option.{option_and_then}
use Rattle.std.proofs.Common.{sym, ap, ◌∙◌, subst, inl, inr}
use Rattle.std.proofs.lemmas.Option.{none-some, same_Some}
use Rattle.chassis_sim.specs.Changing.{AreEmptied, IsApplied, emptied_at, gone, without_zone}
use Rattle.chassis_sim.specs.Settings.{set_in_turn}
use Rattle.chassis_sim.specs.State.{SimState, at_name}
use Rattle.chassis_sim.specs.declared.change.SimChange.{SimChange}
use Rattle.conn_table.specs.Connections.{ConnectionList}
use Rattle.conn_zones.specs.Zoning.{Zoned}
use Rattle.net_model.specs.State.{State}
use Rattle.ovn_base.proofs.AmongLaws.{map_among}
use Rattle.ovn_base.specs.declared.name.Name.{Name}
use Rattle.ovn_base.specs.lists.Among.{Among}
use Rattle.ovn_base.specs.names.SameName.{same_name}
use Rattle.sim_laws.proofs.turn_laws.SetEntries.{among_or_not, none_comes, one_comes}
use Rattle.switch_engine.specs.Zones.{ZoneLists, zone_at}
use Rattle.tuple_space.specs.declared.space.TupleSpace.{TupleSpace}
use Rattle.world_setup.proofs.HeldFlows.{flows_of}
use Rattle.world_setup.specs.TurnEvents.{event_of_turn}
use Rattle.world_setup.specs.Ground.{GroundView, ground_of}
use Rattle.world_setup.specs.Setup.{IsTurnOfTables}
use Rattle.world_core.specs.WorldView.{AreHeld}
use Rattle.world_setup.specs.Zones.{Relists, emptied_by, left_by, list_on}
use Rattle.world_setup.specs.declared.turn_event.TurnEvent.{TurnEvent}
use Rattle.world_setup.specs.declared.turn_event.TurnEvent.TheVariants as turn_event

-- the list of a zone, where there are zones
abbrev list_among : ℕ → Option ZoneLists → Option ConnectionList
list_among z zones = option_and_then (λ (lists : ZoneLists). zone_at lists z) zones

-- what zones have, once some are emptied
emptied_among : (emptied : List (Name × ℕ)) (c : Name) (between after : Option ZoneLists) (lists : ZoneLists) (z : ℕ) → AreEmptied emptied c between after → after ≡ Some lists
    → zone_at lists z ≡ emptied_at emptied c z (list_among z between)
emptied_among emptied c None after lists z h is = absurd (none-some lists (sym h ∙ is))
emptied_among emptied c (Some old) after lists z h is = ap (λ (k : ZoneLists). zone_at k z) (same_Some lists h.0 (sym is ∙ h.1)) ∙ h.2 z

-- where chassis come that had no zones, no list comes with them
module _ {T : Type 0} (added : List (Name × T)) (c : Name) (had : Option ZoneLists) (fresh : Among c (keys_of added) → had ≡ None) where
  -- a zone has the list that it had, or none
  come_empty : (z : ℕ) → list_among z (set_in_turn same_name (map without_zone added) c had) ≡ list_among z had
  come_empty z = elim (among_or_not c (keys_of added)) [
    | inl among ↦ ap (list_among z) (one_comes (λ tables. []) added c had among).is ∙ sym (ap (list_among z) (fresh among))
    | inr none ↦ ap (list_among z) (none_comes (λ tables. []) added c had none)
  ]

module _ (m : State) (zones : Zoned) (change : SimChange TupleSpace) (after : GroundView) (tables : IsTurnOfTables (ground_of m zones) after change) (s new : SimState) (held : AreHeld m zones s) (made : IsApplied flows_of s change new) where
  -- who comes has no zones yet
  fresh_zones : (c : Name) → Among c (keys_of change.added) → at_name s.zones c ≡ None
  fresh_zones c among = by (at_name s.zones c) refl
    where
      by : (had : Option ZoneLists) → at_name s.zones c ≡ had → had ≡ None
      by None is = refl
      by (Some lists) is =
          let e = map_among (λ (x : Name × TupleSpace). x.0) c change.added among in
          absurd ((tables.added e.0 e.1).1 (subst (λ d. Among d m.config.chassis) e.2 ((held.held c).0 (sym (held.zoned c) ∙ ap (λ o. is_some o) is))))

  -- nobody goes
  between : (c : Name) → set_in_turn same_name (map gone change.removed ++ map without_zone change.added) c (at_name s.zones c) ≡ set_in_turn same_name (map without_zone change.added) c (at_name s.zones c)
  between c = ap (λ (names : List Name). set_in_turn same_name (map gone names ++ map without_zone change.added) c (at_name s.zones c)) tables.removed

  -- each zone has its list, once those of the change are emptied
  lists_then : (c : Name) (lists : ZoneLists) → at_name new.zones c ≡ Some lists → (z : ℕ) → zone_at lists z ≡ emptied_at change.emptied c z (list_on s c z)
  lists_then c lists is z =
      emptied_among change.emptied c _ (at_name new.zones c) lists z (made.zones c) is
      ∙ ap (emptied_at change.emptied c z) (ap (list_among z) (between c) ∙ come_empty change.added c (at_name s.zones c) (fresh_zones c) z)

  -- a turn leaves each list as it is, but for the zones that it empties
  turn_leaves : (event : TurnEvent) (now : ℕ) (list : Option ConnectionList) → left_by (event_of_turn event) now list ≡ list
  turn_leaves (turn_event.Edit ops) now list = refl
  turn_leaves (turn_event.Bind p c) now list = refl
  turn_leaves (turn_event.AddChassis c) now list = refl
  turn_leaves (turn_event.Health balancer backend online) now list = refl

  -- what the event says of lists
  pub relisted : (event : TurnEvent) (now : ℕ) (later : Zoned) → change.emptied ≡ emptied_by (event_of_turn event) zones later → Relists (event_of_turn event) now zones later s new
  relisted event now later same c lists is z =
      lists_then c lists is z
      ∙ (λ i. emptied_at (same i) c z (sym (turn_leaves event now (list_on s c z)) i))
