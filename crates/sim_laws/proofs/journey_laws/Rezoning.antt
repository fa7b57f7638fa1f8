-- The zones of all chassis hold the lists, once those of one chassis were written, and just the chassis that are held have zones.
use Rattle.std.specs.Prelude.{◌≡◌, ◌≢◌, ℕ, List, Some, is_some}
use Rattle.std.proofs.Common.{sym, ap, ◌∙◌, subst, inl, inr}
use Rattle.std.proofs.lemmas.Bool.{false_from_ne_true}
use Rattle.std.proofs.lemmas.Option.{same_Some}
use Rattle.chassis_sim.proofs.Lookups.{written_some}
use Rattle.chassis_sim.specs.Holding.{AreZoned, with_lists}
use Rattle.chassis_sim.specs.State as sim
use Rattle.chassis_sim.specs.State.{at_name}
use Rattle.conn_zones.specs.Zoning.{Zoned, KnownHomes, home_for}
use Rattle.conn_zones.specs.declared.numbers.ZoneUse.TheVariants as zone
use Rattle.flow_table.specs.declared.flow.Flow.{Flow}
use Rattle.match_cubes.specs.declared.sets.Sets.{Sets}
use Rattle.net_model.specs.State.{State}
use Rattle.net_model.specs.Trail.{Lists, ListOwner, of_port, dnat_of, snat_of}
use Rattle.ovn_base.proofs.ByNameLaws.{one_or_two}
use Rattle.ovn_base.specs.declared.name.Name.{Name}
use Rattle.ovn_base.specs.names.SameName.{same_name, bytes_decides}
use Rattle.physical_flows.proofs.FlowSearch.{is_some_of}
use Rattle.physical_flows.specs.Bindings.{AreBound}
use Rattle.switch_engine.specs.Zones.{ZoneLists}
use Rattle.sim_laws.proofs.journey_laws.Ways.{IsHere}
use Rattle.sim_laws.proofs.pipelines.SetValues.{set_same, set_apart}
use Rattle.sim_laws.specs.journeys.Holding.{HoldsNetwork}
use Rattle.sim_laws.specs.journeys.InState.{zones_on}
use Rattle.sim_laws.specs.pipelines.HeldLists.{list_there, HoldLists}

-- the same chassis have zones once lists of one are written
pub zoned_still : (held : List (Name × List Flow)) (zones : List (Name × ZoneLists)) (chassis : Name) (left : ZoneLists) → AreZoned held zones → AreZoned held (with_lists zones chassis left)
zoned_still held zones chassis left zoned c = written_some (same_name chassis) (same_name c) zones left ∙ zoned c

module _ (m : State) (zones : Zoned) (bound : AreBound m.config zones) (sets : Sets) (s : sim.SimState) (h : HoldsNetwork m zones.numbers sets s) (chassis : Name) (lists : ZoneLists) (listed : at_name s.zones chassis ≡ Some lists)
    (after : Lists) (left : ZoneLists) (hold : HoldLists (zones_on zones.numbers chassis) left after) (others : (owner : ListOwner) → ¬ IsHere m.config chassis owner → list_there after owner ≡ list_there m.lists owner) where
  abbrev Hold : Name → ZoneLists → Type 0
  Hold c held = HoldLists (zones_on zones.numbers c) held after

  -- a list that has its zone on another chassis isn't one of this
  away : (c : Name) → chassis ≢ c → (owner : ListOwner) (z : ℕ) → zones_on zones.numbers c owner ≡ Some z → ¬ IsHere m.config chassis owner
  away c apart (of_port q) z is here =
      let home : home_for zones.homes (zone.Port q) ≡ Some c = (bound.zoned.at_home c (zone.Port q)).1 (is_some_of (zones_on zones.numbers c (of_port q)) z is) in
      apart (same_Some chassis c (sym here ∙ sym (ap (λ (k : KnownHomes). home_for k (zone.Port q)) bound.homes) ∙ home))
  away c apart (dnat_of r) z is here =
      let home : home_for zones.homes (zone.Dnat r) ≡ Some c = (bound.zoned.at_home c (zone.Dnat r)).1 (is_some_of (zones_on zones.numbers c (dnat_of r)) z is) in
      apart (same_Some chassis c (sym here ∙ sym (ap (λ (k : KnownHomes). home_for k (zone.Dnat r)) bound.homes) ∙ home))
  away c apart (snat_of r) z is here =
      let home : home_for zones.homes (zone.Snat r) ≡ Some c = (bound.zoned.at_home c (zone.Snat r)).1 (is_some_of (zones_on zones.numbers c (snat_of r)) z is) in
      apart (same_Some chassis c (sym here ∙ sym (ap (λ (k : KnownHomes). home_for k (zone.Snat r)) bound.homes) ∙ home))

  own_zones : at_name (with_lists s.zones chassis left) chassis ≡ Some left
  own_zones = set_same (same_name chassis) s.zones left (ap (λ o. is_some o) listed)

  other_zones : (c : Name) → chassis ≢ c → at_name (with_lists s.zones chassis left) c ≡ at_name s.zones c
  other_zones c apart =
      set_apart (same_name chassis) (same_name c) (λ n is. false_from_ne_true (same_name c n) (λ k. apart ((bytes_decides chassis n).0 is ∙ sym ((bytes_decides c n).0 k)))) s.zones left

  held_elsewhere : (c : Name) → chassis ≢ c → (held : ZoneLists) → at_name s.zones c ≡ Some held → Hold c held
  held_elsewhere c apart held there owner z is =
      let old = h.zones c held there owner z is in
      record { list = old.list; has = others owner (away c apart owner z is) ∙ old.has; held = old.held; good = old.good }

  pub rezoned_hold : (c : Name) (held : ZoneLists) → at_name (with_lists s.zones chassis left) c ≡ Some held → Hold c held
  rezoned_hold c held found = elim (one_or_two chassis c) [
    | inl same ↦
        subst (λ d. Hold d held) same (subst (λ l. Hold chassis l) (same_Some left held (sym own_zones ∙ subst (λ d. at_name (with_lists s.zones chassis left) d ≡ Some held) (sym same) found)) hold)
    | inr apart ↦ held_elsewhere c apart held (sym (other_zones c apart) ∙ found)
  ]
