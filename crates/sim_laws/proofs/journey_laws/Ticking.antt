-- The clock goes on: idle connections go in the network, and on each chassis.
use Rattle.std.specs.Prelude.{◌≡◌, ◌+◌, ℕ, nat_eq, Bool, true, false, cond, List, [], ◌∷◌, map, Option, Some, None, option_map, is_some, refl}
use Rattle.std.specs.BTreeMap.{is_at}
use Rattle.std.specs.Cmp.Lexicographic.{slice_cmp}
use Rattle.std.specs.Map.{keys_of, lookup}
use Rattle.std.specs.Ordering.{nat_cmp}
use Rattle.std.proofs.Common.{sym, ap, ◌∙◌, subst}
use Rattle.std.proofs.lemmas.Option.{none-some, same_Some}
use Rattle.chassis_sim.proofs.Lookups.{map_some}
use Rattle.chassis_sim.specs.State.{at_name}
use Rattle.chassis_sim.specs.Tables.{seen_by}
use Rattle.conn_table.specs.Connections.{ConnectionList, expired}
use Rattle.conn_zones.specs.Zoning.{GivenNumbers}
use Rattle.net_model.specs.State.{State, clocked, expired_in, expired_lists}
use Rattle.net_model.specs.Trail.{Lists, ListOwner, of_port, dnat_of, snat_of}
use Rattle.net_model.specs.declared.crossing.Crossing.{Crossing}
use Rattle.ovn_base.specs.declared.name.Name.{Name}
use Rattle.ovn_base.specs.names.SameName.{same_name}
use Rattle.switch_engine.specs.Zones.{ZoneLists, zone_at, all_expired}
use Rattle.sim_laws.proofs.journey_laws.Expiring.{expired_good}
use Rattle.sim_laws.specs.Sound.{MayWait}
use Rattle.sim_laws.specs.journeys.InState.{zones_on}
use Rattle.sim_laws.specs.journeys.Ticking.{TickLaw}
use Rattle.sim_laws.specs.pipelines.HeldLists.{ZoneNumbers, list_there, HoldLists}

-- what is found among other values of the same keys
pub looked_over : {K X Y : Type 0} (f : X → Y) (test : K → Bool) (es : List (K × X)) → lookup test (map (λ (e : K × X). (e.0, f e.1)) es) ≡ option_map f (lookup test es)
looked_over f test [] = refl
looked_over {K} {X} f test (e ∷ es) = by (test e.0) (looked_over f test es)
  where
    by : (b : Bool) → lookup test (map (λ (e : K × X). (e.0, f e.1)) es) ≡ option_map f (lookup test es)
        → cond b (Some (f e.1)) (lookup test (map (λ (e : K × X). (e.0, f e.1)) es)) ≡ option_map f (cond b (Some e.1) (lookup test es))
    by true rest = refl
    by false rest = rest

module _ (now : ℕ) where
  owners_then : (lists : List (Name × ConnectionList)) → keys_of (expired_in now lists) ≡ keys_of lists
  owners_then [] = refl
  owners_then (e ∷ lists) = ap (λ (ns : List Name). e.0 ∷ ns) (owners_then lists)

  list_then : (lists : Lists) (owner : ListOwner) → list_there (expired_lists now lists) owner ≡ option_map (expired now) (list_there lists owner)
  list_then lists (of_port q) = looked_over (expired now) (is_at (slice_cmp nat_cmp q)) lists.ports
  list_then lists (dnat_of r) = looked_over (expired now) (is_at (slice_cmp nat_cmp r)) lists.dnats
  list_then lists (snat_of r) = looked_over (expired now) (is_at (slice_cmp nat_cmp r)) lists.snats

  pub zone_then : (zones : ZoneLists) (z : ℕ) → zone_at (all_expired now zones) z ≡ option_map (expired now) (zone_at zones z)
  zone_then zones z = looked_over (expired now) (nat_eq z) zones

  -- zones that hold the lists hold them then
  hold_then : (number : ZoneNumbers) (zones : ZoneLists) (lists : Lists) → HoldLists number zones lists → HoldLists number (all_expired now zones) (expired_lists now lists)
  hold_then number zones lists h owner z is =
      let old = h owner z is in
      record {
        list = expired now old.list;
        has = list_then lists owner ∙ ap (option_map (expired now)) old.has;
        held = zone_then zones z ∙ ap (option_map (expired now)) old.held;
        good = expired_good now old.list old.good;
      }

  -- on each chassis
  all_hold : (numbers : GivenNumbers) (zones : List (Name × ZoneLists)) (lists : Lists) → ((c : Name) (held : ZoneLists) → at_name zones c ≡ Some held → HoldLists (zones_on numbers c) held lists)
      → (c : Name) (held : ZoneLists) → at_name (map (seen_by (all_expired now)) zones) c ≡ Some held → HoldLists (zones_on numbers c) held (expired_lists now lists)
  all_hold numbers zones lists h c held is = by (at_name zones c) refl (sym (looked_over (all_expired now) (same_name c) zones) ∙ is)
    where
      by : (o : Option ZoneLists) → at_name zones c ≡ o → option_map (all_expired now) o ≡ Some held → HoldLists (zones_on numbers c) held (expired_lists now lists)
      by None was e = absurd (none-some held e)
      by (Some old) was e = subst (λ (l : ZoneLists). HoldLists (zones_on numbers c) l (expired_lists now lists)) (same_Some (all_expired now old) held e) (hold_then (zones_on numbers c) old lists (h c old was))

may_then : (m : State) (seconds : ℕ) (x : Crossing) → MayWait m x → MayWait (clocked seconds m) x
may_then m seconds x w = record {
  whole = w.whole;
  datapath_key = w.datapath_key;
  in_key = w.in_key;
  aim_key = w.aim_key;
  in_live = w.in_live;
  aim_live = w.aim_live;
  no_router = w.no_router;
  no_return = w.no_return;
}

pub ticks : TickLaw
ticks m zones sets more s seconds u h = (
  record {
    valid = u.valid;
    keys = u.keys;
    bound = u.bound;
    bound_virtual = u.bound_virtual;
    at_home = record {
      ports = owners_then (m.clock + seconds) m.lists.ports ∙ u.at_home.ports;
      dnats = owners_then (m.clock + seconds) m.lists.dnats ∙ u.at_home.dnats;
      snats = owners_then (m.clock + seconds) m.lists.snats ∙ u.at_home.snats;
    };
    born = record { records = u.born.records; keys = u.born.keys; none = u.born.none };
    crossings = record { in_order = u.crossings.in_order; below = u.crossings.below; may = λ n x w. may_then m seconds x (u.crossings.may n x w) };
    few = u.few;
    few_sent = u.few_sent;
  },
  record {
    bindings = h.bindings;
    names = record { datapaths = h.names.datapaths; ports = h.names.ports };
    held = h.held;
    members = h.members;
    tables = h.tables;
    zoned = λ c. ap is_some (looked_over (all_expired (m.clock + seconds)) (same_name c) s.zones) ∙ map_some (all_expired (m.clock + seconds)) (at_name s.zones c) ∙ h.zoned c;
    zones = all_hold (m.clock + seconds) zones.numbers s.zones m.lists h.zones;
    waiting = h.waiting;
    next = h.next;
  },
)
