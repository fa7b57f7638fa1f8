-- The homes of gateway routers, and the zones and lists of those that stay at home.
use Rattle.std.specs.Prelude.{◌≡◌, ◌&&◌, ℕ, Bool, true, false, not, cond, List, Option, Some, None, is_some, option_map, refl}
use Rattle.std.specs.Map.{keys_of}
use Rattle.std.proofs.Common.{sym, ap, ◌∙◌, subst}
use Rattle.std.proofs.lemmas.Option.{none-some, same_Some}
use Rattle.conn_table.specs.Connections.{ConnectionList}
use Rattle.conn_zones.specs.Rezoning.{IsRezoned, is_home_on, remains, stays_on}
use Rattle.conn_zones.specs.Zoning.{Zoned, KnownHomes, home_for, number_on}
use Rattle.conn_zones.specs.declared.change.HomeChange.{HomeChange}
use Rattle.conn_zones.specs.declared.numbers.ZoneUse.{ZoneUse}
use Rattle.conn_zones.specs.declared.numbers.ZoneUse.TheVariants as zone
use Rattle.nb_records.specs.Switches.{is_named}
use Rattle.nb_records.specs.declared.router.Router.{Router}
use Rattle.net_model.proofs.KeptEntries.{kept_sorted}
use Rattle.net_model.specs.Config.{Config, chassis_home, home_of_router, is_chassis, is_on_one, nowhere, on}
use Rattle.net_model.specs.ListOwners.{homed_routers, names_of}
use Rattle.net_model.specs.State.{State}
use Rattle.net_model.specs.Trail.{ListOwner, Lists, dnat_of, snat_of}
use Rattle.net_model.specs.Transition.{Turn, turned_by}
use Rattle.ovn_base.proofs.AmongLaws.{among_map, any_among, filter_map_among}
use Rattle.ovn_base.proofs.ByNameLaws.{at_among}
use Rattle.ovn_base.specs.declared.name.Name.{Name}
use Rattle.ovn_base.specs.lists.Among.{Among}
use Rattle.ovn_base.specs.names.ByName.{at}
use Rattle.ovn_base.specs.names.SameName.{bytes_decides, same_name}
use Rattle.physical_flows.proofs.FlowSearch.{is_some_of}
use Rattle.physical_flows.proofs.HomedRouters.{router_names}
use Rattle.physical_flows.specs.Bindings.{AreBound, homed_router, router_homes}
use Rattle.physical_flows.specs.TableList.{one_home}
use Rattle.sim_laws.proofs.turn_laws.TurnedLists.{AreInOrder, list_kept, lists_of, owned}
use Rattle.sim_laws.specs.journeys.AtHome.{AreAtHome}
use Rattle.sim_laws.specs.journeys.InState.{use_of, zones_on}
use Rattle.sim_laws.specs.journeys.TurnedZones.{KeepsZone}
use Rattle.sim_laws.specs.journeys.UnderWay.{IsUnderWay}
use Rattle.sim_laws.specs.pipelines.HeldLists.{list_there}

-- ---- homes

-- a router that is at home on one chassis is so on one that is there
chassis_of : (config : Config) (given : Option Name) (c : Name) → one_home (chassis_home config given) ≡ Some c → Among c config.chassis
chassis_of config None c is = absurd (none-some c is)
chassis_of config (Some home) c is = by (is_chassis config home) refl is
  where
    by : (b : Bool) → is_chassis config home ≡ b → one_home (cond b (on home) nowhere) ≡ Some c → Among c config.chassis
    by true known h =
        let n = any_among (λ k. same_name k home) config.chassis known in
        subst (λ d. Among d config.chassis) ((bytes_decides n.0 home).0 n.2 ∙ same_Some home c h) n.1
    by false known h = absurd (none-some c h)

pub home_there : (config : Config) (r c : Name) → at (router_homes config) r ≡ Some c → Among c config.chassis
home_there config r c found = by (one_home (home_of_router config e.0.1)) refl e.2
  where
    e : (x : Name × Router) × Among x config.net.routers × (homed_router config x ≡ Some (r, c))
    e = filter_map_among (homed_router config) (r, c) config.net.routers (at_among (router_homes config) r c found)

    by : (o : Option Name) → one_home (home_of_router config e.0.1) ≡ o → option_map {U = Name × Name} (λ home. (e.0.0, home)) o ≡ Some (r, c) → Among c config.chassis
    by None is h = absurd (none-some (r, c) h)
    by (Some home) is h = chassis_of config e.0.1.chassis c (is ∙ ap (λ (x : Name × Name). Some x.1) (same_Some (e.0.0, home) (r, c) h))

-- and has lists
pub has_lists : (config : Config) (r c : Name) → at (router_homes config) r ≡ Some c → Among r (homed_routers config)
has_lists config r c found = subst (λ ns. Among r ns) (router_names config) (among_map (λ (e : Name × Name). e.0) (r, c) (router_homes config) (at_among (router_homes config) r c found))

-- ---- the two owners of a router, for what it translates of destinations or of sources

abbrev pub router_owner : Bool → Name → ListOwner
router_owner true r = dnat_of r
router_owner false r = snat_of r

abbrev pub router_lists : Bool → Lists → List (Name × ConnectionList)
router_lists true lists = lists.dnats
router_lists false lists = lists.snats

pub home_of_owner : (dst : Bool) (homes : KnownHomes) (r : Name) → home_for homes (use_of (router_owner dst r)) ≡ at homes.routers r
home_of_owner true homes r = refl
home_of_owner false homes r = refl

pub list_of_owner : (dst : Bool) (lists : Lists) (r : Name) → list_there lists (router_owner dst r) ≡ at (router_lists dst lists) r
list_of_owner true lists r = refl
list_of_owner false lists r = refl

pub lists_after : (dst : Bool) (m : State) (turn : Turn) → router_lists dst (turned_by turn m).lists ≡ lists_of (names_of turn.emptied.routers) (router_lists dst m.lists) (homed_routers turn.next)
lists_after true m turn = refl
lists_after false m turn = refl

pub lists_before : (dst : Bool) (config : Config) (lists : Lists) → AreAtHome config lists → keys_of (router_lists dst lists) ≡ homed_routers config
lists_before true config lists h = h.dnats
lists_before false config lists h = h.snats

stays_by : (dst : Bool) (before : KnownHomes) (change : HomeChange) (c r : Name) → stays_on before change c (use_of (router_owner dst r)) ≡ remains before.routers change.routers r c
stays_by true before change c r = refl
stays_by false before change c r = refl

-- whose zone it is
abbrev pub name_of_use : ZoneUse → Name
name_of_use (zone.Port q) = q
name_of_use (zone.Dnat r) = r
name_of_use (zone.Snat r) = r

abbrev pub is_port_use : ZoneUse → Bool
is_port_use (zone.Port q) = true
is_port_use (zone.Dnat r) = false
is_port_use (zone.Snat r) = false

pub name_of_owner : (dst : Bool) (r : Name) → name_of_use (use_of (router_owner dst r)) ≡ r
name_of_owner true r = refl
name_of_owner false r = refl

pub no_port_use : (dst : Bool) (r : Name) → is_port_use (use_of (router_owner dst r)) ≡ false
no_port_use true r = refl
no_port_use false r = refl

-- ---- a turn

module _ (m : State) (zones later : Zoned) (more : ℕ) (turn : Turn) (u : IsUnderWay m zones more) (v : AreBound turn.next later) where
  -- routers at home are in order of name
  pub routers_sorted : AreInOrder (homed_routers m.config)
  routers_sorted = kept_sorted (λ (e : Name × Router). is_on_one (home_of_router m.config e.1)) _ m.config.net.routers u.valid.in_order.routers

  pub homes_before : (r : Name) → at zones.homes.routers r ≡ at (router_homes m.config) r
  homes_before r = ap (λ (k : KnownHomes). at k.routers r) u.bound.homes

  module _ (dst : Bool) (r c : Name) (n : ℕ) (is : zones_on later.numbers c (router_owner dst r) ≡ Some n) where
    -- a router that has a zone then is at home then
    pub at_home_then : home_for later.homes (use_of (router_owner dst r)) ≡ Some c
    at_home_then = (v.zoned.at_home c (use_of (router_owner dst r))).1 (is_some_of (number_on later.numbers c (use_of (router_owner dst r))) n is)

    pub homed_then : at later.homes.routers r ≡ Some c
    homed_then = sym (home_of_owner dst later.homes r) ∙ at_home_then

    pub home_then : at (router_homes turn.next) r ≡ Some c
    home_then = ap (λ (k : KnownHomes). at k.routers r) (sym v.homes) ∙ homed_then

    -- where it was at home there before, and neither the change of homes nor what is emptied names it, it keeps its zone
    pub router_stays : (change : HomeChange) → IsRezoned zones change later → (emptied : List (Name × ℕ)) → at (router_homes m.config) r ≡ Some c → at change.routers r ≡ None
        → is_named r (names_of turn.emptied.routers) ≡ false → (¬ Among (c, n) emptied) → KeepsZone m turn zones.numbers emptied c (router_owner dst r) n
    router_stays change rezoned emptied was unnamed unemptied apart = record {
      was = home_there m.config r c was;
      number = sym (rezoned.stay c (use_of (router_owner dst r)) at_home_then stay) ∙ is;
      list =
          list_of_owner dst (turned_by turn m).lists r ∙ ap (λ l. at l r) (lists_after dst m turn)
          ∙ list_kept (names_of turn.emptied.routers) (router_lists dst m.lists) (homed_routers turn.next) r own.0 (has_lists turn.next r c home_then) unemptied own.1 ∙ sym own.1 ∙ sym (list_of_owner dst m.lists r);
      kept = apart;
    }
      where
        own : (list : ConnectionList) × (at (router_lists dst m.lists) r ≡ Some list)
        own = owned (router_lists dst m.lists) (homed_routers m.config) (lists_before dst m.config m.lists u.at_home) routers_sorted r (has_lists m.config r c was)

        stay : stays_on zones.homes change c (use_of (router_owner dst r)) ≡ true
        stay =
            stays_by dst zones.homes change c r ∙ ap (λ o. is_home_on o c && not (is_some (at change.routers r))) (homes_before r ∙ was)
            ∙ ap (λ (o : Option (Option Name)). same_name c c && not (is_some o)) unnamed ∙ ap (λ b. b && true) ((bytes_decides c c).1 refl)
