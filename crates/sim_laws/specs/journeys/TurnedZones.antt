-- How the zones of the chassis change where the configuration turns.
use Rattle.std.specs.Prelude.{◌≡◌, ◌⊎◌, ◌++◌, ℕ, Bool, true, false, List, [], ◌∷◌, Option, Some, None, is_none, map, flat_map}
use Rattle.std.specs.List.{filter}
use Rattle.std.specs.Map.{keys_of}
use Rattle.conn_zones.specs.Rezoning.{IsRezoned}
use Rattle.conn_zones.specs.Zoning.{Zoned, KnownHomes, GivenNumbers, number_on}
use Rattle.conn_zones.specs.declared.change.HomeChange.{HomeChange}
use Rattle.conn_zones.specs.declared.numbers.ZoneUse.TheVariants.{Port, Dnat, Snat}
use Rattle.nb_records.specs.Network.{Network}
use Rattle.nb_records.specs.Switches.{is_named}
use Rattle.nb_records.specs.declared.router.Router.{Router}
use Rattle.nb_rules.specs.Valid.{IsValid}
use Rattle.net_model.specs.ListOwners.{homed_routers, names_of}
use Rattle.net_model.specs.State.{State}
use Rattle.net_model.specs.Trail.{ListOwner}
use Rattle.net_model.specs.Transition.{Turn, turned_by, bind, add_chassis, edit, identity_at, is_still_there}
use Rattle.ovn_base.specs.declared.name.Name.{Name}
use Rattle.ovn_base.specs.lists.Among.{Among}
use Rattle.ovn_base.specs.names.ByName.{at}
use Rattle.tunnel_keys.specs.Keys.{Keys}
use Rattle.sim_laws.specs.journeys.AtHome.{AreAtHome}
use Rattle.sim_laws.specs.journeys.InState.{zones_on}
use Rattle.physical_flows.specs.Bindings.{AreBound, router_homes}
use Rattle.sim_laws.specs.journeys.UnderWay.{IsUnderWay}
use Rattle.sim_laws.specs.pipelines.HeldLists.{list_there}

-- the state after the turn, with these keys
abbrev pub turned_with : Turn → Keys → State → State
turned_with turn keys m = record (turned_by turn m) { keys = keys }

-- ---- zones

-- the owner had the zone on the chassis before, and keeps its list: neither the turn nor the chassis empty it
pub record KeepsZone (m : State) (turn : Turn) (before : GivenNumbers) (emptied : List (Name × ℕ)) (c : Name) (owner : ListOwner) (z : ℕ) : Type 0 where
  pub was : Among c m.config.chassis
  pub number : zones_on before c owner ≡ Some z
  pub list : list_there (turned_by turn m).lists owner ≡ list_there m.lists owner
  pub kept : ¬ Among (c, z) emptied

-- the owner's list is empty after the turn, and so is the zone
pub record BeginsZone (m : State) (turn : Turn) (emptied : List (Name × ℕ)) (c : Name) (owner : ListOwner) (z : ℕ) : Type 0 where
  pub list : list_there (turned_by turn m).lists owner ≡ Some []
  pub empties : Among (c, z) emptied

-- With these zones emptied, everyone who has a zone after the turn keeps it, or begins with it.
abbrev pub IsTurnOfZones : State → Turn → GivenNumbers → GivenNumbers → List (Name × ℕ) → Type 0
IsTurnOfZones m turn before after emptied =
    (c : Name) → Among c turn.next.chassis → (owner : ListOwner) (z : ℕ) → zones_on after c owner ≡ Some z
    → KeepsZone m turn before emptied c owner z ⊎ BeginsZone m turn emptied c owner z

-- ---- turns

-- After each turn who is at home has lists.
abbrev pub TurnedAtHomeLaw : Type 0
TurnedAtHomeLaw = (m : State) (turn : Turn) → AreAtHome turn.next (turned_by turn m).lists

-- The gateway routers that come home, by the homes before and after: those that have one then, and had none.
abbrev pub is_coming : List (Name × Name) → Name × Name → Bool
is_coming before e = is_none (at before e.0)

abbrev pub routers_coming : KnownHomes → KnownHomes → List (Name × Name)
routers_coming before after = filter (is_coming before.routers) after.routers

-- they are at home on their chassis from now on
abbrev pub coming_home : KnownHomes → KnownHomes → HomeChange
coming_home before after = record { ports = []; routers = map (λ (e : Name × Name). (e.0, Some e.1)) (routers_coming before after) }

-- and begin with their two zones, by the numbers then
abbrev pub zone_numbered : Name → Option ℕ → List (Name × ℕ)
zone_numbered chassis None = []
zone_numbered chassis (Some z) = (chassis, z) ∷ []

abbrev pub begun_by : GivenNumbers → Name × Name → List (Name × ℕ)
begun_by numbers e = zone_numbered e.1 (number_on numbers e.1 (Dnat e.0)) ++ zone_numbered e.1 (number_on numbers e.1 (Snat e.0))

abbrev pub zones_begun : GivenNumbers → List (Name × Name) → List (Name × ℕ)
zones_begun numbers routers = flat_map (begun_by numbers) routers

-- Gateway routers come home with the turn; nobody else comes or goes, and nobody's list is emptied who was at home.
pub record OnlyComeHome (m : State) (turn : Turn) : Type 0 where
  pub bindings : turn.next.bindings ≡ m.config.bindings
  pub routers : (r home : Name) → at (router_homes m.config) r ≡ Some home → at (router_homes turn.next) r ≡ Some home
  pub ports_kept : (q : Name) → Among q (keys_of m.config.bindings) → is_named q (names_of turn.emptied.ports) ≡ false
  pub routers_kept : (r : Name) → Among r (homed_routers m.config) → is_named r (names_of turn.emptied.routers) ≡ false

-- Who comes home with such a turn begins with its zones, and all others keep theirs.
abbrev pub ComingHomeLaw : Type 0
ComingHomeLaw =
    (m : State) (zones later : Zoned) (more : ℕ) (turn : Turn)
    → IsUnderWay m zones more → AreBound turn.next later → OnlyComeHome m turn → IsRezoned zones (coming_home zones.homes later.homes) later
    → IsTurnOfZones m turn zones.numbers later.numbers (zones_begun later.numbers (routers_coming zones.homes later.homes))

-- An edit is such a turn where each bound port stays, and each router,
abbrev pub EditingLaw : Type 0
EditingLaw =
    (m : State) (zones : Zoned) (more : ℕ) (net : Network)
    → IsUnderWay m zones more → IsValid net
    → ((q c : Name) → at m.config.bindings q ≡ Some c → is_still_there net (identity_at m.config.net q) ≡ true)
    → ((r : Name) (router : Router) → at m.config.net.routers r ≡ Some router → at net.routers r ≡ Some router)
    → OnlyComeHome m (edit m.config net)

-- and so is the coming of a chassis.
abbrev pub ComingChassisLaw : Type 0
ComingChassisLaw = (m : State) (zones : Zoned) (more : ℕ) (chassis : Name) → IsUnderWay m zones more → OnlyComeHome m (add_chassis m.config chassis)

-- the port is at home on the chassis from now on
abbrev pub binding : Name → Name → HomeChange
binding port chassis = record { ports = (port, Some chassis) ∷ []; routers = [] }

-- A port that is bound begins with its zone, and all others keep theirs.
abbrev pub BindingLaw : Type 0
BindingLaw =
    (m : State) (zones later : Zoned) (more : ℕ) (port chassis : Name) (z : ℕ)
    → IsUnderWay m zones more → AreBound (bind m.config port chassis).next later
    → IsRezoned zones (binding port chassis) later → number_on later.numbers chassis (Port port) ≡ Some z
    → IsTurnOfZones m (bind m.config port chassis) zones.numbers later.numbers ((chassis, z) ∷ [])
