-- How the program gives numbers: to one zone after the other.
use Rattle.std.specs.Prelude.{◌≡◌, ◌≤◌, ◌+◌, ℕ, List, [], ◌∷◌, ◌++◌, Option, Some, None, is_some, cond, length, map, filter}
use Rattle.ovn_base.specs.declared.name.Name.{Name}
use Rattle.ovn_base.specs.lists.Among.{Among}
use Rattle.ovn_base.specs.names.ByName.{at, put, IsByName}
use Rattle.ovn_base.specs.names.SameName.{same_name}
use Rattle.conn_zones.specs.declared.change.HomeChange.{HomeChange}
use Rattle.conn_zones.specs.declared.numbers.TheConstants.{MAX_ZONE}
use Rattle.conn_zones.specs.declared.numbers.ZonePlace.{ZonePlace}
use Rattle.conn_zones.specs.declared.numbers.ZoneUse.{ZoneUse}
use Rattle.conn_zones.specs.declared.numbers.ZoneUse.TheVariants.{Port, Dnat, Snat}
use Rattle.conn_zones.specs.Zoning.{KnownHomes, GivenNumbers, AreInNameOrder}
use Rattle.conn_zones.specs.Rezoning.{IsLeastFree, of_chassis, is_home_on, remains}

-- the places that are kept: those of who stays at home there
abbrev pub keep_places : List (Name × Name) → List (Name × Option Name) → List (Name × ZonePlace) → List (Name × ZonePlace)
keep_places after replaced places = filter (λ e. remains after replaced e.0 e.1.chassis) places

-- the place, if this is at home there
abbrev pub place_at_home : Option Name → Option ZonePlace → Option ZonePlace
place_at_home home None = None
place_at_home home (Some place) = cond (is_home_on home place.chassis) (Some place) None

-- the places after a change, where who is named in it has one only where it is at home
pub record ArePlacesAfter (homes : List (Name × Name)) (change : List (Name × Option Name)) (before after : List (Name × ZonePlace)) : Type 0 where
  pub in_order : IsByName after
  pub places : (name : Name) → at after name ≡ cond (is_some (at change name)) (place_at_home (at homes name) (at before name)) (at before name)

-- the chassis to which one comes: the new home, if that was not the home before
abbrev pub comes_to : Option Name → Option (Option Name) → Option Name
comes_to before None = None
comes_to before (Some None) = None
comes_to before (Some (Some chassis)) = cond (is_home_on before chassis) None (Some chassis)

-- those of the named who come, each with its chassis
pub record AreComers (before : List (Name × Name)) (change : List (Name × Option Name)) (comers : List (Name × Name)) : Type 0 where
  pub in_order : IsByName comers
  pub homes : (name : Name) → at comers name ≡ comes_to (at before name) (at change name)

-- the numbers of who stays at home there
pub record AreKeptNumbers (before : GivenNumbers) (change : HomeChange) (after : KnownHomes) (kept : GivenNumbers) : Type 0 where
  pub in_order : AreInNameOrder kept
  pub ports : kept.ports ≡ keep_places after.ports [] before.ports
  pub dnat : kept.dnat ≡ keep_places after.routers change.routers before.dnat
  pub snat : kept.snat ≡ keep_places after.routers change.routers before.snat

-- the numbers with one more
abbrev pub put_place : GivenNumbers → ZoneUse → ZonePlace → GivenNumbers
put_place numbers (Port port) place = record numbers { ports = put numbers.ports port place }
put_place numbers (Dnat router) place = record numbers { dnat = put numbers.dnat router place }
put_place numbers (Snat router) place = record numbers { snat = put numbers.snat router place }

-- the numbers of the chassis
abbrev pub numbers_in : List (Name × ZonePlace) → Name → List ℕ
numbers_in places chassis = map (λ e. e.1.number) (filter (λ e. same_name e.1.chassis chassis) places)

abbrev pub numbers_of : GivenNumbers → Name → List ℕ
numbers_of numbers chassis = numbers_in numbers.ports chassis ++ numbers_in numbers.dnat chassis ++ numbers_in numbers.snat chassis

-- the zone has the least number that was free on the chassis
pub record IsGivenOne (before : GivenNumbers) (zone : ZoneUse) (chassis : Name) (after : GivenNumbers) : Type 0 where
  pub number : ℕ
  pub least : IsLeastFree (λ m. Among m (numbers_of before chassis)) number
  pub few : number ≤ MAX_ZONE
  pub put : after ≡ put_place before zone (record { chassis = chassis; number = number })

-- the same for each of the zones in turn
abbrev pub AreGiven : GivenNumbers → List (ZoneUse × Name) → GivenNumbers → Type 0
AreGiven before [] after = after ≡ before
AreGiven before (z ∷ zs) after = (between : GivenNumbers) × IsGivenOne before z.0 z.1 between × AreGiven between zs after

-- there are numbers enough for all of the zones
abbrev pub HaveNumbers : GivenNumbers → List (ZoneUse × Name) → Type 0
HaveNumbers before zones = (chassis : Name) → length (numbers_of before chassis) + length (of_chassis chassis zones) ≤ MAX_ZONE
