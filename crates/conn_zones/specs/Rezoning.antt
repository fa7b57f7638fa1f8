-- What a change of homes does to the numbers.
use Rattle.std.specs.Prelude.{◌≡◌, ◌≤◌, ◌<◌, ◌⊎◌, ℕ, Bool, true, false, ◌&&◌, not, List, [], ◌∷◌, ◌++◌, Option, Some, None, is_some, length, map, filter, flat_map}
use Rattle.std.specs.Option.{unwrap_or}
use Rattle.ovn_base.specs.declared.name.Name.{Name}
use Rattle.ovn_base.specs.lists.Once.{EachOnce}
use Rattle.ovn_base.specs.names.ByName.{at, IsByName}
use Rattle.ovn_base.specs.names.SameName.{same_name}
use Rattle.conn_zones.specs.declared.change.HomeChange.{HomeChange}
use Rattle.conn_zones.specs.declared.numbers.TheConstants.{MAX_ZONE}
use Rattle.conn_zones.specs.declared.numbers.ZoneUse.{ZoneUse}
use Rattle.conn_zones.specs.declared.numbers.ZoneUse.TheVariants.{Port, Dnat, Snat}
use Rattle.conn_zones.specs.Zoning.{KnownHomes, Zoned, home_for, number_on, IsZoned}

-- ---- homes

-- the homes after a change, in order of name: the new home of who is named in it, and of others the home before
pub record AreHomesAfter (before : List (Name × Name)) (change : List (Name × Option Name)) (after : List (Name × Name)) : Type 0 where
  pub in_order : IsByName after
  pub homes : (name : Name) → at after name ≡ unwrap_or (at change name) (at before name)

pub record IsRehomed (before : KnownHomes) (change : HomeChange) (after : KnownHomes) : Type 0 where
  pub ports : AreHomesAfter before.ports change.ports after.ports
  pub routers : AreHomesAfter before.routers change.routers after.routers

-- all zones, each with its chassis, in the order in which they take numbers: the ports' in order of name, then the routers' in
-- order of name, DNAT before SNAT
abbrev pub zones_in : KnownHomes → List (ZoneUse × Name)
zones_in homes = map (λ e. (Port e.0, e.1)) homes.ports ++ flat_map (λ e. (Dnat e.0, e.1) ∷ (Snat e.0, e.1) ∷ []) homes.routers

-- those of the chassis
abbrev pub of_chassis : Name → List (ZoneUse × Name) → List (ZoneUse × Name)
of_chassis chassis zones = filter (λ z. same_name z.1 chassis) zones

-- what a change may be: nobody is named twice, and the chassis has numbers enough for who is at home there
pub record IsHomeChange (before : KnownHomes) (change : HomeChange) : Type 0 where
  pub ports_once : EachOnce (map (λ e. e.0) change.ports)
  pub routers_once : EachOnce (map (λ e. e.0) change.routers)
  pub few : (after : KnownHomes) → IsRehomed before change after → (chassis : Name) → length (of_chassis chassis (zones_in after)) ≤ MAX_ZONE

-- ---- who stays, and who comes

-- the change names the port or the router of the zone
abbrev pub names_zone : HomeChange → ZoneUse → Bool
names_zone change (Port port) = is_some (at change.ports port)
names_zone change (Dnat router) = is_some (at change.routers router)
names_zone change (Snat router) = is_some (at change.routers router)

-- the home is this chassis
abbrev pub is_home_on : Option Name → Name → Bool
is_home_on None chassis = false
is_home_on (Some home) chassis = same_name home chassis

-- who was at home on the chassis before stays there, unless another takes its place
abbrev pub remains : List (Name × Name) → List (Name × Option Name) → Name → Name → Bool
remains before replaced name chassis = is_home_on (at before name) chassis && not (is_some (at replaced name))

-- a zone that is on the chassis after the change stays there: nothing takes a port's place, and a gateway router that the change
-- names is one of another birth
abbrev pub stays_on : KnownHomes → HomeChange → Name → ZoneUse → Bool
stays_on before change chassis (Port port) = remains before.ports [] port chassis
stays_on before change chassis (Dnat router) = remains before.routers change.routers router chassis
stays_on before change chassis (Snat router) = remains before.routers change.routers router chassis

-- those of the zones that come
abbrev pub coming_of : KnownHomes → HomeChange → List (ZoneUse × Name) → List (ZoneUse × Name)
coming_of before change zones = filter (λ z. not (stays_on before change z.1 z.0)) zones

-- the zones that come, in the order in which they take numbers
abbrev pub coming : KnownHomes → HomeChange → KnownHomes → List (ZoneUse × Name)
coming before change after = coming_of before change (zones_in after)

-- ---- numbers

-- the least number from 1 on that isn't taken
pub record IsLeastFree (taken : ℕ → Type 0) (n : ℕ) : Type 0 where
  pub some : 1 ≤ n
  pub free : ¬ taken n
  pub least : (m : ℕ) → 1 ≤ m → m < n → taken m

-- each of the zones in turn has the least number that is free
abbrev pub TakeLeast : (ℕ → Type 0) → List (ZoneUse × Name) → (ZoneUse → Option ℕ) → Type 0
TakeLeast taken [] number = Unit {0}
TakeLeast taken (z ∷ zs) number = (n : ℕ) × (number z.0 ≡ Some n) × IsLeastFree taken n × TakeLeast (λ m. taken m ⊎ (m ≡ n)) zs number

-- a zone that stays on the chassis has the number
pub record IsKeptNumber (before : Zoned) (change : HomeChange) (after : KnownHomes) (chassis : Name) (n : ℕ) : Type 0 where
  pub zone : ZoneUse
  pub home : home_for after zone ≡ Some chassis
  pub stay : stays_on before.homes change chassis zone ≡ true
  pub number : number_on before.numbers chassis zone ≡ Some n

-- after the change who stays has the number that it had, and who comes to a chassis takes the least numbers that are free there
pub record IsRezoned (before : Zoned) (change : HomeChange) (after : Zoned) : Type 0 where
  pub homes : IsRehomed before.homes change after.homes
  pub zoned : IsZoned after
  pub stay : (chassis : Name) (zone : ZoneUse) → home_for after.homes zone ≡ Some chassis → stays_on before.homes change chassis zone ≡ true → number_on after.numbers chassis zone ≡ number_on before.numbers chassis zone
  pub come : (chassis : Name) → TakeLeast (IsKeptNumber before change after.homes chassis) (of_chassis chassis (coming before.homes change after.homes)) (number_on after.numbers chassis)

-- the patch is for what was before some change
pub record IsZonePatchFor (before patch : Zoned) : Type 0 where
  pub change : HomeChange
  pub fits : IsHomeChange before.homes change
  pub rezoned : IsRezoned before change patch
