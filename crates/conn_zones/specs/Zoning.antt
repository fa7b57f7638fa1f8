-- Where ports and gateway routers are at home, and the numbers of their zones.
use Rattle.std.specs.Prelude.{◌≡◌, ◌≤◌, ◌↔◌, ℕ, cond, List, Option, Some, None, IsSome}
use Rattle.ovn_base.specs.declared.name.Name.{Name}
use Rattle.ovn_base.specs.names.ByName.{at, IsByName}
use Rattle.ovn_base.specs.names.SameName.{same_name}
use Rattle.conn_zones.specs.declared.numbers.TheConstants.{MAX_ZONE}
use Rattle.conn_zones.specs.declared.numbers.ZonePlace.{ZonePlace}
use Rattle.conn_zones.specs.declared.numbers.ZoneUse.{ZoneUse}
use Rattle.conn_zones.specs.declared.numbers.ZoneUse.TheVariants.{Port, Dnat, Snat}

-- the chassis of the ports and of the gateway routers that are at home somewhere, in order of name
pub record KnownHomes : Type 0 where
  pub ports : List (Name × Name)
  pub routers : List (Name × Name)

-- the zones of ports, and the DNAT and the SNAT zones of gateway routers, in order of name, each with its chassis and its
-- number there
pub record GivenNumbers : Type 0 where
  pub ports : List (Name × ZonePlace)
  pub dnat : List (Name × ZonePlace)
  pub snat : List (Name × ZonePlace)

pub record Zoned : Type 0 where
  pub homes : KnownHomes
  pub numbers : GivenNumbers

-- the chassis of a zone is the home of its port or router
abbrev pub home_for : KnownHomes → ZoneUse → Option Name
home_for homes (Port port) = at homes.ports port
home_for homes (Dnat router) = at homes.routers router
home_for homes (Snat router) = at homes.routers router

-- the chassis and the number that a zone was given
abbrev pub place_for : GivenNumbers → ZoneUse → Option ZonePlace
place_for numbers (Port port) = at numbers.ports port
place_for numbers (Dnat router) = at numbers.dnat router
place_for numbers (Snat router) = at numbers.snat router

-- the number, if it is one of this chassis
abbrev pub number_at : Name → Option ZonePlace → Option ℕ
number_at chassis None = None
number_at chassis (Some place) = cond (same_name place.chassis chassis) (Some place.number) None

-- the number of a zone on the chassis
abbrev pub number_on : GivenNumbers → Name → ZoneUse → Option ℕ
number_on numbers chassis zone = number_at chassis (place_for numbers zone)

-- the lists are in order of name
pub record AreInNameOrder (numbers : GivenNumbers) : Type 0 where
  pub ports : IsByName numbers.ports
  pub dnat : IsByName numbers.dnat
  pub snat : IsByName numbers.snat

-- what always holds
pub record IsZoned (zoned : Zoned) : Type 0 where
  pub ports_in_order : IsByName zoned.homes.ports
  pub routers_in_order : IsByName zoned.homes.routers
  pub numbers_in_order : AreInNameOrder zoned.numbers
  -- who is at home on a chassis has its numbers there, and nobody else has any
  pub at_home : (chassis : Name) (zone : ZoneUse) → (home_for zoned.homes zone ≡ Some chassis) ↔ IsSome (number_on zoned.numbers chassis zone)
  -- the numbers are in range
  pub in_range : (chassis : Name) (zone : ZoneUse) (n : ℕ) → number_on zoned.numbers chassis zone ≡ Some n → (1 ≤ n) × (n ≤ MAX_ZONE)
  -- no two zones of a chassis have one number
  pub apart : (chassis : Name) (one other : ZoneUse) (n : ℕ) → number_on zoned.numbers chassis one ≡ Some n → number_on zoned.numbers chassis other ≡ Some n → one ≡ other
