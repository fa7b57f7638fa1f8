-- The numbers of zones.
use Rattle.std.specs.Prelude.{◌≡◌, ◌≤◌, ◌<◌, ◌^◌, ℕ, Option, Some, None, unwrap_or, refl}
use Rattle.std.proofs.Common.{arith}
use Rattle.ovn_base.specs.declared.name.Name.{Name}
use Rattle.conn_zones.specs.Zoning.{Zoned, IsZoned, number_on}
use Rattle.conn_zones.specs.declared.numbers.ZoneUse.{ZoneUse}
use Rattle.conn_zones.specs.declared.numbers.ZoneUse.TheVariants.{Port}

module _ (zones : Zoned) (zoned : IsZoned zones) (c : Name) where
  -- the number of a zone fits into a register
  pub number_fits : (z : ZoneUse) (zone : ℕ) → number_on zones.numbers c z ≡ Some zone → zone < 2 ^ 16
  number_fits z zone is = let most : zone ≤ 65535 = (zoned.in_range c z zone is).1 in omega (arith, most)

  -- so does 0, where there is none
  pub number_or_none_fits : (z : ZoneUse) → unwrap_or (number_on zones.numbers c z) 0 < 2 ^ 16
  number_or_none_fits z = by (number_on zones.numbers c z) refl
    where
      by : (o : Option ℕ) → number_on zones.numbers c z ≡ o → unwrap_or o 0 < 2 ^ 16
      by None is = omega arith
      by (Some zone) is = number_fits z zone is

  pub zone_fits : (q : Name) (zone : ℕ) → number_on zones.numbers c (Port q) ≡ Some zone → zone < 2 ^ 16
  zone_fits q zone is = number_fits (Port q) zone is
