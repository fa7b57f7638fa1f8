use Rattle.std.proofs.Common.{◌≡◌, ◌++◌, ◌∷◌, [], drop, map}
use Rattle.std.specs.Prelude.{flat_map}
use Rattle.conn_zones.specs.declared.numbers.ZoneUse.TheVariants.{Port, Dnat, Snat}
use Rattle.conn_zones.specs.Rezoning.{zones_in}
use Rattle.conn_zones.proofs.keeping.zones_in.Given as goal

-- the zones of who is left come behind those so far
abbrev pub invariant-ports : goal.invariant-ports
invariant-ports l = l.zones ++ map (λ e. (Port e.0, e.1)) (drop l.name-index l.homes.ports) ≡ map (λ e. (Port e.0, e.1)) l.homes.ports

abbrev pub invariant-routers : goal.invariant-routers
invariant-routers l = l.zones ++ flat_map (λ e. (Dnat e.0, e.1) ∷ (Snat e.0, e.1) ∷ []) (drop l.name-index l.homes.routers) ≡ zones_in l.homes
