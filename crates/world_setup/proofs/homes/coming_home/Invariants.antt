use Rattle.std.specs.Prelude.{◌≡◌, ◌++◌, Some, drop, map}
use Rattle.ovn_base.specs.declared.name.Name.{Name}
use Rattle.world_setup.proofs.homes.coming_home.Given as goal

-- the homes so far, and those of the routers that are left
abbrev pub invariant-routers : goal.invariant-routers
invariant-routers l = l.homes ++ map (λ (e : Name × Name). (e.0, Some e.1)) (drop l.name-index l.routers) ≡ map (λ (e : Name × Name). (e.0, Some e.1)) l.routers
