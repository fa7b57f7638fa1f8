use Rattle.std.specs.Prelude.{◌≡◌, ◌++◌, filter, flat_map, map, not}
use Rattle.nb_records.specs.Switches.{is_virtual}
use Rattle.nb_records.specs.declared.kinds.Kind.TheVariants as kind
use Rattle.world_setup.specs.Touched.{to_routers, units_named}
use Rattle.world_setup.proofs.edited.push_to_routers.Given as goal

-- the units so far, and those of the ports that are left
abbrev pub invariant-ports : goal.invariant-ports
invariant-ports l =
    l.units ++ flat_map (λ q. units_named l.before l.after kind.SwitchPort q) (map (λ e. e.0) (filter (λ e. not (is_virtual e.1)) l.name-iterator))
    ≡ l.fn.units ++ flat_map (λ q. units_named l.before l.after kind.SwitchPort q) (to_routers l.records)
