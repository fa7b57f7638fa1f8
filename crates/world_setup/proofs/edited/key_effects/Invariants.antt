use Rattle.std.proofs.Common.{◌≡◌, ◌++◌, flat_map, map}
use Rattle.ovn_base.specs.names.ByName.{in_order}
use Rattle.tunnel_keys.specs.Owners.{ports_in}
use Rattle.world_setup.specs.KeyLines.{key_effects, port_effect}
use Rattle.world_setup.proofs.edited.key_effects.Given as goal

-- the lines so far, and those of the ports on the datapaths that are left
abbrev pub invariant-places : goal.invariant-places
invariant-places l = l.effects ++ map (port_effect l.keys) (flat_map (λ d. in_order (ports_in d.0 l.added)) l.place-iterator) ≡ key_effects l.added l.keys
