-- The tunnel keys of groups.
use Rattle.std.specs.Prelude.{ℕ}
use Rattle.ovn_base.specs.declared.limits.TheConstants.{FLOOD_KEY, UNKNOWN_KEY}
use Rattle.net_model.specs.declared.crossing.Group.{Group}
use Rattle.net_model.specs.declared.crossing.Group.TheVariants.{Flood, Unknown}

-- the numbers of the groups: no port has one of them
abbrev pub group_key : Group → ℕ
group_key Flood = FLOOD_KEY
group_key Unknown = UNKNOWN_KEY
