use Rattle.std.proofs.Common.{◌≡◌, ◌++◌, map}
use Rattle.world_setup.specs.KeyLines.{datapath_effect}
use Rattle.world_setup.proofs.edited.push_datapath_effects.Given as goal

-- the lines so far, and those of the datapaths that are left
abbrev pub invariant-datapaths : goal.invariant-datapaths
invariant-datapaths l = l.effects ++ map (datapath_effect l.keys) l.name-iterator ≡ l.fn.effects ++ map (datapath_effect l.keys) l.datapaths.entries
