use Rattle.std.proofs.Common.{◌≡◌, ◌++◌, map}
use Rattle.std.specs.List.{filter}
use Rattle.tunnel_keys.specs.Owners.{is_listed}
use Rattle.tunnel_keys.specs.Keys.{datapath_owner, held_datapath}
use Rattle.tunnel_keys.proofs.retiring.retired_datapaths.Given as goal

abbrev pub invariant-loop-name : goal.invariant-loop-name
invariant-loop-name l = l.all ++ map held_datapath (filter (λ e. is_listed l.removed (datapath_owner e)) l.name-iterator) ≡ l.retired ++ map held_datapath (filter (λ e. is_listed l.removed (datapath_owner e)) l.datapaths.entries)
