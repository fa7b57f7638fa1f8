use Rattle.conn_zones.proofs.NameMaps.{none_sorted}
use Rattle.conn_zones.proofs.name_map.NameMap.new.Goals as goal

pub invariant_of-result : goal.invariant_of-result
invariant_of-result g c = none_sorted c.new.result.items c.new.ensures.items
