use Rattle.std.proofs.Common.{arith, sym}
use Rattle.conn_zones.proofs.NameMaps.{at_place, at_gap}
use Rattle.conn_zones.proofs.name_map.NameMap.get_near.Goals as goal

-- the entry at the place is the one that was read
pub returns-in-Ok : goal.returns-in-Ok
returns-in-Ok g c =
    let value = at_place c.args.self.now c.args.name.now c.in-Ok.index c.in-Ok.ensures.found c.index.result.now in
    grind (arith, c.self.view_is)

pub returns-in-Err : goal.returns-in-Err
returns-in-Err g c = sym (at_gap c.args.self.now c.args.name.now c.in-Err.field-0 c.in-Err.ensures.absent)
