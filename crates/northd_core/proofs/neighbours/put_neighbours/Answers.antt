use Rattle.std.proofs.Common.{subst}
use Rattle.northd_core.specs.Listing.{HaveJoined}
use Rattle.northd_core.proofs.ReachedUnits.{by_name}
use Rattle.northd_core.proofs.neighbours.put_neighbours.Goals as goal

pub returns : goal.returns
returns c = subst (λ us. HaveJoined us c.args.units.now.keys c.put_named.new.units.keys) (by_name c.args.records.now c.hold.ensures.router_ports) c.in_ok-put_named.ensures
