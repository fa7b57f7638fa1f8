use Rattle.northd_core.proofs.Joined.{units_joined}
use Rattle.northd_core.proofs.units.put_units.Goals as goal

pub returns : goal.returns
returns c =
    units_joined c.args.records.now c.args.units.now.keys c.put_ports.new.units.keys c.put_rules.new.units.keys c.put_switches.new.units.keys c.put_routed.new.units.keys
    c.in_ok-put_ports.ensures c.in_ok-put_rules.ensures c.in_ok-put_switches.ensures c.in_ok-put_routed.ensures
