use Rattle.std.proofs.Common.{[], ◌∷◌}
use Rattle.stage_rows.specs.Rows.{when}
use Rattle.stage_rows.specs.SwitchRows.{port_disabled_out, port_track_out_row, port_security_out}
use Rattle.switch_stages.proofs.Pushes.{three_pushes}
use Rattle.switch_stages.proofs.port_unit.push_egress.Goals as goal

pub returns : goal.returns
returns c =
    let q = c.args.port.now in
    three_pushes c.args.out.now (port_disabled_out q) (when c.args.tracked (port_track_out_row q ∷ [])) (port_security_out q)
    c.in_ok-push_disabled_out.ensures c.in_ok-push_port_track_out.ensures c.in_ok-push_port_security_out.ensures
