use Rattle.std.proofs.Common.{[], ◌∷◌}
use Rattle.stage_rows.specs.Rows.{when}
use Rattle.stage_rows.specs.SwitchRows.{port_admit, port_port_security, port_track_row, port_arp, port_lookup}
use Rattle.switch_stages.proofs.Pushes.{five_pushes}
use Rattle.switch_stages.proofs.port_unit.push_ingress.Goals as goal

pub returns : goal.returns
returns c =
    let q = c.args.port.now in
    five_pushes c.args.out.now (port_admit q) (port_port_security q) (when c.args.tracked (port_track_row q ∷ [])) (port_arp q) (port_lookup c.args.records.now q)
    c.in_ok-push_port_admit.ensures c.in_ok-push_port_security.ensures c.in_ok-push_port_track.ensures c.in_ok-push_port_arp.ensures c.in_ok-push_port_lookup.ensures
