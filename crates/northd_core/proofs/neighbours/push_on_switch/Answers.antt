use Rattle.std.specs.Prelude.{◌++◌, filter, flat_map}
use Rattle.std.proofs.Common.{ap, ◌∙◌}
use Rattle.std.proofs.lemmas.List.{append_assoc}
use Rattle.nb_records.specs.Switches.{enabled_ports, is_virtual, router_port_behind}
use Rattle.stage_rows.specs.Facts.{answered_if, port_ips}
use Rattle.northd_core.proofs.neighbours.push_on_switch.Goals as goal

pub returns : goal.returns
returns c =
    let net = c.args.records.now in
    let enabled = enabled_ports net c.args.switch.now in
    let behind = flat_map (λ q. answered_if net (router_port_behind net q)) enabled in
    c.in_ok-push_behind.ensures ∙ ap (λ xs. xs ++ behind) c.in_ok-push_virtual.ensures ∙ append_assoc c.args.ips.now (flat_map port_ips (filter is_virtual enabled)) behind
