use Rattle.std.proofs.Common.{◌≡◌, ◌++◌, map, drop}
use Rattle.nb_records.specs.Network.{is_online}
use Rattle.stage_rows.specs.BalancerRows.{switch_vip_row}
use Rattle.lb_stages.proofs.vip_rows.push_switch_vips.Given as goal

-- the rows so far, and those of the virtual addresses that are left
abbrev pub invariant-vips : goal.invariant-vips
invariant-vips l =
    l.out ++ map (switch_vip_row (is_online l.records l.name) l.balancer.protocol) (drop l.vip-index l.vip-items)
    ≡ l.fn.out ++ map (switch_vip_row (is_online l.records l.name) l.balancer.protocol) l.balancer.vips
