use Rattle.std.proofs.Common.{◌≡◌, ◌++◌, flat_map, drop}
use Rattle.nb_records.specs.Switches.{mac_of_ip}
use Rattle.stage_rows.specs.Rows.{on_some}
use Rattle.stage_rows.specs.SwitchRows.{address_arp}
use Rattle.switch_stages.proofs.stages.arp.push_addresses.Given as goal

-- the rows so far, and those of the addresses that are left
abbrev pub invariant-ips : goal.invariant-ips
invariant-ips l =
    l.out ++ flat_map (λ ip. on_some (mac_of_ip ip l.port) (address_arp l.port ip)) (drop l.ip-index l.ips)
    ≡ l.fn.out ++ flat_map (λ ip. on_some (mac_of_ip ip l.port) (address_arp l.port ip)) l.ips
