use Rattle.std.proofs.Common.{◌≡◌, ◌++◌, map, filter}
use Rattle.std.specs.Map.{values_of}
use Rattle.ovn_base.specs.names.SameName.{same_name}
use Rattle.stage_rows.specs.Facts.{is_near}
use Rattle.stage_rows.proofs.answered.push_external.Given as goal

-- the addresses so far, and those of the rows that are left
abbrev pub invariant-rows : goal.invariant-rows
invariant-rows l =
    l.ips ++ filter (is_near l.port) (map (λ r. r.external_ip) (filter (λ r. same_name r.router l.port.router) (values_of l._name-iterator)))
    ≡ l.fn.ips ++ filter (is_near l.port) (map (λ r. r.external_ip) (filter (λ r. same_name r.router l.port.router) (values_of l.records.nats)))
