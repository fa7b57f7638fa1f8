use Rattle.std.proofs.Common.{◌≡◌, ◌++◌, filter, drop}
use Rattle.nb_records.specs.Network.{is_online}
use Rattle.lb_stages.proofs.vip_rows.online_among.Given as goal

-- the backends so far, and those that are left
abbrev pub invariant-backends : goal.invariant-backends
invariant-backends l = l.online ++ filter (is_online l.records l.balancer) (drop l.backend-index l.backends) ≡ filter (is_online l.records l.balancer) l.backends
