use Rattle.std.proofs.Common.{◌≡◌, ◌&&◌}
use Rattle.std.specs.List.{list_any}
use Rattle.nb_records.specs.Routers.{has_own_ip}
use Rattle.nb_rules.specs.Holders as spec
use Rattle.nb_rules.proofs.holders.is_mates.Given as goal

-- those that are left tell it
abbrev pub invariant-ports : goal.invariant-ports
invariant-ports l = list_any (λ e. spec.is_router_mate l.port e.1 && has_own_ip l.ip e.1) l.records.router_ports ≡ list_any (λ e. spec.is_router_mate l.port e.1 && has_own_ip l.ip e.1) l._name-iterator
