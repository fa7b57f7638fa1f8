use Rattle.std.proofs.Common.{◌≡◌}
use Rattle.std.specs.List.{list_any}
use Rattle.ovn_base.specs.names.SameName.{same_name}
use Rattle.router_stages.proofs.facts.gateways.some_translate.Given as goal

-- those that are left tell it
abbrev pub invariant-rows : goal.invariant-rows
invariant-rows l = list_any (λ e. same_name e.1.router l.router) l.records.nats ≡ list_any (λ e. same_name e.1.router l.router) l._name-iterator
