use Rattle.std.proofs.Common.{◌≡◌, ◌&&◌}
use Rattle.std.specs.List.{list_any}
use Rattle.nb_rules.specs.Holders as spec
use Rattle.nb_rules.proofs.vips.is_taken.Given as goal

-- those that are left tell it
abbrev pub invariant-balancers : goal.invariant-balancers
invariant-balancers l = list_any (λ e. spec.is_balancer_before l.datapath l.balancer e.1 && (spec.same_protocol e.1.protocol l.balancer.protocol && spec.has_vip_at l.vip.at e.1)) l.records.load_balancers ≡ list_any (λ e. spec.is_balancer_before l.datapath l.balancer e.1 && (spec.same_protocol e.1.protocol l.balancer.protocol && spec.has_vip_at l.vip.at e.1)) l._name-iterator
