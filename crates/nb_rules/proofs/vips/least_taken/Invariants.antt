use Rattle.std.proofs.Common.{◌≡◌, drop}
use Rattle.nb_rules.specs.First.{least_of}
use Rattle.nb_rules.specs.Holders as spec
use Rattle.nb_rules.proofs.vips.least_taken.Given as goal

-- those that are left tell it
abbrev pub invariant-vips : goal.invariant-vips
invariant-vips l = least_of spec.ip_number spec.vip_ip (spec.is_taken_vip l.records l.datapath l.balancer) l.fn.so_far l.balancer.vips ≡ least_of spec.ip_number spec.vip_ip (spec.is_taken_vip l.records l.datapath l.balancer) l.least (drop l.vip-index l.vip-items)
