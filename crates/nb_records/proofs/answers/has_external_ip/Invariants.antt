use Rattle.std.proofs.Common.{◌≡◌, ◌&&◌}
use Rattle.std.specs.List.{list_any}
use Rattle.ovn_base.specs.names.SameName.{same_name}
use Rattle.nb_records.specs.Switches.{same_ip}
use Rattle.nb_records.proofs.answers.has_external_ip.Given as goal

-- those that are left tell it
abbrev pub invariant-rows : goal.invariant-rows
invariant-rows l =
    list_any (λ e. same_name e.1.router l.router && same_ip l.ip e.1.external_ip) l.records.nats
    ≡ list_any (λ e. same_name e.1.router l.router && same_ip l.ip e.1.external_ip) l._name-iterator
