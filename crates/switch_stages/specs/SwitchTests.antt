-- Tests of one record, by which facts of a switch are found.
use Rattle.std.specs.Prelude.{◌&&◌, Bool}
use Rattle.ovn_base.specs.declared.name.Name.{Name}
use Rattle.ovn_base.specs.names.SameName.{same_name}
use Rattle.nb_records.specs.Network.{Network}
use Rattle.nb_records.specs.Switches.{applies, is_related, takes_unknown}
use Rattle.nb_records.specs.declared.rule.Acl.{Acl}
use Rattle.nb_records.specs.declared.switch.SwitchPort.{SwitchPort}

-- an allow-related rule that applies to the switch
abbrev pub makes_stateful : Network → Name → Acl → Bool
makes_stateful net switch rule = is_related rule.action && applies net switch rule

-- an enabled port of the switch that has `unknown`
abbrev pub takes_unknown_there : Name → SwitchPort → Bool
takes_unknown_there switch q = same_name q.switch switch && (q.enabled && takes_unknown q.addresses)
