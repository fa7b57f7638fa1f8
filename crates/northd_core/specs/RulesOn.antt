-- Whether the rule of a name applies to a switch.
use Rattle.std.specs.Prelude.{Bool, false, Option, Some, None}
use Rattle.ovn_base.specs.declared.name.Name.{Name}
use Rattle.ovn_base.specs.names.ByName.{at}
use Rattle.nb_records.specs.Network.{Network}
use Rattle.nb_records.specs.Switches.{applies}
use Rattle.nb_records.specs.declared.rule.Acl.{Acl}

-- the rule is there and applies to the switch
abbrev pub applies_if : Network → Name → Option Acl → Bool
applies_if net switch None = false
applies_if net switch (Some rule) = applies net switch rule

abbrev pub is_rule_on : Network → Name → Name → Bool
is_rule_on net rule switch = applies_if net switch (at net.acls rule)
