-- What the rules of a switch say of a packet.
use Rattle.std.specs.Prelude.{◌==◌, ◌&&◌, ◌||◌, nat_lt, ℕ, Bool, true, false, Option, Some, None}
use Rattle.std.specs.List.{filter}
use Rattle.match_language.specs.declared.field.Direction.{Direction}
use Rattle.match_language.specs.declared.field.Direction.TheVariants.{FromLport, ToLport}
use Rattle.nb_records.specs.Network.{Network}
use Rattle.nb_records.specs.Switches.{rules_of}
use Rattle.nb_records.specs.Ways.{best_by}
use Rattle.nb_records.specs.declared.rule.Acl.{Acl}
use Rattle.nb_records.specs.declared.rule.RuleAction.{RuleAction}
use Rattle.nb_records.specs.declared.rule.RuleAction.TheVariants as action
use Rattle.ovn_base.specs.declared.name.Name.{Name}
use Rattle.net_model.specs.Sights.{Sight, roster_of, holds_at}

pub data Verdict : Type 0 where
  -- no rule says anything
  default : Verdict
  allow : Verdict
  allow_related : Verdict
  allow_stateless : Verdict
  reject : Verdict
  deny : Verdict

-- ---- which rule wins

-- at equal priority the action that stands first here is taken
abbrev pub precedence : RuleAction → ℕ
precedence action.Drop = 0
precedence action.Reject = 1
precedence action.AllowStateless = 2
precedence action.AllowRelated = 3
precedence action.Allow = 4

-- a rule beats those of lower priority, and at equal priority those of a later action
abbrev pub outranks : Acl → Acl → Bool
outranks a b = nat_lt b.priority a.priority || ((a.priority == b.priority) && nat_lt (precedence a.action) (precedence b.action))

abbrev pub same_direction : Direction → Direction → Bool
same_direction FromLport FromLport = true
same_direction ToLport ToLport = true
same_direction FromLport ToLport = false
same_direction ToLport FromLport = false

-- the rule is one for packets that enter, or that leave, and its match holds
abbrev pub speaks : Network → Direction → Sight → Acl → Bool
speaks net way s rule = same_direction rule.direction way && holds_at (roster_of net) s rule.matching

-- of the rules that apply to the switch and speak of the packet, one that no other beats
abbrev pub winner : Network → Name → Direction → Sight → Option Acl
winner net switch way s = best_by outranks (filter (speaks net way s) (rules_of net switch))

-- ---- what it says

abbrev pub verdict_by : RuleAction → Verdict
verdict_by action.Allow = allow
verdict_by action.AllowRelated = allow_related
verdict_by action.AllowStateless = allow_stateless
verdict_by action.Drop = deny
verdict_by action.Reject = reject

abbrev pub verdict_if : Option Acl → Verdict
verdict_if None = default
verdict_if (Some rule) = verdict_by rule.action

unfoldable pub verdict_of : Network → Name → Direction → Sight → Verdict
verdict_of net switch way s = verdict_if (winner net switch way s)
