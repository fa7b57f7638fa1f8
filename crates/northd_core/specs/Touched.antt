-- The units that an edit may leave lowered to other flows, by the ports, the switches and the rules that it names.
use Rattle.std.specs.Prelude.{◌≡◌, ◌⊎◌, ◌++◌, ◌||◌, Bool, not, cond, List, [], ◌∷◌, map, filter, flat_map, filter_map, Option, Some, None, IsSome, is_some}
use Rattle.std.specs.Map.{keys_of}
use Rattle.ovn_base.specs.declared.name.Name.{Name}
use Rattle.ovn_base.specs.lists.Among.{Among}
use Rattle.ovn_base.specs.names.ByName.{at}
use Rattle.ovn_base.specs.names.SameName.{same_name}
use Rattle.address_sets.specs.Members.{sets_of}
use Rattle.tunnel_keys.specs.declared.owner.PortKey.{PortKey}
use Rattle.nb_records.specs.Network.{Network}
use Rattle.nb_records.specs.Switches.{has_balancer, has_some, is_stateful}
use Rattle.nb_records.specs.declared.rule.Acl.{Acl}
use Rattle.nb_records.specs.declared.switch.Switch.{Switch}
use Rattle.nb_records.specs.declared.switch.SwitchPort.{SwitchPort}
use Rattle.logical_flows.specs.declared.unit.UnitId.{UnitId}
use Rattle.logical_flows.specs.declared.unit.UnitId.TheVariants as unit
use Rattle.flow_lowering.specs.LoweredFlows.{live_datapath_key}
use Rattle.northd_core.specs.Lowering.{Lowering, CanCompile, StayLowered}
use Rattle.northd_core.specs.Routed.{routed_units}
use Rattle.northd_core.specs.RulesOn.{is_rule_on}

-- ---- the rules that are named

-- the rule applies to the switch before or after
abbrev pub is_on_either : Network → Network → Name → Name → Bool
is_on_either before after rule switch = is_rule_on before rule switch || is_rule_on after rule switch

-- the switches to which it applies before or after; one that goes is named itself
abbrev pub switches_of_rule : Network → Network → Name → List Name
switches_of_rule before after rule = filter (is_on_either before after rule) (keys_of after.switches)

abbrev pub rule_touched : Network → Network → Name → List UnitId
rule_touched before after rule = map (unit.Rule rule) (switches_of_rule before after rule)

-- ---- the switches that are named

abbrev pub as_switch : UnitId → Option Name
as_switch (unit.Switch d) = Some d
as_switch _ = None

abbrev pub switches_in : List UnitId → List Name
switches_in units = filter_map as_switch units

-- each rule that applies to the switch before or after, since it may name ports that came or went; one that comes is named itself
abbrev pub rules_at : Network → Network → Name → List UnitId
rules_at before after switch = map (λ rule. unit.Rule rule switch) (filter (λ rule. is_on_either before after rule switch) (keys_of before.acls))

-- ---- the switches that begin or cease to track connections

abbrev pub ports_at : Network → Name → List UnitId
ports_at net switch = map (λ e. unit.Port e.0) (filter (λ e. same_name e.1.switch switch) net.switch_ports)

abbrev pub is_other : Bool → Bool → Bool
is_other a b = cond a (not b) b

-- the switch begins or ceases to be stateful, or to be served by a balancer
abbrev pub turns : Network → Network → Name → Bool
turns before after switch = is_other (is_stateful before switch) (is_stateful after switch) || is_other (has_balancer before switch) (has_balancer after switch)

-- such a switch with its ports; one that comes or goes is named itself
abbrev pub turned_at : Network → Network → Name → List UnitId
turned_at before after switch = cond (turns before after switch) (unit.Switch switch ∷ ports_at after switch) []

-- all switches, where a balancer is there before or after
abbrev pub switches_balanced : Network → Network → List Name
switches_balanced before after = cond (has_some before.load_balancers || has_some after.load_balancers) (keys_of after.switches) []

-- ---- what follows from routers

-- the ports of switches to routers, where a router has a port before or after; one that comes or goes is named itself
abbrev pub ports_to_routers : Network → Network → List UnitId
ports_to_routers before after = cond (has_some before.router_ports || has_some after.router_ports) (map (λ e. unit.Port e.0) (filter (λ e. is_some e.1.router_port) after.switch_ports)) []

-- all that routers and balancers have before and after, and the ports to routers
abbrev pub routed_rows : Network → Network → List UnitId
routed_rows before after = routed_units before ++ routed_units after ++ ports_to_routers before after

-- ---- all of them

-- the switches of which the ports or the rules may be others, or the balancers
abbrev pub switches_touched : Network → Network → List UnitId → List Name → List Name
switches_touched before after units rules = switches_in units ++ flat_map (switches_of_rule before after) rules ++ switches_balanced before after

-- beside what is named and what follows from routers: the named rules, all rules on the named switches, and who begins or ceases to track connections
abbrev pub beside_routers : Network → Network → List UnitId → List Name → List UnitId
beside_routers before after units rules =
    flat_map (rule_touched before after) rules
    ++ flat_map (rules_at before after) (switches_in units)
    ++ flat_map (turned_at before after) (switches_touched before after units rules)

-- the named ports and switches, and these two
abbrev pub touched_rows : Network → Network → List UnitId → List Name → List UnitId
touched_rows before after units rules = units ++ beside_routers before after units rules ++ routed_rows before after

-- ---- what an edit that names these leaves as it is

-- a port of a switch or of a router has the name
abbrev pub IsPortOf : Network → Name → Type 0
IsPortOf net q = IsSome (at net.switch_ports q) ⊎ IsSome (at net.router_ports q)

-- Records and keys of all ports, switches and rules that aren't named stay, with a port its switches are named, and where a rule that isn't named is there all sets and groups stay.
-- What routers and balancers have is asked nothing of.
pub record IsSameButFor (before after : Lowering) (units : List UnitId) (names : List Name) : Type 0 where
  pub ports : (q : Name) → ¬ Among (unit.Port q) units → at before.net.switch_ports q ≡ at after.net.switch_ports q
  pub port_keys : (q : Name) (port : SwitchPort) → ¬ Among (unit.Port q) units → at before.net.switch_ports q ≡ Some port → at before.keys.ports q ≡ at after.keys.ports q
  pub switches : (d : Name) → ¬ Among (unit.Switch d) units → at before.net.switches d ≡ at after.net.switches d
  pub switch_keys : (d : Name) (switch : Switch) → ¬ Among (unit.Switch d) units → at before.net.switches d ≡ Some switch → live_datapath_key before.keys d ≡ live_datapath_key after.keys d
  -- the switch of a port that isn't named keeps its key
  pub beneath : (q : Name) (port : SwitchPort) → ¬ Among (unit.Port q) units → at before.net.switch_ports q ≡ Some port
      → live_datapath_key before.keys port.switch ≡ live_datapath_key after.keys port.switch
  -- with a port the switches are named that it was on and is on
  pub on : (q : Name) (port : SwitchPort) → Among (unit.Port q) units → (at before.net.switch_ports q ≡ Some port) ⊎ (at after.net.switch_ports q ≡ Some port) → Among (unit.Switch port.switch) units
  -- no port has a key but those of the records
  pub had : (q : Name) (k : PortKey) → at before.keys.ports q ≡ Some k → IsPortOf before.net q
  pub have : (q : Name) (k : PortKey) → at after.keys.ports q ≡ Some k → IsPortOf after.net q
  pub rules : (r : Name) → ¬ Among r names → at before.net.acls r ≡ at after.net.acls r
  pub sets : (r : Name) (rule : Acl) → ¬ Among r names → at before.net.acls r ≡ Some rule → sets_of before.net ≡ sets_of after.net

-- Every unit but these is lowered to the same flows.
abbrev pub TouchedLaw : Type 0
TouchedLaw = (before after : Lowering) → CanCompile before → CanCompile after → (units : List UnitId) (rules : List Name) → IsSameButFor before after units rules
    → StayLowered before after (touched_rows before.net after.net units rules)
