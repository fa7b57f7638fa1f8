-- Which units have rows, and what the rows follow from.
use Rattle.std.specs.Prelude.{◌≡◌, ◌≢◌, ◌++◌, ℕ, List, [], ◌∷◌, map, Option, Some, None, refl}
use Rattle.std.proofs.Common.{arith}
use mathlib.Core.Path.{sym, ap, subst}
use mathlib.Core.Logic.{inl, inr}
use Rattle.ovn_base.specs.lists.Among.{Among, here, there}
use Rattle.ovn_base.specs.lists.Once.{EachOnce}
use Rattle.ovn_base.specs.names.ByName.{at, IsByName}
use Rattle.ovn_base.specs.declared.name.Name.{Name}
use Rattle.ovn_base.proofs.AmongLaws.{among_append, among_left, among_right, among_map, among_none, map_among}
use Rattle.ovn_base.proofs.ByNameLaws.{at_among}
use Rattle.ovn_base.proofs.OnceLaws.{once_append, once_named}
use Rattle.flow_table.specs.declared.flow.Flow.{Flow}
use Rattle.nb_records.specs.Network.{Network}
use Rattle.nb_records.specs.declared.router.RouterPort.{RouterPort}
use Rattle.nb_records.specs.declared.switch.Switch.{Switch}
use Rattle.nb_records.specs.declared.switch.SwitchPort.{SwitchPort}
use Rattle.physical_flows.specs.declared.unit.FlowUnit.{FlowUnit}
use Rattle.physical_flows.specs.declared.unit.FlowUnit.TheVariants as unit
use Rattle.physical_flows.specs.Around.{port_around, router_port_around, around_everywhere, around_rows}
use Rattle.physical_flows.specs.AroundLaws.{AroundAlikeLaw, AroundUnitsLaw, UnitsOnceLaw}
use Rattle.physical_flows.specs.Numbers.{datapath_number}
use Rattle.physical_flows.specs.Stages.{Basis}
use Rattle.physical_flows.specs.UnitFlows.{HaveRows}
use Rattle.physical_flows.specs.Units.{switch_here, port_here, router_port_here, ChangeOnly, all_units, no_rows}

-- ---- the units of the records

module _ (net : Network) where
  abbrev switch_units : List FlowUnit
  switch_units = map (λ (e : Name × Switch). unit.Switch e.0) net.switches

  abbrev port_units : List FlowUnit
  port_units = map (λ (e : Name × SwitchPort). unit.Port e.0) net.switch_ports

  abbrev router_port_units : List FlowUnit
  router_port_units = map (λ (e : Name × RouterPort). unit.RouterPort e.0) net.router_ports

  switch_listed : (a : Name) (switch : Switch) → at net.switches a ≡ Some switch → Among (unit.Switch a) (all_units net)
  switch_listed a switch is =
      let u = unit.Switch a in
      there (among_left u (switch_units ++ port_units) router_port_units (among_left u switch_units port_units (among_map (λ (e : Name × Switch). unit.Switch e.0) (a, switch) net.switches (at_among net.switches a switch is))))

  port_listed : (q : Name) (port : SwitchPort) → at net.switch_ports q ≡ Some port → Among (unit.Port q) (all_units net)
  port_listed q port is =
      let u = unit.Port q in
      there
      (among_left u (switch_units ++ port_units) router_port_units (among_right u switch_units port_units (among_map (λ (e : Name × SwitchPort). unit.Port e.0) (q, port) net.switch_ports (at_among net.switch_ports q port is))))

  router_port_listed : (q : Name) (port : RouterPort) → at net.router_ports q ≡ Some port → Among (unit.RouterPort q) (all_units net)
  router_port_listed q port is =
      let u = unit.RouterPort q in
      there (among_right u (switch_units ++ port_units) router_port_units (among_map (λ (e : Name × RouterPort). unit.RouterPort e.0) (q, port) net.router_ports (at_among net.router_ports q port is)))

  -- where units that have a row are among them, all others have none
  others_none : (rows : FlowUnit → List Flow) → ((u : FlowUnit) (f : Flow) → Among f (rows u) → Among u (all_units net)) → ChangeOnly (all_units net) no_rows rows
  others_none rows listed u out = by (rows u) refl
    where
      by : (fs : List Flow) → rows u ≡ fs → rows u ≡ []
      by [] e = e
      by (f ∷ fs) e = absurd (out (listed u f (subst (λ gs. Among f gs) (sym e) here)))

module _ (b : Basis) where
  -- a unit that has a row around the pipelines is one of the records
  around_switch : (a : Name) (o : Option Switch) → at b.net.switches a ≡ o → (f : Flow) → Among f (switch_here b a o (datapath_number b.keys a)) → Among (unit.Switch a) (all_units b.net)
  around_switch a None is f m = absurd (among_none f m)
  around_switch a (Some switch) is f m = switch_listed b.net a switch is

  around_port : (q : Name) (o : Option SwitchPort) → at b.net.switch_ports q ≡ o → (f : Flow) → Among f (port_around b q o ++ port_here b q o) → Among (unit.Port q) (all_units b.net)
  around_port q None is f m = absurd (among_none f m)
  around_port q (Some port) is f m = port_listed b.net q port is

  around_router_port : (q : Name) (o : Option RouterPort) → at b.net.router_ports q ≡ o → (f : Flow) → Among f (router_port_around b q o ++ router_port_here b q o) → Among (unit.RouterPort q) (all_units b.net)
  around_router_port q None is f m = absurd (among_none f m)
  around_router_port q (Some port) is f m = router_port_listed b.net q port is

  pub around_there : (u : FlowUnit) (f : Flow) → Among f (around_rows b u) → Among u (all_units b.net)
  around_there unit.Common f m = here
  around_there (unit.Switch a) f m = around_switch a (at b.net.switches a) refl f m
  around_there (unit.Port q) f m = around_port q (at b.net.switch_ports q) refl f m
  around_there (unit.RouterPort q) f m = around_router_port q (at b.net.router_ports q) refl f m

-- so all others have none
pub around_units : AroundUnitsLaw
around_units b = others_none b.net (around_rows b) (around_there b)

-- ---- each once

abbrev name_in : FlowUnit → Name
name_in unit.Common = []
name_in (unit.Switch a) = a
name_in (unit.Port q) = q
name_in (unit.RouterPort q) = q

-- of which kind a unit is
abbrev kind_of : FlowUnit → ℕ
kind_of unit.Common = 0
kind_of (unit.Switch a) = 1
kind_of (unit.Port q) = 2
kind_of (unit.RouterPort q) = 3

module _ (net : Network) where
  switch_kind : (u : FlowUnit) → Among u (switch_units net) → kind_of u ≡ 1
  switch_kind u m = ap kind_of (map_among (λ (e : Name × Switch). unit.Switch e.0) u net.switches m).2

  port_kind : (u : FlowUnit) → Among u (port_units net) → kind_of u ≡ 2
  port_kind u m = ap kind_of (map_among (λ (e : Name × SwitchPort). unit.Port e.0) u net.switch_ports m).2

  router_port_kind : (u : FlowUnit) → Among u (router_port_units net) → kind_of u ≡ 3
  router_port_kind u m = ap kind_of (map_among (λ (e : Name × RouterPort). unit.RouterPort e.0) u net.router_ports m).2

  -- no switch is a port
  units_apart : (u : FlowUnit) → Among u (switch_units net) → ¬ Among u (port_units net)
  units_apart u m n = let a = switch_kind u m in let p = port_kind u n in omega (arith, a, p)

  -- and no port of a router is either
  router_ports_apart : (u : FlowUnit) → Among u (switch_units net ++ port_units net) → ¬ Among u (router_port_units net)
  router_ports_apart u m n = let r = router_port_kind u n in elim (among_append u (switch_units net) (port_units net) m) [
    | inl switch ↦ (let a = switch_kind u switch in omega (arith, a, r))
    | inr port ↦ (let p = port_kind u port in omega (arith, p, r))
  ]

  not_common : (u : FlowUnit) → Among u (switch_units net ++ port_units net ++ router_port_units net) → kind_of u ≢ 0
  not_common u m common = elim (among_append u (switch_units net ++ port_units net) (router_port_units net) m) [
    | inl first ↦ elim (among_append u (switch_units net) (port_units net) first) [
      | inl switch ↦ (let a = switch_kind u switch in omega (arith, a, common))
      | inr port ↦ (let p = port_kind u port in omega (arith, p, common))
    ]
    | inr port ↦ (let r = router_port_kind u port in omega (arith, r, common))
  ]

  units_once : IsByName net.switches → IsByName net.switch_ports → IsByName net.router_ports → EachOnce (all_units net)
  units_once switches ports router_ports = (
    λ m. not_common unit.Common m refl,
    once_append (switch_units net ++ port_units net) (router_port_units net)
        (once_append (switch_units net) (port_units net) (once_named (λ (e : Name × Switch). unit.Switch e.0) (λ d e same. ap name_in same) net.switches switches)
        (once_named (λ (e : Name × SwitchPort). unit.Port e.0) (λ d e same. ap name_in same) net.switch_ports ports) units_apart)
        (once_named (λ (e : Name × RouterPort). unit.RouterPort e.0) (λ d e same. ap name_in same) net.router_ports router_ports) router_ports_apart,
  )

pub keyed_units_once : UnitsOnceLaw
keyed_units_once net keys keyed = units_once net keyed.valid.in_order.switches keyed.valid.in_order.switch_ports keyed.valid.in_order.router_ports

-- where no unit has a row, none is held
pub none_have : HaveRows no_rows no_rows
none_have u f = (λ m. m, λ m. m)

-- ---- on every chassis

module _ (b : Basis) (c : Name) where
  abbrev elsewhere : Basis
  elsewhere = record b { chassis = c }

  -- these rows don't follow from the chassis
  around_alike : (u : FlowUnit) → around_everywhere elsewhere u ≡ around_everywhere b u
  around_alike unit.Common = refl
  around_alike (unit.Switch a) = refl
  around_alike (unit.Port q) = by (at b.net.switch_ports q)
    where
      by : (o : Option SwitchPort) → port_around elsewhere q o ≡ port_around b q o
      by None = refl
      by (Some port) = refl
  around_alike (unit.RouterPort q) = by (at b.net.router_ports q)
    where
      by : (o : Option RouterPort) → router_port_around elsewhere q o ≡ router_port_around b q o
      by None = refl
      by (Some port) = refl

pub all_around_alike : AroundAlikeLaw
all_around_alike b chassis u = around_alike b chassis u
