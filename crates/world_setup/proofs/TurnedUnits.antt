-- Which units' rows a turn changes on the chassis that are there.
use Rattle.std.specs.Prelude.{◌≡◌, List, None, refl}
use Rattle.std.specs.BTreeSet.{insert_key}
use Rattle.std.specs.Cmp.Lexicographic.{slice_cmp}
use Rattle.std.specs.Ordering.{nat_cmp}
use Rattle.std.proofs.Common.{sym, ap, subst}
use Rattle.conn_zones.specs.Rezoning.{IsRezoned}
use Rattle.conn_zones.specs.Zoning.{KnownHomes, Zoned, number_on}
use Rattle.conn_zones.specs.declared.numbers.ZoneUse.TheVariants.{Port}
use Rattle.edit_reader.specs.declared.event.Event.TheVariants as event_of
use Rattle.nb_records.specs.Network.{Network}
use Rattle.net_model.specs.State.{State}
use Rattle.ovn_base.specs.declared.name.Name.{Name}
use Rattle.ovn_base.specs.lists.Among.{Among}
use Rattle.ovn_base.specs.names.ByName.{at, put, IsByName}
use Rattle.physical_flows.specs.Units.{ChangeOnly}
use Rattle.physical_flows.specs.declared.unit.FlowUnit.{FlowUnit}
use Rattle.physical_flows.proofs.FlowSearch.{some_of}
use Rattle.physical_flows.specs.Touching.{HasLeading, IsSameBeside}
use Rattle.physical_flows.proofs.TouchedUnits.{around_bind, around_chassis, around_edit}
use Rattle.physical_flows.proofs.UnitReads.{number_kept}
use Rattle.world_setup.specs.Consistent.{IsConsistent}
use Rattle.tunnel_keys.specs.Keys.{Keys}
use Rattle.world_setup.specs.Ground.{GroundView, basis_in, ground_of}
use Rattle.world_setup.specs.Refusing.{refusal}
use Rattle.world_setup.specs.Setup.{rows_on, units_of}
use Rattle.world_setup.specs.Zones.{home_change}
use Rattle.world_setup.proofs.PortHomes.{homes_after}
use Rattle.world_setup.proofs.Refusals.{port_there}

module _ (m : State) (zones : Zoned) (old : IsConsistent m zones) where
  abbrev now : GroundView
  now = ground_of m zones

  -- the bindings are the homes of ports
  pub homes_bound : zones.homes.ports ≡ m.config.bindings
  homes_bound = ap (λ (h : KnownHomes). h.ports) old.at_rest.bound.homes

  -- ports keep the numbers of their zones
  abbrev pub PortsKeep : Zoned → Type 0
  PortsKeep after = (q d : Name) → number_on after.numbers d (Port q) ≡ number_on zones.numbers d (Port q)

  -- an edit: the units of what its operations name
  pub edited_units : (net : Network) (keys : Keys) (after : Zoned) (units : List FlowUnit) → PortsKeep after → IsByName net.switch_ports → IsSameBeside units m.config.net net m.keys keys → (d : Name)
      → ChangeOnly units (rows_on now d) (rows_on (record { config = record m.config { net = net }; keys = keys; zones = after }) d)
  edited_units net keys after units keep sorted same d =
      around_edit (basis_in now d) (basis_in (record { config = record m.config { net = net }; keys = keys; zones = after }) d) units net keys after.numbers refl (λ q. keep q d)
      old.at_rest.valid.in_order.switch_ports sorted old.at_rest.valid.named.switch_ports same

  -- a chassis comes: those of all ports that lead into another datapath
  pub chassis_units : (c : Name) (after : Zoned) (units : List FlowUnit) → PortsKeep after → ¬ Among c m.config.chassis → HasLeading units m.config.net → (d : Name)
      → ChangeOnly units (rows_on now d) (rows_on (record { config = record m.config { chassis = insert_key (slice_cmp nat_cmp) m.config.chassis c }; keys = m.keys; zones = after }) d)
  chassis_units c after units keep new leading d =
      around_chassis (basis_in now d) (basis_in (record { config = record m.config { chassis = insert_key (slice_cmp nat_cmp) m.config.chassis c }; keys = m.keys; zones = after }) d) units c after.numbers refl new
      old.at_rest.bound.chassis_there (λ q. keep q d) old.at_rest.valid leading

  -- a port is bound: itself and its switch
  pub binding_units : (p c : Name) → refusal m (event_of.Bind p c) ≡ None → (after : Zoned) → IsRezoned zones (home_change p c) after → (d : Name)
      → ChangeOnly (units_of (at m.config.net.switch_ports p) p) (rows_on now d) (rows_on (record { config = record m.config { bindings = after.homes.ports }; keys = m.keys; zones = after }) d)
  binding_units p c allowed after rezoned d =
      let found = some_of (at m.config.net.switch_ports p) (port_there m p c allowed) in
      let ports : after.homes.ports ≡ put m.config.bindings p c = ap (λ (h : KnownHomes). h.ports) (homes_after m.config zones old.at_rest.bound p c after rezoned) in
      let then' : GroundView = record { config = record m.config { bindings = after.homes.ports }; keys = m.keys; zones = after } in
      subst (λ o. ChangeOnly (units_of o p) (rows_on now d) (rows_on then' d)) (sym found.1)
      (around_bind (basis_in now d) (basis_in then' d) p c found.0 after.numbers (λ i. record (basis_in now d) { bindings = ports i; zones = after.numbers }) found.1 old.at_rest.valid.in_order.switch_ports old.at_rest.valid.named.switch_ports
      (λ z apart. number_kept zones after p c old.at_rest.bound.zoned rezoned z apart d))
