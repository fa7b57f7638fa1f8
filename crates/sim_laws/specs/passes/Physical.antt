-- The tables of a chassis before a switch's pipelines, between them and behind them.
use Rattle.std.specs.Prelude.{◌≡◌, ◌≤◌, ◌↔◌, ℕ, true, Some, IsSome}
use Rattle.conn_zones.specs.Zoning.{GivenNumbers, number_on}
use Rattle.conn_zones.specs.declared.numbers.TheConstants.{MAX_ZONE}
use Rattle.conn_zones.specs.declared.numbers.ZoneUse.TheVariants.{Port}
use Rattle.flow_table.specs.declared.flow.Flow.{Flow}
use Rattle.nb_records.specs.Switches.{is_virtual}
use Rattle.nb_records.specs.declared.switch.SwitchPort.{SwitchPort}
use Rattle.net_model.specs.Trail.{of_port}
use Rattle.ovn_base.specs.declared.name.Name.{Name}
use Rattle.ovn_base.specs.declared.stages.TheConstants.{ENTRY_TABLE, REMOTE_TABLE, LOCAL_TABLE, LOOPBACK_TABLE, OUTPUT_TABLE}
use Rattle.ovn_base.specs.lists.Among.{Among}
use Rattle.ovn_base.specs.names.ByName.{at}
use Rattle.physical_flows.specs.Stages.{Basis, EntryRow, RemoteRow, HomeRow, ReturnRow, OutputRow}
use Rattle.sim_laws.specs.pipelines.Standing.{Chassis, net_of}

-- what these tables follow from
abbrev pub basis_of : Chassis → GivenNumbers → Basis
basis_of s numbers = record { chassis = s.scene.here; all = s.scene.config.chassis; net = net_of s; bindings = s.scene.config.bindings; keys = s.keys; zones = numbers }

-- of the flows, those of the table are exactly these rows
abbrev pub HoldsAt : Chassis → ℕ → (Flow → Type 0) → Type 0
HoldsAt s table Row = (f : Flow) → f.table ≡ table → Among f s.flows ↔ Row f

-- These tables hold their rows, and zones have the numbers that were given.
pub record IsWired (s : Chassis) (numbers : GivenNumbers) : Type 0 where
  pub entry : HoldsAt s ENTRY_TABLE (EntryRow (basis_of s numbers))
  pub remote : HoldsAt s REMOTE_TABLE (RemoteRow (basis_of s numbers))
  pub home : HoldsAt s LOCAL_TABLE (HomeRow (basis_of s numbers))
  pub back : HoldsAt s LOOPBACK_TABLE (ReturnRow (basis_of s numbers))
  pub output : HoldsAt s OUTPUT_TABLE (OutputRow (basis_of s numbers))
  pub number : (q : Name) → s.number (of_port q) ≡ number_on numbers s.scene.here (Port q)
  -- a port that is bound to the chassis has a zone here
  pub zoned : (q : Name) → at s.scene.config.bindings q ≡ Some s.scene.here → IsSome (s.number (of_port q))
  pub in_range : (q : Name) (z : ℕ) → s.number (of_port q) ≡ Some z → z ≤ MAX_ZONE

-- no port of the switch leads to a router
abbrev pub AreVirtual : Chassis → Name → Type 0
AreVirtual s switch = (q : Name) (port : SwitchPort) → at (net_of s).switch_ports q ≡ Some port → port.switch ≡ switch → is_virtual port ≡ true
