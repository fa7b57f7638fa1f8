-- The flows of the tables around the pipelines: as a set, and by unit.
use Rattle.std.specs.Prelude.{◌++◌, ◌||◌, ℕ, nat_eq, Bool, false, cond, List, [], ◌∷◌, Option, Some, None}
use Rattle.flow_table.specs.declared.flow.Flow.{Flow}
use Rattle.nb_records.specs.Switches.{is_virtual}
use Rattle.nb_records.specs.declared.router.RouterPort.{RouterPort}
use Rattle.nb_records.specs.declared.switch.SwitchPort.{SwitchPort}
use Rattle.ovn_base.specs.declared.name.Name.{Name}
use Rattle.ovn_base.specs.declared.stages.TheConstants.{ENTRY_TABLE, REMOTE_TABLE, LOCAL_TABLE, LOOPBACK_TABLE, OUTPUT_TABLE}
use Rattle.ovn_base.specs.names.ByName.{at}
use Rattle.physical_flows.specs.Numbers.{datapath_number, port_number}
use Rattle.physical_flows.specs.Rows.{return_row, output_row}
use Rattle.physical_flows.specs.Stages.{Basis, EntryRow, RemoteRow, HomeRow, ReturnRow, OutputRow}
use Rattle.physical_flows.specs.TableList.{common_rows}
use Rattle.physical_flows.specs.Units.{rows_here}
use Rattle.physical_flows.specs.declared.unit.FlowUnit.{FlowUnit}
use Rattle.physical_flows.specs.declared.unit.FlowUnit.TheVariants as unit

-- the flow is one of the tables around the pipelines
pub data AroundFlow (b : Basis) (f : Flow) : Type 0 where
  in_entry : EntryRow b f → AroundFlow b f
  in_remote : RemoteRow b f → AroundFlow b f
  in_home : HomeRow b f → AroundFlow b f
  in_back : ReturnRow b f → AroundFlow b f
  in_output : OutputRow b f → AroundFlow b f

-- the table is one of these
abbrev pub is_around : ℕ → Bool
is_around table = nat_eq table ENTRY_TABLE || nat_eq table REMOTE_TABLE || nat_eq table LOCAL_TABLE || nat_eq table LOOPBACK_TABLE || nat_eq table OUTPUT_TABLE

-- ---- by unit, the rows that are the same on every chassis

-- those by which packets leave at a port: none goes back to where it came from, and at a virtual port it goes out
abbrev pub exit_rows : Bool → ℕ → Name → ℕ → List Flow
exit_rows virtual dp q key = return_row dp key ∷ cond virtual (output_row dp q key ∷ []) []

-- by the keys of the port's datapath and its own
abbrev pub keyed_around : Bool → Name → Option ℕ → Option ℕ → List Flow
keyed_around virtual q (Some dp) (Some key) = exit_rows virtual dp q key
keyed_around virtual q (Some dp) None = []
keyed_around virtual q None key = []

abbrev pub port_around : Basis → Name → Option SwitchPort → List Flow
port_around b q (Some port) = keyed_around (is_virtual port) q (datapath_number b.keys port.switch) (port_number b.keys q)
port_around b q None = []

abbrev pub router_port_around : Basis → Name → Option RouterPort → List Flow
router_port_around b q (Some port) = keyed_around false q (datapath_number b.keys port.router) (port_number b.keys q)
router_port_around b q None = []

-- a switch has none
abbrev pub around_everywhere : Basis → FlowUnit → List Flow
around_everywhere b unit.Common = common_rows
around_everywhere b (unit.Switch a) = []
around_everywhere b (unit.Port q) = port_around b q (at b.net.switch_ports q)
around_everywhere b (unit.RouterPort q) = router_port_around b q (at b.net.router_ports q)

-- ---- the whole

-- all rows of a unit: behind those are the ones by who is at home on this chassis, and who elsewhere
abbrev pub around_rows : Basis → FlowUnit → List Flow
around_rows b u = around_everywhere b u ++ rows_here b u
