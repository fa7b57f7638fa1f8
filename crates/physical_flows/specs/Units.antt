-- The flows of a chassis by unit: those of a switch and of a port by who is at home, and what units have rows.
use Rattle.std.specs.Prelude.{◌≡◌, ◌++◌, ℕ, Bool, true, false, List, [], ◌∷◌, map, Option, Some, None, option_map}
use Rattle.ovn_base.specs.lists.Among.{Among}
use Rattle.ovn_base.specs.names.ByName.{at}
use Rattle.ovn_base.specs.declared.name.Name.{Name}
use Rattle.flow_table.specs.declared.flow.Flow.{Flow}
use Rattle.nb_records.specs.Network.{Network}
use Rattle.nb_records.specs.Switches.{is_virtual}
use Rattle.nb_records.specs.declared.router.RouterPort.{RouterPort}
use Rattle.nb_records.specs.declared.switch.Switch.{Switch}
use Rattle.nb_records.specs.declared.switch.SwitchPort.{SwitchPort}
use Rattle.net_model.specs.declared.crossing.Group.{Group}
use Rattle.net_model.specs.declared.crossing.Group.TheVariants.{Flood, Unknown}
use Rattle.physical_flows.specs.declared.unit.FlowUnit.{FlowUnit}
use Rattle.physical_flows.specs.declared.unit.FlowUnit.TheVariants as unit
use Rattle.physical_flows.specs.Numbers.{datapath_number, port_number}
use Rattle.physical_flows.specs.Stages.{Basis, PatchPort, zone_of, members_here, homes_of, switch_patch, router_patch, beyond}
use Rattle.physical_flows.specs.TableList.{group_rows, bound_rows, homed_rows, way_row}

-- ---- the rows that a unit has by who is at home on this chassis, and who elsewhere

-- those of a switch: its groups
abbrev pub rows_of_group : Basis → Name → ℕ → Group → List Flow
rows_of_group b a dp group = group_rows dp group (homes_of b a group) (members_here b a group false) (members_here b a group true)

abbrev pub switch_here : Basis → Name → Option Switch → Option ℕ → List Flow
switch_here b a (Some switch) (Some dp) = rows_of_group b a dp Flood ++ rows_of_group b a dp Unknown
switch_here b a (Some switch) None = []
switch_here b a None number = []

-- those of a port that leads into another datapath: by its home, and by its partner
abbrev pub patch_rows : Basis → PatchPort → List Flow
patch_rows b x = homed_rows b.chassis x.home x.dp x.key ++ way_row x.dp x.key (option_map (beyond b) x.partner) ∷ []

-- those of a switch's port: where it is bound, or to where it leads
abbrev pub patch_rows_if : Bool → Basis → PatchPort → List Flow
patch_rows_if true b x = []
patch_rows_if false b x = patch_rows b x

abbrev pub keyed_here : Basis → Name → SwitchPort → Option ℕ → Option ℕ → List Flow
keyed_here b q port (Some dp) (Some key) =
    bound_rows b.chassis (at b.bindings q) (zone_of b q) dp q key
    ++ patch_rows_if (is_virtual port) b (switch_patch b port dp key)
keyed_here b q port (Some dp) None = []
keyed_here b q port None key = []

abbrev pub port_here : Basis → Name → Option SwitchPort → List Flow
port_here b q (Some port) = keyed_here b q port (datapath_number b.keys port.switch) (port_number b.keys q)
port_here b q None = []

-- those of a router's port
abbrev pub keyed_router_port : Basis → RouterPort → Option ℕ → Option ℕ → List Flow
keyed_router_port b port (Some dp) (Some key) = patch_rows b (router_patch b port dp key)
keyed_router_port b port (Some dp) None = []
keyed_router_port b port None key = []

abbrev pub router_port_here : Basis → Name → Option RouterPort → List Flow
router_port_here b q (Some port) = keyed_router_port b port (datapath_number b.keys port.router) (port_number b.keys q)
router_port_here b q None = []

abbrev pub rows_here : Basis → FlowUnit → List Flow
rows_here b unit.Common = []
rows_here b (unit.Switch a) = switch_here b a (at b.net.switches a) (datapath_number b.keys a)
rows_here b (unit.Port q) = port_here b q (at b.net.switch_ports q)
rows_here b (unit.RouterPort q) = router_port_here b q (at b.net.router_ports q)

-- ---- all units

-- the flow is a row of some unit
pub record HasRow (rows : FlowUnit → List Flow) (f : Flow) : Type 0 where
  pub unit : FlowUnit
  pub among : Among f (rows unit)

-- each unit but these has the rows that it had
abbrev pub ChangeOnly : List FlowUnit → (FlowUnit → List Flow) → (FlowUnit → List Flow) → Type 0
ChangeOnly units before after = (u : FlowUnit) → ¬ Among u units → after u ≡ before u

-- all units that have rows
abbrev pub all_units : Network → List FlowUnit
all_units net = unit.Common ∷ map (λ e. unit.Switch e.0) net.switches ++ map (λ e. unit.Port e.0) net.switch_ports ++ map (λ e. unit.RouterPort e.0) net.router_ports

-- no unit has a row
abbrev pub no_rows : FlowUnit → List Flow
no_rows u = []
