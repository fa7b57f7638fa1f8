-- The flows of the tables around the pipelines, row by row. A row without a word on its entry is of rank 0 and cookie 0.
use Rattle.std.specs.Prelude.{ℕ, Bool, false, cond, List, [], ◌∷◌, ◌++◌, map, Some}
use Rattle.ovn_base.specs.declared.name.Name.{Name}
use Rattle.ovn_base.specs.declared.stages.TheConstants.{ADMIT_TABLE, EGRESS_TRACK_TABLE, ENTRY_TABLE, LOCAL_TABLE, LOOPBACK_TABLE, OUTPUT_TABLE, REMOTE_TABLE}
use Rattle.inet_packet.specs.Cubes.{exactly, everything}
use Rattle.inet_packet.specs.declared.cube.Bits.{Bits}
use Rattle.inet_packet.specs.declared.cube.Cube.{Cube}
use Rattle.inet_packet.specs.declared.regs.At.TheVariants.{Local, Tunnel}
use Rattle.inet_packet.specs.declared.regs.Reg.TheVariants.{Dp, InPort, ZIn, ZOut, Tracked, State, Blocked, Verdict, Arrived}
use Rattle.flow_table.specs.declared.flow.Cause.TheVariants.{Loopback, NoPeer}
use Rattle.flow_table.specs.declared.flow.Flow.{Flow}
use Rattle.flow_table.specs.declared.flow.FlowOp.{FlowOp}
use Rattle.flow_table.specs.declared.flow.FlowOp.TheVariants.{Set, Go, Drop, Header, Frame, Copies, Output, Patch}
use Rattle.flow_table.specs.declared.flow.Member.{Member}
use Rattle.physical_flows.specs.declared.priorities.TheConstants.{BASE_PRIORITY, PHYSICAL_PRIORITY}
use Rattle.physical_flows.specs.declared.beyond.Beyond.{Beyond}
use Rattle.physical_flows.specs.GroupKeys.{group_key}
use Rattle.net_model.specs.declared.crossing.Group.{Group}

-- packets that come in at the port, and those that come out of a tunnel
abbrev pub on_entry : Name → Cube
on_entry port = record everything { at = Some (Local port) }

abbrev pub on_tunnel : Cube
on_tunnel = record everything { at = Some Tunnel }

-- packets on the datapath, and those of them that go to a port
abbrev pub on_datapath : ℕ → Cube
on_datapath dp = record everything { dp = exactly 24 dp }

abbrev pub on_exit : ℕ → ℕ → Cube
on_exit dp key = record (on_datapath dp) { out_port = exactly 16 key }

-- packets that would go back to where they came from, but for those that may: the flag `loopback` is the word's lowest bit
abbrev pub on_return : ℕ → ℕ → Cube
on_return dp key = record (on_exit dp key) { in_port = exactly 16 key; flags = exactly 1 0 }

-- the flag `arrived` is the word's bit of 16
abbrev pub arrived_is : Bool → Bits
arrived_is arrived = record { value = cond arrived 16 0; mask = 16 }

-- packets to a port that did not come out of a tunnel
abbrev pub on_way : ℕ → ℕ → Cube
on_way dp key = record (on_exit dp key) { flags = arrived_is false }

-- packets to a group, that came out of a tunnel or not
abbrev pub on_group : ℕ → Group → Bool → Cube
on_group dp group arrived = record (on_exit dp (group_key group)) { flags = arrived_is arrived }

abbrev pub flow_of : ℕ → ℕ → Cube → List FlowOp → Flow
flow_of table priority cube ops = record { table = table; priority = priority; rank = 0; cube = cube; ops = ops; cookie = 0 }

-- table 0: a packet that comes in at a port of the chassis, and one that comes out of a tunnel: it goes on where its port or group is local
abbrev pub entry_row : Name → ℕ → ℕ → ℕ → Flow
entry_row name dp key zone = flow_of ENTRY_TABLE PHYSICAL_PRIORITY (on_entry name) (Set Dp dp ∷ Set InPort key ∷ Set ZIn zone ∷ Go ADMIT_TABLE ∷ [])

abbrev pub arrival_row : Flow
arrival_row = flow_of ENTRY_TABLE PHYSICAL_PRIORITY on_tunnel (Header ∷ Set Arrived 1 ∷ Go LOCAL_TABLE ∷ [])

-- table 32: a packet for a port that is at home elsewhere goes there as a frame
abbrev pub remote_row : ℕ → ℕ → Name → Flow
remote_row dp key home = flow_of REMOTE_TABLE PHYSICAL_PRIORITY (on_exit dp key) (Frame home ∷ [])

-- one for a group goes as a frame to each other chassis that has a member, and on here
abbrev pub spread_row : ℕ → Group → List Name → Flow
spread_row dp group homes = flow_of REMOTE_TABLE PHYSICAL_PRIORITY (on_group dp group false) (map (λ home. Frame home) homes ++ Go LOCAL_TABLE ∷ [])

-- all others go on here
abbrev pub stay_row : Flow
stay_row = flow_of REMOTE_TABLE BASE_PRIORITY everything (Go LOCAL_TABLE ∷ [])

-- table 33: a port that is at home here, and the members of a group that are
abbrev pub home_row : ℕ → ℕ → ℕ → Flow
home_row dp key zone = flow_of LOCAL_TABLE PHYSICAL_PRIORITY (on_exit dp key) (Set ZOut zone ∷ Go LOOPBACK_TABLE ∷ [])

-- a port of a gateway router that is here, or one that leads to it, has no zone
abbrev pub pass_row : ℕ → ℕ → Flow
pass_row dp key = flow_of LOCAL_TABLE PHYSICAL_PRIORITY (on_exit dp key) (Go LOOPBACK_TABLE ∷ [])

-- a distributed router is entered, and goes on, where the packet was sent
abbrev pub enter_row : ℕ → ℕ → Flow
enter_row dp key = flow_of LOCAL_TABLE PHYSICAL_PRIORITY (on_way dp key) (Go LOOPBACK_TABLE ∷ [])

abbrev pub copies_row : ℕ → Group → Bool → List Member → Flow
copies_row dp group arrived members = flow_of LOCAL_TABLE PHYSICAL_PRIORITY (on_group dp group arrived) (Copies members ∷ [])

-- table 34: a packet does not go back to where it came from; what goes on is asked anew
abbrev pub return_row : ℕ → ℕ → Flow
return_row dp key = flow_of LOOPBACK_TABLE PHYSICAL_PRIORITY (on_return dp key) (Drop Loopback ∷ [])

abbrev pub leave_row : Flow
leave_row = flow_of LOOPBACK_TABLE BASE_PRIORITY everything (Set Tracked 0 ∷ Set State 0 ∷ Set Blocked 0 ∷ Set Verdict 0 ∷ Go EGRESS_TRACK_TABLE ∷ [])

-- table 64: the packet goes out at a virtual port
abbrev pub output_row : ℕ → Name → ℕ → Flow
output_row dp name key = flow_of OUTPUT_TABLE PHYSICAL_PRIORITY (on_exit dp key) (Output name ∷ [])

-- or it passes into another datapath, where the port has a partner there
abbrev pub patch_row : ℕ → ℕ → Beyond → Flow
patch_row dp key to = flow_of OUTPUT_TABLE PHYSICAL_PRIORITY (on_exit dp key) (Patch to.dp to.in_port to.z_dnat to.z_snat ∷ [])

abbrev pub no_peer_row : ℕ → ℕ → Flow
no_peer_row dp key = flow_of OUTPUT_TABLE PHYSICAL_PRIORITY (on_exit dp key) (Drop NoPeer ∷ [])
