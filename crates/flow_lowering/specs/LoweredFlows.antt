-- The flows to which a logical flow is lowered on a datapath.
use Rattle.std.specs.Prelude.{ℕ, List, ◌∷◌, map, filter_map, option_map, unwrap_or, IsSome}
use Rattle.ovn_base.specs.declared.name.Name.{Name}
use Rattle.ovn_base.specs.names.ByName.{at}
use Rattle.inet_packet.specs.declared.cube.Cube.{Cube}
use Rattle.inet_packet.specs.declared.regs.Reg.TheVariants as reg
use Rattle.flow_table.specs.declared.flow.Flow.{Flow}
use Rattle.flow_table.specs.declared.flow.FlowOp.{FlowOp}
use Rattle.flow_table.specs.declared.flow.FlowOp.TheVariants as op
use Rattle.logical_flows.specs.Stages.{stage_table}
use Rattle.logical_flows.specs.declared.action.Action.{Action}
use Rattle.logical_flows.specs.declared.action.Action.TheVariants as a
use Rattle.logical_flows.specs.declared.flow.LFlow.{LFlow}
use Rattle.logical_flows.specs.declared.flow.RegIs.{RegIs}
use Rattle.match_cubes.specs.Cubes.{cubes_of}
use Rattle.match_cubes.specs.Points.{Setting, setting}
use Rattle.match_cubes.specs.declared.sets.Sets.{Sets}
use Rattle.tunnel_keys.specs.Keys.{Keys, ports_on}
use Rattle.flow_lowering.specs.Registers.{dp_is, met_with_all}

-- ---- names as numbers

-- the live key of the datapath, and that of the port; 0, where there is none
abbrev pub live_datapath_key : Keys → Name → ℕ
live_datapath_key keys d = unwrap_or (option_map (λ k. k.key) (at keys.datapaths d)) 0

abbrev pub live_port_key : Keys → Name → ℕ
live_port_key keys p = unwrap_or (option_map (λ k. k.key) (at keys.ports p)) 0

-- the sets, and the live ports of the datapath
abbrev pub setting_on : Keys → Sets → Name → Setting
setting_on keys sets d = setting sets (record { list = ports_on keys.ports d })

-- the packet is on the datapath
abbrev pub datapath_is : Keys → Name → RegIs
datapath_is keys d = dp_is (live_datapath_key keys d)

-- ---- actions

-- the action, with a port's key in place of its name
unfoldable pub lowered_op : Keys → Action → FlowOp
lowered_op keys (a.Set r n) = op.Set r n
lowered_op keys (a.SetOut p) = op.Set reg.OutPort (live_port_key keys p)
lowered_op keys a.OutIsIn = op.OutIsIn
lowered_op keys (a.Find z) = op.Find z
lowered_op keys a.Undo = op.Undo
lowered_op keys a.Translate = op.Translate
lowered_op keys a.Touch = op.Touch
lowered_op keys a.Block = op.Block
lowered_op keys a.Unblock = op.Unblock
lowered_op keys (a.Commit z) = op.Commit z
lowered_op keys (a.Dnat z ip) = op.Dnat z ip
lowered_op keys (a.Snat z ip) = op.Snat z ip
lowered_op keys (a.Balance z vip backends) = op.Balance z vip backends
lowered_op keys (a.ArpReply mac ip) = op.ArpReply mac ip
lowered_op keys a.EchoReply = op.EchoReply
lowered_op keys a.DecTtl = op.DecTtl
lowered_op keys a.NextDst = op.NextDst
lowered_op keys (a.EthSrc mac) = op.EthSrc mac
lowered_op keys (a.EthDst mac) = op.EthDst mac
lowered_op keys (a.Go table) = op.Go table
lowered_op keys (a.Drop cause) = op.Drop cause

abbrev pub lowered_ops : Keys → List Action → List FlowOp
lowered_ops keys actions = map (lowered_op keys) actions

-- the port that the action names has a live key
abbrev pub NamesLivePort : Keys → Action → Type 0
NamesLivePort keys (a.SetOut p) = IsSome (at keys.ports p)
NamesLivePort keys other = Unit {0}

-- ---- flows

-- The cubes of the logical flow's match on the datapath: those of its matching, each met with its registers and with the
-- datapath's.
abbrev pub lowered_cubes : Keys → Sets → LFlow → Name → List Cube
lowered_cubes keys sets f d = filter_map (met_with_all (datapath_is keys d ∷ f.regs)) (cubes_of (setting_on keys sets d) f.matching)

-- the flow on the packets of the cube, with these operations
abbrev pub flow_on : LFlow → List FlowOp → Cube → Flow
flow_on f ops cube = record { table = stage_table f.stage; priority = f.priority; rank = f.rank; cube = cube; ops = ops; cookie = 0 }

-- one flow a cube
abbrev pub lowered_flows : Keys → Sets → LFlow → Name → List Flow
lowered_flows keys sets f d = map (flow_on f (lowered_ops keys f.actions)) (lowered_cubes keys sets f d)
