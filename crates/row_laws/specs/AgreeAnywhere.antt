-- Rows that agree wherever a packet is: at a port of the switch or router or not, and whatever stands in its registers.
use Rattle.std.specs.Prelude.{◌≡◌, ◌⊎◌, List, Some, IsSome}
use Rattle.ovn_base.specs.declared.name.Name.{Name}
use Rattle.ovn_base.specs.names.ByName.{at}
use Rattle.inet_packet.specs.declared.packet.Packet.{Packet}
use Rattle.inet_packet.specs.declared.regs.Regs.{Regs}
use Rattle.flow_table.specs.Matching.{IsBest}
use Rattle.flow_table.specs.declared.flow.Flow.{Flow}
use Rattle.match_cubes.specs.Points.{members_of}
use Rattle.match_cubes.specs.Suited.{HasFieldsInRange}
use Rattle.match_cubes.specs.declared.sets.Sets.{Sets}
use Rattle.nb_records.specs.Network.{Network}
use Rattle.nb_records.specs.declared.router.RouterPort.{RouterPort}
use Rattle.nb_records.specs.declared.switch.SwitchPort.{SwitchPort}
use Rattle.nb_rules.specs.Valid.{IsValid}
use Rattle.logical_flows.specs.Stages.{stage_table}
use Rattle.logical_flows.specs.declared.flow.LFlow.{LFlow}
use Rattle.logical_flows.specs.declared.stage.Stage.{Stage}
use Rattle.tunnel_keys.specs.Keys.{Keys}
use Rattle.tunnel_keys.specs.declared.owner.PortKey.{PortKey}
use Rattle.net_model.specs.Sights.{Sight, roster_of}
use Rattle.row_laws.specs.BestRow.{HoldsRows}
use Rattle.row_laws.specs.Numbers.{AreSameMembers}
use Rattle.row_laws.specs.Rows.{IsBestRow}

-- Two unbeaten rows of the stage that hold of one packet on the switch have equal actions, whatever the registers, the port of entry and the target.
abbrev pub AgreeAnywhereLaw : Stage → Type 0
AgreeAnywhereLaw s =
    (net : Network) → IsValid net → (switch : Name) → IsSome (at net.switches switch) → (regs : Regs) (sight : Sight) → HasFieldsInRange sight.packet
    → (row other : LFlow) → IsBestRow net (roster_of net) (stage_table s) switch regs sight row → IsBestRow net (roster_of net) (stage_table s) switch regs sight other
    → row.actions ≡ other.actions

-- ---- in numbers

-- the key of a port is one of the datapath that the port's record names, be the port a switch's or a router's
abbrev pub IsOwnKey : Network → Name → PortKey → Type 0
IsOwnKey net q k = ((i : SwitchPort) × (at net.switch_ports q ≡ Some i) × (i.switch ≡ k.datapath)) ⊎ ((i : RouterPort) × (at net.router_ports q ≡ Some i) × (i.router ≡ k.datapath))

-- The stage's table holds the rows of a network, with the sets of the network; and each live key of a port is that of a port of the records,
-- on its datapath.
pub record HoldsStageRows (net : Network) (keys : Keys) (sets : Sets) (flows : List Flow) (s : Stage) : Type 0 where
  pub valid : IsValid net
  pub holds : HoldsRows net keys sets flows (stage_table s)
  pub members : AreSameMembers (roster_of net).members (members_of sets)
  pub owned : (q : Name) (k : PortKey) → at keys.ports q ≡ Some k → IsOwnKey net q k

-- Two flows of the table that may be taken have equal actions, whatever the packet and whatever the registers.
abbrev pub FlowsAgreeLaw : Stage → Type 0
FlowsAgreeLaw s =
    (net : Network) (keys : Keys) (sets : Sets) (flows : List Flow) → HoldsStageRows net keys sets flows s → (regs : Regs) (packet : Packet)
    → (f g : Flow) → IsBest flows (stage_table s) regs packet f → IsBest flows (stage_table s) regs packet g → f.ops ≡ g.ops
