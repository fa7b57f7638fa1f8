-- The walk of a packet through flows without actions on connections, addresses or headers and without patches.
use Rattle.std.specs.Prelude.{◌≡◌, ℕ, cond, not, List, [], ◌∷◌, ◌++◌, map, filter}
use Rattle.std.proofs.Math.Dec.{eqb as nat_eq}
use Rattle.ovn_base.specs.declared.stages.TheConstants.{LOOPBACK_TABLE, LOCAL_TABLE}
use Rattle.ovn_base.specs.declared.name.Name.{Name}
use Rattle.inet_packet.specs.declared.packet.Packet.{Packet}
use Rattle.inet_packet.specs.declared.regs.Regs.{Regs}
use Rattle.flow_table.specs.declared.flow.Cause.TheVariants.{Unbound}
use Rattle.flow_table.specs.declared.flow.Flow.{Flow}
use Rattle.flow_table.specs.declared.flow.FlowOp.{FlowOp}
use Rattle.flow_table.specs.declared.flow.FlowOp.TheVariants.{Set, Go, Drop, Header, Frame, Copies, Output}
use Rattle.flow_table.specs.declared.flow.Member.{Member}
use Rattle.flow_table.specs.Matching.{IsBest, NoneMatches}
use Rattle.switch_engine.specs.declared.effect.Effect.{Effect}
use Rattle.switch_engine.specs.declared.effect.Effect.TheVariants as effect
use Rattle.switch_engine.specs.declared.effect.Entry.{Entry}
use Rattle.switch_engine.specs.declared.effect.Entry.TheVariants.{Vif, Tunnel}
use Rattle.switch_engine.specs.declared.walk.Step.{Step}
use Rattle.switch_engine.specs.Actions.{set_reg, with_header, drop_at}
use Rattle.switch_engine.specs.Walk.{start_regs}

-- a copy of a packet that comes to a table, from a table, with its registers
pub record Carried : Type 0 where
  pub from : ℕ
  pub table : ℕ
  pub regs : Regs
  pub packet : Packet

-- a frame carries the keys of the datapath and of the two ports
abbrev pub frame_to : Name → Carried → Effect
frame_to chassis copy = effect.Frame chassis copy.regs.dp copy.regs.in_port copy.regs.out_port copy.packet

-- the copy, going on at a table
abbrev pub gone_on : ℕ → Carried → Carried
gone_on table copy = record copy { from = copy.table; table = table }

-- the copy for a member goes to the member's port, and on at table 34
abbrev pub copy_for : Carried → Member → Carried
copy_for copy member = gone_on LOOPBACK_TABLE (record copy { regs = record copy.regs { out_port = member.key; z_out = member.zone } })

-- one copy for each member but the port of entry, in order
abbrev pub copies_for : Carried → List Member → List Carried
copies_for copy members = map (copy_for copy) (filter (λ member. not (nat_eq member.key copy.regs.in_port)) members)

-- what actions bring on: their effects, the copy itself where it goes on, and the copies that were made of it, in order
pub record FlowOutcome : Type 0 where
  pub effects : List Effect
  pub itself : List Carried
  pub made : List Carried

-- the copy itself is carried to its end before those that were made of it
abbrev pub going_on : FlowOutcome → List Carried
going_on outcome = outcome.itself ++ outcome.made

-- with one effect before the others
abbrev pub with_effect : Effect → FlowOutcome → FlowOutcome
with_effect e outcome = record outcome { effects = e ∷ outcome.effects }

-- with copies before the others that are made
abbrev pub with_made : List Carried → FlowOutcome → FlowOutcome
with_made copies outcome = record outcome { made = copies ++ outcome.made }

-- what the actions bring on for a copy at a time: they are done in order, up to one that drops it or goes on at a table. None reads the
-- time. Those on connections, addresses and headers stand in no plain flow, and none is done.
abbrev pub outcome : Entry → ℕ → List FlowOp → Carried → FlowOutcome
outcome entry now [] copy = record { effects = []; itself = []; made = [] }
outcome entry now (Set reg n ∷ ops) copy = outcome entry now ops (record copy { regs = set_reg reg n copy.regs })
outcome entry now (Go table ∷ ops) copy = record { effects = []; itself = gone_on table copy ∷ []; made = [] }
outcome entry now (Drop cause ∷ ops) copy = record { effects = drop_at copy.table cause copy.regs ∷ []; itself = []; made = [] }
outcome entry now (Header ∷ ops) copy = outcome entry now ops (record copy { regs = with_header entry copy.regs })
outcome entry now (Frame chassis ∷ ops) copy = with_effect (frame_to chassis copy) (outcome entry now ops copy)
outcome entry now (Copies members ∷ ops) copy = with_made (copies_for copy members) (outcome entry now ops copy)
outcome entry now (Output port ∷ ops) copy = with_effect (effect.Out port copy.packet) (outcome entry now ops copy)
outcome entry now (_ ∷ ops) copy = record { effects = []; itself = []; made = [] }

-- the packet as it comes to table 0
abbrev pub start : Entry → Packet → Carried
start entry packet = record { from = 0; table = 0; regs = start_regs entry; packet = packet }

-- a copy whose port isn't at home here is lost where it came straight from a tunnel entry, and else dropped
abbrev pub stray : Entry → Carried → Effect
stray (Vif port) copy = drop_at copy.table Unbound copy.regs
stray (Tunnel vni in_key out_key) copy = cond (nat_eq copy.from 0) effect.Lost (drop_at copy.table Unbound copy.regs)

-- what becomes of a copy that no flow of its table matches: in table 33 its port is at home nowhere, elsewhere it ends
abbrev pub unmatched : Entry → Carried → List Effect
unmatched entry copy = cond (nat_eq copy.table LOCAL_TABLE) (stray entry copy ∷ []) []

-- the copies that are left may match these flows in turn at the time, with these effects, each copy going to its end before the next begins
pub data IsWalk (flows : List Flow) (entry : Entry) (now : ℕ) : List Carried → List Step → List Effect → Type 0 where
  over : IsWalk flows entry now [] [] []
  ends : (copy : Carried) (others : List Carried) (steps : List Step) (more all : List Effect)
      → NoneMatches flows copy.table copy.regs copy.packet
      → IsWalk flows entry now others steps more
      → all ≡ unmatched entry copy ++ more
      → IsWalk flows entry now (copy ∷ others) steps all
  takes : (copy : Carried) (others : List Carried) (step : Step) (steps : List Step) (more all : List Effect)
      → step.table ≡ copy.table
      → IsBest flows copy.table copy.regs copy.packet step.flow
      → IsWalk flows entry now (going_on (outcome entry now step.flow.ops copy) ++ others) steps more
      → all ≡ (outcome entry now step.flow.ops copy).effects ++ more
      → IsWalk flows entry now (copy ∷ others) (step ∷ steps) all

-- the packet may match these flows from table 0 on at the time, until no copy is left, with these effects
abbrev pub IsWalkOf : List Flow → Entry → ℕ → Packet → List Step → List Effect → Type 0
IsWalkOf flows entry now packet steps effects = IsWalk flows entry now (start entry packet ∷ []) steps effects
