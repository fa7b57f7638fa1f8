-- Flows whose walks need no connection list.
use Rattle.std.specs.Prelude.{◌≡◌, ℕ, List}
use Rattle.std.specs.List.{AllByRecursion}
use Rattle.ovn_base.specs.lists.Among.{Among}
use Rattle.inet_packet.specs.declared.packet.Packet.{Packet}
use Rattle.flow_table.specs.declared.flow.Flow.{Flow}
use Rattle.flow_table.specs.declared.flow.FlowOp.{FlowOp}
use Rattle.flow_table.specs.declared.flow.FlowOp.TheVariants.{Set, Go, Drop, Header, Frame, Copies, Output}
use Rattle.switch_engine.specs.declared.effect.Effect.{Effect}
use Rattle.switch_engine.specs.declared.effect.Entry.{Entry}
use Rattle.switch_engine.specs.declared.walk.Step.{Step}
use Rattle.switch_engine.specs.PlainWalk as plain
use Rattle.switch_engine.specs.Walk.{IsWalkOf}
use Rattle.switch_engine.specs.Zones.{ZoneLists}

-- no action on connections, addresses or headers, and no patch
abbrev pub IsPlain : FlowOp → Type 0
IsPlain (Set reg n) = Unit {0}
IsPlain (Go table) = Unit {0}
IsPlain (Drop cause) = Unit {0}
IsPlain Header = Unit {0}
IsPlain (Frame chassis) = Unit {0}
IsPlain (Copies members) = Unit {0}
IsPlain (Output port) = Unit {0}
IsPlain _ = ⊥

-- no flow has one
abbrev pub ArePlain : List Flow → Type 0
ArePlain flows = (flow : Flow) → Among flow flows → AllByRecursion IsPlain flow.ops

-- a walk through such flows leaves the zones, and is a plain one
abbrev pub PlainWalks : Type 0
PlainWalks =
    (flows : List Flow) (entry : Entry) (now : ℕ) (packet : Packet) (before after : ZoneLists) (steps : List Step) (effects : List Effect)
    → ArePlain flows
    → IsWalkOf flows entry now packet before steps effects after
    → (after ≡ before) × plain.IsWalkOf flows entry now packet steps effects
