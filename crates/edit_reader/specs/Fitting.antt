-- What a line may ask for: its numbers, texts, lists and matches are in their ranges and grammars.
use Rattle.std.specs.Prelude.{◌≤◌, ◌<◌, ◌^◌, ℕ, List, length}
use Rattle.std.specs.List.{AllByRecursion}
use Rattle.ovn_base.specs.declared.limits.TheConstants.{MAX_OPERATIONS, MAX_DATAPATH_KEY, MAX_PORT_KEY, MAX_CLOCK}
use Rattle.ovn_base.specs.names.NameText.{IsName}
use Rattle.nb_records.specs.Grammar.{IsOpInGrammar, IsBackend}
use Rattle.nb_records.specs.declared.change.Op.{Op}
use Rattle.nb_records.specs.declared.change.Op.TheVariants as op
use Rattle.edit_reader.specs.declared.event.Event.{Event}
use Rattle.edit_reader.specs.declared.event.Event.TheVariants as event

-- an edit adds, sets and removes records; a backend's health is an event of its own
abbrev pub IsEdit : Op → Type 0
IsEdit (op.Add r) = Unit {0}
IsEdit (op.Set k name c) = Unit {0}
IsEdit (op.Remove k name) = Unit {0}
IsEdit (op.Health balancer backend online) = ⊥

-- 1 to 64 operations
pub record AreOps (ops : List Op) : Type 0 where
  pub some : 1 ≤ length ops
  pub few : length ops ≤ MAX_OPERATIONS
  pub each : AllByRecursion IsOpInGrammar ops
  pub edits : AllByRecursion IsEdit ops

-- how many datapath keys and port keys there are
pub record AreKeys (datapaths ports : ℕ) : Type 0 where
  pub some_datapaths : 1 ≤ datapaths
  pub few_datapaths : datapaths ≤ MAX_DATAPATH_KEY
  pub some_ports : 1 ≤ ports
  pub few_ports : ports ≤ MAX_PORT_KEY

-- the bytes of a frame
abbrev pub AreBytes : List ℕ → Type 0
AreBytes frame = AllByRecursion (λ b. b < 256) frame

-- numbers of frames have 64 bits
abbrev pub IsFrameNumber : ℕ → Type 0
IsFrameNumber n = n < 2 ^ 64

-- its numbers, texts, lists and matches are in their ranges and grammars, and each record has the fields that its kind requires
abbrev pub IsEventInGrammar : Event → Type 0
IsEventInGrammar (event.Edit ops) = AreOps ops
IsEventInGrammar (event.Bind port chassis) = IsName port × IsName chassis
IsEventInGrammar (event.Unbind port) = IsName port
IsEventInGrammar (event.AddChassis name) = IsName name
IsEventInGrammar (event.RemoveChassis name) = IsName name
IsEventInGrammar (event.Keys datapaths ports) = AreKeys datapaths ports
IsEventInGrammar (event.Health balancer backend online) = IsName balancer × IsBackend backend
IsEventInGrammar (event.Clock seconds) = seconds ≤ MAX_CLOCK
IsEventInGrammar (event.Inject port frame) = IsName port × AreBytes frame
IsEventInGrammar (event.Deliver frame) = IsFrameNumber frame
IsEventInGrammar (event.Lose frame) = IsFrameNumber frame
IsEventInGrammar (event.Repeat frame) = IsFrameNumber frame
IsEventInGrammar event.Drain = Unit {0}
IsEventInGrammar (event.Packet port frame) = IsName port × AreBytes frame
IsEventInGrammar (event.Unread fault) = Unit {0}
