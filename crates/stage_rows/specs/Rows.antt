-- The words of which rows are made: terms of matches, registers and actions.
use Rattle.std.specs.Prelude.{ℕ, ◌+◌, Bool, true, false, List, [], ◌∷◌, map, Option, Some, None, bit_and}
use Rattle.ovn_base.specs.declared.address.Cidr.{Cidr}
use Rattle.ovn_base.specs.declared.address.Ip4.{Ip4}
use Rattle.ovn_base.specs.declared.address.Mac.{Mac}
use Rattle.ovn_base.specs.declared.name.Name.{Name}
use Rattle.ovn_base.specs.declared.stages.TheConstants.{OUTPUT_TABLE, REMOTE_TABLE}
use Rattle.flow_table.specs.declared.flow.Cause.{Cause}
use Rattle.inet_packet.specs.declared.regs.Reg.{Reg}
use Rattle.inet_packet.specs.declared.regs.Reg.TheVariants as reg
use Rattle.match_language.specs.Constants.{prefix_mask}
use Rattle.match_language.specs.Tables.{field_max}
use Rattle.match_language.specs.declared.expr.Expr.{Expr}
use Rattle.match_language.specs.declared.expr.Expr.TheVariants as e
use Rattle.match_language.specs.declared.expr.Rel.TheVariants.{Eq}
use Rattle.match_language.specs.declared.expr.Value.{Value}
use Rattle.match_language.specs.declared.expr.Value.TheVariants as v
use Rattle.match_language.specs.declared.field.Field.{Field}
use Rattle.match_language.specs.declared.field.Field.TheVariants as f
use Rattle.match_language.specs.declared.field.Predicate.TheVariants as p
use Rattle.logical_flows.specs.Stages.{stage_pipeline, stage_table}
use Rattle.logical_flows.specs.declared.action.Action.{Action}
use Rattle.logical_flows.specs.declared.action.Action.TheVariants as a
use Rattle.logical_flows.specs.declared.flow.LFlow.{LFlow}
use Rattle.logical_flows.specs.declared.flow.RegIs.{RegIs}
use Rattle.logical_flows.specs.declared.stage.Stage.{Stage}
use Rattle.logical_flows.specs.declared.stage.Stage.TheVariants as stage

-- ---- lists

-- those of what is there
abbrev pub on_some : {X Y : Type 0} → Option X → (X → List Y) → List Y
on_some None g = []
on_some (Some x) g = g x

-- those, where the test holds
abbrev pub when : {Y : Type 0} → Bool → List Y → List Y
when true ys = ys
when false ys = []

-- ---- terms

-- a field that has one of the values
abbrev pub field_with : Field → List Value → Expr
field_with x vs = e.Compare x Eq vs

-- a field beside one number, of which all bits count, and beside several
abbrev pub whole_number : Field → ℕ → Value
whole_number x n = v.Number n (field_max x)

abbrev pub field_is : Field → ℕ → Expr
field_is x n = field_with x (whole_number x n ∷ [])

abbrev pub field_among : Field → List ℕ → Expr
field_among x ns = field_with x (map (whole_number x) ns)

abbrev pub mac_is : Field → Mac → Expr
mac_is x mac = field_is x mac.number

abbrev pub ip_is : Field → Ip4 → Expr
ip_is x ip = field_is x ip.0

-- the number of a prefix, with 0 for the bits behind it
abbrev pub prefix_value : Cidr → Value
prefix_value c = v.Number (bit_and c.addr.0 (prefix_mask c.len)) (prefix_mask c.len)

-- an address in a prefix, and in one of several
abbrev pub ip_in : Field → Cidr → Expr
ip_in x c = field_with x (prefix_value c ∷ [])

abbrev pub ip_in_some : Field → List Cidr → Expr
ip_in_some x cs = field_with x (map prefix_value cs)

-- the port of entry, and the port by which the packet leaves
abbrev pub in_is : Name → Expr
in_is q = field_with f.Inport (v.Port q ∷ [])

abbrev pub out_is : Name → Expr
out_is q = field_with f.Outport (v.Port q ∷ [])

-- an Ethernet destination that is no group's
abbrev pub unicast : Expr
unicast = e.Not (e.Is p.EthMcast)

-- a request for the address
abbrev pub asks_for : Ip4 → List Expr
asks_for ip = field_is f.ArpOp 1 ∷ ip_is f.ArpTpa ip ∷ []

-- ---- registers

abbrev pub reg_is : Reg → ℕ → RegIs
reg_is r n = record { reg = r; value = n }

-- what the list of connections says of the packet
abbrev pub is_new : RegIs
is_new = reg_is reg.State 1

abbrev pub is_forward : RegIs
is_forward = reg_is reg.State 2

abbrev pub is_reply : RegIs
is_reply = reg_is reg.State 3

abbrev pub is_invalid : RegIs
is_invalid = reg_is reg.State 4

-- ---- rows

-- terms that all have to hold
abbrev pub all_of : List Expr → Expr
all_of [] = e.Const true
all_of (x ∷ []) = x
all_of (x ∷ y ∷ xs) = e.All (x ∷ y ∷ xs)

-- the table behind the stage's; the last stages of egress are before the output
abbrev pub table_behind : Stage → ℕ
table_behind stage.SwitchSecurityOut = OUTPUT_TABLE
table_behind stage.RouterSnat = OUTPUT_TABLE
table_behind s = stage_table s + 1

-- goes on behind the stage
abbrev pub go_on : Stage → Action
go_on s = a.Go (table_behind s)

-- goes on where the port or group has been found to which the packet goes
abbrev pub deliver : Action
deliver = a.Go REMOTE_TABLE

-- a row of a priority and a rank
abbrev pub ranked_row : Stage → ℕ → ℕ → List RegIs → Expr → List Action → LFlow
ranked_row s priority rank regs matching actions =
    record { pipeline = stage_pipeline s; stage = s; priority = priority; rank = rank; regs = regs; matching = matching; actions = actions }

-- a row of rank 0 that asks for registers, and for all of the terms
abbrev pub tracked_row : Stage → ℕ → List RegIs → List Expr → List Action → LFlow
tracked_row s priority regs terms actions = ranked_row s priority 0 regs (all_of terms) actions

-- and one that asks for no register
abbrev pub match_row : Stage → ℕ → List Expr → List Action → LFlow
match_row s priority terms actions = tracked_row s priority [] terms actions

-- a row that drops
abbrev pub drop_row : Stage → ℕ → List Expr → Cause → LFlow
drop_row s priority terms cause = match_row s priority terms (a.Drop cause ∷ [])

-- a row that passes, and the one for all packets
abbrev pub pass_row : Stage → ℕ → List Expr → LFlow
pass_row s priority terms = match_row s priority terms (go_on s ∷ [])

abbrev pub base_row : Stage → LFlow
base_row s = pass_row s 0 []
