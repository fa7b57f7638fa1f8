-- The texts of logical flows.
use Rattle.std.specs.Prelude.{ℕ, ◌==◌, Bool, true, false, if◌then◌else◌, List, [], ◌∷◌, ◌++◌, map, filter, flat_map, codes}
use Rattle.std.specs.Fmt.{decimal}
use Rattle.ovn_base.specs.addresses.AddressText.{mac_text, ip4_text}
use Rattle.ovn_base.specs.declared.address.Backend.{Backend}
use Rattle.ovn_base.specs.declared.name.Name.{Name}
use Rattle.inet_packet.specs.declared.regs.Reg.{Reg}
use Rattle.inet_packet.specs.declared.regs.Reg.TheVariants as reg
use Rattle.flow_table.specs.Causes.{cause_name}
use Rattle.match_language.specs.declared.expr.Expr.{Expr, Expr-F, fold-Expr}
use Rattle.match_language.specs.Spelling.{spelling, joined_text}
use Rattle.logical_flows.specs.declared.action.Action.{Action}
use Rattle.logical_flows.specs.declared.action.Action.TheVariants as a
use Rattle.flow_table.specs.declared.flow.ZoneOf.{ZoneOf}
use Rattle.flow_table.specs.declared.flow.ZoneOf.TheVariants as zone
use Rattle.logical_flows.specs.declared.flow.LFlow.{LFlow}
use Rattle.logical_flows.specs.declared.flow.RegIs.{RegIs}
use Rattle.logical_flows.specs.Stages.{pipeline_name, stage_name}

-- ---- words

abbrev pub reg_name : Reg → List ℕ
reg_name reg.Dp = codes "dp"
reg_name reg.InPort = codes "in"
reg_name reg.OutPort = codes "out"
reg_name reg.Next = codes "next"
reg_name reg.ZIn = codes "z_in"
reg_name reg.ZOut = codes "z_out"
reg_name reg.ZDnat = codes "z_dnat"
reg_name reg.ZSnat = codes "z_snat"
reg_name reg.State = codes "state"
reg_name reg.Verdict = codes "verdict"
reg_name reg.Tier = codes "tier"
reg_name reg.Loopback = codes "loopback"
reg_name reg.Tracked = codes "tracked"
reg_name reg.Blocked = codes "blocked"
reg_name reg.Own = codes "own"
reg_name reg.Arrived = codes "arrived"

-- where the register stands in the order of the registers
abbrev pub reg_place : Reg → ℕ
reg_place reg.Dp = 0
reg_place reg.InPort = 1
reg_place reg.OutPort = 2
reg_place reg.Next = 3
reg_place reg.ZIn = 4
reg_place reg.ZOut = 5
reg_place reg.ZDnat = 6
reg_place reg.ZSnat = 7
reg_place reg.State = 8
reg_place reg.Verdict = 9
reg_place reg.Tier = 10
reg_place reg.Loopback = 11
reg_place reg.Tracked = 12
reg_place reg.Blocked = 13
reg_place reg.Own = 14
reg_place reg.Arrived = 15

abbrev pub zone_name : ZoneOf → List ℕ
zone_name zone.In = codes "in"
zone_name zone.Out = codes "out"
zone_name zone.Dnat = codes "dnat"
zone_name zone.Snat = codes "snat"

-- ---- actions

-- IP:PORT
abbrev pub backend_text : Backend → List ℕ
backend_text b = ip4_text b.ip ++ (58 ∷ decimal b.port)

-- the backends, with commas between, in brackets
abbrev pub backends_text : List Backend → List ℕ
backends_text bs = 91 ∷ (joined_text (codes ",") (map backend_text bs) ++ (93 ∷ []))

abbrev pub action_text : Action → List ℕ
action_text (a.Set r n) = codes "set " ++ (reg_name r ++ (61 ∷ decimal n))
action_text (a.SetOut port) = codes "set out=" ++ port
action_text a.OutIsIn = codes "set out=in"
action_text (a.Find z) = codes "find " ++ zone_name z
action_text a.Undo = codes "undo"
action_text a.Translate = codes "translate"
action_text a.Touch = codes "touch"
action_text a.Block = codes "block"
action_text a.Unblock = codes "unblock"
action_text (a.Commit z) = codes "commit " ++ zone_name z
action_text (a.Dnat z ip) = codes "dnat " ++ (zone_name z ++ (32 ∷ ip4_text ip))
action_text (a.Snat z ip) = codes "snat " ++ (zone_name z ++ (32 ∷ ip4_text ip))
action_text (a.Balance z vip bs) = codes "balance " ++ (zone_name z ++ (32 ∷ (backend_text vip ++ (32 ∷ backends_text bs))))
action_text (a.ArpReply mac ip) = codes "arp_reply " ++ (mac_text mac ++ (32 ∷ ip4_text ip))
action_text a.EchoReply = codes "echo_reply"
action_text a.DecTtl = codes "dec_ttl"
action_text a.NextDst = codes "next_dst"
action_text (a.EthSrc mac) = codes "eth_src " ++ mac_text mac
action_text (a.EthDst mac) = codes "eth_dst " ++ mac_text mac
action_text (a.Go table) = codes "go " ++ decimal table
action_text (a.Drop c) = codes "drop " ++ cause_name c

-- the actions, with semicolons between
abbrev pub actions_text : List Action → List ℕ
actions_text xs = joined_text (codes ";") (map action_text xs)

-- ---- matches

-- REG == N
abbrev pub reg_text : RegIs → List ℕ
reg_text x = reg_name x.reg ++ (codes " == " ++ decimal x.value)

abbrev pub registers : List Reg
registers =
    reg.Dp ∷ reg.InPort ∷ reg.OutPort ∷ reg.Next ∷ reg.ZIn ∷ reg.ZOut ∷ reg.ZDnat ∷ reg.ZSnat ∷ reg.State ∷ reg.Verdict ∷ reg.Tier ∷ reg.Loopback ∷ reg.Tracked ∷ reg.Blocked
    ∷ reg.Own ∷ reg.Arrived ∷ []

-- what is asked of this register
abbrev pub is_of : Reg → RegIs → Bool
is_of r x = reg_place x.reg == reg_place r

-- what is asked of registers, in the order of the registers
abbrev pub in_order : List RegIs → List RegIs
in_order xs = flat_map (λ r. filter (is_of r) xs) registers

-- what an expression is at its top
pub record Top : Type 0 where
  pub is_one : Bool
  pub is_any : Bool

-- neither `1` nor joined by `||`
abbrev pub plain_top : Top
plain_top = record { is_one = false; is_any = false }

abbrev pub top_step : Expr-F Top → Top
top_step (Expr-F.Const b) = record { is_one = b; is_any = false }
top_step (Expr-F.Is p) = plain_top
top_step (Expr-F.Not x) = plain_top
top_step (Expr-F.All xs) = plain_top
top_step (Expr-F.Any xs) = record { is_one = false; is_any = true }
top_step (Expr-F.Compare f r vs) = plain_top

unfoldable pub top_of : Expr → Top
top_of = fold-Expr Top top_step

-- an expression that is joined by `||` stands in parentheses
abbrev pub expr_text : Expr → List ℕ
expr_text e = if (top_of e).is_any then 40 ∷ (spelling e ++ (41 ∷ [])) else spelling e

-- the registers and then the expression, joined by `&&`; behind a register an expression `1` is left out
abbrev pub asked_text : List RegIs → Expr → List ℕ
asked_text [] e = expr_text e
asked_text (x ∷ xs) e = joined_text (codes " && ") (map reg_text (x ∷ xs) ++ (if (top_of e).is_one then [] else expr_text e ∷ []))

abbrev pub match_text : List RegIs → Expr → List ℕ
match_text xs e = asked_text (in_order xs) e

-- ---- the line of a flow

-- where the flow stands
abbrev pub place_text : LFlow → List ℕ
place_text f = pipeline_name f.pipeline ++ (codes " " ++ (stage_name f.stage ++ (codes " priority=" ++ (decimal f.priority ++ (codes " rank=" ++ decimal f.rank)))))

-- what it matches, and what it does
abbrev pub row_text : LFlow → List ℕ
row_text f = codes " match=" ++ (match_text f.regs f.matching ++ (codes " actions=" ++ actions_text f.actions))

-- the flow on these datapaths
abbrev pub flow_line : LFlow → List Name → List ℕ
flow_line f datapaths = place_text f ++ (codes " datapaths=" ++ (joined_text (codes ",") datapaths ++ (row_text f ++ codes "\n")))
