-- Rows of rules.
use Rattle.std.specs.Prelude.{ℕ, List, [], ◌∷◌, ◌++◌, codes}
use Rattle.flow_table.specs.declared.flow.Cause.TheVariants as cause
use Rattle.match_language.specs.declared.expr.Expr.{Expr}
use Rattle.match_language.specs.declared.expr.Expr.TheVariants as expr
use Rattle.match_language.specs.declared.expr.Rel.TheVariants as rel
use Rattle.match_language.specs.declared.expr.Value.TheVariants as value
use Rattle.match_language.specs.declared.field.Direction.TheVariants as way
use Rattle.match_language.specs.declared.field.Field.TheVariants as field
use Rattle.match_language.specs.declared.field.Predicate.TheVariants as predicate
use Rattle.nb_records.specs.declared.rule.RuleAction.TheVariants as action
use Rattle.model_rows.specs.Frames.{hex}
use Rattle.model_rows.specs.Play.{RowEvent, edited, bound, unbound, chassis_added, chassis_removed, passed, out, drop, to_one}
use Rattle.model_rows.specs.Records.{add_switch, add_lone_port, add_group, add_rule, add_group_rule, redo_rule}
use Rattle.model_rows.specs.Switch.{two_ports, entered, arrived, there, back, f, u, v}

-- ---- matches

-- eth.type == 0x88b5
abbrev pub is_88b5 : Expr
is_88b5 = expr.Compare field.EthType rel.Eq (value.Number 0x88b5 0xffff ∷ [])

-- inport == "p1" && udp
abbrev pub udp_from_p1 : Expr
udp_from_p1 = expr.All (expr.Compare field.Inport rel.Eq (value.Port (codes "p1") ∷ []) ∷ expr.Is predicate.Udp ∷ [])

-- inport == "p1" && tcp
abbrev pub tcp_from_p1 : Expr
tcp_from_p1 = expr.All (expr.Compare field.Inport rel.Eq (value.Port (codes "p1") ∷ []) ∷ expr.Is predicate.Tcp ∷ [])

-- outport == "p1" && udp
abbrev pub udp_to_p1 : Expr
udp_to_p1 = expr.All (expr.Compare field.Outport rel.Eq (value.Port (codes "p1") ∷ []) ∷ expr.Is predicate.Udp ∷ [])

-- ip4.src != {10.0.0.1, 10.0.0.2}
abbrev pub from_others : Expr
from_others = expr.Compare field.Ip4Src rel.Ne (value.Number 0x0a000001 0xffff_ffff ∷ value.Number 0x0a000002 0xffff_ffff ∷ [])

-- tcp.dst >= 1024
abbrev pub to_high_port : Expr
to_high_port = expr.Compare field.TcpDst rel.Ge (value.Number 1024 0xffff ∷ [])

-- inport == @pg
abbrev pub from_group : Expr
from_group = expr.Compare field.Inport rel.Eq (value.Group (codes "pg") ∷ [])

-- ---- equal-priority-rules

abbrev pub equal_rules : List RowEvent
equal_rules = two_ports
    ++ edited (add_rule (codes "r1") (codes "s0") way.FromLport is_88b5 action.Allow ∷ [])
    ∷ edited (add_rule (codes "r2") (codes "s0") way.FromLport is_88b5 action.Drop ∷ [])
    ∷ []

abbrev pub equal_priority_rules : List RowEvent
equal_priority_rules = equal_rules ++ entered (codes "p1") f (drop (codes "s0") (codes "p1") cause.Acl ∷ []) ∷ []

-- ---- blocked-connection

abbrev pub related_rules : List RowEvent
related_rules = two_ports
    ++ edited (add_rule (codes "a1") (codes "s0") way.FromLport udp_from_p1 action.AllowRelated ∷ [])
    ∷ edited (add_rule (codes "a2") (codes "s0") way.FromLport tcp_from_p1 action.AllowRelated ∷ [])
    ∷ []

-- the rule drops now
abbrev pub rule_turned : RowEvent
rule_turned = edited (redo_rule (codes "a1") action.Drop ∷ [])

abbrev pub blocked_connection : List RowEvent
blocked_connection = related_rules
    ++ entered (codes "p1") u (there (to_one (codes "p2")) u ∷ [])
    ∷ arrived 1 (out (codes "p2") (hex u) ∷ [])
    ∷ entered (codes "p2") v (back (to_one (codes "p1")) v ∷ [])
    ∷ arrived 2 (out (codes "p1") (hex v) ∷ [])
    ∷ rule_turned
    ∷ entered (codes "p1") u (drop (codes "s0") (codes "p1") cause.Acl ∷ [])
    ∷ entered (codes "p2") v (back (to_one (codes "p1")) v ∷ [])
    ∷ arrived 3 (drop (codes "s0") (codes "p1") cause.Blocked ∷ [])
    ∷ []

-- a connection that was blocked goes on when its rule allows it again; the lines are those of a second reading of the rules, made apart from these definitions
abbrev pub unblocked_connection : List RowEvent
unblocked_connection = related_rules
    ++ entered (codes "p1") u (there (to_one (codes "p2")) u ∷ [])
    ∷ arrived 1 (out (codes "p2") (hex u) ∷ [])
    ∷ rule_turned
    ∷ entered (codes "p1") u (drop (codes "s0") (codes "p1") cause.Acl ∷ [])
    ∷ edited (redo_rule (codes "a1") action.AllowRelated ∷ [])
    ∷ entered (codes "p1") u (there (to_one (codes "p2")) u ∷ [])
    ∷ arrived 2 (out (codes "p2") (hex u) ∷ [])
    ∷ entered (codes "p2") v (back (to_one (codes "p1")) v ∷ [])
    ∷ arrived 3 (out (codes "p1") (hex v) ∷ [])
    ∷ []

-- ---- rebound-port, idle-connection, used-connection

-- what p1 sends begins connections, and nothing else comes to it
abbrev pub answers_alone : List RowEvent
answers_alone = two_ports
    ++ edited (add_rule (codes "a1") (codes "s0") way.FromLport udp_from_p1 action.AllowRelated ∷ [])
    ∷ edited (add_rule (codes "a3") (codes "s0") way.ToLport udp_to_p1 action.Drop ∷ [])
    ∷ []

-- p1 begins a connection; to be bound anew empties its list
abbrev pub rebound_port : List RowEvent
rebound_port = answers_alone
    ++ entered (codes "p1") u (there (to_one (codes "p2")) u ∷ [])
    ∷ arrived 1 (out (codes "p2") (hex u) ∷ [])
    ∷ entered (codes "p2") v (back (to_one (codes "p1")) v ∷ [])
    ∷ arrived 2 (out (codes "p1") (hex v) ∷ [])
    ∷ bound (codes "p1") (codes "hv1")
    ∷ entered (codes "p2") v (back (to_one (codes "p1")) v ∷ [])
    ∷ arrived 3 (drop (codes "s0") (codes "p1") cause.Acl ∷ [])
    ∷ []

-- so does to be bound nowhere for a while; the lines of this row and the next are those of a second reading of the rules, made apart from these definitions
abbrev pub unbound_port : List RowEvent
unbound_port = answers_alone
    ++ entered (codes "p1") u (there (to_one (codes "p2")) u ∷ [])
    ∷ arrived 1 (out (codes "p2") (hex u) ∷ [])
    ∷ unbound (codes "p1")
    ∷ bound (codes "p1") (codes "hv1")
    ∷ entered (codes "p2") v (back (to_one (codes "p1")) v ∷ [])
    ∷ arrived 2 (drop (codes "s0") (codes "p1") cause.Acl ∷ [])
    ∷ []

-- and to have its chassis go and come again
abbrev pub removed_chassis : List RowEvent
removed_chassis = answers_alone
    ++ entered (codes "p1") u (there (to_one (codes "p2")) u ∷ [])
    ∷ arrived 1 (out (codes "p2") (hex u) ∷ [])
    ∷ chassis_removed (codes "hv1")
    ∷ chassis_added (codes "hv1")
    ∷ bound (codes "p1") (codes "hv1")
    ∷ entered (codes "p2") v (back (to_one (codes "p1")) v ∷ [])
    ∷ arrived 2 (drop (codes "s0") (codes "p1") cause.Acl ∷ [])
    ∷ []

-- an answer after 59 seconds keeps the connection, and 60 seconds later it has ended
abbrev pub idle_connection : List RowEvent
idle_connection = answers_alone
    ++ entered (codes "p1") u (there (to_one (codes "p2")) u ∷ [])
    ∷ arrived 1 (out (codes "p2") (hex u) ∷ [])
    ∷ passed 59
    ∷ entered (codes "p2") v (back (to_one (codes "p1")) v ∷ [])
    ∷ arrived 2 (out (codes "p1") (hex v) ∷ [])
    ∷ passed 60
    ∷ entered (codes "p2") v (back (to_one (codes "p1")) v ∷ [])
    ∷ arrived 3 (drop (codes "s0") (codes "p1") cause.Acl ∷ [])
    ∷ []

-- both an answer and a packet of the connection keep it for 60 seconds more; the lines are those of a second reading of the rules, made apart from these definitions
abbrev pub used_connection : List RowEvent
used_connection = answers_alone
    ++ entered (codes "p1") u (there (to_one (codes "p2")) u ∷ [])
    ∷ arrived 1 (out (codes "p2") (hex u) ∷ [])
    ∷ passed 59
    ∷ entered (codes "p2") v (back (to_one (codes "p1")) v ∷ [])
    ∷ arrived 2 (out (codes "p1") (hex v) ∷ [])
    ∷ passed 59
    ∷ entered (codes "p2") v (back (to_one (codes "p1")) v ∷ [])
    ∷ arrived 3 (out (codes "p1") (hex v) ∷ [])
    ∷ passed 59
    ∷ entered (codes "p1") u (there (to_one (codes "p2")) u ∷ [])
    ∷ arrived 4 (out (codes "p2") (hex u) ∷ [])
    ∷ passed 59
    ∷ entered (codes "p2") v (back (to_one (codes "p1")) v ∷ [])
    ∷ arrived 5 (out (codes "p1") (hex v) ∷ [])
    ∷ []

-- ---- widths

abbrev pub wide_rules : List RowEvent
wide_rules = two_ports
    ++ edited (add_rule (codes "w1") (codes "s0") way.FromLport from_others action.Drop ∷ [])
    ∷ edited (add_rule (codes "w2") (codes "s0") way.FromLport to_high_port action.Drop ∷ [])
    ∷ []

-- TCP from p1 to port 1024 and to port 1023 of p2
abbrev pub to_1024 : List ℕ
to_1024 = codes "0a00000000020a000000000108004500002800010000400666cd0a0000010a0000021388040000000000000000005002ffff00000000"

abbrev pub to_1023 : List ℕ
to_1023 = codes "0a00000000020a000000000108004500002800010000400666cd0a0000010a000002138803ff00000000000000005002ffff00000000"

abbrev pub widths : List RowEvent
widths = wide_rules
    ++ entered (codes "p1") u (there (to_one (codes "p2")) u ∷ [])
    ∷ arrived 1 (out (codes "p2") (hex u) ∷ [])
    ∷ entered (codes "p1") to_1024 (drop (codes "s0") (codes "p1") cause.Acl ∷ [])
    ∷ entered (codes "p1") to_1023 (there (to_one (codes "p2")) to_1023 ∷ [])
    ∷ arrived 2 (out (codes "p2") (hex to_1023) ∷ [])
    ∷ []

-- ---- group-on-two-switches

abbrev pub group_rules : List RowEvent
group_rules = two_ports
    ++ edited (add_switch (codes "s1") ∷ [])
    ∷ edited (add_lone_port (codes "q1") (codes "s1") 0x0a0000000003 ∷ [])
    ∷ edited (add_group (codes "pg") (codes "p2" ∷ codes "q1" ∷ []) ∷ [])
    ∷ edited (add_group_rule (codes "g") (codes "pg") way.FromLport from_group action.Drop ∷ [])
    ∷ []

-- from p2 to p1, of an Ethernet type that nobody reads
abbrev pub from_p2 : List ℕ
from_p2 = codes "0a00000000010a000000000288b5"

abbrev pub group_on_two_switches : List RowEvent
group_on_two_switches = group_rules
    ++ entered (codes "p1") f (there (to_one (codes "p2")) f ∷ [])
    ∷ arrived 1 (out (codes "p2") (hex f) ∷ [])
    ∷ entered (codes "p2") from_p2 (drop (codes "s0") (codes "p2") cause.Acl ∷ [])
    ∷ []

abbrev pub rule_frames : List (List ℕ)
rule_frames = to_1024 ∷ to_1023 ∷ from_p2 ∷ []
