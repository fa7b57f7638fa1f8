-- What kinds of actions there are: what each leaves as it is.
use Rattle.std.specs.Prelude.{◌≡◌, ℕ, nat_lt, Bool, true, false, cond, List, [], ◌∷◌, Option, Some, None, Result, Ok, Err, refl}
use Rattle.std.specs.List.{filter}
use Rattle.ovn_base.specs.declared.address.Backend.{Backend}
use Rattle.ovn_base.specs.declared.address.Ip4.{Ip4}
use Rattle.ovn_base.specs.declared.limits.TheConstants.{MAX_HOPS}
use Rattle.ovn_base.specs.declared.name.Name.{Name}
use Rattle.inet_packet.specs.declared.packet.Packet.{Packet}
use Rattle.conn_table.specs.Connections.{ConnectionList, is_free, committed}
use Rattle.conn_table.specs.declared.connection.CommitFault.{CommitFault}
use Rattle.conn_table.specs.declared.tuple.Tuple.{Tuple}
use Rattle.conn_table.specs.Picks.{Chosen, choose_backend, is_backend_of, is_free_backend, has_free_port, from_address}
use Rattle.conn_table.specs.Tuples.{reversed}
use Rattle.flow_table.specs.declared.flow.Cause.{Cause}
use Rattle.flow_table.specs.declared.flow.Cause.TheVariants.{HopLimit}
use Rattle.flow_table.specs.declared.flow.FlowOp.{FlowOp}
use Rattle.flow_table.specs.declared.flow.FlowOp.TheVariants as op
use Rattle.flow_table.specs.declared.flow.Member.{Member}
use Rattle.switch_engine.specs.declared.actions.Turn.{Turn}
use Rattle.switch_engine.specs.declared.actions.Turn.TheVariants as turn
use Rattle.switch_engine.specs.declared.carried.Carried.{Carried}
use Rattle.switch_engine.specs.declared.effect.Entry.{Entry}
use Rattle.switch_engine.specs.Actions.{frame_to, gone_on, copies_for, patched, patched_regs}
use Rattle.switch_engine.specs.Acts.{Doing, Act, turns, goes_next, tells, drops}
use Rattle.switch_engine.specs.Commits.{Newcomer, newcomer, begins, begins_as, added, adds, commits, translates_to, is_balanced, sends_to, balances_over, balances, comes_from, picks_port, keeps_port, hides_behind}
use Rattle.switch_engine.specs.Outcome.{act}
use Rattle.switch_engine.specs.Tracking.{looked_up_in}
use Rattle.switch_engine.specs.Zones.{ZoneLists, zone_at, zone_number}

-- the copy is still at its table and has passed as often
pub record Stays (copy next : Carried) : Type 0 where
  pub table : next.table ≡ copy.table
  pub passes : next.passes ≡ copy.passes

abbrev pub IsHere : Turn → Type 0
IsHere turn.Next = Unit {0}
IsHere turn.Leaves = ⊥
IsHere turn.Ends = Unit {0}

-- no copy is made or goes on, and table and passes stay
pub record IsGentle (d : Doing) (a : Act) : Type 0 where
  pub here : IsHere a.turn
  pub table : a.after.copy.table ≡ d.copy.table
  pub passes : a.after.copy.passes ≡ d.copy.passes
  pub made : a.made ≡ []

-- what an action does, by its kind
pub data IsActed (entry : Entry) (now : ℕ) (d : Doing) : FlowOp → Act → Type 0 where
  quiet : (o : FlowOp) (copy : Carried) (zones : ZoneLists) → Stays d.copy copy → IsActed entry now d o (goes_next (record d { copy = copy; zones = zones }))
  gentle : (o : FlowOp) (a : Act) → IsGentle d a → IsActed entry now d o a
  goes : (table : ℕ) → IsActed entry now d (op.Go table) (turns turn.Leaves (record d { copy = gone_on table d.copy }))
  sends : (chassis : Name) → IsActed entry now d (op.Frame chassis) (tells (frame_to chassis d.copy) (goes_next d))
  spreads : (members : List Member) → IsActed entry now d (op.Copies members) (record (goes_next d) { made = copies_for d.copy members })
  crosses : (dp in_port z_dnat z_snat : ℕ) → nat_lt d.copy.passes MAX_HOPS ≡ true
      → IsActed entry now d (op.Patch dp in_port z_dnat z_snat) (turns turn.Leaves (record d { copy = patched (patched_regs dp in_port z_dnat z_snat d.copy.regs) d.copy }))

-- ---- gentle actions

ends_gently : (cause : Cause) (d : Doing) → IsGentle d (drops cause d)
ends_gently cause d = record { here = tt; table = refl; passes = refl; made = refl }

goes_gently : (d : Doing) → IsGentle d (goes_next d)
goes_gently d = record { here = tt; table = refl; passes = refl; made = refl }

added_gently : (z : ℕ) (p : Packet) (d : Doing) (r : Result ConnectionList CommitFault) → IsGentle d (added z p d r)
added_gently z p d (Ok list) = record { here = tt; table = refl; passes = refl; made = refl }
added_gently z p d (Err why) = record { here = tt; table = refl; passes = refl; made = refl }

adds_gently : (now : ℕ) (n : Newcomer) (back : Tuple) (p : Packet) (d : Doing) → IsGentle d (adds now n back p d)
adds_gently now n back p d = added_gently n.zone p d (committed n.list n.tuple back now)

sends_gently : (now : ℕ) (vip : Backend) (legal : List Backend) (n : Newcomer) (c : Chosen Backend) (d : Doing) → IsGentle d (sends_to now vip legal n c d)
sends_gently now vip legal n c d = let g = adds_gently now n _ _ (record d { choices = c.left }) in record { here = g.here; table = g.table; passes = g.passes; made = g.made }

balances_gently : (now : ℕ) (vip : Backend) (bs : List Backend) (n : Newcomer) (d : Doing) → IsGentle d (balances now vip bs n d)
balances_gently now vip bs n d = by_protocol (is_balanced n.tuple.protocol)
  where
    by_legal : (legal : List Backend) → IsGentle d (balances_over now vip legal n d)
    by_legal [] = ends_gently _ d
    by_legal (b ∷ legal) = sends_gently now vip (b ∷ legal) n (choose_backend (is_backend_of (b ∷ legal)) vip d.choices) d

    by_protocol : (b : Bool) → IsGentle d (cond b (balances_over now vip (filter (is_free_backend n.list n.tuple) bs) n d) (goes_next d))
    by_protocol true = by_legal (filter (is_free_backend n.list n.tuple) bs)
    by_protocol false = goes_gently d

comes_gently : (now : ℕ) (back : Tuple) (n : Newcomer) (c : Chosen ℕ) (d : Doing) → IsGentle d (comes_from now back n c d)
comes_gently now back n c d = let g = adds_gently now n _ _ (record d { choices = c.left }) in record { here = g.here; table = g.table; passes = g.passes; made = g.made }

hides_gently : (now : ℕ) (ip : Ip4) (n : Newcomer) (d : Doing) → IsGentle d (hides_behind now ip n d)
hides_gently now ip n d = by_kept (is_free n.list (reversed (from_address ip n.tuple)))
  where
    by_port : (b : Bool) → IsGentle d (picks_port now b (reversed (from_address ip n.tuple)) n d)
    by_port true = comes_gently now _ n _ d
    by_port false = ends_gently _ d

    by_kept : (b : Bool) → IsGentle d (keeps_port now b (reversed (from_address ip n.tuple)) n d)
    by_kept true = adds_gently now n _ _ d
    by_kept false = by_port (has_free_port n.list (reversed (from_address ip n.tuple)))

begins_gently : (z : ℕ) (begin : Newcomer → Doing → Act) (d : Doing) → ((n : Newcomer) → IsGentle d (begin n d)) → IsGentle d (begins z begin d)
begins_gently z begin d each = by_option (newcomer z d.zones d.copy.packet)
  where
    by_option : (o : Option Newcomer) → IsGentle d (begins_as o begin d)
    by_option None = goes_gently d
    by_option (Some n) = each n

-- ---- quiet actions

still : {copy next : Carried} → next.table ≡ copy.table → next.passes ≡ copy.passes → Stays copy next
still table passes = record { table = table; passes = passes }

found_stays : (z : ℕ) (copy : Carried) (list : Option ConnectionList) → Stays copy (looked_up_in z list copy)
found_stays z copy None = still refl refl
found_stays z copy (Some list) = still refl refl

-- ---- all actions

pub acted : (entry : Entry) (now : ℕ) (o : FlowOp) (d : Doing) → IsActed entry now d o (act entry now o d)
acted entry now (op.Set reg n) d = quiet (op.Set reg n) _ d.zones (still refl refl)
acted entry now op.OutIsIn d = quiet op.OutIsIn _ d.zones (still refl refl)
acted entry now op.Header d = quiet op.Header _ d.zones (still refl refl)
acted entry now op.NextDst d = quiet op.NextDst _ d.zones (still refl refl)
acted entry now (op.EthSrc mac) d = quiet (op.EthSrc mac) _ d.zones (still refl refl)
acted entry now (op.EthDst mac) d = quiet (op.EthDst mac) _ d.zones (still refl refl)
acted entry now (op.ArpReply mac ip) d = quiet (op.ArpReply mac ip) _ d.zones (still refl refl)
acted entry now op.EchoReply d = quiet op.EchoReply _ d.zones (still refl refl)
acted entry now op.DecTtl d = quiet op.DecTtl _ d.zones (still refl refl)
acted entry now (op.Find z) d = quiet (op.Find z) _ d.zones (found_stays (zone_number z d.copy.regs) d.copy (zone_at d.zones (zone_number z d.copy.regs)))
acted entry now op.Undo d = quiet op.Undo _ _ (still refl refl)
acted entry now op.Translate d = quiet op.Translate _ d.zones (still refl refl)
acted entry now op.Touch d = quiet op.Touch d.copy _ (still refl refl)
acted entry now op.Block d = quiet op.Block d.copy _ (still refl refl)
acted entry now op.Unblock d = quiet op.Unblock d.copy _ (still refl refl)
acted entry now (op.Commit z) d = gentle (op.Commit z) _ (begins_gently _ (commits now) d (λ n. adds_gently now n _ _ d))
acted entry now (op.Dnat z ip) d = gentle (op.Dnat z ip) _ (begins_gently _ (translates_to now ip) d (λ n. adds_gently now n _ _ d))
acted entry now (op.Snat z ip) d = gentle (op.Snat z ip) _ (begins_gently _ (hides_behind now ip) d (λ n. hides_gently now ip n d))
acted entry now (op.Balance z vip bs) d = gentle (op.Balance z vip bs) _ (begins_gently _ (balances now vip bs) d (λ n. balances_gently now vip bs n d))
acted entry now (op.Go table) d = goes table
acted entry now (op.Drop cause) d = gentle (op.Drop cause) _ (ends_gently cause d)
acted entry now (op.Frame chassis) d = sends chassis
acted entry now (op.Copies members) d = spreads members
acted entry now (op.Output port) d = gentle (op.Output port) _ (record { here = tt; table = refl; passes = refl; made = refl })
acted entry now (op.Patch dp in_port z_dnat z_snat) d = by_passes (nat_lt d.copy.passes MAX_HOPS) refl
  where
    by_passes : (b : Bool) → nat_lt d.copy.passes MAX_HOPS ≡ b → IsActed entry now d (op.Patch dp in_port z_dnat z_snat) (cond b (turns turn.Leaves (record d { copy = patched (patched_regs dp in_port z_dnat z_snat d.copy.regs) d.copy })) (drops HopLimit d))
    by_passes true is = crosses dp in_port z_dnat z_snat is
    by_passes false is = gentle (op.Patch dp in_port z_dnat z_snat) _ (ends_gently _ d)
