-- A walk leaves the zones where they are: it changes only their lists. So do connections that end.
use Rattle.std.specs.Prelude.{◌≡◌, ◌≤◌, ℕ, nat_lt, nat_eq, Bool, true, false, cond, List, [], ◌∷◌, ◌++◌, Option, Some, None, is_some, Result, Ok, Err, refl}
use Rattle.std.specs.List.{filter}
use Rattle.std.proofs.Common.{sym, ap, ◌∙◌, arith}
use Rattle.std.proofs.lemmas.Bool.{false≢true}
use Rattle.ovn_base.specs.declared.address.Backend.{Backend}
use Rattle.ovn_base.specs.declared.address.Ip4.{Ip4}
use Rattle.ovn_base.specs.declared.limits.TheConstants.{MAX_HOPS}
use Rattle.inet_packet.specs.declared.packet.Packet.{Packet}
use Rattle.inet_packet.specs.declared.regs.Regs.{Regs}
use Rattle.conn_table.specs.Connections.{ConnectionList, expired, committed}
use Rattle.conn_table.specs.declared.connection.CommitFault.{CommitFault}
use Rattle.conn_table.specs.declared.connection.Entry.{Entry as Kept}
use Rattle.conn_table.specs.declared.tuple.Tuple.{Tuple}
use Rattle.conn_table.specs.Picks.{choose_backend, choose_port, is_backend_of, is_free_backend, has_free_port, may_pick, from_address}
use Rattle.conn_table.specs.Tuples.{reversed}
use Rattle.flow_table.specs.declared.flow.Cause.TheVariants.{HopLimit}
use Rattle.flow_table.specs.declared.flow.Flow.{Flow}
use Rattle.flow_table.specs.declared.flow.FlowOp.{FlowOp}
use Rattle.flow_table.specs.declared.flow.FlowOp.TheVariants as op
use Rattle.switch_engine.specs.declared.actions.Turn.{Turn}
use Rattle.switch_engine.specs.declared.actions.Turn.TheVariants as turn
use Rattle.switch_engine.specs.declared.carried.Carried.{Carried}
use Rattle.switch_engine.specs.declared.carried.Found.{Found}
use Rattle.switch_engine.specs.declared.effect.Effect.{Effect}
use Rattle.switch_engine.specs.declared.effect.Entry.{Entry}
use Rattle.switch_engine.specs.declared.walk.Step.{Step}
use Rattle.switch_engine.specs.Actions.{patched, patched_regs}
use Rattle.switch_engine.specs.Acts.{Doing, Act, turns, goes_next, drops}
use Rattle.switch_engine.specs.Commits.{Newcomer, newcomer, begins, begins_as, added, adds, balances_over, balances, picks_port, keeps_port, hides_behind}
use Rattle.switch_engine.specs.Outcome.{act, after_turn, outcome, going_on, choosing, Choosing}
use Rattle.switch_engine.specs.Tracking.{entry_changed, found_changed}
use Rattle.switch_engine.specs.Walk.{IsWalk}
use Rattle.switch_engine.specs.Walk.IsWalk.{over, ends, takes}
use Rattle.switch_engine.specs.Zones.{HeldZones, ZoneLists, zone_at, with_zone, over_list, over_zone, zone_number, all_expired}
use Rattle.chassis_sim.specs.Changing.{HasRoomFor}
use Rattle.chassis_sim.proofs.Lookups.{written_some}

-- the zones that are there are those that were
abbrev pub SameZones : ZoneLists → ZoneLists → Type 0
SameZones old new = (z : ℕ) → is_some (zone_at new z) ≡ is_some (zone_at old z)

-- ---- other lists of a zone

with_same : (zones : ZoneLists) (z : ℕ) (list : ConnectionList) → SameZones zones (with_zone zones z list)
with_same zones z list other = written_some (nat_eq z) (nat_eq other) zones list

over_same : (change : ConnectionList → ConnectionList) (z : ℕ) (zones : ZoneLists) → SameZones zones (over_zone change z zones)
over_same change z zones = by (zone_at zones z)
  where
    by : (list : Option ConnectionList) → SameZones zones (over_list change z zones list)
    by None other = refl
    by (Some list) other = with_same zones z (change list) other

found_same : (change : Kept → Kept) (found : Option Found) (zones : ZoneLists) → SameZones zones (found_changed change found zones)
found_same change None zones z = refl
found_same change (Some found) zones z = over_same (entry_changed change found.state) found.zone zones z

-- ---- connections that begin

added_same : (z : ℕ) (p : Packet) (d : Doing) (r : Result ConnectionList CommitFault) → SameZones d.zones (added z p d r).after.zones
added_same z p d (Ok list) other = with_same d.zones z list other
added_same z p d (Err why) other = refl

adds_same : (now : ℕ) (n : Newcomer) (back : Tuple) (p : Packet) (d : Doing) → SameZones d.zones (adds now n back p d).after.zones
adds_same now n back p d = added_same n.zone p d (committed n.list n.tuple back now)

balances_same : (now : ℕ) (vip : Backend) (bs : List Backend) (n : Newcomer) (d : Doing) → SameZones d.zones (balances now vip bs n d).after.zones
balances_same now vip bs n d z = by_protocol _
  where
    by_legal : (legal : List Backend) → is_some (zone_at (balances_over now vip legal n d).after.zones z) ≡ is_some (zone_at d.zones z)
    by_legal [] = refl
    by_legal (b ∷ legal) = adds_same now n _ _ (record d { choices = (choose_backend (is_backend_of (b ∷ legal)) vip d.choices).left }) z

    legal_ones : List Backend
    legal_ones = filter (is_free_backend n.list n.tuple) bs

    by_protocol : (b : Bool) → is_some (zone_at (cond b (balances_over now vip legal_ones n d) (goes_next d)).after.zones z) ≡ is_some (zone_at d.zones z)
    by_protocol true = by_legal legal_ones
    by_protocol false = refl

hides_same : (now : ℕ) (ip : Ip4) (n : Newcomer) (d : Doing) → SameZones d.zones (hides_behind now ip n d).after.zones
hides_same now ip n d z = by_kept _
  where
    back : Tuple
    back = reversed (from_address ip n.tuple)

    by_port : (b : Bool) → is_some (zone_at (picks_port now b back n d).after.zones z) ≡ is_some (zone_at d.zones z)
    by_port true = adds_same now n _ _ (record d { choices = (choose_port (may_pick n.list back) d.choices).left }) z
    by_port false = refl

    by_kept : (b : Bool) → is_some (zone_at (keeps_port now b back n d).after.zones z) ≡ is_some (zone_at d.zones z)
    by_kept true = adds_same now n _ _ d z
    by_kept false = by_port (has_free_port n.list back)

begins_same : (z : ℕ) (begin : Newcomer → Doing → Act) (d : Doing) → ((n : Newcomer) → SameZones d.zones (begin n d).after.zones) → SameZones d.zones (begins z begin d).after.zones
begins_same z begin d each = by (newcomer z d.zones d.copy.packet)
  where
    by : (o : Option Newcomer) → SameZones d.zones (begins_as o begin d).after.zones
    by None other = refl
    by (Some n) other = each n other

-- ---- actions

act_same : (entry : Entry) (now : ℕ) (o : FlowOp) (d : Doing) → SameZones d.zones (act entry now o d).after.zones
act_same entry now op.Undo d z = over_same _ d.copy.regs.z_snat d.zones z
act_same entry now op.Touch d z = found_same _ d.copy.found d.zones z
act_same entry now op.Block d z = found_same _ d.copy.found d.zones z
act_same entry now op.Unblock d z = found_same _ d.copy.found d.zones z
act_same entry now (op.Commit zone) d z = begins_same (zone_number zone d.copy.regs) _ d (λ n. adds_same now n _ _ d) z
act_same entry now (op.Dnat zone ip) d z = begins_same (zone_number zone d.copy.regs) _ d (λ n. adds_same now n _ _ d) z
act_same entry now (op.Snat zone ip) d z = begins_same (zone_number zone d.copy.regs) _ d (λ n. hides_same now ip n d) z
act_same entry now (op.Balance zone vip bs) d z = begins_same (zone_number zone d.copy.regs) _ d (λ n. balances_same now vip bs n d) z
act_same entry now (op.Patch dp in_port z_dnat z_snat) d z = by (nat_lt d.copy.passes MAX_HOPS)
  where
    regs : Regs
    regs = patched_regs dp in_port z_dnat z_snat d.copy.regs

    by : (b : Bool) → is_some (zone_at (cond b (turns turn.Leaves (record d { copy = patched regs d.copy })) (drops HopLimit d)).after.zones z) ≡ is_some (zone_at d.zones z)
    by true = refl
    by false = refl
act_same entry now _ d z = refl

outcome_same : (entry : Entry) (now : ℕ) (ops : List FlowOp) (d : Doing) → SameZones d.zones (outcome entry now ops d).zones
outcome_same entry now [] d z = refl
outcome_same entry now (o ∷ ops) d z = by (act entry now o d).turn (outcome_same entry now ops (act entry now o d).after z) ∙ act_same entry now o d z
  where
    after : Doing
    after = (act entry now o d).after

    by : (t : Turn) → is_some (zone_at (outcome entry now ops after).zones z) ≡ is_some (zone_at after.zones z)
        → is_some (zone_at (after_turn t after (outcome entry now ops)).zones z) ≡ is_some (zone_at after.zones z)
    by turn.Next ih = ih
    by turn.Leaves ih = refl
    by turn.Ends ih = refl

-- ---- walks

pub walk_same : (by : Choosing) (flows : List Flow) (entry : Entry) (now : ℕ) (zones last : ZoneLists) (copies : List Carried) (steps : List Step) (effects : List Effect)
    → IsWalk by flows entry now zones copies steps effects last → SameZones zones last
walk_same by flows entry now _ _ _ _ _ (over zones) z = refl
walk_same by flows entry now _ _ _ _ _ (ends zones last copy others steps more all none walk is) z = walk_same by flows entry now zones last others steps more walk z
walk_same by flows entry now _ _ _ _ _ (takes zones last copy others step steps told more all here best done walk is) z =
    let o = outcome entry now step.flow.ops (choosing copy zones told) in
    walk_same by flows entry now o.zones last (going_on o ++ others) steps more walk z ∙ outcome_same entry now step.flow.ops (choosing copy zones told) z

-- ---- connections that end

pub expired_same : (now : ℕ) (zones : ZoneLists) → SameZones zones (all_expired now zones)
expired_same now [] z = refl
expired_same now (e ∷ zones) z = by (nat_eq z e.0) (expired_same now zones z)
  where
    by : (b : Bool) → is_some (zone_at (all_expired now zones) z) ≡ is_some (zone_at zones z)
        → is_some (cond b (Some (expired now e.1)) (zone_at (all_expired now zones) z)) ≡ is_some (cond b (Some e.1) (zone_at zones z))
    by true ih = refl
    by false ih = ih

-- ---- room

-- what had room for a zone still has it
pub room_stays : (old new : HeldZones) → SameZones old.zones new.zones → old.room ≤ new.room → (room number : ℕ) → HasRoomFor room number (Some old) → HasRoomFor room number (Some new)
room_stays old new same more room number enough absent = omega (arith, more, enough (by (zone_at old.zones number) (sym (same number) ∙ ap is_some absent)))
  where
    by : (list : Option ConnectionList) → is_some list ≡ false → list ≡ None
    by None is = refl
    by (Some list) is = absurd (false≢true (sym is))
