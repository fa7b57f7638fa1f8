-- What the actions of each stage of a switch come to, once lowered and done.
use Rattle.std.specs.Prelude.{◌≡◌, ℕ, true, false, cond, List, [], ◌∷◌, Option, Some, Result, Ok, Err}
use Rattle.std.specs.List.{filter}
use Rattle.std.proofs.Common.{sym, subst}
use Rattle.std.proofs.lemmas.Bool.{false≢true, and_parts}
use Rattle.conn_table.specs.Connections.{ConnectionList, committed, touched, blocked_as}
use Rattle.conn_table.specs.Picks.{Choice, to_backend, to_port, towards, is_free_backend, is_backend_of, is_first_choice, choose_backend}
use Rattle.conn_table.specs.Tuples.{reversed, with_tuple}
use Rattle.conn_table.specs.declared.connection.CommitFault.{CommitFault}
use Rattle.flow_lowering.specs.LoweredFlows.{lowered_op, live_port_key}
use Rattle.flow_table.specs.declared.flow.Cause.{Cause}
use Rattle.flow_table.specs.declared.flow.Cause.TheVariants as cause
use Rattle.flow_table.specs.declared.flow.FlowOp.{FlowOp}
use Rattle.flow_table.specs.declared.flow.FlowOp.TheVariants as op
use Rattle.flow_table.specs.declared.flow.ZoneOf.{ZoneOf}
use Rattle.inet_packet.specs.declared.packet.Packet.{Packet}
use Rattle.inet_packet.specs.declared.regs.Reg.{Reg}
use Rattle.inet_packet.specs.declared.regs.Reg.TheVariants as reg
use Rattle.logical_flows.specs.declared.action.Action.TheVariants as a
use Rattle.ovn_base.specs.declared.address.Backend.{Backend}
use Rattle.ovn_base.specs.declared.address.Ip4.{Ip4}
use Rattle.ovn_base.specs.declared.address.Mac.{Mac}
use Rattle.switch_engine.specs.Actions.{set_reg, drop_at, gone_on}
use Rattle.switch_engine.specs.Acts.{Doing, Act, goes_next}
use Rattle.switch_engine.specs.Commits.{Newcomer, newcomer, begins_as, commits, commit_cause, added, is_balanced, balances, balances_over, sends_to}
use Rattle.switch_engine.specs.Headers.{arp_answered}
use Rattle.switch_engine.specs.Outcome.{FlowOutcome, outcome, after_turn, with_act, going_on, picks_in, IsDone}
use Rattle.switch_engine.specs.Tracking.{looked_up, found_changed, found_translates}
use Rattle.switch_engine.specs.Zones.{ZoneLists, zone_number, with_zone}
use Rattle.switch_engine.specs.declared.carried.Carried.{Carried}
use Rattle.switch_engine.specs.declared.effect.Effect.{Effect}
use Rattle.switch_engine.specs.declared.effect.Effect.TheVariants as effect
use Rattle.sim_laws.proofs.pipelines.WalkOn.{are_legal}
use Rattle.sim_laws.specs.pipelines.Standing.{Chassis}
use Rattle.sim_laws.specs.pipelines.WalkOn.{Reached}
use Rattle.sim_laws.specs.routers.TranslatingWords.{Bring}

-- the copy with a register set
abbrev pub with_reg : Reg → ℕ → Carried → Carried
with_reg r n c = record c { regs = set_reg r n c.regs }

module _ (s : Chassis) (zones : ZoneLists) (copy : Carried) (So : Reached) where
  abbrev now : ℕ
  now = s.scene.now

  -- ---- to go on, to drop

  pub go_does : (n : ℕ) → So [] zones (gone_on n copy ∷ []) → Bring s (a.Go n ∷ []) zones copy So
  unfolding lowered_op
  go_does n so told done = subst (λ l. So l zones (gone_on n copy ∷ [])) done.effects so

  pub drop_does : (why : Cause) → So (drop_at copy.table why copy.regs ∷ []) zones [] → Bring s (a.Drop why ∷ []) zones copy So
  unfolding lowered_op
  drop_does why so told done = subst (λ l. So l zones []) done.effects so

  -- ---- to track, to judge

  pub find_does : (z : ZoneOf) (n : ℕ) → So [] zones (gone_on n (with_reg reg.Tracked 1 (looked_up (zone_number z copy.regs) zones copy)) ∷ [])
      → Bring s (a.Find z ∷ a.Set reg.Tracked 1 ∷ a.Go n ∷ []) zones copy So
  unfolding lowered_op
  find_does z n so told done = subst (λ l. So l zones (gone_on n (with_reg reg.Tracked 1 (looked_up (zone_number z copy.regs) zones copy)) ∷ [])) done.effects so

  pub set_does : (r : Reg) (k n : ℕ) → So [] zones (gone_on n (with_reg r k copy) ∷ []) → Bring s (a.Set r k ∷ a.Go n ∷ []) zones copy So
  unfolding lowered_op
  set_does r k n so told done = subst (λ l. So l zones (gone_on n (with_reg r k copy) ∷ [])) done.effects so

  -- ---- to send

  pub out_does : (q : List ℕ) (n : ℕ) → So [] zones (gone_on n (with_reg reg.OutPort (live_port_key s.keys q) copy) ∷ []) → Bring s (a.SetOut q ∷ a.Go n ∷ []) zones copy So
  unfolding lowered_op
  out_does q n so told done = subst (λ l. So l zones (gone_on n (with_reg reg.OutPort (live_port_key s.keys q) copy) ∷ [])) done.effects so

  -- an answer goes back, and may
  abbrev pub answered : Mac → Ip4 → Carried
  answered mac ip = record copy { packet = arp_answered mac ip copy.packet; regs = set_reg reg.Loopback 1 (record copy.regs { out_port = copy.regs.in_port }) }

  pub answer_does : (mac : Mac) (ip : Ip4) (n : ℕ) → So [] zones (gone_on n (answered mac ip) ∷ []) → Bring s (a.ArpReply mac ip ∷ a.OutIsIn ∷ a.Set reg.Loopback 1 ∷ a.Go n ∷ []) zones copy So
  unfolding lowered_op
  answer_does mac ip n so told done = subst (λ l. So l zones (gone_on n (answered mac ip) ∷ [])) done.effects so

  -- ---- on a connection

  abbrev pub touched_zones : ZoneLists → ZoneLists
  touched_zones zs = found_changed (touched now) copy.found zs

  abbrev pub carried_by : ZoneLists → ℕ → Carried
  carried_by zs n = gone_on n (record copy { packet = found_translates copy.found zs copy.packet })

  pub touch_does : (n : ℕ) → So [] (touched_zones zones) (carried_by (touched_zones zones) n ∷ []) → Bring s (a.Touch ∷ a.Translate ∷ a.Go n ∷ []) zones copy So
  unfolding lowered_op
  touch_does n so told done = subst (λ l. So l (touched_zones zones) (carried_by (touched_zones zones) n ∷ [])) done.effects so

  pub block_does : (why : Cause) → So (drop_at copy.table why copy.regs ∷ []) (found_changed (blocked_as true) copy.found zones) [] → Bring s (a.Block ∷ a.Drop why ∷ []) zones copy So
  unfolding lowered_op
  block_does why so told done = subst (λ l. So l (found_changed (blocked_as true) copy.found zones) []) done.effects so

  abbrev pub unblocked_zones : ZoneLists
  unblocked_zones = touched_zones (found_changed (blocked_as false) copy.found zones)

  pub unblock_does : (n : ℕ) → So [] unblocked_zones (carried_by unblocked_zones n ∷ []) → Bring s (a.Unblock ∷ a.Touch ∷ a.Translate ∷ a.Go n ∷ []) zones copy So
  unfolding lowered_op
  unblock_does n so told done = subst (λ l. So l unblocked_zones (carried_by unblocked_zones n ∷ [])) done.effects so

  -- ---- a new one

  -- the actions behind one that did so
  abbrev after_act : Act → List FlowOp → FlowOutcome
  after_act x ops = with_act x (after_turn x.turn x.after (outcome s.entry now ops))

  abbrev Brings : List Effect → FlowOutcome → Type 0
  Brings told o = IsDone s.by o told → So told o.zones (going_on o)

  abbrev doing : List Choice → Doing
  doing choices = record { copy = copy; zones = zones; choices = choices }

  abbrev pub Begins : ℕ → Newcomer → Result ConnectionList CommitFault → Type 0
  Begins k n (Ok list) = So [] (with_zone zones n.zone list) (gone_on k copy ∷ [])
  Begins k n (Err why) = So (drop_at copy.table (commit_cause why) copy.regs ∷ []) zones []

  added_does : (k : ℕ) (n : Newcomer) (told : List Effect) (r : Result ConnectionList CommitFault) → Begins k n r → Brings told (after_act (added n.zone copy.packet (doing (picks_in told)) r) (op.Go k ∷ []))
  added_does k n told (Ok list) so done = subst (λ l. So l (with_zone zones n.zone list) (gone_on k copy ∷ [])) done.effects so
  added_does k n told (Err why) so done = subst (λ l. So l zones []) done.effects so

  pub commit_does : (z : ZoneOf) (k : ℕ) (n : Newcomer) → newcomer (zone_number z copy.regs) zones copy.packet ≡ Some n → Begins k n (committed n.list n.tuple (reversed n.tuple) now)
      → Bring s (a.Commit z ∷ a.Go k ∷ []) zones copy So
  unfolding lowered_op
  commit_does z k n is so told =
      subst (λ (o : Option Newcomer). Brings told (after_act (begins_as o (commits now) (doing (picks_in told))) (op.Go k ∷ []))) (sym is)
      (added_does k n told (committed n.list n.tuple (reversed n.tuple) now) so)

  -- ---- a backend

  abbrev sent : Newcomer → Backend → Packet
  sent n b = with_tuple (towards b n.tuple) copy.packet

  abbrev pub Picks : ℕ → Backend → Newcomer → Backend → Result ConnectionList CommitFault → Type 0
  Picks k vip n b (Ok list) = So (effect.PickBackend copy.regs.dp vip b ∷ []) (with_zone zones n.zone list) (gone_on k (record copy { packet = with_tuple (towards b n.tuple) copy.packet }) ∷ [])
  Picks k vip n b (Err why) = So (effect.PickBackend copy.regs.dp vip b ∷ drop_at copy.table (commit_cause why) copy.regs ∷ []) zones []

  abbrev pub Balances : ℕ → Backend → Newcomer → List Backend → Type 0
  Balances k vip n [] = So (drop_at copy.table cause.NoLiveBackend copy.regs ∷ []) zones []
  Balances k vip n (x ∷ xs) = (b : Backend) → is_backend_of (x ∷ xs) b ≡ true → Picks k vip n b (committed n.list n.tuple (reversed (towards b n.tuple)) now)

  -- the pick is made, and then the connection is added
  abbrev picked : Backend → List Backend → Newcomer → Backend → List Choice → Result ConnectionList CommitFault → Act
  picked vip legal n b left r =
      let x = added n.zone (sent n b) (doing left) r in
      record x { effects = effect.PickBackend copy.regs.dp vip b ∷ x.effects; legal = is_backend_of legal b; own = is_first_choice n.tuple legal b }

  pick_does : (k : ℕ) (vip : Backend) (legal : List Backend) (n : Newcomer) (b : Backend) (told : List Effect) (left : List Choice) (r : Result ConnectionList CommitFault) → Picks k vip n b r
      → Brings told (after_act (picked vip legal n b left r) (op.Go k ∷ []))
  pick_does k vip legal n b told left (Ok list) so done =
      subst (λ l. So l (with_zone zones n.zone list) (gone_on k (record copy { packet = with_tuple (towards b n.tuple) copy.packet }) ∷ [])) done.effects so
  pick_does k vip legal n b told left (Err why) so done = subst (λ l. So l zones []) done.effects so

  choice_does : (k : ℕ) (vip x : Backend) (xs : List Backend) (n : Newcomer) (told : List Effect) (choices : List Choice) → Balances k vip n (x ∷ xs)
      → Brings told (after_act (sends_to now vip (x ∷ xs) n (choose_backend (is_backend_of (x ∷ xs)) vip choices) (doing choices)) (op.Go k ∷ []))
  choice_does k vip x xs n told [] so done = absurd (false≢true (are_legal s.by _ done.admitted))
  choice_does k vip x xs n told (to_port p ∷ left) so done = absurd (false≢true (are_legal s.by _ done.admitted))
  choice_does k vip x xs n told (to_backend b ∷ left) so done =
      let o = after_act (sends_to now vip (x ∷ xs) n (record { what = b; legal = is_backend_of (x ∷ xs) b; left = left }) (doing (to_backend b ∷ left))) (op.Go k ∷ []) in
      let legal = (and_parts (is_backend_of (x ∷ xs) b) _ (are_legal s.by o done.admitted)).0 in
      pick_does k vip (x ∷ xs) n b told left (committed n.list n.tuple (reversed (towards b n.tuple)) now) (so b legal) done

  over_does : (k : ℕ) (vip : Backend) (legal : List Backend) (n : Newcomer) (told : List Effect) → Balances k vip n legal → Brings told (after_act (balances_over now vip legal n (doing (picks_in told))) (op.Go k ∷ []))
  over_does k vip [] n told so done = subst (λ l. So l zones []) done.effects so
  over_does k vip (x ∷ xs) n told so done = choice_does k vip x xs n told (picks_in told) so done

  pub balance_does : (z : ZoneOf) (vip : Backend) (bs : List Backend) (k : ℕ) (n : Newcomer) → newcomer (zone_number z copy.regs) zones copy.packet ≡ Some n → is_balanced n.tuple.protocol ≡ true
      → Balances k vip n (filter (is_free_backend n.list n.tuple) bs) → Bring s (a.Balance z vip bs ∷ a.Go k ∷ []) zones copy So
  unfolding lowered_op
  balance_does z vip bs k n is tcp so told =
      subst (λ (o : Option Newcomer). Brings told (after_act (begins_as o (balances now vip bs) (doing (picks_in told))) (op.Go k ∷ []))) (sym is)
      (subst (λ t. Brings told (after_act (cond t (balances_over now vip (filter (is_free_backend n.list n.tuple) bs) n (doing (picks_in told))) (goes_next (doing (picks_in told)))) (op.Go k ∷ []))) (sym tcp)
      (over_does k vip (filter (is_free_backend n.list n.tuple) bs) n told so))
