-- What the actions of a router's stages of NAT come to, once lowered and done.
use Rattle.std.specs.Prelude.{◌≡◌, ◌++◌, ℕ, Bool, true, false, cond, List, [], ◌∷◌, Option, Some, Result, Ok, Err, refl}
use Rattle.std.proofs.Common.{sym, subst}
use Rattle.std.proofs.lemmas.Bool.{false≢true, and_parts}
use Rattle.conn_table.specs.Connections.{ConnectionList, is_free, committed}
use Rattle.conn_table.specs.Picks.{Choice, to_backend, to_port, to_address, from_address, with_port, choose_port, may_pick, has_free_port, is_least_port}
use Rattle.conn_table.specs.Tuples.{reversed, with_tuple}
use Rattle.conn_table.specs.declared.connection.CommitFault.{CommitFault}
use Rattle.conn_table.specs.declared.tuple.Tuple.{Tuple}
use Rattle.flow_lowering.specs.LoweredFlows.{lowered_op}
use Rattle.flow_table.specs.declared.flow.Cause.TheVariants as cause
use Rattle.flow_table.specs.declared.flow.FlowOp.{FlowOp}
use Rattle.flow_table.specs.declared.flow.FlowOp.TheVariants as op
use Rattle.flow_table.specs.declared.flow.ZoneOf.{ZoneOf}
use Rattle.flow_table.specs.declared.flow.ZoneOf.TheVariants as zone
use Rattle.inet_packet.specs.declared.packet.Packet.{Packet}
use Rattle.logical_flows.specs.declared.action.Action.TheVariants as a
use Rattle.ovn_base.specs.declared.address.Ip4.{Ip4}
use Rattle.switch_engine.specs.Actions.{drop_at, gone_on}
use Rattle.switch_engine.specs.Acts.{Doing, Act}
use Rattle.switch_engine.specs.Commits.{Newcomer, newcomer, begins_as, commit_cause, added, translates_to, translates_from, comes_from, picks_port, keeps_port, hides_behind}
use Rattle.switch_engine.specs.Outcome.{FlowOutcome, outcome, after_turn, with_act, going_on, picks_in, IsDone}
use Rattle.switch_engine.specs.Tracking.{looked_up, undone, undone_zones}
use Rattle.switch_engine.specs.Zones.{ZoneLists, zone_number, with_zone}
use Rattle.switch_engine.specs.declared.carried.Carried.{Carried}
use Rattle.switch_engine.specs.declared.effect.Effect.{Effect}
use Rattle.switch_engine.specs.declared.effect.Effect.TheVariants as effect
use Rattle.sim_laws.proofs.pipelines.WalkOn.{are_legal}
use Rattle.sim_laws.specs.pipelines.Standing.{Chassis}
use Rattle.sim_laws.specs.pipelines.WalkOn.{Reached}
use Rattle.sim_laws.specs.routers.TranslatingWords.{Bring}

module _ (s : Chassis) (zones : ZoneLists) (copy : Carried) (So : Reached) where
  -- ---- to look up

  pub seek_does : (z : ZoneOf) (n : ℕ) → So [] zones (gone_on n (looked_up (zone_number z copy.regs) zones copy) ∷ []) → Bring s (a.Find z ∷ a.Go n ∷ []) zones copy So
  unfolding lowered_op
  seek_does z n so told done = subst (λ l. So l zones (gone_on n (looked_up (zone_number z copy.regs) zones copy) ∷ [])) done.effects so

  -- the zones and the copy, after a translation of the source was undone
  abbrev pub zones_undone : ZoneLists
  zones_undone = undone_zones s.scene.now copy.regs.z_snat copy.packet zones

  abbrev pub copy_undone : Carried
  copy_undone = record copy { packet = undone copy.regs.z_snat zones copy.packet }

  pub undo_does : (n : ℕ) → So [] zones_undone (gone_on n (looked_up copy.regs.z_dnat zones_undone copy_undone) ∷ []) → Bring s (a.Undo ∷ a.Find zone.Dnat ∷ a.Go n ∷ []) zones copy So
  unfolding lowered_op
  undo_does n so told done = subst (λ l. So l zones_undone (gone_on n (looked_up copy.regs.z_dnat zones_undone copy_undone) ∷ [])) done.effects so

  -- ---- a connection begins

  abbrev now : ℕ
  now = s.scene.now

  -- the actions behind one that did so
  abbrev after_act : Act → List FlowOp → FlowOutcome
  after_act x ops = with_act x (after_turn x.turn x.after (outcome s.entry now ops))

  abbrev Brings : List Effect → FlowOutcome → Type 0
  Brings told o = IsDone s.by o told → So told o.zones (going_on o)

  abbrev doing : List Choice → Doing
  doing choices = record { copy = copy; zones = zones; choices = choices }

  -- these effects were told before; the copy goes on with a packet, or is dropped
  abbrev pub Adds : ℕ → List Effect → Newcomer → Packet → Result ConnectionList CommitFault → Type 0
  Adds k before n q (Ok list) = So before (with_zone zones n.zone list) (gone_on k (record copy { packet = q }) ∷ [])
  Adds k before n q (Err why) = So (before ++ drop_at copy.table (commit_cause why) copy.regs ∷ []) zones []

  added_does : (k : ℕ) (n : Newcomer) (q : Packet) (told : List Effect) (r : Result ConnectionList CommitFault) → Adds k [] n q r → Brings told (after_act (added n.zone q (doing (picks_in told)) r) (op.Go k ∷ []))
  added_does k n q told (Ok list) so done = subst (λ l. So l (with_zone zones n.zone list) (gone_on k (record copy { packet = q }) ∷ [])) done.effects so
  added_does k n q told (Err why) so done = subst (λ l. So l zones []) done.effects so

  pub dnat_does : (z : ZoneOf) (ip : Ip4) (k : ℕ) (n : Newcomer) → newcomer (zone_number z copy.regs) zones copy.packet ≡ Some n
      → Adds k [] n (with_tuple (to_address ip n.tuple) copy.packet) (committed n.list n.tuple (reversed (to_address ip n.tuple)) now)
      → Bring s (a.Dnat z ip ∷ a.Go k ∷ []) zones copy So
  unfolding lowered_op
  dnat_does z ip k n is so told =
      subst (λ (o : Option Newcomer). Brings told (after_act (begins_as o (translates_to now ip) (doing (picks_in told))) (op.Go k ∷ []))) (sym is)
      (added_does k n (with_tuple (to_address ip n.tuple) copy.packet) told (committed n.list n.tuple (reversed (to_address ip n.tuple)) now) so)

  -- ---- a port

  -- the source port is kept, or one is picked that is free, or there is none
  abbrev pub Hides : ℕ → Newcomer → Tuple → Bool → Bool → Type 0
  Hides k n back true some = Adds k [] n (with_tuple (reversed back) copy.packet) (committed n.list n.tuple back now)
  Hides k n back false false = So (drop_at copy.table cause.NoFreePort copy.regs ∷ []) zones []
  Hides k n back false true =
      (port : ℕ) → may_pick n.list back port ≡ true
      → Adds k (effect.PickPort copy.regs.dp port ∷ []) n (with_tuple (reversed (with_port port back)) copy.packet) (committed n.list n.tuple (with_port port back) now)

  -- the pick is made, and then the connection is added
  abbrev picked : Tuple → Newcomer → ℕ → List Choice → Result ConnectionList CommitFault → Act
  picked back n port left r =
      let x = added n.zone (with_tuple (reversed (with_port port back)) copy.packet) (doing left) r in
      record x { effects = effect.PickPort copy.regs.dp port ∷ x.effects; legal = may_pick n.list back port; own = is_least_port n.list back port }

  pick_does : (k : ℕ) (back : Tuple) (n : Newcomer) (port : ℕ) (told : List Effect) (left : List Choice) (r : Result ConnectionList CommitFault)
      → Adds k (effect.PickPort copy.regs.dp port ∷ []) n (with_tuple (reversed (with_port port back)) copy.packet) r → Brings told (after_act (picked back n port left r) (op.Go k ∷ []))
  pick_does k back n port told left (Ok list) so done =
      subst (λ l. So l (with_zone zones n.zone list) (gone_on k (record copy { packet = with_tuple (reversed (with_port port back)) copy.packet }) ∷ [])) done.effects so
  pick_does k back n port told left (Err why) so done = subst (λ l. So l zones []) done.effects so

  choice_does : (k : ℕ) (back : Tuple) (n : Newcomer) (told : List Effect) (choices : List Choice) → Hides k n back false true
      → Brings told (after_act (comes_from now back n (choose_port (may_pick n.list back) choices) (doing choices)) (op.Go k ∷ []))
  choice_does k back n told [] so done = absurd (false≢true (are_legal s.by _ done.admitted))
  choice_does k back n told (to_backend b ∷ left) so done = absurd (false≢true (are_legal s.by _ done.admitted))
  choice_does k back n told (to_port port ∷ left) so done =
      let o = after_act (comes_from now back n (record { what = port; legal = may_pick n.list back port; left = left }) (doing (to_port port ∷ left))) (op.Go k ∷ []) in
      let legal = (and_parts (may_pick n.list back port) _ (are_legal s.by o done.admitted)).0 in
      pick_does k back n port told left (committed n.list n.tuple (with_port port back) now) (so port legal) done

  hidden_does : (k : ℕ) (back : Tuple) (n : Newcomer) (told : List Effect) (free some : Bool) → Hides k n back free some
      → Brings told (after_act (cond free (translates_from now back n (doing (picks_in told))) (picks_port now some back n (doing (picks_in told)))) (op.Go k ∷ []))
  hidden_does k back n told true some so done = added_does k n (with_tuple (reversed back) copy.packet) told (committed n.list n.tuple back now) so done
  hidden_does k back n told false false so done = subst (λ l. So l zones []) done.effects so
  hidden_does k back n told false true so done = choice_does k back n told (picks_in told) so done

  keeps_is : (free : Bool) (back : Tuple) (n : Newcomer) (d : Doing) → keeps_port now free back n d ≡ cond free (translates_from now back n d) (picks_port now (has_free_port n.list back) back n d)
  keeps_is true back n d = refl
  keeps_is false back n d = refl

  pub snat_does : (z : ZoneOf) (ip : Ip4) (k : ℕ) (n : Newcomer) → newcomer (zone_number z copy.regs) zones copy.packet ≡ Some n
      → Hides k n (reversed (from_address ip n.tuple)) (is_free n.list (reversed (from_address ip n.tuple))) (has_free_port n.list (reversed (from_address ip n.tuple)))
      → Bring s (a.Snat z ip ∷ a.Go k ∷ []) zones copy So
  unfolding lowered_op
  snat_does z ip k n is so told =
      let back = reversed (from_address ip n.tuple) in
      subst (λ (o : Option Newcomer). Brings told (after_act (begins_as o (hides_behind now ip) (doing (picks_in told))) (op.Go k ∷ []))) (sym is)
      (subst (λ (x : Act). Brings told (after_act x (op.Go k ∷ []))) (sym (keeps_is (is_free n.list back) back n (doing (picks_in told))))
      (hidden_does k back n told (is_free n.list back) (has_free_port n.list back) so))
