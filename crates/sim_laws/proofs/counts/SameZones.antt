-- A walk through zones is one through any zones that hold the same lists.
use Rattle.std.specs.Prelude.{◌≡◌, ◌++◌, ℕ, nat_eq, nat_lt, Bool, true, false, cond, List, [], ◌∷◌, Option, Some, None, is_some, Result, Ok, Err, filter}
use Rattle.std.proofs.Common.{refl, sym, ap, ◌∙◌, subst, inl, inr}
use Rattle.std.proofs.lemmas.Bool.{cases_Bool, eqb-true, eq-eqb, false≢true, false_from_ne_true}
use Rattle.ovn_base.specs.declared.address.Backend.{Backend}
use Rattle.ovn_base.specs.declared.limits.TheConstants.{MAX_HOPS}
use Rattle.inet_packet.specs.declared.packet.Packet.{Packet}
use Rattle.inet_packet.specs.declared.regs.Regs.{Regs}
use Rattle.conn_table.specs.Connections.{ConnectionList, is_free, committed, touched, blocked_as}
use Rattle.conn_table.specs.Picks.{Choice, Chosen, choose_backend, choose_port, is_backend_of, is_free_backend, is_first_choice, is_least_port, may_pick, has_free_port, from_address, towards, with_port, to_address}
use Rattle.conn_table.specs.Tracking.{Seen, seen, state_of, new, forward, reply, invalid}
use Rattle.conn_table.specs.Tuples.{reversed, with_tuple}
use Rattle.conn_table.specs.declared.connection.CommitFault.{CommitFault}
use Rattle.conn_table.specs.declared.connection.Entry as connection
use Rattle.conn_table.specs.declared.tuple.Tuple.{Tuple}
use Rattle.flow_table.specs.declared.flow.Cause.TheVariants as cause
use Rattle.flow_table.specs.declared.flow.Flow.{Flow}
use Rattle.flow_table.specs.declared.flow.FlowOp.{FlowOp}
use Rattle.flow_table.specs.declared.flow.FlowOp.TheVariants as op
use Rattle.switch_engine.specs.declared.actions.Turn.{Turn}
use Rattle.switch_engine.specs.declared.actions.Turn.TheVariants as turn
use Rattle.switch_engine.specs.declared.carried.Carried.{Carried}
use Rattle.switch_engine.specs.declared.carried.Found.{Found}
use Rattle.switch_engine.specs.declared.effect.Effect.{Effect}
use Rattle.switch_engine.specs.declared.effect.Effect.TheVariants as effect
use Rattle.switch_engine.specs.declared.effect.Entry.{Entry}
use Rattle.switch_engine.specs.declared.walk.Step.{Step}
use Rattle.switch_engine.specs.Actions.{patched, patched_regs}
use Rattle.switch_engine.specs.Acts.{Doing, Act, goes_next, turns, tells, drops}
use Rattle.switch_engine.specs.Commits.{Newcomer, newcomer_in, newcomer_seen, begins, begins_as, added, adds, commits, translates_to, sends_to, balances_over, balances, is_balanced, picks_port, keeps_port, hides_behind}
use Rattle.switch_engine.specs.Outcome.{FlowOutcome, act, outcome, going_on, after_turn, with_act, patches, any_legal, choosing, IsDone, picks_in}
use Rattle.switch_engine.specs.Tracking.{looked_up_in, found_changed, found_translates, translated_in, undone_in, undone_list, undone_zones, entry_changed}
use Rattle.switch_engine.specs.Walk.{IsWalk}
use Rattle.switch_engine.specs.Walk.IsWalk.{over, ends, takes}
use Rattle.switch_engine.specs.Zones.{ZoneLists, zone_at, with_zone, over_list, over_zone, zone_number}
use Rattle.sim_laws.proofs.pipelines.SetValues.{set_same, set_apart}
use Rattle.sim_laws.specs.journeys.Counts.{AreSameZones}

-- ---- lists that are written

module _ (zones others : ZoneLists) (same : AreSameZones zones others) where
  with_same : (z : ℕ) (list : ConnectionList) → is_some (zone_at zones z) ≡ true → AreSameZones (with_zone zones z list) (with_zone others z list)
  with_same z list present n = elim (cases_Bool (nat_eq z n)) [
    | inl is ↦
        subst (λ k. zone_at (with_zone zones z list) k ≡ zone_at (with_zone others z list) k) (eqb-true z n is)
        (set_same (nat_eq z) zones list present ∙ sym (set_same (nat_eq z) others list (ap (λ o. is_some o) (sym (same z)) ∙ present)))
    | inr other ↦
        let apart : (k : ℕ) → nat_eq z k ≡ true → nat_eq n k ≡ false = λ k e. false_from_ne_true (nat_eq n k) (λ h. false≢true (sym other ∙ eq-eqb z n (eqb-true z k e ∙ sym (eqb-true n k h)))) in
        set_apart (nat_eq z) (nat_eq n) apart zones list ∙ same n ∙ sym (set_apart (nat_eq z) (nat_eq n) apart others list)
  ]

  over_same : (change : ConnectionList → ConnectionList) (z : ℕ) → AreSameZones (over_zone change z zones) (over_zone change z others)
  over_same change z = subst (λ o. AreSameZones (over_list change z zones (zone_at zones z)) (over_list change z others o)) (same z) (by (zone_at zones z) refl)
    where
      by : (o : Option ConnectionList) → zone_at zones z ≡ o → AreSameZones (over_list change z zones o) (over_list change z others o)
      by None is = same
      by (Some list) is = with_same z (change list) (ap (λ o. is_some o) is)

  found_same : (change : connection.Entry → connection.Entry) (o : Option Found) → AreSameZones (found_changed change o zones) (found_changed change o others)
  found_same change None = same
  found_same change (Some f) = over_same (entry_changed change f.state) f.zone

  translates_same : (o : Option Found) (p : Packet) → found_translates o zones p ≡ found_translates o others p
  translates_same None p = refl
  translates_same (Some f) p = ap (λ l. translated_in l f.state p) (same f.zone)

-- ---- one action

-- both do the same, and leave zones that hold the same lists
record SameAct (a b : Act) : Type 0 where
  zones : AreSameZones a.after.zones b.after.zones
  rest : record a { after = record a.after { zones = b.after.zones } } ≡ b

record SameOutcome (a b : FlowOutcome) : Type 0 where
  zones : AreSameZones a.zones b.zones
  rest : record a { zones = b.zones } ≡ b

-- so do both where they tell of a choice besides
tells_same : (e : Effect) (legal own : Bool) (a b : Act) → SameAct a b → SameAct (record (tells e a) { legal = legal; own = own }) (record (tells e b) { legal = legal; own = own })
tells_same e legal own a b s = record { zones = s.zones; rest = ap (λ (x : Act). record (tells e x) { legal = legal; own = own }) s.rest }

module _ (entry : Entry) (now : ℕ) (zones others : ZoneLists) (same : AreSameZones zones others) (copy : Carried) where
  abbrev here : List Choice → Doing
  here choices = record { copy = copy; zones = zones; choices = choices }

  abbrev there' : List Choice → Doing
  there' choices = record { copy = copy; zones = others; choices = choices }

  module _ (n : Newcomer) (present : is_some (zone_at zones n.zone) ≡ true) where
    added_same : (p : Packet) (choices : List Choice) (r : Result ConnectionList CommitFault) → SameAct (added n.zone p (here choices) r) (added n.zone p (there' choices) r)
    added_same p choices (Ok list) = record { zones = with_same zones others same n.zone list present; rest = refl }
    added_same p choices (Err why) = record { zones = same; rest = refl }

    adds_same : (back : Tuple) (p : Packet) (choices : List Choice) → SameAct (adds now n back p (here choices)) (adds now n back p (there' choices))
    adds_same back p choices = added_same p choices (committed n.list n.tuple back now)

    sends_same : (vip : Backend) (legal : List Backend) (c : Chosen Backend) (choices : List Choice) → SameAct (sends_to now vip legal n c (here choices)) (sends_to now vip legal n c (there' choices))
    sends_same vip legal c choices = tells_same (effect.PickBackend copy.regs.dp vip c.what) c.legal (is_first_choice n.tuple legal c.what) _ _ (adds_same (reversed (towards c.what n.tuple)) (with_tuple (towards c.what n.tuple) copy.packet) c.left)

    over_backends : (vip : Backend) (legal : List Backend) (choices : List Choice) → SameAct (balances_over now vip legal n (here choices)) (balances_over now vip legal n (there' choices))
    over_backends vip [] choices = record { zones = same; rest = refl }
    over_backends vip (b ∷ bs) choices = sends_same vip (b ∷ bs) (choose_backend (is_backend_of (b ∷ bs)) vip choices) choices

    balances_same : (vip : Backend) (bs : List Backend) (choices : List Choice) → SameAct (balances now vip bs n (here choices)) (balances now vip bs n (there' choices))
    balances_same vip bs choices = by (is_balanced n.tuple.protocol)
      where
        by : (t : Bool) → SameAct (cond t (balances_over now vip (filter (is_free_backend n.list n.tuple) bs) n (here choices)) (goes_next (here choices)))
            (cond t (balances_over now vip (filter (is_free_backend n.list n.tuple) bs) n (there' choices)) (goes_next (there' choices)))
        by true = over_backends vip (filter (is_free_backend n.list n.tuple) bs) choices
        by false = record { zones = same; rest = refl }

    port_same : (t : Bool) (back : Tuple) (choices : List Choice) → SameAct (picks_port now t back n (here choices)) (picks_port now t back n (there' choices))
    port_same true back choices =
        let c = choose_port (may_pick n.list back) choices in
        tells_same (effect.PickPort copy.regs.dp c.what) c.legal (is_least_port n.list back c.what) _ _ (adds_same (with_port c.what back) (with_tuple (reversed (with_port c.what back)) copy.packet) c.left)
    port_same false back choices = record { zones = same; rest = refl }

    kept_same : (t : Bool) (back : Tuple) (choices : List Choice) → SameAct (keeps_port now t back n (here choices)) (keeps_port now t back n (there' choices))
    kept_same true back choices = adds_same back (with_tuple (reversed back) copy.packet) choices
    kept_same false back choices = port_same (has_free_port n.list back) back choices

  begins_same : (z : ℕ) (begin : Newcomer → Doing → Act) (choices : List Choice) → ((n : Newcomer) → is_some (zone_at zones n.zone) ≡ true → SameAct (begin n (here choices)) (begin n (there' choices)))
      → SameAct (begins z begin (here choices)) (begins z begin (there' choices))
  begins_same z begin choices each =
      subst (λ o. SameAct (begins_as (newcomer_in z (zone_at zones z) copy.packet) begin (here choices)) (begins_as (newcomer_in z o copy.packet) begin (there' choices))) (same z) (by (zone_at zones z) refl)
    where
      by_seen : (list : ConnectionList) → is_some (zone_at zones z) ≡ true → (x : Seen) → SameAct (begins_as (newcomer_seen z list x) begin (here choices)) (begins_as (newcomer_seen z list x) begin (there' choices))
      by_seen list present (new t) = each (record { zone = z; list = list; tuple = t }) present
      by_seen list present (forward e) = record { zones = same; rest = refl }
      by_seen list present (reply e) = record { zones = same; rest = refl }
      by_seen list present invalid = record { zones = same; rest = refl }

      by : (o : Option ConnectionList) → zone_at zones z ≡ o → SameAct (begins_as (newcomer_in z o copy.packet) begin (here choices)) (begins_as (newcomer_in z o copy.packet) begin (there' choices))
      by None is = record { zones = same; rest = refl }
      by (Some list) is = by_seen list (ap (λ o. is_some o) is) (seen list copy.packet)

  patches_same : (regs : Regs) (choices : List Choice) → SameAct (patches regs (here choices)) (patches regs (there' choices))
  patches_same regs choices = by (nat_lt copy.passes MAX_HOPS)
    where
      by : (t : Bool) → SameAct (cond t (turns turn.Leaves (record (here choices) { copy = patched regs copy })) (drops cause.HopLimit (here choices)))
          (cond t (turns turn.Leaves (record (there' choices) { copy = patched regs copy })) (drops cause.HopLimit (there' choices)))
      by true = record { zones = same; rest = refl }
      by false = record { zones = same; rest = refl }

  act_same : (o : FlowOp) (choices : List Choice) → SameAct (act entry now o (here choices)) (act entry now o (there' choices))
  act_same (op.Set reg n) choices = record { zones = same; rest = refl }
  act_same op.OutIsIn choices = record { zones = same; rest = refl }
  act_same op.Header choices = record { zones = same; rest = refl }
  act_same op.NextDst choices = record { zones = same; rest = refl }
  act_same (op.EthSrc mac) choices = record { zones = same; rest = refl }
  act_same (op.EthDst mac) choices = record { zones = same; rest = refl }
  act_same (op.ArpReply mac ip) choices = record { zones = same; rest = refl }
  act_same op.EchoReply choices = record { zones = same; rest = refl }
  act_same op.DecTtl choices = record { zones = same; rest = refl }
  act_same (op.Find z) choices = record { zones = same; rest = ap (λ o. goes_next (record (there' choices) { copy = looked_up_in (zone_number z copy.regs) o copy })) (same (zone_number z copy.regs)) }
  act_same op.Undo choices = record {
    zones = over_same zones others same (λ list. undone_list now (state_of (seen list copy.packet)) list) copy.regs.z_snat;
    rest = ap (λ o. goes_next (record { copy = record copy { packet = undone_in o copy.packet }; zones = undone_zones now copy.regs.z_snat copy.packet others; choices = choices })) (same copy.regs.z_snat);
  }
  act_same op.Translate choices = record { zones = same; rest = ap (λ (p : Packet). goes_next (record (there' choices) { copy = record copy { packet = p } })) (translates_same zones others same copy.found copy.packet) }
  act_same op.Touch choices = record { zones = found_same zones others same (touched now) copy.found; rest = refl }
  act_same op.Block choices = record { zones = found_same zones others same (blocked_as true) copy.found; rest = refl }
  act_same op.Unblock choices = record { zones = found_same zones others same (blocked_as false) copy.found; rest = refl }
  act_same (op.Commit z) choices = begins_same (zone_number z copy.regs) (commits now) choices (λ n present. adds_same n present (reversed n.tuple) copy.packet choices)
  act_same (op.Dnat z ip) choices = begins_same (zone_number z copy.regs) (translates_to now ip) choices (λ n present. adds_same n present (reversed (to_address ip n.tuple)) (with_tuple (to_address ip n.tuple) copy.packet) choices)
  act_same (op.Snat z ip) choices = begins_same (zone_number z copy.regs) (hides_behind now ip) choices (λ n present. kept_same n present (is_free n.list (reversed (from_address ip n.tuple))) (reversed (from_address ip n.tuple)) choices)
  act_same (op.Balance z vip bs) choices = begins_same (zone_number z copy.regs) (balances now vip bs) choices (λ n present. balances_same n present vip bs choices)
  act_same (op.Go table) choices = record { zones = same; rest = refl }
  act_same (op.Drop why) choices = record { zones = same; rest = refl }
  act_same (op.Frame chassis) choices = record { zones = same; rest = refl }
  act_same (op.Copies members) choices = record { zones = same; rest = refl }
  act_same (op.Output port) choices = record { zones = same; rest = refl }
  act_same (op.Patch dp in_port z_dnat z_snat) choices = patches_same (patched_regs dp in_port z_dnat z_snat copy.regs) choices

-- ---- all actions of a flow, and a walk

module _ (entry : Entry) (now : ℕ) where
  outcome_same : (ops : List FlowOp) (zones others : ZoneLists) → AreSameZones zones others → (copy : Carried) (choices : List Choice)
      → SameOutcome (outcome entry now ops (record { copy = copy; zones = zones; choices = choices })) (outcome entry now ops (record { copy = copy; zones = others; choices = choices }))
  outcome_same [] zones others same copy choices = record { zones = same; rest = refl }
  outcome_same (o ∷ ops) zones others same copy choices =
      let a = act entry now o (record { copy = copy; zones = zones; choices = choices }) in
      let b = act entry now o (record { copy = copy; zones = others; choices = choices }) in
      let s = act_same entry now zones others same copy o choices in
      subst (λ (x : Act). SameOutcome (with_act a (after_turn a.turn a.after (outcome entry now ops))) (with_act x (after_turn x.turn x.after (outcome entry now ops)))) s.rest
      (by a b.after.zones s.zones a.turn (outcome_same ops a.after.zones b.after.zones s.zones a.after.copy a.after.choices))
    where
      by : (a : Act) (zs : ZoneLists) → AreSameZones a.after.zones zs → (t : Turn)
          → SameOutcome (outcome entry now ops a.after) (outcome entry now ops (record a.after { zones = zs }))
          → SameOutcome (with_act a (after_turn t a.after (outcome entry now ops))) (with_act a (after_turn t (record a.after { zones = zs }) (outcome entry now ops)))
      by a zs same turn.Next rest = record { zones = rest.zones; rest = ap (λ (x : FlowOutcome). with_act a x) rest.rest }
      by a zs same turn.Leaves rest = record { zones = same; rest = refl }
      by a zs same turn.Ends rest = record { zones = same; rest = refl }

  -- the same walk through other zones
  pub record OtherWalk (flows : List Flow) (others : ZoneLists) (copies : List Carried) (steps : List Step) (effects : List Effect) (last : ZoneLists) : Type 0 where
    pub left : ZoneLists
    pub same : AreSameZones last left
    pub walk : IsWalk any_legal flows entry now others copies steps effects left

  pub zone_walk : (flows : List Flow) (zones others last : ZoneLists) (copies : List Carried) (steps : List Step) (effects : List Effect) → AreSameZones zones others
      → IsWalk any_legal flows entry now zones copies steps effects last → OtherWalk flows others copies steps effects last
  zone_walk flows _ others _ _ _ _ same (over zones) = record { left = others; same = same; walk = over others }
  zone_walk flows _ others _ _ _ _ same (ends zones last copy rest steps more all none walk is) =
      let w = zone_walk flows zones others last rest steps more same walk in
      record { left = w.left; same = w.same; walk = ends others w.left copy rest steps more all none w.walk is }
  zone_walk flows _ others _ _ _ _ same (takes zones last copy rest step steps told more all at' best done walk is) =
      let o = outcome entry now step.flow.ops (choosing copy zones told) in
      let p = outcome entry now step.flow.ops (choosing copy others told) in
      let s : SameOutcome o p = outcome_same step.flow.ops zones others same copy (picks_in told) in
      let w = zone_walk flows o.zones p.zones last (going_on o ++ rest) steps more s.zones walk in
      let done' : IsDone any_legal p told = subst (λ (x : FlowOutcome). IsDone any_legal x told) s.rest (record { effects = done.effects; used = done.used; admitted = done.admitted }) in
      let on : IsWalk any_legal flows entry now p.zones (going_on p ++ rest) steps more w.left = subst (λ (x : FlowOutcome). IsWalk any_legal flows entry now p.zones (going_on x ++ rest) steps more w.left) s.rest w.walk in
      record { left = w.left; same = w.same; walk = takes others w.left copy rest step steps told more all at' best done' on is }
