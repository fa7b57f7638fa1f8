-- Two walks of one packet with equal choices are one, where unbeaten flows have equal actions.
use Rattle.std.specs.Prelude.{◌≡◌, ◌&&◌, ℕ, suc, nat_lt, Bool, true, false, cond, List, [], ◌∷◌, ◌++◌, length, Option, Some, None, Result, Ok, Err, refl}
use Rattle.std.specs.Cmp.{first_so, second_so}
use Rattle.std.specs.List.{filter}
use Rattle.std.proofs.Common.{sym, ap, ◌∙◌, subst, append_assoc, append-nil}
use Rattle.std.proofs.Math.Dec.{eqb as nat_eq}
use Rattle.std.proofs.lemmas.Bool.{false≢true}
use Rattle.ovn_base.specs.declared.address.Backend.{Backend}
use Rattle.ovn_base.specs.declared.address.Ip4.{Ip4}
use Rattle.ovn_base.specs.declared.limits.TheConstants.{MAX_HOPS}
use Rattle.ovn_base.specs.declared.stages.TheConstants.{LOCAL_TABLE}
use Rattle.inet_packet.specs.declared.packet.Packet.{Packet}
use Rattle.inet_packet.specs.declared.regs.Regs.{Regs}
use Rattle.conn_table.specs.Connections.{ConnectionList, is_free, committed}
use Rattle.conn_table.specs.declared.connection.CommitFault.{CommitFault}
use Rattle.conn_table.specs.declared.tuple.Tuple.{Tuple}
use Rattle.conn_table.specs.Picks.{Choice, to_backend, to_port, Chosen, choose_backend, choose_port, is_backend_of, is_free_backend, is_first_choice, is_least_port, may_pick, has_free_port, from_address, towards, with_port}
use Rattle.conn_table.specs.Tuples.{reversed, with_tuple}
use Rattle.flow_table.specs.Matching.{Matches, IsBest}
use Rattle.flow_table.specs.declared.flow.Cause.TheVariants.{HopLimit, Unbound}
use Rattle.flow_table.specs.declared.flow.Flow.{Flow}
use Rattle.flow_table.specs.declared.flow.FlowOp.{FlowOp}
use Rattle.flow_table.specs.declared.flow.FlowOp.TheVariants as op
use Rattle.switch_engine.specs.declared.actions.Turn.{Turn}
use Rattle.switch_engine.specs.declared.actions.Turn.TheVariants as turn
use Rattle.switch_engine.specs.declared.carried.Carried.{Carried}
use Rattle.switch_engine.specs.declared.effect.Effect.{Effect}
use Rattle.switch_engine.specs.declared.effect.Effect.TheVariants as effect
use Rattle.switch_engine.specs.declared.effect.Entry.{Entry}
use Rattle.switch_engine.specs.declared.walk.Step.{Step}
use Rattle.switch_engine.specs.declared.effect.Entry.TheVariants.{Vif, Tunnel}
use Rattle.switch_engine.specs.Actions.{drop_at, patched}
use Rattle.switch_engine.specs.Acts.{Doing, Act, turns, goes_next, drops}
use Rattle.switch_engine.specs.Commits.{Newcomer, newcomer, begins, begins_as, added, adds, commits, translates_to, is_balanced, sends_to, balances_over, balances, translates_from, comes_from, picks_port, keeps_port, hides_behind}
use Rattle.switch_engine.specs.OneWalk.{BestAgree, AreOne, WalksAreOne}
use Rattle.switch_engine.specs.Outcome.{FlowOutcome, act, outcome, going_on, after_turn, with_act, patches, pick_in, picks_in, any_legal, choosing, IsDone}
use Rattle.switch_engine.specs.Walk.{IsWalk, start, stray, unmatched}
use Rattle.switch_engine.specs.Walk.IsWalk.{over, ends, takes}
use Rattle.switch_engine.specs.Zones.{ZoneLists, zone_number}
use Rattle.switch_engine.proofs.Doings.{picks_both}
use Rattle.switch_engine.proofs.Walks.{cons_first, cons_rest}

-- the same with more choices behind those that are there
abbrev more_d : List Choice → Doing → Doing
more_d cs d = record d { choices = d.choices ++ cs }

abbrev more_a : List Choice → Act → Act
more_a cs a = record a { after = more_d cs a.after }

abbrev more_o : List Choice → FlowOutcome → FlowOutcome
more_o cs o = record o { left = o.left ++ cs }

-- ---- an action whose choices are legal does the same where more choices follow

module _ (cs : List Choice) where
  added_more : (z : ℕ) (p : Packet) (d : Doing) (r : Result ConnectionList CommitFault) → added z p (more_d cs d) r ≡ more_a cs (added z p d r)
  added_more z p d (Ok list) = refl
  added_more z p d (Err why) = refl

  adds_more : (now : ℕ) (n : Newcomer) (back : Tuple) (p : Packet) (d : Doing) → adds now n back p (more_d cs d) ≡ more_a cs (adds now n back p d)
  adds_more now n back p d = added_more n.zone p d (committed n.list n.tuple back now)

  over_more : (now : ℕ) (vip : Backend) (legal : List Backend) (n : Newcomer) (d : Doing) → (balances_over now vip legal n d).legal ≡ true → balances_over now vip legal n (more_d cs d) ≡ more_a cs (balances_over now vip legal n d)
  over_more now vip [] n d h = refl
  over_more now vip (b ∷ bs) n d h = by_choices d.choices h
    where
      by_choices : (choices : List Choice) → (sends_to now vip (b ∷ bs) n (choose_backend (is_backend_of (b ∷ bs)) vip choices) (record d { choices = choices })).legal ≡ true
          → sends_to now vip (b ∷ bs) n (choose_backend (is_backend_of (b ∷ bs)) vip (choices ++ cs)) (record d { choices = choices ++ cs })
          ≡ more_a cs (sends_to now vip (b ∷ bs) n (choose_backend (is_backend_of (b ∷ bs)) vip choices) (record d { choices = choices }))
      by_choices [] g = absurd (false≢true g)
      by_choices (to_port n ∷ choices) g = absurd (false≢true g)
      by_choices (to_backend c ∷ choices) g = ap (λ (a : Act). record a { effects = effect.PickBackend d.copy.regs.dp vip c ∷ a.effects; legal = is_backend_of (b ∷ bs) c; own = is_first_choice n.tuple (b ∷ bs) c })
          (adds_more now n (reversed (towards c n.tuple)) (with_tuple (towards c n.tuple) d.copy.packet) (record d { choices = choices }))

  balances_more : (now : ℕ) (vip : Backend) (bs : List Backend) (n : Newcomer) (d : Doing) → (balances now vip bs n d).legal ≡ true → balances now vip bs n (more_d cs d) ≡ more_a cs (balances now vip bs n d)
  balances_more now vip bs n d h = by_protocol (is_balanced n.tuple.protocol) h
    where
      by_protocol : (b : Bool) → (cond b (balances_over now vip (filter (is_free_backend n.list n.tuple) bs) n d) (goes_next d)).legal ≡ true
          → cond b (balances_over now vip (filter (is_free_backend n.list n.tuple) bs) n (more_d cs d)) (goes_next (more_d cs d)) ≡ more_a cs (cond b (balances_over now vip (filter (is_free_backend n.list n.tuple) bs) n d) (goes_next d))
      by_protocol true g = over_more now vip (filter (is_free_backend n.list n.tuple) bs) n d g
      by_protocol false g = refl

  port_more : (now : ℕ) (b : Bool) (back : Tuple) (n : Newcomer) (d : Doing) → (picks_port now b back n d).legal ≡ true → picks_port now b back n (more_d cs d) ≡ more_a cs (picks_port now b back n d)
  port_more now false back n d h = refl
  port_more now true back n d h = by_choices d.choices h
    where
      by_choices : (choices : List Choice) → (comes_from now back n (choose_port (may_pick n.list back) choices) (record d { choices = choices })).legal ≡ true
          → comes_from now back n (choose_port (may_pick n.list back) (choices ++ cs)) (record d { choices = choices ++ cs }) ≡ more_a cs (comes_from now back n (choose_port (may_pick n.list back) choices) (record d { choices = choices }))
      by_choices [] g = absurd (false≢true g)
      by_choices (to_backend c ∷ choices) g = absurd (false≢true g)
      by_choices (to_port m ∷ choices) g = ap (λ (a : Act). record a { effects = effect.PickPort d.copy.regs.dp m ∷ a.effects; legal = may_pick n.list back m; own = is_least_port n.list back m })
          (adds_more now n (with_port m back) (with_tuple (reversed (with_port m back)) d.copy.packet) (record d { choices = choices }))

  kept_more : (now : ℕ) (b : Bool) (back : Tuple) (n : Newcomer) (d : Doing) → (keeps_port now b back n d).legal ≡ true → keeps_port now b back n (more_d cs d) ≡ more_a cs (keeps_port now b back n d)
  kept_more now true back n d h = adds_more now n _ _ d
  kept_more now false back n d h = port_more now (has_free_port n.list back) back n d h

  hides_more : (now : ℕ) (ip : Ip4) (n : Newcomer) (d : Doing) → (hides_behind now ip n d).legal ≡ true → hides_behind now ip n (more_d cs d) ≡ more_a cs (hides_behind now ip n d)
  hides_more now ip n d h = kept_more now (is_free n.list (reversed (from_address ip n.tuple))) (reversed (from_address ip n.tuple)) n d h

  begins_more : (z : ℕ) (begin : Newcomer → Doing → Act) (d : Doing) → ((n : Newcomer) → (begin n d).legal ≡ true → begin n (more_d cs d) ≡ more_a cs (begin n d)) → (begins z begin d).legal ≡ true → begins z begin (more_d cs d) ≡ more_a cs (begins z begin d)
  begins_more z begin d each h = by_option (newcomer z d.zones d.copy.packet) h
    where
      by_option : (o : Option Newcomer) → (begins_as o begin d).legal ≡ true → begins_as o begin (more_d cs d) ≡ more_a cs (begins_as o begin d)
      by_option None g = refl
      by_option (Some n) g = each n g

  patches_more : (regs : Regs) (d : Doing) → patches regs (more_d cs d) ≡ more_a cs (patches regs d)
  patches_more regs d = by_passes (nat_lt d.copy.passes MAX_HOPS)
    where
      by_passes : (b : Bool) → cond b (turns turn.Leaves (record (more_d cs d) { copy = patched regs d.copy })) (drops HopLimit (more_d cs d)) ≡ more_a cs (cond b (turns turn.Leaves (record d { copy = patched regs d.copy })) (drops HopLimit d))
      by_passes true = refl
      by_passes false = refl

  act_more : (entry : Entry) (now : ℕ) (o : FlowOp) (d : Doing) → (act entry now o d).legal ≡ true → act entry now o (more_d cs d) ≡ more_a cs (act entry now o d)
  act_more entry now (op.Set reg n) d h = refl
  act_more entry now op.OutIsIn d h = refl
  act_more entry now op.Header d h = refl
  act_more entry now op.NextDst d h = refl
  act_more entry now (op.EthSrc mac) d h = refl
  act_more entry now (op.EthDst mac) d h = refl
  act_more entry now (op.ArpReply mac ip) d h = refl
  act_more entry now op.EchoReply d h = refl
  act_more entry now op.DecTtl d h = refl
  act_more entry now (op.Find z) d h = refl
  act_more entry now op.Undo d h = refl
  act_more entry now op.Translate d h = refl
  act_more entry now op.Touch d h = refl
  act_more entry now op.Block d h = refl
  act_more entry now op.Unblock d h = refl
  act_more entry now (op.Commit z) d h = begins_more (zone_number z d.copy.regs) (commits now) d (λ n g. adds_more now n _ _ d) h
  act_more entry now (op.Dnat z ip) d h = begins_more (zone_number z d.copy.regs) (translates_to now ip) d (λ n g. adds_more now n _ _ d) h
  act_more entry now (op.Snat z ip) d h = begins_more (zone_number z d.copy.regs) (hides_behind now ip) d (λ n g. hides_more now ip n d g) h
  act_more entry now (op.Balance z vip bs) d h = begins_more (zone_number z d.copy.regs) (balances now vip bs) d (λ n g. balances_more now vip bs n d g) h
  act_more entry now (op.Go table) d h = refl
  act_more entry now (op.Drop cause) d h = refl
  act_more entry now (op.Frame chassis) d h = refl
  act_more entry now (op.Copies members) d h = refl
  act_more entry now (op.Output port) d h = refl
  act_more entry now (op.Patch dp in_port z_dnat z_snat) d h = patches_more _ d

  -- so do all actions of a flow
  outcome_more : (entry : Entry) (now : ℕ) (ops : List FlowOp) (d : Doing) → (outcome entry now ops d).legal ≡ true → outcome entry now ops (more_d cs d) ≡ more_o cs (outcome entry now ops d)
  outcome_more entry now [] d h = refl
  outcome_more entry now (o ∷ ops) d h =
      let a = act entry now o d in
      let one : act entry now o (more_d cs d) ≡ more_a cs a = act_more entry now o d (first_so a.legal _ h) in
      ap (λ (b : Act). with_act b (after_turn b.turn b.after (outcome entry now ops))) one ∙ ap (λ (r : FlowOutcome). with_act a r) (by_turn a.turn a.after (outcome_more entry now ops) (second_so a.legal _ h))
    where
      by_turn : (t : Turn) (next : Doing) → ((n : Doing) → (outcome entry now ops n).legal ≡ true → outcome entry now ops (more_d cs n) ≡ more_o cs (outcome entry now ops n)) → (after_turn t next (outcome entry now ops)).legal ≡ true → after_turn t (more_d cs next) (outcome entry now ops) ≡ more_o cs (after_turn t next (outcome entry now ops))
      by_turn turn.Next next each g = each next g
      by_turn turn.Leaves next each g = refl
      by_turn turn.Ends next each g = refl

-- ---- two walks

-- a copy that no flow matches picks nothing
no_picks : (entry : Entry) (copy : Carried) → picks_in (unmatched entry copy) ≡ []
no_picks entry copy = by_table (nat_eq copy.table LOCAL_TABLE) entry
  where
    by_from : (b : Bool) → picks_in (cond b effect.Lost (drop_at copy.table Unbound copy.regs) ∷ []) ≡ []
    by_from true = refl
    by_from false = refl

    by_table : (b : Bool) (en : Entry) → picks_in (cond b (stray en copy ∷ []) []) ≡ []
    by_table true (Vif port) = refl
    by_table true (Tunnel vni in_key out_key) = by_from (nat_eq copy.from 0)
    by_table false en = refl

-- the same actions, whose choices begin equal lists
same_outcome : (entry : Entry) (now : ℕ) (ops : List FlowOp) (copy : Carried) (zones : ZoneLists) (told other : List Effect) (rest more : List Choice)
    → IsDone any_legal (outcome entry now ops (choosing copy zones told)) told → IsDone any_legal (outcome entry now ops (choosing copy zones other)) other → picks_in told ++ rest ≡ picks_in other ++ more
    → more_o rest (outcome entry now ops (choosing copy zones told)) ≡ more_o more (outcome entry now ops (choosing copy zones other))
same_outcome entry now ops copy zones told other rest more a b same =
    sym (outcome_more rest entry now ops (choosing copy zones told) a.admitted)
    ∙ ap (λ (cs : List Choice). outcome entry now ops (record { copy = copy; zones = zones; choices = cs })) same
    ∙ outcome_more more entry now ops (choosing copy zones other) b.admitted

module _ (flows : List Flow) (entry : Entry) (now : ℕ) (agree : BestAgree flows) where
  one : (before other_before after other_after : ZoneLists) (copies other_copies : List Carried) (steps others : List Step) (effects other_effects : List Effect)
      → IsWalk any_legal flows entry now before copies steps effects after → IsWalk any_legal flows entry now other_before other_copies others other_effects other_after
      → before ≡ other_before → copies ≡ other_copies → picks_in effects ≡ picks_in other_effects → AreOne steps others effects other_effects after other_after
  one _ _ _ _ _ _ _ _ _ _ (over zones) (over other) z e p = record { same_effects = refl; same_zones = z; same_lengths = refl }
  one _ _ _ _ _ _ _ _ _ _ (over zones) (ends zones' last copy rest steps more all none walk is) z e p = absurd (cc e)
  one _ _ _ _ _ _ _ _ _ _ (over zones) (takes zones' last copy rest step steps told more all here best done walk is) z e p = absurd (cc e)
  one _ _ _ _ _ _ _ _ _ _ (ends zones' last copy rest steps more all none walk is) (over zones) z e p = absurd (cc e)
  one _ _ _ _ _ _ _ _ _ _ (takes zones' last copy rest step steps told more all here best done walk is) (over zones) z e p = absurd (cc e)
  one _ _ _ _ _ _ _ _ _ _ (ends zones last copy rest steps more all none walk is) (ends zones' last' copy' rest' steps' more' all' none' walk' is') z e p =
      let c : copy ≡ copy' = cons_first e in
      let u : unmatched entry copy ≡ unmatched entry copy' = ap (unmatched entry) c in
      let split : picks_in (unmatched entry copy) ++ picks_in more ≡ picks_in (unmatched entry copy') ++ picks_in more' =
      sym (picks_both (unmatched entry copy) more) ∙ ap picks_in (sym is) ∙ p ∙ ap picks_in is' ∙ picks_both (unmatched entry copy') more' in
      let tails : picks_in more ≡ picks_in more' =
      ap (λ cs. cs ++ picks_in more) (sym (no_picks entry copy)) ∙ split ∙ ap (λ cs. cs ++ picks_in more') (no_picks entry copy') in
      let r = one zones zones' last last' rest rest' steps steps' more more' walk walk' z (cons_rest e) tails in
      record { same_effects = is ∙ ap (λ es. es ++ more) u ∙ ap (λ es. unmatched entry copy' ++ es) r.same_effects ∙ sym is'; same_zones = r.same_zones; same_lengths = r.same_lengths }
  one _ _ _ _ _ _ _ _ _ _ (ends zones last copy rest steps more all none walk is) (takes zones' last' copy' rest' step' steps' told' more' all' here' best' done' walk' is') z e p =
      let c : copy ≡ copy' = cons_first e in
      absurd (none step'.flow best'.held (subst (λ (x : Carried). Matches step'.flow x.table x.regs x.packet) (sym c) best'.matching))
  one _ _ _ _ _ _ _ _ _ _ (takes zones last copy rest step steps told more all here best done walk is) (ends zones' last' copy' rest' steps' more' all' none' walk' is') z e p =
      let c : copy ≡ copy' = cons_first e in
      absurd (none' step.flow best.held (subst (λ (x : Carried). Matches step.flow x.table x.regs x.packet) c best.matching))
  one _ _ _ _ _ _ _ _ _ _ (takes zones last copy rest step steps told more all here best done walk is) (takes zones' last' copy' rest' step' steps' told' more' all' here' best' done' walk' is') z e p =
      let c : copy' ≡ copy = sym (cons_first e) in
      let ops : step'.flow.ops ≡ step.flow.ops =
      agree copy.table copy.regs copy.packet step'.flow step.flow (subst (λ (x : Carried). IsBest flows x.table x.regs x.packet step'.flow) c best') best in
      let o : FlowOutcome = outcome entry now step.flow.ops (choosing copy zones told) in
      let o' : FlowOutcome = outcome entry now step.flow.ops (choosing copy zones told') in
      let is_other : outcome entry now step'.flow.ops (choosing copy' zones' told') ≡ o' =
      ap (λ os. outcome entry now os (choosing copy' zones' told')) ops ∙ ap (λ x. outcome entry now step.flow.ops (choosing x zones' told')) c ∙ ap (λ x. outcome entry now step.flow.ops (choosing copy x told')) (sym z) in
      let done_other : IsDone any_legal o' told' = subst (λ x. IsDone any_legal x told') is_other done' in
      let heads : picks_in told ++ picks_in more ≡ picks_in told' ++ picks_in more' = sym (picks_both told more) ∙ ap picks_in (sym is) ∙ p ∙ ap picks_in is' ∙ picks_both told' more' in
      let same : more_o (picks_in more) o ≡ more_o (picks_in more') o' = same_outcome entry now step.flow.ops copy zones told told' (picks_in more) (picks_in more') done done_other heads in
      let t : told ≡ told' = sym done.effects ∙ ap (λ (x : FlowOutcome). x.effects) same ∙ done_other.effects in
      let tails : picks_in more ≡ picks_in more' = ap (λ cs. cs ++ picks_in more) (sym done.used) ∙ ap (λ (x : FlowOutcome). x.left) same ∙ ap (λ cs. cs ++ picks_in more') done_other.used in
      let on : going_on o ++ rest ≡ going_on (outcome entry now step'.flow.ops (choosing copy' zones' told')) ++ rest' =
      ap (λ (x : FlowOutcome). going_on x ++ rest) same ∙ ap (λ (x : FlowOutcome). going_on x ++ rest) (sym is_other) ∙ ap (λ cs. going_on (outcome entry now step'.flow.ops (choosing copy' zones' told')) ++ cs) (cons_rest e) in
      let zs : o.zones ≡ (outcome entry now step'.flow.ops (choosing copy' zones' told')).zones = ap (λ (x : FlowOutcome). x.zones) same ∙ ap (λ (x : FlowOutcome). x.zones) (sym is_other) in
      let r = one o.zones _ last last' (going_on o ++ rest) _ steps steps' more more' walk walk' zs on tails in
      record { same_effects = is ∙ ap (λ es. es ++ more) t ∙ ap (λ es. told' ++ es) r.same_effects ∙ sym is'; same_zones = r.same_zones; same_lengths = ap suc r.same_lengths }

pub walks_one : WalksAreOne
walks_one flows entry now packet before after other_after steps others effects other_effects agree walk other p =
    one flows entry now agree before before after other_after (start entry packet ∷ []) (start entry packet ∷ []) steps others effects other_effects walk other refl refl p
