-- In the stages of state: a packet of a connection that is known.
use Rattle.std.specs.Prelude.{◌≡◌, ℕ, nat_eq, Bool, true, false, List, [], ◌∷◌, Option, Some, None, refl}
use Rattle.std.proofs.Common.{sym, ap, ◌∙◌, subst}
use Rattle.conn_table.specs.Connections.{ConnectionList, entry_of, changed, touched, blocked_as}
use Rattle.conn_table.specs.Picks.{Choice}
use Rattle.conn_table.specs.Tracking.{slot_of}
use Rattle.conn_table.specs.Tuples.{tuple_of, reversed}
use Rattle.conn_table.specs.declared.connection.Entry.{Entry}
use Rattle.conn_table.specs.declared.connection.State.{State}
use Rattle.conn_table.specs.declared.connection.State.TheVariants as states
use Rattle.flow_lowering.specs.Registers.{reg_number}
use Rattle.flow_table.specs.declared.flow.Cause.{Cause}
use Rattle.flow_table.specs.declared.flow.Cause.TheVariants as cause
use Rattle.inet_packet.specs.Whole.{IsWhole}
use Rattle.inet_packet.specs.declared.packet.Packet.{Packet}
use Rattle.inet_packet.specs.declared.regs.Regs.{Regs}
use Rattle.logical_flows.specs.declared.action.Action.{Action}
use Rattle.match_language.specs.declared.field.Direction.{Direction}
use Rattle.net_model.specs.Tracking.{Passage, take_reply, take_forward, translated_onward, translated_back}
use Rattle.net_model.specs.Trail.{Trail, Lists, End, of_port, list_of, with_list, spot_of, drop_for, finally}
use Rattle.net_model.specs.Verdict.{Verdict}
use Rattle.row_laws.specs.StageActions.{reply_actions, forward_actions}
use Rattle.stage_rows.specs.Rows.{table_behind}
use Rattle.switch_engine.specs.Actions.{gone_on, drop_at}
use Rattle.switch_engine.specs.Tracking.{entry_changed, found_changed, translated_in, translated_by, found_translates}
use Rattle.switch_engine.specs.Zones.{ZoneLists, zone_number, zone_at, with_zone, over_list}
use Rattle.switch_engine.specs.declared.carried.Carried.{Carried}
use Rattle.switch_engine.specs.declared.carried.Found.{Found}
use Rattle.sim_laws.proofs.pipelines.Copies.{drops_so, goes_so, reworded, stands_still}
use Rattle.sim_laws.proofs.pipelines.Doings.{drop_does, touch_does, block_does, unblock_does}
use Rattle.sim_laws.proofs.pipelines.GoodLists.{LeavesTuples, changed_found, changed_good, found_within}
use Rattle.sim_laws.proofs.pipelines.HeldLists.{held_after, own_zone}
use Rattle.sim_laws.proofs.pipelines.KnownConnections.{touches, blocks, changed_twice, whole_tuple, reversed_within, IsEntryOf, goes_onward, goes_back}
use Rattle.sim_laws.proofs.pipelines.Noting.{Stands, IsOwnZone, BeforeStage, Step, Came}
use Rattle.sim_laws.proofs.pipelines.SetValues.{set_twice}
use Rattle.sim_laws.specs.pipelines.HeldLists.{HoldLists, IsGoodList}
use Rattle.sim_laws.specs.pipelines.Pieces.{Piece, trail_with, ComesTo}
use Rattle.sim_laws.specs.pipelines.Standing.{Chassis, net_of, IsLaidOut, zone_of}

-- a copy that stands before a stage of state, with the zone of its port, as it passes the port under a verdict; and how the rest of the way begins
pub record BeforeState (s : Chassis) : Type 1 where
  pub before : BeforeStage s
  pub has_zone : s.number (of_port before.c.port.name) ≡ Some (zone_number (zone_of before.way) before.copy.regs)
  pub own : IsOwnZone before.zones before.lists (of_port before.c.port.name) (zone_number (zone_of before.way) before.copy.regs)
  pub dir : Direction
  pub verdict : Verdict
  pub Goes : Lists → Packet → ZoneLists → Carried → Type 0
  pub so : (after : Lists) (q : Packet) (last : ZoneLists) (next : Carried)
      → Stands s before.way (table_behind before.stage) before.first (reworded before.c q before.c.words) after last next → Goes after q last next

module _ (s : Chassis) (laid : IsLaidOut s) (st : BeforeState s) where
  open st use {before, has_zone, own as o, dir, verdict as v, Goes, so}
  open before use {stage, way, first, c, lists, zones, copy, here as h, place}

  abbrev pub z : ℕ
  z = zone_number (zone_of way) copy.regs

  abbrev pub list : ConnectionList
  list = list_of lists (of_port c.port.name)

  -- the lists, and the zones, with another list of the port
  abbrev pub with_own : ConnectionList → Lists
  with_own l = with_list lists (of_port c.port.name) l

  pub holds_own : (l : ConnectionList) → IsGoodList l → HoldLists s.number (with_zone zones z l) (with_own l)
  holds_own l good = held_after s.number laid.apart zones lists h.stands.hold (of_port c.port.name) z has_zone l good

  -- the copy before the next table, with another packet and other lists
  pub stands_with : (q : Packet) → IsWhole q → (after : Lists) (last : ZoneLists) → HoldLists s.number last after → (new : Carried) → new.table ≡ table_behind stage → new.packet ≡ q → new.regs ≡ copy.regs → new.passes ≡ copy.passes
      → Stands s way (table_behind stage) first (reworded c q c.words) after last new
  stands_with q whole after last hold new in_table packet regs passes = record {
    stands = stands_still s h.stands q whole after last hold (table_behind stage) new in_table packet regs;
    still = record {
      passes = passes ∙ h.still.passes;
      entry = ap (λ (r : Regs). r.at) regs ∙ h.still.entry;
      registers = λ r free. ap (λ (x : Regs). reg_number r x) regs ∙ h.still.registers r free;
    };
  }

  -- ---- the entry

  module _ (e : Entry) (is : entry_of list e.forward ≡ Some e) (state : State) (changes : (f : Entry → Entry) (l : ConnectionList) → entry_changed f state l ≡ changed f e.forward l)
      (found : copy.found ≡ Some (record { zone = z; state = state })) where
    changed_zone : (f : Entry → Entry) (zs : ZoneLists) (l : ConnectionList) → zone_at zs z ≡ Some l → found_changed f copy.found zs ≡ with_zone zs z (changed f e.forward l)
    changed_zone f zs l held =
        ap (λ (x : Option Found). found_changed f x zs) found
        ∙ ap (λ (x : Option ConnectionList). over_list (entry_changed f state) z zs x) held
        ∙ ap (λ (x : ConnectionList). with_zone zs z x) (changes f l)

    module _ (f : Entry → Entry) (leaves : LeavesTuples f) where
      abbrev written : ConnectionList
      written = changed f e.forward list

      written_good : IsGoodList written
      written_good = changed_good f leaves list o.good e.forward

      entry_stays : IsEntryOf written e
      entry_stays = record { there = f e; is = changed_found f leaves list o.good e.forward e is; forward = leaves.forward e; reply = leaves.reply e }

      -- it is dropped
      dropped_so : (why : Cause) (piece : Piece Packet) (last : ZoneLists) → last ≡ with_zone zones z written
          → ((rest : Trail → Packet → Trail) (choices : List Choice) (ends : List End) → piece rest (trail_with lists choices ends) ≡ drop_for why (spot_of c.port) (trail_with (with_own written) choices ends))
          → ComesTo s piece lists Goes (drop_at copy.table why copy.regs ∷ []) last []
      dropped_so why piece last same says =
          subst (λ (zs : ZoneLists). ComesTo s piece lists Goes (drop_at copy.table why copy.regs ∷ []) zs []) (sym same)
          (drops_so s h.stands place why piece lists (with_own written) Goes (with_zone zones z written) (holds_own written written_good) says)

      -- it goes on, translated
      carried_so : (q : Packet) → IsWhole q → ((l : ConnectionList) → IsEntryOf l e → translated_by l state c.sight.packet ≡ q) → (piece : Piece Packet) (last : ZoneLists) → last ≡ with_zone zones z written
          → ((rest : Trail → Packet → Trail) (choices : List Choice) (ends : List End) → piece rest (trail_with lists choices ends) ≡ rest (trail_with (with_own written) choices ends) q)
          → ComesTo s piece lists Goes [] last (gone_on (table_behind stage) (record copy { packet = found_translates copy.found last copy.packet }) ∷ [])
      carried_so q whole becomes piece last same says =
          let there : ZoneLists = with_zone zones z written in
          let new : Carried = gone_on (table_behind stage) (record copy { packet = q }) in
          let packet : found_translates copy.found there copy.packet ≡ q =
          ap (λ (x : Option Found). found_translates x there copy.packet) found
          ∙ ap (λ (x : Option ConnectionList). translated_in x state copy.packet) (own_zone zones z written list o.held)
          ∙ ap (λ (p : Packet). translated_by written state p) h.stands.packet
          ∙ becomes written entry_stays in
          let goes = so (with_own written) q there new (stands_with q whole (with_own written) there (holds_own written written_good) new refl refl refl refl) in
          subst (λ (zs : ZoneLists). ComesTo s piece lists Goes [] zs (gone_on (table_behind stage) (record copy { packet = found_translates copy.found zs copy.packet }) ∷ [])) (sym same)
          (subst (λ (p : Packet). ComesTo s piece lists Goes [] there (gone_on (table_behind stage) (record copy { packet = p }) ∷ [])) (sym packet)
          (goes_so s piece lists (with_own written) Goes there q new goes says))

  abbrev pub StepOf : List Action → Type 1
  StepOf actions = Step s before actions

  abbrev pub CameBy : Piece Packet → Type 0
  CameBy piece = Came s before piece Goes

  -- the packet passes the port
  abbrev pub passage : Passage
  passage = record { net = net_of s; now = s.scene.now; way = dir; port = c.port; verdict = v }

  -- ---- an answer

  module _ (e : Entry) (is : entry_of list e.forward ≡ Some e) (has : tuple_of c.sight.packet ≡ Some e.reply)
      (found : copy.found ≡ Some (record { zone = z; state = states.Reply (slot_of e) })) where
    abbrev pub reply_piece : Bool → Piece Packet
    reply_piece b rest t = finally (take_reply b passage e t c.sight.packet) rest

    pub reply_step : (b : Bool) → StepOf (reply_actions stage b) → CameBy (reply_piece b)
    reply_step true step =
        let So = ComesTo s (reply_piece true) lists Goes in
        step So (drop_does s zones copy So cause.Blocked (drops_so s h.stands place cause.Blocked (reply_piece true) lists lists Goes zones h.stands.hold (λ rest choices ends. refl)))
    reply_step false step =
        let So = ComesTo s (reply_piece false) lists Goes in
        let whole = whole_tuple (reversed e.forward) c.sight.packet (reversed_within e.forward (found_within list o.good e.forward e is).forward) h.stands.at_port.whole in
        step So (touch_does s zones copy So (table_behind stage)
        (carried_so e is (states.Reply (slot_of e)) (λ f l. refl) found (touched s.scene.now) (touches s.scene.now) (translated_back e c.sight.packet) whole
        (λ l there. goes_back l e there c.sight.packet has) (reply_piece false) (found_changed (touched s.scene.now) copy.found zones)
        (changed_zone e is (states.Reply (slot_of e)) (λ f l. refl) found (touched s.scene.now) zones list o.held)
        (λ rest choices ends. refl)))

  -- ---- as it goes on

  module _ (e : Entry) (is : entry_of list e.forward ≡ Some e) (has : tuple_of c.sight.packet ≡ Some e.forward)
      (found : copy.found ≡ Some (record { zone = z; state = states.Forward (slot_of e) })) where
    abbrev pub forward_piece : Option Cause → Piece Packet
    forward_piece why rest t = finally (take_forward why passage e t c.sight.packet) rest

    abbrev frees : Entry → Entry
    frees x = touched s.scene.now (blocked_as false x)

    -- unblocked, and then used
    freed_zone : found_changed (touched s.scene.now) copy.found (found_changed (blocked_as false) copy.found zones) ≡ with_zone zones z (changed frees e.forward list)
    freed_zone =
        let one = changed (blocked_as false) e.forward list in
        ap (λ (zs : ZoneLists). found_changed (touched s.scene.now) copy.found zs) (changed_zone e is (states.Forward (slot_of e)) (λ f l. refl) found (blocked_as false) zones list o.held)
        ∙ changed_zone e is (states.Forward (slot_of e)) (λ f l. refl) found (touched s.scene.now) (with_zone zones z one) one (own_zone zones z one list o.held)
        ∙ set_twice (nat_eq z) zones one (changed (touched s.scene.now) e.forward one)
        ∙ ap (λ (l : ConnectionList). with_zone zones z l) (changed_twice (blocked_as false) (touched s.scene.now) (blocks false) list o.good e.forward e is)

    pub forward_step : (why : Option Cause) → StepOf (forward_actions stage why) → CameBy (forward_piece why)
    forward_step (Some why) step =
        let So = ComesTo s (forward_piece (Some why)) lists Goes in
        step So (block_does s zones copy So why
        (dropped_so e is (states.Forward (slot_of e)) (λ f l. refl) found (blocked_as true) (blocks true) why (forward_piece (Some why)) (found_changed (blocked_as true) copy.found zones)
        (changed_zone e is (states.Forward (slot_of e)) (λ f l. refl) found (blocked_as true) zones list o.held) (λ rest choices ends. refl)))
    forward_step None step =
        let So = ComesTo s (forward_piece None) lists Goes in
        let whole = whole_tuple (reversed e.reply) c.sight.packet (reversed_within e.reply (found_within list o.good e.forward e is).reply) h.stands.at_port.whole in
        step So (unblock_does s zones copy So (table_behind stage)
        (carried_so e is (states.Forward (slot_of e)) (λ f l. refl) found frees (record { forward = λ x. refl; reply = λ x. refl }) (translated_onward e c.sight.packet) whole
        (λ l there. goes_onward l e there c.sight.packet has) (forward_piece None) (found_changed (touched s.scene.now) copy.found (found_changed (blocked_as false) copy.found zones)) freed_zone
        (λ rest choices ends. refl)))
