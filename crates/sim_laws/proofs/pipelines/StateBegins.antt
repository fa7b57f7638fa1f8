-- In the stages of state: a packet that begins a connection.
use Rattle.std.specs.Prelude.{◌≡◌, ◌++◌, ◌&&◌, ℕ, Bool, true, false, List, [], ◌∷◌, Option, Some, Result, Ok, Err, refl}
use Rattle.std.specs.List.{filter}
use Rattle.std.proofs.Common.{sym, ap, ◌∙◌, append_assoc}
use Rattle.conn_table.specs.Connections.{ConnectionList, committed}
use Rattle.conn_table.specs.Picks.{Choice, to_backend, towards, is_free_backend, is_backend_of}
use Rattle.conn_table.specs.Tracking.{new, seen}
use Rattle.conn_table.specs.Tuples.{tuple_of, reversed, with_tuple, is_echo_reply}
use Rattle.conn_table.specs.declared.connection.CommitFault.{CommitFault}
use Rattle.conn_table.specs.declared.tuple.Tuple.{Tuple}
use Rattle.flow_table.specs.declared.flow.Cause.TheVariants as cause
use Rattle.inet_packet.specs.Whole.{IsWhole}
use Rattle.inet_packet.specs.declared.packet.Packet.{Packet}
use Rattle.logical_flows.specs.declared.action.Action.TheVariants as a
use Rattle.net_model.specs.Balancing.{after_commit, commit_or_drop, pick_backend}
use Rattle.net_model.specs.Tracking.{desk_of}
use Rattle.net_model.specs.Trail.{Trail, Lists, End, is_dropped, picks_backend, spot_of, drop_for, finally}
use Rattle.ovn_base.specs.declared.address.Backend.{Backend}
use Rattle.stage_rows.specs.Rows.{table_behind, go_on}
use Rattle.switch_engine.specs.Actions.{gone_on}
use Rattle.switch_engine.specs.Commits.{Newcomer, newcomer_seen, newcomer_in, newcomer, is_balanced}
use Rattle.switch_engine.specs.Commits.{commit_cause as engine_cause}
use Rattle.switch_engine.specs.Zones.{zone_number, with_zone}
use Rattle.switch_engine.specs.declared.carried.Carried.{Carried}
use Rattle.sim_laws.proofs.pipelines.Copies.{drop_number, drops_so, goes_so, has_datapath_key}
use Rattle.sim_laws.proofs.pipelines.Doings.{commit_does, balance_does, Begins, Picks, Balances}
use Rattle.sim_laws.proofs.pipelines.KnownConnections.{whole_tuple, reversed_within}
use Rattle.sim_laws.proofs.pipelines.NewConnections.{same_cause, pair_back, pair_from, committed_good}
use Rattle.sim_laws.proofs.pipelines.Seeing.{IsOfPacket, tuple_is}
use Rattle.sim_laws.proofs.pipelines.StateCarried.{BeforeState, list, with_own, holds_own, stands_with, passage, StepOf, CameBy}
use Rattle.sim_laws.specs.Naming.IsNumbered.{to_backend as names_backend}
use Rattle.sim_laws.specs.pipelines.HeldLists.{IsTupleWithin, IsGoodList}
use Rattle.sim_laws.specs.pipelines.Pieces.{Piece, trail_with, goes_on, has_ended, ComesTo}
use Rattle.sim_laws.specs.pipelines.Standing.{Chassis, IsLaidOut, zone_of}

module _ (s : Chassis) (laid : IsLaidOut s) (st : BeforeState s) (t : Tuple) (is : seen (list s laid st) st.before.c.sight.packet ≡ new t) (has : tuple_of st.before.c.sight.packet ≡ Some t)
    (no_reply : is_echo_reply t.protocol ≡ false) where
  open st use {before, own as o, Goes, so}
  open before use {stage, way, c, lists, zones, copy, here as h, place}

  abbrev zone_here : ℕ
  zone_here = zone_number (zone_of way) copy.regs

  abbrev own : ConnectionList
  own = list s laid st

  abbrev lists_with : ConnectionList → Lists
  lists_with l = with_own s laid st l

  abbrev comer : Newcomer
  comer = record { zone = zone_here; list = own; tuple = t }

  abbrev p : Packet
  p = c.sight.packet

  comes : newcomer zone_here zones copy.packet ≡ Some comer
  comes =
      ap (λ (x : Option ConnectionList). newcomer_in zone_here x copy.packet) o.held
      ∙ ap (λ (q : Packet). newcomer_seen zone_here own (seen own q)) h.stands.packet
      ∙ ap (newcomer_seen zone_here own) is

  of_packet : IsOfPacket t
  of_packet = tuple_is p h.stands.at_port.whole t has

  -- the copy goes on, with the connection in the list
  goes_with : (q : Packet) → IsWhole q → (l : ConnectionList) → IsGoodList l → (next : Carried) → next.table ≡ table_behind stage → next.packet ≡ q → next.regs ≡ copy.regs → next.passes ≡ copy.passes
      → Goes (lists_with l) q (with_zone zones zone_here l) next
  goes_with q whole l good next in_table packet regs passes =
      so (lists_with l) q (with_zone zones zone_here l) next
      (stands_with s laid st q whole (lists_with l) (with_zone zones zone_here l)
      (holds_own s laid st l good) next in_table packet regs passes)

  -- ---- without a choice

  abbrev pub commit_piece : Piece Packet
  commit_piece rest u = finally (commit_or_drop (desk_of (passage s laid st)) t (reversed t) u p) rest

  abbrev ends_as : Result ConnectionList CommitFault → (Trail → Packet → Trail) → List Choice → List End → Packet → Trail
  ends_as r rest choices ends q = finally (after_commit (desk_of (passage s laid st)) r (trail_with lists choices ends) q) rest

  begins : (r : Result ConnectionList CommitFault) → committed own t (reversed t) s.scene.now ≡ r → Begins s zones copy (ComesTo s commit_piece lists Goes) (table_behind stage) comer r
  begins (Ok l) ends =
      let good = committed_good own o.good p t (reversed t) s.scene.now is has (pair_back t of_packet no_reply) of_packet.within (reversed_within t of_packet.within) l ends in
      goes_so s commit_piece lists (lists_with l) Goes (with_zone zones zone_here l) p (gone_on (table_behind stage) copy)
      (goes_with p h.stands.at_port.whole l good (gone_on (table_behind stage) copy) refl h.stands.packet refl refl)
      (λ rest choices told. ap (λ r. ends_as r rest choices told p) ends)
  begins (Err why) ends =
      drops_so s h.stands place (engine_cause why) commit_piece lists lists Goes zones h.stands.hold
      (λ rest choices told. ap (λ r. ends_as r rest choices told p) ends ∙ ap (λ k. drop_for k (spot_of c.port) (trail_with lists choices told)) (sym (same_cause why)))

  pub commit_step : StepOf s laid st (a.Commit (zone_of way) ∷ go_on stage ∷ [])
      → CameBy s laid st commit_piece
  commit_step step =
      let So = ComesTo s commit_piece lists Goes in
      step So (commit_does s zones copy So (zone_of way) (table_behind stage) comer comes (begins (committed own t (reversed t) s.scene.now) refl))

  -- ---- a backend

  module _ (vip : Backend) (backends : List Backend) (tcp : is_balanced t.protocol ≡ true)
      (within : (b : Backend) → is_backend_of (filter (is_free_backend own t) backends) b ≡ true → IsTupleWithin (towards b t)) where
    abbrev pub pick_piece : Piece Packet
    pick_piece rest u = finally (pick_backend (desk_of (passage s laid st)) t vip (filter (is_free_backend own t) backends) u p) rest

    abbrev pub pick_among : List Backend → Piece Packet
    pick_among legal rest u = finally (pick_backend (desk_of (passage s laid st)) t vip legal u p) rest

    module _ (x : Backend) (xs : List Backend) (each : (b : Backend) → is_backend_of (x ∷ xs) b ≡ true → IsTupleWithin (towards b t)) (b : Backend) (legal : is_backend_of (x ∷ xs) b ≡ true) where
      abbrev q : Packet
      q = with_tuple (towards b t) p

      abbrev pick : End
      pick = picks_backend c.port.switch vip b

      -- the choice is legal, and is told
      chosen : (r : Result ConnectionList CommitFault) → committed own t (reversed (towards b t)) s.scene.now ≡ r → (rest : Trail → Packet → Trail) (choices : List Choice) (ends : List End)
          → pick_among (x ∷ xs) rest (trail_with lists (to_backend b ∷ choices) ends) ≡ ends_as r rest choices (ends ++ pick ∷ []) q
      chosen r is rest choices ends =
          ap (λ (l : Bool). finally (commit_or_drop (desk_of (passage s laid st)) t (reversed (towards b t))
          (record (trail_with lists choices (ends ++ pick ∷ [])) { legal = true && l }) q) rest) legal
          ∙ ap (λ k. ends_as k rest choices (ends ++ pick ∷ []) q) is

      picked : (r : Result ConnectionList CommitFault) → committed own t (reversed (towards b t)) s.scene.now ≡ r → Picks s zones copy (ComesTo s (pick_among (x ∷ xs)) lists Goes) (table_behind stage) vip comer b r
      picked (Ok l) ends =
          let good = committed_good own o.good p t (reversed (towards b t)) s.scene.now is has (pair_from t b of_packet no_reply tcp) of_packet.within (reversed_within (towards b t) (each b legal)) l ends in
          let next : Carried = gone_on (table_behind stage) (record copy { packet = with_tuple (towards b t) copy.packet }) in
          record {
            own = pick ∷ [];
            numbered = (names_backend (has_datapath_key h.stands.numbers.on), tt);
            landing = goes_on (lists_with l) q;
            is = λ rest choices told. chosen (Ok l) ends rest choices told;
            lands = (next, refl, goes_with q (whole_tuple (towards b t) p (each b legal) h.stands.at_port.whole) l good next refl (ap (with_tuple (towards b t)) h.stands.packet) refl refl);
          }
      picked (Err why) ends = record {
        own = pick ∷ is_dropped c.port.switch c.port.name (engine_cause why) ∷ [];
        numbered = (names_backend (has_datapath_key h.stands.numbers.on), (drop_number s h.stands place (engine_cause why), tt));
        landing = has_ended lists;
        is = λ rest choices told.
            chosen (Err why) ends rest choices told
            ∙ ap (λ k. drop_for k (spot_of c.port) (trail_with lists choices (told ++ pick ∷ []))) (sym (same_cause why))
            ∙ ap (λ l. trail_with lists choices l) (append_assoc told (pick ∷ []) (is_dropped c.port.switch c.port.name (engine_cause why) ∷ []));
        lands = (refl, h.stands.hold);
      }

    balances : (legal : List Backend) → ((b : Backend) → is_backend_of legal b ≡ true → IsTupleWithin (towards b t)) → Balances s zones copy (ComesTo s (pick_among legal) lists Goes) (table_behind stage) vip comer legal
    balances [] each = drops_so s h.stands place cause.NoLiveBackend (pick_among []) lists lists Goes zones h.stands.hold (λ rest choices ends. refl)
    balances (x ∷ xs) each = λ b legal. picked x xs each b legal (committed own t (reversed (towards b t)) s.scene.now) refl

    pub balance_step : StepOf s laid st (a.Balance (zone_of way) vip backends ∷ go_on stage ∷ [])
        → CameBy s laid st pick_piece
    balance_step step =
        let So = ComesTo s pick_piece lists Goes in
        step So (balance_does s zones copy So (zone_of way) vip backends (table_behind stage) comer comes tcp (balances (filter (is_free_backend own t) backends) within))
