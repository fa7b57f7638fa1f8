-- At a stage of NAT: a packet that begins a connection, translated by it.
use Rattle.std.specs.Prelude.{◌≡◌, ◌++◌, List, [], ◌∷◌, Option, Some, Result, Ok, Err, refl}
use Rattle.std.specs.List.{AllZip}
use Rattle.std.proofs.Common.{sym, ap, ◌∙◌, append_assoc, append-nil}
use Rattle.conn_table.specs.Connections.{ConnectionList, committed, IsPair}
use Rattle.conn_table.specs.Picks.{Choice}
use Rattle.conn_table.specs.Tracking.{new, seen}
use Rattle.conn_table.specs.Tuples.{tuple_of}
use Rattle.conn_table.specs.declared.connection.CommitFault.{CommitFault}
use Rattle.conn_table.specs.declared.tuple.Tuple.{Tuple}
use Rattle.inet_packet.specs.Whole.{IsWhole}
use Rattle.inet_packet.specs.declared.packet.Packet.{Packet}
use Rattle.net_model.specs.Balancing.{Desk, after_commit, commit_or_drop}
use Rattle.net_model.specs.Headers.{carries_ip4}
use Rattle.net_model.specs.Trail.{Trail, End, is_dropped, drop_for, finally}
use Rattle.switch_engine.specs.Actions.{drop_at, gone_on}
use Rattle.switch_engine.specs.Commits.{Newcomer, newcomer_seen, newcomer_in, newcomer}
use Rattle.switch_engine.specs.Commits.{commit_cause as engine_cause}
use Rattle.switch_engine.specs.Outcome.{picks_in}
use Rattle.switch_engine.specs.Zones.{with_zone}
use Rattle.switch_engine.specs.declared.carried.Carried.{Carried}
use Rattle.switch_engine.specs.declared.effect.Effect.{Effect}
use Rattle.sim_laws.proofs.pipelines.NewConnections.{same_cause, committed_good}
use Rattle.sim_laws.proofs.pipelines.Pieces.{zip_append}
use Rattle.sim_laws.proofs.pipelines.Seeing.{IsOfPacket, tuple_is}
use Rattle.sim_laws.proofs.router_lists.AtSpots.{AtSpot, z, list, Goes, lists_with, own, holds_own, goes_with, drop_number}
use Rattle.sim_laws.proofs.router_lists.ListDoings.{Adds}
use Rattle.sim_laws.specs.Naming.{IsNumbered}
use Rattle.sim_laws.specs.pipelines.HeldLists.{IsTupleWithin}
use Rattle.sim_laws.specs.pipelines.Pieces.{Piece, trail_with, goes_on, has_ended, ComesTo}
use Rattle.sim_laws.specs.pipelines.Standing.{Chassis}

module _ (s : Chassis) (b : AtSpot s) (t : Tuple) (is : seen (list s b) b.p ≡ new t) (has : tuple_of b.p ≡ Some t) where
  open b use {spot, p, lists, zones, copy, here as h, owner, next}

  abbrev pub comer : Newcomer
  comer = record { zone = z s b; list = list s b; tuple = t }

  pub comes : newcomer (z s b) zones copy.packet ≡ Some comer
  comes =
      ap (λ (x : Option ConnectionList). newcomer_in (z s b) x copy.packet) (own s b).held
      ∙ ap (λ (q : Packet). newcomer_seen (z s b) (list s b) (seen (list s b) q)) h.packet
      ∙ ap (newcomer_seen (z s b) (list s b)) is

  pub of_packet : IsOfPacket t
  of_packet = tuple_is p h.whole t has

  abbrev pub desk : Desk
  desk = record { now = s.scene.now; spot = spot; owner = owner }

  abbrev ends_as : Result ConnectionList CommitFault → (Trail → Packet → Trail) → List Choice → List End → Packet → Trail
  ends_as r rest choices ends q = finally (after_commit desk r (trail_with lists choices ends) q) rest

  -- A connection with this reply tuple begins, and the packet becomes this one. What was told before is of these ends; the piece makes the choices that it
  -- tells of, and then begins the connection.
  module _ (back : Tuple) (pair : IsPair t back) (within : IsTupleWithin back) (q made : Packet) (same : made ≡ q) (whole : IsWhole q) (kind : carries_ip4 q ≡ carries_ip4 p) (piece : Piece Packet)
      (told : List Effect) (before : List End) (numbered : AllZip (IsNumbered s.keys) before told)
      (begins : (rest : Trail → Packet → Trail) (choices : List Choice) (ends : List End)
      → piece rest (trail_with lists (picks_in told ++ choices) ends) ≡ finally (commit_or_drop desk t back (trail_with lists choices (ends ++ before)) q) rest)
      (same_picks : (why : CommitFault) → picks_in (told ++ drop_at copy.table (engine_cause why) copy.regs ∷ []) ≡ picks_in told) where
    added : (r : Result ConnectionList CommitFault) → committed (list s b) t back s.scene.now ≡ r → Adds s zones copy (ComesTo s piece lists (Goes s b)) next told comer made r
    added (Ok l) ends =
        let good = committed_good (list s b) (own s b).good p t back s.scene.now is has pair of_packet.within within l ends in
        let new : Carried = gone_on next (record copy { packet = made }) in
        record {
          own = before;
          numbered = numbered;
          landing = goes_on (lists_with s b l) q;
          is = λ rest choices done. begins rest choices done ∙ ap (λ r. ends_as r rest choices (done ++ before) q) ends;
          lands = (new, refl, goes_with s b q whole kind (lists_with s b l) (with_zone zones (z s b) l) (holds_own s b l good) new refl same refl refl);
        }
    added (Err why) ends =
        let last : End = is_dropped spot.datapath spot.port (engine_cause why) in
        record {
          own = before ++ last ∷ [];
          numbered = zip_append (IsNumbered s.keys) before (last ∷ []) told (drop_at copy.table (engine_cause why) copy.regs ∷ []) numbered (drop_number s b (engine_cause why), tt);
          landing = has_ended lists;
          is = λ rest choices done.
              ap (λ l. piece rest (trail_with lists (l ++ choices) done)) (same_picks why)
              ∙ begins rest choices done
              ∙ ap (λ r. ends_as r rest choices (done ++ before) q) ends
              ∙ ap (λ k. drop_for k spot (trail_with lists choices (done ++ before))) (sym (same_cause why))
              ∙ ap (λ l. trail_with lists choices l) (append_assoc done before (last ∷ []));
          lands = (refl, h.hold);
        }

    pub adds_so : Adds s zones copy (ComesTo s piece lists (Goes s b)) next told comer made (committed (list s b) t back s.scene.now)
    adds_so = added (committed (list s b) t back s.scene.now) refl

  -- where nothing was told before
  pub adds_first : (back : Tuple) → IsPair t back → IsTupleWithin back → (q made : Packet) → made ≡ q → IsWhole q → carries_ip4 q ≡ carries_ip4 p → (piece : Piece Packet)
      → ((rest : Trail → Packet → Trail) (choices : List Choice) (ends : List End) → piece rest (trail_with lists choices ends) ≡ finally (commit_or_drop desk t back (trail_with lists choices ends) q) rest)
      → Adds s zones copy (ComesTo s piece lists (Goes s b)) next [] comer made (committed (list s b) t back s.scene.now)
  adds_first back pair within q made same whole kind piece begins =
      adds_so back pair within q made same whole kind piece [] [] tt
      (λ rest choices ends. begins rest choices ends ∙ ap (λ l. finally (commit_or_drop desk t back (trail_with lists choices l) q) rest) (sym (append-nil ends)))
      (λ why. refl)
