-- At a stage of NAT: a packet of a connection that is known, translated as that is.
use Rattle.std.specs.Prelude.{◌≡◌, List, [], ◌∷◌, Option, Some, refl}
use Rattle.std.proofs.Common.{sym, ap, ◌∙◌, subst}
use Rattle.conn_table.specs.Connections.{ConnectionList, entry_of, changed, touched}
use Rattle.conn_table.specs.Picks.{Choice}
use Rattle.conn_table.specs.Tracking.{slot_of}
use Rattle.conn_table.specs.Tuples.{tuple_of, reversed}
use Rattle.conn_table.specs.declared.connection.Entry.{Entry}
use Rattle.conn_table.specs.declared.connection.State.{State}
use Rattle.conn_table.specs.declared.connection.State.TheVariants as states
use Rattle.inet_packet.specs.Whole.{IsWhole}
use Rattle.inet_packet.specs.declared.packet.Packet.{Packet}
use Rattle.logical_flows.specs.declared.action.Action.{Action}
use Rattle.logical_flows.specs.declared.action.Action.TheVariants as a
use Rattle.net_model.specs.Headers.{carries_ip4}
use Rattle.net_model.specs.Tracking.{translated_onward, translated_back, carry_onward, carry_back}
use Rattle.net_model.specs.Trail.{Trail, End, finally}
use Rattle.switch_engine.specs.Actions.{gone_on}
use Rattle.switch_engine.specs.Tracking.{entry_changed, found_changed, translated_in, translated_by, found_translates}
use Rattle.switch_engine.specs.Zones.{ZoneLists, with_zone, over_list}
use Rattle.switch_engine.specs.declared.carried.Carried.{Carried}
use Rattle.switch_engine.specs.declared.carried.Found.{Found}
use Rattle.sim_laws.proofs.pipelines.Copies.{goes_so}
use Rattle.sim_laws.proofs.pipelines.Doings.{touch_does}
use Rattle.sim_laws.proofs.pipelines.GoodLists.{changed_found, changed_good, found_within}
use Rattle.sim_laws.proofs.pipelines.HeldLists.{own_zone}
use Rattle.sim_laws.proofs.pipelines.KnownConnections.{touches, whole_tuple, reversed_within, IsEntryOf, goes_onward, goes_back}
use Rattle.sim_laws.proofs.router_lists.AtSpots.{tuple_kept, AtSpot, z, list, Goes, lists_with, own, holds_own, goes_with}
use Rattle.sim_laws.specs.pipelines.HeldLists.{IsGoodList}
use Rattle.sim_laws.specs.pipelines.Pieces.{Piece, trail_with, ComesTo}
use Rattle.sim_laws.specs.pipelines.Standing.{Chassis}
use Rattle.sim_laws.specs.routers.TranslatingWords.{Bring}

module _ (s : Chassis) (b : AtSpot s) (e : Entry) (is : entry_of (list s b) e.forward ≡ Some e) where
  open b use {p, lists, zones, copy, here as h, owner, next}

  -- it is translated as its connection is
  abbrev carries : List Action
  carries = a.Touch ∷ a.Translate ∷ a.Go next ∷ []

  abbrev list_here : ConnectionList
  list_here = list s b

  abbrev used : Entry → Entry
  used = touched s.scene.now

  abbrev written : ConnectionList
  written = changed used e.forward list_here

  written_good : IsGoodList written
  written_good = changed_good used (touches s.scene.now) list_here (own s b).good e.forward

  entry_stays : IsEntryOf written e
  entry_stays = record { there = used e; is = changed_found used (touches s.scene.now) list_here (own s b).good e.forward e is; forward = refl; reply = refl }

  abbrev there : ZoneLists
  there = with_zone zones (z s b) written

  module _ (state : State) (changes : (l : ConnectionList) → entry_changed used state l ≡ changed used e.forward l) (found : copy.found ≡ Some (record { zone = z s b; state = state })) where
    changed_zone : found_changed used copy.found zones ≡ there
    changed_zone =
        ap (λ (x : Option Found). found_changed used x zones) found
        ∙ ap (λ (x : Option ConnectionList). over_list (entry_changed used state) (z s b) zones x) (own s b).held
        ∙ ap (λ (x : ConnectionList). with_zone zones (z s b) x) (changes list_here)

    carried_so : (q : Packet) → IsWhole q → carries_ip4 q ≡ carries_ip4 p → translated_by written state p ≡ q → (piece : Piece Packet)
        → ((rest : Trail → Packet → Trail) (choices : List Choice) (ends : List End) → piece rest (trail_with lists choices ends) ≡ rest (trail_with (lists_with s b written) choices ends) q)
        → Bring s carries zones copy (ComesTo s piece lists (Goes s b))
    carried_so q whole kind becomes piece says =
        let So = ComesTo s piece lists (Goes s b) in
        let new : Carried = gone_on next (record copy { packet = q }) in
        let packet : found_translates copy.found there copy.packet ≡ q =
        ap (λ (x : Option Found). found_translates x there copy.packet) found
        ∙ ap (λ (x : Option ConnectionList). translated_in x state copy.packet) (own_zone zones (z s b) written list_here (own s b).held)
        ∙ ap (λ (y : Packet). translated_by written state y) h.packet
        ∙ becomes in
        let goes = goes_with s b q whole kind (lists_with s b written) there (holds_own s b written written_good) new refl refl refl refl in
        touch_does s zones copy So next
        (subst (λ (zs : ZoneLists). So [] zs (gone_on next (record copy { packet = found_translates copy.found zs copy.packet }) ∷ [])) (sym changed_zone)
        (subst (λ (y : Packet). So [] there (gone_on next (record copy { packet = y }) ∷ [])) (sym packet)
        (goes_so s piece lists (lists_with s b written) (Goes s b) there q new goes says)))

  -- as the connection goes on, and back as its answers
  pub onward_so : tuple_of p ≡ Some e.forward → copy.found ≡ Some (record { zone = z s b; state = states.Forward (slot_of e) })
      → Bring s carries zones copy (ComesTo s (λ rest t. finally (carry_onward s.scene.now owner e t p) rest) lists (Goes s b))
  onward_so has found =
      carried_so (states.Forward (slot_of e)) (λ l. refl) found (translated_onward e p) (whole_tuple (reversed e.reply) p (reversed_within e.reply (found_within list_here (own s b).good e.forward e is).reply) h.whole) (tuple_kept (reversed e.reply) p)
      (goes_onward written e entry_stays p has) (λ rest t. finally (carry_onward s.scene.now owner e t p) rest) (λ rest choices ends. refl)

  pub back_so : tuple_of p ≡ Some e.reply → copy.found ≡ Some (record { zone = z s b; state = states.Reply (slot_of e) })
      → Bring s carries zones copy (ComesTo s (λ rest t. finally (carry_back s.scene.now owner e t p) rest) lists (Goes s b))
  back_so has found =
      carried_so (states.Reply (slot_of e)) (λ l. refl) found (translated_back e p) (whole_tuple (reversed e.forward) p (reversed_within e.forward (found_within list_here (own s b).good e.forward e is).forward) h.whole) (tuple_kept (reversed e.forward) p)
      (goes_back written e entry_stays p has) (λ rest t. finally (carry_back s.scene.now owner e t p) rest) (λ rest choices ends. refl)
