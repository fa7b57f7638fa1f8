-- A translation of the source is undone, and then the packet is looked up in the DNAT list.
use Rattle.std.specs.Prelude.{◌≡◌, ℕ, true, List, Option, option_map, refl}
use Rattle.std.proofs.Common.{sym, ap, ◌∙◌, subst}
use Rattle.conn_table.specs.Connections.{ConnectionList, changed, touched}
use Rattle.conn_table.specs.Picks.{Choice}
use Rattle.conn_table.specs.Tracking.{Seen, forward, reply, invalid, new, seen, state_of, with_option}
use Rattle.conn_table.specs.Tuples.{tuple_of, reversed}
use Rattle.conn_table.specs.declared.connection.Entry.{Entry}
use Rattle.flow_table.specs.declared.flow.ZoneOf.TheVariants as zone
use Rattle.inet_packet.specs.Whole.{IsWhole}
use Rattle.inet_packet.specs.declared.packet.Packet.{Packet}
use Rattle.logical_flows.specs.declared.stage.Stage.TheVariants as stage
use Rattle.net_model.specs.Dnat.{undo_as}
use Rattle.net_model.specs.Headers.{carries_ip4}
use Rattle.net_model.specs.Tracking.{translated_back}
use Rattle.net_model.specs.Trail.{Trail, Lists, End, dnat_of, snat_of, list_of, with_list, Spot, finally}
use Rattle.ovn_base.specs.declared.name.Name.{Name}
use Rattle.row_laws.specs.routers.TranslatingActions.{undo_actions}
use Rattle.stage_rows.specs.Rows.{table_behind}
use Rattle.switch_engine.specs.Actions.{gone_on}
use Rattle.switch_engine.specs.Tracking.{looked_up, undone_list, undone_packet, undone_in}
use Rattle.switch_engine.specs.Zones.{ZoneLists, with_zone, over_list}
use Rattle.switch_engine.specs.declared.carried.Carried.{Carried}
use Rattle.sim_laws.proofs.pipelines.Copies.{goes_so}
use Rattle.sim_laws.proofs.pipelines.GoodLists.{changed_good, found_within}
use Rattle.sim_laws.proofs.pipelines.KnownConnections.{touches, whole_tuple, reversed_within}
use Rattle.sim_laws.proofs.pipelines.Noting.{IsOwnZone}
use Rattle.sim_laws.proofs.pipelines.Seeing.{IsSeen, is_seen}
use Rattle.sim_laws.proofs.router_lists.AtSpots.{tuple_kept}
use Rattle.sim_laws.proofs.router_lists.ListDoings.{zones_undone, copy_undone, undo_does}
use Rattle.sim_laws.proofs.router_lists.OwnLists.{owned, same_zones, holds_written}
use Rattle.sim_laws.proofs.router_lists.Seeking.{goes_looked_up}
use Rattle.sim_laws.specs.pipelines.HeldLists.{AreApart, HoldLists}
use Rattle.sim_laws.specs.pipelines.Pieces.{trail_with, ComesTo}
use Rattle.sim_laws.specs.pipelines.Standing.{Chassis}
use Rattle.sim_laws.specs.pipelines.WalkOn.{Reached}
use Rattle.sim_laws.specs.routers.TranslatingLists.{undoing, UndoesLaw}
use Rattle.sim_laws.specs.routers.TranslatingWords.{IsAtSpot, Bring, GoesOnSought}

module _ (s : Chassis) (apart : AreApart s.number) (spot : Spot) (p : Packet) (lists : Lists) (zones : ZoneLists) (copy : Carried) (h : IsAtSpot s spot p lists zones copy) where
  abbrev next : ℕ
  next = table_behind stage.RouterUndo

  abbrev router : Name
  router = spot.datapath

  abbrev z : ℕ
  z = copy.regs.z_snat

  abbrev list : ConnectionList
  list = list_of lists (snat_of router)

  abbrev So : Reached
  So = ComesTo s (undoing s spot p) lists (GoesOnSought s next zone.Dnat (dnat_of router) copy)

  own : IsOwnZone zones lists (snat_of router) z
  own = owned h.hold (snat_of router) z h.numbers.snat

  -- the lists after it
  abbrev lists_by : Seen → Lists
  lists_by (reply e) = with_list lists (snat_of router) (changed (touched s.scene.now) e.forward list)
  lists_by _ = lists

  abbrev packet_by : Seen → Packet
  packet_by (reply e) = translated_back e p
  packet_by _ = p

  -- whatever the SNAT list says, the zones hold the lists after it, and the packet is the network's
  pub record IsUndone (x : Seen) : Type 0 where
    pub hold : HoldLists s.number (with_zone zones z (undone_list s.scene.now (state_of x) list)) (lists_by x)
    pub packet : undone_packet list (state_of x) p ≡ packet_by x
    pub whole : IsWhole (packet_by x)
    pub kind : carries_ip4 (packet_by x) ≡ carries_ip4 p
    pub is : (rest : Trail → Packet → Trail) (choices : List Choice) (ends : List End) → finally (undo_as s.scene.now router x (trail_with lists choices ends) p) rest ≡ rest (trail_with (lists_by x) choices ends) (packet_by x)

  stays : HoldLists s.number (with_zone zones z list) lists
  stays = subst (λ (zs : ZoneLists). HoldLists s.number zs lists) (sym (same_zones zones z list own.held)) h.hold

  undone_by : (x : Seen) → IsSeen list (tuple_of p) x → IsUndone x
  undone_by (reply e) is = record {
    hold = holds_written s.number apart zones lists h.hold (snat_of router) z h.numbers.snat (changed (touched s.scene.now) e.forward list) (changed_good (touched s.scene.now) (touches s.scene.now) list own.good e.forward);
    packet = ap (λ (o : Option Entry). with_option (option_map (λ (y : Entry). reversed y.forward) o) p) is.0;
    whole = whole_tuple (reversed e.forward) p (reversed_within e.forward (found_within list own.good e.forward e is.0).forward) h.whole;
    kind = tuple_kept (reversed e.forward) p;
    is = λ rest choices ends. refl;
  }
  undone_by (forward e) is = record { hold = stays; packet = refl; whole = h.whole; kind = refl; is = λ rest choices ends. refl }
  undone_by invalid is = record { hold = stays; packet = refl; whole = h.whole; kind = refl; is = λ rest choices ends. refl }
  undone_by (new t) is = record { hold = stays; packet = refl; whole = h.whole; kind = refl; is = λ rest choices ends. refl }

  undone_here : IsUndone (seen list p)
  undone_here = undone_by (seen list p) (is_seen list own.good.zone.law p)

  -- what is done is that
  abbrev zones_after : ZoneLists
  zones_after = zones_undone s zones copy So

  abbrev copy_after : Carried
  copy_after = copy_undone s zones copy So

  zones_are : zones_after ≡ with_zone zones z (undone_list s.scene.now (state_of (seen list p)) list)
  zones_are =
      ap (λ (o : Option ConnectionList). over_list (λ l. undone_list s.scene.now (state_of (seen l copy.packet)) l) z zones o) own.held
      ∙ ap (λ (q : Packet). with_zone zones z (undone_list s.scene.now (state_of (seen list q)) list)) h.packet

  packet_is : copy_after.packet ≡ packet_by (seen list p)
  packet_is =
      ap (λ (o : Option ConnectionList). undone_in o copy.packet) own.held
      ∙ ap (λ (q : Packet). undone_packet list (state_of (seen list q)) q) h.packet
      ∙ undone_here.packet

  goes : GoesOnSought s next zone.Dnat (dnat_of router) copy (lists_by (seen list p)) (packet_by (seen list p)) zones_after (gone_on next (looked_up copy.regs.z_dnat zones_after copy_after))
  goes =
      goes_looked_up s zone.Dnat (dnat_of router) next copy (lists_by (seen list p)) (packet_by (seen list p)) zones_after copy_after packet_is undone_here.whole (ap carries_ip4 packet_is ∙ undone_here.kind ∙ sym (ap carries_ip4 h.packet)) refl refl
      (subst (λ (zs : ZoneLists). HoldLists s.number zs (lists_by (seen list p))) (sym zones_are) undone_here.hold) h.numbers.dnat

  pub undoes_so : Bring s (undo_actions true) zones copy So
  undoes_so =
      undo_does s zones copy So next
      (goes_so s (undoing s spot p) lists (lists_by (seen list p)) (GoesOnSought s next zone.Dnat (dnat_of router) copy) zones_after (packet_by (seen list p)) (gone_on next (looked_up copy.regs.z_dnat zones_after copy_after))
      goes undone_here.is)

pub undoes : UndoesLaw
undoes = undoes_so
