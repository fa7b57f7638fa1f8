-- At the stages of SNAT: the packet is looked up, and then whatever the SNAT list says of it.
use Rattle.std.specs.Prelude.{◌≡◌, ◌++◌, ◌&&◌, ℕ, Bool, true, false, cond, List, [], ◌∷◌, Option, Some, None, refl}
use Rattle.std.proofs.Common.{ap, ◌∙◌, subst}
use Rattle.conn_table.specs.Connections.{is_free}
use Rattle.conn_table.specs.Picks.{Choice, to_port, with_port, may_pick, has_free_port}
use Rattle.conn_table.specs.Tracking.{Seen, forward, reply, invalid, new, seen, state_of}
use Rattle.conn_table.specs.Tuples.{tuple_of, reversed, with_tuple, is_echo_reply}
use Rattle.conn_table.specs.declared.tuple.Tuple.{Tuple}
use Rattle.flow_table.specs.declared.flow.Cause.TheVariants as cause
use Rattle.flow_table.specs.declared.flow.ZoneOf.TheVariants as zone
use Rattle.inet_packet.specs.declared.packet.Packet.{Packet}
use Rattle.logical_flows.specs.declared.action.Action.TheVariants as a
use Rattle.logical_flows.specs.declared.stage.Stage.TheVariants as stage
use Rattle.nb_records.specs.Grammar.{IsIp4}
use Rattle.nb_records.specs.declared.router.Nat.{Nat}
use Rattle.net_model.specs.Balancing.{Desk, commit_or_drop}
use Rattle.net_model.specs.Headers.{src_of}
use Rattle.net_model.specs.Snat.{snat_row, snat_to, pick_port, keep_port, snat_new, snat_as}
use Rattle.net_model.specs.Trail.{Trail, Lists, End, snat_of, picks_port, Spot, finally}
use Rattle.ovn_base.specs.declared.address.Ip4.{Ip4}
use Rattle.ovn_base.specs.declared.name.Name.{Name}
use Rattle.row_laws.specs.Passages.{finding_of}
use Rattle.row_laws.specs.routers.TranslatingActions.{snat_actions}
use Rattle.stage_rows.specs.Rows.{table_behind}
use Rattle.switch_engine.specs.Actions.{gone_on}
use Rattle.switch_engine.specs.Tracking.{looked_up}
use Rattle.switch_engine.specs.Zones.{ZoneLists}
use Rattle.switch_engine.specs.declared.carried.Carried.{Carried}
use Rattle.switch_engine.specs.declared.effect.Effect.TheVariants as effect
use Rattle.sim_laws.proofs.pipelines.Copies.{has_datapath_key, goes_so}
use Rattle.sim_laws.proofs.pipelines.Doings.{drop_does}
use Rattle.sim_laws.proofs.pipelines.KnownConnections.{whole_tuple, reversed_within}
use Rattle.sim_laws.proofs.pipelines.Seeing.{IsSeen, is_seen}
use Rattle.sim_laws.proofs.router_lists.AtSpots.{tuple_kept, AtSpot, z, list, Goes, own, drops_here}
use Rattle.sim_laws.proofs.router_lists.Dnats.{bring_same, passes_so}
use Rattle.sim_laws.proofs.router_lists.KnownHere.{onward_so}
use Rattle.sim_laws.proofs.router_lists.ListDoings.{Hides, seek_does, snat_does}
use Rattle.sim_laws.proofs.router_lists.NatNumbers.{snat_row_ok}
use Rattle.sim_laws.proofs.router_lists.NewHere.{comer, comes, of_packet, desk, adds_so, adds_first}
use Rattle.sim_laws.proofs.router_lists.PickedPorts.{ports_there, port_small, hidden, hidden_pair, hidden_within, picked_pair, picked_within}
use Rattle.sim_laws.proofs.router_lists.Seeking.{goes_looked_up}
use Rattle.sim_laws.specs.Naming.IsNumbered.{to_port as names_port}
use Rattle.sim_laws.specs.pipelines.Pieces.{Piece, trail_with, ComesTo}
use Rattle.sim_laws.specs.pipelines.Standing.{Chassis, net_of, IsLaidOut}
use Rattle.sim_laws.specs.routers.TranslatingLists.{SeeksLaw, translating_snat, SnatLaw}
use Rattle.sim_laws.specs.routers.TranslatingWords.{IsAtSpot, HasSought, seen_by, Bring, GoesOnSought}

-- ---- to look up

pub seeks_so : SeeksLaw
seeks_so s spot p lists zones copy h =
    let next = table_behind stage.RouterFind in
    let owner = snat_of spot.datapath in
    let Then : Lists → Packet → ZoneLists → Carried → Type 0 = GoesOnSought s next zone.Snat owner copy in
    let piece : Piece Packet = λ rest t. rest t p in
    seek_does s zones copy (ComesTo s piece lists Then) zone.Snat next
    (goes_so s piece lists lists Then zones p (gone_on next (looked_up copy.regs.z_snat zones copy))
    (goes_looked_up s zone.Snat owner next copy lists p zones copy h.packet h.whole refl refl refl h.hold h.numbers.snat) (λ rest choices ends. refl))

-- ---- a connection begins

module _ (s : Chassis) (b : AtSpot s) (t : Tuple) (is : seen (list s b) b.p ≡ new t) (has : tuple_of b.p ≡ Some t) (plain : is_echo_reply t.protocol ≡ false) (ip : Ip4) (small : IsIp4 ip) where
  open b use {spot, p, lists, zones, copy, here as h, next}

  abbrev at_desk : Desk
  at_desk = desk s b t is has

  abbrev back : Tuple
  back = hidden t (of_packet s b t is has) plain ip

  abbrev router : Name
  router = spot.datapath

  -- its port is kept, or another is picked
  abbrev piece_by : Bool → Bool → Piece Packet
  piece_by free some rest u = finally (cond free (snat_to at_desk t back u p) (pick_port some at_desk router t back u p)) rest

  abbrev to_by : Tuple → Packet → Packet
  to_by to q = with_tuple (reversed to) q

  -- the pick is legal, and is told
  chosen : (port : ℕ) → may_pick (list s b) back port ≡ true → (rest : Trail → Packet → Trail) (choices : List Choice) (ends : List End)
      → piece_by false true rest (trail_with lists (to_port port ∷ choices) ends)
      ≡ finally (commit_or_drop at_desk t (with_port port back) (trail_with lists choices (ends ++ picks_port router port ∷ [])) (to_by (with_port port back) p)) rest
  chosen port legal rest choices ends =
      ap (λ (l : Bool). finally (commit_or_drop at_desk t (with_port port back)
      (record (trail_with lists choices (ends ++ picks_port router port ∷ [])) { legal = true && l }) (to_by (with_port port back) p)) rest) legal

  hides : (free some : Bool) → has_free_port (list s b) back ≡ some → Hides s zones copy (ComesTo s (piece_by free some) lists (Goes s b)) next (comer s b t is has) back free some
  hides true some there =
      let within = hidden_within t (of_packet s b t is has) plain ip small in
      adds_first s b t is has back (hidden_pair t (of_packet s b t is has) plain ip) within (to_by back p) (to_by back copy.packet) (ap (to_by back) h.packet)
      (whole_tuple (reversed back) p (reversed_within back within) h.whole) (tuple_kept (reversed back) p) (piece_by true some) (λ rest choices ends. refl)
  hides false false there = drops_here s b cause.NoFreePort (piece_by false false) lists zones h.hold (λ rest choices ends. refl)
  hides false true there = λ port legal.
      let to = with_port port back in
      let within = picked_within t (of_packet s b t is has) plain ip port (port_small (list s b) back port legal) small in
      adds_so s b t is has to (picked_pair t (of_packet s b t is has) plain ip port (ports_there (list s b) back there)) within (to_by to p) (to_by to copy.packet) (ap (to_by to) h.packet)
      (whole_tuple (reversed to) p (reversed_within to within) h.whole) (tuple_kept (reversed to) p) (piece_by false true)
      (effect.PickPort copy.regs.dp port ∷ []) (picks_port router port ∷ []) (names_port (has_datapath_key h.on), tt) (chosen port legal) (λ why. refl)

  keeps_is : (free : Bool) (rest : Trail → Packet → Trail) (choices : List Choice) (ends : List End)
      → piece_by free (has_free_port (list s b) back) rest (trail_with lists choices ends) ≡ finally (keep_port free at_desk router t back (trail_with lists choices ends) p) rest
  keeps_is true rest choices ends = refl
  keeps_is false rest choices ends = refl

  pub hides_so : Bring s (a.Snat b.side ip ∷ a.Go next ∷ []) zones copy (ComesTo s (λ rest u. finally (snat_new at_desk router t back u p) rest) lists (Goes s b))
  hides_so =
      let piece = piece_by (is_free (list s b) back) (has_free_port (list s b) back) in
      bring_same s b (a.Snat b.side ip ∷ a.Go next ∷ []) piece (λ rest u. finally (snat_new at_desk router t back u p) rest) (keeps_is (is_free (list s b) back))
      (snat_does s zones copy (ComesTo s piece lists (Goes s b)) b.side ip next (comer s b t is has) (comes s b t is has)
      (hides (is_free (list s b) back) (has_free_port (list s b) back) refl))

-- ---- the stage

module _ (s : Chassis) (laid : IsLaidOut s) (spot : Spot) (p : Packet) (lists : Lists) (zones : ZoneLists) (copy : Carried) (h : IsAtSpot s spot p lists zones copy)
    (sought : HasSought zone.Snat (snat_of spot.datapath) lists p copy) where
  abbrev name : Name
  name = spot.datapath

  abbrev here : AtSpot s
  here = record { apart = laid.apart; spot = spot; p = p; lists = lists; zones = zones; copy = copy; here = h; owner = snat_of name; side = zone.Snat; has = h.numbers.snat; next = table_behind stage.RouterSnat }

  abbrev sees : Seen
  sees = seen_by (snat_of name) lists p

  abbrev as_piece : Option Nat → Seen → Piece Packet
  as_piece row x rest u = finally (snat_as (record { now = s.scene.now; spot = spot; owner = snat_of name }) name row x u p) rest

  abbrev CameBy : Option Nat → Seen → Type 0
  CameBy row x = Bring s (snat_actions row (finding_of x)) zones copy (ComesTo s (as_piece row x) lists (Goes s here))

  is_such : (x : Seen) → sees ≡ x → IsSeen (list s here) (tuple_of p) x
  is_such x is = subst (IsSeen (list s here) (tuple_of p)) is (is_seen (list s here) (own s here).good.zone.law p)

  remembered : (x : Seen) → sees ≡ x → copy.found ≡ Some (record { zone = z s here; state = state_of x })
  remembered x is = sought.entry ∙ ap (λ (y : Seen). Some (record { zone = z s here; state = state_of y })) is

  by_seen : (row : Option Nat) → snat_row (net_of s) name (src_of p) ≡ row → (x : Seen) → sees ≡ x → CameBy row x
  by_seen None found (forward e) is = let y = is_such (forward e) is in onward_so s here e y.0 y.1 (remembered (forward e) is)
  by_seen None found (reply e) is = passes_so s here (as_piece None (reply e)) (λ rest choices ends. refl)
  by_seen None found invalid is = passes_so s here (as_piece None invalid) (λ rest choices ends. refl)
  by_seen None found (new t) is = passes_so s here (as_piece None (new t)) (λ rest choices ends. refl)
  by_seen (Some r) found (forward e) is = let y = is_such (forward e) is in onward_so s here e y.0 y.1 (remembered (forward e) is)
  by_seen (Some r) found (reply e) is = passes_so s here (as_piece (Some r) (reply e)) (λ rest choices ends. refl)
  by_seen (Some r) found invalid is =
      drop_does s zones copy (ComesTo s (as_piece (Some r) invalid) lists (Goes s here)) cause.Invalid
      (drops_here s here cause.Invalid (as_piece (Some r) invalid) lists zones h.hold (λ rest choices ends. refl))
  by_seen (Some r) found (new t) is =
      let y = is_such (new t) is in
      hides_so s here t is y.0 y.1 r.external_ip (snat_row_ok (net_of s) laid.valid name (src_of p) r found).external_ip

  pub snat_so : Bring s (snat_actions (snat_row (net_of s) name (src_of p)) (finding_of sees)) zones copy (ComesTo s (translating_snat s spot p) lists (Goes s here))
  snat_so =
      bring_same s here (snat_actions (snat_row (net_of s) name (src_of p)) (finding_of sees)) (as_piece (snat_row (net_of s) name (src_of p)) sees) (translating_snat s spot p)
      (λ rest choices ends. refl) (by_seen (snat_row (net_of s) name (src_of p)) refl sees refl)

pub snats : SnatLaw
snats = snat_so
