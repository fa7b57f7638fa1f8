-- At the stage of DNAT: whatever the DNAT list says of the packet.
use Rattle.std.specs.Prelude.{◌≡◌, ◌++◌, ◌&&◌, ℕ, Bool, true, false, List, [], ◌∷◌, Option, Some, None, Result, Ok, Err, refl}
use Rattle.std.specs.List.{filter}
use Rattle.std.specs.Option.{option_and_then}
use Rattle.std.proofs.Common.{sym, ap, ◌∙◌, subst}
use Rattle.conn_table.specs.Connections.{ConnectionList, committed, IsPair}
use Rattle.conn_table.specs.Picks.{Choice, to_backend, towards, to_address, is_free_backend, is_backend_of}
use Rattle.conn_table.specs.Tracking.{Seen, forward, reply, invalid, new, seen, state_of}
use Rattle.conn_table.specs.Tuples.{tuple_of, reversed, with_tuple, is_echo_reply}
use Rattle.conn_table.specs.declared.connection.CommitFault.{CommitFault}
use Rattle.conn_table.specs.declared.tuple.Tuple.{Tuple}
use Rattle.flow_table.specs.declared.flow.Cause.TheVariants as cause
use Rattle.flow_table.specs.declared.flow.ZoneOf.TheVariants as zone
use Rattle.inet_packet.specs.declared.packet.Packet.{Packet}
use Rattle.logical_flows.specs.declared.action.Action.{Action}
use Rattle.logical_flows.specs.declared.action.Action.TheVariants as a
use Rattle.logical_flows.specs.declared.stage.Stage.TheVariants as stage
use Rattle.nb_records.specs.Grammar.{IsIp4}
use Rattle.nb_records.specs.Network.{Network, is_online}
use Rattle.nb_records.specs.declared.router.Nat.{Nat}
use Rattle.net_model.specs.Balancing.{Desk, commit_or_drop, Service, service_for, pick_backend}
use Rattle.net_model.specs.Dnat.{dnat_row, dnat_new, dnat_as}
use Rattle.net_model.specs.Headers.{dst_of}
use Rattle.net_model.specs.Trail.{Trail, Lists, End, dnat_of, picks_backend, Spot, finally}
use Rattle.ovn_base.specs.declared.address.Backend.{Backend}
use Rattle.ovn_base.specs.declared.address.Ip4.{Ip4}
use Rattle.ovn_base.specs.declared.name.Name.{Name}
use Rattle.row_laws.proofs.switch.Passing.{both_filters}
use Rattle.row_laws.specs.Passages.{finding_of}
use Rattle.row_laws.specs.StageActions.{service_of}
use Rattle.row_laws.specs.routers.TranslatingActions.{begin_dnat, dnat_actions}
use Rattle.stage_rows.specs.Rows.{table_behind}
use Rattle.switch_engine.specs.Actions.{gone_on}
use Rattle.switch_engine.specs.Commits.{is_balanced}
use Rattle.switch_engine.specs.Zones.{ZoneLists}
use Rattle.switch_engine.specs.declared.carried.Carried.{Carried}
use Rattle.switch_engine.specs.declared.effect.Effect.TheVariants as effect
use Rattle.sim_laws.proofs.pipelines.Copies.{has_datapath_key, goes_so}
use Rattle.sim_laws.proofs.pipelines.Doings.{go_does, balance_does, Picks, Balances}
use Rattle.sim_laws.proofs.pipelines.KnownConnections.{whole_tuple, reversed_within}
use Rattle.sim_laws.proofs.pipelines.NewConnections.{pair_back, pair_from}
use Rattle.sim_laws.proofs.pipelines.Pieces.{same_piece}
use Rattle.sim_laws.proofs.pipelines.Seeing.{IsSeen, is_seen}
use Rattle.sim_laws.proofs.pipelines.Services.{is_served, served_protocol}
use Rattle.sim_laws.proofs.router_lists.AtSpots.{tuple_kept, AtSpot, z, list, Goes, own, goes_with, drops_here}
use Rattle.sim_laws.proofs.router_lists.KnownHere.{onward_so, back_so}
use Rattle.sim_laws.proofs.router_lists.ListDoings.{Adds, dnat_does}
use Rattle.sim_laws.proofs.router_lists.NatNumbers.{dnat_row_ok, backend_within, dst_is}
use Rattle.sim_laws.proofs.router_lists.NewHere.{comer, comes, of_packet, desk, adds_so, adds_first}
use Rattle.sim_laws.specs.Naming.IsNumbered.{to_backend as names_backend}
use Rattle.sim_laws.specs.pipelines.HeldLists.{IsTupleWithin}
use Rattle.sim_laws.specs.pipelines.Pieces.{Piece, trail_with, ComesTo}
use Rattle.sim_laws.specs.pipelines.Standing.{Chassis, net_of, IsLaidOut}
use Rattle.sim_laws.specs.pipelines.WalkOn.{Reached}
use Rattle.sim_laws.specs.routers.TranslatingLists.{translating_dnat, DnatLaw}
use Rattle.sim_laws.specs.routers.TranslatingWords.{IsAtSpot, HasSought, seen_by, Bring}

-- what it comes to in other words
pub bring_same : (s : Chassis) (b : AtSpot s) (actions : List Action) (one other : Piece Packet)
    → ((rest : Trail → Packet → Trail) (choices : List Choice) (ends : List End) → one rest (trail_with b.lists choices ends) ≡ other rest (trail_with b.lists choices ends))
    → Bring s actions b.zones b.copy (ComesTo s one b.lists (Goes s b)) → Bring s actions b.zones b.copy (ComesTo s other b.lists (Goes s b))
bring_same s b actions one other same bring = λ told done. same_piece s one other b.lists (Goes s b) same told _ _ (bring told done)

-- it goes on as it is
pub passes_so : (s : Chassis) (b : AtSpot s) (piece : Piece Packet)
    → ((rest : Trail → Packet → Trail) (choices : List Choice) (ends : List End) → piece rest (trail_with b.lists choices ends) ≡ rest (trail_with b.lists choices ends) b.p)
    → Bring s (a.Go b.next ∷ []) b.zones b.copy (ComesTo s piece b.lists (Goes s b))
passes_so s b piece is =
    go_does s b.zones b.copy (ComesTo s piece b.lists (Goes s b)) b.next
    (goes_so s piece b.lists b.lists (Goes s b) b.zones b.p (gone_on b.next b.copy)
    (goes_with s b b.p b.here.whole refl b.lists b.zones b.here.hold (gone_on b.next b.copy) refl b.here.packet refl refl) is)

module _ (s : Chassis) (laid : IsLaidOut s) (b : AtSpot s) where
  open b use {spot, p, lists, zones, copy, here as h, next}

  abbrev net : Network
  net = net_of s

  abbrev CameBy : List Action → Piece Packet → Type 0
  CameBy actions piece = Bring s actions zones copy (ComesTo s piece lists (Goes s b))

  -- ---- a connection begins

  module _ (t : Tuple) (is : seen (list s b) p ≡ new t) (has : tuple_of p ≡ Some t) (plain : is_echo_reply t.protocol ≡ false) where
    -- by a row

    abbrev row_piece : Ip4 → Piece Packet
    row_piece ip rest u = finally (commit_or_drop (desk s b t is has) t (reversed (to_address ip t)) u (with_tuple (to_address ip t) p)) rest

    row_pair : (ip : Ip4) → IsPair t (reversed (to_address ip t))
    row_pair ip =
        let x = pair_back t (of_packet s b t is has) plain in
        record { begins = x.begins; answers = x.answers; forward_ports = x.forward_ports; reply_ports = x.reply_ports }

    pub row_so : (ip : Ip4) → IsIp4 ip → CameBy (a.Dnat b.side ip ∷ a.Go next ∷ []) (row_piece ip)
    row_so ip small =
        let w = (of_packet s b t is has).within in
        let to : IsTupleWithin (to_address ip t) = record { src = w.src; src_port = w.src_port; dst = small; dst_port = w.dst_port } in
        dnat_does s zones copy (ComesTo s (row_piece ip) lists (Goes s b)) b.side ip next (comer s b t is has) (comes s b t is has)
        (adds_first s b t is has (reversed (to_address ip t)) (row_pair ip) (reversed_within (to_address ip t) to) (with_tuple (to_address ip t) p) (with_tuple (to_address ip t) copy.packet) (ap (with_tuple (to_address ip t)) h.packet)
        (whole_tuple (to_address ip t) p to h.whole) (tuple_kept (to_address ip t) p) (row_piece ip) (λ rest choices ends. refl))

    -- to a backend

    module _ (vip : Backend) where
      abbrev pick_among : List Backend → Piece Packet
      pick_among legal rest u = finally (pick_backend (desk s b t is has) t vip legal u p) rest

      as_picks : (So : Reached) (k : ℕ) (x : Backend) (r : Result ConnectionList CommitFault)
          → Adds s zones copy So k (effect.PickBackend copy.regs.dp vip x ∷ []) (comer s b t is has) (with_tuple (towards x t) copy.packet) r → Picks s zones copy So k vip (comer s b t is has) x r
      as_picks So k x (Ok l) h = h
      as_picks So k x (Err why) h = h

      -- the choice is legal, and is told
      chosen : (y : Backend) (ys : List Backend) (x : Backend) → is_backend_of (y ∷ ys) x ≡ true → (rest : Trail → Packet → Trail) (choices : List Choice) (ends : List End)
          → pick_among (y ∷ ys) rest (trail_with lists (to_backend x ∷ choices) ends)
          ≡ finally (commit_or_drop (desk s b t is has) t (reversed (towards x t)) (trail_with lists choices (ends ++ picks_backend spot.datapath vip x ∷ [])) (with_tuple (towards x t) p)) rest
      chosen y ys x legal rest choices ends =
          ap (λ (l : Bool). finally (commit_or_drop (desk s b t is has) t (reversed (towards x t))
          (record (trail_with lists choices (ends ++ picks_backend spot.datapath vip x ∷ [])) { legal = true && l }) (with_tuple (towards x t) p)) rest) legal

      picked : (tcp : is_balanced t.protocol ≡ true) (y : Backend) (ys : List Backend) (x : Backend) → is_backend_of (y ∷ ys) x ≡ true → IsTupleWithin (towards x t)
          → Picks s zones copy (ComesTo s (pick_among (y ∷ ys)) lists (Goes s b)) next vip (comer s b t is has) x (committed (list s b) t (reversed (towards x t)) s.scene.now)
      picked tcp y ys x legal to =
          as_picks (ComesTo s (pick_among (y ∷ ys)) lists (Goes s b)) next x (committed (list s b) t (reversed (towards x t)) s.scene.now)
          (adds_so s b t is has (reversed (towards x t)) (pair_from t x (of_packet s b t is has) plain tcp) (reversed_within (towards x t) to) (with_tuple (towards x t) p) (with_tuple (towards x t) copy.packet)
          (ap (with_tuple (towards x t)) h.packet) (whole_tuple (towards x t) p to h.whole) (tuple_kept (towards x t) p) (pick_among (y ∷ ys))
          (effect.PickBackend copy.regs.dp vip x ∷ []) (picks_backend spot.datapath vip x ∷ []) (names_backend (has_datapath_key h.on), tt)
          (chosen y ys x legal) (λ why. refl))

      balances : (tcp : is_balanced t.protocol ≡ true) (legal : List Backend) → ((x : Backend) → is_backend_of legal x ≡ true → IsTupleWithin (towards x t))
          → Balances s zones copy (ComesTo s (pick_among legal) lists (Goes s b)) next vip (comer s b t is has) legal
      balances tcp [] each = drops_here s b cause.NoLiveBackend (pick_among []) lists zones h.hold (λ rest choices ends. refl)
      balances tcp (y ∷ ys) each = λ x legal. picked tcp y ys x legal (each x legal)

      pub balance_so : (tcp : is_balanced t.protocol ≡ true) (backends : List Backend)
          → ((x : Backend) → is_backend_of (filter (is_free_backend (list s b) t) backends) x ≡ true → IsTupleWithin (towards x t))
          → CameBy (a.Balance b.side vip backends ∷ a.Go next ∷ []) (pick_among (filter (is_free_backend (list s b) t) backends))
      balance_so tcp backends each =
          balance_does s zones copy (ComesTo s (pick_among (filter (is_free_backend (list s b) t) backends)) lists (Goes s b)) b.side vip backends next (comer s b t is has) (comes s b t is has) tcp
          (balances tcp (filter (is_free_backend (list s b) t) backends) each)

-- ---- the stage

module _ (s : Chassis) (laid : IsLaidOut s) (spot : Spot) (p : Packet) (lists : Lists) (zones : ZoneLists) (copy : Carried) (h : IsAtSpot s spot p lists zones copy)
    (sought : HasSought zone.Dnat (dnat_of spot.datapath) lists p copy) where
  abbrev router : Name
  router = spot.datapath

  abbrev here : AtSpot s
  here = record { apart = laid.apart; spot = spot; p = p; lists = lists; zones = zones; copy = copy; here = h; owner = dnat_of router; side = zone.Dnat; has = h.numbers.dnat; next = table_behind stage.RouterDnat }

  abbrev sees : Seen
  sees = seen_by (dnat_of router) lists p

  abbrev Came : List Action → Piece Packet → Type 0
  Came actions piece = Bring s actions zones copy (ComesTo s piece lists (Goes s here))

  abbrev at_desk : Desk
  at_desk = record { now = s.scene.now; spot = spot; owner = dnat_of router }

  module _ (t : Tuple) (is : sees ≡ new t) (has : tuple_of p ≡ Some t) (plain : is_echo_reply t.protocol ≡ false) where
    begins_so : (o : Option Service) → service_for (net_of s) router t ≡ o → (row : Option Nat) → dnat_row (net_of s) router t.dst ≡ row
        → Came (begin_dnat (net_of s) o row) (λ rest u. finally (dnat_new (net_of s) at_desk t o row u p) rest)
    begins_so None served None found = passes_so s here (λ rest u. finally (dnat_new (net_of s) at_desk t None None u p) rest) (λ rest choices ends. refl)
    begins_so None served (Some r) found = row_so s laid here t is has plain r.logical_ip.addr (dnat_row_ok (net_of s) laid.valid router t.dst r found).logical_ip.0
    begins_so (Some x) served row found =
        let k = is_served (net_of s) laid.valid router t x served in
        let online = filter (is_online (net_of s) x.balancer) x.vip.backends in
        bring_same s here (begin_dnat (net_of s) (Some x) row)
        (λ rest u. finally (pick_backend at_desk t x.vip.at (filter (is_free_backend (list s here) t) online) u p) rest) (λ rest u. finally (dnat_new (net_of s) at_desk t (Some x) row u p) rest)
        (λ rest choices ends. ap (λ bs. finally (pick_backend at_desk t x.vip.at bs (trail_with lists choices ends) p) rest) (both_filters (is_free_backend (list s here) t) (is_online (net_of s) x.balancer) x.vip.backends))
        (balance_so s laid here t is has plain x.vip.at (served_protocol k.balancer.protocol t.protocol k.serves) online (backend_within (net_of s) laid.valid (list s here) t x k (of_packet s here t is has).within))

    begins_by : Came (begin_dnat (net_of s) (service_of (net_of s) router p) (dnat_row (net_of s) router (dst_of p)))
        (λ rest u. finally (dnat_new (net_of s) at_desk t (service_for (net_of s) router t) (dnat_row (net_of s) router t.dst) u p) rest)
    begins_by =
        let piece : Piece Packet = λ rest u. finally (dnat_new (net_of s) at_desk t (service_for (net_of s) router t) (dnat_row (net_of s) router t.dst) u p) rest in
        subst (λ (o : Option Tuple). Came (begin_dnat (net_of s) (option_and_then (service_for (net_of s) router) o) (dnat_row (net_of s) router (dst_of p))) piece) (sym has)
        (subst (λ (ip : Ip4). Came (begin_dnat (net_of s) (service_for (net_of s) router t) (dnat_row (net_of s) router ip)) piece) (sym (dst_is p t has))
        (begins_so (service_for (net_of s) router t) refl (dnat_row (net_of s) router t.dst) refl))

  abbrev as_piece : Seen → Piece Packet
  as_piece x rest u = finally (dnat_as (net_of s) at_desk router x u p) rest

  is_such : (x : Seen) → sees ≡ x → IsSeen (list s here) (tuple_of p) x
  is_such x is = subst (IsSeen (list s here) (tuple_of p)) is (is_seen (list s here) (own s here).good.zone.law p)

  remembered : (x : Seen) → sees ≡ x → copy.found ≡ Some (record { zone = z s here; state = state_of x })
  remembered x is = sought.entry ∙ ap (λ (y : Seen). Some (record { zone = z s here; state = state_of y })) is

  by_seen : (x : Seen) → sees ≡ x → Came (dnat_actions (net_of s) (service_of (net_of s) router p) (dnat_row (net_of s) router (dst_of p)) (finding_of x)) (as_piece x)
  by_seen (forward e) is = let y = is_such (forward e) is in onward_so s here e y.0 y.1 (remembered (forward e) is)
  by_seen (reply e) is = let y = is_such (reply e) is in back_so s here e y.0 y.1 (remembered (reply e) is)
  by_seen invalid is = passes_so s here (as_piece invalid) (λ rest choices ends. refl)
  by_seen (new t) is = let y = is_such (new t) is in begins_by t is y.0 y.1

  pub dnat_so : Came (dnat_actions (net_of s) (service_of (net_of s) router p) (dnat_row (net_of s) router (dst_of p)) (finding_of sees)) (translating_dnat s spot p)
  dnat_so =
      bring_same s here (dnat_actions (net_of s) (service_of (net_of s) router p) (dnat_row (net_of s) router (dst_of p)) (finding_of sees)) (as_piece sees) (translating_dnat s spot p)
      (λ rest choices ends. refl) (by_seen sees refl)

pub dnats : DnatLaw
dnats = dnat_so
