-- Pieces of the way that hold a packet against a connection list tell of drops at their spot, and of picks that the records allow.
use Rattle.std.specs.Prelude.{◌≡◌, ◌==◌, ◌≤◌, ◌&&◌, ℕ, nat_le, Bool, true, false, List, [], ◌∷◌, Option, Some, None, Result, Ok, Err, refl}
use Rattle.std.specs.Cmp.{first_so, second_so}
use Rattle.std.specs.List.{list_any}
use Rattle.std.proofs.Common.{sym, ◌∙◌, subst, inl, inr}
use Rattle.std.proofs.lemmas.Bool.{false≢true, and_parts, eqb-true}
use Rattle.std.proofs.lemmas.Bool.Decides.{leb_tells}
use Rattle.conn_table.specs.Connections.{ConnectionList, committed, is_free}
use Rattle.conn_table.specs.Picks.{Choice, to_backend, to_port, to_address, from_address, towards, with_port, Chosen, choose_backend, choose_port, is_free_port, first_port, last_port, may_pick, has_free_port}
use Rattle.conn_table.specs.Tracking.{Seen, forward, reply, invalid, new, seen}
use Rattle.conn_table.specs.Tuples.{reversed, with_tuple}
use Rattle.conn_table.specs.declared.connection.CommitFault.{CommitFault}
use Rattle.conn_table.specs.declared.tuple.Tuple.{Tuple}
use Rattle.flow_table.specs.declared.flow.Cause.TheVariants as cause
use Rattle.nb_records.specs.Network.{Network, same_backend}
use Rattle.nb_records.specs.declared.router.Nat.{Nat}
use Rattle.nb_records.specs.declared.router.RouterPort.{RouterPort}
use Rattle.net_model.specs.Balancing.{Desk, commit_cause, after_commit, commit_or_drop, Service, service_for, may_serve, legal_backends, send_to_backend, pick_backend, balance}
use Rattle.net_model.specs.Config.{Config}
use Rattle.net_model.specs.Dnat.{undo_as, undo_snat, dnat_row, dnat_desk, dnat_by_row, dnat_new, dnat_as, dnat}
use Rattle.net_model.specs.Headers.{src_of}
use Rattle.net_model.specs.Snat.{snat_row, snat_desk, snat_to, snat_over, pick_port, keep_port, snat_by_row, snat_without_row, snat_as, snat}
use Rattle.net_model.specs.Trail.{dnat_of, snat_of, list_of, Spot, spot_in_router, tell, picks_backend, picks_port, after_choice}
use Rattle.ovn_base.proofs.AmongLaws.{filter_among, any_among}
use Rattle.ovn_base.specs.declared.address.Backend.{Backend}
use Rattle.ovn_base.specs.declared.address.Ip4.{Ip4}
use Rattle.ovn_base.specs.declared.name.Name.{Name}
use Rattle.ovn_base.specs.lists.Among.{Among}
use Rattle.switch_engine.proofs.Lists.{all_append}
use Rattle.sim_laws.proofs.told.Told.{HasRouterPort, HasSpot, in_router, IsTold, picks_one, picks_from, TellsSo, PointTells, PieceTells, drop_tells}

-- ---- choices

-- a legal choice passes the test
legal_backend : (test : Backend → Bool) (otherwise : Backend) (choices : List Choice) → (choose_backend test otherwise choices).legal ≡ true → test (choose_backend test otherwise choices).what ≡ true
legal_backend test otherwise [] h = absurd (false≢true h)
legal_backend test otherwise (to_backend b ∷ choices) h = h
legal_backend test otherwise (to_port n ∷ choices) h = absurd (false≢true h)

legal_port : (test : ℕ → Bool) (choices : List Choice) → (choose_port test choices).legal ≡ true → test (choose_port test choices).what ≡ true
legal_port test [] h = absurd (false≢true h)
legal_port test (to_backend b ∷ choices) h = absurd (false≢true h)
legal_port test (to_port n ∷ choices) h = h

at_most : (a b : ℕ) → nat_le a b ≡ true → a ≤ b
at_most a b h = elim (leb_tells a b) [ inl e ↦ e.1 | inr e ↦ absurd (false≢true (sym e.0 ∙ h)) ]

one_backend : (a b : Backend) → same_backend a b ≡ true → a ≡ b
one_backend a b h =
    let parts = and_parts (a.ip.0 == b.ip.0) (a.port == b.port) h in
    let ip = eqb-true a.ip.0 b.ip.0 parts.0 in
    let port = eqb-true a.port b.port parts.1 in
    λ i. record { ip = record { 0 = ip i }; port = port i }

module _ (c : Config) where
  -- ---- new entries

  pub commit_tells : (d : Desk) (from back : Tuple) → HasSpot c.net d.spot → PieceTells c (commit_or_drop d from back)
  commit_tells d from back has t p h = by (committed (list_of t.lists d.owner) from back d.now)
    where
      by : (r : Result ConnectionList CommitFault) → PointTells c (after_commit d r t p)
      by (Ok list) = h
      by (Err why) = drop_tells c (commit_cause why) d.spot t has h

  -- ---- backends

  send_tells : (d : Desk) (tuple : Tuple) (s : Service) (x : Chosen Backend) → HasSpot c.net d.spot → service_for c.net d.spot.datapath tuple ≡ Some s → (x.legal ≡ true → Among x.what s.vip.backends)
      → PieceTells c (send_to_backend d tuple s.vip.at x)
  send_tells d tuple s x has serves offered t p h =
      let told : TellsSo c (tell (picks_backend d.spot.datapath s.vip.at x.what) (after_choice x t)) = λ legal.
      all_append (IsTold c) t.ends (picks_backend d.spot.datapath s.vip.at x.what ∷ []) (h (first_so t.legal x.legal legal))
      (picks_one d.spot tuple s x.what has serves (offered (second_so t.legal x.legal legal)), tt) in
      commit_tells d tuple (reversed (towards x.what tuple)) has (tell (picks_backend d.spot.datapath s.vip.at x.what) (after_choice x t)) (with_tuple (towards x.what tuple) p) told

  pick_tells : (d : Desk) (tuple : Tuple) (s : Service) (bs : List Backend) → HasSpot c.net d.spot → service_for c.net d.spot.datapath tuple ≡ Some s → ((b : Backend) → Among b bs → Among b s.vip.backends)
      → PieceTells c (pick_backend d tuple s.vip.at bs)
  pick_tells d tuple s [] has serves offered t p h = drop_tells c cause.NoLiveBackend d.spot t has h
  pick_tells d tuple s (b ∷ bs) has serves offered t p h =
      let test : Backend → Bool = λ x. list_any (same_backend x) (b ∷ bs) in
      let x : Chosen Backend = choose_backend test s.vip.at t.choices in
      let listed : x.legal ≡ true → Among x.what s.vip.backends = λ legal.
      let one = any_among (same_backend x.what) (b ∷ bs) (legal_backend test s.vip.at t.choices legal) in
      offered x.what (subst (λ (y : Backend). Among y (b ∷ bs)) (sym (one_backend x.what one.0 one.2)) one.1) in
      send_tells d tuple s x has serves listed t p h

  pub balance_tells : (net : Network) (d : Desk) (tuple : Tuple) (s : Service) → HasSpot c.net d.spot → service_for c.net d.spot.datapath tuple ≡ Some s → PieceTells c (balance net d tuple s)
  balance_tells net d tuple s has serves t p h =
      let list = list_of t.lists d.owner in
      pick_tells d tuple s (legal_backends net list tuple s) has serves (λ b m. (filter_among (may_serve net list tuple s.balancer) b s.vip.backends m).0) t p h

  -- ---- undoing translations of sources

  undo_as_tells : (now : ℕ) (router : Name) (sight : Seen) → PieceTells c (undo_as now router sight)
  undo_as_tells now router (reply e) t p h = h
  undo_as_tells now router (forward e) t p h = h
  undo_as_tells now router invalid t p h = h
  undo_as_tells now router (new tuple) t p h = h

  pub undo_tells : (now : ℕ) (router : Name) → PieceTells c (undo_snat now router)
  undo_tells now router t p h = undo_as_tells now router (seen (list_of t.lists (snat_of router)) p) t p h

  -- ---- translating destinations

  by_row_tells : (d : Desk) (tuple : Tuple) (row : Option Nat) → HasSpot c.net d.spot → PieceTells c (dnat_by_row d tuple row)
  by_row_tells d tuple None has t p h = h
  by_row_tells d tuple (Some r) has t p h =
      let to = to_address r.logical_ip.addr tuple in
      commit_tells d tuple (reversed to) has t (with_tuple to p) h

  dnat_new_tells : (d : Desk) (tuple : Tuple) (o : Option Service) (row : Option Nat) → HasSpot c.net d.spot → service_for c.net d.spot.datapath tuple ≡ o → PieceTells c (dnat_new c.net d tuple o row)
  dnat_new_tells d tuple (Some s) row has is t p h = balance_tells c.net d tuple s has is t p h
  dnat_new_tells d tuple None row has is t p h = by_row_tells d tuple row has t p h

  dnat_as_tells : (d : Desk) (sight : Seen) → HasSpot c.net d.spot → PieceTells c (dnat_as c.net d d.spot.datapath sight)
  dnat_as_tells d (forward e) has t p h = h
  dnat_as_tells d (reply e) has t p h = h
  dnat_as_tells d invalid has t p h = h
  dnat_as_tells d (new tuple) has t p h = dnat_new_tells d tuple (service_for c.net d.spot.datapath tuple) (dnat_row c.net d.spot.datapath tuple.dst) has refl t p h

  pub dnat_tells : (now : ℕ) (spot : Spot) → HasSpot c.net spot → PieceTells c (dnat c.net now spot)
  dnat_tells now spot has t p h = dnat_as_tells (dnat_desk now spot) (seen (list_of t.lists (dnat_of spot.datapath)) p) has t p h

  -- ---- translating sources

  module _ (out : RouterPort) (has : HasRouterPort c.net out) (ip : Ip4) (row : Nat) (is : snat_row c.net out.router ip ≡ Some row) where
    abbrev desk : ℕ → Desk
    desk now = snat_desk now (spot_in_router out) out.router

    spotted : HasSpot c.net (spot_in_router out)
    spotted = in_router out has

    snat_to_tells : (now : ℕ) (tuple back : Tuple) → PieceTells c (snat_to (desk now) tuple back)
    snat_to_tells now tuple back t p h = commit_tells (desk now) tuple back spotted t (with_tuple (reversed back) p) h

    over_tells : (now : ℕ) (tuple back : Tuple) (x : Chosen ℕ) → (x.legal ≡ true → (1024 ≤ x.what) × (x.what ≤ 65535)) → PieceTells c (snat_over (desk now) out.router tuple back x)
    over_tells now tuple back x ranged t p h =
        let told : TellsSo c (tell (picks_port out.router x.what) (after_choice x t)) = λ legal.
        let range = ranged (second_so t.legal x.legal legal) in
        all_append (IsTold c) t.ends (picks_port out.router x.what ∷ []) (h (first_so t.legal x.legal legal)) (picks_from out ip row x.what has is range.0 range.1, tt) in
        snat_to_tells now tuple (with_port x.what back) (tell (picks_port out.router x.what) (after_choice x t)) p told

    in_range : (list : ConnectionList) (back : Tuple) (n : ℕ) → may_pick list back n ≡ true → (1024 ≤ n) × (n ≤ 65535)
    in_range list back n h =
        let more = second_so (nat_le first_port n) (nat_le n last_port && is_free_port list back n) h in
        (at_most first_port n (first_so (nat_le first_port n) (nat_le n last_port && is_free_port list back n) h), at_most n last_port (first_so (nat_le n last_port) (is_free_port list back n) more))

    pick_port_tells : (now : ℕ) (b : Bool) (tuple back : Tuple) → PieceTells c (pick_port b (desk now) out.router tuple back)
    pick_port_tells now true tuple back t p h =
        let list = list_of t.lists (snat_of out.router) in
        over_tells now tuple back (choose_port (may_pick list back) t.choices) (λ legal. in_range list back _ (legal_port (may_pick list back) t.choices legal)) t p h
    pick_port_tells now false tuple back t p h = drop_tells c cause.NoFreePort (spot_in_router out) t spotted h

    keep_tells : (now : ℕ) (b : Bool) (tuple back : Tuple) → PieceTells c (keep_port b (desk now) out.router tuple back)
    keep_tells now true tuple back t p h = snat_to_tells now tuple back t p h
    keep_tells now false tuple back t p h = pick_port_tells now (has_free_port (list_of t.lists (snat_of out.router)) back) tuple back t p h

    by_row_of_tells : (now : ℕ) (sight : Seen) → PieceTells c (snat_by_row (desk now) out.router row sight)
    by_row_of_tells now (forward e) t p h = h
    by_row_of_tells now (reply e) t p h = h
    by_row_of_tells now invalid t p h = drop_tells c cause.Invalid (spot_in_router out) t spotted h
    by_row_of_tells now (new tuple) t p h =
        let back = reversed (from_address row.external_ip tuple) in
        keep_tells now (is_free (list_of t.lists (snat_of out.router)) back) tuple back t p h

  without_row_tells : (d : Desk) (sight : Seen) → PieceTells c (snat_without_row d sight)
  without_row_tells d (forward e) t p h = h
  without_row_tells d (reply e) t p h = h
  without_row_tells d invalid t p h = h
  without_row_tells d (new tuple) t p h = h

  snat_as_tells : (now : ℕ) (out : RouterPort) → HasRouterPort c.net out → (ip : Ip4) (o : Option Nat) → snat_row c.net out.router ip ≡ o → (sight : Seen)
      → PieceTells c (snat_as (snat_desk now (spot_in_router out) out.router) out.router o sight)
  snat_as_tells now out has ip None is sight t p h = without_row_tells (snat_desk now (spot_in_router out) out.router) sight t p h
  snat_as_tells now out has ip (Some row) is sight t p h = by_row_of_tells out has ip row is now sight t p h

  pub snat_tells : (now : ℕ) (out : RouterPort) → HasRouterPort c.net out → PieceTells c (snat c.net now (spot_in_router out) out.router)
  snat_tells now out has t p h = snat_as_tells now out has (src_of p) (snat_row c.net out.router (src_of p)) refl (seen (list_of t.lists (snat_of out.router)) p) t p h
