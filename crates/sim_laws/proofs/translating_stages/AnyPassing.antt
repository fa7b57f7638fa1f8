-- The ingress pipeline of any router, where the packet passes on: a translation of its source is undone, its destination is translated, and then it is routed.
use Rattle.std.specs.Prelude.{◌≡◌, ◌&&◌, Bool, true, false, List, [], ◌∷◌, None, refl}
use Rattle.std.proofs.Common.{sym, ap, ◌∙◌, subst}
use Rattle.conn_table.specs.Picks.{Choice}
use Rattle.flow_table.specs.declared.flow.ZoneOf.TheVariants as zone
use Rattle.inet_packet.specs.declared.packet.Packet.{Packet}
use Rattle.inet_packet.specs.declared.regs.Reg.TheVariants as reg
use Rattle.logical_flows.specs.declared.stage.Stage.TheVariants as stage
use Rattle.nb_records.specs.declared.router.RouterPort.{RouterPort}
use Rattle.net_model.specs.Dnat.{undo_snat, dnat}
use Rattle.net_model.specs.Forwarding.{is_translating, not_own, come_in}
use Rattle.net_model.specs.Headers.{carries_ip4, ip_of}
use Rattle.net_model.specs.Trail.{Trail, Lists, End, dnat_of, spot_in_router, then, finally}
use Rattle.row_laws.specs.Copies.{Finding, not_sought}
use Rattle.row_laws.specs.Passages.{finding_of}
use Rattle.row_laws.specs.routers.RouterCopies.{RouterCopy, router_port_identity}
use Rattle.row_laws.specs.routers.TranslatingActions.{undo_actions}
use Rattle.switch_engine.specs.Actions.{gone_on}
use Rattle.switch_engine.specs.Zones.{ZoneLists}
use Rattle.switch_engine.specs.declared.carried.Carried.{Carried}
use Rattle.sim_laws.proofs.pipelines.Pieces.{finally_then, comes_same, comes_then}
use Rattle.sim_laws.proofs.pipelines.Registers.{still_after}
use Rattle.sim_laws.proofs.router_lists.Dnats.{dnats}
use Rattle.sim_laws.proofs.router_lists.Undoing.{undoes}
use Rattle.sim_laws.proofs.translating_stages.AnyCopiesOn.{sought_of, stands_sought, at_entry}
use Rattle.sim_laws.proofs.translating_stages.AnyIn.{and_true, Before, Goes, Lands, Step, took, goes_next, own_lands}
use Rattle.sim_laws.proofs.translating_stages.AnyRegisters.{sought_for_way, none_sought}
use Rattle.sim_laws.specs.pipelines.Pieces.{Piece, trail_with, ComesTo}
use Rattle.sim_laws.specs.pipelines.Standing.{Chassis, net_of, course_of, IsLaidOut}
use Rattle.sim_laws.specs.pipelines.WalkOn.{Comes}
use Rattle.sim_laws.specs.routers.TranslatingLists.{undoing, translating_dnat}
use Rattle.sim_laws.proofs.translating_stages.AnyTables.{DoesAsTold}
use Rattle.sim_laws.specs.routers.RouterWays.{Leaving, by_route}
use Rattle.sim_laws.specs.routers.TranslatingWords.{HasSought, seen_by, is_none_set, GoesOnAt, GoesOnSought, Bring}

-- a packet that passes on, of which a list said this
abbrev pub passing_on : RouterPort → Finding → Packet → RouterCopy
passing_on i f q = record { port = i; out = None; sight = record { packet = q; in_port = router_port_identity i; out_port = None }; words = record { own = false; next = ip_of 0; finding = f } }

module _ (s : Chassis) (laid : IsLaidOut s) (i : RouterPort) (first : Carried) (own_law : DoesAsTold s stage.RouterOwn) (route_law : DoesAsTold s stage.RouterRoute) (neighbour_law : DoesAsTold s stage.RouterNeighbour)
    (b : Bool) (is : is_translating (net_of s) i ≡ b) where
  -- what follows the stages of NAT
  abbrev later : Packet → Piece Leaving
  later q rest t = finally (not_own s.scene i t q) (by_route s.scene i b rest)

  later_lands : (lists : Lists) (zones : ZoneLists) (f : Finding) (q : Packet) → carries_ip4 q ≡ true → (copy : Carried)
      → Before s laid i first stage.RouterOwn (passing_on i f q) lists zones copy → Lands s laid i first lists zones (later q) copy
  later_lands lists zones f q ip4 copy h = own_lands s laid i first lists zones false f b (sym is) own_law route_law neighbour_law q ip4 copy h

  -- ---- r_dnat

  module _ (dnat_law : DoesAsTold s stage.RouterDnat) where
    -- where a list was asked
    module _ (on : b ≡ true) (lists : Lists) (zones : ZoneLists) (q : Packet) (ip4 : carries_ip4 q ≡ true) (copy : Carried) where
      abbrev f : Finding
      f = finding_of (seen_by (dnat_of i.router) lists q)

      abbrev c : RouterCopy
      c = passing_on i f q

      module _ (h : Before s laid i first stage.RouterDnat c lists zones copy) (sought : HasSought zone.Dnat (dnat_of i.router) lists q copy) where
        goes_behind : (after : Lists) (r : Packet) (last : ZoneLists) (next : Carried) → GoesOnAt s 12 is_none_set copy after r last next → Before s laid i first stage.RouterOwn (passing_on i f r) after last next
        goes_behind after r last next goes =
            let still = none_sought copy next goes.still in
            record {
              stands = stands_sought s h.stands r f stage.RouterOwn 12 next after last still goes.in_table goes.packet goes.whole (goes.still.registers reg.State refl ∙ h.stands.at_port.words.finding) goes.hold
                  (sym (ap carries_ip4 goes.packet) ∙ goes.ip4 ∙ ap carries_ip4 h.stands.packet ∙ ip4);
              still = still_after first copy next h.still (sought_for_way copy next still);
            }

        abbrev dnat_piece : Piece Leaving
        dnat_piece rest t = translating_dnat s (spot_in_router i) q (λ u r. later r rest u) t

        pub dnat_lands : Lands s laid i first lists zones dnat_piece copy
        dnat_lands =
            comes_then s (translating_dnat s (spot_in_router i) q) later lists (GoesOnAt s 12 is_none_set copy) (Goes s laid i first) zones (copy ∷ [])
            (took s laid i first lists zones stage.RouterDnat dnat_law c copy h (ComesTo s (translating_dnat s (spot_in_router i) q) lists (GoesOnAt s 12 is_none_set copy))
            (dnats s laid (spot_in_router i) q lists zones copy (at_entry s h.stands (λ regs. refl) (is ∙ on)) sought))
            (λ after r last next goes.
            let k = goes_behind after r last next goes in
            later_lands after last f r k.stands.at_port.passed next k)

    -- ---- r_undo

    module _ (undo_law : DoesAsTold s stage.RouterUndo) (lists : Lists) (zones : ZoneLists) (p : Packet) (ip4 : carries_ip4 p ≡ true) (copy : Carried)
        (h : Before s laid i first stage.RouterUndo (passing_on i not_sought p) lists zones copy) where
      abbrev come_piece : Bool → Piece Leaving
      come_piece k rest t = finally (come_in s.scene k i t p) (by_route s.scene i b rest)

      abbrev StepIf : Bool → Type 1
      StepIf k = Step s laid i first lists zones copy (undo_actions k)

      -- where the router translates
      module _ (on : b ≡ true) where
        sought_behind : (after : Lists) (q : Packet) (last : ZoneLists) (next : Carried) → GoesOnSought s 11 zone.Dnat (dnat_of i.router) copy after q last next
            → Before s laid i first stage.RouterDnat (passing_on i (finding_of (seen_by (dnat_of i.router) after q)) q) after last next
        sought_behind after q last next goes = record {
          stands = stands_sought s h.stands q (finding_of (seen_by (dnat_of i.router) after q)) stage.RouterDnat 11 next after last goes.goes.still goes.goes.in_table goes.goes.packet goes.goes.whole goes.sought.state goes.goes.hold
              (sought_of q (finding_of (seen_by (dnat_of i.router) after q)) (sym (ap carries_ip4 goes.goes.packet) ∙ goes.goes.ip4 ∙ ap carries_ip4 h.stands.packet ∙ ip4));
          still = still_after first copy next h.still (sought_for_way copy next goes.goes.still);
        }

        both_are : (rest : Trail → Leaving → Trail) (choices : List Choice) (ends : List End)
            → undoing s (spot_in_router i) p (λ u q. translating_dnat s (spot_in_router i) q (λ v r. later r rest v) u) (trail_with lists choices ends) ≡ come_piece true rest (trail_with lists choices ends)
        both_are rest choices ends = sym (
            finally_then (undo_snat s.scene.now i.router (trail_with lists choices ends) p) (λ u q. then (dnat (net_of s) s.scene.now (spot_in_router i) u q) (not_own s.scene i)) (by_route s.scene i b rest)
            ∙ λ j. finally (undo_snat s.scene.now i.router (trail_with lists choices ends) p) (λ u q. finally_then (dnat (net_of s) s.scene.now (spot_in_router i) u q) (not_own s.scene i) (by_route s.scene i b rest) j))

        undone_lands : StepIf true → Lands s laid i first lists zones (come_piece true) copy
        undone_lands step =
            comes_same s (λ rest t. undoing s (spot_in_router i) p (λ u q. translating_dnat s (spot_in_router i) q (λ v r. later r rest v) u) t) (come_piece true) lists (Goes s laid i first) both_are zones (copy ∷ [])
            (comes_then s (undoing s (spot_in_router i) p) (λ q rest t. translating_dnat s (spot_in_router i) q (λ v r. later r rest v) t) lists (GoesOnSought s 11 zone.Dnat (dnat_of i.router) copy) (Goes s laid i first) zones (copy ∷ [])
            (step (ComesTo s (undoing s (spot_in_router i) p) lists (GoesOnSought s 11 zone.Dnat (dnat_of i.router) copy))
            (undoes s laid.apart (spot_in_router i) p lists zones copy (at_entry s h.stands (λ regs. refl) (is ∙ on))))
            (λ after q last next goes.
            dnat_lands on after last q (sym (ap carries_ip4 goes.goes.packet) ∙ goes.goes.ip4 ∙ ap carries_ip4 h.stands.packet ∙ ip4) next (sought_behind after q last next goes) goes.sought))

      -- where it does not
      plain_lands : b ≡ false → StepIf false → Lands s laid i first lists zones (come_piece false) copy
      plain_lands off step =
          goes_next s laid i first lists zones stage.RouterUndo stage.RouterDnat (passing_on i not_sought p) copy h tt step (come_piece false) (λ k.
          goes_next s laid i first lists zones stage.RouterDnat stage.RouterOwn (passing_on i not_sought p) (gone_on 11 copy) k ip4 (took s laid i first lists zones stage.RouterDnat dnat_law (passing_on i not_sought p) (gone_on 11 copy) k)
          (come_piece false) (λ l. later_lands lists zones not_sought p ip4 (gone_on 12 (gone_on 11 copy)) l))

      by_kind : (k : Bool) → b ≡ k → StepIf k → Lands s laid i first lists zones (come_piece k) copy
      by_kind true on step = undone_lands on step
      by_kind false off step = plain_lands off step

      pub passing_lands : Lands s laid i first lists zones (come_piece b) copy
      passing_lands =
          by_kind b refl (λ So. subst (λ (k : Bool). Bring s (undo_actions k) zones copy So → Comes (course_of s) zones (copy ∷ []) So) (both_true b is)
          (took s laid i first lists zones stage.RouterUndo undo_law (passing_on i not_sought p) copy h So))
        where
          both_true : (k : Bool) → is_translating (net_of s) i ≡ k → (is_translating (net_of s) i && carries_ip4 p) ≡ k
          both_true k e = ap (λ (x : Bool). x && carries_ip4 p) e ∙ ap (λ (x : Bool). k && x) ip4 ∙ and_true k
