-- The ingress pipeline of any router from its last stages on: the packet is to be routed, and sent to its neighbour.
use Rattle.std.specs.Prelude.{◌≡◌, ◌≤◌, ◌&&◌, not, ℕ, Bool, true, false, cond, List, [], ◌∷◌, Option, Some, None, refl}
use Rattle.std.proofs.Common.{sym, ap, ◌∙◌, subst}
use Rattle.std.proofs.Math.Dec.{leb as nat_le}
use Rattle.conn_table.specs.Picks.{Choice}
use Rattle.flow_lowering.specs.LoweredFlows.{live_port_key}
use Rattle.flow_lowering.specs.Registers.{reg_number}
use Rattle.flow_table.specs.Matching.{IsBest, NoneMatches}
use Rattle.flow_table.specs.declared.flow.Cause.{Cause}
use Rattle.flow_table.specs.declared.flow.Cause.TheVariants as cause
use Rattle.flow_table.specs.declared.flow.FlowOp.{FlowOp}
use Rattle.inet_packet.proofs.RewriteSteps.{whole_with, ttl_steps}
use Rattle.inet_packet.specs.Rewrites.{with_ip4, ip4_dec_ttl}
use Rattle.inet_packet.specs.declared.packet.Packet.{Packet}
use Rattle.inet_packet.specs.declared.regs.Reg.TheVariants as reg
use Rattle.inet_packet.specs.declared.regs.RegFlags.{RegFlags}
use Rattle.inet_packet.specs.declared.regs.Regs.{Regs}
use Rattle.logical_flows.specs.Stages.{stage_table}
use Rattle.logical_flows.specs.declared.action.Action.{Action}
use Rattle.logical_flows.specs.declared.action.Action.TheVariants as a
use Rattle.logical_flows.specs.declared.stage.Stage.{Stage}
use Rattle.logical_flows.specs.declared.stage.Stage.TheVariants as stage
use Rattle.nb_records.specs.Neighbours.{neighbour_of}
use Rattle.nb_records.specs.Network.{Network}
use Rattle.nb_records.specs.Ways.{NextHop, Way, route_of}
use Rattle.nb_records.specs.declared.router.RouterPort.{RouterPort}
use Rattle.net_model.specs.Forwarding.{is_translating, routed, own_address, not_own}
use Rattle.net_model.specs.Headers.{carries_ip4, ip_of, dst_of}
use Rattle.net_model.specs.Trail.{Trail, Lists, End, is_dropped, spot_in_router, drop_for, unless, finally}
use Rattle.ovn_base.specs.declared.address.Ip4.{Ip4}
use Rattle.ovn_base.specs.declared.address.Mac.{Mac}
use Rattle.ovn_base.specs.declared.stages.TheConstants.{LOOKUP_TABLE}
use Rattle.ovn_base.specs.names.ByName.{at}
use Rattle.row_laws.proofs.routers.BestWays.{best_way_law}
use Rattle.row_laws.proofs.routers.RouterNumbers.{router_port_stands}
use Rattle.row_laws.specs.Copies.{Finding}
use Rattle.row_laws.specs.Numbers.{NumberStandsFor}
use Rattle.row_laws.specs.StageActions.{unless_dropped}
use Rattle.row_laws.specs.routers.RouterActions.{best_way, route_actions, neighbour_actions}
use Rattle.row_laws.specs.routers.RouterCopies.{RouterCopy, RouterWords, router_port_identity, router_roster}
use Rattle.row_laws.specs.routers.TranslatingActions.{HasComeTo, router_actions_by}
use Rattle.switch_engine.proofs.Wholes.{whole_between}
use Rattle.switch_engine.specs.Actions.{set_flag, drop_at, gone_on}
use Rattle.switch_engine.specs.Headers.{ttl_spent}
use Rattle.switch_engine.specs.Zones.{ZoneLists}
use Rattle.switch_engine.specs.declared.carried.Carried.{Carried}
use Rattle.switch_engine.specs.declared.effect.Effect.TheVariants as effect
use Rattle.sim_laws.proofs.pipelines.Copies.{has_datapath_key, has_port_key, goes_so}
use Rattle.sim_laws.proofs.pipelines.Doings.{go_does, drop_does}
use Rattle.sim_laws.proofs.pipelines.Pieces.{comes_same}
use Rattle.sim_laws.proofs.pipelines.Registers.{or_one, or_stays, still_after}
use Rattle.sim_laws.proofs.pipelines.Tables.{DoesOps}
use Rattle.sim_laws.proofs.pipelines.TargetKeys.{key_small}
use Rattle.sim_laws.proofs.pipelines.WalkOn.{comes_step}
use Rattle.sim_laws.proofs.router_stages.NextHops.{next_small, hop_is}
use Rattle.sim_laws.proofs.router_stages.RouterCopiesOn.{router_port_live}
use Rattle.sim_laws.proofs.router_stages.RouterDoings.{routed_to, hop_by, route_does, neighbour_does}
use Rattle.sim_laws.proofs.router_stages.RouterPackets.{spent_is, ip4_stays}
use Rattle.sim_laws.proofs.router_stages.RouterRegisters.{WayRegs, way_within}
use Rattle.sim_laws.proofs.router_stages.RouterSteps.{IsNext, goes_then}
use Rattle.sim_laws.proofs.translating_stages.AnyCopiesOn.{stands_on, stands_set, entry_number}
use Rattle.sim_laws.proofs.translating_stages.AnyRegisters.{way_set}
use Rattle.sim_laws.specs.Naming.{IsNumbered}
use Rattle.sim_laws.specs.Naming.IsNumbered.{drop}
use Rattle.sim_laws.specs.pipelines.Pieces.{Piece, trail_with, has_ended, ComesTo}
use Rattle.sim_laws.specs.pipelines.Standing.{Chassis, net_of, course_of, IsLaidOut, IsStill}
use Rattle.sim_laws.specs.pipelines.WalkOn.{Reached, Comes}
use Rattle.sim_laws.proofs.translating_stages.AnyTables.{DoesAsTold}
use Rattle.sim_laws.specs.routers.RouterStanding.{StandsInRouter, is_for_way}
use Rattle.sim_laws.specs.routers.RouterWays.{Leaving, by_neighbour, by_hop, by_route, GoesOut}
use Rattle.sim_laws.specs.routers.TranslatingWords.{Bring}

-- ---- a step

-- what the network tells of the stage is what the flow does that is taken
pub any_step : (s : Chassis) (here : Stage) → DoesAsTold s here → (c : RouterCopy) (lists : Lists) (zones : ZoneLists) (copy : Carried) → StandsInRouter s here (stage_table here) c lists zones copy
    → (So : Reached) → Bring s (router_actions_by here (net_of s) c) zones copy So → Comes (course_of s) zones (copy ∷ []) So
any_step s here law c lists zones copy h So does =
    let t = law c lists zones copy h in
    comes_step (course_of s) zones copy So
    (subst (λ (k : ℕ). ¬ NoneMatches s.flows k copy.regs copy.packet) (sym h.in_table) (subst (λ (q : Packet). ¬ NoneMatches s.flows (stage_table here) copy.regs q) (sym h.packet) t.0))
    (λ f best.
    let own : IsBest s.flows (stage_table here) copy.regs c.sight.packet f =
    subst (λ (q : Packet). IsBest s.flows (stage_table here) copy.regs q f) h.packet (subst (λ (k : ℕ). IsBest s.flows k copy.regs copy.packet f) h.in_table best) in
    subst (λ (ops : List FlowOp). DoesOps s ops zones copy So) (sym (t.1 f own)) does)

-- true on the right changes nothing
pub and_true : (b : Bool) → (b && true) ≡ b
and_true true = refl
and_true false = refl

module _ (s : Chassis) (laid : IsLaidOut s) (i : RouterPort) (first : Carried) where
  abbrev pub net : Network
  net = net_of s

  abbrev pub Goes : Lists → Leaving → ZoneLists → Carried → Type 0
  Goes = GoesOut s i first

  -- ---- before a stage

  pub record Before (here : Stage) (c : RouterCopy) (lists : Lists) (zones : ZoneLists) (copy : Carried) : Type 0 where
    pub stands : StandsInRouter s here (stage_table here) c lists zones copy
    pub still : IsStill is_for_way first copy

  module _ (lists : Lists) (zones : ZoneLists) where
    abbrev pub Lands : Piece Leaving → Carried → Type 0
    Lands piece copy = Comes (course_of s) zones (copy ∷ []) (ComesTo s piece lists Goes)

    abbrev pub Step : Carried → List Action → Type 1
    Step copy actions = (So : Reached) → Bring s actions zones copy So → Comes (course_of s) zones (copy ∷ []) So

    pub took : (here : Stage) → DoesAsTold s here → (c : RouterCopy) (copy : Carried) → Before here c lists zones copy → Step copy (router_actions_by here net c)
    took here one c copy h So does = any_step s here one c lists zones copy h.stands So does

    -- it goes on with nothing new
    pub goes_next : (here next : Stage) (c : RouterCopy) (copy : Carried) → Before here c lists zones copy → HasComeTo net next c → Step copy (a.Go (stage_table next) ∷ []) → (piece : Piece Leaving)
        → (Before next c lists zones (gone_on (stage_table next) copy) → Lands piece (gone_on (stage_table next) copy)) → Lands piece copy
    goes_next here next c copy h passed step piece rest =
        let on = gone_on (stage_table next) copy in
        goes_then s zones copy on (ComesTo s piece lists Goes) (step (IsNext zones on) (go_does s zones copy (IsNext zones on) (stage_table next) (refl, refl, refl)))
        (rest (record { stands = stands_on s h.stands next (stage_table next) passed; still = record { passes = h.still.passes; entry = h.still.entry; registers = h.still.registers } }))

    -- it is dropped
    pub drops_at : (here : Stage) (c : RouterCopy) (copy : Carried) → Before here c lists zones copy → ((regs : Regs) → cond (nat_le (stage_table here) LOOKUP_TABLE) regs.in_port regs.out_port ≡ regs.in_port) → (why : Cause)
        → (piece : Piece Leaving)
        → ((rest : Trail → Leaving → Trail) (choices : List Choice) (ends : List End) → piece rest (trail_with lists choices ends) ≡ drop_for why (spot_in_router c.port) (trail_with lists choices ends))
        → Step copy (a.Drop why ∷ []) → Lands piece copy
    drops_at here c copy h place why piece is step =
        let key = subst (λ (n : ℕ). IsNumbered s.keys (is_dropped c.port.router c.port.name why) (effect.Drop copy.regs.dp n why)) (sym (place copy.regs))
        (drop (has_datapath_key h.stands.numbers.on) (has_port_key (entry_number s h.stands))) in
        let number = subst (λ (k : ℕ). IsNumbered s.keys (is_dropped c.port.router c.port.name why) (drop_at k why copy.regs)) (sym h.stands.in_table) key in
        step (ComesTo s piece lists Goes) (drop_does s zones copy (ComesTo s piece lists Goes) why (record {
          own = is_dropped c.port.router c.port.name why ∷ [];
          numbered = (number, tt);
          landing = has_ended lists;
          is = is;
          lands = (refl, h.stands.hold);
        }))

  -- ---- r_neighbour

  -- the router's own answer, what a list said, and whether its source is translated where it leaves
  module _ (lists : Lists) (zones : ZoneLists) (own : Bool) (f : Finding) (b : Bool) (tells : b ≡ (not own && is_translating net i)) where
    abbrev words : Ip4 → RouterWords
    words next = record { own = own; next = next; finding = f }

    module _ (law : DoesAsTold s stage.RouterNeighbour) (out : RouterPort) (there : at net.router_ports out.name ≡ Some out) (on : out.router ≡ i.router) (next : Ip4) where
      -- a packet that is to leave by the port
      abbrev leaving : Packet → RouterCopy
      leaving q = record { port = i; out = Some out; sight = record { packet = q; in_port = router_port_identity i; out_port = Some (router_port_identity out) }; words = words next }

      module _ (p : Packet) (ip4 : carries_ip4 p ≡ true) (copy : Carried) (h : Before stage.RouterNeighbour (leaving (record (with_ip4 ip4_dec_ttl p) { src = out.mac })) lists zones copy)
          (loopback : reg_number reg.Loopback copy.regs ≡ 1) where
        abbrev q : Packet
        q = record (with_ip4 ip4_dec_ttl p) { src = out.mac }

        abbrev neighbour_piece : Option Mac → Piece Leaving
        neighbour_piece o rest t = by_neighbour s.scene i b rest out o t p

        neighbour_by : (o : Option Mac) → Step lists zones copy (neighbour_actions o) → Lands lists zones (neighbour_piece o) copy
        neighbour_by None step = drops_at lists zones stage.RouterNeighbour (leaving q) copy h (λ regs. refl) cause.NoNeighbour (neighbour_piece None) (λ rest choices ends. refl) step
        neighbour_by (Some mac) step =
            let So = ComesTo s (neighbour_piece (Some mac)) lists Goes in
            let last : Carried = gone_on 32 (record copy { packet = record copy.packet { dst = mac } }) in
            let set : WayRegs = record { out_port = copy.regs.out_port; next = copy.regs.next; flags = copy.regs.flags } in
            step So (neighbour_does s zones copy So mac 32 (goes_so s (neighbour_piece (Some mac)) lists lists Goes zones (record { out = out; translates = b; packet = routed out mac p }) last (record {
              c = leaving (routed out mac p);
              port = refl;
              to = refl;
              packet = refl;
              translates = tells ∙ ap (λ (k : Bool). not own && k) (sym (and_true (is_translating net i)) ∙ ap (λ (k : Bool). is_translating net i && k) (sym (ip4_stays ip4_dec_ttl p ip4)));
              stands = stands_set s h.stands (Some out) (routed out mac p) (words next) set stage.RouterFind 32 last refl (ap (λ (x : Packet). record x { dst = mac }) h.stands.packet) refl
                  (whole_between mac q.src q h.stands.at_port.whole) h.stands.numbers.within h.stands.at_port.words (record { there = there; on = on; is_port = refl }) h.stands.numbers.goes tt;
              loopback = loopback;
              still = record { passes = h.still.passes; entry = h.still.entry; registers = h.still.registers };
            }) (λ rest choices ends. refl)))

        neighbour_lands : Lands lists zones (neighbour_piece (neighbour_of net out next)) copy
        neighbour_lands = neighbour_by (neighbour_of net out next) (took lists zones stage.RouterNeighbour law (leaving q) copy h)

    -- ---- r_route

    -- a packet that is to be routed
    abbrev pub routing : Packet → RouterCopy
    routing q = record { port = i; out = None; sight = record { packet = q; in_port = router_port_identity i; out_port = None }; words = words (ip_of 0) }

    module _ (law : DoesAsTold s stage.RouterRoute) (later : DoesAsTold s stage.RouterNeighbour) (q : Packet) (copy : Carried) (h : Before stage.RouterRoute (routing q) lists zones copy) where
      abbrev hop_piece : Option NextHop → Piece Leaving
      hop_piece o rest t = by_hop s.scene i b rest o t q

      same_hop : (o : Option NextHop) → route_of net i.router (dst_of q) ≡ o → Lands lists zones (hop_piece o) copy → Lands lists zones (λ rest t. by_route s.scene i b rest t q) copy
      same_hop o is lands =
          comes_same s (hop_piece o) (λ rest t. by_route s.scene i b rest t q) lists Goes (λ rest choices ends. ap (λ (k : Option NextHop). by_hop s.scene i b rest k (trail_with lists choices ends) q) (sym is)) zones (copy ∷ []) lands

      route_by : (o : Option Way) → best_way net i.router (dst_of q) ≡ o → Step lists zones copy (route_actions o) → Lands lists zones (λ rest t. by_route s.scene i b rest t q) copy
      route_by None none step =
          same_hop None ((best_way_law net laid.valid i.router (dst_of q)).1 none)
          (drops_at lists zones stage.RouterRoute (routing q) copy h (λ regs. refl) cause.NoRoute (hop_piece None) (λ rest choices ends. refl) step)
      route_by (Some w) found step =
          let k = (best_way_law net laid.valid i.router (dst_of q)).0 w found in
          let out : RouterPort = w.hop.port in
          let keys = laid.tables.admit.can_lower.hold in
          let key = router_port_live net s.keys laid.live out k.there in
          let p : Packet = record (with_ip4 ip4_dec_ttl q) { src = out.mac } in
          let hop : ℕ = hop_by w.is_network copy w.hop.next.0 in
          let is_hop = hop_is w.is_network copy q w.hop.next h.stands.packet k.next in
          let next : Carried = gone_on 14 (routed_to s out.name out.mac hop copy) in
          let flags : RegFlags = set_flag 1 1 copy.regs.flags in
          let set : WayRegs = record { out_port = live_port_key s.keys out.name; next = hop; flags = flags } in
          let whole = whole_between q.dst out.mac (with_ip4 ip4_dec_ttl q) (whole_with ip4_dec_ttl q h.stands.at_port.whole (ttl_steps q h.stands.at_port.whole)) in
          let small = subst (λ (n : ℕ). n ≤ 0xffff_ffff) (sym is_hop) (next_small net laid.valid i.router q h.stands.at_port.whole w found) in
          let stands = stands_set s h.stands (Some out) p (words w.hop.next) set stage.RouterNeighbour 14 next refl
          (ap (λ (x : Packet). record (ttl_spent x) { src = out.mac }) h.stands.packet ∙ ap (λ (x : Packet). record x { src = out.mac }) (spent_is q)) refl
          whole (way_within set copy.regs h.stands.numbers.within (key_small s.keys keys out.router out.name (live_port_key s.keys out.name) key) small)
          (record { own = or_stays copy.regs.flags.0 1 3 refl ∙ h.stands.at_port.words.own; next = is_hop; finding = h.stands.at_port.words.finding })
          (record { there = k.there; on = k.on; is_port = refl })
          (subst (λ (d : List ℕ). NumberStandsFor s.keys (router_roster net) d (Some (router_port_identity out)) (live_port_key s.keys out.name)) k.on (router_port_stands net s.keys laid.valid keys out k.there (live_port_key s.keys out.name) key))
          (ip4_stays ip4_dec_ttl q h.stands.at_port.passed) in
          let still = still_after first copy next h.still (way_set set copy next refl refl (record { tracked = or_stays copy.regs.flags.0 1 1 refl; blocked = or_stays copy.regs.flags.0 1 2 refl; arrived = or_stays copy.regs.flags.0 1 4 refl })) in
          same_hop (Some w.hop) k.route
          (goes_then s zones copy next (ComesTo s (hop_piece (Some w.hop)) lists Goes)
          (step (IsNext zones next) (route_does s zones copy (IsNext zones next) out.name out.mac w.is_network w.hop.next.0 14 (refl, refl, refl)))
          (neighbour_lands later out k.there k.on w.hop.next q h.stands.at_port.passed next (record { stands = stands; still = still }) (or_one copy.regs.flags.0 1 0 refl)))

      pub route_lands : Lands lists zones (λ rest t. by_route s.scene i b rest t q) copy
      route_lands = route_by (best_way net i.router (dst_of q)) refl (took lists zones stage.RouterRoute law (routing q) copy h)

    -- ---- r_own

    module _ (law : DoesAsTold s stage.RouterOwn) (second : DoesAsTold s stage.RouterRoute) (third : DoesAsTold s stage.RouterNeighbour) (q : Packet) (ip4 : carries_ip4 q ≡ true) (copy : Carried)
        (h : Before stage.RouterOwn (routing q) lists zones copy) where
      abbrev own_piece : Option Cause → Piece Leaving
      own_piece o rest t = finally (unless o (spot_in_router i) t q) (by_route s.scene i b rest)

      own_by : (o : Option Cause) → Step lists zones copy (unless_dropped stage.RouterOwn o) → Lands lists zones (own_piece o) copy
      own_by None step =
          goes_next lists zones stage.RouterOwn stage.RouterRoute (routing q) copy h ip4 step (own_piece None) (λ k. route_lands second third q (gone_on 13 copy) k)
      own_by (Some why) step = drops_at lists zones stage.RouterOwn (routing q) copy h (λ regs. refl) why (own_piece (Some why)) (λ rest choices ends. refl) step

      pub own_lands : Lands lists zones (λ rest t. finally (not_own s.scene i t q) (by_route s.scene i b rest)) copy
      own_lands = own_by (own_address net i q) (took lists zones stage.RouterOwn law (routing q) copy h)
