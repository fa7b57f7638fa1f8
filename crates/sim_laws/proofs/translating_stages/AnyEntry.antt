-- The ingress pipeline of any router from its first stages on: the packet is let in, and answered, dropped or passed on.
use Rattle.std.specs.Prelude.{◌≡◌, ◌==◌, ◌&&◌, not, Bool, true, false, cond, List, [], ◌∷◌, Some, None, refl}
use Rattle.std.proofs.Common.{sym, ap, ◌∙◌, subst}
use Rattle.std.proofs.lemmas.Bool.{cond-true}
use Rattle.flow_table.specs.declared.flow.Cause.TheVariants as cause
use Rattle.inet_packet.proofs.RewriteSteps.{whole_with, reply_steps}
use Rattle.inet_packet.specs.Fields as field
use Rattle.inet_packet.specs.Rewrites.{IsArp, with_ip4, ip4_as_reply, with_arp_reply, arp_as_reply}
use Rattle.inet_packet.specs.declared.packet.Body.{Body}
use Rattle.inet_packet.specs.declared.packet.Body.TheVariants as body
use Rattle.inet_packet.specs.declared.packet.Packet.{Packet}
use Rattle.inet_packet.specs.declared.regs.Reg.TheVariants as reg
use Rattle.logical_flows.specs.declared.action.Action.{Action}
use Rattle.logical_flows.specs.declared.stage.Stage.TheVariants as stage
use Rattle.nb_records.specs.declared.router.RouterPort.{RouterPort}
use Rattle.net_model.specs.Forwarding.{is_translating}
use Rattle.net_model.specs.Headers.{carries_ip4, ip_of}
use Rattle.net_model.specs.RouterInput.{Intake, answers_with, becomes, passes_on, refuses, arp_answer, is_for_port, intake}
use Rattle.net_model.specs.Trail.{Lists}
use Rattle.ovn_base.specs.declared.address.Ip4.{Ip4}
use Rattle.ovn_base.specs.declared.address.Mac.{Mac}
use Rattle.row_laws.specs.Copies.{not_sought}
use Rattle.row_laws.specs.StageActions.{unless_dropped}
use Rattle.row_laws.specs.routers.RouterActions.{intake_actions}
use Rattle.row_laws.specs.routers.RouterCopies.{RouterCopy}
use Rattle.row_laws.specs.routers.RouterLaws.{OfEachRouterStage}
use Rattle.row_laws.specs.routers.RouterThrough.{entering, IsIntake, IntakeLaw}
use Rattle.row_laws.specs.routers.TranslatingLaws.{AnyRouterTableLaw}
use Rattle.switch_engine.specs.Actions.{set_flag, gone_on}
use Rattle.switch_engine.specs.Headers.{arp_answered, echo_answered}
use Rattle.switch_engine.specs.Zones.{ZoneLists}
use Rattle.switch_engine.specs.declared.carried.Carried.{Carried}
use Rattle.sim_laws.proofs.pipelines.Copies.{goes_so}
use Rattle.sim_laws.proofs.pipelines.Doings.{answer_does, answered}
use Rattle.sim_laws.proofs.pipelines.Pieces.{comes_same}
use Rattle.sim_laws.proofs.pipelines.Registers.{or_one, or_stays, still_at_first, still_after}
use Rattle.sim_laws.proofs.pipelines.TargetKeys.{asked_so, answered_is, answer_whole}
use Rattle.sim_laws.proofs.router_stages.RouterCopiesOn.{led_on}
use Rattle.sim_laws.proofs.router_stages.RouterDoings.{echoed, echo_does}
use Rattle.sim_laws.proofs.router_stages.RouterPackets.{echoed_is, ip4_stays}
use Rattle.sim_laws.proofs.router_stages.RouterRegisters.{WayRegs, way_within}
use Rattle.sim_laws.proofs.router_stages.RouterSteps.{IsNext, goes_then}
use Rattle.sim_laws.proofs.translating_stages.AnyCopiesOn.{stands_set}
use Rattle.sim_laws.proofs.translating_stages.AnyIn.{Before, Goes, Lands, Step, took, goes_next, drops_at, route_lands}
use Rattle.sim_laws.proofs.translating_stages.AnyPassing.{passing_lands}
use Rattle.sim_laws.proofs.translating_stages.AnyRegisters.{way_set}
use Rattle.sim_laws.specs.pipelines.Pieces.{Piece, trail_with, ComesTo}
use Rattle.sim_laws.specs.pipelines.Standing.{Chassis, net_of, IsLaidOut}
use Rattle.sim_laws.proofs.translating_stages.AnyTables.{DoesAsTold, do_so}
use Rattle.sim_laws.specs.routers.RouterWays.{Leaving, by_route, taken_in, way_to_port, RouterIngressLaw}

-- an answer of ARP is no packet of IPv4
not_ip4 : (mac : Mac) (ip : Ip4) (p : Packet) → IsArp p.body → carries_ip4 (with_arp_reply mac ip p) ≡ false
not_ip4 mac ip p arp = by p.body arp
  where
    by : (b : Body) → IsArp b → (field.ether_type (arp_as_reply mac ip b) == 0x0800) ≡ false
    by (body.Arp a) h = refl
    by (body.Ip4 i) h = absurd h
    by (body.Other t) h = absurd h

module _ (s : Chassis) (laid : IsLaidOut s) (i : RouterPort) (first : Carried) (input_law : DoesAsTold s stage.RouterInput) (undo_law : DoesAsTold s stage.RouterUndo) (dnat_law : DoesAsTold s stage.RouterDnat)
    (own_law : DoesAsTold s stage.RouterOwn) (route_law : DoesAsTold s stage.RouterRoute) (neighbour_law : DoesAsTold s stage.RouterNeighbour) (lists : Lists) (zones : ZoneLists) (p : Packet) where
  abbrev c : RouterCopy
  c = entering i p

  abbrev b : Bool
  b = is_translating (net_of s) i

  abbrev LandsAt : Piece Leaving → Carried → Type 0
  LandsAt piece copy = Lands s laid i first lists zones piece copy

  abbrev StepOf : Carried → List Action → Type 1
  StepOf copy actions = Step s laid i first lists zones copy actions

  -- ---- r_input

  module _ (copy : Carried) (h : Before s laid i first stage.RouterInput c lists zones copy) where
    abbrev taken : Intake → Piece Leaving
    taken x rest t = taken_in x s.scene b i rest t p

    intake_by : (x : Intake) → IsIntake i p x → StepOf copy (intake_actions i p x) → LandsAt (taken x) copy
    intake_by (refuses why) is step = drops_at s laid i first lists zones stage.RouterInput c copy h (λ regs. refl) why (taken (refuses why)) (λ rest choices ends. refl) step
    intake_by (answers_with q) is step =
        let ip : Ip4 = ip_of (field.arp_tpa p.body) in
        let r = asked_so p h.stands.at_port.whole ip is.0 in
        let piece : Piece Leaving = λ rest t. rest t (record { out = i; translates = false; packet = arp_answer i p }) in
        let So = ComesTo s piece lists (Goes s laid i first) in
        let last : Carried = gone_on 32 (answered s zones copy So i.mac ip) in
        let answer : Packet = with_arp_reply i.mac ip p in
        let set : WayRegs = record { out_port = copy.regs.in_port; next = copy.regs.next; flags = set_flag 1 1 copy.regs.flags } in
        let new = led_on c (Some i) answer (record { own = false; next = ip_of 0; finding = not_sought }) in
        comes_same s piece (taken (answers_with q)) lists (Goes s laid i first) (λ rest choices ends. ap (λ (x : Packet). rest (trail_with lists choices ends) (record { out = i; translates = false; packet = x })) (sym is.1)) zones (copy ∷ [])
        (step So (answer_does s zones copy So i.mac ip 32 (goes_so s piece lists lists (Goes s laid i first) zones (record { out = i; translates = false; packet = answer }) last (record {
          c = new;
          port = refl;
          to = refl;
          packet = refl;
          translates = sym (ap (λ (k : Bool). not false && (b && k)) (not_ip4 i.mac ip p r.arp) ∙ none_left b);
          stands = stands_set s h.stands (Some i) answer (record { own = false; next = ip_of 0; finding = not_sought }) set stage.RouterFind 32 last refl
              (subst (λ (x : Packet). arp_answered i.mac ip x ≡ answer) (sym h.stands.packet) (answered_is i.mac ip p r.arp)) refl
              (answer_whole i.mac ip p h.stands.at_port.whole r) (way_within set copy.regs h.stands.numbers.within (h.stands.numbers.within.within reg.InPort) (h.stands.numbers.within.within reg.Next))
              (record { own = or_stays copy.regs.flags.0 1 3 refl ∙ h.stands.at_port.words.own; next = h.stands.at_port.words.next; finding = h.stands.at_port.words.finding })
              (record { there = h.stands.at_port.there; on = refl; is_port = refl }) h.stands.numbers.came tt;
          loopback = or_one copy.regs.flags.0 1 0 refl;
          still = still_after first copy last h.still (way_set set copy last refl refl (record { tracked = or_stays copy.regs.flags.0 1 1 refl; blocked = or_stays copy.regs.flags.0 1 2 refl; arrived = or_stays copy.regs.flags.0 1 4 refl }));
        }) (λ rest choices ends. refl))))
      where
        none_left : (k : Bool) → (k && false) ≡ false
        none_left true = refl
        none_left false = refl
    intake_by (becomes q) is step =
        let answer : Packet = with_ip4 ip4_as_reply p in
        let next : Carried = gone_on 13 (echoed copy) in
        let set : WayRegs = record { out_port = copy.regs.out_port; next = copy.regs.next; flags = set_flag 8 1 copy.regs.flags } in
        let stands = stands_set s h.stands None answer (record { own = true; next = ip_of 0; finding = not_sought }) set stage.RouterRoute 13 next refl
        (ap (λ (x : Packet). echo_answered x) h.stands.packet ∙ echoed_is p is.0) refl
        (whole_with ip4_as_reply p h.stands.at_port.whole (reply_steps p h.stands.at_port.whole)) (way_within set copy.regs h.stands.numbers.within (h.stands.numbers.within.within reg.OutPort) (h.stands.numbers.within.within reg.Next))
        (record { own = or_one copy.regs.flags.0 8 3 refl; next = h.stands.at_port.words.next; finding = h.stands.at_port.words.finding })
        refl h.stands.numbers.goes (ip4_stays ip4_as_reply p is.1) in
        let still = still_after first copy next h.still (way_set set copy next refl refl (record { tracked = or_stays copy.regs.flags.0 8 1 refl; blocked = or_stays copy.regs.flags.0 8 2 refl; arrived = or_stays copy.regs.flags.0 8 4 refl })) in
        let piece : Piece Leaving = λ rest t. by_route s.scene i false rest t answer in
        comes_same s piece (taken (becomes q)) lists (Goes s laid i first) (λ rest choices ends. ap (λ (x : Packet). by_route s.scene i false rest (trail_with lists choices ends) x) (sym is.2)) zones (copy ∷ [])
        (goes_then s zones copy next (ComesTo s piece lists (Goes s laid i first))
        (step (IsNext zones next) (echo_does s zones copy (IsNext zones next) 13 (refl, refl, refl)))
        (route_lands s laid i first lists zones true not_sought false refl route_law neighbour_law answer next (record { stands = stands; still = still })))
    intake_by passes_on is step =
        goes_next s laid i first lists zones stage.RouterInput stage.RouterUndo c copy h tt step (taken passes_on)
        (λ k. passing_lands s laid i first own_law route_law neighbour_law b refl dnat_law undo_law lists zones p is (gone_on 10 copy) k)

  input_lands : IntakeLaw → (copy : Carried) → Before s laid i first stage.RouterInput c lists zones copy → LandsAt (way_to_port s i p) copy
  input_lands is copy h = intake_by copy h (intake (net_of s) i p) (is (net_of s) i p) (took s laid i first lists zones stage.RouterInput input_law c copy h)

  -- ---- r_admit

  abbrev refused_if : Bool → List Action
  refused_if k = unless_dropped stage.RouterAdmit (cond (not k) (Some cause.NotForRouter) None)

  is_refused : is_for_port i p ≡ false → intake (net_of s) i p ≡ refuses cause.NotForRouter
  is_refused for = cond-true (not (is_for_port i p)) (refuses cause.NotForRouter) _ (ap not for)

  admit_by : IntakeLaw → (copy : Carried) → Before s laid i first stage.RouterAdmit c lists zones copy → (k : Bool) → is_for_port i p ≡ k → StepOf copy (refused_if k) → LandsAt (way_to_port s i p) copy
  admit_by is copy h true for step = goes_next s laid i first lists zones stage.RouterAdmit stage.RouterInput c copy h for step (way_to_port s i p) (λ k. input_lands is (gone_on 9 copy) k)
  admit_by is copy h false for step =
      drops_at s laid i first lists zones stage.RouterAdmit c copy h (λ regs. refl) cause.NotForRouter (way_to_port s i p)
      (λ rest choices ends. ap (λ (x : Intake). taken_in x s.scene b i rest (trail_with lists choices ends) p) (is_refused for)) step

  pub admit_lands : IntakeLaw → DoesAsTold s stage.RouterAdmit → (copy : Carried) → Before s laid i first stage.RouterAdmit c lists zones copy → LandsAt (way_to_port s i p) copy
  admit_lands is law copy h = admit_by is copy h (is_for_port i p) refl (took s laid i first lists zones stage.RouterAdmit law c copy h)

pub any_ingress : OfEachRouterStage AnyRouterTableLaw → IntakeLaw → RouterIngressLaw
any_ingress tables is s laid i p lists zones copy h =
    let d = do_so tables s laid in
    admit_lands s laid i copy d.input d.undo d.dnat d.own d.route d.neighbour lists zones p is d.admit copy (record { stands = h; still = still_at_first copy })
