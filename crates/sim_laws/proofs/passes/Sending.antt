-- A copy goes from table 32 to its target, as the network says.
use Rattle.std.specs.Prelude.{◌≡◌, ◌&&◌, ◌*◌, ◌^◌, ℕ, not, Bool, true, false, List, [], ◌∷◌, Option, Some, None, option_map, bit_and, refl}
use Rattle.std.proofs.Common.{sym, ap, ◌∙◌, subst}
use Rattle.std.proofs.lemmas.Bool.{false≢true}
use Rattle.std.proofs.lemmas.Nat.Bits.{and_pow}
use Rattle.conn_zones.specs.Zoning.{GivenNumbers}
use Rattle.flow_lowering.specs.Registers.{reg_number}
use Rattle.flow_table.specs.declared.flow.Cause.TheVariants as cause
use Rattle.inet_packet.specs.Rewrites.{with_arp_reply}
use Rattle.inet_packet.specs.Whole.{IsWhole}
use Rattle.inet_packet.specs.declared.packet.Packet.{Packet}
use Rattle.inet_packet.specs.declared.regs.Reg.TheVariants as reg
use Rattle.inet_packet.specs.declared.regs.Regs.{Regs}
use Rattle.nb_records.specs.Switches.{enabled_ports, is_virtual, mac_of_ip, first_answer}
use Rattle.nb_records.specs.declared.switch.SwitchPort.{SwitchPort}
use Rattle.net_model.specs.Config.{Home, nowhere, on, everywhere, home_if, home_of, is_here, is_on_one, port_identity}
use Rattle.net_model.specs.Entry.{Onward}
use Rattle.net_model.specs.Exit.{leave}
use Rattle.net_model.specs.Headers.{asked_ip}
use Rattle.net_model.specs.Sights.{roster_of}
use Rattle.net_model.specs.Spread.{SentFrom, send_to, send_home, send_over, send_here}
use Rattle.net_model.specs.Targets.{Target, answer_from, to_one, to_group, to_nobody, answer_target, is_other, target_of}
use Rattle.net_model.specs.Trail.{Trail, Lists, spot_of, drop_for, given_or}
use Rattle.net_model.specs.declared.crossing.Group.TheVariants.{Flood, Unknown}
use Rattle.ovn_base.specs.declared.address.Ip4.{Ip4}
use Rattle.ovn_base.specs.declared.address.Mac.{Mac}
use Rattle.ovn_base.specs.declared.name.Name.{Name}
use Rattle.ovn_base.specs.declared.stages.TheConstants.{REMOTE_TABLE}
use Rattle.ovn_base.specs.lists.Among.{Among}
use Rattle.ovn_base.specs.names.ByName.{at}
use Rattle.ovn_base.specs.names.SameName.{same_name, bytes_decides}
use Rattle.row_laws.proofs.records.StandsFor.{port_stands}
use Rattle.row_laws.proofs.records.SwitchPorts.{enabled_is}
use Rattle.row_laws.specs.Numbers.{IsDatapathKey, IsPortKey, NumberStandsFor}
use Rattle.row_laws.specs.StageActions.{found_target}
use Rattle.switch_engine.specs.Zones.{ZoneLists}
use Rattle.switch_engine.specs.declared.carried.Carried.{Carried}
use Rattle.std.specs.List.{filter}
use Rattle.sim_laws.proofs.Homes.{only_reached, reached_on}
use Rattle.sim_laws.proofs.passes.GroupCopies.{spreads}
use Rattle.sim_laws.proofs.passes.Leaving.{leaves_by, turns_back}
use Rattle.sim_laws.proofs.passes.LiveNumbers.{hold, one_port, same_port_key}
use Rattle.sim_laws.proofs.passes.Members.{home_is}
use Rattle.sim_laws.proofs.passes.OnePort.{IsFor, IsHomed, IsStaying, homes_33, unbound_33, stays_32, crosses_32}
use Rattle.sim_laws.proofs.pipelines.Pieces.{comes_then}
use Rattle.sim_laws.proofs.pipelines.TargetKeys.{IsFoundTarget, found_so}
use Rattle.sim_laws.specs.passes.Onward.{LeadsOn}
use Rattle.sim_laws.specs.passes.Physical.{AreVirtual, IsWired}
use Rattle.sim_laws.specs.passes.Sending.{sent_from, IsSent, SendingOnLaw, SendingLaw}
use Rattle.sim_laws.specs.passes.ToEnd.{Never, EndsAs}
use Rattle.sim_laws.specs.pipelines.Egress.{EgressLaw}
use Rattle.sim_laws.specs.pipelines.Standing.{Chassis, net_of, course_of, IsLaidOut}
use Rattle.sim_laws.specs.pipelines.WalkOn.{Comes}

-- ---- a target that is one port is an enabled port of the switch

abbrev IsOneOf : List SwitchPort → Target → Type 0
IsOneOf qs (to_one q) = Among q qs
IsOneOf qs _ = Unit {0}

found_one : (s : Chassis) (switch : Name) (t : Target) → IsFoundTarget (net_of s) switch t → IsOneOf (enabled_ports (net_of s) switch) t
found_one s switch (answer_from mac ip) h = tt
found_one s switch (to_one q) h = h
found_one s switch (to_group g) h = tt
found_one s switch to_nobody h = tt

target_one : (s : Chassis) (i : SwitchPort) (p : Packet) → IsOneOf (enabled_ports (net_of s) i.switch) (target_of (net_of s) i p)
target_one s i p = by (asked_ip p)
  where
    found : IsOneOf (enabled_ports (net_of s) i.switch) (found_target (net_of s) i.switch p)
    found = found_one s i.switch (found_target (net_of s) i.switch p) (found_so (net_of s) i.switch p)

    by_answer : (ip : Ip4) (o : Option Mac) → IsOneOf (enabled_ports (net_of s) i.switch) (given_or (option_map (λ mac. answer_from mac ip) o) (found_target (net_of s) i.switch p))
    by_answer ip None = found
    by_answer ip (Some mac) = tt

    by : (o : Option Ip4) → IsOneOf (enabled_ports (net_of s) i.switch) (given_or (answer_target (net_of s) i o) (found_target (net_of s) i.switch p))
    by None = found
    by (Some ip) = by_answer ip (first_answer (mac_of_ip ip) (filter (λ q. is_virtual q && is_other i q) (enabled_ports (net_of s) i.switch)))

module _ (s : Chassis) (laid : IsLaidOut s) (numbers : GivenNumbers) (wired : IsWired s numbers) (law : EgressLaw) (onward : Onward) (passes : ℕ) (i : SwitchPort) (i_there : at (net_of s).switch_ports i.name ≡ Some i)
    (leads : LeadsOn s onward i.switch passes) where
  abbrev from : SentFrom
  from = sent_from s i

  -- ---- to one port of the switch

  module _ (o : SwitchPort) (there : at (net_of s).switch_ports o.name ≡ Some o) (on_it : o.switch ≡ i.switch) (p : Packet) (lists : Lists) (zones : ZoneLists) (copy : Carried) (h : IsFor s (port_identity i) o p REMOTE_TABLE lists zones copy)
      (entered : IsPortKey s.keys i.switch i.name copy.regs.in_port) (inside : reg_number reg.Arrived copy.regs ≡ 0) (passed : copy.passes ≡ passes) where
    abbrev Goes : (Trail → Trail) → Type 0
    Goes way = Comes (course_of s) zones (copy ∷ []) (EndsAs s way lists)

    unbound : is_virtual o ≡ false → at s.scene.config.bindings o.name ≡ None
    unbound = leads.unbound o there on_it

    abbrev home : Home
    home = home_of s.scene.config o

    abbrev Stays : Lists → Packet → ZoneLists → Carried → Type 0
    Stays = IsStaying s laid numbers wired (port_identity i) o there unbound p copy

    -- it didn't come out of a tunnel
    word : (next : Carried) → next.regs ≡ copy.regs → bit_and next.regs.flags.0 16 ≡ 0
    word next same = ap (λ (x : Regs). bit_and x.flags.0 16) same ∙ and_pow copy.regs.flags.0 4 ∙ ap (λ n. n * 2 ^ 4) inside

    -- it stays here, where it isn't at home elsewhere
    stays : ((chassis : Name) → home ≡ on chassis → chassis ≡ s.scene.here) → (way : Trail → Trail)
        → ((after : Lists) (last : ZoneLists) (next : Carried) → Stays after p last next → Comes (course_of s) last (next ∷ []) (EndsAs s way after)) → Goes way
    stays no_other way rest =
        comes_then s (λ rest t. rest t p) (λ q rest t. way t) lists Stays Never zones (copy ∷ [])
        (stays_32 s laid numbers wired (port_identity i) o there unbound p lists zones copy h no_other)
        (λ after q last next is. rest after last next (record { still = is.still; passes = is.passes; from = is.from; regs = is.regs }))

    -- what a port at home here does, once the copy is before table 34
    abbrev Then : (Trail → Trail) → Type 0
    Then way =
        (after : Lists) (last : ZoneLists) (next : Carried) → IsHomed s laid numbers wired (port_identity i) o there unbound p copy after p last next
        → Comes (course_of s) last (next ∷ []) (EndsAs s way after)

    here : is_here s.scene.here home ≡ true → (way : Trail → Trail) → Then way → Goes way
    here is way rest =
        stays (λ chassis e. only_reached false chassis s.scene.here (ap (is_here s.scene.here) (sym e) ∙ is)) way
        (λ after last next stays.
        comes_then s (λ rest t. rest t p) (λ q rest t. way t) after (IsHomed s laid numbers wired (port_identity i) o there unbound p next) Never last (next ∷ [])
        (homes_33 s laid numbers wired (port_identity i) o there unbound p false after last next stays.still (word next stays.regs) is)
        (λ later r end left homed.
        rest later end left (record {
          at_exit = homed.at_exit;
          passes = homed.passes ∙ stays.passes;
          from = homed.from ∙ ap (λ (x : Regs). x.in_port) stays.regs;
          to = homed.to ∙ ap (λ (x : Regs). x.out_port) stays.regs;
          loopback = homed.loopback ∙ ap (reg_number reg.Loopback) stays.regs;
        })))

    -- it goes out, where it may
    goes_out : is_here s.scene.here home ≡ true → (copy.regs.in_port ≡ copy.regs.out_port → reg_number reg.Loopback copy.regs ≡ 1) → Goes (λ t. leave onward s.scene (port_identity i) o t p)
    goes_out is may =
        here is (λ t. leave onward s.scene (port_identity i) o t p)
        (λ after last next homed.
        leaves_by s laid numbers wired law onward passes (port_identity i) o there (λ kind. leads.goes o there on_it kind is) p after last next homed.at_exit (homed.passes ∙ passed) (λ same. homed.loopback ∙ may (sym homed.from ∙ same ∙ homed.to)))

    turned : is_here s.scene.here home ≡ true → copy.regs.in_port ≡ copy.regs.out_port → reg_number reg.Loopback copy.regs ≡ 0 → Goes (λ t. drop_for cause.Loopback (spot_of o) t)
    turned is same off =
        here is (λ t. drop_for cause.Loopback (spot_of o) t)
        (λ after last next homed.
        turns_back s laid numbers wired law onward passes (port_identity i) o there (λ kind. leads.goes o there on_it kind is) p after last next homed.at_exit (homed.passes ∙ passed) (homed.from ∙ same ∙ sym homed.to) (homed.loopback ∙ off))

    nowhere_so : home ≡ nowhere → Goes (λ t. drop_for cause.Unbound (spot_of o) t)
    nowhere_so none =
        stays (λ chassis e. absurd (false≢true (ap is_on_one (sym none ∙ e)))) (λ t. drop_for cause.Unbound (spot_of o) t)
        (λ after last next stays.
        unbound_33 s laid numbers wired (port_identity i) o there unbound p false after last next stays.still (word next stays.regs) stays.from (ap (is_here s.scene.here) none))

    -- the port of entry gets no packet back
    send_here_so : is_here s.scene.here home ≡ true → reg_number reg.Loopback copy.regs ≡ 0 → (b : Bool) → is_other i o ≡ b → Goes (λ t. send_here b onward s.scene from o t p)
    send_here_so is off true other =
        goes_out is (λ same.
        let named : o.name ≡ i.name = one_port s laid i.switch o.name i.name copy.regs.in_port (subst (IsPortKey s.keys i.switch o.name) (sym same) (subst (λ a. IsPortKey s.keys a o.name copy.regs.out_port) on_it h.to)) entered in
        absurd (false≢true (ap not (sym ((bytes_decides o.name i.name).1 named)) ∙ other)))
    send_here_so is off false own = turned is (entered_is (is_own (same_name o.name i.name) refl own)) off
      where
        is_own : (v : Bool) → same_name o.name i.name ≡ v → not v ≡ false → o.name ≡ i.name
        is_own true e k = (bytes_decides o.name i.name).0 e
        is_own false e k = absurd (false≢true (sym k))

        entered_is : o.name ≡ i.name → copy.regs.in_port ≡ copy.regs.out_port
        entered_is named = same_port_key s laid i.switch o.switch i.name copy.regs.in_port copy.regs.out_port entered (subst (λ n. IsPortKey s.keys o.switch n copy.regs.out_port) named h.to)

    over_so : (chassis : Name) → home ≡ on chassis → reg_number reg.Loopback copy.regs ≡ 0 → (b : Bool) → same_name chassis s.scene.here ≡ b → Goes (λ t. send_over b onward s.scene from o chassis t p)
    over_so chassis at_home off true is = send_here_so (ap (is_here s.scene.here) at_home ∙ is) off (is_other i o) refl
    over_so chassis at_home off false is =
        crosses_32 s laid numbers wired (port_identity i) o there unbound p lists zones copy h i i_there (subst (λ a. IsDatapathKey s.keys a copy.regs.dp) on_it h.on) entered chassis at_home
        (λ same. false≢true (sym is ∙ (bytes_decides chassis s.scene.here).1 same))

    by_home : (k : Home) → home ≡ k → reg_number reg.Loopback copy.regs ≡ 0 → Goes (λ t. send_home k onward s.scene from o t p)
    by_home nowhere is off = nowhere_so is
    by_home (on chassis) is off = over_so chassis is off (same_name chassis s.scene.here) refl
    by_home everywhere is off = send_here_so (ap (is_here s.scene.here) is) off (is_other i o) refl

    sends_one : reg_number reg.Loopback copy.regs ≡ 0 → Goes (λ t. send_home home onward s.scene from o t p)
    sends_one off = by_home home refl off

  -- ---- to any target

  module _ (home : is_here s.scene.here (home_of s.scene.config i) ≡ true) (p : Packet) (lists : Lists) (zones : ZoneLists) (copy : Carried) (passed : copy.passes ≡ passes) where
    abbrev Sends : Target → Type 0
    Sends target = Comes (course_of s) zones (copy ∷ []) (EndsAs s (λ t. send_to target onward s.scene from t p) lists)

    sends : (target : Target) → IsOneOf (enabled_ports (net_of s) i.switch) target → IsSent s i target p lists zones copy → Sends target
    sends (answer_from mac ip) one h =
        goes_out i i_there refl (with_arp_reply mac ip p) lists zones copy (record {
          in_table = h.in_table;
          packet = h.packet;
          whole = subst IsWhole h.packet h.whole;
          on = h.on;
          came_in = port_stands (net_of s) s.keys laid.valid (hold s laid) i i_there copy.regs.in_port h.came;
          to = h.to;
          within = h.within;
          hold = h.hold;
        }) h.came h.arrived passed home (λ same. h.loopback)
    sends (to_one o) one h =
        let e = enabled_is (net_of s) laid.valid i.switch o one in
        sends_one o e.there e.on p lists zones copy (record {
          in_table = h.in_table;
          packet = h.packet;
          whole = subst IsWhole h.packet h.whole;
          on = subst (λ a. IsDatapathKey s.keys a copy.regs.dp) (sym e.on) h.on;
          came_in = subst (λ a. NumberStandsFor s.keys (roster_of (net_of s)) a (Some (port_identity i)) copy.regs.in_port) (sym e.on) (port_stands (net_of s) s.keys laid.valid (hold s laid) i i_there copy.regs.in_port h.came);
          to = subst (λ a. IsPortKey s.keys a o.name copy.regs.out_port) (sym e.on) h.to;
          within = h.within;
          hold = h.hold;
        }) h.came h.arrived passed h.loopback
    sends (to_group Flood) one h =
        spreads s laid numbers wired law onward passes i i_there leads Flood p lists zones copy passed h.in_table h.packet (subst IsWhole h.packet h.whole) h.on h.came h.to h.arrived h.within h.hold
    sends (to_group Unknown) one h =
        spreads s laid numbers wired law onward passes i i_there leads Unknown p lists zones copy passed h.in_table h.packet (subst IsWhole h.packet h.whole) h.on h.came h.to h.arrived h.within h.hold
    sends to_nobody one h = absurd h.to

pub sends_to : EgressLaw → SendingOnLaw
sends_to law s laid numbers wired onward passes i i_there home leads target p is lists zones copy h passed =
    sends s laid numbers wired law onward passes i i_there leads home p lists zones copy passed target (subst (IsOneOf (enabled_ports (net_of s) i.switch)) (sym is) (target_one s i p)) h

-- ---- where no port leads to a router

pub none_leads : (s : Chassis) (switch : Name) → AreVirtual s switch → (onward : Onward) (passes : ℕ) → LeadsOn s onward switch passes
none_leads s switch virtual onward passes = record {
  unbound = λ o there on leads. absurd (false≢true (sym leads ∙ virtual o.name o there on));
  goes = λ o there on leads at_home. absurd (false≢true (sym leads ∙ virtual o.name o there on));
}

-- a virtual port is at home where it is bound
pub home_here : (s : Chassis) (i : SwitchPort) → is_virtual i ≡ true → at s.scene.config.bindings i.name ≡ Some s.scene.here → is_here s.scene.here (home_of s.scene.config i) ≡ true
home_here s i virtual bound = ap (is_here s.scene.here) (home_is s i virtual ∙ ap (home_if on) bound) ∙ reached_on false s.scene.here

pub sends_on : SendingOnLaw → SendingLaw
sends_on law s laid numbers wired onward i i_there home virtual target p is lists zones copy h =
    law s laid numbers wired onward copy.passes i i_there (home_here s i (virtual i.name i i_there refl) home) (none_leads s i.switch virtual onward copy.passes) target p is lists zones copy h refl
