-- A packet that comes in at a port goes on to its last end, as the network says.
use Rattle.std.specs.Prelude.{◌≡◌, ◌≤◌, ℕ, true, [], ◌∷◌, Some, refl}
use Rattle.std.proofs.Common.{sym, ap, ◌∙◌, subst, arith}
use Rattle.std.proofs.lemmas.Bool.{false≢true}
use Rattle.std.proofs.lemmas.Option.{same_Some}
use Rattle.conn_zones.specs.Zoning.{GivenNumbers}
use Rattle.flow_lowering.specs.Registers.{reg_number, reg_max, HasRegistersInRange}
use Rattle.flow_table.specs.declared.flow.Flow.{Flow}
use Rattle.flow_table.specs.declared.flow.FlowOp.TheVariants as op
use Rattle.inet_packet.specs.Whole.{IsWhole}
use Rattle.inet_packet.specs.declared.packet.Packet.{Packet}
use Rattle.inet_packet.specs.declared.regs.At.TheVariants as at_of
use Rattle.inet_packet.specs.declared.regs.Reg.{Reg}
use Rattle.inet_packet.specs.declared.regs.Reg.TheVariants as reg
use Rattle.nb_records.specs.Switches.{is_virtual}
use Rattle.nb_records.specs.declared.switch.SwitchPort.{SwitchPort}
use Rattle.net_model.specs.Config.{home_of, is_here}
use Rattle.net_model.specs.Entry.{enter, Onward}
use Rattle.net_model.specs.Spread.{send_to}
use Rattle.net_model.specs.Targets.{Target, answer_from, to_one, to_group, to_nobody, target_of}
use Rattle.net_model.specs.Trail.{Trail, Lists, of_port, finally}
use Rattle.net_model.specs.Visit.{into_switch, passing_on, visit}
use Rattle.ovn_base.specs.declared.stages.TheConstants.{ENTRY_TABLE, ADMIT_TABLE}
use Rattle.ovn_base.specs.names.ByName.{at}
use Rattle.physical_flows.proofs.RowFits.{entry_fits, fits_entry, fits_tunnel}
use Rattle.physical_flows.specs.Rows.{entry_row, arrival_row}
use Rattle.physical_flows.specs.Stages.{EntryRow, IsHere}
use Rattle.row_laws.proofs.records.ValidPorts.{on_switch}
use Rattle.row_laws.specs.Numbers.{IsDatapathKey, IsPortKey}
use Rattle.switch_engine.specs.Actions.{gone_on}
use Rattle.switch_engine.specs.Walk.{start}
use Rattle.switch_engine.specs.Zones.{ZoneLists}
use Rattle.switch_engine.specs.declared.carried.Carried.{Carried}
use Rattle.switch_engine.specs.declared.effect.Entry.TheVariants.{Vif}
use Rattle.tunnel_keys.proofs.HeldKeys.{found}
use Rattle.sim_laws.proofs.Places.{name_at, is_local}
use Rattle.sim_laws.proofs.passes.Ends.{ends_same}
use Rattle.sim_laws.proofs.passes.LiveNumbers.{datapath_low, port_low, switch_live, port_live, is_port, datapath_of, port_of}
use Rattle.sim_laws.proofs.passes.RowSteps.{Taken, row_step, row_fits, as_row}
use Rattle.sim_laws.proofs.passes.Sending.{none_leads, home_here}
use Rattle.sim_laws.proofs.pipelines.Copies.{goes_so}
use Rattle.sim_laws.proofs.pipelines.Pieces.{comes_then}
use Rattle.sim_laws.proofs.pipelines.Tables.{DoesOps}
use Rattle.sim_laws.specs.passes.Onward.{LeadsOn}
use Rattle.sim_laws.specs.passes.Physical.{basis_of, IsWired}
use Rattle.sim_laws.specs.passes.Sending.{sent_from, SendingOnLaw}
use Rattle.sim_laws.specs.passes.ToEnd.{Never, EndsAs}
use Rattle.sim_laws.specs.passes.Visiting.{ThroughSwitchLaw, VisitOnLaw, VisitLaw}
use Rattle.sim_laws.specs.pipelines.FirstTable.{AreFirst, FirstTableLaw}
use Rattle.sim_laws.specs.pipelines.HeldLists.{HoldLists}
use Rattle.sim_laws.specs.pipelines.Ingress.{to_target, way_in, loopback_for, GoesTo, IngressLaw}
use Rattle.sim_laws.specs.pipelines.Pieces.{trail_with, ComesTo}
use Rattle.sim_laws.specs.pipelines.Standing.{Chassis, net_of, course_of, IsLaidOut}
use Rattle.sim_laws.specs.pipelines.WalkOn.{Reached, Comes}

module _ (s : Chassis) (laid : IsLaidOut s) (numbers : GivenNumbers) (wired : IsWired s numbers) (first_law : FirstTableLaw) (in_law : IngressLaw) (sending : SendingOnLaw) (i : SwitchPort)
    (i_there : at (net_of s).switch_ports i.name ≡ Some i) where
  -- ---- through the switch

  -- a packet without a target is dropped in both
  sent_so : (onward : Onward) (target : Target) (q : Packet) (t : Trail) → to_target target i q (λ u x. send_to x.0 onward s.scene (sent_from s i) u x.1) t ≡ send_to target onward s.scene (sent_from s i) t q
  sent_so onward (answer_from mac ip) q t = refl
  sent_so onward (to_one o) q t = refl
  sent_so onward (to_group g) q t = refl
  sent_so onward to_nobody q t = refl

  -- from the first table on
  module _ (onward : Onward) (passes : ℕ) (home : is_here s.scene.here (home_of s.scene.config i) ≡ true) (leads : LeadsOn s onward i.switch passes) (p : Packet) (whole : IsWhole p) (lists : Lists) (zones : ZoneLists)
      (hold : HoldLists s.number zones lists) (copy : Carried) (in_table : copy.table ≡ ADMIT_TABLE) (packet : copy.packet ≡ p) (first : AreFirst s i copy.regs) (off : reg_number reg.Loopback copy.regs ≡ 0)
      (inside : reg_number reg.Arrived copy.regs ≡ 0) (passed : copy.passes ≡ passes) where
    pub goes_through : Comes (course_of s) zones (copy ∷ []) (EndsAs s (λ t. into_switch onward s.scene i t p) lists)
    goes_through =
        ends_same s (λ t. way_in s i p (λ u x. send_to x.0 onward s.scene (sent_from s i) u x.1) t) (λ t. into_switch onward s.scene i t p) lists
        (λ choices ends j. finally (enter s.scene i (trail_with lists choices ends) p) (λ u q. sent_so onward (target_of (net_of s) i q) q u j)) zones (copy ∷ [])
        (comes_then s (way_in s i p) (λ x rest t. send_to x.0 onward s.scene (sent_from s i) t x.1) lists (GoesTo s i copy) Never zones (copy ∷ [])
        (in_law s laid i p lists zones copy (first_law s laid i i_there p whole lists zones hold copy in_table packet first))
        (λ after x last next goes.
        sending s laid numbers wired onward passes i i_there home leads x.0 x.1 goes.target after last next (record {
          in_table = goes.in_table;
          packet = goes.packet;
          whole = goes.whole;
          on = subst (IsDatapathKey s.keys i.switch) (sym (goes.still.registers reg.Dp refl)) first.on;
          came = subst (IsPortKey s.keys i.switch i.name) (sym (goes.still.registers reg.InPort refl)) first.came;
          to = goes.to;
          loopback = goes.loopback ∙ ap (loopback_for x.0) off;
          arrived = goes.still.registers reg.Arrived refl ∙ inside;
          within = goes.within;
          hold = goes.hold;
        }) (goes.still.passes ∙ passed)))

  -- ---- from table 0 on

  module _ (bound : at s.scene.config.bindings i.name ≡ Some s.scene.here) (p : Packet) (whole : IsWhole p) (lists : Lists) (zones : ZoneLists) (hold : HoldLists s.number zones lists) where
    abbrev copy : Carried
    copy = start (Vif i.name) p

    abbrev at_first : ℕ → ℕ → ℕ → Carried
    at_first dp key zone = gone_on ADMIT_TABLE (record copy { regs = record copy.regs { dp = dp; in_port = key; z_in = zone } })

    first_within : (dp key zone : ℕ) → dp ≤ 0xff_ffff → key ≤ 0xffff → zone ≤ 0xffff → HasRegistersInRange (at_first dp key zone).regs
    first_within dp key zone d k z = record { within = each }
      where
        each : (r : Reg) → reg_number r (at_first dp key zone).regs ≤ reg_max r
        each reg.Dp = d
        each reg.InPort = k
        each reg.OutPort = omega arith
        each reg.Next = omega arith
        each reg.ZIn = z
        each reg.ZOut = omega arith
        each reg.ZDnat = omega arith
        each reg.ZSnat = omega arith
        each reg.State = omega arith
        each reg.Verdict = omega arith
        each reg.Tier = omega arith
        each reg.Loopback = omega arith
        each reg.Tracked = omega arith
        each reg.Blocked = omega arith
        each reg.Own = omega arith
        each reg.Arrived = omega arith

    abbrev Visits : Reached
    Visits = EndsAs s (λ t. visit s.scene i t p) lists

    -- the copy has come to the first table
    pub record IsFirst (after : Lists) (q : Packet) (last : ZoneLists) (next : Carried) : Type 0 where
      pub in_table : next.table ≡ ADMIT_TABLE
      pub packet : next.packet ≡ p
      pub regs : AreFirst s i next.regs
      pub off : reg_number reg.Loopback next.regs ≡ 0
      pub inside : reg_number reg.Arrived next.regs ≡ 0
      pub passes : next.passes ≡ 0
      pub hold_them : HoldLists s.number last after

    abbrev Enters : Reached
    Enters = ComesTo s (λ rest t. rest t p) lists IsFirst

    entered : (dp key zone : ℕ) → IsDatapathKey s.keys i.switch dp → IsPortKey s.keys i.switch i.name key → s.number (of_port i.name) ≡ Some zone → DoesOps s (op.Set reg.Dp dp ∷ op.Set reg.InPort key ∷ op.Set reg.ZIn zone ∷ op.Go 8 ∷ []) zones copy Enters
    entered dp key zone on of is told done =
        let few = port_low s laid i.switch i.name key of in
        subst (λ l. Enters l zones (at_first dp key zone ∷ [])) done.effects
        (goes_so s (λ rest t. rest t p) lists lists IsFirst zones p (at_first dp key zone) (record {
          in_table = refl;
          packet = refl;
          regs = record {
            on = on;
            came = of;
            nowhere = refl;
            tracked = refl;
            verdict = refl;
            state = refl;
            blocked = refl;
            within = first_within dp key zone (datapath_low s laid i.switch dp on) (omega (arith, few)) (wired.in_range i.name zone is);
            zone = λ v. is;
          };
          off = refl;
          inside = refl;
          passes = refl;
          hold_them = hold;
        }) (λ rest choices ends. refl))

    on_0 : (f : Flow) → Taken s ENTRY_TABLE (EntryRow (basis_of s numbers)) wired.entry copy f → EntryRow (basis_of s numbers) f → DoesOps s f.ops zones copy Enters
    on_0 f t (EntryRow.entry q port dp key zone theirs there e) =
        let is : at_of.Local i.name ≡ at_of.Local q = fits_entry copy.regs p q (row_fits s ENTRY_TABLE (EntryRow (basis_of s numbers)) wired.entry copy f (entry_row q dp key zone) t e) in
        let named : q ≡ i.name = sym (ap name_at is) in
        let same : port ≡ i = same_Some port i (sym theirs.there ∙ ap (λ n. at (net_of s).switch_ports n) named ∙ i_there) in
        as_row s ENTRY_TABLE (EntryRow (basis_of s numbers)) wired.entry zones copy Enters f (entry_row q dp key zone) e
        (entered dp key zone (subst (λ (o : SwitchPort). IsDatapathKey s.keys o.switch dp) same (datapath_of s laid numbers port.switch dp theirs.on))
        (subst (λ (o : SwitchPort). IsPortKey s.keys o.switch i.name key) same (subst (λ n. IsPortKey s.keys port.switch n key) named (port_of s laid numbers q port dp key theirs)))
        (ap (λ n. s.number (of_port n)) (sym named) ∙ wired.number q ∙ there.zoned))
    on_0 f t (EntryRow.arrival e) =
        let is : at_of.Local i.name ≡ at_of.Tunnel = fits_tunnel copy.regs p (row_fits s ENTRY_TABLE (EntryRow (basis_of s numbers)) wired.entry copy f arrival_row t e) in
        absurd (false≢true (sym (ap is_local is)))

    enters : Comes (course_of s) zones (copy ∷ []) Enters
    enters =
        let w = on_switch (net_of s) laid.valid i.name i i_there in
        let d = switch_live s laid i.switch w.0 w.1 in
        let k = port_live s laid i.name i i_there in
        let z = found (s.number (of_port i.name)) (wired.zoned i.name bound) in
        let here : IsHere (basis_of s numbers) i.name z.0 = record { bound = bound; zoned = sym (wired.number i.name) ∙ z.1 } in
        row_step s ENTRY_TABLE (EntryRow (basis_of s numbers)) wired.entry zones copy refl Enters (entry_row i.name d.0 k.0 z.0)
        (EntryRow.entry i.name i d.0 k.0 z.0 (is_port s laid numbers i.name i i_there d.0 k.0 (record { birth = w.0.birth; key = d.0 }, d.1, refl) (record { birth = i.birth; datapath = i.switch; key = k.0 }, k.1, refl, refl)) here refl) refl
        (entry_fits copy.regs p i.name refl) (λ f t. on_0 f t t.row)

    pub visits : is_virtual i ≡ true → LeadsOn s (passing_on s.scene) i.switch 0 → Comes (course_of s) zones (copy ∷ []) Visits
    visits virtual leads =
        comes_then s (λ rest t. rest t p) (λ q rest t. visit s.scene i t p) lists IsFirst Never zones (copy ∷ []) enters
        (λ after q last next first.
        goes_through (passing_on s.scene) 0 (home_here s i virtual bound) leads p whole after last first.hold_them next first.in_table first.packet first.regs first.off first.inside first.passes)

pub into_switch_so : FirstTableLaw → IngressLaw → SendingOnLaw → ThroughSwitchLaw
into_switch_so first_law in_law sending s laid numbers wired onward passes i i_there home leads p whole lists zones hold copy in_table packet first off inside passed =
    goes_through s laid numbers wired first_law in_law sending i i_there onward passes home leads p whole lists zones hold copy in_table packet first off inside passed

pub visits_so : FirstTableLaw → IngressLaw → SendingOnLaw → VisitOnLaw
visits_so first_law in_law sending s laid numbers wired i i_there virtual bound leads entry p whole lists zones hold =
    visits s laid numbers wired first_law in_law sending i i_there bound p whole lists zones hold virtual leads

-- where no port leads to a router
pub visits_virtual : VisitOnLaw → VisitLaw
visits_virtual law s laid numbers wired i i_there bound virtual entry p whole lists zones hold =
    law s laid numbers wired i i_there (virtual i.name i i_there refl) bound (none_leads s i.switch virtual (passing_on s.scene) 0) entry p whole lists zones hold
