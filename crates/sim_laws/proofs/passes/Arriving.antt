-- The packet of a crossing arrives, as the network says.
use Rattle.std.specs.Prelude.{◌≡◌, ◌≢◌, ◌≤◌, ◌<◌, ◌&&◌, ◌^◌, ℕ, Bool, true, false, not, cond, [], ◌∷◌, Option, Some, None, option_map, refl}
use Rattle.std.proofs.Common.{sym, ap, ◌∙◌, subst, arith}
use Rattle.std.proofs.Math.Dec.{eqb as nat_eq}
use Rattle.std.proofs.lemmas.Bool.{false≢true, and_from, and_parts}
use Rattle.std.proofs.lemmas.Bool.Decides.{Decides-eqb}
use Rattle.std.proofs.lemmas.Option.{none-some, same_Some}
use Rattle.conn_zones.specs.Zoning.{GivenNumbers}
use Rattle.flow_lowering.specs.Registers.{reg_number, reg_max, HasRegistersInRange}
use Rattle.flow_table.specs.declared.flow.Flow.{Flow}
use Rattle.flow_table.specs.declared.flow.FlowOp.TheVariants as op
use Rattle.inet_packet.specs.Fits.{CubeFits}
use Rattle.inet_packet.specs.declared.packet.Packet.{Packet}
use Rattle.inet_packet.specs.declared.regs.At.TheVariants as at_of
use Rattle.inet_packet.specs.declared.regs.Reg.{Reg}
use Rattle.inet_packet.specs.declared.regs.Reg.TheVariants as reg
use Rattle.inet_packet.specs.declared.regs.Regs.{Regs}
use Rattle.nb_records.specs.Switches.{is_virtual}
use Rattle.nb_records.specs.declared.switch.SwitchPort.{SwitchPort}
use Rattle.net_model.specs.Arrival.{is_switch, is_reached, port_reached, members_reached, reach_port, reach, reach_if, arrival}
use Rattle.net_model.specs.Config.{home_if, home_of, on as home_on, is_on, port_identity}
use Rattle.net_model.specs.Exit.{leave}
use Rattle.net_model.specs.Sights.{roster_of, is_live_one}
use Rattle.net_model.specs.Spread.{copy_to_each}
use Rattle.net_model.specs.Targets.{members}
use Rattle.net_model.specs.Trail.{Trail, Lists, is_lost, tell}
use Rattle.net_model.specs.Visit.{passing_on}
use Rattle.net_model.specs.declared.crossing.Aim.{Aim}
use Rattle.net_model.specs.declared.crossing.Aim.TheVariants.{ToPort, ToGroup}
use Rattle.net_model.specs.declared.crossing.Crossing.{Crossing}
use Rattle.net_model.specs.declared.crossing.Group.{Group}
use Rattle.ovn_base.specs.declared.name.Name.{Name}
use Rattle.ovn_base.specs.declared.stages.TheConstants.{ENTRY_TABLE, LOCAL_TABLE}
use Rattle.ovn_base.specs.lists.Among.{Among}
use Rattle.ovn_base.specs.names.ByName.{at}
use Rattle.physical_flows.proofs.RowFits.{tunnel_fits, fits_entry, fits_exit, fits_way, fits_group}
use Rattle.physical_flows.specs.GroupKeys.{group_key}
use Rattle.physical_flows.specs.Rows.{on_way, entry_row, arrival_row}
use Rattle.physical_flows.specs.Stages.{IsDatapath, IsPort, PatchPort, IsPatchPort, to_router, of_router, EntryRow, HomeRow, member_of}
use Rattle.row_laws.proofs.records.ValidPorts.{on_switch, port_named}
use Rattle.row_laws.specs.Numbers.{IsDatapathKey, NumberStandsFor}
use Rattle.switch_engine.specs.Actions.{set_reg, with_header, gone_on}
use Rattle.switch_engine.specs.Walk.{start, start_regs, unmatched}
use Rattle.switch_engine.specs.Zones.{ZoneLists}
use Rattle.switch_engine.specs.declared.carried.Carried.{Carried}
use Rattle.switch_engine.specs.declared.effect.Effect.TheVariants as effect
use Rattle.tunnel_keys.proofs.HeldKeys.{on_datapath_key}
use Rattle.tunnel_keys.specs.Keys.{held_ports}
use Rattle.tunnel_keys.specs.Same.{same_identity, identity_exact, identity_own}
use Rattle.tunnel_keys.specs.declared.owner.DatapathKey.{DatapathKey}
use Rattle.tunnel_keys.specs.declared.owner.HeldPort.{HeldPort}
use Rattle.tunnel_keys.specs.declared.owner.Identity.{Identity}
use Rattle.tunnel_keys.specs.declared.owner.PortKey.{PortKey}
use Rattle.sim_laws.proofs.Places.{is_local}
use Rattle.sim_laws.proofs.Homes.{reached_on, reached_here}
use Rattle.sim_laws.proofs.KeyLookups.{port_key_is}
use Rattle.sim_laws.proofs.passes.Members.{same_tests, home_is, member_is}
use Rattle.sim_laws.proofs.GroupNumbers.{no_group, group_short}
use Rattle.sim_laws.proofs.passes.Ends.{ends_so}
use Rattle.sim_laws.proofs.passes.GroupCopies.{IsMember, key_is, copies_go, group_33}
use Rattle.sim_laws.proofs.passes.Identities.{vni, in_key, vni_held, in_held, its_there, the_switch, not_router, vni_on, its_port, came_stands}
use Rattle.sim_laws.proofs.passes.Leaving.{leaves_by, dp_within, to_within}
use Rattle.sim_laws.proofs.passes.LiveNumbers.{hold, one_datapath, port_among, port_live, switch_live, port_of, same_port_key}
use Rattle.sim_laws.proofs.passes.OnePort.{IsFor, IsHomed, homes_33}
use Rattle.sim_laws.proofs.passes.RowSteps.{Taken, row_step, no_row, row_fits, as_row, comes_unmatched}
use Rattle.sim_laws.proofs.passes.Sending.{none_leads}
use Rattle.sim_laws.proofs.pipelines.Copies.{goes_so}
use Rattle.sim_laws.proofs.pipelines.Pieces.{comes_then}
use Rattle.sim_laws.proofs.pipelines.Tables.{DoesOps}
use Rattle.sim_laws.specs.Effects.{port_key, aim_key}
use Rattle.sim_laws.specs.Naming.{IsNumbered}
use Rattle.sim_laws.specs.Sound.{HasAimKey}
use Rattle.sim_laws.specs.passes.Arriving.{tunnel_entry_of, AreOwned, IsOnSwitch, IsAimOnSwitch, MayArrive, ArrivingOnLaw, ArrivingLaw}
use Rattle.sim_laws.specs.passes.Onward.{LeadsOn}
use Rattle.sim_laws.specs.passes.Physical.{basis_of, IsWired}
use Rattle.sim_laws.specs.passes.ToEnd.{Never, EndsAs}
use Rattle.sim_laws.specs.pipelines.Egress.{EgressLaw}
use Rattle.sim_laws.specs.pipelines.HeldLists.{HoldLists}
use Rattle.sim_laws.specs.pipelines.Pieces.{ComesTo}
use Rattle.sim_laws.specs.pipelines.Standing.{Chassis, net_of, course_of, IsLaidOut}
use Rattle.sim_laws.specs.pipelines.WalkOn.{Reached, Comes}

module _ (s : Chassis) (laid : IsLaidOut s) (numbers : GivenNumbers) (wired : IsWired s numbers) (owned : AreOwned s) (law : EgressLaw) (n : ℕ) (x : Crossing) (may : MayArrive s x)
    (leads : LeadsOn s (passing_on s.scene) x.datapath.name 0) (entry_is : s.entry ≡ tunnel_entry_of s.keys x)
    (lists : Lists) (zones : ZoneLists) (hold_them : HoldLists s.number zones lists) where
  abbrev out_key : ℕ
  out_key = aim_key s.keys x.aim

  -- the copy once the header of its frame was read
  abbrev regs : Regs
  regs = set_reg reg.Arrived 1 (with_header (tunnel_entry_of s.keys x) (start_regs (tunnel_entry_of s.keys x)))

  abbrev copy : Carried
  copy = start (tunnel_entry_of s.keys x) x.packet

  abbrev arrived : Carried
  arrived = gone_on LOCAL_TABLE (record copy { regs = regs })

  abbrev Arrives : (Trail → Trail) → Type 0
  Arrives way = Comes (course_of s) zones (arrived ∷ []) (EndsAs s way lists)

  abbrev number_of : ℕ
  number_of = vni s laid owned x may

  abbrev entered : ℕ
  entered = in_key s laid owned x may

  -- ---- its numbers are in their ranges

  key_low : (h : HeldPort) → Among h (held_ports s.keys) → h.key ≤ 32767
  key_low h m =
      let low : h.key ≤ s.keys.port_range = ((hold s laid).port_keys h m).1 in
      let high : s.keys.port_range ≤ 32767 = (hold s laid).port_ranges.1 in
      omega (arith, low, high)

  vni_low : number_of ≤ 0xff_ffff
  vni_low =
      let low : may.datapath_key.0.key ≤ s.keys.datapath_range = ((hold s laid).datapath_keys may.datapath_key.0 may.datapath_key.1).1 in
      let high : s.keys.datapath_range ≤ 0xff_ffff = (hold s laid).datapath_ranges.1 in
      let same : number_of ≡ may.datapath_key.0.key = vni_held s laid owned x may in
      omega (arith, low, high, same)

  in_low : entered ≤ 0xffff
  in_low = let low = key_low may.in_key.0 may.in_key.1 in let same : entered ≡ may.in_key.0.key = in_held s laid owned x may in omega (arith, low, same)

  out_low : (aim : Aim) → HasAimKey s.keys aim → aim_key s.keys aim ≤ 0xffff
  out_low (ToPort id) h =
      let low = key_low h.0 h.1 in
      let same : port_key s.keys id ≡ h.0.key = port_key_is s.keys (hold s laid) h.0 id h.1 h.2 in
      omega (arith, low, same)
  out_low (ToGroup g) h = let short : group_key g < 2 ^ 16 = group_short g in omega (arith, short)

  within : HasRegistersInRange regs
  within = record { within = each }
    where
      each : (r : Reg) → reg_number r regs ≤ reg_max r
      each reg.Dp = vni_low
      each reg.InPort = in_low
      each reg.OutPort = out_low x.aim may.aim_key
      each reg.Next = omega arith
      each reg.ZIn = omega arith
      each reg.ZOut = omega arith
      each reg.ZDnat = omega arith
      each reg.ZSnat = omega arith
      each reg.State = omega arith
      each reg.Verdict = omega arith
      each reg.Tier = omega arith
      each reg.Loopback = omega arith
      each reg.Tracked = omega arith
      each reg.Blocked = omega arith
      each reg.Own = omega arith
      each reg.Arrived = omega arith

  -- ---- it is lost where no row of table 33 fits

  abbrev Fitting : Flow → Type 0
  Fitting f = CubeFits f.cube regs x.packet

  lost : ((f : Flow) → HomeRow (basis_of s numbers) f → ¬ Fitting f) → Arrives (λ t. tell (is_lost n) t)
  lost never =
      let Lost : Reached = EndsAs s (λ t. tell (is_lost n) t) lists in
      comes_unmatched (course_of s) zones arrived Lost (no_row s LOCAL_TABLE (HomeRow (basis_of s numbers)) wired.home arrived refl never)
      (subst (λ e. Lost (unmatched e arrived) zones []) (sym entry_is)
      (ends_so s (λ t. tell (is_lost n) t) lists lists (effect.Lost ∷ []) (is_lost n ∷ []) zones (IsNumbered.lost, tt) hold_them (λ choices ends. refl)))

  -- it came out of a tunnel
  not_inside : (d k : ℕ) → CubeFits (on_way d k) regs x.packet → ⊥
  not_inside d k fitting =
      let fits = fits_way regs x.packet d k (dp_within regs within) (to_within regs within) fitting in
      let none : 16 ≡ 0 = fits.2 in
      absurd (omega (arith, none))

  -- a row is of the crossing's switch, which is there
  row_there : (f : Flow) → HomeRow (basis_of s numbers) f → Fitting f → is_switch (net_of s) x.datapath ≡ true
  row_there f (HomeRow.home r other d k zone theirs bound e) fitting =
      let fits = fits_exit regs x.packet d k (dp_within regs within) (to_within regs within) (subst (λ (g : Flow). CubeFits g.cube regs x.packet) e fitting) in
      its_there s laid owned x may other.switch theirs.on.switch theirs.on.there (theirs.on.live, theirs.on.has, theirs.on.number ∙ sym fits.0)
  row_there f (HomeRow.passes y theirs is e) fitting =
      let fits = fits_exit regs x.packet y.dp y.key (dp_within regs within) (to_within regs within) (subst (λ (g : Flow). CubeFits g.cube regs x.packet) e fitting) in
      by y theirs fits.0
    where
      by : (y : PatchPort) → IsPatchPort (basis_of s numbers) y → number_of ≡ y.dp → is_switch (net_of s) x.datapath ≡ true
      by y (to_router r other d k theirs kind is) same =
          its_there s laid owned x may other.switch theirs.on.switch theirs.on.there (theirs.on.live, theirs.on.has, theirs.on.number ∙ sym (same ∙ ap (λ (z : PatchPort). z.dp) is))
      by y (of_router r other d k theirs is) same =
          absurd (not_router s laid owned x may other.router theirs.on.router theirs.on.there (theirs.on.live, theirs.on.has, theirs.on.number ∙ sym (same ∙ ap (λ (z : PatchPort). z.dp) is)))
  row_there f (HomeRow.enters y theirs is e) fitting = absurd (not_inside y.dp y.key (subst (λ (g : Flow). CubeFits g.cube regs x.packet) e fitting))
  row_there f (HomeRow.copies a d g came_out theirs e) fitting =
      let fits = fits_group regs x.packet d g came_out (dp_within regs within) (to_within regs within) (subst (λ (h : Flow). CubeFits h.cube regs x.packet) e fitting) in
      its_there s laid owned x may a theirs.switch theirs.there (theirs.live, theirs.has, theirs.number ∙ sym fits.0)

  -- ---- its switch is there

  module _ (is : is_switch (net_of s) x.datapath ≡ true) where
    on_it : IsDatapathKey s.keys x.datapath.name number_of
    on_it = vni_on s laid owned x may is

    came_in : NumberStandsFor s.keys (roster_of (net_of s)) x.datapath.name (Some x.in_port) entered
    came_in = came_stands s laid owned x may is

    -- ---- it goes to one port

    module _ (id : Identity) (aim_is : x.aim ≡ ToPort id) where
      aim_held : HasAimKey s.keys (ToPort id)
      aim_held = subst (HasAimKey s.keys) aim_is may.aim_key

      aim_on : IsOnSwitch s x.datapath id
      aim_on = subst (IsAimOnSwitch s x.datapath) aim_is may.aim_on

      out_is : out_key ≡ port_key s.keys id
      out_is = ap (aim_key s.keys) aim_is

      out_held : out_key ≡ aim_held.0.key
      out_held = out_is ∙ port_key_is s.keys (hold s laid) aim_held.0 id aim_held.1 aim_held.2

      -- the port is there, and at home here alone
      abbrev is_reached_one : SwitchPort → Bool
      is_reached_one q = same_identity (port_identity q) id && is_reached s.scene q

      bound_reached : (q : SwitchPort) → at (net_of s).switch_ports q.name ≡ Some q → q.switch ≡ x.datapath.name → at s.scene.config.bindings q.name ≡ Some s.scene.here → is_reached s.scene q ≡ true
      bound_reached q found on bound = by (is_virtual q) refl
        where
          by : (v : Bool) → is_virtual q ≡ v → is_reached s.scene q ≡ true
          by true virtual = ap (is_on s.scene.here) (home_is s q virtual ∙ ap (home_if home_on) bound) ∙ reached_on true s.scene.here
          by false kind = absurd (none-some s.scene.here (sym (leads.unbound q found on kind) ∙ bound))

      -- so it is where a row fits: that of a port with its numbers
      abbrev Reaches : Type 0
      Reaches = (q : SwitchPort) × (at (net_of s).switch_ports id.name ≡ Some q) × (is_reached_one q ≡ true)

      port_reaches : (r : Name) (other : SwitchPort) (d k : ℕ) → IsPort (basis_of s numbers) r other d k → number_of ≡ d → out_key ≡ k
          → (at (net_of s).switch_ports other.name ≡ Some other → other.switch ≡ x.datapath.name → other.name ≡ r → is_reached s.scene other ≡ true) → Reaches
      port_reaches r other d k theirs dp_is key_is reached =
          let same : record { name = r; birth = other.birth } ≡ id =
          its_port s laid owned x may r other theirs.there (theirs.on.live, theirs.on.has, theirs.on.number ∙ sym dp_is) k (port_of s laid numbers r other d k theirs) aim_held.0 aim_held.1
          (aim_on is aim_held.0 aim_held.1 aim_held.2) (sym key_is ∙ out_held) ∙ aim_held.2 in
          let named = port_named (net_of s) laid.valid r other theirs.there in
          let own : port_identity other ≡ id = (λ j. record { name = named j; birth = other.birth }) ∙ same in
          let found = ap (λ a. at (net_of s).switch_ports a) named ∙ theirs.there in
          let on = one_datapath s laid other.switch x.datapath.name number_of (theirs.on.live, theirs.on.has, theirs.on.number ∙ sym dp_is) on_it in (
            other,
            ap (λ (i : Identity). at (net_of s).switch_ports i.name) (sym same) ∙ theirs.there,
            and_from (same_identity (port_identity other) id) (is_reached s.scene other) (subst (λ (i : Identity). same_identity i id ≡ true) (sym own) (identity_own id)) (reached found on named),
          )

      row_reached : (f : Flow) → HomeRow (basis_of s numbers) f → Fitting f → Reaches
      row_reached f (HomeRow.home r other d k zone theirs bound e) fitting =
          let fits = fits_exit regs x.packet d k (dp_within regs within) (to_within regs within) (subst (λ (g : Flow). CubeFits g.cube regs x.packet) e fitting) in
          port_reaches r other d k theirs fits.0 fits.1 (λ found on named. bound_reached other found on (ap (λ a. at s.scene.config.bindings a) named ∙ bound.bound))
      row_reached f (HomeRow.passes y theirs at_home e) fitting =
          let fits = fits_exit regs x.packet y.dp y.key (dp_within regs within) (to_within regs within) (subst (λ (g : Flow). CubeFits g.cube regs x.packet) e fitting) in
          by y theirs at_home fits.0 fits.1
        where
          by : (y : PatchPort) → IsPatchPort (basis_of s numbers) y → y.home ≡ home_on s.scene.here → number_of ≡ y.dp → out_key ≡ y.key → Reaches
          by y (to_router r other d k theirs kind same) at_home dp_is key_is =
              port_reaches r other d k theirs (dp_is ∙ ap (λ (z : PatchPort). z.dp) same) (key_is ∙ ap (λ (z : PatchPort). z.key) same)
              (λ found on named. ap (is_on s.scene.here) (sym (ap (λ (z : PatchPort). z.home) same) ∙ at_home) ∙ reached_on true s.scene.here)
          by y (of_router r other d k theirs same) at_home dp_is key_is =
              absurd (not_router s laid owned x may other.router theirs.on.router theirs.on.there (theirs.on.live, theirs.on.has, theirs.on.number ∙ sym (dp_is ∙ ap (λ (z : PatchPort). z.dp) same)))
      row_reached f (HomeRow.enters y theirs at_home e) fitting = absurd (not_inside y.dp y.key (subst (λ (g : Flow). CubeFits g.cube regs x.packet) e fitting))
      row_reached f (HomeRow.copies a d g came_out theirs e) fitting =
          let fits = fits_group regs x.packet d g came_out (dp_within regs within) (to_within regs within) (subst (λ (h : Flow). CubeFits h.cube regs x.packet) e fitting) in
          let low = key_low aim_held.0 aim_held.1 in
          let same : out_key ≡ aim_held.0.key = out_held in
          absurd (no_group g out_key out_key (omega (arith, low, same)) refl fits.1)

      -- it leaves by the port
      reaches : (q : SwitchPort) → at (net_of s).switch_ports id.name ≡ Some q → is_reached_one q ≡ true → Arrives (λ t. leave (passing_on s.scene) s.scene x.in_port q t x.packet)
      reaches q there h =
          let parts = and_parts (same_identity (port_identity q) id) (is_reached s.scene q) h in
          let own : port_identity q ≡ id = identity_exact (port_identity q) id parts.0 in
          let found : at (net_of s).switch_ports q.name ≡ Some q = ap (λ (i : Identity). at (net_of s).switch_ports i.name) own ∙ there in
          let p = port_live s laid q.name q found in
          let w = on_switch (net_of s) laid.valid q.name q found in
          let d = switch_live s laid q.switch w.0 w.1 in
          let live : PortKey = record { birth = q.birth; datapath = q.switch; key = p.0 } in
          let under : DatapathKey = record { birth = w.0.birth; key = d.0 } in
          let held : HeldPort = on_datapath_key q.name live under in
          let m = port_among s laid q.name live under p.1 d.1 in
          let together : held.datapath ≡ x.datapath = aim_on is held m own in
          let switch : x.datapath.name ≡ q.switch = ap (λ (i : Identity). i.name) (sym together) in
          let key : out_key ≡ p.0 = out_is ∙ port_key_is s.keys (hold s laid) held id m own in
          let unbound = leads.unbound q found (sym switch) in
          let goes : IsFor s x.in_port q x.packet LOCAL_TABLE lists zones arrived = record {
            in_table = refl;
            packet = refl;
            whole = may.whole;
            on = subst (λ (a : Name). IsDatapathKey s.keys a number_of) switch on_it;
            came_in = subst (λ (a : Name). NumberStandsFor s.keys (roster_of (net_of s)) a (Some x.in_port) entered) switch came_in;
            to = (live, p.1, refl, sym key);
            within = within;
            hold = hold_them;
          } in
          let apart : entered ≢ out_key =
          λ same.
          let owner = (hold s laid).ports_apart may.in_key.0 held may.in_key.1 m (may.in_on is may.in_key.0 may.in_key.1 may.in_key.2 ∙ sym together) (sym (in_held s laid owned x may) ∙ same ∙ key) in
          may.no_return (aim_is ∙ ap ToPort (sym own ∙ sym owner ∙ may.in_key.2)) in
          comes_then s (λ rest t. rest t x.packet) (λ p rest t. leave (passing_on s.scene) s.scene x.in_port q t x.packet) lists (IsHomed s laid numbers wired x.in_port q found unbound x.packet arrived) Never zones (arrived ∷ [])
          (homes_33 s laid numbers wired x.in_port q found unbound x.packet true lists zones arrived goes refl parts.1)
          (λ after p last next homed.
          leaves_by s laid numbers wired law (passing_on s.scene) 0 x.in_port q found (λ kind. leads.goes q found (sym switch) kind (reached_here true s.scene.here (home_of s.scene.config q) parts.1)) x.packet after last next homed.at_exit homed.passes (λ same. absurd (apart (sym homed.from ∙ same ∙ homed.to))))

      by_test : (q : SwitchPort) → at (net_of s).switch_ports id.name ≡ Some q → (b : Bool) → is_reached_one q ≡ b → Arrives (λ t. reach_port s.scene n x (cond b (Some q) None) t)
      by_test q there true h = reaches q there h
      by_test q there false h =
          lost (λ f row fits. let r = row_reached f row fits in false≢true (sym h ∙ ap is_reached_one (same_Some q r.0 (sym there ∙ r.1)) ∙ r.2))

      to_port : (o : Option SwitchPort) → at (net_of s).switch_ports id.name ≡ o → Arrives (λ t. reach_port s.scene n x (port_reached s.scene id o) t)
      to_port None none = lost (λ f row fits. let r = row_reached f row fits in none-some r.0 (sym none ∙ r.1))
      to_port (Some q) there = by_test q there (is_reached_one q) refl

    -- ---- it goes to a group

    module _ (g : Group) (aim_is : x.aim ≡ ToGroup g) where
      abbrev switch_name : Name
      switch_name = x.datapath.name

      abbrev keep : SwitchPort → Bool
      keep q = is_reached s.scene q && not (same_identity (port_identity q) x.in_port)

      is_datapath : IsDatapath (basis_of s numbers) switch_name number_of
      is_datapath =
          let w = the_switch s laid owned x may is in
          record { switch = w.0; there = w.1; live = on_it.0; has = on_it.1; number = on_it.2 }

      abbrev key : SwitchPort → ℕ
      key q = (member_of (basis_of s numbers) q.name).key

      -- a member has the number of the port of entry where it is that port
      entry_is_it : (q : SwitchPort) → at (net_of s).switch_ports q.name ≡ Some q → q.switch ≡ switch_name → same_identity (port_identity q) x.in_port ≡ nat_eq (key q) entered
      entry_is_it q found on =
          let own = key_is s laid numbers wired law (passing_on s.scene) 0 switch_name leads x.in_port x.packet q found in
          same_tests (same_identity (port_identity q) x.in_port) (nat_eq (key q) entered)
          (λ same.
          let id : port_identity q ≡ x.in_port = identity_exact (port_identity q) x.in_port same in
          let here' = (came_in.numbered q.name (ap (λ (o : Option SwitchPort). is_live_one (Some x.in_port) (option_map port_identity o)) found ∙ subst (λ (i : Identity). same_identity x.in_port i ≡ true) (sym id) (identity_own x.in_port))) in
          (Decides-eqb (key q) entered).1 (same_port_key s laid q.switch switch_name q.name (key q) entered own here'))
          (λ equal.
          let number : key q ≡ entered = (Decides-eqb (key q) entered).0 equal in
          let id : port_identity q ≡ x.in_port =
          its_port s laid owned x may q.name q found (subst (λ (a : Name). IsDatapathKey s.keys a number_of) (sym on) on_it) (key q) own may.in_key.0 may.in_key.1
          (may.in_on is may.in_key.0 may.in_key.1 may.in_key.2) (number ∙ in_held s laid owned x may) ∙ may.in_key.2 in
          subst (λ (i : Identity). same_identity i x.in_port ≡ true) (sym id) (identity_own x.in_port))

      member : (q : SwitchPort) → Among q (members (net_of s) switch_name g) → IsMember s laid numbers wired law (passing_on s.scene) 0 switch_name leads x.in_port x.packet true arrived refl refl may.whole on_it came_in within keep q
      member q m =
          let e = member_is s laid switch_name g q m in
          record {
            there_is = e.there;
            on_it = e.on;
            keeps = λ j. is_reached s.scene q && not (entry_is_it q e.there e.on j);
          }

      to_group : Arrives (λ t. copy_to_each (leave (passing_on s.scene) s.scene x.in_port) (members_reached s.scene x.in_port (members (net_of s) switch_name g)) t x.packet)
      to_group =
          let Then : Reached = EndsAs s (λ t. copy_to_each (leave (passing_on s.scene) s.scene x.in_port) (members_reached s.scene x.in_port (members (net_of s) switch_name g)) t x.packet) lists in
          group_33 s laid numbers wired law (passing_on s.scene) 0 switch_name leads x.in_port x.packet g arrived is_datapath (ap (aim_key s.keys) aim_is) within true refl zones refl Then
          (copies_go s laid numbers wired law (passing_on s.scene) 0 switch_name leads x.in_port x.packet true arrived refl refl may.whole on_it came_in within keep (members (net_of s) switch_name g) member lists zones hold_them)

    by_aim : (aim : Aim) → x.aim ≡ aim → Arrives (λ t. reach s.scene n x aim t)
    by_aim (ToPort id) aim_is = to_port id aim_is (at (net_of s).switch_ports id.name) refl
    by_aim (ToGroup g) aim_is = to_group g aim_is

  -- ---- table 33

  by_switch : (b : Bool) → is_switch (net_of s) x.datapath ≡ b → Arrives (λ t. reach_if b s.scene n x t)
  by_switch true is = by_aim is x.aim refl
  by_switch false gone = lost (λ f row fits. false≢true (sym gone ∙ row_there f row fits))

  -- ---- table 0

  abbrev AsArrived : Lists → Packet → ZoneLists → Carried → Type 0
  AsArrived after q last next = (after ≡ lists) × (last ≡ zones) × (next ≡ arrived)

  abbrev Read : Reached
  Read = ComesTo s (λ rest t. rest t x.packet) lists AsArrived

  header_does : DoesOps s (op.Header ∷ op.Set reg.Arrived 1 ∷ op.Go 33 ∷ []) zones copy Read
  header_does told done =
      let next : Carried = gone_on LOCAL_TABLE (record copy { regs = set_reg reg.Arrived 1 (with_header s.entry copy.regs) }) in
      subst (λ l. Read l zones (next ∷ [])) done.effects
      (goes_so s (λ rest t. rest t x.packet) lists lists AsArrived zones x.packet next
      (refl, refl, λ j. gone_on LOCAL_TABLE (record copy { regs = set_reg reg.Arrived 1 (with_header (entry_is j) copy.regs) })) (λ rest choices ends. refl))

  on_0 : (f : Flow) → Taken s ENTRY_TABLE (EntryRow (basis_of s numbers)) wired.entry copy f → EntryRow (basis_of s numbers) f → DoesOps s f.ops zones copy Read
  on_0 f t (EntryRow.entry q port dp k zone theirs bound e) =
      let is : at_of.Tunnel ≡ at_of.Local q = fits_entry copy.regs x.packet q (row_fits s ENTRY_TABLE (EntryRow (basis_of s numbers)) wired.entry copy f (entry_row q dp k zone) t e) in
      absurd (false≢true (ap is_local is))
  on_0 f t (EntryRow.arrival e) = as_row s ENTRY_TABLE (EntryRow (basis_of s numbers)) wired.entry zones copy Read f arrival_row e header_does

  pub arrives : Comes (course_of s) zones (copy ∷ []) (EndsAs s (λ t. arrival s.scene n x t) lists)
  arrives =
      comes_then s (λ rest t. rest t x.packet) (λ q rest t. arrival s.scene n x t) lists AsArrived Never zones (copy ∷ [])
      (row_step s ENTRY_TABLE (EntryRow (basis_of s numbers)) wired.entry zones copy refl Read arrival_row (EntryRow.arrival refl) refl (tunnel_fits copy.regs x.packet refl) (λ f t. on_0 f t t.row))
      (λ after q last next is.
      subst (λ (l : Lists). Comes (course_of s) last (next ∷ []) (EndsAs s (λ t. arrival s.scene n x t) l)) (sym is.0)
      (subst (λ (z : ZoneLists). Comes (course_of s) z (next ∷ []) (EndsAs s (λ t. arrival s.scene n x t) lists)) (sym is.1)
      (subst (λ (c : Carried). Comes (course_of s) zones (c ∷ []) (EndsAs s (λ t. arrival s.scene n x t) lists)) (sym is.2) (by_switch (is_switch (net_of s) x.datapath) refl))))

pub arrives_on : EgressLaw → ArrivingOnLaw
arrives_on law s laid numbers wired owned n x may leads entry_is lists zones hold_them = arrives s laid numbers wired owned law n x may leads entry_is lists zones hold_them

-- where no port leads to a router
pub arrives_virtual : ArrivingOnLaw → ArrivingLaw
arrives_virtual law s laid numbers wired owned n x may virtual entry_is lists zones hold_them =
    law s laid numbers wired owned n x may (none_leads s x.datapath.name virtual (passing_on s.scene) 0) entry_is lists zones hold_them
