-- Tables 32 and 33: a copy for one port goes on where the port is at home here, is a frame where it is at home elsewhere, and else is dropped.
use Rattle.std.specs.Prelude.{◌≡◌, ◌≢◌, ◌≤◌, ◌<◌, ℕ, Bool, true, false, cond, [], ◌∷◌, Some, None, bit_and, refl}
use Rattle.std.proofs.Common.{sym, ap, ◌∙◌, subst, arith}
use Rattle.std.proofs.Math.Dec.{eqb as nat_eq}
use Rattle.std.proofs.lemmas.Bool.{false≢true}
use Rattle.std.proofs.lemmas.Option.{none-some}
use Rattle.conn_zones.specs.Zoning.{GivenNumbers}
use Rattle.flow_lowering.specs.Registers.{reg_number, reg_max, HasRegistersInRange}
use Rattle.flow_table.specs.declared.flow.Cause.TheVariants as cause
use Rattle.flow_table.specs.declared.flow.Flow.{Flow}
use Rattle.inet_packet.specs.Fits.{CubeFits}
use Rattle.inet_packet.specs.Whole.{IsWhole}
use Rattle.inet_packet.specs.declared.packet.Packet.{Packet}
use Rattle.inet_packet.specs.declared.regs.Reg.{Reg}
use Rattle.inet_packet.specs.declared.regs.Reg.TheVariants as reg
use Rattle.inet_packet.specs.declared.regs.Regs.{Regs}
use Rattle.nb_records.specs.Routers.{partner_of_switch_port}
use Rattle.nb_records.specs.Switches.{is_virtual}
use Rattle.nb_records.specs.declared.switch.SwitchPort.{SwitchPort}
use Rattle.net_model.specs.Config.{Home, nowhere, on, everywhere, home_if, home_of, port_identity}
use Rattle.net_model.specs.Sights.{roster_of}
use Rattle.net_model.specs.Spread.{crossing_to}
use Rattle.net_model.specs.Trail.{Trail, Lists, crosses, is_dropped, of_port, spot_of, tell, drop_for}
use Rattle.net_model.specs.Visit.{switch_named}
use Rattle.net_model.specs.declared.crossing.Aim.TheVariants.{ToPort}
use Rattle.net_model.specs.declared.crossing.Group.{Group}
use Rattle.ovn_base.specs.declared.name.Name.{Name}
use Rattle.ovn_base.specs.declared.stages.TheConstants.{REMOTE_TABLE, LOCAL_TABLE, LOOPBACK_TABLE}
use Rattle.ovn_base.specs.names.ByName.{at}
use Rattle.physical_flows.proofs.RowFits.{everything_fits, exit_fits, way_fits, fits_exit, fits_way, fits_group}
use Rattle.physical_flows.specs.Homes.{is_reached_at}
use Rattle.physical_flows.specs.Rows.{remote_row, spread_row, stay_row, home_row, pass_row, enter_row, copies_row}
use Rattle.physical_flows.specs.Stages.{IsPort, IsHere, PatchPort, IsPatchPort, to_router, RemoteRow, HomeRow, members_here, homes_of}
use Rattle.row_laws.proofs.records.ValidPorts.{on_switch}
use Rattle.row_laws.specs.Numbers.{IsDatapathKey, IsPortKey, NumberStandsFor}
use Rattle.switch_engine.specs.Actions.{drop_at, frame_to, gone_on}
use Rattle.switch_engine.specs.Walk.{unmatched, stray}
use Rattle.switch_engine.specs.Zones.{ZoneLists}
use Rattle.switch_engine.specs.declared.carried.Carried.{Carried}
use Rattle.switch_engine.specs.declared.effect.Effect.{Effect}
use Rattle.switch_engine.specs.declared.effect.Effect.TheVariants as effect
use Rattle.switch_engine.specs.declared.effect.Entry.{Entry}
use Rattle.switch_engine.specs.declared.effect.Entry.TheVariants.{Vif, Tunnel}
use Rattle.tunnel_keys.proofs.HeldKeys.{found}
use Rattle.tunnel_keys.specs.declared.owner.Identity.{Identity}
use Rattle.sim_laws.proofs.GroupNumbers.{no_group}
use Rattle.sim_laws.proofs.Homes.{reached_bound, never_reached, only_reached, not_arrived, reached_on, reached_everywhere, same_home, on_bound}
use Rattle.sim_laws.proofs.passes.Ends.{ends_so}
use Rattle.sim_laws.proofs.passes.Leaving.{IsAtExit, dp_within, to_within}
use Rattle.sim_laws.proofs.passes.LiveNumbers.{IsItself, port_low, is_port, same_exit, same_patch, switch_key, port_number}
use Rattle.sim_laws.proofs.passes.Members.{home_is}
use Rattle.sim_laws.proofs.passes.RowSteps.{Taken, row_step, no_row, row_fits, as_row, comes_unmatched, go_does, home_does, frame_does, homed}
use Rattle.sim_laws.proofs.pipelines.Copies.{has_datapath_key, has_port_key, goes_so}
use Rattle.sim_laws.proofs.pipelines.Tables.{DoesOps}
use Rattle.sim_laws.specs.Effects.{datapath_key, port_key}
use Rattle.sim_laws.specs.Naming.{IsNumbered}
use Rattle.sim_laws.specs.passes.Physical.{basis_of, IsWired}
use Rattle.sim_laws.specs.passes.Sending.{sent_from}
use Rattle.sim_laws.specs.passes.ToEnd.{EndsAs}
use Rattle.sim_laws.specs.pipelines.HeldLists.{HoldLists}
use Rattle.sim_laws.specs.pipelines.Pieces.{ComesTo}
use Rattle.sim_laws.specs.pipelines.Standing.{Chassis, net_of, course_of, IsLaidOut}
use Rattle.sim_laws.specs.pipelines.WalkOn.{Reached, Comes}

-- The copy stands before the table with the numbers of where it came in and of the port to which it goes.
pub record IsFor (s : Chassis) (came : Identity) (o : SwitchPort) (p : Packet) (table : ℕ) (lists : Lists) (zones : ZoneLists) (copy : Carried) : Type 0 where
  pub in_table : copy.table ≡ table
  pub packet : copy.packet ≡ p
  pub whole : IsWhole p
  pub on : IsDatapathKey s.keys o.switch copy.regs.dp
  pub came_in : NumberStandsFor s.keys (roster_of (net_of s)) o.switch (Some came) copy.regs.in_port
  pub to : IsPortKey s.keys o.switch o.name copy.regs.out_port
  pub within : HasRegistersInRange copy.regs
  pub hold : HoldLists s.number zones lists

-- registers with another zone of exit
zoned_within : (z : ℕ) (regs : Regs) → HasRegistersInRange regs → z ≤ 0xffff → HasRegistersInRange (record regs { z_out = z })
zoned_within z regs h small = record { within = each }
  where
    each : (r : Reg) → reg_number r (record regs { z_out = z }) ≤ reg_max r
    each reg.Dp = h.within reg.Dp
    each reg.InPort = h.within reg.InPort
    each reg.OutPort = h.within reg.OutPort
    each reg.Next = h.within reg.Next
    each reg.ZIn = h.within reg.ZIn
    each reg.ZOut = small
    each reg.ZDnat = h.within reg.ZDnat
    each reg.ZSnat = h.within reg.ZSnat
    each reg.State = h.within reg.State
    each reg.Verdict = h.within reg.Verdict
    each reg.Tier = h.within reg.Tier
    each reg.Loopback = h.within reg.Loopback
    each reg.Tracked = h.within reg.Tracked
    each reg.Blocked = h.within reg.Blocked
    each reg.Own = h.within reg.Own
    each reg.Arrived = h.within reg.Arrived

-- a copy that came from table 32 is dropped where its port isn't at home here
unbound_so : (e : Entry) (c : Carried) → c.table ≡ LOCAL_TABLE → c.from ≡ REMOTE_TABLE → unmatched e c ≡ drop_at c.table cause.Unbound c.regs ∷ []
unbound_so e c in_table from = ap (λ n. cond (nat_eq n 33) (stray e c ∷ []) []) in_table ∙ ap (λ x. x ∷ []) (by e)
  where
    by : (e : Entry) → stray e c ≡ drop_at c.table cause.Unbound c.regs
    by (Vif port) = refl
    by (Tunnel vni in_key out_key) = ap (λ n. cond (nat_eq n 0) effect.Lost (drop_at c.table cause.Unbound c.regs)) from

module _ (s : Chassis) (laid : IsLaidOut s) (numbers : GivenNumbers) (wired : IsWired s numbers) (came : Identity) (o : SwitchPort) (there : at (net_of s).switch_ports o.name ≡ Some o)
    (unbound : is_virtual o ≡ false → at s.scene.config.bindings o.name ≡ None) (p : Packet) where
  -- ---- where it is at home

  abbrev home : Home
  home = home_of s.scene.config o

  -- it is at home where it is bound
  bound_home : (chassis : Name) → at s.scene.config.bindings o.name ≡ Some chassis → home ≡ on chassis
  bound_home chassis bound = by (is_virtual o) refl
    where
      by : (v : Bool) → is_virtual o ≡ v → home ≡ on chassis
      by true is = home_is s o is ∙ ap (home_if on) bound
      by false is = absurd (none-some chassis (sym (unbound is) ∙ bound))

  -- ---- what fits

  module _ (table : ℕ) (lists : Lists) (zones : ZoneLists) (copy : Carried) (h : IsFor s came o p table lists zones copy) where
    -- a port that has the copy's exit is the port
    its_exit : (r : Name) (other : SwitchPort) (d k : ℕ) → IsPort (basis_of s numbers) r other d k → (copy.regs.dp ≡ d) × (copy.regs.out_port ≡ k) → r ≡ o.name
    its_exit r other d k theirs fits = same_exit s laid numbers o copy.regs.dp copy.regs.out_port h.on h.to r other d k theirs fits.0 fits.1

    its_patch : (x : PatchPort) → IsPatchPort (basis_of s numbers) x → (copy.regs.dp ≡ x.dp) × (copy.regs.out_port ≡ x.key) → IsItself s laid numbers o x
    its_patch x leads fits = same_patch s laid numbers o there copy.regs.dp copy.regs.out_port h.on h.to x leads fits.0 fits.1

    exit_of : (d k : ℕ) → CubeFits (home_row d k 0).cube copy.regs copy.packet → (copy.regs.dp ≡ d) × (copy.regs.out_port ≡ k)
    exit_of d k fits = fits_exit copy.regs copy.packet d k (dp_within copy.regs h.within) (to_within copy.regs h.within) fits

    way_of : (d k : ℕ) → CubeFits (enter_row d k).cube copy.regs copy.packet → (copy.regs.dp ≡ d) × (copy.regs.out_port ≡ k) × (bit_and copy.regs.flags.0 16 ≡ 0)
    way_of d k fits = fits_way copy.regs copy.packet d k (dp_within copy.regs h.within) (to_within copy.regs h.within) fits

    -- a port's number is not a group's
    not_group : (d : ℕ) (group : Group) (arrived : Bool) → CubeFits (copies_row d group arrived []).cube copy.regs copy.packet → ⊥
    not_group d group arrived fits =
        let f = fits_group copy.regs copy.packet d group arrived (dp_within copy.regs h.within) (to_within copy.regs h.within) fits in
        no_group group copy.regs.out_port copy.regs.out_port (port_low s laid o.switch o.name copy.regs.out_port h.to) refl f.1

    is_exit : IsPort (basis_of s numbers) o.name o copy.regs.dp copy.regs.out_port
    is_exit = is_port s laid numbers o.name o there copy.regs.dp copy.regs.out_port h.on h.to

    -- the port, where it leads to a router
    abbrev as_patch : PatchPort
    as_patch = record { dp = copy.regs.dp; key = copy.regs.out_port; home = home; partner = partner_of_switch_port (net_of s) o }

    leads_so : is_virtual o ≡ false → IsPatchPort (basis_of s numbers) as_patch
    leads_so leads = to_router o.name o copy.regs.dp copy.regs.out_port is_exit leads refl

    exit_so : CubeFits (home_row copy.regs.dp copy.regs.out_port 0).cube copy.regs copy.packet
    exit_so = exit_fits copy.regs copy.packet copy.regs.dp (dp_within copy.regs h.within) refl copy.regs.out_port (to_within copy.regs h.within) refl

  -- ---- table 33

  -- the copy has gone on to the port, with the port's zone
  pub record IsHomed (before : Carried) (lists : Lists) (q : Packet) (zones : ZoneLists) (copy : Carried) : Type 0 where
    pub at_exit : IsAtExit s came o p LOOPBACK_TABLE lists zones copy
    pub passes : copy.passes ≡ before.passes
    pub from : copy.regs.in_port ≡ before.regs.in_port
    pub to : copy.regs.out_port ≡ before.regs.out_port
    pub loopback : reg_number reg.Loopback copy.regs ≡ reg_number reg.Loopback before.regs

  -- it came out of a tunnel or not
  module _ (arrived : Bool) (lists : Lists) (zones : ZoneLists) (copy : Carried) (h : IsFor s came o p LOCAL_TABLE lists zones copy) (word : bit_and copy.regs.flags.0 16 ≡ cond arrived 16 0) where
    abbrev Homes : Reached
    Homes = ComesTo s (λ rest t. rest t p) lists (IsHomed copy)

    homed_so : (z : ℕ) → s.number (of_port o.name) ≡ Some z → Homes [] zones (gone_on LOOPBACK_TABLE (homed s zones copy Homes z) ∷ [])
    homed_so z is =
        goes_so s (λ rest t. rest t p) lists lists (IsHomed copy) zones p (gone_on LOOPBACK_TABLE (homed s zones copy Homes z)) (record {
          at_exit = record {
            in_table = refl;
            packet = h.packet;
            whole = h.whole;
            on = h.on;
            came_in = h.came_in;
            to = h.to;
            within = zoned_within z copy.regs h.within (wired.in_range o.name z is);
            zone = λ v. is;
            hold = h.hold;
          };
          passes = refl;
          from = refl;
          to = refl;
          loopback = refl;
        }) (λ rest choices ends. refl)

    -- one that leads to a router has no zone
    passed_so : is_virtual o ≡ false → Homes [] zones (gone_on LOOPBACK_TABLE copy ∷ [])
    passed_so leads =
        goes_so s (λ rest t. rest t p) lists lists (IsHomed copy) zones p (gone_on LOOPBACK_TABLE copy) (record {
          at_exit = record {
            in_table = refl;
            packet = h.packet;
            whole = h.whole;
            on = h.on;
            came_in = h.came_in;
            to = h.to;
            within = h.within;
            zone = λ v. absurd (false≢true (sym leads ∙ v));
            hold = h.hold;
          };
          passes = refl;
          from = refl;
          to = refl;
          loopback = refl;
        }) (λ rest choices ends. refl)

    on_33 : (f : Flow) → Taken s LOCAL_TABLE (HomeRow (basis_of s numbers)) wired.home copy f → HomeRow (basis_of s numbers) f → DoesOps s f.ops zones copy Homes
    on_33 f t (HomeRow.home r other d k zone theirs here e) =
        let fits = exit_of LOCAL_TABLE lists zones copy h d k (row_fits s LOCAL_TABLE (HomeRow (basis_of s numbers)) wired.home copy f (home_row d k zone) t e) in
        let same = its_exit LOCAL_TABLE lists zones copy h r other d k theirs fits in
        as_row s LOCAL_TABLE (HomeRow (basis_of s numbers)) wired.home zones copy Homes f (home_row d k zone) e
        (home_does s zones copy Homes zone 34 (homed_so zone (ap (λ n. s.number (of_port n)) (sym same) ∙ wired.number r ∙ here.zoned)))
    on_33 f t (HomeRow.passes x leads at e) =
        let fits = exit_of LOCAL_TABLE lists zones copy h x.dp x.key (row_fits s LOCAL_TABLE (HomeRow (basis_of s numbers)) wired.home copy f (pass_row x.dp x.key) t e) in
        as_row s LOCAL_TABLE (HomeRow (basis_of s numbers)) wired.home zones copy Homes f (pass_row x.dp x.key) e
        (go_does s zones copy Homes 34 (passed_so (its_patch LOCAL_TABLE lists zones copy h x leads fits).leads))
    on_33 f t (HomeRow.enters x leads at e) =
        let fits = way_of LOCAL_TABLE lists zones copy h x.dp x.key (row_fits s LOCAL_TABLE (HomeRow (basis_of s numbers)) wired.home copy f (enter_row x.dp x.key) t e) in
        as_row s LOCAL_TABLE (HomeRow (basis_of s numbers)) wired.home zones copy Homes f (enter_row x.dp x.key) e
        (go_does s zones copy Homes 34 (passed_so (its_patch LOCAL_TABLE lists zones copy h x leads (fits.0, fits.1)).leads))
    on_33 f t (HomeRow.copies a d group came_out theirs e) =
        absurd (not_group LOCAL_TABLE lists zones copy h d group came_out
        (row_fits s LOCAL_TABLE (HomeRow (basis_of s numbers)) wired.home copy f (copies_row d group came_out (members_here (basis_of s numbers) a group came_out)) t e))

    by_row : (base : Flow) → HomeRow (basis_of s numbers) base → base.table ≡ LOCAL_TABLE → CubeFits base.cube copy.regs copy.packet → Comes (course_of s) zones (copy ∷ []) Homes
    by_row base row is fits = row_step s LOCAL_TABLE (HomeRow (basis_of s numbers)) wired.home zones copy h.in_table Homes base row is fits (λ f t. on_33 f t t.row)

    -- a port that leads to a router, by its home
    leads_33 : is_virtual o ≡ false → (k : Home) → home ≡ k → is_reached_at arrived s.scene.here k ≡ true → Comes (course_of s) zones (copy ∷ []) Homes
    leads_33 leads nowhere is reached = absurd (false≢true (sym (never_reached arrived s.scene.here) ∙ reached))
    leads_33 leads (on chassis) is reached =
        by_row (pass_row copy.regs.dp copy.regs.out_port)
        (HomeRow.passes (as_patch LOCAL_TABLE lists zones copy h) (leads_so LOCAL_TABLE lists zones copy h leads) (is ∙ ap (λ (n : Name). on n) (only_reached arrived chassis s.scene.here reached)) refl) refl
        (exit_so LOCAL_TABLE lists zones copy h)
    leads_33 leads everywhere is reached =
        by_row (enter_row copy.regs.dp copy.regs.out_port) (HomeRow.enters (as_patch LOCAL_TABLE lists zones copy h) (leads_so LOCAL_TABLE lists zones copy h leads) is refl) refl
        (way_fits copy.regs copy.packet copy.regs.dp (dp_within copy.regs h.within) refl copy.regs.out_port (to_within copy.regs h.within) refl (word ∙ ap (λ b. cond b 16 0) (not_arrived arrived s.scene.here reached)))

    -- the port is at home here
    pub homes_33 : is_reached_at arrived s.scene.here home ≡ true → Comes (course_of s) zones (copy ∷ []) Homes
    homes_33 reached = by (is_virtual o) refl
      where
        by : (v : Bool) → is_virtual o ≡ v → Comes (course_of s) zones (copy ∷ []) Homes
        by true virtual =
            let bound = reached_bound arrived s.scene.here (at s.scene.config.bindings o.name) (ap (is_reached_at arrived s.scene.here) (sym (home_is s o virtual)) ∙ reached) in
            let z = found (s.number (of_port o.name)) (wired.zoned o.name bound) in
            let here : IsHere (basis_of s numbers) o.name z.0 = record { bound = bound; zoned = sym (wired.number o.name) ∙ z.1 } in
            by_row (home_row copy.regs.dp copy.regs.out_port z.0) (HomeRow.home o.name o copy.regs.dp copy.regs.out_port z.0 (is_exit LOCAL_TABLE lists zones copy h) here refl) refl
            (exit_so LOCAL_TABLE lists zones copy h)
        by false leads = leads_33 leads home refl reached

    -- it isn't
    pub nowhere_33 : is_reached_at arrived s.scene.here home ≡ false → (f : Flow) → HomeRow (basis_of s numbers) f → ¬ CubeFits f.cube copy.regs copy.packet
    nowhere_33 away f (HomeRow.home r other d k zone theirs here e) fitting =
        let fits = exit_of LOCAL_TABLE lists zones copy h d k (subst (λ (g : Flow). CubeFits g.cube copy.regs copy.packet) e fitting) in
        let same = its_exit LOCAL_TABLE lists zones copy h r other d k theirs fits in
        let is : home ≡ on s.scene.here = bound_home s.scene.here (ap (λ n. at s.scene.config.bindings n) (sym same) ∙ here.bound) in
        false≢true (sym away ∙ ap (is_reached_at arrived s.scene.here) is ∙ reached_on arrived s.scene.here)
    nowhere_33 away f (HomeRow.passes x leads at e) fitting =
        let fits = exit_of LOCAL_TABLE lists zones copy h x.dp x.key (subst (λ (g : Flow). CubeFits g.cube copy.regs copy.packet) e fitting) in
        let is : home ≡ on s.scene.here = sym (its_patch LOCAL_TABLE lists zones copy h x leads fits).home ∙ at in
        false≢true (sym away ∙ ap (is_reached_at arrived s.scene.here) is ∙ reached_on arrived s.scene.here)
    nowhere_33 away f (HomeRow.enters x leads at e) fitting =
        let fits = way_of LOCAL_TABLE lists zones copy h x.dp x.key (subst (λ (g : Flow). CubeFits g.cube copy.regs copy.packet) e fitting) in
        let is : home ≡ everywhere = sym (its_patch LOCAL_TABLE lists zones copy h x leads (fits.0, fits.1)).home ∙ at in
        false≢true (sym away ∙ ap (is_reached_at arrived s.scene.here) is ∙ reached_everywhere arrived s.scene.here (sym word ∙ fits.2))
    nowhere_33 away f (HomeRow.copies a d group came_out theirs e) fitting =
        not_group LOCAL_TABLE lists zones copy h d group came_out (subst (λ (g : Flow). CubeFits g.cube copy.regs copy.packet) e fitting)

    abbrev Unbound : Reached
    Unbound = EndsAs s (λ t. drop_for cause.Unbound (spot_of o) t) lists

    pub unbound_33 : copy.from ≡ REMOTE_TABLE → is_reached_at arrived s.scene.here home ≡ false → Comes (course_of s) zones (copy ∷ []) Unbound
    unbound_33 from away =
        comes_unmatched (course_of s) zones copy Unbound (no_row s LOCAL_TABLE (HomeRow (basis_of s numbers)) wired.home copy h.in_table (nowhere_33 away))
        (subst (λ l. Unbound l zones []) (sym (unbound_so s.entry copy h.in_table from))
        (ends_so s (λ t. drop_for cause.Unbound (spot_of o) t) lists lists (drop_at copy.table cause.Unbound copy.regs ∷ []) (is_dropped o.switch o.name cause.Unbound ∷ []) zones (
          subst (λ (k : ℕ). IsNumbered s.keys (is_dropped o.switch o.name cause.Unbound) (drop_at k cause.Unbound copy.regs)) (sym h.in_table)
              (IsNumbered.drop (has_datapath_key h.on) (has_port_key h.to)),
          tt,
        ) h.hold (λ choices ends. refl)))

  -- ---- table 32

  -- the copy has gone on here
  pub record IsStaying (before : Carried) (lists : Lists) (q : Packet) (zones : ZoneLists) (copy : Carried) : Type 0 where
    pub still : IsFor s came o p LOCAL_TABLE lists zones copy
    pub passes : copy.passes ≡ before.passes
    pub from : copy.from ≡ REMOTE_TABLE
    pub regs : copy.regs ≡ before.regs

  module _ (lists : Lists) (zones : ZoneLists) (copy : Carried) (h : IsFor s came o p REMOTE_TABLE lists zones copy) where
    its_home : (f : Flow) → Taken s REMOTE_TABLE (RemoteRow (basis_of s numbers)) wired.remote copy f → (r : Name) (other : SwitchPort) (d k : ℕ) (chassis : Name) → IsPort (basis_of s numbers) r other d k
        → at s.scene.config.bindings r ≡ Some chassis → f ≡ remote_row d k chassis → home ≡ on chassis
    its_home f t r other d k chassis theirs bound e =
        let fits = exit_of REMOTE_TABLE lists zones copy h d k (row_fits s REMOTE_TABLE (RemoteRow (basis_of s numbers)) wired.remote copy f (remote_row d k chassis) t e) in
        bound_home chassis (ap (λ n. at s.scene.config.bindings n) (sym (its_exit REMOTE_TABLE lists zones copy h r other d k theirs fits)) ∙ bound)

    patch_home : (f : Flow) → Taken s REMOTE_TABLE (RemoteRow (basis_of s numbers)) wired.remote copy f → (x : PatchPort) (chassis : Name) → IsPatchPort (basis_of s numbers) x
        → x.home ≡ on chassis → f ≡ remote_row x.dp x.key chassis → home ≡ on chassis
    patch_home f t x chassis leads at_home e =
        let fits = exit_of REMOTE_TABLE lists zones copy h x.dp x.key (row_fits s REMOTE_TABLE (RemoteRow (basis_of s numbers)) wired.remote copy f (remote_row x.dp x.key chassis) t e) in
        sym (its_patch REMOTE_TABLE lists zones copy h x leads fits).home ∙ at_home

    not_spread : (f : Flow) → Taken s REMOTE_TABLE (RemoteRow (basis_of s numbers)) wired.remote copy f → (a : Name) (d : ℕ) (group : Group) → f ≡ spread_row d group (homes_of (basis_of s numbers) a group) → ⊥
    not_spread f t a d group e =
        not_group REMOTE_TABLE lists zones copy h d group false (row_fits s REMOTE_TABLE (RemoteRow (basis_of s numbers)) wired.remote copy f (spread_row d group (homes_of (basis_of s numbers) a group)) t e)

    -- it isn't at home on another chassis
    module _ (no_other : (chassis : Name) → home ≡ on chassis → chassis ≡ s.scene.here) where
      abbrev Stays : Reached
      Stays = ComesTo s (λ rest t. rest t p) lists (IsStaying copy)

      on_32 : (f : Flow) → Taken s REMOTE_TABLE (RemoteRow (basis_of s numbers)) wired.remote copy f → RemoteRow (basis_of s numbers) f → DoesOps s f.ops zones copy Stays
      on_32 f t (RemoteRow.remote r other d k chassis theirs is apart e) = absurd (apart (no_other chassis (its_home f t r other d k chassis theirs is e)))
      on_32 f t (RemoteRow.away x chassis leads is apart e) = absurd (apart (no_other chassis (patch_home f t x chassis leads is e)))
      on_32 f t (RemoteRow.spread a d group theirs e) = absurd (not_spread f t a d group e)
      on_32 f t (RemoteRow.stay e) =
          as_row s REMOTE_TABLE (RemoteRow (basis_of s numbers)) wired.remote zones copy Stays f stay_row e
          (go_does s zones copy Stays 33 (goes_so s (λ rest t. rest t p) lists lists (IsStaying copy) zones p (gone_on 33 copy) (record {
            still = record {
              in_table = refl;
              packet = h.packet;
              whole = h.whole;
              on = h.on;
              came_in = h.came_in;
              to = h.to;
              within = h.within;
              hold = h.hold;
            };
            passes = refl;
            from = h.in_table;
            regs = refl;
          }) (λ rest choices ends. refl)))

      pub stays_32 : Comes (course_of s) zones (copy ∷ []) Stays
      stays_32 =
          row_step s REMOTE_TABLE (RemoteRow (basis_of s numbers)) wired.remote zones copy h.in_table Stays stay_row (RemoteRow.stay refl) refl (everything_fits copy.regs copy.packet) (λ f t. on_32 f t t.row)

    -- it is
    module _ (i : SwitchPort) (i_there : at (net_of s).switch_ports i.name ≡ Some i) (dp_is : IsDatapathKey s.keys i.switch copy.regs.dp) (entered : IsPortKey s.keys i.switch i.name copy.regs.in_port)
        (other_home : Name) (at_other : home ≡ on other_home) (apart : other_home ≢ s.scene.here) where
      abbrev crossing : Trail → Trail
      crossing t = tell (crosses s.scene.here (crossing_to (sent_from s i) (ToPort (port_identity o)) other_home p)) t

      abbrev Crosses : Reached
      Crosses = EndsAs s crossing lists

      -- the frame spells the crossing
      framed : (name : Name) → name ≡ other_home → Crosses (frame_to name copy ∷ []) zones []
      framed name is =
          let w = on_switch (net_of s) laid.valid i.name i i_there in
          let dp : copy.regs.dp ≡ datapath_key s.keys (switch_named (net_of s) i.switch) = sym (switch_key s laid i.switch copy.regs.dp w.0 w.1 dp_is) in
          let from : copy.regs.in_port ≡ port_key s.keys (port_identity i) = sym (port_number s laid i i.switch copy.regs.in_port i_there entered) in
          let to : copy.regs.out_port ≡ port_key s.keys (port_identity o) = sym (port_number s laid o o.switch copy.regs.out_port there h.to) in
          let spelled : frame_to name copy ≡ effect.Frame other_home (datapath_key s.keys (switch_named (net_of s) i.switch)) (port_key s.keys (port_identity i)) (port_key s.keys (port_identity o)) p =
          λ j. effect.Frame (is j) (dp j) (from j) (to j) (h.packet j) in
          let x = crossing_to (sent_from s i) (ToPort (port_identity o)) other_home p in
          ends_so s crossing lists lists (frame_to name copy ∷ []) (crosses s.scene.here x ∷ []) zones
          (subst (λ (e : Effect). IsNumbered s.keys (crosses s.scene.here x) e) (sym spelled) (IsNumbered.frame h.whole), tt) h.hold (λ choices ends. refl)

      -- the row that sends it there
      away_row : RemoteRow (basis_of s numbers) (remote_row copy.regs.dp copy.regs.out_port other_home)
      away_row = by (is_virtual o) refl
        where
          by : (v : Bool) → is_virtual o ≡ v → RemoteRow (basis_of s numbers) (remote_row copy.regs.dp copy.regs.out_port other_home)
          by true virtual =
              let bound = on_bound (at s.scene.config.bindings o.name) other_home (sym (home_is s o virtual) ∙ at_other) in
              RemoteRow.remote o.name o copy.regs.dp copy.regs.out_port other_home (is_exit REMOTE_TABLE lists zones copy h) bound apart refl
          by false leads = RemoteRow.away (as_patch REMOTE_TABLE lists zones copy h) other_home (leads_so REMOTE_TABLE lists zones copy h leads) at_other apart refl

      away_32 : (f : Flow) → Taken s REMOTE_TABLE (RemoteRow (basis_of s numbers)) wired.remote copy f → RemoteRow (basis_of s numbers) f → DoesOps s f.ops zones copy Crosses
      away_32 f t (RemoteRow.remote r other d k name theirs is far e) =
          as_row s REMOTE_TABLE (RemoteRow (basis_of s numbers)) wired.remote zones copy Crosses f (remote_row d k name) e
          (frame_does s zones copy Crosses name (framed name (same_home name other_home (sym (its_home f t r other d k name theirs is e) ∙ at_other))))
      away_32 f t (RemoteRow.away x name leads is far e) =
          as_row s REMOTE_TABLE (RemoteRow (basis_of s numbers)) wired.remote zones copy Crosses f (remote_row x.dp x.key name) e
          (frame_does s zones copy Crosses name (framed name (same_home name other_home (sym (patch_home f t x name leads is e) ∙ at_other))))
      away_32 f t (RemoteRow.spread a d group theirs e) = absurd (not_spread f t a d group e)
      away_32 f t (RemoteRow.stay e) =
          absurd (t.unbeaten (remote_row copy.regs.dp copy.regs.out_port other_home) away_row refl (exit_so REMOTE_TABLE lists zones copy h)
          (subst (λ (g : Flow). g.priority < 100) (sym e) (omega arith)))

      -- it goes there as a frame
      pub crosses_32 : Comes (course_of s) zones (copy ∷ []) Crosses
      crosses_32 =
          row_step s REMOTE_TABLE (RemoteRow (basis_of s numbers)) wired.remote zones copy h.in_table Crosses stay_row (RemoteRow.stay refl) refl (everything_fits copy.regs copy.packet)
          (λ f t. away_32 f t t.row)
