-- A copy for a group: a frame to each other chassis that has a member, and then a copy for each member here, one after another.
use Rattle.std.specs.Prelude.{◌≡◌, ◌≤◌, ◌<◌, ◌&&◌, ◌++◌, ◌*◌, ◌^◌, ℕ, Bool, true, false, not, cond, List, [], ◌∷◌, map, filter, Option, Some, None, bit_and, refl}
use Rattle.std.specs.List.{AllZip}
use Rattle.std.specs.Option.{option_map, unwrap_or}
use Rattle.std.proofs.Common.{sym, ap, ◌∙◌, subst, arith, append_assoc, append-nil}
use Rattle.std.proofs.Math.Dec.{eqb as nat_eq}
use Rattle.std.proofs.lemmas.Bool.{false≢true}
use Rattle.std.proofs.lemmas.Bool.Decides.{Decides-eqb}
use Rattle.std.proofs.lemmas.Nat.Bits.{and_pow}
use Rattle.conn_table.specs.Picks.{Choice}
use Rattle.conn_zones.specs.Zoning.{GivenNumbers}
use Rattle.flow_lowering.specs.Registers.{reg_number, reg_max, HasRegistersInRange}
use Rattle.flow_table.specs.declared.flow.Flow.{Flow}
use Rattle.flow_table.specs.declared.flow.Member.{Member}
use Rattle.inet_packet.specs.Fits.{CubeFits}
use Rattle.inet_packet.specs.Whole.{IsWhole}
use Rattle.inet_packet.specs.declared.packet.Packet.{Packet}
use Rattle.inet_packet.specs.declared.regs.Reg.{Reg}
use Rattle.inet_packet.specs.declared.regs.Reg.TheVariants as reg
use Rattle.inet_packet.specs.declared.regs.Regs.{Regs}
use Rattle.nb_records.specs.Switches.{is_virtual}
use Rattle.nb_records.specs.declared.switch.SwitchPort.{SwitchPort}
use Rattle.net_model.specs.Config.{home_of, is_here, port_identity}
use Rattle.net_model.specs.Entry.{Onward}
use Rattle.net_model.specs.Exit.{leave}
use Rattle.net_model.specs.Sights.{roster_of}
use Rattle.net_model.specs.Spread.{crossing_to, cross_to_each, other_homes, local_members, copy_to_each, spread}
use Rattle.net_model.specs.Targets.{members, is_other}
use Rattle.net_model.specs.Trail.{Trail, Lists, End, crosses, of_port}
use Rattle.net_model.specs.Visit.{switch_named}
use Rattle.net_model.specs.declared.crossing.Aim.TheVariants.{ToGroup}
use Rattle.net_model.specs.declared.crossing.Crossing.{Crossing}
use Rattle.net_model.specs.declared.crossing.Group.{Group}
use Rattle.ovn_base.specs.declared.name.Name.{Name}
use Rattle.ovn_base.specs.declared.stages.TheConstants.{REMOTE_TABLE, LOCAL_TABLE}
use Rattle.ovn_base.specs.lists.Among.{Among, here, there}
use Rattle.ovn_base.specs.names.ByName.{at}
use Rattle.ovn_base.specs.names.SameName.{same_name, bytes_decides}
use Rattle.physical_flows.proofs.RowFits.{everything_fits, group_fits, fits_exit, fits_way, fits_group}
use Rattle.physical_flows.specs.GroupKeys.{group_key}
use Rattle.physical_flows.specs.Homes.{is_reached_at}
use Rattle.physical_flows.specs.Rows.{on_exit, on_way, on_group, remote_row, spread_row, stay_row, home_row, pass_row, enter_row, copies_row}
use Rattle.physical_flows.specs.Stages.{IsDatapath, IsPort, PatchPort, IsPatchPort, RemoteRow, HomeRow, member_of, members_here, homes_of}
use Rattle.row_laws.proofs.records.StandsFor.{port_stands}
use Rattle.row_laws.proofs.records.ValidPorts.{on_switch}
use Rattle.row_laws.specs.Numbers.{IsDatapathKey, IsPortKey, NumberStandsFor}
use Rattle.switch_engine.specs.Actions.{frame_to, gone_on, copy_for, copies_for}
use Rattle.switch_engine.specs.Outcome.{picks_in}
use Rattle.switch_engine.specs.Zones.{ZoneLists}
use Rattle.switch_engine.specs.declared.carried.Carried.{Carried}
use Rattle.switch_engine.specs.declared.effect.Effect.{Effect}
use Rattle.switch_engine.specs.declared.effect.Effect.TheVariants as effect
use Rattle.tunnel_keys.proofs.HeldKeys.{found}
use Rattle.tunnel_keys.specs.declared.owner.Identity.{Identity}
use Rattle.tunnel_keys.specs.declared.owner.PortKey.{PortKey}
use Rattle.sim_laws.proofs.Homes.{reached_bound, reached_here}
use Rattle.sim_laws.proofs.passes.Members.{same_tests, home_is, member_is}
use Rattle.sim_laws.proofs.GroupNumbers.{no_group, one_group, one_flag, group_short}
use Rattle.sim_laws.proofs.passes.Ends.{ends_none, ends_then}
use Rattle.sim_laws.proofs.passes.Leaving.{dp_within, to_within, leaves_by}
use Rattle.sim_laws.proofs.passes.LiveNumbers.{hold, one_datapath, one_port, same_port_key, port_low, port_live, switch_key, port_number, datapath_of, port_of, is_datapath, patch_low}
use Rattle.sim_laws.proofs.passes.RowSteps.{Taken, row_step, row_fits, as_row, spread_does, copies_does}
use Rattle.sim_laws.proofs.pipelines.Pieces.{comes_then}
use Rattle.sim_laws.proofs.pipelines.Tables.{DoesOps}
use Rattle.sim_laws.proofs.pipelines.WalkOn.{comes_on}
use Rattle.sim_laws.specs.Effects.{datapath_key, port_key}
use Rattle.sim_laws.specs.Naming.{IsNumbered}
use Rattle.sim_laws.specs.passes.Onward.{LeadsOn}
use Rattle.sim_laws.specs.passes.Physical.{basis_of, IsWired}
use Rattle.sim_laws.specs.passes.Sending.{sent_from}
use Rattle.sim_laws.specs.passes.ToEnd.{Never, EndsAs}
use Rattle.sim_laws.specs.pipelines.Egress.{EgressLaw}
use Rattle.sim_laws.specs.pipelines.HeldLists.{HoldLists}
use Rattle.sim_laws.specs.pipelines.Pieces.{Piece, trail_with, goes_on, ComesTo}
use Rattle.sim_laws.specs.pipelines.Standing.{Chassis, net_of, course_of, IsLaidOut}
use Rattle.sim_laws.specs.pipelines.WalkOn.{Reached, Comes}

-- registers with another port and zone of exit
aimed_within : (k z : ℕ) (regs : Regs) → HasRegistersInRange regs → k ≤ 0xffff → z ≤ 0xffff → HasRegistersInRange (record regs { out_port = k; z_out = z })
aimed_within k z regs h few small = record { within = each }
  where
    each : (r : Reg) → reg_number r (record regs { out_port = k; z_out = z }) ≤ reg_max r
    each reg.Dp = h.within reg.Dp
    each reg.InPort = h.within reg.InPort
    each reg.OutPort = few
    each reg.Next = h.within reg.Next
    each reg.ZIn = h.within reg.ZIn
    each reg.ZOut = small
    each reg.ZDnat = h.within reg.ZDnat
    each reg.ZSnat = h.within reg.ZSnat
    each reg.State = h.within reg.State
    each reg.Verdict = h.within reg.Verdict
    each reg.Tier = h.within reg.Tier
    each reg.Loopback = h.within reg.Loopback
    each reg.Tracked = h.within reg.Tracked
    each reg.Blocked = h.within reg.Blocked
    each reg.Own = h.within reg.Own
    each reg.Arrived = h.within reg.Arrived

module _ (s : Chassis) (laid : IsLaidOut s) (numbers : GivenNumbers) (wired : IsWired s numbers) (law : EgressLaw) (onward : Onward) (passes : ℕ) (switch : Name) (leads : LeadsOn s onward switch passes) (came : Identity) (p : Packet) where
  -- ---- a copy for each member here

  -- the key of a port, as rows of groups have it
  abbrev key_in : SwitchPort → ℕ
  key_in q = (member_of (basis_of s numbers) q.name).key

  -- the port is reached here, by a packet that came out of a tunnel or not
  abbrev pub here_by : Bool → SwitchPort → Bool
  here_by arrived q = is_reached_at arrived s.scene.here (home_of s.scene.config q)

  pub key_is : (q : SwitchPort) → at (net_of s).switch_ports q.name ≡ Some q → IsPortKey s.keys q.switch q.name (key_in q)
  key_is q there' =
      let k = port_live s laid q.name q there' in
      (record { birth = q.birth; datapath = q.switch; key = k.0 }, k.1, refl, sym (ap (λ (o : Option PortKey). unwrap_or (option_map (λ (x : PortKey). x.key) o) 0) k.1))

  zone_is : (arrived : Bool) (q : SwitchPort) → here_by arrived q ≡ true → is_virtual q ≡ true → s.number (of_port q.name) ≡ Some (member_of (basis_of s numbers) q.name).zone
  zone_is arrived q is virtual =
      let bound = reached_bound arrived s.scene.here (at s.scene.config.bindings q.name) (ap (is_reached_at arrived s.scene.here) (sym (home_is s q virtual)) ∙ is) in
      let z = found (s.number (of_port q.name)) (wired.zoned q.name bound) in
      z.1 ∙ ap (λ (n : ℕ). Some n) (sym (ap (λ (o : Option ℕ). unwrap_or o 0) (sym (wired.number q.name) ∙ z.1)))

  zone_small : (q : SwitchPort) → (member_of (basis_of s numbers) q.name).zone ≤ 0xffff
  zone_small q = subst (λ (o : Option ℕ). unwrap_or o 0 ≤ 0xffff) (wired.number q.name) (by (s.number (of_port q.name)) refl)
    where
      by : (o : Option ℕ) → s.number (of_port q.name) ≡ o → unwrap_or o 0 ≤ 0xffff
      by None is = omega arith
      by (Some z) is = wired.in_range q.name z is

  module _ (arrived : Bool) (copy : Carried) (passed : copy.passes ≡ passes) (packet : copy.packet ≡ p) (whole : IsWhole p) (on : IsDatapathKey s.keys switch copy.regs.dp)
      (came_in : NumberStandsFor s.keys (roster_of (net_of s)) switch (Some came) copy.regs.in_port) (within : HasRegistersInRange copy.regs) (keep : SwitchPort → Bool) where
    -- a port of the switch that is kept where it is at home here and another than that of entry
    pub record IsMember (q : SwitchPort) : Type 0 where
      pub there_is : at (net_of s).switch_ports q.name ≡ Some q
      pub on_it : q.switch ≡ switch
      pub keeps : keep q ≡ (here_by arrived q && not (nat_eq (key_in q) copy.regs.in_port))

    abbrev those : List SwitchPort → List Member
    those qs = map (λ (q : SwitchPort). member_of (basis_of s numbers) q.name) qs

    abbrev here_of : List SwitchPort → List SwitchPort
    here_of qs = filter (here_by arrived) qs

    abbrev leave_by : SwitchPort → Trail → Packet → Trail
    leave_by q t r = leave onward s.scene came q t r

    abbrev Copies : List Carried → List SwitchPort → Lists → ZoneLists → Type 0
    Copies copies qs lists zones = Comes (course_of s) zones copies (EndsAs s (λ t. copy_to_each leave_by qs t p) lists)

    -- the copy for a member leaves by it
    own_copy : (q : SwitchPort) → IsMember q → here_by arrived q ≡ true → nat_eq (key_in q) copy.regs.in_port ≡ false → (lists : Lists) (zones : ZoneLists) → HoldLists s.number zones lists
        → Comes (course_of s) zones (copy_for copy (member_of (basis_of s numbers) q.name) ∷ []) (EndsAs s (λ t. leave onward s.scene came q t p) lists)
    own_copy q m at_home apart lists zones hold' =
        let member : Member = member_of (basis_of s numbers) q.name in
        let key = key_is q m.there_is in
        let few : member.key < 2 ^ 15 = port_low s laid q.switch q.name member.key key in
        leaves_by s laid numbers wired law onward passes came q m.there_is (λ kind. leads.goes q m.there_is m.on_it kind (reached_here arrived s.scene.here (home_of s.scene.config q) at_home)) p lists zones (copy_for copy member) (record {
          in_table = refl;
          packet = packet;
          whole = whole;
          on = subst (λ (a : Name). IsDatapathKey s.keys a copy.regs.dp) (sym m.on_it) on;
          came_in = subst (λ (a : Name). NumberStandsFor s.keys (roster_of (net_of s)) a (Some came) copy.regs.in_port) (sym m.on_it) came_in;
          to = key;
          within = aimed_within member.key member.zone copy.regs within (omega (arith, few)) (zone_small q);
          zone = zone_is arrived q at_home;
          hold = hold';
        }) passed (λ same. absurd (false≢true (sym apart ∙ (Decides-eqb (key_in q) copy.regs.in_port).1 (sym same))))

    one_more : (q : SwitchPort) (qs : List SwitchPort) → IsMember q → ((lists : Lists) (zones : ZoneLists) → HoldLists s.number zones lists → Copies (copies_for copy (those (here_of qs))) (filter keep qs) lists zones)
        → (w v : Bool) → here_by arrived q ≡ w → nat_eq (key_in q) copy.regs.in_port ≡ v → (lists : Lists) (zones : ZoneLists) → HoldLists s.number zones lists
        → Copies (copies_for copy (those (cond w (q ∷ here_of qs) (here_of qs)))) (cond (w && not v) (q ∷ filter keep qs) (filter keep qs)) lists zones
    one_more q qs m rest false v at_home entered lists zones hold' = rest lists zones hold'
    one_more q qs m rest true true at_home entered lists zones hold' =
        let kept : List Member = filter (λ (member : Member). not (nat_eq member.key copy.regs.in_port)) (those (here_of qs)) in
        subst (λ v. Copies (map (copy_for copy) (cond (not v) (member_of (basis_of s numbers) q.name ∷ kept) kept)) (filter keep qs) lists zones) (sym entered) (rest lists zones hold')
    one_more q qs m rest true false at_home entered lists zones hold' =
        let kept : List Member = filter (λ (member : Member). not (nat_eq member.key copy.regs.in_port)) (those (here_of qs)) in
        subst (λ v. Copies (map (copy_for copy) (cond (not v) (member_of (basis_of s numbers) q.name ∷ kept) kept)) (q ∷ filter keep qs) lists zones) (sym entered)
        (ends_then s (λ t. leave_by q t p) (λ t. copy_to_each leave_by (filter keep qs) t p) lists zones (copy_for copy (member_of (basis_of s numbers) q.name)) (copies_for copy (those (here_of qs)))
        (own_copy q m at_home entered lists zones hold') (λ after last h. rest after last h))

    -- each member here has one, but for the port of entry, and goes its whole way before the next
    pub copies_go : (qs : List SwitchPort) → ((q : SwitchPort) → Among q qs → IsMember q) → (lists : Lists) (zones : ZoneLists) → HoldLists s.number zones lists
        → Copies (copies_for copy (those (here_of qs))) (filter keep qs) lists zones
    copies_go [] each lists zones hold' = ends_none s lists zones hold'
    copies_go (q ∷ qs) each lists zones hold' =
        subst (λ k. Copies (copies_for copy (those (cond (here_by arrived q) (q ∷ here_of qs) (here_of qs)))) (cond k (q ∷ filter keep qs) (filter keep qs)) lists zones) (sym (each q here).keeps)
        (one_more q qs (each q here) (copies_go qs (λ r m. each r (there m))) (here_by arrived q) (nat_eq (key_in q) copy.regs.in_port) refl refl lists zones hold')

  -- ---- table 33

  module _ (g : Group) (copy : Carried) (on : IsDatapath (basis_of s numbers) switch copy.regs.dp) (to : copy.regs.out_port ≡ group_key g) (within : HasRegistersInRange copy.regs) where
    -- a group's number is not a port's
    not_port : (r : Name) (other : SwitchPort) (d k : ℕ) → IsPort (basis_of s numbers) r other d k → CubeFits (on_exit d k) copy.regs copy.packet → ⊥
    not_port r other d k theirs fits =
        let f = fits_exit copy.regs copy.packet d k (dp_within copy.regs within) (to_within copy.regs within) fits in
        no_group g k copy.regs.out_port (port_low s laid other.switch r k (port_of s laid numbers r other d k theirs)) f.1 to

    not_patch : (x : PatchPort) → IsPatchPort (basis_of s numbers) x → CubeFits (on_exit x.dp x.key) copy.regs copy.packet → ⊥
    not_patch x theirs fits =
        let f = fits_exit copy.regs copy.packet x.dp x.key (dp_within copy.regs within) (to_within copy.regs within) fits in
        no_group g x.key copy.regs.out_port (patch_low s laid numbers x theirs) f.1 to

    not_way : (x : PatchPort) → IsPatchPort (basis_of s numbers) x → CubeFits (on_way x.dp x.key) copy.regs copy.packet → ⊥
    not_way x theirs fits =
        let f = fits_way copy.regs copy.packet x.dp x.key (dp_within copy.regs within) (to_within copy.regs within) fits in
        no_group g x.key copy.regs.out_port (patch_low s laid numbers x theirs) f.1 to

    -- a row for a group is that of this one
    its_group : (a : Name) (d : ℕ) (also : Group) (arrived : Bool) → IsDatapath (basis_of s numbers) a d → CubeFits (on_group d also arrived) copy.regs copy.packet
        → (switch ≡ a) × (g ≡ also) × (bit_and copy.regs.flags.0 16 ≡ cond arrived 16 0)
    its_group a d also arrived theirs fits =
        let f = fits_group copy.regs copy.packet d also arrived (dp_within copy.regs within) (to_within copy.regs within) fits in
        (one_datapath s laid switch a d (subst (IsDatapathKey s.keys switch) f.0 (datapath_of s laid numbers switch copy.regs.dp on)) (datapath_of s laid numbers a d theirs), one_group g also (sym to ∙ f.1), f.2)

    module _ (arrived : Bool) (word : bit_and copy.regs.flags.0 16 ≡ cond arrived 16 0) (zones : ZoneLists) (in_table : copy.table ≡ LOCAL_TABLE) where
      -- the copies that are made
      abbrev Made : Reached
      Made told after left = (told ≡ []) × (after ≡ zones) × (left ≡ copies_for copy (members_here (basis_of s numbers) switch g arrived))

      made_33 : (f : Flow) → Taken s LOCAL_TABLE (HomeRow (basis_of s numbers)) wired.home copy f → HomeRow (basis_of s numbers) f → DoesOps s f.ops zones copy Made
      made_33 f t (HomeRow.home r other d k zone theirs bound e) =
          absurd (not_port r other d k theirs (row_fits s LOCAL_TABLE (HomeRow (basis_of s numbers)) wired.home copy f (home_row d k zone) t e))
      made_33 f t (HomeRow.passes x theirs is e) = absurd (not_patch x theirs (row_fits s LOCAL_TABLE (HomeRow (basis_of s numbers)) wired.home copy f (pass_row x.dp x.key) t e))
      made_33 f t (HomeRow.enters x theirs is e) = absurd (not_way x theirs (row_fits s LOCAL_TABLE (HomeRow (basis_of s numbers)) wired.home copy f (enter_row x.dp x.key) t e))
      made_33 f t (HomeRow.copies a d also came_out theirs e) =
          let row = copies_row d also came_out (members_here (basis_of s numbers) a also came_out) in
          let same = its_group a d also came_out theirs (row_fits s LOCAL_TABLE (HomeRow (basis_of s numbers)) wired.home copy f row t e) in
          let flag : came_out ≡ arrived = one_flag came_out arrived (sym same.2 ∙ word) in
          let copies : copies_for copy (members_here (basis_of s numbers) a also came_out) ≡ copies_for copy (members_here (basis_of s numbers) switch g arrived) =
          λ j. copies_for copy (members_here (basis_of s numbers) (sym same.0 j) (sym same.1 j) (flag j)) in
          as_row s LOCAL_TABLE (HomeRow (basis_of s numbers)) wired.home zones copy Made f row e (copies_does s zones copy Made (members_here (basis_of s numbers) a also came_out) (refl, refl, copies))

      -- and then what becomes of them
      pub group_33 : (Then : Reached) → Comes (course_of s) zones (copies_for copy (members_here (basis_of s numbers) switch g arrived)) Then → Comes (course_of s) zones (copy ∷ []) Then
      group_33 Then rest =
          comes_on (course_of s) zones (copy ∷ []) Made Then
          (row_step s LOCAL_TABLE (HomeRow (basis_of s numbers)) wired.home zones copy in_table Made (copies_row copy.regs.dp g arrived (members_here (basis_of s numbers) switch g arrived))
          (HomeRow.copies switch copy.regs.dp g arrived on refl) refl
          (group_fits copy.regs copy.packet copy.regs.dp (dp_within copy.regs within) refl g arrived (group_short g) to word) (λ f t. made_33 f t t.row))
          (λ told middle left so.
          subst (λ (l : List Effect). Comes (course_of s) middle left (λ more last copies. Then (l ++ more) last copies)) (sym so.0)
          (subst (λ (z : ZoneLists). Comes (course_of s) z left Then) (sym so.1) (subst (λ (l : List Carried). Comes (course_of s) zones l Then) (sym so.2) rest)))

-- ---- table 32

module _ (s : Chassis) (laid : IsLaidOut s) (numbers : GivenNumbers) (wired : IsWired s numbers) (law : EgressLaw) (onward : Onward) (passes : ℕ) (i : SwitchPort) (i_there : at (net_of s).switch_ports i.name ≡ Some i)
    (leads : LeadsOn s onward i.switch passes) (g : Group) (p : Packet) where
  abbrev others : List Name
  others = other_homes s.scene.config s.scene.here (members (net_of s) i.switch g)

  abbrev crossing : Name → Crossing
  crossing home = crossing_to (sent_from s i) (ToGroup g) home p

  abbrev end_of : Name → End
  end_of home = crosses s.scene.here (crossing home)

  -- the packet crosses to each
  crossed : (homes : List Name) (lists : Lists) (choices : List Choice) (ends : List End)
      → cross_to_each s.scene.here (sent_from s i) g p homes (trail_with lists choices ends) ≡ trail_with lists choices (ends ++ map end_of homes)
  crossed [] lists choices ends = ap (trail_with lists choices) (sym (append-nil ends))
  crossed (home ∷ homes) lists choices ends = crossed homes lists choices (ends ++ end_of home ∷ []) ∙ ap (trail_with lists choices) (append_assoc ends (end_of home ∷ []) (map end_of homes))

  module _ (lists : Lists) (zones : ZoneLists) (copy : Carried) (passed : copy.passes ≡ passes) (in_table : copy.table ≡ REMOTE_TABLE) (packet : copy.packet ≡ p) (whole : IsWhole p) (on : IsDatapathKey s.keys i.switch copy.regs.dp)
      (entered : IsPortKey s.keys i.switch i.name copy.regs.in_port) (to : copy.regs.out_port ≡ group_key g) (arrived : reg_number reg.Arrived copy.regs ≡ 0) (within : HasRegistersInRange copy.regs) (hold' : HoldLists s.number zones lists) where
    on_it : IsDatapath (basis_of s numbers) i.switch copy.regs.dp
    on_it = is_datapath s laid numbers i.name i i_there copy.regs.dp on

    word : bit_and copy.regs.flags.0 16 ≡ 0
    word = and_pow copy.regs.flags.0 4 ∙ ap (λ n. n * 2 ^ 4) arrived

    -- no frame tells of a choice
    no_picks : (homes : List Name) → picks_in (map (λ home. frame_to home copy) homes) ≡ []
    no_picks [] = refl
    no_picks (home ∷ homes) = no_picks homes

    -- each spells its crossing
    framed : (home : Name) → IsNumbered s.keys (end_of home) (frame_to home copy)
    framed home =
        let w = on_switch (net_of s) laid.valid i.name i i_there in
        let dp : copy.regs.dp ≡ datapath_key s.keys (switch_named (net_of s) i.switch) = sym (switch_key s laid i.switch copy.regs.dp w.0 w.1 on) in
        let from : copy.regs.in_port ≡ port_key s.keys (port_identity i) = sym (port_number s laid i i.switch copy.regs.in_port i_there entered) in
        let spelled : frame_to home copy ≡ effect.Frame home (datapath_key s.keys (switch_named (net_of s) i.switch)) (port_key s.keys (port_identity i)) (group_key g) p =
        λ j. effect.Frame home (dp j) (from j) (to j) (packet j) in
        subst (λ (e : Effect). IsNumbered s.keys (end_of home) e) (sym spelled) (IsNumbered.frame whole)

    all_framed : (homes : List Name) → AllZip (IsNumbered s.keys) (map end_of homes) (map (λ home. frame_to home copy) homes)
    all_framed [] = tt
    all_framed (home ∷ homes) = (framed home, all_framed homes)

    -- what is left is the copy, here
    abbrev Here : Lists → Packet → ZoneLists → Carried → Type 0
    Here after q last left = (after ≡ lists) × (last ≡ zones) × (left ≡ gone_on LOCAL_TABLE copy)

    abbrev frames : Piece Packet
    frames rest t = rest (cross_to_each s.scene.here (sent_from s i) g p others t) p

    abbrev Framed : Reached
    Framed = ComesTo s frames lists Here

    framed_so : (homes : List Name) → homes ≡ others → Framed (map (λ home. frame_to home copy) homes) zones (gone_on LOCAL_TABLE copy ∷ [])
    framed_so homes are = record {
      own = map end_of homes;
      numbered = all_framed homes;
      landing = goes_on lists p;
      is = λ rest choices ends.
          ap (λ l. frames rest (trail_with lists (l ++ choices) ends)) (no_picks homes)
          ∙ ap (λ t. rest t p) (ap (λ hs. cross_to_each s.scene.here (sent_from s i) g p hs (trail_with lists choices ends)) (sym are) ∙ crossed homes lists choices ends);
      lands = (gone_on LOCAL_TABLE copy, refl, (refl, refl, refl));
    }

    out_32 : (f : Flow) → Taken s REMOTE_TABLE (RemoteRow (basis_of s numbers)) wired.remote copy f → RemoteRow (basis_of s numbers) f → DoesOps s f.ops zones copy Framed
    out_32 f t (RemoteRow.remote r other d k home theirs bound apart e) =
        absurd (not_port s laid numbers wired law onward passes i.switch leads (port_identity i) p g copy on_it to within r other d k theirs
        (row_fits s REMOTE_TABLE (RemoteRow (basis_of s numbers)) wired.remote copy f (remote_row d k home) t e))
    out_32 f t (RemoteRow.away x home theirs is apart e) =
        absurd (not_patch s laid numbers wired law onward passes i.switch leads (port_identity i) p g copy on_it to within x theirs
        (row_fits s REMOTE_TABLE (RemoteRow (basis_of s numbers)) wired.remote copy f (remote_row x.dp x.key home) t e))
    out_32 f t (RemoteRow.spread a d also theirs e) =
        let row = spread_row d also (homes_of (basis_of s numbers) a also) in
        let same = its_group s laid numbers wired law onward passes i.switch leads (port_identity i) p g copy on_it to within a d also false theirs (row_fits s REMOTE_TABLE (RemoteRow (basis_of s numbers)) wired.remote copy f row t e) in
        let are : homes_of (basis_of s numbers) a also ≡ others = λ j. homes_of (basis_of s numbers) (sym same.0 j) (sym same.1 j) in
        as_row s REMOTE_TABLE (RemoteRow (basis_of s numbers)) wired.remote zones copy Framed f row e
        (spread_does s zones copy Framed (homes_of (basis_of s numbers) a also) (framed_so (homes_of (basis_of s numbers) a also) are))
    out_32 f t (RemoteRow.stay e) =
        absurd (t.unbeaten (spread_row copy.regs.dp g (homes_of (basis_of s numbers) i.switch g)) (RemoteRow.spread i.switch copy.regs.dp g on_it refl) refl
        (group_fits copy.regs copy.packet copy.regs.dp (dp_within copy.regs within) refl g false (group_short g) to word)
        (subst (λ (h : Flow). h.priority < 100) (sym e) (omega arith)))

    -- ---- here

    abbrev keep : SwitchPort → Bool
    keep q = is_other i q && is_here s.scene.here (home_of s.scene.config q)

    abbrev next : Carried
    next = gone_on LOCAL_TABLE copy

    abbrev came_in : NumberStandsFor s.keys (roster_of (net_of s)) i.switch (Some (port_identity i)) copy.regs.in_port
    came_in = port_stands (net_of s) s.keys laid.valid (hold s laid) i i_there copy.regs.in_port entered

    abbrev key : SwitchPort → ℕ
    key q = (member_of (basis_of s numbers) q.name).key

    -- a member has the key of the port of entry where it is that port
    entry_is : (q : SwitchPort) → at (net_of s).switch_ports q.name ≡ Some q → q.switch ≡ i.switch → nat_eq (key q) copy.regs.in_port ≡ same_name q.name i.name
    entry_is q there' on_switch' =
        let own = key_is s laid numbers wired law onward passes i.switch leads (port_identity i) p q there' in
        same_tests (nat_eq (key q) copy.regs.in_port) (same_name q.name i.name)
        (λ equal.
        (bytes_decides q.name i.name).1 (one_port s laid i.switch q.name i.name copy.regs.in_port
        (subst (IsPortKey s.keys i.switch q.name) ((Decides-eqb (key q) copy.regs.in_port).0 equal) (subst (λ a. IsPortKey s.keys a q.name (key q)) on_switch' own)) entered))
        (λ named.
        (Decides-eqb (key q) copy.regs.in_port).1 (same_port_key s laid i.switch i.switch i.name (key q) copy.regs.in_port
        (subst (λ n. IsPortKey s.keys i.switch n (key q)) ((bytes_decides q.name i.name).0 named) (subst (λ a. IsPortKey s.keys a q.name (key q)) on_switch' own)) entered))

    and_turned : (x y : Bool) → (x && y) ≡ (y && x)
    and_turned true true = refl
    and_turned true false = refl
    and_turned false true = refl
    and_turned false false = refl

    member : (q : SwitchPort) → Among q (members (net_of s) i.switch g) → IsMember s laid numbers wired law onward passes i.switch leads (port_identity i) p false next passed packet whole on came_in within keep q
    member q m =
        let e = member_is s laid i.switch g q m in
        record {
          there_is = e.there;
          on_it = e.on;
          keeps = (λ j. not (sym (entry_is q e.there e.on) j) && is_here s.scene.here (home_of s.scene.config q)) ∙ and_turned (not (nat_eq (key q) copy.regs.in_port)) (is_here s.scene.here (home_of s.scene.config q));
        }

    copies_here : Comes (course_of s) zones (next ∷ []) (EndsAs s (λ t. copy_to_each (leave onward s.scene (port_identity i)) (local_members s.scene i (members (net_of s) i.switch g)) t p) lists)
    copies_here =
        let Then = EndsAs s (λ t. copy_to_each (leave onward s.scene (port_identity i)) (local_members s.scene i (members (net_of s) i.switch g)) t p) lists in
        group_33 s laid numbers wired law onward passes i.switch leads (port_identity i) p g next on_it to within false word zones refl Then
        (copies_go s laid numbers wired law onward passes i.switch leads (port_identity i) p false next passed packet whole on came_in within keep (members (net_of s) i.switch g) member lists zones hold')

    -- first the other chassis, and then the members here
    pub spreads : Comes (course_of s) zones (copy ∷ []) (EndsAs s (λ t. spread onward s.scene (sent_from s i) g (members (net_of s) i.switch g) t p) lists)
    spreads =
        let way : Lists → Reached = λ l. EndsAs s (λ t. copy_to_each (leave onward s.scene (port_identity i)) (local_members s.scene i (members (net_of s) i.switch g)) t p) l in
        comes_then s frames (λ q rest t. copy_to_each (leave onward s.scene (port_identity i)) (local_members s.scene i (members (net_of s) i.switch g)) t p) lists Here Never zones (copy ∷ [])
        (row_step s REMOTE_TABLE (RemoteRow (basis_of s numbers)) wired.remote zones copy in_table Framed stay_row (RemoteRow.stay refl) refl (everything_fits copy.regs copy.packet) (λ f t. out_32 f t t.row))
        (λ after q last left is.
        subst (λ (l : Lists). Comes (course_of s) last (left ∷ []) (way l)) (sym is.0)
        (subst (λ (z : ZoneLists). Comes (course_of s) z (left ∷ []) (way lists)) (sym is.1) (subst (λ (c : Carried). Comes (course_of s) zones (c ∷ []) (way lists)) (sym is.2) copies_here)))
