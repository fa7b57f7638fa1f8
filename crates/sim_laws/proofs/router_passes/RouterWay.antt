-- Tables 32, 33 and 34: a copy that goes to a port of a router that is at home here stays on the chassis, and leaves by the port.
use Rattle.std.specs.Prelude.{◌≡◌, ◌*◌, ℕ, Bool, true, false, [], ◌∷◌, Option, Some, option_map, bit_and, refl}
use Rattle.std.proofs.Common.{sym, ap, ◌∙◌, subst, arith}
use Rattle.std.proofs.lemmas.Bool.{false≢true}
use Rattle.std.proofs.lemmas.Nat.Bits.{and_pow}
use Rattle.std.proofs.lemmas.Option.{same_Some}
use Rattle.conn_zones.specs.Zoning.{GivenNumbers}
use Rattle.flow_lowering.specs.Registers.{reg_number}
use Rattle.flow_table.specs.declared.flow.Flow.{Flow}
use Rattle.inet_packet.specs.Fits.{CubeFits}
use Rattle.inet_packet.specs.declared.regs.Reg.TheVariants as reg
use Rattle.inet_packet.specs.declared.regs.Regs.{Regs}
use Rattle.logical_flows.specs.declared.stage.Stage.{Stage}
use Rattle.nb_records.specs.Network.{Network}
use Rattle.nb_records.specs.declared.router.RouterPort.{RouterPort}
use Rattle.nb_records.specs.declared.switch.SwitchPort.{SwitchPort}
use Rattle.net_model.specs.Config.{Home, nowhere, on, everywhere, home_if, home_of_router, home_of_router_port, is_here}
use Rattle.net_model.specs.Sights.{is_live_one}
use Rattle.net_model.specs.Trail.{Lists}
use Rattle.net_model.specs.declared.crossing.Group.{Group}
use Rattle.ovn_base.specs.declared.name.Name.{Name}
use Rattle.ovn_base.specs.declared.stages.TheConstants.{REMOTE_TABLE, LOCAL_TABLE, LOOPBACK_TABLE}
use Rattle.ovn_base.specs.names.ByName.{at}
use Rattle.physical_flows.proofs.RowFits.{everything_fits, exit_fits, way_fits, fits_exit, fits_group, fits_return}
use Rattle.physical_flows.specs.Rows.{remote_row, spread_row, stay_row, home_row, pass_row, enter_row, copies_row, return_row, leave_row}
use Rattle.physical_flows.specs.Stages.{Basis, IsPort, PatchPort, IsPatchPort, RemoteRow, HomeRow, ReturnRow, router_patch, members_here, homes_of}
use Rattle.row_laws.specs.Numbers.{IsDatapathKey, IsPortKey}
use Rattle.row_laws.specs.routers.RouterCopies.{RouterCopy, HasWayOut, IsWayOut, router_port_identity, router_roster}
use Rattle.switch_engine.specs.Actions.{gone_on}
use Rattle.switch_engine.specs.Zones.{ZoneLists}
use Rattle.switch_engine.specs.declared.carried.Carried.{Carried}
use Rattle.tunnel_keys.specs.Same.{identity_own}
use Rattle.tunnel_keys.specs.declared.owner.Identity.{Identity}
use Rattle.sim_laws.proofs.GroupNumbers.{no_group}
use Rattle.sim_laws.proofs.Homes.{only_reached}
use Rattle.sim_laws.proofs.passes.Leaving.{dp_within, to_within, from_within, loopback_is}
use Rattle.sim_laws.proofs.passes.LiveNumbers.{port_low}
use Rattle.sim_laws.proofs.passes.RowSteps.{Taken, row_step, row_fits, as_row, go_does, leave_does, forgotten}
use Rattle.sim_laws.proofs.pipelines.Tables.{DoesOps}
use Rattle.sim_laws.specs.passes.Physical.{basis_of}
use Rattle.sim_laws.specs.pipelines.Standing.{Chassis, net_of, course_of}
use Rattle.sim_laws.specs.pipelines.WalkOn.{Reached, Comes}
use Rattle.sim_laws.proofs.router_passes.PatchKeys.{one_kind, is_router_port, switch_port_is, router_port_is}
use Rattle.sim_laws.proofs.router_stages.RouterSteps.{IsNext}
use Rattle.sim_laws.specs.routers.Patches.{IsLaidAround}
use Rattle.sim_laws.specs.routers.RouterStanding.{StandsInRouter}

arrived_is : (regs : Regs) → bit_and regs.flags.0 16 ≡ reg_number reg.Arrived regs * 16
arrived_is regs = and_pow regs.flags.0 4

module _ (s : Chassis) (numbers : GivenNumbers) (around : IsLaidAround s numbers) where
  abbrev net : Network
  net = net_of s

  abbrev b : Basis
  b = basis_of s numbers

  -- the copy is in a router that is at home here, as some stage asks
  module _ (asking : Stage) (c : RouterCopy) (at_home : is_here s.scene.here (home_of_router_port s.scene.config c.port) ≡ true) (out : RouterPort) (to : c.out ≡ Some out) where
    -- its ports have one home
    abbrev home : Home
    home = home_of_router_port s.scene.config out

    module _ (table : ℕ) (lists : Lists) (zones : ZoneLists) (copy : Carried) (h : StandsInRouter s asking table c lists zones copy) where
      pub way_out : IsWayOut net c out
      way_out = subst (HasWayOut net c) to h.at_port.way_out

      -- ---- its numbers

      -- they are those of the port
      pub dp_key : IsDatapathKey s.keys out.router copy.regs.dp
      dp_key = subst (λ a. IsDatapathKey s.keys a copy.regs.dp) (sym way_out.on) h.numbers.on

      pub out_key : IsPortKey s.keys out.router out.name copy.regs.out_port
      out_key =
          subst (λ a. IsPortKey s.keys a out.name copy.regs.out_port) (sym way_out.on) (h.numbers.goes.numbered out.name (
          ap (λ (o : Option Identity). is_live_one o ((router_roster net).live out.name)) way_out.is_port
          ∙ ap (λ (o : Option RouterPort). is_live_one (Some (router_port_identity out)) (option_map router_port_identity o)) way_out.there
          ∙ identity_own (router_port_identity out)))

      pub here_too : is_here s.scene.here home ≡ true
      here_too = ap (λ a. is_here s.scene.here (home_if (home_of_router s.scene.config) (at net.routers a))) way_out.on ∙ at_home

      exit_of : (d k : ℕ) → CubeFits (pass_row d k).cube copy.regs copy.packet → (copy.regs.dp ≡ d) × (copy.regs.out_port ≡ k)
      exit_of d k fits = fits_exit copy.regs copy.packet d k (dp_within copy.regs h.numbers.within) (to_within copy.regs h.numbers.within) fits

      -- no port of a switch has them
      not_switch : (r : Name) (other : SwitchPort) (d k : ℕ) → IsPort b r other d k → copy.regs.dp ≡ d → copy.regs.out_port ≡ k → ⊥
      not_switch r other d k theirs same equal =
          let named : r ≡ out.name = switch_port_is s around.laid numbers out.router out.name copy.regs.dp copy.regs.out_port dp_key out_key r other d k theirs same equal in
          one_kind s around.laid numbers out.name other out (ap (at net.switch_ports) (sym named) ∙ theirs.there) way_out.there

      -- nor a group
      not_group : (d : ℕ) (group : Group) (arrived : Bool) → CubeFits (copies_row d group arrived []).cube copy.regs copy.packet → ⊥
      not_group d group arrived fits =
          let f = fits_group copy.regs copy.packet d group arrived (dp_within copy.regs h.numbers.within) (to_within copy.regs h.numbers.within) fits in
          no_group group copy.regs.out_port copy.regs.out_port (port_low s around.laid out.router out.name copy.regs.out_port out_key) refl f.1

      -- what leads into another datapath and has them has its home
      its_home : (y : PatchPort) → IsPatchPort b y → copy.regs.dp ≡ y.dp → copy.regs.out_port ≡ y.key → y.home ≡ home
      its_home y (IsPatchPort.to_router q port d k theirs other told) same equal =
          absurd (not_switch q port d k theirs (same ∙ ap (λ (x : PatchPort). x.dp) told) (equal ∙ ap (λ (x : PatchPort). x.key) told))
      its_home y (IsPatchPort.of_router q port d k theirs told) same equal =
          let named : q ≡ out.name =
          router_port_is s around.laid numbers out.router out.name copy.regs.dp copy.regs.out_port dp_key out_key q port d k theirs (same ∙ ap (λ (x : PatchPort). x.dp) told) (equal ∙ ap (λ (x : PatchPort). x.key) told) in
          let one : port ≡ out = same_Some port out (sym theirs.there ∙ ap (at net.router_ports) named ∙ way_out.there) in
          ap (λ (x : PatchPort). x.home) told ∙ ap (home_of_router_port s.scene.config) one

      -- which is no other chassis
      not_away : (y : PatchPort) (chassis : Name) → IsPatchPort b y → y.home ≡ on chassis → CubeFits (pass_row y.dp y.key).cube copy.regs copy.packet → chassis ≡ s.scene.here
      not_away y chassis is has fits =
          let e = exit_of y.dp y.key fits in
          only_reached false chassis s.scene.here (ap (is_here s.scene.here) (sym has ∙ its_home y is e.0 e.1) ∙ here_too)

    -- ---- table 32

    module _ (lists : Lists) (zones : ZoneLists) (copy : Carried) (h : StandsInRouter s asking REMOTE_TABLE c lists zones copy) where
      abbrev Remote : Flow → Type 0
      Remote = RemoteRow b

      abbrev Stays : Reached
      Stays = IsNext zones (gone_on LOCAL_TABLE copy)

      on_32 : (f : Flow) → Taken s REMOTE_TABLE Remote around.wired.remote copy f → Remote f → DoesOps s f.ops zones copy Stays
      on_32 f t (RemoteRow.remote r other d k home theirs bound apart e) =
          let fits = exit_of REMOTE_TABLE lists zones copy h d k (row_fits s REMOTE_TABLE Remote around.wired.remote copy f (remote_row d k home) t e) in
          absurd (not_switch REMOTE_TABLE lists zones copy h r other d k theirs fits.0 fits.1)
      on_32 f t (RemoteRow.away x home is has apart e) =
          absurd (apart (not_away REMOTE_TABLE lists zones copy h x home is has (row_fits s REMOTE_TABLE Remote around.wired.remote copy f (remote_row x.dp x.key home) t e)))
      on_32 f t (RemoteRow.spread a d group theirs e) =
          absurd (not_group REMOTE_TABLE lists zones copy h d group false (row_fits s REMOTE_TABLE Remote around.wired.remote copy f (spread_row d group (homes_of b a group)) t e))
      on_32 f t (RemoteRow.stay e) = as_row s REMOTE_TABLE Remote around.wired.remote zones copy Stays f stay_row e (go_does s zones copy Stays LOCAL_TABLE (refl, refl, refl))

      pub stays : Comes (course_of s) zones (copy ∷ []) Stays
      stays = row_step s REMOTE_TABLE Remote around.wired.remote zones copy h.in_table Stays stay_row (RemoteRow.stay refl) refl (everything_fits copy.regs copy.packet) (λ f t. on_32 f t t.row)

    -- ---- table 33

    module _ (lists : Lists) (zones : ZoneLists) (copy : Carried) (h : StandsInRouter s asking LOCAL_TABLE c lists zones copy) (inside : reg_number reg.Arrived copy.regs ≡ 0) where
      abbrev Local : Flow → Type 0
      Local = HomeRow b

      abbrev Enters : Reached
      Enters = IsNext zones (gone_on LOOPBACK_TABLE copy)

      on_33 : (f : Flow) → Taken s LOCAL_TABLE Local around.wired.home copy f → Local f → DoesOps s f.ops zones copy Enters
      on_33 f t (HomeRow.home r other d k zone theirs here e) =
          let fits = exit_of LOCAL_TABLE lists zones copy h d k (row_fits s LOCAL_TABLE Local around.wired.home copy f (home_row d k zone) t e) in
          absurd (not_switch LOCAL_TABLE lists zones copy h r other d k theirs fits.0 fits.1)
      on_33 f t (HomeRow.passes x is has e) =
          as_row s LOCAL_TABLE Local around.wired.home zones copy Enters f (pass_row x.dp x.key) e (go_does s zones copy Enters LOOPBACK_TABLE (refl, refl, refl))
      on_33 f t (HomeRow.enters x is has e) =
          as_row s LOCAL_TABLE Local around.wired.home zones copy Enters f (enter_row x.dp x.key) e (go_does s zones copy Enters LOOPBACK_TABLE (refl, refl, refl))
      on_33 f t (HomeRow.copies a d group arrived theirs e) =
          absurd (not_group LOCAL_TABLE lists zones copy h d group arrived (row_fits s LOCAL_TABLE Local around.wired.home copy f (copies_row d group arrived (members_here b a group arrived)) t e))

      -- the port as the tables have it
      abbrev as_patch : PatchPort
      as_patch = router_patch b out copy.regs.dp copy.regs.out_port

      is_patch : IsPatchPort b as_patch
      is_patch =
          IsPatchPort.of_router out.name out copy.regs.dp copy.regs.out_port
          (is_router_port s around.laid numbers out (way_out LOCAL_TABLE lists zones copy h).there copy.regs.dp copy.regs.out_port (dp_key LOCAL_TABLE lists zones copy h) (out_key LOCAL_TABLE lists zones copy h)) refl

      by_row : (base : Flow) → Local base → base.table ≡ LOCAL_TABLE → CubeFits base.cube copy.regs copy.packet → Comes (course_of s) zones (copy ∷ []) Enters
      by_row base row is fits = row_step s LOCAL_TABLE Local around.wired.home zones copy h.in_table Enters base row is fits (λ f t. on_33 f t t.row)

      -- it is at home on this chassis, or everywhere
      by_home : (k : Home) → home ≡ k → is_here s.scene.here k ≡ true → Comes (course_of s) zones (copy ∷ []) Enters
      by_home nowhere is reached = absurd (false≢true reached)
      by_home (on chassis) is reached =
          by_row (pass_row copy.regs.dp copy.regs.out_port) (HomeRow.passes as_patch is_patch (is ∙ ap (λ (n : Name). on n) (only_reached false chassis s.scene.here reached)) refl) refl
          (exit_fits copy.regs copy.packet copy.regs.dp (dp_within copy.regs h.numbers.within) refl copy.regs.out_port (to_within copy.regs h.numbers.within) refl)
      by_home everywhere is reached =
          let off = arrived_is copy.regs in
          by_row (enter_row copy.regs.dp copy.regs.out_port) (HomeRow.enters as_patch is_patch is refl) refl
          (way_fits copy.regs copy.packet copy.regs.dp (dp_within copy.regs h.numbers.within) refl copy.regs.out_port (to_within copy.regs h.numbers.within) refl (omega (arith, off, inside)))

      pub enters : Comes (course_of s) zones (copy ∷ []) Enters
      enters = by_home home refl (here_too LOCAL_TABLE lists zones copy h)

    -- ---- table 34

    module _ (lists : Lists) (zones : ZoneLists) (copy : Carried) (h : StandsInRouter s asking LOOPBACK_TABLE c lists zones copy) (may : reg_number reg.Loopback copy.regs ≡ 1) where
      abbrev Return : Flow → Type 0
      Return = ReturnRow b

      abbrev pub left : Carried
      left = gone_on 40 (forgotten s zones copy (λ told last copies. Unit {0}))

      abbrev Leaves : Reached
      Leaves = IsNext zones left

      may_return : (d k : ℕ) → CubeFits (return_row d k).cube copy.regs copy.packet → ⊥
      may_return d k fits =
          let f = fits_return copy.regs copy.packet d k (dp_within copy.regs h.numbers.within) (to_within copy.regs h.numbers.within) (from_within copy.regs h.numbers.within) fits in
          let off : bit_and copy.regs.flags.0 1 ≡ 0 = f.3 in
          let is : bit_and copy.regs.flags.0 1 ≡ reg_number reg.Loopback copy.regs = loopback_is copy.regs in
          absurd (omega (arith, may, off, is))

      on_34 : (f : Flow) → Taken s LOOPBACK_TABLE Return around.wired.back copy f → Return f → DoesOps s f.ops zones copy Leaves
      on_34 f t (ReturnRow.back r other d k theirs e) = absurd (may_return d k (row_fits s LOOPBACK_TABLE Return around.wired.back copy f (return_row d k) t e))
      on_34 f t (ReturnRow.back_in r other d k theirs e) = absurd (may_return d k (row_fits s LOOPBACK_TABLE Return around.wired.back copy f (return_row d k) t e))
      on_34 f t (ReturnRow.leave e) = as_row s LOOPBACK_TABLE Return around.wired.back zones copy Leaves f leave_row e (leave_does s zones copy Leaves 40 (refl, refl, refl))

      pub leaves : Comes (course_of s) zones (copy ∷ []) Leaves
      leaves = row_step s LOOPBACK_TABLE Return around.wired.back zones copy h.in_table Leaves leave_row (ReturnRow.leave refl) refl (everything_fits copy.regs copy.packet) (λ f t. on_34 f t t.row)
