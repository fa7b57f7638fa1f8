-- Two flows of a chassis that may be taken for one packet have equal actions, whatever the packet and the registers.
use Rattle.std.specs.Prelude.{◌≡◌, ℕ, List, Some}
use Rattle.std.proofs.Common.{sym, ap, ◌∙◌, subst, inl, inr}
use Rattle.std.proofs.lemmas.Option.{same_Some}
use Rattle.conn_zones.specs.Zoning.{Zoned}
use Rattle.flow_lowering.proofs.LoweringLaws.{each_is_lowered}
use Rattle.flow_table.specs.Matching.{IsBest}
use Rattle.flow_table.specs.declared.flow.Flow.{Flow}
use Rattle.inet_packet.specs.declared.packet.Packet.{Packet}
use Rattle.inet_packet.specs.declared.regs.Regs.{Regs}
use Rattle.logical_flows.specs.Stages.{stage_table}
use Rattle.logical_flows.specs.declared.stage.Stage.{Stage}
use Rattle.logical_flows.specs.declared.stage.Stage.TheVariants as stage
use Rattle.match_cubes.specs.Points.{members_of}
use Rattle.match_cubes.specs.declared.sets.Sets.{Sets}
use Rattle.net_model.specs.Sights.{roster_of}
use Rattle.net_model.specs.State.{State}
use Rattle.ovn_base.specs.declared.name.Name.{Name}
use Rattle.ovn_base.specs.declared.stages.TheConstants.{ENTRY_TABLE, REMOTE_TABLE, LOCAL_TABLE, LOOPBACK_TABLE, OUTPUT_TABLE}
use Rattle.ovn_base.specs.names.ByName.{at}
use Rattle.physical_flows.specs.Around.AroundFlow.{in_entry, in_remote, in_home, in_back, in_output}
use Rattle.physical_flows.specs.ChassisFlows.{AreExactly, basis_at}
use Rattle.physical_flows.specs.Stages.{Basis, EntryRow, RemoteRow, HomeRow, ReturnRow, OutputRow}
use Rattle.row_laws.specs.AgreeAnywhere.{FlowsAgreeLaw, HoldsStageRows, IsOwnKey}
use Rattle.row_laws.specs.BestRow.{HoldsRows}
use Rattle.row_laws.specs.Numbers.{AreSameMembers}
use Rattle.row_laws.specs.StageLaws.{OfEachStage}
use Rattle.switch_engine.specs.OneWalk.{BestAgree}
use Rattle.tunnel_keys.proofs.HeldKeys.{found}
use Rattle.tunnel_keys.specs.declared.owner.PortKey.{PortKey}
use Rattle.sim_laws.proofs.counts.AroundAgree.{entries, spreads, homes, backs, outputs}
use Rattle.sim_laws.specs.journeys.Tables.{ChassisFlow, AreTablesOf}
use Rattle.sim_laws.specs.journeys.UnderWay.{IsUnderWay}

module _ (stages : OfEachStage FlowsAgreeLaw) (m : State) (zones : Zoned) (more : ℕ) (u : IsUnderWay m zones more) (sets : Sets) (members : AreSameMembers (roster_of m.config.net).members (members_of sets)) (chassis : Name) (flows : List Flow)
    (exact : AreExactly (ChassisFlow m zones.numbers sets chassis) flows) (tables : AreTablesOf m zones.numbers sets chassis flows) where
  abbrev b : Basis
  b = basis_at m zones.numbers chassis

  -- a port that has a key is one of a switch or of a router, and its key is of the datapath that its record names
  owned : (q : Name) (k : PortKey) → at m.keys.ports q ≡ Some k → IsOwnKey m.config.net q k
  owned q k is = elim (u.keys.port_of q k is) [
    | inl port ↦
        let i = found (at m.config.net.switch_ports q) port in
        let own = u.keys.port_has q i.0 i.1 in
        inl (i.0, i.1, sym own.3 ∙ ap (λ (x : PortKey). x.datapath) (same_Some own.0 k (sym own.1 ∙ is)))
    | inr port ↦
        let i = found (at m.config.net.router_ports q) port in
        let own = u.keys.router_port_has q i.0 i.1 in
        inr (i.0, i.1, sym own.3 ∙ ap (λ (x : PortKey). x.datapath) (same_Some own.0 k (sym own.1 ∙ is)))
  ]

  holds : (s : Stage) → HoldsRows m.config.net m.keys sets flows (stage_table s) → HoldsStageRows m.config.net m.keys sets flows s
  holds s h = record { valid = u.valid; holds = h; members = members; owned = owned }

  module _ (regs : Regs) (packet : Packet) (f g : Flow) where
    abbrev Agree : ℕ → Type 0
    Agree table = IsBest flows table regs packet f → IsBest flows table regs packet g → f.ops ≡ g.ops

    -- each stage's table is that of one of a switch's stages
    in_stage : (s : Stage) → Agree (stage_table s)
    in_stage stage.SwitchAdmit = stages.admit m.config.net m.keys sets flows (holds stage.SwitchAdmit tables.stages.admit) regs packet f g
    in_stage stage.SwitchPortSecurity = stages.port_security m.config.net m.keys sets flows (holds stage.SwitchPortSecurity tables.stages.port_security) regs packet f g
    in_stage stage.SwitchTrack = stages.track m.config.net m.keys sets flows (holds stage.SwitchTrack tables.stages.track) regs packet f g
    in_stage stage.SwitchAclIn = stages.acl_in m.config.net m.keys sets flows (holds stage.SwitchAclIn tables.stages.acl_in) regs packet f g
    in_stage stage.SwitchStateIn = stages.state_in m.config.net m.keys sets flows (holds stage.SwitchStateIn tables.stages.state_in) regs packet f g
    in_stage stage.SwitchArp = stages.arp m.config.net m.keys sets flows (holds stage.SwitchArp tables.stages.arp) regs packet f g
    in_stage stage.SwitchLookup = stages.lookup m.config.net m.keys sets flows (holds stage.SwitchLookup tables.stages.lookup) regs packet f g
    in_stage stage.SwitchTrackOut = stages.track_out m.config.net m.keys sets flows (holds stage.SwitchTrackOut tables.stages.track_out) regs packet f g
    in_stage stage.SwitchAclOut = stages.acl_out m.config.net m.keys sets flows (holds stage.SwitchAclOut tables.stages.acl_out) regs packet f g
    in_stage stage.SwitchStateOut = stages.state_out m.config.net m.keys sets flows (holds stage.SwitchStateOut tables.stages.state_out) regs packet f g
    in_stage stage.SwitchSecurityOut = stages.security_out m.config.net m.keys sets flows (holds stage.SwitchSecurityOut tables.stages.security_out) regs packet f g
    in_stage stage.RouterAdmit = stages.admit m.config.net m.keys sets flows (holds stage.SwitchAdmit tables.stages.admit) regs packet f g
    in_stage stage.RouterInput = stages.port_security m.config.net m.keys sets flows (holds stage.SwitchPortSecurity tables.stages.port_security) regs packet f g
    in_stage stage.RouterUndo = stages.track m.config.net m.keys sets flows (holds stage.SwitchTrack tables.stages.track) regs packet f g
    in_stage stage.RouterDnat = stages.acl_in m.config.net m.keys sets flows (holds stage.SwitchAclIn tables.stages.acl_in) regs packet f g
    in_stage stage.RouterOwn = stages.state_in m.config.net m.keys sets flows (holds stage.SwitchStateIn tables.stages.state_in) regs packet f g
    in_stage stage.RouterRoute = stages.arp m.config.net m.keys sets flows (holds stage.SwitchArp tables.stages.arp) regs packet f g
    in_stage stage.RouterNeighbour = stages.lookup m.config.net m.keys sets flows (holds stage.SwitchLookup tables.stages.lookup) regs packet f g
    in_stage stage.RouterFind = stages.track_out m.config.net m.keys sets flows (holds stage.SwitchTrackOut tables.stages.track_out) regs packet f g
    in_stage stage.RouterSnat = stages.acl_out m.config.net m.keys sets flows (holds stage.SwitchAclOut tables.stages.acl_out) regs packet f g

    -- ---- around the pipelines

    at_entry : Agree ENTRY_TABLE
    at_entry first second =
        let row = λ (h : Flow) (best : IsBest flows ENTRY_TABLE regs packet h). (tables.entry h best.matching.in_table).0 best.held in
        ap (λ (h : Flow). h.ops) (entries m zones more u chassis flows ENTRY_TABLE regs packet f g first second (row f first) (row g second))

    at_remote : Agree REMOTE_TABLE
    at_remote first second =
        let row = λ (h : Flow) (best : IsBest flows REMOTE_TABLE regs packet h). (tables.remote h best.matching.in_table).0 best.held in
        ap (λ (h : Flow). h.ops) (spreads m zones more u chassis flows REMOTE_TABLE regs packet f g first second (row f first) (row g second))

    at_home : Agree LOCAL_TABLE
    at_home first second =
        let row = λ (h : Flow) (best : IsBest flows LOCAL_TABLE regs packet h). (tables.home h best.matching.in_table).0 best.held in
        ap (λ (h : Flow). h.ops) (homes m zones more u chassis flows LOCAL_TABLE regs packet f g first second (row f first) (row g second))

    at_back : Agree LOOPBACK_TABLE
    at_back first second =
        let row = λ (h : Flow) (best : IsBest flows LOOPBACK_TABLE regs packet h). (tables.back h best.matching.in_table).0 best.held in
        ap (λ (h : Flow). h.ops) (backs m zones more u chassis flows LOOPBACK_TABLE regs packet f g first second (row f first) (row g second))

    at_output : Agree OUTPUT_TABLE
    at_output first second =
        let row = λ (h : Flow) (best : IsBest flows OUTPUT_TABLE regs packet h). (tables.output h best.matching.in_table).0 best.held in
        ap (λ (h : Flow). h.ops) (outputs m zones more u chassis flows OUTPUT_TABLE regs packet f g first second (row f first) (row g second))

    -- ---- by the table of the first

    in_table : (table other : ℕ) → table ≡ other → Agree other → Agree table
    in_table table other is agree = subst Agree (sym is) agree

    entry_agrees : (table : ℕ) → f.table ≡ table → EntryRow b f → Agree table
    entry_agrees table at' (EntryRow.entry q port dp key zone of is e) = in_table table ENTRY_TABLE (sym at' ∙ ap (λ (h : Flow). h.table) e) at_entry
    entry_agrees table at' (EntryRow.arrival e) = in_table table ENTRY_TABLE (sym at' ∙ ap (λ (h : Flow). h.table) e) at_entry

    remote_agrees : (table : ℕ) → f.table ≡ table → RemoteRow b f → Agree table
    remote_agrees table at' (RemoteRow.remote q port dp key home of bound apart e) = in_table table REMOTE_TABLE (sym at' ∙ ap (λ (h : Flow). h.table) e) at_remote
    remote_agrees table at' (RemoteRow.away x home leads is apart e) = in_table table REMOTE_TABLE (sym at' ∙ ap (λ (h : Flow). h.table) e) at_remote
    remote_agrees table at' (RemoteRow.spread a dp group on e) = in_table table REMOTE_TABLE (sym at' ∙ ap (λ (h : Flow). h.table) e) at_remote
    remote_agrees table at' (RemoteRow.stay e) = in_table table REMOTE_TABLE (sym at' ∙ ap (λ (h : Flow). h.table) e) at_remote

    home_agrees : (table : ℕ) → f.table ≡ table → HomeRow b f → Agree table
    home_agrees table at' (HomeRow.home q port dp key zone of is e) = in_table table LOCAL_TABLE (sym at' ∙ ap (λ (h : Flow). h.table) e) at_home
    home_agrees table at' (HomeRow.passes x leads is e) = in_table table LOCAL_TABLE (sym at' ∙ ap (λ (h : Flow). h.table) e) at_home
    home_agrees table at' (HomeRow.enters x leads is e) = in_table table LOCAL_TABLE (sym at' ∙ ap (λ (h : Flow). h.table) e) at_home
    home_agrees table at' (HomeRow.copies a dp group arrived on e) = in_table table LOCAL_TABLE (sym at' ∙ ap (λ (h : Flow). h.table) e) at_home

    back_agrees : (table : ℕ) → f.table ≡ table → ReturnRow b f → Agree table
    back_agrees table at' (ReturnRow.back q port dp key of e) = in_table table LOOPBACK_TABLE (sym at' ∙ ap (λ (h : Flow). h.table) e) at_back
    back_agrees table at' (ReturnRow.back_in q port dp key of e) = in_table table LOOPBACK_TABLE (sym at' ∙ ap (λ (h : Flow). h.table) e) at_back
    back_agrees table at' (ReturnRow.leave e) = in_table table LOOPBACK_TABLE (sym at' ∙ ap (λ (h : Flow). h.table) e) at_back

    output_agrees : (table : ℕ) → f.table ≡ table → OutputRow b f → Agree table
    output_agrees table at' (OutputRow.output q port dp key of own e) = in_table table OUTPUT_TABLE (sym at' ∙ ap (λ (h : Flow). h.table) e) at_output
    output_agrees table at' (OutputRow.patch x partner leads is e) = in_table table OUTPUT_TABLE (sym at' ∙ ap (λ (h : Flow). h.table) e) at_output
    output_agrees table at' (OutputRow.no_peer x leads is e) = in_table table OUTPUT_TABLE (sym at' ∙ ap (λ (h : Flow). h.table) e) at_output

    agrees : (table : ℕ) → f.table ≡ table → ChassisFlow m zones.numbers sets chassis f → Agree table
    agrees table at' (inl low) = let l = each_is_lowered m.keys sets low.row low.datapath f low.among in in_table table (stage_table low.row.stage) (sym at' ∙ l.in_table) (in_stage low.row.stage)
    agrees table at' (inr (in_entry row)) = entry_agrees table at' row
    agrees table at' (inr (in_remote row)) = remote_agrees table at' row
    agrees table at' (inr (in_home row)) = home_agrees table at' row
    agrees table at' (inr (in_back row)) = back_agrees table at' row
    agrees table at' (inr (in_output row)) = output_agrees table at' row

  pub chassis_agrees : BestAgree flows
  chassis_agrees table regs packet f g first second = agrees regs packet f g table first.matching.in_table ((exact.same f).0 first.held) first second
