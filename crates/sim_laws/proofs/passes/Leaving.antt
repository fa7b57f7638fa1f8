-- From table 34 on: a copy for a port at home here leaves by it, but doesn't go back to the port of entry, unless it may.
use Rattle.std.specs.Prelude.{◌≡◌, ◌≤◌, ◌<◌, ◌*◌, ◌^◌, ℕ, true, false, [], ◌∷◌, Some, bit_and, refl}
use Rattle.std.specs.Int.{bit_at}
use Rattle.std.proofs.Common.{sym, ap, ◌∙◌, subst, arith}
use Rattle.std.proofs.lemmas.Bool.{false≢true}
use Rattle.std.proofs.lemmas.Nat.Bits.{and_pow}
use Rattle.conn_zones.specs.Zoning.{GivenNumbers}
use Rattle.flow_lowering.specs.Registers.{reg_number, HasRegistersInRange}
use Rattle.flow_table.specs.declared.flow.Cause.TheVariants as cause
use Rattle.flow_table.specs.declared.flow.Flow.{Flow}
use Rattle.inet_packet.specs.Fits.{CubeFits}
use Rattle.inet_packet.specs.Whole.{IsWhole}
use Rattle.inet_packet.specs.declared.packet.Packet.{Packet}
use Rattle.inet_packet.specs.declared.regs.Reg.TheVariants as reg
use Rattle.inet_packet.specs.declared.regs.Regs.{Regs}
use Rattle.logical_flows.specs.Stages.{stage_table}
use Rattle.logical_flows.specs.declared.stage.Pipeline.TheVariants.{Egress}
use Rattle.logical_flows.specs.declared.stage.Stage.TheVariants.{SwitchTrackOut}
use Rattle.nb_records.specs.Switches.{is_virtual, is_virtual_kind}
use Rattle.nb_records.specs.declared.switch.PortKind.{PortKind}
use Rattle.nb_records.specs.declared.switch.PortKind.TheVariants as port_kind
use Rattle.nb_records.specs.declared.switch.SwitchPort.{SwitchPort}
use Rattle.net_model.specs.Entry.{Onward}
use Rattle.net_model.specs.Exit.{sight_out, give_out, leave}
use Rattle.net_model.specs.Sights.{roster_of}
use Rattle.net_model.specs.Trail.{Lists, leaves, is_dropped, of_port, spot_of, drop_for}
use Rattle.ovn_base.specs.declared.stages.TheConstants.{LOOPBACK_TABLE, OUTPUT_TABLE}
use Rattle.ovn_base.specs.names.ByName.{at}
use Rattle.physical_flows.proofs.RowFits.{everything_fits, exit_fits, return_fits, fits_exit, fits_return}
use Rattle.physical_flows.specs.Rows.{on_exit, on_return, return_row, leave_row, output_row, patch_row, no_peer_row}
use Rattle.physical_flows.specs.Stages.{PatchPort, IsPatchPort, ReturnRow, OutputRow, beyond}
use Rattle.row_laws.proofs.records.StandsFor.{port_stands}
use Rattle.row_laws.specs.Numbers.{IsDatapathKey, IsPortKey, NumberStandsFor}
use Rattle.switch_engine.specs.Actions.{set_flag, drop_at, gone_on}
use Rattle.switch_engine.specs.Zones.{ZoneLists}
use Rattle.switch_engine.specs.declared.carried.Carried.{Carried}
use Rattle.switch_engine.specs.declared.effect.Effect.TheVariants as effect
use Rattle.tunnel_keys.specs.declared.owner.Identity.{Identity}
use Rattle.sim_laws.proofs.passes.Ends.{ends_so}
use Rattle.sim_laws.proofs.passes.LiveNumbers.{hold, is_port, same_exit, same_patch}
use Rattle.sim_laws.proofs.passes.RowSteps.{Taken, row_step, row_fits, as_row, leave_does, drop_does, output_does, forgotten}
use Rattle.sim_laws.proofs.pipelines.Copies.{has_datapath_key, has_port_key, goes_so}
use Rattle.sim_laws.proofs.pipelines.Pieces.{comes_then}
use Rattle.sim_laws.proofs.pipelines.Registers.{and_zero, and_stays, noted_within}
use Rattle.sim_laws.proofs.pipelines.Tables.{DoesOps}
use Rattle.sim_laws.specs.Naming.{IsNumbered}
use Rattle.sim_laws.specs.passes.Physical.{basis_of, IsWired}
use Rattle.sim_laws.specs.passes.Onward.{IsAtOutput, GoesOn}
use Rattle.sim_laws.specs.passes.ToEnd.{Never, EndsAs}
use Rattle.sim_laws.specs.pipelines.Egress.{way_out, ComesOut, EgressLaw}
use Rattle.sim_laws.specs.pipelines.HeldLists.{HoldLists}
use Rattle.sim_laws.specs.pipelines.Pieces.{ComesTo}
use Rattle.sim_laws.specs.pipelines.Standing.{Chassis, net_of, course_of, IsLaidOut, no_words, StandsAtTable}
use Rattle.sim_laws.specs.pipelines.WalkOn.{Reached, Comes}

-- The copy stands before the table with the numbers of where it came in and of the port by which it would leave, and with the zone of a virtual port.
pub record IsAtExit (s : Chassis) (came : Identity) (o : SwitchPort) (p : Packet) (table : ℕ) (lists : Lists) (zones : ZoneLists) (copy : Carried) : Type 0 where
  pub in_table : copy.table ≡ table
  pub packet : copy.packet ≡ p
  pub whole : IsWhole p
  pub on : IsDatapathKey s.keys o.switch copy.regs.dp
  pub came_in : NumberStandsFor s.keys (roster_of (net_of s)) o.switch (Some came) copy.regs.in_port
  pub to : IsPortKey s.keys o.switch o.name copy.regs.out_port
  pub within : HasRegistersInRange copy.regs
  pub zone : is_virtual o ≡ true → s.number (of_port o.name) ≡ Some copy.regs.z_out
  pub hold : HoldLists s.number zones lists

-- ---- numbers in their ranges

pub dp_within : (regs : Regs) → HasRegistersInRange regs → regs.dp < 2 ^ 24
dp_within regs within = let h : regs.dp ≤ 0xff_ffff = within.within reg.Dp in omega (arith, h)

pub to_within : (regs : Regs) → HasRegistersInRange regs → regs.out_port < 2 ^ 16
to_within regs within = let h : regs.out_port ≤ 0xffff = within.within reg.OutPort in omega (arith, h)

pub from_within : (regs : Regs) → HasRegistersInRange regs → regs.in_port < 2 ^ 16
from_within regs within = let h : regs.in_port ≤ 0xffff = within.within reg.InPort in omega (arith, h)

pub loopback_is : (regs : Regs) → bit_and regs.flags.0 1 ≡ reg_number reg.Loopback regs
loopback_is regs = let e : bit_and regs.flags.0 (2 ^ 0) ≡ bit_at regs.flags.0 0 * 2 ^ 0 = and_pow regs.flags.0 0 in omega (arith, e)

module _ (s : Chassis) (laid : IsLaidOut s) (numbers : GivenNumbers) (wired : IsWired s numbers) (law : EgressLaw) (onward : Onward) (passes : ℕ) (came : Identity) (o : SwitchPort) (there : at (net_of s).switch_ports o.name ≡ Some o)
    (goes : is_virtual o ≡ false → GoesOn s onward passes o) where
  -- ---- table 64

  module _ (q : Packet) (lists : Lists) (zones : ZoneLists) (copy : Carried) (h : IsAtOutput s o q lists zones copy) where
    abbrev Out : PortKind → Reached
    Out kind = EndsAs s (λ t. give_out onward (net_of s) o kind t q) lists

    gives_out : Out port_kind.Virtual (effect.Out o.name copy.packet ∷ []) zones []
    gives_out =
        ends_so s (λ t. give_out onward (net_of s) o port_kind.Virtual t q) lists lists (effect.Out o.name copy.packet ∷ []) (leaves o.name q ∷ []) zones
        (subst (λ (r : Packet). IsNumbered s.keys (leaves o.name q) (effect.Out o.name r)) (sym h.packet) IsNumbered.out, tt) h.hold (λ choices ends. refl)

    -- no row of another kind is the port's
    not_patch : (x : PatchPort) → IsPatchPort (basis_of s numbers) x → is_virtual o ≡ true → CubeFits (on_exit x.dp x.key) copy.regs copy.packet → ⊥
    not_patch x leads virtual fitting =
        let fits = fits_exit copy.regs copy.packet x.dp x.key (dp_within copy.regs h.within) (to_within copy.regs h.within) fitting in
        false≢true (sym (same_patch s laid numbers o there copy.regs.dp copy.regs.out_port h.on h.to x leads fits.0 fits.1).leads ∙ virtual)

    out_64 : is_virtual o ≡ true → (f : Flow) → Taken s OUTPUT_TABLE (OutputRow (basis_of s numbers)) wired.output copy f → OutputRow (basis_of s numbers) f → DoesOps s f.ops zones copy (Out port_kind.Virtual)
    out_64 virtual f t (OutputRow.output r other d k theirs own e) =
        let fits = fits_exit copy.regs copy.packet d k (dp_within copy.regs h.within) (to_within copy.regs h.within) (row_fits s OUTPUT_TABLE (OutputRow (basis_of s numbers)) wired.output copy f (output_row d r k) t e) in
        let same = same_exit s laid numbers o copy.regs.dp copy.regs.out_port h.on h.to r other d k theirs fits.0 fits.1 in
        as_row s OUTPUT_TABLE (OutputRow (basis_of s numbers)) wired.output zones copy (Out port_kind.Virtual) f (output_row d r k) e
        (output_does s zones copy (Out port_kind.Virtual) r (subst (λ n. Out port_kind.Virtual (effect.Out n copy.packet ∷ []) zones []) (sym same) gives_out))
    out_64 virtual f t (OutputRow.patch x partner leads is e) =
        absurd (not_patch x leads virtual (row_fits s OUTPUT_TABLE (OutputRow (basis_of s numbers)) wired.output copy f (patch_row x.dp x.key (beyond (basis_of s numbers) partner)) t e))
    out_64 virtual f t (OutputRow.no_peer x leads is e) =
        absurd (not_patch x leads virtual (row_fits s OUTPUT_TABLE (OutputRow (basis_of s numbers)) wired.output copy f (no_peer_row x.dp x.key) t e))

    puts_out : copy.passes ≡ passes → Comes (course_of s) zones (copy ∷ []) (Out o.kind)
    puts_out passed = by o.kind refl
      where
        by : (kind : PortKind) → o.kind ≡ kind → Comes (course_of s) zones (copy ∷ []) (Out kind)
        by port_kind.Virtual is =
            let virtual : is_virtual o ≡ true = ap is_virtual_kind is in
            row_step s OUTPUT_TABLE (OutputRow (basis_of s numbers)) wired.output zones copy h.in_table (Out port_kind.Virtual) (output_row copy.regs.dp o.name copy.regs.out_port)
            (OutputRow.output o.name o copy.regs.dp copy.regs.out_port (is_port s laid numbers o.name o there copy.regs.dp copy.regs.out_port h.on h.to) virtual refl) refl
            (exit_fits copy.regs copy.packet copy.regs.dp (dp_within copy.regs h.within) refl copy.regs.out_port (to_within copy.regs h.within) refl) (λ f t. out_64 virtual f t t.row)
        by port_kind.Router is = goes (ap is_virtual_kind is) q lists zones copy passed h

  -- ---- table 34

  module _ (p : Packet) (lists : Lists) (zones : ZoneLists) (copy : Carried) (h : IsAtExit s came o p LOOPBACK_TABLE lists zones copy) (passed : copy.passes ≡ passes) where
    abbrev next : Carried
    next = gone_on 40 (forgotten s zones copy (EndsAs s (λ t. t) lists))

    abbrev Leaves : Reached
    Leaves = EndsAs s (λ t. leave onward s.scene came o t p) lists

    cleared_within : HasRegistersInRange next.regs
    cleared_within =
        noted_within (record { out_port = copy.regs.out_port; state = 0; verdict = 0; flags = set_flag 4 0 (set_flag 2 0 copy.regs.flags) }) copy.regs h.within (h.within.within reg.OutPort) (omega arith) (omega arith)

    -- nothing is found out of it yet
    stands_40 : StandsAtTable s Egress (stage_table SwitchTrackOut) (record { port = o; sight = sight_out came o p; words = no_words }) lists zones next
    stands_40 = record {
      in_table = refl;
      packet = h.packet;
      at_port = record {
        there = there;
        is_port = refl;
        words = record {
          tracked = and_stays (set_flag 2 0 copy.regs.flags).0 251 1 refl ∙ and_zero copy.regs.flags.0 253 1 refl;
          verdict = refl;
          finding = refl;
          blocked = and_zero (set_flag 2 0 copy.regs.flags).0 251 2 refl;
        };
        whole = h.whole;
      };
      numbers = record {
        on = h.on;
        came = h.came_in;
        goes = port_stands (net_of s) s.keys laid.valid (hold s laid) o there copy.regs.out_port h.to;
        members = laid.members;
        within = cleared_within;
        whole = h.whole;
      };
      zone = h.zone;
      hold = h.hold;
    }

    goes_out : Comes (course_of s) zones (next ∷ []) Leaves
    goes_out =
        comes_then s (way_out s came o p) (λ q rest t. give_out onward (net_of s) o o.kind t q) lists (ComesOut s next) Never zones (next ∷ []) (law s laid came o p lists zones next stands_40)
        (λ after q last left out.
        puts_out q after last left (record {
          in_table = out.in_table;
          packet = out.packet;
          whole = subst IsWhole out.packet out.whole;
          on = subst (IsDatapathKey s.keys o.switch) (sym (out.still.registers reg.Dp refl)) h.on;
          to = subst (IsPortKey s.keys o.switch o.name) (sym (out.still.registers reg.OutPort refl)) h.to;
          within = out.within;
          hold = out.hold;
        }) (out.still.passes ∙ passed))

    -- ---- it leaves

    module _ (may : copy.regs.in_port ≡ copy.regs.out_port → reg_number reg.Loopback copy.regs ≡ 1) where
      abbrev Stands40 : Lists → Packet → ZoneLists → Carried → Type 0
      Stands40 after q last left = (after ≡ lists) × (last ≡ zones) × (left ≡ next)

      -- none of the port of entry fits
      no_return : (d k : ℕ) → CubeFits (on_return d k) copy.regs copy.packet → ⊥
      no_return d k fitting =
          let fits = fits_return copy.regs copy.packet d k (dp_within copy.regs h.within) (to_within copy.regs h.within) (from_within copy.regs h.within) fitting in
          let one : reg_number reg.Loopback copy.regs ≡ 1 = may (fits.2 ∙ sym fits.1) in
          let off : bit_and copy.regs.flags.0 1 ≡ 0 = fits.3 in
          let is : bit_and copy.regs.flags.0 1 ≡ reg_number reg.Loopback copy.regs = loopback_is copy.regs in
          absurd (omega (arith, one, off, is))

      on_34 : (f : Flow) → Taken s LOOPBACK_TABLE (ReturnRow (basis_of s numbers)) wired.back copy f → ReturnRow (basis_of s numbers) f → DoesOps s f.ops zones copy (ComesTo s (λ rest t. rest t p) lists Stands40)
      on_34 f t (ReturnRow.back r other d k theirs e) = absurd (no_return d k (row_fits s LOOPBACK_TABLE (ReturnRow (basis_of s numbers)) wired.back copy f (return_row d k) t e))
      on_34 f t (ReturnRow.back_in r other d k theirs e) = absurd (no_return d k (row_fits s LOOPBACK_TABLE (ReturnRow (basis_of s numbers)) wired.back copy f (return_row d k) t e))
      on_34 f t (ReturnRow.leave e) =
          let So = ComesTo s (λ rest t. rest t p) lists Stands40 in
          as_row s LOOPBACK_TABLE (ReturnRow (basis_of s numbers)) wired.back zones copy So f leave_row e
          (leave_does s zones copy So 40 (goes_so s (λ rest t. rest t p) lists lists Stands40 zones p next (refl, refl, refl) (λ rest choices ends. refl)))

      pub leaves_by : Comes (course_of s) zones (copy ∷ []) Leaves
      leaves_by =
          comes_then s (λ rest t. rest t p) (λ q rest t. leave onward s.scene came o t p) lists Stands40 Never zones (copy ∷ [])
          (row_step s LOOPBACK_TABLE (ReturnRow (basis_of s numbers)) wired.back zones copy h.in_table (ComesTo s (λ rest t. rest t p) lists Stands40) leave_row (ReturnRow.leave refl) refl (everything_fits copy.regs copy.packet)
          (λ f t. on_34 f t t.row))
          (λ after q last left is.
          subst (λ (l : Lists). Comes (course_of s) last (left ∷ []) (EndsAs s (λ t. leave onward s.scene came o t p) l)) (sym is.0)
          (subst (λ (z : ZoneLists). Comes (course_of s) z (left ∷ []) Leaves) (sym is.1) (subst (λ (c : Carried). Comes (course_of s) zones (c ∷ []) Leaves) (sym is.2) goes_out)))

    -- ---- it may not go back

    module _ (same : copy.regs.in_port ≡ copy.regs.out_port) (off : reg_number reg.Loopback copy.regs ≡ 0) where
      abbrev Back : Reached
      Back = EndsAs s (λ t. drop_for cause.Loopback (spot_of o) t) lists

      dropped : Back (drop_at copy.table cause.Loopback copy.regs ∷ []) zones []
      dropped =
          ends_so s (λ t. drop_for cause.Loopback (spot_of o) t) lists lists (drop_at copy.table cause.Loopback copy.regs ∷ []) (is_dropped o.switch o.name cause.Loopback ∷ []) zones (
            subst (λ (k : ℕ). IsNumbered s.keys (is_dropped o.switch o.name cause.Loopback) (drop_at k cause.Loopback copy.regs)) (sym h.in_table)
                (IsNumbered.drop (has_datapath_key h.on) (has_port_key h.to)),
            tt,
          ) h.hold (λ choices ends. refl)

      turned : (f : Flow) → Taken s LOOPBACK_TABLE (ReturnRow (basis_of s numbers)) wired.back copy f → ReturnRow (basis_of s numbers) f → DoesOps s f.ops zones copy Back
      turned f t (ReturnRow.back r other d k theirs e) =
          as_row s LOOPBACK_TABLE (ReturnRow (basis_of s numbers)) wired.back zones copy Back f (return_row d k) e (drop_does s zones copy Back cause.Loopback dropped)
      turned f t (ReturnRow.back_in r other d k theirs e) =
          as_row s LOOPBACK_TABLE (ReturnRow (basis_of s numbers)) wired.back zones copy Back f (return_row d k) e (drop_does s zones copy Back cause.Loopback dropped)
      turned f t (ReturnRow.leave e) =
          absurd (t.unbeaten (return_row copy.regs.dp copy.regs.out_port)
          (ReturnRow.back o.name o copy.regs.dp copy.regs.out_port (is_port s laid numbers o.name o there copy.regs.dp copy.regs.out_port h.on h.to) refl) refl
          (return_fits copy.regs copy.packet copy.regs.dp (dp_within copy.regs h.within) refl copy.regs.out_port (to_within copy.regs h.within) refl same (loopback_is copy.regs ∙ off))
          (subst (λ (g : Flow). g.priority < 100) (sym e) (omega arith)))

      pub turns_back : Comes (course_of s) zones (copy ∷ []) Back
      turns_back =
          row_step s LOOPBACK_TABLE (ReturnRow (basis_of s numbers)) wired.back zones copy h.in_table Back leave_row (ReturnRow.leave refl) refl (everything_fits copy.regs copy.packet) (λ f t. turned f t t.row)
