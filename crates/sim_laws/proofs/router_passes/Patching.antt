-- Table 64: a copy that is to leave by a port that leads into another datapath comes to the first table there.
use Rattle.std.specs.Prelude.{◌≡◌, ◌<◌, ◌+◌, ◌^◌, nat_lt, ℕ, zero, suc, List, [], ◌∷◌, Option, Some, None, refl}
use Rattle.std.proofs.Common.{sym, ap, ◌∙◌, subst, arith}
use Rattle.std.proofs.lemmas.Bool.{lt-ltb}
use Rattle.std.proofs.lemmas.Option.{none-some, same_Some}
use Rattle.conn_table.specs.Picks.{Choice}
use Rattle.conn_zones.specs.Zoning.{GivenNumbers}
use Rattle.flow_table.specs.declared.flow.Cause.{Cause}
use Rattle.flow_table.specs.declared.flow.Cause.TheVariants as cause
use Rattle.flow_table.specs.declared.flow.Flow.{Flow}
use Rattle.inet_packet.specs.Fits.{CubeFits}
use Rattle.inet_packet.specs.declared.packet.Packet.{Packet}
use Rattle.nb_records.specs.Routers.{Partner}
use Rattle.net_model.specs.Trail.{Trail, Lists, End, Spot, is_dropped, drop_for}
use Rattle.ovn_base.specs.declared.limits.TheConstants.{MAX_HOPS}
use Rattle.ovn_base.specs.declared.stages.TheConstants.{OUTPUT_TABLE}
use Rattle.physical_flows.proofs.RowFits.{exit_fits, fits_exit}
use Rattle.physical_flows.specs.Rows.{output_row, patch_row, no_peer_row}
use Rattle.physical_flows.specs.Stages.{Basis, PatchPort, IsPatchPort, OutputRow, beyond}
use Rattle.switch_engine.specs.Actions.{drop_at, patched}
use Rattle.switch_engine.specs.Zones.{ZoneLists}
use Rattle.switch_engine.specs.declared.carried.Carried.{Carried}
use Rattle.sim_laws.proofs.passes.Leaving.{dp_within, to_within}
use Rattle.sim_laws.proofs.passes.RowSteps.{Taken, row_step, row_fits, as_row, drop_does}
use Rattle.sim_laws.proofs.pipelines.Copies.{has_datapath_key, has_port_key, goes_so}
use Rattle.sim_laws.proofs.pipelines.Tables.{DoesOps}
use Rattle.sim_laws.specs.Naming.{IsNumbered}
use Rattle.sim_laws.specs.passes.Physical.{basis_of}
use Rattle.sim_laws.specs.pipelines.Pieces.{trail_with, has_ended, ComesTo}
use Rattle.sim_laws.specs.pipelines.Standing.{Chassis, course_of}
use Rattle.sim_laws.specs.pipelines.WalkOn.{Reached, Comes}
use Rattle.sim_laws.proofs.router_passes.FirstBeyond.{regs_in, first_at}
use Rattle.sim_laws.proofs.router_passes.Partners.{partner_there, partner_here}
use Rattle.sim_laws.proofs.router_passes.PatchActions.{passes_does, stops_does}
use Rattle.sim_laws.proofs.router_passes.PatchKeys.{HasPatchRows, has_rows, not_virtual, one_partner}
use Rattle.sim_laws.specs.routers.Patches.{IsLaidAround, IsBeforePatch, HasPassed, into_next, PatchLaw}

module _ (s : Chassis) (numbers : GivenNumbers) (around : IsLaidAround s numbers) (by : Spot) (p : Packet) (lists : Lists) (zones : ZoneLists) (copy : Carried) (left : ℕ) (so_many : copy.passes + left ≡ MAX_HOPS) where
  abbrev b : Basis
  b = basis_of s numbers

  abbrev Row : Flow → Type 0
  Row = OutputRow b

  abbrev Goes : Option Partner → Reached
  Goes partner = ComesTo s (into_next left by partner) lists (HasPassed s p copy)

  module _ (partner : Option Partner) (h : IsBeforePatch s by partner p lists zones copy) where
    -- ---- the rows that fit

    exit_of : (d k : ℕ) → CubeFits (no_peer_row d k).cube copy.regs copy.packet → (copy.regs.dp ≡ d) × (copy.regs.out_port ≡ k)
    exit_of d k fits = fits_exit copy.regs copy.packet d k (dp_within copy.regs h.within) (to_within copy.regs h.within) fits

    rows : HasPatchRows s around.laid numbers by partner copy.regs.dp copy.regs.out_port h.on h.to
    rows = has_rows s around.laid numbers by partner copy.regs.dp copy.regs.out_port h.on h.to h.leads

    own_fits : CubeFits (no_peer_row rows.port.dp rows.port.key).cube copy.regs copy.packet
    own_fits =
        exit_fits copy.regs copy.packet rows.port.dp (subst (λ n. n < 2 ^ 24) (sym rows.its_dp) (dp_within copy.regs h.within)) (sym rows.its_dp) rows.port.key
        (subst (λ n. n < 2 ^ 16) (sym rows.its_key) (to_within copy.regs h.within)) (sym rows.its_key)

    partner_is : (f : Flow) → Taken s OUTPUT_TABLE Row around.wired.output copy f → (y : PatchPort) → IsPatchPort b y → CubeFits (no_peer_row y.dp y.key).cube copy.regs copy.packet → y.partner ≡ partner
    partner_is f t y is fits =
        let e = exit_of y.dp y.key fits in
        one_partner s around.laid numbers by partner copy.regs.dp copy.regs.out_port h.on h.to y e.0 e.1 h.leads is

    -- ---- a drop

    drops_so : (why : Cause) → ((rest : Trail → Partner → Trail) (choices : List Choice) (ends : List End) → into_next left by partner rest (trail_with lists choices ends) ≡ drop_for why by (trail_with lists choices ends))
        → Goes partner (drop_at copy.table why copy.regs ∷ []) zones []
    drops_so why is = record {
      own = is_dropped by.datapath by.port why ∷ [];
      numbered = (
        subst (λ (k : ℕ). IsNumbered s.keys (is_dropped by.datapath by.port why) (drop_at k why copy.regs)) (sym h.in_table) (IsNumbered.drop (has_datapath_key h.on) (has_port_key h.to)),
        tt,
      );
      landing = has_ended lists;
      is = is;
      lands = (refl, h.hold);
    }

  -- ---- without a partner

  module _ (h : IsBeforePatch s by None p lists zones copy) where
    none_64 : (f : Flow) → Taken s OUTPUT_TABLE Row around.wired.output copy f → Row f → DoesOps s f.ops zones copy (Goes None)
    none_64 f t (OutputRow.output r other d k theirs virtual e) =
        let fits = exit_of None h d k (row_fits s OUTPUT_TABLE Row around.wired.output copy f (output_row d r k) t e) in
        absurd (not_virtual s around.laid numbers by None copy.regs.dp copy.regs.out_port h.on h.to h.leads r other d k theirs fits.0 fits.1 virtual)
    none_64 f t (OutputRow.patch x partner is has e) =
        absurd (none-some partner (sym (partner_is None h f t x is (row_fits s OUTPUT_TABLE Row around.wired.output copy f (patch_row x.dp x.key (beyond b partner)) t e)) ∙ has))
    none_64 f t (OutputRow.no_peer x is none e) =
        as_row s OUTPUT_TABLE Row around.wired.output zones copy (Goes None) f (no_peer_row x.dp x.key) e
        (drop_does s zones copy (Goes None) cause.NoPeer (drops_so None h cause.NoPeer (λ rest choices ends. refl)))

    none_so : Comes (course_of s) zones (copy ∷ []) (Goes None)
    none_so =
        let own = rows None h in
        row_step s OUTPUT_TABLE Row around.wired.output zones copy h.in_table (Goes None) (no_peer_row own.port.dp own.port.key) (OutputRow.no_peer own.port own.is_one own.its_partner refl) refl (own_fits None h) (λ f t. none_64 f t t.row)

  -- ---- to the partner

  module _ (partner : Partner) (h : IsBeforePatch s by (Some partner) p lists zones copy) where
    abbrev To : Reached
    To = Goes (Some partner)

    abbrev Passes : Partner → Type 0
    Passes other = DoesOps s (patch_row 0 0 (beyond b other)).ops zones copy To

    passes_so : (n : ℕ) → left ≡ n → Passes partner
    passes_so zero none =
        let full : copy.passes ≡ MAX_HOPS = omega (arith, so_many, none) in
        stops_does s zones copy To (beyond b partner) (ap (λ n. nat_lt n MAX_HOPS) full) (drops_so (Some partner) h cause.HopLimit (λ rest choices ends. ap (λ n. into_next n by (Some partner) rest (trail_with lists choices ends)) none))
    passes_so (suc n) some =
        let few : copy.passes < MAX_HOPS = omega (arith, so_many, some) in
        let there = partner_there s.scene around.laid.valid by partner h.leads in
        let here = partner_here s.scene around.laid.valid by partner h.leads in
        passes_does s zones copy To (beyond b partner) (lt-ltb copy.passes MAX_HOPS few)
        (goes_so s (into_next left by (Some partner)) lists lists (HasPassed s p copy) zones partner (patched (regs_in s numbers around (beyond b partner) copy.regs) copy) (record {
          enters = record {
            in_table = refl;
            packet = h.packet;
            whole = h.whole;
            there = there;
            here = here;
            first = first_at s numbers around partner there here copy.regs;
            loopback = refl;
            arrived = refl;
            hold = h.hold;
          };
          passes = refl;
          few = omega (arith, few);
        }) (λ rest choices ends. ap (λ n. into_next n by (Some partner) rest (trail_with lists choices ends)) some))

    some_64 : (f : Flow) → Taken s OUTPUT_TABLE Row around.wired.output copy f → Row f → DoesOps s f.ops zones copy To
    some_64 f t (OutputRow.output r other d k theirs virtual e) =
        let fits = exit_of (Some partner) h d k (row_fits s OUTPUT_TABLE Row around.wired.output copy f (output_row d r k) t e) in
        absurd (not_virtual s around.laid numbers by (Some partner) copy.regs.dp copy.regs.out_port h.on h.to h.leads r other d k theirs fits.0 fits.1 virtual)
    some_64 f t (OutputRow.patch x other is has e) =
        let same : other ≡ partner =
        same_Some other partner (sym has ∙ partner_is (Some partner) h f t x is (row_fits s OUTPUT_TABLE Row around.wired.output copy f (patch_row x.dp x.key (beyond b other)) t e)) in
        as_row s OUTPUT_TABLE Row around.wired.output zones copy To f (patch_row x.dp x.key (beyond b other)) e (subst Passes (sym same) (passes_so left refl))
    some_64 f t (OutputRow.no_peer x is none e) =
        absurd (none-some partner (sym none ∙ partner_is (Some partner) h f t x is (row_fits s OUTPUT_TABLE Row around.wired.output copy f (no_peer_row x.dp x.key) t e)))

    some_so : Comes (course_of s) zones (copy ∷ []) To
    some_so =
        let own = rows (Some partner) h in
        row_step s OUTPUT_TABLE Row around.wired.output zones copy h.in_table To (patch_row own.port.dp own.port.key (beyond b partner)) (OutputRow.patch own.port partner own.is_one own.its_partner refl) refl (own_fits (Some partner) h)
        (λ f t. some_64 f t t.row)

pub patches_so : PatchLaw
patches_so s numbers around by None p lists zones copy h left so_many = none_so s numbers around by p lists zones copy left so_many h
patches_so s numbers around by (Some partner) p lists zones copy h left so_many = some_so s numbers around by p lists zones copy left so_many partner h
