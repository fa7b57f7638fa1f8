-- Flows that are the lowered rows and those around the pipelines fill the tables of a chassis.
use Rattle.std.specs.Prelude.{◌≡◌, ◌⊎◌, ℕ, nat_eq, true, false, List, refl}
use Rattle.std.proofs.Common.{sym, ap, ◌∙◌, inl, inr}
use Rattle.std.proofs.lemmas.Bool.{false≢true, eq-eqb}
use Rattle.conn_zones.specs.Zoning.{Zoned}
use Rattle.flow_lowering.specs.LoweredFlows.{lowered_ops, lowered_cubes, flow_on}
use Rattle.flow_table.specs.declared.flow.Flow.{Flow}
use Rattle.logical_flows.specs.Stages.{stage_table}
use Rattle.logical_flows.specs.declared.stage.Stage.{Stage}
use Rattle.logical_flows.specs.declared.stage.Stage.TheVariants as stage
use Rattle.match_cubes.specs.declared.sets.Sets.{Sets}
use Rattle.net_model.specs.State.{State}
use Rattle.ovn_base.proofs.AmongLaws.{map_among}
use Rattle.ovn_base.specs.declared.name.Name.{Name}
use Rattle.ovn_base.specs.declared.stages.TheConstants.{ENTRY_TABLE, REMOTE_TABLE, LOCAL_TABLE, LOOPBACK_TABLE, OUTPUT_TABLE}
use Rattle.physical_flows.specs.ChassisFlows.{AreExactly, basis_at}
use Rattle.physical_flows.specs.Stages.{Basis, EntryRow, RemoteRow, HomeRow, ReturnRow, OutputRow}
use Rattle.row_laws.specs.BestRow.{IsLoweredRow, HoldsRows}
use Rattle.row_laws.specs.CanLower.{CanLower, CanLowerLaw}
use Rattle.sim_laws.proofs.journey_laws.Premises.{owners_live}
use Rattle.sim_laws.specs.journeys.Filling.{FillingLaw}
use Rattle.physical_flows.specs.Around.{AroundFlow, is_around}
use Rattle.sim_laws.specs.journeys.Tables.{ChassisFlow, HoldIn, AreTablesOf}
use Rattle.physical_flows.specs.Around.AroundFlow.{in_entry, in_remote, in_home, in_back, in_output}

-- ---- tables

-- no stage has one of these
pub not_around : (s : Stage) → is_around (stage_table s) ≡ false
not_around stage.SwitchAdmit = refl
not_around stage.SwitchPortSecurity = refl
not_around stage.SwitchTrack = refl
not_around stage.SwitchAclIn = refl
not_around stage.SwitchStateIn = refl
not_around stage.SwitchArp = refl
not_around stage.SwitchLookup = refl
not_around stage.SwitchTrackOut = refl
not_around stage.SwitchAclOut = refl
not_around stage.SwitchStateOut = refl
not_around stage.SwitchSecurityOut = refl
not_around stage.RouterAdmit = refl
not_around stage.RouterInput = refl
not_around stage.RouterUndo = refl
not_around stage.RouterDnat = refl
not_around stage.RouterOwn = refl
not_around stage.RouterRoute = refl
not_around stage.RouterNeighbour = refl
not_around stage.RouterFind = refl
not_around stage.RouterSnat = refl

module _ (b : Basis) (f : Flow) where
  entry_table : EntryRow b f → f.table ≡ ENTRY_TABLE
  entry_table (EntryRow.entry q port dp key zone of is e) = ap (λ (g : Flow). g.table) e
  entry_table (EntryRow.arrival e) = ap (λ (g : Flow). g.table) e

  remote_table : RemoteRow b f → f.table ≡ REMOTE_TABLE
  remote_table (RemoteRow.remote q port dp key home of bound apart e) = ap (λ (g : Flow). g.table) e
  remote_table (RemoteRow.away x home leads is apart e) = ap (λ (g : Flow). g.table) e
  remote_table (RemoteRow.spread d dp group on e) = ap (λ (g : Flow). g.table) e
  remote_table (RemoteRow.stay e) = ap (λ (g : Flow). g.table) e

  home_table : HomeRow b f → f.table ≡ LOCAL_TABLE
  home_table (HomeRow.home q port dp key zone of is e) = ap (λ (g : Flow). g.table) e
  home_table (HomeRow.passes x leads is e) = ap (λ (g : Flow). g.table) e
  home_table (HomeRow.enters x leads is e) = ap (λ (g : Flow). g.table) e
  home_table (HomeRow.copies d dp group arrived on e) = ap (λ (g : Flow). g.table) e

  back_table : ReturnRow b f → f.table ≡ LOOPBACK_TABLE
  back_table (ReturnRow.back q port dp key of e) = ap (λ (g : Flow). g.table) e
  back_table (ReturnRow.back_in q port dp key of e) = ap (λ (g : Flow). g.table) e
  back_table (ReturnRow.leave e) = ap (λ (g : Flow). g.table) e

  output_table : OutputRow b f → f.table ≡ OUTPUT_TABLE
  output_table (OutputRow.output q port dp key of own e) = ap (λ (g : Flow). g.table) e
  output_table (OutputRow.patch x partner leads is e) = ap (λ (g : Flow). g.table) e
  output_table (OutputRow.no_peer x leads is e) = ap (λ (g : Flow). g.table) e

  -- its table
  abbrev table_around : AroundFlow b f → ℕ
  table_around (in_entry row) = ENTRY_TABLE
  table_around (in_remote row) = REMOTE_TABLE
  table_around (in_home row) = LOCAL_TABLE
  table_around (in_back row) = LOOPBACK_TABLE
  table_around (in_output row) = OUTPUT_TABLE

  table_is : (r : AroundFlow b f) → f.table ≡ table_around r
  table_is (in_entry row) = entry_table row
  table_is (in_remote row) = remote_table row
  table_is (in_home row) = home_table row
  table_is (in_back row) = back_table row
  table_is (in_output row) = output_table row

  around_so : (r : AroundFlow b f) → is_around (table_around r) ≡ true
  around_so (in_entry row) = refl
  around_so (in_remote row) = refl
  around_so (in_home row) = refl
  around_so (in_back row) = refl
  around_so (in_output row) = refl

  -- a row around the pipelines is of the table that it has
  abbrev RowAt : ℕ → Type 0
  RowAt n = (r : AroundFlow b f) → nat_eq (table_around r) n ≡ true

  same_table : (n : ℕ) → f.table ≡ n → RowAt n
  same_table n is r = eq-eqb (table_around r) n (sym (table_is r) ∙ is)

  entry_of : f.table ≡ ENTRY_TABLE → AroundFlow b f → EntryRow b f
  entry_of is r = by r (same_table ENTRY_TABLE is r)
    where
      by : (r : AroundFlow b f) → nat_eq (table_around r) ENTRY_TABLE ≡ true → EntryRow b f
      by (in_entry row) h = row
      by (in_remote row) h = absurd (false≢true h)
      by (in_home row) h = absurd (false≢true h)
      by (in_back row) h = absurd (false≢true h)
      by (in_output row) h = absurd (false≢true h)

  remote_of : f.table ≡ REMOTE_TABLE → AroundFlow b f → RemoteRow b f
  remote_of is r = by r (same_table REMOTE_TABLE is r)
    where
      by : (r : AroundFlow b f) → nat_eq (table_around r) REMOTE_TABLE ≡ true → RemoteRow b f
      by (in_entry row) h = absurd (false≢true h)
      by (in_remote row) h = row
      by (in_home row) h = absurd (false≢true h)
      by (in_back row) h = absurd (false≢true h)
      by (in_output row) h = absurd (false≢true h)

  home_of : f.table ≡ LOCAL_TABLE → AroundFlow b f → HomeRow b f
  home_of is r = by r (same_table LOCAL_TABLE is r)
    where
      by : (r : AroundFlow b f) → nat_eq (table_around r) LOCAL_TABLE ≡ true → HomeRow b f
      by (in_entry row) h = absurd (false≢true h)
      by (in_remote row) h = absurd (false≢true h)
      by (in_home row) h = row
      by (in_back row) h = absurd (false≢true h)
      by (in_output row) h = absurd (false≢true h)

  back_of : f.table ≡ LOOPBACK_TABLE → AroundFlow b f → ReturnRow b f
  back_of is r = by r (same_table LOOPBACK_TABLE is r)
    where
      by : (r : AroundFlow b f) → nat_eq (table_around r) LOOPBACK_TABLE ≡ true → ReturnRow b f
      by (in_entry row) h = absurd (false≢true h)
      by (in_remote row) h = absurd (false≢true h)
      by (in_home row) h = absurd (false≢true h)
      by (in_back row) h = row
      by (in_output row) h = absurd (false≢true h)

  output_of : f.table ≡ OUTPUT_TABLE → AroundFlow b f → OutputRow b f
  output_of is r = by r (same_table OUTPUT_TABLE is r)
    where
      by : (r : AroundFlow b f) → nat_eq (table_around r) OUTPUT_TABLE ≡ true → OutputRow b f
      by (in_entry row) h = absurd (false≢true h)
      by (in_remote row) h = absurd (false≢true h)
      by (in_home row) h = absurd (false≢true h)
      by (in_back row) h = absurd (false≢true h)
      by (in_output row) h = row

-- ---- a chassis

module _ (m : State) (zones : Zoned) (sets : Sets) (chassis : Name) (flows : List Flow) (can : CanLower m.config.net m.keys) (all : AreExactly (ChassisFlow m zones.numbers sets chassis) flows) where
  abbrev b : Basis
  b = basis_at m zones.numbers chassis

  -- a lowered row is of its stage's table
  lowered_is : (f : Flow) → IsLoweredRow m.config.net m.keys sets f → is_around f.table ≡ false
  lowered_is f h =
      let cube = map_among (flow_on h.row (lowered_ops m.keys h.row.actions)) f (lowered_cubes m.keys sets h.row h.datapath) h.among in
      ap (λ (g : Flow). is_around g.table) cube.2 ∙ not_around h.row.stage

  around_is : (f : Flow) → AroundFlow b f → is_around f.table ≡ true
  around_is f r = ap is_around (table_is b f r) ∙ around_so b f r

  stage_holds : (s : Stage) → HoldsRows m.config.net m.keys sets flows (stage_table s)
  stage_holds s = record { can_lower = can; exactly = λ f is. (λ among. lowered f is ((all.same f).0 among), λ row. (all.same f).1 (inl row)) }
    where
      lowered : (f : Flow) → f.table ≡ stage_table s → IsLoweredRow m.config.net m.keys sets f ⊎ AroundFlow b f → IsLoweredRow m.config.net m.keys sets f
      lowered f is (inl row) = row
      lowered f is (inr r) = absurd (false≢true (sym (ap is_around is ∙ not_around s) ∙ around_is f r))

  -- a table around the pipelines
  module _ (table : ℕ) (around : is_around table ≡ true) (Row : Flow → Type 0) (put : (f : Flow) → Row f → AroundFlow b f) (take : (f : Flow) → f.table ≡ table → AroundFlow b f → Row f) where
    taken : (f : Flow) → f.table ≡ table → IsLoweredRow m.config.net m.keys sets f ⊎ AroundFlow b f → Row f
    taken f is (inl row) = absurd (false≢true (sym (lowered_is f row) ∙ (ap is_around is ∙ around)))
    taken f is (inr r) = take f is r

    holds : HoldIn flows table Row
    holds f is = (λ among. taken f is ((all.same f).0 among), λ row. (all.same f).1 (inr (put f row)))

  fills : AreTablesOf m zones.numbers sets chassis flows
  fills = record {
    stages = record {
      admit = stage_holds stage.SwitchAdmit;
      port_security = stage_holds stage.SwitchPortSecurity;
      track = stage_holds stage.SwitchTrack;
      acl_in = stage_holds stage.SwitchAclIn;
      state_in = stage_holds stage.SwitchStateIn;
      arp = stage_holds stage.SwitchArp;
      lookup = stage_holds stage.SwitchLookup;
      track_out = stage_holds stage.SwitchTrackOut;
      acl_out = stage_holds stage.SwitchAclOut;
      state_out = stage_holds stage.SwitchStateOut;
      security_out = stage_holds stage.SwitchSecurityOut;
    };
    entry = holds ENTRY_TABLE refl (EntryRow b) (λ f row. in_entry row) (entry_of b);
    remote = holds REMOTE_TABLE refl (RemoteRow b) (λ f row. in_remote row) (remote_of b);
    home = holds LOCAL_TABLE refl (HomeRow b) (λ f row. in_home row) (home_of b);
    back = holds LOOPBACK_TABLE refl (ReturnRow b) (λ f row. in_back row) (back_of b);
    output = holds OUTPUT_TABLE refl (OutputRow b) (λ f row. in_output row) (output_of b);
  }

pub fills_so : CanLowerLaw → FillingLaw
fills_so law m zones more sets chassis flows u all = fills m zones sets chassis flows (law m.config.net m.keys u.valid u.keys.hold (owners_live m.config.net m.keys u.valid u.keys)) all
