-- The rows around the pipelines are of the tables around them.
use Rattle.std.specs.Prelude.{◌≡◌, ℕ, true, refl}
use mathlib.Core.Path.{ap, ◌∙◌}
use Rattle.flow_table.specs.declared.flow.Flow.{Flow}
use Rattle.physical_flows.specs.Around.{AroundFlow, is_around}
use Rattle.physical_flows.specs.AroundLaws.{AroundTablesLaw}
use Rattle.physical_flows.specs.Stages.{Basis, EntryRow, RemoteRow, HomeRow, ReturnRow, OutputRow}

module _ (b : Basis) (f : Flow) where
  table_is : (row : Flow) → f ≡ row → f.table ≡ row.table
  table_is row e = ap (λ (g : Flow). g.table) e

  -- the rows of a table are of it
  table_of_entry : EntryRow b f → f.table ≡ 0
  table_of_entry (EntryRow.entry q port dp key zone on home e) = table_is _ e
  table_of_entry (EntryRow.arrival e) = table_is _ e

  table_of_remote : RemoteRow b f → f.table ≡ 32
  table_of_remote (RemoteRow.remote q port dp key home on bound apart e) = table_is _ e
  table_of_remote (RemoteRow.away x home is at_home apart e) = table_is _ e
  table_of_remote (RemoteRow.spread a dp group on e) = table_is _ e
  table_of_remote (RemoteRow.stay e) = table_is _ e

  table_of_home : HomeRow b f → f.table ≡ 33
  table_of_home (HomeRow.home q port dp key zone on home e) = table_is _ e
  table_of_home (HomeRow.passes x is at_home e) = table_is _ e
  table_of_home (HomeRow.enters x is at_home e) = table_is _ e
  table_of_home (HomeRow.copies a dp group arrived on e) = table_is _ e

  table_of_return : ReturnRow b f → f.table ≡ 34
  table_of_return (ReturnRow.back q port dp key on e) = table_is _ e
  table_of_return (ReturnRow.back_in q port dp key on e) = table_is _ e
  table_of_return (ReturnRow.leave e) = table_is _ e

  table_of_output : OutputRow b f → f.table ≡ 64
  table_of_output (OutputRow.output q port dp key on virtual e) = table_is _ e
  table_of_output (OutputRow.patch x partner is leads e) = table_is _ e
  table_of_output (OutputRow.no_peer x is leads e) = table_is _ e

  -- so each is of one of these
  around_at : (table : ℕ) → is_around table ≡ true → f.table ≡ table → is_around f.table ≡ true
  around_at table is same = ap is_around same ∙ is

  around_of : AroundFlow b f → is_around f.table ≡ true
  around_of (AroundFlow.in_entry r) = around_at 0 refl (table_of_entry r)
  around_of (AroundFlow.in_remote r) = around_at 32 refl (table_of_remote r)
  around_of (AroundFlow.in_home r) = around_at 33 refl (table_of_home r)
  around_of (AroundFlow.in_back r) = around_at 34 refl (table_of_return r)
  around_of (AroundFlow.in_output r) = around_at 64 refl (table_of_output r)

pub around_tables : AroundTablesLaw
around_tables b f r = around_of b f r
