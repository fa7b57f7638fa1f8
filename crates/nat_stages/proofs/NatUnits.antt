-- The rows of a row of NAT that is found under its name.
use Rattle.std.specs.Prelude.{◌≡◌, ◌++◌, List, flat_map, Option, Some, None}
use Rattle.std.proofs.Common.{ap, sym, ◌∙◌, append-nil}
use Rattle.ovn_base.specs.declared.name.Name.{Name}
use Rattle.ovn_base.specs.names.ByName.{at}
use Rattle.nb_records.specs.Network.{Network}
use Rattle.nb_records.specs.Routers.{translates_sources, translates_destinations}
use Rattle.nb_records.specs.declared.router.Nat.{Nat}
use Rattle.logical_flows.specs.declared.flow.LFlow.{LFlow}
use Rattle.logical_flows.specs.declared.stage.Stage.{Stage}
use Rattle.logical_flows.specs.declared.unit.UnitId.TheVariants as unit
use Rattle.stage_rows.specs.Admitting.{AdmitsNat}
use Rattle.stage_rows.specs.NatRows.{nat_dnat, nat_snat}
use Rattle.stage_rows.specs.Rows.{on_some, when}
use Rattle.stage_rows.specs.Units.{rows_of, all_stages, nat_rows}
use Rattle.nat_stages.specs.NatList.{nat_list}

-- of the record that is found under the row's name
pub rows_of_found : (net : Network) (name : Name) (r : Nat) → Some r ≡ at net.nats name → rows_of net (unit.Nat name) ≡ nat_list r
rows_of_found net name r h =
    ap (λ (o : Option Nat). flat_map (λ (s : Stage). on_some o (nat_rows s)) all_stages) (sym h)
    ∙ ap (λ (rows : List LFlow). when (translates_destinations r.kind) (nat_dnat r) ++ rows) (append-nil (when (translates_sources r.kind) (nat_snat r)))

some_is_none : {A : Type 0} (x : A) → Some x ≡ None → ⊥
some_is_none x h = cc

pub is_found : (net : Network) (name : Name) → AdmitsNat net name → None ≡ at net.nats name → ⊥
is_found net name a h = some_is_none a.nat (sym a.there ∙ sym h)
