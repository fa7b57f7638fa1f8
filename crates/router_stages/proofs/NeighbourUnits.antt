-- The row of an address that is reached.
use Rattle.std.specs.Prelude.{◌≡◌, [], ◌∷◌, flat_map, Option, Some, None}
use Rattle.std.proofs.Common.{refl}
use Rattle.ovn_base.specs.declared.address.Ip4.{Ip4}
use Rattle.ovn_base.specs.declared.address.Mac.{Mac}
use Rattle.ovn_base.specs.declared.name.Name.{Name}
use Rattle.nb_records.specs.Network.{Network}
use Rattle.logical_flows.specs.declared.unit.UnitId.TheVariants as unit
use Rattle.stage_rows.specs.RouterRows.{neighbour_row}
use Rattle.stage_rows.specs.Rows.{on_some}
use Rattle.stage_rows.specs.Units.{rows_of, all_stages, neighbour_rows, neighbour_named}

pub rows_of_reached : (net : Network) (port : Name) (ip : Ip4) → rows_of net (unit.Neighbour port ip) ≡ on_some (neighbour_named net port ip) (λ mac. neighbour_row port ip mac ∷ [])
rows_of_reached net port ip = by (neighbour_named net port ip)
  where
    by : (o : Option Mac) → flat_map (λ s. on_some o (neighbour_rows s port ip)) all_stages ≡ on_some o (λ mac. neighbour_row port ip mac ∷ [])
    by None = refl
    by (Some mac) = refl
