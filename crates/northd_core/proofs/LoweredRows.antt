-- The flows of units are those to which the rows of the network are lowered.
use Rattle.std.specs.Prelude.{◌≡◌, [], Option, Some, None, option_map, unwrap_or}
use Rattle.std.specs.List.{AllByRecursion}
use Rattle.std.proofs.Common.{refl, sym, ap, ◌∙◌}
use Rattle.ovn_base.proofs.AmongLaws.{all_among, among_flat_map, flat_map_among}
use Rattle.ovn_base.specs.declared.name.Name.{Name}
use Rattle.ovn_base.specs.lists.Among.{Among}
use Rattle.ovn_base.specs.names.ByName.{at}
use Rattle.flow_table.specs.declared.flow.Flow.{Flow}
use Rattle.tunnel_keys.specs.Keys.{Keys}
use Rattle.match_cubes.specs.Points.{members_of}
use Rattle.nb_records.specs.Network.{empty_network}
use Rattle.nb_records.specs.declared.rule.AddressSet.{AddressSet}
use Rattle.nb_records.specs.declared.rule.PortGroup.{PortGroup}
use Rattle.address_sets.proofs.Differences.{read_members}
use Rattle.address_sets.specs.Members.{sets_of}
use Rattle.net_model.specs.Sights.{entries_in, names_in}
use Rattle.logical_flows.specs.declared.flow.LFlow.{LFlow}
use Rattle.logical_flows.specs.declared.unit.UnitId.{UnitId}
use Rattle.stage_rows.specs.Rows.{on_some}
use Rattle.stage_rows.specs.Units.{datapath_of, rows_of, units_of, IsPairedRow}
use Rattle.flow_lowering.specs.LoweredFlows.{lowered_flows}
use Rattle.row_laws.proofs.units.RowUnits.{in_some, some_in}
use Rattle.row_laws.specs.CanLower.{CanLowerLaw, NarrowLaw, NamedPortsLaw}
use Rattle.northd_core.specs.Lowering.{Lowering, CanCompile, IsLowerable, IsLoweredIn, SetsLaw, flows_of_rows, lowered_of}
use Rattle.northd_core.proofs.NorthPlans.{no_rows}
use Rattle.northd_core.proofs.RowUnits.{with_rows}

-- ---- the sets

sets_given : (o : Option AddressSet) → entries_in o ≡ unwrap_or (option_map (λ (s : AddressSet). s.addresses) o) []
sets_given None = refl
sets_given (Some s) = refl

groups_given : (o : Option PortGroup) → names_in o ≡ unwrap_or (option_map (λ (g : PortGroup). g.ports) o) []
groups_given None = refl
groups_given (Some g) = refl

pub sets_are : SetsLaw
sets_are net = record {
  entries = λ name. sets_given (at net.address_sets name) ∙ sym (read_members (λ (s : AddressSet). s.addresses) net.address_sets name);
  ports = λ name. groups_given (at net.port_groups name) ∙ sym (read_members (λ (g : PortGroup). g.ports) net.port_groups name);
}

-- ---- flows of units

module _ (l : Lowering) where
  -- a flow of a unit is one of some row of it
  of_row : (u : UnitId) (f : Flow) → Among f (lowered_of l u)
      → (row : LFlow) × (d : Name) × Among row (rows_of l.net u) × (datapath_of l.net u ≡ Some d) × Among f (lowered_flows l.keys (sets_of l.net) row d)
  of_row u f m =
      let d = in_some f (datapath_of l.net u) (flows_of_rows l.keys (sets_of l.net) (rows_of l.net u)) m in
      let r = flat_map_among (λ (row : LFlow). lowered_flows l.keys (sets_of l.net) row d.0) f (rows_of l.net u) d.2 in
      (r.0, d.0, r.1, d.1, r.2)

  pub of_lowered : (f : Flow) → IsLoweredIn l f → (u : UnitId) × Among f (lowered_of l u)
  of_lowered f h = (
    h.pair.origin,
    some_in f (datapath_of l.net h.pair.origin) (flows_of_rows l.keys (sets_of l.net) (rows_of l.net h.pair.origin)) h.datapath h.pair.on
        (among_flat_map (λ (row : LFlow). lowered_flows l.keys (sets_of l.net) row h.datapath) h.row f (rows_of l.net h.pair.origin) h.pair.among h.among),
  )

  module _ (can : CanCompile l) where
    -- a row of a unit is a pair with the unit's datapath
    pub is_pair : (u : UnitId) (row : LFlow) (d : Name) → Among row (rows_of l.net u) → datapath_of l.net u ≡ Some d → IsPairedRow l.net row d
    is_pair u row d m on = record { origin = u; there = (with_rows l.net can.valid u row m).there; among = m; on = on }

    -- what has flows is a unit of the network
    pub with_flows : (u : UnitId) (f : Flow) → Among f (lowered_of l u) → Among u (units_of l.net)
    with_flows u f m = let r = of_row u f m in (with_rows l.net can.valid u r.0 r.2).there

    pub lowered_in : (u : UnitId) (f : Flow) → Among f (lowered_of l u) → IsLoweredIn l f
    lowered_in u f m = let r = of_row u f m in record { row = r.0; datapath = r.1; pair = is_pair u r.0 r.1 r.2 r.3; among = r.4 }

    -- the rows of a unit can be lowered on its datapath
    pub can_be_lowered : CanLowerLaw → NarrowLaw → NamedPortsLaw → (u : UnitId) (d : Name) → datapath_of l.net u ≡ Some d → AllByRecursion (IsLowerable l.keys (sets_of l.net) d) (rows_of l.net u)
    can_be_lowered lower narrow ports u d on = all_among (IsLowerable l.keys (sets_of l.net) d) (rows_of l.net u) (λ row m.
        let pair = is_pair u row d m on in
        let rows = lower l.net l.keys can.valid can.hold can.live in
        record {
          suited = rows.suited row d pair;
          narrow = narrow l.net can.valid row d pair (members_of (sets_of l.net)) (sets_are l.net);
          live = rows.live row d pair;
          ports = ports l.net l.keys can.valid can.live row d pair;
        })

-- the network without records has none
pub no_flows : (keys : Keys) (u : UnitId) → lowered_of (record { net = empty_network; keys = keys }) u ≡ []
no_flows keys u = ap (λ rows. on_some (datapath_of empty_network u) (flows_of_rows keys (sets_of empty_network) rows)) (no_rows u) ∙ none_on (datapath_of empty_network u)
  where
    none_on : (o : Option Name) → on_some o (flows_of_rows keys (sets_of empty_network) []) ≡ []
    none_on None = refl
    none_on (Some d) = refl
