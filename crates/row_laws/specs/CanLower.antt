-- What lowering asks of keys and rows, and that valid records have it.
use Rattle.std.specs.Prelude.{◌≡◌, ◌≤◌, true, IsSome}
use Rattle.std.specs.List.{AllByRecursion}
use Rattle.ovn_base.specs.declared.limits.TheConstants.{MAX_WIDTH}
use Rattle.ovn_base.specs.declared.name.Name.{Name}
use Rattle.ovn_base.specs.lists.Among.{Among}
use Rattle.ovn_base.specs.names.ByName.{at}
use Rattle.match_cubes.specs.Points.{Members}
use Rattle.match_cubes.specs.Suited.{are_suited}
use Rattle.match_cubes.specs.Width.{width_of}
use Rattle.nb_records.specs.Network.{Network}
use Rattle.nb_rules.specs.Valid.{IsValid}
use Rattle.logical_flows.specs.declared.flow.LFlow.{LFlow}
use Rattle.stage_rows.specs.Units.{IsPairedRow}
use Rattle.tunnel_keys.specs.Edits.{IsLive}
use Rattle.tunnel_keys.specs.Keys.{Keys, IsKeys}
use Rattle.tunnel_keys.specs.declared.owner.KeyOwner.{KeyOwner}
use Rattle.flow_lowering.specs.LoweredFlows.{NamesLivePort}
use Rattle.net_model.specs.Owners.{owners_of}
use Rattle.net_model.specs.Sights.{roster_of}
use Rattle.row_laws.specs.Numbers.{AreSameMembers}

-- as `lower` asks it of each row: keys are distinct, each datapath that has rows has one, and the values of matches stand with their
-- fields
pub record CanLower (net : Network) (keys : Keys) : Type 0 where
  pub hold : IsKeys keys
  pub live : (row : LFlow) (datapath : Name) → IsPairedRow net row datapath → IsSome (at keys.datapaths datapath)
  pub suited : (row : LFlow) (datapath : Name) → IsPairedRow net row datapath → are_suited row.matching true ≡ true

-- The values of the matches of all rows stand with their fields.
abbrev pub SuitedLaw : Type 0
SuitedLaw = (net : Network) → IsValid net → (row : LFlow) (datapath : Name) → IsPairedRow net row datapath → are_suited row.matching true ≡ true

-- Where who has a key by the records has a live one, all rows can be lowered.
abbrev pub CanLowerLaw : Type 0
CanLowerLaw = (net : Network) (keys : Keys) → IsValid net → IsKeys keys → ((owner : KeyOwner) → Among owner (owners_of net) → IsLive keys owner) → CanLower net keys

-- No match of a row is wider than a match may be, where names of sets and groups stand for what they do in the records.
abbrev pub NarrowLaw : Type 0
NarrowLaw =
    (net : Network) → IsValid net → (row : LFlow) (datapath : Name) → IsPairedRow net row datapath
    → (members : Members) → AreSameMembers (roster_of net).members members → width_of members row.matching ≤ MAX_WIDTH

-- Where who has a key by the records has a live one, each port that an action of a row names has one.
abbrev pub NamedPortsLaw : Type 0
NamedPortsLaw =
    (net : Network) (keys : Keys) → IsValid net → ((owner : KeyOwner) → Among owner (owners_of net) → IsLive keys owner)
    → (row : LFlow) (datapath : Name) → IsPairedRow net row datapath → AllByRecursion (NamesLivePort keys) row.actions
