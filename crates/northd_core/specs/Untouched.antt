-- When a unit is lowered to the same flows by other records and keys.
use Rattle.std.specs.Prelude.{◌≡◌, Some}
use Rattle.ovn_base.specs.declared.name.Name.{Name}
use Rattle.ovn_base.specs.names.ByName.{at}
use Rattle.address_sets.specs.Members.{sets_of}
use Rattle.tunnel_keys.specs.Keys.{ports_on}
use Rattle.nb_records.specs.Network.{is_there}
use Rattle.nb_records.specs.declared.kinds.Kind.TheVariants as kind
use Rattle.logical_flows.specs.declared.unit.UnitId.{UnitId}
use Rattle.logical_flows.specs.declared.unit.UnitId.TheVariants as unit
use Rattle.stage_rows.specs.Reads.{AgreeOnReads}
use Rattle.stage_rows.specs.Units.{datapath_of}
use Rattle.flow_lowering.specs.LoweredFlows.{live_datapath_key}
use Rattle.northd_core.specs.Lowering.{Lowering, CanCompile, lowered_of}

-- the keys of the ports and the members of the sets that its matches and actions name are the same: a port's rows name it alone, those of what a router's port reaches that port, a
-- rule's any on its datapath, a route's one of its router, and all others none; and a switch is there in both records or in neither, of which no fact that it reads tells
abbrev pub AgreeOnNames : Lowering → Lowering → UnitId → Type 0
AgreeOnNames before after (unit.Port q) = at before.keys.ports q ≡ at after.keys.ports q
AgreeOnNames before after (unit.Rule r d) = (ports_on before.keys.ports d ≡ ports_on after.keys.ports d) × (sets_of before.net ≡ sets_of after.net)
AgreeOnNames before after (unit.Route r) = (q : Name) → at before.keys.ports q ≡ at after.keys.ports q
AgreeOnNames before after (unit.Neighbour port ip) = at before.keys.ports port ≡ at after.keys.ports port
AgreeOnNames before after (unit.Switch d) = is_there before.net kind.Switch d ≡ is_there after.net kind.Switch d
AgreeOnNames before after other = Unit {0}

-- what the unit reads is the same in both records, it is on the same datapath, which has the same key, and what it names has the same keys
pub record IsUntouched (before after : Lowering) (u : UnitId) : Type 0 where
  pub reads : AgreeOnReads before.net after.net u
  pub place : datapath_of before.net u ≡ datapath_of after.net u
  pub on : (d : Name) → datapath_of before.net u ≡ Some d → live_datapath_key before.keys d ≡ live_datapath_key after.keys d
  pub names : AgreeOnNames before after u

-- Such a unit is lowered to the same flows.
abbrev pub UntouchedLaw : Type 0
UntouchedLaw = (before after : Lowering) → CanCompile before → CanCompile after → (u : UnitId) → IsUntouched before after u → lowered_of before u ≡ lowered_of after u
