-- Rows that agree wherever a packet is, on routers that translate as on those that do not.
use Rattle.std.specs.Prelude.{◌≡◌, Some}
use Rattle.ovn_base.specs.declared.name.Name.{Name}
use Rattle.ovn_base.specs.names.ByName.{at}
use Rattle.inet_packet.specs.declared.regs.Regs.{Regs}
use Rattle.match_cubes.specs.Suited.{HasFieldsInRange}
use Rattle.nb_records.specs.Network.{Network}
use Rattle.nb_records.specs.declared.router.Router.{Router}
use Rattle.nb_rules.specs.Valid.{IsValid}
use Rattle.logical_flows.specs.Stages.{stage_table}
use Rattle.logical_flows.specs.declared.flow.LFlow.{LFlow}
use Rattle.logical_flows.specs.declared.stage.Stage.{Stage}
use Rattle.net_model.specs.Sights.{Sight}
use Rattle.row_laws.specs.Rows.{IsBestRow}
use Rattle.row_laws.specs.routers.RouterCopies.{router_roster}

-- Two unbeaten rows of the stage that hold of one packet on a router have equal actions, whatever the registers, the port of entry and the
-- one by which the packet leaves.
abbrev pub AnyRouterAgreesAnywhereLaw : Stage → Type 0
AnyRouterAgreesAnywhereLaw s =
    (net : Network) → IsValid net → (d : Name) (router : Router) → at net.routers d ≡ Some router → (regs : Regs) (sight : Sight) → HasFieldsInRange sight.packet
    → (row other : LFlow) → IsBestRow net (router_roster net) (stage_table s) d regs sight row → IsBestRow net (router_roster net) (stage_table s) d regs sight other
    → row.actions ≡ other.actions
