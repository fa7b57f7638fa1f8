-- The law of a pass through a router, from table 32 on.
use Rattle.std.specs.Prelude.{◌≡◌, true, [], ◌∷◌}
use Rattle.conn_zones.specs.Zoning.{GivenNumbers}
use Rattle.flow_lowering.specs.Registers.{reg_number}
use Rattle.inet_packet.specs.declared.packet.Packet.{Packet}
use Rattle.inet_packet.specs.declared.regs.Reg.TheVariants as reg
use Rattle.nb_records.specs.Routers.{partner_of_router_port}
use Rattle.nb_records.specs.declared.router.RouterPort.{RouterPort}
use Rattle.net_model.specs.Config.{home_of_router_port, is_here}
use Rattle.net_model.specs.Trail.{Lists, spot_in_router}
use Rattle.switch_engine.specs.Zones.{ZoneLists}
use Rattle.switch_engine.specs.declared.carried.Carried.{Carried}
use Rattle.sim_laws.specs.pipelines.Pieces.{ComesTo}
use Rattle.sim_laws.specs.pipelines.Standing.{Chassis, net_of, course_of}
use Rattle.sim_laws.specs.pipelines.WalkOn.{Comes}
use Rattle.sim_laws.specs.routers.Patches.{IsLaidAround, IsBeforePatch}
use Rattle.sim_laws.specs.routers.RouterWays.{Leaving, way_by_port, GoesOut}

-- the copy has come to the output at the port of its way, and has passed as often as before
pub record ComesToPatch (s : Chassis) (x : Leaving) (before : Carried) (lists : Lists) (p : Packet) (zones : ZoneLists) (copy : Carried) : Type 0 where
  pub stands : IsBeforePatch s (spot_in_router x.out) (partner_of_router_port (net_of s) x.out) p lists zones copy
  pub passes : copy.passes ≡ before.passes

-- Whatever walk takes on a copy that goes to a port of a router that is at home here, and that did not come out of a tunnel, translates its source as the
-- network says, and brings it to the output at that port, or drops it.
abbrev pub RouterPassLaw : Type 0
RouterPassLaw =
    (s : Chassis) (numbers : GivenNumbers) → IsLaidAround s numbers
    → (i : RouterPort) → is_here s.scene.here (home_of_router_port s.scene.config i) ≡ true
    → (first : Carried) (lists : Lists) (x : Leaving) (zones : ZoneLists) (copy : Carried) → GoesOut s i first lists x zones copy → reg_number reg.Arrived copy.regs ≡ 0
    → Comes (course_of s) zones (copy ∷ []) (ComesTo s (way_by_port s x) lists (ComesToPatch s x copy))
