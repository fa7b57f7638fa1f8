-- The laws of passing from one datapath into the next, by the passes that are left.
use Rattle.std.specs.Prelude.{◌≡◌, ◌+◌, ℕ, [], ◌∷◌, Option}
use Rattle.conn_zones.specs.Zoning.{GivenNumbers}
use Rattle.inet_packet.specs.declared.packet.Packet.{Packet}
use Rattle.nb_records.specs.Routers.{Partner, switch_side, router_side}
use Rattle.nb_records.specs.declared.router.RouterPort.{RouterPort}
use Rattle.nb_records.specs.declared.switch.SwitchPort.{SwitchPort}
use Rattle.net_model.specs.Forwarding.{into_router}
use Rattle.net_model.specs.Trail.{Lists, Spot}
use Rattle.net_model.specs.Visit.{passing, into_switch}
use Rattle.ovn_base.specs.declared.limits.TheConstants.{MAX_HOPS}
use Rattle.switch_engine.specs.Zones.{ZoneLists}
use Rattle.switch_engine.specs.declared.carried.Carried.{Carried}
use Rattle.sim_laws.specs.passes.ToEnd.{EndsAs}
use Rattle.sim_laws.specs.pipelines.Standing.{Chassis, course_of}
use Rattle.sim_laws.specs.pipelines.WalkOn.{Comes}
use Rattle.sim_laws.specs.routers.Patches.{IsLaidAround, IsBeforePatch, IsEntering}

-- Whatever walk takes on a copy that is to leave by a port that leads into another datapath does what the network says of it, to the last end, where so
-- many passes are left to it; whether routers translate or not.
abbrev pub PassingLaw : ℕ → Type 0
PassingLaw left =
    (s : Chassis) (numbers : GivenNumbers) → IsLaidAround s numbers
    → (by : Spot) (partner : Option Partner) (p : Packet) (lists : Lists) (zones : ZoneLists) (copy : Carried) → IsBeforePatch s by partner p lists zones copy → copy.passes + left ≡ MAX_HOPS
    → Comes (course_of s) zones (copy ∷ []) (EndsAs s (λ t. passing left s.scene by partner t p) lists)

-- The same of a copy that comes into a switch at a port that leads to a router,
abbrev pub IntoSwitchLaw : ℕ → Type 0
IntoSwitchLaw left =
    (s : Chassis) (numbers : GivenNumbers) → IsLaidAround s numbers
    → (q : SwitchPort) (p : Packet) (lists : Lists) (zones : ZoneLists) (copy : Carried) → IsEntering s (switch_side q) p lists zones copy → copy.passes + left ≡ MAX_HOPS
    → Comes (course_of s) zones (copy ∷ []) (EndsAs s (λ t. into_switch (passing left s.scene) s.scene q t p) lists)

-- and of one that comes into a router.
abbrev pub IntoRouterLaw : ℕ → Type 0
IntoRouterLaw left =
    (s : Chassis) (numbers : GivenNumbers) → IsLaidAround s numbers
    → (r : RouterPort) (p : Packet) (lists : Lists) (zones : ZoneLists) (copy : Carried) → IsEntering s (router_side r) p lists zones copy → copy.passes + left ≡ MAX_HOPS
    → Comes (course_of s) zones (copy ∷ []) (EndsAs s (λ t. into_router (passing left s.scene) s.scene r t p) lists)

-- Where switches do so by what becomes of what leaves them, all do, whatever passes are left.
abbrev pub JourneysPassLaw : Type 0
JourneysPassLaw = ((left : ℕ) → PassingLaw left → IntoSwitchLaw left) → (left : ℕ) → PassingLaw left
