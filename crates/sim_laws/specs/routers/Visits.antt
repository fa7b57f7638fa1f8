-- The laws of visits and arrivals in networks whose switches lead to routers.
use Rattle.std.specs.Prelude.{◌≡◌, ℕ, true, [], ◌∷◌, Some}
use Rattle.conn_zones.specs.Zoning.{GivenNumbers}
use Rattle.inet_packet.specs.Whole.{IsWhole}
use Rattle.inet_packet.specs.declared.packet.Packet.{Packet}
use Rattle.nb_records.specs.Switches.{is_virtual}
use Rattle.nb_records.specs.declared.switch.SwitchPort.{SwitchPort}
use Rattle.net_model.specs.Arrival.{arrival}
use Rattle.net_model.specs.Trail.{Lists}
use Rattle.net_model.specs.Visit.{visit}
use Rattle.net_model.specs.declared.crossing.Crossing.{Crossing}
use Rattle.ovn_base.specs.names.ByName.{at}
use Rattle.switch_engine.specs.Walk.{start}
use Rattle.switch_engine.specs.Zones.{ZoneLists}
use Rattle.switch_engine.specs.declared.effect.Entry.TheVariants.{Vif}
use Rattle.sim_laws.specs.passes.Arriving.{tunnel_entry_of, AreOwned, MayArrive}
use Rattle.sim_laws.specs.passes.ToEnd.{EndsAs}
use Rattle.sim_laws.specs.pipelines.HeldLists.{HoldLists}
use Rattle.sim_laws.specs.pipelines.Standing.{Chassis, net_of, course_of}
use Rattle.sim_laws.specs.pipelines.WalkOn.{Comes}
use Rattle.sim_laws.specs.routers.Patches.{IsLaidAround}

-- Whatever walk a packet takes from table 0 on that comes in at a virtual port that is bound to the chassis does what the network says of its visit,
-- through switches and routers, to the last end.
abbrev pub RoutedVisitLaw : Type 0
RoutedVisitLaw =
    (s : Chassis) (numbers : GivenNumbers) → IsLaidAround s numbers
    → (i : SwitchPort) → at (net_of s).switch_ports i.name ≡ Some i → is_virtual i ≡ true → at s.scene.config.bindings i.name ≡ Some s.scene.here → s.entry ≡ Vif i.name
    → (p : Packet) → IsWhole p → (lists : Lists) (zones : ZoneLists) → HoldLists s.number zones lists
    → Comes (course_of s) zones (start (Vif i.name) p ∷ []) (EndsAs s (λ t. visit s.scene i t p) lists)

-- And whatever walk the packet of a crossing takes from its frame does what the network says of its arrival.
abbrev pub RoutedArrivalLaw : Type 0
RoutedArrivalLaw =
    (s : Chassis) (numbers : GivenNumbers) → IsLaidAround s numbers → AreOwned s
    → (n : ℕ) (x : Crossing) → MayArrive s x → s.entry ≡ tunnel_entry_of s.keys x
    → (lists : Lists) (zones : ZoneLists) → HoldLists s.number zones lists
    → Comes (course_of s) zones (start (tunnel_entry_of s.keys x) x.packet ∷ []) (EndsAs s (λ t. arrival s.scene n x t) lists)
