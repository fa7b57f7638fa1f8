-- From one datapath into the next: a copy before the output at a port that leads there, and one that comes in at the port's partner.
use Rattle.std.specs.Prelude.{◌≡◌, ◌≤◌, ◌+◌, ℕ, zero, suc, Bool, true, false, [], ◌∷◌, Option, Some, None}
use Rattle.conn_zones.specs.Zoning.{GivenNumbers, number_on}
use Rattle.conn_zones.specs.declared.numbers.TheConstants.{MAX_ZONE}
use Rattle.conn_zones.specs.declared.numbers.ZoneUse.{ZoneUse}
use Rattle.conn_zones.specs.declared.numbers.ZoneUse.TheVariants.{Dnat, Snat}
use Rattle.flow_lowering.specs.Registers.{reg_number, HasRegistersInRange}
use Rattle.flow_table.specs.declared.flow.Cause.TheVariants as cause
use Rattle.inet_packet.specs.Whole.{IsWhole}
use Rattle.inet_packet.specs.declared.packet.Packet.{Packet}
use Rattle.inet_packet.specs.declared.regs.Reg.TheVariants as reg
use Rattle.inet_packet.specs.declared.regs.Regs.{Regs}
use Rattle.nb_records.specs.Network.{Network}
use Rattle.nb_records.specs.Routers.{Partner, switch_side, router_side, partner_of_switch_port, partner_of_router_port}
use Rattle.nb_records.specs.Switches.{is_virtual}
use Rattle.nb_records.specs.declared.router.RouterPort.{RouterPort}
use Rattle.nb_records.specs.declared.switch.SwitchPort.{SwitchPort}
use Rattle.net_model.specs.Config.{home_of, home_of_router_port, is_here}
use Rattle.net_model.specs.Entry.{Scene}
use Rattle.net_model.specs.Forwarding.{is_translating}
use Rattle.net_model.specs.Trail.{Lists, dnat_of, snat_of, Spot, spot_of, spot_in_router, drop_for}
use Rattle.ovn_base.specs.declared.limits.TheConstants.{MAX_HOPS}
use Rattle.ovn_base.specs.declared.name.Name.{Name}
use Rattle.ovn_base.specs.declared.stages.TheConstants.{ADMIT_TABLE, OUTPUT_TABLE}
use Rattle.ovn_base.specs.names.ByName.{at}
use Rattle.row_laws.specs.Numbers.{IsDatapathKey, IsPortKey}
use Rattle.switch_engine.specs.Zones.{ZoneLists}
use Rattle.switch_engine.specs.declared.carried.Carried.{Carried}
use Rattle.sim_laws.specs.passes.Physical.{IsWired}
use Rattle.sim_laws.specs.pipelines.FirstTable.{AreFirst}
use Rattle.sim_laws.specs.pipelines.HeldLists.{HoldLists}
use Rattle.sim_laws.specs.pipelines.Pieces.{Piece, ComesTo}
use Rattle.sim_laws.specs.pipelines.Standing.{Chassis, net_of, course_of, IsLaidOut}
use Rattle.sim_laws.specs.pipelines.WalkOn.{Comes}
use Rattle.sim_laws.specs.routers.RouterStanding.{AreFirstInRouter}

-- ---- a chassis

-- The zones of routers' lists have the numbers that were given, and a router that translates and is at home on the chassis has both.
pub record AreZonedHere (s : Chassis) (numbers : GivenNumbers) : Type 0 where
  pub dnat : (router : Name) → s.number (dnat_of router) ≡ number_on numbers s.scene.here (Dnat router)
  pub snat : (router : Name) → s.number (snat_of router) ≡ number_on numbers s.scene.here (Snat router)
  pub both : (r : RouterPort) → at (net_of s).router_ports r.name ≡ Some r → is_here s.scene.here (home_of_router_port s.scene.config r) ≡ true → is_translating (net_of s) r ≡ true
      → ((z : ℕ) × (s.number (dnat_of r.router) ≡ Some z)) × ((z : ℕ) × (s.number (snat_of r.router) ≡ Some z))

-- The tables of the chassis hold their rows, those of the pipelines and those around them; zones have numbers in range, and routers that are at home
-- theirs; and who leads to a router is bound to no chassis.
pub record IsLaidAround (s : Chassis) (numbers : GivenNumbers) : Type 0 where
  pub laid : IsLaidOut s
  pub wired : IsWired s numbers
  pub in_range : (zone : ZoneUse) (n : ℕ) → number_on numbers s.scene.here zone ≡ Some n → n ≤ MAX_ZONE
  pub zoned : AreZonedHere s numbers
  pub unbound : (q : SwitchPort) → at (net_of s).switch_ports q.name ≡ Some q → is_virtual q ≡ false → at s.scene.config.bindings q.name ≡ None

-- ---- what the network says

-- The spot is that of a port that leads into another datapath, which is at home here, and this its partner there: a port of a switch that leads to a
-- router, or a port of a router.
pub data LeadsTo (s : Scene) (by : Spot) (partner : Option Partner) : Type 0 where
  to_router : (o : SwitchPort) → at s.config.net.switch_ports o.name ≡ Some o → is_virtual o ≡ false → is_here s.here (home_of s.config o) ≡ true → by ≡ spot_of o
      → partner ≡ partner_of_switch_port s.config.net o → LeadsTo s by partner
  of_router : (o : RouterPort) → at s.config.net.router_ports o.name ≡ Some o → is_here s.here (home_of_router_port s.config o) ≡ true → by ≡ spot_in_router o
      → partner ≡ partner_of_router_port s.config.net o → LeadsTo s by partner

-- the partner is at home here
abbrev pub is_partner_here : Scene → Partner → Bool
is_partner_here s (switch_side q) = is_here s.here (home_of s.config q)
is_partner_here s (router_side r) = is_here s.here (home_of_router_port s.config r)

-- the packet comes to the partner, if there is one, as long as so many passes are left
abbrev pub into_next : ℕ → Spot → Option Partner → Piece Partner
into_next left by None rest t = drop_for cause.NoPeer by t
into_next zero by (Some partner) rest t = drop_for cause.HopLimit by t
into_next (suc left) by (Some partner) rest t = rest t partner

-- ---- what the tables do

-- The copy stands before the output with the keys of the port by which it leaves, which leads to the partner.
pub record IsBeforePatch (s : Chassis) (by : Spot) (partner : Option Partner) (p : Packet) (lists : Lists) (zones : ZoneLists) (copy : Carried) : Type 0 where
  pub in_table : copy.table ≡ OUTPUT_TABLE
  pub packet : copy.packet ≡ p
  pub whole : IsWhole p
  pub leads : LeadsTo s.scene by partner
  pub on : IsDatapathKey s.keys by.datapath copy.regs.dp
  pub to : IsPortKey s.keys by.datapath by.port copy.regs.out_port
  pub within : HasRegistersInRange copy.regs
  pub hold : HoldLists s.number zones lists

-- a partner is a port of the records; one of a switch leads to a router
abbrev pub IsThere : Network → Partner → Type 0
IsThere net (switch_side q) = (at net.switch_ports q.name ≡ Some q) × (is_virtual q ≡ false)
IsThere net (router_side r) = at net.router_ports r.name ≡ Some r

abbrev pub AreFirstAt : Chassis → Partner → Regs → Type 0
AreFirstAt s (switch_side q) regs = AreFirst s q regs
AreFirstAt s (router_side r) regs = AreFirstInRouter s r regs

-- The copy stands before the first table of the partner's datapath, which is at home here, and its registers name the partner as the port of entry; it did
-- not come out of a tunnel, and may not go back.
pub record IsEntering (s : Chassis) (partner : Partner) (p : Packet) (lists : Lists) (zones : ZoneLists) (copy : Carried) : Type 0 where
  pub in_table : copy.table ≡ ADMIT_TABLE
  pub packet : copy.packet ≡ p
  pub whole : IsWhole p
  pub there : IsThere (net_of s) partner
  pub here : is_partner_here s.scene partner ≡ true
  pub first : AreFirstAt s partner copy.regs
  pub loopback : reg_number reg.Loopback copy.regs ≡ 0
  pub arrived : reg_number reg.Arrived copy.regs ≡ 0
  pub hold : HoldLists s.number zones lists

-- it has passed once more, and not too often
pub record HasPassed (s : Chassis) (p : Packet) (before : Carried) (lists : Lists) (partner : Partner) (zones : ZoneLists) (copy : Carried) : Type 0 where
  pub enters : IsEntering s partner p lists zones copy
  pub passes : copy.passes ≡ before.passes + 1
  pub few : copy.passes ≤ MAX_HOPS

-- Whatever walk takes on a copy that is to leave by such a port brings it to the partner; it is dropped where there is none, or where it has passed
-- as often as it may.
abbrev pub PatchLaw : Type 0
PatchLaw =
    (s : Chassis) (numbers : GivenNumbers) → IsLaidAround s numbers → (by : Spot) (partner : Option Partner) (p : Packet) (lists : Lists) (zones : ZoneLists) (copy : Carried)
    → IsBeforePatch s by partner p lists zones copy → (left : ℕ) → copy.passes + left ≡ MAX_HOPS
    → Comes (course_of s) zones (copy ∷ []) (ComesTo s (into_next left by partner) lists (HasPassed s p copy))
