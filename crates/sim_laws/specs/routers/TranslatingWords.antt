-- A copy in a router that translates: the zones of the router's two connection lists, and what the copy remembers of one of them.
use Rattle.std.specs.Prelude.{◌≡◌, ℕ, Bool, true, false, cond, List, Some}
use Rattle.std.proofs.Math.Dec.{leb as nat_le}
use Rattle.conn_table.specs.Tracking.{Seen, seen, state_of}
use Rattle.flow_lowering.specs.LoweredFlows.{lowered_ops}
use Rattle.flow_table.specs.declared.flow.ZoneOf.{ZoneOf}
use Rattle.inet_packet.specs.Whole.{IsWhole}
use Rattle.inet_packet.specs.declared.packet.Packet.{Packet}
use Rattle.inet_packet.specs.declared.regs.Reg.{Reg}
use Rattle.inet_packet.specs.declared.regs.Reg.TheVariants as reg
use Rattle.inet_packet.specs.declared.regs.Regs.{Regs}
use Rattle.logical_flows.specs.declared.action.Action.{Action}
use Rattle.net_model.specs.Headers.{carries_ip4}
use Rattle.net_model.specs.Trail.{Lists, ListOwner, dnat_of, snat_of, list_of, Spot}
use Rattle.ovn_base.specs.declared.name.Name.{Name}
use Rattle.ovn_base.specs.declared.stages.TheConstants.{LOOKUP_TABLE}
use Rattle.row_laws.specs.Copies.{finding_code}
use Rattle.row_laws.specs.Numbers.{IsDatapathKey, IsPortKey}
use Rattle.row_laws.specs.Passages.{finding_of}
use Rattle.switch_engine.specs.Outcome.{outcome, going_on, choosing, IsDone}
use Rattle.switch_engine.specs.Zones.{ZoneLists, zone_number}
use Rattle.switch_engine.specs.declared.carried.Carried.{Carried}
use Rattle.switch_engine.specs.declared.effect.Effect.{Effect}
use Rattle.sim_laws.specs.pipelines.HeldLists.{ZoneNumbers, HoldLists}
use Rattle.sim_laws.specs.pipelines.Standing.{Chassis, IsStill}
use Rattle.sim_laws.specs.pipelines.WalkOn.{Reached}

-- ---- where a copy is

-- the registers hold the numbers of the zones of the router's DNAT list and of its SNAT list
pub record HaveRouterZones (number : ZoneNumbers) (router : Name) (regs : Regs) : Type 0 where
  pub dnat : number (dnat_of router) ≡ Some regs.z_dnat
  pub snat : number (snat_of router) ≡ Some regs.z_snat

-- the register of the port that a drop names: that of entry up to the last look-up, and that of exit later
abbrev pub dropping_port : Carried → ℕ
dropping_port copy = cond (nat_le copy.table LOOKUP_TABLE) copy.regs.in_port copy.regs.out_port

-- The copy of the packet is in the router of the spot, and would be dropped at the spot's port; it has the numbers of both, and of the zones of
-- the router's lists, and the zones hold the lists.
pub record IsAtSpot (s : Chassis) (spot : Spot) (p : Packet) (lists : Lists) (zones : ZoneLists) (copy : Carried) : Type 0 where
  pub packet : copy.packet ≡ p
  pub whole : IsWhole p
  pub on : IsDatapathKey s.keys spot.datapath copy.regs.dp
  pub port : IsPortKey s.keys spot.datapath spot.port (dropping_port copy)
  pub numbers : HaveRouterZones s.number spot.datapath copy.regs
  pub hold : HoldLists s.number zones lists

-- ---- what it remembers

-- what the owner's list says of a packet
abbrev pub seen_by : ListOwner → Lists → Packet → Seen
seen_by owner lists p = seen (list_of lists owner) p

-- The register has the number of what the owner's list says of the packet, and the copy remembers it, with the number of the owner's zone.
pub record HasSought (z : ZoneOf) (owner : ListOwner) (lists : Lists) (p : Packet) (copy : Carried) : Type 0 where
  pub state : copy.regs.state ≡ finding_code (finding_of (seen_by owner lists p))
  pub entry : copy.found ≡ Some (record { zone = zone_number z copy.regs; state = state_of (seen_by owner lists p) })

-- ---- what actions bring on

-- the actions, lowered and done on a copy, bring it so far, whatever they tell
abbrev pub Bring : Chassis → List Action → ZoneLists → Carried → Reached → Type 0
Bring s actions zones copy So =
    (told : List Effect) → IsDone s.by (outcome s.entry s.scene.now (lowered_ops s.keys actions) (choosing copy zones told)) told
    → So told (outcome s.entry s.scene.now (lowered_ops s.keys actions) (choosing copy zones told)).zones
    (going_on (outcome s.entry s.scene.now (lowered_ops s.keys actions) (choosing copy zones told)))

-- the registers in which is noted what a list says
abbrev pub is_sought : Reg → Bool
is_sought reg.State = true
is_sought reg.Blocked = true
is_sought _ = false

-- The copy goes on at the table with the packet, which is one of IPv4 where it was one before; its registers are as before, but for some.
pub record GoesOnAt (s : Chassis) (table : ℕ) (others : Reg → Bool) (before : Carried) (lists : Lists) (p : Packet) (zones : ZoneLists) (copy : Carried) : Type 0 where
  pub in_table : copy.table ≡ table
  pub packet : copy.packet ≡ p
  pub whole : IsWhole p
  pub ip4 : carries_ip4 copy.packet ≡ carries_ip4 before.packet
  pub still : IsStill others before copy
  pub hold : HoldLists s.number zones lists

-- so it does once it was looked up in the owner's list
pub record GoesOnSought (s : Chassis) (table : ℕ) (z : ZoneOf) (owner : ListOwner) (before : Carried) (lists : Lists) (p : Packet) (zones : ZoneLists) (copy : Carried) : Type 0 where
  pub goes : GoesOnAt s table is_sought before lists p zones copy
  pub sought : HasSought z owner lists p copy

-- and so it does with all registers as before
abbrev pub is_none_set : Reg → Bool
is_none_set r = false
