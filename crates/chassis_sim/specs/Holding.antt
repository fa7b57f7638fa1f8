-- What always holds of what the chassis hold.
use Rattle.std.specs.Prelude.{◌≡◌, ℕ, false, List, [], ◌∷◌, Option, Some, None, is_some}
use Rattle.std.specs.List.{AllByRecursion}
use Rattle.std.specs.List.Sorted.{IsStrictlySortedBy}
use Rattle.std.specs.Map.{keys_of, set_value}
use Rattle.std.specs.Ordering.{nat_cmp}
use Rattle.ovn_base.specs.declared.name.Name.{Name}
use Rattle.ovn_base.specs.names.SameName.{same_name}
use Rattle.inet_packet.specs.declared.packet.Packet.{Packet}
use Rattle.flow_table.specs.declared.flow.Flow.{Flow}
use Rattle.switch_engine.specs.declared.effect.Effect.{Effect}
use Rattle.switch_engine.specs.declared.effect.Effect.TheVariants.{Lost}
use Rattle.switch_engine.specs.declared.effect.Entry.{Entry}
use Rattle.switch_engine.specs.declared.effect.Entry.TheVariants.{Vif, Tunnel}
use Rattle.switch_engine.specs.declared.walk.RunOut.{RunOut}
use Rattle.switch_engine.specs.declared.walk.Step.{Step}
use Rattle.switch_engine.specs.Framed.{CanBeSent}
use Rattle.switch_engine.specs.Outcome.{Choosing, any_legal, of_program}
use Rattle.switch_engine.specs.Proper.{IsProper}
use Rattle.switch_engine.specs.Walk.{IsWalk, start}
use Rattle.switch_engine.specs.Zones.{HeldZones, ZoneLists}
use Rattle.chassis_sim.specs.Changing.{KeepsRoom}
use Rattle.chassis_sim.specs.Frames.{IsWaiting}
use Rattle.chassis_sim.specs.State.{SimState, at_name}
use Rattle.chassis_sim.specs.Tables.{rooms_held, zones_held}

-- the flows of each chassis are proper
abbrev pub AreProper : List (Name × List Flow) → Type 0
AreProper chassis = (name : Name) (flows : List Flow) → at_name chassis name ≡ Some flows → IsProper flows

-- just the chassis that are held have zones
abbrev pub AreZoned : List (Name × List Flow) → List (Name × ZoneLists) → Type 0
AreZoned chassis zones = (name : Name) → is_some (at_name zones name) ≡ is_some (at_name chassis name)

-- both
pub record AreChassis (chassis : List (Name × List Flow)) (zones : List (Name × ZoneLists)) : Type 0 where
  pub proper : AreProper chassis
  pub zoned : AreZoned chassis zones

-- the flows are proper, just the chassis that are held have zones, the frames that wait are in order of number, and each frame was sent before the next
-- one, each with a whole packet
pub record IsSimState (state : SimState) : Type 0 where
  pub proper : AreProper state.chassis
  pub zoned : AreZoned state.chassis state.zones
  pub ordered : IsStrictlySortedBy nat_cmp (keys_of state.waiting)
  pub waiting : AllByRecursion (IsWaiting state.next) state.waiting

-- the packet may match these flows at the time, with choices of this kind, from zones to zones
abbrev pub IsWalkBy : Choosing → List Flow → Entry → ℕ → Packet → ZoneLists → List Step → List Effect → ZoneLists → Type 0
IsWalkBy by flows entry now packet before steps effects after = IsWalk by flows entry now before (start entry packet ∷ []) steps effects after

-- what becomes of a packet where no flows are held: at a port nothing, and from a tunnel it is lost
abbrev pub lost_at : Entry → List Effect
lost_at (Vif port) = []
lost_at (Tunnel vni in_key out_key) = Lost ∷ []

-- other connection lists of the chassis, if it has any
abbrev pub with_lists : List (Name × ZoneLists) → Name → ZoneLists → List (Name × ZoneLists)
with_lists zones chassis lists = set_value (same_name chassis) zones lists

-- what came of the packet on the chassis at the time, by its flows and from zones to zones
abbrev pub PassesChassis : Choosing → Name → Option (List Flow) → Entry → ℕ → Packet → List (Name × ZoneLists) → List (Name × ZoneLists) → RunOut → Type 0
PassesChassis by chassis None entry now packet before after run = (run.walk ≡ []) × (run.effects ≡ lost_at entry) × (after ≡ before)
PassesChassis by chassis (Some flows) entry now packet before after run =
    (lists : ZoneLists) × (left : ZoneLists) × (at_name before chassis ≡ Some lists) × (after ≡ with_lists before chassis left) × IsWalkBy by flows entry now packet lists run.walk run.effects left

-- the packet passes with the choices of the program, which are legal; its frames can be sent, and what had room for a zone still has it
pub record IsPassage (chassis : Name) (flows : Option (List Flow)) (entry : Entry) (now : ℕ) (packet : Packet) (old new : List (Name × HeldZones)) (run : RunOut) : Type 0 where
  pub any : PassesChassis any_legal chassis flows entry now packet (zones_held old) (zones_held new) run
  pub own : PassesChassis of_program chassis flows entry now packet (zones_held old) (zones_held new) run
  pub can : AllByRecursion CanBeSent run.effects
  pub room : KeepsRoom old new

-- at most the lists of this chassis are others: those of each other chassis stay, and so does for how many more zones there is room
pub record KeepsOthers (chassis : Name) (old new : List (Name × HeldZones)) : Type 0 where
  pub lists : (other : Name) → same_name chassis other ≡ false → at_name (zones_held new) other ≡ at_name (zones_held old) other
  pub rooms : rooms_held new ≡ rooms_held old
