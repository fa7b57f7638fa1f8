-- What comes of a packet on a chassis, where its tables are held and where they aren't.
use Rattle.std.specs.Prelude.{◌≡◌, ℕ, false, List, [], Some, None, Result, Ok, Err, IfOk, OnOk, refl}
use Rattle.std.specs.List.{AllByRecursion}
use Rattle.std.specs.Map.{set_value}
use Rattle.std.proofs.Common.{ap, ◌∙◌}
use Rattle.ovn_base.specs.declared.name.Name.{Name}
use Rattle.ovn_base.specs.names.SameName.{same_name}
use Rattle.inet_packet.specs.declared.packet.Packet.{Packet}
use Rattle.flow_table.specs.declared.flow.Flow.{Flow}
use Rattle.switch_engine.specs.declared.effect.Entry.{Entry}
use Rattle.switch_engine.specs.declared.walk.RunOut.{RunOut}
use Rattle.switch_engine.specs.Framed.{CanBeSent}
use Rattle.switch_engine.specs.Outcome.{any_legal, of_program}
use Rattle.switch_engine.specs.Zones.{HeldZones}
use Rattle.chassis_sim.specs.Changing.{HasRoomFor}
use Rattle.chassis_sim.specs.Holding.{IsPassage, IsWalkBy, lost_at}
use Rattle.chassis_sim.specs.State.{at_name}
use Rattle.chassis_sim.specs.Tables.{zones_held}
use Rattle.chassis_sim.proofs.Emptying.{lists, more_room}
use Rattle.chassis_sim.proofs.Lookups.{seen_found, seen_written}
use Rattle.chassis_sim.proofs.Readiness.{keeps_itself}

module _ {E : Type 0} (name : Name) (entry : Entry) (now : ℕ) (packet : Packet) (result : Result RunOut E) where
  -- where no tables are held
  pub lost_passage : (zones : List (Name × HeldZones))
      → IfOk result (λ run. run.walk ≡ [])
      → IfOk result (λ run. run.effects ≡ lost_at entry)
      → IfOk result (λ run. AllByRecursion CanBeSent run.effects)
      → IfOk result (IsPassage name None entry now packet zones zones)
  lost_passage zones = by result
    where
      by : (r : Result RunOut E) → IfOk r (λ run. run.walk ≡ []) → IfOk r (λ run. run.effects ≡ lost_at entry) → IfOk r (λ run. AllByRecursion CanBeSent run.effects)
          → IfOk r (IsPassage name None entry now packet zones zones)
      by (Ok run) walk effects can = record { any = (walk, effects, refl); own = (walk, effects, refl); can = can; room = keeps_itself zones }
      by (Err fault) walk effects can = tt

  -- through the tables that are held
  pub walked_passage : (flows : List Flow) (old new : List (Name × HeldZones)) (before left : HeldZones)
      → at_name old name ≡ Some before
      → new ≡ set_value (same_name name) old left
      → at_name new name ≡ Some left
      → ((other : Name) → same_name name other ≡ false → at_name new other ≡ at_name old other)
      → IfOk result (λ run. IsWalkBy any_legal flows entry now packet before.zones run.walk run.effects left.zones)
      → IfOk result (λ run. IsWalkBy of_program flows entry now packet before.zones run.walk run.effects left.zones)
      → IfOk result (λ run. AllByRecursion CanBeSent run.effects)
      → OnOk result ((room number : ℕ) → HasRoomFor room number (Some before) → HasRoomFor room number (Some left))
      → IfOk result (IsPassage name (Some flows) entry now packet old new)
  walked_passage flows old new before left was written is_now others = by result
    where
      by : (r : Result RunOut E)
          → IfOk r (λ run. IsWalkBy any_legal flows entry now packet before.zones run.walk run.effects left.zones)
          → IfOk r (λ run. IsWalkBy of_program flows entry now packet before.zones run.walk run.effects left.zones)
          → IfOk r (λ run. AllByRecursion CanBeSent run.effects)
          → OnOk r ((room number : ℕ) → HasRoomFor room number (Some before) → HasRoomFor room number (Some left))
          → IfOk r (IsPassage name (Some flows) entry now packet old new)
      by (Ok run) any own can more =
          let found = seen_found lists old name before was in
          let is = ap zones_held written ∙ seen_written lists (same_name name) old left in
          record {
            any = (before.zones, left.zones, found, is, any);
            own = (before.zones, left.zones, found, is, own);
            can = can;
            room = λ room number other enough. more_room old new name before left was is_now others room (more room) number other enough;
          }
      by (Err fault) any own can more = tt
