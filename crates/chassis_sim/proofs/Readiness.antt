-- What was prepared stays so where zones change only in their lists.
use Rattle.std.specs.Prelude.{◌≡◌, ◌≤◌, ℕ, Bool, true, false, cond, List, [], ◌∷◌, length, Some}
use Rattle.std.proofs.Common.{arith, sym, ap, subst, ◌∙◌}
use Rattle.std.specs.Map.Calls.{RetainsPairs}
use Rattle.ovn_base.specs.declared.delta.Delta.{Delta}
use Rattle.ovn_base.specs.declared.name.Name.{Name}
use Rattle.ovn_base.specs.names.SameName.{same_name}
use Rattle.flow_table.specs.declared.flow.Flow.{Flow}
use Rattle.switch_engine.specs.Zones.{HeldZones, all_expired}
use Rattle.chassis_sim.specs.Changing.{HasRoomFor, KeepsRoom, StaysPrepared}
use Rattle.chassis_sim.specs.State.{SimRoom, at_name}
use Rattle.chassis_sim.proofs.Emptying.{same_rooms}
use Rattle.chassis_sim.proofs.ZoneNumbers.{SameZones, expired_same, room_stays}

-- another list of zones for that of the room, and no less room for chassis
pub stays : {T : Type 0} (ready : T → Delta Flow → Type 0) (old : SimRoom T) (zones : List (Name × HeldZones)) (zoned : ℕ)
    → KeepsRoom old.zones zones → old.zoned ≤ zoned → StaysPrepared ready old (record old { zones = zones; zoned = zoned })
stays ready old zones zoned keeps more change prepared = record {
  chassis = prepared.chassis;
  bindings = prepared.bindings;
  names = prepared.names;
  zoned = omega (arith, more, prepared.zoned);
  readied = record {
    tables = prepared.readied.tables;
    zones = same_rooms (length change.emptied) old.zones zones (keeps (length change.emptied)) change.emptied prepared.readied.zones;
    enough = prepared.readied.enough;
    fresh = prepared.readied.fresh;
  };
  once = prepared.once;
}

-- where nothing changes
pub keeps_itself : (zones : List (Name × HeldZones)) → KeepsRoom zones zones
keeps_itself zones room number name h = h

-- zones whose connections end
pub expired_room : (now : ℕ) (old new : HeldZones) → new.zones ≡ all_expired now old.zones → old.room ≤ new.room → (room number : ℕ) → HasRoomFor room number (Some old) → HasRoomFor room number (Some new)
expired_room now old new is more = room_stays old new (subst (λ zones. SameZones old.zones zones) (sym is) (expired_same now old.zones)) more

module _ {F : Type 0} (Takes : F → Name → HeldZones → Bool → HeldZones → F → Type 0) where
  -- a closure that always answers `true` and ends connections, and stays as it was
  pub expired_rooms : (now : ℕ) (f : F)
      → ((k : Name) (v : HeldZones) (b : Bool) (w : HeldZones) (f' : F) → Takes f k v b w f' → (b ≡ true) × (w.zones ≡ all_expired now v.zones) × (v.room ≤ w.room) × (f' ≡ f))
      → (es kept : List (Name × HeldZones)) → RetainsPairs Takes f es kept → KeepsRoom es kept
  expired_rooms now f h [] kept r room number name enough = subst (λ l. HasRoomFor room number (at_name l name)) (sym r) enough
  expired_rooms now f h (e ∷ es) kept r room number name enough =
      let a = h e.0 e.1 r.0 r.1 r.2 r.4 in
      let rest = expired_rooms now f h es r.3 (subst (λ u. RetainsPairs Takes u es r.3) a.3 r.5) room number name in
      subst (λ l. HasRoomFor room number (at_name l name)) (sym (r.6 ∙ ap (λ b. cond b ((e.0, r.1) ∷ r.3) r.3) a.0)) (by (same_name name e.0) enough rest)
    where
      by : (b : Bool) → HasRoomFor room number (cond b (Some e.1) (at_name es name)) → (HasRoomFor room number (at_name es name) → HasRoomFor room number (at_name r.3 name))
          → HasRoomFor room number (cond b (Some r.1) (at_name r.3 name))
      by true here rest = expired_room now e.1 r.1 (h e.0 e.1 r.0 r.1 r.2 r.4).1 (h e.0 e.1 r.0 r.1 r.2 r.4).2 room number here
      by false there rest = rest there
