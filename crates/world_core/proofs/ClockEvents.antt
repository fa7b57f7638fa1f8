-- The clock goes on: connections that are idle then go in the network and on the chassis, and the world stays sound.
use Rattle.std.specs.Prelude.{◌≡◌, ◌≤◌, ◌<◌, ◌^◌, ◌+◌, ◌*◌, ◌++◌, ℕ, List, [], Option, Some, None, option_map, refl}
use Rattle.std.specs.Option.{option_and_then}
use Rattle.std.proofs.Common.{arith, ap, sym, ◌∙◌}
use Rattle.std.proofs.lemmas.Option.{none-some, same_Some}
use Rattle.address_sets.specs.Members.{sets_of}
use Rattle.conn_table.specs.Connections.{expired}
use Rattle.conn_zones.specs.Zoning.{Zoned}
use Rattle.chassis_sim.specs.State as sim
use Rattle.edit_reader.specs.declared.event.Event.TheVariants as event_of
use Rattle.event_lines.specs.Lines.{accepted_lines}
use Rattle.net_model.proofs.ListLaws.{clocked_keep}
use Rattle.net_model.specs.State.{State, clocked, event_count, expired_lists}
use Rattle.sim_laws.proofs.journey_laws.Finishing.{begins, finishes}
use Rattle.sim_laws.proofs.journey_laws.ListsSeen.{lists_are_seen}
use Rattle.sim_laws.proofs.journey_laws.Ticking.{looked_over, ticks, zone_then}
use Rattle.sim_laws.specs.journeys.SeenLists.{lists_seen}
use Rattle.sim_laws.specs.journeys.Ticking.{all_zones_expired}
use Rattle.sim_laws.specs.journeys.UnderWay.{IsUnderWay}
use Rattle.ovn_base.specs.declared.limits.TheConstants.{MAX_CLOCK}
use Rattle.ovn_base.specs.names.SameName.{same_name}
use Rattle.switch_engine.specs.Zones.{ZoneLists, all_expired, zone_at}
use Rattle.world_core.proofs.PacketEvents.{counted_world}
use Rattle.world_core.specs.Outcome.{IsAccepted}
use Rattle.world_core.specs.StepParts.{clocked_world}
use Rattle.world_setup.specs.Consistent.{IsConsistent}
use Rattle.world_core.specs.WorldView.{AreHeld, IsSound, WorldView}
use Rattle.world_setup.specs.Zones.{Relists, list_on}

module _ (m : State) (zones : Zoned) (s : sim.SimState) (seconds : ℕ) (consistent : IsConsistent m zones) (held : AreHeld m zones s) where
  abbrev now : ℕ
  now = m.clock + seconds

  ticked : IsUnderWay (clocked seconds m) zones 0 × AreHeld (clocked seconds m) zones (all_zones_expired now s)
  ticked = ticks m zones (sets_of m.config.net) 0 s seconds (begins m zones consistent.at_rest) held

  -- the zones that are left show the connection lists that are
  pub lists_left : lists_seen zones (all_zones_expired now s).zones ≡ expired_lists now m.lists
  lists_left = sym (lists_are_seen (clocked seconds m) zones (sets_of m.config.net) 0 (all_zones_expired now s) ticked.0 ticked.1)

-- each list is then without the connections that are idle
clock_lists : (zones : Zoned) (now seconds : ℕ) (s : sim.SimState) → Relists (event_of.Clock seconds) now zones zones s (all_zones_expired (now + seconds) s)
clock_lists zones now seconds s chassis lists is z = by (sim.at_name s.zones chassis) refl (sym (looked_over (all_expired (now + seconds)) (same_name chassis) s.zones) ∙ is)
  where
    by : (o : Option ZoneLists) → sim.at_name s.zones chassis ≡ o → option_map (all_expired (now + seconds)) o ≡ Some lists → zone_at lists z ≡ option_map (expired (now + seconds)) (list_on s chassis z)
    by None was e = absurd (none-some lists e)
    by (Some held) was e =
        ap (λ l. zone_at l z) (sym (same_Some (all_expired (now + seconds) held) lists e))
        ∙ zone_then (now + seconds) held z
        ∙ ap (λ (o : Option ZoneLists). option_map (expired (now + seconds)) (option_and_then (λ (l : ZoneLists). zone_at l z) o)) (sym was)

-- the event is accepted, and leaves a sound world
pub clock_taken : (old : WorldView) (seconds : ℕ) → IsSound old → event_count old.state < 2 ^ 42 → seconds ≤ MAX_CLOCK → (before text : List ℕ) → text ≡ before ++ accepted_lines (event_count old.state + 1) [] 0
    → IsAccepted old (event_of.Clock seconds) before text (counted_world (clocked_world old seconds) []) × IsSound (counted_world (clocked_world old seconds) [])
clock_taken old seconds sound room few before text lines =
    let m = old.state in
    let next = clocked seconds m in
    let left = ticked m old.zones old.sim seconds sound.consistent sound.held in
    let end = finishes next old.zones (sets_of m.config.net) 0 (all_zones_expired (m.clock + seconds) old.sim) left.0 (omega arith) room left.1 in
    let clock : m.clock ≤ MAX_CLOCK * event_count m = sound.consistent.clock in (
      record { admitted = refl; effects = []; step = record { mid = next; does = (refl, refl); state = refl }; passed = refl; zones = refl; lists = λ none. clock_lists old.zones m.clock seconds old.sim; text = lines },
      record { whole = refl; consistent = record { at_rest = end.0; marks = sound.consistent.marks; clock = omega (arith, clock, few); lists = clocked_keep seconds m sound.consistent.lists }; held = end.1 },
    )
