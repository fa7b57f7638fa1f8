-- The walks with the choices of the program are walks.
use Rattle.std.specs.Prelude.{◌≡◌, ◌&&◌, ℕ, true, List}
use Rattle.std.specs.Cmp.{first_so}
use Rattle.flow_table.specs.declared.flow.Flow.{Flow}
use Rattle.inet_packet.specs.declared.packet.Packet.{Packet}
use Rattle.switch_engine.specs.declared.carried.Carried.{Carried}
use Rattle.switch_engine.specs.declared.effect.Effect.{Effect}
use Rattle.switch_engine.specs.declared.effect.Entry.{Entry}
use Rattle.switch_engine.specs.declared.walk.RunOut.{RunOut}
use Rattle.switch_engine.specs.declared.walk.Step.{Step}
use Rattle.switch_engine.specs.Growth.{GainsWalk}
use Rattle.switch_engine.specs.Outcome.{FlowOutcome, any_legal, of_program, IsDone}
use Rattle.switch_engine.specs.Walk.{IsWalk}
use Rattle.switch_engine.specs.Walk.IsWalk.{over, ends, takes}
use Rattle.switch_engine.specs.Zones.{ZoneLists}

done_legally : (o : FlowOutcome) (told : List Effect) → IsDone of_program o told → IsDone any_legal o told
done_legally o told d = record { effects = d.effects; used = d.used; admitted = first_so o.legal o.own d.admitted }

walks_legally : {flows : List Flow} {entry : Entry} {now : ℕ} {before after : ZoneLists} {copies : List Carried} {steps : List Step} {effects : List Effect}
    → IsWalk of_program flows entry now before copies steps effects after → IsWalk any_legal flows entry now before copies steps effects after
walks_legally (over zones) = over zones
walks_legally (ends zones last copy others steps more all none walk is) = ends zones last copy others steps more all none (walks_legally walk) is
walks_legally (takes zones last copy others step steps told more all here best done walk is) = takes zones last copy others step steps told more all here best (done_legally _ told done) (walks_legally walk) is

pub gains_legally : {flows : List Flow} {entry : Entry} {now : ℕ} {packet : Packet} {before after : ZoneLists} {old new : RunOut}
    → GainsWalk of_program flows entry now packet before after old new → GainsWalk any_legal flows entry now packet before after old new
gains_legally g = record { steps = g.steps; effects = g.effects; all_steps = g.all_steps; all_effects = g.all_effects; is_walk = walks_legally g.is_walk }
