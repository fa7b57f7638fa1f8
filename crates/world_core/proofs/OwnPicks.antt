-- The program's own picks of backends and ports are legal: what packets did with these they did with legal ones.
use Rattle.std.specs.Prelude.{ℕ, zero, suc, Bool, true, false, List, [], refl}
use Rattle.std.proofs.Common.{sym, subst, inl, inr}
use Rattle.chassis_sim.specs.Holding.{IsWalkBy}
use Rattle.chassis_sim.specs.Passing as passing
use Rattle.chassis_sim.specs.Passing.{IsInjected, IsArrived}
use Rattle.chassis_sim.specs.State.{SimState}
use Rattle.chassis_sim.specs.declared.out.SimOut.{SimOut}
use Rattle.edit_reader.specs.declared.event.Event.{Event}
use Rattle.edit_reader.specs.declared.event.Event.TheVariants.{Edit, Bind, Unbind, AddChassis, RemoveChassis, Keys, Health, Clock, Inject, Deliver, Lose, Repeat, Drain, Packet, Unread}
use Rattle.flow_table.specs.declared.flow.Flow.{Flow}
use Rattle.inet_packet.specs.declared.packet.Packet as inet
use Rattle.ovn_base.specs.declared.name.Name.{Name}
use Rattle.sim_laws.specs.Passing.{most_arrivals, no_out, AreDrained, GoesIn, GoesThrough}
use Rattle.switch_engine.proofs.Choices.{gains_legally}
use Rattle.switch_engine.specs.Growth.{GainsWalk}
use Rattle.switch_engine.specs.Outcome.{any_legal, of_program}
use Rattle.switch_engine.specs.Zones.{ZoneLists}
use Rattle.switch_engine.specs.declared.effect.Effect.{Effect}
use Rattle.switch_engine.specs.declared.effect.Entry.{Entry}
use Rattle.switch_engine.specs.declared.effect.Entry.TheVariants.{Vif, Tunnel}
use Rattle.switch_engine.specs.declared.walk.RunOut.{RunOut}
use Rattle.switch_engine.specs.declared.walk.Step.{Step}
use Rattle.world_core.specs.EventPasses.{Passes}

-- a walk is one that comes to what was there: nothing
walks_legally : (flows : List Flow) (entry : Entry) (now : ℕ) (packet : inet.Packet) (before after : ZoneLists) (steps : List Step) (effects : List Effect)
    → IsWalkBy of_program flows entry now packet before steps effects after → IsWalkBy any_legal flows entry now packet before steps effects after
walks_legally flows entry now packet before after steps effects walk =
    let none : RunOut = record { effects = []; walk = [] } in
    let run : RunOut = record { effects = effects; walk = steps } in
    let own : GainsWalk of_program flows entry now packet before after none run = record { steps = steps; effects = effects; all_steps = refl; all_effects = refl; is_walk = walk } in
    let legal : GainsWalk any_legal flows entry now packet before after none run = gains_legally own in
    subst (λ ss. IsWalkBy any_legal flows entry now packet before ss effects after) (sym legal.all_steps)
    (subst (λ es. IsWalkBy any_legal flows entry now packet before legal.steps es after) (sym legal.all_effects) legal.is_walk)

-- a packet goes in
injected_legally : (s new : SimState) (port : Name) (now : ℕ) (packet : inet.Packet) (before after : SimOut) → IsInjected of_program s port now packet before after new → IsInjected any_legal s port now packet before after new
injected_legally s new port now packet before after (passing.IsInjected.through chassis flows lists left steps effects bound held listed walk told) =
    passing.IsInjected.through chassis flows lists left steps effects bound held listed (walks_legally flows (Vif port) now packet lists left steps effects walk) told
injected_legally s new port now packet before after (passing.IsInjected.nowhere chassis bound none told) = passing.IsInjected.nowhere chassis bound none told

goes_in_legally : (now : ℕ) (s new : SimState) (p : Name) (frame : List ℕ) (before after : SimOut) → GoesIn of_program now s p frame before after new → GoesIn any_legal now s p frame before after new
goes_in_legally now s new p frame before after h = record { packet = h.packet; whole = h.whole; frame_is = h.frame_is; injected = injected_legally s new p now h.packet before after h.injected }

-- a frame arrives
arrives_legally : (s new : SimState) (n : ℕ) (keep : Bool) (now : ℕ) (before after : SimOut) → IsArrived of_program s n keep now before after new → IsArrived any_legal s n keep now before after new
arrives_legally s new n keep now before after (passing.IsArrived.through frame flows lists left vni in_key out_key packet steps effects waits held listed carries walk told) =
    passing.IsArrived.through frame flows lists left vni in_key out_key packet steps effects waits held listed carries (walks_legally flows (Tunnel vni in_key out_key) now packet lists left steps effects walk) told
arrives_legally s new n keep now before after (passing.IsArrived.gone frame waits none told) = passing.IsArrived.gone frame waits none told

-- one after another
drained_legally : (k now : ℕ) (s new : SimState) (before after : SimOut) → AreDrained of_program now k s before after new → AreDrained any_legal now k s before after new
drained_legally zero now s new before after d = d
drained_legally (suc k) now s new before after (inl d) = inl d
drained_legally (suc k) now s new before after (inr f) = inr (record {
  n = f.n;
  frame = f.frame;
  behind = f.behind;
  first = f.first;
  between = f.between;
  mid = f.mid;
  arrives = arrives_legally s f.mid f.n false now before f.between f.arrives;
  others = drained_legally k now f.mid new f.between after f.others;
})

-- and after a packet
goes_through_legally : (now : ℕ) (s new : SimState) (p : Name) (frame : List ℕ) (after : SimOut) → GoesThrough of_program now s p frame after new → GoesThrough any_legal now s p frame after new
goes_through_legally now s new p frame after h = record {
  between = h.between;
  mid = h.mid;
  goes_in = goes_in_legally now s h.mid p frame no_out h.between h.goes_in;
  drained = drained_legally most_arrivals now h.mid new h.between after h.drained;
}

-- so it is with each event
pub passes_legally : (event : Event) (now : ℕ) (s : SimState) (out : SimOut) (new : SimState) → Passes of_program now s event out new → Passes any_legal now s event out new
passes_legally (Edit ops) now s out new h = h
passes_legally (Bind p chassis) now s out new h = h
passes_legally (Unbind p) now s out new h = h
passes_legally (AddChassis chassis) now s out new h = h
passes_legally (RemoveChassis chassis) now s out new h = h
passes_legally (Keys datapaths ports) now s out new h = h
passes_legally (Health balancer backend online) now s out new h = h
passes_legally (Clock seconds) now s out new h = h
passes_legally (Inject p frame) now s out new h = goes_in_legally now s new p frame no_out out h
passes_legally (Deliver n) now s out new h = arrives_legally s new n false now no_out out h
passes_legally (Lose n) now s out new h = h
passes_legally (Repeat n) now s out new h = arrives_legally s new n true now no_out out h
passes_legally Drain now s out new h = drained_legally most_arrivals now s new no_out out h
passes_legally (Packet p frame) now s out new h = goes_through_legally now s new p frame out h
passes_legally (Unread fault) now s out new h = h
