use Rattle.std.proofs.Common.{◌≡◌, ◌+◌, ◌≤◌, ◌<◌, ◌^◌, ◌++◌, length}
use Rattle.std.specs.List.{AllByRecursion}
use Rattle.switch_engine.specs.Framed.{CanBeSent}
use Rattle.chassis_sim.specs.InNames.{all_in_names, next_after_all, frames_sent}
use Rattle.chassis_sim.specs.Passing.{IsFront}
use Rattle.chassis_sim.proofs.names.tell_effects.Given as goal

-- what was told, and what the effects that are left come to
abbrev pub invariant-effects : goal.invariant-effects
invariant-effects l =
    let left = l.effect-iterator.rest.items in
    let all = all_in_names l.names.entries l.chassis l.start l.fn.underlay.next l.fn.effects in
    let rest = all_in_names l.names.entries l.chassis l.start l.underlay.next left in
    record {
      can : AllByRecursion CanBeSent left;
      told : l.told ++ rest ≡ l.fn.told ++ all;
      waiting : l.underlay.waiting ++ frames_sent rest ≡ l.fn.underlay.waiting ++ frames_sent all;
      next : next_after_all l.underlay.next left ≡ next_after_all l.fn.underlay.next l.fn.effects;
      room : l.underlay.next + length left < 2 ^ 127 + 2 ^ 64;
      kept : IsFront l.fn.told l.told;
      few : l.underlay.next + length l.fn.told ≤ l.fn.underlay.next + length l.told;
    }
