use Rattle.std.proofs.Common.{◌≡◌, ◌++◌, ◌+◌, ◌∙◌, subst, sym}
use Rattle.std.proofs.lemmas.Bool.{false≢true}
use Rattle.std.proofs.lemmas.Result.{err_from_is_err_and}
use Rattle.event_lines.specs.Lines.{accepted_lines}
use Rattle.net_model.specs.State.{event_count}
use Rattle.world_setup.specs.TurnEvents.{event_of_turn}
use Rattle.world_core.specs.Inside.{seen_of}
use Rattle.world_core.specs.Outcome.{IsAccepted}
use Rattle.world_core.specs.WorldView.{IsSound}
use Rattle.world_core.proofs.AcceptedTurns.{accepted_end, deltas_of_held, ground_settles, ground_waits, proper_change, seen_with, sound_end, tables_once_each}
use Rattle.world_core.proofs.world.World.turn.Goals as goal
use Rattle.world_core.proofs.world.World.turn.Goals.{then-is_empty, else-is_empty}

pub prepare-requires-clause-once : goal.prepare-requires-clause-once
prepare-requires-clause-once bounds c = tables_once_each c.self.inside c.args.self.now c.self.view_is c.args.event.now c.requires.sound c.requires.room c.requires.admitted c.turn.new.self c.in_ok-turn.turn c.in_ok-turn.ensures.turn c.exact_flow.ensures

pub prepare-requires-clause-deltas : goal.prepare-requires-clause-deltas
prepare-requires-clause-deltas bounds c = deltas_of_held c.self.inside c.args.self.now c.self.view_is c.args.event.now c.requires.sound c.requires.room c.requires.admitted c.turn.new.self c.in_ok-turn.turn c.in_ok-turn.ensures.turn c.exact_flow.ensures

pub apply-requires-2-clause-proper : goal.apply-requires-2-clause-proper
apply-requires-2-clause-proper bounds c = proper_change c.self.inside c.args.self.now c.self.view_is c.args.event.now c.requires.sound c.requires.room c.requires.admitted c.turn.new.self c.in_ok-turn.turn c.in_ok-turn.ensures.turn c.exact_flow.ensures

pub returns-in_err-prepare-clause-done : goal.returns-in_err-prepare-clause-done
returns-in_err-prepare-clause-done bounds c = let failed = err_from_is_err_and c.from_residual-in_err-prepare.result c.from_residual-in_err-prepare.ensures.1 in rw failed.1 tt

pub returns-in_err-prepare-clause-told : goal.returns-in_err-prepare-clause-told
returns-in_err-prepare-clause-told bounds c = let failed = err_from_is_err_and c.from_residual-in_err-prepare.result c.from_residual-in_err-prepare.ensures.1 in rw failed.1 (rw failed.2 tt)

pub returns-in_err-prepare-clause-sound : goal.returns-in_err-prepare-clause-sound
returns-in_err-prepare-clause-sound bounds c = let failed = err_from_is_err_and c.from_residual-in_err-prepare.result c.from_residual-in_err-prepare.ensures.1 in rw failed.1 tt

pub returns-in_err-prepare-clause-same : goal.returns-in_err-prepare-clause-same
returns-in_err-prepare-clause-same bounds c = let failed = err_from_is_err_and c.from_residual-in_err-prepare.result c.from_residual-in_err-prepare.ensures.1 in rw failed.1 ((λ i. seen_with c.self.inside (c.turn.ensures.kept i) (c.prepare.ensures.kept i)) ∙ c.self.view_is)

pub returns-in_err-accepted-clause-done : goal.returns-in_err-accepted-clause-done
returns-in_err-accepted-clause-done bounds c = let failed = err_from_is_err_and c.from_residual-in_err-accepted.result c.from_residual-in_err-accepted.ensures.1 in rw failed.1 tt

pub returns-in_err-accepted-clause-told : goal.returns-in_err-accepted-clause-told
returns-in_err-accepted-clause-told bounds c = let failed = err_from_is_err_and c.from_residual-in_err-accepted.result c.from_residual-in_err-accepted.ensures.1 in rw failed.1 (rw failed.2 tt)

pub returns-in_err-accepted-clause-sound : goal.returns-in_err-accepted-clause-sound
returns-in_err-accepted-clause-sound bounds c = let failed = err_from_is_err_and c.from_residual-in_err-accepted.result c.from_residual-in_err-accepted.ensures.1 in rw failed.1 tt

pub returns-in_err-accepted-clause-same : goal.returns-in_err-accepted-clause-same
returns-in_err-accepted-clause-same bounds c = let failed = err_from_is_err_and c.from_residual-in_err-accepted.result c.from_residual-in_err-accepted.ensures.1 in rw failed.1 ((λ i. seen_with c.self.inside (c.turn.ensures.kept i) (c.prepare.ensures.kept i)) ∙ c.self.view_is)

pub invariant_of-self-then-is_empty : goal.invariant_of-self-then-is_empty
invariant_of-self-then-is_empty bounds c =
    let settles = ground_settles c.self.inside c.args.self.now c.self.view_is c.args.event.now c.requires.sound c.requires.room c.requires.admitted c.turn.new.self c.in_ok-turn.turn c.in_ok-turn.ensures.turn c.exact_flow.ensures c.turn.new.self.ground c.apply.new.self.ground c.turn.ensures.kept c.apply.ensures c.settle.new.self.ground c.settle.ensures (c.is_empty.ensures.0 c.if-is_empty.true) in
    record { sound = λ _. sound_end c.self.inside c.args.self.now c.self.view_is c.args.event.now c.requires.sound c.requires.room c.requires.admitted c.turn.new.self c.in_ok-turn.turn c.in_ok-turn.ensures.turn c.exact_flow.ensures c.prepare.new.self.state c.apply-2.new.self.state c.prepare.ensures.kept c.apply-2.ensures c.settle.new.self.ground settles c.clear.new.self c.clear.ensures }

pub invariant_of-self-else-is_empty : goal.invariant_of-self-else-is_empty
invariant_of-self-else-is_empty bounds c =
    let waits = ground_waits c.self.inside c.args.self.now c.self.view_is c.args.event.now c.requires.sound c.requires.room c.requires.admitted c.turn.new.self c.in_ok-turn.turn c.in_ok-turn.ensures.turn c.exact_flow.ensures c.turn.new.self.ground c.apply.new.self.ground c.turn.ensures.kept c.apply.ensures (λ e. false≢true (sym c.if-is_empty.false ∙ c.is_empty.ensures.1 e)) in
    record { sound = λ _. sound_end c.self.inside c.args.self.now c.self.view_is c.args.event.now c.requires.sound c.requires.room c.requires.admitted c.turn.new.self c.in_ok-turn.turn c.in_ok-turn.ensures.turn c.exact_flow.ensures c.prepare.new.self.state c.apply-2.new.self.state c.prepare.ensures.kept c.apply-2.ensures c.apply.new.self.ground waits c.clear.new.self c.clear.ensures }

pub returns-clause-done : goal.returns-clause-done
returns-clause-done bounds c =
    let before = c.args.text.now.items in
    let text = c.accepted.new.out.items in
    let lines : text ≡ before ++ accepted_lines (event_count (seen_of c.self.inside).state + 1) c.in_ok-turn.turn.effects 0 =
    subst (λ effects. text ≡ before ++ accepted_lines (event_count (seen_of c.self.inside).state + 1) effects 0) c.as_slice.ensures c.in_ok-accepted.ensures.ok in
    let waits = ground_waits c.self.inside c.args.self.now c.self.view_is c.args.event.now c.requires.sound c.requires.room c.requires.admitted c.turn.new.self c.in_ok-turn.turn c.in_ok-turn.ensures.turn c.exact_flow.ensures c.turn.new.self.ground c.apply.new.self.ground c.turn.ensures.kept c.apply.ensures in
    let settles = ground_settles c.self.inside c.args.self.now c.self.view_is c.args.event.now c.requires.sound c.requires.room c.requires.admitted c.turn.new.self c.in_ok-turn.turn c.in_ok-turn.ensures.turn c.exact_flow.ensures c.turn.new.self.ground c.apply.new.self.ground c.turn.ensures.kept c.apply.ensures in
    let accepted = accepted_end c.self.inside c.args.self.now c.self.view_is c.args.event.now c.requires.sound c.requires.room c.requires.admitted c.turn.new.self c.in_ok-turn.turn c.in_ok-turn.ensures.turn c.exact_flow.ensures c.prepare.new.self.state c.apply-2.new.self.state c.prepare.ensures.kept c.apply-2.ensures in
    elim c.if-is_empty.branch [
      | then-is_empty w ↦
          subst (λ v. IsAccepted c.args.self.now (event_of_turn c.args.event.now) before text v) (sym w.self-is)
          (accepted w.settle.new.self.ground (settles w.settle.new.self.ground w.settle.ensures (c.is_empty.ensures.0 w.if-is_empty.true)) c.clear.new.self c.clear.ensures before text lines)
      | else-is_empty w ↦
          subst (λ v. IsAccepted c.args.self.now (event_of_turn c.args.event.now) before text v) (sym w.self-is)
          (accepted c.apply.new.self.ground (waits (λ e. false≢true (sym w.if-is_empty.false ∙ c.is_empty.ensures.1 e))) c.clear.new.self c.clear.ensures before text lines)
    ]

pub returns-clause-sound : goal.returns-clause-sound
returns-clause-sound bounds c =
    let waits = ground_waits c.self.inside c.args.self.now c.self.view_is c.args.event.now c.requires.sound c.requires.room c.requires.admitted c.turn.new.self c.in_ok-turn.turn c.in_ok-turn.ensures.turn c.exact_flow.ensures c.turn.new.self.ground c.apply.new.self.ground c.turn.ensures.kept c.apply.ensures in
    let settles = ground_settles c.self.inside c.args.self.now c.self.view_is c.args.event.now c.requires.sound c.requires.room c.requires.admitted c.turn.new.self c.in_ok-turn.turn c.in_ok-turn.ensures.turn c.exact_flow.ensures c.turn.new.self.ground c.apply.new.self.ground c.turn.ensures.kept c.apply.ensures in
    let sound = sound_end c.self.inside c.args.self.now c.self.view_is c.args.event.now c.requires.sound c.requires.room c.requires.admitted c.turn.new.self c.in_ok-turn.turn c.in_ok-turn.ensures.turn c.exact_flow.ensures c.prepare.new.self.state c.apply-2.new.self.state c.prepare.ensures.kept c.apply-2.ensures in
    elim c.if-is_empty.branch [
      | then-is_empty w ↦
          subst (λ v. IsSound v) (sym w.self-is)
          (sound w.settle.new.self.ground (settles w.settle.new.self.ground w.settle.ensures (c.is_empty.ensures.0 w.if-is_empty.true)) c.clear.new.self c.clear.ensures)
      | else-is_empty w ↦
          subst (λ v. IsSound v) (sym w.self-is)
          (sound c.apply.new.self.ground (waits (λ e. false≢true (sym w.if-is_empty.false ∙ c.is_empty.ensures.1 e))) c.clear.new.self c.clear.ensures)
    ]
