use Rattle.std.proofs.Common.{◌++◌, ap, sym, ◌∙◌}
use Rattle.std.proofs.lemmas.Result.{on_ok_weaker}
use Rattle.switch_engine.specs.declared.effect.NetEffect.{NetEffect}
use Rattle.event_lines.specs.Lines.{words_of}
use Rattle.event_lines.proofs.lines.put_words.Goals as goal

pub returns-in-PickBackend-clause-ok : goal.returns-in-PickBackend-clause-ok
returns-in-PickBackend-clause-ok c =
    on_ok_weaker c.put_pick.result (λ e. e ∙ ap (λ (effect : NetEffect). c.args.out.now.items ++ words_of effect) (sym c.in-PickBackend.is)) c.put_pick.ensures.ok
