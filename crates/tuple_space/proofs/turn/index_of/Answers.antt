use Rattle.std.proofs.Common.{take_all, sym, subst, ap, ◌∙◌}
use mathlib.Core.Logic.{inl, inr}
use Rattle.ovn_base.specs.lists.Among.{Among}
use Rattle.tuple_space.specs.declared.turn.Turn.{Turn}
use Rattle.tuple_space.proofs.RankLaws.{among_more}
use Rattle.tuple_space.proofs.turn.index_of.Goals as goal

pub loop-i-preserved : goal.loop-i-preserved
loop-i-preserved c = λ t m e.
    elim (among_more c.args.turns.now c.loop-i.i (record { number = 0; priority = 0; rank = 0 }) t c.loop-i-test.true m) [
      | inl a ↦ c.loop-i.invariant t a e
      | inr s ↦ c.if-turn-number.false (ap (λ (u : Turn). u.number) (sym s) ∙ e)
    ]

pub returns-clause-some : goal.returns-clause-some
returns-clause-some c = λ t m e. absurd (c.loop-i.invariant t (subst (λ l. Among t l) (sym (take_all c.loop-i.i c.args.turns.now c.loop-i-test.false)) m) e)
