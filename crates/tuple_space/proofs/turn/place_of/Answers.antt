use Rattle.std.proofs.Common.{arith, length, take_all, get_or, refl, sym, subst, ◌∙◌}
use Rattle.std.proofs.Math.Seq.{drop-length}
use Rattle.std.proofs.lemmas.Bool.{false≢true}
use mathlib.Core.Logic.{inl, inr}
use Rattle.ovn_base.specs.lists.Among.{Among}
use Rattle.ovn_base.proofs.AmongLaws.{among_none}
use Rattle.tuple_space.specs.Turns.{IsUnder}
use Rattle.tuple_space.proofs.RankLaws.{among_more}
use Rattle.tuple_space.proofs.TurnLaws.{not_under}
use Rattle.tuple_space.proofs.turn.place_of.Goals as goal

pub returns-then-not-holds_for-clause-behind : goal.returns-then-not-holds_for-clause-behind
returns-then-not-holds_for-clause-behind c = λ order t m.
    not_under c.args.priority c.args.rank c.args.turns.now c.loop-i.i (record { number = 0; priority = 0; rank = 0 }) (get_or c.args.turns.now c.loop-i.i (record { number = 0; priority = 0; rank = 0 })) c.loop-i-test.true refl (λ h. false≢true (sym c.if-not-holds_for.true ∙ c.holds_for.ensures.1 h)) order t m

pub loop-i-preserved : goal.loop-i-preserved
loop-i-preserved c = λ t m.
    elim (among_more c.args.turns.now c.loop-i.i (record { number = 0; priority = 0; rank = 0 }) t c.loop-i-test.true m) [
      | inl a ↦ c.loop-i.invariant t a
      | inr s ↦ subst (λ u. IsUnder c.args.priority c.args.rank u) (sym s) (c.holds_for.ensures.0 c.if-not-holds_for.false)
    ]

pub returns-clause-before : goal.returns-clause-before
returns-clause-before c = λ t m. c.loop-i.invariant t (subst (λ l. Among t l) (take_all (length c.args.turns.now) c.args.turns.now (omega arith) ∙ sym (take_all c.loop-i.i c.args.turns.now c.loop-i-test.false)) m)

pub returns-clause-behind : goal.returns-clause-behind
returns-clause-behind c = λ h t m. absurd (among_none t (subst (λ l. Among t l) (drop-length c.args.turns.now) m))
