use Rattle.std.proofs.Common.{◌≡◌, Some, slice_get, length, take, drop, arith, take_all, sym, subst, ap, ◌∙◌}
use Rattle.std.proofs.Math.Seq.{drop-length}
use Rattle.std.proofs.lemmas.Bool.{false≢true}
use Rattle.std.proofs.lemmas.Option.{slice_get_within, get_or_from_slice_get}
use Rattle.std.specs.Option.{option_copied}
use mathlib.Core.Logic.{inl, inr}
use Rattle.ovn_base.specs.lists.Among.{Among}
use Rattle.ovn_base.proofs.AmongLaws.{among_none}
use Rattle.flow_table.specs.Matching.{Beats}
use Rattle.tuple_space.proofs.RankLaws.{among_more}
use Rattle.tuple_space.proofs.FallLaws.{beaten_behind}
use Rattle.tuple_space.proofs.bucket.place_of.Goals as goal

pub returns-then-beats-clause-behind : goal.returns-then-beats-clause-behind
returns-then-beats-clause-behind c = λ falls g m.
    let flows = c.args.flows.now.flows in
    let held = c.in-Some.held.now in
    let at : slice_get flows c.loop-i.i ≡ Some held = sym c.get.ensures ∙ ap option_copied c.in-Some.is in
    beaten_behind c.args.flow.now flows c.loop-i.i held (slice_get_within flows c.loop-i.i held at) (sym (get_or_from_slice_get flows c.loop-i.i held held at)) (c.beats.ensures.0 c.if-beats.true) falls g m

pub loop-i-preserved : goal.loop-i-preserved
loop-i-preserved c = λ g m b.
    let flows = c.args.flows.now.flows in
    let held = c.in-Some.held.now in
    let at : slice_get flows c.loop-i.i ≡ Some held = sym c.get.ensures ∙ ap option_copied c.in-Some.is in
    elim (among_more flows c.loop-i.i held g (slice_get_within flows c.loop-i.i held at) m) [
      | inl a ↦ c.loop-i.invariant g a b
      | inr e ↦ false≢true (sym c.if-beats.false ∙ c.beats.ensures.1 (subst (λ h. Beats c.args.flow.now h) (e ∙ get_or_from_slice_get flows c.loop-i.i held held at) b))
    ]

pub returns-clause-before : goal.returns-clause-before
returns-clause-before c = λ g m. c.loop-i.invariant g (subst (λ l. Among g l) (take_all (length c.args.flows.now.flows) c.args.flows.now.flows (omega arith) ∙ sym (take_all c.loop-i.i c.args.flows.now.flows (omega (arith, c.loop-i-test.false, c.len-i-end.ensures)))) (subst (λ n. Among g (take n c.args.flows.now.flows)) c.len.ensures m))

pub returns-clause-behind : goal.returns-clause-behind
returns-clause-behind c = λ falls g m b. among_none g (subst (λ l. Among g l) (drop-length c.args.flows.now.flows) (subst (λ n. Among g (drop n c.args.flows.now.flows)) c.len.ensures m))
