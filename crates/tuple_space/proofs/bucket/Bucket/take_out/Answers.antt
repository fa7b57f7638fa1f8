use Rattle.std.proofs.Common.{◌≡◌, ◌↔◌, not, filter, List}
use mathlib.Core.Path.{sym, ap, subst}
use Rattle.ovn_base.specs.lists.Among.{Among}
use Rattle.ovn_base.specs.lists.Once.{EachOnce}
use Rattle.flow_table.specs.declared.flow.Flow.{Flow}
use Rattle.flow_table.specs.contracts.flow.FlowPartialEq.TheImpl.{ghosts}
use Rattle.flow_table.specs.Matching.{Beats}
use Rattle.flow_table.proofs.OnceLaws.{once_filter}
use Rattle.tuple_space.specs.Bunches.{IsFalling}
use Rattle.tuple_space.proofs.RankLaws.{ranked_filter}
use Rattle.tuple_space.proofs.FallLaws.{kept_others}
use Rattle.tuple_space.proofs.bucket.Bucket.take_out.Goals as goal

pub returns-clause-kept : goal.returns-clause-kept
returns-clause-kept c = λ f.
    let left : c.take_out.new.self.flows ≡ filter (λ z. not (ghosts.eq z c.args.flow.now)) c.self.inside.flows.flows = c.take_out.ensures.flows in
    let was = ap (λ v. v.flows) c.self.view_is in
    subst (λ (l : List Flow). Among f l ↔ (Among f c.args.self.now.flows × ¬ (f ≡ c.args.flow.now))) (sym left)
    (subst (λ (l : List Flow). Among f (filter (λ z. not (ghosts.eq z c.args.flow.now)) c.self.inside.flows.flows) ↔ (Among f l × ¬ (f ≡ c.args.flow.now))) was
    (kept_others ghosts.eq c.exact_flow.ensures c.args.flow.now c.self.inside.flows.flows f))

pub returns-clause-once : goal.returns-clause-once
returns-clause-once c = λ h.
    let left : c.take_out.new.self.flows ≡ filter (λ z. not (ghosts.eq z c.args.flow.now)) c.self.inside.flows.flows = c.take_out.ensures.flows in
    subst (λ (l : List Flow). EachOnce l) (sym left) (once_filter (λ z. not (ghosts.eq z c.args.flow.now)) c.self.inside.flows.flows (subst (λ (l : List Flow). EachOnce l) (ap (λ v. v.flows) (sym c.self.view_is)) h))

pub returns-clause-falls : goal.returns-clause-falls
returns-clause-falls c = λ h.
    let left : c.take_out.new.self.flows ≡ filter (λ z. not (ghosts.eq z c.args.flow.now)) c.self.inside.flows.flows = c.take_out.ensures.flows in
    subst (λ (l : List Flow). IsFalling l) (sym left) (ranked_filter (λ x y. ¬ Beats y x) (λ z. not (ghosts.eq z c.args.flow.now)) c.self.inside.flows.flows (subst (λ (l : List Flow). IsFalling l) (ap (λ v. v.flows) (sym c.self.view_is)) h))
