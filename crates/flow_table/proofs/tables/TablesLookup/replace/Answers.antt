use Rattle.std.proofs.Common.{◌≡◌, ◌++◌}
use mathlib.Core.Path.{subst, sym, ap, ◌∙◌}
use Rattle.ovn_base.specs.lists.Once.{EachOnce}
use Rattle.flow_table.specs.Change.{IsDeltaOf, IsReplaced}
use Rattle.flow_table.proofs.ChangeLaws.{replaced_by}
use Rattle.flow_table.proofs.tables.TablesLookup.replace.Goals as goal

pub invariant_of-self : goal.invariant_of-self
invariant_of-self c =
    let r = replaced_by c.self.inside.flows.items c.take_out.new.flows.items c.args.delta (c.take_out.ensures.once c.self.invariant) (subst (λ v. IsDeltaOf v.flows c.args.delta) (sym c.self.view_is) c.requires.fits) c.take_out.ensures.kept in
    let now : c.append.new.self.items ≡ c.take_out.new.flows.items ++ c.args.delta.added = c.in-Ok.ensures.items ∙ ap (λ l. c.take_out.new.flows.items ++ l) c.into_vec-added.ensures in
    subst (λ l. EachOnce l) (sym now) r.1

pub returns : goal.returns
returns c =
    let r = replaced_by c.self.inside.flows.items c.take_out.new.flows.items c.args.delta (c.take_out.ensures.once c.self.invariant) (subst (λ v. IsDeltaOf v.flows c.args.delta) (sym c.self.view_is) c.requires.fits) c.take_out.ensures.kept in
    let now : c.append.new.self.items ≡ c.take_out.new.flows.items ++ c.args.delta.added = c.in-Ok.ensures.items ∙ ap (λ l. c.take_out.new.flows.items ++ l) c.into_vec-added.ensures in
    subst (λ l. IsReplaced c.args.self.now.flows c.args.delta l) (sym now) (subst (λ v. IsReplaced v.flows c.args.delta (c.take_out.new.flows.items ++ c.args.delta.added)) c.self.view_is r.0)
