use Rattle.std.specs.Prelude.{Result}
use Rattle.std.proofs.Common.{subst}
use Rattle.match_language.specs.declared.expr.Expr.{Expr}
use Rattle.match_language.specs.declared.fault.MatchFault.{MatchFault}
use Rattle.match_language.specs.Faults.{GivesExpr}
use Rattle.match_language.proofs.ParseLaws.{gives_found}
use Rattle.match_language.proofs.Only.{whole_only}
use Rattle.match_language.proofs.Depth.{found_fits}
use Rattle.match_language.proofs.FirstFaults.{gives_first, gives_only_first}
use Rattle.match_language.proofs.reader.parse.Goals as goal

pub returns-clause-found : goal.returns-clause-found
returns-clause-found c = gives_found c.args.way c.args.text.now c.whole.result c.whole.ensures

pub returns-clause-only : goal.returns-clause-only
returns-clause-only c = λ x h. subst (λ (r : Result Expr MatchFault). GivesExpr c.whole.result r) (whole_only c.args.way c.args.text.now x h) c.whole.ensures

pub returns-clause-fits : goal.returns-clause-fits
returns-clause-fits c = found_fits c.args.way c.args.text.now c.whole.result (gives_found c.args.way c.args.text.now c.whole.result c.whole.ensures)

pub returns-clause-first : goal.returns-clause-first
returns-clause-first c = gives_first c.args.way c.args.text.now c.whole.result c.whole.ensures

pub returns-clause-only_first : goal.returns-clause-only_first
returns-clause-only_first c = λ f h. gives_only_first c.args.way c.args.text.now c.whole.result c.whole.ensures f h
