use Rattle.match_language.proofs.Again.{again, fitting_again}
use Rattle.match_language.proofs.printer.print.Goals as goal

pub returns-clause-again : goal.returns-clause-again
returns-clause-again c = λ way text h. again way text c.args.expr.now h

pub returns-clause-built : goal.returns-clause-built
returns-clause-built c = λ way h. fitting_again way c.args.expr.now h

pub returns-in_err-push_expr-clause-again : goal.returns-in_err-push_expr-clause-again
returns-in_err-push_expr-clause-again c = λ way text h. again way text c.args.expr.now h

pub returns-in_err-push_expr-clause-built : goal.returns-in_err-push_expr-clause-built
returns-in_err-push_expr-clause-built c = λ way h. fitting_again way c.args.expr.now h

pub returns-in_err-extend_from_slice-clause-again : goal.returns-in_err-extend_from_slice-clause-again
returns-in_err-extend_from_slice-clause-again c = λ way text h. again way text c.args.expr.now h

pub returns-in_err-extend_from_slice-clause-built : goal.returns-in_err-extend_from_slice-clause-built
returns-in_err-extend_from_slice-clause-built c = λ way h. fitting_again way c.args.expr.now h
