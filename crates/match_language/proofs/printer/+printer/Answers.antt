use Rattle.match_language.proofs.ExprTexts.{not_written}
use Rattle.match_language.proofs.printer.+printer.Goals as goal

pub push_expr-returns-in_ok-push-in-Not : goal.push_expr-returns-in_ok-push-in-Not
push_expr-returns-in_ok-push-in-Not t c =
    not_written c.push_inner.result c.push_inner.new.out.items c.push-in-Not.new.self.items c.args.out.now.items c.args.expr.now c.get.result.now c.in-Not.term c.push_inner.ensures c.get.ensures c.in_ok-push-in-Not.ensures.items c.in-Not.is
