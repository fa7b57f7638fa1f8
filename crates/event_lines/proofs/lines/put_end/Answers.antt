use Rattle.std.proofs.lemmas.Result.{on_ok_weaker, on_err_weaker}
use Rattle.event_lines.proofs.Pieces.{end_is_put, end_keeps}
use Rattle.event_lines.proofs.lines.put_end.Goals as goal

pub returns-clause-ok : goal.returns-clause-ok
returns-clause-ok c =
    on_ok_weaker c.put.result
    (end_is_put c.args.out.now.items c.put_count.new.out.items c.put_count-2.new.out.items c.put_count-3.new.out.items c.put_count-4.new.out.items c.args.events c.args.accepted c.args.refused c.args.waiting c.in_ok-put_count.ensures.ok c.in_ok-put_count-2.ensures.ok c.in_ok-put_count-3.ensures.ok c.in_ok-put_count-4.ensures.ok c.put.new.out.items)
    c.put.ensures.ok

pub returns-clause-err : goal.returns-clause-err
returns-clause-err c =
    on_err_weaker c.put.result
    (end_keeps c.args.out.now.items c.put_count.new.out.items c.put_count-2.new.out.items c.put_count-3.new.out.items c.put_count-4.new.out.items c.args.events c.args.accepted c.args.refused c.args.waiting c.in_ok-put_count.ensures.ok c.in_ok-put_count-2.ensures.ok c.in_ok-put_count-3.ensures.ok c.in_ok-put_count-4.ensures.ok c.put.new.out.items)
    c.put.ensures.err
