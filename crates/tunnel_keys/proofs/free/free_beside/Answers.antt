use Rattle.std.proofs.Common.{◌+◌, length, arith, sym, ◌∙◌, ap}
use Rattle.tunnel_keys.proofs.FreeKeys.{free_none, free_first, free_next, free_few}
use Rattle.tunnel_keys.proofs.free.free_beside.Goals as goal

pub loop-passed-init : goal.loop-passed-init
loop-passed-init c = let none = ap length c.new-found.ensures in (c.new-found.ensures ∙ sym (free_none c.args.taken.now), omega (arith, none))

pub returns-then-len-count : goal.returns-then-len-count
returns-then-len-count c =
    let so_far = c.loop-passed.invariant.0 in
    let enough = sym (ap length so_far) ∙ sym c.len.ensures ∙ c.if-len-count.true in
    so_far ∙ free_first c.loop-passed.passed c.args.range c.args.taken.now c.args.count (omega (arith, c.loop-passed-test.true)) enough

pub loop-passed-preserved : goal.loop-passed-preserved
loop-passed-preserved c =
    let apart = c.if-len-count.false in
    let len = c.len.ensures in (
      free_next c.loop-passed.passed c.args.taken.now c.loop-passed.found c.push_free.new.found c.loop-passed.invariant.0 c.in_ok-push_free.ensures,
      free_few c.args.taken.now c.loop-passed.found c.push_free.new.found (c.loop-passed.passed + 1) c.args.count c.in_ok-push_free.ensures c.loop-passed.invariant.1 (λ same. apart (len ∙ same)),
    )
