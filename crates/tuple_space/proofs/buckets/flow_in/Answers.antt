use Rattle.std.proofs.Common.{◌≡◌, ◌+◌, ◌-◌, ◌<◌, ◌++◌, length, slice_get, drop, arith, sym, subst, ap, ◌∙◌}
use Rattle.std.specs.Option.{option_map}
use Rattle.std.specs.Map.Iter.{deref_pair}
use Rattle.tuple_space.specs.Bunches.{flows_in}
use Rattle.tuple_space.proofs.BunchLaws.{get_in_step, get_left, get_right}
use Rattle.tuple_space.proofs.buckets.flow_in.Goals as goal

pub returns-then-left-len : goal.returns-then-left-len
returns-then-left-len c =
    let es = c.args.places.now.entries in
    let b = c.in-Some.bucket.now in
    let k = c.in-Some.field-0-0.now in
    let i = c.loop-i.i in
    let step = get_in_step es i (k, b) (sym c.get_index.ensures.entry ∙ ap (option_map deref_pair) c.in-Some.is) in
    let lt : c.loop-i.left < length b.flows = subst (λ n. c.loop-i.left < n) c.len.ensures c.if-left-len.true in
    c.get.ensures ∙ sym (get_left b.flows (flows_in (drop (i + 1) es)) c.loop-i.left lt) ∙ ap (λ l. slice_get l c.loop-i.left) (sym step) ∙ c.loop-i.invariant

pub loop-i-preserved : goal.loop-i-preserved
loop-i-preserved c =
    let es = c.args.places.now.entries in
    let b = c.in-Some.bucket.now in
    let k = c.in-Some.field-0-0.now in
    let i = c.loop-i.i in
    let rest = flows_in (drop (i + 1) es) in
    let step = get_in_step es i (k, b) (sym c.get_index.ensures.entry ∙ ap (option_map deref_pair) c.in-Some.is) in
    let whole : length b.flows + (c.loop-i.left - c.len-left.result) ≡ c.loop-i.left = omega (arith, c.len.ensures, c.len-left.ensures, c.if-left-len.false) in
    sym (get_right b.flows rest (c.loop-i.left - c.len-left.result)) ∙ ap (λ n. slice_get (b.flows ++ rest) n) whole ∙ ap (λ l. slice_get l c.loop-i.left) (sym step) ∙ c.loop-i.invariant
