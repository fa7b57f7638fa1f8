use Rattle.std.proofs.Common.{◌<◌, length, take, arith, sym, ◌∙◌, ap, subst}
use Rattle.std.specs.List.{AllByRecursion}
use Rattle.ovn_base.specs.names.ByName.{in_order}
use Rattle.tunnel_keys.specs.Keys.{free_in}
use Rattle.tunnel_keys.specs.Giving.{with_keys, new_port_key, taken_on}
use Rattle.tunnel_keys.proofs.FreeKeys.{take_short, with_keys_take, taken_below}
use Rattle.tunnel_keys.proofs.giving.give_keys_on.Goals as goal

pub ports_with_keys-requires : goal.ports_with_keys-requires
ports_with_keys-requires c =
    let taken = taken_on c.args.live.now c.args.retired.now c.args.datapath.now in
    let free = c.in_ok-free.ensures ∙ ap (λ t. take c.len.result (free_in c.args.range t)) (c.as_slice.ensures ∙ c.in_ok-taken.ensures) in
    subst (λ ks. AllByRecursion (λ key. key < 65536) ks) (sym (c.as_slice-2.ensures ∙ free)) (taken_below c.args.range taken c.len.result (omega (arith, c.ranges.range)))

pub returns-clause-given : goal.returns-clause-given
returns-clause-given c =
    let all = free_in c.args.range (taken_on c.args.live.now c.args.retired.now c.args.datapath.now) in
    let free = c.in_ok-free.ensures ∙ ap (λ t. take c.len.result (free_in c.args.range t)) (c.as_slice.ensures ∙ c.in_ok-taken.ensures) in
    let count = c.len.ensures.len ∙ ap length c.in_ok-arrivals.ensures in
    let make = new_port_key c.args.datapath.now.name in
    c.in_ok-given.ensures
    ∙ ap (λ ks. with_keys make c.in_ok-arrivals.arrivals.entries ks) (c.as_slice-2.ensures ∙ free ∙ ap (λ n. take n all) count)
    ∙ ap (λ es. with_keys make es (take (length (in_order c.args.added.now)) all)) c.in_ok-arrivals.ensures
    ∙ with_keys_take make (in_order c.args.added.now) all

pub returns-clause-enough : goal.returns-clause-enough
returns-clause-enough c =
    let all = free_in c.args.range (taken_on c.args.live.now c.args.retired.now c.args.datapath.now) in
    let free = c.in_ok-free.ensures ∙ ap (λ t. take c.len.result (free_in c.args.range t)) (c.as_slice.ensures ∙ c.in_ok-taken.ensures) in
    let short = take_short c.len.result all in
    let found = c.len-2.ensures ∙ ap length free in
    let wanted = c.len-3.ensures.len ∙ ap length c.in_ok-arrivals.ensures in
    let below = c.if-len.false in
    omega (arith, short, found, wanted, below)
