use Rattle.std.proofs.Common.{length, take, arith, ◌∙◌, ap}
use Rattle.ovn_base.specs.names.ByName.{in_order}
use Rattle.tunnel_keys.specs.Owners.{datapaths_in}
use Rattle.tunnel_keys.specs.Keys.{free_in, taken_datapaths}
use Rattle.tunnel_keys.specs.Giving.{with_keys, new_datapath_key}
use Rattle.tunnel_keys.proofs.FreeKeys.{take_short, with_keys_take}
use Rattle.tunnel_keys.proofs.giving.give_datapath_keys.Goals as goal

pub returns-clause-given : goal.returns-clause-given
returns-clause-given c =
    let taken = c.as_slice-2.ensures ∙ c.in_ok-taken.ensures ∙ ap (λ r. taken_datapaths c.args.live.now.entries r) c.as_slice.ensures in
    let free = c.in_ok-free.ensures ∙ ap (λ t. take c.len.result (free_in c.args.range t)) taken in
    let all = free_in c.args.range (taken_datapaths c.args.live.now.entries c.args.retired.now) in
    let count = c.len.ensures.len ∙ ap length c.in_ok-arrivals.ensures in
    c.in_ok-given.ensures
    ∙ ap (λ ks. with_keys new_datapath_key c.in_ok-arrivals.arrivals.entries ks) (c.as_slice-3.ensures ∙ free ∙ ap (λ n. take n all) count)
    ∙ ap (λ es. with_keys new_datapath_key es (take (length (in_order (datapaths_in c.args.added.now))) all)) c.in_ok-arrivals.ensures
    ∙ with_keys_take new_datapath_key (in_order (datapaths_in c.args.added.now)) all

pub returns-clause-enough : goal.returns-clause-enough
returns-clause-enough c =
    let taken = c.as_slice-2.ensures ∙ c.in_ok-taken.ensures ∙ ap (λ r. taken_datapaths c.args.live.now.entries r) c.as_slice.ensures in
    let free = c.in_ok-free.ensures ∙ ap (λ t. take c.len.result (free_in c.args.range t)) taken in
    let all = free_in c.args.range (taken_datapaths c.args.live.now.entries c.args.retired.now) in
    let short = take_short c.len.result all in
    let found = c.len-2.ensures ∙ ap length free in
    let wanted = c.len-3.ensures.len ∙ ap length c.in_ok-arrivals.ensures in
    let below = c.if-len.false in
    omega (arith, short, found, wanted, below)
