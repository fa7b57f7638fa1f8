use Rattle.std.proofs.Common.{◌≢◌, ◌≤◌, [], length, sym, ◌∙◌, ap, subst}
use Rattle.std.proofs.lemmas.Result.{err_from_is_err_and}
use Rattle.ovn_base.specs.declared.name.Name.{Name}
use Rattle.ovn_base.specs.names.ByName.{in_order}
use Rattle.tunnel_keys.specs.Grouped.{grouped_under}
use Rattle.tunnel_keys.specs.Keys.{free_in, taken_ports}
use Rattle.tunnel_keys.specs.Giving.{IsPortFaultOn}
use Rattle.tunnel_keys.specs.declared.owner.DatapathKey.{DatapathKey}
use Rattle.tunnel_keys.specs.declared.owner.Identity.{Identity}
use Rattle.tunnel_keys.proofs.TakenKeys.{retired_under, free_is, given_is}
use Rattle.tunnel_keys.proofs.Lists.{no_length, some_length}
use Rattle.tunnel_keys.proofs.Faults.{enough_more, enough_none, given_more, given_none, fault_first}
use Rattle.tunnel_keys.proofs.giving.give_port_keys.Goals as goal

pub returns-in_err-more-clause-fault : goal.returns-in_err-more-clause-fault
returns-in_err-more-clause-fault c =
    let on : Identity = record { name = c.in-Some.name.now; birth = c.in-Some.datapath.now.birth } in
    let some : grouped_under c.in_ok-arrivals.arrivals.entries on.name ≢ [] = λ none. some_length c.under-come.result.now (sym c.is_empty.ensures ∙ c.if-not-is_empty.true) (c.under-come.ensures ∙ none) in
    let here = c.under-here.ensures ∙ c.in_ok-staying.ensures on.name some in
    let gone = c.under-left.ensures ∙ c.in_ok-gone.ensures on.name ∙ ap (λ l. retired_under l on.name) c.as_slice.ensures in
    let come = c.under-come.ensures ∙ c.in_ok-arrivals.ensures on.name in
    let e = c.in_err-more.field-0.0 in
    let free = free_is c.args.range c.args.live.now.entries c.args.retired.now c.args.added.now on c.under-here.result.now c.under-left.result.now c.under-come.result.now here gone come in
    let fault = subst (λ as'. IsPortFaultOn on.name (free_in c.args.range (taken_ports c.args.live.now.entries c.args.retired.now on)) (in_order as') e) come (subst (λ l. IsPortFaultOn on.name l (in_order c.under-come.result.now) e) free c.in_err-more.ensures.fault) in
    let p = err_from_is_err_and c.from_residual-in_err-more.result c.from_residual-in_err-more.ensures.1 in
    rw (p.1, p.2) (fault_first c.args.range c.args.live.now.entries c.args.retired.now c.args.added.now (c.in-Some.name.now, c.in-Some.datapath.now) c.loop-name.name-iterator c.next.new.self c.args.datapaths.now.entries e c.loop-name.invariant.1 c.in-Some.ensures.steps fault)

pub loop-name-preserved : goal.loop-name-preserved
loop-name-preserved c =
    let x : Name × DatapathKey = (c.in-Some.name.now, c.in-Some.datapath.now) in
    let none = sym (c.under-come.ensures ∙ c.in_ok-arrivals.ensures c.in-Some.name.now) ∙ no_length c.under-come.result.now (sym c.is_empty.ensures ∙ c.if-not-is_empty.false) in (
      given_none c.args.range c.args.live.now.entries c.args.retired.now c.args.added.now x c.loop-name.name-iterator c.next.new.self c.args.datapaths.now.entries c.loop-name.given none c.loop-name.invariant.0 c.in-Some.ensures.steps,
      enough_more c.args.range c.args.live.now.entries c.args.retired.now c.args.added.now x c.loop-name.name-iterator c.next.new.self c.args.datapaths.now.entries c.loop-name.invariant.1 c.in-Some.ensures.steps (enough_none c.args.range c.args.live.now.entries c.args.retired.now c.args.added.now x none),
    )

pub loop-name-preserved-in-Continue-branch-5 : goal.loop-name-preserved-in-Continue-branch-5
loop-name-preserved-in-Continue-branch-5 c =
    let on : Identity = record { name = c.in-Some.name.now; birth = c.in-Some.datapath.now.birth } in
    let some : grouped_under c.in_ok-arrivals.arrivals.entries on.name ≢ [] = λ none. some_length c.under-come.result.now (sym c.is_empty.ensures ∙ c.if-not-is_empty.true) (c.under-come.ensures ∙ none) in
    let here = c.under-here.ensures ∙ c.in_ok-staying.ensures on.name some in
    let gone = c.under-left.ensures ∙ c.in_ok-gone.ensures on.name ∙ ap (λ l. retired_under l on.name) c.as_slice.ensures in
    let come = c.under-come.ensures ∙ c.in_ok-arrivals.ensures on.name in
    let free = free_is c.args.range c.args.live.now.entries c.args.retired.now c.args.added.now on c.under-here.result.now c.under-left.result.now c.under-come.result.now here gone come in
    let given = given_is c.args.range c.args.live.now.entries c.args.retired.now c.args.added.now on c.under-here.result.now c.under-left.result.now c.under-come.result.now here gone come in
    let enough = subst (λ as'. length (in_order as') ≤ length (free_in c.args.range (taken_ports c.args.live.now.entries c.args.retired.now on))) come (subst (λ l. length (in_order c.under-come.result.now) ≤ length l) free c.in_ok-more.ensures.enough) in (
      given_more c.args.range c.args.live.now.entries c.args.retired.now c.args.added.now (c.in-Some.name.now, c.in-Some.datapath.now) c.loop-name.name-iterator c.next.new.self c.args.datapaths.now.entries c.loop-name.given c.in_ok-more.more c.append.new.self c.loop-name.invariant.0 c.in-Some.ensures.steps (c.in_ok-more.ensures.given ∙ given) c.in_ok-append.ensures.ok,
      enough_more c.args.range c.args.live.now.entries c.args.retired.now c.args.added.now (c.in-Some.name.now, c.in-Some.datapath.now) c.loop-name.name-iterator c.next.new.self c.args.datapaths.now.entries c.loop-name.invariant.1 c.in-Some.ensures.steps enough,
    )
