use Rattle.std.proofs.Common.{◌≡◌, sym, ◌∙◌, ap}
use Rattle.tunnel_keys.specs.Keys.{ports_on}
use Rattle.tunnel_keys.specs.Giving.{lists_of}
use Rattle.tunnel_keys.proofs.Lists.{no_length, some_length}
use Rattle.tunnel_keys.proofs.PortLists.{one_list_more}
use Rattle.tunnel_keys.proofs.giving.listed_ports.Goals as goal
use Rattle.tunnel_keys.proofs.giving.listed_ports.Goals.{then-is_empty, else-is_empty}

pub loop-name-preserved : goal.loop-name-preserved
loop-name-preserved c =
    let ports = c.args.ports.now.entries in
    let name = c.in-Some.name.now in
    let here : c.if-is_empty.here.now ≡ ports_on ports name = elim c.if-is_empty.branch [
      | then-is_empty w ↦ ap (λ r. r.now) w.here-is ∙ w.listed-here.ensures ∙ c.requires.unchanged name (sym c.under.ensures ∙ no_length c.under.result.now (sym c.is_empty.ensures ∙ w.if-is_empty.true))
      | else-is_empty w ↦ ap (λ r. r.now) w.here-is ∙ w.under-here.ensures ∙ c.loop-name.invariant.1 name (λ none. some_length c.under.result.now (sym c.is_empty.ensures ∙ w.if-is_empty.false) (c.under.ensures ∙ none))
    ] in (
      one_list_more ports (name, c.in-Some.field-0-1.now) c.loop-name.name-iterator c.next.new.self c.loop-name.lists c.push.new.self (lists_of ports c.args.datapaths.now.entries) c.in_ok-list.list
          c.loop-name.invariant.0 c.in-Some.ensures.steps c.in_ok-push.ensures.ok (c.in_ok-list.ensures ∙ here),
      c.loop-name.invariant.1,
    )
