use Rattle.std.proofs.Common.{sym, ap, ◌∙◌}
use Rattle.std.specs.Prelude.{List, Option}
use Rattle.nb_records.specs.declared.router.RouterPort.{RouterPort}
use Rattle.ovn_base.specs.declared.name.Name.{Name}
use Rattle.router_stages.proofs.ExitLaws.{ports_more}
use Rattle.router_stages.proofs.facts.exits.longest_of_router.Goals as goal
use Rattle.router_stages.specs.Exits.{longest, or_longer, exits_among}
use Rattle.router_stages.specs.declared.facts.exits.Exit.{Exit}

pub ports-preserved-then-eq : goal.ports-preserved-then-eq
ports-preserved-then-eq c =
    let router = c.args.router.now in
    let ip = c.args.ip in
    let best = c.ports.best in
    let rest = c.next.new.self in
    ap (λ (o : Option Exit). or_longer o (longest (exits_among rest router ip))) (c.longer_of-best.ensures ∙ ap (or_longer best) c.longest_of_port.ensures)
    ∙ ports_more router ip (c.in-Some._name.now, c.in-Some.port.now) rest best (sym c.eq.ensures ∙ c.if-eq.true)
    ∙ ap (λ (ports : List (Name × RouterPort)). or_longer best (longest (exits_among ports router ip))) (sym c.in-Some.ensures.steps)
    ∙ c.ports.invariant
