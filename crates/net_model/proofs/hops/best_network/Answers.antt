use Rattle.std.proofs.Common.{sym, ap, ◌∙◌}
use Rattle.std.specs.Prelude.{List, Option}
use Rattle.nb_records.specs.declared.router.RouterPort.{RouterPort}
use Rattle.ovn_base.specs.declared.name.Name.{Name}
use Rattle.net_model.proofs.HopLaws.{ports_more}
use Rattle.net_model.proofs.hops.best_network.Goals as goal
use Rattle.net_model.specs.Hops.{best_leg, or_better, network_legs}
use Rattle.net_model.specs.declared.hops.Leg.{Leg}

pub ports-preserved-then-eq : goal.ports-preserved-then-eq
ports-preserved-then-eq c =
    let router = c.args.router.now in
    let dst = c.args.dst in
    let best = c.ports.best in
    let rest = c.next.new.self in
    ap (λ (o : Option Leg). or_better o (best_leg (network_legs rest router dst))) (c.better_of-best.ensures ∙ ap (or_better best) c.best_of_port.ensures)
    ∙ ports_more router dst (c.in-Some._name.now, c.in-Some.port.now) rest best (sym c.eq.ensures ∙ c.if-eq.true)
    ∙ ap (λ (ports : List (Name × RouterPort)). or_better best (best_leg (network_legs ports router dst))) (sym c.in-Some.ensures.steps)
    ∙ c.ports.invariant
