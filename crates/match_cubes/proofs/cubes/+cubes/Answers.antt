use Rattle.std.proofs.Common.{◌<◌, List, length, map, drop, ap, ◌∙◌, ◌+◌, arith}
use Rattle.inet_packet.specs.declared.cube.Cube.{Cube}
use Rattle.match_language.specs.declared.expr.Expr.{Expr}
use Rattle.match_cubes.specs.Cubes.{cubes_in}
use Rattle.match_cubes.specs.Points.{setting}
use Rattle.match_cubes.specs.Steps.{join_one, join_from}
use Rattle.match_cubes.proofs.Joins.{join_at}
use Rattle.match_cubes.proofs.cubes.+cubes.Goals as goal

pub joined_cubes-loop-term-preserved : goal.joined_cubes-loop-term-preserved
joined_cubes-loop-term-preserved t c =
    let g : Expr → List Cube = λ e. cubes_in (setting c.args.sets.now c.args.ports.now) e c.args.positive in
    let lt : c.loop-term.term-index < length c.args.terms.now = omega arith in
    ap (λ (all : List Cube). join_from c.args.is_every all (map g (drop (c.loop-term.term-index + 1) c.args.terms.now))) (c.in_ok-all-2.ensures ∙ ap (join_one c.args.is_every c.loop-term.all) c.in_ok-cubes.ensures)
    ∙ join_at g c.args.is_every c.loop-term.all c.args.terms.now c.loop-term.term-index c.term-item.result lt c.term-item.is
    ∙ c.loop-term.invariant
