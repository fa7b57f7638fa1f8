use Rattle.std.proofs.Common.{List, map, drop, ap, ◌∙◌, ◌+◌}
use Rattle.inet_packet.specs.declared.cube.Cube.{Cube}
use Rattle.match_language.specs.declared.field.Field.TheVariants as f
use Rattle.match_cubes.specs.Steps.{join_one, join_from, test_in}
use Rattle.match_cubes.proofs.Joins.{join_at_or}
use Rattle.match_cubes.proofs.cubes.predicate_cubes.Goals as goal

pub loop-field-preserved : goal.loop-field-preserved
loop-field-preserved c =
    ap (λ (all : List Cube). join_from c.turn-is_every.result all (map (test_in c.args.positive) (drop (c.loop-field.field-index + 1) c.tests-field-items.result.now))) (c.in_ok-all-2.ensures ∙ ap (join_one c.turn-is_every.result c.loop-field.all) c.in_ok-cubes.ensures)
    ∙ join_at_or (test_in c.args.positive) c.turn-is_every.result c.loop-field.all c.tests-field-items.result.now c.loop-field.field-index (f.EthSrc, record { value = 0; mask = 0 }) c.loop-field-test.true
    ∙ c.loop-field.invariant
