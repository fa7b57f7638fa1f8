use Rattle.std.proofs.Common.{◌≡◌, ◌-◌}
use Rattle.match_language.specs.Reading as spec
use Rattle.match_language.proofs.value.several.Given as goal

-- the values so far, and those to come
abbrev pub invariant-loop-turn : goal.invariant-loop-turn
invariant-loop-turn l = spec.several l.field l.rel l.fn.cursor ≡ spec.more_values l.field l.rel (l.turn-end - l.turn) l.values l.cursor
