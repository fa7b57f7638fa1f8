use Rattle.std.proofs.Common.{◌≡◌, ◌++◌, drop, flat_map}
use Rattle.event_lines.specs.Lines.{line_of, words_of}
use Rattle.event_lines.specs.Text.{StartsWith}
use Rattle.event_lines.proofs.lines.put_accepted.Given as goal

-- the lines so far, and those of the effects that are left
abbrev pub invariant-effects : goal.invariant-effects
invariant-effects l =
    record {
      lines : l.out.items ++ flat_map (λ effect. line_of l.number (words_of effect)) (drop l.effect-index l.effects) ≡ l.fn.out.items ++ flat_map (λ effect. line_of l.number (words_of effect)) l.effects;
      front : StartsWith l.out.items l.fn.out.items;
    }
