use Rattle.std.specs.Prelude.{◌≡◌, ◌∷◌, reverse}
use Rattle.std.specs.List.{AllByRecursion}
use Rattle.indexmap.specs.IndexMap.{spare}
use Rattle.switch_engine.specs.Advance.{IsCarriedInRange}
use Rattle.switch_engine.specs.Proper.{IsProper, IsEntry}
use Rattle.switch_engine.proofs.WalkSteps.{Going}
use Rattle.switch_engine.proofs.Measure.{load, spread}
use Rattle.switch_engine.proofs.engine.walk.Given as goal

abbrev pub invariant-copies : goal.invariant-copies
invariant-copies g l = record {
  going : Going (g.T.Lookup.flows l.tables) l.fn.entry l.fn.now l.fn.packet l.fn.zones.entries l.zones.entries l.fn.out l.out (l.copy ∷ reverse l.pending);
  proper : IsProper (g.T.Lookup.flows l.tables);
  entry : IsEntry l.entry;
  in_range : AllByRecursion IsCarriedInRange (l.copy ∷ reverse l.pending);
  room : spare l.zones ≡ spare l.fn.zones;
}

-- what goes on in place of a copy weighs less than it
abbrev pub decreases-copies : goal.decreases-copies
decreases-copies g l = load (spread (g.T.Lookup.flows l.tables)) (l.copy ∷ reverse l.pending)
