use Rattle.std.proofs.Common.{◌≡◌, ◌<◌, ℕ, List, Some, slice_get}
use Rattle.tuple_space.specs.declared.mask.Asked.{Asked}
use Rattle.tuple_space.specs.Masks.{AllFit}
use Rattle.tuple_space.specs.Sieving.{HasBit, IsLet, IsLetAt}
use Rattle.tuple_space.proofs.sieve.Sieve.note.Given as goal

-- the bit is marked at the asks so far
abbrev pub invariant-loop-i : goal.invariant-loop-i
invariant-loop-i l = record {
  asks : l.self.asks.items ≡ l.fn.self.asks.items;
  seen : HasBit l.self.seen l.bit;
  kept : (xs : List ℕ) (b : ℕ) → IsLet l.fn.self xs b → IsLet l.self xs b;
  noted : (j : ℕ) (a : Asked) → j < l.i → slice_get l.self.asks.items j ≡ Some a → (xs : List ℕ) → AllFit l.bits xs → IsLetAt l.self j a xs l.bit;
}
