use Rattle.std.proofs.Common.{◌≡◌, ℕ, List, take}
use Rattle.ovn_base.specs.lists.Among.{Among}
use Rattle.flow_table.specs.declared.flow.Flow.{Flow}
use Rattle.tuple_space.specs.Masks.{cube_bits, cube_mask}
use Rattle.tuple_space.specs.Sieving.{bit_of, IsLet, IsLetWhole}
use Rattle.tuple_space.specs.Space.{mask_number}
use Rattle.tuple_space.proofs.bucket.Bucket.note_all.Given as goal

-- those so far are marked
abbrev pub invariant-loop-i : goal.invariant-loop-i
invariant-loop-i l = record {
  kept : (xs : List ℕ) (b : ℕ) → IsLet l.fn.sieve xs b → IsLet l.sieve xs b;
  noted : (f : Flow) → Among f (take l.i l.self.flows) → f.table ≡ l.table → IsLetWhole l.sieve (cube_bits f.cube) (bit_of (mask_number l.masks (cube_mask f.cube)));
}
