use Rattle.std.proofs.Common.{◌≡◌, ◌⊎◌, drop}
use Rattle.ovn_base.specs.lists.Among.{Among}
use Rattle.flow_table.specs.declared.flow.Flow.{Flow}
use Rattle.tuple_space.specs.Masks.{cube_bits, cube_mask}
use Rattle.tuple_space.specs.Bunches.{flows_in}
use Rattle.tuple_space.specs.Sieving.{bit_of, IsLetWhole}
use Rattle.tuple_space.specs.Space.{mask_number}
use Rattle.tuple_space.proofs.buckets.Buckets.note_all.Given as goal

-- each flow of the table is marked, or stands in a bucket that is left
abbrev pub invariant-loop-i : goal.invariant-loop-i
invariant-loop-i l = (f : Flow) → Among f (flows_in l.self) → f.table ≡ l.table → Among f (flows_in (drop l.i l.self)) ⊎ IsLetWhole l.sieve (cube_bits f.cube) (bit_of (mask_number l.masks (cube_mask f.cube)))
