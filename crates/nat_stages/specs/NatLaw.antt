-- Where the record of the row of NAT is the same, its unit reads the same and has the same rows.
use Rattle.std.specs.Prelude.{◌≡◌}
use Rattle.ovn_base.specs.declared.name.Name.{Name}
use Rattle.nb_records.specs.Network.{Network}
use Rattle.logical_flows.specs.declared.unit.UnitId.TheVariants.{Nat}
use Rattle.stage_rows.proofs.ReadsLaws.{reads_law}
use Rattle.stage_rows.specs.Admitting.{AdmitsNat}
use Rattle.stage_rows.specs.Reads.{reads_of, AgreeOnReads}
use Rattle.stage_rows.specs.Units.{rows_of}

pub nat_law : (f g : Network) (name : Name) → AdmitsNat f name → AdmitsNat g name → AgreeOnReads f g (Nat name)
    → (reads_of f (Nat name) ≡ reads_of g (Nat name)) × (rows_of f (Nat name) ≡ rows_of g (Nat name))
nat_law f g name a b same = let h = reads_law f g (Nat name) a b same in (h.reads, h.rows)
