-- Where the rule's record is the same, the rule reads the same and has the same row.
use Rattle.std.specs.Prelude.{◌≡◌}
use Rattle.ovn_base.specs.declared.name.Name.{Name}
use Rattle.nb_records.specs.Network.{Network}
use Rattle.logical_flows.specs.declared.unit.UnitId.TheVariants.{Rule}
use Rattle.stage_rows.proofs.ReadsLaws.{reads_law}
use Rattle.stage_rows.specs.Admitting.{AdmitsRule}
use Rattle.stage_rows.specs.Reads.{reads_of, AgreeOnReads}
use Rattle.stage_rows.specs.Units.{rows_of}

pub rule_law : (f g : Network) (rule switch : Name) → AdmitsRule f rule switch → AdmitsRule g rule switch → AgreeOnReads f g (Rule rule switch)
    → (reads_of f (Rule rule switch) ≡ reads_of g (Rule rule switch)) × (rows_of f (Rule rule switch) ≡ rows_of g (Rule rule switch))
rule_law f g rule switch a b same = let h = reads_law f g (Rule rule switch) a b same in (h.reads, h.rows)
