-- Where the balancer's record and its offline marks are the same, the balancer reads the same and has the same rows.
use Rattle.std.specs.Prelude.{◌≡◌}
use Rattle.ovn_base.specs.declared.name.Name.{Name}
use Rattle.nb_records.specs.Network.{Network}
use Rattle.logical_flows.specs.declared.unit.UnitId.TheVariants.{Balancer}
use Rattle.stage_rows.proofs.ReadsLaws.{reads_law}
use Rattle.stage_rows.specs.Admitting.{AdmitsBalancer}
use Rattle.stage_rows.specs.Reads.{reads_of, AgreeOnReads}
use Rattle.stage_rows.specs.Units.{rows_of}

pub balancer_law : (f g : Network) (name datapath : Name) → AdmitsBalancer f name datapath → AdmitsBalancer g name datapath → AgreeOnReads f g (Balancer name datapath)
    → (reads_of f (Balancer name datapath) ≡ reads_of g (Balancer name datapath)) × (rows_of f (Balancer name datapath) ≡ rows_of g (Balancer name datapath))
balancer_law f g name datapath a b same = let h = reads_law f g (Balancer name datapath) a b same in (h.reads, h.rows)
