use Rattle.std.specs.Prelude.{◌≡◌, List, option_map}
use Rattle.std.proofs.Common.{subst}
use Rattle.std.proofs.lemmas.Result.{IfErr-weaker}
use Rattle.event_lines.specs.declared.refusal.Refusal.TheVariants as why
use Rattle.event_lines.specs.declared.refusal.StepFault.{StepFault}
use Rattle.event_lines.specs.declared.refusal.StepFault.TheVariants as fault_why
use Rattle.nb_edits.specs.OpFaults.{fault_of}
use Rattle.nb_records.specs.declared.change.Op.{Op}
use Rattle.world_setup.specs.Turning.{Tells}
use Rattle.world_setup.proofs.MarkedBackends.{memory_alone}
use Rattle.world_setup.proofs.setup.planned_mark.Goals as goal

pub returns-clause-refused : goal.returns-clause-refused
returns-clause-refused c =
    let net = c.args.records.now in
    let n = c.args.number in
    IfErr-weaker c.planned.result (λ (f : StepFault). Tells f (option_map (λ x. why.Schema x) (fault_of net c.from_ref.result.now n))) (λ (f : StepFault). f ≡ fault_why.Memory)
    (λ f told. memory_alone net c.args.balancer c.args.backend c.args.online n c.requires.valid f (subst (λ (ops : List Op). Tells f (option_map (λ x. why.Schema x) (fault_of net ops n))) c.from_ref.ensures.value told))
    c.planned.ensures.refused
