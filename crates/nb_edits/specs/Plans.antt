-- What is answered to an edit.
use Rattle.std.specs.Prelude.{◌≡◌, ℕ, List, Option, Some, None, Result, Ok, Err}
use Rattle.nb_records.specs.Editing.{accepted}
use Rattle.nb_records.specs.Network.{Network}
use Rattle.nb_records.specs.declared.change.Op.{Op}
use Rattle.nb_rules.specs.declared.fault.SchemaFault.{SchemaFault}
use Rattle.net_model.specs.Owners.{owners_only_in}
use Rattle.nb_edits.specs.OpFaults.{fault_of}
use Rattle.nb_edits.specs.declared.plan.EditFault.{EditFault}
use Rattle.nb_edits.specs.declared.plan.EditFault.TheVariants as failed
use Rattle.nb_edits.specs.declared.plan.EditPlan.{EditPlan}

-- memory may run out at any time
abbrev pub Refuses : EditFault → Option SchemaFault → Type 0
Refuses failed.Memory fault = Unit {0}
Refuses (failed.Schema f) fault = fault ≡ Some f

-- the plan stands for the records after: with the datapaths and ports that come and go by it
pub record IsPlanBetween (net next : Network) (plan : EditPlan) : Type 0 where
  pub after : plan.after ≡ next
  pub added : plan.added ≡ owners_only_in next net
  pub removed : plan.removed ≡ owners_only_in net next

-- an edit is planned where it has no fault, and else its first fault is told
abbrev pub Plans : Result EditPlan EditFault → Network → List Op → ℕ → Type 0
Plans (Ok plan) net ops n = (fault_of net ops n ≡ None) × IsPlanBetween net (accepted net ops n) plan
Plans (Err e) net ops n = Refuses e (fault_of net ops n)
