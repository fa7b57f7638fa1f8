-- What is wrong with an edit: with its operations one after another, or else with the records that they leave.
use Rattle.std.specs.Prelude.{◌||◌, ℕ, Bool, false, not, List, [], ◌∷◌, Option, Some, None}
use Rattle.ovn_base.specs.declared.name.Name.{Name}
use Rattle.ovn_base.specs.names.ByName.{at}
use Rattle.nb_records.specs.Editing.{operated, accepted, lists_backend}
use Rattle.nb_records.specs.declared.balancer.OfflineMark.{OfflineMark}
use Rattle.nb_records.specs.Network.{Network, is_there, kind_of, name_of, record_at}
use Rattle.nb_records.specs.Switches.{or_else}
use Rattle.nb_records.specs.declared.change.Change.{Change}
use Rattle.nb_records.specs.declared.change.Change.TheVariants as change
use Rattle.nb_records.specs.declared.change.Op.{Op}
use Rattle.nb_records.specs.declared.change.Op.TheVariants as op
use Rattle.nb_records.specs.declared.kinds.Kind.{Kind}
use Rattle.nb_records.specs.declared.kinds.Kind.TheVariants as kind
use Rattle.nb_records.specs.declared.record.Record.{Record}
use Rattle.nb_records.specs.declared.record.Record.TheVariants as row
use Rattle.nb_rules.specs.First.{fault_if}
use Rattle.nb_rules.specs.FirstBroken.{first_broken}
use Rattle.nb_rules.specs.declared.fault.SchemaFault.{SchemaFault}
use Rattle.nb_rules.specs.declared.fault.SchemaFault.TheVariants as fault
use Rattle.nb_edits.specs.Directions.{misdirects}

-- a record of the namespace has the name: switches and routers are one, and so are the ports of both
abbrev pub is_taken_for : Network → Kind → Name → Bool
is_taken_for net kind.Switch name = is_there net kind.Switch name || is_there net kind.Router name
is_taken_for net kind.Router name = is_there net kind.Switch name || is_there net kind.Router name
is_taken_for net kind.RouterPort name = is_there net kind.RouterPort name || is_there net kind.SwitchPort name
is_taken_for net kind.SwitchPort name = is_there net kind.RouterPort name || is_there net kind.SwitchPort name
is_taken_for net k name = is_there net k name

-- the record is a rule whose direction can't have its match
abbrev pub is_misdirected : Record → Bool
is_misdirected (row.Acl r) = misdirects r.direction r.matching
is_misdirected _ = false

-- the change gives the rule a match that its direction can't have
abbrev pub is_misdirecting : Change → Option Record → Bool
is_misdirecting (change.Acl priority (Some matching) action) (Some (row.Acl r)) = misdirects r.direction matching
is_misdirecting _ _ = false

-- a vip of the mark's balancer lists its backend
abbrev pub is_kept_mark : Network → OfflineMark → Bool
is_kept_mark net m = lists_backend m.backend (at net.load_balancers m.balancer)

-- what is wrong with an operation on these records
abbrev pub op_fault : Network → Op → Option SchemaFault
op_fault net (op.Add r) = or_else (fault_if (is_taken_for net (kind_of r) (name_of r)) (fault.DuplicateName (name_of r))) (fault_if (is_misdirected r) (fault.BadDirection (name_of r)))
op_fault net (op.Set k name c) = or_else (fault_if (not (is_there net k name)) (fault.NoSuch name)) (fault_if (is_misdirecting c (record_at net k name)) (fault.BadDirection name))
op_fault net (op.Remove k name) = fault_if (not (is_there net k name)) (fault.NoSuch name)
op_fault net (op.Health balancer backend online) = None

-- the first operation with a fault, each on what those before it leave
abbrev pub ops_fault : Network → List Op → ℕ → Option SchemaFault
ops_fault net [] n = None
ops_fault net (o ∷ ops) n = or_else (op_fault net o) (ops_fault (operated net o n) ops n)

-- the first fault of an edit by the event of this number: of an operation, or else the first clause that the records after all break
unfoldable pub fault_of : Network → List Op → ℕ → Option SchemaFault
fault_of net ops n = or_else (ops_fault net ops n) (first_broken (accepted net ops n) ops)
