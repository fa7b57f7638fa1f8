-- Each record that another names is there.
use Rattle.std.specs.Prelude.{◌&&◌, Bool, true, false, not, cond, List, [], ◌∷◌, ◌++◌, map, flat_map, Option, Some, None, option_map}
use Rattle.std.specs.List.{list_any}
use Rattle.match_language.specs.declared.expr.Expr.{Expr, Expr-F, fold-Expr}
use Rattle.match_language.specs.declared.expr.Value.{Value}
use Rattle.match_language.specs.declared.expr.Value.TheVariants as value
use Rattle.ovn_base.specs.declared.name.Name.{Name}
use Rattle.ovn_base.specs.names.SameName.{same_name}
use Rattle.nb_records.specs.Network.{Network, is_there, name_of}
use Rattle.nb_records.specs.declared.change.Op.{Op}
use Rattle.nb_records.specs.declared.change.Op.TheVariants as op
use Rattle.nb_records.specs.declared.kinds.Kind.{Kind}
use Rattle.nb_records.specs.declared.kinds.Kind.TheVariants as kind
use Rattle.nb_records.specs.declared.record.Record.{Record}
use Rattle.nb_records.specs.declared.record.Record.TheVariants as row
use Rattle.nb_rules.specs.First.{first_record}
use Rattle.nb_rules.specs.declared.fault.SchemaFault.{SchemaFault}
use Rattle.nb_rules.specs.declared.fault.SchemaFault.TheVariants as fault

-- a record that another names, by its kind and its name
abbrev pub Reference : Type 0
Reference = Kind × Name

-- ---- the references of a match, in the order of its text: address sets and port groups; names of ports are none

abbrev pub value_references : Value → List Reference
value_references (value.Number bits mask) = []
value_references (value.Port text) = []
value_references (value.Set name) = (kind.AddressSet, name) ∷ []
value_references (value.Group name) = (kind.PortGroup, name) ∷ []

-- one layer of a match, above the references of its parts
abbrev pub layer_references : Expr-F (List Reference) → List Reference
layer_references (Expr-F.Const b) = []
layer_references (Expr-F.Is p) = []
layer_references (Expr-F.Not x) = x
layer_references (Expr-F.All xs) = flat_map (λ (x : List Reference). x) xs
layer_references (Expr-F.Any xs) = flat_map (λ (x : List Reference). x) xs
layer_references (Expr-F.Compare f r vs) = flat_map value_references vs

unfoldable pub match_references : Expr → List Reference
match_references = fold-Expr (List Reference) layer_references

-- ---- the references of a record, in the order of its fields and of their entries

abbrev pub to : Kind → Name → Reference
to k name = (k, name)

abbrev pub to_each : Kind → List Name → List Reference
to_each k names = map (to k) names

abbrev pub to_given : Kind → Option Name → List Reference
to_given k None = []
to_given k (Some n) = (k, n) ∷ []

abbrev pub references_of : Record → List Reference
references_of (row.Switch r) = []
references_of (row.Router r) = []
references_of (row.RouterPort r) = (kind.Router, r.router) ∷ to_given kind.RouterPort r.peer
references_of (row.SwitchPort r) = (kind.Switch, r.switch) ∷ to_given kind.RouterPort r.router_port
references_of (row.AddressSet r) = []
references_of (row.PortGroup r) = to_each kind.SwitchPort r.ports
references_of (row.Acl r) = to_given kind.Switch r.switch ++ to_given kind.PortGroup r.port_group ++ match_references r.matching
references_of (row.Route r) = (kind.Router, r.router) ∷ []
references_of (row.Nat r) = (kind.Router, r.router) ∷ []
references_of (row.LoadBalancer r) = to_each kind.Switch r.switches ++ to_each kind.Router r.routers
references_of (row.StaticMac r) = (kind.RouterPort, r.port) ∷ []

-- ---- what is missing

abbrev pub same_kind : Kind → Kind → Bool
same_kind kind.Switch kind.Switch = true
same_kind kind.Router kind.Router = true
same_kind kind.RouterPort kind.RouterPort = true
same_kind kind.SwitchPort kind.SwitchPort = true
same_kind kind.AddressSet kind.AddressSet = true
same_kind kind.PortGroup kind.PortGroup = true
same_kind kind.Acl kind.Acl = true
same_kind kind.Route kind.Route = true
same_kind kind.Nat kind.Nat = true
same_kind kind.LoadBalancer kind.LoadBalancer = true
same_kind kind.StaticMac kind.StaticMac = true
same_kind _ _ = false

abbrev pub removes : Reference → Op → Bool
removes reference (op.Remove k name) = same_kind k reference.0 && same_name name reference.1
removes reference _ = false

-- an operation removed a record of that kind and name
abbrev pub is_removed : List Op → Reference → Bool
is_removed ops reference = list_any (removes reference) ops

-- no such record is there, and an operation removed one, or none did
abbrev pub is_missing : Network → List Op → Bool → Reference → Bool
is_missing net ops true reference = not (is_there net reference.0 reference.1) && is_removed ops reference
is_missing net ops false reference = not (is_there net reference.0 reference.1) && not (is_removed ops reference)

-- the name of the first that passes the test
abbrev pub first_named : (Reference → Bool) → List Reference → Option Name
first_named test [] = None
first_named test (x ∷ xs) = cond (test x) (Some x.1) (first_named test xs)

-- ---- the clauses

-- who names the missing one is told where it was removed, else who is missing
abbrev pub missing_by : Bool → Name → Name → SchemaFault
missing_by true by missing = fault.StillUsed by
missing_by false by missing = fault.NoSuch missing

-- what is wrong with the first of the record's references to one that is missing
abbrev pub reference_fault : Network → List Op → Bool → Record → Option SchemaFault
reference_fault net ops removed r = option_map (missing_by removed (name_of r)) (first_named (is_missing net ops removed) (references_of r))

-- a record names one that isn't there, and that no operation removed
unfoldable pub no_such : Network → List Op → Option SchemaFault
no_such net ops = first_record (reference_fault net ops false) net

-- a record names one that an operation removed
unfoldable pub still_used : Network → List Op → Option SchemaFault
still_used net ops = first_record (reference_fault net ops true) net
