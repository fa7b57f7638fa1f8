-- The records that operations add and the values that they set are in their grammars.
use Rattle.std.specs.Prelude.{◌≡◌, ◌≤◌, ◌&&◌, ◌||◌, not, nat_le, ℕ, suc, Bool, true, false, List, [], ◌∷◌, length, codes, Option, Some, None, option_and_then, Ok, refl}
use Rattle.std.specs.Cmp.{first_so, second_so}
use Rattle.std.specs.List.{AllByRecursion}
use Rattle.std.specs.Str.{bytes_eq}
use Rattle.std.proofs.Common.{ap, ◌∙◌, sym, subst, inl, inr}
use Rattle.std.proofs.lemmas.Bool.{leb-true}
use Rattle.std.proofs.lemmas.Slice.Eq.{bytes_eq-Decides}
use Rattle.serde_json.specs.Data.{Data, array, Items, no_items, item}
use Rattle.serde_json.specs.Events.{items_len}
use Rattle.serde_json.specs.Find.{get, as_str, as_array}
use Rattle.ovn_base.specs.declared.limits.TheConstants.{MAX_OPERATIONS, MAX_ACL_PRIORITY}
use Rattle.ovn_base.specs.declared.name.Name.{Name}
use Rattle.ovn_base.specs.names.NameText.{IsName, spelled_name}
use Rattle.nb_records.specs.Grammar.{IfGiven, HasItsRouterPort, IsOfOne, IsInGrammar, kind_of_change, IsChangeInGrammar, IsOpInGrammar}
use Rattle.nb_records.specs.declared.change.Op.{Op}
use Rattle.nb_records.specs.declared.change.Op.TheVariants as op
use Rattle.nb_records.specs.declared.kinds.Kind.{Kind}
use Rattle.nb_records.specs.declared.kinds.Kind.TheVariants as kind
use Rattle.nb_records.specs.declared.switch.PortKind.{PortKind}
use Rattle.nb_records.specs.declared.switch.PortKind.TheVariants as port_kind
use Rattle.match_language.proofs.Steps.{chosen}
use Rattle.edit_reader.specs.Outcomes.{of_kind, in_range}
use Rattle.edit_reader.specs.Fields.{default_at, default_or, text_by}
use Rattle.edit_reader.specs.Fitting.{IsEdit, AreOps}
use Rattle.edit_reader.specs.Grammars.{spelled_port_kind}
use Rattle.edit_reader.specs.Operations.{only_added, only_set, only_removed, added_of, set_of, removed_of, op_by, head_of, op_of, ops_of, few_operations, edit_of}
use Rattle.edit_reader.specs.Records.{name_in, record_from, record_of, change_from, change_of}
use Rattle.edit_reader.specs.Tables.{a_text, names, is_the_text, has, is_router, rows_of, ValuesOf, values_of, ChangesOf, changes_of}
use Rattle.edit_reader.specs.declared.event.ReadRefusal.TheVariants.{NotObject}
use Rattle.edit_reader.specs.declared.operations.Verb.{Verb}
use Rattle.edit_reader.specs.declared.operations.Verb.TheVariants as verb
use Rattle.edit_reader.proofs.NamesOnce.{InOrder, ItemsInOrder}
use Rattle.edit_reader.proofs.ReadSteps.{found, ok_is, some_is, not_none, bound, chosen_some, chosen_ok, kind_is, range_is}
use Rattle.edit_reader.proofs.TablesFit.{FitsWhere, text_spelled, value_fits, needed_fits, values_read, read_fit, values_fit, FitChanges, changes_fit}

-- ---- fields that go with one another

abbrev is_router_kind : PortKind → Bool
is_router_kind port_kind.Virtual = false
is_router_kind port_kind.Router = true

port_kind_text_is : (text : List ℕ) (k : PortKind) → spelled_port_kind text ≡ Some k → bytes_eq text (codes "router") ≡ is_router_kind k
unfolding spelled_port_kind
port_kind_text_is text k e = elim (chosen (bytes_eq [] text) (found port_kind.Virtual) _ (Some k) e) [
  | inl h ↦
      let same = some_is port_kind.Virtual k h.1 in
      let empty = (bytes_eq-Decides [] text).0 h.0 in
      subst (λ (t : List ℕ). bytes_eq t (codes "router") ≡ is_router_kind k) empty (ap is_router_kind same)
  | inr h ↦
      let chose = chosen_some (bytes_eq (codes "router") text) (found port_kind.Router) k h.1 in
      let same = some_is port_kind.Router k chose.1 in
      let router = (bytes_eq-Decides (codes "router") text).0 chose.0 in
      subst (λ (t : List ℕ). bytes_eq t (codes "router") ≡ is_router_kind k) router (ap is_router_kind same)
]

-- the port is one to a router exactly where `type` is the text `router`
port_kind_is : (d : Data) (k : PortKind) → default_or (text_by spelled_port_kind) port_kind.Virtual (codes "type") d ≡ Ok k → is_router d ≡ is_router_kind k
unfolding default_or
port_kind_is d k e = by (get (codes "type") d) e
  where
    by : (o : Option Data) → default_at (text_by spelled_port_kind) port_kind.Virtual (codes "type") o ≡ Ok k → is_the_text (codes "router") (option_and_then as_str o) ≡ is_router_kind k
    by (Some v) g =
        let text = text_spelled spelled_port_kind (codes "type") v k g in
        ap (is_the_text (codes "router")) text.1 ∙ port_kind_text_is text.0 k text.2
    by None g = ap is_router_kind (ok_is port_kind.Virtual k g)

its_router_port : (k : PortKind) (asked there : Bool) (x : Option Name) → asked ≡ is_router_kind k → FitsWhere IsName asked there x → HasItsRouterPort k x
its_router_port port_kind.Virtual asked there None is h = tt
its_router_port port_kind.Virtual asked there (Some name) is h = let both : true ≡ false = sym h.0 ∙ is in absurd cc
its_router_port port_kind.Router asked there None is h = let both : true ≡ false = sym is ∙ h in absurd cc
its_router_port port_kind.Router asked there (Some name) is h = h.2

of_one : (switch group : Bool) (x y : Option Name) → FitsWhere IsName (switch || not group) switch x → FitsWhere IsName (not switch) group y → IsOfOne x y
of_one switch group (Some name) None h k = h.2
of_one switch group None (Some name) h k = k.2
of_one true group None None h k = absurd cc
of_one false group None None h k = absurd cc
of_one true group (Some name) (Some other) h k = let never = k.0 in absurd cc
of_one false group (Some name) (Some other) h k = let never = h.1 in absurd cc

if_given : {A : Type 0} (P Q : A → Type 0) → ((x : A) → P x → Q x) → (o : Option A) → IfGiven P o → IfGiven Q o
if_given P Q to (Some x) h = to x h
if_given P Q to None h = tt

-- ---- records

pub record_fits : (k : Kind) (name : Name) (d : Data) (v : ValuesOf (rows_of k)) → InOrder d → IsName name → values_of (rows_of k) d ≡ Ok v → IsInGrammar (record_from k name v)
record_fits kind.Switch name d v h n e = n
record_fits kind.Router name d (chassis, end) h n e =
    let f = values_fit (rows_of kind.Router) d (chassis, end) h e in
    record { name = n; chassis = f.0 }
record_fits kind.RouterPort name d (router, (mac, (networks, (peer, end)))) h n e =
    let f = values_fit (rows_of kind.RouterPort) d (router, (mac, (networks, (peer, end)))) h e in
    record { name = n; router = f.0; networks = f.1.1.0; peer = f.1.1.1.0 }
record_fits kind.SwitchPort name d (switch, (port_kind, (router_port, (addresses, (port_security, (enabled, end)))))) h n e =
    let read = values_read (rows_of kind.SwitchPort) d (switch, (port_kind, (router_port, (addresses, (port_security, (enabled, end)))))) e in
    let f = read_fit (rows_of kind.SwitchPort) d (switch, (port_kind, (router_port, (addresses, (port_security, (enabled, end)))))) h read in
    record {
      name = n;
      switch = f.0;
      router_port = its_router_port port_kind (is_router d) (has (codes "router_port") d) router_port (port_kind_is d port_kind read.1.0) f.1.1.0;
      addresses = f.1.1.1.0 tt;
      port_security = f.1.1.1.1.0 tt;
    }
record_fits kind.AddressSet name d (addresses, end) h n e =
    let f = values_fit (rows_of kind.AddressSet) d (addresses, end) h e in
    record { name = n; addresses = f.0 }
record_fits kind.PortGroup name d (ports, end) h n e =
    let f = values_fit (rows_of kind.PortGroup) d (ports, end) h e in
    record { name = n; ports = f.0 }
record_fits kind.Acl name d (switch, (port_group, (direction, (priority, (matching, (action, end)))))) h n e =
    let f = values_fit (rows_of kind.Acl) d (switch, (port_group, (direction, (priority, (matching, (action, end)))))) h e in
    record {
      name = n;
      scope = of_one (has (codes "switch") d) (has (codes "port_group") d) switch port_group f.0 f.1.0;
      priority = f.1.1.1.0.1;
      matching = f.1.1.1.1.0;
    }
record_fits kind.Route name d (router, (prefix, (nexthop, end))) h n e =
    let f = values_fit (rows_of kind.Route) d (router, (prefix, (nexthop, end))) h e in
    record { name = n; router = f.0; prefix = f.1.0; nexthop = f.1.1.0 }
record_fits kind.Nat name d (router, (nat_kind, (external_ip, (logical_ip, end)))) h n e =
    let f = values_fit (rows_of kind.Nat) d (router, (nat_kind, (external_ip, (logical_ip, end)))) h e in
    record { name = n; router = f.0; external_ip = f.1.1.0; logical_ip = f.1.1.1.0 }
record_fits kind.LoadBalancer name d (protocol, (vips, (switches, (routers, end)))) h n e =
    let f = values_fit (rows_of kind.LoadBalancer) d (protocol, (vips, (switches, (routers, end)))) h e in
    record { name = n; vips = f.1.0; switches = f.1.1.0 tt; routers = f.1.1.1.0 tt }
record_fits kind.StaticMac name d (port, (ip, (mac, end))) h n e =
    let f = values_fit (rows_of kind.StaticMac) d (port, (ip, (mac, end))) h e in
    record { name = n; port = f.0; ip = f.1.0 }

-- ---- changes

pub change_fits : (k : Kind) (v : ChangesOf (rows_of k)) → FitChanges (rows_of k) v → (kind_of_change (change_from k v) ≡ k) × IsChangeInGrammar (change_from k v)
change_fits kind.Switch v f = (refl, tt)
change_fits kind.Router v f = (refl, tt)
change_fits kind.RouterPort (mac, (networks, (peer, end))) f = (refl, (f.1.0, f.1.1.0))
change_fits kind.SwitchPort (addresses, (port_security, (enabled, end))) f = (refl, (f.0, f.1.0))
change_fits kind.AddressSet (addresses, end) f = (refl, f.0)
change_fits kind.PortGroup (ports, end) f = (refl, f.0)
change_fits kind.Acl (priority, (matching, (action, end))) f = (refl, (if_given (λ p. (0 ≤ p) × (p ≤ MAX_ACL_PRIORITY)) (λ p. p ≤ MAX_ACL_PRIORITY) (λ p h. h.1) priority f.0, f.1.0))
change_fits kind.Route (prefix, (nexthop, end)) f = (refl, (f.0, f.1.0))
change_fits kind.Nat (external_ip, (logical_ip, end)) f = (refl, (f.0, f.1.0))
change_fits kind.LoadBalancer (vips, (switches, (routers, end))) f = (refl, (f.0, f.1.0, f.1.1.0))
change_fits kind.StaticMac (ip, (mac, end)) f = (refl, f.0)

-- ---- operations

name_in_fits : (d : Data) (name : Name) → InOrder d → name_in d ≡ Ok name → IsName name
name_in_fits d name h e = (needed_fits IsName (text_by spelled_name) (codes "name") d h (λ v x k g. value_fits (a_text names) v (codes "name") v x k g) name e).1

abbrev OpFits : Op → Type 0
OpFits x = IsOpInGrammar x × IsEdit x

added_fits : (k : Kind) (d : Data) (x : Op) → InOrder d → added_of k d ≡ Ok x → OpFits x
unfolding added_of record_of
added_fits k d x h e =
    let known = bound (only_added k d) _ x e in
    let added = bound (record_of k d) _ x known.2 in
    let name = bound (name_in d) _ added.0 added.1 in
    let values = bound (values_of (rows_of k) d) _ added.0 name.2 in
    let fits = record_fits k name.0 d values.0 h (name_in_fits d name.0 h name.1) values.1 in
    subst OpFits (ok_is (op.Add added.0) x added.2) (subst IsInGrammar (ok_is (record_from k name.0 values.0) added.0 values.2) fits, tt)

set_fits : (k : Kind) (d : Data) (x : Op) → InOrder d → set_of k d ≡ Ok x → OpFits x
unfolding set_of change_of
set_fits k d x h e =
    let known = bound (only_set k d) _ x e in
    let name = bound (name_in d) _ x known.2 in
    let change = bound (change_of k d) _ x name.2 in
    let values = bound (changes_of (rows_of k) d) _ change.0 change.1 in
    let fits = subst (λ c. (kind_of_change c ≡ k) × IsChangeInGrammar c) (ok_is (change_from k values.0) change.0 values.2) (change_fits k values.0 (changes_fit (rows_of k) d values.0 h values.1)) in
    subst OpFits (ok_is (op.Set k name.0 change.0) x change.2) ((name_in_fits d name.0 h name.1, fits.0, fits.1), tt)

removed_fits : (k : Kind) (d : Data) (x : Op) → InOrder d → removed_of k d ≡ Ok x → OpFits x
unfolding removed_of
removed_fits k d x h e =
    let known = bound (only_removed d) _ x e in
    let name = bound (name_in d) _ x known.2 in
    subst OpFits (ok_is (op.Remove k name.0) x name.2) (name_in_fits d name.0 h name.1, tt)

op_by_fits : (head : Option (Verb × Kind)) (d : Data) (x : Op) → InOrder d → op_by head d ≡ Ok x → OpFits x
op_by_fits (Some (verb.Add, k)) d x h e = added_fits k d x h e
op_by_fits (Some (verb.Set, k)) d x h e = set_fits k d x h e
op_by_fits (Some (verb.Remove, k)) d x h e = removed_fits k d x h e
op_by_fits None d x h e = absurd cc

op_fits : (d : Data) (x : Op) → InOrder d → op_of d ≡ Ok x → OpFits x
unfolding op_of
op_fits d x h e = op_by_fits (head_of d) d x h (chosen_ok _ (op_by (head_of d) d) NotObject x e).1

-- ---- an edit

abbrev OpsFit : ℕ → List Op → Type 0
OpsFit n ops = (length ops ≡ n) × AllByRecursion IsOpInGrammar ops × AllByRecursion IsEdit ops

ops_fit : (ds : Items) (ops : List Op) → ItemsInOrder ds → ops_of ds ≡ Ok ops → OpsFit (items_len ds) ops
ops_fit no_items ops h e = subst (OpsFit 0) (ok_is [] ops e) (refl, tt, tt)
ops_fit (item d ds) ops h e =
    let x = bound (op_of d) _ ops e in
    let xs = bound (ops_of ds) _ ops x.2 in
    let first = op_fits d x.0 h.0 x.1 in
    let rest = ops_fit ds xs.0 h.1 xs.1 in
    subst (OpsFit (suc (items_len ds))) (ok_is (x.0 ∷ xs.0) ops xs.2) (ap suc rest.0, (first.0, rest.1), (first.1, rest.2))

array_in_order : (d : Data) (ds : Items) → InOrder d → as_array d ≡ Some ds → ItemsInOrder ds
array_in_order (array es) ds h e = subst ItemsInOrder (some_is es ds e) h
array_in_order _ ds h e = absurd (not_none ds e)

pub edit_fits : (d : Data) (ops : List Op) → InOrder d → edit_of d ≡ Ok ops → AreOps ops
unfolding edit_of
edit_fits d ops h e =
    let items = bound (of_kind (codes "edit") (as_array d)) _ ops e in
    let few = bound (in_range (codes "edit") (few_operations items.0)) _ ops items.2 in
    let n = items_len items.0 in
    let chose = chosen_some (nat_le 1 n && nat_le n MAX_OPERATIONS) (Some items.0) few.0 (range_is (codes "edit") (few_operations items.0) few.0 few.1) in
    let same = some_is items.0 few.0 chose.1 in
    let ordered = array_in_order d items.0 h (kind_is (codes "edit") (as_array d) items.0 items.1) in
    let fits = subst (λ (ds : Items). ops_of ds ≡ Ok ops → OpsFit n ops) same (ops_fit items.0 ops ordered) few.2 in
    record {
      some = subst (λ (m : ℕ). 1 ≤ m) (sym fits.0) (leb-true 1 n (first_so (nat_le 1 n) (nat_le n MAX_OPERATIONS) chose.0));
      few = subst (λ (m : ℕ). m ≤ MAX_OPERATIONS) (sym fits.0) (leb-true n MAX_OPERATIONS (second_so (nat_le 1 n) (nat_le n MAX_OPERATIONS) chose.0));
      each = fits.1;
      edits = fits.2;
    }
