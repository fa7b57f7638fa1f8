-- A mark breaks no rule: no rule reads the marks.
use Rattle.std.specs.Prelude.{◌≡◌, ℕ, Bool, true, false, List, [], ◌∷◌, None, refl}
use Rattle.ovn_base.specs.declared.address.Backend.{Backend}
use Rattle.ovn_base.specs.declared.name.Name.{Name}
use Rattle.nb_records.specs.Network.{Network, is_there, marked, records_of}
use Rattle.nb_records.specs.declared.balancer.OfflineMark.{OfflineMark}
use Rattle.nb_records.specs.declared.change.Op.{Op}
use Rattle.nb_records.specs.declared.change.Op.TheVariants as op
use Rattle.nb_records.specs.declared.kinds.Kind.{Kind}
use Rattle.nb_records.specs.declared.kinds.Kind.TheVariants as kind
use Rattle.nb_records.specs.declared.record.Record.{Record}
use Rattle.nb_records.specs.declared.record.Record.TheVariants as row
use Rattle.nb_rules.proofs.Validity.{unbroken, all_weaker}
use Rattle.nb_rules.specs.FirstBroken.{first_broken}
use Rattle.nb_rules.specs.Gateways.{needs_chassis}
use Rattle.nb_rules.specs.Prefixes.{repeats_prefix}
use Rattle.nb_rules.specs.References.{Reference, references_of}
use Rattle.nb_rules.specs.Unbroken.{AreUnbroken}
use Rattle.nb_rules.specs.Valid.{IsValid}
use Rattle.nb_edits.specs.OpFaults.{fault_of}

module _ (net : Network) (marks : List OfflineMark) where
  abbrev with_marks : Network
  with_marks = record net { offline = marks }

  there_still : (k : Kind) (q : Name) → is_there net k q ≡ true → is_there with_marks k q ≡ true
  there_still kind.Switch q h = h
  there_still kind.Router q h = h
  there_still kind.RouterPort q h = h
  there_still kind.SwitchPort q h = h
  there_still kind.AddressSet q h = h
  there_still kind.PortGroup q h = h
  there_still kind.Acl q h = h
  there_still kind.Route q h = h
  there_still kind.Nat q h = h
  there_still kind.LoadBalancer q h = h
  there_still kind.StaticMac q h = h

  prefix_still : (r : Record) → repeats_prefix net r ≡ false → repeats_prefix with_marks r ≡ false
  prefix_still (row.RouterPort r) h = h
  prefix_still (row.Route r) h = h
  prefix_still (row.Nat r) h = h
  prefix_still r h = refl

  chassis_still : (r : Record) → needs_chassis net r ≡ false → needs_chassis with_marks r ≡ false
  chassis_still (row.Nat r) h = h
  chassis_still (row.LoadBalancer r) h = h
  chassis_still r h = refl

  unbroken_still : AreUnbroken net → AreUnbroken with_marks
  unbroken_still h = record {
    references = all_weaker (λ (r : Record) p. all_weaker (λ (x : Reference) there. there_still x.0 x.1 there) (references_of r) p) (records_of net) h.references;
    addresses = h.addresses;
    peers = h.peers;
    macs = h.macs;
    ips = h.ips;
    networks = h.networks;
    switch_vips = h.switch_vips;
    router_vips = h.router_vips;
    bindings = h.bindings;
    prefixes = all_weaker (λ (r : Record) p. prefix_still r p) (records_of net) h.prefixes;
    next_hops = h.next_hops;
    chassis = all_weaker (λ (r : Record) p. chassis_still r p) (records_of net) h.chassis;
    widths = h.widths;
    datapaths = h.datapaths;
    ports = h.ports;
    acls = h.acls;
    cubes = h.cubes;
  }

  marks_break_none : (ops : List Op) → first_broken net [] ≡ None → first_broken with_marks ops ≡ None
  marks_break_none ops h = (unbroken with_marks ops).1 (unbroken_still ((unbroken net []).0 h))

marked_unbroken : (net : Network) (balancer : Name) (backend : Backend) (online : Bool) (ops : List Op) → first_broken net [] ≡ None → first_broken (marked net balancer backend online) ops ≡ None
marked_unbroken net balancer backend true ops h = marks_break_none net (marked net balancer backend true).offline ops h
marked_unbroken net balancer backend false ops h = marks_break_none net (marked net balancer backend false).offline ops h

pub health_fine : (net : Network) (balancer : Name) (backend : Backend) (online : Bool) (n : ℕ) → IsValid net → fault_of net (op.Health balancer backend online ∷ []) n ≡ None
unfolding fault_of
health_fine net balancer backend online n v = marked_unbroken net balancer backend online (op.Health balancer backend online ∷ []) v.unbroken
