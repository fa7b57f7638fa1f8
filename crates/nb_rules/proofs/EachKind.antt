-- The first record of all kinds, kind by kind.
use Rattle.std.specs.Prelude.{◌≡◌, Bool, List, [], ◌∷◌, ◌++◌, map, Option, Some, None}
use Rattle.std.proofs.Common.{refl, sym, ap, ◌∙◌}
use Rattle.ovn_base.specs.declared.name.Name.{Name}
use Rattle.nb_records.specs.Network.{Network}
use Rattle.nb_records.specs.Switches.{or_else, first_answer}
use Rattle.nb_records.specs.declared.change.Op.{Op}
use Rattle.nb_records.specs.declared.record.Record.{Record}
use Rattle.nb_records.specs.declared.record.Record.TheVariants as row
use Rattle.nb_rules.specs.First.{first_of, first_record}
use Rattle.nb_rules.specs.References.{reference_fault}
use Rattle.nb_rules.specs.BadAddresses.{address_fault, bad_address}
use Rattle.nb_rules.specs.Prefixes.{prefix_fault, duplicate_prefix}
use Rattle.nb_rules.specs.Gateways.{chassis_fault, nat_needs_chassis}

or_none : {A : Type 0} (a : Option A) → or_else a None ≡ a
or_none (Some x) = refl
or_none None = refl

or_assoc : {A : Type 0} (a b c : Option A) → or_else (or_else a b) c ≡ or_else a (or_else b c)
or_assoc (Some x) b c = refl
or_assoc None b c = refl

first_append : {X A : Type 0} (f : X → Option A) (xs ys : List X) → first_answer f (xs ++ ys) ≡ or_else (first_answer f xs) (first_answer f ys)
first_append f [] ys = refl
first_append f (x ∷ xs) ys = ap (or_else (f x)) (first_append f xs ys) ∙ sym (or_assoc (f x) (first_answer f xs) (first_answer f ys))

first_rows : {X A : Type 0} (f : Record → Option A) (r : X → Record) (es : List (Name × X)) → first_answer f (map (λ e. r e.1) es) ≡ first_of (λ x. f (r x)) es
first_rows f r [] = refl
first_rows f r (e ∷ es) = ap (or_else (f (r e.1))) (first_rows f r es)

first_none : {X A : Type 0} (es : List (Name × X)) → first_of {A = A} (λ x. None) es ≡ None
first_none [] = refl
first_none (e ∷ es) = first_none es

pub by_kinds : {A : Type 0} (f : Record → Option A) (net : Network) → first_record f net
    ≡ or_else (first_of (λ r. f (row.Switch r)) net.switches)
    (or_else (first_of (λ r. f (row.Router r)) net.routers)
    (or_else (first_of (λ r. f (row.RouterPort r)) net.router_ports)
    (or_else (first_of (λ r. f (row.SwitchPort r)) net.switch_ports)
    (or_else (first_of (λ r. f (row.AddressSet r)) net.address_sets)
    (or_else (first_of (λ r. f (row.PortGroup r)) net.port_groups)
    (or_else (first_of (λ r. f (row.Acl r)) net.acls)
    (or_else (first_of (λ r. f (row.Route r)) net.routes)
    (or_else (first_of (λ r. f (row.Nat r)) net.nats)
    (or_else (first_of (λ r. f (row.LoadBalancer r)) net.load_balancers)
    (first_of (λ r. f (row.StaticMac r)) net.static_macs))))))))))
unfolding first_record
by_kinds f net = simp (first_append, or_assoc) (λ i. or_else (first_rows f row.Switch net.switches i) (or_else (first_rows f row.Router net.routers i) (or_else (first_rows f row.RouterPort net.router_ports i) (or_else (first_rows f row.SwitchPort net.switch_ports i) (or_else (first_rows f row.AddressSet net.address_sets i) (or_else (first_rows f row.PortGroup net.port_groups i) (or_else (first_rows f row.Acl net.acls i) (or_else (first_rows f row.Route net.routes i) (or_else (first_rows f row.Nat net.nats i) (or_else (first_rows f row.LoadBalancer net.load_balancers i) (first_rows f row.StaticMac net.static_macs i)))))))))))

pub all_references : (net : Network) (ops : List Op) (removed : Bool) → let f = reference_fault net ops removed in first_record f net
    ≡ or_else (first_of (λ r. f (row.RouterPort r)) net.router_ports)
    (or_else (first_of (λ r. f (row.SwitchPort r)) net.switch_ports)
    (or_else (first_of (λ r. f (row.PortGroup r)) net.port_groups)
    (or_else (first_of (λ r. f (row.Acl r)) net.acls)
    (or_else (first_of (λ r. f (row.Route r)) net.routes)
    (or_else (first_of (λ r. f (row.Nat r)) net.nats)
    (or_else (first_of (λ r. f (row.LoadBalancer r)) net.load_balancers)
    (first_of (λ r. f (row.StaticMac r)) net.static_macs)))))))
all_references net ops removed = by_kinds (reference_fault net ops removed) net ∙ simp (first_none)

pub all_addresses : (net : Network) → bad_address net
    ≡ or_else (first_of (λ r. address_fault (row.RouterPort r)) net.router_ports)
    (or_else (first_of (λ r. address_fault (row.SwitchPort r)) net.switch_ports)
    (or_else (first_of (λ r. address_fault (row.AddressSet r)) net.address_sets)
    (or_else (first_of (λ r. address_fault (row.Route r)) net.routes)
    (or_else (first_of (λ r. address_fault (row.Nat r)) net.nats)
    (first_of (λ r. address_fault (row.StaticMac r)) net.static_macs)))))
unfolding bad_address
all_addresses net = by_kinds address_fault net ∙ simp (first_none)

pub all_prefixes : (net : Network) → duplicate_prefix net
    ≡ or_else (first_of (λ r. prefix_fault net (row.RouterPort r)) net.router_ports)
    (or_else (first_of (λ r. prefix_fault net (row.Route r)) net.routes)
    (first_of (λ r. prefix_fault net (row.Nat r)) net.nats))
unfolding duplicate_prefix
all_prefixes net = by_kinds (prefix_fault net) net ∙ simp (first_none, or_none)

pub all_translations : (net : Network) → nat_needs_chassis net
    ≡ or_else (first_of (λ r. chassis_fault net (row.Nat r)) net.nats) (first_of (λ r. chassis_fault net (row.LoadBalancer r)) net.load_balancers)
unfolding nat_needs_chassis
all_translations net = by_kinds (chassis_fault net) net ∙ simp (first_none, or_none)
