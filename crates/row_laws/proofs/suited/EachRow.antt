-- What all rows of a network have, where those of each kind of unit have it.
use Rattle.std.specs.Prelude.{◌≡◌, ◌++◌, Bool, true, false, List, [], ◌∷◌, map, flat_map, Option, Some, None}
use Rattle.std.specs.List.{AllByRecursion}
use Rattle.std.proofs.Common.{refl}
use Rattle.ovn_base.proofs.AmongLaws.{among_all, flat_map_among}
use Rattle.ovn_base.specs.declared.address.Backend.{Backend}
use Rattle.ovn_base.specs.declared.address.Ip4.{Ip4}
use Rattle.ovn_base.specs.declared.address.Mac.{Mac}
use Rattle.ovn_base.specs.declared.name.Name.{Name}
use Rattle.ovn_base.specs.lists.Among.{Among, here, there}
use Rattle.ovn_base.specs.names.ByName.{at}
use Rattle.nb_records.specs.Network.{Network, is_online}
use Rattle.nb_records.specs.Switches.{is_stateful, applies}
use Rattle.nb_records.specs.declared.balancer.LoadBalancer.{LoadBalancer}
use Rattle.nb_records.specs.declared.router.Nat.{Nat}
use Rattle.nb_records.specs.declared.router.Route.{Route}
use Rattle.nb_records.specs.declared.router.RouterPort.{RouterPort}
use Rattle.nb_records.specs.declared.rule.Acl.{Acl}
use Rattle.nb_records.specs.declared.switch.Switch.{Switch}
use Rattle.nb_records.specs.declared.switch.SwitchPort.{SwitchPort}
use Rattle.logical_flows.specs.declared.flow.LFlow.{LFlow}
use Rattle.logical_flows.specs.declared.stage.Stage.{Stage}
use Rattle.logical_flows.specs.declared.unit.UnitId.{UnitId}
use Rattle.logical_flows.specs.declared.unit.UnitId.TheVariants as unit
use Rattle.stage_rows.specs.Rows.{on_some, when}
use Rattle.stage_rows.specs.SwitchRows.{some_take_unknown}
use Rattle.stage_rows.specs.Units.{IsPairedRow, switch_port_rows, router_port_rows, rule_rows, route_rows, neighbour_rows, nat_rows, balancer_rows, switch_rows, router_rows, port_rows, rows_in, all_stages, neighbour_named, translates_named}

-- the rows of each kind of unit have it, in each stage
pub record OfEachKind (P : LFlow → Type 0) (net : Network) : Type 0 where
  pub port : (name : Name) (q : SwitchPort) → at net.switch_ports name ≡ Some q → (s : Stage) → AllByRecursion P (switch_port_rows s net q)
  pub router_port : (name : Name) (q : RouterPort) → at net.router_ports name ≡ Some q → (s : Stage) → AllByRecursion P (router_port_rows s net q)
  pub rule : (name : Name) (x : Acl) → at net.acls name ≡ Some x → (s : Stage) → AllByRecursion P (rule_rows s x)
  pub route : (name : Name) (x : Route) → at net.routes name ≡ Some x → (s : Stage) → AllByRecursion P (route_rows s net x)
  pub neighbour : (s : Stage) (port : Name) (ip : Ip4) (mac : Mac) → AllByRecursion P (neighbour_rows s port ip mac)
  pub nat : (name : Name) (x : Nat) → at net.nats name ≡ Some x → (s : Stage) → AllByRecursion P (nat_rows s x)
  pub balancer : (name : Name) (x : LoadBalancer) → at net.load_balancers name ≡ Some x → (s : Stage) (online : Backend → Bool) (d : Name) → AllByRecursion P (balancer_rows s online d x)
  pub switch : (s : Stage) (stateful takes : Bool) → AllByRecursion P (switch_rows s stateful takes)
  pub router : (s : Stage) (translating : Bool) → AllByRecursion P (router_rows s translating)

module _ (P : LFlow → Type 0) where
  -- ---- lists of rows

  abbrev pub Are : List LFlow → Type 0
  Are rows = AllByRecursion P rows

  pub both : (xs ys : List LFlow) → Are xs → Are ys → Are (xs ++ ys)
  both [] ys h k = k
  both (x ∷ xs) ys h k = (h.0, both xs ys h.1 k)

  pub each : {X : Type 0} (g : X → LFlow) (xs : List X) → ((x : X) → Among x xs → P (g x)) → Are (map g xs)
  each g [] h = tt
  each g (x ∷ xs) h = (h x here, each g xs (λ y m. h y (there m)))

  pub each_list : {X : Type 0} (g : X → List LFlow) (xs : List X) → ((x : X) → Among x xs → Are (g x)) → Are (flat_map g xs)
  each_list g [] h = tt
  each_list g (x ∷ xs) h = both (g x) (flat_map g xs) (h x here) (each_list g xs (λ y m. h y (there m)))

  pub if_so : (b : Bool) (xs : List LFlow) → Are xs → Are (when b xs)
  if_so true xs h = h
  if_so false xs h = tt

  pub if_some : {X : Type 0} (o : Option X) (g : X → List LFlow) → ((x : X) → o ≡ Some x → Are (g x)) → Are (on_some o g)
  if_some None g h = tt
  if_some (Some x) g h = h x refl

  -- ---- all units

  module _ (net : Network) (kinds : OfEachKind P net) (s : Stage) where
    of_port : (name : Name) (o : Option SwitchPort) → at net.switch_ports name ≡ o → (o' : Option RouterPort) → at net.router_ports name ≡ o' → Are (port_rows s net o o')
    of_port name (Some q) is o' also = kinds.port name q is s
    of_port name None is (Some q) also = kinds.router_port name q also s
    of_port name None is None also = tt

    unit_has : (u : UnitId) → Are (rows_in s net u)
    unit_has (unit.Port q) = of_port q (at net.switch_ports q) refl (at net.router_ports q) refl
    unit_has (unit.Rule r d) = if_some (at net.acls r) (λ x. when (applies net d x) (rule_rows s x)) (λ x is. if_so (applies net d x) (rule_rows s x) (kinds.rule r x is s))
    unit_has (unit.Route r) = if_some (at net.routes r) (route_rows s net) (λ x is. kinds.route r x is s)
    unit_has (unit.Neighbour port ip) = if_some (neighbour_named net port ip) (neighbour_rows s port ip) (λ mac is. kinds.neighbour s port ip mac)
    unit_has (unit.Nat r) = if_some (at net.nats r) (nat_rows s) (λ x is. kinds.nat r x is s)
    unit_has (unit.Balancer b d) = if_some (at net.load_balancers b) (balancer_rows s (is_online net b) d) (λ x is. kinds.balancer b x is s (is_online net b) d)
    unit_has (unit.Switch d) = if_some (at net.switches d) (λ (x : Switch). switch_rows s (is_stateful net d) (some_take_unknown net d)) (λ x is. kinds.switch s (is_stateful net d) (some_take_unknown net d))
    unit_has (unit.Router d) = if_some (translates_named net d) (router_rows s) (λ translating is. kinds.router s translating)

  pub each_row : (net : Network) → OfEachKind P net → (r : LFlow) (d : Name) → IsPairedRow net r d → P r
  each_row net kinds r d pair =
      let m = flat_map_among (λ s. rows_in s net pair.origin) r all_stages pair.among in
      among_all P r (rows_in m.0 net pair.origin) (unit_has net kinds m.0 pair.origin) m.2
