-- A router that translates nothing has no row of NAT and no balancer, since only gateway routers may have them.
use Rattle.std.specs.Prelude.{◌≡◌, ◌&&◌, ◌||◌, [], ◌∷◌, Bool, true, false, not, List, Some}
use Rattle.std.specs.Map.{values_of}
use Rattle.std.proofs.Common.{refl, sym, ap, ◌∙◌, subst, inl, inr}
use Rattle.std.proofs.lemmas.Bool.{false≢true, false_from_ne_true, or_cases, or_left, or_right, and_from}
use Rattle.ovn_base.proofs.AmongLaws.{among_all, among_left, among_right, among_map, map_among, filter_among, any_among, among_any}
use Rattle.ovn_base.proofs.ByNameLaws.{at_among, among_at}
use Rattle.ovn_base.specs.declared.name.Name.{Name}
use Rattle.ovn_base.specs.lists.Among.{Among, here}
use Rattle.ovn_base.specs.names.ByName.{at}
use Rattle.ovn_base.specs.names.SameName.{same_name, bytes_decides}
use Rattle.nb_records.specs.Network.{Network, records_of}
use Rattle.nb_records.specs.Routers.{is_gateway, nats_of}
use Rattle.nb_records.specs.Switches.{has_some, is_named, serves_at, balancers_of}
use Rattle.nb_records.specs.declared.balancer.LoadBalancer.{LoadBalancer}
use Rattle.nb_records.specs.declared.record.Record.{Record}
use Rattle.nb_records.specs.declared.record.Record.TheVariants as row
use Rattle.nb_records.specs.declared.router.Nat.{Nat}
use Rattle.nb_records.specs.declared.router.Router.{Router}
use Rattle.nb_records.specs.declared.router.RouterPort.{RouterPort}
use Rattle.nb_rules.specs.Gateways.{has_no_chassis, is_distributed, needs_chassis}
use Rattle.nb_rules.specs.Valid.{IsValid}
use Rattle.net_model.specs.Forwarding.{translates_if, is_translating}
use Rattle.row_laws.proofs.records.ValidPorts.{whole}
use Rattle.row_laws.proofs.routers.RouterUnits.{balancer_off}
use Rattle.row_laws.proofs.routers.TakenAtRouter.{on_router}
use Rattle.row_laws.specs.routers.RouterThrough.{TranslatesNothingLaw}

-- what has no chassis is no gateway
is_gateway_by : (b : Bool) → not b ≡ false → b ≡ true
is_gateway_by true h = refl
is_gateway_by false h = absurd (false≢true (sym h))

module _ (net : Network) (valid : IsValid net) (i : RouterPort) (there : at net.router_ports i.name ≡ Some i) (off : is_translating net i ≡ false) where
  abbrev d : Name
  d = i.router

  its_router : (x : Router) × (at net.routers d ≡ Some x)
  its_router = on_router net valid i.name i there

  abbrev x : Router
  x = its_router.0

  chassis_given : (r : Record) → Among r (records_of net) → needs_chassis net r ≡ false
  chassis_given r m = among_all (λ (y : Record). needs_chassis net y ≡ false) r (records_of net) (whole net valid).chassis m

  gateway : (e : Name) → e ≡ d → is_distributed net e ≡ false → is_gateway x ≡ true
  gateway e on h = is_gateway_by (is_gateway x) (sym (ap (λ n. is_distributed net n) on ∙ ap has_no_chassis its_router.1) ∙ h)

  -- a gateway router with one of them would translate
  none_on_gateway : is_gateway x ≡ true → (has_some (nats_of net d) || has_some (balancers_of net d)) ≡ true → ⊥
  none_on_gateway is some =
      let named : x.name ≡ d = among_all (λ (e : Name × Router). e.1.name ≡ e.0) (d, x) net.routers valid.named.routers (at_among net.routers d x its_router.1) in
      false≢true (sym off ∙ ap (translates_if net) its_router.1 ∙ ap (λ n. is_gateway x && (has_some (nats_of net n) || has_some (balancers_of net n))) named ∙ and_from (is_gateway x) _ is some)

  no_nats : (xs : List Nat) → nats_of net d ≡ xs → xs ≡ []
  no_nats [] is = refl
  no_nats (n ∷ ns) is =
      let two = filter_among (λ (y : Nat). same_name y.router d) n (values_of net.nats) (subst (λ ys. Among n ys) (sym is) here) in
      let e = map_among (λ (e : Name × Nat). e.1) n net.nats two.0 in
      let r = row.Nat e.0.1 in
      let given = chassis_given r (among_left r _ _ (among_left r _ _ (among_right r _ _ (among_map (λ (e : Name × Nat). row.Nat e.1) e.0 net.nats e.1)))) in
      absurd (none_on_gateway (gateway e.0.1.router (ap (λ (y : Nat). y.router) (sym e.2) ∙ (bytes_decides n.router d).0 two.1) given) (or_left (has_some (nats_of net d)) _ (ap has_some is)))

  -- none of those that it names is distributed
  none_distributed : (b : LoadBalancer) → needs_chassis net (row.LoadBalancer b) ≡ false → (n : Name) → Among n b.routers → is_distributed net n ≡ false
  none_distributed b given n m = false_from_ne_true (is_distributed net n) (λ h. false≢true (sym given ∙ among_any (is_distributed net) n b.routers m h))

  no_balancers : (xs : List LoadBalancer) → balancers_of net d ≡ xs → xs ≡ []
  no_balancers [] is = refl
  no_balancers (b ∷ bs) is =
      let two = filter_among (serves_at d) b (values_of net.load_balancers) (subst (λ ys. Among b ys) (sym is) here) in
      let e = map_among (λ (e : Name × LoadBalancer). e.1) b net.load_balancers two.0 in
      let found = among_at e.0.0 e.0.1 net.load_balancers valid.in_order.load_balancers e.1 ∙ ap (λ y. Some y) (sym e.2) in
      elim (or_cases (is_named d b.switches) (is_named d b.routers) two.1) [
        | inl switch ↦ absurd (balancer_off net valid d x its_router.1 e.0.0 b found switch)
        | inr router ↦
            let r = row.LoadBalancer e.0.1 in
            let given = chassis_given r (among_left r _ _ (among_right r _ _ (among_map (λ (e : Name × LoadBalancer). row.LoadBalancer e.1) e.0 net.load_balancers e.1))) in
            let n = any_among (λ n. same_name n d) b.routers router in
            absurd (none_on_gateway (gateway n.0 ((bytes_decides n.0 d).0 n.2) (none_distributed b (subst (λ (y : LoadBalancer). needs_chassis net (row.LoadBalancer y) ≡ false) (sym e.2) given) n.0 n.1)) (or_right (has_some (nats_of net d)) _ (ap has_some is)))
      ]

pub translates_nothing : TranslatesNothingLaw
translates_nothing net valid i there off = (no_nats net valid i there off (nats_of net i.router) refl, no_balancers net valid i there off (balancers_of net i.router) refl)
