-- Edits under which bound ports and routers stay, and chassis that come: gateway routers may come home, and nobody else comes or goes.
use Rattle.std.specs.Prelude.{◌≡◌, Bool, true, false, cond, not, List, [], ◌∷◌, map, Option, Some, None, option_map, refl}
use Rattle.std.specs.BTreeSet.{insert_key}
use Rattle.std.specs.Cmp.Lexicographic.{slice_cmp}
use Rattle.std.specs.List.{filter}
use Rattle.std.specs.Map.{keys_of, values_of}
use Rattle.std.specs.Ordering.{match_ordering, nat_cmp}
use Rattle.std.specs.declared.cmp.Ordering.{Ordering}
use Rattle.std.specs.declared.cmp.Ordering.TheVariants.{Less, Equal, Greater}
use Rattle.std.proofs.Common.{sym, ap, ◌∙◌, subst, inl, inr}
use Rattle.std.proofs.lemmas.Bool.{cond-true, false_from_ne_true, false≢true}
use Rattle.nb_records.specs.Switches.{is_named}
use Rattle.nb_records.specs.declared.router.Router.{Router}
use Rattle.nb_records.specs.declared.switch.SwitchPort.{SwitchPort}
use Rattle.net_model.specs.Config.{Config, chassis_home, is_chassis, is_on_one, nowhere, on, port_identity, router_identity}
use Rattle.net_model.specs.ListOwners.{names_of}
use Rattle.net_model.specs.Transition.{add_chassis, gone_ports, gone_routers, identity_at, is_identity, is_still_port, is_still_router, is_still_there}
use Rattle.ovn_base.proofs.AmongLaws.{among_any, among_cases, among_none, among_same, any_among, filter_among, map_among, among_all}
use Rattle.ovn_base.proofs.ByNameLaws.{among_at}
use Rattle.ovn_base.specs.declared.name.Name.{Name}
use Rattle.ovn_base.specs.lists.Among.{Among, here, there}
use Rattle.ovn_base.specs.names.ByName.{at}
use Rattle.ovn_base.specs.names.SameName.{bytes_decides, same_name}
use Rattle.physical_flows.proofs.HomedRouters.{router_homes_exact}
use Rattle.physical_flows.specs.Bindings.{router_homes}
use Rattle.physical_flows.specs.RouterHomes.{IsRouterHome}
use Rattle.row_laws.proofs.records.ValidPorts.{own_place}
use Rattle.tunnel_keys.specs.Same.{identity_own}
use Rattle.tunnel_keys.specs.declared.owner.Identity.{Identity}
use Rattle.sim_laws.specs.journeys.TurnedZones.{ComingChassisLaw, EditingLaw}

-- where all pass, all are kept
all_pass : {X : Type 0} (test : X → Bool) (xs : List X) → ((x : X) → Among x xs → test x ≡ true) → filter test xs ≡ xs
all_pass test [] h = refl
all_pass test (x ∷ xs) h = cond-true (test x) (x ∷ filter test xs) (filter test xs) (h x here) ∙ ap (λ ys. x ∷ ys) (all_pass test xs (λ y m. h y (there m)))

pub edits_keep : EditingLaw
edits_keep m zones more net u valid stay routers = record {
  bindings = all_pass (λ (e : Name × Name). is_still_there net (identity_at m.config.net e.0)) m.config.bindings
      (λ e among. stay e.0 e.1 (among_at e.0 e.1 m.config.bindings u.bound.bindings_sorted among));
  routers = home_stays;
  ports_kept = λ q among. false_from_ne_true (is_named q (names_of (gone_ports m.config.net net))) (not_gone q among);
  routers_kept = λ r among. false_from_ne_true (is_named r (names_of (gone_routers m.config.net net))) (none_gone r);
}
  where
    next : Config
    next = record m.config { net = net; bindings = filter (λ (e : Name × Name). is_still_there net (identity_at m.config.net e.0)) m.config.bindings }

    home_stays : (r home : Name) → at (router_homes m.config) r ≡ Some home → at (router_homes next) r ≡ Some home
    home_stays r home found =
        let h : IsRouterHome m.config r home = (router_homes_exact m.config u.valid.in_order.routers r home).0 found in
        (router_homes_exact next valid.in_order.routers r home).1 (record { router = h.router; there = routers r h.router h.there; lives = h.lives })

    -- a port that is gone isn't bound
    gone_unbound : (port : SwitchPort) → at m.config.net.switch_ports port.name ≡ Some port → not (is_still_port net (port_identity port)) ≡ true → ¬ Among port.name (keys_of m.config.bindings)
    gone_unbound port there' gone among =
        let e = map_among (λ (x : Name × Name). x.0) port.name m.config.bindings among in
        let bound = among_at e.0.0 e.0.1 m.config.bindings u.bound.bindings_sorted e.1 in
        let still : is_still_there net (identity_at m.config.net port.name) ≡ true = subst (λ n. is_still_there net (identity_at m.config.net n) ≡ true) (sym e.2) (stay e.0.0 e.0.1 bound) in
        let kept : is_still_port net (port_identity port) ≡ true = sym (ap (λ o. is_still_there net (option_map port_identity o)) there') ∙ still in
        false≢true (sym (ap not kept) ∙ gone)

    not_gone : (q : Name) → Among q (keys_of m.config.bindings) → ¬ (is_named q (names_of (gone_ports m.config.net net)) ≡ true)
    not_gone q among named =
        let n = any_among (λ k. same_name k q) (names_of (gone_ports m.config.net net)) named in
        let id = map_among (λ (i : Identity). i.name) n.0 (gone_ports m.config.net net) n.1 in
        let gone = filter_among (λ i. not (is_still_port net i)) id.0 (map (λ p. port_identity p) (values_of m.config.net.switch_ports)) id.1 in
        let port = map_among (λ (p : SwitchPort). port_identity p) id.0 (values_of m.config.net.switch_ports) gone.0 in
        let entry = map_among (λ (e : Name × SwitchPort). e.1) port.0 m.config.net.switch_ports port.1 in
        let own : at m.config.net.switch_ports port.0.name ≡ Some port.0 =
        subst (λ (p : SwitchPort). at m.config.net.switch_ports p.name ≡ Some p) (sym entry.2) (own_place m.config.net u.valid entry.0.0 entry.0.1 (among_at entry.0.0 entry.0.1 m.config.net.switch_ports u.valid.in_order.switch_ports entry.1)) in
        let name : q ≡ port.0.name = sym ((bytes_decides n.0 q).0 n.2) ∙ id.2 ∙ ap (λ (i : Identity). i.name) port.2 in
        gone_unbound port.0 own (subst (λ i. not (is_still_port net i) ≡ true) port.2 gone.1) (subst (λ k. Among k (keys_of m.config.bindings)) name among)

    -- each router is still there
    still_router : (router : Router) → at m.config.net.routers router.name ≡ Some router → is_still_router net (router_identity router) ≡ true
    still_router router own = ap (λ o. is_identity (router_identity router) (option_map router_identity o)) (routers router.name router own) ∙ identity_own (router_identity router)

    none_gone : (r : Name) → ¬ (is_named r (names_of (gone_routers m.config.net net)) ≡ true)
    none_gone r named =
        let n = any_among (λ k. same_name k r) (names_of (gone_routers m.config.net net)) named in
        let id = map_among (λ (i : Identity). i.name) n.0 (gone_routers m.config.net net) n.1 in
        let gone = filter_among (λ i. not (is_still_router net i)) id.0 (map (λ x. router_identity x) (values_of m.config.net.routers)) id.1 in
        let router = map_among (λ (x : Router). router_identity x) id.0 (values_of m.config.net.routers) gone.0 in
        let entry = map_among (λ (e : Name × Router). e.1) router.0 m.config.net.routers router.1 in
        let found = among_at entry.0.0 entry.0.1 m.config.net.routers u.valid.in_order.routers entry.1 in
        let name : entry.0.1.name ≡ entry.0.0 = among_all (λ (e : Name × Router). e.1.name ≡ e.0) entry.0 m.config.net.routers u.valid.named.routers entry.1 in
        let own : at m.config.net.routers router.0.name ≡ Some router.0 =
        subst (λ (x : Router). at m.config.net.routers x.name ≡ Some x) (sym entry.2) (ap (at m.config.net.routers) name ∙ found) in
        false≢true (sym (ap not (still_router router.0 own)) ∙ subst (λ i. not (is_still_router net i) ≡ true) router.2 gone.1)

-- ---- chassis

-- who is among the names is so with one more
pub name_kept : (names : List Name) (name c : Name) → Among c names → Among c (insert_key (slice_cmp nat_cmp) names name)
name_kept [] name c among = absurd (among_none c among)
name_kept (d ∷ names) name c among = by (slice_cmp nat_cmp name d) (name_kept names name c)
  where
    by : (o : Ordering) → (Among c names → Among c (insert_key (slice_cmp nat_cmp) names name)) → Among c (match_ordering o (name ∷ d ∷ names) (d ∷ names) (d ∷ insert_key (slice_cmp nat_cmp) names name))
    by Less ih = there among
    by Equal ih = among
    by Greater ih = elim (among_cases c d names among) [ inl same ↦ among_same c d (insert_key (slice_cmp nat_cmp) names name) same | inr later ↦ there (ih later) ]

-- a home stays while its chassis is there
home_kept : (config next : Config) → ((c : Name) → Among c config.chassis → Among c next.chassis) → (given : Option Name) (home : Name) → chassis_home config given ≡ on home → chassis_home next given ≡ on home
home_kept config next stay None home lives = lives
home_kept config next stay (Some c) home lives = by (is_chassis config c) refl lives
  where
    by : (b : Bool) → is_chassis config c ≡ b → cond b (on c) nowhere ≡ on home → cond (is_chassis next c) (on c) nowhere ≡ on home
    by true known h =
        let n = any_among (λ k. same_name k c) config.chassis known in
        ap (λ b. cond b (on c) nowhere) (among_any (λ k. same_name k c) n.0 next.chassis (stay n.0 n.1) n.2) ∙ h
    by false known h = absurd (false≢true (ap is_on_one h))

pub chassis_keep : ComingChassisLaw
chassis_keep m zones more chassis u = record {
  bindings = refl;
  routers = λ r home found.
      let h : IsRouterHome m.config r home = (router_homes_exact m.config u.valid.in_order.routers r home).0 found in
      (router_homes_exact next u.valid.in_order.routers r home).1
      (record { router = h.router; there = h.there; lives = home_kept m.config next (λ c among. name_kept m.config.chassis chassis c among) h.router.chassis home h.lives });
  ports_kept = λ q among. refl;
  routers_kept = λ r among. refl;
}
  where
    next : Config
    next = (add_chassis m.config chassis).next
