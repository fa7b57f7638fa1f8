-- What an end can tell of has a name, and its picks are in their ranges; in a network that offers no choice none is picked.
use Rattle.std.specs.Prelude.{◌≡◌, ℕ, Bool, true, false, cond, List, [], ◌∷◌, map, Option, Some, None, option_map, refl}
use Rattle.std.specs.List.{AllByRecursion, filter, find}
use Rattle.std.specs.Map.{values_of}
use Rattle.std.proofs.Common.{sym, ap, ◌∙◌, subst, arith, inl, inr}
use Rattle.std.proofs.lemmas.Option.{none-some, same_Some}
use Rattle.conn_table.specs.Picks.{Choice}
use Rattle.conn_table.specs.declared.tuple.Tuple.{Tuple}
use Rattle.nb_records.specs.Grammar.{IsInGrammar, IsBackend, IsVip, IsSwitchPort, IsRouterPort, IsLoadBalancer}
use Rattle.nb_records.specs.Network.{Network, records_of}
use Rattle.nb_records.specs.Switches.{first_answer, serves_at, balancers_of}
use Rattle.nb_records.specs.Ways.{best_by}
use Rattle.nb_records.specs.declared.balancer.LoadBalancer.{LoadBalancer}
use Rattle.nb_records.specs.declared.balancer.Vip.{Vip}
use Rattle.nb_records.specs.declared.record.Record.{Record}
use Rattle.nb_records.specs.declared.record.Record.TheVariants as row
use Rattle.nb_records.specs.declared.router.Nat.{Nat}
use Rattle.nb_records.specs.declared.router.RouterPort.{RouterPort}
use Rattle.nb_records.specs.declared.switch.SwitchPort.{SwitchPort}
use Rattle.nb_rules.specs.Valid.{IsValid}
use Rattle.net_model.specs.Balancing.{serves_protocol, is_to_vip, Service, service_in, service_for}
use Rattle.net_model.specs.Journey.{Traffic, journey_of, ended_journey, Travels}
use Rattle.net_model.specs.Snat.{is_snat_for, is_narrower, snat_row}
use Rattle.net_model.specs.State.{State}
use Rattle.net_model.specs.Trail.{End, crosses, choice_in, choices_in, Spot}
use Rattle.net_model.specs.declared.crossing.Aim.{Aim}
use Rattle.net_model.specs.declared.crossing.Aim.TheVariants.{ToPort, ToGroup}
use Rattle.net_model.specs.declared.crossing.Crossing.{Crossing}
use Rattle.ovn_base.proofs.AmongLaws.{among_all, among_left, among_right, among_map, map_among, filter_among}
use Rattle.ovn_base.specs.declared.address.Ip4.{Ip4}
use Rattle.ovn_base.specs.declared.name.Name.{Name}
use Rattle.ovn_base.specs.lists.Among.{Among}
use Rattle.ovn_base.specs.names.NameText.{IsName}
use Rattle.ovn_base.specs.names.SameName.{same_name}
use Rattle.row_laws.proofs.records.Searches.{answered_by, found_by}
use Rattle.switch_engine.proofs.Lists.{all_by}
use Rattle.sim_laws.proofs.told.Told.{HasPort, HasRouterPort, HasSpot, in_switch, in_router, HasAim, HasChassis, IsTold}
use Rattle.sim_laws.proofs.told.Travelling.{travels_tell}
use Rattle.sim_laws.specs.EndNames.{IsNamedAim, IsNamedCrossing, IsNamedEnd, AreNamedEnds, HasNamedHome, HasNames, OffersNoChoice}

-- ---- services

-- a service is one of a balancer that is there, at one of its virtual addresses
pub record IsOfBalancer (net : Network) (s : Service) : Type 0 where
  pub balancer : LoadBalancer
  pub there : Among balancer (values_of net.load_balancers)
  pub has : Among s.vip balancer.vips

pub of_balancer : (net : Network) (datapath : Name) (t : Tuple) (s : Service) → service_for net datapath t ≡ Some s → IsOfBalancer net s
of_balancer net datapath t s h =
    let a = answered_by (service_in t) (balancers_of net datapath) s h in
    record { balancer = a.0; there = (filter_among (serves_at datapath) a.0 (values_of net.load_balancers) a.1).0; has = among_vips a.0 a.2 }
  where
    found : (b : LoadBalancer) (o : Option Vip) → find (is_to_vip t) b.vips ≡ o → option_map (λ (v : Vip). record { balancer = b.name; vip = v }) o ≡ Some s → Among s.vip b.vips
    found b None is e = absurd (none-some s e)
    found b (Some v) is e = subst (λ (x : Service). Among x.vip b.vips) (same_Some (record { balancer = b.name; vip = v }) s e) (found_by (is_to_vip t) b.vips v is).0

    by : (b : LoadBalancer) (k : Bool) → cond k (option_map (λ (v : Vip). record { balancer = b.name; vip = v }) (find (is_to_vip t) b.vips)) None ≡ Some s → Among s.vip b.vips
    by b true e = found b (find (is_to_vip t) b.vips) refl e
    by b false e = absurd (none-some s e)

    among_vips : (b : LoadBalancer) → service_in t b ≡ Some s → Among s.vip b.vips
    among_vips b e = by b (serves_protocol b.protocol t.protocol) e

-- ---- records

-- what is a value is one of the rows
in_rows : {X : Type 0} (f : X → Record) (es : List (Name × X)) (x : X) → Among x (values_of es) → Among (f x) (map (λ (e : Name × X). f e.1) es)
in_rows {X} f es x m =
    let e = map_among (λ (e : Name × X). e.1) x es m in
    subst (λ (y : X). Among (f y) (map (λ (e : Name × X). f e.1) es)) (sym e.2) (among_map (λ (e : Name × X). f e.1) e.0 es e.1)

module _ (net : Network) (valid : IsValid net) where
  fits : (r : Record) → Among r (records_of net) → IsInGrammar r
  fits r m = among_all IsInGrammar r (records_of net) valid.in_grammar m

  pub port_fits : (q : SwitchPort) → HasPort net q → IsSwitchPort q
  port_fits q m =
      let r = row.SwitchPort q in
      fits r (among_left r _ _ (among_left r _ _ (among_left r _ _ (among_left r _ _ (among_left r _ _ (among_left r _ _ (among_left r _ _ (among_right r _ _ (in_rows row.SwitchPort net.switch_ports q m)))))))))

  pub router_port_fits : (p : RouterPort) → HasRouterPort net p → IsRouterPort p
  router_port_fits p m =
      let r = row.RouterPort p in
      fits r (among_left r _ _ (among_left r _ _ (among_left r _ _ (among_left r _ _ (among_left r _ _ (among_left r _ _ (among_left r _ _ (among_left r _ _ (among_right r _ _ (in_rows row.RouterPort net.router_ports p m))))))))))

  balancer_fits : (b : LoadBalancer) → Among b (values_of net.load_balancers) → IsLoadBalancer b
  balancer_fits b m =
      let r = row.LoadBalancer b in
      fits r (among_left r _ _ (among_right r _ _ (in_rows row.LoadBalancer net.load_balancers b m)))

  vip_fits : (datapath : Name) (t : Tuple) (s : Service) → service_for net datapath t ≡ Some s → IsVip s.vip
  vip_fits datapath t s h =
      let b = of_balancer net datapath t s h in
      among_all IsVip s.vip b.balancer.vips (balancer_fits b.balancer b.there).vips.each b.has

  spot_named : (spot : Spot) → HasSpot net spot → IsName spot.datapath × IsName spot.port
  spot_named _ (in_switch q m) = let is = port_fits q m in (is.switch, is.name)
  spot_named _ (in_router r m) = let is = router_port_fits r m in (is.router, is.name)

  aim_named : (aim : Aim) → HasAim net aim → IsNamedAim aim
  aim_named (ToPort id) h = subst IsName (sym h.2) (port_fits h.0 h.1).name
  aim_named (ToGroup g) h = tt

-- ---- names

module _ (m : State) (valid : IsValid m.config.net) (names : HasNames m) where
  chassis_named : (chassis : Name) → HasChassis m.config chassis → IsName chassis
  chassis_named chassis h = elim h [
    | inl a ↦ among_all IsName chassis m.config.chassis names.chassis a
    | inr b ↦
        let e = map_among (λ (e : Name × Name). e.1) chassis m.config.bindings b in
        subst IsName (sym e.2) (among_all HasNamedHome e.0 m.config.bindings names.homes e.1)
  ]

  end_named : (e : End) → IsTold m.config e → IsNamedEnd e
  end_named _ (IsTold.leaves_by q p has) = (port_fits m.config.net valid q has).name
  end_named _ (IsTold.drops_at spot why has) = spot_named m.config.net valid spot has
  end_named _ (IsTold.crosses_to chassis home from aim p is_there has_home aimed) = (chassis_named chassis is_there, (chassis_named home has_home, aim_named m.config.net valid aim aimed))
  end_named _ (IsTold.picks_one spot tuple s b has serves among) =
      let vip = vip_fits m.config.net valid spot.datapath tuple s serves in
      ((spot_named m.config.net valid spot has).0, vip.0, among_all IsBackend b s.vip.backends vip.1 among)
  end_named _ (IsTold.picks_from out ip row n has is low high) = ((router_port_fits m.config.net valid out has).router, omega (arith, low), high)
  end_named _ (IsTold.loses n) = tt

  sent_named : (n : ℕ) (chassis : Name) (x : Crossing) → IsTold m.config (crosses chassis x) → IsNamedCrossing (n, x)
  sent_named n chassis x told = (end_named (crosses chassis x) told).1

  -- ends are in names, and the state after them too
  pub travels_named : (traffic : Traffic) (ends : List End) (after : State) → Travels m traffic ends after → AreNamedEnds ends × HasNames after
  travels_named traffic ends after travels =
      let told = travels_tell m IsNamedCrossing sent_named traffic ends after names.waiting travels in
      let next : HasNames (ended_journey m (journey_of m traffic ends)) = record { chassis = names.chassis; homes = names.homes; waiting = told.waiting } in (
        subst AreNamedEnds (sym travels.ends_are) (all_by IsNamedEnd (IsTold m.config) end_named (journey_of m traffic ends).trail.ends told.ends),
        subst HasNames (sym travels.state) next,
      )

-- ---- no choices

module _ (m : State) (none : OffersNoChoice m.config.net) where
  no_service : (datapath : Name) (t : Tuple) (s : Service) → service_for m.config.net datapath t ≡ Some s → ⊥
  no_service datapath t s h = none-some s (sym (ap (λ (bs : List (Name × LoadBalancer)). first_answer (service_in t) (filter (serves_at datapath) (values_of bs))) none.balancers) ∙ h)

  no_row : (router : Name) (ip : Ip4) (r : Nat) → snat_row m.config.net router ip ≡ Some r → ⊥
  no_row router ip r h = none-some r (sym (ap (λ (rs : List (Name × Nat)). best_by is_narrower (filter (is_snat_for ip) (filter (λ (x : Nat). same_name x.router router) (values_of rs)))) none.nats) ∙ h)

  not_chosen : (e : End) (choices : List Choice) → IsTold m.config e → choice_in e choices ≡ choices
  not_chosen _ choices (IsTold.leaves_by q p has) = refl
  not_chosen _ choices (IsTold.drops_at spot why has) = refl
  not_chosen _ choices (IsTold.crosses_to chassis home from aim p is_there has_home aimed) = refl
  not_chosen _ choices (IsTold.picks_one spot tuple s b has serves among) = absurd (no_service spot.datapath tuple s serves)
  not_chosen _ choices (IsTold.picks_from out ip row n has is low high) = absurd (no_row out.router ip row is)
  not_chosen _ choices (IsTold.loses n) = refl

  none_among : (ends : List End) → AllByRecursion (IsTold m.config) ends → choices_in ends ≡ []
  none_among [] told = refl
  none_among (e ∷ ends) told = not_chosen e (choices_in ends) told.0 ∙ none_among ends told.1

  pub none_chosen : (traffic : Traffic) (ends : List End) (after : State) → Travels m traffic ends after → choices_in ends ≡ []
  none_chosen traffic ends after travels =
      let told = travels_tell m (λ w. Unit {0}) (λ n chassis x t. tt) traffic ends after (all_units m.waiting) travels in
      ap choices_in travels.ends_are ∙ none_among (journey_of m traffic ends).trail.ends told.ends
    where
      all_units : (ws : List (ℕ × Crossing)) → AllByRecursion (λ (w : ℕ × Crossing). Unit {0}) ws
      all_units [] = tt
      all_units (w ∷ ws) = (tt, all_units ws)
