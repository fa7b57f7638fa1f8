-- What the laws of passes ask of a chassis, soundness gives.
use Rattle.std.specs.Prelude.{◌≡◌, ◌++◌, ℕ, true, false, List, map, Option, None, Some, IsSome, option_map, refl}
use Rattle.std.proofs.Common.{sym, ap, ◌∙◌, subst, inl, inr}
use Rattle.std.proofs.Math.Dec.{eqb as nat_eq}
use Rattle.std.proofs.lemmas.Bool.{false≢true}
use Rattle.std.proofs.lemmas.Bool.Decides.{Decides-eqb}
use Rattle.std.proofs.lemmas.Option.{none-some, same_Some}
use Rattle.conn_zones.specs.Zoning.{Zoned, KnownHomes, GivenNumbers, home_for, number_on}
use Rattle.conn_zones.specs.declared.numbers.ZoneUse.{ZoneUse}
use Rattle.conn_zones.specs.declared.numbers.ZoneUse.TheVariants as zone
use Rattle.flow_table.specs.declared.flow.Flow.{Flow}
use Rattle.match_cubes.specs.declared.sets.Sets.{Sets}
use Rattle.nb_records.specs.Network.{Network}
use Rattle.nb_records.specs.Switches.{is_virtual}
use Rattle.nb_records.specs.declared.router.Router.{Router}
use Rattle.nb_records.specs.declared.router.RouterPort.{RouterPort}
use Rattle.nb_records.specs.declared.switch.Switch.{Switch}
use Rattle.nb_records.specs.declared.switch.SwitchPort.{SwitchPort}
use Rattle.nb_rules.specs.Valid.{IsValid}
use Rattle.net_model.specs.Arrival as model
use Rattle.net_model.specs.Arrival.{is_that_switch}
use Rattle.net_model.specs.Config.{Config, switch_identity}
use Rattle.net_model.specs.Owners.{owners_of, switch_owner, router_owner, router_port_owner, switch_port_owner}
use Rattle.net_model.specs.State.{State}
use Rattle.net_model.specs.Trail.{ListOwner, of_port, dnat_of, snat_of}
use Rattle.net_model.specs.declared.crossing.Aim.{Aim}
use Rattle.net_model.specs.declared.crossing.Aim.TheVariants.{ToPort, ToGroup}
use Rattle.net_model.specs.declared.crossing.Crossing.{Crossing}
use Rattle.ovn_base.proofs.AmongLaws.{among_all, among_append, map_among}
use Rattle.ovn_base.proofs.ByNameLaws.{among_at, at_among}
use Rattle.ovn_base.specs.declared.name.Name.{Name}
use Rattle.ovn_base.specs.lists.Among.{Among}
use Rattle.ovn_base.specs.names.ByName.{at}
use Rattle.physical_flows.specs.RecordKeys.{HaveKeys}
use Rattle.row_laws.proofs.routers.TakenAtRouter.{on_router}
use Rattle.switch_engine.specs.Outcome.{Choosing}
use Rattle.switch_engine.specs.declared.effect.Entry.{Entry}
use Rattle.tunnel_keys.proofs.HeldKeys.{found}
use Rattle.tunnel_keys.specs.Edits.{IsLive}
use Rattle.tunnel_keys.specs.Keys.{Keys}
use Rattle.tunnel_keys.specs.Same.{identity_exact}
use Rattle.tunnel_keys.specs.declared.owner.Identity.{Identity}
use Rattle.tunnel_keys.specs.declared.owner.KeyOwner.{KeyOwner}
use Rattle.tunnel_keys.specs.declared.owner.PortKey.{PortKey}
use Rattle.sim_laws.proofs.Homes.{translating_home}
use Rattle.sim_laws.specs.Sound.{MayWait, IsOnLive, IsAimOnLive, has_birth}
use Rattle.sim_laws.specs.Sound as old
use Rattle.sim_laws.specs.journeys.InState.{use_of, zones_on, chassis_at}
use Rattle.sim_laws.specs.journeys.Premises.{SoundOnLaw}
use Rattle.sim_laws.specs.journeys.UnderWay.{BoundAreVirtual}
use Rattle.sim_laws.specs.passes.Arriving.{IsOnSwitch, IsAimOnSwitch, MayArrive}
use Rattle.sim_laws.specs.pipelines.HeldLists.{AreApart}
use Rattle.sim_laws.specs.pipelines.Standing.{Chassis}

-- ---- who has a live key

module _ (net : Network) (keys : Keys) (valid : IsValid net) (have : HaveKeys net keys) where
  switch_live : (e : Name × Switch) → Among e net.switches → IsLive keys (switch_owner e)
  switch_live e m =
      let k = have.datapath_has e.0 e.1 (among_at e.0 e.1 net.switches valid.in_order.switches m) in
      (k.0.key, k.1 ∙ (λ i. Some (record { birth = k.2 i; key = k.0.key })))

  port_live : (e : Name × SwitchPort) → Among e net.switch_ports → IsLive keys (switch_port_owner e)
  port_live e m =
      let k = have.port_has e.0 e.1 (among_at e.0 e.1 net.switch_ports valid.in_order.switch_ports m) in
      (k.0.key, k.1 ∙ (λ i. Some (record { birth = k.2 i; datapath = k.3 i; key = k.0.key })))

  router_live : (e : Name × Router) → Among e net.routers → IsLive keys (router_owner e)
  router_live e m =
      let k = have.router_has e.0 e.1 (among_at e.0 e.1 net.routers valid.in_order.routers m) in
      (k.0.key, k.1 ∙ (λ i. Some (record { birth = k.2 i; key = k.0.key })))

  router_port_live : (e : Name × RouterPort) → Among e net.router_ports → IsLive keys (router_port_owner e)
  router_port_live e m =
      let k = have.router_port_has e.0 e.1 (among_at e.0 e.1 net.router_ports valid.in_order.router_ports m) in
      (k.0.key, k.1 ∙ (λ i. Some (record { birth = k.2 i; datapath = k.3 i; key = k.0.key })))

  pub owners_live : (owner : KeyOwner) → Among owner (owners_of net) → IsLive keys owner
  owners_live owner m = elim (among_append owner (map switch_owner net.switches ++ map router_owner net.routers ++ map router_port_owner net.router_ports) (map switch_port_owner net.switch_ports) m) [
    | inl first ↦ others first
    | inr port ↦ let e = map_among switch_port_owner owner net.switch_ports port in subst (IsLive keys) (sym e.2) (port_live e.0 e.1)
  ]
    where
      datapaths : Among owner (map switch_owner net.switches ++ map router_owner net.routers) → IsLive keys owner
      datapaths first = elim (among_append owner (map switch_owner net.switches) (map router_owner net.routers) first) [
        | inl switch ↦ let e = map_among switch_owner owner net.switches switch in subst (IsLive keys) (sym e.2) (switch_live e.0 e.1)
        | inr router ↦ let e = map_among router_owner owner net.routers router in subst (IsLive keys) (sym e.2) (router_live e.0 e.1)
      ]

      others : Among owner (map switch_owner net.switches ++ map router_owner net.routers ++ map router_port_owner net.router_ports) → IsLive keys owner
      others first = elim (among_append owner (map switch_owner net.switches ++ map router_owner net.routers) (map router_port_owner net.router_ports) first) [
        | inl datapath ↦ datapaths datapath
        | inr port ↦ let e = map_among router_port_owner owner net.router_ports port in subst (IsLive keys) (sym e.2) (router_port_live e.0 e.1)
      ]

-- no name is that of a switch and of a router
pub not_both : (net : Network) → IsValid net → (a : Name) (w : Switch) (router : Router) → at net.switches a ≡ Some w → at net.routers a ≡ Some router → ⊥
not_both net valid a w router there also =
    none-some router (sym (among_all (λ (e : Name × Switch). at net.routers e.0 ≡ None) (a, w) net.switches valid.datapaths (at_among net.switches a w there)) ∙ also)

-- on switches none but their ports
pub on_switch : (net : Network) (keys : Keys) → IsValid net → HaveKeys net keys → (q : Name) (k : PortKey) → at keys.ports q ≡ Some k → IsSome (at net.switches k.datapath) → IsSome (at net.switch_ports q)
on_switch net keys valid have q k has on = elim (have.port_of q k has) [
  | inl port ↦ port
  | inr port ↦
      let r = found (at net.router_ports q) port in
      let own = have.router_port_has q r.0 r.1 in
      let router = on_router net valid q r.0 r.1 in
      let switch = found (at net.switches k.datapath) on in
      let same : k.datapath ≡ r.0.router = ap (λ (x : PortKey). x.datapath) (same_Some k own.0 (sym has ∙ own.1)) ∙ own.3 in
      absurd (not_both net valid k.datapath switch.0 router.0 switch.1 (ap (at net.routers) same ∙ router.1))
]

-- ---- zones

-- whose zone it is
abbrev owner_of : ZoneUse → ListOwner
owner_of (zone.Port q) = of_port q
owner_of (zone.Dnat r) = dnat_of r
owner_of (zone.Snat r) = snat_of r

owner_is : (owner : ListOwner) → owner_of (use_of owner) ≡ owner
owner_is (of_port q) = refl
owner_is (dnat_of r) = refl
owner_is (snat_of r) = refl

pub zones_apart : (zones : Zoned) (chassis : Name) → ((one other : ZoneUse) (n : ℕ) → number_on zones.numbers chassis one ≡ Some n → number_on zones.numbers chassis other ≡ Some n → one ≡ other) → AreApart (zones_on zones.numbers chassis)
zones_apart zones chassis apart one other z is also = sym (owner_is one) ∙ ap owner_of (apart (use_of one) (use_of other) z is also) ∙ owner_is other

-- ---- crossings that wait may arrive

-- the switch of that identity has the birth
pub born_so : (net : Network) (id : Identity) → model.is_switch net id ≡ true → old.is_switch net id ≡ true
born_so net id h = by (at net.switches id.name) h
  where
    by : (o : Option Switch) → is_that_switch id o ≡ true → has_birth (option_map (λ (w : Switch). w.birth) o) id.birth ≡ true
    by None h = h
    by (Some w) h =
        let same = identity_exact (switch_identity w) id h in
        subst (λ (x : Identity). nat_eq w.birth.0 x.birth.0 ≡ true) same ((Decides-eqb w.birth.0 w.birth.0).1 refl)

module _ (m : State) (numbers : GivenNumbers) (sets : Sets) (by : Choosing) (flows : List Flow) (entry : Entry) (chassis : Name) where
  abbrev s : Chassis
  s = chassis_at m numbers sets by flows entry chassis

  is_on_switch : (datapath port : Identity) → IsOnLive m datapath port → IsOnSwitch s datapath port
  is_on_switch datapath port live is = live (born_so m.config.net datapath is)

  aim_on_switch : (datapath : Identity) (aim : Aim) → IsAimOnLive m datapath aim → IsAimOnSwitch s datapath aim
  aim_on_switch datapath (ToPort id) live = is_on_switch datapath id live
  aim_on_switch datapath (ToGroup g) live = tt

  pub may_arrive : (x : Crossing) → MayWait m x → MayArrive s x
  may_arrive x w = record {
    whole = w.whole;
    datapath_key = w.datapath_key;
    in_key = w.in_key;
    aim_key = w.aim_key;
    in_on = is_on_switch x.datapath x.in_port w.in_live;
    aim_on = aim_on_switch x.datapath x.aim w.aim_live;
    no_router = w.no_router;
    no_return = w.no_return;
  }

-- ---- the laws

-- a port that leads to a router isn't bound
unbound_so : (c : Config) → BoundAreVirtual c → (q : SwitchPort) → at c.net.switch_ports q.name ≡ Some q → is_virtual q ≡ false → at c.bindings q.name ≡ None
unbound_so c virtual q there leads = by (at c.bindings q.name) refl
  where
    by : (o : Option Name) → at c.bindings q.name ≡ o → at c.bindings q.name ≡ None
    by None is = is
    by (Some chassis) is = absurd (false≢true (sym leads ∙ virtual q.name chassis q is there))

pub sound_on : SoundOnLaw
sound_on m zones more u sets by flows entry chassis = record {
  live = owners_live m.config.net m.keys u.valid u.keys;
  owned = λ q k has on. on_switch m.config.net m.keys u.valid u.keys q k has on;
  apart = zones_apart zones chassis (u.bound.zoned.apart chassis);
  number = λ q. refl;
  zoned = λ q home. (u.bound.zoned.at_home chassis (zone.Port q)).0 (ap (λ (h : KnownHomes). home_for h (zone.Port q)) u.bound.homes ∙ home);
  in_range = λ whose n is. (u.bound.zoned.in_range chassis whose n is).1;
  routers_zoned = record {
    dnat = λ r. refl;
    snat = λ r. refl;
    both = λ r there here on.
        let home = translating_home m.config u.valid.in_order.routers chassis r here on in
        let zoned : (whose : ZoneUse) → home_for zones.homes whose ≡ Some chassis → IsSome (number_on zones.numbers chassis whose) = λ whose at_home. (u.bound.zoned.at_home chassis whose).0 at_home in (
          found (number_on zones.numbers chassis (zone.Dnat r.router)) (zoned (zone.Dnat r.router) (ap (λ (h : KnownHomes). home_for h (zone.Dnat r.router)) u.bound.homes ∙ home)),
          found (number_on zones.numbers chassis (zone.Snat r.router)) (zoned (zone.Snat r.router) (ap (λ (h : KnownHomes). home_for h (zone.Snat r.router)) u.bound.homes ∙ home)),
        );
  };
  unbound = unbound_so m.config u.bound_virtual;
  arrive = λ n x waits. may_arrive m zones.numbers sets by flows entry chassis x (u.crossings.may n x waits);
}
