-- Whose live keys the numbers of a copy are, and what the rows of a chassis ask for.
use Rattle.std.specs.Prelude.{◌≡◌, ◌≤◌, ◌<◌, ◌^◌, ◌++◌, ℕ, false, Some, None, map, filter_map, refl}
use Rattle.std.proofs.Common.{sym, ap, ◌∙◌, subst, arith}
use Rattle.std.proofs.lemmas.Option.{none-some, same_Some}
use Rattle.conn_zones.specs.Zoning.{GivenNumbers}
use Rattle.nb_records.specs.Routers.{partner_of_switch_port}
use Rattle.nb_records.specs.Switches.{is_virtual}
use Rattle.nb_records.specs.declared.router.Router.{Router}
use Rattle.nb_records.specs.declared.switch.Switch.{Switch}
use Rattle.nb_records.specs.declared.switch.SwitchPort.{SwitchPort}
use Rattle.net_model.specs.Config.{home_of, port_identity}
use Rattle.net_model.specs.Owners.{switch_owner, router_owner, router_port_owner, switch_port_owner}
use Rattle.net_model.specs.Visit.{identity_or, switch_named}
use Rattle.ovn_base.proofs.AmongLaws.{among_all, among_left, among_right, among_map, among_filter_map}
use Rattle.ovn_base.proofs.ByNameLaws.{at_among}
use Rattle.ovn_base.specs.declared.name.Name.{Name}
use Rattle.ovn_base.specs.lists.Among.{Among}
use Rattle.ovn_base.specs.names.ByName.{at}
use Rattle.physical_flows.specs.Stages.{Basis, IsDatapath, IsPort, PatchPort, IsPatchPort, to_router, of_router}
use Rattle.row_laws.proofs.records.ValidPorts.{on_switch}
use Rattle.row_laws.specs.Numbers.{IsDatapathKey, IsPortKey}
use Rattle.tunnel_keys.proofs.HeldKeys.{found, on_datapath_key, is_held_port}
use Rattle.tunnel_keys.specs.Keys.{IsKeys, held_datapath, held_datapaths, held_port, held_ports}
use Rattle.tunnel_keys.specs.declared.owner.DatapathKey.{DatapathKey}
use Rattle.tunnel_keys.specs.declared.owner.Identity.{Identity}
use Rattle.tunnel_keys.specs.declared.owner.PortKey.{PortKey}
use Rattle.sim_laws.proofs.KeyLookups.{datapath_key_is, port_key_is}
use Rattle.sim_laws.specs.Effects.{datapath_key, port_key}
use Rattle.sim_laws.specs.passes.Physical.{basis_of}
use Rattle.sim_laws.specs.pipelines.Standing.{Chassis, net_of, IsLaidOut}

module _ (s : Chassis) (laid : IsLaidOut s) where
  pub hold : IsKeys s.keys
  hold = laid.tables.admit.can_lower.hold

  -- ---- each number is of one

  pub datapath_among : (a : Name) (k : DatapathKey) → at s.keys.datapaths a ≡ Some k → Among (held_datapath (a, k)) (held_datapaths s.keys)
  datapath_among a k has =
      among_left (held_datapath (a, k)) (map held_datapath s.keys.datapaths) s.keys.retired_datapaths (among_map held_datapath (a, k) s.keys.datapaths (at_among s.keys.datapaths a k has))

  pub one_datapath : (a e : Name) (n : ℕ) → IsDatapathKey s.keys a n → IsDatapathKey s.keys e n → a ≡ e
  one_datapath a e n x y =
      ap (λ (o : Identity). o.name) (hold.datapaths_apart (held_datapath (a, x.0)) (held_datapath (e, y.0)) (datapath_among a x.0 x.1) (datapath_among e y.0 y.1) (x.2 ∙ sym y.2))

  -- the datapath of a live port's key is live
  under : (q : Name) (k : PortKey) → at s.keys.ports q ≡ Some k → (d : DatapathKey) × (at s.keys.datapaths k.datapath ≡ Some d)
  under q k has = found (at s.keys.datapaths k.datapath) (hold.on_datapath (q, k) (at_among s.keys.ports q k has))

  pub port_among : (q : Name) (k : PortKey) (d : DatapathKey) → at s.keys.ports q ≡ Some k → at s.keys.datapaths k.datapath ≡ Some d → Among (on_datapath_key q k d) (held_ports s.keys)
  port_among q k d has on =
      among_left (on_datapath_key q k d) (filter_map (held_port s.keys.datapaths) s.keys.ports) s.keys.retired_ports
      (among_filter_map (held_port s.keys.datapaths) (q, k) (on_datapath_key q k d) s.keys.ports (at_among s.keys.ports q k has) (is_held_port s.keys.datapaths q k d on))

  pub one_port : (d p q : Name) (n : ℕ) → IsPortKey s.keys d p n → IsPortKey s.keys d q n → p ≡ q
  one_port d p q n a b =
      let x = under p a.0 a.1 in
      let y = under q b.0 b.1 in
      let same : a.0.datapath ≡ b.0.datapath = a.2 ∙ sym b.2 in
      let birth : x.0 ≡ y.0 = same_Some x.0 y.0 (sym x.1 ∙ ap (at s.keys.datapaths) same ∙ y.1) in
      ap (λ (i : Identity). i.name) (hold.ports_apart (on_datapath_key p a.0 x.0) (on_datapath_key q b.0 y.0) (port_among p a.0 x.0 a.1 x.1) (port_among q b.0 y.0 b.1 y.1)
      (λ i. record { name = same i; birth = (birth i).birth }) (a.3 ∙ sym b.3))

  pub datapath_low : (a : Name) (n : ℕ) → IsDatapathKey s.keys a n → n ≤ 0xff_ffff
  datapath_low a n x =
      let low : x.0.key ≤ s.keys.datapath_range = (hold.datapath_keys (held_datapath (a, x.0)) (datapath_among a x.0 x.1)).1 in
      let high : s.keys.datapath_range ≤ 0xff_ffff = hold.datapath_ranges.1 in
      let is : x.0.key ≡ n = x.2 in
      omega (arith, low, high, is)

  -- that of a port is none of a group's
  pub port_low : (d q : Name) (n : ℕ) → IsPortKey s.keys d q n → n < 2 ^ 15
  port_low d q n a =
      let x = under q a.0 a.1 in
      let range = hold.port_keys (on_datapath_key q a.0 x.0) (port_among q a.0 x.0 a.1 x.1) in
      let low : a.0.key ≤ s.keys.port_range = range.1 in
      let high : s.keys.port_range ≤ 32767 = hold.port_ranges.1 in
      let is : a.0.key ≡ n = a.3 in
      omega (arith, low, high, is)

  -- and each has one number
  pub same_port_key : (d e q : Name) (n m : ℕ) → IsPortKey s.keys d q n → IsPortKey s.keys e q m → n ≡ m
  same_port_key d e q n m a b = sym a.3 ∙ ap (λ (k : PortKey). k.key) (same_Some a.0 b.0 (sym a.1 ∙ b.1)) ∙ b.3

  -- ---- the keys of the records

  pub switch_live : (a : Name) (w : Switch) → at (net_of s).switches a ≡ Some w → (k : ℕ) × (at s.keys.datapaths a ≡ Some (record { birth = w.birth; key = k }))
  switch_live a w there =
      let owner = switch_owner (a, w) in
      laid.live owner (among_left owner _ _ (among_left owner _ _ (among_left owner _ _ (among_map switch_owner (a, w) (net_of s).switches (at_among (net_of s).switches a w there)))))

  pub port_live : (q : Name) (port : SwitchPort) → at (net_of s).switch_ports q ≡ Some port → (k : ℕ) × (at s.keys.ports q ≡ Some (record { birth = port.birth; datapath = port.switch; key = k }))
  port_live q port there =
      let owner = switch_port_owner (q, port) in
      laid.live owner
      (among_right owner (map switch_owner (net_of s).switches ++ map router_owner (net_of s).routers ++ map router_port_owner (net_of s).router_ports) (map switch_port_owner (net_of s).switch_ports)
      (among_map switch_port_owner (q, port) (net_of s).switch_ports (at_among (net_of s).switch_ports q port there)))

  pub router_live : (a : Name) (router : Router) → at (net_of s).routers a ≡ Some router → (k : ℕ) × (at s.keys.datapaths a ≡ Some (record { birth = router.birth; key = k }))
  router_live a router there =
      let owner = router_owner (a, router) in
      laid.live owner
      (among_left owner _ _ (among_left owner _ _ (among_right owner (map switch_owner (net_of s).switches) (map router_owner (net_of s).routers) (among_map router_owner (a, router) (net_of s).routers (at_among (net_of s).routers a router there)))))

  -- by identity
  pub switch_key : (a : Name) (n : ℕ) (w : Switch) → at (net_of s).switches a ≡ Some w → IsDatapathKey s.keys a n → datapath_key s.keys (switch_named (net_of s) a) ≡ n
  switch_key a n w there on =
      let k = switch_live a w there in
      let live : DatapathKey = record { birth = w.birth; key = k.0 } in
      let named : w.name ≡ a = among_all (λ (e : Name × Switch). e.1.name ≡ e.0) (a, w) (net_of s).switches laid.valid.named.switches (at_among (net_of s).switches a w there) in
      let id : record { name = a; birth = w.birth } ≡ switch_named (net_of s) a = (λ j. record { name = sym named j; birth = w.birth }) ∙ ap (identity_or a) (sym there) in
      datapath_key_is s.keys hold (held_datapath (a, live)) (switch_named (net_of s) a) (datapath_among a live k.1) id
      ∙ ap (λ (x : DatapathKey). x.key) (same_Some live on.0 (sym k.1 ∙ on.1)) ∙ on.2

  pub port_number : (q : SwitchPort) (d : Name) (n : ℕ) → at (net_of s).switch_ports q.name ≡ Some q → IsPortKey s.keys d q.name n → port_key s.keys (port_identity q) ≡ n
  port_number q d n there of =
      let k = port_live q.name q there in
      let live : PortKey = record { birth = q.birth; datapath = q.switch; key = k.0 } in
      let x = under q.name live k.1 in
      port_key_is s.keys hold (on_datapath_key q.name live x.0) (port_identity q) (port_among q.name live x.0 k.1 x.1) refl
      ∙ ap (λ (x : PortKey). x.key) (same_Some live of.0 (sym k.1 ∙ of.1)) ∙ of.3

  -- ---- what rows ask for

  module _ (numbers : GivenNumbers) where
    abbrev pub b : Basis
    b = basis_of s numbers

    pub datapath_of : (a : Name) (dp : ℕ) → IsDatapath b a dp → IsDatapathKey s.keys a dp
    datapath_of a dp on = (on.live, on.has, on.number)

    pub port_of : (q : Name) (port : SwitchPort) (dp key : ℕ) → IsPort b q port dp key → IsPortKey s.keys port.switch q key
    port_of q port dp key of =
        let k = port_live q port of.there in
        let live : PortKey = record { birth = port.birth; datapath = port.switch; key = k.0 } in
        (of.live, of.has, ap (λ (x : PortKey). x.datapath) (same_Some of.live live (sym of.has ∙ k.1)), of.number)

    -- the switch of a port is there
    pub is_datapath : (q : Name) (port : SwitchPort) → at (net_of s).switch_ports q ≡ Some port → (dp : ℕ) → IsDatapathKey s.keys port.switch dp → IsDatapath b port.switch dp
    is_datapath q port there dp on =
        let w = on_switch (net_of s) laid.valid q port there in
        record { switch = w.0; there = w.1; live = on.0; has = on.1; number = on.2 }

    pub is_port : (q : Name) (port : SwitchPort) → at (net_of s).switch_ports q ≡ Some port → (dp key : ℕ) → IsDatapathKey s.keys port.switch dp → IsPortKey s.keys port.switch q key → IsPort b q port dp key
    is_port q port there dp key on of = record { there = there; on = is_datapath q port there dp on; live = of.0; has = of.1; number = of.3 }

    -- a port of the switch that has these numbers is the port
    pub same_exit : (o : SwitchPort) (dp key : ℕ) → IsDatapathKey s.keys o.switch dp → IsPortKey s.keys o.switch o.name key
        → (r : Name) (other : SwitchPort) (d k : ℕ) → IsPort b r other d k → dp ≡ d → key ≡ k → r ≡ o.name
    same_exit o dp key on to r other d k theirs same equal =
        let switch : other.switch ≡ o.switch = one_datapath other.switch o.switch d (datapath_of other.switch d theirs.on) (subst (IsDatapathKey s.keys o.switch) same on) in
        one_port o.switch r o.name k (subst (λ a. IsPortKey s.keys a r k) switch (port_of r other d k theirs)) (subst (IsPortKey s.keys o.switch o.name) equal to)

    -- no router has a switch's name
    pub no_router_there : (a : Name) (w : Switch) (router : Router) → at (net_of s).switches a ≡ Some w → at (net_of s).routers a ≡ Some router → ⊥
    no_router_there a w router there also =
        let none : at (net_of s).routers a ≡ None = among_all (λ (e : Name × Switch). at (net_of s).routers e.0 ≡ None) (a, w) (net_of s).switches laid.valid.datapaths (at_among (net_of s).switches a w there) in
        none-some router (sym none ∙ also)

    -- a port that leads into another datapath, and has these numbers, is the port, which leads to a router
    pub record IsItself (o : SwitchPort) (x : PatchPort) : Type 0 where
      pub leads : is_virtual o ≡ false
      pub home : x.home ≡ home_of s.scene.config o
      pub partner : x.partner ≡ partner_of_switch_port (net_of s) o

    pub same_patch : (o : SwitchPort) → at (net_of s).switch_ports o.name ≡ Some o → (dp key : ℕ) → IsDatapathKey s.keys o.switch dp → IsPortKey s.keys o.switch o.name key
        → (x : PatchPort) → IsPatchPort b x → dp ≡ x.dp → key ≡ x.key → IsItself o x
    same_patch o there dp key on to x (to_router q port d k theirs leads is) same equal =
        let named : q ≡ o.name = same_exit o dp key on to q port d k theirs (same ∙ ap (λ (y : PatchPort). y.dp) is) (equal ∙ ap (λ (y : PatchPort). y.key) is) in
        let itself : port ≡ o = same_Some port o (sym theirs.there ∙ ap (λ n. at (net_of s).switch_ports n) named ∙ there) in
        record {
          leads = ap (λ (p : SwitchPort). is_virtual p) (sym itself) ∙ leads;
          home = ap (λ (y : PatchPort). y.home) is ∙ ap (λ (p : SwitchPort). home_of s.scene.config p) itself;
          partner = ap (λ (y : PatchPort). y.partner) is ∙ ap (λ (p : SwitchPort). partner_of_switch_port (net_of s) p) itself;
        }
    same_patch o there dp key on to x (of_router q port d k theirs is) same equal =
        let router = theirs.on in
        let named : port.router ≡ o.switch = one_datapath port.router o.switch d (router.live, router.has, router.number) (subst (IsDatapathKey s.keys o.switch) (same ∙ ap (λ (y : PatchPort). y.dp) is) on) in
        let w = on_switch (net_of s) laid.valid o.name o there in
        absurd (no_router_there o.switch w.0 router.router w.1 (ap (λ a. at (net_of s).routers a) (sym named) ∙ router.there))

    -- its number is none of a group's
    pub patch_low : (x : PatchPort) → IsPatchPort b x → x.key < 2 ^ 15
    patch_low x (to_router q port d k theirs leads is) = subst (λ (y : PatchPort). y.key < 2 ^ 15) (sym is) (port_low theirs.live.datapath q k (theirs.live, theirs.has, refl, theirs.number))
    patch_low x (of_router q port d k theirs is) = subst (λ (y : PatchPort). y.key < 2 ^ 15) (sym is) (port_low theirs.live.datapath q k (theirs.live, theirs.has, refl, theirs.number))
