-- Whose live keys the numbers of a copy are that is at a port of a router, or at one that leads to a router.
use Rattle.std.specs.Prelude.{◌≡◌, ℕ, true, Option, Some, None, refl}
use Rattle.std.proofs.Common.{sym, ap, ◌∙◌, subst}
use Rattle.std.proofs.lemmas.Bool.{false≢true}
use Rattle.std.proofs.lemmas.Option.{none-some, same_Some}
use Rattle.conn_zones.specs.Zoning.{GivenNumbers}
use Rattle.nb_records.specs.Network.{Network}
use Rattle.nb_records.specs.Routers.{Partner, partner_of_switch_port, partner_of_router_port}
use Rattle.nb_records.specs.Switches.{is_virtual}
use Rattle.nb_records.specs.declared.router.RouterPort.{RouterPort}
use Rattle.nb_records.specs.declared.switch.SwitchPort.{SwitchPort}
use Rattle.net_model.specs.Trail.{Spot}
use Rattle.ovn_base.proofs.AmongLaws.{among_all}
use Rattle.ovn_base.proofs.ByNameLaws.{at_among}
use Rattle.ovn_base.specs.declared.name.Name.{Name}
use Rattle.ovn_base.specs.names.ByName.{at}
use Rattle.physical_flows.specs.Stages.{Basis, IsRouter, IsPort, IsRouterPort, PatchPort, IsPatchPort, switch_patch, router_patch}
use Rattle.row_laws.proofs.routers.TakenAtRouter.{port_named, own_place, on_router}
use Rattle.row_laws.specs.Numbers.{IsDatapathKey, IsPortKey}
use Rattle.tunnel_keys.specs.declared.owner.PortKey.{PortKey}
use Rattle.sim_laws.proofs.passes.LiveNumbers.{one_datapath, one_port, datapath_of, port_of, is_port}
use Rattle.sim_laws.specs.passes.Physical.{basis_of}
use Rattle.sim_laws.specs.pipelines.Standing.{Chassis, net_of, IsLaidOut}
use Rattle.sim_laws.proofs.router_stages.RouterCopiesOn.{router_port_live}
use Rattle.sim_laws.specs.routers.Patches.{LeadsTo}

module _ (s : Chassis) (laid : IsLaidOut s) (numbers : GivenNumbers) where
  abbrev net : Network
  net = net_of s

  abbrev b : Basis
  b = basis_of s numbers

  -- no name is that of a switch's port and of a router's
  pub one_kind : (q : Name) (o : SwitchPort) (p : RouterPort) → at net.switch_ports q ≡ Some o → at net.router_ports q ≡ Some p → ⊥
  one_kind q o p here there =
      none-some p (sym (among_all (λ (e : Name × SwitchPort). at net.router_ports e.0 ≡ None) (q, o) net.switch_ports laid.valid.ports (at_among net.switch_ports q o here)) ∙ there)

  -- ---- what rows ask for

  pub router_of : (a : Name) (dp : ℕ) → IsRouter b a dp → IsDatapathKey s.keys a dp
  router_of a dp on = (on.live, on.has, on.number)

  pub router_port_of : (q : Name) (port : RouterPort) (dp key : ℕ) → IsRouterPort b q port dp key → IsPortKey s.keys port.router q key
  router_port_of q port dp key of =
      let k = router_port_live net s.keys laid.live port (own_place net laid.valid q port of.there) in
      let same : k.0 ≡ of.live = same_Some k.0 of.live (sym k.1 ∙ ap (at s.keys.ports) (port_named net laid.valid q port of.there) ∙ of.has) in
      (of.live, of.has, ap (λ (x : PortKey). x.datapath) (sym same) ∙ k.2, of.number)

  pub is_router_port : (port : RouterPort) → at net.router_ports port.name ≡ Some port → (dp key : ℕ) → IsDatapathKey s.keys port.router dp → IsPortKey s.keys port.router port.name key
      → IsRouterPort b port.name port dp key
  is_router_port port there dp key on of =
      let r = on_router net laid.valid port.name port there in
      record {
        there = there;
        on = record { router = r.0; there = r.1; live = on.0; has = on.1; number = on.2 };
        live = of.0;
        has = of.1;
        number = of.3;
      }

  -- ---- by their numbers

  module _ (a n : Name) (dp key : ℕ) (on : IsDatapathKey s.keys a dp) (to : IsPortKey s.keys a n key) where
    -- a port that has these numbers has the name
    pub switch_port_is : (r : Name) (other : SwitchPort) (d k : ℕ) → IsPort b r other d k → dp ≡ d → key ≡ k → r ≡ n
    switch_port_is r other d k theirs same equal =
        let switch : other.switch ≡ a = one_datapath s laid other.switch a d (datapath_of s laid numbers other.switch d theirs.on) (subst (IsDatapathKey s.keys a) same on) in
        one_port s laid a r n k (subst (λ e. IsPortKey s.keys e r k) switch (port_of s laid numbers r other d k theirs)) (subst (IsPortKey s.keys a n) equal to)

    pub router_port_is : (r : Name) (other : RouterPort) (d k : ℕ) → IsRouterPort b r other d k → dp ≡ d → key ≡ k → r ≡ n
    router_port_is r other d k theirs same equal =
        let router : other.router ≡ a = one_datapath s laid other.router a d (router_of other.router d theirs.on) (subst (IsDatapathKey s.keys a) same on) in
        one_port s laid a r n k (subst (λ e. IsPortKey s.keys e r k) router (router_port_of r other d k theirs)) (subst (IsPortKey s.keys a n) equal to)

  -- ---- ports that lead into another datapath

  module _ (by : Spot) (partner : Option Partner) (dp key : ℕ) (on : IsDatapathKey s.keys by.datapath dp) (to : IsPortKey s.keys by.datapath by.port key) where
    -- such a port has rows
    pub record HasPatchRows : Type 0 where
      pub port : PatchPort
      pub is_one : IsPatchPort b port
      pub its_dp : port.dp ≡ dp
      pub its_key : port.key ≡ key
      pub its_partner : port.partner ≡ partner

    pub has_rows : LeadsTo s.scene by partner → HasPatchRows
    has_rows (LeadsTo.to_router o there kind at_home is e) =
        let own = is_port s laid numbers o.name o there dp key (subst (λ (x : Spot). IsDatapathKey s.keys x.datapath dp) is on) (subst (λ (x : Spot). IsPortKey s.keys x.datapath x.port key) is to) in
        record {
          port = switch_patch b o dp key;
          is_one = IsPatchPort.to_router o.name o dp key own kind refl;
          its_dp = refl;
          its_key = refl;
          its_partner = sym e;
        }
    has_rows (LeadsTo.of_router o there at_home is e) =
        let own = is_router_port o there dp key (subst (λ (x : Spot). IsDatapathKey s.keys x.datapath dp) is on) (subst (λ (x : Spot). IsPortKey s.keys x.datapath x.port key) is to) in
        record {
          port = router_patch b o dp key;
          is_one = IsPatchPort.of_router o.name o dp key own refl;
          its_dp = refl;
          its_key = refl;
          its_partner = sym e;
        }

    -- no virtual port has its numbers
    pub not_virtual : LeadsTo s.scene by partner → (r : Name) (other : SwitchPort) (d k : ℕ) → IsPort b r other d k → dp ≡ d → key ≡ k → is_virtual other ≡ true → ⊥
    not_virtual (LeadsTo.to_router o there kind at_home is e) r other d k theirs same equal virtual =
        let named : r ≡ o.name = switch_port_is by.datapath by.port dp key on to r other d k theirs same equal ∙ ap (λ (x : Spot). x.port) is in
        let port : other ≡ o = same_Some other o (sym theirs.there ∙ ap (at net.switch_ports) named ∙ there) in
        false≢true (sym kind ∙ ap is_virtual (sym port) ∙ virtual)
    not_virtual (LeadsTo.of_router o there at_home is e) r other d k theirs same equal virtual =
        let named : r ≡ o.name = switch_port_is by.datapath by.port dp key on to r other d k theirs same equal ∙ ap (λ (x : Spot). x.port) is in
        one_kind o.name other o (ap (at net.switch_ports) (sym named) ∙ theirs.there) there

    module _ (y : PatchPort) (same : dp ≡ y.dp) (equal : key ≡ y.key) where
      switch_named : (q : Name) (port : SwitchPort) (d k : ℕ) → IsPort b q port d k → y ≡ switch_patch b port d k → q ≡ by.port
      switch_named q port d k theirs is = switch_port_is by.datapath by.port dp key on to q port d k theirs (same ∙ ap (λ (x : PatchPort). x.dp) is) (equal ∙ ap (λ (x : PatchPort). x.key) is)

      router_named : (q : Name) (port : RouterPort) (d k : ℕ) → IsRouterPort b q port d k → y ≡ router_patch b port d k → q ≡ by.port
      router_named q port d k theirs is = router_port_is by.datapath by.port dp key on to q port d k theirs (same ∙ ap (λ (x : PatchPort). x.dp) is) (equal ∙ ap (λ (x : PatchPort). x.key) is)

      -- what leads into another datapath and has them has its partner
      pub one_partner : LeadsTo s.scene by partner → IsPatchPort b y → y.partner ≡ partner
      one_partner (LeadsTo.to_router o there kind at_home it e) (IsPatchPort.to_router q port d k theirs other is) =
          let named : q ≡ o.name = switch_named q port d k theirs is ∙ ap (λ (x : Spot). x.port) it in
          let one : port ≡ o = same_Some port o (sym theirs.there ∙ ap (at net.switch_ports) named ∙ there) in
          ap (λ (x : PatchPort). x.partner) is ∙ ap (partner_of_switch_port net) one ∙ sym e
      one_partner (LeadsTo.to_router o there kind at_home it e) (IsPatchPort.of_router q port d k theirs is) =
          let named : q ≡ o.name = router_named q port d k theirs is ∙ ap (λ (x : Spot). x.port) it in
          absurd (one_kind o.name o port there (ap (at net.router_ports) (sym named) ∙ theirs.there))
      one_partner (LeadsTo.of_router o there at_home it e) (IsPatchPort.to_router q port d k theirs other is) =
          let named : q ≡ o.name = switch_named q port d k theirs is ∙ ap (λ (x : Spot). x.port) it in
          absurd (one_kind o.name port o (ap (at net.switch_ports) (sym named) ∙ theirs.there) there)
      one_partner (LeadsTo.of_router o there at_home it e) (IsPatchPort.of_router q port d k theirs is) =
          let named : q ≡ o.name = router_named q port d k theirs is ∙ ap (λ (x : Spot). x.port) it in
          let one : port ≡ o = same_Some port o (sym theirs.there ∙ ap (at net.router_ports) named ∙ there) in
          ap (λ (x : PatchPort). x.partner) is ∙ ap (partner_of_router_port net) one ∙ sym e
