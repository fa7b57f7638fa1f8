-- Whose numbers the frame of a crossing spells: by identity, live or retired.
use Rattle.std.specs.Prelude.{◌≡◌, ℕ, true, Option, Some, None, option_map, refl}
use Rattle.std.proofs.Common.{sym, ap, ◌∙◌, subst}
use Rattle.std.proofs.lemmas.Bool.{false≢true}
use Rattle.std.proofs.lemmas.Option.{same_Some}
use Rattle.nb_records.specs.declared.router.Router.{Router}
use Rattle.nb_records.specs.declared.switch.Switch.{Switch}
use Rattle.nb_records.specs.declared.switch.SwitchPort.{SwitchPort}
use Rattle.net_model.specs.Arrival.{is_that_switch, is_switch}
use Rattle.net_model.specs.Config.{switch_identity, port_identity}
use Rattle.net_model.specs.Sights.{roster_of, is_live_one}
use Rattle.net_model.specs.declared.crossing.Crossing.{Crossing}
use Rattle.ovn_base.proofs.AmongLaws.{among_all}
use Rattle.ovn_base.proofs.ByNameLaws.{at_among}
use Rattle.ovn_base.specs.declared.name.Name.{Name}
use Rattle.ovn_base.specs.lists.Among.{Among}
use Rattle.ovn_base.specs.names.ByName.{at}
use Rattle.row_laws.proofs.records.ValidPorts.{on_switch, port_named}
use Rattle.row_laws.specs.Numbers.{IsDatapathKey, IsPortKey, NumberStandsFor}
use Rattle.tunnel_keys.proofs.HeldKeys.{found, is_found, on_datapath_key}
use Rattle.tunnel_keys.specs.Keys.{held_datapath, held_ports}
use Rattle.tunnel_keys.specs.Same.{same_identity, identity_exact, identity_own}
use Rattle.tunnel_keys.specs.declared.owner.DatapathKey.{DatapathKey}
use Rattle.tunnel_keys.specs.declared.owner.HeldPort.{HeldPort}
use Rattle.tunnel_keys.specs.declared.owner.Identity.{Identity}
use Rattle.tunnel_keys.specs.declared.owner.PortKey.{PortKey}
use Rattle.sim_laws.proofs.KeyLookups.{datapath_key_is, port_key_is}
use Rattle.sim_laws.proofs.passes.LiveNumbers.{hold, datapath_among, port_among, switch_live, router_live, port_live}
use Rattle.sim_laws.specs.Effects.{datapath_key, port_key}
use Rattle.sim_laws.specs.passes.Arriving.{AreOwned, MayArrive}
use Rattle.sim_laws.specs.pipelines.Standing.{Chassis, net_of, IsLaidOut}

module _ (s : Chassis) (laid : IsLaidOut s) (owned : AreOwned s) (x : Crossing) (may : MayArrive s x) where
  -- the numbers of the datapath and of the port of entry
  abbrev pub vni : ℕ
  vni = datapath_key s.keys x.datapath

  abbrev pub in_key : ℕ
  in_key = port_key s.keys x.in_port

  pub vni_held : vni ≡ may.datapath_key.0.key
  vni_held = datapath_key_is s.keys (hold s laid) may.datapath_key.0 x.datapath may.datapath_key.1 may.datapath_key.2

  pub in_held : in_key ≡ may.in_key.0.key
  in_held = port_key_is s.keys (hold s laid) may.in_key.0 x.in_port may.in_key.1 may.in_key.2

  -- ---- the switch

  switch_name : (a : Name) (w : Switch) → at (net_of s).switches a ≡ Some w → w.name ≡ a
  switch_name a w found = among_all (λ (e : Name × Switch). e.1.name ≡ e.0) (a, w) (net_of s).switches laid.valid.named.switches (at_among (net_of s).switches a w found)

  -- a switch that has the number is that of the crossing
  pub its_switch : (a : Name) (w : Switch) → at (net_of s).switches a ≡ Some w → IsDatapathKey s.keys a vni → record { name = a; birth = w.birth } ≡ x.datapath
  its_switch a w found on =
      let k = switch_live s laid a w found in
      let live : DatapathKey = record { birth = w.birth; key = k.0 } in
      let same : k.0 ≡ vni = ap (λ (d : DatapathKey). d.key) (same_Some live on.0 (sym k.1 ∙ on.1)) ∙ on.2 in
      (hold s laid).datapaths_apart (held_datapath (a, live)) may.datapath_key.0 (datapath_among s laid a live k.1) may.datapath_key.1 (same ∙ vni_held) ∙ may.datapath_key.2

  -- no router has it
  pub not_router : (a : Name) (router : Router) → at (net_of s).routers a ≡ Some router → IsDatapathKey s.keys a vni → ⊥
  not_router a router found on =
      let k = router_live s laid a router found in
      let live : DatapathKey = record { birth = router.birth; key = k.0 } in
      let number : k.0 ≡ vni = ap (λ (d : DatapathKey). d.key) (same_Some live on.0 (sym k.1 ∙ on.1)) ∙ on.2 in
      let same : record { name = a; birth = router.birth } ≡ x.datapath =
      (hold s laid).datapaths_apart (held_datapath (a, live)) may.datapath_key.0 (datapath_among s laid a live k.1) may.datapath_key.1 (number ∙ vni_held) ∙ may.datapath_key.2 in
      let named : router.name ≡ a = among_all (λ (e : Name × Router). e.1.name ≡ e.0) (a, router) (net_of s).routers laid.valid.named.routers (at_among (net_of s).routers a router found) in
      may.no_router router (ap (λ (id : Identity). at (net_of s).routers id.name) (sym same) ∙ found) ((λ j. record { name = named j; birth = router.birth }) ∙ same)

  -- it is there, then
  pub its_there : (a : Name) (w : Switch) → at (net_of s).switches a ≡ Some w → IsDatapathKey s.keys a vni → is_switch (net_of s) x.datapath ≡ true
  its_there a w found on =
      let own : Identity = record { name = a; birth = w.birth } in
      let there' : is_switch (net_of s) own ≡ true =
      ap (is_that_switch own) found ∙ (λ j. same_identity (record { name = switch_name a w found j; birth = w.birth }) own) ∙ identity_own own in
      subst (λ (id : Identity). is_switch (net_of s) id ≡ true) (its_switch a w found on) there'

  pub the_switch : is_switch (net_of s) x.datapath ≡ true → (w : Switch) × (at (net_of s).switches x.datapath.name ≡ Some w) × (record { name = x.datapath.name; birth = w.birth } ≡ x.datapath)
  the_switch is = by (at (net_of s).switches x.datapath.name) refl is
    where
      by : (o : Option Switch) → at (net_of s).switches x.datapath.name ≡ o → is_that_switch x.datapath o ≡ true
          → (w : Switch) × (at (net_of s).switches x.datapath.name ≡ Some w) × (record { name = x.datapath.name; birth = w.birth } ≡ x.datapath)
      by None e h = absurd (false≢true h)
      by (Some w) e h =
          let same = identity_exact (switch_identity w) x.datapath h in
          (w, e, (λ j. record { name = x.datapath.name; birth = (same j).birth }))

  -- its live key is the number
  pub vni_on : is_switch (net_of s) x.datapath ≡ true → IsDatapathKey s.keys x.datapath.name vni
  vni_on is =
      let w = the_switch is in
      let k = switch_live s laid x.datapath.name w.0 w.1 in
      let live : DatapathKey = record { birth = w.0.birth; key = k.0 } in
      (live, k.1, sym (datapath_key_is s.keys (hold s laid) (held_datapath (x.datapath.name, live)) x.datapath (datapath_among s laid x.datapath.name live k.1) w.2))

  -- ---- ports

  -- a port of the switch that has the number of who was one of it is that port
  pub its_port : (r : Name) (other : SwitchPort) → at (net_of s).switch_ports r ≡ Some other → IsDatapathKey s.keys other.switch vni → (k : ℕ) → IsPortKey s.keys other.switch r k
      → (h : HeldPort) → Among h (held_ports s.keys) → h.datapath ≡ x.datapath → k ≡ h.key → record { name = r; birth = other.birth } ≡ h.owner
  its_port r other found on k of h m together same =
      let p = port_live s laid r other found in
      let w = on_switch (net_of s) laid.valid r other found in
      let d = switch_live s laid other.switch w.0 w.1 in
      let live : PortKey = record { birth = other.birth; datapath = other.switch; key = p.0 } in
      let under : DatapathKey = record { birth = w.0.birth; key = d.0 } in
      let key : p.0 ≡ k = ap (λ (y : PortKey). y.key) (same_Some live of.0 (sym p.1 ∙ of.1)) ∙ of.3 in
      (hold s laid).ports_apart (on_datapath_key r live under) h (port_among s laid r live under p.1 d.1) m (its_switch other.switch w.0 w.1 on ∙ sym together) (key ∙ same)

  -- ---- the port of entry

  pub came_stands : is_switch (net_of s) x.datapath ≡ true → NumberStandsFor s.keys (roster_of (net_of s)) x.datapath.name (Some x.in_port) in_key
  came_stands is = record { named = λ q key. named q key; numbered = λ q h. numbered q (at (net_of s).switch_ports q) refl h }
    where
      named : (q : Name) → IsPortKey s.keys x.datapath.name q in_key → is_live_one (Some x.in_port) (option_map port_identity (at (net_of s).switch_ports q)) ≡ true
      named q key =
          let w = the_switch is in
          let port = found (at (net_of s).switch_ports q) (owned q key.0 key.1 (is_found (at (net_of s).switches key.0.datapath) w.0 (ap (λ a. at (net_of s).switches a) key.2 ∙ w.1))) in
          let p = port_live s laid q port.0 port.1 in
          let live : PortKey = record { birth = port.0.birth; datapath = port.0.switch; key = p.0 } in
          let on : key.0.datapath ≡ port.0.switch = ap (λ (y : PortKey). y.datapath) (same_Some key.0 live (sym key.1 ∙ p.1)) in
          let vni_there : IsDatapathKey s.keys port.0.switch vni = subst (λ (a : Name). IsDatapathKey s.keys a vni) (sym key.2 ∙ on) (vni_on is) in
          let same : record { name = q; birth = port.0.birth } ≡ x.in_port =
          its_port q port.0 port.1 vni_there in_key (key.0, key.1, on, key.3) may.in_key.0 may.in_key.1 (may.in_on is may.in_key.0 may.in_key.1 may.in_key.2) in_held ∙ may.in_key.2 in
          let own : port_identity port.0 ≡ x.in_port = (λ j. record { name = port_named (net_of s) laid.valid q port.0 port.1 j; birth = port.0.birth }) ∙ same in
          ap (λ (o : Option SwitchPort). is_live_one (Some x.in_port) (option_map port_identity o)) port.1
          ∙ subst (λ (id : Identity). same_identity x.in_port id ≡ true) (sym own) (identity_own x.in_port)

      numbered : (q : Name) (o : Option SwitchPort) → at (net_of s).switch_ports q ≡ o → is_live_one (Some x.in_port) (option_map port_identity o) ≡ true → IsPortKey s.keys x.datapath.name q in_key
      numbered q None e h = absurd (false≢true h)
      numbered q (Some port) e h =
          let p = port_live s laid q port e in
          let live : PortKey = record { birth = port.birth; datapath = port.switch; key = p.0 } in
          let w = on_switch (net_of s) laid.valid q port e in
          let d = switch_live s laid port.switch w.0 w.1 in
          let under : DatapathKey = record { birth = w.0.birth; key = d.0 } in
          let m = port_among s laid q live under p.1 d.1 in
          let own : record { name = q; birth = port.birth } ≡ x.in_port =
          (λ j. record { name = sym (port_named (net_of s) laid.valid q port e) j; birth = port.birth }) ∙ sym (identity_exact x.in_port (port_identity port) h) in
          let together = may.in_on is (on_datapath_key q live under) m own in
          (live, p.1, ap (λ (i : Identity). i.name) together, sym (port_key_is s.keys (hold s laid) (on_datapath_key q live under) x.in_port m own))
