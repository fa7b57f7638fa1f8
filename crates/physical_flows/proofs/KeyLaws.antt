-- What holds of the live keys of the records.
use Rattle.std.specs.Prelude.{◌≡◌, ◌≤◌, ◌<◌, ◌^◌, ℕ, Some, None, Option, map, filter_map, refl}
use Rattle.std.specs.Option.{option_map}
use Rattle.std.proofs.Common.{arith, sym, ap, ◌∙◌}
use mathlib.Core.Logic.{inl, inr}
use Rattle.std.proofs.lemmas.Option.{none-some, same_Some}
use Rattle.ovn_base.specs.lists.Among.{Among}
use Rattle.ovn_base.specs.declared.name.Name.{Name}
use Rattle.ovn_base.specs.names.ByName.{at}
use Rattle.ovn_base.proofs.AmongLaws.{among_left, among_map, among_filter_map}
use Rattle.ovn_base.proofs.ByNameLaws.{at_among}
use Rattle.nb_records.specs.Network.{Network}
use Rattle.tunnel_keys.specs.Keys.{Keys, held_datapath, held_datapaths, held_port, held_ports}
use Rattle.tunnel_keys.specs.declared.owner.DatapathKey.{DatapathKey}
use Rattle.tunnel_keys.specs.declared.owner.Identity.{Identity}
use Rattle.tunnel_keys.specs.declared.owner.PortKey.{PortKey}
use Rattle.tunnel_keys.proofs.HeldKeys.{is_held_port, on_datapath_key}
use Rattle.physical_flows.specs.RecordKeys.{HaveKeys}
use Rattle.physical_flows.proofs.FlowSearch.{some_of}

-- the key that has the number
pub of_number : {X : Type 0} (number : X → ℕ) (o : Option X) (n : ℕ) → option_map number o ≡ Some n → (x : X) × (o ≡ Some x) × (number x ≡ n)
of_number number None n e = absurd (none-some n e)
of_number number (Some x) n e = (x, refl, same_Some (number x) n e)

module _ (net : Network) (keys : Keys) (have : HaveKeys net keys) where
  -- ---- datapaths

  pub datapath_held : (a : Name) (k : DatapathKey) → at keys.datapaths a ≡ Some k → Among (held_datapath (a, k)) (held_datapaths keys)
  datapath_held a k has = among_left (held_datapath (a, k)) (map held_datapath keys.datapaths) keys.retired_datapaths (among_map held_datapath (a, k) keys.datapaths (at_among keys.datapaths a k has))

  pub datapath_fits : (a : Name) (k : DatapathKey) → at keys.datapaths a ≡ Some k → (1 ≤ k.key) × (k.key < 2 ^ 24)
  datapath_fits a k has =
      let fits = have.hold.datapath_keys (held_datapath (a, k)) (datapath_held a k has) in
      let high : k.key ≤ keys.datapath_range = fits.1 in
      let range : keys.datapath_range ≡ 16777215 = have.datapath_range in
      (fits.0, omega (arith, high, range))

  pub datapaths_apart : (a b : Name) (j k : DatapathKey) → at keys.datapaths a ≡ Some j → at keys.datapaths b ≡ Some k → j.key ≡ k.key → a ≡ b
  datapaths_apart a b j k at_a at_b same = ap (λ (o : Identity). o.name) (have.hold.datapaths_apart (held_datapath (a, j)) (held_datapath (b, k)) (datapath_held a j at_a) (datapath_held b k at_b) same)

  -- a name that no switch has and no router, has no key
  pub no_datapath_key : (a : Name) → at net.switches a ≡ None → at net.routers a ≡ None → at keys.datapaths a ≡ None
  no_datapath_key a no_switch no_router = by (at keys.datapaths a) refl
    where
      by : (o : Option DatapathKey) → at keys.datapaths a ≡ o → at keys.datapaths a ≡ None
      by None e = e
      by (Some k) e = elim (have.datapath_of a k e) [
        | inl switch ↦ let s = some_of (at net.switches a) switch in absurd (none-some s.0 (sym no_switch ∙ s.1))
        | inr router ↦ let r = some_of (at net.routers a) router in absurd (none-some r.0 (sym no_router ∙ r.1))
      ]

  -- ---- ports

  -- the key of a port's datapath
  pub datapath_under : (q : Name) (k : PortKey) → at keys.ports q ≡ Some k → (d : DatapathKey) × (at keys.datapaths k.datapath ≡ Some d)
  datapath_under q k has = some_of (at keys.datapaths k.datapath) (have.hold.on_datapath (q, k) (at_among keys.ports q k has))

  pub port_held : (q : Name) (k : PortKey) (d : DatapathKey) → at keys.ports q ≡ Some k → at keys.datapaths k.datapath ≡ Some d → Among (on_datapath_key q k d) (held_ports keys)
  port_held q k d has under =
      among_left (on_datapath_key q k d) (filter_map (held_port keys.datapaths) keys.ports) keys.retired_ports
      (among_filter_map (held_port keys.datapaths) (q, k) (on_datapath_key q k d) keys.ports (at_among keys.ports q k has) (is_held_port keys.datapaths q k d under))

  pub port_fits : (q : Name) (k : PortKey) → at keys.ports q ≡ Some k → (1 ≤ k.key) × (k.key < 2 ^ 15)
  port_fits q k has =
      let d = datapath_under q k has in
      let fits = have.hold.port_keys (on_datapath_key q k d.0) (port_held q k d.0 has d.1) in
      let high : k.key ≤ keys.port_range = fits.1 in
      let range : keys.port_range ≡ 32767 = have.port_range in
      (fits.0, omega (arith, high, range))

  pub ports_apart : (p q : Name) (j k : PortKey) → at keys.ports p ≡ Some j → at keys.ports q ≡ Some k → j.datapath ≡ k.datapath → j.key ≡ k.key → p ≡ q
  ports_apart p q j k at_p at_q together same =
      let d = datapath_under p j at_p in
      let e = datapath_under q k at_q in
      let one : d.0 ≡ e.0 = same_Some d.0 e.0 (sym d.1 ∙ ap (λ n. at keys.datapaths n) together ∙ e.1) in
      let on : (on_datapath_key p j d.0).datapath ≡ (on_datapath_key q k e.0).datapath = λ i. record { name = together i; birth = (one i).birth } in
      ap (λ (o : Identity). o.name) (have.hold.ports_apart (on_datapath_key p j d.0) (on_datapath_key q k e.0) (port_held p j d.0 at_p d.1) (port_held q k e.0 at_q e.1) on same)

  pub no_port_key : (q : Name) → at net.switch_ports q ≡ None → at net.router_ports q ≡ None → at keys.ports q ≡ None
  no_port_key q no_switch no_router = by (at keys.ports q) refl
    where
      by : (o : Option PortKey) → at keys.ports q ≡ o → at keys.ports q ≡ None
      by None e = e
      by (Some k) e = elim (have.port_of q k e) [
        | inl switch ↦ let s = some_of (at net.switch_ports q) switch in absurd (none-some s.0 (sym no_switch ∙ s.1))
        | inr router ↦ let r = some_of (at net.router_ports q) router in absurd (none-some r.0 (sym no_router ∙ r.1))
      ]
