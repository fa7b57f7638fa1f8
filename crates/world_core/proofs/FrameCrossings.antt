-- A crossing is read from its frame: each number in it is that of whom the crossing names there.
use Rattle.std.specs.Prelude.{◌≡◌, ℕ, IsTrue, List, Some, filter_map, map, option_map, refl}
use Rattle.std.proofs.Common.{sym, ap, ◌∙◌, subst, inl, inr}
use Rattle.std.proofs.lemmas.Bool.Decides.{Decides-eqb}
use Rattle.std.proofs.lemmas.Option.{same_Some}
use Rattle.ovn_base.specs.lists.Among.{Among}
use Rattle.ovn_base.specs.names.ByName.{at}
use Rattle.ovn_base.specs.declared.name.Name.{Name}
use Rattle.ovn_base.proofs.AmongLaws.{among_all, among_append, among_none, filter_map_among, map_among}
use Rattle.ovn_base.proofs.ByNameLaws.{among_at, at_among}
use Rattle.geneve_frames.specs.Meaning.{Spells}
use Rattle.geneve_frames.proofs.Canon.{canon_spells}
use Rattle.inet_packet.specs.Frame.{frame_of}
use Rattle.nb_records.specs.declared.router.Router.{Router}
use Rattle.nb_records.specs.declared.switch.Switch.{Switch}
use Rattle.nb_rules.specs.Valid.{IsValid}
use Rattle.net_model.specs.State.{State}
use Rattle.net_model.specs.declared.crossing.Aim.{Aim}
use Rattle.net_model.specs.declared.crossing.Aim.TheVariants.{ToPort, ToGroup}
use Rattle.net_model.specs.declared.crossing.Crossing.{Crossing}
use Rattle.physical_flows.proofs.FlowSearch.{is_some_of, some_of}
use Rattle.physical_flows.specs.RecordKeys.{HaveKeys}
use Rattle.sim_laws.proofs.KeyLookups.{datapath_key_is, port_key_is}
use Rattle.sim_laws.proofs.journey_laws.Premises.{on_switch}
use Rattle.sim_laws.specs.Effects.{datapath_key, port_key, aim_key}
use Rattle.sim_laws.specs.Sound.{HasAimKey, IsAimOnLive, MayWait, has_birth, is_switch}
use Rattle.tunnel_keys.proofs.HeldKeys.{held_port_is}
use Rattle.tunnel_keys.specs.Keys.{held_datapath, held_datapaths, held_port, held_ports}
use Rattle.tunnel_keys.specs.declared.owner.DatapathKey.{DatapathKey}
use Rattle.tunnel_keys.specs.declared.owner.HeldDatapath.{HeldDatapath}
use Rattle.tunnel_keys.specs.declared.owner.HeldPort.{HeldPort}
use Rattle.tunnel_keys.specs.declared.owner.Identity.{Identity}
use Rattle.tunnel_keys.specs.declared.owner.PortKey.{PortKey}
use Rattle.world_core.specs.Packets.{IsNumberOf, IsPortNumber, IsSentAs, IsSwitchNumber}
use Rattle.world_core.proofs.SmallKeys.{are_small}

module _ (m : State) (valid : IsValid m.config.net) (have : HaveKeys m.config.net m.keys) where
  -- keys are live ones, since none is retired
  live_datapath : (h : HeldDatapath) → Among h (held_datapaths m.keys) → Among h (map held_datapath m.keys.datapaths)
  live_datapath h among = elim (among_append h (map held_datapath m.keys.datapaths) m.keys.retired_datapaths among) [
    | inl live ↦ live
    | inr retired ↦ absurd (among_none h (subst (λ l. Among h l) have.no_retired_datapaths retired))
  ]

  live_port : (h : HeldPort) → Among h (held_ports m.keys) → Among h (filter_map (held_port m.keys.datapaths) m.keys.ports)
  live_port h among = elim (among_append h (filter_map (held_port m.keys.datapaths) m.keys.ports) m.keys.retired_ports among) [
    | inl live ↦ live
    | inr retired ↦ absurd (among_none h (subst (λ l. Among h l) have.no_retired_ports retired))
  ]

  module _ (x : Crossing) (may : MayWait m x) where
    -- its datapath is a switch, since no router has its identity
    pub switch_number : IsSwitchNumber m (datapath_key m.keys x.datapath) x.datapath
    switch_number =
        let h = may.datapath_key.0 in
        let e = map_among held_datapath h m.keys.datapaths (live_datapath h may.datapath_key.1) in
        let a = e.0.0 in
        let k = e.0.1 in
        let has : at m.keys.datapaths a ≡ Some k = among_at a k m.keys.datapaths have.hold.datapaths_in_order e.1 in
        let name : a ≡ x.datapath.name = sym (ap (λ (d : HeldDatapath). d.owner.name) e.2) ∙ ap (λ (id : Identity). id.name) may.datapath_key.2 in
        let birth : k.birth ≡ x.datapath.birth = sym (ap (λ (d : HeldDatapath). d.owner.birth) e.2) ∙ ap (λ (id : Identity). id.birth) may.datapath_key.2 in
        elim (have.datapath_of a k has) [
          | inl there ↦
              let w = some_of (at m.config.net.switches a) there in
              let own = have.datapath_has a w.0 w.1 in (
                record {
                  live = k;
                  has = ap (λ n. at m.keys.datapaths n) (sym name) ∙ has;
                  number = sym (ap (λ (d : HeldDatapath). d.key) e.2) ∙ sym (datapath_key_is m.keys have.hold h x.datapath may.datapath_key.1 may.datapath_key.2);
                },
                (w.0, ap (λ n. at m.config.net.switches n) (sym name) ∙ w.1, sym own.2 ∙ ap (λ (d : DatapathKey). d.birth) (same_Some own.0 k (sym own.1 ∙ has)) ∙ birth),
              )
          | inr there ↦
              let r = some_of (at m.config.net.routers a) there in
              let own = have.router_has a r.0 r.1 in
              let named : r.0.name ≡ a = among_all (λ (f : Name × Router). f.1.name ≡ f.0) (a, r.0) m.config.net.routers valid.named.routers (at_among m.config.net.routers a r.0 r.1) in
              let born : r.0.birth ≡ k.birth = sym own.2 ∙ ap (λ (d : DatapathKey). d.birth) (same_Some own.0 k (sym own.1 ∙ has)) in
              absurd (may.no_router r.0 (ap (λ n. at m.config.net.routers n) (sym name) ∙ r.1) (λ i. record { name = (named ∙ name) i; birth = (born ∙ birth) i }))
        ]

    -- that switch is there
    switch_there : IsTrue (is_switch m.config.net x.datapath)
    switch_there =
        let w = switch_number.1 in
        ap (λ o. has_birth (option_map (λ (s : Switch). s.birth) o) x.datapath.birth) w.1 ∙ (Decides-eqb w.0.birth.0 x.datapath.birth.0).1 (λ i. (w.2 i).0)

    -- whoever has a key of it is one of its ports
    port_number : (id : Identity) (h : HeldPort) → Among h (held_ports m.keys) → h.owner ≡ id → h.datapath ≡ x.datapath → IsPortNumber m x.datapath.name (port_key m.keys id) id
    port_number id h among owner on =
        let e = filter_map_among (held_port m.keys.datapaths) h m.keys.ports (live_port h among) in
        let q = e.0.0 in
        let k = e.0.1 in
        let is = held_port_is m.keys.datapaths e.0 h e.2 in
        let has : at m.keys.ports q ≡ Some k = among_at q k m.keys.ports have.hold.ports_in_order e.1 in
        let datapath : k.datapath ≡ x.datapath.name = sym (ap (λ (p : HeldPort). p.datapath.name) is.2) ∙ ap (λ (d : Identity). d.name) on in
        let w = switch_number.1 in
        let there = on_switch m.config.net m.keys valid have q k has (is_some_of (at m.config.net.switches k.datapath) w.0 (ap (λ n. at m.config.net.switches n) datapath ∙ w.1)) in
        let port = some_of (at m.config.net.switch_ports q) there in
        let own = have.port_has q port.0 port.1 in
        let name : q ≡ id.name = sym (ap (λ (p : HeldPort). p.owner.name) is.2) ∙ ap (λ (d : Identity). d.name) owner in
        let birth : k.birth ≡ id.birth = sym (ap (λ (p : HeldPort). p.owner.birth) is.2) ∙ ap (λ (d : Identity). d.birth) owner in (
          record {
            live = k;
            has = ap (λ n. at m.keys.ports n) (sym name) ∙ has;
            on = datapath;
            number = sym (ap (λ (p : HeldPort). p.key) is.2) ∙ sym (port_key_is m.keys have.hold h id among owner);
          },
          (port.0, ap (λ n. at m.config.net.switch_ports n) (sym name) ∙ port.1, sym own.2 ∙ ap (λ (p : PortKey). p.birth) (same_Some own.0 k (sym own.1 ∙ has)) ∙ birth),
        )

    pub in_number : IsPortNumber m x.datapath.name (port_key m.keys x.in_port) x.in_port
    in_number = port_number x.in_port may.in_key.0 may.in_key.1 may.in_key.2 (may.in_live switch_there may.in_key.0 may.in_key.1 may.in_key.2)

    named_by : (aim : Aim) → HasAimKey m.keys aim → IsAimOnLive m x.datapath aim → IsNumberOf m x.datapath.name (aim_key m.keys aim) aim
    named_by (ToGroup g) key live = refl
    named_by (ToPort id) key live = port_number id key.0 key.1 key.2 (live switch_there key.0 key.1 key.2)

    pub aim_number : IsNumberOf m x.datapath.name (aim_key m.keys x.aim) x.aim
    aim_number = named_by x.aim may.aim_key may.aim_live

  -- the bytes of its frame spell its parts
  pub sent_spells : (to : Name) (bytes : List ℕ) (x : Crossing) → IsSentAs m to bytes x → Spells bytes (datapath_key m.keys x.datapath) (port_key m.keys x.in_port) (aim_key m.keys x.aim) (frame_of x.packet)
  sent_spells to bytes x f =
      let s = are_small m have x f.may in
      subst (λ bs. Spells bs (datapath_key m.keys x.datapath) (port_key m.keys x.in_port) (aim_key m.keys x.aim) (frame_of x.packet)) (sym f.spelled_so)
      (canon_spells (datapath_key m.keys x.datapath) (port_key m.keys x.in_port) (aim_key m.keys x.aim) (frame_of x.packet) s.datapath s.in_key s.aim)
