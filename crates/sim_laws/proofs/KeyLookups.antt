-- The key of an identity is the one that it holds.
use Rattle.std.specs.Prelude.{◌≡◌, Bool, true, false, cond, List, [], ◌∷◌, Some, refl}
use Rattle.std.specs.List.{find}
use Rattle.std.specs.Option.{option_map, unwrap_or}
use Rattle.std.proofs.Common.{sym, ap, ◌∙◌, subst}
use Rattle.ovn_base.specs.lists.Among.{Among, here, there}
use Rattle.tunnel_keys.specs.Keys.{Keys, IsKeys, held_datapaths, held_ports}
use Rattle.tunnel_keys.specs.Same.{same_identity, identity_exact, identity_own}
use Rattle.tunnel_keys.specs.declared.owner.HeldDatapath.{HeldDatapath}
use Rattle.tunnel_keys.specs.declared.owner.HeldPort.{HeldPort}
use Rattle.tunnel_keys.specs.declared.owner.Identity.{Identity}
use Rattle.sim_laws.specs.Effects.{datapath_key, port_key}
use Rattle.std.proofs.lemmas.Option.{same_Some}
use Rattle.ovn_base.specs.names.ByName.{at}
use Rattle.ovn_base.specs.declared.name.Name.{Name}
use Rattle.nb_records.specs.declared.switch.Switch.{Switch}
use Rattle.nb_records.specs.declared.switch.SwitchPort.{SwitchPort}
use Rattle.tunnel_keys.specs.declared.owner.DatapathKey.{DatapathKey}
use Rattle.tunnel_keys.proofs.HeldKeys.{on_datapath_key}
use Rattle.physical_flows.specs.RecordKeys.{HaveKeys}
use Rattle.sim_laws.specs.Sound.{IsOnLive}
use Rattle.net_model.specs.State.{State}
use Rattle.physical_flows.proofs.KeyLaws.{datapath_under, port_held}

-- what a search finds that has something to find
record Finds {X : Type 0} (test : X → Bool) (xs : List X) : Type 0 where
  first : X
  found : find test xs ≡ Some first
  among : Among first xs
  passes : test first ≡ true

module _ {X : Type 0} (test : X → Bool) where
  finds : (xs : List X) (x : X) → Among x xs → test x ≡ true → Finds test xs
  finds [] x m e = elim m [ ]
  finds (y ∷ ys) x here e = record { first = y; found = ap (λ (w : Bool). cond w (Some y) (find test ys)) e; among = here; passes = e }
  finds (y ∷ ys) x (there m) e = by (test y) refl (finds ys x m e)
    where
      by : (w : Bool) → test y ≡ w → Finds test ys → Finds test (y ∷ ys)
      by true is r = record { first = y; found = ap (λ (w : Bool). cond w (Some y) (find test ys)) is; among = here; passes = is }
      by false is r = record { first = r.first; found = ap (λ (w : Bool). cond w (Some y) (find test ys)) is ∙ r.found; among = there r.among; passes = r.passes }

module _ (keys : Keys) (hold : IsKeys keys) where
  pub datapath_key_is : (h : HeldDatapath) (id : Identity) → Among h (held_datapaths keys) → h.owner ≡ id → datapath_key keys id ≡ h.key
  datapath_key_is h id m owns =
      let test : HeldDatapath → Bool = λ (g : HeldDatapath). same_identity g.owner id in
      let r = finds test (held_datapaths keys) h m (subst (λ o. same_identity o id ≡ true) (sym owns) (identity_own id)) in
      let same : r.first ≡ h = hold.datapath_once r.first h r.among m (identity_exact r.first.owner id r.passes ∙ sym owns) in
      ap (λ o. unwrap_or (option_map (λ (g : HeldDatapath). g.key) o) 0) r.found ∙ ap (λ (g : HeldDatapath). g.key) same

  pub port_key_is : (h : HeldPort) (id : Identity) → Among h (held_ports keys) → h.owner ≡ id → port_key keys id ≡ h.key
  port_key_is h id m owns =
      let test : HeldPort → Bool = λ (g : HeldPort). same_identity g.owner id in
      let r = finds test (held_ports keys) h m (subst (λ o. same_identity o id ≡ true) (sym owns) (identity_own id)) in
      let same : r.first ≡ h = hold.port_once r.first h r.among m (identity_exact r.first.owner id r.passes ∙ sym owns) in
      ap (λ o. unwrap_or (option_map (λ (g : HeldPort). g.key) o) 0) r.found ∙ ap (λ (g : HeldPort). g.key) same

-- ---- who has keys

module _ (m : State) (have : HaveKeys m.config.net m.keys) where
  -- a port of a switch has a key of that switch, and no other
  pub record HasKeyOn (datapath port : Identity) : Type 0 where
    pub held : HeldPort
    pub among : Among held (held_ports m.keys)
    pub owner : held.owner ≡ port
    pub on : held.datapath ≡ datapath

  pub key_on : (q a : Name) (port : SwitchPort) (switch : Switch) → at m.config.net.switch_ports q ≡ Some port → port.switch ≡ a → at m.config.net.switches a ≡ Some switch
      → HasKeyOn (record { name = a; birth = switch.birth }) (record { name = q; birth = port.birth })
  key_on q a port switch is_there of on =
      let k = have.port_has q port is_there in
      let d = datapath_under m.config.net m.keys have q k.0 k.1 in
      let s = have.datapath_has a switch on in
      let name : k.0.datapath ≡ a = k.3 ∙ of in
      let same : d.0 ≡ s.0 = same_Some d.0 s.0 (sym d.1 ∙ ap (λ n. at m.keys.datapaths n) name ∙ s.1) in
      let birth = ap (λ (x : DatapathKey). x.birth) same ∙ s.2 in
      record {
        held = on_datapath_key q k.0 d.0;
        among = port_held m.config.net m.keys have q k.0 d.0 k.1 d.1;
        owner = λ i. record { name = q; birth = k.2 i };
        on = λ i. record { name = name i; birth = birth i };
      }

  pub on_live : (datapath port : Identity) → HasKeyOn datapath port → IsOnLive m datapath port
  on_live datapath port k live h among owner = ap (λ (x : HeldPort). x.datapath) (have.hold.port_once h k.held among k.among (owner ∙ sym k.owner)) ∙ k.on
