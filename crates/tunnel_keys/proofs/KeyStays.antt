-- An edit loses no key that is held.
use Rattle.std.specs.Prelude.{◌≡◌, ◌⊎◌, Bool, true, false, not, List, map, Some, refl}
use mathlib.Core.Path.{sym, ap, subst, ◌∙◌}
use mathlib.Core.Logic.{inl, inr}
use Rattle.std.specs.List.{filter, filter_map}
use Rattle.std.proofs.lemmas.Option.{same_Some}
use Rattle.ovn_base.specs.lists.Among.{Among}
use Rattle.ovn_base.proofs.AmongLaws.{among_append, among_left, among_right, among_filter, among_filter_map, among_map, filter_map_among, map_among}
use Rattle.ovn_base.specs.declared.name.Name.{Name}
use Rattle.ovn_base.specs.names.ByName.{at}
use Rattle.ovn_base.proofs.ByNameLaws.{at_among, among_at}
use Rattle.tunnel_keys.specs.Owners.{is_listed}
use Rattle.tunnel_keys.specs.Keys.{Keys, IsKeys, retire, datapath_owner, port_owner, held_datapath, held_datapaths, held_port, held_ports}
use Rattle.tunnel_keys.specs.Edits.{GivesKeys, IsMoved}
use Rattle.tunnel_keys.specs.declared.owner.DatapathKey.{DatapathKey}
use Rattle.tunnel_keys.specs.declared.owner.PortKey.{PortKey}
use Rattle.tunnel_keys.specs.declared.owner.HeldDatapath.{HeldDatapath}
use Rattle.tunnel_keys.specs.declared.owner.HeldPort.{HeldPort}
use Rattle.tunnel_keys.specs.declared.owner.KeyOwner.{KeyOwner}
use Rattle.tunnel_keys.specs.declared.owner.KeyOwner.TheVariants.{Datapath}
use Rattle.tunnel_keys.proofs.HeldKeys.{found, held_port_is, is_held_port, on_datapath_key}
use Rattle.tunnel_keys.proofs.Lists.{at_filter, filter_at}
use Rattle.tunnel_keys.proofs.OwnerLaws.{listed_among, unlisted_not}

module _ (keys : Keys) (added removed : List KeyOwner) (after : Keys) (hold : IsKeys keys) (gives : GivesKeys keys added removed after) where
  -- ---- datapaths

  retired_datapath : (a : HeldDatapath) → Among a (retire keys removed).retired_datapaths → Among a (held_datapaths after)
  retired_datapath a m = among_right a (map held_datapath after.datapaths) after.retired_datapaths ((gives.retired_datapaths.same a).1 m)

  stays_datapath : (e : Name × DatapathKey) → Among e keys.datapaths → Among (held_datapath e) (held_datapaths after)
  stays_datapath e m = by (is_listed removed (datapath_owner e)) refl
    where
      by : (b : Bool) → is_listed removed (datapath_owner e) ≡ b → Among (held_datapath e) (held_datapaths after)
      by true is =
          retired_datapath (held_datapath e)
          (among_right (held_datapath e) keys.retired_datapaths (map held_datapath (filter (λ e. is_listed removed (datapath_owner e)) keys.datapaths))
          (among_map held_datapath e (filter (λ e. is_listed removed (datapath_owner e)) keys.datapaths) (among_filter (λ e. is_listed removed (datapath_owner e)) e keys.datapaths m is)))
      by false is =
          let kept : at after.datapaths e.0 ≡ Some e.1 =
          gives.datapath_kept e.0 e.1 (at_filter (λ e. not (is_listed removed (datapath_owner e))) keys.datapaths hold.datapaths_in_order e.0 e.1 (among_at e.0 e.1 keys.datapaths hold.datapaths_in_order m) (ap not is)) in
          among_left (held_datapath e) (map held_datapath after.datapaths) after.retired_datapaths (among_map held_datapath e after.datapaths (at_among after.datapaths e.0 e.1 kept))

  pub datapaths_stay : (a : HeldDatapath) → Among a (held_datapaths keys) → Among a (held_datapaths after)
  datapaths_stay a m = elim (among_append a (map held_datapath keys.datapaths) keys.retired_datapaths m) [
    | inl live ↦ let e = map_among held_datapath a keys.datapaths live in subst (λ h. Among h (held_datapaths after)) (sym e.2) (stays_datapath e.0 e.1)
    | inr gone ↦ retired_datapath a (among_left a keys.retired_datapaths (map held_datapath (filter (λ e. is_listed removed (datapath_owner e)) keys.datapaths)) gone)
  ]

  -- ---- ports

  module _ (also : IsKeys after) where
    retired_port : (a : HeldPort) → Among a (retire keys removed).retired_ports → Among a (held_ports after)
    retired_port a m = among_right a (filter_map (held_port after.datapaths) after.ports) after.retired_ports ((gives.retired_ports.same a).1 m)

    live_port : (q : Name) (p : PortKey) (d : DatapathKey) → at after.ports q ≡ Some p → at after.datapaths p.datapath ≡ Some d → Among (on_datapath_key q p d) (held_ports after)
    live_port q p d has under =
        among_left (on_datapath_key q p d) (filter_map (held_port after.datapaths) after.ports) after.retired_ports
        (among_filter_map (held_port after.datapaths) (q, p) (on_datapath_key q p d) after.ports (at_among after.ports q p has) (is_held_port after.datapaths q p d under))

    module _ (e : Name × PortKey) (m : Among e keys.ports) (d : DatapathKey) (under : at keys.datapaths e.1.datapath ≡ Some d) where
      -- the port is removed
      goes : is_listed removed (port_owner e) ≡ true → Among (on_datapath_key e.0 e.1 d) (held_ports after)
      goes is =
          retired_port (on_datapath_key e.0 e.1 d)
          (among_right (on_datapath_key e.0 e.1 d) keys.retired_ports (filter_map (held_port keys.datapaths) (filter (λ e. is_listed removed (port_owner e)) keys.ports))
          (among_filter_map (held_port keys.datapaths) e (on_datapath_key e.0 e.1 d) (filter (λ e. is_listed removed (port_owner e)) keys.ports) (among_filter (λ e. is_listed removed (port_owner e)) e keys.ports m is) (is_held_port keys.datapaths e.0 e.1 d under)))

      -- it stays, on its datapath or on another one of that name
      stays : is_listed removed (port_owner e) ≡ false → Among (on_datapath_key e.0 e.1 d) (held_ports after) ⊎ IsMoved keys added removed after (on_datapath_key e.0 e.1 d)
      stays is = by (is_listed removed (Datapath e.1.datapath d.birth)) refl
        where
          kept : at after.ports e.0 ≡ Some e.1
          kept = gives.port_kept e.0 e.1 (at_filter (λ e. not (is_listed removed (port_owner e))) keys.ports hold.ports_in_order e.0 e.1 (among_at e.0 e.1 keys.ports hold.ports_in_order m) (ap not is))

          there : (b : DatapathKey) × (at after.datapaths e.1.datapath ≡ Some b)
          there = found (at after.datapaths e.1.datapath) (also.on_datapath e (at_among after.ports e.0 e.1 kept))

          by : (t : Bool) → is_listed removed (Datapath e.1.datapath d.birth) ≡ t → Among (on_datapath_key e.0 e.1 d) (held_ports after) ⊎ IsMoved keys added removed after (on_datapath_key e.0 e.1 d)
          by false on =
              inl (live_port e.0 e.1 d kept
              (gives.datapath_kept e.1.datapath d (at_filter (λ e. not (is_listed removed (datapath_owner e))) keys.datapaths hold.datapaths_in_order e.1.datapath d under (ap not on))))
          by true gone = elim (gives.datapath_cases e.1.datapath there.0 there.1) [
            | inl old ↦
                let was = filter_at (λ e. not (is_listed removed (datapath_owner e))) keys.datapaths hold.datapaths_in_order e.1.datapath there.0 old in
                let same : there.0 ≡ d = same_Some there.0 d (sym was.0 ∙ under) in
                absurd (unlisted_not removed (Datapath e.1.datapath there.0.birth) was.1 (subst (λ (x : DatapathKey). Among (Datapath e.1.datapath x.birth) removed) (sym same) (listed_among removed (Datapath e.1.datapath d.birth) gone)))
            | inr new ↦ inr (record {
              live = (e.1.key, among_at e.0 e.1 keys.ports hold.ports_in_order m);
              stays = unlisted_not removed (port_owner e) (ap not is);
              gone = listed_among removed (Datapath e.1.datapath d.birth) gone;
              birth = there.0.birth;
              comes = new;
              held = live_port e.0 e.1 there.0 kept there.1;
            })
          ]

    pub ports_stay : (a : HeldPort) → Among a (held_ports keys) → Among a (held_ports after) ⊎ IsMoved keys added removed after a
    ports_stay a m = elim (among_append a (filter_map (held_port keys.datapaths) keys.ports) keys.retired_ports m) [
      | inl live ↦
          let e = filter_map_among (held_port keys.datapaths) a keys.ports live in
          let is = held_port_is keys.datapaths e.0 a e.2 in
          subst (λ h. Among h (held_ports after) ⊎ IsMoved keys added removed after h) (sym is.2) (by e.0 e.1 is.0 is.1 (is_listed removed (port_owner e.0)) refl)
      | inr gone ↦ inl (retired_port a (among_left a keys.retired_ports (filter_map (held_port keys.datapaths) (filter (λ e. is_listed removed (port_owner e)) keys.ports)) gone))
    ]
      where
        by : (e : Name × PortKey) (m : Among e keys.ports) (d : DatapathKey) (under : at keys.datapaths e.1.datapath ≡ Some d) (b : Bool) → is_listed removed (port_owner e) ≡ b
            → Among (on_datapath_key e.0 e.1 d) (held_ports after) ⊎ IsMoved keys added removed after (on_datapath_key e.0 e.1 d)
        by e m d under true is = inl (goes e m d under is)
        by e m d under false is = stays e m d under is
