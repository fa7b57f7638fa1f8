-- The births of the owners of keys after an edit.
use Rattle.std.specs.Prelude.{◌≡◌, ◌≢◌, ◌≤◌, ◌<◌, ℕ, List, map, not, Some}
use mathlib.Core.Path.{sym, ap, subst}
use mathlib.Core.Logic.{inl, inr}
use native.Mathlib.Omega.{arith}
use Rattle.std.specs.List.{filter, filter_map}
use Rattle.ovn_base.specs.lists.Among.{Among}
use Rattle.ovn_base.specs.declared.address.Birth.{Birth}
use Rattle.ovn_base.specs.declared.name.Name.{Name}
use Rattle.ovn_base.specs.names.ByName.{at}
use Rattle.ovn_base.proofs.AmongLaws.{among_append, among_left, among_right, among_filter_map, among_map, filter_among, filter_map_among, map_among}
use Rattle.ovn_base.proofs.ByNameLaws.{at_among, among_at}
use Rattle.tunnel_keys.specs.Births.{AreKeysBorn}
use Rattle.tunnel_keys.specs.Edits.{GivesKeys, IsNew}
use Rattle.tunnel_keys.specs.Keys.{Keys, IsKeys, datapath_owner, port_owner, held_datapath, held_datapaths, held_port, held_ports, settled}
use Rattle.tunnel_keys.specs.Owners.{birth_in, is_listed}
use Rattle.tunnel_keys.specs.declared.owner.DatapathKey.{DatapathKey}
use Rattle.tunnel_keys.specs.declared.owner.HeldDatapath.{HeldDatapath}
use Rattle.tunnel_keys.specs.declared.owner.HeldPort.{HeldPort}
use Rattle.tunnel_keys.specs.declared.owner.Identity.{Identity}
use Rattle.tunnel_keys.specs.declared.owner.KeyOwner.{KeyOwner}
use Rattle.tunnel_keys.specs.declared.owner.KeyOwner.TheVariants.{Datapath, Port}
use Rattle.tunnel_keys.specs.declared.owner.PortKey.{PortKey}
use Rattle.tunnel_keys.proofs.Invariant.{settled_datapath, settled_port}
use Rattle.tunnel_keys.proofs.HeldKeys.{held_port_is, live_owner_held}
use Rattle.tunnel_keys.proofs.Lists.{filter_at}

-- ---- the same keys later, and settled ones

pub born_later : (keys : Keys) (last more : ℕ) → last ≤ more → AreKeysBorn keys last → AreKeysBorn keys more
born_later keys last more later born = record {
  datapaths = λ a held. let early = born.datapaths a held in omega (arith, early, later);
  ports = λ a held. let early = born.ports a held in omega (arith, early, later);
  port_datapaths = λ a held. let early = born.port_datapaths a held in omega (arith, early, later);
}

pub settled_born : (keys : Keys) (last : ℕ) → AreKeysBorn keys last → AreKeysBorn (settled keys) last
settled_born keys last born = record {
  datapaths = λ a held. born.datapaths a (settled_datapath keys a held);
  ports = λ a held. born.ports a (settled_port keys a held);
  port_datapaths = λ a held. born.port_datapaths a (settled_port keys a held);
}

-- ---- who is born later is new

module _ (keys : Keys) (last : ℕ) (born : AreKeysBorn keys last) (birth : Birth) (later : last < birth.0) where
  younger : (i : Identity) (name : Name) → i.birth.0 ≤ last → i ≢ record { name = name; birth = birth }
  younger i name early same = let late : i.birth.0 ≡ birth.0 = ap (λ (j : Identity). j.birth.0) same in absurd (omega (arith, early, late, later))

  pub datapath_new : (name : Name) → IsNew keys (Datapath name birth)
  datapath_new name a held same = younger a.owner name (born.datapaths a held) same

  pub datapath_bare : (name : Name) (a : HeldPort) → Among a keys.retired_ports → a.datapath ≢ record { name = name; birth = birth }
  datapath_bare name a retired same = younger a.datapath name (born.port_datapaths a (among_right a (filter_map (held_port keys.datapaths) keys.ports) keys.retired_ports retired)) same

  pub port_new : (datapath name : Name) → IsNew keys (Port datapath name birth)
  port_new datapath name a held same = younger a.owner name (born.ports a held) same

-- ---- after an edit

module _ (keys : Keys) (added removed : List KeyOwner) (after : Keys) (last : ℕ) (hold : IsKeys keys) (also : IsKeys after) (gives : GivesKeys keys added removed after)
    (born : AreKeysBorn keys last) (in_time : (owner : KeyOwner) → Among owner added → (birth_in owner).0 ≤ last) where
  -- ---- datapaths

  live_held : (e : Name × DatapathKey) → Among e keys.datapaths → Among (held_datapath e) (held_datapaths keys)
  live_held e m = among_left (held_datapath e) (map held_datapath keys.datapaths) keys.retired_datapaths (among_map held_datapath e keys.datapaths m)

  live_datapath : (name : Name) (d : DatapathKey) → at after.datapaths name ≡ Some d → d.birth.0 ≤ last
  live_datapath name d has = elim (gives.datapath_cases name d has) [
    | inl old ↦
        let was = filter_at (λ e. not (is_listed removed (datapath_owner e))) keys.datapaths hold.datapaths_in_order name d old in
        born.datapaths (held_datapath (name, d)) (live_held (name, d) (at_among keys.datapaths name d was.0))
    | inr new ↦ in_time (Datapath name d.birth) new
  ]

  retired_datapath : (a : HeldDatapath) → Among a after.retired_datapaths → Among a (held_datapaths keys)
  retired_datapath a m = elim (among_append a keys.retired_datapaths (map held_datapath (filter (λ e. is_listed removed (datapath_owner e)) keys.datapaths)) ((gives.retired_datapaths.same a).0 m)) [
    | inl old ↦ among_right a (map held_datapath keys.datapaths) keys.retired_datapaths old
    | inr goes ↦
        let e = map_among held_datapath a (filter (λ e. is_listed removed (datapath_owner e)) keys.datapaths) goes in
        subst (λ h. Among h (held_datapaths keys)) (sym e.2) (live_held e.0 (filter_among (λ e. is_listed removed (datapath_owner e)) e.0 keys.datapaths e.1).0)
  ]

  datapath_born : (a : HeldDatapath) → Among a (held_datapaths after) → a.owner.birth.0 ≤ last
  datapath_born a held = elim (among_append a (map held_datapath after.datapaths) after.retired_datapaths held) [
    | inl live ↦
        let e = map_among held_datapath a after.datapaths live in
        subst (λ (h : HeldDatapath). h.owner.birth.0 ≤ last) (sym e.2) (live_datapath e.0.0 e.0.1 (among_at e.0.0 e.0.1 after.datapaths also.datapaths_in_order e.1))
    | inr retired ↦ born.datapaths a (retired_datapath a retired)
  ]

  -- ---- ports

  live_port : (name : Name) (p : PortKey) → at after.ports name ≡ Some p → p.birth.0 ≤ last
  live_port name p has = elim (gives.port_cases name p has) [
    | inl old ↦
        let was = filter_at (λ e. not (is_listed removed (port_owner e))) keys.ports hold.ports_in_order name p old in
        let held = live_owner_held keys hold name p (at_among keys.ports name p was.0) in
        subst (λ (i : Identity). i.birth.0 ≤ last) held.2 (born.ports held.0 held.1)
    | inr new ↦ in_time (Port p.datapath name p.birth) new
  ]

  retired_port : (a : HeldPort) → Among a after.retired_ports → Among a (held_ports keys)
  retired_port a m = elim (among_append a keys.retired_ports (filter_map (held_port keys.datapaths) (filter (λ e. is_listed removed (port_owner e)) keys.ports)) ((gives.retired_ports.same a).0 m)) [
    | inl old ↦ among_right a (filter_map (held_port keys.datapaths) keys.ports) keys.retired_ports old
    | inr goes ↦
        let e = filter_map_among (held_port keys.datapaths) a (filter (λ e. is_listed removed (port_owner e)) keys.ports) goes in
        among_left a (filter_map (held_port keys.datapaths) keys.ports) keys.retired_ports
        (among_filter_map (held_port keys.datapaths) e.0 a keys.ports (filter_among (λ e. is_listed removed (port_owner e)) e.0 keys.ports e.1).0 e.2)
  ]

  port_born : (a : HeldPort) → Among a (held_ports after) → (a.owner.birth.0 ≤ last) × (a.datapath.birth.0 ≤ last)
  port_born a held = elim (among_append a (filter_map (held_port after.datapaths) after.ports) after.retired_ports held) [
    | inl live ↦
        let e = filter_map_among (held_port after.datapaths) a after.ports live in
        let is = held_port_is after.datapaths e.0 a e.2 in
        subst (λ (h : HeldPort). (h.owner.birth.0 ≤ last) × (h.datapath.birth.0 ≤ last)) (sym is.2)
        (live_port e.0.0 e.0.1 (among_at e.0.0 e.0.1 after.ports also.ports_in_order e.1), live_datapath e.0.1.datapath is.0 is.1)
    | inr retired ↦ let was = retired_port a retired in (born.ports a was, born.port_datapaths a was)
  ]

  pub keys_born : AreKeysBorn after last
  keys_born = record { datapaths = datapath_born; ports = λ a held. (port_born a held).0; port_datapaths = λ a held. (port_born a held).1 }
