-- What `plan` makes, step by step, is what an edit does.
use Rattle.std.specs.Prelude.{◌≡◌, ◌≤◌, ◌<◌, ◌↔◌, not, List, [], ◌++◌, length, map}
use mathlib.Core.Path.{sym, ap, subst, ◌∙◌}
use Rattle.std.specs.List.{AllByRecursion, filter, filter_map}
use Rattle.std.specs.List.Sorted.{IsStrictlySortedBy}
use Rattle.ovn_base.specs.lists.Among.{Among}
use Rattle.ovn_base.specs.declared.name.Name.{Name}
use Rattle.ovn_base.specs.names.ByName.{put_all, in_order, IsByName}
use Rattle.tunnel_keys.specs.Owners.{is_listed, datapaths_in, ports_in}
use Rattle.tunnel_keys.specs.Order.{IsInOrder}
use Rattle.tunnel_keys.specs.Keys.{Keys, IsKeys, retire, ports_on, datapath_owner, port_owner, held_datapath, held_port, free_datapath_keys}
use Rattle.tunnel_keys.specs.Edits.{IsKeyEdit, IsAfter}
use Rattle.tunnel_keys.specs.Causes.{IsCause, HasKeys}
use Rattle.tunnel_keys.specs.Giving.{given_ports, HasEnough, IsDatapathFault, IsPortFault, IsFirstShort}
use Rattle.tunnel_keys.specs.declared.fault.KeyFault.{KeyFault}
use Rattle.tunnel_keys.specs.declared.fault.KeyFault.TheVariants.{NoDatapathKey, NoPortKey, Memory}
use Rattle.tunnel_keys.specs.declared.owner.DatapathKey.{DatapathKey}
use Rattle.tunnel_keys.specs.declared.owner.PortKey.{PortKey}
use Rattle.tunnel_keys.specs.declared.owner.HeldDatapath.{HeldDatapath}
use Rattle.tunnel_keys.specs.declared.owner.HeldPort.{HeldPort}
use Rattle.tunnel_keys.specs.declared.owner.KeyOwner.{KeyOwner}
use Rattle.ovn_base.proofs.ByNameLaws.{among_at}
use Rattle.tunnel_keys.proofs.Lists.{in_order_same}
use Rattle.tunnel_keys.proofs.PortLists.{not_on, kept_on, put_all_on}
use Rattle.tunnel_keys.proofs.Plans.{all_datapaths, new_ports, planned, HasRoom, between_sorted, between_ports_sorted, all_datapaths_sorted, port_not_new, new_port_owner, planned_gives, planned_least}
use Rattle.tunnel_keys.proofs.Invariant.{planned_hold, retired_datapaths_once, retired_ports_once}
use Rattle.tunnel_keys.proofs.KeyOrder.{held_datapath_cmp, held_port_cmp, datapaths_in_order, ports_in_order}
use Rattle.tunnel_keys.proofs.Faults.{lacks_datapaths, has_datapaths, first_lacks, has_keys}

-- the keys with other entries
abbrev pub with_entries : Keys → List (Name × DatapathKey) → List (Name × PortKey) → List HeldDatapath → List HeldPort → Keys
with_entries keys ds ps rd rp = record keys { datapaths = ds; ports = ps; retired_datapaths = rd; retired_ports = rp }

-- the removed owners' keys were retired
pub record IsRetired (before : Keys) (removed : List KeyOwner) (st : List (Name × DatapathKey)) (po : List (Name × PortKey)) (rd : List HeldDatapath) (rp : List HeldPort) : Type 0 where
  pub staying : st ≡ in_order (filter (λ e. not (is_listed removed (datapath_owner e))) before.datapaths)
  pub staying_ports : po ≡ in_order (filter (λ e. not (is_listed removed (port_owner e))) before.ports)
  pub retired : rd ≡ before.retired_datapaths ++ map held_datapath (filter (λ e. is_listed removed (datapath_owner e)) before.datapaths)
  pub retired_ports : rp ≡ before.retired_ports ++ filter_map (held_port before.datapaths) (filter (λ e. is_listed removed (port_owner e)) before.ports)

module _ (before : Keys) (added removed : List KeyOwner) (keys : IsKeys before) (edit : IsKeyEdit before added removed)
    (st : List (Name × DatapathKey)) (po : List (Name × PortKey)) (rd : List HeldDatapath) (rp : List HeldPort) (r : IsRetired before removed st po rd rp) where
  between_is : with_entries before st po rd rp ≡ retire before removed
  between_is =
      let a = r.staying ∙ in_order_same (filter (λ e. not (is_listed removed (datapath_owner e))) before.datapaths) (between_sorted before added removed keys edit) in
      let b = r.staying_ports ∙ in_order_same (filter (λ e. not (is_listed removed (port_owner e))) before.ports) (between_ports_sorted before added removed keys edit) in
      λ i. with_entries before (a i) (b i) (r.retired i) (r.retired_ports i)

  pub datapath_cause : (e : KeyFault) → IsDatapathFault (free_datapath_keys (with_entries before st po rd rp)) (in_order (datapaths_in added)) e → IsCause before added removed e
  datapath_cause NoDatapathKey h = lacks_datapaths before added removed keys edit (subst (λ k. length (free_datapath_keys k) < length (in_order (datapaths_in added))) between_is h)
  datapath_cause (NoPortKey d) h = absurd h
  datapath_cause Memory h = tt

  module _ (few : length (in_order (datapaths_in added)) ≤ length (free_datapath_keys (with_entries before st po rd rp))) (ds : List (Name × DatapathKey)) (made : ds ≡ all_datapaths (with_entries before st po rd rp) added) where
    enough : length (in_order (datapaths_in added)) ≤ length (free_datapath_keys (retire before removed))
    enough = subst (λ k. length (in_order (datapaths_in added)) ≤ length (free_datapath_keys k)) between_is few

    datapaths_are : ds ≡ all_datapaths (retire before removed) added
    datapaths_are = made ∙ ap (λ k. all_datapaths k added) between_is

    pub port_cause : (e : KeyFault) → IsPortFault before.port_range po rp added ds e → IsCause before added removed e
    port_cause NoDatapathKey h = absurd h
    port_cause (NoPortKey d) h = (
      has_datapaths before added removed keys edit enough,
      first_lacks before added removed keys edit enough d (subst (λ (k : Keys). IsFirstShort k.port_range k.ports k.retired_ports added (all_datapaths (retire before removed) added) d) between_is (subst (λ l. IsFirstShort before.port_range po rp added l d) datapaths_are h)),
    )
    port_cause Memory h = tt

    pub datapaths_sorted : IsByName ds
    datapaths_sorted = subst IsByName (sym datapaths_are) (all_datapaths_sorted before added removed keys edit)

    module _ (all : AllByRecursion (HasEnough before.port_range po rp added) ds) (ps : List (Name × PortKey)) (last : ps ≡ put_all po (given_ports before.port_range po rp added ds)) where
      room : HasRoom (retire before removed) added
      room = record {
        for_datapaths = enough;
        for_ports = subst (λ (k : Keys). AllByRecursion (HasEnough k.port_range k.ports k.retired_ports added) (all_datapaths (retire before removed) added)) between_is (subst (λ l. AllByRecursion (HasEnough before.port_range po rp added) l) datapaths_are all);
      }

      ports_are : ps ≡ put_all (retire before removed).ports (new_ports (retire before removed) added)
      ports_are =
          last
          ∙ ap (λ l. put_all po (given_ports before.port_range po rp added l)) datapaths_are
          ∙ ap (λ (k : Keys). put_all k.ports (given_ports k.port_range k.ports k.retired_ports added (all_datapaths (retire before removed) added))) between_is

      -- where no port comes or goes the ports stay as they were
      pub ports_kept : (d : Name) → ports_in d added ≡ [] → ports_in d removed ≡ [] → ports_on ps d ≡ ports_on before.ports d
      ports_kept d none gone =
          let sorted = between_ports_sorted before added removed keys edit in
          let new = new_ports (retire before removed) added in
          let kept = put_all_on d new (retire before removed).ports
          (λ g m. not_on added d none g (new_port_owner before added removed keys edit room g.0 g.1 m))
          (λ f m own g n same. port_not_new before added removed keys edit room f.0 f.1 (among_at f.0 f.1 (retire before removed).ports sorted m) g n (sym same)) sorted in
          ap (λ es. ports_on es d) ports_are ∙ ap (λ es. map (λ (e : Name × PortKey). (e.0, e.1.key)) es) (kept ∙ kept_on removed d gone before.ports)

      module _ (od : List HeldDatapath) (op : List HeldPort) (od_sorted : IsStrictlySortedBy held_datapath_cmp od) (op_sorted : IsStrictlySortedBy held_port_cmp op)
          (od_same : (h : HeldDatapath) → Among h od ↔ Among h rd) (op_same : (h : HeldPort) → Among h op ↔ Among h rp) where
        after_is : with_entries before ds ps od op ≡ record (planned (retire before removed) added) { retired_datapaths = od; retired_ports = op }
        after_is = λ i. with_entries before (datapaths_are i) (ports_are i) od op

        in_order_datapaths : IsInOrder (λ (h : HeldDatapath). h.owner) (retire before removed).retired_datapaths od
        in_order_datapaths = datapaths_in_order (retire before removed).retired_datapaths od (retired_datapaths_once before added removed keys edit) od_sorted (λ h. subst (λ l. Among h od ↔ Among h l) r.retired (od_same h))

        in_order_ports : IsInOrder (λ (h : HeldPort). h.owner) (retire before removed).retired_ports op
        in_order_ports = ports_in_order (retire before removed).retired_ports op (retired_ports_once before added removed keys edit room) op_sorted (λ h. subst (λ l. Among h op ↔ Among h l) r.retired_ports (op_same h))

        pub made_after : IsAfter before added removed (with_entries before ds ps od op)
        made_after = subst (IsAfter before added removed) (sym after_is) (record {
          hold = planned_hold before added removed keys edit room od op in_order_datapaths in_order_ports;
          gives = planned_gives before added removed keys edit room od op in_order_datapaths in_order_ports;
          least = planned_least before added removed keys edit room od op;
        })

      pub made_has : HasKeys before added removed
      made_has = has_keys before added removed keys edit room
