-- What always holds of the keys holds after an edit, too.
use Rattle.std.specs.Prelude.{◌≡◌, ◌≢◌, ◌≤◌, ◌⊎◌, ℕ, Bool, true, false, not, List, [], ◌++◌, map, Some, IsSome, refl}
use mathlib.Core.Path.{sym, ap, subst, ◌∙◌}
use mathlib.Core.Logic.{inl, inr}
use Rattle.std.specs.List.{filter, filter_map}
use Rattle.std.specs.List.Sorted.{IsStrictlySortedBy}
use Rattle.std.proofs.lemmas.Option.{same_Some}
use Rattle.ovn_base.specs.lists.Among.{Among}
use Rattle.ovn_base.proofs.AmongLaws.{among_none, among_left, among_right, among_append, among_map, map_among, among_filter, filter_among, among_filter_map, filter_map_among}
use Rattle.ovn_base.specs.declared.name.Name.{Name}
use Rattle.ovn_base.specs.names.ByName.{at, IsByName}
use Rattle.ovn_base.specs.names.SameName.{same_name}
use Rattle.tunnel_keys.specs.Same.{same_identity, name_own, identity_own}
use Rattle.tunnel_keys.specs.Owners.{is_listed, ports_in}
use Rattle.ovn_base.specs.names.ByName.{in_order}
use Rattle.tunnel_keys.specs.Order.{IsByIdentity, IsInOrder}
use Rattle.tunnel_keys.specs.Keys.{Keys, IsKeys, no_keys, settled, retire, datapath_owner, port_owner, held_datapath, held_port, held_datapaths, held_ports, free_datapath_keys, free_port_keys, taken_datapaths, taken_ports, IsFreeIn}
use Rattle.tunnel_keys.specs.Edits.{IsKeyEdit}
use Rattle.tunnel_keys.specs.Giving.{new_port_key, new_datapath_key}
use Rattle.tunnel_keys.specs.Owners.{datapaths_in}
use Rattle.tunnel_keys.specs.declared.owner.Identity.{Identity}
use Rattle.tunnel_keys.specs.declared.owner.DatapathKey.{DatapathKey}
use Rattle.tunnel_keys.specs.declared.owner.PortKey.{PortKey}
use Rattle.tunnel_keys.specs.declared.owner.HeldDatapath.{HeldDatapath}
use Rattle.tunnel_keys.specs.declared.owner.HeldPort.{HeldPort}
use Rattle.tunnel_keys.specs.declared.owner.KeyOwner.{KeyOwner}
use Rattle.tunnel_keys.specs.declared.owner.KeyOwner.TheVariants.{Datapath, Port}
use Rattle.ovn_base.proofs.ByNameLaws.{at_among, among_at}
use Rattle.tunnel_keys.proofs.HeldKeys.{found, is_found, on_datapath_key, held_port_is, is_held_port}
use Rattle.tunnel_keys.proofs.Lists.{put_all_sorted}
use Rattle.tunnel_keys.proofs.FreeKeys.{free_is_free, free_once, with_keys_apart}
use Rattle.tunnel_keys.proofs.OwnerLaws.{listed_among, among_listed}
use Rattle.tunnel_keys.proofs.Plans.{new_datapaths, new_datapaths_sorted, all_datapaths, new_ports_on, new_ports, planned, HasRoom, one_entry, stays_datapath, stays_port, between_ports_sorted, all_datapaths_sorted, new_datapath_who, datapath_cases, found_datapath, new_port_who, port_cases, new_port_on, new_port_owner}

-- in one of two lists, the second of which has other members
among_either : {X : Type 0} (a : X) (xs ys zs : List X) → (Among a ys → Among a zs) → Among a (xs ++ ys) → Among a (xs ++ zs)
among_either a xs ys zs f m = elim (among_append a xs ys m) [ inl p ↦ among_left a xs zs p | inr q ↦ among_right a xs zs (f q) ]

none_ordered : (X : Type 0) (owner : X → Identity) → IsByIdentity owner []
unfolding IsStrictlySortedBy
none_ordered X owner = tt

-- ---- no key, and settled keys

none_by_name : (X : Type 0) → IsByName {X = X} []
unfolding IsStrictlySortedBy
none_by_name X = tt

pub none_hold : (datapath_range port_range : ℕ) → (1 ≤ datapath_range) × (datapath_range ≤ 16777215) → (1 ≤ port_range) × (port_range ≤ 32767) → IsKeys (no_keys datapath_range port_range)
none_hold datapath_range port_range d p = record {
  datapath_ranges = d;
  port_ranges = p;
  datapaths_in_order = none_by_name DatapathKey;
  ports_in_order = none_by_name PortKey;
  retired_datapaths_in_order = none_ordered HeldDatapath (λ h. h.owner);
  retired_ports_in_order = none_ordered HeldPort (λ h. h.owner);
  on_datapath = λ e m. absurd (among_none e m);
  datapath_keys = λ a m. absurd (among_none a m);
  port_keys = λ a m. absurd (among_none a m);
  datapaths_apart = λ a b m. absurd (among_none a m);
  ports_apart = λ a b m. absurd (among_none a m);
  datapath_once = λ a b m. absurd (among_none a m);
  port_once = λ a b m. absurd (among_none a m);
  datapath_live = λ e a m. absurd (among_none e m);
  port_live = λ e a m. absurd (among_none e m);
}

module _ (keys : Keys) where
  pub settled_datapath : (a : HeldDatapath) → Among a (held_datapaths (settled keys)) → Among a (held_datapaths keys)
  settled_datapath a m = elim (among_append a (map held_datapath keys.datapaths) [] m) [ inl p ↦ among_left a (map held_datapath keys.datapaths) keys.retired_datapaths p | inr n ↦ absurd (among_none a n) ]

  pub settled_port : (a : HeldPort) → Among a (held_ports (settled keys)) → Among a (held_ports keys)
  settled_port a m = elim (among_append a (filter_map (held_port keys.datapaths) keys.ports) [] m) [ inl p ↦ among_left a (filter_map (held_port keys.datapaths) keys.ports) keys.retired_ports p | inr n ↦ absurd (among_none a n) ]

  pub settled_hold : IsKeys keys → IsKeys (settled keys)
  settled_hold k = record {
    datapath_ranges = k.datapath_ranges;
    port_ranges = k.port_ranges;
    datapaths_in_order = k.datapaths_in_order;
    ports_in_order = k.ports_in_order;
    on_datapath = k.on_datapath;
    retired_datapaths_in_order = none_ordered HeldDatapath (λ h. h.owner);
    retired_ports_in_order = none_ordered HeldPort (λ h. h.owner);
    datapath_keys = λ x m. k.datapath_keys x (settled_datapath x m);
    port_keys = λ x m. k.port_keys x (settled_port x m);
    datapaths_apart = λ x y m n. k.datapaths_apart x y (settled_datapath x m) (settled_datapath y n);
    ports_apart = λ x y m n. k.ports_apart x y (settled_port x m) (settled_port y n);
    datapath_once = λ x y m n. k.datapath_once x y (settled_datapath x m) (settled_datapath y n);
    port_once = λ x y m n. k.port_once x y (settled_port x m) (settled_port y n);
    datapath_live = λ e x m n. absurd (among_none x n);
    port_live = λ e x m n. absurd (among_none x n);
  }

-- ---- after an edit

-- one look-up has one answer
one_answer : (ds : List (Name × DatapathKey)) (a b : Name) (d e : DatapathKey) → a ≡ b → at ds a ≡ Some d → at ds b ≡ Some e → d ≡ e
one_answer ds a b d e same f g = same_Some d e (sym f ∙ ap (λ n. at ds n) same ∙ g)

module _ (before : Keys) (added removed : List KeyOwner) (keys : IsKeys before) (edit : IsKeyEdit before added removed) where
  -- ---- datapaths

  abbrev RetiredDatapathCase : HeldDatapath → Type 0
  RetiredDatapathCase a = Among a before.retired_datapaths ⊎ ((e : Name × DatapathKey) × Among e before.datapaths × Among (datapath_owner e) removed × (a ≡ held_datapath e))

  retired_datapath_cases : (a : HeldDatapath) → Among a (retire before removed).retired_datapaths → RetiredDatapathCase a
  retired_datapath_cases a m = elim (among_append a before.retired_datapaths (map held_datapath (filter (λ e. is_listed removed (datapath_owner e)) before.datapaths)) m) [
    | inl p ↦ inl p
    | inr q ↦
        let r = map_among held_datapath a (filter (λ e. is_listed removed (datapath_owner e)) before.datapaths) q in
        let s = filter_among (λ e. is_listed removed (datapath_owner e)) r.0 before.datapaths r.1 in
        inr (r.0, s.0, listed_among removed (datapath_owner r.0) s.1, r.2)
  ]

  live_held : (e : Name × DatapathKey) → Among e before.datapaths → Among (held_datapath e) (held_datapaths before)
  live_held e m = among_left (held_datapath e) (map held_datapath before.datapaths) before.retired_datapaths (among_map held_datapath e before.datapaths m)

  retired_held : (a : HeldDatapath) → Among a before.retired_datapaths → Among a (held_datapaths before)
  retired_held a m = among_right a (map held_datapath before.datapaths) before.retired_datapaths m

  between_held : (a : HeldDatapath) → Among a (retire before removed).retired_datapaths → Among a (held_datapaths before)
  between_held a m = elim (retired_datapath_cases a m) [
    | inl p ↦ retired_held a p
    | inr r ↦ subst (λ x. Among x (held_datapaths before)) (sym r.3) (live_held r.0 r.1)
  ]

  -- no two retired keys have one owner
  pub retired_datapaths_once : (a b : HeldDatapath) → Among a (retire before removed).retired_datapaths → Among b (retire before removed).retired_datapaths → a.owner ≡ b.owner → a ≡ b
  retired_datapaths_once a b m n same = keys.datapath_once a b (between_held a m) (between_held b n) same

  -- a live datapath afterwards stays, or gets a key
  abbrev LiveDatapathCase : Name × DatapathKey → Type 0
  LiveDatapathCase e = (Among e before.datapaths × (¬ Among (datapath_owner e) removed)) ⊎ Among e (new_datapaths (retire before removed) added)

  live_datapath_cases : (e : Name × DatapathKey) → Among e (all_datapaths (retire before removed) added) → LiveDatapathCase e
  live_datapath_cases e m = elim (datapath_cases before added removed keys edit e.0 e.1 (among_at e.0 e.1 (all_datapaths (retire before removed) added) (all_datapaths_sorted before added removed keys edit) m)) [
    | inl f ↦ let s = stays_datapath before added removed keys edit e.0 e.1 f in inl (at_among before.datapaths e.0 e.1 s.0, s.1)
    | inr n ↦ inr n
  ]

  abbrev HeldDatapathCase : HeldDatapath → Type 0
  HeldDatapathCase a = Among a (held_datapaths before) ⊎ ((e : Name × DatapathKey) × Among e (new_datapaths (retire before removed) added) × (a ≡ held_datapath e))

  held_datapath_cases : (a : HeldDatapath) → Among a (held_datapaths (planned (retire before removed) added)) → HeldDatapathCase a
  held_datapath_cases a m = elim (among_append a (map held_datapath (all_datapaths (retire before removed) added)) (retire before removed).retired_datapaths m) [
    | inl p ↦
        let r = map_among held_datapath a (all_datapaths (retire before removed) added) p in
        elim (live_datapath_cases r.0 r.1) [
          | inl k ↦ inl (subst (λ x. Among x (held_datapaths before)) (sym r.2) (live_held r.0 k.0))
          | inr n ↦ inr (r.0, n, r.2)
        ]
    | inr q ↦ inl (between_held a q)
  ]

  -- a key that is held is taken
  held_taken : (a : HeldDatapath) → Among a (held_datapaths before) → Among a.key (taken_datapaths (retire before removed).datapaths (retire before removed).retired_datapaths)
  held_taken a m = elim (among_append a (map held_datapath before.datapaths) before.retired_datapaths m) [
    | inl p ↦
        let r = map_among held_datapath a before.datapaths p in
        subst (λ x. Among x.key (taken_datapaths (retire before removed).datapaths (retire before removed).retired_datapaths)) (sym r.2) (by r.0 r.1 (is_listed removed (datapath_owner r.0)) refl)
    | inr q ↦ retired a (among_left a before.retired_datapaths (map held_datapath (filter (λ e. is_listed removed (datapath_owner e)) before.datapaths)) q)
  ]
    where
      retired : (x : HeldDatapath) → Among x (retire before removed).retired_datapaths → Among x.key (taken_datapaths (retire before removed).datapaths (retire before removed).retired_datapaths)
      retired x k = among_right x.key (map (λ e. e.1.key) (retire before removed).datapaths) (map (λ h. h.key) (retire before removed).retired_datapaths) (among_map (λ h. h.key) x (retire before removed).retired_datapaths k)

      by : (e : Name × DatapathKey) → Among e before.datapaths → (b : Bool) → is_listed removed (datapath_owner e) ≡ b → Among e.1.key (taken_datapaths (retire before removed).datapaths (retire before removed).retired_datapaths)
      by e k true t = retired (held_datapath e) (among_right (held_datapath e) before.retired_datapaths (map held_datapath (filter (λ f. is_listed removed (datapath_owner f)) before.datapaths)) (among_map held_datapath e (filter (λ f. is_listed removed (datapath_owner f)) before.datapaths) (among_filter (λ f. is_listed removed (datapath_owner f)) e before.datapaths k t)))
      by e k false t = among_left e.1.key (map (λ f. f.1.key) (retire before removed).datapaths) (map (λ h. h.key) (retire before removed).retired_datapaths) (among_map (λ f. f.1.key) e (retire before removed).datapaths (among_filter (λ f. not (is_listed removed (datapath_owner f))) e before.datapaths k (ap not t)))

  new_is_free : (e : Name × DatapathKey) → Among e (new_datapaths (retire before removed) added) → IsFreeIn before.datapath_range (taken_datapaths (retire before removed).datapaths (retire before removed).retired_datapaths) e.1.key
  new_is_free e m = free_is_free before.datapath_range (taken_datapaths (retire before removed).datapaths (retire before removed).retired_datapaths) e.1.key (new_datapath_who before added removed keys edit e m).1

  new_not_held : (e : Name × DatapathKey) (a : HeldDatapath) → Among e (new_datapaths (retire before removed) added) → Among a (held_datapaths before) → a.owner ≢ (held_datapath e).owner
  new_not_held e a m h = edit.added_new (datapath_owner e) (new_datapath_who before added removed keys edit e m).0 a h

  datapaths_apart : (a b : HeldDatapath) → HeldDatapathCase a → HeldDatapathCase b → a.key ≡ b.key → a.owner ≡ b.owner
  datapaths_apart a b (inl p) (inl q) same = keys.datapaths_apart a b p q same
  datapaths_apart a b (inl p) (inr q) same = absurd ((new_is_free q.0 q.1).free (subst (λ k. Among k (taken_datapaths (retire before removed).datapaths (retire before removed).retired_datapaths)) (same ∙ ap (λ (x : HeldDatapath). x.key) q.2) (held_taken a p)))
  datapaths_apart a b (inr p) (inl q) same = absurd ((new_is_free p.0 p.1).free (subst (λ k. Among k (taken_datapaths (retire before removed).datapaths (retire before removed).retired_datapaths)) (sym same ∙ ap (λ (x : HeldDatapath). x.key) p.2) (held_taken b q)))
  datapaths_apart a b (inr p) (inr q) same =
      let one : p.0 ≡ q.0 = with_keys_apart new_datapath_key (λ d. d.key) (λ c k. refl) (in_order (datapaths_in added)) (free_datapath_keys (retire before removed)) (free_once before.datapath_range (taken_datapaths (retire before removed).datapaths (retire before removed).retired_datapaths)) p.0 q.0 p.1 q.1 (sym (ap (λ (x : HeldDatapath). x.key) p.2) ∙ same ∙ ap (λ (x : HeldDatapath). x.key) q.2) in
      ap (λ (x : HeldDatapath). x.owner) p.2 ∙ ap (λ e. (held_datapath e).owner) one ∙ sym (ap (λ (x : HeldDatapath). x.owner) q.2)

  datapath_once : (a b : HeldDatapath) → HeldDatapathCase a → HeldDatapathCase b → a.owner ≡ b.owner → a ≡ b
  datapath_once a b (inl p) (inl q) same = keys.datapath_once a b p q same
  datapath_once a b (inl p) (inr q) same = absurd (new_not_held q.0 a q.1 p (same ∙ ap (λ (x : HeldDatapath). x.owner) q.2))
  datapath_once a b (inr p) (inl q) same = absurd (new_not_held p.0 b p.1 q (sym same ∙ ap (λ (x : HeldDatapath). x.owner) p.2))
  datapath_once a b (inr p) (inr q) same =
      let owners : (held_datapath p.0).owner ≡ (held_datapath q.0).owner = sym (ap (λ (x : HeldDatapath). x.owner) p.2) ∙ same ∙ ap (λ (x : HeldDatapath). x.owner) q.2 in
      let names : p.0.0 ≡ q.0.0 = ap (λ (i : Identity). i.name) owners in
      let moved : Among (q.0.0, p.0.1) (new_datapaths (retire before removed) added) = subst (λ n. Among (n, p.0.1) (new_datapaths (retire before removed) added)) names p.1 in
      let values : q.0.1 ≡ p.0.1 = one_entry (new_datapaths (retire before removed) added) (new_datapaths_sorted before added removed keys edit) q.0.0 p.0.1 q.0.1 moved q.1 in
      let one : p.0 ≡ q.0 = λ i. (names i, sym values i) in
      p.2 ∙ ap held_datapath one ∙ sym q.2

  datapath_live : (e : Name × DatapathKey) (a : HeldDatapath) → LiveDatapathCase e → RetiredDatapathCase a → a.owner ≢ (held_datapath e).owner
  datapath_live e a (inl k) (inl p) same = keys.datapath_live e a k.0 p same
  datapath_live e a (inl k) (inr r) same =
      let owners : (held_datapath r.0).owner ≡ (held_datapath e).owner = sym (ap (λ (x : HeldDatapath). x.owner) r.3) ∙ same in
      k.1 (subst (λ (i : Identity). Among (Datapath i.name i.birth) removed) owners r.2)
  datapath_live e a (inr n) (inl p) same = new_not_held e a n (retired_held a p) same
  datapath_live e a (inr n) (inr r) same = new_not_held e a n (subst (λ x. Among x (held_datapaths before)) (sym r.3) (live_held r.0 r.1)) same

  -- ---- ports

  module _ (room : HasRoom (retire before removed) added) where
    abbrev RetiredPortCase : HeldPort → Type 0
    RetiredPortCase a = Among a before.retired_ports ⊎ ((e : Name × PortKey) × (d : DatapathKey) × Among e before.ports × Among (port_owner e) removed × (at before.datapaths e.1.datapath ≡ Some d) × (a ≡ on_datapath_key e.0 e.1 d))

    retired_port_cases : (a : HeldPort) → Among a (retire before removed).retired_ports → RetiredPortCase a
    retired_port_cases a m = elim (among_append a before.retired_ports (filter_map (held_port before.datapaths) (filter (λ e. is_listed removed (port_owner e)) before.ports)) m) [
      | inl p ↦ inl p
      | inr q ↦
          let r = filter_map_among (held_port before.datapaths) a (filter (λ e. is_listed removed (port_owner e)) before.ports) q in
          let s = filter_among (λ e. is_listed removed (port_owner e)) r.0 before.ports r.1 in
          let h = held_port_is before.datapaths r.0 a r.2 in
          inr (r.0, h.0, s.0, listed_among removed (port_owner r.0) s.1, h.1, h.2)
    ]

    live_port_held : (n : Name) (p : PortKey) (d : DatapathKey) → Among (n, p) before.ports → at before.datapaths p.datapath ≡ Some d → Among (on_datapath_key n p d) (held_ports before)
    live_port_held n p d m f = among_left (on_datapath_key n p d) (filter_map (held_port before.datapaths) before.ports) before.retired_ports (among_filter_map (held_port before.datapaths) (n, p) (on_datapath_key n p d) before.ports m (is_held_port before.datapaths n p d f))

    retired_port_held : (a : HeldPort) → Among a before.retired_ports → Among a (held_ports before)
    retired_port_held a m = among_right a (filter_map (held_port before.datapaths) before.ports) before.retired_ports m

    between_port_held : (a : HeldPort) → RetiredPortCase a → Among a (held_ports before)
    between_port_held a (inl p) = retired_port_held a p
    between_port_held a (inr r) = subst (λ x. Among x (held_ports before)) (sym r.5) (live_port_held r.0.0 r.0.1 r.1 r.2 r.4)

    -- a live port afterwards stays, or gets a key
    abbrev LivePortCase : Name → PortKey → Type 0
    LivePortCase n p = ((at (retire before removed).ports n ≡ Some p) × Among (n, p) before.ports × (¬ Among (port_owner (n, p)) removed)) ⊎ Among (n, p) (new_ports (retire before removed) added)

    live_port_at : (n : Name) (p : PortKey) → Among (n, p) (planned (retire before removed) added).ports → at (planned (retire before removed) added).ports n ≡ Some p
    live_port_at n p m = among_at n p (planned (retire before removed) added).ports (put_all_sorted (retire before removed).ports (new_ports (retire before removed) added) (between_ports_sorted before added removed keys edit)) m

    live_port_cases : (n : Name) (p : PortKey) → Among (n, p) (planned (retire before removed) added).ports → LivePortCase n p
    live_port_cases n p m = elim (port_cases before added removed keys edit room n p (live_port_at n p m)) [
      | inl f ↦ let s = stays_port before added removed keys edit n p f in inl (f, at_among before.ports n p s.0, s.1)
      | inr k ↦ inr k
    ]

    -- a live key afterwards, with its datapath
    record IsLiveAfter (a : HeldPort) : Type 0 where
      n : Name
      p : PortKey
      d : DatapathKey
      among : Among (n, p) (planned (retire before removed) added).ports
      how : LivePortCase n p
      on : at (all_datapaths (retire before removed) added) p.datapath ≡ Some d
      is : a ≡ on_datapath_key n p d

    held_port_cases : (a : HeldPort) → Among a (held_ports (planned (retire before removed) added)) → IsLiveAfter a ⊎ RetiredPortCase a
    held_port_cases a m = elim (among_append a (filter_map (held_port (all_datapaths (retire before removed) added)) (planned (retire before removed) added).ports) (retire before removed).retired_ports m) [
      | inl q ↦
          let r = filter_map_among (held_port (all_datapaths (retire before removed) added)) a (planned (retire before removed) added).ports q in
          let h = held_port_is (all_datapaths (retire before removed) added) r.0 a r.2 in
          inl (record { n = r.0.0; p = r.0.1; d = h.0; among = r.1; how = live_port_cases r.0.0 r.0.1 r.1; on = h.1; is = h.2 })
      | inr q ↦ inr (retired_port_cases a q)
    ]

    -- ---- a key that is given was free

    given_free : (n : Name) (p : PortKey) (d : DatapathKey) → Among (n, p) (new_ports (retire before removed) added) → at (all_datapaths (retire before removed) added) p.datapath ≡ Some d → IsFreeIn before.port_range (taken_ports (retire before removed).ports (retire before removed).retired_ports (record { name = p.datapath; birth = d.birth })) p.key
    given_free n p d m f =
        let r = new_port_on before added removed keys edit room n p m in
        let same : r.0 ≡ d = one_answer (all_datapaths (retire before removed) added) p.datapath p.datapath r.0 d refl r.1 f in
        let w = new_port_who before added removed keys edit room (p.datapath, r.0) (n, p) r.2 in
        let on : Among p.key (free_port_keys (retire before removed) (record { name = p.datapath; birth = d.birth })) = subst (λ (x : DatapathKey). Among p.key (free_port_keys (retire before removed) (record { name = p.datapath; birth = x.birth }))) same w.2 in
        free_is_free before.port_range (taken_ports (retire before removed).ports (retire before removed).retired_ports (record { name = p.datapath; birth = d.birth })) p.key on

    -- the key of a port that stays is taken on its datapath
    staying_taken : (n : Name) (p : PortKey) (d : Identity) → at (retire before removed).ports n ≡ Some p → d.name ≡ p.datapath → Among p.key (taken_ports (retire before removed).ports (retire before removed).retired_ports d)
    staying_taken n p d f same = among_left p.key (map (λ e. e.1.key) (filter (λ e. same_name d.name e.1.datapath) (retire before removed).ports)) (map (λ h. h.key) (filter (λ h. same_identity d h.datapath) (retire before removed).retired_ports))
        (among_map (λ e. e.1.key) (n, p) (filter (λ e. same_name d.name e.1.datapath) (retire before removed).ports) (among_filter (λ e. same_name d.name e.1.datapath) (n, p) (retire before removed).ports (at_among (retire before removed).ports n p f) (ap (λ x. same_name d.name x) (sym same) ∙ name_own d.name)))

    -- and so is a retired one
    retired_taken : (a : HeldPort) (d : Identity) → Among a (retire before removed).retired_ports → d ≡ a.datapath → Among a.key (taken_ports (retire before removed).ports (retire before removed).retired_ports d)
    retired_taken a d m same = among_right a.key (map (λ e. e.1.key) (filter (λ e. same_name d.name e.1.datapath) (retire before removed).ports)) (map (λ h. h.key) (filter (λ h. same_identity d h.datapath) (retire before removed).retired_ports))
        (among_map (λ h. h.key) a (filter (λ h. same_identity d h.datapath) (retire before removed).retired_ports) (among_filter (λ h. same_identity d h.datapath) a (retire before removed).retired_ports m (ap (λ x. same_identity d x) (sym same) ∙ identity_own d)))

    among_retired : (a : HeldPort) → RetiredPortCase a → Among a (retire before removed).retired_ports
    among_retired a (inl p) = among_left a before.retired_ports (filter_map (held_port before.datapaths) (filter (λ e. is_listed removed (port_owner e)) before.ports)) p
    among_retired a (inr r) = among_right a before.retired_ports (filter_map (held_port before.datapaths) (filter (λ e. is_listed removed (port_owner e)) before.ports))
        (among_filter_map (held_port before.datapaths) r.0 a (filter (λ e. is_listed removed (port_owner e)) before.ports)
        (among_filter (λ e. is_listed removed (port_owner e)) r.0 before.ports r.2 (among_listed removed (port_owner r.0) r.3))
        (is_held_port before.datapaths r.0.0 r.0.1 r.1 r.4 ∙ ap (λ x. Some x) (sym r.5)))

    -- ---- apart

    before_datapath : (n : Name) (p : PortKey) → Among (n, p) before.ports → (d : DatapathKey) × (at before.datapaths p.datapath ≡ Some d)
    before_datapath n p m = found (at before.datapaths p.datapath) (keys.on_datapath (n, p) m)

    -- two ports that were there
    old_apart : (n m : Name) (p q : PortKey) → Among (n, p) before.ports → Among (m, q) before.ports → p.datapath ≡ q.datapath → p.key ≡ q.key → (on_datapath_key n p (record { birth = p.birth; key = p.key })).owner ≡ (on_datapath_key m q (record { birth = p.birth; key = p.key })).owner
    old_apart n m p q a b on same =
        let d = before_datapath n p a in
        let e = before_datapath m q b in
        let one : d.0 ≡ e.0 = one_answer before.datapaths p.datapath q.datapath d.0 e.0 on d.1 e.1 in
        keys.ports_apart (on_datapath_key n p d.0) (on_datapath_key m q e.0) (live_port_held n p d.0 a d.1) (live_port_held m q e.0 b e.1) (λ i. record { name = on i; birth = (one i).birth }) same

    -- a port that stays, and a retired key
    kept_retired : (n : Name) (p : PortKey) (d : DatapathKey) (b : HeldPort) → Among (n, p) before.ports → at (all_datapaths (retire before removed) added) p.datapath ≡ Some d → RetiredPortCase b
        → (on_datapath_key n p d).datapath ≡ b.datapath → p.key ≡ b.key → (on_datapath_key n p d).owner ≡ b.owner
    kept_retired n p d b m f (inl r) on same = elim (datapath_cases before added removed keys edit p.datapath d f) [
      | inl k ↦ keys.ports_apart (on_datapath_key n p d) b (live_port_held n p d m (stays_datapath before added removed keys edit p.datapath d k).0) (retired_port_held b r) on same
      | inr k ↦
          absurd (edit.added_bare p.datapath d.birth (new_datapath_who before added removed keys edit (p.datapath, d) k).0 b r (sym on))
    ]
    kept_retired n p d b m f (inr r) on same =
        let names : p.datapath ≡ r.0.1.datapath = ap (λ (i : Identity). i.name) (on ∙ ap (λ (x : HeldPort). x.datapath) r.5) in
        let key : p.key ≡ r.0.1.key = same ∙ ap (λ (x : HeldPort). x.key) r.5 in
        old_apart n r.0.0 p r.0.1 m r.2 names key ∙ sym (ap (λ (x : HeldPort). x.owner) r.5)

    -- two live keys
    live_apart : (n m : Name) (p q : PortKey) (d e : DatapathKey) → LivePortCase n p → LivePortCase m q
        → at (all_datapaths (retire before removed) added) p.datapath ≡ Some d → at (all_datapaths (retire before removed) added) q.datapath ≡ Some e
        → p.datapath ≡ q.datapath → p.key ≡ q.key → (on_datapath_key n p d).owner ≡ (on_datapath_key m q e).owner
    live_apart n m p q d e (inl a) (inl b) f g on same = old_apart n m p q a.1 b.1 on same
    live_apart n m p q d e (inl a) (inr b) f g on same = absurd ((given_free m q e b g).free (subst (λ k. Among k (taken_ports (retire before removed).ports (retire before removed).retired_ports (record { name = q.datapath; birth = e.birth }))) same (staying_taken n p (record { name = q.datapath; birth = e.birth }) a.0 (sym on))))
    live_apart n m p q d e (inr a) (inl b) f g on same = absurd ((given_free n p d a f).free (subst (λ k. Among k (taken_ports (retire before removed).ports (retire before removed).retired_ports (record { name = p.datapath; birth = d.birth }))) (sym same) (staying_taken m q (record { name = p.datapath; birth = d.birth }) b.0 on)))
    live_apart n m p q d e (inr a) (inr b) f g on same =
        let r = new_port_on before added removed keys edit room n p a in
        let s = new_port_on before added removed keys edit room m q b in
        let one : s.0 ≡ r.0 = one_answer (all_datapaths (retire before removed) added) q.datapath p.datapath s.0 r.0 (sym on) s.1 r.1 in
        let moved : Among (m, q) (new_ports_on (retire before removed) added (p.datapath, r.0)) = subst (λ (x : Name × DatapathKey). Among (m, q) (new_ports_on (retire before removed) added x)) (λ i. (sym on i, one i)) s.2 in
        let entry : (n, p) ≡ (m, q) = with_keys_apart (new_port_key p.datapath) (λ x. x.key) (λ c k. refl) (in_order (ports_in p.datapath added)) (free_port_keys (retire before removed) (record { name = p.datapath; birth = r.0.birth }))
        (free_once before.port_range (taken_ports (retire before removed).ports (retire before removed).retired_ports (record { name = p.datapath; birth = r.0.birth }))) (n, p) (m, q) r.2 moved same in
        ap (λ (x : Name × PortKey). (on_datapath_key x.0 x.1 d).owner) entry

    -- a live key, and a retired one
    mixed_apart : (n : Name) (p : PortKey) (d : DatapathKey) (b : HeldPort) → LivePortCase n p → at (all_datapaths (retire before removed) added) p.datapath ≡ Some d → RetiredPortCase b
        → (on_datapath_key n p d).datapath ≡ b.datapath → p.key ≡ b.key → (on_datapath_key n p d).owner ≡ b.owner
    mixed_apart n p d b (inl a) f r on same = kept_retired n p d b a.1 f r on same
    mixed_apart n p d b (inr a) f r on same = absurd ((given_free n p d a f).free (subst (λ k. Among k (taken_ports (retire before removed).ports (retire before removed).retired_ports (record { name = p.datapath; birth = d.birth }))) (sym same) (retired_taken b (record { name = p.datapath; birth = d.birth }) (among_retired b r) on)))

    ports_apart : (a b : HeldPort) → IsLiveAfter a ⊎ RetiredPortCase a → IsLiveAfter b ⊎ RetiredPortCase b → a.datapath ≡ b.datapath → a.key ≡ b.key → a.owner ≡ b.owner
    ports_apart a b (inl l) (inl k) on same =
        let names : l.p.datapath ≡ k.p.datapath = ap (λ (i : Identity). i.name) (sym (ap (λ (x : HeldPort). x.datapath) l.is) ∙ on ∙ ap (λ (x : HeldPort). x.datapath) k.is) in
        let key : l.p.key ≡ k.p.key = sym (ap (λ (x : HeldPort). x.key) l.is) ∙ same ∙ ap (λ (x : HeldPort). x.key) k.is in
        ap (λ (x : HeldPort). x.owner) l.is ∙ live_apart l.n k.n l.p k.p l.d k.d l.how k.how l.on k.on names key ∙ sym (ap (λ (x : HeldPort). x.owner) k.is)
    ports_apart a b (inl l) (inr r) on same = ap (λ (x : HeldPort). x.owner) l.is ∙ mixed_apart l.n l.p l.d b l.how l.on r (sym (ap (λ (x : HeldPort). x.datapath) l.is) ∙ on) (sym (ap (λ (x : HeldPort). x.key) l.is) ∙ same)
    ports_apart a b (inr r) (inl l) on same = sym (ap (λ (x : HeldPort). x.owner) l.is ∙ mixed_apart l.n l.p l.d a l.how l.on r (sym (ap (λ (x : HeldPort). x.datapath) l.is) ∙ sym on) (sym (ap (λ (x : HeldPort). x.key) l.is) ∙ sym same))
    ports_apart a b (inr r) (inr s) on same = keys.ports_apart a b (between_port_held a r) (between_port_held b s) on same

    -- ---- no owner twice

    port_live : (n : Name) (p : PortKey) (a : HeldPort) → LivePortCase n p → RetiredPortCase a → a.owner ≢ record { name = n; birth = p.birth }
    port_live n p a (inl k) (inl r) same = keys.port_live (n, p) a k.1 r same
    port_live n p a (inl k) (inr r) same =
        let names : r.0.0 ≡ n = ap (λ (i : Identity). i.name) (sym (ap (λ (x : HeldPort). x.owner) r.5) ∙ same) in
        let moved : Among (n, r.0.1) before.ports = subst (λ m. Among (m, r.0.1) before.ports) names r.2 in
        let one : r.0.1 ≡ p = one_entry before.ports keys.ports_in_order n p r.0.1 k.1 moved in
        k.2 (subst (λ (e : Name × PortKey). Among (port_owner e) removed) (λ i. (names i, one i)) r.3)
    port_live n p a (inr k) r same = edit.added_new (Port p.datapath n p.birth) (new_port_owner before added removed keys edit room n p k) a (between_port_held a r) same

    port_once : (a b : HeldPort) → IsLiveAfter a ⊎ RetiredPortCase a → IsLiveAfter b ⊎ RetiredPortCase b → a.owner ≡ b.owner → a ≡ b
    port_once a b (inl l) (inl k) same =
        let names : l.n ≡ k.n = ap (λ (i : Identity). i.name) (sym (ap (λ (x : HeldPort). x.owner) l.is) ∙ same ∙ ap (λ (x : HeldPort). x.owner) k.is) in
        let f : at (planned (retire before removed) added).ports l.n ≡ Some l.p = live_port_at l.n l.p l.among in
        let g : at (planned (retire before removed) added).ports k.n ≡ Some k.p = live_port_at k.n k.p k.among in
        let ports : l.p ≡ k.p = same_Some l.p k.p (sym f ∙ ap (λ n. at (planned (retire before removed) added).ports n) names ∙ g) in
        let datapaths : l.d ≡ k.d = one_answer (all_datapaths (retire before removed) added) l.p.datapath k.p.datapath l.d k.d (ap (λ (x : PortKey). x.datapath) ports) l.on k.on in
        let whole : on_datapath_key l.n l.p l.d ≡ on_datapath_key k.n k.p k.d = λ i. on_datapath_key (names i) (ports i) (datapaths i) in
        l.is ∙ whole ∙ sym k.is
    port_once a b (inl l) (inr r) same = absurd (port_live l.n l.p b l.how r (sym same ∙ ap (λ (x : HeldPort). x.owner) l.is))
    port_once a b (inr r) (inl l) same = absurd (port_live l.n l.p a l.how r (same ∙ ap (λ (x : HeldPort). x.owner) l.is))
    port_once a b (inr r) (inr s) same = keys.port_once a b (between_port_held a r) (between_port_held b s) same

    -- ---- in range

    port_range : (a : HeldPort) → IsLiveAfter a ⊎ RetiredPortCase a → (1 ≤ a.key) × (a.key ≤ before.port_range)
    port_range a (inl l) = subst (λ (x : HeldPort). (1 ≤ x.key) × (x.key ≤ before.port_range)) (sym l.is) (by l.how)
      where
        by : LivePortCase l.n l.p → (1 ≤ l.p.key) × (l.p.key ≤ before.port_range)
        by (inl k) = let d = before_datapath l.n l.p k.1 in keys.port_keys (on_datapath_key l.n l.p d.0) (live_port_held l.n l.p d.0 k.1 d.1)
        by (inr k) = let f = given_free l.n l.p l.d k l.on in (f.low, f.high)
    port_range a (inr r) = keys.port_keys a (between_port_held a r)

    datapath_range : (a : HeldDatapath) → HeldDatapathCase a → (1 ≤ a.key) × (a.key ≤ before.datapath_range)
    datapath_range a (inl p) = keys.datapath_keys a p
    datapath_range a (inr q) = let f = new_is_free q.0 q.1 in subst (λ (x : HeldDatapath). (1 ≤ x.key) × (x.key ≤ before.datapath_range)) (sym q.2) (f.low, f.high)

    -- ---- the datapath of each port is there

    on_datapath : (n : Name) (p : PortKey) → LivePortCase n p → IsSome (at (all_datapaths (retire before removed) added) p.datapath)
    on_datapath n p (inl k) =
        let s = stays_port before added removed keys edit n p k.0 in
        let d = edit.has_datapath p.datapath n p.birth (inl ((p.key, s.0), s.1)) in
        let q = found_datapath before added removed keys edit room.for_datapaths p.datapath d.0 d.1 in
        is_found (at (all_datapaths (retire before removed) added) p.datapath) q.0 q.1
    on_datapath n p (inr k) = let r = new_port_on before added removed keys edit room n p k in is_found (at (all_datapaths (retire before removed) added) p.datapath) r.0 r.1

    -- ---- what holds, where the retired keys were put in order

    -- no two retired keys have one owner
    pub retired_ports_once : (a b : HeldPort) → Among a (retire before removed).retired_ports → Among b (retire before removed).retired_ports → a.owner ≡ b.owner → a ≡ b
    retired_ports_once a b m n same = keys.port_once a b (between_port_held a (retired_port_cases a m)) (between_port_held b (retired_port_cases b n)) same

    module _ (rd : List HeldDatapath) (rp : List HeldPort) (datapaths_are : IsInOrder (λ (h : HeldDatapath). h.owner) (retire before removed).retired_datapaths rd) (ports_are : IsInOrder (λ (h : HeldPort). h.owner) (retire before removed).retired_ports rp) where
      datapath_case : (a : HeldDatapath) → Among a (map held_datapath (all_datapaths (retire before removed) added) ++ rd) → HeldDatapathCase a
      datapath_case a m = held_datapath_cases a (among_either a (map held_datapath (all_datapaths (retire before removed) added)) rd (retire before removed).retired_datapaths (datapaths_are.same a).0 m)

      port_case : (a : HeldPort) → Among a (filter_map (held_port (all_datapaths (retire before removed) added)) (planned (retire before removed) added).ports ++ rp) → IsLiveAfter a ⊎ RetiredPortCase a
      port_case a m = held_port_cases a (among_either a (filter_map (held_port (all_datapaths (retire before removed) added)) (planned (retire before removed) added).ports) rp (retire before removed).retired_ports (ports_are.same a).0 m)

      pub planned_hold : IsKeys (record (planned (retire before removed) added) { retired_datapaths = rd; retired_ports = rp })
      planned_hold = record {
        datapath_ranges = keys.datapath_ranges;
        port_ranges = keys.port_ranges;
        datapaths_in_order = all_datapaths_sorted before added removed keys edit;
        ports_in_order = put_all_sorted (retire before removed).ports (new_ports (retire before removed) added) (between_ports_sorted before added removed keys edit);
        retired_datapaths_in_order = datapaths_are.order;
        retired_ports_in_order = ports_are.order;
        on_datapath = λ e m. on_datapath e.0 e.1 (live_port_cases e.0 e.1 m);
        datapath_keys = λ a m. datapath_range a (datapath_case a m);
        port_keys = λ a m. port_range a (port_case a m);
        datapaths_apart = λ a b m n same. datapaths_apart a b (datapath_case a m) (datapath_case b n) same;
        ports_apart = λ a b m n on same. ports_apart a b (port_case a m) (port_case b n) on same;
        datapath_once = λ a b m n same. datapath_once a b (datapath_case a m) (datapath_case b n) same;
        port_once = λ a b m n same. port_once a b (port_case a m) (port_case b n) same;
        datapath_live = λ e a m n. datapath_live e a (live_datapath_cases e m) (retired_datapath_cases a ((datapaths_are.same a).0 n));
        port_live = λ e a m n. port_live e.0 e.1 a (live_port_cases e.0 e.1 m) (retired_port_cases a ((ports_are.same a).0 n));
      }
