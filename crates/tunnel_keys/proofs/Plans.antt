-- What the program makes of the keys is what an edit does to them.
use Rattle.std.specs.Prelude.{◌≡◌, ◌≢◌, ℕ, ◌≤◌, ◌⊎◌, not, List, length, map, Some, refl}
use mathlib.Core.Path.{sym, ap, subst, ◌∙◌}
use mathlib.Core.Logic.{inl, inr}
use Rattle.std.specs.List.{AllByRecursion}
use Rattle.std.proofs.lemmas.Option.{same_Some}
use Rattle.ovn_base.specs.lists.Among.{Among}
use Rattle.ovn_base.proofs.AmongLaws.{among_left, among_map, among_all, among_flat_map, flat_map_among}
use Rattle.ovn_base.specs.declared.name.Name.{Name}
use Rattle.ovn_base.specs.declared.address.Birth.{Birth}
use Rattle.ovn_base.specs.names.ByName.{at, put_all, in_order, IsByName}
use Rattle.tunnel_keys.specs.Owners.{is_listed, datapaths_in, ports_in}
use Rattle.tunnel_keys.specs.Order.{IsInOrder}
use Rattle.tunnel_keys.specs.Keys.{Keys, IsKeys, retire, datapath_owner, port_owner, held_datapath, free_datapath_keys, free_port_keys, taken_datapaths, taken_ports}
use Rattle.tunnel_keys.specs.Edits.{IsKeyEdit, IsThereAfter, GivesKeysAfter, GivesLeastDatapathKeys, GivesLeastPortKeys, GivesLeastKeys}
use Rattle.tunnel_keys.specs.Giving.{new_datapath_key, new_port_key, given_datapaths, given_ports_on, given_ports, HasEnough}
use Rattle.tunnel_keys.specs.declared.owner.DatapathKey.{DatapathKey}
use Rattle.tunnel_keys.specs.declared.owner.PortKey.{PortKey}
use Rattle.tunnel_keys.specs.declared.owner.HeldDatapath.{HeldDatapath}
use Rattle.tunnel_keys.specs.declared.owner.HeldPort.{HeldPort}
use Rattle.tunnel_keys.specs.declared.owner.KeyOwner.{KeyOwner}
use Rattle.tunnel_keys.specs.declared.owner.KeyOwner.TheVariants.{Datapath, Port}
use Rattle.ovn_base.proofs.ByNameLaws.{at_among, among_at}
use Rattle.tunnel_keys.proofs.HeldKeys.{live_owner_held}
use Rattle.tunnel_keys.proofs.Lists.{put_all_sorted, put_all_other, put_all_cases, put_all_there, in_order_sorted, in_order_among, among_in_order, in_order_length, filter_sorted, at_filter, filter_at, NamesOnce}
use Rattle.tunnel_keys.proofs.FreeKeys.{free_is_free, with_keys_there, with_keys_cases, with_keys_sorted, with_keys_first}
use Rattle.tunnel_keys.proofs.OwnerLaws.{unlisted_not, not_unlisted, in_datapaths, datapaths_have, datapaths_once, in_ports, ports_have, ports_once}

-- what the added datapaths get
abbrev pub new_datapaths : Keys → List KeyOwner → List (Name × DatapathKey)
new_datapaths between added = given_datapaths between.datapath_range between.datapaths between.retired_datapaths added

-- the datapaths with these
abbrev pub all_datapaths : Keys → List KeyOwner → List (Name × DatapathKey)
all_datapaths between added = put_all between.datapaths (new_datapaths between added)

-- what the ports added to a datapath get
abbrev pub new_ports_on : Keys → List KeyOwner → Name × DatapathKey → List (Name × PortKey)
new_ports_on between added q = given_ports_on between.port_range between.ports between.retired_ports added q

-- what all added ports get
abbrev pub new_ports : Keys → List KeyOwner → List (Name × PortKey)
new_ports between added = given_ports between.port_range between.ports between.retired_ports added (all_datapaths between added)

-- the keys after the edit
abbrev pub planned : Keys → List KeyOwner → Keys
planned between added = record between { datapaths = all_datapaths between added; ports = put_all between.ports (new_ports between added) }

-- there are keys for all
pub record HasRoom (between : Keys) (added : List KeyOwner) : Type 0 where
  pub for_datapaths : length (in_order (datapaths_in added)) ≤ length (free_datapath_keys between)
  pub for_ports : AllByRecursion (HasEnough between.port_range between.ports between.retired_ports added) (all_datapaths between added)

-- entries with one name in an ordered list are one
pub one_entry : {X : Type 0} (es : List (Name × X)) → IsByName es → (n : Name) (v w : X) → Among (n, v) es → Among (n, w) es → w ≡ v
one_entry es s n v w p q = same_Some w v (sym (among_at n w es s q) ∙ among_at n v es s p)

module _ (before : Keys) (added removed : List KeyOwner) (keys : IsKeys before) (edit : IsKeyEdit before added removed) where
  -- ---- who stays

  pub stays_datapath : (n : Name) (d : DatapathKey) → at (retire before removed).datapaths n ≡ Some d → (at before.datapaths n ≡ Some d) × (¬ Among (Datapath n d.birth) removed)
  stays_datapath n d f =
      let r = filter_at (λ e. not (is_listed removed (datapath_owner e))) before.datapaths keys.datapaths_in_order n d f in
      (r.0, unlisted_not removed (Datapath n d.birth) r.1)

  pub datapath_stays : (n : Name) (d : DatapathKey) → at before.datapaths n ≡ Some d → (¬ Among (Datapath n d.birth) removed) → at (retire before removed).datapaths n ≡ Some d
  datapath_stays n d f k = at_filter (λ e. not (is_listed removed (datapath_owner e))) before.datapaths keys.datapaths_in_order n d f (not_unlisted removed (Datapath n d.birth) k)

  pub stays_port : (n : Name) (p : PortKey) → at (retire before removed).ports n ≡ Some p → (at before.ports n ≡ Some p) × (¬ Among (Port p.datapath n p.birth) removed)
  stays_port n p f =
      let r = filter_at (λ e. not (is_listed removed (port_owner e))) before.ports keys.ports_in_order n p f in
      (r.0, unlisted_not removed (Port p.datapath n p.birth) r.1)

  datapath_there : (n : Name) (d : DatapathKey) → at (retire before removed).datapaths n ≡ Some d → IsThereAfter before added removed (Datapath n d.birth)
  datapath_there n d f = let s = stays_datapath n d f in inl ((d.key, s.0), s.1)

  port_there : (n : Name) (p : PortKey) → at (retire before removed).ports n ≡ Some p → IsThereAfter before added removed (Port p.datapath n p.birth)
  port_there n p f = let s = stays_port n p f in inl ((p.key, s.0), s.1)

  -- a live owner is not added
  pub live_datapath_old : (n : Name) (d : DatapathKey) → at before.datapaths n ≡ Some d → ¬ Among (Datapath n d.birth) added
  live_datapath_old n d f m = edit.added_new (Datapath n d.birth) m (held_datapath (n, d)) (among_left (held_datapath (n, d)) (map held_datapath before.datapaths) before.retired_datapaths (among_map held_datapath (n, d) before.datapaths (at_among before.datapaths n d f))) refl

  pub live_port_old : (n : Name) (p : PortKey) (d : Name) → at before.ports n ≡ Some p → ¬ Among (Port d n p.birth) added
  live_port_old n p d f m = let h = live_owner_held before keys n p (at_among before.ports n p f) in edit.added_new (Port d n p.birth) m h.0 h.1 h.2

  -- ---- the added datapaths

  datapaths_named_once : NamesOnce (datapaths_in added)
  datapaths_named_once = datapaths_once added edit.added_once (λ n b c p q. edit.one_datapath n b c (inr p) (inr q))

  pub datapaths_count : length (in_order (datapaths_in added)) ≡ length (datapaths_in added)
  datapaths_count = in_order_length (datapaths_in added) datapaths_named_once

  pub ports_count : (d : Name) → length (in_order (ports_in d added)) ≡ length (ports_in d added)
  ports_count d = in_order_length (ports_in d added) (ports_once d added edit.added_once (λ n b c p q. (edit.one_port d d n b c (inr p) (inr q)).1))

  pub new_datapaths_sorted : IsByName (new_datapaths (retire before removed) added)
  new_datapaths_sorted = with_keys_sorted new_datapath_key (in_order (datapaths_in added)) (free_datapath_keys (retire before removed)) (in_order_sorted (datapaths_in added))

  pub between_sorted : IsByName (retire before removed).datapaths
  between_sorted = filter_sorted (λ e. not (is_listed removed (datapath_owner e))) before.datapaths keys.datapaths_in_order

  pub between_ports_sorted : IsByName (retire before removed).ports
  between_ports_sorted = filter_sorted (λ e. not (is_listed removed (port_owner e))) before.ports keys.ports_in_order

  pub all_datapaths_sorted : IsByName (all_datapaths (retire before removed) added)
  all_datapaths_sorted = put_all_sorted (retire before removed).datapaths (new_datapaths (retire before removed) added) between_sorted

  -- who gets a key is added, and the key is free
  pub new_datapath_who : (e : Name × DatapathKey) → Among e (new_datapaths (retire before removed) added) → Among (Datapath e.0 e.1.birth) added × Among e.1.key (free_datapath_keys (retire before removed))
  new_datapath_who e m =
      let r = with_keys_cases new_datapath_key (in_order (datapaths_in added)) (free_datapath_keys (retire before removed)) e m in
      let owner : Among (Datapath r.0.0 r.0.1) added = in_datapaths added r.0.0 r.0.1 (in_order_among (datapaths_in added) r.0.0 r.0.1 r.2) in
      let same : (r.0.0, new_datapath_key r.0.1 r.1) ≡ e = sym r.4 in
      (subst (λ (f : Name × DatapathKey). Among (Datapath f.0 f.1.birth) added) same owner, subst (λ (f : Name × DatapathKey). Among f.1.key (free_datapath_keys (retire before removed))) same r.3)

  -- a datapath that stays gets no other key
  datapath_not_new : (n : Name) (d : DatapathKey) → at (retire before removed).datapaths n ≡ Some d → (e : Name × DatapathKey) → Among e (new_datapaths (retire before removed) added) → e.0 ≢ n
  datapath_not_new n d f e m same =
      let owner : Among (Datapath n e.1.birth) added = subst (λ k. Among (Datapath k e.1.birth) added) same (new_datapath_who e m).0 in
      let birth : e.1.birth ≡ d.birth = edit.one_datapath n e.1.birth d.birth (inr owner) (datapath_there n d f) in
      live_datapath_old n d (stays_datapath n d f).0 (subst (λ b. Among (Datapath n b) added) birth owner)

  pub datapath_kept : (n : Name) (d : DatapathKey) → at (retire before removed).datapaths n ≡ Some d → at (all_datapaths (retire before removed) added) n ≡ Some d
  datapath_kept n d f = put_all_other (retire before removed).datapaths (new_datapaths (retire before removed) added) n (datapath_not_new n d f) ∙ f

  pub new_datapath_at : (n : Name) (d : DatapathKey) → Among (n, d) (new_datapaths (retire before removed) added) → at (all_datapaths (retire before removed) added) n ≡ Some d
  new_datapath_at n d m = put_all_there (retire before removed).datapaths (new_datapaths (retire before removed) added) n d (λ w k. one_entry (new_datapaths (retire before removed) added) new_datapaths_sorted n d w m k) m

  pub datapath_cases : (n : Name) (d : DatapathKey) → at (all_datapaths (retire before removed) added) n ≡ Some d → (at (retire before removed).datapaths n ≡ Some d) ⊎ Among (n, d) (new_datapaths (retire before removed) added)
  datapath_cases n d f = put_all_cases (retire before removed).datapaths (new_datapaths (retire before removed) added) n d f

  -- what is there afterwards is one of the owners
  pub there_datapath : (n : Name) (d : DatapathKey) → at (all_datapaths (retire before removed) added) n ≡ Some d → IsThereAfter before added removed (Datapath n d.birth)
  there_datapath n d f = elim (datapath_cases n d f) [ inl k ↦ datapath_there n d k | inr m ↦ inr (new_datapath_who (n, d) m).0 ]

  module _ (enough : length (in_order (datapaths_in added)) ≤ length (free_datapath_keys (retire before removed))) where
    pub new_datapath_there : (n : Name) (b : Birth) → Among (Datapath n b) added → (k : ℕ) × Among (n, new_datapath_key b k) (new_datapaths (retire before removed) added) × Among k (free_datapath_keys (retire before removed))
    new_datapath_there n b m =
        let a : Among (n, b) (in_order (datapaths_in added)) = among_in_order (datapaths_in added) n b (λ c k. edit.one_datapath n c b (inr (in_datapaths added n c k)) (inr m)) (datapaths_have added n b m) in
        with_keys_there new_datapath_key (in_order (datapaths_in added)) (free_datapath_keys (retire before removed)) enough (n, b) a

    -- a datapath that is there after the edit is found
    pub found_datapath : (n : Name) (b : Birth) → IsThereAfter before added removed (Datapath n b) → (d : DatapathKey) × (at (all_datapaths (retire before removed) added) n ≡ Some d) × (d.birth ≡ b)
    found_datapath n b (inl live) = (new_datapath_key b live.0.0, datapath_kept n (new_datapath_key b live.0.0) (datapath_stays n (new_datapath_key b live.0.0) live.0.1 live.1), refl)
    found_datapath n b (inr m) = let r = new_datapath_there n b m in (new_datapath_key b r.0, new_datapath_at n (new_datapath_key b r.0) r.1, refl)

  module _ (room : HasRoom (retire before removed) added) where
    -- ---- the added ports

    -- who gets a key is added to one of the datapaths, and the key is free on it
    pub new_port_who : (q : Name × DatapathKey) (e : Name × PortKey) → Among e (new_ports_on (retire before removed) added q)
        → Among (Port q.0 e.0 e.1.birth) added × (e.1.datapath ≡ q.0) × Among e.1.key (free_port_keys (retire before removed) (record { name = q.0; birth = q.1.birth }))
    new_port_who q e m =
        let free = free_port_keys (retire before removed) (record { name = q.0; birth = q.1.birth }) in
        let r = with_keys_cases (new_port_key q.0) (in_order (ports_in q.0 added)) free e m in
        let owner : Among (Port q.0 r.0.0 r.0.1) added = in_ports added q.0 r.0.0 r.0.1 (in_order_among (ports_in q.0 added) r.0.0 r.0.1 r.2) in
        let same : (r.0.0, new_port_key q.0 r.0.1 r.1) ≡ e = sym r.4 in
        (subst (λ (f : Name × PortKey). Among (Port q.0 f.0 f.1.birth) added) same owner, ap (λ (f : Name × PortKey). f.1.datapath) r.4, subst (λ (f : Name × PortKey). Among f.1.key free) same r.3)

    pub new_ports_sorted : (q : Name × DatapathKey) → IsByName (new_ports_on (retire before removed) added q)
    new_ports_sorted q = with_keys_sorted (new_port_key q.0) (in_order (ports_in q.0 added)) (free_port_keys (retire before removed) (record { name = q.0; birth = q.1.birth })) (in_order_sorted (ports_in q.0 added))

    -- datapaths with one name are one
    one_q : (q r : Name × DatapathKey) → Among q (all_datapaths (retire before removed) added) → Among r (all_datapaths (retire before removed) added) → q.0 ≡ r.0 → r ≡ q
    one_q q r p m same =
        let p' : Among (r.0, q.1) (all_datapaths (retire before removed) added) = subst (λ n. Among (n, q.1) (all_datapaths (retire before removed) added)) same p in
        let value : r.1 ≡ q.1 = one_entry (all_datapaths (retire before removed) added) all_datapaths_sorted r.0 q.1 r.1 p' m in
        λ i. (sym same i, value i)

    one_new_port : (n : Name) (v w : PortKey) → Among (n, v) (new_ports (retire before removed) added) → Among (n, w) (new_ports (retire before removed) added) → w ≡ v
    one_new_port n v w a b =
        let p = flat_map_among (new_ports_on (retire before removed) added) (n, v) (all_datapaths (retire before removed) added) a in
        let r = flat_map_among (new_ports_on (retire before removed) added) (n, w) (all_datapaths (retire before removed) added) b in
        let names : p.0.0 ≡ r.0.0 = (edit.one_port p.0.0 r.0.0 n v.birth w.birth (inr (new_port_who p.0 (n, v) p.2).0) (inr (new_port_who r.0 (n, w) r.2).0)).0 in
        let same : r.0 ≡ p.0 = one_q p.0 r.0 p.1 r.1 names in
        one_entry (new_ports_on (retire before removed) added p.0) (new_ports_sorted p.0) n v w p.2 (subst (λ q. Among (n, w) (new_ports_on (retire before removed) added q)) same r.2)

    pub new_port_at : (n : Name) (p : PortKey) → Among (n, p) (new_ports (retire before removed) added) → at (planned (retire before removed) added).ports n ≡ Some p
    new_port_at n p m = put_all_there (retire before removed).ports (new_ports (retire before removed) added) n p (λ w k. one_new_port n p w m k) m

    pub new_port_there : (d n : Name) (b : Birth) → Among (Port d n b) added
        → (k : ℕ) × (q : DatapathKey) × (at (all_datapaths (retire before removed) added) d ≡ Some q) × Among (n, new_port_key d b k) (new_ports_on (retire before removed) added (d, q)) × Among k (free_port_keys (retire before removed) (record { name = d; birth = q.birth }))
    new_port_there d n b m =
        let on = edit.has_datapath d n b (inr m) in
        let q = found_datapath room.for_datapaths d on.0 on.1 in
        let listed : Among (d, q.0) (all_datapaths (retire before removed) added) = at_among (all_datapaths (retire before removed) added) d q.0 q.1 in
        let enough = among_all (HasEnough (retire before removed).port_range (retire before removed).ports (retire before removed).retired_ports added) (d, q.0) (all_datapaths (retire before removed) added) room.for_ports listed in
        let a : Among (n, b) (in_order (ports_in d added)) = among_in_order (ports_in d added) n b (λ c k. (edit.one_port d d n c b (inr (in_ports added d n c k)) (inr m)).1) (ports_have added d n b m) in
        let r = with_keys_there (new_port_key d) (in_order (ports_in d added)) (free_port_keys (retire before removed) (record { name = d; birth = q.0.birth })) enough (n, b) a in
        (r.0, q.0, q.1, r.1, r.2)

    pub new_port_among : (d n : Name) (q : DatapathKey) (p : PortKey) → at (all_datapaths (retire before removed) added) d ≡ Some q → Among (n, p) (new_ports_on (retire before removed) added (d, q)) → Among (n, p) (new_ports (retire before removed) added)
    new_port_among d n q p f m = among_flat_map (new_ports_on (retire before removed) added) (d, q) (n, p) (all_datapaths (retire before removed) added) (at_among (all_datapaths (retire before removed) added) d q f) m

    pub port_not_new : (n : Name) (p : PortKey) → at (retire before removed).ports n ≡ Some p → (e : Name × PortKey) → Among e (new_ports (retire before removed) added) → e.0 ≢ n
    port_not_new n p f e m same =
        let r = flat_map_among (new_ports_on (retire before removed) added) e (all_datapaths (retire before removed) added) m in
        let owner : Among (Port r.0.0 n e.1.birth) added = subst (λ k. Among (Port r.0.0 k e.1.birth) added) same (new_port_who r.0 e r.2).0 in
        let birth : e.1.birth ≡ p.birth = (edit.one_port r.0.0 p.datapath n e.1.birth p.birth (inr owner) (port_there n p f)).1 in
        live_port_old n p r.0.0 (stays_port n p f).0 (subst (λ b. Among (Port r.0.0 n b) added) birth owner)

    pub port_kept : (n : Name) (p : PortKey) → at (retire before removed).ports n ≡ Some p → at (planned (retire before removed) added).ports n ≡ Some p
    port_kept n p f = put_all_other (retire before removed).ports (new_ports (retire before removed) added) n (port_not_new n p f) ∙ f

    pub port_cases : (n : Name) (p : PortKey) → at (planned (retire before removed) added).ports n ≡ Some p → (at (retire before removed).ports n ≡ Some p) ⊎ Among (n, p) (new_ports (retire before removed) added)
    port_cases n p f = put_all_cases (retire before removed).ports (new_ports (retire before removed) added) n p f

    -- a port that gets a key, with its datapath
    pub new_port_on : (n : Name) (p : PortKey) → Among (n, p) (new_ports (retire before removed) added)
        → (q : DatapathKey) × (at (all_datapaths (retire before removed) added) p.datapath ≡ Some q) × Among (n, p) (new_ports_on (retire before removed) added (p.datapath, q))
    new_port_on n p m =
        let r = flat_map_among (new_ports_on (retire before removed) added) (n, p) (all_datapaths (retire before removed) added) m in
        let name : r.0.0 ≡ p.datapath = sym (new_port_who r.0 (n, p) r.2).1 in
        let f : at (all_datapaths (retire before removed) added) r.0.0 ≡ Some r.0.1 = among_at r.0.0 r.0.1 (all_datapaths (retire before removed) added) all_datapaths_sorted r.1 in
        (r.0.1, subst (λ d. at (all_datapaths (retire before removed) added) d ≡ Some r.0.1) name f, subst (λ d. Among (n, p) (new_ports_on (retire before removed) added (d, r.0.1))) name r.2)

    pub new_port_owner : (n : Name) (p : PortKey) → Among (n, p) (new_ports (retire before removed) added) → Among (Port p.datapath n p.birth) added
    new_port_owner n p m = let r = new_port_on n p m in (new_port_who (p.datapath, r.0) (n, p) r.2).0

    -- ---- the edit

    pub planned_gives : (rd : List HeldDatapath) (rp : List HeldPort) → IsInOrder (λ (h : HeldDatapath). h.owner) (retire before removed).retired_datapaths rd → IsInOrder (λ (h : HeldPort). h.owner) (retire before removed).retired_ports rp
        → GivesKeysAfter (retire before removed) added (record (planned (retire before removed) added) { retired_datapaths = rd; retired_ports = rp })
    planned_gives rd rp datapaths_are ports_are = record {
      datapath_range = refl;
      port_range = refl;
      retired_datapaths = datapaths_are;
      retired_ports = ports_are;
      datapath_kept = datapath_kept;
      port_kept = port_kept;
      datapath_given = λ n b m.
          let r = new_datapath_there room.for_datapaths n b m in
          (r.0, new_datapath_at n (new_datapath_key b r.0) r.1, free_is_free (retire before removed).datapath_range (taken_datapaths (retire before removed).datapaths (retire before removed).retired_datapaths) r.0 r.2);
      port_given = λ d n b m.
          let r = new_port_there d n b m in
          (r.0, r.1, new_port_at n (new_port_key d b r.0) (new_port_among d n r.1 (new_port_key d b r.0) r.2 r.3), r.2, free_is_free (retire before removed).port_range (taken_ports (retire before removed).ports (retire before removed).retired_ports (record { name = d; birth = r.1.birth })) r.0 r.4);
      datapath_cases = λ n d f. elim (datapath_cases n d f) [ inl k ↦ inl k | inr m ↦ inr (new_datapath_who (n, d) m).0 ];
      port_cases = λ n p f. elim (port_cases n p f) [ inl k ↦ inl k | inr m ↦ inr (new_port_owner n p m) ];
    }

    least_datapaths : (rd : List HeldDatapath) (rp : List HeldPort) → GivesLeastDatapathKeys (retire before removed) added (record (planned (retire before removed) added) { retired_datapaths = rd; retired_ports = rp })
    least_datapaths rd rp = record {
      given = new_datapaths (retire before removed) added;
      order = new_datapaths_sorted;
      who = λ e. (
        (λ m. ((new_datapath_who e m).0, new_datapath_at e.0 e.1 m)),
        (λ h.
            let r = new_datapath_there room.for_datapaths e.0 e.1.birth h.0 in
            let same : new_datapath_key e.1.birth r.0 ≡ e.1 = same_Some (new_datapath_key e.1.birth r.0) e.1 (sym (new_datapath_at e.0 (new_datapath_key e.1.birth r.0) r.1) ∙ h.1) in
            subst (λ d. Among (e.0, d) (new_datapaths (retire before removed) added)) same r.1),
      );
      least = with_keys_first new_datapath_key (λ d. d.key) (λ b k. refl) (in_order (datapaths_in added)) (free_datapath_keys (retire before removed));
    }

    least_ports : (rd : List HeldDatapath) (rp : List HeldPort) (n : Name) (d : DatapathKey) → at (all_datapaths (retire before removed) added) n ≡ Some d
        → GivesLeastPortKeys (retire before removed) added (record (planned (retire before removed) added) { retired_datapaths = rd; retired_ports = rp }) (record { name = n; birth = d.birth })
    least_ports rd rp n d f = record {
      given = new_ports_on (retire before removed) added (n, d);
      order = new_ports_sorted (n, d);
      who = λ e. (
        (λ m.
            let w = new_port_who (n, d) e m in
            (w.1, subst (λ k. Among (Port k e.0 e.1.birth) added) (sym w.1) w.0, new_port_at e.0 e.1 (new_port_among n e.0 d e.1 f m))),
        (λ h.
            let r = new_port_there e.1.datapath e.0 e.1.birth h.1 in
            let p : PortKey = new_port_key e.1.datapath e.1.birth r.0 in
            let found : at (planned (retire before removed) added).ports e.0 ≡ Some p = new_port_at e.0 p (new_port_among e.1.datapath e.0 r.1 p r.2 r.3) in
            let same : p ≡ e.1 = same_Some p e.1 (sym found ∙ h.2) in
            let on : Among (e.0, e.1) (new_ports_on (retire before removed) added (e.1.datapath, r.1)) = subst (λ v. Among (e.0, v) (new_ports_on (retire before removed) added (e.1.datapath, r.1))) same r.3 in
            let there' : at (all_datapaths (retire before removed) added) n ≡ Some r.1 = subst (λ k. at (all_datapaths (retire before removed) added) k ≡ Some r.1) h.0 r.2 in
            let datapath : r.1 ≡ d = same_Some r.1 d (sym there' ∙ f) in
            subst (λ (q : Name × DatapathKey). Among (e.0, e.1) (new_ports_on (retire before removed) added q)) (λ i. (h.0 i, datapath i)) on),
      );
      least = with_keys_first (new_port_key n) (λ p. p.key) (λ b k. refl) (in_order (ports_in n added)) (free_port_keys (retire before removed) (record { name = n; birth = d.birth }));
    }

    pub planned_least : (rd : List HeldDatapath) (rp : List HeldPort) → GivesLeastKeys (retire before removed) added (record (planned (retire before removed) added) { retired_datapaths = rd; retired_ports = rp })
    planned_least rd rp = record { to_datapaths = least_datapaths rd rp; to_ports = least_ports rd rp }
