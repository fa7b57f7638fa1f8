-- When an edit is refused, and when it is not.
use Rattle.std.specs.Prelude.{◌≡◌, ◌≢◌, ℕ, ◌≤◌, ◌<◌, List, [], ◌∷◌, ◌++◌, length}
use mathlib.Core.Path.{sym, ap, subst, ◌∙◌}
use mathlib.Core.Logic.{inl, inr}
use native.Mathlib.Omega.{arith}
use Rattle.std.specs.declared.cmp.Ordering.TheVariants.{Less}
use Rattle.std.specs.Ordering.{nat_cmp, is_lt, ordering_reverse}
use Rattle.std.specs.Cmp.Lexicographic.{slice_cmp}
use Rattle.std.specs.List.{AllByRecursion}
use Rattle.std.specs.List.Sorted.{IsStrictlySortedBy}
use Rattle.std.proofs.lemmas.Bool.{true≢false}
use Rattle.std.proofs.lemmas.Cmp.{nat_list_cmp_total}
use Rattle.ovn_base.specs.lists.Among.{Among}
use Rattle.ovn_base.proofs.AmongLaws.{among_all, among_append, among_cases, split_among}
use Rattle.ovn_base.specs.declared.name.Name.{Name}
use Rattle.ovn_base.specs.declared.address.Birth.{Birth}
use Rattle.ovn_base.specs.names.ByName.{in_order, IsByName}
use Rattle.tunnel_keys.specs.Owners.{datapaths_in, ports_in}
use Rattle.tunnel_keys.specs.Keys.{Keys, IsKeys, retire, free_datapath_keys, free_port_keys, free_in, taken_ports}
use Rattle.tunnel_keys.specs.Edits.{IsKeyEdit}
use Rattle.tunnel_keys.specs.Causes.{LacksDatapathKeys, LacksPortKeys, HasKeys, IsFirstToLack}
use Rattle.std.proofs.Common.{append_assoc}
use Rattle.tunnel_keys.specs.Giving.{HasEnough, IsFirstShort, IsPortFaultOn, IsPortFault, with_keys, new_port_key, given_ports, given_ports_on}
use Rattle.tunnel_keys.specs.declared.fault.KeyFault.{KeyFault}
use Rattle.tunnel_keys.specs.declared.fault.KeyFault.TheVariants.{NoDatapathKey, NoPortKey, Memory}
use Rattle.tunnel_keys.specs.declared.owner.DatapathKey.{DatapathKey}
use Rattle.tunnel_keys.specs.declared.owner.PortKey.{PortKey}
use Rattle.tunnel_keys.specs.declared.owner.HeldPort.{HeldPort}
use Rattle.tunnel_keys.specs.declared.owner.KeyOwner.{KeyOwner}
use Rattle.ovn_base.proofs.ByNameLaws.{at_among, among_at, below_apart, above_among}
use Rattle.tunnel_keys.proofs.Lists.{append_none}
use Rattle.tunnel_keys.proofs.Plans.{all_datapaths, all_datapaths_sorted, HasRoom, datapaths_count, ports_count, there_datapath, found_datapath}

-- a name behind another in order is above it
above_behind : (before : List (Name × DatapathKey)) (n : Name) (d : DatapathKey) (behind : List (Name × DatapathKey)) → IsByName (before ++ (n, d) ∷ behind) → (m : Name) (e : DatapathKey) → Among (m, e) behind → slice_cmp nat_cmp n m ≡ Less
unfolding IsStrictlySortedBy
above_behind [] n d behind s m e k = above_among n m e behind s.0 k
above_behind (b ∷ bs) n d behind s m e k = above_behind bs n d behind s.1 m e k

not_both : (a b : Name) → slice_cmp nat_cmp a b ≡ Less → slice_cmp nat_cmp b a ≢ Less
not_both a b h k = true≢false (ap is_lt (sym k ∙ nat_list_cmp_total.antisymm b a ∙ ap ordering_reverse h))

-- all datapaths before those that are left have enough keys
pub record IsEnoughBefore (range : ℕ) (live : List (Name × PortKey)) (retired : List HeldPort) (added : List KeyOwner) (left all : List (Name × DatapathKey)) : Type 0 where
  pub front : List (Name × DatapathKey)
  pub split : all ≡ front ++ left
  pub enough : AllByRecursion (HasEnough range live retired added) front

all_more : {X : Type 0} (P : X → Type 0) (xs : List X) (x : X) → AllByRecursion P xs → P x → AllByRecursion P (xs ++ x ∷ [])
all_more P [] x h p = (p, tt)
all_more P (y ∷ ys) x h p = (h.0, all_more P ys x h.1 p)

module _ (range : ℕ) (live : List (Name × PortKey)) (retired : List HeldPort) (added : List KeyOwner) where
  -- one datapath more
  pub enough_more : (x : Name × DatapathKey) (left rest all : List (Name × DatapathKey)) → IsEnoughBefore range live retired added left all → left ≡ x ∷ rest → HasEnough range live retired added x → IsEnoughBefore range live retired added rest all
  enough_more x left rest all h e has = record {
    front = h.front ++ x ∷ [];
    split = h.split ∙ ap (λ l. h.front ++ l) e ∙ sym (append_assoc h.front (x ∷ []) rest);
    enough = all_more (HasEnough range live retired added) h.front x h.enough has;
  }

  pub given_more : (x : Name × DatapathKey) (left rest all : List (Name × DatapathKey)) (given more new : List (Name × PortKey))
      → given ++ given_ports range live retired added left ≡ given_ports range live retired added all → left ≡ x ∷ rest → more ≡ given_ports_on range live retired added x → new ≡ given ++ more
      → new ++ given_ports range live retired added rest ≡ given_ports range live retired added all
  given_more x left rest all given more new h e m n =
      ap (λ l. l ++ given_ports range live retired added rest) (n ∙ ap (λ l. given ++ l) m)
      ∙ append_assoc given (given_ports_on range live retired added x) (given_ports range live retired added rest)
      ∙ ap (λ l. given ++ given_ports range live retired added l) (sym e)
      ∙ h

  -- a datapath to which no port is added
  pub given_none : (x : Name × DatapathKey) (left rest all : List (Name × DatapathKey)) (given : List (Name × PortKey)) → ports_in x.0 added ≡ []
      → given ++ given_ports range live retired added left ≡ given_ports range live retired added all → left ≡ x ∷ rest → given ++ given_ports range live retired added rest ≡ given_ports range live retired added all
  given_none x left rest all given none h e =
      let free = free_in range (taken_ports live retired (record { name = x.0; birth = x.1.birth })) in
      given_more x left rest all given [] given h e (sym (ap (λ as'. with_keys (new_port_key x.0) (in_order as') free) none)) (sym (append_none given))

  pub enough_none : (x : Name × DatapathKey) → ports_in x.0 added ≡ [] → HasEnough range live retired added x
  enough_none x none =
      let free = free_in range (taken_ports live retired (record { name = x.0; birth = x.1.birth })) in
      let least : 0 ≤ length free = omega arith in
      subst (λ (as' : List (Name × Birth)). length (in_order as') ≤ length free) (sym none) least

  -- the first that is short
  pub fault_first : (x : Name × DatapathKey) (left rest all : List (Name × DatapathKey)) (e : KeyFault) → IsEnoughBefore range live retired added left all → left ≡ x ∷ rest
      → IsPortFaultOn x.0 (free_in range (taken_ports live retired (record { name = x.0; birth = x.1.birth }))) (in_order (ports_in x.0 added)) e → IsPortFault range live retired added all e
  fault_first x left rest all NoDatapathKey h s f = absurd f
  fault_first x left rest all Memory h s f = tt
  fault_first x left rest all (NoPortKey d) h s f = subst (λ n. IsFirstShort range live retired added all n) (sym f.0) (record {
    before = h.front;
    datapath = x.1;
    behind = rest;
    split = h.split ∙ ap (λ l. h.front ++ l) s;
    enough = h.enough;
    short = f.1;
  })

module _ (before : Keys) (added removed : List KeyOwner) (keys : IsKeys before) (edit : IsKeyEdit before added removed) where
  pub lacks_datapaths : length (free_datapath_keys (retire before removed)) < length (in_order (datapaths_in added)) → LacksDatapathKeys before added removed
  lacks_datapaths h = let count = datapaths_count before added removed keys edit in omega (arith, h, count)

  pub has_datapaths : length (in_order (datapaths_in added)) ≤ length (free_datapath_keys (retire before removed)) → ¬ LacksDatapathKeys before added removed
  has_datapaths h lacks = let count = datapaths_count before added removed keys edit in absurd (omega (arith, h, count, lacks))

  -- a datapath with enough keys does not lack any
  enough_there : (n : Name) (d : DatapathKey) → HasEnough (retire before removed).port_range (retire before removed).ports (retire before removed).retired_ports added (n, d) → (l : LacksPortKeys before added removed n) → d.birth ≡ l.birth → ⊥
  enough_there n d h l same =
      let few : length (free_port_keys (retire before removed) (record { name = n; birth = d.birth })) < length (ports_in n added) = subst (λ (b : Birth). length (free_port_keys (retire before removed) (record { name = n; birth = b })) < length (ports_in n added)) (sym same) l.few in
      let count = ports_count before added removed keys edit n in
      absurd (omega (arith, h, few, count))

  pub has_keys : HasRoom (retire before removed) added → HasKeys before added removed
  has_keys room = record {
    datapaths = has_datapaths room.for_datapaths;
    ports = λ n l.
        let q = found_datapath before added removed keys edit room.for_datapaths n l.birth l.there in
        enough_there n q.0 (among_all (HasEnough (retire before removed).port_range (retire before removed).ports (retire before removed).retired_ports added) (n, q.0) (all_datapaths (retire before removed) added) room.for_ports (at_among (all_datapaths (retire before removed) added) n q.0 q.1)) l q.2;
  }

  pub first_lacks : length (in_order (datapaths_in added)) ≤ length (free_datapath_keys (retire before removed)) → (n : Name)
      → IsFirstShort (retire before removed).port_range (retire before removed).ports (retire before removed).retired_ports added (all_datapaths (retire before removed) added) n → IsFirstToLack before added removed n
  first_lacks enough n f =
      let sorted = all_datapaths_sorted before added removed keys edit in
      let listed : Among (n, f.datapath) (all_datapaths (retire before removed) added) = subst (λ es. Among (n, f.datapath) es) (sym f.split) (split_among (n, f.datapath) f.before f.behind) in
      let count = ports_count before added removed keys edit n in
      let short = f.short in
      record {
        lacks = record {
          birth = f.datapath.birth;
          there = there_datapath before added removed keys edit n f.datapath (among_at n f.datapath (all_datapaths (retire before removed) added) sorted listed);
          few = omega (arith, short, count);
        };
        first = λ m l below.
            let q = found_datapath before added removed keys edit enough m l.birth l.there in
            let among : Among (m, q.0) (f.before ++ (n, f.datapath) ∷ f.behind) = subst (λ es. Among (m, q.0) es) f.split (at_among (all_datapaths (retire before removed) added) m q.0 q.1) in
            let split_sorted : IsByName (f.before ++ (n, f.datapath) ∷ f.behind) = subst IsByName f.split sorted in
            elim (among_append (m, q.0) f.before ((n, f.datapath) ∷ f.behind) among) [
              | inl a ↦ enough_there m q.0 (among_all (HasEnough (retire before removed).port_range (retire before removed).ports (retire before removed).retired_ports added) (m, q.0) f.before f.enough a) l q.2
              | inr b ↦ elim (among_cases (m, q.0) (n, f.datapath) f.behind b) [
                | inl e ↦ below_apart m n below (sym (ap (λ (x : Name × DatapathKey). x.0) e))
                | inr c ↦ not_both n m (above_behind f.before n f.datapath f.behind split_sorted m q.0 c) below
              ]
            ];
      }
