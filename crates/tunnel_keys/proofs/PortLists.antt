-- The lists of ports, by datapath.
use Rattle.std.specs.Prelude.{◌≡◌, ◌≢◌, Bool, true, false, not, cond, map, ℕ, Option, List, [], ◌∷◌, ◌++◌, Some, None, refl}
use mathlib.Core.Path.{sym, ap, subst, ◌∙◌}
use mathlib.Core.Logic.{inl, inr}
use Rattle.std.specs.declared.cmp.Ordering.{Ordering}
use Rattle.std.specs.declared.cmp.Ordering.TheVariants.{Less, Equal, Greater}
use Rattle.std.specs.Option.{option_map, unwrap_or, IsSome}
use Rattle.std.specs.List.{filter}
use Rattle.std.specs.Map.{keys_of}
use Rattle.std.specs.Cmp.Lexicographic.{slice_cmp}
use Rattle.std.specs.Ordering.{nat_cmp, is_eq, match_ordering}
use Rattle.std.specs.List.Sorted.{IsStrictlySortedBy}
use Rattle.ovn_base.specs.declared.name.Name.{Name}
use Rattle.ovn_base.specs.declared.ports.Ports.{Ports}
use Rattle.std.proofs.Common.{append_assoc}
use Rattle.std.proofs.lemmas.Bool.{true≢false, false≢true, cases_Bool}
use Rattle.ovn_base.specs.lists.Among.{Among, here, there}
use Rattle.ovn_base.specs.names.ByName.{at, put, put_all, in_order, IsByName}
use Rattle.ovn_base.specs.names.SameName.{same_name}
use Rattle.tunnel_keys.specs.Same.{name_exact}
use Rattle.tunnel_keys.specs.Grouped.{listed_on}
use Rattle.tunnel_keys.specs.Owners.{is_listed, ports_in}
use Rattle.tunnel_keys.specs.Keys.{Keys, IsKeys, ports_on, port_owner}
use Rattle.tunnel_keys.specs.Giving.{lists_of}
use Rattle.tunnel_keys.specs.declared.owner.DatapathKey.{DatapathKey}
use Rattle.tunnel_keys.specs.declared.owner.PortKey.{PortKey}
use Rattle.tunnel_keys.specs.declared.owner.KeyOwner.{KeyOwner}
use Rattle.tunnel_keys.specs.declared.owner.KeyOwner.TheVariants.{Port}
use Rattle.ovn_base.proofs.AmongLaws.{among_none}
use Rattle.ovn_base.proofs.ByNameLaws.{one_or_two, at_head, at_tail, put_sorted, put_among_cases, same_name as one_name}
use Rattle.tunnel_keys.proofs.OwnerLaws.{listed_among, ports_have}
use Rattle.tunnel_keys.proofs.Lists.{in_order_same}

abbrev pub list_on : List (Name × PortKey) → Name → Ports
list_on ports n = record { list = ports_on ports n }

-- a datapath's list is found where the datapath is there
pub lists_at : (ports : List (Name × PortKey)) (ds : List (Name × DatapathKey)) (n : Name) → at (lists_of ports ds) n ≡ option_map (λ d. record { list = ports_on ports n }) (at ds n)
lists_at ports [] n = refl
lists_at ports (e ∷ ds) n = elim (one_or_two n e.0) [
  | inl same ↦
      ap (λ m. at (lists_of ports (e ∷ ds)) m) same
      ∙ at_head (e.0, list_on ports e.0) (lists_of ports ds)
      ∙ ap (λ m. Some (list_on ports m)) (sym same)
      ∙ sym (ap (λ (o : Option DatapathKey). option_map (λ d. list_on ports n) o) (ap (λ m. at (e ∷ ds) m) same ∙ at_head e ds))
  | inr apart ↦
      at_tail (e.0, list_on ports e.0) (lists_of ports ds) n apart
      ∙ lists_at ports ds n
      ∙ sym (ap (λ (o : Option DatapathKey). option_map (λ d. list_on ports n) o) (at_tail e ds n apart))
]

lists_keys : (ports : List (Name × PortKey)) (ds : List (Name × DatapathKey)) → keys_of (lists_of ports ds) ≡ keys_of ds
lists_keys ports [] = refl
lists_keys ports (e ∷ ds) = ap (λ ns. e.0 ∷ ns) (lists_keys ports ds)

pub lists_in_order : (ports : List (Name × PortKey)) (ds : List (Name × DatapathKey)) → IsByName ds → in_order (lists_of ports ds) ≡ lists_of ports ds
lists_in_order ports ds s = in_order_same (lists_of ports ds) (subst (IsStrictlySortedBy (slice_cmp nat_cmp)) (sym (lists_keys ports ds)) s)

-- one datapath's list more
pub one_list_more : (ports : List (Name × PortKey)) (e : Name × DatapathKey) (left rest : List (Name × DatapathKey)) (lists new all : List (Name × Ports)) (list : List (Name × ℕ))
    → lists ++ lists_of ports left ≡ all → left ≡ e ∷ rest → new ≡ lists ++ (e.0, record { list = list }) ∷ [] → list ≡ ports_on ports e.0 → new ++ lists_of ports rest ≡ all
one_list_more ports e left rest lists new all list h step n own =
    ap (λ l. l ++ lists_of ports rest) (n ∙ ap (λ (l : List (Name × ℕ)). lists ++ (e.0, record { list = l }) ∷ []) own)
    ∙ append_assoc lists ((e.0, list_on ports e.0) ∷ []) (lists_of ports rest)
    ∙ ap (λ ds. lists ++ lists_of ports ds) (sym step)
    ∙ h

-- ---- the ports of a datapath to which none comes and from which none goes

-- the entries of its ports
abbrev entries_on : Name → List (Name × PortKey) → List (Name × PortKey)
entries_on d es = filter (λ e. same_name d e.1.datapath) es

-- none of its ports is among the owners
none_among : (owners : List KeyOwner) (d : Name) → ports_in d owners ≡ [] → (e : Name × PortKey) → same_name d e.1.datapath ≡ true → ¬ Among (port_owner e) owners
none_among owners d none e own m =
    let named = subst (λ n. Among (Port n e.0 e.1.birth) owners) (sym (name_exact d e.1.datapath own)) m in
    among_none (e.0, e.1.birth) (subst (λ l. Among (e.0, e.1.birth) l) none (ports_have owners d e.0 e.1.birth named))

pub not_on : (owners : List KeyOwner) (d : Name) → ports_in d owners ≡ [] → (e : Name × PortKey) → Among (port_owner e) owners → same_name d e.1.datapath ≡ false
not_on owners d none e m = elim (cases_Bool (same_name d e.1.datapath)) [ inl own ↦ absurd (none_among owners d none e own m) | inr other ↦ other ]

pub kept_on : (removed : List KeyOwner) (d : Name) → ports_in d removed ≡ [] → (es : List (Name × PortKey)) → entries_on d (filter (λ e. not (is_listed removed (port_owner e))) es) ≡ entries_on d es
kept_on removed d none [] = refl
kept_on removed d none (e ∷ es) = by (same_name d e.1.datapath) refl (is_listed removed (port_owner e)) refl (kept_on removed d none es)
  where
    left : List (Name × PortKey)
    left = filter (λ e. not (is_listed removed (port_owner e))) es

    by : (s : Bool) → same_name d e.1.datapath ≡ s → (k : Bool) → is_listed removed (port_owner e) ≡ k → entries_on d left ≡ entries_on d es → entries_on d (cond (not k) (e ∷ left) left) ≡ cond s (e ∷ entries_on d es) (entries_on d es)
    by s is false k ih = λ i. cond (is i) (e ∷ ih i) (ih i)
    by false is true k ih = ih
    by true is true k ih = absurd (none_among removed d none e is (listed_among removed (port_owner e) k))

-- a port of another datapath is put, at a name that none of its ports has
put_on : (d k : Name) (v : PortKey) → same_name d v.datapath ≡ false → (es : List (Name × PortKey)) → ((f : Name × PortKey) → Among f es → same_name d f.1.datapath ≡ true → f.0 ≢ k) → entries_on d (put es k v) ≡ entries_on d es
put_on d k v other [] apart = λ i. cond (other i) ((k, v) ∷ []) []
put_on d k v other (e ∷ es) apart = by (slice_cmp nat_cmp k e.0) refl (put_on d k v other es (λ f m. apart f (there m)))
  where
    replaced : k ≡ e.0 → same_name d e.1.datapath ≡ false
    replaced same = elim (cases_Bool (same_name d e.1.datapath)) [ inl own ↦ absurd (apart e here own (sym same)) | inr not_own ↦ not_own ]

    by : (o : Ordering) → slice_cmp nat_cmp k e.0 ≡ o → entries_on d (put es k v) ≡ entries_on d es → entries_on d (match_ordering o ((k, v) ∷ e ∷ es) ((e.0, v) ∷ es) (e ∷ put es k v)) ≡ entries_on d (e ∷ es)
    by Less is ih = λ i. cond (other i) ((k, v) ∷ entries_on d (e ∷ es)) (entries_on d (e ∷ es))
    by Equal is ih =
        let old = replaced (one_name k e.0 (ap is_eq is)) in
        (λ i. cond (other i) ((e.0, v) ∷ entries_on d es) (entries_on d es)) ∙ sym (λ i. cond (old i) (e ∷ entries_on d es) (entries_on d es))
    by Greater is ih = λ i. cond (same_name d e.1.datapath) (e ∷ ih i) (ih i)

pub put_all_on : (d : Name) (gs es : List (Name × PortKey)) → ((g : Name × PortKey) → Among g gs → same_name d g.1.datapath ≡ false)
    → ((f : Name × PortKey) → Among f es → same_name d f.1.datapath ≡ true → (g : Name × PortKey) → Among g gs → f.0 ≢ g.0) → IsByName es → entries_on d (put_all es gs) ≡ entries_on d es
put_all_on d [] es others apart s = refl
put_all_on d (g ∷ gs) es others apart s =
    put_all_on d gs (put es g.0 g.1) (λ x n. others x (there n)) (λ f m own x n. elim (put_among_cases es g.0 g.1 s f.0 f.1 m) [
      | inl new ↦ absurd (true≢false (sym own ∙ ap (λ (v : PortKey). same_name d v.datapath) new.1 ∙ others g here))
      | inr old ↦ apart f old.1 own x (there n)
    ]) (put_sorted es g.0 g.1 s)
    ∙ put_on d g.0 g.1 (others g here) es (λ f m own. apart f m own g here)

-- ---- the lists of the keys

nobody_on : (d : Name) (es : List (Name × PortKey)) → ((e : Name × PortKey) → Among e es → same_name d e.1.datapath ≡ false) → entries_on d es ≡ []
nobody_on d [] none = refl
nobody_on d (e ∷ es) none = λ i. cond (none e here i) (e ∷ entries_on d es) (nobody_on d es (λ f m. none f (there m)) i)

-- each datapath's ports are found in its list, also where it has none
pub lists_have : (keys : Keys) → IsKeys keys → (d : Name) → listed_on (lists_of keys.ports keys.datapaths) d ≡ ports_on keys.ports d
lists_have keys hold d = by (at keys.datapaths d) refl
  where
    found : (o : Option DatapathKey) → at keys.datapaths d ≡ o → listed_on (lists_of keys.ports keys.datapaths) d ≡ unwrap_or (option_map (λ (p : Ports). p.list) (option_map (λ (x : DatapathKey). list_on keys.ports d) o)) []
    found o is = ap (λ (q : Option Ports). unwrap_or (option_map (λ p. p.list) q) []) (lists_at keys.ports keys.datapaths d ∙ ap (λ (q : Option DatapathKey). option_map (λ x. list_on keys.ports d) q) is)

    nobody : at keys.datapaths d ≡ None → (e : Name × PortKey) → Among e keys.ports → same_name d e.1.datapath ≡ false
    nobody none e m = elim (cases_Bool (same_name d e.1.datapath)) [
      | inl own ↦ absurd (false≢true (subst (λ o. IsSome o) (ap (λ n. at keys.datapaths n) (sym (name_exact d e.1.datapath own)) ∙ none) (hold.on_datapath e m)))
      | inr other ↦ other
    ]

    by : (o : Option DatapathKey) → at keys.datapaths d ≡ o → listed_on (lists_of keys.ports keys.datapaths) d ≡ ports_on keys.ports d
    by (Some x) is = found (Some x) is
    by None is = found None is ∙ sym (ap (λ es. map (λ (e : Name × PortKey). (e.0, e.1.key)) es) (nobody_on d keys.ports (nobody is)))
