-- Names in order, with one more.
use Rattle.std.specs.BTreeSet.{insert_key}
use Rattle.std.specs.Prelude.{◌≡◌, ◌≤◌, ◌+◌, ◌⊎◌, List, [], ◌∷◌, ◌++◌, length, map, refl}
use Rattle.std.specs.Cmp.Lexicographic.{slice_cmp}
use Rattle.std.specs.List.Sorted.{IsStrictlySortedBy}
use Rattle.std.specs.Map.{keys_of}
use Rattle.std.specs.Ordering.{is_eq, match_ordering, nat_cmp}
use Rattle.std.specs.declared.cmp.Ordering.{Ordering}
use Rattle.std.specs.declared.cmp.Ordering.TheVariants.{Less, Equal, Greater}
use Rattle.std.proofs.Common.{arith, sym, ap, subst, ◌∙◌, inl, inr, append_assoc}
use Rattle.ovn_base.specs.lists.Among.{Among, here, there}
use Rattle.ovn_base.specs.names.ByName.{put}
use Rattle.ovn_base.specs.declared.name.Name.{Name}
use Rattle.ovn_base.proofs.AmongLaws.{among_cases, among_none, among_same}
use Rattle.ovn_base.proofs.ByNameLaws.{put_sorted, same_name}

-- ---- those that are there afterwards

pub name_put : (names : List Name) (name : Name) → Among name (insert_key (slice_cmp nat_cmp) names name)
name_put [] name = here
name_put (d ∷ names) name = by (slice_cmp nat_cmp name d) refl (name_put names name)
  where
    by : (o : Ordering) → slice_cmp nat_cmp name d ≡ o → Among name (insert_key (slice_cmp nat_cmp) names name) → Among name (match_ordering o (name ∷ d ∷ names) (d ∷ names) (d ∷ insert_key (slice_cmp nat_cmp) names name))
    by Less is ih = here
    by Equal is ih = among_same name d names (same_name name d (ap is_eq is))
    by Greater is ih = there ih

pub name_cases : (names : List Name) (name c : Name) → Among c (insert_key (slice_cmp nat_cmp) names name) → (c ≡ name) ⊎ Among c names
name_cases [] name c among = elim (among_cases c name [] among) [ inl same ↦ inl same | inr later ↦ absurd (among_none c later) ]
name_cases (d ∷ names) name c among = by (slice_cmp nat_cmp name d) among (name_cases names name c)
  where
    by : (o : Ordering) → Among c (match_ordering o (name ∷ d ∷ names) (d ∷ names) (d ∷ insert_key (slice_cmp nat_cmp) names name)) → (Among c (insert_key (slice_cmp nat_cmp) names name) → (c ≡ name) ⊎ Among c names) → (c ≡ name) ⊎ Among c (d ∷ names)
    by Less m ih = elim (among_cases c name (d ∷ names) m) [ inl same ↦ inl same | inr later ↦ inr later ]
    by Equal m ih = inr m
    by Greater m ih = elim (among_cases c d (insert_key (slice_cmp nat_cmp) names name) m) [
      | inl same ↦ inr (among_same c d names same)
      | inr later ↦ elim (ih later) [ inl same ↦ inl same | inr old ↦ inr (there old) ]
    ]

pub names_few : (names : List Name) (name : Name) → length (insert_key (slice_cmp nat_cmp) names name) ≤ length names + 1
names_few [] name = omega arith
names_few (d ∷ names) name = by (slice_cmp nat_cmp name d) (names_few names name)
  where
    by : (o : Ordering) → length (insert_key (slice_cmp nat_cmp) names name) ≤ length names + 1 → length (match_ordering o (name ∷ d ∷ names) (d ∷ names) (d ∷ insert_key (slice_cmp nat_cmp) names name)) ≤ length (d ∷ names) + 1
    by Less ih = omega arith
    by Equal ih = omega arith
    by Greater ih = omega (arith, ih)

-- ---- the order stays

keys_put : {X : Type 0} (es : List (Name × X)) (k : Name) (v : X) → keys_of (put es k v) ≡ insert_key (slice_cmp nat_cmp) (keys_of es) k
keys_put [] k v = refl
keys_put (e ∷ es) k v = by (slice_cmp nat_cmp k e.0) (keys_put es k v)
  where
    by : (o : Ordering) → keys_of (put es k v) ≡ insert_key (slice_cmp nat_cmp) (keys_of es) k → keys_of (match_ordering o ((k, v) ∷ e ∷ es) ((e.0, v) ∷ es) (e ∷ put es k v)) ≡ match_ordering o (k ∷ e.0 ∷ keys_of es) (e.0 ∷ keys_of es) (e.0 ∷ insert_key (slice_cmp nat_cmp) (keys_of es) k)
    by Less ih = refl
    by Equal ih = refl
    by Greater ih = ap (λ l. e.0 ∷ l) ih

abbrev twice : Name → Name × Name
twice name = (name, name)

keys_twice : (names : List Name) → keys_of (map twice names) ≡ names
keys_twice [] = refl
keys_twice (name ∷ names) = ap (λ l. name ∷ l) (keys_twice names)

pub names_sorted : (names : List Name) (name : Name) → IsStrictlySortedBy (slice_cmp nat_cmp) names → IsStrictlySortedBy (slice_cmp nat_cmp) (insert_key (slice_cmp nat_cmp) names name)
names_sorted names name sorted =
    subst (λ l. IsStrictlySortedBy (slice_cmp nat_cmp) l) (keys_put (map twice names) name name ∙ ap (λ l. insert_key (slice_cmp nat_cmp) l name) (keys_twice names))
    (put_sorted (map twice names) name name (subst (λ l. IsStrictlySortedBy (slice_cmp nat_cmp) l) (sym (keys_twice names)) sorted))

-- ---- how the name is put

module _ (name first : Name) (front rest : List Name) where
  -- it comes before a greater one
  pub placed_before : slice_cmp nat_cmp name first ≡ Less → (front ++ name ∷ []) ++ first ∷ rest ≡ front ++ insert_key (slice_cmp nat_cmp) (first ∷ rest) name
  placed_before less =
      append_assoc front (name ∷ []) (first ∷ rest)
      ∙ ap (λ l. front ++ l) (sym (ap (λ o. match_ordering o (name ∷ first ∷ rest) (first ∷ rest) (first ∷ insert_key (slice_cmp nat_cmp) rest name)) less))

  -- it is there
  pub placed_there : slice_cmp nat_cmp name first ≡ Equal → front ++ first ∷ rest ≡ front ++ insert_key (slice_cmp nat_cmp) (first ∷ rest) name
  placed_there equal = ap (λ l. front ++ l) (sym (ap (λ o. match_ordering o (name ∷ first ∷ rest) (first ∷ rest) (first ∷ insert_key (slice_cmp nat_cmp) rest name)) equal))

  -- it comes later
  pub placed_later : slice_cmp nat_cmp name first ≡ Greater → (front ++ first ∷ []) ++ insert_key (slice_cmp nat_cmp) rest name ≡ front ++ insert_key (slice_cmp nat_cmp) (first ∷ rest) name
  placed_later greater =
      append_assoc front (first ∷ []) (insert_key (slice_cmp nat_cmp) rest name)
      ∙ ap (λ l. front ++ l) (sym (ap (λ o. match_ordering o (name ∷ first ∷ rest) (first ∷ rest) (first ∷ insert_key (slice_cmp nat_cmp) rest name)) greater))
