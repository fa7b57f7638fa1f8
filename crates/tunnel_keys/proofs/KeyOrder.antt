-- Keys in order of identity.
use Rattle.std.specs.Prelude.{◌≡◌, ◌≢◌, ◌↔◌, ◌⊎◌, List, [], ◌∷◌, ◌++◌, map, refl}
use mathlib.Core.Path.{sym, ap, subst, ◌∙◌}
use mathlib.Core.Logic.{inl, inr}
use Rattle.std.specs.BTreeSet.{insert_key}
use Rattle.std.specs.Cmp.{IsTotalOrder, on_total, then_total, nat_cmp_total}
use Rattle.std.specs.Cmp.Lexicographic.{slice_cmp}
use Rattle.std.specs.List.{AllByRecursion}
use Rattle.std.specs.List.Sorted.{IsStrictlySortedBy}
use Rattle.std.specs.Ordering.{nat_cmp, is_gt, is_lt, match_ordering, on, ordering_reverse, ordering_then, then_cmp}
use Rattle.std.specs.declared.cmp.Ordering.{Ordering}
use Rattle.std.specs.declared.cmp.Ordering.TheVariants.{Less, Equal, Greater}
use Rattle.std.proofs.lemmas.Bool.{false≢true, true≢false}
use Rattle.std.proofs.lemmas.Cmp.{nat_list_cmp_total, tied_itself}
use Rattle.std.proofs.lemmas.Map.Lookups.{CmpEqualImpliesEq, exact_bytes, exact_unsigned}
use Rattle.ovn_base.specs.lists.Among.{Among, here, there}
use Rattle.ovn_base.proofs.AmongLaws.{among_same, among_none, among_cases, among_all, among_map}
use Rattle.tunnel_keys.proofs.Lists.{append_none}
use Rattle.tunnel_keys.specs.Order.{identity_cmp, IsByIdentity, IsInOrder}
use Rattle.tunnel_keys.specs.declared.owner.HeldDatapath.{HeldDatapath}
use Rattle.tunnel_keys.specs.declared.owner.HeldPort.{HeldPort}
use Rattle.tunnel_keys.specs.declared.owner.Identity.{Identity}

-- ---- the order of identities

pub identity_total : IsTotalOrder identity_cmp
identity_total = then_total (on_total (λ i. i.name) nat_list_cmp_total) (on_total (λ i. i.birth.0) nat_cmp_total)

-- what two orders in turn do not tell apart, neither does
pub then_equal : (a b : Ordering) → ordering_then a b ≡ Equal → (a ≡ Equal) × (b ≡ Equal)
then_equal Less b h = absurd (true≢false (ap is_lt h))
then_equal Equal b h = (refl, h)
then_equal Greater b h = absurd (true≢false (ap is_gt h))

pub identity_exact : CmpEqualImpliesEq identity_cmp
identity_exact a b h =
    let both = then_equal (slice_cmp nat_cmp a.name b.name) (nat_cmp a.birth.0 b.birth.0) h in
    let name = exact_bytes a.name b.name both.0 in
    let birth = exact_unsigned a.birth.0 b.birth.0 both.1 in
    λ i. record { name = name i; birth = record { 0 = birth i } }

pub not_both : {X : Type 0} {R : X → X → Ordering} → IsTotalOrder R → (a b : X) → R a b ≡ Less → R b a ≢ Less
not_both total a b h k = true≢false (ap is_lt (sym k ∙ total.antisymm b a ∙ ap ordering_reverse h))

pub not_below_itself : {X : Type 0} {R : X → X → Ordering} → IsTotalOrder R → (a : X) → R a a ≢ Less
not_below_itself total a h = true≢false (ap is_lt (sym h) ∙ ap is_lt (tied_itself total a))

-- ---- one more in an ordered list

module _ {X : Type 0} (R : X → X → Ordering) (exact : CmpEqualImpliesEq R) where
  pub inserted : (ks : List X) (k : X) (x : X) → Among x (insert_key R ks k) ↔ ((x ≡ k) ⊎ Among x ks)
  inserted [] k x = ((λ m. among_cases x k [] m), (λ m. elim m [ inl e ↦ among_same x k [] e | inr n ↦ absurd (among_none x n) ]))
  inserted (y ∷ ys) k x = by (R k y) refl (inserted ys k x)
    where
      by : (o : Ordering) → R k y ≡ o → Among x (insert_key R ys k) ↔ ((x ≡ k) ⊎ Among x ys) → Among x (match_ordering o (k ∷ y ∷ ys) (y ∷ ys) (y ∷ insert_key R ys k)) ↔ ((x ≡ k) ⊎ Among x (y ∷ ys))
      by Less is ih = ((λ m. among_cases x k (y ∷ ys) m), (λ m. elim m [ inl e ↦ among_same x k (y ∷ ys) e | inr n ↦ there n ]))
      by Equal is ih = ((λ m. inr m), (λ m. elim m [ inl e ↦ among_same x y ys (e ∙ exact k y is) | inr n ↦ n ]))
      by Greater is ih = (
        (λ m. elim (among_cases x y (insert_key R ys k) m) [ inl e ↦ inr (among_same x y ys e) | inr n ↦ elim (ih.0 n) [ inl e ↦ inl e | inr l ↦ inr (there l) ] ]),
        (λ m. elim m [ inl e ↦ there (ih.1 (inl e)) | inr n ↦ elim (among_cases x y ys n) [ inl e ↦ among_same x y (insert_key R ys k) e | inr l ↦ there (ih.1 (inr l)) ] ]),
      )

module _ {X : Type 0} where
  -- of the keys that are left the first comes to those that came
  pub one_came : (R : X → X → Ordering) → CmpEqualImpliesEq R → (held came new left rest : List X) (k : X) → ((x : X) → Among x held ↔ (Among x came ⊎ Among x left)) → left ≡ k ∷ rest → new ≡ insert_key R came k → (x : X) → Among x held ↔ (Among x new ⊎ Among x rest)
  one_came R exact held came new left rest k h split made x =
      let into = inserted R exact came k x in (
        (λ m. elim ((h x).0 m) [
          | inl old ↦ inl (subst (λ l. Among x l) (sym made) (into.1 (inr old)))
          | inr late ↦ elim (among_cases x k rest (subst (λ l. Among x l) split late)) [
            | inl e ↦ inl (subst (λ l. Among x l) (sym made) (into.1 (inl e)))
            | inr l ↦ inr l
          ]
        ]),
        (λ m. elim m [
          | inl now ↦ elim (into.0 (subst (λ l. Among x l) made now)) [
            | inl e ↦ (h x).1 (inr (subst (λ l. Among x l) (sym split) (among_same x k rest e)))
            | inr old ↦ (h x).1 (inl old)
          ]
          | inr l ↦ (h x).1 (inr (subst (λ l. Among x l) (sym split) (there l)))
        ]),
      )

  pub none_left : (held came all left : List X) → ((x : X) → Among x held ↔ (Among x came ⊎ Among x left)) → left ≡ [] → all ≡ came → (x : X) → Among x all ↔ Among x held
  none_left held came all left h none e x = (
    (λ m. (h x).1 (inl (subst (λ l. Among x l) e m))),
    (λ m. elim ((h x).0 m) [ inl a ↦ subst (λ l. Among x l) (sym e) a | inr b ↦ absurd (among_none x (subst (λ l. Among x l) none b)) ]),
  )

-- those that came are all, where none is left
pub all_came : {X : Type 0} (came left all keys : List X) → came ++ left ≡ all → left ≡ [] → all ≡ keys → came ≡ keys
all_came came left all keys h none e = sym (append_none came) ∙ ap (λ l. came ++ l) (sym none) ∙ h ∙ e

-- ---- one list of one set

module _ {X : Type 0} (owner : X → Identity) where
  head_below : (x : X) (xs : List X) → IsByIdentity owner (x ∷ xs) → (y : X) → Among y xs → identity_cmp (owner x) (owner y) ≡ Less
  unfolding IsStrictlySortedBy
  head_below x xs s y m = among_all (λ i. identity_cmp (owner x) i ≡ Less) (owner y) (map owner xs) s.0 (among_map owner y xs m)

  tail_ordered : (x : X) (xs : List X) → IsByIdentity owner (x ∷ xs) → IsByIdentity owner xs
  unfolding IsStrictlySortedBy
  tail_ordered x xs s = s.1

  same_first : (x y : X) (xs ys : List X) → IsByIdentity owner (x ∷ xs) → IsByIdentity owner (y ∷ ys) → Among x (y ∷ ys) → Among y (x ∷ xs) → x ≡ y
  same_first x y xs ys s t m n = elim (among_cases x y ys m) [
    | inl same ↦ same
    | inr behind ↦ elim (among_cases y x xs n) [
      | inl same ↦ sym same
      | inr also ↦ absurd (not_both identity_total (owner y) (owner x) (head_below y ys t x behind) (head_below x xs s y also))
    ]
  ]

  behind_too : (x y : X) (xs ys : List X) → x ≡ y → IsByIdentity owner (x ∷ xs) → (z : X) → Among z xs → Among z (y ∷ ys) → Among z ys
  behind_too x y xs ys same s z m n = elim (among_cases z y ys n) [
    | inl first ↦ absurd (not_below_itself identity_total (owner x) (ap (λ v. identity_cmp (owner x) (owner v)) (sym (first ∙ sym same)) ∙ head_below x xs s z m))
    | inr k ↦ k
  ]

  -- lists in order with the same members are one
  pub same_members : (xs ys : List X) → IsByIdentity owner xs → IsByIdentity owner ys → ((x : X) → Among x xs → Among x ys) → ((x : X) → Among x ys → Among x xs) → xs ≡ ys
  same_members [] [] s t f g = refl
  same_members [] (y ∷ ys) s t f g = absurd (among_none y (g y here))
  same_members (x ∷ xs) [] s t f g = absurd (among_none x (f x here))
  same_members (x ∷ xs) (y ∷ ys) s t f g =
      let same = same_first x y xs ys s t (f x here) (g y here) in
      let rest = same_members xs ys (tail_ordered x xs s) (tail_ordered y ys t) (λ z m. behind_too x y xs ys same s z m (f z (there m))) (λ z m. behind_too y x ys xs (sym same) t z m (g z (there m))) in
      λ i. same i ∷ rest i

  -- a set has one list in order
  pub one_order : (xs a b : List X) → IsInOrder owner xs a → IsInOrder owner xs b → a ≡ b
  one_order xs a b f g = same_members a b f.order g.order (λ x m. (g.same x).1 ((f.same x).0 m)) (λ x m. (f.same x).1 ((g.same x).0 m))

  -- an ordered list is that of its members
  pub own_order : (xs ys : List X) → IsByIdentity owner xs → IsInOrder owner xs ys → ys ≡ xs
  own_order xs ys s f = one_order xs ys xs f (record { order = s; same = λ x. ((λ m. m), (λ m. m)) })

  -- no key has no other list
  pub none_in_order : (xs ys : List X) → IsInOrder owner xs ys → xs ≡ [] → ys ≡ []
  none_in_order xs [] f none = refl
  none_in_order xs (y ∷ ys) f none = absurd (among_none y (subst (λ l. Among y l) none ((f.same y).0 here)))

  -- a finer order of keys with identities of their own is that of identity
  pub by_identity : (R : X → X → Ordering) → IsTotalOrder R → ((x y : X) → identity_cmp (owner x) (owner y) ≡ Greater → R x y ≡ Greater)
      → (xs : List X) → ((x y : X) → Among x xs → Among y xs → owner x ≡ owner y → x ≡ y) → IsStrictlySortedBy R xs → IsByIdentity owner xs
  unfolding IsStrictlySortedBy
  by_identity R total finer [] once s = tt
  by_identity R total finer (x ∷ xs) once s = (
    all_above xs (λ y m. once x y here (there m)) s.0,
    by_identity R total finer xs (λ y z m n. once y z (there m) (there n)) s.1,
  )
    where
      above : (y : X) → (owner x ≡ owner y → x ≡ y) → R x y ≡ Less → (o : Ordering) → identity_cmp (owner x) (owner y) ≡ o → o ≡ Less
      above y one below Less is = refl
      above y one below Equal is = absurd (not_below_itself total x (ap (λ z. R x z) (one (identity_exact (owner x) (owner y) is)) ∙ below))
      above y one below Greater is = absurd (false≢true (ap is_lt (sym (finer x y is)) ∙ ap is_lt below))

      all_above : (ys : List X) → ((y : X) → Among y ys → owner x ≡ owner y → x ≡ y) → AllByRecursion (λ y. R x y ≡ Less) ys → AllByRecursion (λ i. identity_cmp (owner x) i ≡ Less) (map owner ys)
      all_above [] one h = tt
      all_above (y ∷ ys) one h = (above y (one y here) h.0 (identity_cmp (owner x) (owner y)) refl, all_above ys (λ z m. one z (there m)) h.1)

-- ---- held keys as the program compares them: by identity, and then by the rest

abbrev pub held_datapath_cmp : HeldDatapath → HeldDatapath → Ordering
held_datapath_cmp = then_cmp (on (λ h. h.owner) identity_cmp) (on (λ h. h.key) nat_cmp)

pub held_datapath_exact : CmpEqualImpliesEq held_datapath_cmp
held_datapath_exact a b h =
    let both = then_equal (identity_cmp a.owner b.owner) (nat_cmp a.key b.key) h in
    let owner = identity_exact a.owner b.owner both.0 in
    let key = exact_unsigned a.key b.key both.1 in
    λ i. record { owner = owner i; key = key i }

pub datapaths_in_order : (xs ys : List HeldDatapath) → ((x y : HeldDatapath) → Among x xs → Among y xs → x.owner ≡ y.owner → x ≡ y) → IsStrictlySortedBy held_datapath_cmp ys → ((x : HeldDatapath) → Among x ys ↔ Among x xs) → IsInOrder (λ h. h.owner) xs ys
datapaths_in_order xs ys once sorted same = record {
  order = by_identity (λ (h : HeldDatapath). h.owner) held_datapath_cmp (then_total (on_total (λ h. h.owner) identity_total) (on_total (λ h. h.key) nat_cmp_total))
      (λ x y above. ap (λ o. ordering_then o (nat_cmp x.key y.key)) above)
      ys (λ x y m n. once x y ((same x).0 m) ((same y).0 n)) sorted;
  same = same;
}

abbrev pub held_port_cmp : HeldPort → HeldPort → Ordering
held_port_cmp = then_cmp (on (λ h. h.owner) identity_cmp) (then_cmp (on (λ h. h.datapath) identity_cmp) (on (λ h. h.key) nat_cmp))

pub held_port_exact : CmpEqualImpliesEq held_port_cmp
held_port_exact a b h =
    let both = then_equal (identity_cmp a.owner b.owner) (ordering_then (identity_cmp a.datapath b.datapath) (nat_cmp a.key b.key)) h in
    let rest = then_equal (identity_cmp a.datapath b.datapath) (nat_cmp a.key b.key) both.1 in
    let owner = identity_exact a.owner b.owner both.0 in
    let datapath = identity_exact a.datapath b.datapath rest.0 in
    let key = exact_unsigned a.key b.key rest.1 in
    λ i. record { owner = owner i; datapath = datapath i; key = key i }

pub ports_in_order : (xs ys : List HeldPort) → ((x y : HeldPort) → Among x xs → Among y xs → x.owner ≡ y.owner → x ≡ y) → IsStrictlySortedBy held_port_cmp ys → ((x : HeldPort) → Among x ys ↔ Among x xs) → IsInOrder (λ h. h.owner) xs ys
ports_in_order xs ys once sorted same = record {
  order = by_identity (λ (h : HeldPort). h.owner) held_port_cmp (then_total (on_total (λ h. h.owner) identity_total) (then_total (on_total (λ h. h.datapath) identity_total) (on_total (λ h. h.key) nat_cmp_total)))
      (λ x y above. ap (λ o. ordering_then o (ordering_then (identity_cmp x.datapath y.datapath) (nat_cmp x.key y.key))) above)
      ys (λ x y m n. once x y ((same x).0 m) ((same y).0 n)) sorted;
  same = same;
}
