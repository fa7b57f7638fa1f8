-- Names whose members differ.
use Rattle.std.specs.Prelude.{◌≡◌, ◌≢◌, ◌⊎◌, ◌↔◌, cond, List, [], ◌∷◌, map, Option, Some, None, unwrap_or, option_map, nat_eq, refl}
use mathlib.Core.Path.{sym, ap, subst, ◌∙◌}
use mathlib.Core.Logic.{inl, inr}
use Rattle.std.specs.BTreeMap.{is_at}
use Rattle.std.specs.BTreeSet.{insert_key}
use Rattle.std.specs.Cmp.Lexicographic.{slice_cmp, pointwise}
use Rattle.std.specs.List.Sorted.{IsStrictlySortedBy}
use Rattle.std.specs.Result.{IfOk}
use Rattle.std.specs.declared.result.Result.{Result}
use Rattle.std.specs.declared.result.Result.TheVariants.{Ok, Err}
use Rattle.std.specs.Ordering.{nat_cmp, is_lt, is_eq, match_ordering, ordering_reverse}
use Rattle.std.specs.declared.cmp.Ordering.{Ordering}
use Rattle.std.specs.declared.cmp.Ordering.TheVariants.{Less, Equal, Greater}
use Rattle.std.proofs.lemmas.Bool.{true≢false}
use Rattle.std.proofs.lemmas.Cmp.{nat_list_cmp_total, tied_itself}
use Rattle.std.proofs.lemmas.Map.Lookups.{exact_bytes}
use Rattle.std.proofs.lemmas.Map.Made.{lookup-map_values}
use Rattle.std.proofs.lemmas.Map.Text.{is_eq-slice_cmp}
use Rattle.ovn_base.specs.declared.name.Name.{Name}
use Rattle.ovn_base.specs.lists.Among.{Among, here, there}
use Rattle.ovn_base.specs.names.ByName.{at, IsByName}
use Rattle.ovn_base.proofs.AmongLaws.{among_same, among_none, among_cases, among_all}
use Rattle.ovn_base.proofs.ByNameLaws.{own_name, one_or_two, other_name, at_among, among_at}
use Rattle.match_cubes.specs.Points.{named}
use Rattle.address_sets.specs.Members.{members_there, HasOther, AreDiffering}

-- ---- names

not_both : (a b : Name) → slice_cmp nat_cmp a b ≡ Less → slice_cmp nat_cmp b a ≢ Less
not_both a b h k = true≢false (ap is_lt (sym k ∙ nat_list_cmp_total.antisymm b a ∙ ap ordering_reverse h))

not_below_itself : (a : Name) → slice_cmp nat_cmp a a ≢ Less
not_below_itself a h = true≢false (ap is_lt (sym h) ∙ ap is_lt (tied_itself nat_list_cmp_total a))

-- ---- one list of names

abbrev IsRising : List Name → Type 0
IsRising names = IsStrictlySortedBy (slice_cmp nat_cmp) names

head_below : (x : Name) (xs : List Name) → IsRising (x ∷ xs) → (y : Name) → Among y xs → slice_cmp nat_cmp x y ≡ Less
unfolding IsStrictlySortedBy
head_below x xs s y m = among_all (λ n. slice_cmp nat_cmp x n ≡ Less) y xs s.0 m

tail_rising : (x : Name) (xs : List Name) → IsRising (x ∷ xs) → IsRising xs
unfolding IsStrictlySortedBy
tail_rising x xs s = s.1

same_first : (x y : Name) (xs ys : List Name) → IsRising (x ∷ xs) → IsRising (y ∷ ys) → Among x (y ∷ ys) → Among y (x ∷ xs) → x ≡ y
same_first x y xs ys s t m n = elim (among_cases x y ys m) [
  | inl same ↦ same
  | inr behind ↦ elim (among_cases y x xs n) [
    | inl same ↦ sym same
    | inr also ↦ absurd (not_both y x (head_below y ys t x behind) (head_below x xs s y also))
  ]
]

behind_too : (x y : Name) (xs ys : List Name) → x ≡ y → IsRising (x ∷ xs) → (z : Name) → Among z xs → Among z (y ∷ ys) → Among z ys
behind_too x y xs ys same s z m n = elim (among_cases z y ys n) [
  | inl first ↦ absurd (not_below_itself x (ap (λ v. slice_cmp nat_cmp x v) (sym (first ∙ sym same)) ∙ head_below x xs s z m))
  | inr k ↦ k
]

-- names in order with the same members are one list
pub one_rising : (xs ys : List Name) → IsRising xs → IsRising ys → ((x : Name) → Among x xs → Among x ys) → ((x : Name) → Among x ys → Among x xs) → xs ≡ ys
one_rising [] [] s t f g = refl
one_rising [] (y ∷ ys) s t f g = absurd (among_none y (g y here))
one_rising (x ∷ xs) [] s t f g = absurd (among_none x (f x here))
one_rising (x ∷ xs) (y ∷ ys) s t f g =
    let same = same_first x y xs ys s t (f x here) (g y here) in
    let rest = one_rising xs ys (tail_rising x xs s) (tail_rising y ys t) (λ z m. behind_too x y xs ys same s z m (f z (there m))) (λ z m. behind_too y x ys xs (sym same) t z m (g z (there m))) in
    λ i. same i ∷ rest i

pub one_answer : {X : Type 0} (old new : Name → List X) (a b : List Name) → AreDiffering old new a → AreDiffering old new b → a ≡ b
one_answer old new a b f g = one_rising a b f.in_order g.in_order (λ x m. (g.exact x).1 ((f.exact x).0 m)) (λ x m. (f.exact x).1 ((g.exact x).0 m))

-- ---- one name more

pub inserted : (ks : List Name) (k : Name) (x : Name) → Among x (insert_key (slice_cmp nat_cmp) ks k) ↔ (Among x ks ⊎ (x ≡ k))
inserted [] k x = ((λ m. elim (among_cases x k [] m) [ inl e ↦ inr e | inr n ↦ inl n ]), (λ m. elim m [ inl n ↦ absurd (among_none x n) | inr e ↦ among_same x k [] e ]))
inserted (y ∷ ys) k x = by (slice_cmp nat_cmp k y) refl (inserted ys k x)
  where
    by : (o : Ordering) → slice_cmp nat_cmp k y ≡ o → Among x (insert_key (slice_cmp nat_cmp) ys k) ↔ (Among x ys ⊎ (x ≡ k)) → Among x (match_ordering o (k ∷ y ∷ ys) (y ∷ ys) (y ∷ insert_key (slice_cmp nat_cmp) ys k)) ↔ (Among x (y ∷ ys) ⊎ (x ≡ k))
    by Less is ih = ((λ m. elim (among_cases x k (y ∷ ys) m) [ inl e ↦ inr e | inr n ↦ inl n ]), (λ m. elim m [ inl n ↦ there n | inr e ↦ among_same x k (y ∷ ys) e ]))
    by Equal is ih = ((λ m. inl m), (λ m. elim m [ inl n ↦ n | inr e ↦ among_same x y ys (e ∙ exact_bytes k y is) ]))
    by Greater is ih = (
      (λ m. elim (among_cases x y (insert_key (slice_cmp nat_cmp) ys k) m) [ inl e ↦ inl (among_same x y ys e) | inr n ↦ elim (ih.0 n) [ inl l ↦ inl (there l) | inr e ↦ inr e ] ]),
      (λ m. elim m [ inl n ↦ elim (among_cases x y ys n) [ inl e ↦ among_same x y (insert_key (slice_cmp nat_cmp) ys k) e | inr l ↦ there (ih.1 (inl l)) ] | inr e ↦ there (ih.1 (inr e)) ]),
    )

-- ---- what a look-up by name finds

same_test : (key name : Name) → pointwise nat_eq key name ≡ is_at (slice_cmp nat_cmp name) key
same_test key name = elim (one_or_two name key) [
  | inl same ↦ sym (is_eq-slice_cmp key name) ∙ ap (λ n. is_eq (slice_cmp nat_cmp key n)) same ∙ own_name key ∙ sym (own_name key) ∙ ap (λ n. is_at (slice_cmp nat_cmp n) key) (sym same)
  | inr apart ↦ sym (is_eq-slice_cmp key name) ∙ other_name key name (λ e. apart (sym e)) ∙ sym (other_name name key apart)
]

named_at : {A : Type 0} (entries : List (Name × A)) (name : Name) → named entries name ≡ at entries name
unfolding named
named_at [] name = refl
named_at (e ∷ es) name = λ i. cond (same_test e.0 name i) (Some e.1) (named_at es name i)

-- the members that a match reads are those of the record at the name
pub read_members : {V X : Type 0} (members : V → List X) (entries : List (Name × V)) (name : Name) → unwrap_or (named (map (λ e. (e.0, members e.1)) entries) name) [] ≡ members_there members entries name
read_members members entries name = ap (λ o. unwrap_or o []) (named_at (map (λ e. (e.0, members e.1)) entries) name ∙ lookup-map_values members (is_at (slice_cmp nat_cmp name)) entries)

-- ---- names whose members differ

module _ {V X : Type 0} (members : V → List X) where
  -- an entry of the name is what stands there
  there_is : (entries : List (Name × V)) (name : Name) (value : V) → IsByName entries → Among (name, value) entries → members_there members entries name ≡ members value
  there_is entries name value sorted m = ap (λ o. unwrap_or (option_map members o) []) (among_at name value entries sorted m)

  other_differs : (others entries : List (Name × V)) (name : Name) → IsByName entries → HasOther members others entries name → members_there members others name ≢ members_there members entries name
  other_differs others entries name sorted h e = h.2 (e ∙ there_is entries name h.0 sorted h.1)

  -- where the members differ, an entry of the one or of the other has others
  differs_other : (old new : List (Name × V)) (name : Name) → members_there members old name ≢ members_there members new name → HasOther members new old name ⊎ HasOther members old new name
  differs_other old new name apart = by (at old name) refl (at new name) refl
    where
      by : (a : Option V) → at old name ≡ a → (b : Option V) → at new name ≡ b → HasOther members new old name ⊎ HasOther members old new name
      by (Some v) is b at_new = inl (v, at_among old name v is, λ e. apart (ap (λ o. unwrap_or (option_map members o) []) is ∙ sym e))
      by None is (Some w) at_new = inr (w, at_among new name w at_new, λ e. apart (e ∙ sym (ap (λ o. unwrap_or (option_map members o) []) at_new)))
      by None is None at_new = absurd (apart (ap (λ o. unwrap_or (option_map members o) []) (is ∙ sym at_new)))

  -- names to which both have brought theirs are those that differ
  pub both_came : (old new : List (Name × V)) (none one two names : List Name) → IsByName old → IsByName new → none ≡ []
      → ((n : Name) → Among n one ↔ (Among n none ⊎ HasOther members new old n))
      → ((n : Name) → Among n two ↔ (Among n one ⊎ HasOther members old new n))
      → names ≡ two → IsStrictlySortedBy (slice_cmp nat_cmp) names
      → AreDiffering (members_there members old) (members_there members new) names
  both_came old new none one two names old_sorted new_sorted empty first second same sorted = record {
    exact = λ n. (
      (λ m. elim ((second n).0 (subst (λ l. Among n l) same m)) [
        | inl early ↦ elim ((first n).0 early) [
          | inl never ↦ absurd (among_none n (subst (λ l. Among n l) empty never))
          | inr h ↦ λ e. other_differs new old n old_sorted h (sym e)
        ]
        | inr h ↦ other_differs old new n new_sorted h
      ]),
      (λ apart. subst (λ l. Among n l) (sym same) (elim (differs_other old new n apart) [
        | inl h ↦ (second n).1 (inl ((first n).1 (inr h)))
        | inr h ↦ (second n).1 (inr h)
      ])),
    );
    in_order = sorted;
  }

  -- one entry comes to those that came
  pub one_came : (others entries left rest : List (Name × V)) (k : Name) (v : V) (first old new : List Name)
      → ((n : Name) → (Among n first ⊎ HasOther members others entries n) ↔ (Among n old ⊎ HasOther members others left n))
      → left ≡ (k, v) ∷ rest
      → ((n : Name) → Among n new ↔ (Among n old ⊎ ((n ≡ k) × (members_there members others k ≢ members v))))
      → (n : Name) → (Among n first ⊎ HasOther members others entries n) ↔ (Among n new ⊎ HasOther members others rest n)
  one_came others entries left rest k v first old new h split step n = (
    (λ m. elim ((h n).0 m) [
      | inl early ↦ inl ((step n).1 (inl early))
      | inr late ↦ elim (among_cases (n, late.0) (k, v) rest (subst (λ l. Among (n, late.0) l) split late.1)) [
        | inl e ↦ inl ((step n).1 (inr (ap (λ (p : Name × V). p.0) e, λ same. late.2 (ap (λ (p : Name × V). members_there members others p.0) e ∙ same ∙ sym (ap (λ (p : Name × V). members p.1) e)))))
        | inr l ↦ inr (late.0, l, late.2)
      ]
    ]),
    (λ m. elim m [
      | inl now ↦ elim ((step n).0 now) [
        | inl early ↦ (h n).1 (inl early)
        | inr e ↦ (h n).1 (inr (v, subst (λ l. Among (n, v) l) (sym split) (among_same (n, v) (k, v) rest (ap (λ (q : Name). (q, v)) e.0)), λ same. e.1 (ap (λ q. members_there members others q) (sym e.0) ∙ same)))
      ]
      | inr l ↦ (h n).1 (inr (l.0, subst (λ es. Among (n, l.0) es) (sym split) (there l.1), l.2))
    ]),
  )

  -- and at the end all have come
  pub none_left : (others entries left : List (Name × V)) (first last : List Name)
      → ((n : Name) → (Among n first ⊎ HasOther members others entries n) ↔ (Among n last ⊎ HasOther members others left n))
      → left ≡ []
      → (n : Name) → Among n last ↔ (Among n first ⊎ HasOther members others entries n)
  none_left others entries left first last h none n = (
    (λ m. (h n).1 (inl m)),
    (λ m. elim ((h n).0 m) [ inl a ↦ a | inr b ↦ absurd (among_none (n, b.0) (subst (λ l. Among (n, b.0) l) none b.1)) ]),
  )

-- ---- what the calls gave

-- the name was put, for a reason
pub one_put : {A : Type 0} (keys new : List Name) (k : Name) → A → new ≡ insert_key (slice_cmp nat_cmp) keys k → (n : Name) → Among n new ↔ (Among n keys ⊎ ((n ≡ k) × A))
one_put keys new k reason made n =
    let into = inserted keys k n in (
      (λ m. elim (into.0 (subst (λ l. Among n l) made m)) [ inl old ↦ inl old | inr e ↦ inr (e, reason) ]),
      (λ m. subst (λ l. Among n l) (sym made) (elim m [ inl old ↦ into.1 (inl old) | inr e ↦ into.1 (inr e.0) ])),
    )

-- both hold of what is there
pub both_ok : {A E : Type 0} {P Q R : A → Type 0} (r : Result A E) → IfOk r P → IfOk r Q → ((a : A) → P a → Q a → R a) → IfOk r R
both_ok (Ok a) p q f = f a p q
both_ok (Err e) p q f = tt

-- the same members differ at the same names
pub same_differ : {X : Type 0} (old new seen_old seen_new : Name → List X) (names : List Name) → ((n : Name) → seen_old n ≡ old n) → ((n : Name) → seen_new n ≡ new n) → AreDiffering old new names → AreDiffering seen_old seen_new names
same_differ old new seen_old seen_new names p q f = record {
  exact = λ n. ((λ m e. (f.exact n).0 m (sym (p n) ∙ e ∙ q n)), (λ apart. (f.exact n).1 (λ e. apart (p n ∙ e ∙ sym (q n)))));
  in_order = f.in_order;
}
