-- What is set for a chassis that goes, that comes or that does neither, and what becomes of a zone.
use Rattle.std.specs.Prelude.{◌≡◌, ◌⊎◌, ◌&&◌, ℕ, nat_eq, Bool, true, false, cond, List, [], ◌∷◌, map, Option, Some, None, refl}
use Rattle.std.specs.List.{list_any}
use Rattle.std.specs.Map.{keys_of}
use Rattle.std.proofs.Common.{sym, ap, ◌∙◌, subst, inl, inr}
use Rattle.std.proofs.lemmas.Bool.{cases_Bool, cond-true, cond-false, false≢true, and_parts}
use Rattle.std.proofs.lemmas.Bool.Decides.{Decides-eqb}
use Rattle.chassis_sim.specs.Changing.{emptied_at, gone}
use Rattle.chassis_sim.specs.Settings.{set_in_turn}
use Rattle.chassis_sim.specs.State.{at_name}
use Rattle.conn_table.specs.Connections.{ConnectionList}
use Rattle.ovn_base.proofs.AmongLaws.{among_any, among_cases, among_map, among_none, any_among}
use Rattle.ovn_base.specs.declared.name.Name.{Name}
use Rattle.ovn_base.specs.lists.Among.{Among, here, there}
use Rattle.ovn_base.specs.lists.Once.{EachOnce}
use Rattle.ovn_base.specs.names.SameName.{bytes_decides, same_name}

-- ---- names

pub among_or_not : (c : Name) (names : List Name) → Among c names ⊎ (¬ Among c names)
among_or_not c names = elim (cases_Bool (list_any (λ d. same_name d c) names)) [
  | inl some ↦ let is = any_among (λ d. same_name d c) names some in inl (subst (λ d. Among d names) ((bytes_decides is.0 c).0 is.2) is.1)
  | inr none ↦ inr (λ among. false≢true (sym none ∙ among_any (λ d. same_name d c) c names among ((bytes_decides c c).1 refl)))
]

other_name : (a b : Name) → ¬ (a ≡ b) → same_name a b ≡ false
other_name a b apart = elim (cases_Bool (same_name a b)) [ inl same ↦ absurd (apart ((bytes_decides a b).0 same)) | inr other ↦ other ]

-- an entry whose name no other has is found by it
pub found_once : {X : Type 0} (es : List (Name × X)) (e : Name × X) → EachOnce (keys_of es) → Among e es → at_name es e.0 ≡ Some e.1
found_once [] e once among = absurd (among_none e among)
found_once {X} (d ∷ es) e once among = elim (among_cases e d es among) [
  | inl is ↦ cond-true (same_name e.0 d.0) (Some d.1) (at_name es e.0) ((bytes_decides e.0 d.0).1 (ap (λ (x : Name × X). x.0) is)) ∙ ap (λ (x : Name × X). Some x.1) (sym is)
  | inr later ↦
      let other : same_name e.0 d.0 ≡ false = other_name e.0 d.0 (λ same. once.0 (subst (λ n. Among n (keys_of es)) same (among_map (λ (x : Name × X). x.0) e es later))) in
      cond-false (same_name e.0 d.0) (Some d.1) (at_name es e.0) other ∙ found_once es e once.1 later
]

-- ---- chassis that go

module _ {X : Type 0} where
  abbrev after_going : List Name → Name → Option X → Option X
  after_going names c had = set_in_turn same_name (map gone names) c had

  nothing_left : (names : List Name) (c : Name) → after_going names c None ≡ None
  nothing_left [] c = refl
  nothing_left (n ∷ names) c = by (same_name n c) (nothing_left names c)
    where
      by : (b : Bool) → after_going names c None ≡ None → after_going names c (cond b None None) ≡ None
      by true rest = rest
      by false rest = rest

  pub gone_then : (names : List Name) (c : Name) (had : Option X) → Among c names → after_going names c had ≡ None
  gone_then [] c had among = absurd (among_none c among)
  gone_then (n ∷ names) c had among = elim (among_cases c n names among) [
    | inl is ↦ ap (after_going names c) (cond-true (same_name n c) None had ((bytes_decides n c).1 (sym is))) ∙ nothing_left names c
    | inr later ↦ gone_then names c (cond (same_name n c) None had) later
  ]

  pub stays_there : (names : List Name) (c : Name) (had : Option X) → ¬ Among c names → after_going names c had ≡ had
  stays_there [] c had apart = refl
  stays_there (n ∷ names) c had apart =
      ap (after_going names c) (cond-false (same_name n c) None had (other_name n c (λ is. apart (subst (λ d. Among d (n ∷ names)) is here)))) ∙ stays_there names c had (λ later. apart (there later))

-- ---- chassis that come

module _ {T X : Type 0} (of : T → X) where
  abbrev after_coming : List (Name × T) → Name → Option X → Option X
  after_coming added c had = set_in_turn same_name (map (λ (e : Name × T). (e.0, Some (of e.1))) added) c had

  pub none_comes : (added : List (Name × T)) (c : Name) (had : Option X) → ¬ Among c (keys_of added) → after_coming added c had ≡ had
  none_comes [] c had apart = refl
  none_comes (a ∷ added) c had apart =
      ap (after_coming added c) (cond-false (same_name a.0 c) (Some (of a.1)) had (other_name a.0 c (λ is. apart (subst (λ d. Among d (a.0 ∷ keys_of added)) is here)))) ∙ none_comes added c had (λ later. apart (there later))

  -- the last that comes under the name
  pub record Comes (added : List (Name × T)) (c : Name) (after : Option X) : Type 0 where
    pub entry : Name × T
    pub among : Among entry added
    pub own : entry.0 ≡ c
    pub is : after ≡ Some (of entry.1)

  pub one_comes : (added : List (Name × T)) (c : Name) (had : Option X) → Among c (keys_of added) → Comes added c (after_coming added c had)
  one_comes [] c had among = absurd (among_none c among)
  one_comes (a ∷ added) c had among = elim (among_or_not c (keys_of added)) [
    | inl later ↦ let r = one_comes added c (cond (same_name a.0 c) (Some (of a.1)) had) later in record { entry = r.entry; among = there r.among; own = r.own; is = r.is }
    | inr none ↦ elim (among_cases c a.0 (keys_of added) among) [
      | inl is ↦ record {
        entry = a;
        among = here;
        own = sym is;
        is = none_comes added c (cond (same_name a.0 c) (Some (of a.1)) had) none ∙ cond-true (same_name a.0 c) (Some (of a.1)) had ((bytes_decides a.0 c).1 (sym is));
      }
      | inr later ↦ absurd (none later)
    ]
  ]

-- ---- zones that are emptied

module _ (c : Name) (z : ℕ) where
  abbrev is_zone : Name × ℕ → Bool
  is_zone e = same_name e.0 c && nat_eq e.1 z

  zone_is : (e : Name × ℕ) → is_zone e ≡ true → e ≡ (c, z)
  zone_is e h =
      let parts = and_parts (same_name e.0 c) (nat_eq e.1 z) h in
      let name : e.0 ≡ c = (bytes_decides e.0 c).0 parts.0 in
      let number : e.1 ≡ z = (Decides-eqb e.1 z).0 parts.1 in
      λ i. (name i, number i)

  own_zone : (e : Name × ℕ) → e ≡ (c, z) → is_zone e ≡ true
  own_zone e is = ap is_zone is ∙ ap (λ b. b && nat_eq z z) ((bytes_decides c c).1 refl) ∙ (Decides-eqb z z).1 refl

  stays_empty : (emptied : List (Name × ℕ)) → emptied_at emptied c z (Some []) ≡ Some []
  stays_empty [] = refl
  stays_empty (e ∷ emptied) = by (is_zone e) (stays_empty emptied)
    where
      by : (b : Bool) → emptied_at emptied c z (Some []) ≡ Some [] → emptied_at emptied c z (cond b (Some []) (Some [])) ≡ Some []
      by true rest = rest
      by false rest = rest

  pub emptied_then : (emptied : List (Name × ℕ)) (list : Option ConnectionList) → Among (c, z) emptied → emptied_at emptied c z list ≡ Some []
  emptied_then [] list among = absurd (among_none (c, z) among)
  emptied_then (e ∷ emptied) list among = elim (among_cases (c, z) e emptied among) [
    | inl is ↦ ap (emptied_at emptied c z) (cond-true (is_zone e) (Some []) list (own_zone e (sym is))) ∙ stays_empty emptied
    | inr later ↦ emptied_then emptied (cond (is_zone e) (Some []) list) later
  ]

  pub kept_then : (emptied : List (Name × ℕ)) (list : Option ConnectionList) → ¬ Among (c, z) emptied → emptied_at emptied c z list ≡ list
  kept_then [] list apart = refl
  kept_then (e ∷ emptied) list apart = elim (cases_Bool (is_zone e)) [
    | inl same ↦ absurd (apart (subst (λ x. Among x (e ∷ emptied)) (zone_is e same) here))
    | inr other ↦ ap (emptied_at emptied c z) (cond-false (is_zone e) (Some []) list other) ∙ kept_then emptied list (λ later. apart (there later))
  ]
