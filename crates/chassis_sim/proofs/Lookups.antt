-- Look-ups in what is seen of entries, and in settings.
use Rattle.std.specs.Prelude.{◌≡◌, ◌<◌, ℕ, zero, suc, length, take, drop, Bool, true, false, cond, List, [], ◌∷◌, ◌++◌, map, Option, Some, None, is_some, refl}
use Rattle.std.specs.List.{AllByRecursion}
use Rattle.std.specs.Map.{keys_of, lookup, set_value}
use Rattle.std.specs.Option.{option_map}
use Rattle.std.proofs.Common.{sym, ap, subst, ◌∙◌, get_or, arith, drop-cons}
use Rattle.std.proofs.lemmas.List.{take-append-drop}
use Rattle.std.proofs.lemmas.Bool.{false≢true}
use Rattle.std.proofs.lemmas.Option.{same_Some}
use Rattle.ovn_base.specs.lists.Among.{Among, here, there}
use Rattle.ovn_base.specs.lists.Once.{EachOnce}
use Rattle.ovn_base.specs.names.SameName.{same_name, bytes_decides}
use Rattle.ovn_base.specs.declared.name.Name.{Name}
use Rattle.chassis_sim.specs.Settings.{set_in_turn}
use Rattle.chassis_sim.specs.State.{at_name}
use Rattle.chassis_sim.specs.Tables.{seen_by}

module _ {T X : Type 0} (f : T → X) where
  -- what is seen of the value that is found
  pub seen_lookup : (test : Name → Bool) (es : List (Name × T)) → lookup test (map (seen_by f) es) ≡ option_map f (lookup test es)
  seen_lookup test [] = refl
  seen_lookup test (e ∷ es) = by (test e.0) (seen_lookup test es)
    where
      by : (b : Bool) → lookup test (map (seen_by f) es) ≡ option_map f (lookup test es) → cond b (Some (f e.1)) (lookup test (map (seen_by f) es)) ≡ option_map f (cond b (Some e.1) (lookup test es))
      by true ih = refl
      by false ih = ih

  -- a value of which the same is seen leaves what is seen of the entries
  pub seen_set : (test : Name → Bool) (es : List (Name × T)) (old new : T) → lookup test es ≡ Some old → f new ≡ f old → map (seen_by f) (set_value test es new) ≡ map (seen_by f) es
  seen_set test [] old new found same = refl
  seen_set test (e ∷ es) old new found same = by (test e.0) found (seen_set test es old new)
    where
      by : (b : Bool) → cond b (Some e.1) (lookup test es) ≡ Some old → (lookup test es ≡ Some old → f new ≡ f old → map (seen_by f) (set_value test es new) ≡ map (seen_by f) es)
          → map (seen_by f) (cond b ((e.0, new) ∷ es) (e ∷ set_value test es new)) ≡ (e.0, f e.1) ∷ map (seen_by f) es
      by true found ih = ap (λ x. (e.0, x) ∷ map (seen_by f) es) (same ∙ ap f (sym (same_Some e.1 old found)))
      by false found ih = ap (λ rest. (e.0, f e.1) ∷ rest) (ih found same)

  -- a value that is written is seen where it was
  pub seen_written : (test : Name → Bool) (es : List (Name × T)) (new : T) → map (seen_by f) (set_value test es new) ≡ set_value test (map (seen_by f) es) (f new)
  seen_written test [] new = refl
  seen_written test (e ∷ es) new = by (test e.0) (seen_written test es new)
    where
      by : (b : Bool) → map (seen_by f) (set_value test es new) ≡ set_value test (map (seen_by f) es) (f new)
          → map (seen_by f) (cond b ((e.0, new) ∷ es) (e ∷ set_value test es new)) ≡ cond b ((e.0, f new) ∷ map (seen_by f) es) ((e.0, f e.1) ∷ set_value test (map (seen_by f) es) (f new))
      by true ih = refl
      by false ih = ap (λ rest. (e.0, f e.1) ∷ rest) ih

  -- of a value that is found, and of none
  pub seen_found : (es : List (Name × T)) (name : Name) (t : T) → at_name es name ≡ Some t → at_name (map (seen_by f) es) name ≡ Some (f t)
  seen_found es name t found = seen_lookup (same_name name) es ∙ ap (option_map f) found

  pub seen_none : (es : List (Name × T)) (name : Name) → at_name es name ≡ None → at_name (map (seen_by f) es) name ≡ None
  seen_none es name absent = seen_lookup (same_name name) es ∙ ap (option_map f) absent

  -- the same is seen of what is found alike
  pub seen_same : (es fs : List (Name × T)) (name : Name) → at_name fs name ≡ at_name es name → at_name (map (seen_by f) fs) name ≡ at_name (map (seen_by f) es) name
  seen_same es fs name is = seen_lookup (same_name name) fs ∙ ap (option_map f) is ∙ sym (seen_lookup (same_name name) es)

  -- what is seen of a setting
  pub seen_put : (es fs : List (Name × T)) (w : Option T) (test : Bool) (name : Name) → at_name fs name ≡ cond test w (at_name es name) → at_name (map (seen_by f) fs) name ≡ cond test (option_map f w) (at_name (map (seen_by f) es) name)
  seen_put es fs w test name is = seen_lookup (same_name name) fs ∙ ap (option_map f) is ∙ by test
    where
      by : (b : Bool) → option_map f (cond b w (at_name es name)) ≡ cond b (option_map f w) (at_name (map (seen_by f) es) name)
      by true = refl
      by false = sym (seen_lookup (same_name name) es)

module _ {K V : Type 0} (same : K → K → Bool) where
  -- settings of what was set
  pub set_append : (ss rest : List (K × Option V)) (key : K) (had : Option V) → set_in_turn same (ss ++ rest) key had ≡ set_in_turn same rest key (set_in_turn same ss key had)
  set_append [] rest key had = refl
  set_append (s ∷ ss) rest key had = set_append ss rest key (cond (same s.0 key) s.1 had)

module _ {K X : Type 0} where
  -- the same keys stand there after a value is written
  pub written_some : (test other : K → Bool) (es : List (K × X)) (new : X) → is_some (lookup other (set_value test es new)) ≡ is_some (lookup other es)
  written_some test other [] new = refl
  written_some test other (e ∷ es) new = by (test e.0) (written_some test other es new)
    where
      by : (b : Bool) → is_some (lookup other (set_value test es new)) ≡ is_some (lookup other es)
          → is_some (lookup other (cond b ((e.0, new) ∷ es) (e ∷ set_value test es new))) ≡ is_some (cond (other e.0) (Some e.1) (lookup other es))
      by true ih = both (other e.0)
        where
          both : (d : Bool) → is_some (cond d (Some new) (lookup other es)) ≡ is_some (cond d (Some e.1) (lookup other es))
          both true = refl
          both false = refl
      by false ih = rest (other e.0)
        where
          rest : (d : Bool) → is_some (cond d (Some e.1) (lookup other (set_value test es new))) ≡ is_some (cond d (Some e.1) (lookup other es))
          rest true = refl
          rest false = ih

module _ {X : Type 0} where
  -- a name that isn't there is found nowhere
  pub none_named : (es : List (Name × X)) (name : Name) → ¬ Among name (keys_of es) → at_name es name ≡ None
  none_named [] name absent = refl
  none_named (e ∷ es) name absent = by (same_name name e.0) refl (none_named es name (λ m. absent (there m)))
    where
      by : (b : Bool) → same_name name e.0 ≡ b → at_name es name ≡ None → cond b (Some e.1) (at_name es name) ≡ None
      by true is rest = absurd (absent (subst (λ n. Among name (n ∷ keys_of es)) ((bytes_decides name e.0).0 is) here))
      by false is rest = rest

  -- the names of the others are others
  pub others_apart : (name : Name) (es : List (Name × X)) → ¬ Among name (keys_of es) → AllByRecursion (λ e. same_name name e.0 ≡ false) es
  others_apart name [] absent = tt
  others_apart name (e ∷ es) absent = (by (same_name name e.0) refl, others_apart name es (λ m. absent (there m)))
    where
      by : (b : Bool) → same_name name e.0 ≡ b → b ≡ false
      by true is = absurd (absent (subst (λ n. Among name (n ∷ keys_of es)) ((bytes_decides name e.0).0 is) here))
      by false is = refl

  -- a name that stands later isn't among those before
  pub once_before : (before after : List (Name × X)) (e : Name × X) → EachOnce (keys_of (before ++ e ∷ after)) → ¬ Among e.0 (keys_of before)
  once_before [] after e once m = elim m [ ]
  once_before (d ∷ before) after e once here = once.0 (later before)
    where
      later : (ds : List (Name × X)) → Among e.0 (keys_of (ds ++ e ∷ after))
      later [] = here
      later (d ∷ ds) = there (later ds)
  once_before (d ∷ before) after e once (there m) = once_before before after e once.1 m

-- the test of names is one way as the other
pub same_back : (a b : Name) → same_name a b ≡ false → same_name b a ≡ false
same_back a b apart = by (same_name b a) refl
  where
    by : (r : Bool) → same_name b a ≡ r → r ≡ false
    by true is = sym (subst (λ n. same_name n b ≡ true) ((bytes_decides b a).0 is) ((bytes_decides b b).1 refl)) ∙ apart
    by false is = refl

-- the elements up to one, with that one
pub take_more : {X : Type 0} (xs : List X) (i : ℕ) (x : X) → i < length xs → x ≡ get_or xs i x → take (suc i) xs ≡ take i xs ++ x ∷ []
take_more [] i x below is = absurd (omega (arith, below))
take_more (y ∷ ys) zero x below is = ap (λ z. z ∷ []) (sym is)
take_more (y ∷ ys) (suc i) x below is = ap (λ l. y ∷ l) (take_more ys i x (omega (arith, below)) is)

-- and the whole list round it
pub split_at : {X : Type 0} (xs : List X) (i : ℕ) (x : X) → i < length xs → x ≡ get_or xs i x → xs ≡ take i xs ++ x ∷ drop (suc i) xs
split_at xs i x below is = sym (take-append-drop i xs) ∙ ap (λ l. take i xs ++ l) (drop-cons xs i x below ∙ (λ j. sym is j ∷ drop (suc i) xs))

-- what is found is some
pub is_found : {X : Type 0} (found : Option X) (x : X) → found ≡ Some x → is_some found ≡ true
is_found found x is = ap is_some is

-- what is there on both sides or on neither
pub not_both : {A B : Type 0} (a : Option A) (b : Option B) (x : B) → is_some a ≡ is_some b → a ≡ None → b ≡ Some x → ⊥
not_both a b x same none found = false≢true (sym (ap is_some none) ∙ same ∙ ap is_some found)

-- what is seen of a value, is there where the value is
pub map_some : {A B : Type 0} (f : A → B) (o : Option A) → is_some (option_map f o) ≡ is_some o
map_some f None = refl
map_some f (Some x) = refl
