-- What is found in a list once the value at a key was set.
use Rattle.std.specs.Prelude.{◌≡◌, Bool, true, false, cond, List, [], ◌∷◌, Some, is_some, refl}
use Rattle.std.specs.Map.{keys_of, lookup, set_value}
use Rattle.std.proofs.Common.{sym, ap, ◌∙◌}
use Rattle.std.proofs.lemmas.Bool.{cond-true, cond-false, false≢true}

module _ {K X : Type 0} (test : K → Bool) where
  -- the keys stay
  pub set_keys : (es : List (K × X)) (w : X) → keys_of (set_value test es w) ≡ keys_of es
  set_keys [] w = refl
  set_keys (e ∷ es) w = by (set_keys es w) (test e.0)
    where
      by : keys_of (set_value test es w) ≡ keys_of es → (b : Bool) → keys_of (cond b ((e.0, w) ∷ es) (e ∷ set_value test es w)) ≡ e.0 ∷ keys_of es
      by later true = refl
      by later false = ap (λ (ks : List K). e.0 ∷ ks) later

  -- the value is found, where the key was there
  pub set_same : (es : List (K × X)) (w : X) → is_some (lookup test es) ≡ true → lookup test (set_value test es w) ≡ Some w
  set_same [] w h = absurd (false≢true h)
  set_same (e ∷ es) w h = by (set_same es w) (test e.0) refl h
    where
      by : (is_some (lookup test es) ≡ true → lookup test (set_value test es w) ≡ Some w) → (b : Bool) → test e.0 ≡ b
          → is_some (cond b (Some e.1) (lookup test es)) ≡ true → lookup test (cond b ((e.0, w) ∷ es) (e ∷ set_value test es w)) ≡ Some w
      by later true is h = cond-true (test e.0) (Some w) (lookup test es) is
      by later false is h = cond-false (test e.0) (Some e.1) (lookup test (set_value test es w)) is ∙ later h

  -- the value that was set last stays
  pub set_twice : (es : List (K × X)) (v w : X) → set_value test (set_value test es v) w ≡ set_value test es w
  set_twice [] v w = refl
  set_twice (e ∷ es) v w = by (set_twice es v w) (test e.0) refl
    where
      by : set_value test (set_value test es v) w ≡ set_value test es w → (b : Bool) → test e.0 ≡ b
          → set_value test (cond b ((e.0, v) ∷ es) (e ∷ set_value test es v)) w ≡ cond b ((e.0, w) ∷ es) (e ∷ set_value test es w)
      by later true is = cond-true (test e.0) ((e.0, w) ∷ es) ((e.0, v) ∷ set_value test es w) is
      by later false is = cond-false (test e.0) ((e.0, w) ∷ set_value test es v) (e ∷ set_value test (set_value test es v) w) is ∙ ap (λ l. e ∷ l) later

module _ {K X : Type 0} (test other : K → Bool) (apart : (k : K) → test k ≡ true → other k ≡ false) where
  -- under another key nothing changes
  pub set_apart : (es : List (K × X)) (w : X) → lookup other (set_value test es w) ≡ lookup other es
  set_apart [] w = refl
  set_apart (e ∷ es) w = by (set_apart es w) (test e.0) refl
    where
      by : lookup other (set_value test es w) ≡ lookup other es → (b : Bool) → test e.0 ≡ b
          → lookup other (cond b ((e.0, w) ∷ es) (e ∷ set_value test es w)) ≡ cond (other e.0) (Some e.1) (lookup other es)
      by later true is = cond-false (other e.0) (Some w) (lookup other es) (apart e.0 is) ∙ sym (cond-false (other e.0) (Some e.1) (lookup other es) (apart e.0 is))
      by later false is = ap (λ r. cond (other e.0) (Some e.1) r) later
