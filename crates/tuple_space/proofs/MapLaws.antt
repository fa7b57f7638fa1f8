-- Maps as lists of their entries: what is shown of them, and what a write or a new entry changes.
use Rattle.std.specs.Prelude.{◌≡◌, ◌⊎◌, Bool, true, false, cond, List, [], ◌∷◌, ◌++◌, Option, Some, None, map, is_some, refl}
use mathlib.Core.Path.{sym, ap, subst, ◌∙◌}
use mathlib.Core.Logic.{inl, inr}
use Rattle.std.specs.Map.{lookup, set_value, keys_of}
use Rattle.std.specs.Option.{option_map}
use Rattle.std.proofs.lemmas.Bool.{false≢true}
use Rattle.std.proofs.lemmas.Option.{none-some}
use Rattle.indexmap.specs.IndexMap.{insert_entry}
use Rattle.ovn_base.specs.lists.Among.{Among, here, there}
use Rattle.ovn_base.specs.lists.Once.{EachOnce}
use Rattle.ovn_base.proofs.AmongLaws.{among_cases, among_none}
use Rattle.flow_table.proofs.OnceLaws.{once_push}

-- a map whose keys and values are shown in another form
module _ {K L X Y : Type 0} (f : K → L) (g : X → Y) where
  pub lookup_shown : (test : L → Bool) (es : List (K × X)) → lookup test (map {B = L × Y} (λ e. (f e.0, g e.1)) es) ≡ option_map g (lookup (λ k. test (f k)) es)
  lookup_shown test [] = refl
  lookup_shown test (e ∷ es) = by (test (f e.0)) (lookup_shown test es)
    where
      by : (b : Bool) → lookup test (map {B = L × Y} (λ e. (f e.0, g e.1)) es) ≡ option_map g (lookup (λ k. test (f k)) es) → cond b (Some (g e.1)) (lookup test (map {B = L × Y} (λ e. (f e.0, g e.1)) es)) ≡ option_map g (cond b (Some e.1) (lookup (λ k. test (f k)) es))
      by true ih = refl
      by false ih = ih

  pub set_shown : (test : L → Bool) (es : List (K × X)) (w : X) → map {B = L × Y} (λ e. (f e.0, g e.1)) (set_value (λ k. test (f k)) es w) ≡ set_value test (map {B = L × Y} (λ e. (f e.0, g e.1)) es) (g w)
  set_shown test [] w = refl
  set_shown test (e ∷ es) w = by (test (f e.0)) (set_shown test es w)
    where
      by : (b : Bool) → map {B = L × Y} (λ e. (f e.0, g e.1)) (set_value (λ k. test (f k)) es w) ≡ set_value test (map {B = L × Y} (λ e. (f e.0, g e.1)) es) (g w) → map {B = L × Y} (λ e. (f e.0, g e.1)) (cond b ((e.0, w) ∷ es) (e ∷ set_value (λ k. test (f k)) es w)) ≡ cond b ((f e.0, g w) ∷ map {B = L × Y} (λ e. (f e.0, g e.1)) es) ((f e.0, g e.1) ∷ set_value test (map {B = L × Y} (λ e. (f e.0, g e.1)) es) (g w))
      by true ih = refl
      by false ih = λ i. (f e.0, g e.1) ∷ ih i

  -- a new key goes last
  pub insert_shown : (eq : L → L → Bool) (es : List (K × X)) (k : K) (v : X) → lookup (eq (f k)) (map {B = L × Y} (λ e. (f e.0, g e.1)) es) ≡ None → map {B = L × Y} (λ e. (f e.0, g e.1)) (insert_entry (λ a b. eq (f a) (f b)) es k v) ≡ map {B = L × Y} (λ e. (f e.0, g e.1)) es ++ (f k, g v) ∷ []
  insert_shown eq [] k v h = refl
  insert_shown eq (e ∷ es) k v h = by (eq (f k) (f e.0)) h (insert_shown eq es k v)
    where
      by : (b : Bool) → cond b (Some (g e.1)) (lookup (eq (f k)) (map {B = L × Y} (λ e. (f e.0, g e.1)) es)) ≡ None
          → (lookup (eq (f k)) (map {B = L × Y} (λ e. (f e.0, g e.1)) es) ≡ None → map {B = L × Y} (λ e. (f e.0, g e.1)) (insert_entry (λ a b. eq (f a) (f b)) es k v) ≡ map {B = L × Y} (λ e. (f e.0, g e.1)) es ++ (f k, g v) ∷ [])
          → map {B = L × Y} (λ e. (f e.0, g e.1)) (cond b ((e.0, v) ∷ es) (e ∷ insert_entry (λ a b. eq (f a) (f b)) es k v)) ≡ (f e.0, g e.1) ∷ (map {B = L × Y} (λ e. (f e.0, g e.1)) es ++ (f k, g v) ∷ [])
      by true n ih = absurd (none-some (g e.1) (sym n))
      by false n ih = let r = ih n in λ i. (f e.0, g e.1) ∷ r i

module _ {K : Type 0} (eq : K → K → Bool) (exact : (x y : K) → eq x y ≡ true → x ≡ y) (own : (x : K) → eq x x ≡ true) where
  -- a test of two keys answers the same in either order
  pub turned : (x y : K) → eq x y ≡ false → eq y x ≡ false
  turned x y n = by (eq y x) refl
    where
      by : (b : Bool) → eq y x ≡ b → eq y x ≡ false
      by false e = e
      by true e = absurd (false≢true (sym n ∙ subst (λ z. eq x z ≡ true) (sym (exact y x e)) (own x)))

module _ {K X : Type 0} (eq : K → K → Bool) (exact : (x y : K) → eq x y ≡ true → x ≡ y) (own : (x : K) → eq x x ≡ true) where
  -- a write where the key is found
  pub at_write : (key : K) (es : List (K × X)) (w : X) (k : K) → is_some (lookup (eq key) es) ≡ true → lookup (eq k) (set_value (eq key) es w) ≡ cond (eq key k) (Some w) (lookup (eq k) es)
  at_write key [] w k h = absurd (false≢true h)
  at_write key (e ∷ es) w k h = by (eq key e.0) refl h (at_write key es w k)
    where
      here_too : key ≡ e.0 → (c : Bool) → eq k e.0 ≡ c → cond c (Some w) (lookup (eq k) es) ≡ cond (eq key k) (Some w) (cond c (Some e.1) (lookup (eq k) es))
      here_too s true c = ap (λ (b : Bool). cond b (Some w) (Some e.1)) (sym (subst (λ x. eq x k ≡ true) (exact k e.0 c ∙ sym s) (own k)))
      here_too s false c = ap (λ (b : Bool). cond b (Some w) (lookup (eq k) es)) (sym (subst (λ x. eq x k ≡ false) (sym s) (turned eq exact own k e.0 c)))

      later : eq key e.0 ≡ false → (c : Bool) → eq k e.0 ≡ c → lookup (eq k) (set_value (eq key) es w) ≡ cond (eq key k) (Some w) (lookup (eq k) es) → cond c (Some e.1) (lookup (eq k) (set_value (eq key) es w)) ≡ cond (eq key k) (Some w) (cond c (Some e.1) (lookup (eq k) es))
      later n true c ih = ap (λ (b : Bool). cond b (Some w) (Some e.1)) (sym (subst (λ x. eq key x ≡ false) (sym (exact k e.0 c)) n))
      later n false c ih = ih

      by : (b : Bool) → eq key e.0 ≡ b → is_some (cond b (Some e.1) (lookup (eq key) es)) ≡ true → (is_some (lookup (eq key) es) ≡ true → lookup (eq k) (set_value (eq key) es w) ≡ cond (eq key k) (Some w) (lookup (eq k) es)) → lookup (eq k) (cond b ((e.0, w) ∷ es) (e ∷ set_value (eq key) es w)) ≡ cond (eq key k) (Some w) (cond (eq k e.0) (Some e.1) (lookup (eq k) es))
      by true s g ih = here_too (exact key e.0 s) (eq k e.0) refl
      by false s g ih = later s (eq k e.0) refl (ih g)

  -- a new entry at the end
  pub at_push : (key : K) (es : List (K × X)) (w : X) (k : K) → lookup (eq key) es ≡ None → lookup (eq k) (es ++ (key, w) ∷ []) ≡ cond (eq key k) (Some w) (lookup (eq k) es)
  at_push key [] w k h = by (eq key k) refl
    where
      by : (b : Bool) → eq key k ≡ b → cond (eq k key) (Some w) None ≡ cond b (Some w) None
      by true e = ap (λ (b : Bool). cond b (Some w) None) (subst (λ x. eq k x ≡ true) (sym (exact key k e)) (own k))
      by false e = ap (λ (b : Bool). cond b (Some w) None) (turned eq exact own key k e)
  at_push key (e ∷ es) w k h = by (eq key e.0) refl h (at_push key es w k)
    where
      later : eq key e.0 ≡ false → (c : Bool) → eq k e.0 ≡ c → lookup (eq k) (es ++ (key, w) ∷ []) ≡ cond (eq key k) (Some w) (lookup (eq k) es) → cond c (Some e.1) (lookup (eq k) (es ++ (key, w) ∷ [])) ≡ cond (eq key k) (Some w) (cond c (Some e.1) (lookup (eq k) es))
      later n true c ih = ap (λ (b : Bool). cond b (Some w) (Some e.1)) (sym (subst (λ x. eq key x ≡ false) (sym (exact k e.0 c)) n))
      later n false c ih = ih

      by : (b : Bool) → eq key e.0 ≡ b → cond b (Some e.1) (lookup (eq key) es) ≡ None → (lookup (eq key) es ≡ None → lookup (eq k) (es ++ (key, w) ∷ []) ≡ cond (eq key k) (Some w) (lookup (eq k) es)) → cond (eq k e.0) (Some e.1) (lookup (eq k) (es ++ (key, w) ∷ [])) ≡ cond (eq key k) (Some w) (cond (eq k e.0) (Some e.1) (lookup (eq k) es))
      by true s g ih = absurd (none-some e.1 (sym g))
      by false s g ih = later s (eq k e.0) refl (ih g)

  -- what holds at the key that changes, and at each other, holds at all
  pub everywhere : (P : K → Option X → Option X → Type 0) (key : K) (es new : List (K × X)) (w : X) → ((k : K) → lookup (eq k) new ≡ cond (eq key k) (Some w) (lookup (eq k) es)) → P key (lookup (eq key) es) (Some w) → ((k : K) → eq key k ≡ false → P k (lookup (eq k) es) (lookup (eq k) es)) → (k : K) → P k (lookup (eq k) es) (lookup (eq k) new)
  everywhere P key es new w at one others k = subst (λ o. P k (lookup (eq k) es) o) (sym (at k)) (by (eq key k) refl)
    where
      by : (b : Bool) → eq key k ≡ b → P k (lookup (eq k) es) (cond b (Some w) (lookup (eq k) es))
      by true e = subst (λ z. P z (lookup (eq z) es) (Some w)) (exact key k e) one
      by false e = others k e

  -- a key that is there is found
  pub key_found : (key : K) (es : List (K × X)) → Among key (keys_of es) → is_some (lookup (eq key) es) ≡ true
  key_found key [] m = absurd (among_none key m)
  key_found key (e ∷ es) m = by (eq key e.0) refl (among_cases key e.0 (keys_of es) m) (key_found key es)
    where
      by : (b : Bool) → eq key e.0 ≡ b → (key ≡ e.0) ⊎ Among key (keys_of es) → (Among key (keys_of es) → is_some (lookup (eq key) es) ≡ true) → is_some (cond b (Some e.1) (lookup (eq key) es)) ≡ true
      by true s c ih = refl
      by false s (inl e') ih = absurd (false≢true (sym s ∙ subst (λ z. eq key z ≡ true) e' (own key)))
      by false s (inr n) ih = ih n

  -- what a look-up finds is there
  pub found_key : (key : K) (es : List (K × X)) → is_some (lookup (eq key) es) ≡ true → Among key (keys_of es)
  found_key key [] h = absurd (false≢true h)
  found_key key (e ∷ es) h = by (eq key e.0) refl h (found_key key es)
    where
      by : (b : Bool) → eq key e.0 ≡ b → is_some (cond b (Some e.1) (lookup (eq key) es)) ≡ true → (is_some (lookup (eq key) es) ≡ true → Among key (keys_of es)) → Among key (keys_of (e ∷ es))
      by true s g ih = subst (λ z. Among z (keys_of (e ∷ es))) (sym (exact key e.0 s)) here
      by false s g ih = there (ih g)

  -- the keys after a write, and with a new one
  pub keys_write : (key : K) (es : List (K × X)) (w : X) → keys_of (set_value (eq key) es w) ≡ keys_of es
  keys_write key [] w = refl
  keys_write key (e ∷ es) w = by (eq key e.0) (keys_write key es w)
    where
      by : (b : Bool) → keys_of (set_value (eq key) es w) ≡ keys_of es → keys_of (cond b ((e.0, w) ∷ es) (e ∷ set_value (eq key) es w)) ≡ e.0 ∷ keys_of es
      by true ih = refl
      by false ih = λ i. e.0 ∷ ih i

  keys_more : (es : List (K × X)) (key : K) (w : X) → keys_of (es ++ (key, w) ∷ []) ≡ keys_of es ++ key ∷ []
  keys_more [] key w = refl
  keys_more (e ∷ es) key w = let r = keys_more es key w in λ i. e.0 ∷ r i

  pub once_more : (es : List (K × X)) (key : K) (w : X) → EachOnce (keys_of es) → lookup (eq key) es ≡ None → EachOnce (keys_of (es ++ (key, w) ∷ []))
  once_more es key w h n = subst (λ l. EachOnce l) (sym (keys_more es key w)) (once_push (keys_of es) key h (λ m. false≢true (ap (λ o. is_some o) (sym n) ∙ key_found key es m)))
