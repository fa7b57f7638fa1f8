-- Laws of flows by key.
use Rattle.std.specs.Prelude.{◌≡◌, ◌⊎◌, ◌↔◌, ◌+◌, ℕ, Bool, true, false, cond, List, [], ◌∷◌, ◌++◌, Option, Some, None, is_some, nat_eq, slice_get, drop, length, ◌<◌, zero, suc, refl}
use mathlib.Core.Path.{sym, ap, subst, ◌∙◌}
use mathlib.Core.Logic.{inl, inr}
use native.Mathlib.Omega.{arith}
use Rattle.indexmap.specs.IndexMap.{insert_entry}
use Rattle.indexmap.proofs.MapLemmas.{absent_from_lookup, insert_entry-absent}
use Rattle.std.specs.Cmp.Lexicographic.{pointwise}
use Rattle.std.specs.Map.{lookup, set_value, keys_of}
use Rattle.std.specs.Option.{option_map_or}
use Rattle.std.proofs.lemmas.Bool.{false≢true}
use Rattle.std.proofs.lemmas.Option.{none-some, same_Some}
use Rattle.ovn_base.specs.lists.Among.{Among}
use Rattle.ovn_base.specs.lists.Once.{EachOnce}
use Rattle.ovn_base.specs.names.SameName.{bytes_decides}
use Rattle.ovn_base.proofs.AmongLaws.{among_append, among_left, among_right, among_none}
use Rattle.flow_table.specs.declared.flow.Flow.{Flow}
use Rattle.flow_table.proofs.OnceLaws.{once_append}
use Rattle.tuple_space.specs.Bunches.{Bunch, IsFalling, flows_in, flows_under, promised_under, AreBunches}
use Rattle.tuple_space.proofs.MapLaws.{at_write, at_push, everywhere, found_key, keys_write, once_more}

-- keys are compared exactly
pub key_exact : (x y : List ℕ) → pointwise nat_eq x y ≡ true → x ≡ y
key_exact x y h = (bytes_decides x y).0 h

pub key_own : (x : List ℕ) → pointwise nat_eq x x ≡ true
key_own x = (bytes_decides x x).1 refl

pub key_other : (x y : List ℕ) → ¬ (y ≡ x) → pointwise nat_eq x y ≡ false
key_other x y n = by (pointwise nat_eq x y) refl
  where
    by : (b : Bool) → pointwise nat_eq x y ≡ b → pointwise nat_eq x y ≡ false
    by true e = absurd (n (sym (key_exact x y e)))
    by false e = e

-- a flow at a key is one of all
pub under_in : (es : List (List ℕ × Bunch)) (key : List ℕ) (f : Flow) → Among f (flows_under es key) → Among f (flows_in es)
under_in [] key f m = absurd (among_none f m)
under_in (e ∷ es) key f m = by (pointwise nat_eq key e.0) m (under_in es key f)
  where
    by : (b : Bool) → Among f (option_map_or (λ x. x.flows) (cond b (Some e.1) (lookup (pointwise nat_eq key) es)) []) → (Among f (flows_under es key) → Among f (flows_in es)) → Among f (e.1.flows ++ flows_in es)
    by true n ih = among_left f e.1.flows (flows_in es) n
    by false n ih = among_right f e.1.flows (flows_in es) (ih n)

-- a key with a flow is one of the keys
pub under_key : (es : List (List ℕ × Bunch)) (key : List ℕ) (f : Flow) → Among f (flows_under es key) → Among key (keys_of es)
under_key es key f m = found_key (pointwise nat_eq) key_exact key_own key es (by (lookup (pointwise nat_eq key) es) m)
  where
    by : (o : Option Bunch) → Among f (option_map_or (λ x. x.flows) o []) → is_some o ≡ true
    by None n = absurd (among_none f n)
    by (Some b) n = refl

-- behind an entry whose key doesn't come again
pub under_tail : (e : List ℕ × Bunch) (es : List (List ℕ × Bunch)) → ¬ Among e.0 (keys_of es) → (key : List ℕ) (f : Flow) → Among f (flows_under es key) → Among f (flows_under (e ∷ es) key)
under_tail e es fresh key f m = by (pointwise nat_eq key e.0) refl
  where
    by : (b : Bool) → pointwise nat_eq key e.0 ≡ b → Among f (option_map_or (λ x. x.flows) (cond b (Some e.1) (lookup (pointwise nat_eq key) es)) [])
    by true s = absurd (fresh (subst (λ k. Among k (keys_of es)) (key_exact key e.0 s) (under_key es key f m)))
    by false s = m

under_head : (e : List ℕ × Bunch) (es : List (List ℕ × Bunch)) → flows_under (e ∷ es) e.0 ≡ e.1.flows
under_head e es = ap (λ (b : Bool). option_map_or (λ (x : Bunch). x.flows) (cond b (Some e.1) (lookup (pointwise nat_eq e.0) es)) []) (key_own e.0)

-- each flow is at a key
pub in_under : (es : List (List ℕ × Bunch)) → EachOnce (keys_of es) → (f : Flow) → Among f (flows_in es) → (key : List ℕ) × Among f (flows_under es key)
in_under [] h f m = absurd (among_none f m)
in_under (e ∷ es) h f m =
    elim (among_append f e.1.flows (flows_in es) m) [
      | inl a ↦ (e.0, subst (λ l. Among f l) (sym (under_head e es)) a)
      | inr b ↦ let r = in_under es h.1 f b in (r.0, under_tail e es h.0 r.0 f r.1)
    ]

-- flows that are at one key only, and there once, are there once
pub in_once : (es : List (List ℕ × Bunch)) → EachOnce (keys_of es) → ((key : List ℕ) → EachOnce (flows_under es key)) → ((key other : List ℕ) (f : Flow) → Among f (flows_under es key) → Among f (flows_under es other) → key ≡ other) → EachOnce (flows_in es)
in_once [] h once one = tt
in_once (e ∷ es) h once one =
    once_append e.1.flows (flows_in es) (subst (λ l. EachOnce l) (under_head e es) (once e.0))
    (in_once es h.1 (λ key. later key (pointwise nat_eq key e.0) refl (once key)) (λ key other f m n. one key other f (under_tail e es h.0 key f m) (under_tail e es h.0 other f n)))
    (λ f m n. let r = in_under es h.1 f n in h.0 (subst (λ k. Among k (keys_of es)) (one r.0 e.0 f (under_tail e es h.0 r.0 f r.1) (subst (λ l. Among f l) (sym (under_head e es)) m)) (under_key es r.0 f r.1)))
  where
    nothing : (key : List ℕ) → ¬ Among key (keys_of es) → (o : Option Bunch) → lookup (pointwise nat_eq key) es ≡ o → EachOnce (option_map_or (λ x. x.flows) o [])
    nothing key n None s = tt
    nothing key n (Some b) s = absurd (n (found_key (pointwise nat_eq) key_exact key_own key es (ap (λ o. is_some o) s)))

    later : (key : List ℕ) (b : Bool) → pointwise nat_eq key e.0 ≡ b → EachOnce (option_map_or (λ x. x.flows) (cond b (Some e.1) (lookup (pointwise nat_eq key) es)) []) → EachOnce (flows_under es key)
    later key true s g = nothing key (λ m. h.0 (subst (λ k. Among k (keys_of es)) (key_exact key e.0 s) m)) (lookup (pointwise nat_eq key) es) refl
    later key false s g = g

-- a write that keeps the flows of its key, and a new key without flows, keep all
pub in_write : (key : List ℕ) (es : List (List ℕ × Bunch)) (b w : Bunch) → lookup (pointwise nat_eq key) es ≡ Some b → w.flows ≡ b.flows → flows_in (set_value (pointwise nat_eq key) es w) ≡ flows_in es
in_write key [] b w h s = refl
in_write key (e ∷ es) b w h s = by (pointwise nat_eq key e.0) h (λ g. in_write key es b w g s)
  where
    by : (c : Bool) → cond c (Some e.1) (lookup (pointwise nat_eq key) es) ≡ Some b → (lookup (pointwise nat_eq key) es ≡ Some b → flows_in (set_value (pointwise nat_eq key) es w) ≡ flows_in es) → flows_in (cond c ((e.0, w) ∷ es) (e ∷ set_value (pointwise nat_eq key) es w)) ≡ e.1.flows ++ flows_in es
    by true g ih = ap (λ fs. fs ++ flows_in es) (s ∙ ap (λ (x : Bunch). x.flows) (sym (same_Some e.1 b g)))
    by false g ih = ap (λ fs. e.1.flows ++ fs) (ih g)

pub in_more : (es : List (List ℕ × Bunch)) (key : List ℕ) (w : Bunch) → w.flows ≡ [] → flows_in (es ++ (key, w) ∷ []) ≡ flows_in es
in_more [] key w s = ap (λ fs. fs ++ []) s
in_more (e ∷ es) key w s = ap (λ fs. e.1.flows ++ fs) (in_more es key w s)

-- the bunches after a change at one key
pub record IsChanged (key : List ℕ) (w : Bunch) (old new : List (List ℕ × Bunch)) : Type 0 where
  pub keys : EachOnce (keys_of new)
  pub at : (k : List ℕ) → lookup (pointwise nat_eq k) new ≡ cond (pointwise nat_eq key k) (Some w) (lookup (pointwise nat_eq k) old)

pub changed_write : (key : List ℕ) (es : List (List ℕ × Bunch)) (w : Bunch) → AreBunches es → is_some (lookup (pointwise nat_eq key) es) ≡ true → IsChanged key w es (set_value (pointwise nat_eq key) es w)
changed_write key es w law h = record {
  keys = subst (λ l. EachOnce l) (sym (keys_write (pointwise nat_eq) key_exact key_own key es w)) law.keys;
  at = λ k. at_write (pointwise nat_eq) key_exact key_own key es w k h;
}

pub changed_more : (key : List ℕ) (es : List (List ℕ × Bunch)) (w : Bunch) → AreBunches es → lookup (pointwise nat_eq key) es ≡ None → IsChanged key w es (es ++ (key, w) ∷ [])
changed_more key es w law h = record {
  keys = once_more (pointwise nat_eq) key_exact key_own es key w law.keys h;
  at = λ k. at_push (pointwise nat_eq) key_exact key_own key es w k h;
}

-- what was found, or nothing
abbrev pub flows_there : Option Bunch → List Flow
flows_there o = option_map_or (λ b. b.flows) o []

abbrev pub promised_there : Option Bunch → ℕ
promised_there o = option_map_or (λ b. b.promised) o 0

module _ (key : List ℕ) (w : Bunch) (old new : List (List ℕ × Bunch)) (change : IsChanged key w old new) where
  -- what always holds still does
  pub changed_law : AreBunches old → (EachOnce (flows_under old key) → EachOnce w.flows) → (IsFalling (flows_under old key) → IsFalling w.flows) → AreBunches new
  changed_law law once falls = record {
    keys = change.keys;
    once = everywhere (pointwise nat_eq) key_exact key_own (λ k o n. EachOnce (flows_there n)) key old new w change.at (once (law.once key)) (λ k e. law.once k);
    falls = everywhere (pointwise nat_eq) key_exact key_own (λ k o n. IsFalling (flows_there n)) key old new w change.at (falls (law.falls key)) (λ k e. law.falls k);
  }

  -- one flow more
  pub changed_held : (flow : Flow) → ((f : Flow) → Among f w.flows ↔ ((f ≡ flow) ⊎ Among f (flows_under old key))) → (k : List ℕ) (f : Flow) → Among f (flows_under new k) ↔ (((k ≡ key) × (f ≡ flow)) ⊎ Among f (flows_under old k))
  changed_held flow held k f =
      everywhere (pointwise nat_eq) key_exact key_own (λ k o n. Among f (flows_there n) ↔ (((k ≡ key) × (f ≡ flow)) ⊎ Among f (flows_there o))) key old new w change.at
      (λ m. elim ((held f).0 m) [ inl e ↦ inl (refl, e) | inr a ↦ inr a ], λ m. (held f).1 (elim m [ inl e ↦ inl e.1 | inr a ↦ inr a ]))
      (λ k e. (λ m. inr m, λ m. elim m [ inl p ↦ absurd (false≢true (sym e ∙ subst (λ z. pointwise nat_eq key z ≡ true) (sym p.0) (key_own key))) | inr a ↦ a ]))
      k

  -- all flows but one
  pub changed_kept : (flow : Flow) → ((f : Flow) → Among f w.flows ↔ (Among f (flows_under old key) × ¬ (f ≡ flow))) → (k : List ℕ) (f : Flow) → Among f (flows_under new k) ↔ (Among f (flows_under old k) × ¬ ((k ≡ key) × (f ≡ flow)))
  changed_kept flow kept k f =
      everywhere (pointwise nat_eq) key_exact key_own (λ k o n. Among f (flows_there n) ↔ (Among f (flows_there o) × ¬ ((k ≡ key) × (f ≡ flow)))) key old new w change.at
      (λ m. let r = (kept f).0 m in (r.0, λ p. r.1 p.1), λ p. (kept f).1 (p.0, λ e. p.1 (refl, e)))
      (λ k e. (λ m. (m, λ p. false≢true (sym e ∙ subst (λ z. pointwise nat_eq key z ≡ true) (sym p.0) (key_own key))), λ p. p.0))
      k

  -- the same flows
  pub changed_same : w.flows ≡ flows_under old key → (k : List ℕ) → flows_under new k ≡ flows_under old k
  changed_same s = everywhere (pointwise nat_eq) key_exact key_own (λ k o n. flows_there n ≡ flows_there o) key old new w change.at s (λ k e. refl)

  -- the numbers that are promised: the same, one more, one less
  pub promised_same : w.promised ≡ promised_under old key → (k : List ℕ) → promised_under new k ≡ promised_under old k
  promised_same s = everywhere (pointwise nat_eq) key_exact key_own (λ k o n. promised_there n ≡ promised_there o) key old new w change.at s (λ k e. refl)

  pub promised_more : w.promised ≡ promised_under old key + 1 → (k : List ℕ) → promised_under new k ≡ promised_under old k + cond (pointwise nat_eq key k) 1 0
  promised_more s =
      everywhere (pointwise nat_eq) key_exact key_own (λ k o n. promised_there n ≡ promised_there o + cond (pointwise nat_eq key k) 1 0) key old new w change.at
      (s ∙ ap (λ (b : Bool). promised_under old key + cond b 1 0) (sym (key_own key)))
      (λ k e. nothing (promised_under old k) ∙ ap (λ (b : Bool). promised_under old k + cond b 1 0) (sym e))
    where
      nothing : (n : ℕ) → n ≡ n + 0
      nothing n = omega arith

  pub promised_less : w.promised + 1 ≡ promised_under old key → (k : List ℕ) → promised_under old k ≡ promised_under new k + cond (pointwise nat_eq key k) 1 0
  promised_less s =
      everywhere (pointwise nat_eq) key_exact key_own (λ k o n. promised_there o ≡ promised_there n + cond (pointwise nat_eq key k) 1 0) key old new w change.at
      (sym s ∙ ap (λ (b : Bool). w.promised + cond b 1 0) (sym (key_own key)))
      (λ k e. nothing (promised_under old k) ∙ ap (λ (b : Bool). promised_under old k + cond b 1 0) (sym e))
    where
      nothing : (n : ℕ) → n ≡ n + 0
      nothing n = omega arith

-- a bucket that was found and written
pub record IsWritten (key : List ℕ) (b w : Bunch) (old new : List (List ℕ × Bunch)) : Type 0 where
  pub found : lookup (pointwise nat_eq key) old ≡ Some b
  pub set : new ≡ set_value (pointwise nat_eq key) old w
  pub change : IsChanged key w old new

pub written : (key : List ℕ) (es after : List (List ℕ × Bunch)) (b w : Bunch) → AreBunches es → lookup (pointwise nat_eq key) es ≡ Some b → after ≡ set_value (pointwise nat_eq key) es w → IsWritten key b w es after
written key es after b w law at is =
    record { found = at; set = is; change = subst (λ l. IsChanged key w es l) (sym is) (changed_write key es w law (ap (λ o. is_some o) at)) }

pub under_found : (key : List ℕ) (es : List (List ℕ × Bunch)) (b : Bunch) → lookup (pointwise nat_eq key) es ≡ Some b → flows_under es key ≡ b.flows
under_found key es b h = ap (λ o. flows_there o) h

pub promised_found : (key : List ℕ) (es : List (List ℕ × Bunch)) (b : Bunch) → lookup (pointwise nat_eq key) es ≡ Some b → promised_under es key ≡ b.promised
promised_found key es b h = ap (λ o. promised_there o) h

-- a bucket that was added
pub added : (k : List ℕ) (es after : List (List ℕ × Bunch)) (w : Bunch) → lookup (pointwise nat_eq k) es ≡ None → after ≡ insert_entry (pointwise nat_eq) es k w → after ≡ es ++ (k, w) ∷ []
added k es after w none is = is ∙ insert_entry-absent (pointwise nat_eq) k w es (absent_from_lookup (pointwise nat_eq k) es none)

-- the flow at an index, bunch by bunch
pub get_in_step : (es : List (List ℕ × Bunch)) (i : ℕ) (e : List ℕ × Bunch) → slice_get es i ≡ Some e → flows_in (drop i es) ≡ e.1.flows ++ flows_in (drop (i + 1) es)
get_in_step [] i e h = absurd (none-some e h)
get_in_step (x ∷ es) zero e h = ap (λ (y : List ℕ × Bunch). y.1.flows ++ flows_in es) (same_Some x e h)
get_in_step (x ∷ es) (suc i) e h = get_in_step es i e h ∙ ap (λ n. e.1.flows ++ flows_in (drop n (x ∷ es))) (let m : suc (i + 1) ≡ suc i + 1 = omega arith in m)

pub get_left : (xs ys : List Flow) (k : ℕ) → k < length xs → slice_get (xs ++ ys) k ≡ slice_get xs k
get_left [] ys k l = absurd (omega (arith, l))
get_left (x ∷ xs) ys zero l = refl
get_left (x ∷ xs) ys (suc k) l = get_left xs ys k (omega (arith, l))

pub get_right : (xs ys : List Flow) (k : ℕ) → slice_get (xs ++ ys) (length xs + k) ≡ slice_get ys k
get_right [] ys k = ap (λ n. slice_get ys n) (let e : 0 + k ≡ k = omega arith in e)
get_right (x ∷ xs) ys k = ap (λ n. slice_get (x ∷ (xs ++ ys)) n) (let e : suc (length xs) + k ≡ suc (length xs + k) = omega arith in e) ∙ get_right xs ys k
