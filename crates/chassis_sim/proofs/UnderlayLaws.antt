-- The frames that wait.
use Rattle.std.specs.Prelude.{◌≡◌, ◌≤◌, ℕ, Bool, true, false, cond, List, [], ◌∷◌, ◌++◌, Option, Some, None, IfSome, refl}
use Rattle.std.specs.List.{AllByRecursion}
use Rattle.std.specs.Map.{lookup, remove_entry}
use Rattle.std.specs.BTreeMap.{insert_entry}
use Rattle.std.specs.Cmp.{nat_cmp_is}
use Rattle.std.specs.Ordering.{nat_cmp, match_ordering}
use Rattle.std.specs.declared.cmp.Ordering.TheVariants.{Greater}
use Rattle.std.proofs.Common.{arith, sym, ap, subst, ◌∙◌, Bor}
use Rattle.std.specs.Option.{option_copied}
use Rattle.std.proofs.lemmas.Option.{none-some, same_Some}
use Rattle.chassis_sim.specs.declared.underlay.WaitingFrame.{WaitingFrame}
use Rattle.chassis_sim.specs.Frames.{IsWaiting, IsSent}

-- a frame with a number above the others goes behind them
pub behind : (es : List (ℕ × WaitingFrame)) (n : ℕ) (frame : WaitingFrame) → AllByRecursion (IsWaiting n) es → insert_entry nat_cmp es n frame ≡ es ++ (n, frame) ∷ []
behind [] n frame h = refl
behind (e ∷ es) n frame h =
    ap (λ o. match_ordering o ((n, frame) ∷ e ∷ es) ((e.0, frame) ∷ es) (e ∷ insert_entry nat_cmp es n frame)) (sym (nat_cmp_is n e.0 Greater h.0.below)) ∙ ap (λ rest. e ∷ rest) (behind es n frame h.1)

-- what waits goes on to wait as the next number rises
pub waits_on : (n m : ℕ) (es : List (ℕ × WaitingFrame)) → n ≤ m → AllByRecursion (IsWaiting n) es → AllByRecursion (IsWaiting m) es
waits_on n m [] le h = tt
waits_on n m (e ∷ es) le h = (record { below = omega (arith, h.0.below, le); sent = h.0.sent }, waits_on n m es le h.1)

module _ {K X : Type 0} (P : K × X → Type 0) where
  -- what holds of all entries holds of those that are left
  pub all_left : (test : K → Bool) (es : List (K × X)) → AllByRecursion P es → AllByRecursion P (remove_entry test es)
  all_left test [] h = tt
  all_left test (e ∷ es) h = by (test e.0) (all_left test es h.1)
    where
      by : (b : Bool) → AllByRecursion P (remove_entry test es) → AllByRecursion P (cond b es (e ∷ remove_entry test es))
      by true rest = h.1
      by false rest = (h.0, rest)

  -- and of one that is found
  pub all_found : (test : K → Bool) (es : List (K × X)) (x : X) → AllByRecursion P es → lookup test es ≡ Some x → (k : K) × P (k, x)
  all_found test [] x h found = absurd (none-some x found)
  all_found test (e ∷ es) x h found = by (test e.0) found (all_found test es x h.1)
    where
      by : (b : Bool) → cond b (Some e.1) (lookup test es) ≡ Some x → (lookup test es ≡ Some x → (k : K) × P (k, x)) → (k : K) × P (k, x)
      by true found rest = (e.0, subst (λ y. P (e.0, y)) (same_Some e.1 x found) h.0)
      by false found rest = rest found

-- a frame that is found was sent
pub found_sent : (result : Option (Bor WaitingFrame)) (test : ℕ → Bool) (es : List (ℕ × WaitingFrame)) (next : ℕ) → option_copied result ≡ lookup test es → AllByRecursion (IsWaiting next) es
    → IfSome result (λ frame. IsSent frame.now.bytes)
found_sent None test es next is all = tt
found_sent (Some frame) test es next is all = (all_found (IsWaiting next) test es frame.now all (sym is)).1.sent
