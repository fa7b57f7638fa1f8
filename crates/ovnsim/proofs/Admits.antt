-- An event that a line asks for is one that a world takes.
use Rattle.std.proofs.Common.{◌≡◌, ℕ, Bool, true, false, List, [], ◌∷◌, Ok, Err, refl, cond, length, nat_lt, subst, sym, inl, inr}
use Rattle.std.specs.List.{AllByRecursion}
use Rattle.edit_reader.specs.Events.{reading_of}
use Rattle.edit_reader.specs.Fitting.{IsEventInGrammar}
use Rattle.edit_reader.specs.Outcomes.{Read}
use Rattle.edit_reader.specs.declared.event.Event.{Event}
use Rattle.edit_reader.specs.declared.event.Event.TheVariants.{Unread}
use Rattle.edit_reader.specs.declared.event.ReadRefusal.TheVariants.{TooLong}
use Rattle.ovn_base.specs.declared.limits.TheConstants.{MAX_LINE}
use Rattle.ovnsim.specs.Events.{AreEvents, AsksFor, asked_by, read_as}

-- what lines ask for is in its ranges and grammars
abbrev pub Fits : Type 0
Fits = (line : List ℕ) (event : Event) → reading_of line ≡ Ok event → IsEventInGrammar event

module _ (fits : Fits) where
  read_fits : (line : List ℕ) (r : Read Event) → reading_of line ≡ r → IsEventInGrammar (read_as r)
  read_fits line (Ok event) is = fits line event is
  read_fits line (Err fault) is = tt

  pub asked_fits : (line : List ℕ) → IsEventInGrammar (asked_by line)
  asked_fits line = by (nat_lt MAX_LINE (length line)) (read_fits line (reading_of line) refl)
    where
      by : (long : Bool) → IsEventInGrammar (read_as (reading_of line)) → IsEventInGrammar (cond long (Unread TooLong) (read_as (reading_of line)))
      by true read = tt
      by false read = read

  -- whatever a line asks for
  pub asked_admits : (line : List ℕ) (event : Event) → AsksFor line event → IsEventInGrammar event
  asked_admits line event h = subst IsEventInGrammar (sym h.asked) (asked_fits line)

  -- and whatever lines ask for
  pub all_admitted : (lines : List (List ℕ)) (events : List Event) → AreEvents lines events → AllByRecursion IsEventInGrammar events
  all_admitted [] events h = subst (λ es. AllByRecursion IsEventInGrammar es) (sym h) tt
  all_admitted (line ∷ lines) events (inl h) = all_admitted lines events h.1
  all_admitted (line ∷ lines) events (inr h) = subst (λ es. AllByRecursion IsEventInGrammar es) (sym h.all) (asked_admits line h.first h.asks, all_admitted lines h.others h.after)
