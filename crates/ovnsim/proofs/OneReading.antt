-- Lines have one list of events.
use Rattle.std.proofs.Common.{◌≡◌, ℕ, List, [], ◌∷◌, inl, inr, sym, ap, ◌∙◌}
use Rattle.edit_reader.specs.declared.event.Event.{Event}
use Rattle.ovnsim.specs.Events.{AreEvents, AsksFor}

-- a line asks for at most one event
pub same_asked : (line : List ℕ) (a b : Event) → AsksFor line a → AsksFor line b → a ≡ b
same_asked line a b h k = h.asked ∙ sym k.asked

-- lines have one list of events
pub same_events : (lines : List (List ℕ)) (es fs : List Event) → AreEvents lines es → AreEvents lines fs → es ≡ fs
same_events [] es fs h k = h ∙ sym k
same_events (line ∷ lines) es fs (inl h) (inl k) = same_events lines es fs h.1 k.1
same_events (line ∷ lines) es fs (inl h) (inr k) = absurd (k.asks.not_passed h.0)
same_events (line ∷ lines) es fs (inr h) (inl k) = absurd (h.asks.not_passed k.0)
same_events (line ∷ lines) es fs (inr h) (inr k) =
    h.all ∙ ap (λ e. e ∷ h.others) (same_asked line h.first k.first h.asks k.asks) ∙ ap (λ l. k.first ∷ l) (same_events lines h.others k.others h.after k.after) ∙ sym k.all
