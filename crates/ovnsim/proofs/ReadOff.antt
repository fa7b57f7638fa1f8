-- The picks of a run are those that are read off its text.
use Rattle.ovnsim.proofs.Admits.{Fits, all_admitted}
use Rattle.world_core.proofs.EmptyWorld.{new_sound}
use Rattle.edit_reader.specs.Fitting.{IsEventInGrammar}
use Rattle.std.proofs.Common.{◌≡◌, ◌+◌, ◌++◌, ℕ, List, [], ◌∷◌, inl, inr, sym, ap, ◌∙◌, subst, append_assoc, append-nil, codes}
use Rattle.std.specs.List.{AllByRecursion}
use Rattle.edit_reader.specs.declared.event.Event.{Event}
use Rattle.event_lines.specs.Picks.{Pick, picks_in, AreWholeLines}
use Rattle.event_lines.proofs.PickLines as read
use Rattle.world_core.specs.Outcome.{matched}
use Rattle.world_core.specs.StepParts.{new_world}
use Rattle.world_core.specs.WorldView.{WorldView, IsSound}
use Rattle.net_model.specs.State.{event_count}
use Rattle.ovnsim.specs.Events.{AreEvents}
use Rattle.ovnsim.specs.Runs.{Runs, Takes, accepts, refuses}
use Rattle.ovnsim.proofs.NameLaws.{IsNamedState, none_named, step_named}

-- ---- the text of an event

-- it is made of whole lines
takes_whole : (old : WorldView) (event : Event) (own : List Pick) (text : List ℕ) (new : WorldView) → Takes old event own text new → AreWholeLines text
takes_whole old event own text new (accepts h e) = subst AreWholeLines (sym h.text) (read.accepted_whole (event_count old.state + 1) (matched new.walks) h.effects)
takes_whole old event own text new (refuses why h e) = subst AreWholeLines (sym h.text) (read.refused_whole (event_count old.state + 1) why)

-- it names what was picked
pub record IsReadOff (own : List Pick) (text : List ℕ) (new : WorldView) : Type 0 where
  pub picks : picks_in text ≡ own
  pub named : IsNamedState new.state

takes_read : (old : WorldView) → IsSound old → (event : Event) → IsEventInGrammar event → (own : List Pick) (text : List ℕ) (new : WorldView) → IsNamedState old.state → Takes old event own text new → IsReadOff own text new
takes_read old sound event admitted own text new named (accepts h e) =
    let step = step_named old.state sound.consistent.at_rest.valid named event admitted h.admitted h.effects new.state h.step in
    record { picks = ap picks_in h.text ∙ read.accepted (event_count old.state + 1) (matched new.walks) h.effects step.0 ∙ sym e; named = step.1 }
takes_read old sound event admitted own text new named (refuses why h e) = record {
  picks = ap picks_in h.text ∙ read.refused (event_count old.state + 1) why ∙ sym e;
  named = subst (λ (w : WorldView). IsNamedState w.state) (sym h.kept) (record {
    names = record { chassis = named.names.chassis; homes = named.names.homes; waiting = named.names.waiting };
    keys = named.keys;
  });
}

-- ---- the text of a run

whole_joined : (a b : List ℕ) → AreWholeLines a → AreWholeLines b → AreWholeLines (a ++ b)
whole_joined a b h (inl none) = subst AreWholeLines (sym (append-nil a) ∙ ap (λ x. a ++ x) (sym none)) h
whole_joined a b h (inr some) = inr (a ++ some.0, ap (λ x. a ++ x) some.1 ∙ sym (append_assoc a some.0 (codes "\n")))

pub run_whole : (old : WorldView) (events : List Event) (picks : List Pick) (text : List ℕ) (last : WorldView) → Runs old events picks text last → AreWholeLines text
run_whole old [] picks text last h = inl h.1
run_whole old (event ∷ events) picks text last h =
    subst AreWholeLines (sym h.whole) (whole_joined h.first h.rest (takes_whole old event h.own h.first h.mid h.takes) (run_whole h.mid events h.left h.rest last h.others))

run_read : (old : WorldView) → IsSound old → (events : List Event) → AllByRecursion IsEventInGrammar events → (picks : List Pick) (text : List ℕ) (last : WorldView) → IsNamedState old.state → Runs old events picks text last → picks_in text ≡ picks
run_read old sound [] admitted picks text last named h = ap picks_in h.1 ∙ sym h.0
run_read old sound (event ∷ events) admitted picks text last named h =
    let one = takes_read old sound event admitted.0 h.own h.first h.mid named h.takes in
    ap picks_in h.whole ∙ read.joined h.first h.rest (takes_whole old event h.own h.first h.mid h.takes)
    ∙ ap (λ ps. ps ++ picks_in h.rest) one.picks
    ∙ ap (λ ps. h.own ++ ps) (run_read h.mid h.sound events admitted.1 h.left h.rest last one.named h.others)
    ∙ sym h.picked

-- what was picked is what is read off the text
pub read_off : Fits → (lines : List (List ℕ)) (events : List Event) (picks : List Pick) (text : List ℕ) (last : WorldView) → AreEvents lines events → Runs new_world events picks text last → picks_in text ≡ picks
read_off fits lines events picks text last are run = run_read new_world new_sound events (all_admitted fits lines events are) picks text last none_named run
