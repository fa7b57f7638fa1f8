-- What one event leaves.
use Rattle.std.proofs.Common.{◌≡◌, ◌+◌, ◌++◌, ℕ, Bool, true, false, List, [], refl, sym, ap, ◌∙◌, subst, take, drop, take-append-drop, arith, Option, Result, Ok, Err, IsErrAnd, IfErr}
use Rattle.std.specs.Io.KnownBytes.{append_known}
use Rattle.edit_reader.specs.declared.event.Event.{Event}
use Rattle.edit_reader.specs.declared.event.Event.TheVariants.{Edit, Bind, Unbind, AddChassis, RemoveChassis, Keys, Health, Clock, Inject, Deliver, Lose, Repeat, Drain, Packet, Unread}
use Rattle.event_lines.specs.declared.refusal.Refusal.{Refusal}
use Rattle.switch_engine.specs.declared.effect.NetEffect.{NetEffect}
use Rattle.event_lines.specs.Lines.{accepted_lines}
use Rattle.event_lines.specs.Picks.{picks_of}
use Rattle.world_core.proofs.OwnPicks.{passes_legally}
use Rattle.world_core.specs.Outcome.{IsAccepted, IsRefused, matched}
use Rattle.world_core.specs.WorldView.{WorldView, IsSound}
use Rattle.net_model.specs.State.{State, event_count}
use Rattle.world_setup.specs.Step.{NetworkStep, Does}
use Rattle.ovnsim.specs.Runs.{Takes, accepts, refuses}
use Rattle.ovnsim.specs.Taking.{TakesWith, WasCut}
use Rattle.ovnsim.specs.declared.run.Stop.{Stop}

-- how many events were accepted and refused
record HasCounts (m : State) (accepted refused : ℕ) : Type 0 where
  accepted_are : m.accepted ≡ accepted
  refused_are : m.refused ≡ refused

counts_kept : (m after next : State) → after ≡ next → HasCounts next m.accepted m.refused → HasCounts after m.accepted m.refused
counts_kept m after next e h = subst (λ (s : State). HasCounts s m.accepted m.refused) (sym e) h

does_counts : (m : State) (event : Event) (effects : List NetEffect) (after : State) → Does m event effects after → HasCounts after m.accepted m.refused
does_counts m (Edit ops) effects after h = counts_kept m after _ h.state (record { accepted_are = refl; refused_are = refl })
does_counts m (Bind port chassis) effects after h = counts_kept m after _ h.1 (record { accepted_are = refl; refused_are = refl })
does_counts m (Unbind port) effects after h = counts_kept m after _ h.1 (record { accepted_are = refl; refused_are = refl })
does_counts m (AddChassis chassis) effects after h = counts_kept m after _ h.1 (record { accepted_are = refl; refused_are = refl })
does_counts m (RemoveChassis chassis) effects after h = counts_kept m after _ h.1 (record { accepted_are = refl; refused_are = refl })
does_counts m (Keys datapaths ports) effects after h = counts_kept m after _ h.1 (record { accepted_are = refl; refused_are = refl })
does_counts m (Health balancer backend online) effects after h = counts_kept m after _ h.1 (record { accepted_are = refl; refused_are = refl })
does_counts m (Clock seconds) effects after h = counts_kept m after _ h.1 (record { accepted_are = refl; refused_are = refl })
does_counts m (Inject port frame) effects after h = counts_kept m after _ h.moves.travels.state (record { accepted_are = refl; refused_are = refl })
does_counts m (Deliver n) effects after h = counts_kept m after _ h.travels.state (record { accepted_are = refl; refused_are = refl })
does_counts m (Lose n) effects after h = counts_kept m after _ h.travels.state (record { accepted_are = refl; refused_are = refl })
does_counts m (Repeat n) effects after h = counts_kept m after _ h.travels.state (record { accepted_are = refl; refused_are = refl })
does_counts m Drain effects after h = counts_kept m after _ h.travels.state (record { accepted_are = refl; refused_are = refl })
does_counts m (Packet port frame) effects after h = counts_kept m after _ h.moves.travels.state (record { accepted_are = refl; refused_are = refl })
does_counts m (Unread fault) effects after h = absurd h

-- a step counts one event that was accepted
pub step_counts : (m : State) (event : Event) (effects : List NetEffect) (after : State) → NetworkStep m event effects after → (after.accepted ≡ m.accepted + 1) × (after.refused ≡ m.refused)
step_counts m event effects after h =
    let does = does_counts m event effects h.mid h.does in
    (ap (λ (s : State). s.accepted) h.state ∙ ap (λ n. n + 1) does.accepted_are, ap (λ (s : State). s.refused) h.state ∙ does.refused_are)

accepts_from : (old : WorldView) (event : Event) (before text : List ℕ) (new : WorldView) → before ≡ [] → (h : IsAccepted old event before text new) → Takes old event (picks_of h.effects) text new
accepts_from old event before text new empty h =
    accepts (record { admitted = h.admitted; effects = h.effects; step = h.step; passed = passes_legally event old.state.clock old.sim (record { effects = h.effects; walks = new.walks }) new.sim h.passed; zones = h.zones; lists = h.lists; text = h.text ∙ ap (λ b. b ++ accepted_lines (event_count old.state + 1) h.effects (matched new.walks)) empty }) refl

-- an accepted event, where the text was empty
pub takes_accepted : (old : WorldView) (event : Event) (before text : List ℕ) (new : WorldView) → before ≡ [] → IsAccepted old event before text new × IsSound new → TakesWith true old event text new
takes_accepted old event before text new empty h =
    let counts = step_counts old.state event h.0.effects new.state h.0.step in
    record {
      picks = picks_of h.0.effects;
      takes = accepts_from old event before text new empty h.0;
      sound = h.1;
      accepted = counts.0;
      refused = omega (arith, counts.1);
    }

-- a refused event, where the text was empty
pub takes_refused : (old : WorldView) (event : Event) (why : Refusal) (before text : List ℕ) (new : WorldView) → before ≡ [] → IsRefused old event why before text new × IsSound new → TakesWith false old event text new
takes_refused old event why before text new empty h =
    let accepted : new.state.accepted ≡ old.state.accepted = ap (λ (w : WorldView). w.state.accepted) h.0.kept in
    record {
      picks = [];
      takes = refuses why (subst (λ b. IsRefused old event why b text new) empty h.0) refl;
      sound = h.1;
      accepted = omega (arith, accepted);
      refused = ap (λ (w : WorldView). w.state.refused) h.0.kept;
    }

-- some first bytes of a piece went out
pub was_cut : (before after : Option (List ℕ)) (piece whole : List ℕ) → piece ≡ whole → (n : ℕ) × (after ≡ append_known before (take n piece)) → WasCut whole before after
was_cut before after piece whole same h = subst (λ w. WasCut w before after) same (take h.0 piece, drop h.0 piece, sym (take-append-drop h.0 piece), h.1)

-- the whole piece went out
pub was_given : (before after : Option (List ℕ)) (piece whole : List ℕ) → piece ≡ whole → after ≡ append_known before piece → after ≡ append_known before whole
was_given before after piece whole same h = h ∙ ap (append_known before) same

-- one event more
pub one_more_event : (ok : Bool) (old : WorldView) (event : Event) (text : List ℕ) (new : WorldView) → TakesWith ok old event text new → event_count new.state ≡ event_count old.state + 1
one_more_event true old event text new h =
    let a = h.accepted in
    let r = h.refused in omega arith
one_more_event false old event text new h =
    let a = h.accepted in
    let r = h.refused in omega arith

-- what is so of an error is so of the answer that passes it on
pub passed_on : {T : Type 0} (result : Result T Stop) (stop : Stop) (P : Stop → Type 0) → IsErrAnd result (λ e. e ≡ stop) → P stop → IfErr result P
passed_on (Ok x) stop P h p = tt
passed_on (Err e) stop P h p = subst P (sym h) p
