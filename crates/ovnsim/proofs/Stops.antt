-- What stands where a run stops.
use Rattle.std.proofs.Common.{◌≡◌, ◌+◌, ◌-◌, ◌^◌, ◌<◌, ◌≤◌, ◌++◌, ℕ, Bool, true, false, List, [], ◌∷◌, length, nat_lt, Option, Some, None, IfSome, refl, sym, ap, ◌∙◌, subst, append_assoc, append-nil, arith, lt-ltb, le-ltb, cond}
use Rattle.std.proofs.lemmas.Bool.{cond-true, cond-false}
use Rattle.std.specs.Io.KnownBytes.{append_known, IsAtEnd}
use Rattle.ovn_base.specs.lines.Lines.{lines_within}
use Rattle.ovn_base.specs.lines.Reading.{Reading, GivesLine, Stops, bytes_taken}
use Rattle.ovn_base.specs.streams.WhereTold.{WhereTold}
use Rattle.ovn_base.proofs.LineLaws.{within-nil}
use Rattle.ovn_base.proofs.WhereToldLaws.{told_then, told_some, append_none, append_twice}
use Rattle.edit_reader.specs.declared.event.Event.{Event}
use Rattle.event_lines.specs.Lines.{end_line}
use Rattle.world_core.specs.StepParts.{new_world}
use Rattle.world_core.specs.WorldView.{WorldView}
use Rattle.net_model.specs.State.{event_count}
use Rattle.ovnsim.specs.declared.next_event.Next.TheVariants.{Found, End}
use Rattle.ovnsim.specs.Answers.{Answers, GainsEvents, GainsFront, GainsRead, GainsTexts, GainsToLimit, GainsWhole, end_of, end_within, lines_in, then_last}
use Rattle.ovnsim.specs.Events.{AsksFor, GivesNext}
use Rattle.ovnsim.specs.Next.{IsBelowLimit, StopsIn}
use Rattle.ovnsim.specs.Runs.{RunsLines}
use Rattle.ovnsim.specs.Stops.{CutsShort, StandsAt}
use Rattle.ovnsim.specs.Taking.{GainsCut, WasCut}
use Rattle.ovnsim.specs.declared.run.Stop.{Stop}
use Rattle.ovnsim.specs.declared.run.Stop.TheVariants.{ReadFault, WriteFault, Memory, InputTooLong}
use Rattle.event_lines.specs.Picks.{picks_in, AreWholeLines}
use Rattle.event_lines.proofs.PickLines as read
use Rattle.ovnsim.proofs.ReadOff.{run_whole}
use Rattle.ovnsim.proofs.Admits.{Fits}
use Rattle.ovnsim.proofs.RunSteps.{Ran, fresh, lines_more, lines_on}

-- the bytes that are left of the limit
abbrev left_of : Reading → ℕ
left_of m = 2 ^ 40 - m.given

left_is : (m : Reading) → IsBelowLimit m → 2 ^ 40 ≡ left_of m + m.given
left_is m w = let l = w.limit in omega arith

left_some : (m : Reading) → IsBelowLimit m → m.ended ≡ true → 0 < left_of m
left_some m w e = let l = w.below e in omega arith

-- nothing was taken yet
pub record IsStart (m : Reading) (world : WorldView) : Type 0 where
  pub within : IsBelowLimit m
  pub unbroken : m.faulted ≡ false
  pub not_ended : m.ended ≡ true → ⊥
  pub events : event_count world.state ≤ m.given
  pub accepted : 0 ≡ world.state.accepted
  pub refused : 0 ≡ world.state.refused

fresh_start : IsStart fresh new_world
fresh_start = record { within = record { limit = omega arith; below = λ e. cc e }; unbroken = refl; not_ended = λ e. cc e; events = omega arith; accepted = refl; refused = refl }

pub starts : (m : Reading) (world : WorldView) → m ≡ fresh → world ≡ new_world → IsStart m world
starts m world e f = rw (e, f) fresh_start

-- no text was given
pub nothing_done : (X before : Option (List ℕ)) → IfSome X (GainsEvents before before)
nothing_done None before = tt
nothing_done (Some x) before = record {
  done = [];
  rest = lines_in x;
  text = [];
  last = new_world;
  all = refl;
  run = record { events = []; are = refl; run = (refl, refl, refl) };
  gone = sym (append_none before);
}

-- the texts so far stand
at_memory : (X Y before sent now : Option (List ℕ)) (m : Reading) (world : WorldView) → IsBelowLimit m → WhereTold X Y (Ran m world before sent) → now ≡ sent → IfSome X (GainsEvents before now)
at_memory X Y before sent now m world w h same =
    told_some X Y (Ran m world before sent) (GainsEvents before now) h (λ x y p. record {
      done = p.done;
      rest = lines_within (left_of m) y;
      text = p.text;
      last = world;
      all = p.lines (left_of m) (2 ^ 40) (left_is m w) (left_some m w);
      run = p.run;
      gone = same ∙ p.gone;
    })

cut_text : (t piece front more z : List ℕ) → piece ≡ front ++ more → (t ++ piece) ++ z ≡ (t ++ front) ++ (more ++ z)
cut_text t piece front more z e =
    append_assoc t piece z ∙ ap (λ x. t ++ (x ++ z)) e ∙ ap (λ x. t ++ x) (append_assoc front more z) ∙ sym (append_assoc t front (more ++ z))

front_of : Fits → (m k : Reading) (world : WorldView) (before sent now : Option (List ℕ)) (input ahead line after : List ℕ) (event : Event) → m.given < k.given → IsBelowLimit k → Ran m world before sent input ahead
    → GivesLine line m k ahead after → AsksFor line event → GainsCut world event sent now → GainsFront before now input
front_of fits m k world before sent now input ahead line after event more w h g a t =
    let rest = lines_within (left_of k) after in record {
      done = h.done ++ line ∷ [];
      rest = rest;
      text = h.text ++ t.text;
      last = t.new;
      all = lines_on m k world before sent input ahead line after more h g (left_of k) (2 ^ 40) (left_is k w) (left_some k w);
      run = lines_more fits h.done h.text line event t.taken.picks t.text world t.new h.run a t.taken.takes t.taken.sound;
      front = h.text ++ t.cut.0;
      more = t.cut.1 ++ then_last rest input t.new;
      cut = cut_text h.text t.text t.cut.0 t.cut.1 (then_last rest input t.new) t.cut.2;
      gone = t.cut.3 ∙ ap (λ x. append_known x t.cut.0) h.gone ∙ append_twice before h.text t.cut.0;
    }

-- some first bytes of the text of an event
at_give : Fits → (X Y Z before sent now : Option (List ℕ)) (m k : Reading) (world : WorldView) (event : Event) → m.given < k.given → IsBelowLimit k → WhereTold X Y (Ran m world before sent)
    → WhereTold Y Z (GivesNext (Found event) m k) → GainsCut world event sent now → IfSome X (GainsFront before now)
at_give fits X Y Z before sent now m k world event more w h g t =
    let R : List ℕ → List ℕ → Type 0 = λ x z. GainsFront before now x in
    told_some X Z R (GainsFront before now) (
    told_then X Y Z (Ran m world before sent) (GivesNext (Found event) m k) R h g (
    λ x y z p q. front_of fits m k world before sent now x y q.0 z event more w p q.1 q.2 t)) (λ x z p. p)

-- the lines of the input within the bytes that were taken
stop_lines : (m k : Reading) (world : WorldView) (before sent : Option (List ℕ)) (input ahead left : List ℕ) → m.ended ≡ false → (h : Ran m world before sent input ahead) → Stops m k ahead left
    → lines_within (bytes_taken k) input ≡ h.done
stop_lines m k world before sent input ahead left open' h s =
    let r = bytes_taken k - m.given in
    let later = s.later in
    let first : bytes_taken k ≡ r + m.given = omega arith in
    h.lines r (bytes_taken k) first (λ e. cc (sym open' ∙ e)) ∙ ap (λ ls. h.done ++ ls) (s.none r (sym first)) ∙ append-nil h.done

-- the source failed
at_read : (X Y Z before sent : Option (List ℕ)) (m k : Reading) (world : WorldView) → m.ended ≡ false → bytes_taken k < 2 ^ 40 → WhereTold X Y (Ran m world before sent) → WhereTold Y Z (Stops m k)
    → WhereTold X Z (GainsRead before sent)
at_read X Y Z before sent m k world open' few h s =
    told_then X Y Z (Ran m world before sent) (Stops m k) (GainsRead before sent) h s (λ x y z p q.
    let all = p.count in
    let taken_is = q.count in
    let n : length x - length z ≡ bytes_taken k = omega arith in record {
      taken = omega arith;
      text = p.text;
      last = world;
      run = subst (λ ls. RunsLines ls (picks_in p.text) p.text world) (sym (ap (λ i. lines_within i x) n ∙ stop_lines m k world before sent x y z open' p q)) p.run;
      gone = p.gone;
    })

-- the input has no end
at_limit : (X Y Z before sent : Option (List ℕ)) (m k : Reading) (world : WorldView) → m.ended ≡ false → bytes_taken k ≡ 2 ^ 40 → WhereTold X Y (Ran m world before sent) → WhereTold Y Z (Stops m k)
    → WhereTold X Z (GainsToLimit before sent)
at_limit X Y Z before sent m k world open' full h s =
    told_then X Y Z (Ran m world before sent) (Stops m k) (GainsToLimit before sent) h s (λ x y z p q.
    let all = p.count in
    let taken_is = q.count in record {
      taken = omega arith;
      text = p.text;
      last = world;
      run = subst (λ ls. RunsLines ls (picks_in p.text) p.text world) (sym (ap (λ i. lines_within i x) (sym full) ∙ stop_lines m k world before sent x y z open' p q)) p.run;
      gone = p.gone;
    })

-- where no next line was found
pub next_stands : (stop : Stop) (X Y Z before sent : Option (List ℕ)) (m k : Reading) (world : WorldView) → IsBelowLimit m → WhereTold X Y (Ran m world before sent) → StopsIn stop m k Y Z → StandsAt stop X Z before sent
next_stands ReadFault X Y Z before sent m k world w h s = at_read X Y Z before sent m k world s.1.not_ended s.0 h s.1.told
next_stands InputTooLong X Y Z before sent m k world w h s = at_limit X Y Z before sent m k world s.1.not_ended s.0 h s.1.told
next_stands Memory X Y Z before sent m k world w h s = at_memory X Y before sent sent m world w h refl
next_stands WriteFault X Y Z before sent m k world w h s = absurd s

-- where the text of an event was not given
pub give_stands : Fits → (stop : Stop) (X Y Z left before sent now : Option (List ℕ)) (m k : Reading) (world : WorldView) (event : Event) → m.given < k.given → IsBelowLimit m → IsBelowLimit k → WhereTold X Y (Ran m world before sent)
    → WhereTold Y Z (GivesNext (Found event) m k) → CutsShort stop (GainsCut world event) sent now → StandsAt stop X left before now
give_stands fits ReadFault X Y Z left before sent now m k world event more w v h g t = absurd t
give_stands fits InputTooLong X Y Z left before sent now m k world event more w v h g t = absurd t
give_stands fits Memory X Y Z left before sent now m k world event more w v h g t = at_memory X Y before sent now m world w h t
give_stands fits WriteFault X Y Z left before sent now m k world event more w v h g t = at_give fits X Y Z before sent now m k world event more v h g t

-- with the end seen, nothing is left
pub stays_at_end : (b c : Bool) (X Z : Option (List ℕ)) → (b ≡ true → IsAtEnd X) → (b ≡ true → Z ≡ X) → (b ≡ false → c ≡ true → IsAtEnd Z) → c ≡ true → IsAtEnd Z
stays_at_end true c X Z was same seen e = subst IsAtEnd (sym (same refl)) (was refl)
stays_at_end false c X Z was same seen e = seen refl e

-- the input ended
pub at_end : (X Y Z before sent : Option (List ℕ)) (m k : Reading) (world : WorldView) → IsBelowLimit m → WhereTold X Y (Ran m world before sent) → WhereTold Y Z (GivesNext End m k)
    → IfSome X (GainsTexts before sent world)
at_end X Y Z before sent m k world w h g =
    let R : List ℕ → List ℕ → Type 0 = λ x z. GainsTexts before sent world x in
    told_some X Z R (GainsTexts before sent world) (
    told_then X Y Z (Ran m world before sent) (GivesNext End m k) R h g (λ x y z p q.
    let all = p.count in
    let same = q.2 in
    let short = q.4 in
    let none : length y ≡ 0 = ap (λ (ls : List ℕ). length ls) q.0 in
    let some : 0 < left_of m = omega arith in record {
      short = omega arith;
      text = p.text;
      run = subst (λ ls. RunsLines ls (picks_in p.text) p.text world) (sym (p.lines (left_of m) (2 ^ 40) (left_is m w) (λ _. some) ∙ ap (λ ls. p.done ++ lines_within (left_of m) ls) q.0 ∙ ap (λ ls. p.done ++ ls) (within-nil (left_of m)) ∙ append-nil p.done)) p.run;
      gone = p.gone;
    })) (λ x z p. p)

map_some : (X : Option (List ℕ)) (P Q : List ℕ → Type 0) → IfSome X P → ((x : List ℕ) → P x → Q x) → IfSome X Q
map_some None P Q p k = tt
map_some (Some x) P Q p k = k x p

-- the last line of a world
end_is : (last : WorldView) (a r waiting : ℕ) → a ≡ last.state.accepted → r ≡ last.state.refused → waiting ≡ length last.state.waiting → end_line (a + r) a r waiting ≡ end_of last
end_is last a r waiting e f z = rw (e, f, z) refl

-- the last line went out
pub whole_of : (X before sent now : Option (List ℕ)) (last : WorldView) (a r waiting : ℕ) (refused : Bool) → IfSome X (GainsTexts before sent last) → a ≡ last.state.accepted → r ≡ last.state.refused → waiting ≡ length last.state.waiting
    → refused ≡ nat_lt 0 r → now ≡ append_known sent (end_line (a + r) a r waiting) → IfSome X (GainsWhole refused before now)
whole_of X before sent now last a r waiting refused h e f z b g = map_some X (GainsTexts before sent last) (GainsWhole refused before now) h (λ x p. record {
  short = p.short;
  text = p.text;
  last = last;
  run = p.run;
  refused_is = b ∙ ap (nat_lt 0) f;
  gone = g ∙ ap (append_known sent) (end_is last a r waiting e f z) ∙ ap (λ s. append_known s (end_of last)) p.gone ∙ append_twice before p.text (end_of last);
})

end_within-short : (input : List ℕ) (last : WorldView) → length input < 2 ^ 40 → end_within input last ≡ end_of last
end_within-short input last h = cond-true _ _ _ (lt-ltb (length input) (2 ^ 40) h)

-- some first bytes of the last line went out
end_cut : (X before sent now : Option (List ℕ)) (last : WorldView) (a r waiting : ℕ) → IfSome X (GainsTexts before sent last) → a ≡ last.state.accepted → r ≡ last.state.refused → waiting ≡ length last.state.waiting
    → WasCut (end_line (a + r) a r waiting) sent now → IfSome X (GainsFront before now)
end_cut X before sent now last a r waiting h e f z g = map_some X (GainsTexts before sent last) (GainsFront before now) h (λ x p. record {
  done = lines_in x;
  rest = [];
  text = p.text;
  last = last;
  all = sym (append-nil (lines_in x));
  run = p.run;
  front = p.text ++ g.0;
  more = g.1;
  cut = ap (λ y. p.text ++ y) (end_within-short x last p.short ∙ sym (end_is last a r waiting e f z) ∙ g.2) ∙ sym (append_assoc p.text g.0 g.1);
  gone = g.3 ∙ ap (λ s. append_known s g.0) p.gone ∙ append_twice before p.text g.0;
})

-- no memory for the last line
end_memory : (X before sent now : Option (List ℕ)) (last : WorldView) → IfSome X (GainsTexts before sent last) → now ≡ sent → IfSome X (GainsEvents before now)
end_memory X before sent now last h same = map_some X (GainsTexts before sent last) (GainsEvents before now) h (λ x p. record {
  done = lines_in x;
  rest = [];
  text = p.text;
  last = last;
  all = sym (append-nil (lines_in x));
  run = p.run;
  gone = same ∙ p.gone;
})

-- where the last line was not given
pub end_stands : (stop : Stop) (X left before sent now : Option (List ℕ)) (last : WorldView) (a r waiting : ℕ) → IfSome X (GainsTexts before sent last) → a ≡ last.state.accepted → r ≡ last.state.refused → waiting ≡ length last.state.waiting
    → CutsShort stop (WasCut (end_line (a + r) a r waiting)) sent now → StandsAt stop X left before now
end_stands ReadFault X left before sent now last a r waiting h e f z t = absurd t
end_stands InputTooLong X left before sent now last a r waiting h e f z t = absurd t
end_stands Memory X left before sent now last a r waiting h e f z t = end_memory X before sent now last h t
end_stands WriteFault X left before sent now last a r waiting h e f z t = end_cut X before sent now last a r waiting h e f z t

-- the last line names nothing that was picked
with_end : (input text : List ℕ) (last : WorldView) → RunsLines (lines_in input) (picks_in text) text last → RunsLines (lines_in input) (picks_in (text ++ end_within input last)) text last
with_end input text last h =
    let whole : AreWholeLines text = run_whole new_world h.events (picks_in text) text last h.run in
    subst (λ ps. RunsLines (lines_in input) ps text last) (sym (by whole (nat_lt (length input) (2 ^ 40)))) h
  where
    by : AreWholeLines text → (t : Bool) → picks_in (text ++ cond t (end_of last) []) ≡ picks_in text
    by whole true = read.joined text (end_of last) whole ∙ ap (λ ps. picks_in text ++ ps) (read.end (event_count last.state) last.state.accepted last.state.refused (length last.state.waiting)) ∙ append-nil (picks_in text)
    by whole false = ap picks_in (append-nil text)

-- an input with an end is answered
pub answers_whole : (X before now : Option (List ℕ)) (refused : Bool) → IfSome X (GainsWhole refused before now) → IfSome X (Answers (cond refused 3 0) before now)
answers_whole X before now refused h = map_some X (GainsWhole refused before now) (Answers (cond refused 3 0) before now) h (λ x p. record {
  written = p.text ++ end_within x p.last;
  gone = p.gone ∙ ap (λ y. append_known before (p.text ++ y)) (sym (end_within-short x p.last p.short));
  text = p.text;
  last = p.last;
  run = with_end x p.text p.last p.run;
  whole = refl;
  status_is = ap (λ (b : Bool). cond b 3 0) p.refused_is ∙ sym (cond-true _ _ _ (lt-ltb (length x) (2 ^ 40) p.short));
})

-- and so is one without
pub answers_limit : (X Z before now : Option (List ℕ)) → WhereTold X Z (GainsToLimit before now) → IfSome X (Answers 8 before now)
answers_limit X Z before now h = told_some X Z (GainsToLimit before now) (Answers 8 before now) h (λ x z p.
    let all = p.taken in
    let over = le-ltb (length x) (2 ^ 40) (omega arith) in
    let none : end_within x p.last ≡ [] = cond-false _ _ _ over in record {
      written = p.text ++ end_within x p.last;
      gone = p.gone ∙ ap (append_known before) (sym (append-nil p.text) ∙ ap (λ y. p.text ++ y) (sym none));
      text = p.text;
      last = p.last;
      run = with_end x p.text p.last p.run;
      whole = refl;
      status_is = sym (cond-false _ _ _ over);
    })
