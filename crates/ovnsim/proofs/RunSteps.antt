-- How a run goes on, line by line.
use Rattle.std.proofs.Common.{◌≡◌, ◌+◌, ◌-◌, ◌<◌, ◌++◌, ℕ, Bool, true, false, List, [], ◌∷◌, length, Option, Some, None, inl, inr, refl, sym, ap, ◌∙◌, subst, append_assoc, append-nil, arith}
use Rattle.std.specs.Io.KnownBytes.{append_known}
use Rattle.ovn_base.specs.lines.Lines.{lines_within}
use Rattle.ovn_base.specs.lines.Reading.{Reading, GivesLine, unread}
use Rattle.ovn_base.specs.streams.WhereTold.{WhereTold}
use Rattle.ovn_base.proofs.WhereToldLaws.{told_then, append_none, append_twice}
use Rattle.edit_reader.specs.declared.event.Event.{Event}
use Rattle.world_core.specs.StepParts.{new_world}
use Rattle.world_core.specs.WorldView.{WorldView, IsSound}
use Rattle.ovnsim.specs.declared.next_event.Next.TheVariants.{Found, Blank}
use Rattle.ovnsim.specs.Events.{AreEvents, AsksFor, IsPassedOver, GivesNext}
use Rattle.ovnsim.specs.Runs.{Runs, RunsLines, Takes}
use Rattle.ovnsim.specs.Taking.{GainsText}
use Rattle.event_lines.specs.Picks.{Pick, picks_in}
use Rattle.ovnsim.proofs.Admits.{Fits}
use Rattle.ovnsim.proofs.ReadOff.{read_off}

-- Some first lines of the input were taken and their texts given, and the lines of the unread bytes are the others.
pub record Ran (m : Reading) (world : WorldView) (before sent : Option (List ℕ)) (input ahead : List ℕ) : Type 0 where
  pub done : List (List ℕ)
  pub text : List ℕ
  -- for each limit n on the input, of which r is left
  pub lines : (r n : ℕ) → n ≡ r + m.given → (m.ended ≡ true → 0 < r) → lines_within n input ≡ done ++ lines_within r ahead
  pub count : length input ≡ m.given + length ahead
  pub run : RunsLines done (picks_in text) text world
  pub gone : sent ≡ append_known before text

-- one line more, which is passed over
events_passed : (lines : List (List ℕ)) (events : List Event) (line : List ℕ) → AreEvents lines events → IsPassedOver line → AreEvents (lines ++ line ∷ []) events
events_passed [] events line h p = inl (p, h)
events_passed (l ∷ lines) events line (inl h) p = inl (h.0, events_passed lines events line h.1 p)
events_passed (l ∷ lines) events line (inr h) p = inr (record { first = h.first; others = h.others; all = h.all; asks = h.asks; after = events_passed lines h.others line h.after p })

-- one line more, which asks for an event
events_more : (lines : List (List ℕ)) (events : List Event) (line : List ℕ) (event : Event) → AreEvents lines events → AsksFor line event → AreEvents (lines ++ line ∷ []) (events ++ event ∷ [])
events_more [] events line event h a = inr (record { first = event; others = []; all = ap (λ es. es ++ event ∷ []) h; asks = a; after = refl })
events_more (l ∷ lines) events line event (inl h) a = inl (h.0, events_more lines events line event h.1 a)
events_more (l ∷ lines) events line event (inr h) a = inr (record {
  first = h.first;
  others = h.others ++ event ∷ [];
  all = ap (λ es. es ++ event ∷ []) h.all;
  asks = h.asks;
  after = events_more lines h.others line event h.after a;
})

-- one event more
runs_more : (old : WorldView) (events : List Event) (picks : List Pick) (text : List ℕ) (mid : WorldView) (event : Event) (own : List Pick) (piece : List ℕ) (last : WorldView) → Runs old events picks text mid
    → Takes mid event own piece last → IsSound last → Runs old (events ++ event ∷ []) (picks ++ own) (text ++ piece) last
runs_more old [] picks text mid event own piece last h t s = record {
  mid = last;
  own = own;
  left = [];
  first = piece;
  rest = [];
  picked = ap (λ x. x ++ own) h.0 ∙ sym (append-nil own);
  whole = ap (λ x. x ++ piece) h.1 ∙ sym (append-nil piece);
  takes = subst (λ (w : WorldView). Takes w event own piece last) h.2 t;
  sound = s;
  others = (refl, refl, refl);
}
runs_more old (first ∷ events) picks text mid event own piece last h t s = record {
  mid = h.mid;
  own = h.own;
  left = h.left ++ own;
  first = h.first;
  rest = h.rest ++ piece;
  picked = ap (λ x. x ++ own) h.picked ∙ append_assoc h.own h.left own;
  whole = ap (λ x. x ++ piece) h.whole ∙ append_assoc h.first h.rest piece;
  takes = h.takes;
  sound = h.sound;
  others = runs_more h.mid events h.left h.rest mid event own piece last h.others t s;
}

-- a line is passed over
pub lines_passed : (done : List (List ℕ)) (text line : List ℕ) (world : WorldView) → RunsLines done (picks_in text) text world → IsPassedOver line → RunsLines (done ++ line ∷ []) (picks_in text) text world
lines_passed done text line world h p = record { events = h.events; are = events_passed done h.events line h.are p; run = h.run }

-- the event of a line is taken
pub lines_more : Fits → (done : List (List ℕ)) (text line : List ℕ) (event : Event) (own : List Pick) (piece : List ℕ) (world last : WorldView) → RunsLines done (picks_in text) text world → AsksFor line event
    → Takes world event own piece last → IsSound last → RunsLines (done ++ line ∷ []) (picks_in (text ++ piece)) (text ++ piece) last
lines_more fits done text line event own piece world last h a t s =
    let are = events_more done h.events line event h.are a in
    let run = runs_more new_world h.events (picks_in text) text world event own piece last h.run t s in
    record {
      events = h.events ++ event ∷ [];
      are = are;
      run = subst (λ ps. Runs new_world (h.events ++ event ∷ []) ps (text ++ piece) last) (sym (read_off fits (done ++ line ∷ []) (h.events ++ event ∷ []) (picks_in text ++ own) (text ++ piece) last are run)) run;
    }

-- the lines that are left after a line more
pub lines_on : (m k : Reading) (world : WorldView) (before sent : Option (List ℕ)) (input ahead line after : List ℕ) → m.given < k.given → (h : Ran m world before sent input ahead) → GivesLine line m k ahead after
    → (r n : ℕ) → n ≡ r + k.given → (k.ended ≡ true → 0 < r) → lines_within n input ≡ (h.done ++ line ∷ []) ++ lines_within r after
lines_on m k world before sent input ahead line after more h g r n e p =
    let s = (r + k.given) - m.given in
    let first : n ≡ s + m.given = omega arith in
    let second : s + m.given ≡ r + k.given = omega arith in
    let some : 0 < s = omega arith in
    h.lines s n first (λ _. some) ∙ ap (λ ls. h.done ++ ls) (g.lines r s second p) ∙ sym (append_assoc h.done (line ∷ []) (lines_within r after))

ran_passed : (m k : Reading) (world : WorldView) (before sent : Option (List ℕ)) (input ahead line after : List ℕ) → m.given < k.given → Ran m world before sent input ahead → GivesLine line m k ahead after
    → IsPassedOver line → Ran k world before sent input after
ran_passed m k world before sent input ahead line after more h g p = record {
  done = h.done ++ line ∷ [];
  text = h.text;
  lines = lines_on m k world before sent input ahead line after more h g;
  count = h.count ∙ g.count;
  run = lines_passed h.done h.text line world h.run p;
  gone = h.gone;
}

ran_more : Fits → (m k : Reading) (world last : WorldView) (before sent now : Option (List ℕ)) (input ahead line after : List ℕ) (event : Event) (ok : Bool) → m.given < k.given
    → Ran m world before sent input ahead → GivesLine line m k ahead after → AsksFor line event → GainsText ok world event sent now last → Ran k last before now input after
ran_more fits m k world last before sent now input ahead line after event ok more h g a t = record {
  done = h.done ++ line ∷ [];
  text = h.text ++ t.text;
  lines = lines_on m k world before sent input ahead line after more h g;
  count = h.count ∙ g.count;
  run = lines_more fits h.done h.text line event t.taken.picks t.text world last h.run a t.taken.takes t.taken.sound;
  gone = t.gone ∙ ap (λ x. append_known x t.text) h.gone ∙ append_twice before h.text t.text;
}

-- a new buffer of lines
abbrev pub fresh : Reading
fresh = record { given = 0; text = []; held = []; ended = false; faulted = false }

start : (left before : Option (List ℕ)) → WhereTold left (unread fresh left) (Ran fresh new_world before before)
start None before = tt
start (Some input) before = record {
  done = [];
  text = [];
  lines = λ r n e p. ap (λ x. lines_within x input) (omega (arith, e));
  count = omega arith;
  run = record { events = []; are = refl; run = (refl, refl, refl) };
  gone = sym (append_none before);
}

-- nothing was taken yet
pub ran_start : (left before : Option (List ℕ)) (m : Reading) (world : WorldView) → m ≡ fresh → world ≡ new_world → WhereTold left (unread m left) (Ran m world before before)
ran_start left before m world e f = rw (e, f) (start left before)

-- a line that is passed over
pub turn_passed : (X Y Z before sent : Option (List ℕ)) (m k : Reading) (world : WorldView) → m.given < k.given → WhereTold X Y (Ran m world before sent) → WhereTold Y Z (GivesNext Blank m k)
    → WhereTold X Z (Ran k world before sent)
turn_passed X Y Z before sent m k world more h g =
    told_then X Y Z (Ran m world before sent) (GivesNext Blank m k) (Ran k world before sent) h g (λ x y z p q. ran_passed m k world before sent x y q.0 z more p q.1 q.2)

-- a line that asks for an event
pub turn_event : Fits → (X Y Z before sent now : Option (List ℕ)) (m k : Reading) (world last : WorldView) (event : Event) (ok : Bool) → m.given < k.given → WhereTold X Y (Ran m world before sent)
    → WhereTold Y Z (GivesNext (Found event) m k) → GainsText ok world event sent now last → WhereTold X Z (Ran k last before now)
turn_event fits X Y Z before sent now m k world last event ok more h g t =
    told_then X Y Z (Ran m world before sent) (GivesNext (Found event) m k) (Ran k last before now) h g (λ x y z p q. ran_more fits m k world last before sent now x y q.0 z event ok more p q.1 q.2 t)
