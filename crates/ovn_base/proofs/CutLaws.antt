-- Laws of a line that is cut off the held bytes.
use Rattle.std.proofs.Common.{◌≡◌, ◌==◌, ◌≢◌, ℕ, suc, ◌+◌, ◌<◌, List, ◌∷◌, ◌++◌, length, take, drop, slice_range, position, MatchOption, Some, None, sym, ap, ◌∙◌, subst, arith, length-take-le, length-append, length-take, length-drop, take-add, take-append-drop, append_assoc}
use Rattle.std.proofs.lemmas.List.{drop-drop, take_rest}
use Rattle.std.proofs.lemmas.List.Elements.{All-append, All-same}
use Rattle.ovn_base.specs.lines.Lines.{HasNoFeed}
use Rattle.ovn_base.specs.lines.Reading.{Reading}
use Rattle.ovn_base.specs.lines.Cuts.{CutsEnded}
use Rattle.ovn_base.proofs.WindowLaws.{IsFirstFeed, first-feed}

abbrev NotFeed : ℕ → Type 0
NotFeed b = b ≢ 10

-- what was searched before and what was searched now have no feed
no-feed-joined : (held : List ℕ) (n : ℕ) → HasNoFeed (take n held) → HasNoFeed (drop n held) → HasNoFeed held
no-feed-joined held n p q = All-same NotFeed held _ (sym (take-append-drop n held)) (All-append NotFeed _ _ p q)

-- the first feed behind what was searched before is the first of all
feed-joined : (held : List ℕ) (n at : ℕ) → HasNoFeed (take n held) → IsFirstFeed (drop n held) at → IsFirstFeed held (n + at)
feed-joined held n at p f = record {
  before = All-same NotFeed (take (n + at) held) _ (take-add n at held) (All-append NotFeed _ _ p f.before);
  split =
      let e : n + (at + 1) ≡ n + at + 1 = omega arith in
      sym (take-append-drop n held) ∙ ap (λ x. take n held ++ x) f.split ∙ sym (append_assoc (take n held) (take at (drop n held)) _)
      ∙ ap (λ x. x ++ 10 ∷ drop (at + 1) (drop n held)) (sym (take-add n at held)) ∙ ap (λ x. take (n + at) held ++ 10 ∷ x) (drop-drop (at + 1) n held ∙ ap (λ k. drop k held) e);
}

-- a search of the rest finds nothing
pub searched-none : (held : List ℕ) (n : ℕ) → HasNoFeed (take n held) → None ≡ position (λ byte. byte == 10) (slice_range held n (length held)) → HasNoFeed held
searched-none held n p e =
    let m = subst (λ o. MatchOption o (HasNoFeed (drop n held)) (IsFirstFeed (drop n held))) (ap (position (λ byte. byte == 10)) (sym (take_rest held n)) ∙ sym e) (first-feed (drop n held)) in
    no-feed-joined held n p m

-- a search of the rest finds the first feed
pub searched-some : (held : List ℕ) (n at : ℕ) → HasNoFeed (take n held) → Some at ≡ position (λ byte. byte == 10) (slice_range held n (length held)) → IsFirstFeed held (n + at)
searched-some held n at p e =
    let m = subst (λ o. MatchOption o (HasNoFeed (drop n held)) (IsFirstFeed (drop n held))) (ap (position (λ byte. byte == 10)) (sym (take_rest held n)) ∙ sym e) (first-feed (drop n held)) in
    feed-joined held n at p m

-- the line before the first feed was cut off
pub cut-ended : (old new : Reading) (at : ℕ) → IsFirstFeed old.held at → new.text ≡ take at old.held → new.held ≡ drop (at + 1) old.held → new.given ≡ old.given + (at + 1)
    → new.ended ≡ old.ended → new.faulted ≡ old.faulted → CutsEnded old new
cut-ended old new at f text held given ended faulted =
    let e : length old.held ≡ length (take at old.held) + suc (length (drop (at + 1) old.held)) = ap length f.split ∙ length-append (take at old.held) _ in
    let front = length-take at old.held in
    let rest = length-drop (at + 1) old.held in
    let low : at < length old.held = omega arith in
    let l = length-take-le at old.held (omega arith) in
    let k : length new.text ≡ at = ap length text ∙ l in
    record {
      no_feed = All-same NotFeed new.text _ text f.before;
      split = rw (text, held) f.split;
      given = omega arith;
      ended = ended;
      faulted = faulted;
    }
