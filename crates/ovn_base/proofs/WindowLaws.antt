-- Laws of a part of a buffer.
use Rattle.std.proofs.Common.{◌≡◌, ◌==◌, ℕ, ◌+◌, ◌-◌, ◌≤◌, List, ◌++◌, length, take, drop, slice_range, position, MatchOption, Option, refl, sym, ap, ◌∙◌, arith, take_at, take-add}
use Rattle.std.proofs.lemmas.Slice.{between_is}
use Rattle.std.proofs.lemmas.List.{drop-drop, drop-take, take-take}
use Rattle.std.specs.Io.KnownBytes.{prepend_known}
use Rattle.ovn_base.specs.lines.WindowState.{WindowState}
use Rattle.ovn_base.specs.lines.Lines.{HasNoFeed}
use Rattle.ovn_base.proofs.WhereToldLaws.{prepend_twice}
use Rattle.ovn_base.proofs.SeparatorLaws.{IsFirstPlace, first_place}

-- the front of a part
pub range-front : (bytes : List ℕ) (start end at : ℕ) → start + at ≤ end → slice_range bytes start (start + at) ≡ take at (slice_range bytes start end)
range-front bytes start end at h =
    let k : start + at - start ≡ at = omega arith in
    rw k (sym (take-take at (end - start) (drop start bytes) (omega arith)))

-- the rest of a part
pub range-rest : (bytes : List ℕ) (start end at : ℕ) → start + at ≤ end → slice_range bytes (start + at) end ≡ drop at (slice_range bytes start end)
range-rest bytes start end at h =
    let k : end - start ≡ at + (end - (start + at)) = omega arith in
    rw (k, drop-take at (end - (start + at)) (drop start bytes), drop-drop at start bytes) refl

-- what is written behind a part stands behind it
pub range-more : (bytes : List ℕ) (start end n : ℕ) → start ≤ end → end + n ≤ length bytes → slice_range bytes start (end + n) ≡ slice_range bytes start end ++ take n (drop end bytes)
range-more bytes start end n h k =
    let e : end + n - start ≡ (end - start) + n = omega arith in
    let f : start + (end - start) ≡ end = omega arith in
    ap (λ x. take x (drop start bytes)) e ∙ take-add (end - start) n (drop start bytes)
    ∙ ap (λ ys. take (end - start) (drop start bytes) ++ take n ys) (drop-drop (end - start) start bytes ∙ ap (λ x. drop x bytes) f)

-- a list is kept where all of its front is written again
pub whole-again : (len : ℕ) (new old : List ℕ) → length new ≡ length old → len ≡ length old → take len (new ++ drop (length new) old) ≡ new
whole-again len new old e k = take_at new (drop (length new) old) len (omega arith)

-- a part within a front that is kept
pub range-same : (old new : List ℕ) (start end : ℕ) → take end new ≡ take end old → slice_range new start end ≡ slice_range old start end
range-same old new start end e = between_is new start end ∙ ap (drop start) e ∙ sym (between_is old start end)

-- what was held is held after a write behind it
pub held-kept : (len start end : ℕ) (new old held : List ℕ) → length new ≡ length old → len ≡ length old → take end new ≡ take end old → slice_range old start end ≡ held
    → slice_range (take len (new ++ drop (length new) old)) start end ≡ held
held-kept len start end new old held e k front h = rw (whole-again len new old e k) (range-same old new start end front ∙ h)

-- and what was written there follows it
pub held-more : (len start end n : ℕ) (new old held : List ℕ) → length new ≡ length old → len ≡ length old → take end new ≡ take end old → slice_range old start end ≡ held → start ≤ end → end + n ≤ length old
    → slice_range (take len (new ++ drop (length new) old)) start (end + n) ≡ held ++ take n (drop end new)
held-more len start end n new old held e k front h low high =
    rw (whole-again len new old e k) (range-more new start end n low (omega arith) ∙ ap (λ x. x ++ take n (drop end new)) (range-same old new start end front ∙ h))

-- the bytes ahead stay the same where the next ones are held too
pub ahead-more : (held piece now : List ℕ) (before after : Option (List ℕ)) → now ≡ held ++ piece → before ≡ prepend_known piece after → prepend_known now after ≡ prepend_known held before
ahead-more held piece now before after e f = ap (λ x. prepend_known x after) e ∙ sym (prepend_twice held piece after) ∙ ap (prepend_known held) (sym f)

-- the front of what is held stays
pub front-more : (held piece now : List ℕ) → now ≡ held ++ piece → take (length held) now ≡ held
front-more held piece now e = ap (take (length held)) e ∙ take_at held piece (length held) refl

-- a window after its text was cut off
pub cut-record : (w v : WindowState) (text held : List ℕ) (at : ℕ) → w ≡ v → text ≡ take at w.held → held ≡ drop (at + 1) w.held
    → (let x : WindowState = record w { text = text; held = held } in x) ≡ record v { text = take at v.held; held = drop (at + 1) v.held }
cut-record w v text held at e p q = rw (p, q, e) refl

-- the first line feed among the bytes stands at this place
abbrev pub IsFirstFeed : List ℕ → ℕ → Type 0
IsFirstFeed = IsFirstPlace 10

-- no line feed is among the bytes, or the first one has its place
pub first-feed : (bytes : List ℕ) → MatchOption (position (λ byte. byte == 10) bytes) (HasNoFeed bytes) (IsFirstFeed bytes)
first-feed bytes = first_place 10 bytes
