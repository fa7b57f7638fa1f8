-- What holds while the next line is looked for.
use Rattle.std.proofs.Common.{◌≡◌, ◌≢◌, ℕ, ◌+◌, ◌<◌, ◌≤◌, Bool, true, false, cond, ◌||◌, nat_lt, List, [], ◌∷◌, ◌++◌, length, Option, Some, None, option_map, refl, sym, ap, ◌∙◌, subst, arith, append_assoc, append-nil, length-append, length-take, take, ltb-true, true≢false}
use Rattle.std.proofs.lemmas.List.Elements.{All-append, All-nil, All-same}
use Rattle.std.specs.Io.KnownBytes.{prepend_known}
use Rattle.ovn_base.specs.streams.WhereTold.{WhereTold}
use Rattle.ovn_base.specs.lines.Lines.{HasNoFeed, ended_lines}
use Rattle.ovn_base.specs.lines.Reading.{Reading, unread, rest_of, GivesLine, Gives, Stops}
use Rattle.ovn_base.specs.lines.Cuts.{CutsEnded}
use Rattle.ovn_base.specs.declared.next_line.Line.{Line}
use Rattle.ovn_base.specs.declared.next_line.Line.TheVariants.{Text, TooLong}
use Rattle.ovn_base.proofs.WhereToldLaws.{prepend_twice, prepend_none, told_weaker}
use Rattle.ovn_base.proofs.LineLaws.{within-line, within-last, within-none, ended_lines-none}

abbrev NotFeed : ℕ → Type 0
NotFeed b = b ≢ 10

-- Some bytes of the line were let go, and the rest of it is unread.
pub record Going (old : Reading) (before : Option (List ℕ)) (is_skipped : Bool) (now : Reading) (left : Option (List ℕ)) : Type 0 where
  pub dropped : List ℕ
  pub no_feed : HasNoFeed dropped
  pub ahead : unread old before ≡ prepend_known dropped (unread now left)
  pub kept : is_skipped ≡ false → dropped ≡ []
  pub long : is_skipped ≡ true → 1048576 < length dropped
  pub given : now.given ≡ old.given + length dropped

-- all held bytes are let go
pub going-skip : (old : Reading) (before : Option (List ℕ)) (is_skipped : Bool) (mid new : Reading) (left : Option (List ℕ)) → Going old before is_skipped mid left
    → HasNoFeed mid.held → 1048576 < length mid.held → new ≡ record mid { given = mid.given + length mid.held; text = mid.held; held = [] } → Going old before true new left
going-skip old before is_skipped mid new left g none long e =
    let l = length-append g.dropped mid.held in
    let given = g.given in
    subst (λ (x : Reading). Going old before true x left) (sym e) (record {
      dropped = g.dropped ++ mid.held;
      no_feed = All-append NotFeed g.dropped mid.held g.no_feed none;
      ahead = g.ahead ∙ prepend_twice g.dropped mid.held _ ∙ ap (prepend_known (g.dropped ++ mid.held)) (sym (prepend_none (rest_of mid.ended left)));
      kept = λ h. absurd (true≢false h);
      long = λ _. omega arith;
      given = omega arith;
    })

-- more was taken
pub going-more : (old : Reading) (before : Option (List ℕ)) (is_skipped : Bool) (mid new : Reading) (left rest : Option (List ℕ)) → Going old before is_skipped mid left
    → unread new rest ≡ unread mid left → new.given ≡ mid.given → Going old before is_skipped new rest
going-more old before is_skipped mid new left rest g e k = record {
  dropped = g.dropped;
  no_feed = g.no_feed;
  ahead = g.ahead ∙ ap (prepend_known g.dropped) (sym e);
  kept = g.kept;
  long = g.long;
  given = k ∙ g.given;
}

-- what a line is
abbrev pub kind_of : Bool → ℕ → Line
kind_of is_skipped n = cond (is_skipped || nat_lt 1048576 n) TooLong Text

-- the last line is too long
given-long : (line : List ℕ) (old new : Reading) (before after : Option (List ℕ)) → 1048576 < length line
    → WhereTold before after (GivesLine line old new) → WhereTold before after (Gives TooLong old new)
given-long line old new before after long h = told_weaker before after (GivesLine line old new) (Gives TooLong old new) h (λ x y p. (line, p, long))

-- a line was found, no byte of which was let go
given-whole : (b : Bool) (old new : Reading) (before after : Option (List ℕ)) → nat_lt 1048576 (length new.text) ≡ b
    → WhereTold before after (GivesLine new.text old new) → WhereTold before after (Gives (cond b TooLong Text) old new)
given-whole true old new before after e h = given-long new.text old new before after (ltb-true 1048576 (length new.text) e) h
given-whole false old new before after e h = h

-- a line was found, which is the text unless bytes of it were let go
given-kind : (is_skipped : Bool) (dropped : List ℕ) (old new : Reading) (before after : Option (List ℕ)) → (is_skipped ≡ false → dropped ≡ []) → (is_skipped ≡ true → 1048576 < length dropped)
    → WhereTold before after (GivesLine (dropped ++ new.text) old new) → WhereTold before after (Gives (kind_of is_skipped (length new.text)) old new)
given-kind true dropped old new before after kept long h =
    let more = length-append dropped new.text in
    let far = long refl in
    given-long (dropped ++ new.text) old new before after (omega arith) h
given-kind false dropped old new before after kept long h =
    given-whole (nat_lt 1048576 (length new.text)) old new before after refl (subst (λ (d : List ℕ). WhereTold before after (GivesLine (d ++ new.text) old new)) (kept refl) h)

-- bytes that were let go, a held line with its feed, and the rest
told-line : (d t r : List ℕ) (X B A : Option (List ℕ)) (old new : Reading) → B ≡ prepend_known d (prepend_known (t ++ 10 ∷ r) X) → A ≡ prepend_known r X
    → HasNoFeed (d ++ t) → new.given ≡ old.given + (length d + (length t + 1)) → WhereTold B A (GivesLine (d ++ t) old new)
told-line d t r None B A old new e f none k = rw (f, e) tt
told-line d t r (Some x) B A old new e f none k =
    let whole : d ++ ((t ++ 10 ∷ r) ++ x) ≡ (d ++ t) ++ 10 ∷ (r ++ x) = ap (λ y. d ++ y) (append_assoc t (10 ∷ r) x) ∙ sym (append_assoc d t (10 ∷ (r ++ x))) in
    let front = length-append d t in
    let all = length-append (d ++ t) (10 ∷ (r ++ x)) in
    let gives : GivesLine (d ++ t) old new ((d ++ t) ++ 10 ∷ (r ++ x)) (r ++ x) = record {
      lines = λ m n q _. within-line (d ++ t) (r ++ x) n m (omega arith) none;
      count = omega arith;
    } in
    rw (f, e, whole) gives

-- bytes that were let go and a held line, at the end
told-last : (d t : List ℕ) (X B A : Option (List ℕ)) (old new : Reading) → B ≡ prepend_known d (prepend_known t (option_map (λ _. []) X)) → A ≡ prepend_known [] (option_map (λ _. []) X)
    → HasNoFeed (d ++ t) → d ++ t ≢ [] → new.ended ≡ true → new.given ≡ old.given + (length d + length t) → WhereTold B A (GivesLine (d ++ t) old new)
told-last d t None B A old new e f none some ended k = rw (f, e) tt
told-last d t (Some x) B A old new e f none some ended k =
    let front = length-append d t in
    let gives : GivesLine (d ++ t) old new (d ++ t) [] = record {
      lines = λ m n q rest. within-last (d ++ t) n m (omega arith) (rest ended) some none;
      count = omega arith;
    } in
    rw (f, e, append-nil t) gives

-- bytes that were let go and held bytes, and a fault
told-stop : (d t : List ℕ) (X B : Option (List ℕ)) (old now : Reading) → B ≡ prepend_known d (prepend_known t X) → HasNoFeed (d ++ t) → now.held ≡ t → now.given ≡ old.given + length d
    → WhereTold B X (Stops old now)
told-stop d t None B old now e none held k = rw e tt
told-stop d t (Some x) B old now e none held k =
    let front = length-append d t in
    let all = length-append (d ++ t) x in
    let size = ap length held in
    let stops : Stops old now ((d ++ t) ++ x) x = record {
      later = omega arith;
      none = λ n q. within-none (d ++ t) x n (omega arith) none;
      count = omega arith;
    } in
    rw (e, ← append_assoc d t x) stops

-- a line that a line feed ends
pub found-ended : (old : Reading) (before : Option (List ℕ)) (is_skipped : Bool) (mid new : Reading) (left : Option (List ℕ)) → Going old before is_skipped mid left
    → CutsEnded mid new → WhereTold (unread old before) (unread new left) (Gives (kind_of is_skipped (length new.text)) old new)
found-ended old before is_skipped mid new left g cut =
    let given = g.given in
    let more = cut.given in
    given-kind is_skipped g.dropped old new _ _ g.kept g.long
    (
    told-line g.dropped new.text new.held (rest_of mid.ended left) (unread old before) (unread new left) old new
    (g.ahead ∙ ap (λ x. prepend_known g.dropped (prepend_known x (rest_of mid.ended left))) cut.split)
    (ap (λ b. prepend_known new.held (rest_of b left)) cut.ended)
    (All-append NotFeed _ _ g.no_feed cut.no_feed)
    (omega arith)
    )

-- a last line
pub found-last : (old : Reading) (before : Option (List ℕ)) (is_skipped : Bool) (mid new : Reading) (left : Option (List ℕ)) → Going old before is_skipped mid left
    → HasNoFeed mid.held → mid.ended ≡ true → (length mid.held ≡ 0 → is_skipped ≡ true) → new ≡ record mid { given = mid.given + length mid.held; text = mid.held; held = [] }
    → WhereTold (unread old before) (unread new left) (Gives (kind_of is_skipped (length mid.held)) old new)
found-last old before is_skipped mid new left g none ended some e =
    let last : Reading = record mid { given = mid.given + length mid.held; text = mid.held; held = [] } in
    let given = g.given in
    let joined = length-append g.dropped mid.held in
    let nonempty : g.dropped ++ mid.held ≢ [] = λ z.
    let size : length (g.dropped ++ mid.held) ≡ 0 = ap length z in
    let far : 1048576 < length g.dropped = g.long (some (omega arith)) in
    omega arith in
    subst (λ (x : Reading). WhereTold (unread old before) (unread x left) (Gives (kind_of is_skipped (length mid.held)) old x)) (sym e)
    (
    given-kind is_skipped g.dropped old last _ _ g.kept g.long
    (
    told-last g.dropped mid.held left (unread old before) (unread last left) old last
    (g.ahead ∙ ap (λ b. prepend_known g.dropped (prepend_known mid.held (rest_of b left))) ended)
    (ap (λ b. prepend_known [] (rest_of b left)) ended)
    (All-append NotFeed _ _ g.no_feed none)
    nonempty
    ended
    (omega arith)
    )
    )

-- it stopped with no line that is ended
pub stopped : (old : Reading) (before : Option (List ℕ)) (is_skipped : Bool) (now : Reading) (left : Option (List ℕ)) → Going old before is_skipped now left
    → HasNoFeed now.held → now.ended ≡ false → WhereTold (unread old before) left (Stops old now)
stopped old before is_skipped now left g none ended =
    told-stop g.dropped now.held left (unread old before) old now
    (g.ahead ∙ ap (λ b. prepend_known g.dropped (prepend_known now.held (rest_of b left))) ended)
    (All-append NotFeed _ _ g.no_feed none)
    refl
    g.given

-- a buffer without a line feed held no whole line
pub impatient : (held was : List ℕ) → HasNoFeed held → held ≡ was → ended_lines was ≢ [] → ⊥
impatient held was none e h = h (ap ended_lines (sym e) ∙ ended_lines-none held none)

-- before more is taken, all held bytes were searched
pub record Searched (old : Reading) (before : Option (List ℕ)) (is_skipped : Bool) (scanned : ℕ) (now : Reading) (left : Option (List ℕ)) : Type 0 where
  pub going : Going old before is_skipped now left
  pub none : HasNoFeed now.held
  pub all : scanned ≡ length now.held
  pub ended : now.ended ≡ false
  pub faulted : now.faulted ≡ false

-- a long line's bytes were let go
pub searched-skip : (old : Reading) (before : Option (List ℕ)) (is_skipped : Bool) (mid new : Reading) (left : Option (List ℕ)) → Going old before is_skipped mid left
    → HasNoFeed mid.held → mid.ended ≡ false → mid.faulted ≡ false → 1048576 < length mid.held → new ≡ record mid { given = mid.given + length mid.held; text = mid.held; held = [] }
    → Searched old before true 0 new left
searched-skip old before is_skipped mid new left g none ended faulted long e = record {
  going = going-skip old before is_skipped mid new left g none long e;
  none = subst (λ (x : Reading). HasNoFeed x.held) (sym e) (All-nil NotFeed);
  all = ap (λ (x : Reading). length x.held) (sym e);
  ended = ap (λ (x : Reading). x.ended) e ∙ ended;
  faulted = ap (λ (x : Reading). x.faulted) e ∙ faulted;
}

-- of more bytes, those that were searched have no feed
pub searched-front : (held more : List ℕ) (n : ℕ) → HasNoFeed held → n ≡ length held → take (length held) more ≡ held → HasNoFeed (take n more)
searched-front held more n none e front = All-same NotFeed (take n more) held (ap (λ k. take k more) e ∙ front) none

-- and they are all there
pub searched-within : (held more : List ℕ) (n : ℕ) → n ≡ length held → take (length held) more ≡ held → n ≤ length more
searched-within held more n e front =
    let size = ap length front in
    let front-size = length-take (length held) more in
    omega arith
