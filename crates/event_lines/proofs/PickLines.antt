-- The picks that are read off the lines of effects are those of the effects.
use Rattle.std.proofs.Common.{◌≡◌, ◌<◌, ◌^◌, ◌++◌, ◌==◌, ℕ, Bool, true, false, List, [], ◌∷◌, Option, Some, codes, decimal, flat_map, if◌then◌else◌, refl, sym, ap, ◌∙◌, inl, inr, arith, append_assoc, append-nil}
use Rattle.std.specs.List.{AllByRecursion, onto_first}
use Rattle.std.specs.Str.Parse.{digits_value}
use Rattle.std.proofs.lemmas.Bool.{cases_Bool}
use borrow.Author.Tests.{eqb-true}
use Rattle.std.proofs.lemmas.Fmt.{decimal_is_IsNumeral}
use Rattle.std.proofs.lemmas.Grind.{flat_map-append}
use Rattle.std.proofs.lemmas.List.Elements.{All-from_recursion}
use Rattle.std.proofs.lemmas.List.Splits.{slice_split_at, slice_split_none}
use Rattle.hex.specs.Hex.{encode_lower}
use Rattle.ovn_base.specs.lines.Lines.{ended_lines, onto_ended, HasNoFeed}
use Rattle.ovn_base.specs.names.NameText.{IsName}
use Rattle.ovn_base.proofs.LineLaws.{ended_lines-feed}
use Rattle.ovn_base.specs.declared.address.Backend.{Backend}
use Rattle.nb_records.specs.Grammar.{IsBackend}
use Rattle.edit_reader.specs.Grammars.{spelled_backend}
use Rattle.flow_table.specs.declared.flow.Cause.{Cause}
use Rattle.flow_table.specs.declared.flow.Cause.TheVariants as cause
use Rattle.flow_table.specs.Causes.{cause_name}
use Rattle.inet_packet.specs.Frame.{frame_of}
use Rattle.switch_engine.specs.declared.effect.NetEffect.{NetEffect}
use Rattle.switch_engine.specs.declared.effect.NetEffect.TheVariants.{DatapathKey, PortKey, PickBackend, PickPort, Tunnel, Out, Drop, Lost}
use Rattle.event_lines.specs.declared.refusal.Refusal.{Refusal}
use Rattle.event_lines.specs.Lines.{route_words, words_of, line_of, ok_line, accepted_lines, refused_line, end_line}
use Rattle.event_lines.specs.Refusals.{refusal_words}
use Rattle.event_lines.specs.Picks.{Pick, vip_backend, source_port, words_in, is_word, is_number, key_of, backend_for, port_for, key_pick, port_pick, backend_pick, told_by, named_by, picks_in, picks_of, IsNamedEffect, AreNamed, AreWholeLines}
use Rattle.event_lines.specs.Text.{backend_text}
use Rattle.event_lines.proofs.BackendWords.{backend_in_word, backend_read, port_read}
use Rattle.event_lines.proofs.Feeds.{AreInWord, IsNoFeed, HaveNoFeed, have_none, tested, no_feed_joined, no_feed_in, decimal_in_word, decimal_is_number, name_is_word, hex_no_feed}
use Rattle.event_lines.proofs.RefusalFeeds.{refusal_no_feed}

-- ---- words

no_blank_in : (xs : List ℕ) → AreInWord xs → AllByRecursion (λ b. (b == 32) ≡ false) xs
no_blank_in [] h = tt
no_blank_in (x ∷ xs) h = (other, no_blank_in xs h.1)
  where
    other : (x == 32) ≡ false
    other = elim (cases_Bool (x == 32)) [ inl is ↦ absurd (h.0.no_blank (eqb-true x 32 is)) | inr apart ↦ apart ]

first_word : (xs ys : List ℕ) → AreInWord xs → words_in (xs ++ 32 ∷ ys) ≡ xs ∷ words_in ys
first_word xs ys h = slice_split_at (λ b. b == 32) xs 32 ys (All-from_recursion (λ b. (b == 32) ≡ false) xs (no_blank_in xs h)) refl

last_word : (xs : List ℕ) → AreInWord xs → words_in xs ≡ xs ∷ []
last_word xs h = slice_split_none (λ b. b == 32) xs (All-from_recursion (λ b. (b == 32) ≡ false) xs (no_blank_in xs h))

-- words of which the first is neither `key` nor `pick` tell of no pick
none_told : (what : List ℕ) (more : List (List ℕ)) → is_word what (codes "key") ≡ false → is_word what (codes "pick") ≡ false → told_by (what ∷ more) ≡ []
none_told what [] e f = refl
none_told what (a ∷ []) e f = refl
none_told what (a ∷ b ∷ []) e f = refl
none_told what (a ∷ b ∷ c ∷ []) e f =
    ap (λ (t : Bool). if t then key_pick a b c else (if is_word what (codes "pick") then port_pick a b c else [])) e
    ∙ ap (λ (t : Bool). if t then port_pick a b c else []) f
none_told what (a ∷ b ∷ c ∷ d ∷ []) e f = ap (λ (t : Bool). if t then backend_pick a b c d else []) f
none_told what (a ∷ b ∷ c ∷ d ∷ g ∷ more) e f = refl

-- a line whose second word is neither `key` nor `pick` names nothing
other_words : (number what : List ℕ) (more : List (List ℕ)) → is_word what (codes "key") ≡ false → is_word what (codes "pick") ≡ false → named_by (number ∷ what ∷ more) ≡ []
other_words number what more e f = nothing (is_number number) (told_by (what ∷ more)) (none_told what more e f)
  where
    nothing : (t : Bool) (ps : List Pick) → ps ≡ [] → (if t then ps else []) ≡ []
    nothing true ps none = none
    nothing false ps none = refl

-- a line of an event names what the words behind its number tell of
numbered_words : (number : ℕ) (words : List (List ℕ)) → named_by (decimal number ∷ words) ≡ told_by words
numbered_words number words = ap (λ (t : Bool). if t then told_by words else []) (decimal_is_number number)

key_told : (kind name : List ℕ) (key : ℕ) → key < 2 ^ 64 → key_pick kind name (decimal key) ≡ key_of kind name key
key_told kind name key small =
    ap (λ (t : Bool). if t then key_of kind name (digits_value 10 (decimal key)) else []) (decimal_is_number key) ∙ ap (λ n. key_of kind name n) (decimal_is_IsNumeral key small).1

backends_told : (datapath : List ℕ) (vip backend : Backend) → IsBackend vip → IsBackend backend → backend_for datapath (spelled_backend (backend_text vip)) (spelled_backend (backend_text backend)) ≡ vip_backend datapath vip backend ∷ []
backends_told datapath vip backend is also =
    ap (λ (o : Option Backend). backend_for datapath o (spelled_backend (backend_text backend))) (backend_read vip is) ∙ ap (λ (o : Option Backend). backend_for datapath (Some vip) o) (backend_read backend also)

-- ---- lines

feedless : (xs : List ℕ) → HaveNoFeed xs → HasNoFeed xs
feedless xs h = All-from_recursion IsNoFeed xs h

-- the first line of a text
first_line : (line rest : List ℕ) → HaveNoFeed line → picks_in (line ++ 10 ∷ rest) ≡ named_by (words_in line) ++ picks_in rest
first_line line rest h = ap (λ ls. flat_map (λ l. named_by (words_in l)) ls) (ended_lines-feed line rest (feedless line h))

-- the line of an event
event_line : (number : ℕ) (words rest : List ℕ) → HaveNoFeed words → picks_in (line_of number words ++ rest) ≡ named_by (decimal number ∷ words_in words) ++ picks_in rest
event_line number words rest h =
    let parts : line_of number words ++ rest ≡ (decimal number ++ 32 ∷ words) ++ 10 ∷ rest = shape (decimal number) in
    ap picks_in parts
    ∙ first_line (decimal number ++ 32 ∷ words) rest (no_feed_joined (decimal number) (32 ∷ words) (no_feed_in (decimal number) (decimal_in_word number)) ((λ e. omega arith), h))
    ∙ ap (λ ws. named_by ws ++ picks_in rest) (first_word (decimal number) words (decimal_in_word number))
  where
    shape : (ds : List ℕ) → (ds ++ 32 ∷ (words ++ 10 ∷ [])) ++ rest ≡ (ds ++ 32 ∷ words) ++ 10 ∷ rest
    shape ds = simp append_assoc

-- ---- what each line names

abbrev one_pick : NetEffect → List Pick
one_pick effect = picks_of (effect ∷ [])

cause_no_feed : (why : Cause) → HaveNoFeed (cause_name why)
cause_no_feed cause.Disabled = tested (codes "disabled") refl
cause_no_feed cause.BadSource = tested (codes "bad-source") refl
cause_no_feed cause.Vlan = tested (codes "vlan") refl
cause_no_feed cause.PortSecurity = tested (codes "port-security") refl
cause_no_feed cause.Acl = tested (codes "acl") refl
cause_no_feed cause.Reject = tested (codes "reject") refl
cause_no_feed cause.Invalid = tested (codes "invalid") refl
cause_no_feed cause.Blocked = tested (codes "blocked") refl
cause_no_feed cause.Clash = tested (codes "clash") refl
cause_no_feed cause.Full = tested (codes "full") refl
cause_no_feed cause.NoLiveBackend = tested (codes "no-live-backend") refl
cause_no_feed cause.UnknownAddress = tested (codes "unknown-address") refl
cause_no_feed cause.Loopback = tested (codes "loopback") refl
cause_no_feed cause.Unbound = tested (codes "unbound") refl
cause_no_feed cause.NotForRouter = tested (codes "not-for-router") refl
cause_no_feed cause.Arp = tested (codes "arp") refl
cause_no_feed cause.BadIp = tested (codes "bad-ip") refl
cause_no_feed cause.Ttl = tested (codes "ttl") refl
cause_no_feed cause.NotIp4 = tested (codes "not-ip4") refl
cause_no_feed cause.ForRouter = tested (codes "for-router") refl
cause_no_feed cause.NoRoute = tested (codes "no-route") refl
cause_no_feed cause.NoNeighbour = tested (codes "no-neighbour") refl
cause_no_feed cause.NoFreePort = tested (codes "no-free-port") refl
cause_no_feed cause.NoPeer = tested (codes "no-peer") refl
cause_no_feed cause.HopLimit = tested (codes "hop-limit") refl

words_no_feed : (effect : NetEffect) → IsNamedEffect effect → HaveNoFeed (words_of effect)
words_no_feed (DatapathKey name key) is =
    no_feed_joined (codes "key datapath ") _ (tested (codes "key datapath ") refl)
    (no_feed_joined name _ (no_feed_in name (name_is_word name is.0)) ((λ e. omega arith), no_feed_in (decimal key) (decimal_in_word key)))
words_no_feed (PortKey name key) is =
    no_feed_joined (codes "key port ") _ (tested (codes "key port ") refl)
    (no_feed_joined name _ (no_feed_in name (name_is_word name is.0)) ((λ e. omega arith), no_feed_in (decimal key) (decimal_in_word key)))
words_no_feed (PickBackend datapath vip backend) is =
    no_feed_joined (codes "pick backend ") _ (tested (codes "pick backend ") refl)
    (no_feed_joined datapath _ (no_feed_in datapath (name_is_word datapath is.0)) (
      (λ e. omega arith),
      no_feed_joined (backend_text vip) _ (no_feed_in (backend_text vip) (backend_in_word vip)) ((λ e. omega arith), no_feed_in (backend_text backend) (backend_in_word backend)),
    ))
words_no_feed (PickPort router port) is =
    no_feed_joined (codes "pick port ") _ (tested (codes "pick port ") refl)
    (no_feed_joined router _ (no_feed_in router (name_is_word router is.0)) ((λ e. omega arith), no_feed_in (decimal port) (decimal_in_word port)))
words_no_feed (Tunnel frame from to bytes) is =
    no_feed_joined (codes "tunnel ") _ (tested (codes "tunnel ") refl)
    (no_feed_joined (decimal frame) _ (no_feed_in (decimal frame) (decimal_in_word frame)) (
      (λ e. omega arith),
      no_feed_joined from _ (no_feed_in from (name_is_word from is.0))
          ((λ e. omega arith), no_feed_joined to _ (no_feed_in to (name_is_word to is.1)) ((λ e. omega arith), hex_no_feed bytes)),
    ))
words_no_feed (Out port packet) is =
    no_feed_joined (codes "out ") _ (tested (codes "out ") refl)
    (no_feed_joined port _ (no_feed_in port (name_is_word port is)) ((λ e. omega arith), hex_no_feed (frame_of packet)))
words_no_feed (Drop datapath port cause) is =
    no_feed_joined (codes "drop ") _ (tested (codes "drop ") refl)
    (no_feed_joined datapath _ (no_feed_in datapath (name_is_word datapath is.0))
    ((λ e. omega arith), no_feed_joined port _ (no_feed_in port (name_is_word port is.1)) ((λ e. omega arith), cause_no_feed cause)))
words_no_feed (Lost frame) is = no_feed_joined (codes "lost ") _ (tested (codes "lost ") refl) (no_feed_in (decimal frame) (decimal_in_word frame))

-- the words of a name and of what stands behind it
two_words : (name last : List ℕ) → IsName name → AreInWord last → words_in (name ++ 32 ∷ last) ≡ name ∷ last ∷ []
two_words name last is word = first_word name last (name_is_word name is) ∙ ap (λ ws. name ∷ ws) (last_word last word)

effect_named : (number : ℕ) (effect : NetEffect) → IsNamedEffect effect → named_by (decimal number ∷ words_in (words_of effect)) ≡ one_pick effect
effect_named number (DatapathKey name key) is =
    numbered_words number (words_in (words_of (DatapathKey name key)))
    ∙ ap (λ ws. told_by (codes "key" ∷ codes "datapath" ∷ ws)) (two_words name (decimal key) is.0 (decimal_in_word key))
    ∙ key_told (codes "datapath") name key is.1
effect_named number (PortKey name key) is =
    numbered_words number (words_in (words_of (PortKey name key)))
    ∙ ap (λ ws. told_by (codes "key" ∷ codes "port" ∷ ws)) (two_words name (decimal key) is.0 (decimal_in_word key))
    ∙ key_told (codes "port") name key is.1
effect_named number (PickBackend datapath vip backend) is =
    let rest : words_in (backend_text vip ++ 32 ∷ backend_text backend) ≡ backend_text vip ∷ backend_text backend ∷ [] =
    first_word (backend_text vip) (backend_text backend) (backend_in_word vip) ∙ ap (λ ws. backend_text vip ∷ ws) (last_word (backend_text backend) (backend_in_word backend)) in
    numbered_words number (words_in (words_of (PickBackend datapath vip backend)))
    ∙ ap (λ ws. told_by (codes "pick" ∷ codes "backend" ∷ ws)) (first_word datapath (backend_text vip ++ 32 ∷ backend_text backend) (name_is_word datapath is.0) ∙ ap (λ ws. datapath ∷ ws) rest)
    ∙ backends_told datapath vip backend is.1 is.2
effect_named number (PickPort router port) is =
    numbered_words number (words_in (words_of (PickPort router port)))
    ∙ ap (λ ws. told_by (codes "pick" ∷ codes "port" ∷ ws)) (two_words router (decimal port) is.0 (decimal_in_word port))
    ∙ ap (λ (o : Option ℕ). port_for router o) (port_read port is.1 is.2)
effect_named number (Tunnel frame from to bytes) is =
    other_words (decimal number) (codes "tunnel") (words_in (decimal frame ++ 32 ∷ route_words from to bytes)) refl refl
effect_named number (Out port packet) is = other_words (decimal number) (codes "out") (words_in (port ++ 32 ∷ encode_lower (frame_of packet))) refl refl
effect_named number (Drop datapath port cause) is =
    other_words (decimal number) (codes "drop") (words_in (datapath ++ 32 ∷ (port ++ 32 ∷ cause_name cause))) refl refl
effect_named number (Lost frame) is = other_words (decimal number) (codes "lost") (words_in (decimal frame)) refl refl

picks_cons : (effect : NetEffect) (effects : List NetEffect) → picks_of (effect ∷ effects) ≡ one_pick effect ++ picks_of effects
picks_cons (DatapathKey name key) effects = refl
picks_cons (PortKey name key) effects = refl
picks_cons (PickBackend datapath vip backend) effects = refl
picks_cons (PickPort router port) effects = refl
picks_cons (Tunnel frame from to bytes) effects = refl
picks_cons (Out port packet) effects = refl
picks_cons (Drop datapath port cause) effects = refl
picks_cons (Lost frame) effects = refl

ok_names : (number walks : ℕ) → picks_in (ok_line number walks) ≡ []
ok_names number walks =
    sym (ap picks_in (append-nil (ok_line number walks)))
    ∙ event_line number (codes "ok walks=" ++ decimal walks) [] (no_feed_joined (codes "ok walks=") (decimal walks) (tested (codes "ok walks=") refl) (no_feed_in (decimal walks) (decimal_in_word walks)))
    ∙ append-nil _ ∙ other_words (decimal number) (codes "ok") (words_in (codes "walks=" ++ decimal walks)) refl refl

pub accepted : (number walks : ℕ) (effects : List NetEffect) → AreNamed effects → picks_in (accepted_lines number effects walks) ≡ picks_of effects
accepted number walks [] are = ok_names number walks
accepted number walks (effect ∷ effects) are =
    ap picks_in (append_assoc (line_of number (words_of effect)) (flat_map (λ e. line_of number (words_of e)) effects) (ok_line number walks))
    ∙ event_line number (words_of effect) (accepted_lines number effects walks) (words_no_feed effect are.0)
    ∙ ap (λ ps. ps ++ picks_in (accepted_lines number effects walks)) (effect_named number effect are.0)
    ∙ ap (λ ps. one_pick effect ++ ps) (accepted number walks effects are.1)
    ∙ sym (picks_cons effect effects)

pub refused : (number : ℕ) (why : Refusal) → picks_in (refused_line number why) ≡ []
refused number why =
    sym (ap picks_in (append-nil (refused_line number why)))
    ∙ event_line number (codes "refused " ++ refusal_words why) [] (no_feed_joined (codes "refused ") (refusal_words why) (tested (codes "refused ") refl) (refusal_no_feed why))
    ∙ append-nil _ ∙ other_words (decimal number) (codes "refused") (words_in (refusal_words why)) refl refl

-- ---- whole lines

-- a text that a feed ends has a first line
ended_some : (front : List ℕ) → (first : List ℕ) × (others : List (List ℕ)) × (ended_lines (front ++ 10 ∷ []) ≡ first ∷ others) × ((more : List ℕ) → ended_lines ((front ++ 10 ∷ []) ++ more) ≡ first ∷ (others ++ ended_lines more))
ended_some [] = ([], [], refl, λ more. refl)
ended_some (b ∷ front) =
    let rest = ended_some front in by (b == 10) rest.0 rest.1 rest.2 rest.3
  where
    by : (t : Bool) (first : List ℕ) (others : List (List ℕ)) → ended_lines (front ++ 10 ∷ []) ≡ first ∷ others → ((more : List ℕ) → ended_lines ((front ++ 10 ∷ []) ++ more) ≡ first ∷ (others ++ ended_lines more))
        → (l : List ℕ) × (ls : List (List ℕ)) × ((if t then [] ∷ ended_lines (front ++ 10 ∷ []) else onto_ended b (ended_lines (front ++ 10 ∷ []))) ≡ l ∷ ls)
        × ((more : List ℕ) → (if t then [] ∷ ended_lines ((front ++ 10 ∷ []) ++ more) else onto_ended b (ended_lines ((front ++ 10 ∷ []) ++ more))) ≡ l ∷ (ls ++ ended_lines more))
    by true first others e f = ([], first ∷ others, ap (λ ls. [] ∷ ls) e, λ more. ap (λ ls. [] ∷ ls) (f more))
    by false first others e f = (b ∷ first, others, ap (onto_ended b) e, λ more. ap (onto_ended b) (f more))

ended_joined : (text more : List ℕ) → AreWholeLines text → ended_lines (text ++ more) ≡ ended_lines text ++ ended_lines more
ended_joined text more (inl none) = rw none
ended_joined text more (inr whole) =
    let some = ended_some whole.0 in
    ap (λ t. ended_lines (t ++ more)) whole.1 ∙ some.3 more ∙ ap (λ ls. ls ++ ended_lines more) (sym some.2) ∙ ap (λ t. ended_lines t ++ ended_lines more) (sym whole.1)

pub joined : (text more : List ℕ) → AreWholeLines text → picks_in (text ++ more) ≡ picks_in text ++ picks_in more
joined text more whole =
    ap (λ ls. flat_map (λ l. named_by (words_in l)) ls) (ended_joined text more whole) ∙ flat_map-append (λ l. named_by (words_in l)) (ended_lines text) (ended_lines more)

pub accepted_whole : (number walks : ℕ) (effects : List NetEffect) → AreWholeLines (accepted_lines number effects walks)
accepted_whole number walks effects =
    inr (flat_map (λ e. line_of number (words_of e)) effects ++ (decimal number ++ 32 ∷ (codes "ok walks=" ++ decimal walks)), shape (flat_map (λ e. line_of number (words_of e)) effects) (decimal number) (codes "ok walks=" ++ decimal walks))
  where
    shape : (ls ds ws : List ℕ) → ls ++ (ds ++ 32 ∷ (ws ++ 10 ∷ [])) ≡ (ls ++ (ds ++ 32 ∷ ws)) ++ 10 ∷ []
    shape ls ds ws = simp append_assoc

pub refused_whole : (number : ℕ) (why : Refusal) → AreWholeLines (refused_line number why)
refused_whole number why = inr (decimal number ++ 32 ∷ (codes "refused " ++ refusal_words why), shape (decimal number) (codes "refused " ++ refusal_words why))
  where
    shape : (ds ws : List ℕ) → ds ++ 32 ∷ (ws ++ 10 ∷ []) ≡ (ds ++ 32 ∷ ws) ++ 10 ∷ []
    shape ds ws = simp append_assoc

-- ---- the last line

abbrev end_front : ℕ → ℕ → ℕ → ℕ → List ℕ
end_front events accepted refused waiting = codes "end events=" ++ (decimal events ++ (codes " accepted=" ++ (decimal accepted ++ (codes " refused=" ++ (decimal refused ++ (codes " waiting=" ++ decimal waiting))))))

end_shape : (events accepted refused waiting : ℕ) → end_line events accepted refused waiting ≡ end_front events accepted refused waiting ++ 10 ∷ []
end_shape events accepted refused waiting = shape (codes "end events=") (decimal events) (codes " accepted=") (decimal accepted) (codes " refused=") (decimal refused) (codes " waiting=") (decimal waiting)
  where
    shape : (a b c d e f g h : List ℕ) → a ++ (b ++ (c ++ (d ++ (e ++ (f ++ (g ++ (h ++ 10 ∷ []))))))) ≡ (a ++ (b ++ (c ++ (d ++ (e ++ (f ++ (g ++ h))))))) ++ 10 ∷ []
    shape a b c d e f g h = simp append_assoc

pub end_whole : (events accepted refused waiting : ℕ) → AreWholeLines (end_line events accepted refused waiting)
end_whole events accepted refused waiting = inr (end_front events accepted refused waiting, end_shape events accepted refused waiting)

counted_no_feed : (label : List ℕ) (n : ℕ) (rest : List ℕ) → have_none label ≡ true → HaveNoFeed rest → HaveNoFeed (label ++ (decimal n ++ rest))
counted_no_feed label n rest e h = no_feed_joined label (decimal n ++ rest) (tested label e) (no_feed_joined (decimal n) rest (no_feed_in (decimal n) (decimal_in_word n)) h)

end_no_feed : (events accepted refused waiting : ℕ) → HaveNoFeed (end_front events accepted refused waiting)
end_no_feed events accepted refused waiting =
    counted_no_feed (codes "end events=") events _ refl
    (counted_no_feed (codes " accepted=") accepted _ refl
    (counted_no_feed (codes " refused=") refused _ refl (no_feed_joined (codes " waiting=") (decimal waiting) (tested (codes " waiting=") refl) (no_feed_in (decimal waiting) (decimal_in_word waiting)))))

-- the words, the first of them behind the label of the first count
abbrev with_label : List (List ℕ) → List (List ℕ)
with_label ws = onto_first 101 (onto_first 118 (onto_first 101 (onto_first 110 (onto_first 116 (onto_first 115 (onto_first 61 ws))))))

pub end : (events accepted refused waiting : ℕ) → picks_in (end_line events accepted refused waiting) ≡ []
end events accepted refused waiting =
    let rest : List ℕ = codes "accepted=" ++ (decimal accepted ++ (codes " refused=" ++ (decimal refused ++ (codes " waiting=" ++ decimal waiting)))) in
    ap picks_in (end_shape events accepted refused waiting)
    ∙ first_line (end_front events accepted refused waiting) [] (end_no_feed events accepted refused waiting)
    ∙ append-nil _
    ∙ ap (λ ws. named_by (codes "end" ∷ with_label ws)) (first_word (decimal events) rest (decimal_in_word events))
    ∙ other_words (codes "end") (codes "events=" ++ decimal events) (words_in rest) refl refl
