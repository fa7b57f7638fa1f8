-- Crossings are told by their names and their frames.
use Rattle.std.specs.Prelude.{◌≡◌, ℕ, List, [], ◌∷◌, ◌++◌, Bool, true, false, cond, map, not, Option, None, Some, is_some, option_map, unwrap_or, refl}
use Rattle.std.specs.Option.{option_copied}
use Rattle.std.proofs.Common.{Bor, sym, ap, subst, ◌∙◌, inl, inr}
use Rattle.std.proofs.lemmas.Bool.{cond-true, false≢true}
use Rattle.std.proofs.lemmas.Cmp.{nat_cmp_total, tied_itself}
use Rattle.std.specs.BTreeMap.{insert_entry, is_at}
use Rattle.std.specs.List.{AllByRecursion}
use Rattle.std.specs.List.Sorted.{IsStrictlySortedBy}
use Rattle.std.specs.Map.{keys_of, remove_entry}
use Rattle.std.specs.Ordering.{is_eq, match_ordering, nat_cmp}
use Rattle.std.specs.declared.cmp.Ordering.{Ordering}
use Rattle.std.specs.declared.cmp.Ordering.TheVariants.{Less, Equal, Greater}
use Rattle.chassis_sim.specs.State.{SimState, numbered}
use Rattle.chassis_sim.specs.declared.underlay.WaitingFrame.{WaitingFrame}
use Rattle.inet_packet.specs.Frame.{frame_of}
use Rattle.inet_packet.specs.Whole.{IsWhole}
use Rattle.net_model.specs.declared.crossing.Crossing.{Crossing}
use Rattle.ovn_base.specs.lists.Among.{Among, here, there}
use Rattle.ovn_base.proofs.AmongLaws.{among_cases, among_left, among_none, among_right, map_among}
use Rattle.sim_laws.specs.Effects.{spelled}
use Rattle.net_model.specs.State.{State}
use Rattle.sim_laws.specs.Held.{frame_of_crossing}
use Rattle.sim_laws.specs.Sound.{AreCrossings}
use Rattle.sim_laws.specs.journeys.Refining.{waiting_on}
use Rattle.sim_laws.proofs.WaitingLists.{same_number, numbered_map, removed_map}
use Rattle.tunnel_keys.specs.Keys.{Keys}
use Rattle.world_core.specs.FramePackets.{packet_in}
use Rattle.world_core.specs.Inside.{seen_of}
use Rattle.world_core.specs.Waiting.{AreWaiting, crossing_of, crossings_of, frame_under, inner_of, names_of}
use Rattle.world_core.specs.WorldView.{WorldView}
use Rattle.world_core.specs.declared.crossing_names.CrossingNames.{CrossingNames}
use Rattle.world_core.specs.declared.world.World.TheInside.{Inside}
use Rattle.world_core.proofs.FramePackets.{packet_in-frame}

-- the frame of a crossing, with its names, gives the crossing back
pub crossing_back : (keys : Keys) (x : Crossing) (frame : WaitingFrame) → IsWhole x.packet → frame.to ≡ x.home → frame.bytes ≡ spelled keys x → crossing_of (names_of x) frame ≡ x
crossing_back keys x frame whole to bytes =
    let inner : inner_of frame.bytes ≡ frame_of x.packet = ap inner_of bytes in
    let packet : packet_in (inner_of frame.bytes) ≡ x.packet = ap packet_in inner ∙ packet_in-frame x.packet whole in
    λ i. record { datapath = x.datapath; in_port = x.in_port; aim = x.aim; home = to i; packet = packet i }

-- ---- entries under their numbers

pub own_number : (n : ℕ) → is_at (nat_cmp n) n ≡ true
own_number n = ap is_eq (tied_itself nat_cmp_total n)

not_below : {X : Type 0} (ws : List (ℕ × X)) (n : ℕ) (x : X) → AllByRecursion (λ k. nat_cmp n k ≡ Less) (keys_of ws) → Among (n, x) ws → ⊥
not_below [] n x all m = among_none (n, x) m
not_below {X} (w ∷ ws) n x all m = elim (among_cases (n, x) w ws m) [
  | inl same ↦
      let less : nat_cmp n n ≡ Less = ap (λ (v : ℕ × X). nat_cmp n v.0) same ∙ all.0 in
      absurd (false≢true (sym (ap is_eq less) ∙ own_number n))
  | inr later ↦ not_below ws n x all.1 later
]

-- each entry of a list in order is found under its number
pub among_numbered : {X : Type 0} (ws : List (ℕ × X)) (n : ℕ) (x : X) → IsStrictlySortedBy nat_cmp (keys_of ws) → Among (n, x) ws → numbered ws n ≡ Some x
unfolding IsStrictlySortedBy
among_numbered [] n x s m = absurd (among_none (n, x) m)
among_numbered {X} (w ∷ ws) n x s m = elim (among_cases (n, x) w ws m) [
  | inl same ↦
      let number : n ≡ w.0 = ap (λ (v : ℕ × X). v.0) same in
      let value : x ≡ w.1 = ap (λ (v : ℕ × X). v.1) same in
      ap (λ k. cond (is_at (nat_cmp n) k) (Some w.1) (numbered ws n)) (sym number) ∙ cond-true _ _ _ (own_number n) ∙ ap (λ y. Some y) (sym value)
  | inr later ↦ by (is_at (nat_cmp n) w.0) refl later (among_numbered ws n x s.1 later)
]
  where
    by : (b : Bool) → is_at (nat_cmp n) w.0 ≡ b → Among (n, x) ws → numbered ws n ≡ Some x → cond b (Some w.1) (numbered ws n) ≡ Some x
    by true is later rest = absurd (not_below ws n x (subst (λ k. AllByRecursion (λ j. nat_cmp k j ≡ Less) (keys_of ws)) (sym (same_number n w.0 is)) s.0) later)
    by false is later rest = rest

-- ---- names and frames

-- the names of the crossings, under their numbers
abbrev pub all_names : List (ℕ × Crossing) → List (ℕ × CrossingNames)
all_names ws = map (λ w. (w.0, names_of w.1)) ws

-- names stay what they are
pub names_back : (names : List (ℕ × CrossingNames)) (frames : List (ℕ × WaitingFrame)) → all_names (crossings_of names frames) ≡ names
names_back [] frames = refl
names_back (e ∷ es) frames = ap (λ l. e ∷ l) (names_back es frames)

-- the crossing's frame waits under its number
abbrev pub WaitsUnder : Keys → List (ℕ × WaitingFrame) → ℕ → Crossing → Type 0
WaitsUnder keys frames n x = numbered frames n ≡ Some (frame_of_crossing keys (n, x)).1

-- where the frame of each crossing waits, these are the crossings of their names
pub crossings_back : (keys : Keys) (ws : List (ℕ × Crossing)) (frames : List (ℕ × WaitingFrame)) → ((n : ℕ) (x : Crossing) → Among (n, x) ws → IsWhole x.packet) → ((n : ℕ) (x : Crossing) → Among (n, x) ws → WaitsUnder keys frames n x)
    → crossings_of (all_names ws) frames ≡ ws
crossings_back keys [] frames whole waits = refl
crossings_back keys (w ∷ ws) frames whole waits =
    let found : frame_under frames w.0 ≡ (frame_of_crossing keys w).1 = ap (λ o. unwrap_or o (record { to = []; bytes = [] })) (waits w.0 w.1 here) in
    let first : crossing_of (names_of w.1) (frame_under frames w.0) ≡ w.1 = crossing_back keys w.1 (frame_under frames w.0) (whole w.0 w.1 here) (ap (λ (f : WaitingFrame). f.to) found) (ap (λ (f : WaitingFrame). f.bytes) found) in
    λ i. (w.0, first i) ∷ crossings_back keys ws frames (λ n x m. whole n x (there m)) (λ n x m. waits n x (there m)) i

-- the frames of crossings in order wait each under its number
pub own_frames : (keys : Keys) (ws : List (ℕ × Crossing)) → IsStrictlySortedBy nat_cmp (keys_of ws) → (n : ℕ) (x : Crossing) → Among (n, x) ws → WaitsUnder keys (map (frame_of_crossing keys) ws) n x
own_frames keys ws sorted n x m =
    numbered_map (λ y. (frame_of_crossing keys (0, y)).1) ws n ∙ ap (λ o. option_map (λ y. (frame_of_crossing keys (0, y)).1) o) (among_numbered ws n x sorted m)

-- ---- names that come and go

-- a crossing that is kept is told by its names and the frame of its number
pub insert_named : (frames : List (ℕ × WaitingFrame)) (names : List (ℕ × CrossingNames)) (n : ℕ) (own : CrossingNames) → crossings_of (insert_entry nat_cmp names n own) frames ≡ insert_entry nat_cmp (crossings_of names frames) n (crossing_of own (frame_under frames n))
insert_named frames [] n own = refl
insert_named frames (e ∷ es) n own = by (nat_cmp n e.0) refl (insert_named frames es n own)
  where
    x : Crossing
    x = crossing_of own (frame_under frames n)

    first : ℕ × Crossing
    first = (e.0, crossing_of e.1 (frame_under frames e.0))

    by : (o : Ordering) → nat_cmp n e.0 ≡ o → crossings_of (insert_entry nat_cmp es n own) frames ≡ insert_entry nat_cmp (crossings_of es frames) n x → crossings_of (match_ordering o ((n, own) ∷ e ∷ es) ((e.0, own) ∷ es) (e ∷ insert_entry nat_cmp es n own)) frames
        ≡ match_ordering o ((n, x) ∷ first ∷ crossings_of es frames) ((e.0, x) ∷ crossings_of es frames) (first ∷ insert_entry nat_cmp (crossings_of es frames) n x)
    by Less is rest = refl
    by Equal is rest = ap (λ k. (e.0, crossing_of own (frame_under frames k)) ∷ crossings_of es frames) (sym (same_number n e.0 (ap is_eq is)))
    by Greater is rest = ap (λ l. first ∷ l) rest

-- the names that are left where one goes
pub removed_names : (names : List (ℕ × CrossingNames)) (frames : List (ℕ × WaitingFrame)) (n : ℕ) → remove_entry (is_at (nat_cmp n)) names ≡ all_names (remove_entry (is_at (nat_cmp n)) (crossings_of names frames))
removed_names names frames n = ap (λ l. remove_entry (is_at (nat_cmp n)) l) (sym (names_back names frames)) ∙ removed_map names_of (crossings_of names frames) n

-- the names of those that wait on where the crossing of the number arrives
abbrev pub names_on : Bool → ℕ → List (ℕ × CrossingNames) → List (ℕ × CrossingNames)
names_on true n names = names
names_on false n names = remove_entry (is_at (nat_cmp n)) names

-- they are those of the crossings that do
pub on_named : (keep : Bool) (n : ℕ) (names : List (ℕ × CrossingNames)) (frames : List (ℕ × WaitingFrame)) → names_on keep n names ≡ all_names (waiting_on keep n (crossings_of names frames))
on_named true n names frames = sym (names_back names frames)
on_named false n names frames = removed_names names frames n

pub removed_named : (n : ℕ) (names : List (ℕ × CrossingNames)) (frames : List (ℕ × WaitingFrame)) → remove_entry (is_at (nat_cmp n)) (crossings_of names frames) ≡ crossings_of (remove_entry (is_at (nat_cmp n)) names) frames
removed_named n [] frames = refl
removed_named n (e ∷ es) frames = by (is_at (nat_cmp n) e.0) (removed_named n es frames)
  where
    first : ℕ × Crossing
    first = (e.0, crossing_of e.1 (frame_under frames e.0))

    by : (b : Bool) → remove_entry (is_at (nat_cmp n)) (crossings_of es frames) ≡ crossings_of (remove_entry (is_at (nat_cmp n)) es) frames
        → cond b (crossings_of es frames) (first ∷ remove_entry (is_at (nat_cmp n)) (crossings_of es frames)) ≡ crossings_of (cond b es (e ∷ remove_entry (is_at (nat_cmp n)) es)) frames
    by true rest = refl
    by false rest = ap (λ l. first ∷ l) rest

-- and give these back
pub named_on : (keep : Bool) (n : ℕ) (names : List (ℕ × CrossingNames)) (frames : List (ℕ × WaitingFrame)) → waiting_on keep n (crossings_of names frames) ≡ crossings_of (names_on keep n names) frames
named_on true n names frames = refl
named_on false n names frames = removed_named n names frames

-- a crossing waits under a number that has names
pub named_waits : (names : List (ℕ × CrossingNames)) (frames : List (ℕ × WaitingFrame)) (n : ℕ) → numbered names n ≡ option_map names_of (numbered (crossings_of names frames) n)
named_waits names frames n = ap (λ l. numbered l n) (sym (names_back names frames)) ∙ numbered_map names_of (crossings_of names frames) n

-- ---- worlds

module _ (k : State) (first ws : List (ℕ × Crossing)) (s : SimState) (all : k.waiting ≡ first ++ ws) (crossings : AreCrossings k) (frames_are : s.waiting ≡ map (frame_of_crossing k.keys) k.waiting) where
  sorted : IsStrictlySortedBy nat_cmp (keys_of (first ++ ws))
  sorted = subst (λ l. IsStrictlySortedBy nat_cmp (keys_of l)) all crossings.in_order

  frames_of_all : s.waiting ≡ map (frame_of_crossing k.keys) (first ++ ws)
  frames_of_all = frames_are ∙ ap (λ l. map (frame_of_crossing k.keys) l) all

  -- the first of its crossings are those of their names, where the frames of all wait
  pub seen_front : (names : List (ℕ × CrossingNames)) → names ≡ all_names first → crossings_of names s.waiting ≡ first
  seen_front names are =
      ap (λ ns. crossings_of ns s.waiting) are
      ∙ crossings_back k.keys first s.waiting (λ n x among. (crossings.may n x (subst (λ l. Among (n, x) l) (sym all) (among_left (n, x) first ws among))).whole)
      (λ n x among. ap (λ fs. numbered fs n) frames_of_all ∙ own_frames k.keys (first ++ ws) sorted n x (among_left (n, x) first ws among))

  -- and the frames of the others wait, each under its number
  pub others_wait : (frames : List (ℕ × WaitingFrame)) → frames ≡ map (frame_of_crossing k.keys) ws → AreWaiting s frames
  others_wait frames are n frame among =
      let back = map_among (frame_of_crossing k.keys) (n, frame) ws (subst (λ l. Among (n, frame) l) are among) in
      let x = back.0 in
      let found : numbered s.waiting x.0 ≡ Some (frame_of_crossing k.keys x).1 = ap (λ fs. numbered fs x.0) frames_of_all ∙ own_frames k.keys (first ++ ws) sorted x.0 x.1 (among_right x first ws back.1) in
      subst (λ (v : ℕ × WaitingFrame). numbered s.waiting v.0 ≡ Some v.1) (sym back.2) found

-- ---- whether a frame waits

some_mapped : {X Y : Type 0} (f : X → Y) (o : Option X) → is_some (option_map f o) ≡ is_some o
some_mapped f None = refl
some_mapped f (Some x) = refl

copied_some : {X : Type 0} (o : Option (Bor X)) → is_some (option_copied o) ≡ is_some o
copied_some None = refl
copied_some (Some x) = refl

not_not : (b : Bool) → not (not b) ≡ b
not_not true = refl
not_not false = refl

-- the look-up among the names tells whether a crossing waits under the number
pub waits_or_not : (w : Inside) (now : WorldView) → seen_of w ≡ now → (n k : ℕ) → k ≡ n → (got : Option (Bor CrossingNames)) → option_copied got ≡ numbered w.crossings.entries k → (none : Bool) → is_some got ≡ not none
    → not (is_some (numbered now.state.waiting n)) ≡ none
waits_or_not w now view n k same got copied none is =
    let names = w.crossings.entries in
    let frames = w.sim.state.waiting in
    let named : is_some (numbered names n) ≡ is_some (numbered (crossings_of names frames) n) = ap is_some (named_waits names frames n) ∙ some_mapped names_of (numbered (crossings_of names frames) n) in
    ap (λ (v : WorldView). not (is_some (numbered v.state.waiting n))) (sym view)
    ∙ ap not (sym named ∙ ap (λ j. is_some (numbered names j)) (sym same) ∙ ap is_some (sym copied) ∙ copied_some got ∙ is)
    ∙ not_not none
