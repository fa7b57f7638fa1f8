-- The crossings of the frames that were sent are kept, one after another.
use Rattle.std.specs.Prelude.{◌≡◌, ◌<◌, ℕ, Bool, true, false, cond, List, [], ◌∷◌, ◌++◌, Some, map, unwrap_or, refl, nat_lt}
use Rattle.std.proofs.Common.{sym, ap, ◌∙◌, subst, append_assoc, append-nil, ltb-true}
use Rattle.std.specs.List.{AllByRecursion}
use Rattle.std.specs.List.Sorted.{IsStrictlySortedBy}
use Rattle.std.specs.Map.{keys_of}
use Rattle.std.specs.BTreeMap.{insert_entry}
use Rattle.std.specs.Ordering.{nat_cmp}
use Rattle.std.specs.declared.cmp.Ordering.TheVariants.{Less, Equal, Greater}
use Rattle.std.proofs.Math.Dec.{eqb as nat_eq}
use Rattle.ovn_base.specs.lists.Among.{Among, here, there}
use Rattle.ovn_base.specs.declared.name.Name.{Name}
use Rattle.ovn_base.proofs.AmongLaws.{among_map, among_none, split_among}
use Rattle.chassis_sim.specs.InNames.{frames_sent, sent_by}
use Rattle.chassis_sim.specs.State.{numbered}
use Rattle.chassis_sim.specs.declared.underlay.WaitingFrame.{WaitingFrame}
use Rattle.switch_engine.specs.declared.effect.NetEffect.{NetEffect}
use Rattle.switch_engine.specs.declared.effect.NetEffect.TheVariants as net
use Rattle.net_model.specs.declared.crossing.Crossing.{Crossing}
use Rattle.sim_laws.specs.Effects.{spelled}
use Rattle.world_core.specs.Packets.{CanBeKept, IsSentAs}
use Rattle.world_core.specs.Waiting.{AreWaiting, crossing_of, frame_under, names_of}
use Rattle.world_core.specs.WorldView.{WorldView}
use Rattle.world_core.specs.declared.crossing_names.CrossingNames.{CrossingNames}
use Rattle.world_core.proofs.WaitingNames.{crossing_back}
use Rattle.sim_laws.specs.Held.{frame_of_crossing}
use Rattle.net_model.specs.State.{State}
use Rattle.sim_laws.proofs.WaitingCrossings.{may_still}
use Rattle.sim_laws.proofs.WaitingLists.{put_behind}

-- ---- numbers before a number

less_so : (a b : ℕ) → nat_cmp a b ≡ Less → a < b
less_so a b e = by (nat_lt a b) refl e
  where
    by : (l : Bool) → nat_lt a b ≡ l → cond l Less (cond (nat_eq a b) Equal Greater) ≡ Less → a < b
    by true is h = ltb-true a b is
    by false is h = elim (nat_eq a b) as (λ q. cond q Equal Greater ≡ Less → a < b) [ true ↦ λ z. cc z | false ↦ λ z. cc z ] h

all_last : {X : Type 0} (P : ℕ → Type 0) (xs : List (ℕ × X)) (y : ℕ × X) (ys : List (ℕ × X)) → AllByRecursion P (keys_of (xs ++ y ∷ ys)) → P y.0
all_last P [] y ys h = h.0
all_last P (x ∷ xs) y ys h = all_last P xs y ys h.1

pub below_last : {X : Type 0} (xs : List (ℕ × X)) (y : ℕ × X) (ys : List (ℕ × X)) → IsStrictlySortedBy nat_cmp (keys_of (xs ++ y ∷ ys)) → (k : ℕ) (x : X) → Among (k, x) xs → k < y.0
unfolding IsStrictlySortedBy
below_last [] y ys s k x m = absurd (among_none (k, x) m)
below_last (w ∷ xs) y ys s _ x here = less_so _ y.0 (all_last (λ n. nat_cmp w.0 n ≡ Less) xs y ys s.0)
below_last (w ∷ xs) y ys s k x (there m) = below_last xs y ys s.1 k x m

-- ---- the effects that are left

-- of these crossings some are kept, and the others are those of the effects that are left
pub record IsKeeping (old : WorldView) (left : List NetEffect) (ws : List (ℕ × Crossing)) (now : WorldView) : Type 0 where
  pub done : List (ℕ × Crossing)
  pub rest : List (ℕ × Crossing)
  pub all : ws ≡ done ++ rest
  pub frames : frames_sent left ≡ map (frame_of_crossing old.state.keys) rest
  pub now_is : now ≡ record old { state = record old.state { waiting = old.state.waiting ++ done } }

pub keeping_begins : (old : WorldView) (effects : List NetEffect) (ws : List (ℕ × Crossing)) → CanBeKept old.state effects ws → IsKeeping old effects ws old
keeping_begins old effects ws k = record {
  done = [];
  rest = ws;
  all = refl;
  frames = k.sent.frames;
  now_is = λ i. record old { state = record old.state { waiting = sym (append-nil old.state.waiting) i } };
}

-- an effect that sends nothing
pub keeping_passes : (old : WorldView) (effect : NetEffect) (left : List NetEffect) (ws : List (ℕ × Crossing)) (now : WorldView) → sent_by effect ≡ [] → IsKeeping old (effect ∷ left) ws now → IsKeeping old left ws now
keeping_passes old effect left ws now none k = record { done = k.done; rest = k.rest; all = k.all; frames = ap (λ l. l ++ frames_sent left) (sym none) ∙ k.frames; now_is = k.now_is }

-- the next crossing
pub record IsNext (m : State) (ws done : List (ℕ × Crossing)) (n : ℕ) (to : Name) (bytes : List ℕ) (left : List NetEffect) : Type 0 where
  pub crossing : Crossing
  pub behind : List (ℕ × Crossing)
  pub all : ws ≡ done ++ (n, crossing) ∷ behind
  pub home : crossing.home ≡ to
  pub bytes_are : spelled m.keys crossing ≡ bytes
  pub frames : frames_sent left ≡ map (frame_of_crossing m.keys) behind

pub next_of : (old : WorldView) (n : ℕ) (from to : Name) (bytes : List ℕ) (left : List NetEffect) (ws : List (ℕ × Crossing)) (now : WorldView) → (k : IsKeeping old (net.Tunnel n from to bytes ∷ left) ws now) → IsNext old.state ws k.done n to bytes left
next_of old n from to bytes left ws now k = by k.rest k.all k.frames
  where
    head_or : ℕ × WaitingFrame → List (ℕ × WaitingFrame) → ℕ × WaitingFrame
    head_or d [] = d
    head_or d (x ∷ xs) = x

    tail_of : List (ℕ × WaitingFrame) → List (ℕ × WaitingFrame)
    tail_of [] = []
    tail_of (x ∷ xs) = xs

    by : (rest : List (ℕ × Crossing)) → ws ≡ k.done ++ rest → (n, record { to = to; bytes = bytes }) ∷ frames_sent left ≡ map (frame_of_crossing old.state.keys) rest → IsNext old.state ws k.done n to bytes left
    by [] all e = cc e
    by ((m, x) ∷ behind) all e =
        let first : (n, record { to = to; bytes = bytes }) ≡ frame_of_crossing old.state.keys (m, x) = ap (λ l. head_or (n, record { to = to; bytes = bytes }) l) e in
        let number : n ≡ m = ap (λ (w : ℕ × WaitingFrame). w.0) first in
        record {
          crossing = x;
          behind = behind;
          all = all ∙ (λ i. k.done ++ (sym number i, x) ∷ behind);
          home = sym (ap (λ (w : ℕ × WaitingFrame). w.1.to) first);
          bytes_are = sym (ap (λ (w : ℕ × WaitingFrame). w.1.bytes) first);
          frames = ap tail_of e;
        }

-- it is sent, in the state as it is by then
sent_still : (m : State) (waiting : List (ℕ × Crossing)) (to : Name) (bytes : List ℕ) (x : Crossing) → IsSentAs m to bytes x → IsSentAs (record m { waiting = waiting }) to bytes x
sent_still m waiting to bytes x f = record { may = may_still m waiting m.next x f.may; home = f.home; spelled_so = f.spelled_so }

pub next_sent : (old : WorldView) (effects : List NetEffect) (n : ℕ) (to : Name) (bytes : List ℕ) (left : List NetEffect) (ws done : List (ℕ × Crossing)) (now : WorldView) → CanBeKept old.state effects ws → (h : IsNext old.state ws done n to bytes left)
    → now ≡ record old { state = record old.state { waiting = old.state.waiting ++ done } } → IsSentAs now.state to bytes h.crossing
next_sent old effects n to bytes left ws done now k h is =
    let f = k.sent.sent n h.crossing (subst (λ l. Among (n, h.crossing) l) (sym h.all) (split_among (n, h.crossing) done h.behind)) in
    let g : IsSentAs old.state to bytes h.crossing = subst (λ d. IsSentAs old.state d bytes h.crossing) h.home (subst (λ bs. IsSentAs old.state h.crossing.home bs h.crossing) h.bytes_are f) in
    subst (λ (w : WorldView). IsSentAs w.state to bytes h.crossing) (sym is) (sent_still old.state (old.state.waiting ++ done) to bytes h.crossing g)

-- its names and its frame, which waits, give it back
pub next_back : (old : WorldView) (effects : List NetEffect) (n : ℕ) (to : Name) (bytes : List ℕ) (left : List NetEffect) (ws done : List (ℕ × Crossing)) (now : WorldView) → CanBeKept old.state effects ws → AreWaiting old.sim (frames_sent effects)
    → (h : IsNext old.state ws done n to bytes left) → now ≡ record old { state = record old.state { waiting = old.state.waiting ++ done } } → (names : CrossingNames) → names ≡ names_of h.crossing → crossing_of names (frame_under now.sim.waiting n) ≡ h.crossing
next_back old effects n to bytes left ws done now k waits h is names are =
    let x = h.crossing in
    let keys = old.state.keys in
    let frame = (frame_of_crossing keys (n, x)).1 in
    let among : Among (n, x) ws = subst (λ l. Among (n, x) l) (sym h.all) (split_among (n, x) done h.behind) in
    let found : numbered old.sim.waiting n ≡ Some frame = waits n frame (subst (λ l. Among (n, frame) l) (sym k.sent.frames) (among_map (frame_of_crossing keys) (n, x) ws among)) in
    let there' : frame_under now.sim.waiting n ≡ frame = ap (λ (v : WorldView). frame_under v.sim.waiting n) is ∙ ap (λ o. unwrap_or o (record { to = []; bytes = [] })) found in
    (λ i. crossing_of (are i) (there' i)) ∙ crossing_back keys x frame (k.sent.sent n x among).may.whole refl refl

-- and it is put behind the others
pub keeping_goes_on : (old : WorldView) (effects : List NetEffect) (n : ℕ) (to : Name) (bytes : List ℕ) (left : List NetEffect) (ws done : List (ℕ × Crossing)) (now next : WorldView) (x : Crossing) → CanBeKept old.state effects ws
    → (h : IsNext old.state ws done n to bytes left) → now ≡ record old { state = record old.state { waiting = old.state.waiting ++ done } } → x ≡ h.crossing
    → next ≡ record now { state = record now.state { waiting = insert_entry nat_cmp now.state.waiting n x } } → IsKeeping old left ws next
keeping_goes_on old effects n to bytes left ws done now next x k h is same then =
    let all : old.state.waiting ++ ws ≡ (old.state.waiting ++ done) ++ (n, h.crossing) ∷ h.behind = ap (λ l. old.state.waiting ++ l) h.all ∙ sym (append_assoc old.state.waiting done ((n, h.crossing) ∷ h.behind)) in
    let sorted = subst (λ l. IsStrictlySortedBy nat_cmp (keys_of l)) all k.behind in
    let put : insert_entry nat_cmp (old.state.waiting ++ done) n h.crossing ≡ (old.state.waiting ++ done) ++ (n, h.crossing) ∷ [] =
    put_behind (old.state.waiting ++ done) n h.crossing (below_last (old.state.waiting ++ done) (n, h.crossing) h.behind sorted) in
    let waiting : insert_entry nat_cmp now.state.waiting n x ≡ old.state.waiting ++ (done ++ (n, h.crossing) ∷ []) =
    ap (λ (w : WorldView). insert_entry nat_cmp w.state.waiting n x) is ∙ ap (λ y. insert_entry nat_cmp (old.state.waiting ++ done) n y) same ∙ put ∙ append_assoc old.state.waiting done ((n, h.crossing) ∷ []) in
    record {
      done = done ++ (n, h.crossing) ∷ [];
      rest = h.behind;
      all = h.all ∙ sym (append_assoc done ((n, h.crossing) ∷ []) h.behind);
      frames = h.frames;
      now_is = then ∙ (λ i. record (is i) { state = record (is i).state { waiting = waiting i } });
    }

-- all are kept
pub keeping_ends : (old : WorldView) (ws : List (ℕ × Crossing)) (now : WorldView) → IsKeeping old [] ws now → now ≡ record old { state = record old.state { waiting = old.state.waiting ++ ws } }
keeping_ends old ws now k = by k.rest k.all k.frames
  where
    by : (rest : List (ℕ × Crossing)) → ws ≡ k.done ++ rest → [] ≡ map (frame_of_crossing old.state.keys) rest → now ≡ record old { state = record old.state { waiting = old.state.waiting ++ ws } }
    by [] all e = k.now_is ∙ (λ i. record old { state = record old.state { waiting = old.state.waiting ++ (sym (append-nil k.done) ∙ sym all) i } })
    by (w ∷ rest) all e = cc e

-- ---- one effect after another

-- an effect that is no frame sends none
pub sends_none : (effect : NetEffect) → ((n : ℕ) (from to : Name) (bytes : List ℕ) → effect ≡ net.Tunnel n from to bytes → ⊥) → sent_by effect ≡ []
sends_none (net.DatapathKey name key) h = refl
sends_none (net.PortKey name key) h = refl
sends_none (net.PickBackend datapath vip backend) h = refl
sends_none (net.PickPort router port) h = refl
sends_none (net.Tunnel n from to bytes) h = absurd (h n from to bytes refl)
sends_none (net.Out port packet) h = refl
sends_none (net.Drop datapath port cause) h = refl
sends_none (net.Lost n) h = refl
