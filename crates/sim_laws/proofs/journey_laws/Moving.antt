-- Moves one after another, and what they are in the network's own words.
use Rattle.std.specs.Prelude.{◌≡◌, ◌+◌, ◌++◌, ℕ, zero, suc, false, List, [], ◌∷◌, length, refl}
use Rattle.std.proofs.Common.{sym, ap, ◌∙◌, subst, append_assoc, append-nil, arith, inl, inr}
use Rattle.conn_table.specs.Picks.{Choice}
use Rattle.net_model.specs.Journey.{Journey, Scenes, begin_journey, ended_journey, comes, drain, drain_from, travel, places_of, scenes_of, enter_one, arrive_one}
use Rattle.net_model.specs.State.{State}
use Rattle.net_model.specs.Trail.{End, choices_in, crossings_in, leaves, is_dropped, crosses, picks_backend, picks_port, is_lost, choice_in}
use Rattle.net_model.specs.declared.crossing.Crossing.{Crossing}
use Rattle.ovn_base.specs.declared.limits.TheConstants.{MAX_ARRIVALS}
use Rattle.sim_laws.proofs.journey_laws.Ways.{crossings_append}
use Rattle.sim_laws.specs.journeys.Events.{TravelLaw, DrainLaw, EnterAndDrainLaw}
use Rattle.sim_laws.specs.journeys.Moves.{journey_in, Moves, AreMoved}

pub choice_first : (e : End) (xs ys : List Choice) → choice_in e (xs ++ ys) ≡ choice_in e xs ++ ys
choice_first (leaves port p) xs ys = refl
choice_first (is_dropped datapath port why) xs ys = refl
choice_first (crosses here x) xs ys = refl
choice_first (picks_backend datapath vip backend) xs ys = refl
choice_first (picks_port router port) xs ys = refl
choice_first (is_lost n) xs ys = refl

pub choices_append : (es fs : List End) → choices_in (es ++ fs) ≡ choices_in es ++ choices_in fs
choices_append [] fs = refl
choices_append (e ∷ es) fs = ap (choice_in e) (choices_append es fs) ∙ choice_first e (choices_in es) (choices_in fs)

pub length_append : {X : Type 0} (xs ys : List X) → length (xs ++ ys) ≡ length xs + length ys
length_append [] ys = omega arith
length_append (x ∷ xs) ys = let rest = length_append xs ys in omega (arith, rest)

-- ---- one after another

-- nothing moves
pub moves_none : (m : State) → Moves (λ j. j) m [] m
moves_none m = record {
  is = λ choices before. ap (journey_in m choices) (sym (append-nil before));
  rest = ap (λ (n : ℕ). record m { next = n }) (omega arith);
}

pub moves_then : (f g : Journey → Journey) (m mid after : State) (own more : List End) → Moves f m own mid → Moves g mid more after → Moves (λ j. g (f j)) m (own ++ more) after
moves_then f g m mid after own more a b = record {
  is = λ choices before.
      ap (λ (cs : List Choice). g (f (journey_in m cs before))) (ap (λ (cs : List Choice). cs ++ choices) (choices_append own more) ∙ append_assoc (choices_in own) (choices_in more) choices)
      ∙ ap g (a.is (choices_in more ++ choices) before)
      ∙ b.is choices (before ++ own)
      ∙ ap (journey_in after choices) (append_assoc before own more);
  rest = b.rest
      ∙ ap (λ (k : State). record k { lists = after.lists; waiting = after.waiting; next = k.next + length (crossings_in more) }) a.rest
      ∙ ap (λ (n : ℕ). record m { lists = after.lists; waiting = after.waiting; next = n }) numbers;
}
  where
    numbers : (m.next + length (crossings_in own)) + length (crossings_in more) ≡ m.next + length (crossings_in (own ++ more))
    numbers =
        let both : length (crossings_in (own ++ more)) ≡ length (crossings_in own) + length (crossings_in more) =
        ap (λ (xs : List Crossing). length xs) (crossings_append own more) ∙ length_append (crossings_in own) (crossings_in more) in
        omega (arith, both)

-- a move of other words
pub moves_as : (f g : Journey → Journey) (m after : State) (ends : List End) → ((choices : List Choice) (before : List End) → g (journey_in m choices before) ≡ f (journey_in m choices before)) → Moves f m ends after → Moves g m ends after
moves_as f g m after ends same a = record { is = λ choices before. same (choices_in ends ++ choices) before ∙ a.is choices before; rest = a.rest }

-- the scenes are those of the state before
pub scenes_stay : (f : Journey → Journey) (m mid : State) (ends : List End) → Moves f m ends mid → scenes_of mid ≡ scenes_of m
scenes_stay f m mid ends a = ap scenes_of a.rest

-- ---- many

drains : (k : ℕ) (m : State) (ends : List End) (after : State) → AreMoved k m ends after → Moves (drain k (scenes_of m)) m ends after
drains zero m ends after h = subst (λ (es : List End). Moves (λ j. j) m es after) (sym h.0) (subst (λ (k : State). Moves (λ j. j) m [] k) (sym h.1) (moves_none m))
drains (suc k) m ends after (inl h) =
    subst (λ (es : List End). Moves (drain (suc k) (scenes_of m)) m es after) (sym h.1)
    (subst (λ (l : State). Moves (drain (suc k) (scenes_of m)) m [] l) (sym h.2)
    (moves_as (λ j. j) (drain (suc k) (scenes_of m)) m m [] (λ choices before. ap (λ ws. drain_from (drain k (scenes_of m)) (scenes_of m) ws (journey_in m choices before)) h.0) (moves_none m)))
drains (suc k) m ends after (inr f) =
    let first : Journey → Journey = comes (scenes_of m) f.n false in
    let later : Moves (drain k (scenes_of m)) f.mid f.more after =
    subst (λ (scenes : Scenes). Moves (drain k scenes) f.mid f.more after) (scenes_stay (travel (places_of m) (arrive_one f.n false)) m f.mid f.own f.arrives) (drains k f.mid f.more after f.others) in
    subst (λ (es : List End). Moves (drain (suc k) (scenes_of m)) m es after) (sym f.all)
    (moves_as (λ j. drain k (scenes_of m) (first j)) (drain (suc k) (scenes_of m)) m after (f.own ++ f.more)
    (λ choices before. ap (λ ws. drain_from (drain k (scenes_of m)) (scenes_of m) ws (journey_in m choices before)) f.first)
    (moves_then first (drain k (scenes_of m)) m f.mid after f.own f.more f.arrives later))

-- ---- the laws

pub travels : TravelLaw
travels m traffic ends after a =
    let is : travel (places_of m) traffic (begin_journey m (choices_in ends)) ≡ journey_in after [] ends =
    ap (λ (cs : List Choice). travel (places_of m) traffic (begin_journey m cs)) (sym (append-nil (choices_in ends))) ∙ a.is [] [] in
    record {
      legal = ap (λ (j : Journey). j.trail.legal) is;
      used = ap (λ (j : Journey). j.trail.choices) is;
      ends_are = sym (ap (λ (j : Journey). j.trail.ends) is);
      state = a.rest ∙ ap (λ (n : ℕ). record m { lists = after.lists; waiting = after.waiting; next = n }) (sym (ap (λ (k : State). k.next) a.rest)) ∙ sym (ap (ended_journey m) is);
    }

pub all_drain : DrainLaw
all_drain m ends after h = drains MAX_ARRIVALS m ends after h

pub enters_and_drains : EnterAndDrainLaw
enters_and_drains m port packet own more mid after a h =
    let enter : Journey → Journey = travel (places_of m) (enter_one port packet) in
    moves_then enter (drain MAX_ARRIVALS (scenes_of m)) m mid after own more a
    (subst (λ (scenes : Scenes). Moves (drain MAX_ARRIVALS scenes) mid more after) (scenes_stay enter m mid own a) (drains MAX_ARRIVALS mid more after h))
