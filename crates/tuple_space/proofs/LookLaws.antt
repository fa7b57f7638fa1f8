-- The answer to a look-up, turn by turn.
use Rattle.std.specs.Prelude.{◌≡◌, ◌<◌, ◌⊎◌, ◌%◌, ℕ, List, [], ◌∷◌, Option, Some, None, IfNone, IfSome, length, take, drop, slice_get, refl}
use Rattle.std.proofs.Common.{get_or}
use mathlib.Core.Path.{sym, ap, subst, ◌∙◌}
use mathlib.Core.Logic.{inl, inr}
use native.Mathlib.Omega.{arith}
use denote.Ref.{Bor}
use Rattle.std.specs.Option.{option_copied, option_map_or}
use Rattle.std.proofs.lemmas.Option.{none-some, same_Some}
use Rattle.ovn_base.specs.lists.Among.{Among, here}
use Rattle.ovn_base.proofs.AmongLaws.{among_none, among_cases, among_append}
use Rattle.std.proofs.lemmas.List.{take-append-drop}
use Rattle.inet_packet.specs.declared.packet.Packet.{Packet}
use Rattle.inet_packet.specs.declared.regs.Regs.{Regs}
use Rattle.flow_table.specs.declared.flow.Flow.{Flow}
use Rattle.flow_table.specs.Matching.{Matches, Beats, IsBest, NoneMatches}
use Rattle.tuple_space.specs.declared.mask.Mask.{Mask}
use Rattle.tuple_space.specs.declared.turn.Turn.{Turn}
use Rattle.tuple_space.specs.declared.sieve.Sieve.{Sieve}
use Rattle.tuple_space.specs.Masks.{cube_mask, field_values, values_wanted, values_under}
use Rattle.tuple_space.specs.Sieving.{HasBit, IsLetIn, bit_of}
use Rattle.tuple_space.specs.Bunches.{Bunch, IsFalling, flows_in, flows_under, AreBunches, IsBetter}
use Rattle.tuple_space.specs.Turns.{IsUnder, IsByBound, HasTurn, turns_of}
use Rattle.tuple_space.specs.Space.{mask_number, AreFiled, AreLetThrough, first_under}
use Rattle.tuple_space.proofs.BunchLaws.{under_in, in_under}
use Rattle.tuple_space.proofs.FallLaws.{not_through}
use Rattle.tuple_space.proofs.MaskLaws.{fits_all, fits_key}
use Rattle.tuple_space.proofs.NumberLaws.{number_get}
use Rattle.tuple_space.proofs.RankLaws.{ranked_from}

-- the flow's mask has one of the turns
abbrev pub HasOneOf : List Mask → List Turn → Flow → Type 0
HasOneOf masks turns f = (t : Turn) × Among t turns × (t.number ≡ mask_number masks (cube_mask f.cube))

-- the best of the flows of which P holds
pub record IsBestOf (P : Flow → Type 0) (flows : List Flow) (table : ℕ) (regs : Regs) (packet : Packet) (f : Flow) : Type 0 where
  pub held : Among f flows
  pub matching : Matches f table regs packet
  pub unbeaten : (g : Flow) → Among g flows → P g → Matches g table regs packet → ¬ Beats g f

-- the answer to a look-up among them
abbrev pub IsAnswerOf : (Flow → Type 0) → List Flow → ℕ → Regs → Packet → Option Flow → Type 0
IsAnswerOf P flows table regs packet None = (g : Flow) → Among g flows → P g → ¬ Matches g table regs packet
IsAnswerOf P flows table regs packet (Some f) = IsBestOf P flows table regs packet f

not_chain : (f g h : Flow) → ¬ Beats f g → ¬ Beats g h → ¬ Beats f h
not_chain f g h a b = grind arith

module _ (flows : List Flow) (table : ℕ) (regs : Regs) (packet : Packet) where
  -- the answers among two sorts of flows make the one among both
  pub answer_join : (P Q R : Flow → Type 0) (a b r : Option Flow) → ((g : Flow) → R g → P g ⊎ Q g) → IsAnswerOf P flows table regs packet a → IsAnswerOf Q flows table regs packet b → IsBetter a b r → IsAnswerOf R flows table regs packet r
  answer_join P Q R None None r sort p q is = subst (λ o. IsAnswerOf R flows table regs packet o) (sym is) (λ g m k. elim (sort g k) [ inl x ↦ p g m x | inr y ↦ q g m y ])
  answer_join P Q R None (Some b) r sort p q is =
      subst (λ o. IsAnswerOf R flows table regs packet o) (sym is)
      (record { held = q.held; matching = q.matching; unbeaten = λ g m k w. elim (sort g k) [ inl x ↦ absurd (p g m x w) | inr y ↦ q.unbeaten g m y w ] })
  answer_join P Q R (Some a) None r sort p q is =
      subst (λ o. IsAnswerOf R flows table regs packet o) (sym is)
      (record { held = p.held; matching = p.matching; unbeaten = λ g m k w. elim (sort g k) [ inl x ↦ p.unbeaten g m x w | inr y ↦ absurd (q g m y w) ] })
  answer_join P Q R (Some a) (Some b) r sort p q (inl is) =
      subst (λ o. IsAnswerOf R flows table regs packet o) (sym is.0)
      (record { held = p.held; matching = p.matching; unbeaten = λ g m k w. elim (sort g k) [ inl x ↦ p.unbeaten g m x w | inr y ↦ not_chain g b a (q.unbeaten g m y w) is.1 ] })
  answer_join P Q R (Some a) (Some b) r sort p q (inr is) =
      subst (λ o. IsAnswerOf R flows table regs packet o) (sym is.0)
      (record { held = q.held; matching = q.matching; unbeaten = λ g m k w. elim (sort g k) [ inl x ↦ not_through b a g is.1 (p.unbeaten g m x w) | inr y ↦ q.unbeaten g m y w ] })

module _ (masks : List Mask) (tables : List (ℕ × List Turn)) (bunches : List (List ℕ × Bunch)) (filed : AreFiled masks tables bunches) (law : AreBunches bunches) (table : ℕ) (regs : Regs) (packet : Packet) where
  -- a flow of a mask that matches is at the mask's key
  match_under : (number : ℕ) (m : Mask) (g : Flow) → slice_get masks number ≡ Some m → number ≡ mask_number masks (cube_mask g.cube) → Among g (flows_in bunches) → Matches g table regs packet → Among g (flows_under bunches (table ∷ number ∷ values_under m regs packet))
  match_under number m g at is held match =
      let r = in_under bunches law.keys g held in
      let k = filed r.0 g r.1 in
      let mask : cube_mask g.cube ≡ m = same_Some (cube_mask g.cube) m (sym (number_get masks (cube_mask g.cube) k.1.known) ∙ ap (λ n. slice_get masks n) (sym is) ∙ at) in
      let values : values_wanted g.cube ≡ values_under m regs packet = sym ((fits_key g.cube regs packet).0 match.fits) ∙ ap (λ x. values_under x regs packet) mask in
      subst (λ q. Among g (flows_under bunches q)) (k.0 ∙ (λ i. match.in_table i ∷ sym is i ∷ values i)) r.1

  -- a flow at the mask's key matches
  under_match : (number : ℕ) (m : Mask) (f : Flow) → slice_get masks number ≡ Some m → Among f (flows_under bunches (table ∷ number ∷ values_under m regs packet)) → Matches f table regs packet
  under_match number m f at held =
      let k = filed (table ∷ number ∷ values_under m regs packet) f held in
      let is : number ≡ mask_number masks (cube_mask f.cube) = ap (λ l. get_or l 1 0) k.0 in
      let mask : cube_mask f.cube ≡ m = same_Some (cube_mask f.cube) m (sym (number_get masks (cube_mask f.cube) k.1.known) ∙ ap (λ n. slice_get masks n) (sym is) ∙ at) in
      record { in_table = sym (ap (λ l. get_or l 0 0) k.0); fits = (fits_key f.cube regs packet).1 (ap (λ x. values_under x regs packet) mask ∙ ap (λ l. drop 2 l) k.0) }

  -- what a mask answers
  pub ask_answers : (number : ℕ) → IsAnswerOf (λ g. number ≡ mask_number masks (cube_mask g.cube)) (flows_in bunches) table regs packet (first_under masks bunches table number regs packet)
  ask_answers number = by (slice_get masks number) refl
    where
      first : (m : Mask) → slice_get masks number ≡ Some m → (fs : List Flow) → flows_under bunches (table ∷ number ∷ values_under m regs packet) ≡ fs → IsAnswerOf (λ g. number ≡ mask_number masks (cube_mask g.cube)) (flows_in bunches) table regs packet (slice_get fs 0)
      first m at [] none = λ g held is match. among_none g (subst (λ l. Among g l) none (match_under number m g at is held match))
      first m at (f ∷ fs) some =
          let key = table ∷ number ∷ values_under m regs packet in
          let there_f : Among f (flows_under bunches key) = subst (λ l. Among f l) (sym some) here in
          let falls : IsFalling (f ∷ fs) = subst (λ l. IsFalling l) some (law.falls key) in
          record {
            held = under_in bunches key f there_f;
            matching = under_match number m f at there_f;
            unbeaten = λ g held is match. elim (among_cases g f fs (subst (λ l. Among g l) some (match_under number m g at is held match))) [ inl e ↦ subst (λ h. ¬ Beats h f) (sym e) (not_own f) | inr n ↦ falls.0 g n ];
          }
        where
          not_own : (h : Flow) → ¬ Beats h h
          not_own h (inl l) = absurd (omega (arith, l))
          not_own h (inr l) = absurd (omega (arith, l.1))

      by : (o : Option Mask) → slice_get masks number ≡ o → IsAnswerOf (λ g. number ≡ mask_number masks (cube_mask g.cube)) (flows_in bunches) table regs packet (option_map_or (λ m. slice_get (flows_under bunches (table ∷ number ∷ values_under m regs packet)) 0) o None)
      by None none = λ g held is match. let r = in_under bunches law.keys g held in let k = filed r.0 g r.1 in none-some (cube_mask g.cube) (sym none ∙ ap (λ n. slice_get masks n) is ∙ number_get masks (cube_mask g.cube) k.1.known)
      by (Some m) at = first m at (flows_under bunches (table ∷ number ∷ values_under m regs packet)) refl

  -- a mask that isn't let through answers nothing
  pub left_out : (sieves : List (ℕ × Sieve)) (number passed : ℕ) → AreLetThrough masks sieves bunches → ((bit : ℕ) → bit < 128 → IsLetIn sieves table (field_values regs packet) bit → HasBit passed bit) → ¬ HasBit passed (bit_of number) → first_under masks bunches table number regs packet ≡ None
  left_out sieves number passed lets all out = by (slice_get masks number) refl
    where
      first : (m : Mask) → slice_get masks number ≡ Some m → (fs : List Flow) → flows_under bunches (table ∷ number ∷ values_under m regs packet) ≡ fs → slice_get fs 0 ≡ None
      first m at [] none = refl
      first m at (f ∷ fs) some =
          let key = table ∷ number ∷ values_under m regs packet in
          let there_f : Among f (flows_under bunches key) = subst (λ l. Among f l) (sym some) here in
          let is : mask_number masks (cube_mask f.cube) ≡ number = sym (ap (λ l. get_or l 1 0) (filed key f there_f).0) in
          let match = under_match number m f at there_f in
          let through = lets key f there_f (field_values regs packet) ((fits_all f.cube regs packet).0 match.fits).1 in
          absurd (out (all (bit_of number) (let small : number % 128 < 128 = omega arith in small) (subst (λ n. IsLetIn sieves table (field_values regs packet) (bit_of n)) is (subst (λ t. IsLetIn sieves t (field_values regs packet) (bit_of (mask_number masks (cube_mask f.cube)))) match.in_table through))))

      by : (o : Option Mask) → slice_get masks number ≡ o → option_map_or (λ m. slice_get (flows_under bunches (table ∷ number ∷ values_under m regs packet)) 0) o None ≡ None
      by None none = refl
      by (Some m) at = first m at (flows_under bunches (table ∷ number ∷ values_under m regs packet)) refl

  module _ (turns : List Turn) (all : turns ≡ turns_of tables table) where
    -- a flow that matches has one of the table's turns, whose bound is at least its priority with its rank
    match_turn : (g : Flow) → Among g (flows_in bunches) → Matches g table regs packet → HasTurn turns (mask_number masks (cube_mask g.cube)) g.priority g.rank
    match_turn g held match =
        let r = in_under bunches law.keys g held in
        let k = (filed r.0 g r.1).1 in
        subst (λ l. HasTurn l (mask_number masks (cube_mask g.cube)) g.priority g.rank) (sym all) (subst (λ t. HasTurn (turns_of tables t) (mask_number masks (cube_mask g.cube)) g.priority g.rank) match.in_table k.turn)

    -- once all turns were asked
    pub answer_all : (best : Option Flow) → IsAnswerOf (HasOneOf masks turns) (flows_in bunches) table regs packet best → IsAnswerOf (λ g. Unit {0}) (flows_in bunches) table regs packet best
    answer_all None h = λ g held u match. let t = match_turn g held match in h g held (t.0, t.1, t.2) match
    answer_all (Some f) h = record { held = h.held; matching = h.matching; unbeaten = λ g held u match. let t = match_turn g held match in h.unbeaten g held (t.0, t.1, t.2) match }

    -- where a turn isn't above what was found, no later one is
    pub answer_stops : (i : ℕ) (d u : Turn) (f : Flow) → IsByBound turns → i < length turns → u ≡ get_or turns i d → ¬ ((f.priority < u.priority) ⊎ ((f.priority ≡ u.priority) × (f.rank < u.rank))) → IsBestOf (HasOneOf masks (take i turns)) (flows_in bunches) table regs packet f → IsBest (flows_in bunches) table regs packet f
    answer_stops i d u f order l is low h = record {
      held = h.held;
      matching = h.matching;
      unbeaten = λ g held match.
          let t = match_turn g held match in
          elim (among_append t.0 (take i turns) (drop i turns) (subst (λ l. Among t.0 l) (sym (take-append-drop i turns)) t.1)) [
            | inl a ↦ h.unbeaten g held (t.0, a, t.2) match
            | inr b ↦ elim (ranked_from (λ x y. IsUnder y.priority y.rank x) turns i d u l is order t.0 b) [
              | inl e ↦ not_above g (subst (λ x. IsUnder g.priority g.rank x) e t.3)
              | inr v ↦ not_above g (through g t.0 t.3 v)
            ]
          ];
    }
      where
        through : (g : Flow) (t : Turn) → IsUnder g.priority g.rank t → IsUnder t.priority t.rank u → IsUnder g.priority g.rank u
        through g t a b = grind arith

        not_above : (g : Flow) → IsUnder g.priority g.rank u → ¬ Beats g f
        not_above g a = grind arith

-- the answer in the words of the contract
pub answer_found : (flows : List Flow) (table : ℕ) (regs : Regs) (packet : Packet) (best : Option (Bor Flow)) → IsAnswerOf (λ g. Unit {0}) flows table regs packet (option_copied best) → IfSome best (λ f. IsBest flows table regs packet f.now)
answer_found flows table regs packet None h = tt
answer_found flows table regs packet (Some b) h = record { held = h.held; matching = h.matching; unbeaten = λ g m k. h.unbeaten g m tt k }

pub answer_none : (flows : List Flow) (table : ℕ) (regs : Regs) (packet : Packet) (best : Option (Bor Flow)) → IsAnswerOf (λ g. Unit {0}) flows table regs packet (option_copied best) → IfNone best (NoneMatches flows table regs packet)
answer_none flows table regs packet None h = λ g m. h g m tt
answer_none flows table regs packet (Some b) h = tt
