-- Texts that are joined by a separator: they are cut in one way.
use Rattle.std.specs.Prelude.{◌≡◌, ◌≢◌, ◌≤◌, ◌+◌, ◌++◌, ℕ, List, [], ◌∷◌, length}
use Rattle.std.specs.List.{All, AllZip, join_with_byte}
use Rattle.std.proofs.Common.{refl, ◌∙◌, sym, subst, arith, length-append}
use Rattle.std.proofs.Math.Seq.{get_or-append_seam}
use Rattle.std.proofs.lemmas.List.Elements.{All-cons, All-tail, All-append}
use Rattle.ovn_base.specs.addresses.AddressText.{SpellsJoined, SpellsFirst}

-- the byte is not in the text
abbrev pub Lacks : ℕ → List ℕ → Type 0
Lacks x text = All (λ b. b ≢ x) text

pub lacks_head : (x b : ℕ) (text : List ℕ) → Lacks x (b ∷ text) → b ≢ x
lacks_head x b text lacks = lacks 0 0 (omega arith)

pub lacks_seam : (x : ℕ) (front rest : List ℕ) → ¬ Lacks x (front ++ x ∷ rest)
lacks_seam x front rest lacks = lacks (length front) 0 (omega (arith, length-append front (x ∷ rest))) (get_or-append_seam front x rest 0)

-- a text is cut at the first separator in one way
pub same_cut : (x : ℕ) (a b r t : List ℕ) → Lacks x a → Lacks x b → a ++ x ∷ r ≡ b ++ x ∷ t → (a ≡ b) × (r ≡ t)
same_cut x [] [] r t p q e = (refl, cc)
same_cut x [] (y ∷ b) r t p q e = let same : y ≡ x = cc in absurd (lacks_head x y b q same)
same_cut x (y ∷ a) [] r t p q e = let same : y ≡ x = cc in absurd (lacks_head x y a p same)
same_cut x (y ∷ a) (z ∷ b) r t p q e =
    let head : y ≡ z = cc in
    let tail : a ++ x ∷ r ≡ b ++ x ∷ t = cc in
    let rest = same_cut x a b r t (All-tail (λ c. c ≢ x) y a p) (All-tail (λ c. c ≢ x) z b q) tail in
    (λ i. head i ∷ rest.0 i, rest.1)

module _ (S : List ℕ → ℕ → Type 0) (x : ℕ) (text : List ℕ) where
  -- the text spells no such number of values
  abbrev pub NoneJoined : ℕ → Type 0
  NoneJoined n = (values : List ℕ) → length values ≡ n → ¬ SpellsJoined S x text values

  first_piece : (v w : ℕ) (vs : List ℕ) (pieces : List (List ℕ)) → text ≡ join_with_byte x pieces → AllZip S pieces (v ∷ w ∷ vs) → (rest : List ℕ) × SpellsFirst S x text v rest × SpellsJoined S x rest (w ∷ vs)
  first_piece v w vs [] e each = absurd each
  first_piece v w vs (p ∷ []) e each = absurd each.1
  first_piece v w vs (p ∷ q ∷ ps) e each = (join_with_byte x (q ∷ ps), record { piece = p; whole = e; spells = each.0 }, record { pieces = q ∷ ps; joined = refl; each = each.1 })

  -- where a text spells two values or more, it spells a first one and others
  pub joined_first : (v w : ℕ) (vs : List ℕ) → SpellsJoined S x text (v ∷ w ∷ vs) → (rest : List ℕ) × SpellsFirst S x text v rest × SpellsJoined S x rest (w ∷ vs)
  joined_first v w vs h = first_piece v w vs h.pieces h.joined h.each

  one_piece : (v : ℕ) (pieces : List (List ℕ)) → text ≡ join_with_byte x pieces → AllZip S pieces (v ∷ []) → S text v
  one_piece v [] e each = absurd each
  one_piece v (p ∷ []) e each = subst (λ t. S t v) (sym e) each.0
  one_piece v (p ∷ q ∷ ps) e each = absurd each.1

  -- where a text spells one value, it spells it
  pub joined_one : (v : ℕ) → SpellsJoined S x text (v ∷ []) → S text v
  joined_one v h = one_piece v h.pieces h.joined h.each

  pub joined_alone : (v : ℕ) → S text v → SpellsJoined S x text (v ∷ [])
  joined_alone v spells = record { pieces = text ∷ []; joined = refl; each = (spells, tt) }

  more_pieces : (v w : ℕ) (vs rest : List ℕ) (first : SpellsFirst S x text v rest) (pieces : List (List ℕ)) → rest ≡ join_with_byte x pieces → AllZip S pieces (w ∷ vs) → SpellsJoined S x text (v ∷ w ∷ vs)
  more_pieces v w vs rest first [] e each = absurd each
  more_pieces v w vs rest first (p ∷ ps) e each = record { pieces = first.piece ∷ p ∷ ps; joined = first.whole ∙ (λ i. first.piece ++ x ∷ e i); each = (first.spells, each) }

  pub joined_more : (v w : ℕ) (vs rest : List ℕ) → SpellsFirst S x text v rest → SpellsJoined S x rest (w ∷ vs) → SpellsJoined S x text (v ∷ w ∷ vs)
  joined_more v w vs rest first h = more_pieces v w vs rest first h.pieces h.joined h.each

  pub none_first : (n : ℕ) → 1 ≤ n → ((v : ℕ) (rest : List ℕ) → ¬ SpellsFirst S x text v rest) → NoneJoined (n + 1)
  none_first n some none [] e h = absurd (omega arith)
  none_first n some none (v ∷ []) e h = absurd (omega arith)
  none_first n some none (v ∷ w ∷ vs) e h = let parts = joined_first v w vs h in none v parts.0 parts.1

  pub none_one : ((v : ℕ) → ¬ S text v) → NoneJoined 1
  none_one none [] e h = absurd (omega arith)
  none_one none (v ∷ []) e h = none v (joined_one v h)
  none_one none (v ∷ w ∷ vs) e h = absurd (omega arith)

module _ (S : List ℕ → ℕ → Type 0) (x : ℕ) (lacks : (piece : List ℕ) (v : ℕ) → S piece v → Lacks x piece) where
  -- the first piece and the rest are one
  pub same_first : (text : List ℕ) (v w : ℕ) (rest others : List ℕ) (h : SpellsFirst S x text v rest) (k : SpellsFirst S x text w others) → (h.piece ≡ k.piece) × (rest ≡ others)
  same_first text v w rest others h k = same_cut x h.piece k.piece rest others (lacks h.piece v h.spells) (lacks k.piece w k.spells) (sym h.whole ∙ k.whole)

  pub none_rest : (text : List ℕ) (n v : ℕ) (rest : List ℕ) → 1 ≤ n → SpellsFirst S x text v rest → NoneJoined S x rest n → NoneJoined S x text (n + 1)
  none_rest text n v rest some first none [] e h = absurd (omega arith)
  none_rest text n v rest some first none (u ∷ []) e h = absurd (omega arith)
  none_rest text n v rest some first none (u ∷ w ∷ vs) e h =
      let parts = joined_first S x text u w vs h in
      none (w ∷ vs) (omega arith) (subst (λ r. SpellsJoined S x r (w ∷ vs)) (sym (same_first text v u rest parts.0 first parts.1).1) parts.2)

  -- values that a text spells are one list
  pub same_values : (same : (piece : List ℕ) (v w : ℕ) → S piece v → S piece w → v ≡ w) → (text vs ws : List ℕ) → length vs ≡ length ws → SpellsJoined S x text vs → SpellsJoined S x text ws → vs ≡ ws
  same_values same text [] [] e h k = refl
  same_values same text [] (w ∷ ws) e h k = absurd (omega arith)
  same_values same text (v ∷ vs) [] e h k = absurd (omega arith)
  same_values same text (v ∷ []) (w ∷ []) e h k = let head = same text v w (joined_one S x text v h) (joined_one S x text w k) in λ i. head i ∷ []
  same_values same text (v ∷ []) (w ∷ w2 ∷ ws) e h k = absurd (omega arith)
  same_values same text (v ∷ v2 ∷ vs) (w ∷ []) e h k = absurd (omega arith)
  same_values same text (v ∷ v2 ∷ vs) (w ∷ w2 ∷ ws) e h k =
      let p = joined_first S x text v v2 vs h in
      let q = joined_first S x text w w2 ws k in
      let cuts = same_first text v w p.0 q.0 p.1 q.1 in
      let head = same q.1.piece v w (subst (λ t. S t v) cuts.0 p.1.spells) q.1.spells in
      let tail = same_values same q.0 (v2 ∷ vs) (w2 ∷ ws) (omega arith) (subst (λ r. SpellsJoined S x r (v2 ∷ vs)) cuts.1 p.2) q.2 in
      λ i. head i ∷ tail i

  -- a text without the separator has no first piece
  pub none_uncut : (text : List ℕ) → Lacks x text → (v : ℕ) (rest : List ℕ) → ¬ SpellsFirst S x text v rest
  none_uncut text apart v rest h = lacks_seam x h.piece rest (subst (λ t. Lacks x t) h.whole apart)

  -- where the part before the separator spells nothing, there is no first piece
  pub none_read : (text front others : List ℕ) → text ≡ front ++ x ∷ others → Lacks x front → ((v : ℕ) → ¬ S front v) → (v : ℕ) (rest : List ℕ) → ¬ SpellsFirst S x text v rest
  none_read text front others whole apart none v rest h =
      let cuts = same_cut x h.piece front rest others (lacks h.piece v h.spells) apart (sym h.whole ∙ whole) in
      none v (subst (λ t. S t v) cuts.0 h.spells)

module _ (S : List ℕ → ℕ → Type 0) (x y : ℕ) (apart : x ≢ y) (lacks : (piece : List ℕ) (v : ℕ) → S piece v → Lacks y piece) where
  pieces_lack : (pieces : List (List ℕ)) (vs : List ℕ) → AllZip S pieces vs → Lacks y (join_with_byte x pieces)
  pieces_lack [] vs each = λ k d small. absurd (omega arith)
  pieces_lack (p ∷ ps) [] each = absurd each
  pieces_lack (p ∷ []) (v ∷ vs) each = lacks p v each.0
  pieces_lack (p ∷ q ∷ ps) (v ∷ vs) each =
      All-append (λ b. b ≢ y) p (x ∷ join_with_byte x (q ∷ ps)) (lacks p v each.0) (All-cons (λ b. b ≢ y) x (join_with_byte x (q ∷ ps)) apart (pieces_lack (q ∷ ps) vs each.1))

  -- a byte that is in no piece, and is not the separator, is not in the text
  pub joined_lacks : (text vs : List ℕ) → SpellsJoined S x text vs → Lacks y text
  joined_lacks text vs h = subst (λ t. Lacks y t) (sym h.joined) (pieces_lack h.pieces vs h.each)
