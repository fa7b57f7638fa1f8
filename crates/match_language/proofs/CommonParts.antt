-- What stands between two places of a text, and a reading that fails, told by the tokens alone.
use Rattle.std.specs.Prelude.{◌≡◌, ◌⊎◌, ◌≤◌, ℕ, zero, suc, Bool, true, false, cond, List, ◌∷◌, Err}
use Rattle.std.proofs.Common.{refl, ap, ◌∙◌, sym, subst, inl, inr, arith}
use Rattle.match_language.specs.declared.fault.MatchFault.{MatchFault}
use Rattle.match_language.specs.declared.token.Token.{Token}
use Rattle.match_language.specs.declared.token.Token.TheVariants as t
use Rattle.match_language.specs.Input.{Input, token, next, skip}
use Rattle.match_language.specs.Grammar.{is_slash}
use Rattle.match_language.specs.FirstFault.{after, Same, Shares, tokens_seen, wanted, fault_by, is_outside, back, is_passed}
use Rattle.match_language.specs.Reading.{Read}
use Rattle.match_language.proofs.Begins.{Follows}

-- ---- counts of tokens

-- a sum that computes on its first part
abbrev pub plus : ℕ → ℕ → ℕ
plus zero n = n
plus (suc m) n = suc (plus m n)

pub plus_assoc : (n m l : ℕ) → plus (plus n m) l ≡ plus n (plus m l)
plus_assoc zero m l = refl
plus_assoc (suc n) m l = ap suc (plus_assoc n m l)

pub plus_suc : (n m : ℕ) → plus n (suc m) ≡ suc (plus n m)
plus_suc zero m = refl
plus_suc (suc n) m = ap suc (plus_suc n m)

pub after_plus : (n m : ℕ) (i : Input) → after (plus n m) i ≡ after m (after n i)
after_plus zero m i = refl
after_plus (suc n) m i = after_plus n m (next i)

pub seen_plus : (n m : ℕ) (i : Input) (ts : List Token) → tokens_seen (plus n m) i ts ≡ tokens_seen m (after n i) (tokens_seen n i ts)
seen_plus zero m i ts = refl
seen_plus (suc n) m i ts = seen_plus n m (next i) (token i ∷ ts)

pub seen_last : (n : ℕ) (i : Input) (ts : List Token) → tokens_seen (suc n) i ts ≡ token (after n i) ∷ tokens_seen n i ts
seen_last zero i ts = refl
seen_last (suc n) i ts = seen_last n (next i) (token i ∷ ts)

pub shares_front : (n m : ℕ) (i k : Input) → Shares (plus n m) i k → Shares n i k
shares_front zero m i k h = tt
shares_front (suc n) m i k h = (h.0, shares_front n m (next i) (next k) h.1)

pub shares_rest : (n m : ℕ) (i k : Input) → Shares (plus n m) i k → Shares m (after n i) (after n k)
shares_rest zero m i k h = h
shares_rest (suc n) m i k h = shares_rest n m (next i) (next k) h.1

pub shares_less : (n m : ℕ) (i k : Input) → n ≤ m → Shares m i k → Shares n i k
shares_less zero m i k less h = tt
shares_less (suc n) zero i k less h = absurd (omega (arith, less))
shares_less (suc n) (suc m) i k less h = (h.0, shares_less n m (next i) (next k) (omega (arith, less)) h.1)

pub shares_own : (n : ℕ) (i : Input) → Shares n i i
shares_own zero i = tt
shares_own (suc n) i = ((refl, λ e. refl), shares_own n (next i))

-- neither the end nor a byte at which no token begins
abbrev pub is_plain : Token → Bool
is_plain t.Bad = false
is_plain t.End = false
is_plain _ = true

-- so are the first n tokens
abbrev pub Plain : ℕ → Input → Type 0
Plain zero i = Unit {0}
Plain (suc n) i = (is_plain (token i) ≡ true) × Plain n (next i)

pub plain_plus : (n m : ℕ) (i : Input) → Plain n i → Plain m (after n i) → Plain (plus n m) i
plain_plus zero m i h g = g
plain_plus (suc n) m i h g = (h.0, plain_plus n m (next i) h.1 g)

-- ---- what stands between two places

-- no mask follows at the second where none follows at the first
abbrev pub Tame : Input → Input → Type 0
Tame j l = is_slash (token j) ≡ false → is_slash (token l) ≡ false

pub tame_same : (j l : Input) → Same j l → Tame j l
tame_same j l h bare = ap is_slash (sym h.0) ∙ bare

-- What stands from i to j stands wherever the same tokens are, if no mask follows. With the tokens of it seen, the claim holds.
pub record Moves (Holds : Input → Input → Type 0) (Claim : List Token → Type 0) (ts : List Token) (i j : Input) : Type 0 where
  pub more : ℕ
  pub there : j ≡ after (suc more) i
  pub plain : Plain (suc more) i
  pub same : (k : Input) → Shares (suc more) i k → Tame j (after (suc more) k) → Holds k (after (suc more) k)
  pub left : Claim (tokens_seen (suc more) i ts)

-- one token
pub single : {H : Input → Input → Type 0} {C : List Token → Type 0} (ts : List Token) (i : Input) → is_plain (token i) ≡ true → C (token i ∷ ts) → ((k : Input) → Same i k → H k (next k)) → Moves H C ts i (next i)
single ts i plain left same = record { more = 0; there = refl; plain = (plain, tt); same = λ k s tame. same k s.0; left = left }

module _ {H1 H2 H : Input → Input → Type 0} {C1 C2 : List Token → Type 0} (ts : List Token) (i j l : Input) where
  -- one after the other
  pub then : Moves H1 C1 ts i j → ((us : List Token) → C1 us → Moves H2 C2 us j l) → ((k m e : Input) → H1 k m → H2 m e → H k e) → Moves H C2 ts i l
  then M second join =
      let a = suc M.more in
      let us = tokens_seen a i ts in
      let N = second us M.left in
      let b = suc N.more in
      record {
        more = plus M.more b;
        there = N.there ∙ ap (after b) M.there ∙ sym (after_plus a b i);
        plain = plain_plus a b i M.plain (subst (Plain b) M.there N.plain);
        same = λ k s tame.
            let front = shares_front a b i k s in
            let rest = subst (λ (x : Input). Shares b x (after a k)) (sym M.there) (shares_rest a b i k s) in
            let first = M.same k front (tame_same j (after a k) rest.0) in
            let last = N.same (after a k) rest (subst (Tame l) (after_plus a b k) tame) in
            subst (H k) (sym (after_plus a b k)) (join k (after a k) (after b (after a k)) first last);
        left = subst C2 (ap (λ (x : Input). tokens_seen b x us) M.there ∙ sym (seen_plus a b i ts)) N.left;
      }

-- another way to say it
pub weaken : {H K : Input → Input → Type 0} {C D : List Token → Type 0} (ts : List Token) (i j : Input) → ((k l : Input) → H k l → K k l) → ((us : List Token) → C us → D us) → Moves H C ts i j → Moves K D ts i j
weaken ts i j f g M = record { more = M.more; there = M.there; plain = M.plain; same = λ k s tame. f k (after (suc M.more) k) (M.same k s tame); left = g (tokens_seen (suc M.more) i ts) M.left }

-- ---- a reading that fails

-- so many tokens of all those before the fault are kept: all of them, or all but one that is passed
abbrev pub Gap : Input → List Token → ℕ → ℕ → Type 0
Gap i ts kept all = (kept ≡ all) ⊎ ((suc kept ≡ all) × (is_passed (tokens_seen all i ts) ≡ true))

-- The reading fails at the token at the index, wherever the tokens up to it are the same, and the fault is the one that this token
-- shows. Where the tokens that are kept are the same and then the tail comes, it stands.
pub record Fails {A : Type 0} (read : Input → Read A) (Holds : Input → Input → Type 0) (ts : List Token) (i : Input) (f : MatchFault) : Type 0 where
  pub index : ℕ
  pub named : ℕ
  pub at : index ≡ plus named (back (tokens_seen index i ts) (token (after index i)))
  pub is : f ≡ fault_by (wanted (tokens_seen index i ts)) (token (after index i)) (after named i).place
  pub settled : is_passed (token (after index i) ∷ tokens_seen index i ts) ≡ false
  pub same : (k : Input) → Shares (suc index) i k → (d : MatchFault) × (read k ≡ Err d)
  pub kept : ℕ
  pub gap : Gap i ts kept index
  pub plain : Plain kept i
  pub tail : List ℕ → List ℕ
  pub bare : (rest : List ℕ) → Follows rest → (q : ℕ) → is_slash (token (skip q (tail rest))) ≡ false
  pub goes : (rest : List ℕ) → Follows rest → (k : Input) → Shares kept i k → (q : ℕ) → after kept k ≡ skip q (tail rest) → (l : ℕ) × Holds k (skip l rest)

-- it fails at its first token
pub fails_here : {A : Type 0} {H : Input → Input → Type 0} (read : Input → Read A) (ts : List Token) (i : Input) (f : MatchFault) → f ≡ fault_by (wanted ts) (token i) i.place → is_outside ts (token i) ≡ false → is_passed (token i ∷ ts) ≡ false
    → ((k : Input) → token i ≡ token k → (d : MatchFault) × (read k ≡ Err d)) → (tail : List ℕ → List ℕ) → ((rest : List ℕ) → Follows rest → (q : ℕ) → is_slash (token (skip q (tail rest))) ≡ false)
    → ((rest : List ℕ) → Follows rest → (q : ℕ) → (l : ℕ) × H (skip q (tail rest)) (skip l rest)) → Fails read H ts i f
fails_here {H = H} read ts i f is outside settled same tail bare goes = record {
  index = 0;
  named = 0;
  at = sym (ap (λ (b : Bool). cond b 2 0) outside);
  is = is;
  settled = settled;
  same = λ k s. same k s.0.0;
  kept = 0;
  gap = inl refl;
  plain = tt;
  tail = tail;
  bare = bare;
  goes = λ rest follows k s q e. subst (λ (x : Input). (l : ℕ) × H x (skip l rest)) (sym e) (goes rest follows q);
}

-- what is around it fails with it
pub fails_within : {A B : Type 0} {H K : Input → Input → Type 0} (read : Input → Read A) (other : Input → Read B) (ts : List Token) (i : Input) (f : MatchFault) (wrap : List ℕ → List ℕ) → ((rest : List ℕ) → Follows rest → Follows (wrap rest))
    → ((k : Input) (d : MatchFault) → Same i k → read k ≡ Err d → (e : MatchFault) × (other k ≡ Err e)) → ((k : Input) (q : ℕ) (rest : List ℕ) → Follows rest → H k (skip q (wrap rest)) → (l : ℕ) × K k (skip l rest)) → Fails read H ts i f → Fails other K ts i f
fails_within read other ts i f wrap follows reads closes h = record {
  index = h.index;
  named = h.named;
  at = h.at;
  is = h.is;
  settled = h.settled;
  same = λ k s. let g = h.same k s in reads k g.0 s.0 g.1;
  kept = h.kept;
  gap = h.gap;
  plain = h.plain;
  tail = λ rest. h.tail (wrap rest);
  bare = λ rest behind. h.bare (wrap rest) (follows rest behind);
  goes = λ rest behind k s q e. let g = h.goes (wrap rest) (follows rest behind) k s q e in closes k g.0 rest behind g.1;
}

-- the token behind those that are kept
tame_tail : (j m k : Input) (kept : ℕ) (text : List ℕ) (q : ℕ) → j ≡ m → is_slash (token (skip q text)) ≡ false → Shares kept m k → after kept k ≡ skip q text → Tame j k
tame_tail j m k zero text q there bare s e h = ap (λ (x : Input). is_slash (token x)) e ∙ bare
tame_tail j m k (suc kept) text q there bare s e h = tame_same m k s.0 (ap (λ (x : Input). is_slash (token x)) (sym there) ∙ h)

gap_plus : (n kept all : ℕ) (i : Input) (ts : List Token) → Gap (after n i) (tokens_seen n i ts) kept all → Gap i ts (plus n kept) (plus n all)
gap_plus n kept all i ts (inl e) = inl (ap (plus n) e)
gap_plus n kept all i ts (inr e) = inr (sym (plus_suc n kept) ∙ ap (plus n) e.0, ap is_passed (seen_plus n all i ts) ∙ e.1)

-- behind what stands before it
pub fails_behind : {A B : Type 0} {H1 H2 H : Input → Input → Type 0} {C : List Token → Type 0} (read : Input → Read A) (other : Input → Read B) (ts : List Token) (i j : Input) (f : MatchFault) → Moves H1 C ts i j
    → ((us : List Token) → C us → Fails read H2 us j f) → ((k l : Input) (d : MatchFault) → H1 k l → Same j l → read l ≡ Err d → (e : MatchFault) × (other k ≡ Err e)) → ((k m e : Input) → H1 k m → H2 m e → H k e) → Fails other H ts i f
fails_behind {H2 = H2} {H = H} read other ts i j f M second reads join =
    let n = suc M.more in
    let us = tokens_seen n i ts in
    let h = subst (λ (x : Input). Fails read H2 us x f) M.there (second us M.left) in
    let tokens = sym (seen_plus n h.index i ts) in
    let place = sym (after_plus n h.index i) in
    record {
      index = plus n h.index;
      named = plus n h.named;
      at = ap (plus n) h.at ∙ sym (plus_assoc n h.named (back (tokens_seen h.index (after n i) us) (token (after h.index (after n i)))))
          ∙ ap (λ (x : List Token). plus (plus n h.named) (back x (token (after h.index (after n i))))) tokens
          ∙ ap (λ (x : Input). plus (plus n h.named) (back (tokens_seen (plus n h.index) i ts) (token x))) place;
      is = h.is
          ∙ ap (λ (x : List Token). fault_by (wanted x) (token (after h.index (after n i))) (after h.named (after n i)).place) tokens
          ∙ ap (λ (x : Input). fault_by (wanted (tokens_seen (plus n h.index) i ts)) (token x) (after h.named (after n i)).place) place
          ∙ ap (λ (x : Input). fault_by (wanted (tokens_seen (plus n h.index) i ts)) (token (after (plus n h.index) i)) x.place) (sym (after_plus n h.named i));
      settled = ap (λ (x : List Token). is_passed (token (after (plus n h.index) i) ∷ x)) (seen_plus n h.index i ts)
          ∙ ap (λ (x : Input). is_passed (token x ∷ tokens_seen h.index (after n i) us)) (after_plus n h.index i) ∙ h.settled;
      same = λ k s.
          let all = subst (λ (m : ℕ). Shares m i k) (sym (plus_suc n h.index)) s in
          let front = shares_front n (suc h.index) i k all in
          let rest = shares_rest n (suc h.index) i k all in
          let first = subst (λ (x : Input). Same x (after n k)) (sym M.there) rest.0 in
          let g = h.same (after n k) rest in
          reads k (after n k) g.0 (M.same k front (tame_same j (after n k) first)) first g.1;
      kept = plus n h.kept;
      gap = gap_plus n h.kept h.index i ts h.gap;
      plain = plain_plus n h.kept i M.plain h.plain;
      tail = h.tail;
      bare = h.bare;
      goes = λ rest follows k s q e.
          let front = shares_front n h.kept i k s in
          let others = shares_rest n h.kept i k s in
          let moved = sym (after_plus n h.kept k) ∙ e in
          let tame = tame_tail j (after n i) (after n k) h.kept (h.tail rest) q M.there (h.bare rest follows q) others moved in
          let g = h.goes rest follows (after n k) others q moved in
          (g.0, join k (after n k) (skip g.0 rest) (M.same k front tame) g.1);
    }
