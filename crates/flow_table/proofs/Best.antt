-- The best of the flows that were looked at, and how it stands with one flow more.
use Rattle.std.specs.Prelude.{◌≡◌, ◌⊎◌, ℕ, List, [], ◌∷◌, ◌++◌, Option, Some, None, IfNone}
use Rattle.std.specs.Option.{option_copied}
use denote.Ref.{Bor}
use mathlib.Core.Path.{sym, subst}
use mathlib.Core.Logic.{inl, inr}
use native.Mathlib.Omega.{arith}
use Rattle.ovn_base.specs.lists.Among.{Among, here}
use Rattle.ovn_base.proofs.AmongLaws.{among_append, among_cases, among_left, among_right, among_none}
use Rattle.inet_packet.specs.declared.packet.Packet.{Packet}
use Rattle.inet_packet.specs.declared.regs.Regs.{Regs}
use Rattle.flow_table.specs.declared.flow.Flow.{Flow}
use Rattle.flow_table.specs.Matching.{Matches, Beats, IsBest, NoneMatches}

-- the answer to a look-up in the flows
abbrev pub IsAnswer : List Flow → ℕ → Regs → Packet → Option Flow → Type 0
IsAnswer flows table regs packet None = NoneMatches flows table regs packet
IsAnswer flows table regs packet (Some f) = IsBest flows table regs packet f

module _ (table : ℕ) (regs : Regs) (packet : Packet) where
  -- what an answer of `None` says
  pub none_answered : (flows : List Flow) (best : Option (Bor Flow)) → IsAnswer flows table regs packet (option_copied best) → IfNone best (NoneMatches flows table regs packet)
  none_answered flows None h = h
  none_answered flows (Some b) h = tt

  -- no flow is its own better, and the better of a better is better
  not_own : (f : Flow) → ¬ Beats f f
  not_own f (inl l) = absurd (omega arith)
  not_own f (inr e) = absurd (omega arith)

  through : (f g h : Flow) → Beats f g → Beats g h → Beats f h
  through f g h a b = grind arith

  last : (g f : Flow) (flows : List Flow) → Among g (flows ++ f ∷ []) → Among g flows ⊎ (g ≡ f)
  last g f flows m = elim (among_append g flows (f ∷ []) m) [ inl a ↦ inl a | inr b ↦ elim (among_cases g f [] b) [ inl e ↦ inr e | inr n ↦ absurd (among_none g n) ] ]

  -- a flow that doesn't match
  pub none_skip : (flows : List Flow) (f : Flow) → NoneMatches flows table regs packet → ¬ Matches f table regs packet → NoneMatches (flows ++ f ∷ []) table regs packet
  none_skip flows f h no_match g m k =
      elim (last g f flows m) [ inl a ↦ h g a k | inr e ↦ no_match (subst (λ z. Matches z table regs packet) e k) ]

  pub best_skip : (flows : List Flow) (best f : Flow) → IsBest flows table regs packet best → ¬ Matches f table regs packet → IsBest (flows ++ f ∷ []) table regs packet best
  best_skip flows best f h no_match = record {
    held = among_left best flows (f ∷ []) h.held;
    matching = h.matching;
    unbeaten = λ g m k b. elim (last g f flows m) [ inl a ↦ h.unbeaten g a k b | inr e ↦ no_match (subst (λ z. Matches z table regs packet) e k) ];
  }

  -- the first that matches
  pub best_first : (flows : List Flow) (f : Flow) → NoneMatches flows table regs packet → Matches f table regs packet → IsBest (flows ++ f ∷ []) table regs packet f
  best_first flows f h match = record {
    held = among_right f flows (f ∷ []) here;
    matching = match;
    unbeaten = λ g m k b. elim (last g f flows m) [ inl a ↦ h g a k | inr e ↦ not_own f (subst (λ z. Beats z f) e b) ];
  }

  -- one that doesn't beat the best
  pub best_stays : (flows : List Flow) (best f : Flow) → IsBest flows table regs packet best → ¬ Beats f best → IsBest (flows ++ f ∷ []) table regs packet best
  best_stays flows best f h no_better = record {
    held = among_left best flows (f ∷ []) h.held;
    matching = h.matching;
    unbeaten = λ g m k b. elim (last g f flows m) [ inl a ↦ h.unbeaten g a k b | inr e ↦ no_better (subst (λ z. Beats z best) e b) ];
  }

  -- one that does
  pub best_next : (flows : List Flow) (best f : Flow) → IsBest flows table regs packet best → Matches f table regs packet → Beats f best → IsBest (flows ++ f ∷ []) table regs packet f
  best_next flows best f h match better = record {
    held = among_right f flows (f ∷ []) here;
    matching = match;
    unbeaten = λ g m k b. elim (last g f flows m) [ inl a ↦ h.unbeaten g a k (through g f best b better) | inr e ↦ not_own f (subst (λ z. Beats z f) e b) ];
  }

  -- the answer so far, with one flow more
  pub answer_skips : (flows : List Flow) (best next : Option Flow) (f : Flow) → IsAnswer flows table regs packet best → ¬ Matches f table regs packet → next ≡ best → IsAnswer (flows ++ f ∷ []) table regs packet next
  answer_skips flows best next f h k n = subst (λ o. IsAnswer (flows ++ f ∷ []) table regs packet o) (sym n) (by best h)
    where
      by : (o : Option Flow) → IsAnswer flows table regs packet o → IsAnswer (flows ++ f ∷ []) table regs packet o
      by None a = none_skip flows f a k
      by (Some b) a = best_skip flows b f a k

  pub answer_first : (flows : List Flow) (best next : Option Flow) (f : Flow) → IsAnswer flows table regs packet best → best ≡ None → Matches f table regs packet → next ≡ Some f → IsAnswer (flows ++ f ∷ []) table regs packet next
  answer_first flows best next f h e k n =
      subst (λ o. IsAnswer (flows ++ f ∷ []) table regs packet o) (sym n) (best_first flows f (subst (λ o. IsAnswer flows table regs packet o) e h) k)

  pub answer_stays : (flows : List Flow) (best next : Option Flow) (held f : Flow) → IsAnswer flows table regs packet best → best ≡ Some held → ¬ Beats f held → next ≡ Some held → IsAnswer (flows ++ f ∷ []) table regs packet next
  answer_stays flows best next held f h e k n =
      subst (λ o. IsAnswer (flows ++ f ∷ []) table regs packet o) (sym n) (best_stays flows held f (subst (λ o. IsAnswer flows table regs packet o) e h) k)

  pub answer_next : (flows : List Flow) (best next : Option Flow) (held f : Flow) → IsAnswer flows table regs packet best → best ≡ Some held → Matches f table regs packet → Beats f held → next ≡ Some f → IsAnswer (flows ++ f ∷ []) table regs packet next
  answer_next flows best next held f h e m b n =
      subst (λ o. IsAnswer (flows ++ f ∷ []) table regs packet o) (sym n) (best_next flows held f (subst (λ o. IsAnswer flows table regs packet o) e h) m b)
