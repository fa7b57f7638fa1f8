-- Laws of flows that fall.
use Rattle.std.specs.Prelude.{◌≡◌, ◌<◌, ◌↔◌, ℕ, Bool, true, false, not, filter, List, drop, length, refl}
use Rattle.std.proofs.Common.{get_or}
use mathlib.Core.Path.{sym, subst}
use mathlib.Core.Logic.{inl, inr}
use native.Mathlib.Omega.{arith}
use Rattle.std.proofs.lemmas.Bool.{false≢true}
use Rattle.ovn_base.specs.lists.Among.{Among}
use Rattle.ovn_base.proofs.AmongLaws.{among_filter, filter_among}
use Rattle.flow_table.specs.declared.flow.Flow.{Flow}
use Rattle.flow_table.specs.Matching.{Beats}
use Rattle.tuple_space.specs.Bunches.{IsFalling}
use Rattle.tuple_space.proofs.RankLaws.{ranked_from}

-- no flow beats one that beats it
pub not_mutual : (f g : Flow) → Beats f g → ¬ Beats g f
not_mutual f g (inl a) (inl b) = absurd (omega (arith, a, b))
not_mutual f g (inl a) (inr b) = absurd (omega (arith, a, b.0))
not_mutual f g (inr a) (inl b) = absurd (omega (arith, a.0, b))
not_mutual f g (inr a) (inr b) = absurd (omega (arith, a.1, b.1))

-- what doesn't beat a flow beats none that beats that flow
pub not_through : (f g h : Flow) → Beats f g → ¬ Beats h g → ¬ Beats h f
not_through f g h a n b = n (by a b)
  where
    by : Beats f g → Beats h f → Beats h g
    by (inl a) (inl b) = inl (omega (arith, a, b))
    by (inl a) (inr b) = inl (omega (arith, a, b.0))
    by (inr a) (inl b) = inl (omega (arith, a.0, b))
    by (inr a) (inr b) = inr (let e : g.priority ≡ h.priority = omega (arith, a.0, b.0) in e, omega (arith, a.1, b.1))

-- a flow that beats one of those that fall is beaten by none from there on
pub beaten_behind : (flow : Flow) (flows : List Flow) (i : ℕ) (f : Flow) → i < length flows → f ≡ get_or flows i f → Beats flow f → IsFalling flows → (g : Flow) → Among g (drop i flows) → ¬ Beats g flow
beaten_behind flow flows i f l is beats falls g m =
    elim (ranked_from (λ x y. ¬ Beats y x) flows i f f l is falls g m) [
      | inl e ↦ subst (λ h. ¬ Beats h flow) (sym e) (not_mutual flow f beats)
      | inr n ↦ not_through flow f g beats n
    ]

-- the flows but one, by a test that answers for sameness
pub kept_others : (E : Flow → Flow → Bool) → ((x y : Flow) → (E x y ≡ true) ↔ (x ≡ y)) → (flow : Flow) (flows : List Flow) (f : Flow) → Among f (filter (λ z. not (E z flow)) flows) ↔ (Among f flows × ¬ (f ≡ flow))
kept_others E exact flow flows f = (
  λ m. let r = filter_among (λ z. not (E z flow)) f flows m in (r.0, λ e. not_both (E f flow) r.1 ((exact f flow).1 e)),
  λ p. among_filter (λ z. not (E z flow)) f flows p.0 (none_such (E f flow) (λ h. p.1 ((exact f flow).0 h))),
)
  where
    not_both : (b : Bool) → not b ≡ true → b ≡ true → ⊥
    not_both true h e = false≢true h
    not_both false h e = false≢true e

    none_such : (b : Bool) → ¬ (b ≡ true) → not b ≡ true
    none_such true h = absurd (h refl)
    none_such false h = refl
