-- Laws of changes.
use Rattle.std.specs.Prelude.{◌≡◌, ◌⊎◌, ◌↔◌, List, [], ◌∷◌, ◌++◌}
use mathlib.Core.Path.{sym, subst}
use mathlib.Core.Logic.{inl, inr}
use Rattle.ovn_base.specs.lists.Among.{Among}
use Rattle.ovn_base.specs.lists.Once.{EachOnce}
use Rattle.ovn_base.specs.declared.delta.Delta.{Delta}
use Rattle.ovn_base.proofs.AmongLaws.{among_append, among_cases, among_left, among_right, among_none}
use Rattle.flow_table.specs.declared.flow.Flow.{Flow}
use Rattle.flow_table.specs.Change.{IsDeltaOf, IsReplaced}
use Rattle.flow_table.proofs.OnceLaws.{once_append}

-- the flows after a change of no flows are those that came
pub replaced_none : (delta : Delta Flow) (new : List Flow) → IsReplaced [] delta new → (f : Flow) → Among f new ↔ Among f delta.added
replaced_none delta new h f =
    (λ m. elim ((h f).0 m) [ inl a ↦ a | inr b ↦ absurd (among_none f b.0) ], λ m. (h f).1 (inl m))

-- the flows after a change by which none goes are those that were there and those that came
pub replaced_adding : (old : List Flow) (delta : Delta Flow) (new : List Flow) → delta.removed ≡ [] → IsReplaced old delta new → (f : Flow) → Among f new ↔ (Among f delta.added ⊎ Among f old)
replaced_adding old delta new e h f = (
  λ m. elim ((h f).0 m) [ inl a ↦ inl a | inr b ↦ inr b.0 ],
  λ m. elim m [ inl a ↦ (h f).1 (inl a) | inr b ↦ (h f).1 (inr (b, λ r. among_none f (subst (λ l. Among f l) e r))) ],
)

-- the delta from no flows: what comes, each once
pub delta_of_none : (delta : Delta Flow) → EachOnce delta.added → IsDeltaOf [] delta
delta_of_none delta h = record { once = h; new = λ f a m. absurd (among_none f m) }

-- one flow comes, and is named among those that go: so the delta is one of any flows
pub delta_of_any : (flows : List Flow) (delta : Delta Flow) (f : Flow) → delta.added ≡ f ∷ [] → Among f delta.removed → IsDeltaOf flows delta
delta_of_any flows delta f comes goes = record {
  once = subst EachOnce (sym comes) (λ m. among_none f m, tt);
  new = λ g a m. elim (among_cases g f [] (subst (λ l. Among g l) comes a)) [ inl e ↦ subst (λ x. Among x delta.removed) (sym e) goes | inr n ↦ absurd (among_none g n) ];
}

-- what stays and what comes make the new flows, each once
pub replaced_by : (old kept : List Flow) (delta : Delta Flow) → EachOnce kept → IsDeltaOf old delta → ((f : Flow) → Among f kept ↔ (Among f old × ¬ Among f delta.removed)) → IsReplaced old delta (kept ++ delta.added) × EachOnce (kept ++ delta.added)
replaced_by old kept delta once d stays = (
  λ f. (
    λ m. elim (among_append f kept delta.added m) [ inl a ↦ inr ((stays f).0 a) | inr b ↦ inl b ],
    λ m. elim m [ inl a ↦ among_right f kept delta.added a | inr b ↦ among_left f kept delta.added ((stays f).1 b) ],
  ),
  once_append kept delta.added once d.once (λ f m n. let s = (stays f).0 m in s.1 (d.new f n s.0)),
)
