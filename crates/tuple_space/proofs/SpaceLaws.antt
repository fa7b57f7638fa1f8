-- Laws of changes by one flow.
use Rattle.std.specs.Prelude.{◌≡◌, ◌⊎◌, ◌↔◌, ℕ, List, refl}
use mathlib.Core.Path.{sym, ap, subst, ◌∙◌}
use mathlib.Core.Logic.{inl, inr}
use Rattle.ovn_base.specs.lists.Among.{Among}
use Rattle.flow_table.specs.declared.flow.Flow.{Flow}
use Rattle.tuple_space.specs.declared.mask.Mask.{Mask}
use Rattle.tuple_space.specs.declared.turn.Turn.{Turn}
use Rattle.tuple_space.specs.Masks.{cube_mask}
use Rattle.tuple_space.specs.Bunches.{Bunch, flows_in, flows_under, AreBunches}
use Rattle.tuple_space.specs.Turns.{HasTurn, turns_of}
use Rattle.tuple_space.specs.Space.{mask_number, key_in, IsServed, AreFiled}
use Rattle.tuple_space.proofs.BunchLaws.{under_in, in_under}

module _ (masks : List Mask) (turns : List (ℕ × List Turn)) (old new : List (List ℕ × Bunch)) (filed : AreFiled masks turns old) (law : AreBunches old) (still : AreBunches new) (flow : Flow) (key : List ℕ) (is : key ≡ key_in masks flow) where
  pub kept_all : ((k : List ℕ) (f : Flow) → Among f (flows_under new k) ↔ (Among f (flows_under old k) × ¬ ((k ≡ key) × (f ≡ flow)))) → (f : Flow) → Among f (flows_in new) ↔ (Among f (flows_in old) × ¬ (f ≡ flow))
  kept_all kept f = (
    λ m.
        let r = in_under new still.keys f m in
        let a = (kept r.0 f).0 r.1 in
        (under_in old r.0 f a.0, λ e. a.1 ((filed r.0 f a.0).0 ∙ ap (λ g. key_in masks g) e ∙ sym is, e)),
    λ p. let r = in_under old law.keys f p.0 in under_in new r.0 f ((kept r.0 f).1 (r.1, λ q. p.1 q.1)),
  )

  module _ (held : (k : List ℕ) (f : Flow) → Among f (flows_under new k) ↔ (((k ≡ key) × (f ≡ flow)) ⊎ Among f (flows_under old k))) where
    pub held_all : (f : Flow) → Among f (flows_in new) ↔ ((f ≡ flow) ⊎ Among f (flows_in old))
    held_all f = (
      λ m. let r = in_under new still.keys f m in elim ((held r.0 f).0 r.1) [ inl e ↦ inl e.1 | inr a ↦ inr (under_in old r.0 f a) ],
      λ m. elim m [ inl e ↦ under_in new key f ((held key f).1 (inl (refl, e))) | inr a ↦ let r = in_under old law.keys f a in under_in new r.0 f ((held r.0 f).1 (inr r.1)) ],
    )

    pub filed_more : (after : List (ℕ × List Turn)) → ((k n p r : ℕ) → HasTurn (turns_of turns k) n p r → HasTurn (turns_of after k) n p r) → IsServed masks after flow flow.priority flow.rank → AreFiled masks after new
    filed_more after kept served k f m =
        elim ((held k f).0 m) [
          | inl e ↦ (e.0 ∙ is ∙ ap (λ g. key_in masks g) (sym e.1), subst (λ g. IsServed masks after g g.priority g.rank) (sym e.1) served)
          | inr a ↦ let r = filed k f a in (r.0, record { known = r.1.known; turn = kept f.table (mask_number masks (cube_mask f.cube)) f.priority f.rank r.1.turn })
        ]
