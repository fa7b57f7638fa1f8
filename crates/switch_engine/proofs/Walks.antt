-- Plain walks of several copies, one after another.
use Rattle.std.specs.Prelude.{◌≡◌, ℕ, List, [], ◌∷◌, ◌++◌, refl}
use Rattle.std.proofs.Common.{sym, ap, ◌∙◌, subst, append_assoc}
use Rattle.flow_table.specs.declared.flow.Flow.{Flow}
use Rattle.switch_engine.specs.PlainWalk.{Carried}
use Rattle.switch_engine.specs.declared.effect.Effect.{Effect}
use Rattle.switch_engine.specs.declared.effect.Entry.{Entry}
use Rattle.switch_engine.specs.declared.walk.Step.{Step}
use Rattle.switch_engine.specs.PlainWalk.{outcome, going_on}
use Rattle.switch_engine.specs.PlainWalk.{IsWalk, unmatched}
use Rattle.switch_engine.specs.PlainWalk.IsWalk.{over, ends, takes}

module _ {flows : List Flow} {entry : Entry} {now : ℕ} where
  -- a walk of the first copies, and then one of the others
  pub walk_append : (xs ys : List Carried) (steps : List Step) (effects : List Effect) (rest : List Step) (more : List Effect)
      → IsWalk flows entry now xs steps effects → IsWalk flows entry now ys rest more → IsWalk flows entry now (xs ++ ys) (steps ++ rest) (effects ++ more)
  walk_append _ ys _ _ rest more over w = w
  walk_append _ ys _ _ rest more (ends copy others steps after all none walk is) w =
      ends copy (others ++ ys) (steps ++ rest) (after ++ more) (all ++ more) none (walk_append others ys steps after rest more walk w) (ap (λ l. l ++ more) is ∙ append_assoc (unmatched entry copy) after more)
  walk_append _ ys _ _ rest more (takes copy others step steps after all here best walk is) w =
      let brought = outcome entry now step.flow.ops copy in
      takes copy (others ++ ys) step (steps ++ rest) (after ++ more) (all ++ more) here best
      (subst (λ copies. IsWalk flows entry now copies (steps ++ rest) (after ++ more)) (append_assoc (going_on brought) others ys) (walk_append (going_on brought ++ others) ys steps after rest more walk w))
      (ap (λ l. l ++ more) is ∙ append_assoc brought.effects after more)

-- what remains of a list without its first
rest_of : {X : Type 0} → List X → List X
rest_of [] = []
rest_of (x ∷ xs) = xs

first_of : {X : Type 0} → X → List X → X
first_of y [] = y
first_of y (x ∷ xs) = x

pub cons_first : {X : Type 0} {x y : X} {xs ys : List X} → x ∷ xs ≡ y ∷ ys → x ≡ y
unfolding first_of
cons_first {x = x} e = ap (first_of x) e

pub cons_rest : {X : Type 0} {x y : X} {xs ys : List X} → x ∷ xs ≡ y ∷ ys → xs ≡ ys
unfolding rest_of
cons_rest e = ap rest_of e

-- a walk of copies in two parts, one after the other
pub record Splits (flows : List Flow) (entry : Entry) (now : ℕ) (xs ys : List Carried) (steps : List Step) (effects : List Effect) : Type 0 where
  pub first_steps : List Step
  pub first_effects : List Effect
  pub other_steps : List Step
  pub other_effects : List Effect
  pub all_steps : steps ≡ first_steps ++ other_steps
  pub all_effects : effects ≡ first_effects ++ other_effects
  pub first_walk : IsWalk flows entry now xs first_steps first_effects
  pub other_walk : IsWalk flows entry now ys other_steps other_effects

module _ {flows : List Flow} {entry : Entry} {now : ℕ} where
  split : (copies xs ys : List Carried) (steps : List Step) (effects : List Effect) → IsWalk flows entry now copies steps effects → copies ≡ xs ++ ys → Splits flows entry now xs ys steps effects
  split copies [] ys steps effects w is = record {
    first_steps = [];
    first_effects = [];
    other_steps = steps;
    other_effects = effects;
    all_steps = refl;
    all_effects = refl;
    first_walk = over;
    other_walk = subst (λ l. IsWalk flows entry now l steps effects) is w;
  }
  split _ (x ∷ xs) ys _ _ over is = absurd (cc is)
  split _ (x ∷ xs) ys _ _ (ends copy others steps after all none walk same) is =
      let r = split others xs ys steps after walk (cons_rest is) in
      record {
        first_steps = r.first_steps;
        first_effects = unmatched entry copy ++ r.first_effects;
        other_steps = r.other_steps;
        other_effects = r.other_effects;
        all_steps = r.all_steps;
        all_effects = same ∙ ap (λ l. unmatched entry copy ++ l) r.all_effects ∙ sym (append_assoc (unmatched entry copy) r.first_effects r.other_effects);
        first_walk = subst (λ c. IsWalk flows entry now (c ∷ xs) r.first_steps (unmatched entry copy ++ r.first_effects)) (cons_first is)
            (ends copy xs r.first_steps r.first_effects (unmatched entry copy ++ r.first_effects) none r.first_walk refl);
        other_walk = r.other_walk;
      }
  split _ (x ∷ xs) ys _ _ (takes copy others step steps after all here best walk same) is =
      let brought = outcome entry now step.flow.ops copy in
      let left : going_on brought ++ others ≡ (going_on brought ++ xs) ++ ys = ap (λ l. going_on brought ++ l) (cons_rest is) ∙ sym (append_assoc (going_on brought) xs ys) in
      let r = split (going_on brought ++ others) (going_on brought ++ xs) ys steps after walk left in
      record {
        first_steps = step ∷ r.first_steps;
        first_effects = brought.effects ++ r.first_effects;
        other_steps = r.other_steps;
        other_effects = r.other_effects;
        all_steps = ap (λ l. step ∷ l) r.all_steps;
        all_effects = same ∙ ap (λ l. brought.effects ++ l) r.all_effects ∙ sym (append_assoc brought.effects r.first_effects r.other_effects);
        first_walk = subst (λ c. IsWalk flows entry now (c ∷ xs) (step ∷ r.first_steps) (brought.effects ++ r.first_effects)) (cons_first is)
            (takes copy xs step r.first_steps r.first_effects (brought.effects ++ r.first_effects) here best r.first_walk refl);
        other_walk = r.other_walk;
      }

  -- a walk of copies is one of the first of them, and then one of the others
  pub walk_split : (xs ys : List Carried) (steps : List Step) (effects : List Effect) → IsWalk flows entry now (xs ++ ys) steps effects → Splits flows entry now xs ys steps effects
  walk_split xs ys steps effects w = split (xs ++ ys) xs ys steps effects w refl
