-- What stays in front of what comes.
use Rattle.std.specs.Prelude.{◌≡◌, List, [], ◌++◌, Result, Ok, Err, OnErr, OnOk}
use Rattle.std.proofs.Common.{sym, append-nil}
use Rattle.switch_engine.specs.declared.effect.Effect.{Effect}
use Rattle.switch_engine.specs.declared.walk.RunOut.{RunOut}
use Rattle.switch_engine.specs.declared.walk.Step.{Step}
use Rattle.switch_engine.specs.Advance.{Extends}
use Rattle.switch_engine.specs.Growth.{KeepsRun}

-- what an error leaves, by what it leaves otherwise said
pub on_err : {T E : Type 0} {P Q : Type 0} (r : Result T E) → (P → Q) → OnErr r P → OnErr r Q
on_err (Ok x) f h = tt
on_err (Err x) f h = f h

-- what an Ok leaves, by what it leaves otherwise said
pub on_ok : {T E : Type 0} {P Q : Type 0} (r : Result T E) → (P → Q) → OnOk r P → OnOk r Q
on_ok (Ok x) f h = f h
on_ok (Err x) f h = tt

-- nothing came
pub keeps_all : (out : RunOut) → KeepsRun out out
keeps_all out = record { more_steps = []; more_effects = []; all_steps = sym (append-nil out.walk); all_effects = sym (append-nil out.effects) }

-- some effects came, and some steps
pub keeps_both : (out : RunOut) (steps more : List Step) (effects : List Effect) → steps ≡ out.walk ++ more → Extends out.effects effects → KeepsRun out (record { effects = effects; walk = steps })
keeps_both out steps more effects is x = record { more_steps = more; more_effects = x.more; all_steps = is; all_effects = x.all_effects }

pub keeps_steps : (out : RunOut) (effects : List Effect) → Extends out.effects effects → KeepsRun out (record { effects = effects; walk = out.walk })
keeps_steps out effects x = keeps_both out out.walk [] effects (sym (append-nil out.walk)) x
