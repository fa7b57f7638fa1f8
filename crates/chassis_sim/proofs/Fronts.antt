-- Lists that stand at the front of others.
use Rattle.std.specs.Prelude.{◌≡◌, List, [], ◌∷◌, ◌++◌, Result, Ok, Err, OnOk, OnErr, IfOk}
use Rattle.std.proofs.Common.{sym, ◌∙◌, append-nil}
use Rattle.chassis_sim.specs.declared.out.SimOut.{SimOut}
use Rattle.chassis_sim.specs.Passing.{IsFront, KeepsOut}

module _ {X E : Type 0} where
  -- the list stands at the front of what a push makes of it
  pub pushed_front : (result : Result (Unit {0}) E) (old new : List X) (x : X) → OnOk result (new ≡ old ++ x ∷ []) → OnErr result (new ≡ old) → IsFront old new
  pushed_front (Ok done) old new x ok err = record { rest = x ∷ []; is = ok }
  pushed_front (Err fault) old new x ok err = record { rest = []; is = err ∙ sym (append-nil old) }

-- what follows at `Ok`
pub ok_map : {X E P Q : Type 0} (result : Result X E) → (P → Q) → OnOk result P → OnOk result Q
ok_map (Ok x) f p = f p
ok_map (Err e) f p = tt

-- what follows of a value at `Ok`
pub if_ok_map : {X E : Type 0} {P Q : X → Type 0} (result : Result X E) → ((x : X) → P x → Q x) → IfOk result P → IfOk result Q
if_ok_map (Ok x) f p = f x p
if_ok_map (Err e) f p = tt

-- what holds of a value at `Ok`, and what else does
pub if_ok_both : {X E : Type 0} (P Q : X → Type 0) (result : Result X E) → IfOk result P → IfOk result Q → IfOk result (λ x. P x × Q x)
if_ok_both P Q (Ok x) p q = (p, q)
if_ok_both P Q (Err e) p q = tt

-- what was told stands at its own front
pub keeps_out : (out : SimOut) → KeepsOut out out
keeps_out out = record { effects = record { rest = []; is = sym (append-nil out.effects) }; walks = record { rest = []; is = sym (append-nil out.walks) } }
