use Rattle.std.specs.Prelude.{◌≡◌, ◌++◌, nat_lt, false, cond, List, [], ◌∷◌}
use Rattle.std.proofs.Common.{ap}
use Rattle.std.proofs.lemmas.Bool.{le-ltb}
use Rattle.ovn_base.specs.declared.limits.TheConstants.{MAX_HOPS}
use Rattle.inet_packet.specs.declared.regs.Regs.{Regs}
use Rattle.flow_table.specs.declared.flow.Cause.TheVariants.{HopLimit}
use Rattle.switch_engine.specs.declared.actions.Turn.TheVariants.{Leaves, Ends}
use Rattle.switch_engine.specs.declared.carried.Carried.{Carried}
use Rattle.switch_engine.specs.declared.effect.Effect.{Effect}
use Rattle.switch_engine.specs.Actions.{drop_at, patched}
use Rattle.switch_engine.specs.Acts.{turns, drops}
use Rattle.switch_engine.specs.Advance.{having, ActionDoes}
use Rattle.switch_engine.specs.Outcome.{patches}
use Rattle.switch_engine.specs.Zones.{ZoneLists}
use Rattle.switch_engine.proofs.Doings.{does_drop}
use Rattle.switch_engine.proofs.actions.patch.Goals as goal

-- it has passed too often
does_stop : (regs : Regs) (copy : Carried) (zones : ZoneLists) {effects all : List Effect} → nat_lt copy.passes MAX_HOPS ≡ false → all ≡ effects ++ drop_at copy.table HopLimit copy.regs ∷ [] → ActionDoes (patches regs) Ends copy copy zones zones effects all []
does_stop regs copy zones stop told =
    does_drop HopLimit told (λ rest. ap (λ b. cond b (turns Leaves (record (having copy zones [] rest) { copy = patched regs copy })) (drops HopLimit (having copy zones [] rest))) stop)

pub returns-then-copy-ge-MAX_HOPS-clause-does : goal.returns-then-copy-ge-MAX_HOPS-clause-does
returns-then-copy-ge-MAX_HOPS-clause-does c = λ zones. does_stop c.args.regs c.args.copy.now zones (le-ltb c.args.copy.now.passes MAX_HOPS c.if-copy-ge-MAX_HOPS.true) c.in_ok-drop_copy.ensures.effects
