use Rattle.std.proofs.Common.{subst}
use Rattle.std.specs.Prelude.{OnOk}
use Rattle.switch_engine.specs.Growth.{GainsWalk}
use Rattle.switch_engine.specs.Outcome.{any_legal}
use Rattle.switch_engine.specs.Zones.{HeldZones}
use Rattle.switch_engine.proofs.Choices.{gains_legally}
use Rattle.switch_engine.proofs.Fronts.{on_ok}
use Rattle.switch_engine.proofs.engine.run.Goals as goal

pub returns-clause-ok : goal.returns-clause-ok
returns-clause-ok g c =
    subst (λ (held : HeldZones). OnOk c.walk.result (GainsWalk any_legal (g.T.Lookup.flows c.args.tables.now) c.args.entry.now c.args.now c.args.packet held.zones c.walk.new.zones.entries c.args.out.now c.walk.new.out)) c.zones.view_is
    (on_ok c.walk.result gains_legally c.walk.ensures.ok)
