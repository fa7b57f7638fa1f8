use Rattle.std.proofs.Common.{◌≡◌, subst, sym, ◌∙◌}
use Rattle.std.specs.Prelude.{Some}
use Rattle.conn_table.specs.declared.connection.State.TheVariants as states
use Rattle.conn_table.specs.Connections.{ConnectionList}
use Rattle.conn_table.specs.Tracking.{seen_tuple, state_of}
use Rattle.conn_table.proofs.FindLaws.{seen_forward}
use Rattle.conn_table.proofs.zone.Zone.state_of.Goals as goal

pub returns-then-contains_key : goal.returns-then-contains_key
returns-then-contains_key c =
    subst (λ (l : ConnectionList). states.Forward (record { forward = c.args.tuple.now }) ≡ state_of (seen_tuple l (Some c.args.tuple.now))) c.self.view_is
    (seen_forward c.self.inside.entries.entries c.args.tuple.now c.self.invariant.0.law (sym c.contains_key.ensures ∙ c.if-contains_key.true))
