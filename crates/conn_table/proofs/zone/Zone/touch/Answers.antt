use Rattle.std.proofs.Common.{refl, subst, sym}
use Rattle.conn_table.specs.Connections.{ConnectionList, changed, touched, IsZone}
use Rattle.conn_table.specs.Tracking.{NamesEntry}
use Rattle.conn_table.specs.HeldPorts.{AreLearnt}
use Rattle.conn_table.proofs.HeldPortsLaws.{learnt_kept}
use Rattle.conn_table.proofs.ZoneLaws.{entries_by_change, IsZone-by_change, names_by_change}
use Rattle.conn_table.proofs.zone.Zone.touch.Goals as goal

pub invariant_of-self : goal.invariant_of-self
invariant_of-self c =
    let list = c.self.inside.entries.entries in
    let after = changed (touched c.args.now) c.args.slot.forward list in
    let zone : IsZone after c.self.inside.forwards.entries = IsZone-by_change (touched c.args.now) (λ e. refl) (λ e. refl) list c.args.slot.forward c.self.inside.forwards.entries c.self.invariant.0 in (
      subst (λ (l : ConnectionList). IsZone l c.self.inside.forwards.entries) (sym c.set_used.ensures) zone,
      subst (λ (l : ConnectionList). AreLearnt l c.self.inside.floors.entries c.self.inside.starts.entries) (sym c.set_used.ensures)
          (learnt_kept list after c.self.inside.floors.entries c.self.inside.starts.entries c.self.invariant.0.law zone.law
          (entries_by_change (touched c.args.now) (λ e. refl) (λ e. refl) list c.args.slot.forward c.self.invariant.0.law.in_order) c.self.invariant.1),
    )

pub returns-clause-kept : goal.returns-clause-kept
returns-clause-kept c = λ t state n.
    subst (λ (l : ConnectionList). NamesEntry l t state) (sym c.set_used.ensures)
    (names_by_change (touched c.args.now) (λ e. refl) (λ e. refl) c.self.inside.entries.entries c.args.slot.forward t state (subst (λ (l : ConnectionList). NamesEntry l t state) (sym c.self.view_is) n))
