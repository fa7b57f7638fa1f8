use Rattle.std.proofs.Common.{◌≡◌, ◌+◌, length, refl, sym, subst, ◌∙◌}
use Rattle.std.specs.Prelude.{None, Option, is_some, if◌then◌else◌}
use Rattle.conn_table.specs.declared.connection.Entry.{Entry}
use Rattle.conn_table.specs.Connections.{ConnectionList, CanCommit, IsZone}
use Rattle.conn_table.specs.HeldPorts.{AreLearnt}
use Rattle.conn_table.proofs.ZoneLaws.{added_kept, IsZone-added, IsZone-restored}
use Rattle.conn_table.proofs.HeldPortsLaws.{learnt_kept}
use Rattle.conn_table.proofs.zone.Zone.add.Goals as goal

pub invariant_of-self-in-Ok : goal.invariant_of-self-in-Ok
invariant_of-self-in-Ok c =
    let list = c.self.inside.entries.entries in
    let after = c.insert-2.new.self.entries in
    let can : CanCommit list c.args.forward c.args.reply = subst (λ (l : ConnectionList). CanCommit l c.args.forward c.args.reply) (sym c.self.view_is) c.requires in
    let fresh : c.in-Ok.field-0 ≡ None = c.in-Ok.ensures.old ∙ can.no_entry in
    let longer : length after ≡ length list + 1 = subst (λ (o : Option Entry). length after ≡ length list + (if is_some o then 0 else 1)) fresh c.in-Ok.ensures.len in
    let zone : IsZone after c.insert.new.self.entries =
    IsZone-added list after c.self.inside.forwards.entries c.insert.new.self.entries c.args.forward c.args.reply c.args.now c.self.invariant.0 can
    c.in-Ok.ensures.ordered c.in-Ok.ensures.updates.0 c.in_ok-insert.ensures.updates.0 longer in (
      zone,
      learnt_kept list after c.self.inside.floors.entries c.self.inside.starts.entries c.self.invariant.0.law zone.law
          (λ t e m. (
            e,
            added_kept list after c.self.inside.forwards.entries c.insert.new.self.entries c.args.forward c.args.reply c.args.now c.self.invariant.0 can
                c.in-Ok.ensures.ordered c.in-Ok.ensures.updates.0 c.in_ok-insert.ensures.updates.0 longer t e m,
            refl,
            refl,
          ))
          c.self.invariant.1,
    )

pub invariant_of-self-in-Err : goal.invariant_of-self-in-Err
invariant_of-self-in-Err c =
    let list = c.self.inside.entries.entries in
    let can : CanCommit list c.args.forward c.args.reply = subst (λ (l : ConnectionList). CanCommit l c.args.forward c.args.reply) (sym c.self.view_is) c.requires in (
      subst (λ (l : ConnectionList). IsZone l c.remove.new.self.entries) (sym c.in-Err.ensures.err)
          (IsZone-restored list c.self.inside.forwards.entries c.insert.new.self.entries c.remove.new.self.entries c.args.forward c.args.reply c.self.invariant.0 can
          c.in_ok-insert.ensures.updates.0 c.remove.ensures.updates.0),
      subst (λ (l : ConnectionList). AreLearnt l c.self.inside.floors.entries c.self.inside.starts.entries) (sym c.in-Err.ensures.err) c.self.invariant.1,
    )
