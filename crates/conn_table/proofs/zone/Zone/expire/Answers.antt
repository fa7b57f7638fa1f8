use Rattle.std.proofs.Common.{ap, subst, sym}
use Rattle.std.specs.Prelude.{not}
use Rattle.ovn_base.specs.lists.Among.{Among}
use Rattle.ovn_base.proofs.AmongLaws.{among_filter}
use Rattle.conn_table.specs.declared.connection.Entry.{Entry}
use Rattle.conn_table.specs.declared.tuple.Tuple.{Tuple}
use Rattle.conn_table.specs.Connections.{is_idle, IsZone}
use Rattle.conn_table.proofs.HeldPortsLaws.{learnt_expired}
use Rattle.conn_table.proofs.ZoneLaws.{IsZone-filtered}
use Rattle.conn_table.proofs.zone.Zone.expire.Goals as goal

pub invariant_of-self : goal.invariant_of-self
invariant_of-self c =
    let list = c.self.inside.entries.entries in
    let after = c.keep_active.new.entries.entries in
    let zone : IsZone after c.keep_of.new.forwards.entries =
    IsZone-filtered (λ (e : Entry). not (is_idle c.args.now e)) list after c.self.inside.forwards.entries c.keep_of.new.forwards.entries
    c.self.invariant.0 c.keep_of.ensures.in_order c.keep_active.ensures.kept c.keep_active.ensures.in_order c.keep_active.ensures.fewer c.keep_of.ensures.kept in (
      zone,
      learnt_expired c.args.now list after c.self.inside.floors.entries c.self.inside.starts.entries c.forget_all_idle.new.floors.entries c.forget_all_idle.new.starts.entries c.self.invariant.0.law zone.law
          (λ t e m on. subst (λ l. Among (t, e) l) (sym c.keep_active.ensures.kept) (among_filter (λ (x : Tuple × Entry). not (is_idle c.args.now x.1)) (t, e) list m (ap (λ b. not b) on)))
          c.forget_all_idle.ensures.few c.forget_all_idle.ensures.all c.self.invariant.1,
    )
