use Rattle.nb_edits.proofs.TouchedLaws.{touched_after, touched_before}
use Rattle.nb_edits.proofs.edit.plan.Goals as goal

pub new_owners-requires : goal.new_owners-requires
new_owners-requires c = touched_after _ _ _ _ _ c.args.ops.now c.args.number c.in_ok-after.ensures c.in_default.ensures.after c.in_default.ensures.touched

pub new_owners-requires-2 : goal.new_owners-requires-2
new_owners-requires-2 c = touched_before _ _ _ _ _ c.args.ops.now c.args.number c.in_ok-after.ensures c.in_default.ensures.after c.in_default.ensures.touched
