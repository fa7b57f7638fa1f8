use Rattle.std.specs.Prelude.{Bool, None, Some, cond}
use Rattle.std.proofs.Common.{sym, ap, ◌∙◌}
use Rattle.nb_records.specs.Switches.{is_named}
use Rattle.ovn_base.specs.declared.name.Name.{Name}
use Rattle.world_setup.specs.Homecoming.{chassis_among}
use Rattle.world_setup.proofs.homes.home_among.Goals as goal
use Rattle.world_setup.proofs.homes.home_among.Goals.{in_default-via-in-Some+else-is_named, in_default-via-in_default}

pub returns-in_default : goal.returns-in_default
returns-in_default c = elim c.in_default.branch [
  | in_default-via-in-Some+else-is_named w ↦
      ap (λ (b : Bool). cond b (Some w.in-Some.home) None) w.if-is_named.ensures ∙ ap (λ (home : Name). cond (is_named home c.args.chassis.now) (Some w.in-Some.home) None) w.in-Some.home-is
      ∙ sym (ap (chassis_among c.args.chassis.now) w.in-Some.is)
  | in_default-via-in_default w ↦ sym (ap (chassis_among c.args.chassis.now) w.in_default.is)
]
