use Rattle.std.proofs.Common.{◌≡◌, ◌+◌, ◌++◌, ap, subst, sym, ◌∙◌}
use Rattle.event_lines.specs.Lines.{refused_line}
use Rattle.net_model.specs.State.{event_count}
use Rattle.world_core.specs.StepParts.{IsTaken}
use Rattle.world_core.specs.WorldView.{WorldView}
use Rattle.world_core.proofs.Refusal.{refused_taken, refused_world}
use Rattle.world_core.proofs.world.World.take.Goals as goal

pub returns-in_ok-refuse-in-Err-Refused : goal.returns-in_ok-refuse-in-Err-Refused
returns-in_ok-refuse-in-Err-Refused c =
    let old = c.args.self.now in
    let tried = rw c.in-Err-Refused.field-0-is at c.in-Err-Refused.ensures in
    let refused = c.in_ok-refuse-in-Err-Refused.ensures in
    let kept : c.refuse.new.self ≡ refused_world old = refused.kept ∙ ap (λ (w : WorldView). refused_world w) tried.1 in (
      record { first = tried.0; kept = kept; text = refused.text ∙ ap (λ (w : WorldView). c.args.text.now.items ++ refused_line (event_count w.state + 1) c.in-Err-Refused.why) tried.1 },
      subst (λ w. IsTaken w) (sym kept) (refused_taken old c.requires.taken c.requires.room),
    )
