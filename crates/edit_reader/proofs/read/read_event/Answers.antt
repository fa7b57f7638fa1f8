use Rattle.edit_reader.specs.Events.{reading_of}
use Rattle.edit_reader.proofs.Lines.{is_text}
use Rattle.edit_reader.proofs.read.read_event.Goals as goal

pub returns-in-Ok : goal.returns-in-Ok
unfolding reading_of
returns-in-Ok c = rw (is_text c.args.line.now _ c.in-Ok.ensures.ok.0 c.in-Ok.ensures.ok.1) c.event_of.ensures
