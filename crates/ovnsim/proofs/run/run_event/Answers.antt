use Rattle.ovnsim.specs.declared.run.Stop.TheVariants.{WriteFault}
use Rattle.ovnsim.specs.Taking.{GainsCut}
use Rattle.ovnsim.proofs.OneEvent.{passed_on, was_cut}
use Rattle.ovnsim.proofs.run.run_event.Goals as goal

pub returns-in_err-give-clause-stopped : goal.returns-in_err-give-clause-stopped
returns-in_err-give-clause-stopped g c =
    let cut : GainsCut _ _ _ _ = record {
      is_accepted = c.in_ok-is_accepted.is_accepted;
      new = c.take_event.new.world;
      text = c.take_event.new.text.items;
      taken = c.in_ok-is_accepted.ensures;
      cut = was_cut _ _ _ _ c.as_slice.ensures.value c.in_err-give.ensures.front;
    } in
    passed_on c.from_residual-in_err-give.result WriteFault _ c.from_residual-in_err-give.ensures.1 cut
