use Rattle.std.proofs.Common.{Some, sym, ap, ◌∙◌}
use Rattle.ovn_base.proofs.TakenBytes.{took-front}
use Rattle.ovn_base.proofs.memory_source.SureSourceSource.take.Goals as goal

pub returns-clause-bytes : goal.returns-clause-bytes
returns-clause-bytes c =
    let count = rw c.deref.ensures.value at c.copy_front-count.ensures.count in
    let bytes = rw c.deref.ensures.value at c.copy_front-count.ensures.bytes in
    ap Some (sym c.self.view_is ∙ took-front _ _ _ c.self.inside.start _ count bytes)
