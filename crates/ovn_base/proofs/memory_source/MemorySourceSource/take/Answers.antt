use Rattle.std.proofs.Common.{Some, sym, ap, ◌∙◌}
use Rattle.ovn_base.specs.streams.MemorySource.{SourceState}
use Rattle.ovn_base.proofs.TakenBytes.{took-front}
use Rattle.ovn_base.proofs.memory_source.MemorySourceSource.take.Goals as goal

pub returns-clause-bytes : goal.returns-clause-bytes
returns-clause-bytes c =
    let left = ap (λ (v : SourceState). v.left) c.self.view_is in
    let count = rw c.deref.ensures.value at c.copy_front-count.ensures.count in
    let bytes = rw c.deref.ensures.value at c.copy_front-count.ensures.bytes in
    ap Some (sym left ∙ took-front _ _ _ c.self.inside.start _ count bytes)
