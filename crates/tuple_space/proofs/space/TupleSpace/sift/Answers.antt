use Rattle.tuple_space.proofs.SieveLaws.{set_through}
use Rattle.tuple_space.proofs.space.TupleSpace.sift.Goals as goal

pub invariant_of-self : goal.invariant_of-self
invariant_of-self c = record {
  filed = c.self.invariant.filed;
  let_through = set_through c.set.result c.self.inside.masks c.self.inside.sieves c.set.new.self c.self.inside.buckets c.args.table c.note_all.new.sieve c.set.ensures.ok c.set.ensures.err c.self.invariant.let_through
      c.note_all.ensures;
  few = c.self.invariant.few;
}
