use Rattle.std.proofs.Common.{◌∷◌, sym, subst, ◌∙◌}
use Rattle.tuple_space.specs.Masks.{cube_mask, values_wanted}
use Rattle.tuple_space.specs.Turns.{HasTurn, turns_of}
use Rattle.tuple_space.specs.Sieving.{IsLetIn, bit_of}
use Rattle.tuple_space.specs.Space.{mask_number}
use Rattle.tuple_space.proofs.space.TupleSpace.serve.Goals as goal

pub invariant_of-self : goal.invariant_of-self
invariant_of-self c = record {
  filed = λ key f m.
      let k = c.self.invariant.filed key f m in
      let s = c.number_for.ensures.kept (cube_mask f.cube) k.1.known in (
        k.0 ∙ (λ i. f.table ∷ sym s.0 i ∷ values_wanted f.cube),
        record { known = s.1; turn = subst (λ n. HasTurn (turns_of c.self.inside.turns f.table) n f.priority f.rank) (sym s.0) k.1.turn },
      );
  let_through = λ key f m xs fit.
      let s = c.number_for.ensures.kept (cube_mask f.cube) (c.self.invariant.filed key f m).1.known in
      subst (λ n. IsLetIn c.self.inside.sieves f.table xs (bit_of n)) (sym s.0) (c.self.invariant.let_through key f m xs fit);
  few = c.number_for.ensures.few c.self.invariant.few;
}

pub invariant_of-self-2 : goal.invariant_of-self-2
invariant_of-self-2 c = record {
  filed = λ key f m.
      let k = c.self.invariant.filed key f m in
      let s = c.number_for.ensures.kept (cube_mask f.cube) k.1.known in (
        k.0 ∙ (λ i. f.table ∷ sym s.0 i ∷ values_wanted f.cube),
        record { known = s.1; turn = c.add.ensures.kept f.table (mask_number c.number_for.new.self (cube_mask f.cube)) f.priority f.rank (subst (λ n. HasTurn (turns_of c.self.inside.turns f.table) n f.priority f.rank) (sym s.0) k.1.turn) },
      );
  let_through = λ key f m xs fit.
      let s = c.number_for.ensures.kept (cube_mask f.cube) (c.self.invariant.filed key f m).1.known in
      subst (λ n. IsLetIn c.self.inside.sieves f.table xs (bit_of n)) (sym s.0) (c.self.invariant.let_through key f m xs fit);
  few = c.number_for.ensures.few c.self.invariant.few;
}
