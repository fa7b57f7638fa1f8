use Rattle.std.proofs.Common.{◌≡◌, ◌⊎◌, ◌↔◌, sym, subst, ◌∙◌}
use mathlib.Core.Logic.{inl, inr}
use Rattle.ovn_base.specs.lists.Among.{Among}
use Rattle.flow_table.specs.declared.flow.Flow.{Flow}
use Rattle.tuple_space.specs.Masks.{cube_bits, cube_mask, AllFit}
use Rattle.tuple_space.specs.Bunches.{flows_in}
use Rattle.tuple_space.specs.Turns.{HasTurn, turns_of}
use Rattle.tuple_space.specs.Sieving.{IsLetIn, bit_of}
use Rattle.tuple_space.specs.Space.{mask_number, key_in, IsServed, IsLetThrough}
use Rattle.tuple_space.proofs.BunchLaws.{under_in}
use Rattle.tuple_space.proofs.SpaceLaws.{held_all, filed_more}
use Rattle.tuple_space.proofs.space.TupleSpace.put.Goals as goal

pub put-requires-clause-fresh : goal.put-requires-clause-fresh
put-requires-clause-fresh c = λ m. c.requires.fresh (subst (λ v. Among c.args.flow (flows_in v.bunches)) c.self.view_is (under_in c.self.inside.buckets c.as_slice.result.now c.args.flow m))

pub invariant_of-self : goal.invariant_of-self
invariant_of-self c =
    let ms = c.self.inside.masks in
    let is : c.as_slice.result.now ≡ key_in ms c.args.flow = c.as_slice.ensures.value ∙ c.write_key-number.ensures.key in
    let served = subst (λ v. IsServed v.masks v.turns c.args.flow 0 0) (sym c.self.view_is) c.requires.served in
    let number : c.write_key-number.result ≡ mask_number ms (cube_mask c.args.flow.cube) = c.write_key-number.ensures.number in
    let row : Flow = c.get-row.result.now in
    record {
      filed = filed_more ms c.self.inside.turns c.self.inside.buckets c.put.new.self c.self.invariant.filed c.hold.ensures c.hold-2.ensures c.args.flow c.as_slice.result.now is c.put.ensures.held c.raise.new.self c.raise.ensures.kept
          (record { known = served.known; turn = subst (λ (r : Flow). HasTurn (turns_of c.raise.new.self r.table) (mask_number ms (cube_mask c.args.flow.cube)) r.priority r.rank) c.get-row.ensures (subst (λ n. HasTurn (turns_of c.raise.new.self row.table) n row.priority row.rank) number c.raise.ensures.has) });
      let_through = λ k f m.
          elim ((c.put.ensures.held k f).0 m) [
            | inl e ↦ subst (λ g. IsLetThrough ms c.note.new.self g) (sym e.1) (λ xs fit. subst (λ (r : Flow). IsLetIn c.note.new.self r.table xs (bit_of (mask_number ms (cube_mask c.args.flow.cube)))) c.get-row.ensures (subst (λ n. IsLetIn c.note.new.self row.table xs (bit_of n)) number (c.note.ensures.noted xs (subst (λ bs. AllFit bs xs) (sym c.bits_of.ensures) (subst (λ q. AllFit (cube_bits q) xs) (sym c.get.ensures) (subst (λ (r : Flow). AllFit (cube_bits r.cube) xs) (sym c.get-row.ensures) fit))))))
            | inr a ↦ λ xs fit. c.note.ensures.kept f.table xs (bit_of (mask_number ms (cube_mask f.cube))) (c.self.invariant.let_through k f a xs fit)
          ];
      few = c.self.invariant.few;
    }

pub returns-clause-held : goal.returns-clause-held
returns-clause-held c = λ f.
    let ms = c.self.inside.masks in
    let is : c.as_slice.result.now ≡ key_in ms c.args.flow = c.as_slice.ensures.value ∙ c.write_key-number.ensures.key in
    subst (λ v. Among f (flows_in c.put.new.self) ↔ ((f ≡ c.args.flow) ⊎ Among f (flows_in v.bunches))) c.self.view_is
    (held_all ms c.self.inside.turns c.self.inside.buckets c.put.new.self c.self.invariant.filed c.hold.ensures c.hold-2.ensures c.args.flow c.as_slice.result.now is c.put.ensures.held f)
