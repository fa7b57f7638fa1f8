use Rattle.std.proofs.Common.{◌≡◌, ◌≤◌, Some, slice_get, length, arith, sym, subst, ap, ◌∙◌}
use Rattle.std.proofs.lemmas.List.{take_all}
use Rattle.std.proofs.lemmas.Option.{slice_get_within, get_or_from_slice_get}
use Rattle.std.specs.Option.{option_copied}
use mathlib.Core.Logic.{inl, inr}
use Rattle.ovn_base.specs.lists.Among.{Among}
use Rattle.flow_table.specs.declared.flow.Flow.{Flow}
use Rattle.tuple_space.specs.Masks.{cube_bits, cube_mask}
use Rattle.tuple_space.specs.Bunches.{Bunch}
use Rattle.tuple_space.specs.Sieving.{bit_of, IsLetWhole}
use Rattle.tuple_space.specs.Space.{mask_number}
use Rattle.tuple_space.proofs.RankLaws.{among_more}
use Rattle.tuple_space.proofs.bucket.Bucket.note_all.Goals as goal

pub loop-i-preserved : goal.loop-i-preserved
loop-i-preserved c =
    let flows = c.args.self.now.flows in
    let i = c.loop-i.i in
    let flow = c.in-Some.flow.now in
    let at : slice_get flows i ≡ Some flow = subst (λ (b : Bunch). slice_get b.flows i ≡ Some flow) c.self.view_is (sym c.get.ensures ∙ ap option_copied c.in-Some.is) in
    record {
      kept = λ xs b h. c.note_in.ensures.kept xs b (c.loop-i.invariant.kept xs b h);
      noted = λ f m e. elim (among_more flows i flow f (slice_get_within flows i flow at) m) [
        | inl a ↦ λ xs fit. c.note_in.ensures.kept xs (bit_of (mask_number c.args.masks.now (cube_mask f.cube))) (c.loop-i.invariant.noted f a e xs fit)
        | inr is ↦ subst (λ (g : Flow). g.table ≡ c.args.table → IsLetWhole c.note_in.new.sieve (cube_bits g.cube) (bit_of (mask_number c.args.masks.now (cube_mask g.cube)))) (sym (get_or_from_slice_get flows i flow flow at) ∙ sym is) c.note_in.ensures.noted e
      ];
    }

pub returns-clause-noted : goal.returns-clause-noted
returns-clause-noted c = λ f m.
    c.loop-i.invariant.noted f (subst (λ l. Among f l) (sym (take_all c.loop-i.i c.args.self.now.flows (subst (λ (b : Bunch). length b.flows ≤ c.loop-i.i) c.self.view_is (omega (arith, c.len-i-end.ensures, c.loop-i-test.false))))) m)
