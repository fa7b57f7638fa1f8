use Rattle.std.proofs.Common.{◌≡◌, ◌<◌, ◌∷◌, ◌++◌, ℕ, Some, None, slice_get, sym, subst, ap, ◌∙◌}
use Rattle.std.proofs.lemmas.Bool.{false≢true}
use Rattle.std.specs.Option.{option_copied, option_map_or}
use Rattle.ovn_base.proofs.AmongLaws.{get_among}
use Rattle.tuple_space.specs.declared.mask.Mask.{Mask}
use Rattle.tuple_space.specs.Masks.{field_values, masked, entry_under, values_under}
use Rattle.tuple_space.specs.Bunches.{flows_under}
use Rattle.tuple_space.specs.Sieving.{HasBit, IsLetIn}
use Rattle.tuple_space.specs.Space.{first_under}
use Rattle.tuple_space.proofs.LookLaws.{left_out}
use Rattle.tuple_space.proofs.space.TupleSpace.ask.Goals as goal

pub returns-then-not-has_bit : goal.returns-then-not-has_bit
returns-then-not-has_bit c =
    let all = subst (λ v. (bit : ℕ) → bit < 128 → IsLetIn v.sieves c.args.table (field_values c.args.regs.now c.args.packet.now) bit → HasBit c.args.passed bit) (sym c.self.view_is) (subst (λ xs. (bit : ℕ) → bit < 128 → IsLetIn c.args.self.now.sieves c.args.table xs bit → HasBit c.args.passed bit) c.requires.values c.requires.passed) in
    sym (left_out c.self.inside.masks c.self.inside.turns c.self.inside.buckets c.self.invariant.filed c.hold.ensures c.args.table c.args.regs.now c.args.packet.now c.self.inside.sieves c.args.number c.args.passed c.self.invariant.let_through all
    (λ h. false≢true (sym c.if-not-has_bit.true ∙ c.has_bit.ensures.1 (subst (λ b. HasBit c.args.passed b) (sym c.bit_for.ensures) h))))
    ∙ ap (λ v. first_under v.masks v.bunches c.args.table c.args.number c.args.regs.now c.args.packet.now) c.self.view_is

pub write_masked-requires : goal.write_masked-requires
write_masked-requires c =
    let at : slice_get c.self.inside.masks c.args.number ≡ Some c.in-Some.mask.now = ap (λ l. slice_get l c.args.number) (sym c.as_slice.ensures) ∙ sym c.mask_at.ensures ∙ ap option_copied c.in-Some.is in
    c.self.invariant.few c.in-Some.mask.now (get_among c.args.number c.in-Some.mask.now c.self.inside.masks at)

pub returns-in-Some : goal.returns-in-Some
returns-in-Some c =
    let m = c.in-Some.mask.now in
    let at : slice_get c.self.inside.masks c.args.number ≡ Some m = ap (λ l. slice_get l c.args.number) (sym c.as_slice.ensures) ∙ sym c.mask_at.ensures ∙ ap option_copied c.in-Some.is in
    let key : c.as_slice-in-Some.result.now ≡ c.args.table ∷ c.args.number ∷ values_under m c.args.regs.now c.args.packet.now = c.as_slice-in-Some.ensures.value ∙ c.write_masked.ensures ∙ (λ i. c.args.table ∷ c.args.number ∷ (masked m.asks (c.requires.values i) ++ entry_under m.entry c.args.regs.now.at)) in
    c.first.ensures ∙ ap (λ q. slice_get (flows_under c.self.inside.buckets q) 0) key
    ∙ ap (λ o. option_map_or (λ (x : Mask). slice_get (flows_under c.self.inside.buckets (c.args.table ∷ c.args.number ∷ values_under x c.args.regs.now c.args.packet.now)) 0) o None) (sym at)
    ∙ ap (λ v. first_under v.masks v.bunches c.args.table c.args.number c.args.regs.now c.args.packet.now) c.self.view_is

pub returns-in-None : goal.returns-in-None
returns-in-None c =
    let at : slice_get c.self.inside.masks c.args.number ≡ None = ap (λ l. slice_get l c.args.number) (sym c.as_slice.ensures) ∙ sym c.mask_at.ensures ∙ ap option_copied c.in-None.is in
    ap (λ o. option_map_or (λ (x : Mask). slice_get (flows_under c.self.inside.buckets (c.args.table ∷ c.args.number ∷ values_under x c.args.regs.now c.args.packet.now)) 0) o None) (sym at)
    ∙ ap (λ v. first_under v.masks v.bunches c.args.table c.args.number c.args.regs.now c.args.packet.now) c.self.view_is
