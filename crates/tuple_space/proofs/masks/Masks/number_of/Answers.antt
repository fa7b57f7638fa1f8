use Rattle.std.proofs.Common.{sym, ap, ◌∙◌}
use Rattle.tuple_space.specs.declared.mask.Mask.{Mask}
use Rattle.tuple_space.specs.Space.{mask_number}
use Rattle.tuple_space.proofs.NumberLaws.{number_found, number_missing}
use Rattle.tuple_space.proofs.masks.Masks.number_of.Goals as goal

pub returns-in-Some : goal.returns-in-Some
returns-in-Some c =
    let m : Mask = record { asks = c.args.asks.now; entry = c.args.entry } in
    number_found c.self.inside.set.keys m c.in-Some.number (sym c.get_index_of.ensures.index ∙ c.in-Some.is) ∙ ap (λ l. mask_number l m) c.self.view_is

pub returns-in-None : goal.returns-in-None
returns-in-None c =
    let m : Mask = record { asks = c.args.asks.now; entry = c.args.entry } in
    c.len.ensures.len ∙ number_missing c.self.inside.set.keys m (sym c.get_index_of.ensures.index ∙ c.in-None.is) ∙ ap (λ l. mask_number l m) c.self.view_is
