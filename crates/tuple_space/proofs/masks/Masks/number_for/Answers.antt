use Rattle.std.proofs.Common.{◌≡◌, ◌<◌, ◌≤◌, ◌++◌, ◌∷◌, [], length, arith, sym, subst, ap, ◌∙◌}
use Rattle.indexmap.specs.IndexSet.{insert_key}
use Rattle.tuple_space.specs.declared.mask.Mask.{Mask}
use Rattle.tuple_space.specs.Space.{same_mask, mask_number, AreFew}
use Rattle.tuple_space.proofs.NumberLaws.{number_stays, number_new, number_last, few_more}
use Rattle.tuple_space.proofs.masks.Masks.number_for.Goals as goal

pub returns-clause-number : goal.returns-clause-number
returns-clause-number c =
    let ms = c.self.inside.set.keys in
    let m : Mask = record { asks = c.args.asks.now; entry = c.args.entry } in
    let is : c.number_of-number.result ≡ mask_number ms m = c.number_of-number.ensures ∙ ap (λ l. mask_number l m) (sym c.self.view_is) in
    let many : length ms ≤ mask_number ms m = let l = c.len.ensures.len in omega (arith, l, is, c.if-number-len.false) in
    let new : c.insert.new.self.keys ≡ ms ++ m ∷ [] = c.in_ok-insert.ensures.keys ∙ ap (λ a. insert_key same_mask ms (record { asks = a; entry = c.args.entry })) c.in_ok-asks.ensures ∙ number_last ms m many in
    let r = number_new ms m many in
    subst (λ l. (c.number_of-number.result ≡ mask_number l m) × (c.number_of-number.result < length l)) (sym new) (is ∙ sym r.0, subst (λ n. n < length (ms ++ m ∷ [])) (sym is) r.1)

pub returns-clause-kept : goal.returns-clause-kept
returns-clause-kept c = λ n h.
    let ms = c.self.inside.set.keys in
    let m : Mask = record { asks = c.args.asks.now; entry = c.args.entry } in
    let is : c.number_of-number.result ≡ mask_number ms m = c.number_of-number.ensures ∙ ap (λ l. mask_number l m) (sym c.self.view_is) in
    let many : length ms ≤ mask_number ms m = let l = c.len.ensures.len in omega (arith, l, is, c.if-number-len.false) in
    let new : c.insert.new.self.keys ≡ ms ++ m ∷ [] = c.in_ok-insert.ensures.keys ∙ ap (λ a. insert_key same_mask ms (record { asks = a; entry = c.args.entry })) c.in_ok-asks.ensures ∙ number_last ms m many in
    subst (λ l. (mask_number l n ≡ mask_number c.args.self.now n) × (mask_number l n < length l)) (sym new)
    (subst (λ l. (mask_number (ms ++ m ∷ []) n ≡ mask_number l n) × (mask_number (ms ++ m ∷ []) n < length (ms ++ m ∷ []))) c.self.view_is (number_stays ms (m ∷ []) n (subst (λ l. mask_number l n < length l) (sym c.self.view_is) h)))

pub returns-clause-few : goal.returns-clause-few
returns-clause-few c = λ h.
    let ms = c.self.inside.set.keys in
    let m : Mask = record { asks = c.args.asks.now; entry = c.args.entry } in
    let is : c.number_of-number.result ≡ mask_number ms m = c.number_of-number.ensures ∙ ap (λ l. mask_number l m) (sym c.self.view_is) in
    let many : length ms ≤ mask_number ms m = let l = c.len.ensures.len in omega (arith, l, is, c.if-number-len.false) in
    let new : c.insert.new.self.keys ≡ ms ++ m ∷ [] = c.in_ok-insert.ensures.keys ∙ ap (λ a. insert_key same_mask ms (record { asks = a; entry = c.args.entry })) c.in_ok-asks.ensures ∙ number_last ms m many in
    subst AreFew (sym new) (few_more ms m (subst AreFew (sym c.self.view_is) h) c.requires)
