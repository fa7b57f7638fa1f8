use Rattle.std.proofs.Common.{◌≡◌, ◌<◌, ◌++◌, ◌∷◌, Some, take, drop, remove, slice_get, sym, subst, ap, ◌∙◌}
use Rattle.std.proofs.lemmas.Bool.{false≢true}
use Rattle.std.proofs.lemmas.Option.{slice_get_within, get_or_from_slice_get}
use Rattle.ovn_base.specs.lists.Among.{Among}
use Rattle.ovn_base.proofs.AmongLaws.{get_among}
use Rattle.tuple_space.specs.declared.turn.Turn.{Turn}
use Rattle.tuple_space.specs.Turns.{IsUnder, IsByBound, HasTurn}
use Rattle.tuple_space.proofs.TurnLaws.{raised_has, raised_kept, raised_order}
use Rattle.tuple_space.proofs.turn_list.raise_turn.Goals as goal

pub returns-then-holds_for-clause-has : goal.returns-then-holds_for-clause-has
returns-then-holds_for-clause-has c =
    let found = c.index_of.ensures.found c.in-Some.index c.in-Some.is in
    let at : slice_get c.args.turns.now.items c.in-Some.index ≡ Some found.0 = ap (λ l. slice_get l c.in-Some.index) (sym c.as_slice.ensures.value) ∙ found.1 in
    let here : c.index.result.now ≡ found.0 = c.index.ensures ∙ get_or_from_slice_get c.args.turns.now.items c.in-Some.index found.0 c.index.result.now at in
    (found.0, get_among c.in-Some.index found.0 c.args.turns.now.items at, found.2, subst (λ t. IsUnder c.args.priority c.args.rank t) here (c.holds_for.ensures.0 c.if-holds_for.true))

pub remove-requires : goal.remove-requires
remove-requires c =
    let found = c.index_of.ensures.found c.in-Some.index c.in-Some.is in
    subst (λ n. c.in-Some.index < n) c.as_slice.ensures.len (slice_get_within c.as_slice.result.now c.in-Some.index found.0 found.1)

pub returns-clause-has : goal.returns-clause-has
returns-clause-has c =
    let found = c.index_of.ensures.found c.in-Some.index c.in-Some.is in
    let at : slice_get c.args.turns.now.items c.in-Some.index ≡ Some found.0 = ap (λ l. slice_get l c.in-Some.index) (sym c.as_slice.ensures.value) ∙ found.1 in
    let here : c.index.result.now ≡ found.0 = c.index.ensures ∙ get_or_from_slice_get c.args.turns.now.items c.in-Some.index found.0 c.index.result.now at in
    let u : Turn = record { number = c.args.number; priority = c.args.priority; rank = c.args.rank } in
    let more : ¬ IsUnder c.args.priority c.args.rank found.0 = λ h. false≢true (sym c.if-holds_for.false ∙ c.holds_for.ensures.1 (subst (λ t. IsUnder c.args.priority c.args.rank t) (sym here) h)) in
    let left : c.as_slice-2.result.now ≡ remove c.args.turns.now.items c.in-Some.index = c.as_slice-2.ensures.value ∙ c.remove.ensures.items in
    let new : c.insert.new.self.items ≡ take c.place_of-place.result (remove c.args.turns.now.items c.in-Some.index) ++ u ∷ drop c.place_of-place.result (remove c.args.turns.now.items c.in-Some.index) = c.in-Ok.ensures.items ∙ ap (λ l. take c.place_of-place.result l ++ u ∷ drop c.place_of-place.result l) c.remove.ensures.items in
    subst (λ l. HasTurn l c.args.number c.args.priority c.args.rank) (sym new) (raised_has c.args.turns.now.items c.in-Some.index found.0 u at found.2 more c.place_of-place.result)

pub returns-clause-kept : goal.returns-clause-kept
returns-clause-kept c = λ n p r h.
    let found = c.index_of.ensures.found c.in-Some.index c.in-Some.is in
    let at : slice_get c.args.turns.now.items c.in-Some.index ≡ Some found.0 = ap (λ l. slice_get l c.in-Some.index) (sym c.as_slice.ensures.value) ∙ found.1 in
    let here : c.index.result.now ≡ found.0 = c.index.ensures ∙ get_or_from_slice_get c.args.turns.now.items c.in-Some.index found.0 c.index.result.now at in
    let u : Turn = record { number = c.args.number; priority = c.args.priority; rank = c.args.rank } in
    let more : ¬ IsUnder c.args.priority c.args.rank found.0 = λ h. false≢true (sym c.if-holds_for.false ∙ c.holds_for.ensures.1 (subst (λ t. IsUnder c.args.priority c.args.rank t) (sym here) h)) in
    let left : c.as_slice-2.result.now ≡ remove c.args.turns.now.items c.in-Some.index = c.as_slice-2.ensures.value ∙ c.remove.ensures.items in
    let new : c.insert.new.self.items ≡ take c.place_of-place.result (remove c.args.turns.now.items c.in-Some.index) ++ u ∷ drop c.place_of-place.result (remove c.args.turns.now.items c.in-Some.index) = c.in-Ok.ensures.items ∙ ap (λ l. take c.place_of-place.result l ++ u ∷ drop c.place_of-place.result l) c.remove.ensures.items in
    subst (λ l. HasTurn l n p r) (sym new) (raised_kept c.args.turns.now.items c.in-Some.index found.0 u at found.2 more c.place_of-place.result n p r h)

pub returns-clause-order : goal.returns-clause-order
returns-clause-order c = λ h.
    let found = c.index_of.ensures.found c.in-Some.index c.in-Some.is in
    let at : slice_get c.args.turns.now.items c.in-Some.index ≡ Some found.0 = ap (λ l. slice_get l c.in-Some.index) (sym c.as_slice.ensures.value) ∙ found.1 in
    let here : c.index.result.now ≡ found.0 = c.index.ensures ∙ get_or_from_slice_get c.args.turns.now.items c.in-Some.index found.0 c.index.result.now at in
    let u : Turn = record { number = c.args.number; priority = c.args.priority; rank = c.args.rank } in
    let more : ¬ IsUnder c.args.priority c.args.rank found.0 = λ h. false≢true (sym c.if-holds_for.false ∙ c.holds_for.ensures.1 (subst (λ t. IsUnder c.args.priority c.args.rank t) (sym here) h)) in
    let left : c.as_slice-2.result.now ≡ remove c.args.turns.now.items c.in-Some.index = c.as_slice-2.ensures.value ∙ c.remove.ensures.items in
    let new : c.insert.new.self.items ≡ take c.place_of-place.result (remove c.args.turns.now.items c.in-Some.index) ++ u ∷ drop c.place_of-place.result (remove c.args.turns.now.items c.in-Some.index) = c.in-Ok.ensures.items ∙ ap (λ l. take c.place_of-place.result l ++ u ∷ drop c.place_of-place.result l) c.remove.ensures.items in
    subst (λ l. IsByBound l) (sym new)
    (raised_order c.args.turns.now.items c.in-Some.index found.0 u at found.2 more c.place_of-place.result h
    (λ x m. c.place_of-place.ensures.before x (subst (λ l. Among x (take c.place_of-place.result l)) (sym left) m))
    (λ o x m. c.place_of-place.ensures.behind (subst (λ l. IsByBound l) (sym left) o) x (subst (λ l. Among x (drop c.place_of-place.result l)) (sym left) m)))
