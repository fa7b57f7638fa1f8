use Rattle.std.specs.Prelude.{ℕ, List, [], ◌∷◌}
use Rattle.std.proofs.Common.{rules, arith, refl, sym, subst}
use Rattle.ovn_base.specs.addresses.AddressText.{SpellsPair, SpellsJoined}
use Rattle.ovn_base.specs.addresses.SixBytes.{mac_bytes-six}
use Rattle.ovn_base.proofs.AddressLemmas.{pair_lacks, no_mac, at_none}
use Rattle.ovn_base.proofs.JoinedLemmas.{none_first, none_one, none_rest, joined_alone, joined_more}
use Rattle.ovn_base.proofs.read_address.read_mac.Goals as goal

pub returns-in_err-a-clause-none : goal.returns-in_err-a-clause-none
returns-in_err-a-clause-none c = at_none _ c.from_residual.ensures (no_mac c.args.text.now (none_first SpellsPair 58 c.args.text.now 5 (omega arith) c.in_err-a.ensures.none))

pub returns-in_err-b-clause-none : goal.returns-in_err-b-clause-none
returns-in_err-b-clause-none c = at_none _ c.from_residual-in_err-b.ensures (no_mac c.args.text.now (none_rest SpellsPair 58 pair_lacks c.args.text.now 5 c.in_ok-a.a c.in_ok-a.rest.now (omega arith) c.in_ok-a.ensures.found (none_first SpellsPair 58 c.in_ok-a.rest.now 4 (omega arith) c.in_err-b.ensures.none)))

pub returns-in_err-c-clause-none : goal.returns-in_err-c-clause-none
returns-in_err-c-clause-none c = at_none _ c.from_residual-in_err-c.ensures (no_mac c.args.text.now (none_rest SpellsPair 58 pair_lacks c.args.text.now 5 c.in_ok-a.a c.in_ok-a.rest.now (omega arith) c.in_ok-a.ensures.found (none_rest SpellsPair 58 pair_lacks c.in_ok-a.rest.now 4 c.in_ok-b.b c.in_ok-b.rest.now (omega arith) c.in_ok-b.ensures.found (none_first SpellsPair 58 c.in_ok-b.rest.now 3 (omega arith) c.in_err-c.ensures.none))))

pub returns-in_err-d-clause-none : goal.returns-in_err-d-clause-none
returns-in_err-d-clause-none c = at_none _ c.from_residual-in_err-d.ensures (no_mac c.args.text.now (none_rest SpellsPair 58 pair_lacks c.args.text.now 5 c.in_ok-a.a c.in_ok-a.rest.now (omega arith) c.in_ok-a.ensures.found (none_rest SpellsPair 58 pair_lacks c.in_ok-a.rest.now 4 c.in_ok-b.b c.in_ok-b.rest.now (omega arith) c.in_ok-b.ensures.found (none_rest SpellsPair 58 pair_lacks c.in_ok-b.rest.now 3 c.in_ok-c.c c.in_ok-c.rest.now (omega arith) c.in_ok-c.ensures.found (none_first SpellsPair 58 c.in_ok-c.rest.now 2 (omega arith) c.in_err-d.ensures.none)))))

pub returns-in_err-e-clause-none : goal.returns-in_err-e-clause-none
returns-in_err-e-clause-none c = at_none _ c.from_residual-in_err-e.ensures (no_mac c.args.text.now (none_rest SpellsPair 58 pair_lacks c.args.text.now 5 c.in_ok-a.a c.in_ok-a.rest.now (omega arith) c.in_ok-a.ensures.found (none_rest SpellsPair 58 pair_lacks c.in_ok-a.rest.now 4 c.in_ok-b.b c.in_ok-b.rest.now (omega arith) c.in_ok-b.ensures.found (none_rest SpellsPair 58 pair_lacks c.in_ok-b.rest.now 3 c.in_ok-c.c c.in_ok-c.rest.now (omega arith) c.in_ok-c.ensures.found (none_rest SpellsPair 58 pair_lacks c.in_ok-c.rest.now 2 c.in_ok-d.d c.in_ok-d.rest.now (omega arith) c.in_ok-d.ensures.found (none_first SpellsPair 58 c.in_ok-d.rest.now 1 (omega arith) c.in_err-e.ensures.none))))))

pub returns-in_err-f-clause-none : goal.returns-in_err-f-clause-none
returns-in_err-f-clause-none c = at_none _ c.from_residual-in_err-f.ensures (no_mac c.args.text.now (none_rest SpellsPair 58 pair_lacks c.args.text.now 5 c.in_ok-a.a c.in_ok-a.rest.now (omega arith) c.in_ok-a.ensures.found (none_rest SpellsPair 58 pair_lacks c.in_ok-a.rest.now 4 c.in_ok-b.b c.in_ok-b.rest.now (omega arith) c.in_ok-b.ensures.found (none_rest SpellsPair 58 pair_lacks c.in_ok-b.rest.now 3 c.in_ok-c.c c.in_ok-c.rest.now (omega arith) c.in_ok-c.ensures.found (none_rest SpellsPair 58 pair_lacks c.in_ok-c.rest.now 2 c.in_ok-d.d c.in_ok-d.rest.now (omega arith) c.in_ok-d.ensures.found (none_rest SpellsPair 58 pair_lacks c.in_ok-d.rest.now 1 c.in_ok-e.e c.in_ok-e.rest.now (omega arith) c.in_ok-e.ensures.found (none_one SpellsPair 58 c.in_ok-e.rest.now c.in_err-f.ensures.none)))))))

pub returns-clause-found : goal.returns-clause-found
returns-clause-found c =
    let bytes = c.in_ok-a.a ∷ c.in_ok-b.b ∷ c.in_ok-c.c ∷ c.in_ok-d.d ∷ c.in_ok-e.e ∷ c.in_ok-f.f ∷ [] in
    let six = mac_bytes-six bytes refl (search rules) in
    record { pairs = subst (λ (v : List ℕ). SpellsJoined SpellsPair 58 c.args.text.now v) (sym six) (joined_more SpellsPair 58 c.args.text.now c.in_ok-a.a c.in_ok-b.b (c.in_ok-c.c ∷ c.in_ok-d.d ∷ c.in_ok-e.e ∷ c.in_ok-f.f ∷ []) c.in_ok-a.rest.now c.in_ok-a.ensures.found (joined_more SpellsPair 58 c.in_ok-a.rest.now c.in_ok-b.b c.in_ok-c.c (c.in_ok-d.d ∷ c.in_ok-e.e ∷ c.in_ok-f.f ∷ []) c.in_ok-b.rest.now c.in_ok-b.ensures.found (joined_more SpellsPair 58 c.in_ok-b.rest.now c.in_ok-c.c c.in_ok-d.d (c.in_ok-e.e ∷ c.in_ok-f.f ∷ []) c.in_ok-c.rest.now c.in_ok-c.ensures.found (joined_more SpellsPair 58 c.in_ok-c.rest.now c.in_ok-d.d c.in_ok-e.e (c.in_ok-f.f ∷ []) c.in_ok-d.rest.now c.in_ok-d.ensures.found (joined_more SpellsPair 58 c.in_ok-d.rest.now c.in_ok-e.e c.in_ok-f.f [] c.in_ok-e.rest.now c.in_ok-e.ensures.found (joined_alone SpellsPair 58 c.in_ok-e.rest.now c.in_ok-f.f c.in_ok-f.ensures.found)))))) }
