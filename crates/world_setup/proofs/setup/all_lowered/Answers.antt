use Rattle.std.proofs.Common.{◌≡◌, ◌++◌, ◌∷◌, [], length, sym, ap, subst, arith, rules}
use Rattle.std.specs.Map.{keys_of}
use Rattle.std.proofs.lemmas.List.{length-append}
use Rattle.std.proofs.lemmas.Option.{slice_get_within}
use Rattle.northd_core.specs.Lowering.{IsLoweredIn}
use Rattle.northd_core.specs.Plans.{ListsEach}
use Rattle.world_setup.proofs.ListedFlows.{read_all, read_more}
use Rattle.world_setup.proofs.setup.all_lowered.Goals as goal

pub flows-smaller : goal.flows-smaller
flows-smaller c =
    let all = keys_of c.args.lowered.now.counts in
    let longer : c.push.new.self ≡ c.flows.flows ++ c.in_ok-share.field-0 ∷ [] = c.in_ok-push.ensures.ok in
    let more : length c.push.new.self ≡ length (c.flows.flows ++ c.in_ok-share.field-0 ∷ []) = ap length longer in
    let one = length-append c.flows.flows (c.in_ok-share.field-0 ∷ []) in
    let within = slice_get_within all (length c.flows.flows) c.in-Some.flow.now (search rules) in
    omega (arith, more, one, within)

pub flows-preserved : goal.flows-preserved
flows-preserved c = read_more (keys_of c.args.lowered.now.counts) c.flows.flows c.push.new.self c.in_ok-share.field-0 c.flows.invariant (search rules) c.in_ok-push.ensures.ok

pub returns-clause-shown : goal.returns-clause-shown
returns-clause-shown c = read_all (keys_of c.args.lowered.now.counts) c.flows.flows c.flows.invariant (search rules)

pub returns-clause-listed : goal.returns-clause-listed
returns-clause-listed c l can have = subst (ListsEach (IsLoweredIn l)) (sym (read_all (keys_of c.args.lowered.now.counts) c.flows.flows c.flows.invariant (search rules))) (c.flow.ensures.each l can have)
