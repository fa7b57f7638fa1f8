-- How much is left of a walk.
use Rattle.std.specs.Prelude.{◌≡◌, ◌<◌, ◌≤◌, ◌⊎◌, ℕ, zero, suc, ◌+◌, ◌-◌, ◌*◌, ◌^◌, nat_lt, Bool, true, not, List, [], ◌∷◌, ◌++◌, length, filter, refl}
use Rattle.std.specs.List.{AllByRecursion}
use Rattle.std.proofs.Common.{arith, sym, ap, ◌∙◌, subst, inl, inr}
use Rattle.std.proofs.Math.Dec.{eqb as nat_eq}
use Rattle.std.proofs.Math.Nat.{mul-le-mul_right, suc-mul}
use Rattle.std.proofs.lemmas.List.{length-append, length-map}
use Rattle.std.proofs.lemmas.List.Sums.{count_by-le-length, length-filter}
use Rattle.ovn_base.specs.declared.limits.TheConstants.{MAX_HOPS}
use Rattle.ovn_base.specs.lists.Among.{Among}
use Rattle.ovn_base.proofs.AmongLaws.{among_cases, among_none}
use Rattle.inet_packet.specs.Fits.{CubeFits}
use Rattle.inet_packet.specs.declared.regs.Reg.{Reg}
use Rattle.conn_table.specs.Picks.{Choice}
use Rattle.flow_table.specs.declared.flow.Flow.{Flow}
use Rattle.flow_table.specs.declared.flow.FlowOp.{FlowOp}
use Rattle.flow_table.specs.declared.flow.FlowOp.TheVariants as op
use Rattle.flow_table.specs.declared.flow.Member.{Member}
use Rattle.switch_engine.specs.declared.actions.Turn.{Turn}
use Rattle.switch_engine.specs.declared.actions.Turn.TheVariants as turn
use Rattle.switch_engine.specs.declared.carried.Carried.{Carried}
use Rattle.switch_engine.specs.declared.effect.Effect.{Effect}
use Rattle.switch_engine.specs.declared.effect.Entry.{Entry}
use Rattle.switch_engine.specs.declared.walk.RunOut.{RunOut}
use Rattle.switch_engine.specs.Actions.{set_reg, copy_for, copies_for}
use Rattle.switch_engine.specs.Acts.{Doing, Act}
use Rattle.switch_engine.specs.Advance.{Advances, unmatched_here, matched, IsCarriedInRange}
use Rattle.switch_engine.specs.Outcome.{act, outcome, going_on, after_turn, choosing}
use Rattle.switch_engine.specs.Proper.{IsProper, IsProperFlow, rising, raising, Raises, Rises}
use Rattle.switch_engine.specs.Range.{IsInRange}
use Rattle.switch_engine.specs.Zones.{ZoneLists}
use Rattle.switch_engine.proofs.ActKinds.{Stays, IsHere, IsGentle, IsActed, quiet, gentle, goes, sends, spreads, crosses, acted}
use Rattle.switch_engine.proofs.Lists.{all_append, all_left, all_by, all_map}
use Rattle.switch_engine.proofs.Ranges.{total, total_small, total_rises, set_in_range}

-- how far a copy's passes, its table and its registers are from the greatest
abbrev pub left : Carried → ℕ
left copy = (64 - copy.passes) * 2 ^ 42 + ((256 - copy.table) * 2 ^ 33 + (2 ^ 33 - total copy.regs))

-- it has passed as often and is at a later table, or has passed once more
abbrev IsLater : Carried → Carried → Type 0
IsLater copy next = ((next.passes ≡ copy.passes) × (copy.table < next.table)) ⊎ (next.passes ≡ copy.passes + 1)

less : (passes next_passes table next sum sum_after : ℕ) → ((next_passes ≡ passes) × ((table < next) ⊎ ((next ≡ table) × (sum < sum_after)))) ⊎ (next_passes ≡ passes + 1)
    → table < 2 ^ 8 → sum < 2 ^ 33 → sum_after < 2 ^ 33 → passes ≤ 64 → next_passes ≤ 64
    → (64 - next_passes) * 2 ^ 42 + ((256 - next) * 2 ^ 33 + (2 ^ 33 - sum_after)) < (64 - passes) * 2 ^ 42 + ((256 - table) * 2 ^ 33 + (2 ^ 33 - sum))
less passes next_passes table next sum sum_after (inl (same, inl later)) small before after few fewer = omega arith
less passes next_passes table next sum sum_after (inl (same, inr more)) small before after few fewer = let t = more.0 in let s = more.1 in omega arith
less passes next_passes table next sum sum_after (inr once) small before after few fewer = omega arith

-- what an action of the table brings goes on later
record ActLater (copy : Carried) (a : Act) : Type 0 where
  made : AllByRecursion (IsLater copy) a.made
  table : IsHere a.turn → a.after.copy.table ≡ copy.table
  passes : IsHere a.turn → a.after.copy.passes ≡ copy.passes
  itself : a.turn ≡ turn.Leaves → IsLater copy a.after.copy

here_stays : (t : Turn) → IsHere t → t ≡ turn.Leaves → ⊥
here_stays turn.Next h e = cc
here_stays turn.Leaves h e = absurd h
here_stays turn.Ends h e = cc

act_later : (entry : Entry) (now : ℕ) (copy : Carried) (o : FlowOp) (d : Doing) (a : Act) → d.copy.table ≡ copy.table → d.copy.passes ≡ copy.passes → Rises copy.table o → IsActed entry now d o a → ActLater copy a
act_later entry now copy o d a table passed h (quiet _ next zones stays) = record {
  made = tt;
  table = λ _. stays.table ∙ table;
  passes = λ _. stays.passes ∙ passed;
  itself = λ e. absurd (here_stays turn.Next tt e);
}
act_later entry now copy o d a table passed h (gentle _ _ g) = record {
  made = subst (AllByRecursion (IsLater copy)) (sym g.made) tt;
  table = λ _. g.table ∙ table;
  passes = λ _. g.passes ∙ passed;
  itself = λ e. absurd (here_stays a.turn g.here e);
}
act_later entry now copy o d a table passed h (goes next) = record { made = tt; table = λ x. absurd x; passes = λ x. absurd x; itself = λ _. inl (passed, h) }
act_later entry now copy o d a table passed h (sends chassis) = record { made = tt; table = λ _. table; passes = λ _. passed; itself = λ e. absurd (here_stays turn.Next tt e) }
act_later entry now copy o d a table passed h (spreads members) = record {
  made = all_map (IsLater copy) (copy_for d.copy) (λ member. inl (passed, h)) _;
  table = λ _. table;
  passes = λ _. passed;
  itself = λ e. absurd (here_stays turn.Next tt e);
}
act_later entry now copy o d a table passed h (crosses dp in_port z_dnat z_snat is) = record { made = tt; table = λ x. absurd x; passes = λ x. absurd x; itself = λ _. inr (ap (λ n. n + 1) passed) }

outcome_later : (entry : Entry) (now : ℕ) (copy : Carried) (ops : List FlowOp) (d : Doing) → d.copy.table ≡ copy.table → d.copy.passes ≡ copy.passes → AllByRecursion (Rises copy.table) ops
    → AllByRecursion (IsLater copy) (outcome entry now ops d).itself × AllByRecursion (IsLater copy) (outcome entry now ops d).made
outcome_later entry now copy [] d table passed h = (tt, tt)
outcome_later entry now copy (o ∷ ops) d table passed h =
    let a = act entry now o d in
    let l : ActLater copy a = act_later entry now copy o d a table passed h.0 (acted entry now o d) in
    let rest = by_turn a.turn a.after l.table l.passes l.itself (λ next t p. outcome_later entry now copy ops next t p h.1) in
    (rest.0, all_append (IsLater copy) a.made _ l.made rest.1)
  where
    by_turn : (t : Turn) (next : Doing) → (IsHere t → next.copy.table ≡ copy.table) → (IsHere t → next.copy.passes ≡ copy.passes) → (t ≡ turn.Leaves → IsLater copy next.copy)
        → ((n : Doing) → n.copy.table ≡ copy.table → n.copy.passes ≡ copy.passes → AllByRecursion (IsLater copy) (outcome entry now ops n).itself × AllByRecursion (IsLater copy) (outcome entry now ops n).made)
        → AllByRecursion (IsLater copy) (after_turn t next (outcome entry now ops)).itself × AllByRecursion (IsLater copy) (after_turn t next (outcome entry now ops)).made
    by_turn turn.Next next table' passed' later each = each next (table' tt) (passed' tt)
    by_turn turn.Leaves next table' passed' later each = ((later refl, tt), tt)
    by_turn turn.Ends next table' passed' later each = (tt, tt)

-- what goes on later has less left
all_less : (copy : Carried) (nexts : List Carried) → IsCarriedInRange copy → AllByRecursion (IsLater copy) nexts → AllByRecursion IsCarriedInRange nexts → AllByRecursion (λ next. left next < left copy) nexts
all_less copy [] r later in_range = tt
all_less copy (next ∷ nexts) r later in_range = (one later.0, all_less copy nexts r later.1 in_range.1)
  where
    one : IsLater copy next → left next < left copy
    one (inl e) = less copy.passes next.passes copy.table next.table (total copy.regs) (total next.regs) (inl (e.0, inl e.1)) r.table (total_small copy.regs r.regs) (total_small next.regs in_range.0.regs) r.passes in_range.0.passes
    one (inr e) = less copy.passes next.passes copy.table next.table (total copy.regs) (total next.regs) (inr e) r.table (total_small copy.regs r.regs) (total_small next.regs in_range.0.regs) r.passes in_range.0.passes

-- what a proper flow brings on has less left than the copy
pub brings_less : (entry : Entry) (now : ℕ) (flow : Flow) (d : Doing) → IsProperFlow flow → flow.table ≡ d.copy.table → IsCarriedInRange d.copy → CubeFits flow.cube d.copy.regs d.copy.packet
    → AllByRecursion IsCarriedInRange (going_on (outcome entry now flow.ops d)) → AllByRecursion (λ next. left next < left d.copy) (going_on (outcome entry now flow.ops d))
brings_less entry now flow d (rising h) same r fits in_range =
    let l = outcome_later entry now d.copy flow.ops d refl refl (subst (λ t. AllByRecursion (Rises t) flow.ops) same h) in
    all_less d.copy _ r (all_append (IsLater d.copy) _ _ l.0 l.1) in_range
brings_less entry now flow d (raising reg n h) same r fits in_range =
    let more : total d.copy.regs < total (set_reg reg n d.copy.regs) = total_rises reg n flow d.copy.regs d.copy.packet h r.regs fits in
    let after : total (set_reg reg n d.copy.regs) < 2 ^ 33 = total_small _ (set_in_range reg n d.copy.regs h.can r.regs) in
    subst (λ ops. AllByRecursion (λ next. left next < left d.copy) (going_on (outcome entry now ops d))) (sym h.only)
    (less d.copy.passes d.copy.passes d.copy.table flow.table (total d.copy.regs) (total (set_reg reg n d.copy.regs)) (inl (refl, inr (same, more))) r.table (total_small d.copy.regs r.regs) after r.passes r.passes, tt)

-- how many copies actions may bring on
makes : FlowOp → ℕ
makes (op.Copies members) = length members
makes _ = 0

pub brings : List FlowOp → ℕ
brings [] = 1
brings (o ∷ ops) = makes o + brings ops

no_more : {X : Type 0} (test : X → Bool) (xs : List X) → length (filter test xs) ≤ length xs
no_more test xs = omega (arith, length-filter test xs, count_by-le-length test xs)

act_few : (entry : Entry) (now : ℕ) (o : FlowOp) (d : Doing) (a : Act) → IsActed entry now d o a → length a.made ≤ makes o
unfolding makes
act_few entry now o d a (quiet _ next zones stays) = omega arith
act_few entry now o d a (gentle _ _ g) = subst (λ made. length made ≤ makes o) (sym g.made) (omega arith)
act_few entry now o d a (goes next) = omega arith
act_few entry now o d a (sends chassis) = omega arith
act_few entry now o d a (spreads members) =
    let kept : length (copies_for d.copy members) ≡ length (filter (λ (member : Member). not (nat_eq member.key d.copy.regs.in_port)) members) = length-map _ (copy_for d.copy) in
    let few : length (filter (λ (member : Member). not (nat_eq member.key d.copy.regs.in_port)) members) ≤ length members = no_more _ members in
    subst (λ n. n ≤ length members) (sym kept) few
act_few entry now o d a (crosses dp in_port z_dnat z_snat is) = omega arith

outcome_few : (entry : Entry) (now : ℕ) (ops : List FlowOp) (d : Doing) → (length (outcome entry now ops d).itself ≤ 1) × (length (outcome entry now ops d).made + 1 ≤ brings ops)
unfolding brings
outcome_few entry now [] d = (omega arith, omega arith)
outcome_few entry now (o ∷ ops) d =
    let a = act entry now o d in
    let few : length a.made ≤ makes o = act_few entry now o d a (acted entry now o d) in
    let rest = by_turn a.turn a.after (outcome_few entry now ops) in
    let sum : length (a.made ++ (after_turn a.turn a.after (outcome entry now ops)).made) ≡ length a.made + length (after_turn a.turn a.after (outcome entry now ops)).made = length-append a.made _ in
    (rest.0, omega (arith, rest.1))
  where
    one : (os : List FlowOp) → 1 ≤ brings os
    one [] = omega arith
    one (p ∷ os) = let ih = one os in omega arith

    by_turn : (t : Turn) (next : Doing) → ((n : Doing) → (length (outcome entry now ops n).itself ≤ 1) × (length (outcome entry now ops n).made + 1 ≤ brings ops)) → (length (after_turn t next (outcome entry now ops)).itself ≤ 1) × (length (after_turn t next (outcome entry now ops)).made + 1 ≤ brings ops)
    by_turn turn.Next next each = each next
    by_turn turn.Leaves next each = (omega arith, one ops)
    by_turn turn.Ends next each = (omega arith, one ops)

-- at most as many go on as actions may bring on
pub brings_few : (entry : Entry) (now : ℕ) (ops : List FlowOp) (d : Doing) → length (going_on (outcome entry now ops d)) ≤ brings ops
brings_few entry now ops d =
    let sum : length (going_on (outcome entry now ops d)) ≡ length (outcome entry now ops d).itself + length (outcome entry now ops d).made = length-append _ _ in
    let few = outcome_few entry now ops d in
    omega (arith, few.0, few.1)

-- how many copies all flows together may bring on
pub spread : List Flow → ℕ
spread [] = 0
spread (flow ∷ flows) = brings flow.ops + spread flows

pub brings_no_more : (flow : Flow) (flows : List Flow) → Among flow flows → brings flow.ops ≤ spread flows
unfolding spread
brings_no_more flow [] m = absurd (among_none flow m)
brings_no_more flow (other ∷ flows) m = elim (among_cases flow other flows m) [
  | inl e ↦ let same : brings flow.ops ≡ brings other.ops = ap (λ (f : Flow). brings f.ops) e in omega arith
  | inr n ↦ let ih = brings_no_more flow flows n in omega arith
]

-- a copy with n left weighs more than k copies with less
pub weight : ℕ → ℕ → ℕ
weight k zero = 1
weight k (suc n) = weight k n + k * weight k n

weighs : (k n : ℕ) → 1 ≤ weight k n
unfolding weight
weighs k zero = omega arith
weighs k (suc n) = let ih = weighs k n in omega arith

weighs_more : (k m d : ℕ) → weight k m ≤ weight k (d + m)
unfolding weight
weighs_more k m zero = let same : 0 + m ≡ m = omega arith in subst (λ x. weight k m ≤ weight k x) (sym same) (omega arith)
weighs_more k m (suc d) =
    let same : suc d + m ≡ suc (d + m) = omega arith in
    let ih = weighs_more k m d in
    subst (λ x. weight k m ≤ weight k x) (sym same) (omega arith)

weighs_no_less : (k m n : ℕ) → m ≤ n → weight k m ≤ weight k n
weighs_no_less k m n h = subst (λ x. weight k m ≤ weight k x) (omega arith) (weighs_more k m (n - m))

-- what the copies weigh together
pub load : ℕ → List Carried → ℕ
load k [] = 0
load k (copy ∷ copies) = weight k (left copy) + load k copies

load_append : (k : ℕ) (xs ys : List Carried) → load k (xs ++ ys) ≡ load k xs + load k ys
unfolding load
load_append k [] ys = omega arith
load_append k (x ∷ xs) ys = let ih = load_append k xs ys in omega arith

load_small : (k n : ℕ) (copies : List Carried) → AllByRecursion (λ copy. left copy ≤ n) copies → load k copies ≤ length copies * weight k n
unfolding load
load_small k n [] h = omega arith
load_small k n (copy ∷ copies) h =
    let first : weight k (left copy) ≤ weight k n = weighs_no_less k (left copy) n h.0 in
    let ih : load k copies ≤ length copies * weight k n = load_small k n copies h.1 in
    let sum : length (copy ∷ copies) * weight k n ≡ length copies * weight k n + weight k n = suc-mul (length copies) (weight k n) in
    omega arith

few_weigh_less : (k n : ℕ) (copies : List Carried) → AllByRecursion (λ copy. left copy < n) copies → length copies ≤ k → load k copies < weight k n
unfolding weight load
few_weigh_less k zero [] h few = omega arith
few_weigh_less k zero (copy ∷ copies) h few = absurd (omega (arith, h.0))
few_weigh_less k (suc n) copies h few =
    let sum : load k copies ≤ length copies * weight k n = load_small k n copies (all_by (λ copy. left copy ≤ n) (λ copy. left copy < suc n) (λ copy l. omega arith) copies h) in
    let most : length copies * weight k n ≤ k * weight k n = mul-le-mul_right (weight k n) few in
    let one : 1 ≤ weight k n = weighs k n in
    omega arith

-- what goes on in place of a copy weighs less than it
pub load_falls : (k : ℕ) (copy : Carried) (next others : List Carried) → AllByRecursion (λ c. left c < left copy) next → length next ≤ k → load k (next ++ others) < load k (copy ∷ others)
unfolding load
load_falls k copy next others h few =
    let sum : load k (next ++ others) ≡ load k next + load k others = load_append k next others in
    let fewer : load k next < weight k (left copy) = few_weigh_less k (left copy) next h few in
    omega arith

-- so each step of a walk leaves less
pub advance_falls : {flows : List Flow} {entry : Entry} {now : ℕ} {copy : Carried} {zones after : ZoneLists} {others next : List Carried} {old new : RunOut}
    → Advances flows entry now copy zones after others next old new → IsProper flows → IsCarriedInRange copy → AllByRecursion IsCarriedInRange next → load (spread flows) next < load (spread flows) (copy ∷ others)
advance_falls {flows} {entry} {now} {copy} {zones} {after} {others} (unmatched_here none kept same walk effects) proper r in_range =
    subst (λ l. load (spread flows) l < load (spread flows) (copy ∷ others)) (sym same) (load_falls (spread flows) copy [] others tt (omega arith))
advance_falls {flows} {entry} {now} {copy} {zones} {after} {others} {next} (matched flow told best done kept same walk effects sent) proper r in_range =
    let d = choosing copy zones told in
    let on : List Carried = going_on (outcome entry now flow.ops d) in
    let all : AllByRecursion IsCarriedInRange on = all_left IsCarriedInRange on others (subst (AllByRecursion IsCarriedInRange) same in_range) in
    let fewer : length on ≤ spread flows = omega (arith, brings_few entry now flow.ops d, brings_no_more flow flows best.held) in
    subst (λ l. load (spread flows) l < load (spread flows) (copy ∷ others)) (sym same)
    (load_falls (spread flows) copy on others (brings_less entry now flow d (proper flow best.held) best.matching.in_table r best.matching.fits all) fewer)
