-- A walk on its way.
use Rattle.std.specs.Prelude.{◌≡◌, ◌&&◌, ℕ, Bool, true, false, cond, List, [], ◌∷◌, ◌++◌, Option, Some, None, option_to_list, reverse, refl}
use Rattle.std.specs.List.{AllByRecursion}
use Rattle.std.proofs.Math.Dec.{eqb as nat_eq}
use Rattle.std.proofs.lemmas.List.{reverse-append}
use Rattle.std.proofs.Common.{sym, ap, ◌∙◌, subst, append_assoc, append-nil}
use Rattle.inet_packet.specs.declared.packet.Packet.{Packet}
use Rattle.conn_table.specs.Picks.{Choice}
use Rattle.ovn_base.specs.declared.stages.TheConstants.{LOCAL_TABLE}
use Rattle.flow_table.specs.declared.flow.Cause.TheVariants.{Unbound}
use Rattle.flow_table.specs.declared.flow.Flow.{Flow}
use Rattle.flow_table.specs.declared.flow.FlowOp.{FlowOp}
use Rattle.flow_table.specs.Matching.{IsBest}
use Rattle.switch_engine.specs.declared.carried.Carried.{Carried}
use Rattle.switch_engine.specs.declared.effect.Effect.{Effect}
use Rattle.switch_engine.specs.declared.effect.Effect.TheVariants.{Lost}
use Rattle.switch_engine.specs.declared.effect.Entry.{Entry}
use Rattle.switch_engine.specs.declared.effect.Entry.TheVariants.{Vif, Tunnel}
use Rattle.switch_engine.specs.declared.walk.RunOut.{RunOut}
use Rattle.switch_engine.specs.declared.walk.Step.{Step}
use Rattle.switch_engine.specs.Advance.{Advances, unmatched_here, matched, Brings}
use Rattle.switch_engine.specs.Actions.{drop_at}
use Rattle.switch_engine.specs.Framed.{CanBeSent}
use Rattle.switch_engine.specs.Growth.{GainsWalk, KeepsRun}
use Rattle.switch_engine.specs.Outcome.{FlowOutcome, outcome, going_on, picks_in, of_program, choosing}
use Rattle.switch_engine.specs.Walk.{IsWalk, start, stray, unmatched}
use Rattle.switch_engine.specs.Walk.IsWalk.{over, ends, takes}
use Rattle.switch_engine.specs.Zones.{ZoneLists}
use Rattle.switch_engine.proofs.Lists.{all_append}

-- what a copy comes to that no flow matches is no frame
stray_sent : (entry : Entry) (copy : Carried) → CanBeSent (stray entry copy)
stray_sent (Vif port) copy = tt
stray_sent (Tunnel vni in_key out_key) copy = elim (nat_eq copy.from 0) as (λ b. CanBeSent (cond b Lost (drop_at copy.table Unbound copy.regs))) [ true ↦ tt | false ↦ tt ]

unmatched_sent : (entry : Entry) (copy : Carried) → AllByRecursion CanBeSent (unmatched entry copy)
unmatched_sent entry copy = elim (nat_eq copy.table LOCAL_TABLE) as (λ b. AllByRecursion CanBeSent (cond b (stray entry copy ∷ []) [])) [ true ↦ (stray_sent entry copy, tt) | false ↦ tt ]

-- steps and effects that can be sent came to those before, and each walk of the copies that are left goes on from them and from these zones
pub record Going (flows : List Flow) (entry : Entry) (now : ℕ) (packet : Packet) (first zones : ZoneLists) (before here : RunOut) (pending : List Carried) : Type 0 where
  pub steps : List Step
  pub effects : List Effect
  pub all_steps : here.walk ≡ before.walk ++ steps
  pub all_effects : here.effects ≡ before.effects ++ effects
  pub sent : AllByRecursion CanBeSent effects
  pub goes_on : (rest : List Step) (more : List Effect) (last : ZoneLists) → IsWalk of_program flows entry now zones pending rest more last
      → IsWalk of_program flows entry now first (start entry packet ∷ []) (steps ++ rest) (effects ++ more) last

module _ {flows : List Flow} {entry : Entry} {now : ℕ} {packet : Packet} {first : ZoneLists} where
  -- at the start
  pub going_first : (before : RunOut) → Going flows entry now packet first first before before (start entry packet ∷ [])
  going_first before = record {
    steps = [];
    effects = [];
    all_steps = sym (append-nil before.walk);
    all_effects = sym (append-nil before.effects);
    sent = tt;
    goes_on = λ rest more last w. w;
  }

  -- one copy further
  pub going_next : {zones after : ZoneLists} {before here new : RunOut} {copy : Carried} {others next : List Carried}
      → Going flows entry now packet first zones before here (copy ∷ others) → Advances flows entry now copy zones after others next here new → Going flows entry now packet first after before new next
  going_next {zones} {after} {before} {here} {new} {copy} {others} {next} g (unmatched_here none same left walk effects) = record {
    steps = g.steps;
    effects = g.effects ++ unmatched entry copy;
    all_steps = walk ∙ g.all_steps;
    all_effects = effects ∙ ap (λ l. l ++ unmatched entry copy) g.all_effects ∙ append_assoc before.effects g.effects (unmatched entry copy);
    sent = all_append CanBeSent g.effects (unmatched entry copy) g.sent (unmatched_sent entry copy);
    goes_on = λ rest more last w.
        subst (λ l. IsWalk of_program flows entry now first (start entry packet ∷ []) (g.steps ++ rest) l last) (sym (append_assoc g.effects (unmatched entry copy) more))
        (g.goes_on rest (unmatched entry copy ++ more) last
        (ends zones last copy others rest more (unmatched entry copy ++ more) none
        (subst (λ z. IsWalk of_program flows entry now z others rest more last) same (subst (λ l. IsWalk of_program flows entry now after l rest more last) left w)) refl));
  }
  going_next {zones} {after} {before} {here} {new} {copy} {others} {next} g (matched flow told best done same left walk effects sent) =
      let step : Step = record { table = copy.table; flow = flow } in
      record {
        steps = g.steps ++ step ∷ [];
        effects = g.effects ++ told;
        all_steps = walk ∙ ap (λ l. l ++ step ∷ []) g.all_steps ∙ append_assoc before.walk g.steps (step ∷ []);
        all_effects = effects ∙ ap (λ l. l ++ told) g.all_effects ∙ append_assoc before.effects g.effects told;
        sent = all_append CanBeSent g.effects told g.sent sent;
        goes_on = λ rest more last w.
            subst (λ l. IsWalk of_program flows entry now first (start entry packet ∷ []) l ((g.effects ++ told) ++ more) last) (sym (append_assoc g.steps (step ∷ []) rest))
            (subst (λ l. IsWalk of_program flows entry now first (start entry packet ∷ []) (g.steps ++ step ∷ rest) l last) (sym (append_assoc g.effects told more))
            (g.goes_on (step ∷ rest) (told ++ more) last
            (takes zones last copy others step rest told more (told ++ more) refl best done
            (subst (λ z. IsWalk of_program flows entry now z (going_on (outcome entry now flow.ops (choosing copy zones told)) ++ others) rest more last) same
            (subst (λ l. IsWalk of_program flows entry now after l rest more last) left w)) refl)));
      }

  -- no copy is left
  pub going_over : {zones : ZoneLists} {before here : RunOut} → Going flows entry now packet first zones before here [] → GainsWalk of_program flows entry now packet first zones before here
  going_over {zones} g = record {
    steps = g.steps;
    effects = g.effects;
    all_steps = g.all_steps;
    all_effects = g.all_effects;
    is_walk = subst (λ l. IsWalk of_program flows entry now first (start entry packet ∷ []) l g.effects zones) (append-nil g.steps)
        (subst (λ l. IsWalk of_program flows entry now first (start entry packet ∷ []) (g.steps ++ []) l zones) (append-nil g.effects) (g.goes_on [] [] zones (over zones)));
  }

  -- so all effects can be sent, where those before can
  pub going_sent : {zones : ZoneLists} {before here : RunOut} {pending : List Carried} → Going flows entry now packet first zones before here pending → AllByRecursion CanBeSent before.effects → AllByRecursion CanBeSent here.effects
  going_sent {zones} {before} g s = subst (AllByRecursion CanBeSent) (sym g.all_effects) (all_append CanBeSent before.effects g.effects s g.sent)

  -- what was there before stays at the front
  pub going_keeps : {zones : ZoneLists} {before here after : RunOut} {pending : List Carried} → Going flows entry now packet first zones before here pending → KeepsRun here after → KeepsRun before after
  going_keeps {zones} {before} g k = record {
    more_steps = g.steps ++ k.more_steps;
    more_effects = g.effects ++ k.more_effects;
    all_steps = k.all_steps ∙ ap (λ l. l ++ k.more_steps) g.all_steps ∙ append_assoc before.walk g.steps k.more_steps;
    all_effects = k.all_effects ∙ ap (λ l. l ++ k.more_effects) g.all_effects ∙ append_assoc before.effects g.effects k.more_effects;
  }

-- a copy on top of the pending ones is the next
pub on_top : (pending after : List Carried) (copy : Carried) → after ≡ pending ++ copy ∷ [] → reverse after ≡ copy ∷ reverse pending
on_top pending after copy is = ap reverse is ∙ reverse-append pending (copy ∷ [])

-- what goes on stands before the pending copies
pub stacked : (pending put made : List Carried) (goes_on : Bool) (copy : Carried) → reverse put ≡ made ++ reverse pending
    → cond goes_on (copy ∷ []) [] ++ reverse put ≡ (option_to_list (cond goes_on (Some copy) None) ++ made) ++ reverse pending
stacked pending put made true copy first = ap (λ l. copy ∷ l) first
stacked pending put made false copy first = first

-- a copy came through its table with a flow
pub advanced : {flows : List Flow} {entry : Entry} {now : ℕ} {copy : Carried} {zones after : ZoneLists} (flow : Flow) → IsBest flows copy.table copy.regs copy.packet flow → (ops : List FlowOp) → ops ≡ flow.ops
    → (old : RunOut) (walk : List Step) (effects : List Effect) (itself : Option Carried) (made : List Carried) → Brings entry now ops copy itself zones after old.effects effects [] made
    → (pending left : List Carried) → left ≡ (option_to_list itself ++ made) ++ pending → walk ≡ old.walk ++ record { table = copy.table; flow = flow } ∷ []
    → Advances flows entry now copy zones after pending left old (record { effects = effects; walk = walk })
advanced {flows} {entry} {now} {copy} {zones} {after} flow best ops same old walk effects itself made b pending left is w =
    let o : FlowOutcome = outcome entry now flow.ops (choosing copy zones b.told) in
    let so : o ≡ record { effects = b.told; itself = option_to_list itself; made = b.copies; zones = after; left = []; legal = true; own = true } =
    ap (λ os. outcome entry now os (choosing copy zones b.told)) (sym same)
    ∙ ap (λ (cs : List Choice). outcome entry now ops (record { copy = copy; zones = zones; choices = cs })) (sym (append-nil (picks_in b.told))) ∙ b.brings [] in
    matched flow b.told best
    (record { effects = ap (λ (x : FlowOutcome). x.effects) so; used = ap (λ (x : FlowOutcome). x.left) so; admitted = ap (λ (x : FlowOutcome). x.legal && x.own) so })
    (sym (ap (λ (x : FlowOutcome). x.zones) so))
    (is ∙ ap (λ ms. (option_to_list itself ++ ms) ++ pending) b.all_copies ∙ ap (λ (x : FlowOutcome). going_on x ++ pending) (sym so))
    w b.all_effects b.sent
