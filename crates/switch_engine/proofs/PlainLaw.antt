-- A walk through plain flows is a plain walk.
use Rattle.std.specs.Prelude.{◌≡◌, ℕ, true, false, cond, not, List, [], ◌∷◌, ◌++◌, map, filter, refl}
use Rattle.std.specs.List.{AllByRecursion}
use Rattle.std.proofs.Common.{sym, ap, ◌∙◌, subst}
use Rattle.std.proofs.Math.Dec.{eqb as nat_eq}
use Rattle.flow_table.specs.declared.flow.Flow.{Flow}
use Rattle.flow_table.specs.declared.flow.FlowOp.{FlowOp}
use Rattle.flow_table.specs.declared.flow.FlowOp.TheVariants as op
use Rattle.flow_table.specs.declared.flow.Member.{Member}
use Rattle.switch_engine.specs.declared.carried.Carried.{Carried}
use Rattle.switch_engine.specs.declared.effect.Effect.{Effect}
use Rattle.switch_engine.specs.declared.effect.Entry.{Entry}
use Rattle.switch_engine.specs.declared.effect.Entry.TheVariants.{Vif, Tunnel}
use Rattle.switch_engine.specs.declared.walk.Step.{Step}
use Rattle.switch_engine.specs.declared.effect.Effect.TheVariants as effect
use Rattle.switch_engine.specs.Actions.{set_reg, with_header, frame_to, copy_for, copies_for}
use Rattle.switch_engine.specs.Acts.{Doing}
use Rattle.switch_engine.specs.Outcome.{FlowOutcome, Choosing, outcome, going_on, choosing}
use Rattle.switch_engine.specs.Plain.{IsPlain, ArePlain, PlainWalks}
use Rattle.switch_engine.specs.PlainWalk as plain
use Rattle.switch_engine.specs.Walk.{IsWalk, stray, unmatched, start}
use Rattle.switch_engine.specs.Walk.IsWalk.{over, ends, takes}
use Rattle.switch_engine.specs.Zones.{ZoneLists}

-- the copy without what was found and how often it passed
abbrev bare : Carried → plain.Carried
bare copy = record { from = copy.from; table = copy.table; regs = copy.regs; packet = copy.packet }

bare_each : {X : Type 0} (f : X → Carried) (xs : List X) → map bare (map f xs) ≡ map (λ x. bare (f x)) xs
bare_each f [] = refl
bare_each f (x ∷ xs) = ap (λ cs. bare (f x) ∷ cs) (bare_each f xs)

bare_both : (xs ys : List Carried) → map bare (xs ++ ys) ≡ map bare xs ++ map bare ys
bare_both [] ys = refl
bare_both (x ∷ xs) ys = ap (λ cs. bare x ∷ cs) (bare_both xs ys)

bare_copies : (copy : Carried) (members : List Member) → map bare (copies_for copy members) ≡ plain.copies_for (bare copy) members
bare_copies copy members = bare_each (copy_for copy) (filter (λ member. not (nat_eq member.key copy.regs.in_port)) members)

-- it brings on what the plain one brings on
record IsBare (zones : ZoneLists) (o : FlowOutcome) (p : plain.FlowOutcome) : Type 0 where
  zones_stay : o.zones ≡ zones
  effects : o.effects ≡ p.effects
  itself : map bare o.itself ≡ p.itself
  made : map bare o.made ≡ p.made

bare_outcome : (entry : Entry) (now : ℕ) (ops : List FlowOp) (d : Doing) → AllByRecursion IsPlain ops → IsBare d.zones (outcome entry now ops d) (plain.outcome entry now ops (bare d.copy))
bare_outcome entry now [] d h = record { zones_stay = refl; effects = refl; itself = refl; made = refl }
bare_outcome entry now (op.Set reg n ∷ ops) d h =
    let r = bare_outcome entry now ops (record d { copy = record d.copy { regs = set_reg reg n d.copy.regs } }) h.1 in record { zones_stay = r.zones_stay; effects = r.effects; itself = r.itself; made = r.made }
bare_outcome entry now (op.Go table ∷ ops) d h = record { zones_stay = refl; effects = refl; itself = refl; made = refl }
bare_outcome entry now (op.Drop cause ∷ ops) d h = record { zones_stay = refl; effects = refl; itself = refl; made = refl }
bare_outcome entry now (op.Header ∷ ops) d h =
    let r = bare_outcome entry now ops (record d { copy = record d.copy { regs = with_header entry d.copy.regs } }) h.1 in record { zones_stay = r.zones_stay; effects = r.effects; itself = r.itself; made = r.made }
bare_outcome entry now (op.Frame chassis ∷ ops) d h =
    let r = bare_outcome entry now ops d h.1 in record { zones_stay = r.zones_stay; effects = ap (λ es. frame_to chassis d.copy ∷ es) r.effects; itself = r.itself; made = r.made }
bare_outcome entry now (op.Copies members ∷ ops) d h =
    let r = bare_outcome entry now ops d h.1 in
    record {
      zones_stay = r.zones_stay;
      effects = r.effects;
      itself = r.itself;
      made = bare_both (copies_for d.copy members) (outcome entry now ops d).made ∙ ap (λ cs. cs ++ map bare (outcome entry now ops d).made) (bare_copies d.copy members)
          ∙ ap (λ cs. plain.copies_for (bare d.copy) members ++ cs) r.made;
    }
bare_outcome entry now (op.Output port ∷ ops) d h =
    let r = bare_outcome entry now ops d h.1 in record { zones_stay = r.zones_stay; effects = ap (λ es. effect.Out port d.copy.packet ∷ es) r.effects; itself = r.itself; made = r.made }
bare_outcome entry now (_ ∷ ops) d h = absurd h.0

bare_stray : (entry : Entry) (copy : Carried) → stray entry copy ≡ plain.stray entry (bare copy)
bare_stray (Vif port) copy = refl
bare_stray (Tunnel vni in_key out_key) copy = refl

bare_unmatched : (entry : Entry) (copy : Carried) → unmatched entry copy ≡ plain.unmatched entry (bare copy)
bare_unmatched entry copy = ap (λ e. cond (nat_eq copy.table 33) (e ∷ []) []) (bare_stray entry copy)

bare_walk : (by : Choosing) (flows : List Flow) (entry : Entry) (now : ℕ) → ArePlain flows → (zones last : ZoneLists) (copies : List Carried) (steps : List Step) (effects : List Effect)
    → IsWalk by flows entry now zones copies steps effects last → (last ≡ zones) × plain.IsWalk flows entry now (map bare copies) steps effects
bare_walk by flows entry now h _ _ _ _ _ (over zones) = (refl, plain.over)
bare_walk by flows entry now h _ _ _ _ _ (ends zones last copy others steps more all none walk is) =
    let r = bare_walk by flows entry now h zones last others steps more walk in
    (r.0, plain.ends (bare copy) (map bare others) steps more all none r.1 (is ∙ ap (λ es. es ++ more) (bare_unmatched entry copy)))
bare_walk by flows entry now h _ _ _ _ _ (takes zones last copy others step steps told more all here best done walk is) =
    let o = outcome entry now step.flow.ops (choosing copy zones told) in
    let p = plain.outcome entry now step.flow.ops (bare copy) in
    let b : IsBare zones o p = bare_outcome entry now step.flow.ops (choosing copy zones told) (h step.flow best.held) in
    let r = bare_walk by flows entry now h o.zones last (going_on o ++ others) steps more walk in
    let left : map bare (going_on o ++ others) ≡ plain.going_on p ++ map bare others =
    bare_both (going_on o) others ∙ ap (λ cs. cs ++ map bare others) (bare_both o.itself o.made ∙ ap (λ cs. cs ++ map bare o.made) b.itself ∙ ap (λ cs. p.itself ++ cs) b.made) in (
      r.0 ∙ b.zones_stay,
      plain.takes (bare copy) (map bare others) step steps more all here best (subst (λ cs. plain.IsWalk flows entry now cs steps more) left r.1) (is ∙ ap (λ es. es ++ more) (sym done.effects ∙ b.effects)),
    )

pub plain_walk : PlainWalks
plain_walk flows entry now packet before after steps effects h walk = bare_walk _ flows entry now h before after (start entry packet ∷ []) steps effects walk
