-- What single actions do, and the actions of a flow on their way.
use Rattle.std.specs.Prelude.{◌≡◌, ◌&&◌, ℕ, nat_lt, true, false, Bool, cond, List, [], ◌∷◌, ◌++◌, Option, Some, None, option_to_list, Result, Ok, Err, refl}
use Rattle.std.specs.List.{AllByRecursion}
use Rattle.std.proofs.Common.{sym, ap, ◌∙◌, subst, append_assoc, append-nil}
use Rattle.ovn_base.specs.declared.limits.TheConstants.{MAX_HOPS}
use Rattle.ovn_base.specs.declared.name.Name.{Name}
use Rattle.inet_packet.specs.declared.regs.Regs.{Regs}
use Rattle.conn_table.specs.Picks.{Choice, to_backend, to_port}
use Rattle.flow_table.specs.declared.flow.Cause.{Cause}
use Rattle.flow_table.specs.declared.flow.Cause.TheVariants.{HopLimit}
use Rattle.flow_table.specs.declared.flow.FlowOp.{FlowOp}
use Rattle.flow_table.specs.declared.flow.FlowOp.TheVariants as op
use Rattle.flow_table.specs.declared.flow.ZoneOf.{ZoneOf}
use Rattle.switch_engine.specs.declared.actions.Turn.{Turn}
use Rattle.switch_engine.specs.declared.actions.Turn.TheVariants.{Next, Leaves, Ends}
use Rattle.switch_engine.specs.declared.carried.Carried.{Carried}
use Rattle.switch_engine.specs.declared.effect.Effect.{Effect}
use Rattle.switch_engine.specs.declared.effect.Effect.TheVariants as effect
use Rattle.switch_engine.specs.declared.effect.Entry.{Entry}
use Rattle.switch_engine.specs.Actions.{drop_at, frame_to, gone_on, patched, patched_regs}
use Rattle.switch_engine.specs.Acts.{Doing, Act, turns, goes_next, drops}
use Rattle.switch_engine.specs.Advance.{having, ActionDoes, DoesAll, Brings, Extends, IsCarriedInRange}
use Rattle.switch_engine.specs.Framed.{CanBeSent}
use Rattle.switch_engine.specs.Outcome.{FlowOutcome, act, outcome, ended, after_turn, with_act, patches, pick_in, picks_in}
use Rattle.switch_engine.specs.Commits.{Newcomer, begins}
use Rattle.switch_engine.specs.Zones.{ZoneLists, zone_number}
use Rattle.switch_engine.proofs.Lists.{all_append}

-- ---- one action

-- it has no effect, and the next one follows
pub does_quietly : {what : Doing → Act} {copy next : Carried} {zones after : ZoneLists} {effects all : List Effect} → all ≡ effects
    → ((rest : List Choice) → what (having copy zones [] rest) ≡ goes_next (having next after [] rest)) → ActionDoes what Next copy next zones after effects all []
does_quietly {effects = effects} same h = record { told = []; all_effects = same ∙ sym (append-nil effects); sent = tt; does = h }

-- the copy is dropped
pub does_drop : {what : Doing → Act} {copy : Carried} {zones : ZoneLists} {effects all : List Effect} (cause : Cause) → all ≡ effects ++ drop_at copy.table cause copy.regs ∷ []
    → ((rest : List Choice) → what (having copy zones [] rest) ≡ drops cause (having copy zones [] rest)) → ActionDoes what Ends copy copy zones zones effects all []
does_drop {copy = copy} cause is h = record { told = drop_at copy.table cause copy.regs ∷ []; all_effects = is; sent = (tt, tt); does = h }

-- no copy is made
pub does_all : {what : Doing → Act} {t : Turn} {copy next : Carried} {zones after : ZoneLists} {effects all : List Effect} {made : List Carried} → AllByRecursion IsCarriedInRange (next ∷ made) → ActionDoes what t copy next zones after effects all [] → DoesAll what t copy next zones after effects all made made
does_all {made = made} r d = record { copies = []; all_copies = sym (append-nil made); in_range = r; does = d }

-- ---- all actions of a flow

-- what was done so far and what the actions that are left bring on is what all bring on
pub record Doings (entry : Entry) (now : ℕ) (all_ops ops : List FlowOp) (first copy : Carried) (before zones : ZoneLists) (effects_before effects : List Effect) (made_before made : List Carried) : Type 0 where
  pub told : List Effect
  pub copies : List Carried
  pub all_effects : effects ≡ effects_before ++ told
  pub sent : AllByRecursion CanBeSent told
  pub all_copies : made ≡ made_before ++ copies
  pub in_range : AllByRecursion IsCarriedInRange (copy ∷ made)
  pub brings : (rest : List Choice) → outcome entry now all_ops (having first before told rest)
      ≡ with_act (record { turn = Next; after = having copy zones [] rest; effects = told; made = copies; legal = true; own = true }) (outcome entry now ops (having copy zones [] rest))

pub picks_both : (es fs : List Effect) → picks_in (es ++ fs) ≡ picks_in es ++ picks_in fs
picks_both [] fs = refl
picks_both (effect.PickBackend vni vip backend ∷ es) fs = ap (λ cs. to_backend backend ∷ cs) (picks_both es fs)
picks_both (effect.PickPort vni port ∷ es) fs = ap (λ cs. to_port port ∷ cs) (picks_both es fs)
picks_both (effect.Out port packet ∷ es) fs = picks_both es fs
picks_both (effect.Frame chassis vni in_key out_key packet ∷ es) fs = picks_both es fs
picks_both (effect.Drop vni port cause ∷ es) fs = picks_both es fs
picks_both (effect.Lost ∷ es) fs = picks_both es fs

-- nothing more comes
closed : (itself : List Carried) (told : List Effect) (copies : List Carried) (d : Doing)
    → with_act (record { turn = Next; after = d; effects = told; made = copies; legal = true; own = true }) (ended itself d)
    ≡ record { effects = told; itself = itself; made = copies; zones = d.zones; left = d.choices; legal = true; own = true }
closed itself told copies d =
    ap (λ (es : List Effect). record (ended itself d) { effects = es; made = copies ++ [] }) (append-nil told)
    ∙ ap (λ (cs : List Carried). record (ended itself d) { effects = told; made = cs }) (append-nil copies)

module _ {entry : Entry} {now : ℕ} {all_ops : List FlowOp} {first : Carried} {before : ZoneLists} {effects_before : List Effect} {made_before : List Carried} where
  -- before the first
  pub doings_first : AllByRecursion IsCarriedInRange (first ∷ made_before) → Doings entry now all_ops all_ops first first before before effects_before effects_before made_before made_before
  doings_first r = record {
    told = [];
    copies = [];
    all_effects = sym (append-nil effects_before);
    sent = tt;
    all_copies = sym (append-nil made_before);
    in_range = r;
    brings = λ rest. refl;
  }

  module _ {o : FlowOp} {ops : List FlowOp} {copy next : Carried} {zones after : ZoneLists} {effects all : List Effect} {made all_made : List Carried} where
    -- after one more, what it brings on with those that are left
    then_brings : (t : Turn) (d : Doings entry now all_ops (o ∷ ops) first copy before zones effects_before effects made_before made) (x : DoesAll (act entry now o) t copy next zones after effects all made all_made) (rest : List Choice)
        → outcome entry now all_ops (having first before (d.told ++ x.does.told) rest)
        ≡ with_act (record { turn = Next; after = having next after [] rest; effects = d.told ++ x.does.told; made = d.copies ++ x.copies; legal = true; own = true }) (after_turn t (having next after [] rest) (outcome entry now ops))
    then_brings t d x rest =
        ap (λ (cs : List Choice). outcome entry now all_ops (record { copy = first; zones = before; choices = cs })) (ap (λ cs. cs ++ rest) (picks_both d.told x.does.told) ∙ append_assoc (picks_in d.told) (picks_in x.does.told) rest)
        ∙ d.brings (picks_in x.does.told ++ rest)
        ∙ ap (λ (a : Act). with_act (record { turn = Next; after = having next after [] rest; effects = d.told; made = d.copies; legal = true; own = true }) (with_act a (after_turn a.turn a.after (outcome entry now ops)))) (x.does.does rest)
        ∙ regroup (after_turn t (having next after [] rest) (outcome entry now ops))
      where
        regroup : (r : FlowOutcome) → with_act (record { turn = Next; after = having next after [] rest; effects = d.told; made = d.copies; legal = true; own = true }) (with_act (record { turn = t; after = having next after [] rest; effects = x.does.told; made = x.copies; legal = true; own = true }) r)
            ≡ with_act (record { turn = Next; after = having next after [] rest; effects = d.told ++ x.does.told; made = d.copies ++ x.copies; legal = true; own = true }) r
        regroup r =
            ap (λ (es : List Effect). record r { effects = es; made = d.copies ++ (x.copies ++ r.made) }) (sym (append_assoc d.told x.does.told r.effects))
            ∙ ap (λ (cs : List Carried). record r { effects = (d.told ++ x.does.told) ++ r.effects; made = cs }) (sym (append_assoc d.copies x.copies r.made))

    told_all : (d : Doings entry now all_ops (o ∷ ops) first copy before zones effects_before effects made_before made) (t : Turn) (x : DoesAll (act entry now o) t copy next zones after effects all made all_made) → all ≡ effects_before ++ (d.told ++ x.does.told)
    told_all d t x = x.does.all_effects ∙ ap (λ es. es ++ x.does.told) d.all_effects ∙ append_assoc effects_before d.told x.does.told

    made_all : (d : Doings entry now all_ops (o ∷ ops) first copy before zones effects_before effects made_before made) (t : Turn) (x : DoesAll (act entry now o) t copy next zones after effects all made all_made) → all_made ≡ made_before ++ (d.copies ++ x.copies)
    made_all d t x = x.all_copies ∙ ap (λ cs. cs ++ x.copies) d.all_copies ∙ append_assoc made_before d.copies x.copies

    sent_all : (d : Doings entry now all_ops (o ∷ ops) first copy before zones effects_before effects made_before made) (t : Turn) (x : DoesAll (act entry now o) t copy next zones after effects all made all_made) → AllByRecursion CanBeSent (d.told ++ x.does.told)
    sent_all d t x = all_append CanBeSent d.told x.does.told d.sent x.does.sent

    -- the next one follows
    pub doings_next : DoesAll (act entry now o) Next copy next zones after effects all made all_made → Doings entry now all_ops (o ∷ ops) first copy before zones effects_before effects made_before made
        → Doings entry now all_ops ops first next before after effects_before all made_before all_made
    doings_next x d = record {
      told = d.told ++ x.does.told;
      copies = d.copies ++ x.copies;
      all_effects = told_all d Next x;
      sent = sent_all d Next x;
      all_copies = made_all d Next x;
      in_range = x.in_range;
      brings = then_brings Next d x;
    }

    -- the copy goes on at its table
    pub doings_leave : DoesAll (act entry now o) Leaves copy next zones after effects all made all_made → Doings entry now all_ops (o ∷ ops) first copy before zones effects_before effects made_before made
        → Brings entry now all_ops first (Some next) before after effects_before all made_before all_made
    doings_leave x d = record {
      told = d.told ++ x.does.told;
      copies = d.copies ++ x.copies;
      all_effects = told_all d Leaves x;
      sent = sent_all d Leaves x;
      all_copies = made_all d Leaves x;
      in_range = x.in_range;
      brings = λ rest. then_brings Leaves d x rest ∙ closed (next ∷ []) (d.told ++ x.does.told) (d.copies ++ x.copies) (having next after [] rest);
    }

    -- it ends
    pub doings_end : DoesAll (act entry now o) Ends copy next zones after effects all made all_made → Doings entry now all_ops (o ∷ ops) first copy before zones effects_before effects made_before made
        → Brings entry now all_ops first None before after effects_before all made_before all_made
    doings_end x d = record {
      told = d.told ++ x.does.told;
      copies = d.copies ++ x.copies;
      all_effects = told_all d Ends x;
      sent = sent_all d Ends x;
      all_copies = made_all d Ends x;
      in_range = x.in_range.1;
      brings = λ rest. then_brings Ends d x rest ∙ closed [] (d.told ++ x.does.told) (d.copies ++ x.copies) (having next after [] rest);
    }

  -- they have run out
  pub doings_over : {copy : Carried} {zones : ZoneLists} {effects : List Effect} {made : List Carried} → Doings entry now all_ops [] first copy before zones effects_before effects made_before made
      → Brings entry now all_ops first None before zones effects_before effects made_before made
  doings_over {copy} {zones} d = record {
    told = d.told;
    copies = d.copies;
    all_effects = d.all_effects;
    sent = d.sent;
    all_copies = d.all_copies;
    in_range = d.in_range.1;
    brings = λ rest. d.brings rest ∙ closed [] d.told d.copies (having copy zones [] rest);
  }

  -- some effects came
  pub doings_extend : {ops : List FlowOp} {copy : Carried} {zones : ZoneLists} {effects : List Effect} {made : List Carried} → Doings entry now all_ops ops first copy before zones effects_before effects made_before made → {all : List Effect} → Extends effects all → Extends effects_before all
  doings_extend d x = record { more = d.told ++ x.more; all_effects = x.all_effects ∙ ap (λ es. es ++ x.more) d.all_effects ∙ append_assoc effects_before d.told x.more }

-- ---- ways to say what an action does

-- another way to say it, for this copy and these zones
pub does_same : {what other : Doing → Act} {t : Turn} {copy next : Carried} {zones after : ZoneLists} {effects all : List Effect} {copies : List Carried} → ((d : Doing) → d.copy ≡ copy → d.zones ≡ zones → other d ≡ what d)
    → ActionDoes what t copy next zones after effects all copies → ActionDoes other t copy next zones after effects all copies
does_same {copy = copy} {zones = zones} same d = record { told = d.told; all_effects = d.all_effects; sent = d.sent; does = λ rest. same (having copy zones d.told rest) refl refl ∙ d.does rest }

-- by the operation
pub of_op : (entry : Entry) (now : ℕ) {o p : FlowOp} {t : Turn} {copy next : Carried} {zones after : ZoneLists} {effects all : List Effect} {copies : List Carried} → o ≡ p → ActionDoes (act entry now p) t copy next zones after effects all copies
    → ActionDoes (act entry now o) t copy next zones after effects all copies
of_op entry now is d = does_same (λ x c z. ap (λ q. act entry now q x) is) d

pub by_op : (entry : Entry) (now : ℕ) {o p : FlowOp} {t : Turn} {copy next : Carried} {zones after : ZoneLists} {effects all : List Effect} {made : List Carried} → o ≡ p → AllByRecursion IsCarriedInRange (next ∷ made) → ActionDoes (act entry now p) t copy next zones after effects all []
    → DoesAll (act entry now o) t copy next zones after effects all made made
by_op entry now is r d = does_all r (of_op entry now is d)

-- a connection begins in the zone of the register
pub by_zone : {begin : Newcomer → Doing → Act} {t : Turn} {copy next : Carried} {zones after : ZoneLists} {effects all : List Effect} (zone : ZoneOf) (k : ℕ) → k ≡ zone_number zone copy.regs → ActionDoes (begins k begin) t copy next zones after effects all []
    → ActionDoes (λ d. begins (zone_number zone d.copy.regs) begin d) t copy next zones after effects all []
by_zone {begin} zone k is d = does_same (λ x c z. ap (λ (y : Carried). begins (zone_number zone y.regs) begin x) c ∙ ap (λ n. begins n begin x) (sym is)) d

pub does_go : (entry : Entry) (now table : ℕ) (copy : Carried) (zones : ZoneLists) (effects : List Effect) → ActionDoes (act entry now (op.Go table)) Leaves copy (gone_on table copy) zones zones effects effects []
does_go entry now table copy zones effects = record { told = []; all_effects = sym (append-nil effects); sent = tt; does = λ rest. refl }

pub does_frame : (entry : Entry) (now : ℕ) {copy : Carried} {zones : ZoneLists} {effects all : List Effect} (chassis : Name) → IsCarriedInRange copy → all ≡ effects ++ frame_to chassis copy ∷ [] → ActionDoes (act entry now (op.Frame chassis)) Next copy copy zones zones effects all []
does_frame entry now {copy} chassis r is = record { told = frame_to chassis copy ∷ []; all_effects = is; sent = ((r.regs.dp_within, r.regs.in_port_within, r.whole), tt); does = λ rest. refl }

pub does_output : (entry : Entry) (now : ℕ) {copy : Carried} {zones : ZoneLists} {effects all : List Effect} (port : Name) → all ≡ effects ++ effect.Out port copy.packet ∷ [] → ActionDoes (act entry now (op.Output port)) Next copy copy zones zones effects all []
does_output entry now {copy} port is = record { told = effect.Out port copy.packet ∷ []; all_effects = is; sent = (tt, tt); does = λ rest. refl }

pub does_patch : (entry : Entry) (now : ℕ) {t : Turn} {copy next : Carried} {zones after : ZoneLists} {effects all : List Effect} (dp in_port z_dnat z_snat : ℕ) (regs : Regs) → regs ≡ patched_regs dp in_port z_dnat z_snat copy.regs
    → ActionDoes (patches regs) t copy next zones after effects all [] → ActionDoes (act entry now (op.Patch dp in_port z_dnat z_snat)) t copy next zones after effects all []
does_patch entry now dp in_port z_dnat z_snat regs is d =
    does_same (λ x c z. ap (λ (y : Carried). patches (patched_regs dp in_port z_dnat z_snat y.regs) x) c ∙ ap (λ r. patches r x) (sym is)) d
