-- A step in a table that holds rows of the chassis: which row is taken, and what it does.
use Rattle.std.specs.Prelude.{◌≡◌, ◌<◌, ◌++◌, ℕ, true, List, [], ◌∷◌, map, refl}
use Rattle.std.proofs.Common.{sym, ap, ◌∙◌, subst, append-nil, inl}
use Rattle.conn_table.specs.Picks.{Choice}
use Rattle.flow_table.specs.Matching.{IsBest, NoneMatches}
use Rattle.flow_table.specs.declared.flow.Cause.{Cause}
use Rattle.flow_table.specs.declared.flow.Flow.{Flow}
use Rattle.flow_table.specs.declared.flow.FlowOp.TheVariants as op
use Rattle.flow_table.specs.declared.flow.Member.{Member}
use Rattle.inet_packet.specs.Fits.{CubeFits}
use Rattle.inet_packet.specs.declared.regs.Reg.TheVariants as reg
use Rattle.ovn_base.specs.declared.name.Name.{Name}
use Rattle.switch_engine.specs.Actions.{set_reg, drop_at, frame_to, gone_on, copies_for}
use Rattle.switch_engine.specs.Acts.{Doing, goes_next, tells}
use Rattle.switch_engine.specs.Outcome.{FlowOutcome, with_act, outcome, going_on, picks_in, IsDone}
use Rattle.switch_engine.specs.Walk.{unmatched}
use Rattle.switch_engine.specs.Walk.IsWalk.{ends, takes}
use Rattle.switch_engine.specs.Zones.{ZoneLists}
use Rattle.switch_engine.specs.declared.carried.Carried.{Carried}
use Rattle.switch_engine.specs.declared.effect.Effect.{Effect}
use Rattle.switch_engine.specs.declared.effect.Effect.TheVariants as effect
use Rattle.switch_engine.specs.declared.walk.Step.{Step}
use Rattle.sim_laws.proofs.pipelines.Tables.{DoesOps}
use Rattle.sim_laws.proofs.pipelines.WalkOn.{comes_step}
use Rattle.sim_laws.specs.passes.Physical.{HoldsAt}
use Rattle.sim_laws.specs.pipelines.Standing.{Chassis, course_of}
use Rattle.sim_laws.specs.pipelines.WalkOn.{Course, Walks, Reached, Parts, Comes}

-- ---- a row is taken

module _ (s : Chassis) (table : ℕ) (Row : Flow → Type 0) (holds : HoldsAt s table Row) where
  -- the flow is a row that fits the copy, and no other that does is of a greater priority
  pub record Taken (copy : Carried) (f : Flow) : Type 0 where
    pub row : Row f
    pub fits : CubeFits f.cube copy.regs copy.packet
    pub unbeaten : (g : Flow) → Row g → g.table ≡ table → CubeFits g.cube copy.regs copy.packet → ¬ (f.priority < g.priority)

  taken : (copy : Carried) → copy.table ≡ table → (f : Flow) → IsBest s.flows copy.table copy.regs copy.packet f → Taken copy f
  taken copy in_table f best = record {
    row = (holds f (best.matching.in_table ∙ in_table)).0 best.held;
    fits = best.matching.fits;
    unbeaten = λ g is of fits more. best.unbeaten g ((holds g of).1 is) (record { in_table = of ∙ sym in_table; fits = fits }) (inl more);
  }

  -- some row fits, and each that is taken does so
  pub row_step : (zones : ZoneLists) (copy : Carried) → copy.table ≡ table → (So : Reached) → (base : Flow) → Row base → base.table ≡ table → CubeFits base.cube copy.regs copy.packet
      → ((f : Flow) → Taken copy f → DoesOps s f.ops zones copy So) → Comes (course_of s) zones (copy ∷ []) So
  row_step zones copy in_table So base is of fits each =
      comes_step (course_of s) zones copy So (λ none. none base ((holds base of).1 is) (record { in_table = of ∙ sym in_table; fits = fits }))
      (λ f best. each f (taken copy in_table f best))

  -- no row does
  pub no_row : (copy : Carried) → copy.table ≡ table → ((f : Flow) → Row f → ¬ CubeFits f.cube copy.regs copy.packet) → NoneMatches s.flows copy.table copy.regs copy.packet
  no_row copy in_table never f among m = never f ((holds f (m.in_table ∙ in_table)).0 among) m.fits

  -- ---- the flow is that row

  pub row_fits : (copy : Carried) (f row : Flow) → Taken copy f → f ≡ row → CubeFits row.cube copy.regs copy.packet
  row_fits copy f row t e = subst (λ (g : Flow). CubeFits g.cube copy.regs copy.packet) e t.fits

  pub as_row : (zones : ZoneLists) (copy : Carried) (So : Reached) (f row : Flow) → f ≡ row → DoesOps s row.ops zones copy So → DoesOps s f.ops zones copy So
  as_row zones copy So f row e does = subst (λ (g : Flow). DoesOps s g.ops zones copy So) (sym e) does

-- a copy that no flow matches ends
pub comes_unmatched : (c : Course) (zones : ZoneLists) (copy : Carried) (So : Reached) → NoneMatches c.flows copy.table copy.regs copy.packet → So (unmatched c.entry copy) zones [] → Comes c zones (copy ∷ []) So
comes_unmatched c zones copy So none so = record { each = λ others steps all last walk. by_walk zones copy others steps all last none so walk }
  where
    by_walk : (zones : ZoneLists) (copy : Carried) (others : List Carried) (steps : List Step) (all : List Effect) (last : ZoneLists)
        → NoneMatches c.flows copy.table copy.regs copy.packet → So (unmatched c.entry copy) zones [] → Walks c zones (copy ∷ others) steps all last → Parts c others all last So
    by_walk _ _ _ _ _ _ none so (ends zones last copy others steps more all never walk is) = record {
      told = unmatched c.entry copy;
      zones = zones;
      copies = [];
      so = so;
      steps = steps;
      more = more;
      walk = walk;
      effects = is;
    }
    by_walk _ _ _ _ _ _ none so (takes zones last copy others step steps told more all in_table best done walk is) = absurd (none step.flow best.held best.matching)

-- ---- what rows do

module _ (s : Chassis) (zones : ZoneLists) (copy : Carried) (So : Reached) where
  -- to go on
  pub go_does : (n : ℕ) → So [] zones (gone_on n copy ∷ []) → DoesOps s (op.Go n ∷ []) zones copy So
  go_does n so told done = subst (λ l. So l zones (gone_on n copy ∷ [])) done.effects so

  -- to a port at home here
  abbrev pub homed : ℕ → Carried
  homed z = record copy { regs = record copy.regs { z_out = z } }

  pub home_does : (z n : ℕ) → So [] zones (gone_on n (homed z) ∷ []) → DoesOps s (op.Set reg.ZOut z ∷ op.Go n ∷ []) zones copy So
  home_does z n so told done = subst (λ l. So l zones (gone_on n (homed z) ∷ [])) done.effects so

  -- into the egress pipeline: what was found out is forgotten
  abbrev pub forgotten : Carried
  forgotten = record copy { regs = set_reg reg.Verdict 0 (set_reg reg.Blocked 0 (set_reg reg.State 0 (set_reg reg.Tracked 0 copy.regs))) }

  pub leave_does : (n : ℕ) → So [] zones (gone_on n forgotten ∷ []) → DoesOps s (op.Set reg.Tracked 0 ∷ op.Set reg.State 0 ∷ op.Set reg.Blocked 0 ∷ op.Set reg.Verdict 0 ∷ op.Go n ∷ []) zones copy So
  leave_does n so told done = subst (λ l. So l zones (gone_on n forgotten ∷ [])) done.effects so

  -- ---- to end

  pub drop_does : (why : Cause) → So (drop_at copy.table why copy.regs ∷ []) zones [] → DoesOps s (op.Drop why ∷ []) zones copy So
  drop_does why so told done = subst (λ l. So l zones []) done.effects so

  pub frame_does : (home : Name) → So (frame_to home copy ∷ []) zones [] → DoesOps s (op.Frame home ∷ []) zones copy So
  frame_does home so told done = subst (λ l. So l zones []) done.effects so

  pub output_does : (q : Name) → So (effect.Out q copy.packet ∷ []) zones [] → DoesOps s (op.Output q ∷ []) zones copy So
  output_does q so told done = subst (λ l. So l zones []) done.effects so

  -- ---- to a group

  pub copies_does : (members : List Member) → So [] zones (copies_for copy members) → DoesOps s (op.Copies members ∷ []) zones copy So
  copies_does members so told done =
      subst (λ l. So l zones (copies_for copy members ++ [])) done.effects (subst (λ l. So [] zones l) (sym (append-nil (copies_for copy members))) so)

  abbrev Spreads : List Name → FlowOutcome
  Spreads homes = record { effects = map (λ home. frame_to home copy) homes; itself = gone_on 33 copy ∷ []; made = []; zones = zones; left = []; legal = true; own = true }

  abbrev framing : List Choice → Doing
  framing choices = record { copy = copy; zones = zones; choices = choices }

  spreads : (choices : List Choice) (homes : List Name) → outcome s.entry s.scene.now (map (λ home. op.Frame home) homes ++ op.Go 33 ∷ []) (framing choices) ≡ record (Spreads homes) { left = choices }
  spreads choices [] = refl
  spreads choices (home ∷ homes) = ap (λ o. with_act (tells (frame_to home copy) (goes_next (framing choices))) o) (spreads choices homes)

  -- a frame to each of the chassis, and then here
  pub spread_does : (homes : List Name) → So (map (λ home. frame_to home copy) homes) zones (gone_on 33 copy ∷ []) → DoesOps s (map (λ home. op.Frame home) homes ++ op.Go 33 ∷ []) zones copy So
  spread_does homes so told =
      subst (λ (o : FlowOutcome). IsDone s.by o told → So told o.zones (going_on o)) (sym (spreads (picks_in told) homes)) (λ done. subst (λ l. So l zones (gone_on 33 copy ∷ [])) done.effects so)
