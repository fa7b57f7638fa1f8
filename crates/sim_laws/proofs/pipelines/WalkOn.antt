-- How walks go on, one step after another.
use Rattle.std.specs.Prelude.{◌≡◌, true, List, [], ◌∷◌, ◌++◌, refl}
use Rattle.std.proofs.Common.{sym, ap, ◌∙◌, append_assoc}
use Rattle.std.proofs.lemmas.Bool.{and_parts}
use Rattle.flow_table.specs.Matching.{IsBest, NoneMatches}
use Rattle.flow_table.specs.declared.flow.Flow.{Flow}
use Rattle.switch_engine.specs.Outcome.{Choosing, any_legal, of_program, FlowOutcome, admits, outcome, going_on, choosing, IsDone}
use Rattle.switch_engine.specs.Walk.IsWalk.{ends, takes}
use Rattle.switch_engine.specs.Zones.{ZoneLists}
use Rattle.switch_engine.specs.declared.carried.Carried.{Carried}
use Rattle.switch_engine.specs.declared.effect.Effect.{Effect}
use Rattle.switch_engine.specs.declared.walk.Step.{Step}
use Rattle.sim_laws.specs.pipelines.WalkOn.{Course, Walks, Reached, Parts, Comes}

-- whatever choices may be made, those that were are legal
pub are_legal : (by : Choosing) (o : FlowOutcome) → admits by o ≡ true → o.legal ≡ true
are_legal any_legal o h = h
are_legal of_program o h = (and_parts o.legal o.own h).0

module _ (c : Course) where
  -- no step yet
  pub comes_now : (zones : ZoneLists) (copies : List Carried) (So : Reached) → So [] zones copies → Comes c zones copies So
  comes_now zones copies So so = record {
    each = λ others steps all last walk. record { told = []; zones = zones; copies = copies; so = so; steps = steps; more = all; walk = walk; effects = refl };
  }

  -- so far, and from there on
  pub comes_on : (zones : ZoneLists) (copies : List Carried) (So Then : Reached) → Comes c zones copies So
      → ((told : List Effect) (middle : ZoneLists) (left : List Carried) → So told middle left → Comes c middle left (λ more last copies. Then (told ++ more) last copies))
      → Comes c zones copies Then
  comes_on zones copies So Then first rest = record {
    each = λ others steps all last walk.
        let f = first.each others steps all last walk in
        let r = (rest f.told f.zones f.copies f.so).each others f.steps f.more last f.walk in
        record {
          told = f.told ++ r.told;
          zones = r.zones;
          copies = r.copies;
          so = r.so;
          steps = r.steps;
          more = r.more;
          walk = r.walk;
          effects = f.effects ∙ ap (λ l. f.told ++ l) r.effects ∙ sym (append_assoc f.told r.told r.more);
        };
  }

  -- another word for how far it has come
  pub comes_as : (zones : ZoneLists) (copies : List Carried) (So Then : Reached) → ((told : List Effect) (after : ZoneLists) (left : List Carried) → So told after left → Then told after left)
      → Comes c zones copies So → Comes c zones copies Then
  comes_as zones copies So Then same first = record {
    each = λ others steps all last walk.
        let f = first.each others steps all last walk in
        record { told = f.told; zones = f.zones; copies = f.copies; so = same f.told f.zones f.copies f.so; steps = f.steps; more = f.more; walk = f.walk; effects = f.effects };
  }

  -- what a flow that is taken brings on
  abbrev pub Brings : ZoneLists → Carried → Reached → Flow → Type 0
  Brings zones copy So f =
      (told : List Effect) → IsDone c.by (outcome c.entry c.now f.ops (choosing copy zones told)) told
      → So told (outcome c.entry c.now f.ops (choosing copy zones told)).zones (going_on (outcome c.entry c.now f.ops (choosing copy zones told)))

  -- a step: some flow matches, and each that may be taken brings it so far
  pub comes_step : (zones : ZoneLists) (copy : Carried) (So : Reached) → (¬ NoneMatches c.flows copy.table copy.regs copy.packet)
      → ((f : Flow) → IsBest c.flows copy.table copy.regs copy.packet f → Brings zones copy So f) → Comes c zones (copy ∷ []) So
  comes_step zones copy So some each = record { each = λ others steps all last walk. by_walk zones copy others steps all last some each walk }
    where
      by_walk : (zones : ZoneLists) (copy : Carried) (others : List Carried) (steps : List Step) (all : List Effect) (last : ZoneLists)
          → (¬ NoneMatches c.flows copy.table copy.regs copy.packet) → ((f : Flow) → IsBest c.flows copy.table copy.regs copy.packet f → Brings zones copy So f)
          → Walks c zones (copy ∷ others) steps all last → Parts c others all last So
      by_walk _ _ _ _ _ _ some each (ends zones last copy others steps more all none walk is) = absurd (some none)
      by_walk _ _ _ _ _ _ some each (takes zones last copy others step steps told more all in_table best done walk is) = record {
        told = told;
        zones = (outcome c.entry c.now step.flow.ops (choosing copy zones told)).zones;
        copies = going_on (outcome c.entry c.now step.flow.ops (choosing copy zones told));
        so = each step.flow best told done;
        steps = steps;
        more = more;
        walk = walk;
        effects = is;
      }
