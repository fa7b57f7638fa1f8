-- No flow is both a lowered row and one of the tables around the pipelines: these are tables of no stage.
use Rattle.std.specs.Prelude.{◌≡◌, ◌++◌, false, List, []}
use Rattle.std.proofs.Common.{sym, ap, ◌∙◌, inl, inr}
use Rattle.std.proofs.lemmas.Bool.{false≢true}
use Rattle.flow_lowering.specs.LoweredFlows.{flow_on, lowered_cubes, lowered_ops}
use Rattle.flow_table.specs.declared.flow.Flow.{Flow}
use Rattle.northd_core.specs.Lowering.{IsLoweredIn, Lowering}
use Rattle.northd_core.specs.Plans.{ListsEach, IsChange}
use Rattle.ovn_base.proofs.AmongLaws.{among_append, among_left, among_none, among_right, map_among}
use Rattle.ovn_base.proofs.OnceLaws.{once_append}
use Rattle.ovn_base.specs.declared.delta.Delta.{Delta}
use Rattle.ovn_base.specs.lists.Among.{Among}
use Rattle.physical_flows.proofs.AroundSets.{around_set}
use Rattle.physical_flows.proofs.Tables.{around_tables}
use Rattle.physical_flows.specs.Around.{AroundFlow, around_rows, is_around}
use Rattle.physical_flows.specs.ChassisFlows.{AreExactly}
use Rattle.physical_flows.specs.Switched.{IsKeyed}
use Rattle.physical_flows.specs.Stages.{Basis}
use Rattle.physical_flows.specs.UnitFlows.{IsRowChange}
use Rattle.physical_flows.specs.Units.{no_rows}
use Rattle.sim_laws.proofs.journey_laws.Filling.{not_around}
use Rattle.world_setup.specs.Setup.{IsFlowBy, both_deltas}

-- ---- tables

lowered_table : (l : Lowering) (f : Flow) → IsLoweredIn l f → is_around f.table ≡ false
lowered_table l f h =
    let cube = map_among (flow_on h.row (lowered_ops l.keys h.row.actions)) f (lowered_cubes l.keys _ h.row h.datapath) h.among in
    ap (λ (g : Flow). is_around g.table) cube.2 ∙ not_around h.row.stage

pub never_both : (l : Lowering) (b : Basis) (f : Flow) → IsLoweredIn l f → ¬ AroundFlow b f
never_both l b f row around = false≢true (sym (lowered_table l f row) ∙ around_tables b f around)

-- ---- flows of both kinds

abbrev lowering_by : Basis → Lowering
lowering_by b = record { net = b.net; keys = b.keys }

-- the lowered rows and those that come around the pipelines are all flows of the chassis
pub flows_of_both : (b : Basis) → IsKeyed b.net b.keys → (listed : List Flow) → ListsEach (IsLoweredIn (record { net = b.net; keys = b.keys })) listed → (delta : Delta Flow) → IsRowChange no_rows (around_rows b) delta
    → AreExactly (IsFlowBy b) (listed ++ delta.added)
flows_of_both b keys listed lists delta change = record {
  same = λ f. (
    λ m. elim (among_append f listed delta.added m) [ inl l ↦ inl ((lists.those f).0 l) | inr r ↦ inr ((around_set b keys f).0 ((change.come f).0 r).1) ],
    λ h. elim h [
      | inl l ↦ among_left f listed delta.added ((lists.those f).1 l)
      | inr r ↦ among_right f listed delta.added ((change.come f).1 (λ none. among_none f none.among, (around_set b keys f).1 r))
    ],
  );
  once = once_append listed delta.added lists.once change.come_once (λ f l r. never_both (lowering_by b) b f ((lists.those f).0 l) ((around_set b keys f).0 ((change.come f).0 r).1));
}

-- where both change, the flows of the chassis change by one delta and then the other
module _ (b a : Basis) (had : IsKeyed b.net b.keys) (have : IsKeyed a.net a.keys) (every own : Delta Flow) (lowered : IsChange (IsLoweredIn (record { net = b.net; keys = b.keys })) (IsLoweredIn (record { net = a.net; keys = a.keys })) every)
    (around : IsRowChange (around_rows b) (around_rows a) own) where
  comes : (f : Flow) → Among f (every.added ++ own.added) → (¬ IsFlowBy b f) × IsFlowBy a f
  comes f m = elim (among_append f every.added own.added m) [
    | inl l ↦ (
        let is = (lowered.come f).0 l in
        (λ was. elim was [ inl row ↦ is.0 row | inr row ↦ never_both (lowering_by a) b f is.1 row ], inl is.1))
    | inr r ↦ (
        let is = (around.come f).0 r in
        let now = (around_set a have f).0 is.1 in
        (λ was. elim was [ inl row ↦ never_both (lowering_by b) a f row now | inr row ↦ is.0 ((around_set b had f).1 row) ], inr now))
  ]

  has_come : (f : Flow) → (¬ IsFlowBy b f) → IsFlowBy a f → Among f (every.added ++ own.added)
  has_come f new (inl row) = among_left f every.added own.added ((lowered.come f).1 (λ was. new (inl was), row))
  has_come f new (inr row) = among_right f every.added own.added ((around.come f).1 (λ was. new (inr ((around_set b had f).0 was)), (around_set a have f).1 row))

  goes : (f : Flow) → Among f (every.removed ++ own.removed) → IsFlowBy b f × (¬ IsFlowBy a f)
  goes f m = elim (among_append f every.removed own.removed m) [
    | inl l ↦ (
        let is = (lowered.go f).0 l in
        (inl is.0, λ stays. elim stays [ inl row ↦ is.1 row | inr row ↦ never_both (lowering_by b) a f is.0 row ]))
    | inr r ↦ (
        let is = (around.go f).0 r in
        let was = (around_set b had f).0 is.0 in
        (inr was, λ stays. elim stays [ inl row ↦ never_both (lowering_by a) b f row was | inr row ↦ is.1 ((around_set a have f).1 row) ]))
  ]

  has_gone : (f : Flow) → IsFlowBy b f → (¬ IsFlowBy a f) → Among f (every.removed ++ own.removed)
  has_gone f (inl row) gone = among_left f every.removed own.removed ((lowered.go f).1 (row, λ stays. gone (inl stays)))
  has_gone f (inr row) gone = among_right f every.removed own.removed ((around.go f).1 ((around_set b had f).1 row, λ stays. gone (inr ((around_set a have f).0 stays))))

  pub change_of_both : IsChange (IsFlowBy b) (IsFlowBy a) (both_deltas every own)
  change_of_both = record {
    come = λ f. (λ m. comes f m, λ h. has_come f h.0 h.1);
    go = λ f. (λ m. goes f m, λ h. has_gone f h.0 h.1);
    come_once = once_append every.added own.added lowered.come_once around.come_once (λ f l r. never_both (lowering_by a) a f ((lowered.come f).0 l).1 ((around_set a have f).0 ((around.come f).0 r).1));
    go_once = once_append every.removed own.removed lowered.go_once around.go_once (λ f l r. never_both (lowering_by b) b f ((lowered.go f).0 l).0 ((around_set b had f).0 ((around.go f).0 r).0));
  }

-- nothing comes and nothing goes where all stays
pub nothing_changes : (P : Flow → Type 0) → IsChange P P (record { added = []; removed = [] })
nothing_changes P = record {
  come = λ f. (λ m. absurd (among_none f m), λ h. absurd (h.0 h.1));
  go = λ f. (λ m. absurd (among_none f m), λ h. absurd (h.1 h.0));
  come_once = tt;
  go_once = tt;
}
