use Rattle.std.proofs.Common.{◌≡◌, None, ap, option_map, subst, sym, ◌∙◌}
use Rattle.std.proofs.lemmas.Result.{err_from_is_err_and}
use Rattle.edit_reader.specs.declared.event.Event.TheVariants as event_of
use Rattle.event_lines.specs.declared.refusal.Refusal.TheVariants as why
use Rattle.nb_edits.specs.OpFaults.{fault_of}
use Rattle.nb_edits.specs.Plans.{IsPlanBetween}
use Rattle.nb_records.specs.Editing.{accepted}
use Rattle.net_model.specs.State.{State}
use Rattle.northd_core.specs.Lowering.{IsLoweredPlan}
use Rattle.tunnel_keys.specs.Causes.{HasKeys}
use Rattle.tunnel_keys.specs.Edits.{IsAfter}
use Rattle.tunnel_keys.specs.Keys.{Keys}
use Rattle.world_setup.specs.Ground.{GroundView}
use Rattle.world_setup.specs.Refusing.{refusal}
use Rattle.world_setup.specs.Setup.{SetupView, lowering_in}
use Rattle.world_setup.specs.Turning.{IsPlannedEdit, MayTurn, Tells}
use Rattle.world_setup.specs.declared.setup.Setup.TheInside.{Inside}
use Rattle.world_setup.proofs.ReadiedChanges.{edit_tells, ground_with, keys_fit, keys_tell}
use Rattle.world_setup.proofs.setup.Setup.edit.Goals as goal

pub keys_for-requires : goal.keys_for-requires
keys_for-requires bounds c =
    let g = c.args.self.now.ground in
    let n = c.args.number in
    let ops = c.args.ops.now in
    let plan = c.in_ok-records.records in
    let start = ap (λ (i : Inside). i.ground) c.self-inside.view_is ∙ ap (λ (s : SetupView). s.ground) c.self.view_is in
    record {
      fits = keys_fit g n ops c.requires.may.0 c.requires.may.1 plan (sym c.is_built_edit.ensures ∙ c.if-not-is_built_edit.false) (subst (λ (x : GroundView). fault_of x.config.net ops n ≡ None) start c.in_ok-records.ensures.faultless)
          (subst (λ (x : GroundView). IsPlanBetween x.config.net (accepted x.config.net ops n) plan) start c.in_ok-records.ensures.stands) _ (ap (λ (x : GroundView). x.keys) start);
    }

pub returns-in_err-records-clause-refused : goal.returns-in_err-records-clause-refused
returns-in_err-records-clause-refused bounds c =
    let g = c.args.self.now.ground in
    let n = c.args.number in
    let ops = c.args.ops.now in
    let start = ap (λ (i : Inside). i.ground) c.self-inside.view_is ∙ ap (λ (s : SetupView). s.ground) c.self.view_is in
    let failed = err_from_is_err_and c.from_residual.result c.from_residual.ensures.1 in
    let told : Tells c.in_err-records.field-0.0 (option_map (λ f. why.Schema f) (fault_of g.config.net ops n)) = subst (λ (x : GroundView). Tells c.in_err-records.field-0.0 (option_map (λ f. why.Schema f) (fault_of x.config.net ops n))) start c.in_err-records.ensures.refused in
    rw failed.1 (λ m may. edit_tells g n ops m may failed.0 (sym c.is_built_edit.ensures ∙ c.if-not-is_built_edit.false) (subst (λ f. Tells f (option_map (λ f. why.Schema f) (fault_of g.config.net ops n))) (sym failed.2) told))

pub returns-in_err-keys-clause-refused : goal.returns-in_err-keys-clause-refused
returns-in_err-keys-clause-refused bounds c =
    let g = c.args.self.now.ground in
    let n = c.args.number in
    let ops = c.args.ops.now in
    let plan = c.in_ok-records.records in
    let start = ap (λ (i : Inside). i.ground) c.self-inside.view_is ∙ ap (λ (s : SetupView). s.ground) c.self.view_is in
    let none : fault_of g.config.net ops n ≡ None = subst (λ (x : GroundView). fault_of x.config.net ops n ≡ None) start c.in_ok-records.ensures.faultless in
    let stands : IsPlanBetween g.config.net (accepted g.config.net ops n) plan = subst (λ (x : GroundView). IsPlanBetween x.config.net (accepted x.config.net ops n) plan) start c.in_ok-records.ensures.stands in
    let failed = err_from_is_err_and c.from_residual-in_err-keys.result c.from_residual-in_err-keys.ensures.1 in
    rw failed.1 (λ m may. subst (λ f. Tells f (refusal m (event_of.Edit ops))) (sym failed.2)
    (keys_tell g n ops m may plan (sym c.is_built_edit.ensures ∙ c.if-not-is_built_edit.false) none stands _ (ap (λ (x : GroundView). x.keys) start) c.in_err-keys.field-0.0 c.in_err-keys.ensures.lacks))

pub lower-requires-clause-may : goal.lower-requires-clause-may
lower-requires-clause-may bounds c =
    let start = ap (λ (i : Inside). i.ground) c.self-inside.view_is ∙ ap (λ (s : SetupView). s.ground) c.self.view_is in
    let now = (λ i. ground_with (c.planned.ensures.kept i) c.self-inside.inside.0.0.chassis (c.keys_for.ensures.kept i) c.self-inside.inside.0.0.zones) ∙ start in
    subst (λ (x : GroundView). (m : State) × MayTurn x c.args.number (event_of.Edit c.args.ops.now) m) (sym now) c.requires.may

pub lower-requires-clause-planned : goal.lower-requires-clause-planned
lower-requires-clause-planned bounds c =
    let g = c.args.self.now.ground in
    let n = c.args.number in
    let ops = c.args.ops.now in
    let plan = c.in_ok-records.records in
    let keys = c.in_ok-keys.keys in
    let start = ap (λ (i : Inside). i.ground) c.self-inside.view_is ∙ ap (λ (s : SetupView). s.ground) c.self.view_is in
    let held = ap (λ (x : GroundView). x.keys) start in
    let now = (λ i. ground_with (c.planned.ensures.kept i) c.self-inside.inside.0.0.chassis (c.keys_for.ensures.kept i) c.self-inside.inside.0.0.zones) ∙ start in
    let planned : IsPlannedEdit g n ops plan keys = record {
      built = sym c.is_built_edit.ensures ∙ c.if-not-is_built_edit.false;
      faultless = subst (λ (x : GroundView). fault_of x.config.net ops n ≡ None) start c.in_ok-records.ensures.faultless;
      stands = subst (λ (x : GroundView). IsPlanBetween x.config.net (accepted x.config.net ops n) plan) start c.in_ok-records.ensures.stands;
      after = subst (λ (k : Keys). IsAfter k plan.added plan.removed keys) held c.in_ok-keys.ensures.after;
      enough = subst (λ (k : Keys). HasKeys k plan.added plan.removed) held c.in_ok-keys.ensures.enough;
    } in
    subst (λ (x : GroundView). IsPlannedEdit x n ops plan keys) (sym now) planned

pub edited-requires-clause-may : goal.edited-requires-clause-may
edited-requires-clause-may bounds c =
    let start = ap (λ (i : Inside). i.ground) c.self-inside.view_is ∙ ap (λ (s : SetupView). s.ground) c.self.view_is in
    let now = (λ i. ground_with (c.planned.ensures.kept i) c.self-inside.inside.0.0.chassis (c.keys_for.ensures.kept i) c.self-inside.inside.0.0.zones) ∙ start in
    subst (λ (x : GroundView). (m : State) × MayTurn x c.args.number (event_of.Edit c.args.ops.now) m) (sym (c.lower.ensures.kept ∙ now)) c.requires.may

pub edited-requires-clause-lowered : goal.edited-requires-clause-lowered
edited-requires-clause-lowered bounds c =
    subst (λ (x : GroundView). IsLoweredPlan (lowering_in x) (record { net = c.in_ok-records.records.after; keys = c.in_ok-keys.keys }) c.lower.new.self.lowered c.in_ok-lowered.lowered) (sym c.lower.ensures.kept) c.in_ok-lowered.ensures.planned

pub edited-requires-clause-planned : goal.edited-requires-clause-planned
edited-requires-clause-planned bounds c =
    let g = c.args.self.now.ground in
    let n = c.args.number in
    let ops = c.args.ops.now in
    let plan = c.in_ok-records.records in
    let keys = c.in_ok-keys.keys in
    let start = ap (λ (i : Inside). i.ground) c.self-inside.view_is ∙ ap (λ (s : SetupView). s.ground) c.self.view_is in
    let held = ap (λ (x : GroundView). x.keys) start in
    let now = (λ i. ground_with (c.planned.ensures.kept i) c.self-inside.inside.0.0.chassis (c.keys_for.ensures.kept i) c.self-inside.inside.0.0.zones) ∙ start in
    let planned : IsPlannedEdit g n ops plan keys = record {
      built = sym c.is_built_edit.ensures ∙ c.if-not-is_built_edit.false;
      faultless = subst (λ (x : GroundView). fault_of x.config.net ops n ≡ None) start c.in_ok-records.ensures.faultless;
      stands = subst (λ (x : GroundView). IsPlanBetween x.config.net (accepted x.config.net ops n) plan) start c.in_ok-records.ensures.stands;
      after = subst (λ (k : Keys). IsAfter k plan.added plan.removed keys) held c.in_ok-keys.ensures.after;
      enough = subst (λ (k : Keys). HasKeys k plan.added plan.removed) held c.in_ok-keys.ensures.enough;
    } in
    subst (λ x. IsPlannedEdit x n ops plan keys) (sym (c.lower.ensures.kept ∙ now)) planned
