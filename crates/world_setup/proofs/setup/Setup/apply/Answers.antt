use Rattle.std.proofs.Common.{◌≡◌, ◌∙◌, List, sym, subst, ap, rules}
use Rattle.ovn_base.specs.declared.name.Name.{Name}
use Rattle.ovn_base.specs.lists.Among.{Among}
use Rattle.physical_flows.specs.UnitFlows.{UnitStore}
use Rattle.world_setup.specs.Ground.{GroundView, ground_after}
use Rattle.northd_core.specs.Lowering.{HaveLowered}
use Rattle.world_setup.specs.Setup.{HasStore, HaveStores, IsSetupPatch, SetupView, StandsForGround, lowering_in}
use Rattle.world_setup.proofs.FlowStores.{all_ready}
use Rattle.world_setup.proofs.SetupTurns.{nobody_came, one_came, put_same}
use Rattle.world_setup.proofs.setup.Setup.apply.Goals as goal
use Rattle.world_setup.proofs.setup.Setup.apply.Goals.{in-Some+in-Ok+in-Ok+in-Some-1, in-Some+in-Ok+in-Ok+in-None-1, in-Some+in-Ok+in-Err-1, in_default}

pub apply_each-requires-clause-once : goal.apply_each-requires-clause-once
apply_each-requires-clause-once c = c.requires.patches.once

pub apply_each-requires-clause-ready : goal.apply_each-requires-clause-ready
apply_each-requires-clause-ready c =
    let had = subst (λ (s : SetupView). IsSetupPatch s c.args.patch) (sym c.self.view_is) c.requires in
    all_ready c.self.inside.ground (ground_after c.args.patch.change c.self.inside.ground) c.self.inside.stores.entries c.args.patch.patches had.patches

pub apply_lowered-requires : goal.apply_lowered-requires
apply_lowered-requires c =
    let had = subst (λ (s : SetupView). IsSetupPatch s c.args.patch) (sym c.self.view_is) c.requires in
    (c.self.inside.ground, ground_after c.args.patch.change c.self.inside.ground, had.lowered)

pub invariant_of-self : goal.invariant_of-self
invariant_of-self c =
    let patch = c.args.patch in
    let before = c.self.inside.ground in
    let after = ground_after patch.change before in
    let had = subst (λ (s : SetupView). IsSetupPatch s patch) (sym c.self.view_is) c.requires in
    let stores = c.apply_each.new.stores.entries in
    let olds : (d : Name) → Among d before.config.chassis → HasStore after stores d = c.apply_each.ensures.leads before after had.patches.each in
    let now = c.match-come.self-inside in
    let lowered : HaveLowered (lowering_in after) c.apply_lowered.new.lowered = c.apply_lowered.ensures before after c.self.invariant.lowered had.lowered in
    let there : (all : List (Name × UnitStore)) → now.ground ≡ before → now.lowered ≡ c.apply_lowered.new.lowered → now.stores.entries ≡ all → ((d : Name) → Among d after.config.chassis → HasStore after all d)
    → StandsForGround c.apply.new.self now.lowered now.stores.entries =
    λ all ground low es have.
    let is : c.apply.new.self ≡ after = c.apply.ensures ∙ ap (ground_after patch.change) ground in
    subst (λ (g : GroundView). StandsForGround g now.lowered now.stores.entries) (sym is)
    (record { lowered = subst (λ l. HaveLowered (lowering_in after) l) (sym low) lowered; stores = subst (λ l. HaveStores after l) (sym es) have }) in
    elim c.match-come.branch [
      | in-Some+in-Ok+in-Ok+in-Some-1 w ↦
          there w.insert.new.self.entries (ap (λ s. s.ground) w.self-inside-is) (ap (λ s. s.lowered) w.self-inside-is) (ap (λ s. s.stores.entries) w.self-inside-is)
          (one_came before after patch.come stores olds had.chassis w.in-Some.name w.in-Some.flows w.insert.new.self.entries w.in-Some.is (had.new w.in-Some.name w.in-Some.flows w.in-Some.is)
          (put_same before after patch.come stores olds had.chassis _ w.in-Some.name _ w.in-Some.flows w.insert.new.self.entries w.in-Ok.ensures.updates.0 (search rules) w.in-Some.is))
      | in-Some+in-Ok+in-Ok+in-None-1 w ↦
          there w.insert.new.self.entries (ap (λ s. s.ground) w.self-inside-is) (ap (λ s. s.lowered) w.self-inside-is) (ap (λ s. s.stores.entries) w.self-inside-is)
          (one_came before after patch.come stores olds had.chassis w.in-Some.name w.in-Some.flows w.insert.new.self.entries w.in-Some.is (had.new w.in-Some.name w.in-Some.flows w.in-Some.is)
          (put_same before after patch.come stores olds had.chassis _ w.in-Some.name _ w.in-Some.flows w.insert.new.self.entries w.in-Ok.ensures.updates.0 (search rules) w.in-Some.is))
      | in-Some+in-Ok+in-Err-1 w ↦
          there w.insert.new.self.entries (ap (λ s. s.ground) w.self-inside-is) (ap (λ s. s.lowered) w.self-inside-is) (ap (λ s. s.stores.entries) w.self-inside-is)
          (one_came before after patch.come stores olds had.chassis w.in-Some.name w.in-Some.flows w.insert.new.self.entries w.in-Some.is (had.new w.in-Some.name w.in-Some.flows w.in-Some.is)
          (put_same before after patch.come stores olds had.chassis _ w.in-Some.name _ w.in-Some.flows w.insert.new.self.entries w.in-Ok.ensures.updates.0 (search rules) w.in-Some.is))
      | in_default w ↦ there stores (ap (λ s. s.ground) w.self-inside-is) (ap (λ s. s.lowered) w.self-inside-is) (ap (λ s. s.stores.entries) w.self-inside-is) (nobody_came before after patch.come stores olds had.chassis w.in_default.is)
    ]
