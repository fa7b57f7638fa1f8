use Rattle.std.proofs.Common.{◌≡◌, ◌<◌, ◌≤◌, ◌∙◌, [], false, List, length, get_or, sym, ap, subst, take_all}
use Rattle.std.specs.List.{AllByRecursion}
use Rattle.std.specs.Map.{keys_of}
use Rattle.ovn_base.specs.declared.name.Name.{Name}
use Rattle.ovn_base.specs.lists.Among.{Among}
use Rattle.ovn_base.specs.lists.Once.{EachOnce}
use Rattle.ovn_base.specs.names.SameName.{same_name}
use Rattle.chassis_sim.specs.State.{at_name}
use Rattle.flow_table.specs.declared.flow.Flow.{Flow}
use Rattle.physical_flows.specs.Around.{around_everywhere}
use Rattle.physical_flows.specs.Compiling.{basis_of}
use Rattle.physical_flows.specs.declared.unit.FlowUnit.{FlowUnit}
use Rattle.physical_flows.proofs.UnitLaws.{all_around_alike}
use Rattle.world_setup.specs.Ground.{basis_in, ground_after}
use Rattle.world_setup.specs.Setup.{ArePatches, IsPatchAt, rows_on}
use Rattle.world_setup.proofs.FlowStores.{AllLead, all_have, are_patches, has_still, lead_more, names_more, next_among, next_apart, no_patch, patch_made, units_of_rows}
use Rattle.world_setup.proofs.ListedFlows.{none_first}
use Rattle.world_setup.proofs.stores.prepare_each.Goals as goal
use Rattle.world_setup.proofs.stores.prepare_each.Goals.{in-Some-2+in_ok-push, in_default-2}

pub prepare_one-requires-clause-once : goal.prepare_one-requires-clause-once
prepare_one-requires-clause-once c =
    let touched = c.args.touched.now in
    let units : keys_of c.as_slice-in-chassis.result.now ≡ touched = ap keys_of (c.as_slice-in-chassis.ensures ∙ c.in_ok-everywhere.ensures) ∙ units_of_rows (around_everywhere (basis_of c.maps.result)) touched in
    subst EachOnce (sym units) c.requires.units_once

pub prepare_one-requires-clause-everywhere : goal.prepare_one-requires-clause-everywhere
prepare_one-requires-clause-everywhere c =
    let after = ground_after c.args.change.now c.args.ground.now in
    let first = basis_of c.maps.result in
    let this = basis_of c.maps-maps.result in
    let alike : (u : FlowUnit) → around_everywhere first u ≡ around_everywhere this u = λ u.
    ap (λ b. around_everywhere b u) c.maps.ensures ∙ all_around_alike (basis_in after c.chassis-item.result) c.in-Some.first.now u ∙ sym (ap (λ b. around_everywhere b u) c.maps-maps.ensures) in
    subst (λ l. AllByRecursion (λ (e : FlowUnit × List Flow). e.1 ≡ around_everywhere this e.0) l) (sym (c.as_slice-in-chassis.ensures ∙ c.in_ok-everywhere.ensures))
    (all_have (around_everywhere first) (around_everywhere this) alike c.args.touched.now)

pub returns-in_err-patch-clause-kept : goal.returns-in_err-patch-clause-kept
returns-in_err-patch-clause-kept c name among =
    has_still c.args.ground.now c.args.stores.now.entries c.prepare_one.new.stores.entries name (c.prepare_one.ensures.kept name ∙ c.chassis.invariant.rows name) (c.requires.stand name among)

pub returns-in_err-push-clause-kept : goal.returns-in_err-push-clause-kept
returns-in_err-push-clause-kept c name among =
    has_still c.args.ground.now c.args.stores.now.entries c.prepare_one.new.stores.entries name (c.prepare_one.ensures.kept name ∙ c.chassis.invariant.rows name) (c.requires.stand name among)

pub chassis-preserved : goal.chassis-preserved
chassis-preserved c =
    let before = c.args.ground.now in
    let after = ground_after c.args.change.now before in
    let old = c.chassis.stores.entries in
    let new = c.prepare_one.new.stores.entries in
    let names = before.config.chassis in
    let name = c.chassis-item.result in
    let i = c.chassis.chassis-index in
    let touched = c.args.touched.now in
    let so_far = c.chassis.invariant in
    let items : c.as_slice-chassis-items.result.now ≡ names = c.as_slice-chassis-items.ensures ∙ ap (λ g. g.config.chassis) c.ground.view_is in
    let below : i < length names = subst (λ (l : List Name). i < length l) items c.chassis-test.true in
    let is : name ≡ get_or names i name = c.chassis-item.is ∙ ap (λ (l : List Name). get_or l i name) items in
    let among : Among name names = next_among names i name below is in
    let units : keys_of c.as_slice-in-chassis.result.now ≡ touched = ap keys_of (c.as_slice-in-chassis.ensures ∙ c.in_ok-everywhere.ensures) ∙ units_of_rows (around_everywhere (basis_of c.maps.result)) touched in
    let made : IsPatchAt (rows_on before name) (rows_on after name) (at_name new name) c.in_ok-patch.field-0 =
    patch_made before after name old new (keys_of c.as_slice-in-chassis.result.now) touched (basis_of c.maps-maps.result) c.in_ok-patch.field-0 c.maps-maps.ensures units c.in_ok-patch.ensures.patch
    (has_still before c.args.stores.now.entries old name (so_far.rows name) (c.requires.stand name among)) (c.requires.touched name among) in
    let others : (other : Name) → same_name name other ≡ false → at_name new other ≡ at_name old other =
    subst (λ (n : Name). (other : Name) → same_name n other ≡ false → at_name new other ≡ at_name old other) (ap (λ b. b.chassis) c.maps-maps.ensures) c.prepare_one.ensures.others in
    let apart = subst (λ l. ¬ Among name l) (sym so_far.chassis) (next_apart names i name c.requires.once below is) in
    elim c.match-branch-3.branch [
      | in-Some-2+in_ok-push w ↦
          let longer = w.patches-is ∙ w.in_ok-push.ensures.ok in
          record {
            rows = λ n. c.prepare_one.ensures.kept n ∙ so_far.rows n;
            chassis = ap keys_of longer ∙ names_more c.chassis.patches w.in-Some-2.patch names i name so_far.chassis below is;
            lead = subst (λ l. AllLead before after new l) (sym longer) (lead_more before after old new name others c.chassis.patches w.in-Some-2.patch apart so_far.lead
                (subst (λ o. IsPatchAt (rows_on before name) (rows_on after name) (at_name new name) o) w.in-Some-2.is made));
            spare = c.prepare_one.ensures.spare ∙ so_far.spare;
          }
      | in_default-2 w ↦ absurd (no_patch (rows_on before name) (rows_on after name) (at_name new name) (subst (λ o. IsPatchAt (rows_on before name) (rows_on after name) (at_name new name) o) w.in_default-2.is made))
    ]

pub returns-clause-kept : goal.returns-clause-kept
returns-clause-kept c name among =
    has_still c.args.ground.now c.args.stores.now.entries c.chassis.stores.entries name (c.chassis.invariant.rows name) (c.requires.stand name among)

pub returns-clause-patches : goal.returns-clause-patches
returns-clause-patches c =
    let before = c.args.ground.now in
    let items : c.as_slice-chassis-items.result.now ≡ before.config.chassis = c.as_slice-chassis-items.ensures ∙ ap (λ g. g.config.chassis) c.ground.view_is in
    let all : length before.config.chassis ≤ c.chassis.chassis-index = subst (λ (l : List Name). length l ≤ c.chassis.chassis-index) items c.chassis-test.false in
    are_patches before (ground_after c.args.change.now before) c.chassis.stores.entries c.chassis.patches (c.chassis.invariant.chassis ∙ take_all c.chassis.chassis-index before.config.chassis all) c.requires.once
    (λ name among. has_still before c.args.stores.now.entries c.chassis.stores.entries name (c.chassis.invariant.rows name) (c.requires.stand name among))
    c.chassis.invariant.lead

-- where no chassis is there, none has a patch
pub returns-in_default-clause-patches : goal.returns-in_default-clause-patches
returns-in_default-clause-patches c =
    let before = c.args.ground.now in
    let none : before.config.chassis ≡ [] = ap (λ g. g.config.chassis) (sym c.ground.view_is) ∙ sym c.as_slice.ensures ∙ none_first c.as_slice.result.now c.in_default.ensures.value in
    subst (ArePatches before (ground_after c.args.change.now before) c.args.stores.now.entries) (sym c.new-patches.ensures)
    (are_patches before (ground_after c.args.change.now before) c.args.stores.now.entries [] (sym none) c.requires.once c.requires.stand tt)
