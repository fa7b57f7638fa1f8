-- Just the chassis that are held have zones, after a change too.
use Rattle.std.specs.Prelude.{◌≡◌, ℕ, Bool, true, false, cond, List, [], ◌∷◌, map, Option, Some, None, is_some, refl}
use Rattle.std.proofs.Common.{sym, ap, subst, ◌∙◌}
use Rattle.ovn_base.specs.declared.delta.Delta.{Delta}
use Rattle.ovn_base.specs.declared.name.Name.{Name}
use Rattle.ovn_base.specs.names.SameName.{same_name}
use Rattle.flow_table.specs.declared.flow.Flow.{Flow}
use Rattle.switch_engine.specs.Zones.{ZoneLists}
use Rattle.chassis_sim.specs.declared.change.SimChange.{SimChange}
use Rattle.chassis_sim.specs.Changing.{AreReplaced, AreEmptied, IsRezoned, gone, come, without_zone}
use Rattle.chassis_sim.specs.Holding.{AreChassis}
use Rattle.chassis_sim.specs.Settings.{set_in_turn}
use Rattle.chassis_sim.specs.State.{at_name}
use Rattle.chassis_sim.proofs.Lookups.{set_append}

-- a delta leaves chassis where they were
replaced_some : (delta : Option (Delta Flow)) (before after : Option (List Flow)) → AreReplaced delta before after → is_some after ≡ is_some before
replaced_some (Some delta) (Some flows) after h = ap is_some h.1
replaced_some (Some delta) None after h = ap is_some h
replaced_some None before after h = ap is_some h

-- so do zones that are emptied
emptied_some : (emptied : List (Name × ℕ)) (name : Name) (before after : Option ZoneLists) → AreEmptied emptied name before after → is_some after ≡ is_some before
emptied_some emptied name None after h = ap is_some h
emptied_some emptied name (Some old) after h = ap is_some h.1

module _ {A B : Type 0} where
  -- tables and zones go together
  gone_alike : (names : List Name) (name : Name) (a : Option A) (b : Option B) → is_some a ≡ is_some b → is_some (set_in_turn same_name (map gone names) name a) ≡ is_some (set_in_turn same_name (map gone names) name b)
  gone_alike [] name a b h = h
  gone_alike (n ∷ names) name a b h = gone_alike names name (cond (same_name n name) None a) (cond (same_name n name) None b) (by (same_name n name))
    where
      by : (t : Bool) → is_some (cond t None a) ≡ is_some (cond t None b)
      by true = refl
      by false = h

module _ {T : Type 0} (flows_of : T → List Flow) where
  -- and come together
  come_alike : (added : List (Name × T)) (name : Name) (a : Option ZoneLists) (b : Option (List Flow)) → is_some a ≡ is_some b
      → is_some (set_in_turn same_name (map without_zone added) name a) ≡ is_some (set_in_turn same_name (map (come flows_of) added) name b)
  come_alike [] name a b h = h
  come_alike (e ∷ added) name a b h = come_alike added name (cond (same_name e.0 name) (Some []) a) (cond (same_name e.0 name) (Some (flows_of e.1)) b) (by (same_name e.0 name))
    where
      by : (t : Bool) → is_some (cond t (Some []) a) ≡ is_some (cond t (Some (flows_of e.1)) b)
      by true = refl
      by false = h

  -- chassis that go, chassis that come, and zones that are emptied, one after another
  pub rezoned : (change : SimChange T) (name : Name) (old left came new : Option ZoneLists)
      → left ≡ set_in_turn same_name (map gone change.removed) name old
      → came ≡ set_in_turn same_name (map without_zone change.added) name left
      → AreEmptied change.emptied name came new
      → IsRezoned flows_of change name old new
  rezoned change name old left came new l n e =
      subst (λ o. AreEmptied change.emptied name o new)
      (n ∙ ap (set_in_turn same_name (map without_zone change.added) name) l ∙ sym (set_append same_name (map gone change.removed) (map without_zone change.added) name old)) e

  -- just the chassis that are held have zones
  pub zoned_still : (change : SimChange T) (name : Name) (held replaced left_held new_held : Option (List Flow)) (old left came new : Option ZoneLists)
      → is_some old ≡ is_some held
      → AreReplaced (at_name change.tables name) held replaced
      → left_held ≡ set_in_turn same_name (map gone change.removed) name replaced
      → new_held ≡ set_in_turn same_name (map (come flows_of) change.added) name left_held
      → left ≡ set_in_turn same_name (map gone change.removed) name old
      → came ≡ set_in_turn same_name (map without_zone change.added) name left
      → AreEmptied change.emptied name came new
      → is_some new ≡ is_some new_held
  zoned_still change name held replaced left_held new_held old left came new same r lh nh l n e =
      let first = same ∙ sym (replaced_some (at_name change.tables name) held replaced r) in
      let left_same : is_some left ≡ is_some left_held = ap is_some l ∙ gone_alike change.removed name old replaced first ∙ ap is_some (sym lh) in
      emptied_some change.emptied name came new e ∙ ap is_some n ∙ come_alike change.added name left left_held left_same ∙ ap is_some (sym nh)

-- where flows and lists stay, just the chassis that are held have zones
pub still_chassis : (chassis others : List (Name × List Flow)) (zones lists : List (Name × ZoneLists)) → others ≡ chassis → lists ≡ zones → AreChassis chassis zones → AreChassis others lists
still_chassis chassis others zones lists c z are = subst (λ held. AreChassis held lists) (sym c) (subst (AreChassis chassis) (sym z) are)
