-- A consistent state stays so where a chassis or a binding comes.
use Rattle.net_model.proofs.ListLaws.{turned_keep}
use Rattle.net_model.specs.Transition.{turned_by, add_chassis, bind}
use Rattle.std.specs.Prelude.{◌≡◌, ◌<◌, ◌^◌, IsSome, true, refl}
use Rattle.std.proofs.Common.{arith, ap, sym, ◌∙◌, inl, inr}
use Rattle.ovn_base.specs.lists.Among.{Among}
use Rattle.ovn_base.specs.declared.name.Name.{Name}
use Rattle.ovn_base.specs.names.ByName.{at}
use Rattle.ovn_base.proofs.ByNameLaws.{put_cases}
use Rattle.conn_zones.specs.Rezoning.{IsRezoned}
use Rattle.conn_zones.specs.Zoning.{Zoned}
use Rattle.physical_flows.specs.Bindings.{AreBound}
use Rattle.sim_laws.specs.journeys.UnderWay.{BoundAreVirtual}
use Rattle.sim_laws.proofs.turn_laws.TurnedLists.{turned_at_home}
use Rattle.world_setup.specs.Consistent.{IsConsistent}
use Rattle.world_setup.specs.Refusing.{is_virtual_port}
use Rattle.net_model.specs.State.{State, event_count, finished}
use Rattle.world_setup.specs.Zones.{home_change}
use Rattle.world_setup.proofs.RecordChanges.{bound_fresh, born_kept}
use Rattle.world_setup.proofs.WaitingFrames.{same_kept, way_on}
use Rattle.world_setup.proofs.FreedKeys.{clock_still, counted, finished_consistent}

module _ (m : State) (zones : Zoned) (old : IsConsistent m zones) (room : event_count m < 2 ^ 42) where
  -- ---- a chassis

  pub chassis_comes : (c : Name) (after : Zoned) → AreBound (add_chassis m.config c).next after → IsConsistent (finished (turned_by (add_chassis m.config c) m)) after
  chassis_comes c after bound =
      let mid = turned_by (add_chassis m.config c) m in
      let n = counted mid in
      finished_consistent mid after (record {
        marks = old.marks;
        clock = clock_still m.clock m.accepted m.refused old.clock;
        lists = turned_keep (add_chassis m.config c) m old.lists;
        at_rest = record {
          valid = old.at_rest.valid;
          bound_virtual = old.at_rest.bound_virtual;
          at_home = turned_at_home m (add_chassis m.config c);
          keys = old.at_rest.keys;
          bound = bound;
          born = born_kept m n old.at_rest.born (omega arith) (λ h. absurd (omega arith)) refl refl;
          on_the_way = way_on m n old.at_rest.born (same_kept m n refl refl old.at_rest.keys.hold) old.at_rest.on_the_way refl refl (omega arith) (λ h. omega arith);
          few = omega (arith, room);
        };
      })

  -- ---- a binding

  pub port_bound : (p c : Name) (after : Zoned) → IsSome (at m.config.net.switch_ports p) → is_virtual_port (at m.config.net.switch_ports p) ≡ true → Among c m.config.chassis → IsRezoned zones (home_change p c) after → IsConsistent (finished (turned_by (bind m.config p c) m)) after
  port_bound p c after there virtual known rezoned =
      let mid = turned_by (bind m.config p c) m in
      let n = counted mid in
      finished_consistent mid after (record {
        marks = old.marks;
        clock = clock_still m.clock m.accepted m.refused old.clock;
        lists = turned_keep (bind m.config p c) m old.lists;
        at_rest = record {
          valid = old.at_rest.valid;
          bound_virtual = still_virtual;
          at_home = turned_at_home m (bind m.config p c);
          keys = old.at_rest.keys;
          bound = bound_fresh m n zones after p c old.at_rest.bound refl refl refl there known rezoned;
          born = born_kept m n old.at_rest.born (omega arith) (λ h. absurd (omega arith)) refl refl;
          on_the_way = way_on m n old.at_rest.born (same_kept m n refl refl old.at_rest.keys.hold) old.at_rest.on_the_way refl refl (omega arith) (λ h. omega arith);
          few = omega (arith, room);
        };
      })
    where
      -- the port that is bound is virtual, and each that was bound is so still
      still_virtual : BoundAreVirtual (bind m.config p c).next
      still_virtual q chassis port bound is = elim (put_cases m.config.bindings p c q chassis bound) [
        | inl new ↦ sym (ap is_virtual_port (ap (at m.config.net.switch_ports) (sym new.0) ∙ is)) ∙ virtual
        | inr was ↦ old.at_rest.bound_virtual q chassis port was.1 is
      ]
