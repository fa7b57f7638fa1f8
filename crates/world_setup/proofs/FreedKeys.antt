-- A state stays consistent where retired keys are given up because nothing waits.
use Rattle.std.specs.Prelude.{◌≡◌, ◌+◌, ◌*◌, ◌≤◌, ℕ, List, [], ◌∷◌, refl}
use Rattle.std.proofs.Common.{arith, subst}
use Rattle.ovn_base.specs.declared.limits.TheConstants.{MAX_CLOCK}
use Rattle.ovn_base.specs.lists.Among.{Among}
use Rattle.ovn_base.proofs.AmongLaws.{among_none}
use Rattle.conn_zones.specs.Zoning.{Zoned}
use Rattle.tunnel_keys.proofs.Births.{settled_born}
use Rattle.tunnel_keys.specs.Keys.{Keys, settled}
use Rattle.tunnel_keys.proofs.Invariant.{settled_hold}
use Rattle.net_model.specs.declared.crossing.Crossing.{Crossing}
use Rattle.sim_laws.specs.journeys.AtRest.{IsAtRest}
use Rattle.world_setup.specs.Consistent.{IsConsistent}
use Rattle.net_model.specs.State.{State, event_count, finished, settled_where_none_waits}

-- the state, with one event more that was accepted
abbrev pub counted : State → State
counted m = record m { accepted = m.accepted + 1 }

module _ (c : State) (zones : Zoned) (old : IsAtRest c zones) where
  abbrev under : Keys → State
  under keys = record c { keys = keys }

  none_waits : c.waiting ≡ [] → (k : ℕ) (x : Crossing) → Among (k, x) c.waiting → ⊥
  none_waits e k x among = among_none (k, x) (subst (λ ws. Among (k, x) ws) e among)

  settle : c.waiting ≡ [] → IsAtRest (under (settled c.keys)) zones
  settle e = record {
    valid = old.valid;
    bound_virtual = old.bound_virtual;
    keys = record {
      hold = settled_hold c.keys old.keys.hold;
      datapath_has = old.keys.datapath_has;
      router_has = old.keys.router_has;
      datapath_of = old.keys.datapath_of;
      port_has = old.keys.port_has;
      router_port_has = old.keys.router_port_has;
      port_of = old.keys.port_of;
      datapath_range = old.keys.datapath_range;
      port_range = old.keys.port_range;
      no_retired_datapaths = refl;
      no_retired_ports = refl;
    };
    bound = old.bound;
    at_home = old.at_home;
    born = record {
      records = old.born.records;
      keys = settled_born c.keys (event_count (under (settled c.keys))) old.born.keys;
      none = old.born.none;
    };
    on_the_way = record {
      crossings = record {
        in_order = old.on_the_way.crossings.in_order;
        below = old.on_the_way.crossings.below;
        may = λ k x among. absurd (none_waits e k x among);
      };
      few = old.on_the_way.few;
      none = old.on_the_way.none;
    };
    few = old.few;
  }

  by_waiting : (waiting : List (ℕ × Crossing)) → c.waiting ≡ waiting → IsAtRest (under (settled_where_none_waits waiting c.keys)) zones
  by_waiting [] e = settle e
  by_waiting (w ∷ ws) e = old

  settles : IsAtRest (under (settled_where_none_waits c.waiting c.keys)) zones
  settles = by_waiting c.waiting refl

-- with one event more the clock is still where it may be
pub clock_still : (clock accepted refused : ℕ) → clock ≤ MAX_CLOCK * (accepted + refused) → clock ≤ MAX_CLOCK * (accepted + 1 + refused)
clock_still clock accepted refused h = omega (arith, h)

pub finished_consistent : (m : State) (zones : Zoned) → IsConsistent (counted m) zones → IsConsistent (finished m) zones
finished_consistent m zones now = record { at_rest = settles (counted m) zones now.at_rest; marks = now.marks; clock = now.clock; lists = now.lists }
