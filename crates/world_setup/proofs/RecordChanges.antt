-- What stays true of bindings and births where a port is bound, and where records stay.
use Rattle.std.specs.Prelude.{◌≡◌, ◌≢◌, ◌≤◌, ◌⊎◌, Some, IsSome, length}
use mathlib.Core.Path.{sym, ap, subst, ◌∙◌}
use mathlib.Core.Logic.{inl, inr}
use native.Mathlib.Omega.{arith}
use Rattle.std.specs.Cmp.Lexicographic.{slice_cmp}
use Rattle.std.specs.List.Sorted.{IsStrictlySortedBy}
use Rattle.std.specs.Ordering.{nat_cmp}
use Rattle.ovn_base.specs.lists.Among.{Among}
use Rattle.ovn_base.specs.declared.name.Name.{Name}
use Rattle.ovn_base.specs.names.ByName.{at, put, IsByName}
use Rattle.nb_records.specs.Network.{Network, birth_of, record_at}
use Rattle.ovn_base.proofs.ByNameLaws.{put_cases, put_sorted}
use Rattle.conn_zones.specs.Rezoning.{IsRezoned}
use Rattle.conn_zones.specs.Zoning.{Zoned}
use Rattle.tunnel_keys.specs.Births.{AreKeysBorn}
use Rattle.tunnel_keys.proofs.Births.{born_later}
use Rattle.net_model.specs.State.{State, event_count}
use Rattle.physical_flows.specs.Bindings.{AreBound, router_homes}
use Rattle.sim_laws.specs.Sound.{AreBorn}
use Rattle.world_setup.specs.Zones.{home_change}
use Rattle.world_setup.proofs.PortHomes.{homes_after}

-- ---- bindings

-- a port is bound to a chassis
pub bound_fresh : (m n : State) (zones after : Zoned) (p c : Name) → AreBound m.config zones → n.config.net ≡ m.config.net → n.config.chassis ≡ m.config.chassis → n.config.bindings ≡ put m.config.bindings p c → IsSome (at m.config.net.switch_ports p) → Among c m.config.chassis
    → IsRezoned zones (home_change p c) after → AreBound n.config after
bound_fresh m n zones after p c bound net chassis bindings port known rezoned = record {
  bindings_sorted = subst (λ l. IsByName l) (sym bindings) (put_sorted m.config.bindings p c bound.bindings_sorted);
  port_there = λ q d e. subst (λ w. IsSome (at w.switch_ports q)) (sym net) (elim (bound_cases q d e) [
    | inl is ↦ subst (λ a. IsSome (at m.config.net.switch_ports a)) (sym is.0) port
    | inr old ↦ bound.port_there q d old.1
  ]);
  chassis_there = λ q d e. subst (λ l. Among d l) (sym chassis) (elim (bound_cases q d e) [
    | inl is ↦ subst (λ a. Among a m.config.chassis) (sym is.1) known
    | inr old ↦ bound.chassis_there q d old.1
  ]);
  chassis_sorted = subst (λ l. IsStrictlySortedBy (slice_cmp nat_cmp) l) (sym chassis) bound.chassis_sorted;
  few_chassis = subst (λ l. length l ≤ 64) (sym chassis) bound.few_chassis;
  homes =
      homes_after m.config zones bound p c after rezoned
      ∙ (λ i. record { ports = sym bindings i; routers = router_homes (record { net = sym net i; chassis = sym chassis i; bindings = sym bindings i }) });
  zoned = rezoned.zoned;
}
  where
    bound_cases : (q d : Name) → at n.config.bindings q ≡ Some d → ((q ≡ p) × (d ≡ c)) ⊎ ((q ≢ p) × (at m.config.bindings q ≡ Some d))
    bound_cases q d e = put_cases m.config.bindings p c q d (ap (λ l. at l q) (sym bindings) ∙ e)

-- ---- births

module _ (m n : State) (born : AreBorn m) (later : event_count m ≤ event_count n) where
  pub born_kept : (n.accepted ≡ 0 → m.accepted ≡ 0) → n.config.net ≡ m.config.net → n.keys ≡ m.keys → AreBorn n
  born_kept fresh net keys = record {
    none = λ h. net ∙ born.none (fresh h);
    records = λ k q r e. let old : (birth_of r).0 ≤ event_count m = born.records k q r (ap (λ (w : Network). record_at w k q) (sym net) ∙ e) in omega (arith, old, later);
    keys = subst (λ k. AreKeysBorn k (event_count n)) (sym keys) (born_later m.keys (event_count m) (event_count n) later born.keys);
  }
