-- Switches pass copies on to routers as the network says, where what leaves them does; so visits and arrivals do.
use Rattle.std.specs.Prelude.{◌≡◌, ◌+◌, ℕ, refl}
use Rattle.std.proofs.Common.{ap, ◌∙◌}
use Rattle.conn_zones.specs.Zoning.{GivenNumbers}
use Rattle.nb_records.specs.Routers.{partner_of_switch_port}
use Rattle.net_model.specs.Trail.{spot_of}
use Rattle.net_model.specs.Visit.{passing}
use Rattle.ovn_base.specs.declared.limits.TheConstants.{MAX_HOPS}
use Rattle.ovn_base.specs.declared.name.Name.{Name}
use Rattle.sim_laws.specs.passes.Arriving.{ArrivingOnLaw}
use Rattle.sim_laws.specs.passes.Onward.{LeadsOn}
use Rattle.sim_laws.specs.passes.Visiting.{ThroughSwitchLaw, VisitOnLaw}
use Rattle.sim_laws.specs.pipelines.Standing.{Chassis, net_of}
use Rattle.sim_laws.specs.routers.Passing.{PassingLaw, IntoSwitchLaw}
use Rattle.sim_laws.specs.routers.Patches.{IsLaidAround, to_router}
use Rattle.sim_laws.specs.routers.Visits.{RoutedVisitLaw, RoutedArrivalLaw}

-- what leaves the switch by a port that leads to a router goes on, where so many passes are left
pub leads_on : (left : ℕ) → PassingLaw left → (s : Chassis) (numbers : GivenNumbers) → IsLaidAround s numbers
    → (switch : Name) (passes : ℕ) → passes + left ≡ MAX_HOPS → LeadsOn s (passing left s.scene) switch passes
leads_on left law s numbers around switch passes sum = record {
  unbound = λ o there on leads. around.unbound o there leads;
  goes = λ o there on leads at_home p lists zones copy passed h.
      law s numbers around (spot_of o) (partner_of_switch_port (net_of s) o) p lists zones copy (record {
        in_table = h.in_table;
        packet = h.packet;
        whole = h.whole;
        leads = to_router o there leads at_home refl refl;
        on = h.on;
        to = h.to;
        within = h.within;
        hold = h.hold;
      }) (ap (λ n. n + left) passed ∙ sum);
}

pub through_switches : ThroughSwitchLaw → (left : ℕ) → PassingLaw left → IntoSwitchLaw left
through_switches into left law s numbers around q p lists zones copy h sum =
    into s around.laid numbers around.wired (passing left s.scene) copy.passes q h.there.0 h.here
    (leads_on left law s numbers around q.switch copy.passes sum) p h.whole lists zones h.hold copy h.in_table h.packet h.first h.loopback h.arrived refl

-- ---- from where packets come in, all passes are left

pub visits_routed : VisitOnLaw → PassingLaw MAX_HOPS → RoutedVisitLaw
visits_routed visits law s numbers around i there virtual bound entry p whole lists zones hold =
    visits s around.laid numbers around.wired i there virtual bound (leads_on MAX_HOPS law s numbers around i.switch 0 refl) entry p whole lists zones hold

pub arrives_routed : ArrivingOnLaw → PassingLaw MAX_HOPS → RoutedArrivalLaw
arrives_routed arrives law s numbers around owned n x may entry lists zones hold =
    arrives s around.laid numbers around.wired owned n x may (leads_on MAX_HOPS law s numbers around x.datapath.name 0 refl) entry lists zones hold
