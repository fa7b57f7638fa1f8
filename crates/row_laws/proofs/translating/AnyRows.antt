-- Two rows of a router's table that may both be taken, be it a router that translates or not.
use Rattle.std.specs.Prelude.{◌≡◌, Bool, false, []}
use Rattle.std.proofs.Common.{subst}
use Rattle.ovn_base.proofs.AmongLaws.{among_none}
use Rattle.ovn_base.specs.declared.address.Backend.{Backend}
use Rattle.ovn_base.specs.declared.name.Name.{Name}
use Rattle.ovn_base.specs.lists.Among.{Among}
use Rattle.inet_packet.specs.declared.regs.Regs.{Regs}
use Rattle.nb_records.specs.Network.{Network, is_online}
use Rattle.nb_records.specs.declared.balancer.LoadBalancer.{LoadBalancer}
use Rattle.nb_records.specs.declared.router.Nat.{Nat}
use Rattle.logical_flows.specs.declared.flow.LFlow.{LFlow}
use Rattle.logical_flows.specs.declared.stage.Stage.{Stage}
use Rattle.stage_rows.specs.Units.{nat_rows, balancer_rows}
use Rattle.net_model.specs.Sights.{Sight}
use Rattle.row_laws.proofs.agreeing.TwoRouterRows.{AreTakenThere, OwnRow, of_port, of_route, of_neighbour, of_router}
use Rattle.row_laws.proofs.routers.RouterUnits.{RouterRow, by_port, by_route, by_neighbour, by_nat, by_balancer, by_router, row_unit}
use Rattle.row_laws.proofs.units.StageRows.{is_of_switches}
use Rattle.row_laws.specs.AgreeTranslating.{AnyRouterAgreesAnywhereLaw}

-- what is so of each two rows that may be taken, by their units, is the law of the stage
pub any_law_by : (s : Stage) → is_of_switches s ≡ false
    → ((net : Network) (d : Name) (regs : Regs) (sight : Sight) (r q : LFlow) → AreTakenThere net s d regs sight r q → RouterRow net s d r → RouterRow net s d q → r.actions ≡ q.actions) → AnyRouterAgreesAnywhereLaw s
any_law_by s of two net valid d x is regs sight fields r q first second =
    let t : AreTakenThere net s d regs sight r q = record { valid = valid; router = x; there' = is; fields = fields; first = first; second = second } in
    two net d regs sight r q t (row_unit net valid d x is s of r first.is_row) (row_unit net valid d x is s of q second.is_row)

-- ---- stages that have no rows of NAT and of balancers

pub record HasOwnAlone (s : Stage) : Type 0 where
  pub nats : (x : Nat) → nat_rows s x ≡ []
  pub balancers : (online : Backend → Bool) (d : Name) (x : LoadBalancer) → balancer_rows s online d x ≡ []

own_unit : (s : Stage) → HasOwnAlone s → (net : Network) (d : Name) (r : LFlow) → RouterRow net s d r → OwnRow net s d r
own_unit s alone net d r (by_port q port is on m) = of_port q port is on m
own_unit s alone net d r (by_route q y is on m) = of_route q y is on m
own_unit s alone net d r (by_neighbour q port is on ip mac known m) = of_neighbour q port is on ip mac known m
own_unit s alone net d r (by_nat q n is on m) = absurd (among_none r (subst (λ xs. Among r xs) (alone.nats n) m))
own_unit s alone net d r (by_balancer q b is m) = absurd (among_none r (subst (λ xs. Among r xs) (alone.balancers (is_online net q) d b) m))
own_unit s alone net d r (by_router y is m) = of_router y is m

pub law_of_own : (s : Stage) → is_of_switches s ≡ false → HasOwnAlone s
    → ((net : Network) (d : Name) (regs : Regs) (sight : Sight) (r q : LFlow) → AreTakenThere net s d regs sight r q → OwnRow net s d r → OwnRow net s d q → r.actions ≡ q.actions) → AnyRouterAgreesAnywhereLaw s
law_of_own s of alone two = any_law_by s of (λ net d regs sight r q t first second. two net d regs sight r q t (own_unit s alone net d r first) (own_unit s alone net d q second))
