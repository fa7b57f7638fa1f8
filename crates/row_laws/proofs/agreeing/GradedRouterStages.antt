-- Stages of routers whose rows of one priority and rank have equal actions, whatever they match.
use Rattle.std.specs.Prelude.{◌≡◌, ◌∷◌, [], Bool, true, false, cond, nat_eq}
use Rattle.std.proofs.Common.{refl, sym, ◌∙◌}
use Rattle.ovn_base.proofs.AmongLaws.{among_all}
use Rattle.ovn_base.specs.declared.address.Ip4.{Ip4}
use Rattle.ovn_base.specs.declared.address.Mac.{Mac}
use Rattle.ovn_base.specs.declared.name.Name.{Name}
use Rattle.flow_table.specs.declared.flow.Cause.TheVariants as cause
use Rattle.flow_table.specs.declared.flow.ZoneOf.TheVariants as zone
use Rattle.inet_packet.specs.declared.regs.Regs.{Regs}
use Rattle.nb_records.specs.Network.{Network}
use Rattle.nb_records.specs.declared.router.Route.{Route}
use Rattle.nb_records.specs.declared.router.RouterPort.{RouterPort}
use Rattle.logical_flows.specs.declared.action.Action.TheVariants as a
use Rattle.logical_flows.specs.declared.flow.LFlow.{LFlow}
use Rattle.logical_flows.specs.declared.stage.Stage.{Stage}
use Rattle.logical_flows.specs.declared.stage.Stage.TheVariants as stage
use Rattle.stage_rows.specs.Facts.{own_ips}
use Rattle.stage_rows.specs.RouterRows.{own_row}
use Rattle.stage_rows.specs.Rows.{go_on}
use Rattle.stage_rows.specs.Units.{router_port_rows, route_rows, neighbour_rows, router_rows}
use Rattle.net_model.specs.Sights.{Sight}
use Rattle.row_laws.proofs.agreeing.GradedStages.{Told, IsTold, AreTold, each}
use Rattle.row_laws.proofs.agreeing.TwoRouterRows.{AreTakenThere, OwnRow, of_port, of_route, of_neighbour, of_router, same_priority, same_rank}

-- the rows of all units of the stage are so
pub record IsGraded (s : Stage) (f : Told) : Type 0 where
  ports : (net : Network) (q : RouterPort) → AreTold f (router_port_rows s net q)
  routes : (net : Network) (x : Route) → AreTold f (route_rows s net x)
  neighbours : (q : Name) (ip : Ip4) (mac : Mac) → AreTold f (neighbour_rows s q ip mac)
  routers : (translating : Bool) → AreTold f (router_rows s translating)

-- so two of them that may be taken have equal actions
pub two_by_grade : (s : Stage) (f : Told) → IsGraded s f
    → (net : Network) (d : Name) (regs : Regs) (sight : Sight) (r q : LFlow) → AreTakenThere net s d regs sight r q → OwnRow net s d r → OwnRow net s d q → r.actions ≡ q.actions
two_by_grade s f graded net d regs sight r q t first second = told net d r first ∙ (λ i. f (same_priority t i) (same_rank t i)) ∙ sym (told net d q second)
  where
    told : (net : Network) (d : Name) (r : LFlow) → OwnRow net s d r → IsTold f r
    told net d r (of_port q port is on m) = among_all (IsTold f) r (router_port_rows s net port) (graded.ports net port) m
    told net d r (of_route q x is on m) = among_all (IsTold f) r (route_rows s net x) (graded.routes net x) m
    told net d r (of_neighbour q port is on ip mac known m) = among_all (IsTold f) r (neighbour_rows s q ip mac) (graded.neighbours q ip mac) m
    told net d r (of_router x is m) = among_all (IsTold f) r (router_rows s _) (graded.routers _) m

-- ---- r_admit, r_own

abbrev pub at_admit : Told
at_admit p k = cond (nat_eq p 50) (go_on stage.RouterAdmit ∷ []) (a.Drop cause.NotForRouter ∷ [])

pub admit_graded : IsGraded stage.RouterAdmit at_admit
admit_graded = record {
  ports = λ net q. (refl, (refl, tt));
  routes = λ net x. tt;
  neighbours = λ q ip mac. tt;
  routers = λ translating. (refl, tt);
}

abbrev pub at_own : Told
at_own p k = cond (nat_eq p 100) (a.Drop cause.ForRouter ∷ []) (go_on stage.RouterOwn ∷ [])

pub own_graded : IsGraded stage.RouterOwn at_own
own_graded = record {
  ports = λ net q. each at_own own_row (λ ip. refl) (own_ips q);
  routes = λ net x. tt;
  neighbours = λ q ip mac. tt;
  routers = λ translating. (refl, tt);
}

-- ---- r_undo, r_find

abbrev pub at_undo : Told
at_undo p k = cond (nat_eq p 100) (a.Undo ∷ a.Find zone.Dnat ∷ go_on stage.RouterUndo ∷ []) (go_on stage.RouterUndo ∷ [])

undo_rows : (translating : Bool) → AreTold at_undo (router_rows stage.RouterUndo translating)
undo_rows true = (refl, (refl, tt))
undo_rows false = (refl, tt)

pub undo_graded : IsGraded stage.RouterUndo at_undo
undo_graded = record {
  ports = λ net q. tt;
  routes = λ net x. tt;
  neighbours = λ q ip mac. tt;
  routers = undo_rows;
}

abbrev pub at_find : Told
at_find p k = cond (nat_eq p 100) (a.Find zone.Snat ∷ go_on stage.RouterFind ∷ []) (go_on stage.RouterFind ∷ [])

find_rows : (translating : Bool) → AreTold at_find (router_rows stage.RouterFind translating)
find_rows true = (refl, (refl, tt))
find_rows false = (refl, tt)

pub find_graded : IsGraded stage.RouterFind at_find
find_graded = record {
  ports = λ net q. tt;
  routes = λ net x. tt;
  neighbours = λ q ip mac. tt;
  routers = find_rows;
}
