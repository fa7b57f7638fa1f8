-- The row that is taken at a stage of any router, and the rows of balancers and of NAT in the tables.
use Rattle.std.specs.Prelude.{◌≡◌, ◌<◌, ◌++◌, ◌∷◌, [], ℕ, true, false, List, Option, Some, option_map, nat_eq, cond}
use Rattle.std.specs.Map.{keys_of}
use Rattle.std.proofs.Common.{refl, sym, ap, ◌∙◌, subst, inl}
use Rattle.std.proofs.lemmas.Bool.{or_right}
use Rattle.ovn_base.proofs.AmongLaws.{among_left, among_right, among_map, among_filter, among_flat_map}
use Rattle.ovn_base.proofs.ByNameLaws.{at_among}
use Rattle.ovn_base.specs.declared.name.Name.{Name}
use Rattle.ovn_base.specs.lists.Among.{Among}
use Rattle.ovn_base.specs.names.ByName.{at}
use Rattle.inet_packet.specs.declared.regs.Reg.TheVariants as reg
use Rattle.inet_packet.specs.declared.regs.Regs.{Regs}
use Rattle.match_cubes.proofs.WholeLaws.{whole_in_range}
use Rattle.match_cubes.specs.Suited.{HasFieldsInRange}
use Rattle.nb_records.specs.Network.{Network, is_online}
use Rattle.nb_records.specs.Switches.{is_named, serves_at}
use Rattle.nb_records.specs.declared.balancer.LoadBalancer.{LoadBalancer}
use Rattle.nb_records.specs.declared.balancer.Vip.{Vip}
use Rattle.nb_records.specs.declared.router.Nat.{Nat}
use Rattle.nb_records.specs.declared.router.Router.{Router}
use Rattle.nb_rules.specs.Valid.{IsValid}
use Rattle.logical_flows.specs.Stages.{stage_table}
use Rattle.logical_flows.specs.declared.action.Action.{Action}
use Rattle.logical_flows.specs.declared.flow.LFlow.{LFlow}
use Rattle.logical_flows.specs.declared.flow.RegIs.{RegIs}
use Rattle.logical_flows.specs.declared.stage.Stage.{Stage}
use Rattle.logical_flows.specs.declared.stage.Stage.TheVariants as stage
use Rattle.logical_flows.specs.declared.unit.UnitId.TheVariants as unit
use Rattle.stage_rows.specs.BalancerRows.{router_vip_row, router_vips}
use Rattle.stage_rows.specs.Rows.{reg_is, tracked_row}
use Rattle.stage_rows.specs.Units.{balancer_rows, nat_rows, units_of_balancer}
use Rattle.flow_lowering.specs.Registers.{reg_number}
use Rattle.row_laws.proofs.routers.RouterUnits.{RouterRow, row_unit}
use Rattle.row_laws.proofs.routers.TakenAtRouter.{on_router}
use Rattle.row_laws.proofs.terms.Terms.{says_all}
use Rattle.row_laws.proofs.units.RowUnits.{rows_among, some_in, when_in}
use Rattle.row_laws.proofs.units.StageRows.{is_of_switches}
use Rattle.row_laws.proofs.units.TakenRow.{among_one}
use Rattle.row_laws.specs.Copies.{Finding, not_sought, found_new, found_forward, found_reply, found_invalid, finding_code}
use Rattle.row_laws.specs.Rows.{IsRowIn, RowHolds, IsBestRow}
use Rattle.row_laws.specs.routers.RouterCopies.{RouterCopy, router_roster}
use Rattle.row_laws.specs.routers.TranslatingActions.{IsAtAnyRouterPort}

-- ---- the row that is taken

pub record IsTakenAt (net : Network) (s : Stage) (c : RouterCopy) (regs : Regs) (r : LFlow) : Type 0 where
  pub valid : IsValid net
  pub of : is_of_switches s ≡ false
  pub at_port : IsAtAnyRouterPort net s c regs
  pub best : IsBestRow net (router_roster net) (stage_table s) c.port.router regs c.sight r

module _ {net : Network} {s : Stage} {c : RouterCopy} {regs : Regs} {r : LFlow} (t : IsTakenAt net s c regs r) where
  pub the_router : (x : Router) × (at net.routers c.port.router ≡ Some x)
  the_router = on_router net t.valid c.port.name c.port t.at_port.there

  pub fields : HasFieldsInRange c.sight.packet
  fields = whole_in_range c.sight.packet t.at_port.whole

  pub its_unit : RouterRow net s c.port.router r
  its_unit = row_unit net t.valid c.port.router the_router.0 the_router.1 s t.of r t.best.is_row

  -- no row that holds is above it
  pub none_above : (low : ℕ) → r.priority ≡ low → (other : LFlow) → low < other.priority → IsRowIn net (stage_table s) c.port.router other → RowHolds (router_roster net) regs c.sight other → ⊥
  none_above low is other less row holds = t.best.unbeaten other row holds (inl (subst (λ n. n < other.priority) (sym is) less))

-- ---- rows of tables

pub a_nat_row : (net : Network) (s : Stage) (r : LFlow) (d q : Name) (x : Nat) → at net.nats q ≡ Some x → x.router ≡ d → r.stage ≡ s → Among r (nat_rows s x) → IsRowIn net (stage_table s) d r
a_nat_row net s r d q x is on of m = record {
  pair = record {
    origin = unit.Nat q;
    there =
        let u = unit.Nat q in
        among_left u _ _ (among_left u _ _ (among_left u _ _ (among_right u _ _ (among_map unit.Nat q (keys_of net.nats) (among_map (λ (e : Name × Nat). e.0) (q, x) net.nats (at_among net.nats q x is))))));
    among = rows_among net s r (unit.Nat q) (some_in r (at net.nats q) (nat_rows s) x is m);
    on = ap (λ (o : Option Nat). option_map (λ (x : Nat). x.router) o) is ∙ ap (λ n. Some n) on;
  };
  in_table = ap stage_table of;
}

pub a_vip_row : (net : Network) (d : Name) (rt : Router) → at net.routers d ≡ Some rt → (b : Name) (x : LoadBalancer) → at net.load_balancers b ≡ Some x → is_named d x.routers ≡ true → (v : Vip) → Among v x.vips
    → IsRowIn net (stage_table stage.RouterDnat) d (router_vip_row (is_online net b) x.protocol v)
a_vip_row net d rt is_router b x is named v m =
    let r = router_vip_row (is_online net b) x.protocol v in
    record {
      pair = record {
        origin = unit.Balancer b d;
        there =
            let u = unit.Balancer b d in
            let names = keys_of net.switches ++ keys_of net.routers in
            let serves = or_right (is_named d x.switches) (is_named d x.routers) named in
            let served = among_filter (λ e. serves_at e x) d names (among_right d (keys_of net.switches) (keys_of net.routers) (among_map (λ (e : Name × Router). e.0) (d, rt) net.routers (at_among net.routers d rt is_router))) serves in
            let own = among_flat_map (units_of_balancer net) (b, x) u net.load_balancers (at_among net.load_balancers b x is) (among_map (unit.Balancer b) d _ served) in
            among_left u _ _ (among_left u _ _ (among_right u _ _ own));
        among = rows_among net stage.RouterDnat r (unit.Balancer b d)
            (some_in r (at net.load_balancers b) (balancer_rows stage.RouterDnat (is_online net b) d) x is
            (when_in r (is_named d x.routers) (router_vips (is_online net b) x) named (among_map (router_vip_row (is_online net b) x.protocol) v x.vips m)));
        on = refl;
      };
      in_table = refl;
    }

-- ---- what a list said

abbrev finding_at : ℕ → Finding
finding_at n = cond (nat_eq n 1) found_new (cond (nat_eq n 2) found_forward (cond (nat_eq n 3) found_reply (cond (nat_eq n 4) found_invalid not_sought)))

own_finding : (k : Finding) → finding_at (finding_code k) ≡ k
own_finding not_sought = refl
own_finding found_new = refl
own_finding found_forward = refl
own_finding found_reply = refl
own_finding found_invalid = refl

-- findings of one number are one
pub same_finding : (j k : Finding) → finding_code j ≡ finding_code k → j ≡ k
same_finding j k h = sym (own_finding j) ∙ ap finding_at h ∙ own_finding k

module _ {net : Network} {s : Stage} {c : RouterCopy} {regs : Regs} {r : LFlow} (t : IsTakenAt net s c regs r) where
  -- a row that holds and asks for a state tells what the list said
  pub stated : (row : LFlow) → RowHolds (router_roster net) regs c.sight row → (k : Finding) → Among (reg_is reg.State (finding_code k)) row.regs → c.words.finding ≡ k
  stated row holds k m = same_finding c.words.finding k (sym t.at_port.words.finding ∙ holds.registers (reg_is reg.State (finding_code k)) m)

  -- and the other way round
  pub has_state : (k : Finding) → c.words.finding ≡ k → (x : RegIs) → Among x (reg_is reg.State (finding_code k) ∷ []) → reg_number x.reg regs ≡ x.value
  has_state k e x m = subst (λ (y : RegIs). reg_number y.reg regs ≡ y.value) (sym (among_one x (reg_is reg.State (finding_code k)) m)) (t.at_port.words.finding ∙ ap finding_code e)

  -- a row of a state alone holds where the list said so
  pub state_holds : (k : Finding) → c.words.finding ≡ k → (priority : ℕ) (actions : List Action) → RowHolds (router_roster net) regs c.sight (tracked_row s priority (reg_is reg.State (finding_code k) ∷ []) [] actions)
  state_holds k e priority actions = record { registers = has_state k e; matching = says_all (router_roster net) c.sight [] }
