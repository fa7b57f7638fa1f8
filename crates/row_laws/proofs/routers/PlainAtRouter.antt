-- The stages of NAT pass every packet in a router that translates nothing.
use Rattle.std.specs.Prelude.{◌≡◌, ◌≤◌, ◌∷◌, ◌&&◌, ◌||◌, [], ℕ, Bool, true, false, List, Some}
use Rattle.std.specs.Map.{values_of}
use Rattle.std.proofs.Common.{refl, sym, ap, ◌∙◌, arith, subst, inl, inr}
use Rattle.std.proofs.lemmas.Bool.{or_right}
use Rattle.ovn_base.proofs.AmongLaws.{among_all, among_cases, among_none, among_filter, among_map}
use Rattle.ovn_base.proofs.ByNameLaws.{at_among}
use Rattle.ovn_base.specs.declared.name.Name.{Name}
use Rattle.ovn_base.specs.lists.Among.{Among, here}
use Rattle.ovn_base.specs.names.ByName.{at}
use Rattle.ovn_base.specs.names.SameName.{same_name, bytes_decides}
use Rattle.inet_packet.specs.declared.regs.Reg.TheVariants as reg
use Rattle.inet_packet.specs.declared.regs.Regs.{Regs}
use Rattle.nb_records.specs.Network.{Network}
use Rattle.nb_records.specs.Routers.{is_gateway, nats_of, translates}
use Rattle.nb_records.specs.Switches.{has_some, is_named, serves_at, balancers_of}
use Rattle.nb_records.specs.declared.balancer.LoadBalancer.{LoadBalancer}
use Rattle.nb_records.specs.declared.router.Nat.{Nat}
use Rattle.nb_records.specs.declared.router.Router.{Router}
use Rattle.logical_flows.specs.declared.action.Action.{Action}
use Rattle.logical_flows.specs.declared.action.Action.TheVariants as a
use Rattle.logical_flows.specs.declared.flow.LFlow.{LFlow}
use Rattle.logical_flows.specs.declared.stage.Stage.{Stage}
use Rattle.logical_flows.specs.declared.stage.Stage.TheVariants as stage
use Rattle.stage_rows.specs.RouterRows.{known_dnat}
use Rattle.stage_rows.specs.Rows.{reg_is, is_forward, is_reply, tracked_row, base_row, go_on}
use Rattle.stage_rows.specs.Units.{router_rows}
use Rattle.row_laws.proofs.routers.RouterUnits.{RouterRow, by_port, by_route, by_neighbour, by_nat, by_balancer, by_router}
use Rattle.row_laws.proofs.routers.TakenAtRouter.{IsTakenThere, its_unit}
use Rattle.row_laws.proofs.units.RowUnits.{in_when}
use Rattle.row_laws.proofs.units.TakenRow.{among_one}
use Rattle.row_laws.specs.Copies.{finding_code}
use Rattle.row_laws.specs.routers.RouterCopies.{RouterCopy, IsPlain}
use Rattle.row_laws.specs.routers.RouterLaws.{RouterStageLaw}

no_both : (b : Bool) → (b && false) ≡ false
no_both true = refl
no_both false = refl

module _ (net : Network) (s : Stage) (c : RouterCopy) (regs : Regs) (r : LFlow) (t : IsTakenThere net s c regs r) (plain : IsPlain net c) where
  abbrev d : Name
  d = c.port.router

  off : (x : Router) → at net.routers d ≡ Some x → translates net x ≡ false
  off x is =
      let named : x.name ≡ d = among_all (λ (e : Name × Router). e.1.name ≡ e.0) (d, x) net.routers t.valid.named.routers (at_among net.routers d x is) in
      ap (λ n. is_gateway x && (has_some (nats_of net n) || has_some (balancers_of net n))) named
      ∙ (λ k. is_gateway x && (has_some (plain.nats k) || has_some (plain.balancers k))) ∙ no_both (is_gateway x)

  no_nat : (q : Name) (x : Nat) → at net.nats q ≡ Some x → x.router ≡ d → ⊥
  no_nat q x is on =
      among_none x (subst (λ xs. Among x xs) plain.nats (among_filter (λ (y : Nat). same_name y.router d) x (values_of net.nats) (among_map (λ (e : Name × Nat). e.1) (q, x) net.nats (at_among net.nats q x is)) ((bytes_decides x.router d).1 on)))

  no_balancer : (b : Name) (x : LoadBalancer) → at net.load_balancers b ≡ Some x → is_named d x.routers ≡ true → ⊥
  no_balancer b x is on =
      among_none x (subst (λ xs. Among x xs) plain.balancers (among_filter (serves_at d) x (values_of net.load_balancers) (among_map (λ (e : Name × LoadBalancer). e.1) (b, x) net.load_balancers (at_among net.load_balancers b x is)) (or_right (is_named d x.switches) _ on)))

  -- no row that asks for a state holds
  no_state : (k priority : ℕ) → 1 ≤ k → (actions : List Action) → r ≡ tracked_row s priority (reg_is reg.State k ∷ []) [] actions → ⊥
  no_state k priority some actions e =
      let m = subst (λ (z : LFlow). Among (reg_is reg.State k) z.regs) (sym e) here in
      let zero' : 0 ≡ k = sym (t.at_port.words.finding ∙ ap finding_code plain.finding) ∙ t.best.holds_here.registers (reg_is reg.State k) m in
      omega (arith, zero', some)

  base_is : Among r (base_row s ∷ []) → r.actions ≡ go_on s ∷ []
  base_is m = ap (λ (z : LFlow). z.actions) (among_one r (base_row s) m)

module _ (net : Network) (c : RouterCopy) (regs : Regs) (r : LFlow) where
  undone : (t : IsTakenThere net stage.RouterUndo c regs r) → RouterRow net stage.RouterUndo c.port.router r → r.actions ≡ go_on stage.RouterUndo ∷ []
  undone t (by_port q port is on m) = elim m [ ]
  undone t (by_route q x is on m) = elim m [ ]
  undone t (by_neighbour q port is on ip mac known m) = elim m [ ]
  undone t (by_nat q x is on m) = elim m [ ]
  undone t (by_balancer b x is m) = elim m [ ]
  undone t (by_router x is m) = base_is net stage.RouterUndo c regs r t t.at_port.passed (subst (λ b. Among r (router_rows stage.RouterUndo b)) (off net stage.RouterUndo c regs r t t.at_port.passed x is) m)

  found : (t : IsTakenThere net stage.RouterFind c regs r) → RouterRow net stage.RouterFind c.port.router r → r.actions ≡ go_on stage.RouterFind ∷ []
  found t (by_port q port is on m) = elim m [ ]
  found t (by_route q x is on m) = elim m [ ]
  found t (by_neighbour q port is on ip mac known m) = elim m [ ]
  found t (by_nat q x is on m) = elim m [ ]
  found t (by_balancer b x is m) = elim m [ ]
  found t (by_router x is m) = base_is net stage.RouterFind c regs r t t.at_port.passed (subst (λ b. Among r (router_rows stage.RouterFind b)) (off net stage.RouterFind c regs r t t.at_port.passed x is) m)

  dnat : (t : IsTakenThere net stage.RouterDnat c regs r) → RouterRow net stage.RouterDnat c.port.router r → r.actions ≡ go_on stage.RouterDnat ∷ []
  dnat t (by_port q port is on m) = elim m [ ]
  dnat t (by_route q x is on m) = elim m [ ]
  dnat t (by_neighbour q port is on ip mac known m) = elim m [ ]
  dnat t (by_nat q x is on m) = absurd (no_nat net stage.RouterDnat c regs r t t.at_port.passed q x is on)
  dnat t (by_balancer b x is m) = absurd (no_balancer net stage.RouterDnat c regs r t t.at_port.passed b x is (in_when r (is_named c.port.router x.routers) _ m).0)
  dnat t (by_router x is m) = elim (among_cases r (tracked_row stage.RouterDnat 100 (is_forward ∷ []) [] known_dnat) (tracked_row stage.RouterDnat 100 (is_reply ∷ []) [] known_dnat ∷ base_row stage.RouterDnat ∷ []) m) [
    | inl e ↦ absurd (no_state net stage.RouterDnat c regs r t t.at_port.passed 2 100 (omega arith) known_dnat e)
    | inr n ↦ elim (among_cases r (tracked_row stage.RouterDnat 100 (is_reply ∷ []) [] known_dnat) (base_row stage.RouterDnat ∷ []) n) [
      | inl e ↦ absurd (no_state net stage.RouterDnat c regs r t t.at_port.passed 3 100 (omega arith) known_dnat e)
      | inr o ↦ base_is net stage.RouterDnat c regs r t t.at_port.passed o
    ]
  ]

  abbrev known_snat : List Action
  known_snat = a.Touch ∷ a.Translate ∷ go_on stage.RouterSnat ∷ []

  snat : (t : IsTakenThere net stage.RouterSnat c regs r) → RouterRow net stage.RouterSnat c.port.router r → r.actions ≡ go_on stage.RouterSnat ∷ []
  snat t (by_port q port is on m) = elim m [ ]
  snat t (by_route q x is on m) = elim m [ ]
  snat t (by_neighbour q port is on ip mac known m) = elim m [ ]
  snat t (by_nat q x is on m) = absurd (no_nat net stage.RouterSnat c regs r t t.at_port.passed q x is on)
  snat t (by_balancer b x is m) = elim m [ ]
  snat t (by_router x is m) = elim (among_cases r (tracked_row stage.RouterSnat 200 (is_forward ∷ []) [] known_snat) (base_row stage.RouterSnat ∷ []) m) [
    | inl e ↦ absurd (no_state net stage.RouterSnat c regs r t t.at_port.passed 2 200 (omega arith) known_snat e)
    | inr o ↦ base_is net stage.RouterSnat c regs r t t.at_port.passed o
  ]

pub undo_law : RouterStageLaw stage.RouterUndo
undo_law net valid c regs h r best = let t : IsTakenThere net stage.RouterUndo c regs r = record { valid = valid; of = refl; at_port = h; best = best } in undone net c regs r t (its_unit t)

pub dnat_law : RouterStageLaw stage.RouterDnat
dnat_law net valid c regs h r best = let t : IsTakenThere net stage.RouterDnat c regs r = record { valid = valid; of = refl; at_port = h; best = best } in dnat net c regs r t (its_unit t)

pub find_law : RouterStageLaw stage.RouterFind
find_law net valid c regs h r best = let t : IsTakenThere net stage.RouterFind c regs r = record { valid = valid; of = refl; at_port = h; best = best } in found net c regs r t (its_unit t)

pub snat_law : RouterStageLaw stage.RouterSnat
snat_law net valid c regs h r best = let t : IsTakenThere net stage.RouterSnat c regs r = record { valid = valid; of = refl; at_port = h; best = best } in snat net c regs r t (its_unit t)
