-- Two flows of a stage's table that may be taken have equal actions, whatever the packet and the registers.
use Rattle.std.specs.Prelude.{◌≡◌, ◌≤◌, [], ◌&&◌, ℕ, Bool, true, false, nat_eq, length, List, Option, Some, None, option_map, unwrap_or}
use Rattle.std.specs.List.{list_any}
use Rattle.std.proofs.Common.{refl, sym, ap, ◌∙◌, subst, arith, inl, inr}
use Rattle.std.proofs.lemmas.Bool.{and_parts, and_from, cases_Bool, eqb-true, eq-eqb, false≢true}
use Rattle.std.proofs.lemmas.Option.{none-some, same_Some}
use Rattle.ovn_base.proofs.AmongLaws.{among_all, among_any, any_among}
use Rattle.ovn_base.proofs.ByNameLaws.{at_among, among_at}
use Rattle.ovn_base.specs.declared.name.Name.{Name}
use Rattle.ovn_base.specs.lists.Among.{Among}
use Rattle.ovn_base.specs.names.ByName.{at}
use Rattle.ovn_base.specs.names.SameName.{same_name, bytes_decides}
use Rattle.inet_packet.specs.declared.packet.Packet.{Packet}
use Rattle.inet_packet.specs.declared.regs.Regs.{Regs}
use Rattle.flow_table.specs.Matching.{IsBest}
use Rattle.flow_table.specs.declared.flow.Flow.{Flow}
use Rattle.match_cubes.specs.Points.{members_of}
use Rattle.match_cubes.specs.Suited.{HasFieldsInRange}
use Rattle.match_cubes.specs.declared.sets.Sets.{Sets}
use Rattle.nb_records.specs.Network.{Network}
use Rattle.nb_records.specs.declared.router.Router.{Router}
use Rattle.nb_records.specs.declared.router.RouterPort.{RouterPort}
use Rattle.nb_records.specs.declared.switch.Switch.{Switch}
use Rattle.nb_records.specs.declared.switch.SwitchPort.{SwitchPort}
use Rattle.nb_rules.specs.Valid.{IsValid}
use Rattle.logical_flows.specs.Stages.{stage_table}
use Rattle.logical_flows.specs.declared.flow.LFlow.{LFlow}
use Rattle.logical_flows.specs.declared.stage.Stage.{Stage}
use Rattle.tunnel_keys.proofs.HeldKeys.{found, is_found}
use Rattle.tunnel_keys.specs.Keys.{Keys}
use Rattle.tunnel_keys.specs.Same.{identity_exact}
use Rattle.tunnel_keys.specs.declared.owner.DatapathKey.{DatapathKey}
use Rattle.tunnel_keys.specs.declared.owner.Identity.{Identity}
use Rattle.tunnel_keys.specs.declared.owner.PortKey.{PortKey}
use Rattle.flow_lowering.proofs.LoweringLaws.{matches_alike, each_is_lowered}
use Rattle.flow_lowering.specs.LoweredFlows.{lowered_ops, live_datapath_key}
use Rattle.net_model.specs.Config.{port_identity}
use Rattle.net_model.specs.Sights.{Sight, Roster, roster_of, is_live_one}
use Rattle.row_laws.proofs.lowered.BestRows.{best_in_range}
use Rattle.row_laws.proofs.lowered.LowBits.{low_packet, low_regs, low_registers, low_fields, low_fits, fits_low}
use Rattle.row_laws.proofs.lowered.NarrowCubes.{IsNarrow}
use Rattle.row_laws.proofs.lowered.NarrowFlows.{lowered_narrow}
use Rattle.row_laws.proofs.records.StandsFor.{key_stands}
use Rattle.row_laws.proofs.records.ValidPorts.{on_switch, port_named, in_grammar}
use Rattle.row_laws.proofs.routers.RouterUnits.{of_table, no_row_at}
use Rattle.row_laws.proofs.routers.TakenAtRouter as router
use Rattle.row_laws.proofs.suited.LiveDatapaths.{IsThere, as_switch, as_router, there}
use Rattle.row_laws.specs.AgreeAnywhere.{AgreeAnywhereLaw, IsOwnKey, HoldsStageRows, FlowsAgreeLaw}
use Rattle.row_laws.specs.Numbers.{IsDatapathKey, IsPortKey, NumberStandsFor, AreSameMembers, HasNumbersInRange}
use Rattle.row_laws.specs.Rows.{IsBestRow}
use Rattle.row_laws.specs.routers.RouterCopies.{router_port_identity, router_roster}

-- two unbeaten rows of the table that hold of one packet on a router have equal actions
abbrev pub RoutersAgreeIn : ℕ → Type 0
RoutersAgreeIn table =
    (net : Network) → IsValid net → (d : Name) (router : Router) → at net.routers d ≡ Some router → (regs : Regs) (sight : Sight) → HasFieldsInRange sight.packet
    → (row other : LFlow) → IsBestRow net (router_roster net) table d regs sight row → IsBestRow net (router_roster net) table d regs sight other → row.actions ≡ other.actions

module _ (net : Network) (keys : Keys) (sets : Sets) (flows : List Flow) (s : Stage) (h : HoldsStageRows net keys sets flows s) where
  -- ---- low bits

  narrow : (f : Flow) → Among f flows → f.table ≡ stage_table s → IsNarrow f.cube
  narrow f m in_table =
      let of = (h.holds.exactly f in_table).0 m in
      lowered_narrow keys sets of.row of.datapath (h.holds.can_lower.suited of.row of.datapath of.pair) f of.among

  -- the best flow is the best of what has the low bits
  low_best : (regs : Regs) (packet : Packet) (f : Flow) → IsBest flows (stage_table s) regs packet f → IsBest flows (stage_table s) (low_regs regs) (low_packet packet) f
  low_best regs packet f best = record {
    held = best.held;
    matching = record { in_table = best.matching.in_table; fits = low_fits f.cube (narrow f best.held best.matching.in_table) regs packet best.matching.fits };
    unbeaten = λ g m k. best.unbeaten g m (record { in_table = k.in_table; fits = fits_low g.cube (narrow g m k.in_table) regs packet k.fits });
  }

  -- ---- the port of a number

  -- names stand in the roster for the ports of the datapath, each for a port of that name
  record HasPortsOf (who : Roster) (d : Name) : Type 0 where
    owned : (q : Name) (k : PortKey) → at keys.ports q ≡ Some k → k.datapath ≡ d → (id : Identity) × (who.live q ≡ Some id)
    named : (q : Name) (id : Identity) → who.live q ≡ Some id → id.name ≡ q
    some : (q : Name) (id : Identity) → who.live q ≡ Some id → 1 ≤ length id.name
    members : AreSameMembers who.members (members_of sets)

  -- an identity that no port has: it has no name
  abbrev nobody : Identity
  nobody = record { name = []; birth = record { 0 = 0 } }

  module _ (who : Roster) (d : Name) (has : HasPortsOf who d) where
    no_name : (q : Name) (o : Option Identity) → who.live q ≡ o → is_live_one (Some nobody) o ≡ true → ⊥
    no_name q None is k = absurd (false≢true k)
    no_name q (Some id) is k =
        let same = identity_exact nobody id k in
        let some = has.some q id is in
        let empty : length id.name ≡ 0 = ap (λ (x : Identity). length x.name) (sym same) in
        omega (arith, some, empty)

    module _ (n : ℕ) where
      has_number : Name × PortKey → Bool
      has_number e = same_name e.1.datapath d && nat_eq e.1.key n

      -- whom the number stands for
      abbrev Stands : Option Identity → Type 0
      Stands id = NumberStandsFor keys who d id n

      none_has : list_any has_number keys.ports ≡ false → (q : Name) → IsPortKey keys d q n → ⊥
      unfolding has_number
      none_has none q k =
          let e : Name × PortKey = (q, k.0) in
          false≢true (sym none ∙ among_any has_number e keys.ports (at_among keys.ports q k.0 k.1) (and_from (same_name k.0.datapath d) (nat_eq k.0.key n) ((bytes_decides k.0.datapath d).1 k.2) (eq-eqb k.0.key n k.3)))

      some_has : list_any has_number keys.ports ≡ true → (id : Identity) × Stands (Some id)
      unfolding has_number
      some_has some =
          let e = any_among has_number keys.ports some in
          let parts = and_parts (same_name e.0.1.datapath d) (nat_eq e.0.1.key n) e.2 in
          let is = among_at e.0.0 e.0.1 keys.ports h.holds.can_lower.hold.ports_in_order e.1 in
          let on = (bytes_decides e.0.1.datapath d).0 parts.0 in
          let id = has.owned e.0.0 e.0.1 is on in
          let named = has.named e.0.0 id.0 id.1 in
          let key : IsPortKey keys d id.0.name n = (e.0.1, ap (λ q. at keys.ports q) named ∙ is, on, eqb-true e.0.1.key n parts.1) in
          (id.0, key_stands keys h.holds.can_lower.hold who d id.0 (ap who.live named ∙ id.1) has.named n key)

      -- it is some identity's, be it that of a port or of nobody
      entry : (id : Identity) × Stands (Some id)
      entry = elim (cases_Bool (list_any has_number keys.ports)) [
        | inl some ↦ some_has some
        | inr none ↦ (nobody, record { named = λ q k. absurd (none_has none q k); numbered = λ q k. absurd (no_name q (who.live q) refl k) })
      ]

      exit : (id : Option Identity) × Stands id
      exit = elim (cases_Bool (list_any has_number keys.ports)) [
        | inl some ↦ let i = some_has some in (Some i.0, i.1)
        | inr none ↦ (None, record { named = λ q k. absurd (none_has none q k); numbered = λ q k. absurd (false≢true k) })
      ]

  -- ---- the ports of a switch, and those of a router

  -- no datapath is both
  not_both : (d : Name) (x : Switch) (y : Router) → at net.switches d ≡ Some x → at net.routers d ≡ Some y → ⊥
  not_both d x y is also = none-some y (sym (among_all (λ (e : Name × Switch). at net.routers e.0 ≡ None) (d, x) net.switches h.valid.datapaths (at_among net.switches d x is)) ∙ also)

  of_identity : {X : Type 0} (identity : X → Identity) (Fact : Identity → Type 0) (o : Option X) → ((x : X) → o ≡ Some x → Fact (identity x)) → (id : Identity) → option_map identity o ≡ Some id → Fact id
  of_identity identity Fact None each id is = absurd (none-some id is)
  of_identity identity Fact (Some x) each id is = subst Fact (same_Some (identity x) id is) (each x refl)

  at_switch : (d : Name) (x : Switch) → at net.switches d ≡ Some x → HasPortsOf (roster_of net) d
  at_switch d x there = record {
    owned = λ q k is on. owned q k on (h.owned q k is);
    named = λ q. of_identity port_identity (λ id. id.name ≡ q) (at net.switch_ports q) (port_named net h.valid q);
    some = λ q. of_identity port_identity (λ id. 1 ≤ length id.name) (at net.switch_ports q) (λ port is. (in_grammar net h.valid q port is).name.some);
    members = h.members;
  }
    where
      owned : (q : Name) (k : PortKey) → k.datapath ≡ d → IsOwnKey net q k → (id : Identity) × ((roster_of net).live q ≡ Some id)
      owned q k on (inl i) = (port_identity i.0, ap (λ (o : Option SwitchPort). option_map port_identity o) i.1)
      owned q k on (inr i) = let y = router.on_router net h.valid q i.0 i.1 in absurd (not_both d x y.0 there (ap (λ n. at net.routers n) (sym on ∙ sym i.2) ∙ y.1))

  at_router : (d : Name) (y : Router) → at net.routers d ≡ Some y → HasPortsOf (router_roster net) d
  at_router d y there = record {
    owned = λ q k is on. owned q k on (h.owned q k is);
    named = λ q. of_identity router_port_identity (λ id. id.name ≡ q) (at net.router_ports q) (router.port_named net h.valid q);
    some = λ q. of_identity router_port_identity (λ id. 1 ≤ length id.name) (at net.router_ports q) (λ port is. (router.in_grammar net h.valid q port is).name.some);
    members = h.members;
  }
    where
      owned : (q : Name) (k : PortKey) → k.datapath ≡ d → IsOwnKey net q k → (id : Identity) × ((router_roster net).live q ≡ Some id)
      owned q k on (inl i) = let x = on_switch net h.valid q i.0 i.1 in absurd (not_both d x.0 y (ap (λ n. at net.switches n) (sym on ∙ sym i.2) ∙ x.1) there)
      owned q k on (inr i) = (router_port_identity i.0, ap (λ (o : Option RouterPort). option_map router_port_identity o) i.1)

  -- ---- the packet's datapath

  key_is : (d : Name) (k : DatapathKey) → at keys.datapaths d ≡ Some k → live_datapath_key keys d ≡ k.key
  key_is d k is = ap (λ (o : Option DatapathKey). unwrap_or (option_map (λ (x : DatapathKey). x.key) o) 0) is

  record IsOn (regs : Regs) : Type 0 where
    datapath : Name
    key : IsDatapathKey keys datapath regs.dp
    is_there : IsThere net datapath

  of_flow : (regs : Regs) (packet : Packet) (f : Flow) → IsBest flows (stage_table s) (low_regs regs) (low_packet packet) f → IsOn (low_regs regs)
  of_flow regs packet f best =
      let of = (h.holds.exactly f best.matching.in_table).0 best.held in
      let low = each_is_lowered keys sets of.row of.datapath f of.among in
      let suited = h.holds.can_lower.suited of.row of.datapath of.pair in
      let logical = (matches_alike keys sets of.row of.datapath suited (low_regs regs) (low_packet packet) (low_registers regs) (low_fields packet)).0
      (record { flow = f; among = of.among; matches = record { in_table = low.in_table; fits = best.matching.fits } }) in
      let live = found (at keys.datapaths of.datapath) (h.holds.can_lower.live of.row of.datapath of.pair) in
      record {
        datapath = of.datapath;
        key = (live.0, live.1, sym (key_is of.datapath live.0 live.1) ∙ sym logical.on);
        is_there = there net h.valid of.row of.datapath of.pair;
      }

  -- ---- both flows

  -- rows of the table on the datapath agree
  abbrev AgreeOn : Roster → Name → Type 0
  AgreeOn who d =
      (regs : Regs) (sight : Sight) → HasFieldsInRange sight.packet → (row other : LFlow) → IsBestRow net who (stage_table s) d regs sight row → IsBestRow net who (stage_table s) d regs sight other → row.actions ≡ other.actions

  agree_on : (who : Roster) (d : Name) → HasPortsOf who d → AgreeOn who d → (regs : Regs) (packet : Packet) → IsDatapathKey keys d (low_regs regs).dp
      → (f g : Flow) → IsBest flows (stage_table s) (low_regs regs) (low_packet packet) f → IsBest flows (stage_table s) (low_regs regs) (low_packet packet) g → f.ops ≡ g.ops
  agree_on who d has law regs packet key f g one two =
      let x = low_regs regs in
      let p = low_packet packet in
      let came = entry who d has x.in_port in
      let goes = exit who d has x.out_port in
      let sight : Sight = record { packet = p; in_port = came.0; out_port = goes.0 } in
      let numbers : HasNumbersInRange keys sets who d x sight = record { on = key; came = came.1; goes = goes.1; members = has.members; within = low_registers regs; fields = low_fields packet } in
      let row = best_in_range net keys sets flows (stage_table s) h.holds who d x sight numbers f one in
      let other = best_in_range net keys sets flows (stage_table s) h.holds who d x sight numbers g two in
      row.ops ∙ ap (lowered_ops keys) (law x sight (low_fields packet) row.row other.row row.best other.best) ∙ sym other.ops

  flows_agree : AgreeAnywhereLaw s → ((d : Name) (y : Router) → at net.routers d ≡ Some y → AgreeOn (router_roster net) d) → (regs : Regs) (packet : Packet) (f g : Flow) → IsBest flows (stage_table s) regs packet f → IsBest flows (stage_table s) regs packet g → f.ops ≡ g.ops
  flows_agree law on_routers regs packet f g first second =
      let one = low_best regs packet f first in
      let two = low_best regs packet g second in
      let on = of_flow regs packet f one in
      by on.datapath on.key on.is_there one two
    where
      by : (d : Name) → IsDatapathKey keys d (low_regs regs).dp → IsThere net d → IsBest flows (stage_table s) (low_regs regs) (low_packet packet) f → IsBest flows (stage_table s) (low_regs regs) (low_packet packet) g → f.ops ≡ g.ops
      by d key (as_switch x is) one two = agree_on (roster_of net) d (at_switch d x is) (law net h.valid d (is_found (at net.switches d) x is)) regs packet key f g one two
      by d key (as_router y is) one two = agree_on (router_roster net) d (at_router d y is) (on_routers d y is) regs packet key f g one two

pub flows_by_rows : (s : Stage) → AgreeAnywhereLaw s → RoutersAgreeIn (stage_table s) → FlowsAgreeLaw s
flows_by_rows s law in_routers net keys sets flows h = flows_agree net keys sets flows s h law (in_routers net h.valid)

-- a router has no row in a table that no stage of routers has
pub none_in_routers : (n : ℕ) → of_table n ≡ None → RoutersAgreeIn n
none_in_routers n none net valid d router is regs sight fields row other first second = absurd (no_row_at net valid d router is n none row first.is_row)
