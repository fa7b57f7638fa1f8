-- A row of which each action sets a register within its range or goes on at a later table is lowered to proper flows.
use Rattle.std.specs.Prelude.{◌≡◌, ◌<◌, ◌≤◌, ◌^◌, ◌&&◌, ℕ, Bool, true, false, not, nat_lt, List, [], ◌∷◌, Option, Some, None, option_map, unwrap_or}
use Rattle.std.specs.List.{AllByRecursion, list_all}
use Rattle.std.proofs.Common.{refl, sym, ap, subst, arith}
use Rattle.std.proofs.lemmas.Bool.{and_parts, and_from, both_ways, not-true, ltb-true, lt-ltb}
use Rattle.ovn_base.proofs.AmongLaws.{among_left, among_filter_map, map_among}
use Rattle.ovn_base.proofs.ByNameLaws.{at_among}
use Rattle.ovn_base.specs.declared.name.Name.{Name}
use Rattle.ovn_base.specs.lists.Among.{Among}
use Rattle.ovn_base.specs.names.ByName.{at}
use Rattle.flow_lowering.specs.LoweredFlows.{live_port_key, lowered_op, lowered_ops, lowered_cubes, lowered_flows, flow_on}
use Rattle.flow_table.specs.declared.flow.Flow.{Flow}
use Rattle.inet_packet.specs.declared.regs.Reg.{Reg}
use Rattle.inet_packet.specs.declared.regs.Reg.TheVariants as reg
use Rattle.logical_flows.specs.Stages.{stage_table}
use Rattle.logical_flows.specs.declared.action.Action.{Action}
use Rattle.logical_flows.specs.declared.action.Action.TheVariants as a
use Rattle.logical_flows.specs.declared.flow.LFlow.{LFlow}
use Rattle.match_cubes.specs.declared.sets.Sets.{Sets}
use Rattle.switch_engine.specs.Proper.{CanBeSet, IsProperFlow, Rises, width}
use Rattle.tunnel_keys.proofs.HeldKeys.{found, on_datapath_key, is_held_port}
use Rattle.tunnel_keys.specs.Keys.{Keys, IsKeys, held_port}
use Rattle.tunnel_keys.specs.declared.owner.PortKey.{PortKey}

-- ---- which actions rise

abbrev pub is_entry : Reg → Bool
is_entry reg.InPort = true
is_entry _ = false

-- the number lies within the register, which is not that of the port of entry
abbrev pub can_set : Reg → ℕ → Bool
can_set r n = nat_lt n (2 ^ width r) && not (is_entry r)

abbrev pub is_rising : ℕ → Action → Bool
is_rising table (a.Set r n) = can_set r n
is_rising table (a.Go next) = nat_lt table next
is_rising table _ = true

-- all actions of the row do
abbrev pub rises : LFlow → Bool
rises row = list_all (is_rising (stage_table row.stage)) row.actions

-- ---- so the flows are proper

pub can_be_set : (r : Reg) (n : ℕ) → can_set r n ≡ true → CanBeSet r n
can_be_set r n h =
    let m = and_parts (nat_lt n (2 ^ width r)) (not (is_entry r)) h in
    record { within = ltb-true n (2 ^ width r) m.0; of_port = λ e. absurd (both_ways (is_entry r) (not-true (is_entry r) m.1) (ap is_entry e)) }

module _ (keys : Keys) (hold : IsKeys keys) where
  -- the number of a port without a key is 0
  key_within : (q : Name) (o : Option PortKey) → at keys.ports q ≡ o → unwrap_or (option_map (λ (k : PortKey). k.key) o) 0 < 2 ^ 16
  key_within q None is = omega arith
  key_within q (Some k) is =
      let m = at_among keys.ports q k is in
      let x = found (at keys.datapaths k.datapath) (hold.on_datapath (q, k) m) in
      let h = on_datapath_key q k x.0 in
      let held = among_left h _ keys.retired_ports (among_filter_map (held_port keys.datapaths) (q, k) h keys.ports m (is_held_port keys.datapaths q k x.0 x.1)) in
      let low : k.key ≤ keys.port_range = (hold.port_keys h held).1 in
      let high : keys.port_range ≤ 32767 = hold.port_ranges.1 in
      omega (arith, low, high)

  pub port_within : (q : Name) → can_set reg.OutPort (live_port_key keys q) ≡ true
  port_within q = and_from (nat_lt (live_port_key keys q) (2 ^ 16)) true (lt-ltb (live_port_key keys q) (2 ^ 16) (key_within q (at keys.ports q) refl)) refl

  pub op_rises : (table : ℕ) (x : Action) → is_rising table x ≡ true → Rises table (lowered_op keys x)
  unfolding lowered_op
  op_rises table (a.Set r n) h = can_be_set r n h
  op_rises table (a.SetOut q) h = can_be_set reg.OutPort (live_port_key keys q) (port_within q)
  op_rises table (a.Go next) h = ltb-true table next h
  op_rises table _ h = tt

  ops_rise : (table : ℕ) (xs : List Action) → list_all (is_rising table) xs ≡ true → AllByRecursion (Rises table) (lowered_ops keys xs)
  ops_rise table [] h = tt
  ops_rise table (x ∷ xs) h = let m = and_parts (is_rising table x) (list_all (is_rising table) xs) h in (op_rises table x m.0, ops_rise table xs m.1)

  -- each flow to which the row is lowered, by whatever sets and on whatever datapath
  pub rising_row_proper : (sets : Sets) (row : LFlow) (datapath : Name) → rises row ≡ true → (flow : Flow) → Among flow (lowered_flows keys sets row datapath) → IsProperFlow flow
  rising_row_proper sets row datapath h flow m =
      let ops = lowered_ops keys row.actions in
      let from = map_among (flow_on row ops) flow (lowered_cubes keys sets row datapath) m in
      subst IsProperFlow (sym from.2) (IsProperFlow.rising (ops_rise (stage_table row.stage) row.actions h))
