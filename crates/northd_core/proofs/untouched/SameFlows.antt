-- Rows are lowered to the same flows where what they name has the same keys.
use Rattle.std.specs.Prelude.{◌≡◌, ◌++◌, Bool, true, List, [], ◌∷◌, map, flat_map, filter_map, Option, option_map, unwrap_or}
use Rattle.std.specs.List.{AllByRecursion, list_all}
use Rattle.std.proofs.Common.{refl, sym, ap, ◌∙◌}
use Rattle.std.proofs.lemmas.Bool.{and_parts}
use Rattle.ovn_base.specs.declared.name.Name.{Name}
use Rattle.ovn_base.specs.names.ByName.{at, IsByName}
use Rattle.flow_table.specs.declared.flow.FlowOp.TheVariants as op
use Rattle.inet_packet.specs.declared.regs.Reg.TheVariants as reg
use Rattle.logical_flows.specs.declared.action.Action.{Action}
use Rattle.logical_flows.specs.declared.action.Action.TheVariants as a
use Rattle.logical_flows.specs.declared.flow.LFlow.{LFlow}
use Rattle.match_cubes.specs.Cubes.{cubes_of}
use Rattle.match_cubes.specs.Points.{named}
use Rattle.match_cubes.specs.declared.sets.Sets.{Sets}
use Rattle.tunnel_keys.specs.Keys.{Keys, ports_on}
use Rattle.tunnel_keys.specs.declared.owner.PortKey.{PortKey}
use Rattle.flow_lowering.specs.LoweredFlows.{live_datapath_key, setting_on, lowered_op, lowered_ops, flow_on, lowered_flows}
use Rattle.flow_lowering.specs.Registers.{dp_is, met_with_all}
use Rattle.row_laws.proofs.lowered.PortKeys.{key_on, named_on}
use Rattle.northd_core.specs.Lowering.{flows_of_rows}
use Rattle.northd_core.proofs.untouched.KnownNames.{cubes_same}
use Rattle.northd_core.proofs.untouched.KnownRows.{sends_known, Are}

-- lists that each element has alike in both are alike together
pub each_alike : {X Y : Type 0} (f g : X → List Y) (xs : List X) → AllByRecursion (λ x. f x ≡ g x) xs → flat_map f xs ≡ flat_map g xs
each_alike f g [] h = refl
each_alike f g (x ∷ xs) h = λ i. h.0 i ++ each_alike f g xs h.1 i

module _ (before after : Keys) (these those : Sets) (d : Name) (on : live_datapath_key before d ≡ live_datapath_key after d) where
  -- a row has the same flows where its match has the same cubes and its actions are the same operations
  pub row_alike : (row : LFlow) → cubes_of (setting_on before these d) row.matching ≡ cubes_of (setting_on after those d) row.matching
      → lowered_ops before row.actions ≡ lowered_ops after row.actions → lowered_flows before these row d ≡ lowered_flows after those row d
  row_alike row cubes ops = λ i. map (flow_on row (ops i)) (filter_map (met_with_all (dp_is (on i) ∷ row.regs)) (cubes i))

  module _ (known : Name → Bool) (ascend : IsByName before.ports) (also : IsByName after.ports) (ports : (q : Name) → known q ≡ true → at before.ports q ≡ at after.ports q) where
    key_same : (q : Name) → known q ≡ true → named (ports_on before.ports d) q ≡ named (ports_on after.ports d) q
    key_same q h = named_on d before.ports q ascend ∙ ap (key_on d) (ports q h) ∙ sym (named_on d after.ports q also)

    op_same : (x : Action) → sends_known known x ≡ true → lowered_op before x ≡ lowered_op after x
    unfolding lowered_op
    op_same (a.SetOut q) h = ap (λ (o : Option PortKey). op.Set reg.OutPort (unwrap_or (option_map (λ (k : PortKey). k.key) o) 0)) (ports q h)
    op_same _ h = refl

    ops_same : (xs : List Action) → list_all (sends_known known) xs ≡ true → lowered_ops before xs ≡ lowered_ops after xs
    ops_same [] h = refl
    ops_same (x ∷ xs) h = let m = and_parts (sends_known known x) (list_all (sends_known known) xs) h in λ i. op_same x m.0 i ∷ ops_same xs m.1 i

    each_same : (rows : List LFlow) → Are known rows → AllByRecursion (λ (row : LFlow). lowered_flows before these row d ≡ lowered_flows after those row d) rows
    each_same [] h = tt
    each_same (row ∷ rows) h = (row_alike row (cubes_same known (setting_on before these d) (setting_on after those d) key_same row.matching h.0.0) (ops_same row.actions h.0.1), each_same rows h.1)

    -- rows that name known ports alone have the same flows where those ports have the same keys
    pub rows_alike : (rows : List LFlow) → Are known rows → flows_of_rows before these rows d ≡ flows_of_rows after those rows d
    rows_alike rows h = each_alike (λ (row : LFlow). lowered_flows before these row d) (λ (row : LFlow). lowered_flows after those row d) rows (each_same rows h)
