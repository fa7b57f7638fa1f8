-- The flows to which rows are lowered ask for no bit above a field or a register.
use Rattle.std.specs.Prelude.{◌≡◌, ◌∷◌, [], ℕ, Bool, true, false, cond, List, Option, Some, None}
use Rattle.std.specs.Option.{option_and_then}
use Rattle.std.proofs.Common.{refl, sym, subst, arith}
use Rattle.std.proofs.lemmas.Nat.{or_lt}
use Rattle.std.proofs.lemmas.Option.{none-some, same_Some}
use Rattle.ovn_base.proofs.AmongLaws.{among_all, map_among, filter_map_among}
use Rattle.ovn_base.specs.declared.name.Name.{Name}
use Rattle.ovn_base.specs.lists.Among.{Among}
use Rattle.inet_packet.specs.declared.cube.Cube.{Cube}
use Rattle.inet_packet.specs.declared.regs.Reg.{Reg}
use Rattle.inet_packet.specs.declared.regs.Reg.TheVariants as reg
use Rattle.flow_table.specs.declared.flow.Flow.{Flow}
use Rattle.match_language.specs.declared.field.Field.{Field}
use Rattle.match_language.specs.declared.field.Field.TheVariants as f
use Rattle.match_cubes.specs.Asked.{bit_width, asked_of_field}
use Rattle.match_cubes.specs.Cubes.{cubes_of}
use Rattle.match_cubes.specs.Suited.{are_suited}
use Rattle.match_cubes.specs.Ternary.{agree, both_bits}
use Rattle.match_cubes.specs.declared.sets.Sets.{Sets}
use Rattle.logical_flows.specs.declared.flow.LFlow.{LFlow}
use Rattle.logical_flows.specs.declared.flow.RegIs.{RegIs}
use Rattle.tunnel_keys.specs.Keys.{Keys}
use Rattle.flow_lowering.specs.LoweredFlows.{setting_on, datapath_is, lowered_ops, flow_on, lowered_cubes, lowered_flows}
use Rattle.flow_lowering.specs.Registers.{reg_bits, asked_of_reg, ask_reg, met_with, met_with_all}
use Rattle.row_laws.proofs.lowered.NarrowCubes.{IsBelow, AreWordsBelow, IsNarrow, cubes_narrow}

-- the cube that asks for the register besides
abbrev asking : Reg → ℕ → Cube → Cube
asking x n c = ask_reg x (both_bits (asked_of_reg x c) (reg_bits (record { reg = x; value = n }))) c

asking_fields : (x : Reg) (n : ℕ) (c : Cube) → IsNarrow c → (g : Field) → IsBelow (bit_width g) (asked_of_field g (asking x n c))
asking_fields reg.InPort n c h f.Inport = or_lt 16 _ _ (h.fields f.Inport) (omega arith)
asking_fields reg.OutPort n c h f.Outport = or_lt 16 _ _ (h.fields f.Outport) (omega arith)
asking_fields reg.Dp n c h f.EthSrc = h.fields f.EthSrc
asking_fields reg.Next n c h f.EthSrc = h.fields f.EthSrc
asking_fields reg.ZIn n c h f.EthSrc = h.fields f.EthSrc
asking_fields reg.ZOut n c h f.EthSrc = h.fields f.EthSrc
asking_fields reg.ZDnat n c h f.EthSrc = h.fields f.EthSrc
asking_fields reg.ZSnat n c h f.EthSrc = h.fields f.EthSrc
asking_fields reg.State n c h f.EthSrc = h.fields f.EthSrc
asking_fields reg.Verdict n c h f.EthSrc = h.fields f.EthSrc
asking_fields reg.Tier n c h f.EthSrc = h.fields f.EthSrc
asking_fields reg.Loopback n c h f.EthSrc = h.fields f.EthSrc
asking_fields reg.Tracked n c h f.EthSrc = h.fields f.EthSrc
asking_fields reg.Blocked n c h f.EthSrc = h.fields f.EthSrc
asking_fields reg.Own n c h f.EthSrc = h.fields f.EthSrc
asking_fields reg.Arrived n c h f.EthSrc = h.fields f.EthSrc
asking_fields _ n c h g = h.fields g

asking_words : (x : Reg) (n : ℕ) (c : Cube) → AreWordsBelow c → AreWordsBelow (asking x n c)
asking_words reg.Dp n c (dp, next, z_in, z_out, z_dnat, z_snat, state, verdict, tier) = (or_lt 24 _ _ dp (omega arith), next, z_in, z_out, z_dnat, z_snat, state, verdict, tier)
asking_words reg.Next n c (dp, next, z_in, z_out, z_dnat, z_snat, state, verdict, tier) = (dp, or_lt 32 _ _ next (omega arith), z_in, z_out, z_dnat, z_snat, state, verdict, tier)
asking_words reg.ZIn n c (dp, next, z_in, z_out, z_dnat, z_snat, state, verdict, tier) = (dp, next, or_lt 16 _ _ z_in (omega arith), z_out, z_dnat, z_snat, state, verdict, tier)
asking_words reg.ZOut n c (dp, next, z_in, z_out, z_dnat, z_snat, state, verdict, tier) = (dp, next, z_in, or_lt 16 _ _ z_out (omega arith), z_dnat, z_snat, state, verdict, tier)
asking_words reg.ZDnat n c (dp, next, z_in, z_out, z_dnat, z_snat, state, verdict, tier) = (dp, next, z_in, z_out, or_lt 16 _ _ z_dnat (omega arith), z_snat, state, verdict, tier)
asking_words reg.ZSnat n c (dp, next, z_in, z_out, z_dnat, z_snat, state, verdict, tier) = (dp, next, z_in, z_out, z_dnat, or_lt 16 _ _ z_snat (omega arith), state, verdict, tier)
asking_words reg.State n c (dp, next, z_in, z_out, z_dnat, z_snat, state, verdict, tier) = (dp, next, z_in, z_out, z_dnat, z_snat, or_lt 3 _ _ state (omega arith), verdict, tier)
asking_words reg.Verdict n c (dp, next, z_in, z_out, z_dnat, z_snat, state, verdict, tier) = (dp, next, z_in, z_out, z_dnat, z_snat, state, or_lt 3 _ _ verdict (omega arith), tier)
asking_words reg.Tier n c (dp, next, z_in, z_out, z_dnat, z_snat, state, verdict, tier) = (dp, next, z_in, z_out, z_dnat, z_snat, state, verdict, or_lt 3 _ _ tier (omega arith))
asking_words _ n c h = h

met_narrow : (x : RegIs) (c d : Cube) → IsNarrow c → met_with x c ≡ Some d → IsNarrow d
unfolding met_with
met_narrow x c d h e = by (agree (asked_of_reg x.reg c) (reg_bits x)) e
  where
    by : (t : Bool) → cond t (Some (asking x.reg x.value c)) None ≡ Some d → IsNarrow d
    by true k = subst IsNarrow (same_Some (asking x.reg x.value c) d k) (record { fields = asking_fields x.reg x.value c h; words = asking_words x.reg x.value c h.words })
    by false k = absurd (none-some d k)

all_met_narrow : (xs : List RegIs) (c d : Cube) → IsNarrow c → met_with_all xs c ≡ Some d → IsNarrow d
all_met_narrow [] c d h e = subst IsNarrow (same_Some c d e) h
all_met_narrow (x ∷ xs) c d h e = by (met_with x c) refl (λ b. all_met_narrow xs b d) e
  where
    by : (o : Option Cube) → met_with x c ≡ o → ((b : Cube) → IsNarrow b → met_with_all xs b ≡ Some d → IsNarrow d) → option_and_then (met_with_all xs) o ≡ Some d → IsNarrow d
    by None is rest k = absurd (none-some d k)
    by (Some b) is rest k = rest b (met_narrow x c b h is) k

pub lowered_narrow : (keys : Keys) (sets : Sets) (row : LFlow) (d : Name) → are_suited row.matching true ≡ true → (flow : Flow) → Among flow (lowered_flows keys sets row d) → IsNarrow flow.cube
lowered_narrow keys sets row d suited flow m =
    let from = map_among (flow_on row (lowered_ops keys row.actions)) flow (lowered_cubes keys sets row d) m in
    let cubes : List Cube = cubes_of (setting_on keys sets d) row.matching in
    let before = filter_map_among (met_with_all (datapath_is keys d ∷ row.regs)) from.0 cubes from.1 in
    let narrow = among_all IsNarrow before.0 cubes (cubes_narrow (setting_on keys sets d) row.matching true suited) before.1 in
    subst (λ (g : Flow). IsNarrow g.cube) (sym from.2) (all_met_narrow (datapath_is keys d ∷ row.regs) before.0 from.0 narrow before.2)
