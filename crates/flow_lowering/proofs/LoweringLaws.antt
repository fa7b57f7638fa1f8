-- A logical flow and the flows to which it is lowered match the same packets.
use Rattle.std.specs.Prelude.{◌≡◌, List, ◌∷◌, map, filter_map, Option, Some, None}
use Rattle.std.specs.List.{AllByRecursion}
use Rattle.std.proofs.Common.{refl, sym, subst}
use Rattle.ovn_base.proofs.AmongLaws.{among_all, all_among, among_map, map_among, among_filter_map, filter_map_among}
use Rattle.inet_packet.specs.declared.cube.Cube.{Cube}
use Rattle.inet_packet.specs.declared.packet.Packet.{Packet}
use Rattle.inet_packet.specs.declared.regs.Regs.{Regs}
use Rattle.inet_packet.specs.Fits.{CubeFits}
use Rattle.flow_table.specs.declared.flow.Flow.{Flow}
use Rattle.flow_table.specs.declared.flow.FlowOp.{FlowOp}
use Rattle.logical_flows.specs.Stages.{stage_table}
use Rattle.logical_flows.specs.declared.flow.LFlow.{LFlow}
use Rattle.logical_flows.specs.declared.flow.RegIs.{RegIs}
use Rattle.match_cubes.specs.Answer.{InOne}
use Rattle.match_cubes.specs.Cubes.{cubes_of}
use Rattle.match_cubes.proofs.FitsLaws.{cubes_exact}
use Rattle.flow_lowering.specs.LoweredFlows.{setting_on, lowered_ops, lowered_cubes, datapath_is, flow_on}
use Rattle.flow_lowering.specs.LoweringLaw.{SomeMatches, IsLowered, MatchesAlike, EachIsLowered}
use Rattle.flow_lowering.specs.Registers.{HasRegistersInRange, met_with_all}
use Rattle.flow_lowering.proofs.RegisterLaws.{HasNumber, Holds, all_hold}

-- ---- flows and their cubes

module _ (f : LFlow) (ops : List FlowOp) (regs : Regs) (packet : Packet) where
  match_in_one : (cubes : List Cube) → SomeMatches (map (flow_on f ops) cubes) (stage_table f.stage) regs packet → InOne cubes regs packet
  match_in_one cubes some =
      let from = map_among (flow_on f ops) some.flow cubes some.among in
      record { cube = from.0; among = from.1; fits = subst (λ (g : Flow). CubeFits g.cube regs packet) from.2 some.matches.fits }

  one_matches : (cubes : List Cube) → InOne cubes regs packet → SomeMatches (map (flow_on f ops) cubes) (stage_table f.stage) regs packet
  one_matches cubes one = record {
    flow = flow_on f ops one.cube;
    among = among_map (flow_on f ops) one.cube cubes one.among;
    matches = record { in_table = refl; fits = one.fits };
  }

-- ---- cubes that are met with registers

module _ (regs : Regs) (packet : Packet) (range : HasRegistersInRange regs) where
  -- the cube that holds it is there
  held_some : (o : Option Cube) → Holds regs packet o → (d : Cube) × (o ≡ Some d) × CubeFits d regs packet
  held_some (Some d) h = (d, refl, h)
  held_some None h = absurd h

  before_met : (rs : List RegIs) (cubes : List Cube) → InOne (filter_map (met_with_all rs) cubes) regs packet → InOne cubes regs packet × AllByRecursion (HasNumber regs) rs
  before_met rs cubes one =
      let from = filter_map_among (met_with_all rs) one.cube cubes one.among in
      let both = (all_hold regs packet range rs from.0).0 (subst (λ (o : Option Cube). Holds regs packet o) (sym from.2) one.fits) in
      (record { cube = from.0; among = from.1; fits = both.0 }, both.1)

  after_met : (rs : List RegIs) (cubes : List Cube) → InOne cubes regs packet → AllByRecursion (HasNumber regs) rs → InOne (filter_map (met_with_all rs) cubes) regs packet
  after_met rs cubes one all =
      let met = held_some (met_with_all rs one.cube) ((all_hold regs packet range rs one.cube).1 (one.fits, all)) in
      record { cube = met.0; among = among_filter_map (met_with_all rs) one.cube met.0 cubes one.among met.1; fits = met.2 }

-- ---- the laws

pub matches_alike : MatchesAlike
matches_alike keys sets f d suited regs packet range fields =
    let cubes : List Cube = cubes_of (setting_on keys sets d) f.matching in
    let tests : List RegIs = datapath_is keys d ∷ f.regs in
    let exact = cubes_exact (setting_on keys sets d) f.matching cubes suited refl regs packet fields in (
      λ some.
          let before = before_met regs packet range tests cubes (match_in_one f (lowered_ops keys f.actions) regs packet (lowered_cubes keys sets f d) some) in
          record { on = before.1.0; registers = λ r among. among_all (HasNumber regs) r f.regs before.1.1 among; matching = exact.0 before.0 },
      λ matches.
          one_matches f (lowered_ops keys f.actions) regs packet (lowered_cubes keys sets f d)
          (after_met regs packet range tests cubes (exact.1 matches.matching) (matches.on, all_among (HasNumber regs) f.regs matches.registers)),
    )

pub each_is_lowered : EachIsLowered
each_is_lowered keys sets f d flow among =
    let from = map_among (flow_on f (lowered_ops keys f.actions)) flow (lowered_cubes keys sets f d) among in
    subst (λ (g : Flow). IsLowered keys f g) (sym from.2) (record { in_table = refl; priority = refl; rank = refl; ops = refl })
