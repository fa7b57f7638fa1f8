-- A walk through flows is one through any list of the same flows.
use Rattle.std.specs.Prelude.{◌↔◌, ℕ, List, [], ◌∷◌}
use Rattle.std.proofs.Common.{subst}
use Rattle.ovn_base.specs.lists.Among.{Among}
use Rattle.flow_table.specs.Matching.{IsBest}
use Rattle.flow_table.specs.declared.flow.Flow.{Flow}
use Rattle.inet_packet.specs.declared.packet.Packet.{Packet}
use Rattle.inet_packet.specs.declared.regs.Regs.{Regs}
use Rattle.row_laws.specs.AgreeAnywhere.{FlowsAgreeLaw}
use Rattle.row_laws.specs.StageLaws.{OfEachStage}
use Rattle.switch_engine.specs.Outcome.{Choosing, any_legal}
use Rattle.switch_engine.specs.Walk.{IsWalk, start}
use Rattle.switch_engine.specs.Walk.IsWalk.{over, ends, takes}
use Rattle.switch_engine.specs.Zones.{ZoneLists}
use Rattle.switch_engine.specs.declared.carried.Carried.{Carried}
use Rattle.switch_engine.specs.declared.effect.Effect.{Effect}
use Rattle.switch_engine.specs.declared.effect.Entry.{Entry}
use Rattle.switch_engine.specs.declared.walk.Step.{Step}
use Rattle.switch_engine.proofs.OneWalkLaw.{walks_one}
use Rattle.sim_laws.proofs.counts.FlowsAgree.{chassis_agrees}
use Rattle.sim_laws.proofs.counts.SameZones.{zone_walk}
use Rattle.sim_laws.specs.journeys.Counts.{AreSameZones, ChassisAgreeLaw, ChassisWalksLaw}
use Rattle.sim_laws.specs.journeys.Filling.{FillingLaw}

module _ (xs ys : List Flow) (same : (f : Flow) → Among f xs ↔ Among f ys) where
  same_best : (table : ℕ) (regs : Regs) (packet : Packet) (f : Flow) → IsBest xs table regs packet f → IsBest ys table regs packet f
  same_best table regs packet f best = record { held = (same f).0 best.held; matching = best.matching; unbeaten = λ g m. best.unbeaten g ((same g).1 m) }

  pub same_walk : (by : Choosing) (entry : Entry) (now : ℕ) (zones last : ZoneLists) (copies : List Carried) (steps : List Step) (effects : List Effect)
      → IsWalk by xs entry now zones copies steps effects last → IsWalk by ys entry now zones copies steps effects last
  same_walk by entry now _ _ _ _ _ (over zones) = over zones
  same_walk by entry now _ _ _ _ _ (ends zones last copy others steps more all none walk is) =
      ends zones last copy others steps more all (λ g m. none g ((same g).1 m)) (same_walk by entry now zones last others steps more walk) is
  same_walk by entry now _ _ _ _ _ (takes zones last copy others step steps told more all here best done walk is) =
      takes zones last copy others step steps told more all here (same_best copy.table copy.regs copy.packet step.flow best) done (same_walk by entry now _ last _ steps more walk) is

-- ---- the laws of one chassis

pub each_chassis_agrees : OfEachStage FlowsAgreeLaw → FillingLaw → ChassisAgreeLaw
each_chassis_agrees stages fills m zones more sets u members chassis flows exact = chassis_agrees stages m zones more u sets members chassis flows exact (fills m zones more sets chassis flows u exact)

pub each_chassis_walks : OfEachStage FlowsAgreeLaw → FillingLaw → ChassisWalksLaw
each_chassis_walks stages fills m zones more sets u members chassis flows same_flows exact also entry now packet before other_before after other_after steps others effects other_effects same walk other picks =
    let w = zone_walk entry now flows before other_before after (start entry packet ∷ []) steps effects same walk in
    let mine = same_walk same_flows flows (λ f. (λ x. (exact.same f).1 ((also.same f).0 x), λ x. (also.same f).1 ((exact.same f).0 x))) any_legal entry now other_before other_after (start entry packet ∷ []) others other_effects other in
    let one = walks_one flows entry now packet other_before w.left other_after steps others effects other_effects (each_chassis_agrees stages fills m zones more sets u members chassis flows exact) w.walk mine picks in
    record { same_effects = one.same_effects; same_zones = subst (λ z. AreSameZones after z) one.same_zones w.same; same_lengths = one.same_lengths }
