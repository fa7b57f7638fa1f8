-- What the actions of the stages of a router come to, once lowered and done, where they are none of a switch too.
use Rattle.std.specs.Prelude.{ℕ, Bool, true, false, cond, List, [], ◌∷◌}
use Rattle.std.proofs.Common.{subst}
use Rattle.flow_lowering.specs.LoweredFlows.{lowered_op, live_port_key}
use Rattle.inet_packet.specs.Fields.{ip4_dst}
use Rattle.inet_packet.specs.declared.regs.Reg.TheVariants as reg
use Rattle.logical_flows.specs.declared.action.Action.TheVariants as a
use Rattle.ovn_base.specs.declared.address.Mac.{Mac}
use Rattle.switch_engine.specs.Actions.{set_reg, gone_on}
use Rattle.switch_engine.specs.Headers.{echo_answered, ttl_spent}
use Rattle.switch_engine.specs.Zones.{ZoneLists}
use Rattle.switch_engine.specs.declared.carried.Carried.{Carried}
use Rattle.sim_laws.specs.pipelines.Standing.{Chassis}
use Rattle.sim_laws.specs.pipelines.WalkOn.{Reached}
use Rattle.sim_laws.specs.routers.TranslatingWords.{Bring}

-- an echo request became its answer
abbrev pub echoed : Carried → Carried
echoed copy = record copy { packet = echo_answered copy.packet; regs = set_reg reg.Own 1 copy.regs }

-- the packet is to leave by the port for the next hop
abbrev pub routed_to : Chassis → List ℕ → Mac → ℕ → Carried → Carried
routed_to s q mac next copy =
    record copy {
      packet = record (ttl_spent copy.packet) { src = mac };
      regs = set_reg reg.Loopback 1 (record copy.regs { next = next; out_port = live_port_key s.keys q });
    }

abbrev pub hop_by : Bool → Carried → ℕ → ℕ
hop_by b copy n = cond b (ip4_dst (ttl_spent copy.packet).body) n

module _ (s : Chassis) (zones : ZoneLists) (copy : Carried) (So : Reached) where
  pub echo_does : (n : ℕ) → So [] zones (gone_on n (echoed copy) ∷ []) → Bring s (a.EchoReply ∷ a.Set reg.Own 1 ∷ a.Go n ∷ []) zones copy So
  unfolding lowered_op
  echo_does n so told done = subst (λ l. So l zones (gone_on n (echoed copy) ∷ [])) done.effects so

  pub route_does : (q : List ℕ) (mac : Mac) (b : Bool) (m n : ℕ) → So [] zones (gone_on n (routed_to s q mac (hop_by b copy m) copy) ∷ [])
      → Bring s (a.DecTtl ∷ cond b a.NextDst (a.Set reg.Next m) ∷ a.SetOut q ∷ a.EthSrc mac ∷ a.Set reg.Loopback 1 ∷ a.Go n ∷ []) zones copy So
  unfolding lowered_op
  route_does q mac true m n so told done = subst (λ l. So l zones (gone_on n (routed_to s q mac (ip4_dst (ttl_spent copy.packet).body) copy) ∷ [])) done.effects so
  route_does q mac false m n so told done = subst (λ l. So l zones (gone_on n (routed_to s q mac m copy) ∷ [])) done.effects so

  pub neighbour_does : (mac : Mac) (n : ℕ) → So [] zones (gone_on n (record copy { packet = record copy.packet { dst = mac } }) ∷ []) → Bring s (a.EthDst mac ∷ a.Go n ∷ []) zones copy So
  unfolding lowered_op
  neighbour_does mac n so told done = subst (λ l. So l zones (gone_on n (record copy { packet = record copy.packet { dst = mac } }) ∷ [])) done.effects so
