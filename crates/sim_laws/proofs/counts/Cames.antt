-- What comes of packets, with its effects and its walks.
use Rattle.std.specs.Prelude.{◌≡◌, ◌+◌, ◌++◌, ℕ, zero, suc, List, [], ◌∷◌, Bool}
use Rattle.std.proofs.Common.{refl, sym, ap, ◌∙◌, arith, append_assoc, append-nil, inl, inr}
use Rattle.chassis_sim.specs.InNames.{all_in_names}
use Rattle.chassis_sim.specs.Passing as passing
use Rattle.chassis_sim.specs.Passing.{IsInjected, IsArrived, IsTold}
use Rattle.chassis_sim.specs.State.{SimState, KeyPair}
use Rattle.chassis_sim.specs.declared.out.SimOut.{SimOut}
use Rattle.conn_table.specs.Picks.{Choice, to_backend, to_port}
use Rattle.inet_packet.specs.declared.packet.Packet.{Packet}
use Rattle.net_model.specs.Trail.{End, leaves, is_dropped, crosses, picks_backend, picks_port, is_lost, choices_in}
use Rattle.ovn_base.specs.declared.name.Name.{Name}
use Rattle.switch_engine.specs.Outcome.{picks_in, any_legal}
use Rattle.switch_engine.specs.declared.effect.Effect.{Effect}
use Rattle.switch_engine.specs.declared.effect.Effect.TheVariants as effect
use Rattle.switch_engine.specs.declared.effect.NetEffect.{NetEffect}
use Rattle.switch_engine.specs.declared.effect.NetEffect.TheVariants as net
use Rattle.switch_engine.specs.declared.walk.Start.{Start}
use Rattle.switch_engine.specs.declared.walk.Step.{Step}
use Rattle.switch_engine.specs.declared.walk.Walk.{Walk}
use Rattle.tunnel_keys.specs.Keys.{Keys}
use Rattle.sim_laws.specs.Effects.{effects_of}
use Rattle.sim_laws.specs.Passing.{AreDrained}
use Rattle.sim_laws.specs.journeys.Counts.{Came, choices_told, matched_on}

-- ---- the choices of effects

-- in names they tell of the same
pub told_in_names : (names : List (KeyPair × Name)) (chassis : Name) (from : Start) (n : ℕ) (effects : List Effect) → choices_told (all_in_names names chassis from n effects) ≡ picks_in effects
told_in_names names chassis from n [] = refl
told_in_names names chassis from n (e ∷ effects) = by e (λ k. told_in_names names chassis from k effects)
  where
    by : (e : Effect) → ((k : ℕ) → choices_told (all_in_names names chassis from k effects) ≡ picks_in effects) → choices_told (all_in_names names chassis from n (e ∷ effects)) ≡ picks_in (e ∷ effects)
    by (effect.Out port packet) rest = rest n
    by (effect.Frame to vni in_key out_key packet) rest = rest (n + 1)
    by (effect.Drop vni port cause) rest = rest n
    by (effect.PickBackend vni vip backend) rest = ap (λ (cs : List Choice). to_backend backend ∷ cs) (rest n)
    by (effect.PickPort vni port) rest = ap (λ (cs : List Choice). to_port port ∷ cs) (rest n)
    by effect.Lost rest = rest n

-- and so do those of ends
pub told_of_ends : (keys : Keys) (n : ℕ) (ends : List End) → choices_told (effects_of keys n ends) ≡ choices_in ends
told_of_ends keys n [] = refl
told_of_ends keys n (leaves q packet ∷ ends) = told_of_ends keys n ends
told_of_ends keys n (is_dropped d q cause ∷ ends) = told_of_ends keys n ends
told_of_ends keys n (crosses chassis x ∷ ends) = told_of_ends keys (n + 1) ends
told_of_ends keys n (picks_backend d vip backend ∷ ends) = ap (λ (cs : List Choice). to_backend backend ∷ cs) (told_of_ends keys n ends)
told_of_ends keys n (picks_port router port ∷ ends) = ap (λ (cs : List Choice). to_port port ∷ cs) (told_of_ends keys n ends)
told_of_ends keys n (is_lost k ∷ ends) = told_of_ends keys n ends

pub told_both : (es fs : List NetEffect) → choices_told (es ++ fs) ≡ choices_told es ++ choices_told fs
told_both [] fs = refl
told_both (e ∷ es) fs = by e (told_both es fs)
  where
    by : (e : NetEffect) → choices_told (es ++ fs) ≡ choices_told es ++ choices_told fs → choices_told (e ∷ es ++ fs) ≡ choices_told (e ∷ es) ++ choices_told fs
    by (net.PickBackend datapath vip backend) rest = ap (λ (cs : List Choice). to_backend backend ∷ cs) rest
    by (net.PickPort router port) rest = ap (λ (cs : List Choice). to_port port ∷ cs) rest
    by (net.DatapathKey name key) rest = rest
    by (net.PortKey name key) rest = rest
    by (net.Tunnel n from to bytes) rest = rest
    by (net.Out port packet) rest = rest
    by (net.Drop datapath port cause) rest = rest
    by (net.Lost n) rest = rest

pub matched_both : (ws vs : List Walk) → matched_on (ws ++ vs) ≡ matched_on ws + matched_on vs
matched_both [] vs = omega arith
matched_both (w ∷ ws) vs = let rest = matched_both ws vs in omega (arith, rest)

-- ---- what came

abbrev pub came_none : (out : SimOut) → Came out out
came_none out = record { effects = []; walks = []; all_effects = sym (append-nil out.effects); all_walks = sym (append-nil out.walks) }

abbrev pub came_as : {before after new : SimOut} → after ≡ new → Came before new → Came before after
came_as is c = record { effects = c.effects; walks = c.walks; all_effects = ap (λ (o : SimOut). o.effects) is ∙ c.all_effects; all_walks = ap (λ (o : SimOut). o.walks) is ∙ c.all_walks }

abbrev pub came_then : {before between after : SimOut} → Came before between → Came between after → Came before after
came_then {before = before} a b = record {
  effects = a.effects ++ b.effects;
  walks = a.walks ++ b.walks;
  all_effects = b.all_effects ∙ ap (λ es. es ++ b.effects) a.all_effects ∙ append_assoc before.effects a.effects b.effects;
  all_walks = b.all_walks ∙ ap (λ ws. ws ++ b.walks) a.all_walks ∙ append_assoc before.walks a.walks b.walks;
}

abbrev pub came_told : {old new : SimState} {chassis : Name} {from : Start} {steps : List Step} {effects : List Effect} {before after : SimOut} → IsTold old chassis from steps effects before after new → Came before after
came_told {old = old} {chassis = chassis} {from = from} {steps = steps} {effects = effects} told = record {
  effects = all_in_names old.names chassis from old.next effects;
  walks = record { chassis = chassis; start = from; steps = steps } ∷ [];
  all_effects = told.told.all_effects;
  all_walks = told.told.all_walks;
}

abbrev pub came_injected : {s new : SimState} {port : Name} {now : ℕ} {packet : Packet} {before after : SimOut} → IsInjected any_legal s port now packet before after new → Came before after
came_injected (passing.IsInjected.through chassis flows lists left steps effects bound held listed walk told) = came_told told
came_injected (passing.IsInjected.nowhere chassis bound none told) = came_told told

abbrev pub came_arrived : {s new : SimState} {n now : ℕ} {keep : Bool} {before after : SimOut} → IsArrived any_legal s n keep now before after new → Came before after
came_arrived (passing.IsArrived.through frame flows lists left vni in_key out_key packet steps effects waits held listed carries walk told) = came_told told
came_arrived (passing.IsArrived.gone frame waits none told) = came_told told

abbrev pub came_drained : (k now : ℕ) (s new : SimState) (before after : SimOut) → AreDrained any_legal now k s before after new → Came before after
came_drained zero now s new before after d = came_as d.0 (came_none before)
came_drained (suc k) now s new before after (inl d) = came_as d.1 (came_none before)
came_drained (suc k) now s new before after (inr f) = came_then (came_arrived f.arrives) (came_drained k now f.mid new f.between after f.others)
