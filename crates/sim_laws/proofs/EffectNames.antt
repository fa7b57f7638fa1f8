-- The effects of the tables in names are those of the ends in the network.
use Rattle.std.specs.Prelude.{◌≡◌, ℕ, ◌+◌, List, [], ◌∷◌, length, map, Some, refl}
use Rattle.std.specs.List.{AllZip}
use Rattle.std.proofs.Common.{sym, ap, ◌∙◌, subst, arith}
use Rattle.ovn_base.specs.names.ByName.{at}
use Rattle.ovn_base.specs.declared.name.Name.{Name}
use Rattle.chassis_sim.specs.InNames.{all_in_names, arrived_as, frames_sent, name_of, next_after_all}
use Rattle.chassis_sim.specs.State as sim
use Rattle.switch_engine.specs.declared.effect.Effect.{Effect}
use Rattle.switch_engine.specs.declared.effect.NetEffect.TheVariants as net
use Rattle.switch_engine.specs.declared.walk.Start.{Start}
use Rattle.tunnel_keys.specs.Keys.{Keys}
use Rattle.net_model.specs.Journey.{numbered_from}
use Rattle.sim_laws.specs.Effects.{effects_of, spelled}
use Rattle.net_model.specs.Trail.{crossings_in, picks_backend, picks_port}
use Rattle.sim_laws.specs.Naming.{HasDatapathKey, HasPortKey, IsNumbered}
use Rattle.sim_laws.specs.Naming.IsNumbered.{out, drop, frame, to_backend, to_port, lost}
use Rattle.sim_laws.specs.Held.{HaveOwnersNames, frame_of_crossing}
use Rattle.net_model.specs.Trail.{End, leaves, is_dropped, crosses, is_lost}

-- the end is one of a packet that is on the chassis, and came as the frame of this number: it crosses from there, and it is that frame that
-- is lost
abbrev pub IsEndOn : Name → ℕ → End → Type 0
IsEndOn chassis n (leaves q packet) = Unit {0}
IsEndOn chassis n (is_dropped a q cause) = Unit {0}
IsEndOn chassis n (crosses from x) = from ≡ chassis
IsEndOn chassis n (picks_backend d vip backend) = Unit {0}
IsEndOn chassis n (picks_port router port) = Unit {0}
IsEndOn chassis n (is_lost k) = k ≡ n

abbrev pub AreEndsOn : Name → ℕ → List End → Type 0
AreEndsOn chassis n [] = Unit {0}
AreEndsOn chassis n (e ∷ es) = IsEndOn chassis n e × AreEndsOn chassis n es

module _ (keys : Keys) (s : sim.SimState) (named : HaveOwnersNames keys s) (chassis : Name) (from : Start) where
  datapath_name : (a : Name) (vni : ℕ) → HasDatapathKey keys a vni → name_of s.names vni 0 ≡ a
  datapath_name a vni h = ap (λ n. name_of s.names n 0) (sym h.number) ∙ named.datapaths a h.live h.has

  port_name : (a q : Name) (vni key : ℕ) → HasDatapathKey keys a vni → HasPortKey keys a q key → name_of s.names vni key ≡ q
  port_name a q vni key d p =
      ap (λ n. name_of s.names n key) (sym d.number) ∙ ap (λ n. name_of s.names d.live.key n) (sym p.number)
      ∙ named.ports q p.live d.live p.has (subst (λ n. at keys.datapaths n ≡ Some d.live) (sym p.on) d.has)

  pub all_named : (next : ℕ) (ends : List End) (effects : List Effect) → AllZip (IsNumbered keys) ends effects → AreEndsOn chassis (arrived_as from) ends
      → all_in_names s.names chassis from next effects ≡ effects_of keys next ends
  all_named next [] [] z l = refl
  all_named next [] (f ∷ fs) z l = absurd z
  all_named next (e ∷ es) [] z l = absurd z
  all_named next (e ∷ es) (f ∷ fs) z l = by e f z.0 l.0 (λ k. all_named k es fs z.1 l.1)
    where
      by : (e : End) (f : Effect) → IsNumbered keys e f → IsEndOn chassis (arrived_as from) e → ((k : ℕ) → all_in_names s.names chassis from k fs ≡ effects_of keys k es) → all_in_names s.names chassis from next (f ∷ fs) ≡ effects_of keys next (e ∷ es)
      by _ _ (out {q} {packet}) _ rest = ap (λ r. net.Out q packet ∷ r) (rest next)
      by _ _ (drop {a} {q} {cause} {vni} {key} d p) _ rest =
          ap (λ n. net.Drop n (name_of s.names vni key) cause ∷ all_in_names s.names chassis from next fs) (datapath_name a vni d)
          ∙ ap (λ n. net.Drop a n cause ∷ all_in_names s.names chassis from next fs) (port_name a q vni key d p)
          ∙ ap (λ r. net.Drop a q cause ∷ r) (rest next)
      by _ _ (frame {chassis = from_chassis} {x = x} whole) g rest =
          ap (λ c. net.Tunnel next c x.home (spelled keys x) ∷ all_in_names s.names chassis from (next + 1) fs) (sym g)
          ∙ ap (λ r. net.Tunnel next from_chassis x.home (spelled keys x) ∷ r) (rest (next + 1))
      by _ _ (to_backend {a} {vip} {backend} {vni} d) _ rest =
          ap (λ n. net.PickBackend n vip backend ∷ all_in_names s.names chassis from next fs) (datapath_name a vni d) ∙ ap (λ r. net.PickBackend a vip backend ∷ r) (rest next)
      by _ _ (to_port {a} {port} {vni} d) _ rest = ap (λ n. net.PickPort n port ∷ all_in_names s.names chassis from next fs) (datapath_name a vni d) ∙ ap (λ r. net.PickPort a port ∷ r) (rest next)
      by _ _ (lost {n}) g rest =
          ap (λ k. net.Lost k ∷ all_in_names s.names chassis from next fs) (sym g) ∙ ap (λ r. net.Lost n ∷ r) (rest next)

  -- the number of the next frame
  pub next_named : (next : ℕ) (ends : List End) (effects : List Effect) → AllZip (IsNumbered keys) ends effects → next_after_all next effects ≡ next + length (crossings_in ends)
  next_named next [] [] z = omega arith
  next_named next [] (f ∷ fs) z = absurd z
  next_named next (e ∷ es) [] z = absurd z
  next_named next (e ∷ es) (f ∷ fs) z = by e f z.0 (λ k. next_named k es fs z.1)
    where
      by : (e : End) (f : Effect) → IsNumbered keys e f → ((k : ℕ) → next_after_all k fs ≡ k + length (crossings_in es)) → next_after_all next (f ∷ fs) ≡ next + length (crossings_in (e ∷ es))
      by _ _ out rest = rest next
      by _ _ (drop d p) rest = rest next
      by _ _ (frame whole) rest = let more = rest (next + 1) in omega (arith, more)
      by _ _ (to_backend d) rest = rest next
      by _ _ (to_port d) rest = rest next
      by _ _ lost rest = rest next

-- the frames that the effects send are those of the crossings
pub frames_named : (keys : Keys) (next : ℕ) (ends : List End) → frames_sent (effects_of keys next ends) ≡ map (frame_of_crossing keys) (numbered_from next (crossings_in ends))
frames_named keys next [] = refl
frames_named keys next (leaves q packet ∷ es) = frames_named keys next es
frames_named keys next (is_dropped a q cause ∷ es) = frames_named keys next es
frames_named keys next (crosses from x ∷ es) = ap (λ r. frame_of_crossing keys (next, x) ∷ r) (frames_named keys (next + 1) es)
frames_named keys next (picks_backend d vip backend ∷ es) = frames_named keys next es
frames_named keys next (picks_port router port ∷ es) = frames_named keys next es
frames_named keys next (is_lost k ∷ es) = frames_named keys next es
