-- Crossings wait on, and are spelled as before, where no key is lost.
use Rattle.inet_packet.specs.Frame.{frame_of}
use Rattle.std.specs.Prelude.{◌≡◌, ◌≢◌, ◌≤◌, ◌<◌, ◌+◌, ◌*◌, ◌^◌, ℕ, List, [], ◌∷◌, map, IsTrue, refl}
use Rattle.std.specs.List.Sorted.{IsStrictlySortedBy}
use Rattle.std.specs.Map.{keys_of}
use Rattle.std.specs.Ordering.{nat_cmp}
use Rattle.std.proofs.Common.{arith, sym, ap, subst, ◌∙◌}
use Rattle.geneve_frames.specs.Meaning.{canon}
use Rattle.ovn_base.specs.lists.Among.{Among, here, there}
use Rattle.tunnel_keys.specs.Keys.{IsKeys, held_datapaths, held_ports}
use Rattle.tunnel_keys.specs.declared.owner.HeldDatapath.{HeldDatapath}
use Rattle.tunnel_keys.specs.declared.owner.HeldPort.{HeldPort}
use Rattle.tunnel_keys.specs.declared.owner.Identity.{Identity}
use Rattle.net_model.specs.declared.crossing.Crossing.{Crossing}
use Rattle.net_model.specs.declared.crossing.Aim.{Aim}
use Rattle.net_model.specs.declared.crossing.Aim.TheVariants.{ToPort, ToGroup}
use Rattle.sim_laws.specs.Effects.{datapath_key, port_key, aim_key, spelled}
use Rattle.sim_laws.specs.Held.{frame_of_crossing}
use Rattle.sim_laws.specs.Sound.{AreBorn, AreOnTheWay, HasAimKey, IsAimOnLive, IsOnLive, MayWait, is_switch, IsNoRouter}
use Rattle.net_model.specs.State.{State, event_count}
use Rattle.sim_laws.proofs.KeyLookups.{datapath_key_is, port_key_is}

-- no key is lost, and a switch or a router that is there then, and isn't younger than the last event before, was there before
pub record AreKept (m n : State) : Type 0 where
  pub hold : IsKeys n.keys
  pub datapaths : (h : HeldDatapath) → Among h (held_datapaths m.keys) → Among h (held_datapaths n.keys)
  pub ports : (h : HeldPort) → Among h (held_ports m.keys) → Among h (held_ports n.keys)
  pub switches : (id : Identity) → id.birth.0 ≤ event_count m → IsTrue (is_switch n.config.net id) → IsTrue (is_switch m.config.net id)
  pub routers : (id : Identity) → id.birth.0 ≤ event_count m → IsNoRouter m.config.net id → IsNoRouter n.config.net id

module _ (m n : State) (born : AreBorn m) (kept : AreKept m n) where
  live_on : (datapath port : Identity) → (h : HeldDatapath) × Among h (held_datapaths m.keys) × (h.owner ≡ datapath) → (h : HeldPort) × Among h (held_ports m.keys) × (h.owner ≡ port) → IsOnLive m datapath port → IsOnLive n datapath port
  live_on datapath port d p live now h among owns =
      let early : datapath.birth.0 ≤ event_count m = subst (λ (o : Identity). o.birth.0 ≤ event_count m) d.2 (born.keys.datapaths d.0 d.1) in
      let one : h ≡ p.0 = kept.hold.port_once h p.0 among (kept.ports p.0 p.1) (owns ∙ sym p.2) in
      ap (λ (g : HeldPort). g.datapath) one ∙ live (kept.switches datapath early now) p.0 p.1 p.2

  aim_key_on : (aim : Aim) → HasAimKey m.keys aim → HasAimKey n.keys aim
  aim_key_on (ToPort id) k = (k.0, kept.ports k.0 k.1, k.2)
  aim_key_on (ToGroup g) k = tt

  aim_live_on : (datapath : Identity) (aim : Aim) → (h : HeldDatapath) × Among h (held_datapaths m.keys) × (h.owner ≡ datapath) → HasAimKey m.keys aim → IsAimOnLive m datapath aim → IsAimOnLive n datapath aim
  aim_live_on datapath (ToPort id) d k live = live_on datapath id d k live
  aim_live_on datapath (ToGroup g) d k live = tt

  -- a crossing that may wait may wait on
  pub may_wait : (x : Crossing) → MayWait m x → MayWait n x
  may_wait x w = record {
    whole = w.whole;
    datapath_key = (w.datapath_key.0, kept.datapaths w.datapath_key.0 w.datapath_key.1, w.datapath_key.2);
    in_key = (w.in_key.0, kept.ports w.in_key.0 w.in_key.1, w.in_key.2);
    aim_key = aim_key_on x.aim w.aim_key;
    in_live = live_on x.datapath x.in_port w.datapath_key w.in_key w.in_live;
    aim_live = aim_live_on x.datapath x.aim w.datapath_key w.aim_key w.aim_live;
    no_router = kept.routers x.datapath (subst (λ (o : Identity). o.birth.0 ≤ event_count m) w.datapath_key.2 (born.keys.datapaths w.datapath_key.0 w.datapath_key.1)) w.no_router;
    no_return = w.no_return;
  }

  -- so do all that wait
  pub way_on : AreOnTheWay m → n.waiting ≡ m.waiting → n.next ≡ m.next → event_count m ≤ event_count n → n.accepted ≢ 0 → AreOnTheWay n
  way_on way waiting next later some = record {
    crossings = record {
      in_order = subst (λ ws. IsStrictlySortedBy nat_cmp (keys_of ws)) (sym waiting) way.crossings.in_order;
      below = λ k x among. subst (λ t. k < t) (sym next) (way.crossings.below k x (subst (λ ws. Among (k, x) ws) waiting among));
      may = λ k x among. may_wait x (way.crossings.may k x (subst (λ ws. Among (k, x) ws) waiting among));
    };
    few = let old : m.next ≤ 1 + 2 ^ 64 * event_count m = way.few in omega (arith, old, next, later);
    none = λ z. absurd (some z);
  }

  -- its frame is the same
  module _ (hold : IsKeys m.keys) where
    datapath_same : (id : Identity) → (h : HeldDatapath) × Among h (held_datapaths m.keys) × (h.owner ≡ id) → datapath_key n.keys id ≡ datapath_key m.keys id
    datapath_same id k = datapath_key_is n.keys kept.hold k.0 id (kept.datapaths k.0 k.1) k.2 ∙ sym (datapath_key_is m.keys hold k.0 id k.1 k.2)

    port_same : (id : Identity) → (h : HeldPort) × Among h (held_ports m.keys) × (h.owner ≡ id) → port_key n.keys id ≡ port_key m.keys id
    port_same id k = port_key_is n.keys kept.hold k.0 id (kept.ports k.0 k.1) k.2 ∙ sym (port_key_is m.keys hold k.0 id k.1 k.2)

    aim_same : (aim : Aim) → HasAimKey m.keys aim → aim_key n.keys aim ≡ aim_key m.keys aim
    aim_same (ToPort id) k = port_same id k
    aim_same (ToGroup g) k = refl

    spelled_same : (x : Crossing) → MayWait m x → spelled n.keys x ≡ spelled m.keys x
    spelled_same x w =
        let d = datapath_same x.datapath w.datapath_key in
        let p = port_same x.in_port w.in_key in
        let a = aim_same x.aim w.aim_key in
        λ i. canon (d i) (p i) (a i) (frame_of x.packet)

    pub frames_same : (ws : List (ℕ × Crossing)) → ((k : ℕ) (x : Crossing) → Among (k, x) ws → MayWait m x) → map (frame_of_crossing n.keys) ws ≡ map (frame_of_crossing m.keys) ws
    frames_same [] may = refl
    frames_same (w ∷ ws) may =
        let own = spelled_same w.1 (may w.0 w.1 here) in
        let rest = frames_same ws (λ k x among. may k x (there among)) in
        λ i. (w.0, record { to = w.1.home; bytes = own i }) ∷ rest i

-- ---- where no record comes

pub same_kept : (m n : State) → n.config.net ≡ m.config.net → n.keys ≡ m.keys → IsKeys m.keys → AreKept m n
same_kept m n net keys hold = record {
  hold = subst (λ k. IsKeys k) (sym keys) hold;
  datapaths = λ h among. subst (λ k. Among h (held_datapaths k)) (sym keys) among;
  ports = λ h among. subst (λ k. Among h (held_ports k)) (sym keys) among;
  switches = λ id early is. subst (λ w. IsTrue (is_switch w id)) net is;
  routers = λ id early none. subst (λ w. IsNoRouter w id) (sym net) none;
}
