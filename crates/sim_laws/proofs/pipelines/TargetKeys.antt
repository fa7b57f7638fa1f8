-- The targets of packets in a switch have numbers.
use Rattle.std.specs.Prelude.{◌≡◌, ◌≤◌, ◌<◌, ◌^◌, ◌&&◌, ◌==◌, ◌++◌, ℕ, Bool, true, false, cond, List, [], ◌∷◌, map, filter_map, Option, Some, None, option_map, refl}
use Rattle.std.specs.List.{find}
use Rattle.std.specs.Option.{unwrap_or}
use Rattle.std.proofs.Common.{sym, ap, ◌∙◌, subst, arith}
use Rattle.std.proofs.lemmas.Bool.{false≢true, and_parts}
use Rattle.std.proofs.lemmas.Option.{none-some, same_Some}
use Rattle.flow_lowering.specs.LoweredFlows.{live_port_key}
use Rattle.inet_packet.proofs.RewriteSteps.{arp_whole}
use Rattle.inet_packet.specs.Fields.{ether_type, arp_op, arp_tpa}
use Rattle.inet_packet.specs.Rewrites.{IsArp, with_arp_reply}
use Rattle.inet_packet.specs.Whole.{IsWhole, IsWholeBody}
use Rattle.inet_packet.specs.declared.packet.Body.{Body}
use Rattle.inet_packet.specs.declared.packet.Body.TheVariants as body
use Rattle.inet_packet.specs.declared.packet.Packet.{Packet}
use Rattle.nb_records.specs.Network.{Network}
use Rattle.nb_records.specs.Switches.{enabled_ports, has_mac}
use Rattle.nb_records.specs.declared.switch.SwitchPort.{SwitchPort}
use Rattle.net_model.specs.Headers.{asked_ip, ip_of}
use Rattle.net_model.specs.Owners.{owners_of, switch_owner, router_owner, router_port_owner, switch_port_owner}
use Rattle.net_model.specs.Targets.{Target, answer_from, to_one, to_group, to_nobody, answers_behind, router_target, asked_of_all, flood_target, known_target, unknown_target, group_if, members}
use Rattle.net_model.specs.Trail.{given_or}
use Rattle.net_model.specs.declared.crossing.Group.TheVariants.{Flood, Unknown}
use Rattle.ovn_base.proofs.AmongLaws.{among_left, among_right, among_map, among_filter_map}
use Rattle.ovn_base.proofs.ByNameLaws.{at_among}
use Rattle.ovn_base.specs.addresses.EtherAddress.{is_multicast_mac}
use Rattle.ovn_base.specs.declared.address.Ip4.{Ip4}
use Rattle.ovn_base.specs.declared.address.Mac.{Mac}
use Rattle.ovn_base.specs.declared.name.Name.{Name}
use Rattle.ovn_base.specs.lists.Among.{Among}
use Rattle.ovn_base.specs.names.ByName.{at}
use Rattle.row_laws.proofs.records.Searches.{found_by}
use Rattle.row_laws.specs.Numbers.{IsPortKey}
use Rattle.row_laws.specs.StageActions.{found_target}
use Rattle.switch_engine.specs.Headers.{arp_answered, arp_answered_body}
use Rattle.tunnel_keys.proofs.HeldKeys.{found, on_datapath_key, is_held_port}
use Rattle.tunnel_keys.specs.Edits.{IsLive}
use Rattle.tunnel_keys.specs.Keys.{Keys, IsKeys, held_port}
use Rattle.tunnel_keys.specs.declared.owner.KeyOwner.{KeyOwner}
use Rattle.tunnel_keys.specs.declared.owner.PortKey.{PortKey}

-- ---- live keys

module _ (net : Network) (keys : Keys) (live : (owner : KeyOwner) → Among owner (owners_of net) → IsLive keys owner) where
  -- a port of a switch has one
  pub port_live : (q : SwitchPort) → at net.switch_ports q.name ≡ Some q → IsPortKey keys q.switch q.name (live_port_key keys q.name)
  port_live q there =
      let owner = switch_port_owner (q.name, q) in
      let own = among_map switch_port_owner (q.name, q) net.switch_ports (at_among net.switch_ports q.name q there) in
      let k = live owner (among_right owner (map switch_owner net.switches ++ map router_owner net.routers ++ map router_port_owner net.router_ports) (map switch_port_owner net.switch_ports) own) in
      let key : PortKey = record { birth = q.birth; datapath = q.switch; key = k.0 } in
      (key, k.1, refl, sym (ap (λ (o : Option PortKey). unwrap_or (option_map (λ (x : PortKey). x.key) o) 0) k.1))

module _ (keys : Keys) (hold : IsKeys keys) where
  -- it lies within the register
  pub key_small : (d q : Name) (n : ℕ) → IsPortKey keys d q n → n ≤ 0xffff
  key_small d q n a =
      let k : PortKey = a.0 in
      let m = at_among keys.ports q k a.1 in
      let x = found (at keys.datapaths k.datapath) (hold.on_datapath (q, k) m) in
      let h = on_datapath_key q k x.0 in
      let held = among_left h (filter_map (held_port keys.datapaths) keys.ports) keys.retired_ports (among_filter_map (held_port keys.datapaths) (q, k) h keys.ports m (is_held_port keys.datapaths q k x.0 x.1)) in
      let low : k.key ≤ keys.port_range = (hold.port_keys h held).1 in
      let high : keys.port_range ≤ 32767 = hold.port_ranges.1 in
      let is : k.key ≡ n = a.3 in
      omega (arith, low, high, is)

-- ---- the target of a packet that is not answered

-- it is one of the switch's enabled ports, or a group, or nobody
abbrev pub IsFoundTarget : Network → Name → Target → Type 0
IsFoundTarget net switch (to_one q) = Among q (enabled_ports net switch)
IsFoundTarget net switch (to_group g) = Unit {0}
IsFoundTarget net switch to_nobody = Unit {0}
IsFoundTarget net switch (answer_from mac ip) = ⊥

module _ (net : Network) (switch : Name) where
  abbrev IsSo : Target → Type 0
  IsSo = IsFoundTarget net switch

  given_so : (o : Option Target) (otherwise : Target) → ((x : Target) → o ≡ Some x → IsSo x) → IsSo otherwise → IsSo (given_or o otherwise)
  given_so None otherwise each rest = rest
  given_so (Some x) otherwise each rest = each x refl

  one_so : (test : SwitchPort → Bool) (o : Option SwitchPort) → find test (enabled_ports net switch) ≡ o → (x : Target) → option_map to_one o ≡ Some x → IsSo x
  one_so test None is x h = absurd (none-some x h)
  one_so test (Some q) is x h = subst IsSo (same_Some (to_one q) x h) (found_by test (enabled_ports net switch) q is).0

  router_so : (o : Option Ip4) (x : Target) → router_target net switch o ≡ Some x → IsSo x
  router_so None x h = absurd (none-some x h)
  router_so (Some ip) x h = one_so (answers_behind net ip) (find (answers_behind net ip) (enabled_ports net switch)) refl x h

  flood_so : (b : Bool) (x : Target) → cond b (Some (to_group Flood)) None ≡ Some x → IsSo x
  flood_so true x h = subst IsSo (same_Some (to_group Flood) x h) tt
  flood_so false x h = absurd (none-some x h)

  group_so : (qs : List SwitchPort) (x : Target) → group_if Unknown qs ≡ Some x → IsSo x
  group_so [] x h = absurd (none-some x h)
  group_so (q ∷ qs) x h = subst IsSo (same_Some (to_group Unknown) x h) tt

  pub found_so : (p : Packet) → IsSo (found_target net switch p)
  found_so p =
      given_so (router_target net switch (asked_of_all p)) _ (router_so (asked_of_all p))
      (given_so (flood_target p) _ (flood_so (is_multicast_mac p.dst))
      (given_so (known_target net switch p.dst) _ (λ x h. one_so (has_mac net p.dst) (find (has_mac net p.dst) (enabled_ports net switch)) refl x h)
      (given_so (unknown_target net switch) to_nobody (group_so (members net switch Unknown)) tt)))

-- ---- answers

-- a request is of ARP, for an address in its range
pub record IsRequest (p : Packet) (ip : Ip4) : Type 0 where
  pub arp : IsArp p.body
  pub within : ip.0 < 2 ^ 32

pub asked_so : (p : Packet) → IsWhole p → (ip : Ip4) → asked_ip p ≡ Some ip → IsRequest p ip
asked_so p whole ip asks = by p.body refl whole.body
  where
    tested : (b : Bool) → cond b (Some (ip_of (arp_tpa p.body))) None ≡ Some ip → (b ≡ true) × (ip_of (arp_tpa p.body) ≡ ip)
    tested true h = (refl, same_Some (ip_of (arp_tpa p.body)) ip h)
    tested false h = absurd (none-some ip h)

    is_one : (arp_op p.body == 1) ≡ true
    is_one = (and_parts (ether_type p.body == 0x0806) (arp_op p.body == 1) (tested (ether_type p.body == 0x0806 && (arp_op p.body == 1)) asks).0).1

    its_ip : ip_of (arp_tpa p.body) ≡ ip
    its_ip = (tested (ether_type p.body == 0x0806 && (arp_op p.body == 1)) asks).1

    by : (b : Body) → p.body ≡ b → IsWholeBody b p.tail → IsRequest p ip
    by (body.Arp a) is w = record {
      arp = subst IsArp (sym is) tt;
      within = subst (λ (x : Ip4). x.0 < 2 ^ 32) (ap (λ (x : Body). ip_of (arp_tpa x)) (sym is) ∙ its_ip) w.tpa;
    }
    by (body.Ip4 i) is w = absurd (false≢true (sym (ap (λ (x : Body). arp_op x == 1) is) ∙ is_one))
    by (body.Other t) is w = absurd (false≢true (sym (ap (λ (x : Body). arp_op x == 1) is) ∙ is_one))

-- the answer is the model's
pub answered_is : (mac : Mac) (ip : Ip4) (p : Packet) → IsArp p.body → arp_answered mac ip p ≡ with_arp_reply mac ip p
answered_is mac ip p arp = by p.body arp
  where
    by : (b : Body) → IsArp b → arp_answered_body mac ip p b ≡ with_arp_reply mac ip p
    by (body.Arp a) h = refl
    by (body.Ip4 i) h = absurd h
    by (body.Other t) h = absurd h

pub answer_whole : (mac : Mac) (ip : Ip4) (p : Packet) → IsWhole p → IsRequest p ip → IsWhole (with_arp_reply mac ip p)
answer_whole mac ip p whole r = arp_whole mac ip p r.within r.arp whole
