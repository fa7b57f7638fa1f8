-- A rule applies to a switch by both records, or by neither, where the live ports of the switch and the members of groups are the same; and so with connections that a switch tracks.
use Rattle.std.specs.Prelude.{◌≡◌, ℕ, Bool, true, false, cond, List, Option, Some, None, option_map, is_some, IsSome}
use Rattle.std.specs.BTreeMap.{is_at}
use Rattle.std.specs.Cmp.Lexicographic.{slice_cmp}
use Rattle.std.specs.Map.{values_of}
use Rattle.std.specs.Option.{option_and_then}
use Rattle.std.specs.Ordering.{nat_cmp}
use Rattle.std.proofs.Common.{refl, sym, ap, ◌∙◌, subst, inl, inr}
use Rattle.std.proofs.lemmas.Bool.{false≢true, cond-true, or_cases, or_left, or_right}
use Rattle.std.proofs.lemmas.Map.Made.{lookup-map_values}
use Rattle.std.proofs.lemmas.Option.{none-some, same_Some}
use Rattle.ovn_base.proofs.AmongLaws.{among_all, among_any, among_filter, among_left, among_map, among_right, any_among, filter_among, map_among}
use Rattle.ovn_base.proofs.ByNameLaws.{among_at, at_among}
use Rattle.ovn_base.specs.declared.name.Name.{Name}
use Rattle.ovn_base.specs.lists.Among.{Among}
use Rattle.ovn_base.specs.names.ByName.{at}
use Rattle.ovn_base.specs.names.SameName.{same_name, bytes_decides}
use Rattle.address_sets.specs.Members.{sets_of}
use Rattle.match_cubes.proofs.TernaryLaws.{same_tests}
use Rattle.match_cubes.specs.Points.{named}
use Rattle.match_cubes.specs.declared.sets.Sets.{Sets}
use Rattle.nb_records.specs.Network.{Network, is_there, records_of}
use Rattle.nb_records.specs.Switches.{applies, covers, has_port_of, is_given, is_named, is_related, is_stateful, rules_of, switch_ports_of}
use Rattle.nb_records.specs.declared.kinds.Kind.TheVariants as kind
use Rattle.nb_records.specs.declared.record.Record.{Record}
use Rattle.nb_records.specs.declared.record.Record.TheVariants as row
use Rattle.nb_records.specs.declared.router.RouterPort.{RouterPort}
use Rattle.nb_records.specs.declared.rule.Acl.{Acl}
use Rattle.nb_records.specs.declared.rule.PortGroup.{PortGroup}
use Rattle.nb_records.specs.declared.switch.SwitchPort.{SwitchPort}
use Rattle.nb_rules.specs.References.{references_of, to}
use Rattle.nb_rules.specs.Unbroken.{AreThere}
use Rattle.tunnel_keys.specs.Edits.{IsLive}
use Rattle.tunnel_keys.specs.Keys.{ports_on}
use Rattle.tunnel_keys.specs.declared.owner.PortKey.{PortKey}
use Rattle.net_model.specs.Owners.{router_port_owner, switch_port_owner}
use Rattle.row_laws.proofs.lowered.PortKeys.{key_on, named_on}
use Rattle.row_laws.proofs.records.ValidPorts.{port_named, whole}
use Rattle.northd_core.specs.Lowering.{Lowering, CanCompile}

-- ---- live ports of a datapath

-- what has a key on the datapath is one of its ports
on_there : (d : Name) (o : Option PortKey) (n : ℕ) → key_on d o ≡ Some n → (k : PortKey) × (o ≡ Some k) × (k.datapath ≡ d)
on_there d None n h = absurd (none-some n h)
on_there d (Some k) n h = by (same_name d k.datapath) refl h
  where
    by : (b : Bool) → same_name d k.datapath ≡ b → cond b (Some k.key) None ≡ Some n → (x : PortKey) × (Some k ≡ Some x) × (x.datapath ≡ d)
    by true is e = (k, refl, sym ((bytes_decides d k.datapath).0 is))
    by false is e = absurd (none-some n e)

module _ (l : Lowering) (can : CanCompile l) (d : Name) where
  -- a port of a switch has a live key
  pub live_port : (q : Name) (port : SwitchPort) → at l.net.switch_ports q ≡ Some port → IsLive l.keys (switch_port_owner (q, port))
  live_port q port found =
      let o = switch_port_owner (q, port) in
      can.live o (among_right o _ _ (among_map switch_port_owner (q, port) l.net.switch_ports (at_among l.net.switch_ports q port found)))

  -- a port of this switch has one on it
  live_on : (q : Name) (port : SwitchPort) → at l.net.switch_ports q ≡ Some port → port.switch ≡ d → (n : ℕ) × (named (ports_on l.keys.ports d) q ≡ Some n)
  live_on q port found on =
      let live = live_port q port found in (
        live.0,
        named_on d l.keys.ports q can.hold.ports_in_order
            ∙ ap (key_on d) live.1
            ∙ cond-true (same_name d port.switch) (Some live.0) None ((bytes_decides d port.switch).1 (sym on)),
      )

  -- and a port with a live key on it is one of its ports
  on_live : (q : Name) (port : SwitchPort) → at l.net.switch_ports q ≡ Some port → (n : ℕ) → named (ports_on l.keys.ports d) q ≡ Some n → port.switch ≡ d
  on_live q port found n has =
      let live = live_port q port found in
      let k = on_there d (at l.keys.ports q) n (sym (named_on d l.keys.ports q can.hold.ports_in_order) ∙ has) in
      ap (λ (x : PortKey). x.datapath) (same_Some (record { birth = port.birth; datapath = port.switch; key = live.0 }) k.0 (sym live.1 ∙ k.1)) ∙ k.2

-- a port with a key is one of the switch on which the key is
pub key_owner : (l : Lowering) → CanCompile l → (q : Name) (k : PortKey) → at l.keys.ports q ≡ Some k → IsSome (at l.net.switch_ports q)
    → (port : SwitchPort) × (at l.net.switch_ports q ≡ Some port) × (port.switch ≡ k.datapath)
key_owner l can q k has there = by (at l.net.switch_ports q) refl there
  where
    by : (o : Option SwitchPort) → at l.net.switch_ports q ≡ o → IsSome o → (port : SwitchPort) × (at l.net.switch_ports q ≡ Some port) × (port.switch ≡ k.datapath)
    by None is h = absurd (false≢true h)
    by (Some port) is h =
        let live = live_port l can k.datapath q port is in
        (port, is, ap (λ (x : PortKey). x.datapath) (same_Some (record { birth = port.birth; datapath = port.switch; key = live.0 }) k (sym live.1 ∙ has)))

-- and one of a router of the router on which its key is
pub router_key_owner : (l : Lowering) → CanCompile l → (q : Name) (k : PortKey) → at l.keys.ports q ≡ Some k → IsSome (at l.net.router_ports q)
    → (port : RouterPort) × (at l.net.router_ports q ≡ Some port) × (port.router ≡ k.datapath)
router_key_owner l can q k has there = by (at l.net.router_ports q) refl there
  where
    by : (o : Option RouterPort) → at l.net.router_ports q ≡ o → IsSome o → (port : RouterPort) × (at l.net.router_ports q ≡ Some port) × (port.router ≡ k.datapath)
    by None is h = absurd (false≢true h)
    by (Some port) is h =
        let o = router_port_owner (q, port) in
        let live = can.live o (among_left o _ _ (among_right o _ _ (among_map router_port_owner (q, port) l.net.router_ports (at_among l.net.router_ports q port is)))) in
        (port, is, ap (λ (x : PortKey). x.datapath) (same_Some (record { birth = port.birth; datapath = port.router; key = live.0 }) k (sym live.1 ∙ has)))

-- ---- groups

-- the ports of the group of a name are those of the sets
group_ports : (net : Network) (g : Name) → at (sets_of net).groups g ≡ option_map (λ (x : PortGroup). x.ports) (at net.port_groups g)
group_ports net g = lookup-map_values (λ (x : PortGroup). x.ports) (is_at (slice_cmp nat_cmp g)) net.port_groups

-- a group of the same ports
same_group : (o : Option PortGroup) (group : PortGroup) → Some group.ports ≡ option_map (λ (x : PortGroup). x.ports) o → (x : PortGroup) × (o ≡ Some x) × (group.ports ≡ x.ports)
same_group None group h = absurd (none-some group.ports (sym h))
same_group (Some x) group h = (x, refl, same_Some group.ports x.ports h)

module _ (l : Lowering) (can : CanCompile l) where
  port_there : (q : Name) → is_there l.net kind.SwitchPort q ≡ true → (port : SwitchPort) × (at l.net.switch_ports q ≡ Some port)
  port_there q h = by (at l.net.switch_ports q) refl h
    where
      by : (o : Option SwitchPort) → at l.net.switch_ports q ≡ o → is_some (option_map row.SwitchPort o) ≡ true → (port : SwitchPort) × (at l.net.switch_ports q ≡ Some port)
      by None is h = absurd (false≢true h)
      by (Some port) is h = (port, is)

  -- each port of a group is there
  in_group : (g : Name) (group : PortGroup) → at l.net.port_groups g ≡ Some group → (q : Name) → Among q group.ports → (port : SwitchPort) × (at l.net.switch_ports q ≡ Some port)
  in_group g group found q m =
      let r = row.PortGroup group in
      let own = among_map (λ (e : Name × PortGroup). row.PortGroup e.1) (g, group) l.net.port_groups (at_among l.net.port_groups g group found) in
      let mine = among_left r _ _ (among_left r _ _ (among_left r _ _ (among_left r _ _ (among_left r _ _ (among_right r _ _ own))))) in
      let refs = among_all (λ (y : Record). AreThere l.net (references_of y)) r (records_of l.net) (whole l.net can.valid).references mine in
      port_there q (among_all (λ (y : _). is_there l.net y.0 y.1 ≡ true) (kind.SwitchPort, q) (references_of r) refs (among_map (to kind.SwitchPort) q group.ports m))

-- a port whose name is among the group's is listed there
listed_at : (q : Name) (port : SwitchPort) (group : PortGroup) → port.name ≡ q → Among q group.ports → is_named port.name group.ports ≡ true
listed_at q port group name m = among_any (λ (n : Name). same_name n port.name) q group.ports m ((bytes_decides q port.name).1 (sym name))

-- ---- rules

module _ (l m : Lowering) (can : CanCompile l) (could : CanCompile m) (d : Name) (ports : ports_on l.keys.ports d ≡ ports_on m.keys.ports d) (sets : sets_of l.net ≡ sets_of m.net) where
  -- a port of the switch by the first that is one of a group by the second is one of the switch by the second too
  still_on : (q g : Name) (port : SwitchPort) (group : PortGroup) → at l.net.switch_ports q ≡ Some port → port.switch ≡ d → at m.net.port_groups g ≡ Some group → Among q group.ports
      → has_port_of m.net d group ≡ true
  still_on q g port group found on there mine =
      let live = live_on l can d q port found on in
      let other = in_group m could g group there q mine in
      let here : other.0.switch ≡ d = on_live m could d q other.0 other.1 live.0 (ap (λ (ps : List (Name × ℕ)). named ps q) (sym ports) ∙ live.1) in
      let value : Among other.0 (values_of m.net.switch_ports) = among_map (λ (e : Name × SwitchPort). e.1) (q, other.0) m.net.switch_ports (at_among m.net.switch_ports q other.0 other.1) in
      let listed = among_filter (λ (x : SwitchPort). same_name x.switch d) other.0 (values_of m.net.switch_ports) value ((bytes_decides other.0.switch d).1 here) in
      among_any (λ (x : SwitchPort). is_named x.name group.ports) other.0 (switch_ports_of m.net d) listed (listed_at q other.0 group (port_named m.net could.valid q other.0 other.1) mine)

  -- a group with a port of the switch by the first has one by the second
  covered : (g : Name) (group : PortGroup) → at l.net.port_groups g ≡ Some group → has_port_of l.net d group ≡ true → covers m.net d (at m.net.port_groups g) ≡ true
  covered g group found h =
      let one = any_among (λ (q : SwitchPort). is_named q.name group.ports) (switch_ports_of l.net d) h in
      let two = filter_among (λ (q : SwitchPort). same_name q.switch d) one.0 (values_of l.net.switch_ports) one.1 in
      let e = map_among (λ (e : Name × SwitchPort). e.1) one.0 l.net.switch_ports two.0 in
      let there = among_at e.0.0 e.0.1 l.net.switch_ports can.valid.in_order.switch_ports e.1 in
      let on : e.0.1.switch ≡ d = ap (λ (q : SwitchPort). q.switch) (sym e.2) ∙ (bytes_decides one.0.switch d).0 two.1 in
      let name : one.0.name ≡ e.0.0 = ap (λ (q : SwitchPort). q.name) e.2 ∙ port_named l.net can.valid e.0.0 e.0.1 there in
      let member = any_among (λ (n : Name). same_name n one.0.name) group.ports one.2 in
      let mine : Among e.0.0 group.ports = subst (λ (n : Name). Among n group.ports) ((bytes_decides member.0 one.0.name).0 member.2 ∙ name) member.1 in
      let other = same_group (at m.net.port_groups g) group (ap (option_map (λ (x : PortGroup). x.ports)) (sym found) ∙ sym (group_ports l.net g) ∙ ap (λ (s : Sets). at s.groups g) sets ∙ group_ports m.net g) in
      ap (covers m.net d) other.1 ∙ still_on e.0.0 g e.0.1 other.0 there on other.1 (subst (λ (ns : List Name). Among e.0.0 ns) other.2 mine)

  covers_too : (g : Name) (o : Option PortGroup) → at l.net.port_groups g ≡ o → covers l.net d o ≡ true → covers m.net d (at m.net.port_groups g) ≡ true
  covers_too g None is h = absurd (false≢true h)
  covers_too g (Some group) is h = covered g group is h

  by_group : (o : Option Name) → covers l.net d (option_and_then (at l.net.port_groups) o) ≡ true → covers m.net d (option_and_then (at m.net.port_groups) o) ≡ true
  by_group None h = absurd (false≢true h)
  by_group (Some g) h = covers_too g (at l.net.port_groups g) refl h

  applies_too : (x : Acl) → applies l.net d x ≡ true → applies m.net d x ≡ true
  applies_too x h = elim (or_cases (is_given d x.switch) (covers l.net d (option_and_then (at l.net.port_groups) x.port_group)) h) [
    | inl given ↦ or_left (is_given d x.switch) (covers m.net d (option_and_then (at m.net.port_groups) x.port_group)) given
    | inr covered ↦ or_right (is_given d x.switch) (covers m.net d (option_and_then (at m.net.port_groups) x.port_group)) (by_group x.port_group covered)
  ]

-- a rule applies to the switch by both or by neither
pub applies_alike : (l m : Lowering) → CanCompile l → CanCompile m → (d : Name) → ports_on l.keys.ports d ≡ ports_on m.keys.ports d → sets_of l.net ≡ sets_of m.net
    → (x : Acl) → applies l.net d x ≡ applies m.net d x
applies_alike l m can could d ports sets x =
    same_tests (applies l.net d x) (applies m.net d x) (applies_too l m can could d ports sets x) (applies_too m l could can d (sym ports) (sym sets) x)

-- ---- switches

-- a switch that tracks connections by the first does so by the second, where every rule on it is there by the second too, with the same members of sets and groups
pub stateful_too : (l m : Lowering) → CanCompile l → CanCompile m → (d : Name) → ports_on l.keys.ports d ≡ ports_on m.keys.ports d
    → ((r : Name) (x : Acl) → at l.net.acls r ≡ Some x → applies l.net d x ≡ true → (at m.net.acls r ≡ Some x) × (sets_of l.net ≡ sets_of m.net))
    → is_stateful l.net d ≡ true → is_stateful m.net d ≡ true
stateful_too l m can could d ports stay h =
    let related : Acl → Bool = λ x. is_related x.action in
    let one = any_among related (rules_of l.net d) h in
    let two = filter_among (applies l.net d) one.0 (values_of l.net.acls) one.1 in
    let e = map_among (λ (e : Name × Acl). e.1) one.0 l.net.acls two.0 in
    let found : at l.net.acls e.0.0 ≡ Some one.0 = among_at e.0.0 e.0.1 l.net.acls can.valid.in_order.acls e.1 ∙ ap (λ (x : Acl). Some x) (sym e.2) in
    let kept = stay e.0.0 one.0 found two.1 in
    let value : Among one.0 (values_of m.net.acls) = among_map (λ (e : Name × Acl). e.1) (e.0.0, one.0) m.net.acls (at_among m.net.acls e.0.0 one.0 kept.0) in
    let listed = among_filter (applies m.net d) one.0 (values_of m.net.acls) value (sym (applies_alike l m can could d ports kept.1 one.0) ∙ two.1) in
    among_any related one.0 (rules_of m.net d) listed one.2
