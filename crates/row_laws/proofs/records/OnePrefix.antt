-- In valid records no two ports of a router have networks of one prefix, and no two routes of it have one prefix.
use Rattle.std.specs.Prelude.{◌≡◌, ◌==◌, ◌&&◌, ◌-◌, ◌/◌, ◌^◌, ℕ, true, false, Some}
use Rattle.std.specs.List.{list_any}
use Rattle.std.proofs.Common.{sym, ap, ◌∙◌}
use Rattle.std.proofs.lemmas.Bool.{false≢true, and_from, or_right, eqb-true, eq-eqb}
use Rattle.std.proofs.lemmas.Option.{same_Some}
use Rattle.ovn_base.proofs.AmongLaws.{among_all, among_left, among_right, among_map, among_any}
use Rattle.ovn_base.proofs.ByNameLaws.{at_among}
use Rattle.ovn_base.specs.declared.address.Cidr.{Cidr}
use Rattle.ovn_base.specs.declared.address.Ip4.{Ip4}
use Rattle.ovn_base.specs.declared.name.Name.{Name}
use Rattle.ovn_base.specs.lists.Among.{Among}
use Rattle.ovn_base.specs.names.ByName.{at}
use Rattle.ovn_base.specs.names.SameName.{same_name, bytes_decides}
use Rattle.nb_records.specs.Grammar.{IsCidr, IsInGrammar}
use Rattle.nb_records.specs.Network.{Network, records_of}
use Rattle.nb_records.specs.Routers.{contains}
use Rattle.nb_records.specs.declared.record.Record.{Record}
use Rattle.nb_records.specs.declared.record.Record.TheVariants as row
use Rattle.nb_records.specs.declared.router.Route.{Route}
use Rattle.nb_records.specs.declared.router.RouterPort.{RouterPort}
use Rattle.nb_rules.specs.First.{has_second}
use Rattle.nb_rules.specs.Holders.{is_before, is_router_mate}
use Rattle.nb_rules.specs.Prefixes.{same_prefix, is_repeated_network, is_route_before, repeats_prefix}
use Rattle.nb_rules.specs.Valid.{IsValid}
use Rattle.row_laws.proofs.records.ValidPorts.{InOrder, ordered, whole}

-- prefixes of one length that hold one address hold the same
pub one_prefix : (n m : Cidr) (ip : Ip4) → n.len ≡ m.len → contains n ip ≡ true → contains m ip ≡ true → same_prefix n m ≡ true
one_prefix n m ip same ours theirs =
    let a : ip.0 / 2 ^ (32 - n.len) ≡ n.addr.0 / 2 ^ (32 - n.len) = eqb-true (ip.0 / 2 ^ (32 - n.len)) (n.addr.0 / 2 ^ (32 - n.len)) ours in
    let b : ip.0 / 2 ^ (32 - m.len) ≡ m.addr.0 / 2 ^ (32 - m.len) = eqb-true (ip.0 / 2 ^ (32 - m.len)) (m.addr.0 / 2 ^ (32 - m.len)) theirs in
    and_from (n.len == m.len) (contains n m.addr) (eq-eqb n.len m.len same)
    (eq-eqb (m.addr.0 / 2 ^ (32 - n.len)) (n.addr.0 / 2 ^ (32 - n.len)) (ap (λ (k : ℕ). m.addr.0 / 2 ^ (32 - k)) same ∙ sym b ∙ ap (λ (k : ℕ). ip.0 / 2 ^ (32 - k)) (sym same) ∙ a))

module _ (net : Network) (valid : IsValid net) where
  -- ---- their records

  port_record : (q : Name) (port : RouterPort) → at net.router_ports q ≡ Some port → Among (row.RouterPort port) (records_of net)
  port_record q port is =
      let r = row.RouterPort port in
      let own = among_map (λ (e : Name × RouterPort). row.RouterPort e.1) (q, port) net.router_ports (at_among net.router_ports q port is) in
      among_left r _ _ (among_left r _ _ (among_left r _ _ (among_left r _ _ (among_left r _ _ (among_left r _ _ (among_left r _ _ (among_left r _ _ (among_right r _ _ own))))))))

  route_record : (q : Name) (x : Route) → at net.routes q ≡ Some x → Among (row.Route x) (records_of net)
  route_record q x is =
      let r = row.Route x in
      among_left r _ _ (among_left r _ _ (among_left r _ _ (among_right r _ _ (among_map (λ (e : Name × Route). row.Route e.1) (q, x) net.routes (at_among net.routes q x is)))))

  -- their prefixes have addresses of 32 bits
  pub network_prefix : (q : Name) (port : RouterPort) → at net.router_ports q ≡ Some port → (n : Cidr) → Among n port.networks → IsCidr n
  network_prefix q port is n m = let ok = among_all IsInGrammar (row.RouterPort port) (records_of net) valid.in_grammar (port_record q port is) in among_all IsCidr n port.networks ok.networks.each m

  pub route_prefix : (q : Name) (x : Route) → at net.routes q ≡ Some x → IsCidr x.prefix
  route_prefix q x is = let ok = among_all IsInGrammar (row.Route x) (records_of net) valid.in_grammar (route_record q x is) in ok.prefix

  unrepeated : (r : Record) → Among r (records_of net) → repeats_prefix net r ≡ false
  unrepeated r m = among_all (λ (x : Record). repeats_prefix net x ≡ false) r (records_of net) (whole net valid).prefixes m

  -- ---- networks

  module _ (p q : Name) (ours theirs : RouterPort) (is : at net.router_ports p ≡ Some ours) (also : at net.router_ports q ≡ Some theirs) (together : ours.router ≡ theirs.router) (n m : Cidr) (own : Among n ours.networks)
      (other : Among m theirs.networks) where
    not_before : is_before ours.name theirs.name ≡ true → same_prefix m n ≡ true → ⊥
    not_before earlier same =
        let mate = and_from (same_name ours.router theirs.router) (is_before ours.name theirs.name) ((bytes_decides ours.router theirs.router).1 together) earlier in
        let has = among_any (same_prefix m) n ours.networks own same in
        let repeated = among_any (λ (e : Name × RouterPort). is_router_mate theirs e.1 && list_any (same_prefix m) e.1.networks) (p, ours) net.router_ports (at_among net.router_ports p ours is)
        (and_from (is_router_mate theirs ours) (list_any (same_prefix m) ours.networks) mate has) in
        false≢true (sym (unrepeated (row.RouterPort theirs) (port_record q theirs also)) ∙ among_any (is_repeated_network net theirs) m theirs.networks other (or_right (has_second (same_prefix m) false theirs.networks) _ repeated))

  -- two ports of a router with networks of one prefix are one
  pub one_network_port : (ours theirs : RouterPort) → at net.router_ports ours.name ≡ Some ours → at net.router_ports theirs.name ≡ Some theirs → ours.router ≡ theirs.router
      → (n m : Cidr) → Among n ours.networks → Among m theirs.networks → same_prefix n m ≡ true → same_prefix m n ≡ true → ours ≡ theirs
  one_network_port ours theirs is also together n m own other same back = by (ordered ours.name theirs.name)
    where
      by : InOrder ours.name theirs.name → ours ≡ theirs
      by (InOrder.same e) = same_Some ours theirs (sym is ∙ ap (λ k. at net.router_ports k) e ∙ also)
      by (InOrder.before e) = absurd (not_before ours.name theirs.name ours theirs is also together n m own other e back)
      by (InOrder.behind e) = absurd (not_before theirs.name ours.name theirs ours also is (sym together) m n other own e same)

  -- ---- routes

  module _ (p q : Name) (ours theirs : Route) (is : at net.routes p ≡ Some ours) (also : at net.routes q ≡ Some theirs) (together : ours.router ≡ theirs.router) where
    none_before : is_before ours.name theirs.name ≡ true → same_prefix theirs.prefix ours.prefix ≡ true → ⊥
    none_before earlier same =
        let before = and_from (same_name ours.router theirs.router) (is_before ours.name theirs.name) ((bytes_decides ours.router theirs.router).1 together) earlier in
        false≢true (sym (unrepeated (row.Route theirs) (route_record q theirs also))
        ∙ among_any (λ (e : Name × Route). is_route_before theirs e.1 && same_prefix theirs.prefix e.1.prefix) (p, ours) net.routes (at_among net.routes p ours is) (and_from (is_route_before theirs ours) (same_prefix theirs.prefix ours.prefix) before same))

  route_named : (q : Name) (x : Route) → at net.routes q ≡ Some x → x.name ≡ q
  route_named q x is = among_all (λ (e : Name × Route). e.1.name ≡ e.0) (q, x) net.routes valid.named.routes (at_among net.routes q x is)

  -- two routes of a router with one prefix are one
  pub one_route : (p q : Name) (ours theirs : Route) → at net.routes p ≡ Some ours → at net.routes q ≡ Some theirs → ours.router ≡ theirs.router
      → same_prefix ours.prefix theirs.prefix ≡ true → same_prefix theirs.prefix ours.prefix ≡ true → ours ≡ theirs
  one_route p q ours theirs is also together same back = by (ordered ours.name theirs.name)
    where
      by : InOrder ours.name theirs.name → ours ≡ theirs
      by (InOrder.same e) = same_Some ours theirs (sym is ∙ ap (λ k. at net.routes k) (sym (route_named p ours is) ∙ e ∙ route_named q theirs also) ∙ also)
      by (InOrder.before e) = absurd (none_before p q ours theirs is also together e back)
      by (InOrder.behind e) = absurd (none_before q p theirs ours also is (sym together) e same)
