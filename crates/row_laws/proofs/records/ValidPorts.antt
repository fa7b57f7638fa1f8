-- What holds of the ports of a switch in valid records: each is in its grammar, and no two have one address.
use Rattle.std.specs.Prelude.{◌≡◌, ◌&&◌, ℕ, Bool, true, false, cond, List, [], ◌∷◌, Option, Some, None, option_map, is_some, refl}
use Rattle.std.specs.Cmp.Lexicographic.{slice_cmp}
use Rattle.std.specs.List.{list_any}
use Rattle.std.specs.Ordering.{nat_cmp, is_eq, is_lt, ordering_reverse}
use Rattle.std.specs.declared.cmp.Ordering.{Ordering}
use Rattle.std.specs.declared.cmp.Ordering.TheVariants.{Less, Equal, Greater}
use Rattle.std.proofs.Common.{sym, ap, ◌∙◌, subst, inl, inr}
use Rattle.std.proofs.lemmas.Bool.{false≢true, and_from, and_parts, or_cases, eqb-true, eq-eqb}
use Rattle.std.proofs.lemmas.Cmp.{nat_list_cmp_total}
use Rattle.std.proofs.lemmas.Option.{same_Some}
use Rattle.ovn_base.proofs.AmongLaws.{among_cases, among_none, among_all, among_left, among_right, among_map, among_flat_map, among_any, any_among}
use Rattle.ovn_base.proofs.ByNameLaws as named
use Rattle.ovn_base.proofs.ByNameLaws.{at_among}
use Rattle.ovn_base.specs.addresses.EtherAddress.{same_ether}
use Rattle.ovn_base.specs.declared.address.Cidr.{Cidr}
use Rattle.ovn_base.specs.declared.address.Ip4.{Ip4}
use Rattle.ovn_base.specs.declared.address.Mac.{Mac}
use Rattle.ovn_base.specs.declared.name.Name.{Name}
use Rattle.ovn_base.specs.lists.Among.{Among}
use Rattle.ovn_base.specs.names.ByName.{at}
use Rattle.ovn_base.specs.names.SameName.{same_name, bytes_decides}
use Rattle.nb_records.specs.Grammar.{IsInGrammar, IsSwitchPort}
use Rattle.nb_records.specs.Network.{Network, records_of}
use Rattle.nb_records.specs.Routers.{answers_if, has_own_ip, served_ips, contains}
use Rattle.nb_records.specs.Switches.{same_ip, same_mac, macs_of, has_mac, ips_in_entry, router_port_behind}
use Rattle.nb_records.specs.declared.record.Record.{Record}
use Rattle.nb_records.specs.declared.record.Record.TheVariants as row
use Rattle.nb_records.specs.declared.router.RouterPort.{RouterPort}
use Rattle.nb_records.specs.declared.switch.PortKind.{PortKind}
use Rattle.nb_records.specs.declared.switch.PortKind.TheVariants as port_kind
use Rattle.nb_records.specs.declared.switch.Switch.{Switch}
use Rattle.nb_records.specs.declared.switch.SwitchPort.{SwitchPort}
use Rattle.nb_rules.proofs.Validity.{unbroken}
use Rattle.nb_rules.specs.First.{least_of, lesser}
use Rattle.nb_rules.specs.Holders.{is_before, is_switch_mate, has_mate, is_mac_shared, shared_mac, mac_number_of, the_mac, ip_number, the_ip, own_ips, known_ips, has_entry_ip, ips_by_kind, holds_by_kind, holds_ip, is_ip_shared, shared_ip}
use Rattle.nb_rules.specs.References.{references_of}
use Rattle.nb_rules.specs.Unbroken.{AreThere, AreUnbroken}
use Rattle.nb_rules.specs.Valid.{IsValid}

-- ---- addresses

pub one_ip : (a b : Ip4) → same_ip a b ≡ true → a ≡ b
one_ip a b h = let e = eqb-true a.0 b.0 h in λ i. record { 0 = e i }

pub own_ip : (a : Ip4) → same_ip a a ≡ true
own_ip a = eq-eqb a.0 a.0 refl

pub one_mac : (a b : Mac) → same_mac a b ≡ true → a ≡ b
one_mac a b h = same_ether a b (eqb-true a.number b.number h)

pub own_mac : (a : Mac) → same_mac a a ≡ true
own_mac a = eq-eqb a.number a.number refl

-- ---- the least of those that pass a test

module _ {X A : Type 0} (number : A → ℕ) (value : X → A) (test : X → Bool) where
  abbrev pub least : Option A → List X → Option A
  least so_far xs = least_of number value test so_far xs

  -- where there is one already, there is one at the end
  pub some_least : (a : A) (xs : List X) → least (Some a) xs ≡ None → ⊥
  some_least a [] h = cc
  some_least a (x ∷ xs) h = by (test x) (some_least (lesser number (value x) (Some a)) xs) (some_least a xs) h
    where
      by : (b : Bool) → (least (Some (lesser number (value x) (Some a))) xs ≡ None → ⊥) → (least (Some a) xs ≡ None → ⊥) → least (cond b (Some (lesser number (value x) (Some a))) (Some a)) xs ≡ None → ⊥
      by true first second k = first k
      by false first second k = second k

  -- where there is none, none passes
  pub none_passes : (xs : List X) → least None xs ≡ None → (x : X) → Among x xs → test x ≡ false
  none_passes [] h x m = absurd (among_none x m)
  none_passes (y ∷ ys) h x m = by (test y) refl (none_passes ys) h
    where
      by : (b : Bool) → test y ≡ b → (least None ys ≡ None → (z : X) → Among z ys → test z ≡ false) → least (cond b (Some (lesser number (value y) None)) None) ys ≡ None → test x ≡ false
      by true e rest k = absurd (some_least (lesser number (value y) None) ys k)
      by false e rest k = elim (among_cases x y ys m) [ inl own ↦ ap test own ∙ e | inr later ↦ rest k x later ]

-- ---- names in order

pub data InOrder (p q : Name) : Type 0 where
  same : p ≡ q → InOrder p q
  before : is_before p q ≡ true → InOrder p q
  behind : is_before q p ≡ true → InOrder p q

pub ordered : (p q : Name) → InOrder p q
ordered p q = by (slice_cmp nat_cmp p q) refl
  where
    by : (o : Ordering) → slice_cmp nat_cmp p q ≡ o → InOrder p q
    by Less e = InOrder.before (ap is_lt e)
    by Equal e = InOrder.same (named.same_name p q (ap is_eq e))
    by Greater e = InOrder.behind (ap is_lt (nat_list_cmp_total.antisymm q p ∙ ap ordering_reverse e))

-- ---- the records

module _ (net : Network) (valid : IsValid net) where
  pub whole : AreUnbroken net
  whole = (unbroken net []).0 valid.unbroken

  pub port_named : (q : Name) (port : SwitchPort) → at net.switch_ports q ≡ Some port → port.name ≡ q
  port_named q port found = among_all (λ (e : Name × SwitchPort). e.1.name ≡ e.0) (q, port) net.switch_ports valid.named.switch_ports (at_among net.switch_ports q port found)

  -- a port stands at its own name
  pub own_place : (q : Name) (port : SwitchPort) → at net.switch_ports q ≡ Some port → at net.switch_ports port.name ≡ Some port
  own_place q port found = ap (λ n. at net.switch_ports n) (port_named q port found) ∙ found

  module _ (q : Name) (port : SwitchPort) (found : at net.switch_ports q ≡ Some port) where
    pub port_row : Among (row.SwitchPort port) (records_of net)
    port_row =
        let own = among_map (λ (e : Name × SwitchPort). row.SwitchPort e.1) (q, port) net.switch_ports (at_among net.switch_ports q port found) in
        let r = row.SwitchPort port in
        among_left r _ _ (among_left r _ _ (among_left r _ _ (among_left r _ _ (among_left r _ _ (among_left r _ _ (among_left r _ _ (among_right r _ _ own)))))))

    pub in_grammar : IsSwitchPort port
    in_grammar = among_all IsInGrammar (row.SwitchPort port) (records_of net) valid.in_grammar port_row

    -- its switch is there
    pub on_switch : (sw : Switch) × (at net.switches port.switch ≡ Some sw)
    on_switch = by (at net.switches port.switch) refl (among_all (λ (r : Record). AreThere net (references_of r)) (row.SwitchPort port) (records_of net) whole.references port_row).0
      where
        by : (o : Option Switch) → at net.switches port.switch ≡ o → is_some (option_map row.Switch o) ≡ true → (sw : Switch) × (at net.switches port.switch ≡ Some sw)
        by None is h = absurd (false≢true h)
        by (Some sw) is h = (sw, is)

  -- ---- holders

  -- of two ports of a switch that pass the test, and of which neither has a mate before it that does, one is the other
  module _ (test : SwitchPort → Bool) (alone : (q : Name) (port : SwitchPort) → at net.switch_ports q ≡ Some port → test port ≡ true → has_mate net port test ≡ false) where
    mate : (p : Name) (ours theirs : SwitchPort) → at net.switch_ports p ≡ Some ours → ours.switch ≡ theirs.switch → is_before ours.name theirs.name ≡ true → test ours ≡ true → has_mate net theirs test ≡ true
    mate p ours theirs found together earlier passes =
        among_any (λ (e : Name × SwitchPort). is_switch_mate theirs e.1 && test e.1) (p, ours) net.switch_ports (at_among net.switch_ports p ours found)
        (and_from (is_switch_mate theirs ours) (test ours) (and_from (same_name ours.switch theirs.switch) (is_before ours.name theirs.name) ((bytes_decides ours.switch theirs.switch).1 together) earlier) passes)

    one_port : (p q : Name) (ours theirs : SwitchPort) → at net.switch_ports p ≡ Some ours → at net.switch_ports q ≡ Some theirs → ours.switch ≡ theirs.switch → test ours ≡ true → test theirs ≡ true → ours ≡ theirs
    one_port p q ours theirs found also together passes too = by (ordered ours.name theirs.name)
      where
        by : InOrder ours.name theirs.name → ours ≡ theirs
        by (InOrder.same e) = same_Some ours theirs (sym (own_place p ours found) ∙ ap (λ n. at net.switch_ports n) e ∙ own_place q theirs also)
        by (InOrder.before e) = absurd (false≢true (sym (alone q theirs also too) ∙ mate p ours theirs found together e passes))
        by (InOrder.behind e) = absurd (false≢true (sym (alone p ours found passes) ∙ mate q theirs ours also (sym together) e too))

  -- no two have one Ethernet address
  mac_alone : (mac : Mac) (q : Name) (port : SwitchPort) → at net.switch_ports q ≡ Some port → has_mac net mac port ≡ true → has_mate net port (has_mac net mac) ≡ false
  mac_alone mac q port found has =
      let m = any_among (same_mac mac) (macs_of net port) has in
      subst (λ (x : Mac). has_mate net port (has_mac net x) ≡ false) (sym (one_mac mac m.0 m.2))
      (none_passes mac_number_of the_mac (is_mac_shared net port) (macs_of net port)
      (among_all (λ (e : Name × SwitchPort). shared_mac net e.1 ≡ None) (q, port) net.switch_ports whole.macs (at_among net.switch_ports q port found)) m.0 m.1)

  pub one_mac_holder : (mac : Mac) (p q : Name) (ours theirs : SwitchPort) → at net.switch_ports p ≡ Some ours → at net.switch_ports q ≡ Some theirs → ours.switch ≡ theirs.switch
      → has_mac net mac ours ≡ true → has_mac net mac theirs ≡ true → ours ≡ theirs
  one_mac_holder mac = one_port (has_mac net mac) (mac_alone mac)

  -- nor one IPv4 address
  known_by : (ip : Ip4) (o : Option RouterPort) → answers_if net ip o ≡ true → Among ip (known_ips net o)
  known_by ip None h = absurd (false≢true h)
  known_by ip (Some p) h =
      elim (or_cases (has_own_ip ip p) (list_any (same_ip ip) (served_ips net p.router) && list_any (λ n. contains n ip) p.networks) h) [
        | inl own ↦
            let n = any_among (λ (n : Cidr). same_ip ip n.addr) p.networks own in
            among_left ip (own_ips p) (served_ips net p.router) (subst (λ (x : Ip4). Among x (own_ips p)) (sym (one_ip ip n.0.addr n.2)) (among_map (λ (n : Cidr). n.addr) n.0 p.networks n.1))
        | inr served ↦
            let x = any_among (same_ip ip) (served_ips net p.router) (and_parts (list_any (same_ip ip) (served_ips net p.router)) (list_any (λ n. contains n ip) p.networks) served).0 in
            among_right ip (own_ips p) (served_ips net p.router) (subst (λ (y : Ip4). Among y (served_ips net p.router)) (sym (one_ip ip x.0 x.2)) x.1)
      ]

  listed_by : (ip : Ip4) (port : SwitchPort) (k : PortKind) → holds_by_kind net ip port k ≡ true → Among ip (ips_by_kind net port k)
  listed_by ip port port_kind.Virtual h =
      let entry = any_among (has_entry_ip ip) port.addresses h in
      let x = any_among (same_ip ip) (ips_in_entry entry.0) entry.2 in
      among_flat_map ips_in_entry entry.0 ip port.addresses entry.1 (subst (λ (y : Ip4). Among y (ips_in_entry entry.0)) (sym (one_ip ip x.0 x.2)) x.1)
  listed_by ip port port_kind.Router h = known_by ip (router_port_behind net port) h

  ip_alone : (ip : Ip4) (q : Name) (port : SwitchPort) → at net.switch_ports q ≡ Some port → holds_ip net ip port ≡ true → has_mate net port (holds_ip net ip) ≡ false
  ip_alone ip q port found holds =
      ap (λ (b : Bool). b && has_mate net port (holds_ip net ip)) (sym holds)
      ∙ none_passes ip_number the_ip (is_ip_shared net port) (ips_by_kind net port port.kind)
      (among_all (λ (e : Name × SwitchPort). shared_ip net e.1 ≡ None) (q, port) net.switch_ports whole.ips (at_among net.switch_ports q port found)) ip (listed_by ip port port.kind holds)

  pub one_ip_holder : (ip : Ip4) (p q : Name) (ours theirs : SwitchPort) → at net.switch_ports p ≡ Some ours → at net.switch_ports q ≡ Some theirs → ours.switch ≡ theirs.switch
      → holds_ip net ip ours ≡ true → holds_ip net ip theirs ≡ true → ours ≡ theirs
  one_ip_holder ip = one_port (holds_ip net ip) (ip_alone ip)
