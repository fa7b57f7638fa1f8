-- The addresses that a router port answers, as the rows of a switch list them.
use Rattle.std.specs.Prelude.{◌≡◌, ◌⊎◌, ◌↔◌, ◌&&◌, ◌++◌, true, List, [], ◌∷◌, map, Option, Some, None, refl}
use Rattle.std.specs.BTreeSet.{insert_key}
use Rattle.std.specs.List.{list_any}
use Rattle.std.specs.Map.{values_of}
use Rattle.std.specs.Ordering.{match_ordering}
use Rattle.std.specs.declared.cmp.Ordering.{Ordering}
use Rattle.std.specs.declared.cmp.Ordering.TheVariants.{Less, Equal, Greater}
use Rattle.std.proofs.Common.{sym, ap, ◌∙◌, subst, inl, inr}
use Rattle.std.proofs.lemmas.Bool.{and_parts, and_from, or_cases, or_left, or_right, false≢true}
use Rattle.std.proofs.lemmas.Map.Lookups.{exact_unsigned}
use Rattle.ovn_base.proofs.AmongLaws.{among_cases, among_none, among_same, among_all, among_append, among_left, among_right, among_map, map_among, among_filter, filter_among, flat_map_among, among_any, any_among}
use Rattle.ovn_base.proofs.ByNameLaws.{at_among}
use Rattle.ovn_base.specs.declared.address.Cidr.{Cidr}
use Rattle.ovn_base.specs.declared.address.Ip4.{Ip4}
use Rattle.ovn_base.specs.declared.name.Name.{Name}
use Rattle.ovn_base.specs.lists.Among.{Among, there}
use Rattle.ovn_base.specs.names.ByName.{at}
use Rattle.ovn_base.specs.names.SameName.{same_name}
use Rattle.nb_records.specs.Grammar.{IsIp4, IsCidr, IsVip, IsInGrammar}
use Rattle.nb_records.specs.Network.{Network, records_of}
use Rattle.nb_records.specs.Routers.{contains, has_own_ip, nats_of, served_ips, answers, answers_if}
use Rattle.nb_records.specs.Switches.{same_ip, serves_at, balancers_of}
use Rattle.nb_records.specs.declared.balancer.LoadBalancer.{LoadBalancer}
use Rattle.nb_records.specs.declared.balancer.Vip.{Vip}
use Rattle.nb_records.specs.declared.record.Record.{Record}
use Rattle.nb_records.specs.declared.record.Record.TheVariants as row
use Rattle.nb_records.specs.declared.router.Nat.{Nat}
use Rattle.nb_records.specs.declared.router.RouterPort.{RouterPort}
use Rattle.nb_rules.specs.Valid.{IsValid}
use Rattle.stage_rows.specs.Facts.{ip_cmp, ips_in_order, own_ips, is_near, near_ips, answered_ips, answered_if}
use Rattle.row_laws.proofs.records.ValidPorts.{one_ip, own_ip}

-- ---- in order

same_number : (a b : Ip4) → ip_cmp a b ≡ Equal → a ≡ b
same_number a b h = let e = exact_unsigned a.0 b.0 h in λ i. record { 0 = e i }

inserted : (ks : List Ip4) (k x : Ip4) → Among x (insert_key ip_cmp ks k) ↔ (Among x ks ⊎ (x ≡ k))
inserted [] k x = ((λ m. elim (among_cases x k [] m) [ inl e ↦ inr e | inr n ↦ inl n ]), (λ m. elim m [ inl n ↦ absurd (among_none x n) | inr e ↦ among_same x k [] e ]))
inserted (y ∷ ys) k x = by (ip_cmp k y) refl (inserted ys k x)
  where
    by : (o : Ordering) → ip_cmp k y ≡ o → Among x (insert_key ip_cmp ys k) ↔ (Among x ys ⊎ (x ≡ k)) → Among x (match_ordering o (k ∷ y ∷ ys) (y ∷ ys) (y ∷ insert_key ip_cmp ys k)) ↔ (Among x (y ∷ ys) ⊎ (x ≡ k))
    by Less is ih = ((λ m. elim (among_cases x k (y ∷ ys) m) [ inl e ↦ inr e | inr n ↦ inl n ]), (λ m. elim m [ inl n ↦ there n | inr e ↦ among_same x k (y ∷ ys) e ]))
    by Equal is ih = ((λ m. inl m), (λ m. elim m [ inl n ↦ n | inr e ↦ among_same x y ys (e ∙ same_number k y is) ]))
    by Greater is ih = (
      (λ m. elim (among_cases x y (insert_key ip_cmp ys k) m) [ inl e ↦ inl (among_same x y ys e) | inr n ↦ elim (ih.0 n) [ inl l ↦ inl (there l) | inr e ↦ inr e ] ]),
      (λ m. elim m [ inl n ↦ elim (among_cases x y ys n) [ inl e ↦ among_same x y (insert_key ip_cmp ys k) e | inr l ↦ there (ih.1 (inl l)) ] | inr e ↦ there (ih.1 (inr e)) ]),
    )

order_from : (xs : List Ip4) (x : Ip4) → Among x (ips_in_order xs) → Among x xs
order_from [] x m = m
order_from (y ∷ ys) x m = elim ((inserted (ips_in_order ys) y x).0 m) [ inl n ↦ there (order_from ys x n) | inr e ↦ among_same x y ys e ]

pub order_to : (xs : List Ip4) (x : Ip4) → Among x xs → Among x (ips_in_order xs)
order_to [] x m = m
order_to (y ∷ ys) x m = (inserted (ips_in_order ys) y x).1 (elim (among_cases x y ys m) [ inl e ↦ inr e | inr n ↦ inl (order_to ys x n) ])

-- ---- the addresses are those that the port answers

module _ (net : Network) (ip : Ip4) where
  pub answered_from : (p : RouterPort) → Among ip (answered_ips net p) → answers net p ip ≡ true
  answered_from p m = elim (among_append ip (own_ips p) (near_ips net p) (order_from (own_ips p ++ near_ips net p) ip m)) [
    | inl n ↦
        let x = map_among (λ (n : Cidr). n.addr) ip p.networks n in
        or_left (has_own_ip ip p) _ (among_any (λ (n : Cidr). same_ip ip n.addr) x.0 p.networks x.1 (ap (same_ip ip) (sym x.2) ∙ own_ip ip))
    | inr n ↦
        let f = filter_among (is_near p) ip (served_ips net p.router) n in
        or_right (has_own_ip ip p) _ (and_from (list_any (same_ip ip) (served_ips net p.router)) (is_near p ip) (among_any (same_ip ip) ip (served_ips net p.router) f.0 (own_ip ip)) f.1)
  ]

  pub answered_to : (p : RouterPort) → answers net p ip ≡ true → Among ip (answered_ips net p)
  answered_to p h = order_to (own_ips p ++ near_ips net p) ip (elim (or_cases (has_own_ip ip p) (list_any (same_ip ip) (served_ips net p.router) && list_any (λ n. contains n ip) p.networks) h) [
    | inl own ↦
        let n = any_among (λ (n : Cidr). same_ip ip n.addr) p.networks own in
        among_left ip (own_ips p) (near_ips net p) (subst (λ (x : Ip4). Among x (own_ips p)) (sym (one_ip ip n.0.addr n.2)) (among_map (λ (n : Cidr). n.addr) n.0 p.networks n.1))
    | inr served ↦
        let both = and_parts (list_any (same_ip ip) (served_ips net p.router)) (list_any (λ n. contains n ip) p.networks) served in
        let x = any_among (same_ip ip) (served_ips net p.router) both.0 in
        among_right ip (own_ips p) (near_ips net p) (among_filter (is_near p) ip (served_ips net p.router) (subst (λ (y : Ip4). Among y (served_ips net p.router)) (sym (one_ip ip x.0 x.2)) x.1) both.1)
  ])

  pub behind_from : (o : Option RouterPort) → Among ip (answered_if net o) → answers_if net ip o ≡ true
  behind_from None m = elim m [ ]
  behind_from (Some p) m = answered_from p m

  pub behind_to : (o : Option RouterPort) → answers_if net ip o ≡ true → Among ip (answered_if net o)
  behind_to None h = absurd (false≢true h)
  behind_to (Some p) h = answered_to p h

-- ---- and they have 32 bits

module _ (net : Network) (valid : IsValid net) where
  in_grammar : (x : Record) → Among x (records_of net) → IsInGrammar x
  in_grammar x m = among_all IsInGrammar x (records_of net) valid.in_grammar m

  pub network_ok : (q : Name) (p : RouterPort) → at net.router_ports q ≡ Some p → (n : Cidr) → Among n p.networks → IsIp4 n.addr
  network_ok q p is n m =
      let r = row.RouterPort p in
      let own = among_map (λ (e : Name × RouterPort). row.RouterPort e.1) (q, p) net.router_ports (at_among net.router_ports q p is) in
      let ok = in_grammar r (among_left r _ _ (among_left r _ _ (among_left r _ _ (among_left r _ _ (among_left r _ _ (among_left r _ _ (among_left r _ _ (among_left r _ _ (among_right r _ _ own))))))))) in
      (among_all IsCidr n p.networks ok.networks.each m).0

  nat_ok : (x : Nat) → Among x (values_of net.nats) → IsIp4 x.external_ip
  nat_ok x m =
      let e = map_among (λ (e : Name × Nat). e.1) x net.nats m in
      let r = row.Nat e.0.1 in
      let own = among_map (λ (e : Name × Nat). row.Nat e.1) e.0 net.nats e.1 in
      let ok = in_grammar r (among_left r _ _ (among_left r _ _ (among_right r _ _ own))) in
      subst (λ (y : Nat). IsIp4 y.external_ip) (sym e.2) ok.external_ip

  vip_ok : (x : LoadBalancer) → Among x (values_of net.load_balancers) → (v : Vip) → Among v x.vips → IsIp4 v.at.ip
  vip_ok x m v n =
      let e = map_among (λ (e : Name × LoadBalancer). e.1) x net.load_balancers m in
      let r = row.LoadBalancer e.0.1 in
      let own = among_map (λ (e : Name × LoadBalancer). row.LoadBalancer e.1) e.0 net.load_balancers e.1 in
      let ok = in_grammar r (among_left r _ _ (among_right r _ _ own)) in
      (among_all IsVip v e.0.1.vips ok.vips.each (subst (λ (y : LoadBalancer). Among v y.vips) e.2 n)).0.ip

  served_ok : (router : Name) (ip : Ip4) → Among ip (served_ips net router) → IsIp4 ip
  served_ok router ip m = elim (among_append ip (map (λ (r : Nat). r.external_ip) (nats_of net router)) _ m) [
    | inl n ↦
        let x = map_among (λ (r : Nat). r.external_ip) ip (nats_of net router) n in
        subst IsIp4 (sym x.2) (nat_ok x.0 (filter_among (λ (r : Nat). same_name r.router router) x.0 (values_of net.nats) x.1).0)
    | inr n ↦
        let b = flat_map_among (λ (b : LoadBalancer). map (λ (v : Vip). v.at.ip) b.vips) ip (balancers_of net router) n in
        let v = map_among (λ (v : Vip). v.at.ip) ip b.0.vips b.2 in
        subst IsIp4 (sym v.2) (vip_ok b.0 (filter_among (serves_at router) b.0 (values_of net.load_balancers) b.1).0 v.0 v.1)
  ]

  pub answered_ok : (q : Name) (p : RouterPort) → at net.router_ports q ≡ Some p → (ip : Ip4) → Among ip (answered_ips net p) → IsIp4 ip
  answered_ok q p is ip m = elim (among_append ip (own_ips p) (near_ips net p) (order_from (own_ips p ++ near_ips net p) ip m)) [
    | inl n ↦ let x = map_among (λ (n : Cidr). n.addr) ip p.networks n in subst IsIp4 (sym x.2) (network_ok q p is x.0 x.1)
    | inr n ↦ served_ok p.router ip (filter_among (is_near p) ip (served_ips net p.router) n).0
  ]
