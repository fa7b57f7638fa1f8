-- Where each mark has one holder, no two ports of a switch have one address.
use Rattle.std.specs.Prelude.{◌≡◌, ◌++◌, ◌&&◌, ◌||◌, ℕ, Bool, true, false, cond, List, [], ◌∷◌, map, flat_map, option_map, Option, Some, None}
use Rattle.std.specs.Cmp.{first_so, second_so}
use Rattle.std.specs.List.{list_any, list_all, AllByRecursion}
use Rattle.std.specs.Option.{option_map_or}
use Rattle.std.specs.Ordering.{is_lt}
use Rattle.std.proofs.Common.{refl, sym, ap, subst, ◌∙◌, append_assoc}
use Rattle.std.proofs.lemmas.Bool.{false≢true, cases_Bool}
use Rattle.std.proofs.lemmas.Bool.Decides.{Decides-eqb}
use Rattle.std.proofs.lemmas.Cmp.{nat_list_cmp_total, tied_itself}
use Rattle.std.proofs.lemmas.Grind.{flat_map-append}
use Rattle.std.proofs.lemmas.List.Folds.{list_any-append}
use mathlib.Core.Logic.{inl, inr}
use Rattle.ovn_base.specs.declared.address.Cidr.{Cidr}
use Rattle.ovn_base.specs.declared.address.Ip4.{Ip4}
use Rattle.ovn_base.specs.declared.address.Mac.{Mac}
use Rattle.ovn_base.specs.declared.name.Name.{Name}
use Rattle.ovn_base.specs.lists.Among.{Among, here}
use Rattle.ovn_base.specs.names.SameName.{same_name, bytes_decides}
use Rattle.ovn_base.proofs.AmongLaws.{among_all, all_among, among_map, among_flat_map, any_among, among_any}
use Rattle.nb_records.specs.Network.{Network}
use Rattle.nb_records.specs.Routers.{nats_of, served_ips, has_own_ip, answers_if, contains}
use Rattle.nb_records.specs.Switches.{balancers_of, same_ip, same_mac, macs_of, has_mac, ips_in_entry, router_port_behind}
use Rattle.nb_records.specs.declared.balancer.LoadBalancer.{LoadBalancer}
use Rattle.nb_records.specs.declared.router.Nat.{Nat}
use Rattle.nb_records.specs.declared.router.RouterPort.{RouterPort}
use Rattle.nb_records.specs.declared.switch.PortKind.{PortKind}
use Rattle.nb_records.specs.declared.switch.PortKind.TheVariants as port_kind
use Rattle.nb_records.specs.declared.switch.SwitchPort.{SwitchPort}
use Rattle.nb_rules.specs.Claims.{mixed_all, mark_on, claim_of, mac_claim, port_macs, mac_claims, ip_claim, claims_to, port_ips, ip_claims, claim_at, is_holder, HaveOneHolder}
use Rattle.nb_rules.specs.First.{least_of, lesser}
use Rattle.nb_rules.specs.Holders.{is_switch_mate, is_before, has_mate, is_mac_shared, shared_mac, mac_number_of, the_mac, ip_number, the_ip, own_ips, known_ips, ips_by_kind, holds_by_kind, holds_ip, is_ip_shared, shared_ip, mac_fault, ip_fault, twice_mac, twice_ip}
use Rattle.nb_rules.specs.declared.claims.Claim.{Claim}
use Rattle.nb_rules.proofs.Validity.{none_each, mapped}

-- ---- an index of claims

abbrev holder_in : Option Claim → Option Name
holder_in claim = option_map (λ (c : Claim). c.holder) claim

same_holder : (name : Name) (claim : Option Claim) → option_map_or (λ (d : Claim). same_name d.holder name) claim false ≡ true → holder_in claim ≡ Some name
same_holder name None h = absurd (false≢true h)
same_holder name (Some d) h = ap Some ((bytes_decides d.holder name).0 h)

module _ (index : List (ℕ × ℕ)) (all : List Claim) where
  all_hold : (claims : List Claim) → list_all (is_holder index all) claims ≡ true → AllByRecursion (λ (c : Claim). holder_in (claim_at index all c.mark) ≡ Some c.holder) claims
  all_hold [] h = tt
  all_hold (c ∷ claims) h = (
    same_holder c.holder (claim_at index all c.mark) (first_so (is_holder index all c) (list_all (is_holder index all) claims) h),
    all_hold claims (second_so (is_holder index all c) (list_all (is_holder index all) claims) h),
  )

pub one_holder : (index : List (ℕ × ℕ)) (claims : List Claim) → list_all (is_holder index claims) claims ≡ true → HaveOneHolder claims
one_holder index claims h = ((λ mark. holder_in (claim_at index claims mark)), all_hold index claims claims h)

-- ---- addresses that a port holds

-- of those of a router port, its own, then those of its router's rows and balancers
pub known_claims : (net : Network) (q : SwitchPort) (p : RouterPort) (claims : List Claim)
    → claims ++ claims_to net q (own_ips p ++ served_ips net p.router)
    ≡ ((claims ++ claims_to net q (own_ips p)) ++ claims_to net q (map (λ (r : Nat). r.external_ip) (nats_of net p.router))) ++ claims_to net q (flat_map (λ (b : LoadBalancer). map (λ v. v.at.ip) b.vips) (balancers_of net p.router))
known_claims net q p claims = simp (flat_map-append, append_assoc)

any_flat : {X : Type 0} (test : Ip4 → Bool) (f : X → List Ip4) (xs : List X) → list_any (λ (x : X). list_any test (f x)) xs ≡ true → list_any test (flat_map f xs) ≡ true
any_flat {X} test f xs h =
    let x = any_among (λ (x : X). list_any test (f x)) xs h in
    let y = any_among test (f x.0) x.2 in
    among_any test y.0 (flat_map f xs) (among_flat_map f x.0 y.0 xs x.1 y.1) y.2

any_left : (a b : Bool) → a ≡ true → (a || b) ≡ true
any_left true b h = refl
any_left false b h = absurd (false≢true h)

any_right : (a b : Bool) → b ≡ true → (a || b) ≡ true
any_right true b h = refl
any_right false b h = h

abbrev ip_of : ℕ → Ip4
ip_of n = record { 0 = n }

own_any : (ip : Ip4) (p : RouterPort) → has_own_ip ip p ≡ true → list_any (same_ip ip) (own_ips p) ≡ true
own_any ip p h =
    let n = any_among (λ (n : Cidr). same_ip ip n.addr) p.networks h in
    among_any (same_ip ip) n.0.addr (own_ips p) (among_map (λ (n : Cidr). n.addr) n.0 p.networks n.1) n.2

module _ (net : Network) (ip : Ip4) where
  known_by : (p : RouterPort) (own served near : Bool) → has_own_ip ip p ≡ own → list_any (same_ip ip) (served_ips net p.router) ≡ served
      → (own || (served && near)) ≡ true → list_any (same_ip ip) (own_ips p ++ served_ips net p.router) ≡ true
  known_by p true served near is also h = list_any-append (same_ip ip) (own_ips p) (served_ips net p.router) ∙ any_left (list_any (same_ip ip) (own_ips p)) (list_any (same_ip ip) (served_ips net p.router)) (own_any ip p is)
  known_by p false true near is also h = list_any-append (same_ip ip) (own_ips p) (served_ips net p.router) ∙ any_right (list_any (same_ip ip) (own_ips p)) (list_any (same_ip ip) (served_ips net p.router)) also
  known_by p false false near is also h = absurd (false≢true h)

  known_if : (p : Option RouterPort) → answers_if net ip p ≡ true → list_any (same_ip ip) (known_ips net p) ≡ true
  known_if None h = absurd (false≢true h)
  known_if (Some p) h = known_by p (has_own_ip ip p) (list_any (same_ip ip) (served_ips net p.router)) (list_any (λ n. contains n ip) p.networks) refl refl h

  known_of : (q : SwitchPort) (k : PortKind) → holds_by_kind net ip q k ≡ true → list_any (same_ip ip) (ips_by_kind net q k) ≡ true
  known_of q port_kind.Virtual h = any_flat (same_ip ip) ips_in_entry q.addresses h
  known_of q port_kind.Router h = known_if (router_port_behind net q) h

-- ---- ports that hold one address

not_before : (a b : Name) → a ≡ b → is_before a b ≡ true → ⊥
not_before a b same h = false≢true (sym (ap is_lt (tied_itself nat_list_cmp_total a)) ∙ subst (λ n. is_before a n ≡ true) (sym same) h)

some_one : {X : Type 0} (x y : X) → Some x ≡ Some y → x ≡ y
some_one x y h = cc

least_none : {X A : Type 0} (number : A → ℕ) (address : X → A) (test : X → Bool) (xs : List X) → AllByRecursion (λ (x : X). test x ≡ false) xs → least_of number address test None xs ≡ None
least_none number address test [] h = refl
least_none {X} {A} number address test (x ∷ xs) h =
    ap (λ (b : Bool). least_of number address test (cond b (Some (lesser number (address x) None)) None) xs) h.0 ∙ least_none number address test xs h.1

and_false : (a b : Bool) → b ≡ false → (a && b) ≡ false
and_false true b h = h
and_false false b h = refl

module _ (net : Network) (holder : ℕ → Option Name) where
  -- the index tells each port that passes the test, at its switch
  abbrev Tells : ℕ → (SwitchPort → Bool) → Type 0
  Tells n test = (e : Name × SwitchPort) → Among e net.switch_ports → test e.1 ≡ true → holder (mark_on e.1 n) ≡ Some e.1.name

  no_mate : (q : SwitchPort) (n : ℕ) (test : SwitchPort → Bool) → Tells n test → holder (mark_on q n) ≡ Some q.name → has_mate net q test ≡ false
  no_mate q n test tells own = elim (cases_Bool (has_mate net q test)) [
    | inl some ↦
        let e = any_among (λ (e : Name × SwitchPort). is_switch_mate q e.1 && test e.1) net.switch_ports some in
        let mate = first_so (is_switch_mate q e.0.1) (test e.0.1) e.2 in
        let there = (bytes_decides e.0.1.switch q.switch).0 (first_so (same_name e.0.1.switch q.switch) (is_before e.0.1.name q.name) mate) in
        let told = tells e.0 e.1 (second_so (is_switch_mate q e.0.1) (test e.0.1) e.2) in
        let one : e.0.1.name ≡ q.name = some_one e.0.1.name q.name (sym told ∙ ap (λ (s : Name). holder (mixed_all n s)) there ∙ own) in
        absurd (not_before e.0.1.name q.name one (second_so (same_name e.0.1.switch q.switch) (is_before e.0.1.name q.name) mate))
    | inr none ↦ none
  ]

-- ---- Ethernet addresses

module _ (net : Network) (holder : ℕ → Option Name) (all : AllByRecursion (λ (c : Claim). holder c.mark ≡ Some c.holder) (mac_claims net)) where
  mac_told : (e : Name × SwitchPort) → Among e net.switch_ports → (mac : Mac) → Among mac (macs_of net e.1) → holder (mark_on e.1 mac.number) ≡ Some e.1.name
  mac_told e there mac has =
      among_all (λ (c : Claim). holder c.mark ≡ Some c.holder) (mac_claim e.1 mac) (mac_claims net) all
      (among_flat_map (λ (d : Name × SwitchPort). port_macs net d.1) e (mac_claim e.1 mac) net.switch_ports there (among_map (mac_claim e.1) mac (macs_of net e.1) has))

  mac_tells : (mac : Mac) → Tells net holder mac.number (has_mac net mac)
  mac_tells mac e there has =
      let m = any_among (same_mac mac) (macs_of net e.1) has in
      ap (λ (n : ℕ). holder (mark_on e.1 n)) ((Decides-eqb mac.number m.0.number).0 m.2) ∙ mac_told e there m.0 m.1

  macs_apart : (e : Name × SwitchPort) → Among e net.switch_ports → shared_mac net e.1 ≡ None
  macs_apart e there =
      least_none mac_number_of the_mac (is_mac_shared net e.1) (macs_of net e.1)
      (all_among (λ (mac : Mac). is_mac_shared net e.1 mac ≡ false) (macs_of net e.1) (λ mac has. no_mate net holder e.1 mac.number (has_mac net mac) (mac_tells mac) (mac_told e there mac has)))

-- ---- IPv4 addresses

module _ (net : Network) (holder : ℕ → Option Name) (all : AllByRecursion (λ (c : Claim). holder c.mark ≡ Some c.holder) (ip_claims net)) where
  claimed : (q : SwitchPort) (ip : Ip4) → holds_ip net ip q ≡ true → Among (claim_of q ip.0) (ip_claim net q ip)
  claimed q ip holds = subst (λ (b : Bool). Among (claim_of q ip.0) (cond b (claim_of q ip.0 ∷ []) [])) (sym holds) here

  ip_told : (e : Name × SwitchPort) → Among e net.switch_ports → (ip : Ip4) → Among ip (ips_by_kind net e.1 e.1.kind) → holds_ip net ip e.1 ≡ true → holder (mark_on e.1 ip.0) ≡ Some e.1.name
  ip_told e there ip known holds =
      among_all (λ (c : Claim). holder c.mark ≡ Some c.holder) (claim_of e.1 ip.0) (ip_claims net) all
      (among_flat_map (λ (d : Name × SwitchPort). port_ips net d.1) e (claim_of e.1 ip.0) net.switch_ports there
      (among_flat_map (ip_claim net e.1) ip (claim_of e.1 ip.0) (ips_by_kind net e.1 e.1.kind) known (claimed e.1 ip holds)))

  ip_tells : (ip : Ip4) → Tells net holder ip.0 (holds_ip net ip)
  ip_tells ip e there holds =
      let m = any_among (same_ip ip) (ips_by_kind net e.1 e.1.kind) (known_of net ip e.1 e.1.kind holds) in
      let one : ip ≡ m.0 = ap ip_of ((Decides-eqb ip.0 m.0.0).0 m.2) in
      ip_told e there ip (subst (λ (i : Ip4). Among i (ips_by_kind net e.1 e.1.kind)) (sym one) m.1) holds

  ip_apart : (e : Name × SwitchPort) → Among e net.switch_ports → (ip : Ip4) → Among ip (ips_by_kind net e.1 e.1.kind) → is_ip_shared net e.1 ip ≡ false
  ip_apart e there ip known = elim (cases_Bool (holds_ip net ip e.1)) [
    | inl holds ↦ and_false (holds_ip net ip e.1) _ (no_mate net holder e.1 ip.0 (holds_ip net ip) (ip_tells ip) (ip_told e there ip known holds))
    | inr none ↦ ap (λ (b : Bool). b && has_mate net e.1 (holds_ip net ip)) none
  ]

  ips_apart : (e : Name × SwitchPort) → Among e net.switch_ports → shared_ip net e.1 ≡ None
  ips_apart e there =
      least_none ip_number the_ip (is_ip_shared net e.1) (ips_by_kind net e.1 e.1.kind)
      (all_among (λ (ip : Ip4). is_ip_shared net e.1 ip ≡ false) (ips_by_kind net e.1 e.1.kind) (λ ip known. ip_apart e there ip known))

pub no_mac_twice : (net : Network) → HaveOneHolder (mac_claims net) → twice_mac net ≡ None
no_mac_twice net h =
    none_each (mac_fault net) net.switch_ports
    (all_among (λ (e : Name × SwitchPort). mac_fault net e.1 ≡ None) net.switch_ports (λ e there. mapped _ (shared_mac net e.1) (macs_apart net h.0 h.1 e there)))

pub no_ip_twice : (net : Network) → HaveOneHolder (ip_claims net) → twice_ip net ≡ None
no_ip_twice net h =
    none_each (λ (q : SwitchPort). ip_fault q.name (shared_ip net q)) net.switch_ports
    (all_among (λ (e : Name × SwitchPort). ip_fault e.1.name (shared_ip net e.1) ≡ None) net.switch_ports (λ e there. mapped _ (shared_ip net e.1) (ips_apart net h.0 h.1 e there)))
