-- In valid records no two rows of NAT of a router translate the sources of one prefix, and no two translate one destination.
use Rattle.std.specs.Prelude.{◌≡◌, ◌&&◌, ◌||◌, Bool, true, false, Some}
use Rattle.std.specs.Map.{values_of}
use Rattle.std.proofs.Common.{sym, ap, ◌∙◌}
use Rattle.std.proofs.lemmas.Bool.{false≢true, and_from, or_left, or_right, eq-eqb}
use Rattle.std.proofs.lemmas.Option.{same_Some}
use Rattle.ovn_base.proofs.AmongLaws.{among_all, among_left, among_right, among_map, map_among, among_any, among_filter, filter_among}
use Rattle.ovn_base.proofs.ByNameLaws.{at_among, among_at}
use Rattle.ovn_base.specs.declared.address.Ip4.{Ip4}
use Rattle.ovn_base.specs.declared.name.Name.{Name}
use Rattle.ovn_base.specs.lists.Among.{Among}
use Rattle.ovn_base.specs.names.ByName.{at}
use Rattle.ovn_base.specs.names.SameName.{same_name, bytes_decides}
use Rattle.nb_records.specs.Grammar.{IsInGrammar, IsNat}
use Rattle.nb_records.specs.Network.{Network, records_of}
use Rattle.nb_records.specs.Routers.{nats_of, translates_sources, translates_destinations}
use Rattle.nb_records.specs.Switches.{same_ip}
use Rattle.nb_records.specs.declared.record.Record.{Record}
use Rattle.nb_records.specs.declared.record.Record.TheVariants as row
use Rattle.nb_records.specs.declared.router.Nat.{Nat}
use Rattle.nb_rules.specs.Holders.{is_before}
use Rattle.nb_rules.specs.Prefixes.{same_prefix, same_sources, same_destination, is_nat_before, repeats_prefix}
use Rattle.nb_rules.specs.Valid.{IsValid}
use Rattle.row_laws.proofs.records.ValidPorts.{InOrder, ordered, whole}

-- two rows that may not both be of one router
abbrev clash : Nat → Nat → Bool
clash a b = same_sources a b || same_destination a b

module _ (net : Network) (valid : IsValid net) where
  nat_record : (q : Name) (x : Nat) → at net.nats q ≡ Some x → Among (row.Nat x) (records_of net)
  nat_record q x is =
      let r = row.Nat x in
      among_left r _ _ (among_left r _ _ (among_right r _ _ (among_map (λ (e : Name × Nat). row.Nat e.1) (q, x) net.nats (at_among net.nats q x is))))

  pub nat_ok : (q : Name) (x : Nat) → at net.nats q ≡ Some x → IsNat x
  nat_ok q x is = among_all IsInGrammar (row.Nat x) (records_of net) valid.in_grammar (nat_record q x is)

  nat_named : (q : Name) (x : Nat) → at net.nats q ≡ Some x → x.name ≡ q
  nat_named q x is = among_all (λ (e : Name × Nat). e.1.name ≡ e.0) (q, x) net.nats valid.named.nats (at_among net.nats q x is)

  unrepeated : (r : Record) → Among r (records_of net) → repeats_prefix net r ≡ false
  unrepeated r m = among_all (λ (x : Record). repeats_prefix net x ≡ false) r (records_of net) (whole net valid).prefixes m

  none_before : (p q : Name) (ours theirs : Nat) → at net.nats p ≡ Some ours → at net.nats q ≡ Some theirs → ours.router ≡ theirs.router → is_before ours.name theirs.name ≡ true → clash theirs ours ≡ true → ⊥
  none_before p q ours theirs is also together earlier same =
      let before = and_from (same_name ours.router theirs.router) (is_before ours.name theirs.name) ((bytes_decides ours.router theirs.router).1 together) earlier in
      false≢true (sym (unrepeated (row.Nat theirs) (nat_record q theirs also))
      ∙ among_any (λ (e : Name × Nat). is_nat_before theirs e.1 && clash theirs e.1) (p, ours) net.nats (at_among net.nats p ours is) (and_from (is_nat_before theirs ours) (clash theirs ours) before same))

  one_nat : (p q : Name) (ours theirs : Nat) → at net.nats p ≡ Some ours → at net.nats q ≡ Some theirs → ours.router ≡ theirs.router → clash ours theirs ≡ true → clash theirs ours ≡ true → ours ≡ theirs
  one_nat p q ours theirs is also together same back = by (ordered ours.name theirs.name)
    where
      by : InOrder ours.name theirs.name → ours ≡ theirs
      by (InOrder.same e) = same_Some ours theirs (sym is ∙ ap (λ k. at net.nats k) (sym (nat_named p ours is) ∙ e ∙ nat_named q theirs also) ∙ also)
      by (InOrder.before e) = absurd (none_before p q ours theirs is also together e back)
      by (InOrder.behind e) = absurd (none_before q p theirs ours also is (sym together) e same)

  -- two that translate one destination are one
  one_way : (a b : Nat) → translates_destinations a.kind ≡ true → translates_destinations b.kind ≡ true → a.external_ip ≡ b.external_ip → clash a b ≡ true
  one_way a b h k e =
      or_right (same_sources a b) (same_destination a b)
      (and_from (translates_destinations a.kind) _ h (and_from (translates_destinations b.kind) (same_ip a.external_ip b.external_ip) k (eq-eqb a.external_ip.0 b.external_ip.0 (ap (λ (ip : Ip4). ip.0) e))))

  pub one_destination : (p q : Name) (ours theirs : Nat) → at net.nats p ≡ Some ours → at net.nats q ≡ Some theirs → ours.router ≡ theirs.router
      → translates_destinations ours.kind ≡ true → translates_destinations theirs.kind ≡ true → ours.external_ip ≡ theirs.external_ip → ours ≡ theirs
  one_destination p q ours theirs is also together h k same = one_nat p q ours theirs is also together (one_way ours theirs h k same) (one_way theirs ours k h (sym same))

  -- and two that translate the sources of one prefix
  one_side : (a b : Nat) → translates_sources a.kind ≡ true → translates_sources b.kind ≡ true → same_prefix a.logical_ip b.logical_ip ≡ true → clash a b ≡ true
  one_side a b h k e = or_left (same_sources a b) (same_destination a b) (and_from (translates_sources a.kind) _ h (and_from (translates_sources b.kind) (same_prefix a.logical_ip b.logical_ip) k e))

  pub one_source : (p q : Name) (ours theirs : Nat) → at net.nats p ≡ Some ours → at net.nats q ≡ Some theirs → ours.router ≡ theirs.router
      → translates_sources ours.kind ≡ true → translates_sources theirs.kind ≡ true
      → same_prefix ours.logical_ip theirs.logical_ip ≡ true → same_prefix theirs.logical_ip ours.logical_ip ≡ true → ours ≡ theirs
  one_source p q ours theirs is also together h k same back = one_nat p q ours theirs is also together (one_side ours theirs h k same) (one_side theirs ours k h back)

  -- ---- those of a router

  pub in_nats : (d q : Name) (x : Nat) → at net.nats q ≡ Some x → x.router ≡ d → Among x (nats_of net d)
  in_nats d q x is on = among_filter (λ (y : Nat). same_name y.router d) x (values_of net.nats) (among_map (λ (e : Name × Nat). e.1) (q, x) net.nats (at_among net.nats q x is)) ((bytes_decides x.router d).1 on)

  pub nats_in : (d : Name) (x : Nat) → Among x (nats_of net d) → (q : Name) × (at net.nats q ≡ Some x) × (x.router ≡ d)
  nats_in d x m =
      let two = filter_among (λ (y : Nat). same_name y.router d) x (values_of net.nats) m in
      let e = map_among (λ (e : Name × Nat). e.1) x net.nats two.0 in
      (e.0.0, among_at e.0.0 e.0.1 net.nats valid.in_order.nats e.1 ∙ ap (λ y. Some y) (sym e.2), (bytes_decides x.router d).0 two.1)
