-- No clause is broken exactly where each is kept by all records.
use Rattle.std.specs.Prelude.{◌≡◌, ◌≤◌, ◌+◌, ◌&&◌, ◌↔◌, nat_lt, ℕ, not, Bool, true, false, cond, length, List, [], ◌∷◌, Option, Some, None, option_map}
use Rattle.std.specs.List.{AllByRecursion}
use Rattle.std.proofs.Common.{refl, ◌∙◌, arith}
use Rattle.ovn_base.specs.declared.limits.TheConstants.{MAX_DATAPATHS, MAX_PORTS, MAX_ACLS, MAX_WIDTH}
use Rattle.ovn_base.specs.declared.address.Ip4.{Ip4}
use Rattle.ovn_base.specs.declared.name.Name.{Name}
use Rattle.nb_records.specs.Network.{Network, is_there, records_of}
use Rattle.nb_records.specs.Switches.{or_else, first_answer}
use Rattle.nb_records.specs.declared.change.Op.{Op}
use Rattle.nb_records.specs.declared.record.Record.{Record}
use Rattle.nb_records.specs.declared.router.Route.{Route}
use Rattle.nb_records.specs.declared.router.Router.{Router}
use Rattle.nb_records.specs.declared.router.RouterPort.{RouterPort}
use Rattle.nb_records.specs.declared.rule.Acl.{Acl}
use Rattle.nb_records.specs.declared.switch.Switch.{Switch}
use Rattle.nb_records.specs.declared.switch.SwitchPort.{SwitchPort}
use Rattle.nb_rules.specs.BadAddresses.{has_bad_address, address_fault, bad_address}
use Rattle.nb_rules.specs.First.{first_of, first_record, fault_if}
use Rattle.nb_rules.specs.FirstBroken.{first_broken}
use Rattle.nb_rules.specs.Gateways.{needs_chassis, chassis_fault, nat_needs_chassis}
use Rattle.nb_rules.specs.Holders.{shared_mac, shared_ip, repeated_ip, repeated_vip, bound_twice, mac_fault, ip_fault, vip_holder, first_holder, is_before, twice_mac, twice_ip, twice_own, twice_vip, twice_bound, duplicate_address}
use Rattle.nb_rules.specs.Peers.{has_bad_peer, peer_fault, bad_peer}
use Rattle.nb_rules.specs.Prefixes.{repeats_prefix, prefix_fault, duplicate_prefix, has_network, next_hop_fault, no_network}
use Rattle.nb_rules.specs.References.{Reference, references_of, is_removed, is_missing, first_named, reference_fault, no_such, still_used}
use Rattle.nb_rules.specs.Unbroken.{AreThere, AreUnbroken}
use Rattle.nb_rules.specs.Widths.{rule_width, width_fault, too_wide, all_cubes, over, over_limit}
use Rattle.nb_rules.specs.declared.fault.Limited.{Limited}
use Rattle.nb_rules.specs.declared.fault.Limited.TheVariants as limited
use Rattle.nb_rules.specs.declared.fault.SchemaFault.{SchemaFault}

-- ---- no answer

neither : {A : Type 0} (a b : Option A) → or_else a b ≡ None → (a ≡ None) × (b ≡ None)
neither (Some x) b h = absurd cc
neither None b h = (refl, h)

none_or : {A : Type 0} (a b : Option A) → a ≡ None → b ≡ None → or_else a b ≡ None
none_or (Some x) b h k = absurd cc
none_or None b h k = k

kept_if : (b : Bool) (f : SchemaFault) → fault_if b f ≡ None → b ≡ false
kept_if true f h = absurd cc
kept_if false f h = refl

if_kept : (b : Bool) (f : SchemaFault) → b ≡ false → fault_if b f ≡ None
if_kept true f h = absurd cc
if_kept false f h = refl

unmapped : {A B : Type 0} (f : A → B) (a : Option A) → option_map f a ≡ None → a ≡ None
unmapped f (Some x) h = absurd cc
unmapped f None h = refl

pub mapped : {A B : Type 0} (f : A → B) (a : Option A) → a ≡ None → option_map f a ≡ None
mapped f (Some x) h = absurd cc
mapped f None h = refl

-- ---- all records

module _ {X A : Type 0} (f : X → Option A) where
  all_none : (xs : List X) → first_answer f xs ≡ None → AllByRecursion (λ x. f x ≡ None) xs
  all_none [] h = tt
  all_none (x ∷ xs) h = let both = neither (f x) (first_answer f xs) h in (both.0, all_none xs both.1)

  none_all : (xs : List X) → AllByRecursion (λ x. f x ≡ None) xs → first_answer f xs ≡ None
  none_all [] h = refl
  none_all (x ∷ xs) h = none_or (f x) (first_answer f xs) h.0 (none_all xs h.1)

  each_none : (es : List (Name × X)) → first_of f es ≡ None → AllByRecursion (λ (e : Name × X). f e.1 ≡ None) es
  each_none [] h = tt
  each_none (e ∷ es) h = let both = neither (f e.1) (first_of f es) h in (both.0, each_none es both.1)

  pub none_each : (es : List (Name × X)) → AllByRecursion (λ (e : Name × X). f e.1 ≡ None) es → first_of f es ≡ None
  none_each [] h = refl
  none_each (e ∷ es) h = none_or (f e.1) (first_of f es) h.0 (none_each es h.1)

pub all_weaker : {X : Type 0} {P Q : X → Type 0} → ((x : X) → P x → Q x) → (xs : List X) → AllByRecursion P xs → AllByRecursion Q xs
all_weaker f [] h = tt
all_weaker f (x ∷ xs) h = (f x h.0, all_weaker f xs h.1)

all_both : {X : Type 0} {P Q R : X → Type 0} → ((x : X) → P x → Q x → R x) → (xs : List X) → AllByRecursion P xs → AllByRecursion Q xs → AllByRecursion R xs
all_both f [] h k = tt
all_both f (x ∷ xs) h k = (f x h.0 k.0, all_both f xs h.1 k.1)

-- ---- references

module _ (net : Network) (ops : List Op) where
  there_by : (there removed : Bool) → (not there && not removed) ≡ false → (not there && removed) ≡ false → there ≡ true
  there_by true removed h k = refl
  there_by false true h k = absurd cc
  there_by false false h k = absurd cc

  named_by : (x : Reference) (xs : List Reference) (rest : first_named (is_missing net ops false) xs ≡ None → first_named (is_missing net ops true) xs ≡ None → AreThere net xs)
      → (a : Bool) → is_missing net ops false x ≡ a → (b : Bool) → is_missing net ops true x ≡ b
      → cond a (Some x.1) (first_named (is_missing net ops false) xs) ≡ None → cond b (Some x.1) (first_named (is_missing net ops true) xs) ≡ None → AreThere net (x ∷ xs)
  named_by x xs rest true is b too h k = absurd cc
  named_by x xs rest false is true too h k = absurd cc
  named_by x xs rest false is false too h k = (there_by (is_there net x.0 x.1) (is_removed ops x) is too, rest h k)

  -- nothing is missing, whoever was removed
  named_there : (xs : List Reference) → first_named (is_missing net ops false) xs ≡ None → first_named (is_missing net ops true) xs ≡ None → AreThere net xs
  named_there [] h k = tt
  named_there (x ∷ xs) h k = named_by x xs (named_there xs) (is_missing net ops false x) refl (is_missing net ops true x) refl h k

  missing_by_there : (removed : Bool) (x : Reference) → is_there net x.0 x.1 ≡ true → is_missing net ops removed x ≡ false
  missing_by_there true x h = λ i. not (h i) && is_removed ops x
  missing_by_there false x h = λ i. not (h i) && not (is_removed ops x)

  there_named : (removed : Bool) (xs : List Reference) → AreThere net xs → first_named (is_missing net ops removed) xs ≡ None
  there_named removed [] h = refl
  there_named removed (x ∷ xs) h = (λ i. cond (missing_by_there removed x h.0 i) (Some x.1) (first_named (is_missing net ops removed) xs)) ∙ there_named removed xs h.1

-- ---- limits

within : (most n : ℕ) (what : Limited) → over most n what ≡ None → n ≤ most
within most n what h = let below = kept_if (nat_lt most n) _ h in grind arith

not_over : (most n : ℕ) (what : Limited) → n ≤ most → over most n what ≡ None
not_over most n what h = let below : nat_lt most n ≡ false = grind arith in if_kept (nat_lt most n) _ below

-- ---- holders of virtual addresses

no_holder : (a b : Option (Name × Ip4)) → first_holder a b ≡ None → (a ≡ None) × (b ≡ None)
no_holder (Some a) (Some b) h = elim (is_before b.0 a.0) as (λ t. cond t (Some b) (Some a) ≡ None → (Some a ≡ None) × (Some b ≡ None)) [ true ↦ λ k. absurd cc | false ↦ λ k. absurd cc ] h
no_holder (Some a) None h = absurd cc
no_holder None (Some b) h = absurd cc
no_holder None None h = (refl, refl)

holder_none : (a b : Option (Name × Ip4)) → a ≡ None → b ≡ None → first_holder a b ≡ None
holder_none (Some a) b h k = absurd cc
holder_none None (Some b) h k = absurd cc
holder_none None None h k = refl

-- ---- the widest match

too_wide_by : (n : ℕ) → width_fault n ≡ None → n ≤ MAX_WIDTH
too_wide_by n h = let below = kept_if (nat_lt MAX_WIDTH n) _ h in grind arith

not_too_wide : (n : ℕ) → n ≤ MAX_WIDTH → width_fault n ≡ None
not_too_wide n h = let below : nat_lt MAX_WIDTH n ≡ false = grind arith in if_kept (nat_lt MAX_WIDTH n) _ below

turned : (b : Bool) → not b ≡ false → b ≡ true
turned true h = refl
turned false h = absurd cc

turned_back : (b : Bool) → b ≡ true → not b ≡ false
turned_back true h = refl
turned_back false h = absurd cc

-- ---- all clauses

-- each clause keeps silent
pub record AreSilent (net : Network) (ops : List Op) : Type 0 where
  pub no_such : no_such net ops ≡ None
  pub still_used : still_used net ops ≡ None
  pub bad_address : bad_address net ≡ None
  pub bad_peer : bad_peer net ≡ None
  pub duplicate_address : duplicate_address net ≡ None
  pub duplicate_prefix : duplicate_prefix net ≡ None
  pub no_network : no_network net ≡ None
  pub nat_needs_chassis : nat_needs_chassis net ≡ None
  pub too_wide : too_wide net ≡ None
  pub over_limit : over_limit net ≡ None

module _ (net : Network) (ops : List Op) where
  silent : first_broken net ops ≡ None → AreSilent net ops
  unfolding first_broken
  silent h =
      let a = neither (no_such net ops) _ h in
      let b = neither (still_used net ops) _ a.1 in
      let c = neither (bad_address net) _ b.1 in
      let d = neither (bad_peer net) _ c.1 in
      let e = neither (duplicate_address net) _ d.1 in
      let f = neither (duplicate_prefix net) _ e.1 in
      let g = neither (no_network net) _ f.1 in
      let i = neither (nat_needs_chassis net) _ g.1 in
      let j = neither (too_wide net) (over_limit net) i.1 in
      record { no_such = a.0; still_used = b.0; bad_address = c.0; bad_peer = d.0; duplicate_address = e.0; duplicate_prefix = f.0; no_network = g.0; nat_needs_chassis = i.0; too_wide = j.0; over_limit = j.1 }

  unbroken_if : AreSilent net ops → first_broken net ops ≡ None
  unfolding first_broken
  unbroken_if h =
      none_or (no_such net ops) _ h.no_such
      (none_or (still_used net ops) _ h.still_used
      (none_or (bad_address net) _ h.bad_address
      (none_or (bad_peer net) _ h.bad_peer
      (none_or (duplicate_address net) _ h.duplicate_address
      (none_or (duplicate_prefix net) _ h.duplicate_prefix
      (none_or (no_network net) _ h.no_network
      (none_or (nat_needs_chassis net) _ h.nat_needs_chassis
      (none_or (too_wide net) _ h.too_wide h.over_limit))))))))

  kept_by_all : AreSilent net ops → AreUnbroken net
  unfolding no_such still_used bad_address bad_peer duplicate_address duplicate_prefix no_network nat_needs_chassis too_wide over_limit first_record
  kept_by_all h =
      let rows = records_of net in
      let known = all_none (reference_fault net ops false) rows h.no_such in
      let used = all_none (reference_fault net ops true) rows h.still_used in
      let a = neither (twice_mac net) _ h.duplicate_address in
      let b = neither (twice_ip net) _ a.1 in
      let c = neither (twice_own net) _ b.1 in
      let d = neither (twice_vip net) (twice_bound net) c.1 in
      let vips = no_holder _ _ (unmapped _ _ d.0) in
      let l = neither (over MAX_DATAPATHS (length net.switches + length net.routers) limited.Datapath) _ h.over_limit in
      let m = neither (over MAX_PORTS (length net.router_ports + length net.switch_ports) limited.Port) _ l.1 in
      let n = neither (over MAX_ACLS (length net.acls) limited.Acl) (over MAX_WIDTH (all_cubes net) limited.Cubes) m.1 in
      record {
        references = all_both (λ (r : Record) p q. named_there net ops (references_of r) (unmapped _ _ p) (unmapped _ _ q)) rows known used;
        addresses = all_weaker (λ (r : Record) p. kept_if (has_bad_address r) _ p) rows (all_none address_fault rows h.bad_address);
        peers = all_weaker (λ (e : Name × RouterPort) p. kept_if (has_bad_peer net e.1) _ p) net.router_ports (each_none (peer_fault net) net.router_ports h.bad_peer);
        macs = all_weaker (λ (e : Name × SwitchPort) p. unmapped _ (shared_mac net e.1) p) net.switch_ports (each_none (mac_fault net) net.switch_ports a.0);
        ips = all_weaker (λ (e : Name × SwitchPort) p. unmapped _ (shared_ip net e.1) p) net.switch_ports (each_none (λ (q : SwitchPort). ip_fault q.name (shared_ip net q)) net.switch_ports b.0);
        networks = all_weaker (λ (e : Name × RouterPort) p. unmapped _ (repeated_ip net e.1) p) net.router_ports (each_none (λ (q : RouterPort). ip_fault q.name (repeated_ip net q)) net.router_ports c.0);
        switch_vips = all_weaker (λ (e : Name × Switch) p. unmapped _ (repeated_vip net e.1.name) p) net.switches (each_none (λ (s : Switch). vip_holder net s.name) net.switches vips.0);
        router_vips = all_weaker (λ (e : Name × Router) p. unmapped _ (repeated_vip net e.1.name) p) net.routers (each_none (λ (r : Router). vip_holder net r.name) net.routers vips.1);
        bindings = all_weaker (λ (e : Name × RouterPort) p. unmapped _ (bound_twice net e.1.name) p) net.router_ports (each_none (λ (q : RouterPort). ip_fault q.name (bound_twice net q.name)) net.router_ports d.1);
        prefixes = all_weaker (λ (r : Record) p. kept_if (repeats_prefix net r) _ p) rows (all_none (prefix_fault net) rows h.duplicate_prefix);
        next_hops = all_weaker (λ (e : Name × Route) p. turned (has_network net e.1) (kept_if (not (has_network net e.1)) _ p)) net.routes (each_none (next_hop_fault net) net.routes h.no_network);
        chassis = all_weaker (λ (r : Record) p. kept_if (needs_chassis net r) _ p) rows (all_none (chassis_fault net) rows h.nat_needs_chassis);
        widths = all_weaker (λ (e : Name × Acl) p. too_wide_by (rule_width net e.1) p) net.acls (each_none (λ (r : Acl). width_fault (rule_width net r)) net.acls h.too_wide);
        datapaths = within MAX_DATAPATHS (length net.switches + length net.routers) limited.Datapath l.0;
        ports = within MAX_PORTS (length net.router_ports + length net.switch_ports) limited.Port m.0;
        acls = within MAX_ACLS (length net.acls) limited.Acl n.0;
        cubes = within MAX_WIDTH (all_cubes net) limited.Cubes n.1;
      }

  all_silent : AreUnbroken net → AreSilent net ops
  unfolding no_such still_used bad_address bad_peer duplicate_address duplicate_prefix no_network nat_needs_chassis too_wide over_limit first_record
  all_silent h =
      let rows = records_of net in
      record {
        no_such = none_all (reference_fault net ops false) rows (all_weaker (λ (r : Record) p. mapped _ _ (there_named net ops false (references_of r) p)) rows h.references);
        still_used = none_all (reference_fault net ops true) rows (all_weaker (λ (r : Record) p. mapped _ _ (there_named net ops true (references_of r) p)) rows h.references);
        bad_address = none_all address_fault rows (all_weaker (λ (r : Record) p. if_kept (has_bad_address r) _ p) rows h.addresses);
        bad_peer = none_each (peer_fault net) net.router_ports (all_weaker (λ (e : Name × RouterPort) p. if_kept (has_bad_peer net e.1) _ p) net.router_ports h.peers);
        duplicate_address =
            none_or (twice_mac net) _ (none_each (mac_fault net) net.switch_ports (all_weaker (λ (e : Name × SwitchPort) p. mapped _ (shared_mac net e.1) p) net.switch_ports h.macs))
            (none_or (twice_ip net) _ (none_each (λ (q : SwitchPort). ip_fault q.name (shared_ip net q)) net.switch_ports (all_weaker (λ (e : Name × SwitchPort) p. mapped _ (shared_ip net e.1) p) net.switch_ports h.ips))
            (none_or (twice_own net) _ (none_each (λ (q : RouterPort). ip_fault q.name (repeated_ip net q)) net.router_ports (all_weaker (λ (e : Name × RouterPort) p. mapped _ (repeated_ip net e.1) p) net.router_ports h.networks))
            (none_or (twice_vip net) (twice_bound net)
            (mapped _ _ (holder_none _ _
            (none_each (λ (s : Switch). vip_holder net s.name) net.switches (all_weaker (λ (e : Name × Switch) p. mapped _ (repeated_vip net e.1.name) p) net.switches h.switch_vips))
            (none_each (λ (r : Router). vip_holder net r.name) net.routers (all_weaker (λ (e : Name × Router) p. mapped _ (repeated_vip net e.1.name) p) net.routers h.router_vips))))
            (none_each (λ (q : RouterPort). ip_fault q.name (bound_twice net q.name)) net.router_ports (all_weaker (λ (e : Name × RouterPort) p. mapped _ (bound_twice net e.1.name) p) net.router_ports h.bindings)))));
        duplicate_prefix = none_all (prefix_fault net) rows (all_weaker (λ (r : Record) p. if_kept (repeats_prefix net r) _ p) rows h.prefixes);
        no_network = none_each (next_hop_fault net) net.routes (all_weaker (λ (e : Name × Route) p. if_kept (not (has_network net e.1)) _ (turned_back (has_network net e.1) p)) net.routes h.next_hops);
        nat_needs_chassis = none_all (chassis_fault net) rows (all_weaker (λ (r : Record) p. if_kept (needs_chassis net r) _ p) rows h.chassis);
        too_wide = none_each (λ (r : Acl). width_fault (rule_width net r)) net.acls (all_weaker (λ (e : Name × Acl) p. not_too_wide (rule_width net e.1) p) net.acls h.widths);
        over_limit =
            none_or (over MAX_DATAPATHS (length net.switches + length net.routers) limited.Datapath) _ (not_over MAX_DATAPATHS (length net.switches + length net.routers) limited.Datapath h.datapaths)
            (none_or (over MAX_PORTS (length net.router_ports + length net.switch_ports) limited.Port) _ (not_over MAX_PORTS (length net.router_ports + length net.switch_ports) limited.Port h.ports)
            (none_or (over MAX_ACLS (length net.acls) limited.Acl) (over MAX_WIDTH (all_cubes net) limited.Cubes) (not_over MAX_ACLS (length net.acls) limited.Acl h.acls)
            (not_over MAX_WIDTH (all_cubes net) limited.Cubes h.cubes)));
      }

  pub unbroken : (first_broken net ops ≡ None) ↔ AreUnbroken net
  unbroken = ((λ h. kept_by_all (silent h)), (λ h. unbroken_if (all_silent h)))
