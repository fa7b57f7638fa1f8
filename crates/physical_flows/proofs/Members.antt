-- The members of a group, found by the keys of the switch's ports.
use Rattle.std.specs.Prelude.{◌≡◌, ℕ, Bool, true, false, ◌&&◌, ◌||◌, not, cond, List, [], ◌∷◌, ◌++◌, map, filter, filter_map, Option, Some, None, unwrap_or, refl}
use Rattle.std.specs.List.{list_any, cons_option}
use Rattle.std.specs.List.Sorted.{IsStrictlySortedBy}
use Rattle.std.specs.Map.{keys_of, values_of}
use Rattle.std.specs.Ordering.{nat_cmp}
use Rattle.std.specs.Option.{option_map}
use Rattle.std.specs.Cmp.Lexicographic.{slice_cmp}
use Rattle.std.specs.declared.cmp.Ordering.TheVariants.{Less}
use Rattle.std.proofs.Common.{append_assoc}
use Rattle.std.proofs.lemmas.Bool.{false≢true}
use Rattle.std.proofs.lemmas.Cmp.{nat_list_cmp_total}
use Rattle.std.proofs.lemmas.Option.{same_Some}
use mathlib.Core.Path.{sym, ap, subst, ◌∙◌}
use mathlib.Core.Logic.{inl, inr}
use Rattle.ovn_base.specs.lists.Among.{Among, here, there}
use Rattle.ovn_base.specs.names.ByName.{at, IsByName}
use Rattle.ovn_base.specs.names.SameName.{bytes_decides, same_name}
use Rattle.ovn_base.specs.declared.name.Name.{Name}
use Rattle.ovn_base.proofs.AmongLaws.{among_cases, among_none, among_all, among_filter, filter_among, among_map, map_among}
use Rattle.ovn_base.proofs.ByNameLaws.{below_apart, among_at, at_among}
use Rattle.flow_table.specs.declared.flow.Flow.{Flow}
use Rattle.flow_table.specs.declared.flow.Member.{Member}
use Rattle.nb_records.specs.declared.switch.SwitchPort.{SwitchPort}
use Rattle.tunnel_keys.specs.Keys.{ports_on}
use Rattle.tunnel_keys.specs.declared.owner.PortKey.{PortKey}
use Rattle.tunnel_keys.proofs.Lists.{filter_sorted}
use Rattle.net_model.specs.Config.{Home, nowhere, on, everywhere, home_if, home_of, is_on}
use Rattle.net_model.specs.Targets.{members}
use Rattle.net_model.specs.declared.crossing.Group.{Group}
use Rattle.net_model.specs.declared.crossing.Group.TheVariants.{Flood, Unknown}
use Rattle.physical_flows.specs.Numbers.{port_number}
use Rattle.physical_flows.specs.RecordKeys.{HaveKeys}
use Rattle.physical_flows.specs.Homes.{is_reached_at, ArePortsNamed}
use Rattle.physical_flows.specs.Stages.{Basis, config_of, zone_of, member_of, members_here, homes_of}
use Rattle.physical_flows.specs.TableList.{group_rows, is_group_member, one_home, others_among}
use Rattle.physical_flows.specs.Units.{rows_of_group}
use Rattle.physical_flows.proofs.GroupMembers.{of_group, entries_in, members_entries, entry_on}

-- ---- groups, among ports of a switch with their keys

-- the record is one of the group
abbrev pub is_record_in : Group → Option SwitchPort → Bool
is_record_in group None = false
is_record_in group (Some port) = is_group_member group port

abbrev pub group_among : Basis → Group → List (Name × ℕ) → List (Name × ℕ)
group_among b group ports = filter (λ e. is_record_in group (at b.net.switch_ports e.0)) ports

-- the home of the port of that name
abbrev pub home_named : Basis → Name → Home
home_named b q = home_if (home_of (config_of b)) (at b.net.switch_ports q)

-- those that are reached on this chassis, as its flows know them
abbrev pub here_among : Basis → Bool → List (Name × ℕ) → List Member
here_among b arrived ports = map (λ e. record { key = e.1; zone = unwrap_or (zone_of b e.0) 0 }) (filter (λ e. is_reached_at arrived b.chassis (home_named b e.0)) ports)

-- the chassis on which they are at home
abbrev pub bound_among : Basis → List (Name × ℕ) → List Name
bound_among b ports = filter_map (λ e. one_home (home_named b e.0)) ports

-- the rows of a group that has these members
abbrev pub rows_among : Basis → ℕ → Group → List (Name × ℕ) → List Flow
rows_among b dp group members = group_rows dp group (others_among b (bound_among b members)) (here_among b false members) (here_among b true members)

-- ---- names in order

-- the names ascend
abbrev InOrder : List Name → Type 0
InOrder names = IsStrictlySortedBy (slice_cmp nat_cmp) names

both_below : (a c : Name) → slice_cmp nat_cmp a c ≡ Less → ¬ (slice_cmp nat_cmp c a ≡ Less)
both_below a c below above = below_apart a a (nat_list_cmp_total.trans a c a below above) refl

same_first : (a c : Name) (as' cs : List Name) → InOrder (a ∷ as') → InOrder (c ∷ cs) → Among a (c ∷ cs) → Among c (a ∷ as') → a ≡ c
unfolding IsStrictlySortedBy
same_first a c as' cs s t m n = elim (among_cases a c cs m) [
  | inl e ↦ e
  | inr later ↦ elim (among_cases c a as' n) [
    | inl e ↦ sym e
    | inr after ↦ absurd (both_below a c (among_all (λ y. slice_cmp nat_cmp a y ≡ Less) c as' s.0 after) (among_all (λ y. slice_cmp nat_cmp c y ≡ Less) a cs t.0 later))
  ]
]

-- what stands behind the first stands behind it there too
behind_too : (a c : Name) (as' cs : List Name) → a ≡ c → InOrder (a ∷ as') → (q : Name) → Among q as' → Among q (c ∷ cs) → Among q cs
unfolding IsStrictlySortedBy
behind_too a c as' cs same s q m n = elim (among_cases q c cs n) [
  | inl e ↦ absurd (below_apart a q (among_all (λ y. slice_cmp nat_cmp a y ≡ Less) q as' s.0 m) (e ∙ sym same))
  | inr later ↦ later
]

rest_in_order : (a : Name) (as' : List Name) → InOrder (a ∷ as') → InOrder as'
unfolding IsStrictlySortedBy
rest_in_order a as' s = s.1

-- two such lists with the same names are one
one_order : (as' cs : List Name) → InOrder as' → InOrder cs → ((q : Name) → Among q as' → Among q cs) → ((q : Name) → Among q cs → Among q as') → as' ≡ cs
one_order [] [] s t there_too here_too = refl
one_order [] (c ∷ cs) s t there_too here_too = absurd (among_none c (here_too c here))
one_order (a ∷ as') [] s t there_too here_too = absurd (among_none a (there_too a here))
one_order (a ∷ as') (c ∷ cs) s t there_too here_too =
    let same = same_first a c as' cs s t (there_too a here) (here_too c here) in
    let rest = one_order as' cs (rest_in_order a as' s) (rest_in_order c cs t)
    (λ q m. behind_too a c as' cs same s q m (there_too q (there m)))
    (λ q m. behind_too c a cs as' (sym same) t q m (here_too q (there m))) in
    λ i. same i ∷ rest i

-- ---- tests

both_true : (x y : Bool) → (x && y) ≡ true → (x ≡ true) × (y ≡ true)
both_true true y e = (refl, e)
both_true false y e = absurd (false≢true e)

true_both : (x y : Bool) → x ≡ true → y ≡ true → (x && y) ≡ true
true_both x y e f = ap (λ b. b && y) e ∙ f

module _ (b : Basis) (sorted : IsByName b.net.switch_ports) (named : ArePortsNamed b.net) (keys : HaveKeys b.net b.keys) (a : Name) where
  -- ---- the ports that have keys of the switch

  abbrev ports : List (Name × ℕ)
  ports = ports_on b.keys.ports a

  -- each has its key in the records
  port_on : (e : Name × ℕ) → Among e ports → (k : PortKey) × (at b.keys.ports e.0 ≡ Some k) × (k.datapath ≡ a) × (k.key ≡ e.1)
  port_on e m =
      let r = map_among (λ (k : Name × PortKey). (k.0, k.1.key)) e (filter (λ k. same_name a k.1.datapath) b.keys.ports) m in
      let f = filter_among (λ (k : Name × PortKey). same_name a k.1.datapath) r.0 b.keys.ports r.1 in
      let name : e.0 ≡ r.0.0 = ap (λ (p : Name × ℕ). p.0) r.2 in
      (r.0.1, ap (λ q. at b.keys.ports q) name ∙ among_at r.0.0 r.0.1 b.keys.ports keys.hold.ports_in_order f.0, sym ((bytes_decides a r.0.1.datapath).0 f.1), sym (ap (λ (p : Name × ℕ). p.1) r.2))

  on_ports : (q : Name) (k : PortKey) → at b.keys.ports q ≡ Some k → k.datapath ≡ a → Among (q, k.key) ports
  on_ports q k has under =
      among_map (λ (e : Name × PortKey). (e.0, e.1.key)) (q, k) (filter (λ e. same_name a e.1.datapath) b.keys.ports)
      (among_filter (λ (e : Name × PortKey). same_name a e.1.datapath) (q, k) b.keys.ports (at_among b.keys.ports q k has) ((bytes_decides a k.datapath).1 (sym under)))

  -- a record of its name is one of the switch
  switch_is : (e : Name × ℕ) → Among e ports → (port : SwitchPort) → at b.net.switch_ports e.0 ≡ Some port → port.switch ≡ a
  switch_is e m port is =
      let k = port_on e m in
      let own = keys.port_has e.0 port is in
      sym own.3 ∙ ap (λ (p : PortKey). p.datapath) (same_Some own.0 k.0 (sym own.1 ∙ k.1)) ∙ k.2

  number_is : (e : Name × ℕ) → Among e ports → port_number b.keys e.0 ≡ Some e.1
  number_is e m = let k = port_on e m in ap (λ (o : Option PortKey). option_map (λ p. p.key) o) k.1 ∙ ap (λ n. Some n) k.3

  names_kept : (es : List (Name × PortKey)) → keys_of (map (λ e. (e.0, e.1.key)) es) ≡ keys_of es
  names_kept [] = refl
  names_kept (e ∷ es) = ap (λ ns. e.0 ∷ ns) (names_kept es)

  ports_sorted : IsByName ports
  ports_sorted = subst InOrder (sym (names_kept (filter (λ e. same_name a e.1.datapath) b.keys.ports))) (filter_sorted (λ e. same_name a e.1.datapath) b.keys.ports keys.hold.ports_in_order)

  -- ---- the members of a group

  module _ (group : Group) where
    abbrev entries : List (Name × SwitchPort)
    entries = entries_in b.net a group

    abbrev found : List (Name × ℕ)
    found = group_among b group ports

    -- the record of one that was found
    found_record : (e : Name × ℕ) → is_record_in group (at b.net.switch_ports e.0) ≡ true → (port : SwitchPort) × (at b.net.switch_ports e.0 ≡ Some port) × (is_group_member group port ≡ true)
    found_record e passes = by (at b.net.switch_ports e.0) refl passes
      where
        by : (o : Option SwitchPort) → at b.net.switch_ports e.0 ≡ o → is_record_in group o ≡ true → (port : SwitchPort) × (at b.net.switch_ports e.0 ≡ Some port) × (is_group_member group port ≡ true)
        by None is passes = absurd (false≢true passes)
        by (Some port) is passes = (port, is, passes)

    member_found : (q : Name) → Among q (keys_of entries) → Among q (keys_of found)
    member_found q m =
        let r = map_among (λ (e : Name × SwitchPort). e.0) q entries m in
        let f = filter_among (of_group a group) r.0 b.net.switch_ports r.1 in
        let there_is : at b.net.switch_ports r.0.0 ≡ Some r.0.1 = among_at r.0.0 r.0.1 b.net.switch_ports sorted f.0 in
        let both = both_true (same_name r.0.1.switch a) (is_group_member group r.0.1) f.1 in
        let own = keys.port_has r.0.0 r.0.1 there_is in
        let listed = on_ports r.0.0 own.0 own.1 (own.3 ∙ (bytes_decides r.0.1.switch a).0 both.0) in
        let kept = among_filter (λ (e : Name × ℕ). is_record_in group (at b.net.switch_ports e.0)) (r.0.0, own.0.key) ports listed (ap (λ o. is_record_in group o) there_is ∙ both.1) in
        subst (λ n. Among n (keys_of found)) (sym r.2) (among_map (λ (e : Name × ℕ). e.0) (r.0.0, own.0.key) found kept)

    found_member : (q : Name) → Among q (keys_of found) → Among q (keys_of entries)
    found_member q m =
        let r = map_among (λ (e : Name × ℕ). e.0) q found m in
        let f = filter_among (λ (e : Name × ℕ). is_record_in group (at b.net.switch_ports e.0)) r.0 ports r.1 in
        let port = found_record r.0 f.1 in
        let both = true_both (same_name port.0.switch a) (is_group_member group port.0) ((bytes_decides port.0.switch a).1 (switch_is r.0 f.0 port.0 port.1)) port.2 in
        let kept = among_filter (of_group a group) (r.0.0, port.0) b.net.switch_ports (at_among b.net.switch_ports r.0.0 port.0 port.1) both in
        subst (λ n. Among n (keys_of entries)) (sym r.2) (among_map (λ (e : Name × SwitchPort). e.0) (r.0.0, port.0) entries kept)

    -- the names of the members are those that are found
    names_are : keys_of entries ≡ keys_of found
    names_are =
        one_order (keys_of entries) (keys_of found) (filter_sorted (of_group a group) b.net.switch_ports sorted)
        (filter_sorted (λ e. is_record_in group (at b.net.switch_ports e.0)) ports ports_sorted) member_found found_member

    -- the home of a member, by its name
    home_is : (e : Name × SwitchPort) → Among e entries → home_of (config_of b) e.1 ≡ home_named b e.0
    home_is e m = ap (λ o. home_if (home_of (config_of b)) o) (sym (entry_on b.net sorted named a group e m).0)

    -- ---- those that are reached here

    module _ (arrived : Bool) where
      abbrev reached_port : SwitchPort → Bool
      reached_port q = is_reached_at arrived b.chassis (home_of (config_of b) q)

      abbrev reached_name : Name → Bool
      reached_name q = is_reached_at arrived b.chassis (home_named b q)

      -- by their records, and by their names
      by_names : (es : List (Name × SwitchPort)) → ((e : Name × SwitchPort) → Among e es → Among e entries)
          → map (λ (q : SwitchPort). member_of b q.name) (filter reached_port (values_of es)) ≡ map (λ q. member_of b q) (filter reached_name (keys_of es))
      by_names [] each = refl
      by_names (e ∷ es) each =
          ap (λ t. map (λ (q : SwitchPort). member_of b q.name) (cond t (e.1 ∷ filter reached_port (values_of es)) (filter reached_port (values_of es)))) (ap (λ h. is_reached_at arrived b.chassis h) (home_is e (each e here)))
          ∙ by (reached_name e.0) (by_names es (λ f m. each f (there m)))
        where
          name_is : e.1.name ≡ e.0
          name_is = (entry_on b.net sorted named a group e (each e here)).1

          by : (t : Bool) → map (λ (q : SwitchPort). member_of b q.name) (filter reached_port (values_of es)) ≡ map (λ q. member_of b q) (filter reached_name (keys_of es))
              → map (λ (q : SwitchPort). member_of b q.name) (cond t (e.1 ∷ filter reached_port (values_of es)) (filter reached_port (values_of es)))
              ≡ map (λ q. member_of b q) (cond t (e.0 ∷ filter reached_name (keys_of es)) (filter reached_name (keys_of es)))
          by true rest = λ i. member_of b (name_is i) ∷ rest i
          by false rest = rest

      -- as the flows of a chassis know them
      here_same : (es : List (Name × ℕ)) → ((e : Name × ℕ) → Among e es → port_number b.keys e.0 ≡ Some e.1) → map (λ q. member_of b q) (filter reached_name (keys_of es)) ≡ here_among b arrived es
      here_same [] numbers = refl
      here_same (e ∷ es) numbers = by (reached_name e.0) (here_same es (λ f m. numbers f (there m)))
        where
          number : member_of b e.0 ≡ record { key = e.1; zone = unwrap_or (zone_of b e.0) 0 }
          number = ap (λ o. record { key = unwrap_or o 0; zone = unwrap_or (zone_of b e.0) 0 }) (numbers e here)

          by : (t : Bool) → map (λ q. member_of b q) (filter reached_name (keys_of es)) ≡ here_among b arrived es
              → map (λ q. member_of b q) (cond t (e.0 ∷ filter reached_name (keys_of es)) (filter reached_name (keys_of es)))
              ≡ map (λ f. record { key = f.1; zone = unwrap_or (zone_of b f.0) 0 }) (cond t (e ∷ filter (λ f. reached_name f.0) es) (filter (λ f. reached_name f.0) es))
          by true rest = λ i. number i ∷ rest i
          by false rest = rest

      here_are : members_here b a group arrived ≡ here_among b arrived found
      here_are =
          ap (λ (ms : List SwitchPort). map (λ q. member_of b q.name) (filter reached_port ms)) (members_entries b.net a group)
          ∙ by_names entries (λ e m. m)
          ∙ ap (λ ns. map (λ q. member_of b q) (filter reached_name ns)) names_are
          ∙ here_same found (λ e m. number_is e (filter_among (λ (f : Name × ℕ). is_record_in group (at b.net.switch_ports f.0)) e ports m).0)

    -- ---- and their homes

    any_named : (c : Name) (es : List (Name × SwitchPort)) → ((e : Name × SwitchPort) → Among e es → Among e entries)
        → list_any (λ q. is_on c (home_of (config_of b) q)) (values_of es) ≡ list_any (λ q. is_on c (home_named b q)) (keys_of es)
    any_named c [] each = refl
    any_named c (e ∷ es) each =
        let first = home_is e (each e here) in
        let rest = any_named c es (λ f m. each f (there m)) in
        λ i. is_on c (first i) || rest i

    bound_same : (c : Name) (es : List (Name × ℕ)) → list_any (λ q. is_on c (home_named b q)) (keys_of es) ≡ list_any (λ home. same_name home c) (bound_among b es)
    bound_same c [] = refl
    bound_same c (e ∷ es) = by (home_named b e.0) (bound_same c es)
      where
        by : (h : Home) → list_any (λ q. is_on c (home_named b q)) (keys_of es) ≡ list_any (λ home. same_name home c) (bound_among b es)
            → (is_on c h || list_any (λ q. is_on c (home_named b q)) (keys_of es)) ≡ list_any (λ home. same_name home c) (cons_option (one_home h) (bound_among b es))
        by nowhere rest = rest
        by (on home) rest = ap (λ t. same_name home c || t) rest
        by everywhere rest = rest

    bound_are : (c : Name) → list_any (λ q. is_on c (home_of (config_of b) q)) (members b.net a group) ≡ list_any (λ home. same_name home c) (bound_among b found)
    bound_are c =
        ap (λ ms. list_any (λ q. is_on c (home_of (config_of b) q)) ms) (members_entries b.net a group)
        ∙ any_named c entries (λ e m. m)
        ∙ ap (λ ns. list_any (λ q. is_on c (home_named b q)) ns) names_are
        ∙ bound_same c found

    homes_are : homes_of b a group ≡ others_among b (bound_among b found)
    homes_are = λ i. filter (λ c. not (same_name c b.chassis) && bound_are c i) b.all

  module _ (dp : ℕ) (all : List (Name × ℕ)) (flows : List Flow) (is_all : all ≡ ports) where
    -- the rows that the compiler adds for the switch's groups
    group_is : (group : Group) → rows_among b dp group (group_among b group all) ≡ rows_of_group b a dp group
    group_is group = ap (λ es. rows_among b dp group (group_among b group es)) is_all ∙ (λ i. group_rows dp group (sym (homes_are group) i) (sym (here_are group false) i) (sym (here_are group true) i))

    pub groups_are : (flows ++ rows_among b dp Flood (group_among b Flood all)) ++ rows_among b dp Unknown (group_among b Unknown all) ≡ flows ++ (rows_of_group b a dp Flood ++ rows_of_group b a dp Unknown)
    groups_are = (λ i. (flows ++ group_is Flood i) ++ group_is Unknown i) ∙ append_assoc flows (rows_of_group b a dp Flood) (rows_of_group b a dp Unknown)
