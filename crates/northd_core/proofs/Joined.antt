-- Units that join others, one after another.
use Rattle.std.specs.Prelude.{◌≡◌, ◌++◌, ◌⊎◌, ◌↔◌, Bool, true, false, cond, List, [], ◌∷◌, map, flat_map, filter}
use Rattle.std.specs.BTreeSet.{insert_key}
use Rattle.std.specs.Map.{keys_of}
use Rattle.std.proofs.Common.{refl, sym, ap, ◌∙◌, subst, inl, inr}
use Rattle.std.proofs.lemmas.List.{append_assoc}
use Rattle.std.proofs.lemmas.Map.Lookups.{CmpEqualImpliesEq}
use Rattle.ovn_base.proofs.AmongLaws.{among_append, among_cases, among_flat_map, flat_map_among, among_left, among_map, among_none, among_right, among_same, map_among}
use Rattle.ovn_base.specs.declared.name.Name.{Name}
use Rattle.ovn_base.specs.lists.Among.{Among}
use Rattle.tunnel_keys.proofs.KeyOrder.{inserted}
use Rattle.logical_flows.specs.declared.unit.UnitId.{UnitId}
use Rattle.logical_flows.specs.declared.unit.UnitId.TheVariants as unit
use Rattle.nb_records.specs.Network.{Network}
use Rattle.nb_records.specs.Switches.{applies, serves_at}
use Rattle.nb_records.specs.declared.balancer.LoadBalancer.{LoadBalancer}
use Rattle.nb_records.specs.declared.rule.Acl.{Acl}
use Rattle.stage_rows.specs.Units.{units_of, port_units, rule_units, neighbour_units, balancer_units}
use Rattle.northd_core.specs.Held.{unit_order}
use Rattle.northd_core.specs.Listing.{HaveJoined}
use Rattle.northd_core.specs.Routed.{routed_units, served_units}

-- ---- many units

-- where the units that are left join, those have joined that were there at first and that were to come
abbrev pub IsJoining : (start all now left : List UnitId) → Type 0
IsJoining start all now left = (u : UnitId) → (Among u now ⊎ Among u left) ↔ (Among u start ⊎ Among u all)

-- some of those that are left join
pub some_join : (start all now next these left : List UnitId) → HaveJoined these now next → IsJoining start all now (these ++ left) → IsJoining start all next left
some_join start all now next these left joined joining u = (
  λ h. elim h [
    | inl m ↦ elim ((joined u).0 m) [ inl old ↦ (joining u).0 (inl old) | inr new ↦ (joining u).0 (inr (among_left u these left new)) ]
    | inr later ↦ (joining u).0 (inr (among_right u these left later))
  ],
  λ h. elim ((joining u).1 h) [
    | inl m ↦ inl ((joined u).1 (inl m))
    | inr n ↦ elim (among_append u these left n) [ inl m ↦ inl ((joined u).1 (inr m)) | inr later ↦ inr later ]
  ],
)

-- one joins
pub one_joins : CmpEqualImpliesEq unit_order → (now next : List UnitId) (k : UnitId) → next ≡ insert_key unit_order now k → HaveJoined (k ∷ []) now next
one_joins exact now next k made u =
    let into = inserted unit_order exact now k u in (
      λ m. elim (into.0 (subst (λ us. Among u us) made m)) [ inl is ↦ inr (among_same u k [] is) | inr old ↦ inl old ],
      λ h. elim h [
        | inl old ↦ subst (λ us. Among u us) (sym made) (into.1 (inr old))
        | inr n ↦ elim (among_cases u k [] n) [ inl is ↦ subst (λ us. Among u us) (sym made) (into.1 (inl is)) | inr none ↦ absurd (among_none u none) ]
      ],
    )

-- the rule on those of the switches to which it applies
abbrev pub rule_on_each : Network → Name → Acl → List Name → List UnitId
rule_on_each net name rule switches = map (unit.Rule name) (filter (λ d. applies net d rule) switches)

-- the first of the switches, to which the rule applies or doesn't
pub applying : (net : Network) (name : Name) (rule : Acl) (d : Name) (ds : List Name) → applies net d rule ≡ true → rule_on_each net name rule (d ∷ ds) ≡ unit.Rule name d ∷ rule_on_each net name rule ds
applying net name rule d ds on = ap (λ b. map (unit.Rule name) (cond b (d ∷ filter (λ d. applies net d rule) ds) (filter (λ d. applies net d rule) ds))) on

pub not_applying : (net : Network) (name : Name) (rule : Acl) (d : Name) (ds : List Name) → applies net d rule ≡ false → rule_on_each net name rule (d ∷ ds) ≡ rule_on_each net name rule ds
not_applying net name rule d ds off = ap (λ b. map (unit.Rule name) (cond b (d ∷ filter (λ d. applies net d rule) ds) (filter (λ d. applies net d rule) ds))) off

-- those of one list have joined, and then those of another
pub both_join : (these those before between after : List UnitId) → HaveJoined these before between → HaveJoined those between after → HaveJoined (these ++ those) before after
both_join these those before between after one two u = (
  λ m. elim ((two u).0 m) [
    | inr late ↦ inr (among_right u these those late)
    | inl m ↦ elim ((one u).0 m) [ inr early ↦ inr (among_left u these those early) | inl old ↦ inl old ]
  ],
  λ h. elim h [
    | inl old ↦ (two u).1 (inl ((one u).1 (inl old)))
    | inr m ↦ elim (among_append u these those m) [ inl early ↦ (two u).1 (inl ((one u).1 (inr early))) | inr late ↦ (two u).1 (inr late) ]
  ],
)

-- so have those of a list with the same members
pub alike_join : (these those before after : List UnitId) → ((u : UnitId) → Among u these → Among u those) → ((u : UnitId) → Among u those → Among u these) → HaveJoined these before after → HaveJoined those before after
alike_join these those before after to from joined u = (
  λ m. elim ((joined u).0 m) [ inl old ↦ inl old | inr new ↦ inr (to u new) ],
  λ h. (joined u).1 (elim h [ inl old ↦ inl old | inr new ↦ inr (from u new) ]),
)

-- nobody joins
pub none_join : (units : List UnitId) → HaveJoined [] units units
none_join units u = (λ m. inl m, λ h. elim h [ inl old ↦ old | inr none ↦ absurd (among_none u none) ])

-- those behind a list have joined it
pub behind_join : (these before after : List UnitId) → after ≡ before ++ these → HaveJoined these before after
behind_join these before after is u = (
  λ m. among_append u before these (subst (λ us. Among u us) is m),
  λ h. subst (λ us. Among u us) (sym is) (elim h [ inl old ↦ among_left u before these old | inr new ↦ among_right u before these new ]),
)

-- so have those of a set, which joined it where nobody was
pub set_behind : (these set before after : List UnitId) → HaveJoined these [] set → after ≡ before ++ set → HaveJoined these before after
set_behind these set before after joined is =
    alike_join set these before after (λ u m. elim ((joined u).0 m) [ inl none ↦ absurd (among_none u none) | inr new ↦ new ]) (λ u m. (joined u).1 (inr m)) (behind_join set before after is)

-- who is there after two lists have joined
pub joined_to : (start these those between after : List UnitId) → HaveJoined these start between → HaveJoined those between after → (u : UnitId) → Among u after ↔ Among u ((start ++ these) ++ those)
joined_to start these those between after one two u = (
  λ m. elim ((two u).0 m) [
    | inr late ↦ among_right u (start ++ these) those late
    | inl m ↦ among_left u (start ++ these) those (elim ((one u).0 m) [ inl old ↦ among_left u start these old | inr early ↦ among_right u start these early ])
  ],
  λ m. (two u).1 (elim (among_append u (start ++ these) those m) [
    | inr late ↦ inr late
    | inl n ↦ inl ((one u).1 (elim (among_append u start these n) [ inl old ↦ inl old | inr early ↦ inr early ]))
  ]),
)

-- lists of the same members have the same among what they have
pub same_members : {X : Type 0} (f : X → List UnitId) (xs ys : List X) → ((x : X) → Among x xs → Among x ys) → (u : UnitId) → Among u (flat_map f xs) → Among u (flat_map f ys)
same_members f xs ys h u m = let r = flat_map_among f u xs m in among_flat_map f r.0 u ys (h r.0 r.1) r.2

-- ---- balancers

-- a balancer on those of the datapaths that it serves: the first of them it serves or doesn't
pub serving : (name : Name) (b : LoadBalancer) (d : Name) (ds : List Name) → serves_at d b ≡ true → served_units name b (d ∷ ds) ≡ unit.Balancer name d ∷ served_units name b ds
serving name b d ds on = ap (λ t. map (unit.Balancer name) (cond t (d ∷ filter (λ d. serves_at d b) ds) (filter (λ d. serves_at d b) ds))) on

pub not_serving : (name : Name) (b : LoadBalancer) (d : Name) (ds : List Name) → serves_at d b ≡ false → served_units name b (d ∷ ds) ≡ served_units name b ds
not_serving name b d ds off = ap (λ t. map (unit.Balancer name) (cond t (d ∷ filter (λ d. serves_at d b) ds) (filter (λ d. serves_at d b) ds))) off

-- on two lists together
pub served_both : (name : Name) (b : LoadBalancer) (ds es : List Name) → served_units name b (ds ++ es) ≡ served_units name b ds ++ served_units name b es
served_both name b [] es = refl
served_both name b (d ∷ ds) es = by (serves_at d b) (served_both name b ds es)
  where
    by : (t : Bool) → served_units name b (ds ++ es) ≡ served_units name b ds ++ served_units name b es
        → map (unit.Balancer name) (cond t (d ∷ filter (λ d. serves_at d b) (ds ++ es)) (filter (λ d. serves_at d b) (ds ++ es)))
        ≡ map (unit.Balancer name) (cond t (d ∷ filter (λ d. serves_at d b) ds) (filter (λ d. serves_at d b) ds)) ++ served_units name b es
    by true rest = ap (λ us. unit.Balancer name d ∷ us) rest
    by false rest = rest

-- ---- all units

module _ (net : Network) (u : UnitId) where
  -- a unit of the network is a port of a switch, a rule or a switch, or one of those that routers and balancers have
  pub kinds : Among u (units_of net) → Among u (((map unit.Port (keys_of net.switch_ports) ++ rule_units net) ++ map unit.Switch (keys_of net.switches)) ++ routed_units net)
  kinds m = elim (among_append u _ (map unit.Router (keys_of net.routers)) m) [
    | inr x ↦ routed (among_right u _ _ x)
    | inl m ↦ elim (among_append u _ (map unit.Switch (keys_of net.switches)) m) [
      | inr x ↦ among_left u _ _ (among_right u _ _ x)
      | inl m ↦ elim (among_append u _ (balancer_units net) m) [
        | inr x ↦ routed (among_left u _ _ (among_right u _ _ x))
        | inl m ↦ elim (among_append u _ (map unit.Nat (keys_of net.nats)) m) [
          | inr x ↦ routed (among_left u _ _ (among_left u _ _ (among_right u _ _ x)))
          | inl m ↦ elim (among_append u _ (neighbour_units net) m) [
            | inr x ↦ routed (among_left u _ _ (among_left u _ _ (among_left u _ _ (among_right u _ _ x))))
            | inl m ↦ elim (among_append u _ (map unit.Route (keys_of net.routes)) m) [
              | inr x ↦ routed (among_left u _ _ (among_left u _ _ (among_left u _ _ (among_left u _ _ (among_right u _ _ x)))))
              | inl m ↦ elim (among_append u (port_units net) (rule_units net) m) [
                | inr x ↦ among_left u _ _ (among_left u _ _ (among_right u _ _ x))
                | inl x ↦ (
                    let q = map_among unit.Port u (keys_of net.switch_ports ++ keys_of net.router_ports) x in
                    elim (among_append q.0 (keys_of net.switch_ports) (keys_of net.router_ports) q.1) [
                      | inl n ↦ among_left u _ _ (among_left u _ _ (among_left u _ _ (port_named q.0 q.2 (keys_of net.switch_ports) n)))
                      | inr n ↦ routed (among_left u _ _ (among_left u _ _ (among_left u _ _ (among_left u _ _ (among_left u _ _ (port_named q.0 q.2 (keys_of net.router_ports) n))))))
                    ])
              ]
            ]
          ]
        ]
      ]
    ]
  ]
    where
      routed : Among u (routed_units net) → Among u (((map unit.Port (keys_of net.switch_ports) ++ rule_units net) ++ map unit.Switch (keys_of net.switches)) ++ routed_units net)
      routed x = among_right u ((map unit.Port (keys_of net.switch_ports) ++ rule_units net) ++ map unit.Switch (keys_of net.switches)) (routed_units net) x

      port_named : (q : Name) → u ≡ unit.Port q → (names : List Name) → Among q names → Among u (map unit.Port names)
      port_named q is names n = subst (λ v. Among v (map unit.Port names)) (sym is) (among_map unit.Port q names n)

  -- and each of these is a unit of the network
  port_there : (names : List Name) → ((q : Name) → Among q names → Among q (keys_of net.switch_ports ++ keys_of net.router_ports)) → Among u (map unit.Port names) → Among u (units_of net)
  port_there names listed m =
      let q = map_among unit.Port u names m in
      let mine : Among u (port_units net) = subst (λ v. Among v (port_units net)) (sym q.2) (among_map unit.Port q.0 (keys_of net.switch_ports ++ keys_of net.router_ports) (listed q.0 q.1)) in
      among_left u _ _ (among_left u _ _ (among_left u _ _ (among_left u _ _ (among_left u _ _ (among_left u _ _ (among_left u _ _ mine))))))

  rule_there : Among u (rule_units net) → Among u (units_of net)
  rule_there m = among_left u _ _ (among_left u _ _ (among_left u _ _ (among_left u _ _ (among_left u _ _ (among_left u _ _ (among_right u _ _ m))))))

  switch_there : Among u (map unit.Switch (keys_of net.switches)) → Among u (units_of net)
  switch_there m = among_left u _ _ (among_right u _ _ m)

  pub routed_there : Among u (routed_units net) → Among u (units_of net)
  routed_there m = elim (among_append u _ (map unit.Router (keys_of net.routers)) m) [
    | inr x ↦ among_right u _ _ x
    | inl m ↦ elim (among_append u _ (balancer_units net) m) [
      | inr x ↦ among_left u _ _ (among_left u _ _ (among_right u _ _ x))
      | inl m ↦ elim (among_append u _ (map unit.Nat (keys_of net.nats)) m) [
        | inr x ↦ among_left u _ _ (among_left u _ _ (among_left u _ _ (among_right u _ _ x)))
        | inl m ↦ elim (among_append u _ (neighbour_units net) m) [
          | inr x ↦ among_left u _ _ (among_left u _ _ (among_left u _ _ (among_left u _ _ (among_right u _ _ x))))
          | inl m ↦ elim (among_append u (map unit.Port (keys_of net.router_ports)) (map unit.Route (keys_of net.routes)) m) [
            | inr x ↦ among_left u _ _ (among_left u _ _ (among_left u _ _ (among_left u _ _ (among_left u _ _ (among_right u _ _ x)))))
            | inl x ↦ port_there (keys_of net.router_ports) (λ q n. among_right q (keys_of net.switch_ports) (keys_of net.router_ports) n) x
          ]
        ]
      ]
    ]
  ]

  all_there : Among u (((map unit.Port (keys_of net.switch_ports) ++ rule_units net) ++ map unit.Switch (keys_of net.switches)) ++ routed_units net) → Among u (units_of net)
  all_there m = elim (among_append u _ (routed_units net) m) [
    | inr x ↦ routed_there x
    | inl m ↦ elim (among_append u _ (map unit.Switch (keys_of net.switches)) m) [
      | inr x ↦ switch_there x
      | inl m ↦ elim (among_append u (map unit.Port (keys_of net.switch_ports)) (rule_units net) m) [
        | inr x ↦ rule_there x
        | inl x ↦ port_there (keys_of net.switch_ports) (λ q n. among_left q (keys_of net.switch_ports) (keys_of net.router_ports) n) x
      ]
    ]
  ]

-- where ports, rules, switches and what routers and balancers have have joined, all units have
pub units_joined : (net : Network) (start ports rules switches all : List UnitId) → HaveJoined (map unit.Port (keys_of net.switch_ports)) start ports → HaveJoined (rule_units net) ports rules
    → HaveJoined (map unit.Switch (keys_of net.switches)) rules switches → HaveJoined (routed_units net) switches all → HaveJoined (units_of net) start all
units_joined net start ports rules switches all one two three four =
    let ps = map unit.Port (keys_of net.switch_ports) in
    let ss = map unit.Switch (keys_of net.switches) in
    alike_join (((ps ++ rule_units net) ++ ss) ++ routed_units net) (units_of net) start all (all_there net) (kinds net)
    (both_join ((ps ++ rule_units net) ++ ss) (routed_units net) start switches all
    (both_join (ps ++ rule_units net) ss start rules switches (both_join ps (rule_units net) start ports rules one two) three) four)

-- ---- lists

-- one more of those that are left
pub one_more : {X : Type 0} (done : List X) (x : X) (left all : List X) → done ++ x ∷ left ≡ all → (done ++ x ∷ []) ++ left ≡ all
one_more done x left all h = append_assoc done (x ∷ []) left ∙ h

-- the lists of what is left, once those of one more are made
pub one_more_list : {X Y : Type 0} (lists : X → List Y) (made now : List Y) (x : X) (rest left : List X) (all : List Y) → now ≡ made ++ lists x → left ≡ x ∷ rest → made ++ flat_map lists left ≡ all → now ++ flat_map lists rest ≡ all
one_more_list lists made now x rest left all is first h = ap (λ ys. ys ++ flat_map lists rest) is ∙ append_assoc made (lists x) (flat_map lists rest) ∙ ap (λ xs. made ++ flat_map lists xs) (sym first) ∙ h
