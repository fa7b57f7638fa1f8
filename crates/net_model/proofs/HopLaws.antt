-- The best of legs, and legs as ways by names.
use Rattle.std.specs.Prelude.{◌≡◌, ◌==◌, ◌&&◌, ◌||◌, ◌++◌, nat_lt, ℕ, Bool, true, false, not, List, [], ◌∷◌, map, flat_map, Option, Some, None, option_map, cond, refl}
use Rattle.std.proofs.Common.{sym, ap, ◌∙◌, arith}
use Rattle.std.proofs.lemmas.Bool.Decides.{nat_tests}
use Rattle.std.specs.List.{filter, filter_map, cons_option}
use Rattle.std.specs.Map.{values_of}
use Rattle.nb_records.specs.Network.{Network}
use Rattle.nb_records.specs.Routers.{contains}
use Rattle.nb_records.specs.Ways.{best_of, best_by, Way, is_better_way, ways_of_port, network_ways, by_route, route_way, routes_of}
use Rattle.nb_records.specs.declared.router.Route.{Route}
use Rattle.nb_records.specs.declared.router.RouterPort.{RouterPort}
use Rattle.ovn_base.specs.declared.address.Cidr.{Cidr}
use Rattle.ovn_base.specs.declared.address.Ip4.{Ip4}
use Rattle.ovn_base.specs.declared.name.Name.{Name}
use Rattle.ovn_base.specs.names.SameName.{same_name}
use Rattle.net_model.specs.Hops.{hop_of, hop_on, is_better_leg, best_leg, or_better, leg_over, legs_over, port_legs, network_legs, leg_by, leg_through, route_leg, route_legs}
use Rattle.net_model.specs.declared.hops.Hop.{Hop}
use Rattle.net_model.specs.declared.hops.Leg.{Leg}

-- ---- the order

better_by : (l m n : ℕ) (a b c : Bool) → (nat_lt m l || ((l == m) && (a && not b))) ≡ true → (nat_lt n m || ((m == n) && (b && not c))) ≡ true → (nat_lt n l || ((l == n) && (a && not c))) ≡ true
better_by l m n a b c h k = grind (arith, nat_tests)

not_better_by : (l m n : ℕ) (a b c : Bool) → (nat_lt m l || ((l == m) && (a && not b))) ≡ false → (nat_lt n m || ((m == n) && (b && not c))) ≡ false → (nat_lt n l || ((l == n) && (a && not c))) ≡ false
not_better_by l m n a b c h k = grind (arith, nat_tests)

-- ---- the best of several

better_three : (x y z : Leg) (p q : Bool) → is_better_leg z y ≡ p → is_better_leg y x ≡ q
    → cond (is_better_leg (cond p z y) x) (cond p z y) x ≡ cond (is_better_leg z (cond q y x)) z (cond q y x)
better_three x y z true true e f = ap (λ (b : Bool). cond b z x) (better_by z.length y.length x.length z.is_network y.is_network x.is_network e f) ∙ sym (ap (λ (b : Bool). cond b z y) e)
better_three x y z true false e f = refl
better_three x y z false true e f = ap (λ (b : Bool). cond b y x) f ∙ sym (ap (λ (b : Bool). cond b z y) e)
better_three x y z false false e f = ap (λ (b : Bool). cond b y x) f ∙ sym (ap (λ (b : Bool). cond b z x) (not_better_by z.length y.length x.length z.is_network y.is_network x.is_network e f))

pub better_assoc : (a b c : Option Leg) → or_better a (or_better b c) ≡ or_better (or_better a b) c
better_assoc None b c = refl
better_assoc (Some x) None c = refl
better_assoc (Some x) (Some y) None = refl
better_assoc (Some x) (Some y) (Some z) = ap (λ (leg : Leg). Some leg) (better_three x y z (is_better_leg z y) (is_better_leg y x) refl refl)

pub best_append : (xs ys : List Leg) → best_leg (xs ++ ys) ≡ or_better (best_leg xs) (best_leg ys)
best_append [] ys = refl
best_append (x ∷ xs) ys = ap (or_better (Some x)) (best_append xs ys) ∙ better_assoc (Some x) (best_leg xs) (best_leg ys)

none_after : (o : Option Leg) → or_better o None ≡ o
none_after None = refl
none_after (Some leg) = refl

best_cons : (o : Option Leg) (legs : List Leg) → best_leg (cons_option o legs) ≡ or_better o (best_leg legs)
best_cons None legs = refl
best_cons (Some leg) legs = refl

-- ---- one more

-- the best so far, the next legs, and those behind them
after_more : (best more : Option Leg) (rest : List Leg) (all : Option Leg) → all ≡ or_better more (best_leg rest) → or_better (or_better best more) (best_leg rest) ≡ or_better best all
after_more best more rest all e = sym (better_assoc best more (best_leg rest)) ∙ ap (or_better best) (sym e)

over_cond : (port : Name) (dst : Ip4) (n : Cidr) (ns : List Cidr) (b : Bool) → contains n dst ≡ b → best_leg (legs_over port dst (n ∷ ns)) ≡ best_leg (map (leg_over port dst) (cond b (n ∷ filter (λ m. contains m dst) ns) (filter (λ m. contains m dst) ns)))
over_cond port dst n ns b e = ap (λ (c : Bool). best_leg (map (leg_over port dst) (cond c (n ∷ filter (λ m. contains m dst) ns) (filter (λ m. contains m dst) ns)))) e

pub over_more : (port : Name) (dst : Ip4) (n : Cidr) (ns : List Cidr) (best : Option Leg) → contains n dst ≡ true
    → or_better (or_better best (Some (leg_over port dst n))) (best_leg (legs_over port dst ns)) ≡ or_better best (best_leg (legs_over port dst (n ∷ ns)))
over_more port dst n ns best h = after_more best (Some (leg_over port dst n)) (legs_over port dst ns) (best_leg (legs_over port dst (n ∷ ns))) (over_cond port dst n ns true h)

pub over_same : (port : Name) (dst : Ip4) (n : Cidr) (ns : List Cidr) (best : Option Leg) → contains n dst ≡ false
    → or_better best (best_leg (legs_over port dst ns)) ≡ or_better best (best_leg (legs_over port dst (n ∷ ns)))
over_same port dst n ns best h = ap (or_better best) (sym (over_cond port dst n ns false h))

ports_cond : (router : Name) (dst : Ip4) (e : Name × RouterPort) (es : List (Name × RouterPort)) (b : Bool) → same_name e.1.router router ≡ b
    → best_leg (network_legs (e ∷ es) router dst) ≡ or_better (best_leg (cond b (legs_over e.1.name dst e.1.networks) [])) (best_leg (network_legs es router dst))
ports_cond router dst e es b h =
    best_append (port_legs router dst e) (network_legs es router dst)
    ∙ ap (λ (c : Bool). or_better (best_leg (cond c (legs_over e.1.name dst e.1.networks) [])) (best_leg (network_legs es router dst))) h

pub ports_more : (router : Name) (dst : Ip4) (e : Name × RouterPort) (es : List (Name × RouterPort)) (best : Option Leg) → same_name e.1.router router ≡ true
    → or_better (or_better best (best_leg (legs_over e.1.name dst e.1.networks))) (best_leg (network_legs es router dst)) ≡ or_better best (best_leg (network_legs (e ∷ es) router dst))
ports_more router dst e es best h = after_more best (best_leg (legs_over e.1.name dst e.1.networks)) (network_legs es router dst) (best_leg (network_legs (e ∷ es) router dst)) (ports_cond router dst e es true h)

pub ports_same : (router : Name) (dst : Ip4) (e : Name × RouterPort) (es : List (Name × RouterPort)) (best : Option Leg) → same_name e.1.router router ≡ false
    → or_better best (best_leg (network_legs es router dst)) ≡ or_better best (best_leg (network_legs (e ∷ es) router dst))
ports_same router dst e es best h = ap (or_better best) (sym (ports_cond router dst e es false h))

routes_cond : (net : Network) (router : Name) (dst : Ip4) (e : Name × Route) (es : List (Name × Route)) (b : Bool) → (same_name e.1.router router && contains e.1.prefix dst) ≡ b
    → best_leg (route_legs net router dst (e ∷ es)) ≡ or_better (cond b (leg_through net.router_ports e.1) None) (best_leg (route_legs net router dst es))
routes_cond net router dst e es b h =
    best_cons (route_leg net.router_ports router dst e) (route_legs net router dst es)
    ∙ ap (λ (c : Bool). or_better (cond c (leg_through net.router_ports e.1) None) (best_leg (route_legs net router dst es))) h

pub routes_more : (net : Network) (router : Name) (dst : Ip4) (e : Name × Route) (es : List (Name × Route)) (best : Option Leg) → (same_name e.1.router router && contains e.1.prefix dst) ≡ true
    → or_better (or_better best (leg_through net.router_ports e.1)) (best_leg (route_legs net router dst es)) ≡ or_better best (best_leg (route_legs net router dst (e ∷ es)))
routes_more net router dst e es best h = after_more best (leg_through net.router_ports e.1) (route_legs net router dst es) (best_leg (route_legs net router dst (e ∷ es))) (routes_cond net router dst e es true h)

pub routes_same : (net : Network) (router : Name) (dst : Ip4) (e : Name × Route) (es : List (Name × Route)) (best : Option Leg) → (same_name e.1.router router && contains e.1.prefix dst) ≡ false
    → or_better best (best_leg (route_legs net router dst es)) ≡ or_better best (best_leg (route_legs net router dst (e ∷ es)))
routes_same net router dst e es best h = ap (or_better best) (sym (routes_cond net router dst e es false h))

-- ---- ways as legs

abbrev leg_of : Way → Leg
leg_of w = record { length = w.length; is_network = w.is_network; hop = hop_of w.hop }

best_map : (ws : List Way) → best_leg (map leg_of ws) ≡ option_map leg_of (best_by is_better_way ws)
best_map [] = refl
best_map (w ∷ ws) = ap (or_better (Some (leg_of w))) (best_map ws) ∙ by (best_by is_better_way ws)
  where
    choice : (v : Way) (b : Bool) → cond b (leg_of v) (leg_of w) ≡ leg_of (cond b v w)
    choice v true = refl
    choice v false = refl

    by : (o : Option Way) → or_better (Some (leg_of w)) (option_map leg_of o) ≡ Some (leg_of (best_of is_better_way w o))
    by None = refl
    by (Some v) = ap (λ (leg : Leg). Some leg) (choice v (is_better_way v w))

map_append : (xs ys : List Way) → map leg_of (xs ++ ys) ≡ map leg_of xs ++ map leg_of ys
map_append [] ys = refl
map_append (x ∷ xs) ys = ap (λ (legs : List Leg). leg_of x ∷ legs) (map_append xs ys)

over_port : (dst : Ip4) (p : RouterPort) (ns : List Cidr) → map leg_of (map (λ n. record { length = n.len; is_network = true; hop = record { port = p; next = dst } }) ns) ≡ map (leg_over p.name dst) ns
over_port dst p [] = refl
over_port dst p (n ∷ ns) = ap (λ (legs : List Leg). leg_over p.name dst n ∷ legs) (over_port dst p ns)

-- the ports of the router among these, and its routes
abbrev ports_among : List (Name × RouterPort) → Name → List RouterPort
ports_among es router = filter (λ p. same_name p.router router) (values_of es)

abbrev routes_among : List (Name × Route) → Name → List Route
routes_among es router = filter (λ r. same_name r.router router) (values_of es)

ways_as_legs : (es : List (Name × RouterPort)) (router : Name) (dst : Ip4) → map leg_of (flat_map (ways_of_port dst) (ports_among es router)) ≡ network_legs es router dst
ways_as_legs [] router dst = refl
ways_as_legs (e ∷ es) router dst = by (same_name e.1.router router) (ways_as_legs es router dst)
  where
    by : (b : Bool) → map leg_of (flat_map (ways_of_port dst) (ports_among es router)) ≡ network_legs es router dst
        → map leg_of (flat_map (ways_of_port dst) (cond b (e.1 ∷ ports_among es router) (ports_among es router))) ≡ cond b (legs_over e.1.name dst e.1.networks) [] ++ network_legs es router dst
    by true ih =
        map_append (ways_of_port dst e.1) (flat_map (ways_of_port dst) (ports_among es router))
        ∙ ap (λ (legs : List Leg). legs ++ map leg_of (flat_map (ways_of_port dst) (ports_among es router))) (over_port dst e.1 (filter (λ n. contains n dst) e.1.networks))
        ∙ ap (λ (legs : List Leg). legs_over e.1.name dst e.1.networks ++ legs) ih
    by false ih = ih

best_network_is : (net : Network) (router : Name) (dst : Ip4) → best_leg (network_legs net.router_ports router dst) ≡ option_map leg_of (best_by is_better_way (network_ways net router dst))
best_network_is net router dst = ap best_leg (sym (ways_as_legs net.router_ports router dst)) ∙ best_map (network_ways net router dst)

through_is : (net : Network) (route : Route) → leg_through net.router_ports route ≡ option_map leg_of (option_map (by_route route) (best_by is_better_way (network_ways net route.router route.nexthop)))
through_is net route = ap (option_map (leg_by route)) (best_network_is net route.router route.nexthop) ∙ by (best_by is_better_way (network_ways net route.router route.nexthop))
  where
    by : (o : Option Way) → option_map (leg_by route) (option_map leg_of o) ≡ option_map leg_of (option_map (by_route route) o)
    by None = refl
    by (Some w) = refl

map_cons : (o : Option Way) (ws : List Way) → map leg_of (cons_option o ws) ≡ cons_option (option_map leg_of o) (map leg_of ws)
map_cons None ws = refl
map_cons (Some w) ws = refl

route_way_is : (net : Network) (dst : Ip4) (r : Route) (b : Bool) → contains r.prefix dst ≡ b → option_map leg_of (route_way net dst r) ≡ cond b (leg_through net.router_ports r) None
route_way_is net dst r b h = ap (λ (c : Bool). option_map leg_of (cond c (option_map (by_route r) (best_by is_better_way (network_ways net r.router r.nexthop))) None)) h ∙ by b
  where
    by : (c : Bool) → option_map leg_of (cond c (option_map (by_route r) (best_by is_better_way (network_ways net r.router r.nexthop))) None) ≡ cond c (leg_through net.router_ports r) None
    by true = sym (through_is net r)
    by false = refl

routes_as_legs : (net : Network) (router : Name) (dst : Ip4) (es : List (Name × Route)) → map leg_of (filter_map (route_way net dst) (routes_among es router)) ≡ route_legs net router dst es
routes_as_legs net router dst [] = refl
routes_as_legs net router dst (e ∷ es) = by (same_name e.1.router router) (routes_as_legs net router dst es)
  where
    by : (b : Bool) → map leg_of (filter_map (route_way net dst) (routes_among es router)) ≡ route_legs net router dst es
        → map leg_of (filter_map (route_way net dst) (cond b (e.1 ∷ routes_among es router) (routes_among es router))) ≡ cons_option (cond (b && contains e.1.prefix dst) (leg_through net.router_ports e.1) None) (route_legs net router dst es)
    by true ih =
        map_cons (route_way net dst e.1) (filter_map (route_way net dst) (routes_among es router))
        ∙ ap (λ (o : Option Leg). cons_option o (map leg_of (filter_map (route_way net dst) (routes_among es router)))) (route_way_is net dst e.1 (contains e.1.prefix dst) refl)
        ∙ ap (cons_option (cond (contains e.1.prefix dst) (leg_through net.router_ports e.1) None)) ih
    by false ih = ih

abbrev pub hop_in : Leg → Hop
hop_in leg = leg.hop

-- the best leg by networks and by routes has the hop
pub best_hop : (net : Network) (router : Name) (dst : Ip4)
    → option_map hop_in (or_better (best_leg (network_legs net.router_ports router dst)) (best_leg (route_legs net router dst net.routes))) ≡ hop_on net router dst
best_hop net router dst =
    let nets = network_ways net router dst in
    let rows = filter_map (route_way net dst) (routes_of net router) in
    ap (option_map hop_in)
    (sym (best_append (network_legs net.router_ports router dst) (route_legs net router dst net.routes))
    ∙ ap (λ (legs : List Leg). best_leg (legs ++ route_legs net router dst net.routes)) (sym (ways_as_legs net.router_ports router dst))
    ∙ ap (λ (legs : List Leg). best_leg (map leg_of nets ++ legs)) (sym (routes_as_legs net router dst net.routes))
    ∙ ap best_leg (sym (map_append nets rows))
    ∙ best_map (nets ++ rows))
    ∙ by (best_by is_better_way (nets ++ rows))
  where
    by : (o : Option Way) → option_map hop_in (option_map leg_of o) ≡ option_map hop_of (option_map (λ w. w.hop) o)
    by None = refl
    by (Some w) = refl

-- so the one that was found has it
pub hop_found : (net : Network) (router : Name) (dst : Ip4) (networks routes best : Option Leg) → networks ≡ best_leg (network_legs net.router_ports router dst) → routes ≡ best_leg (route_legs net router dst net.routes) → best ≡ or_better networks routes
    → option_map hop_in best ≡ hop_on net router dst
hop_found net router dst networks routes best e f g =
    ap (option_map hop_in) (g ∙ ap (λ (o : Option Leg). or_better o routes) e ∙ ap (or_better (best_leg (network_legs net.router_ports router dst))) f) ∙ best_hop net router dst
