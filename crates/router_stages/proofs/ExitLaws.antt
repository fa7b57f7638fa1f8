-- The longest exit of a port's networks and of a router's ports, found one after another, is that of the best way.
use Rattle.std.specs.Prelude.{◌≡◌, ◌==◌, ◌&&◌, ◌||◌, ◌++◌, nat_lt, ℕ, Bool, true, false, not, refl, List, [], ◌∷◌, map, flat_map, Option, Some, None, option_map, cond}
use Rattle.std.proofs.Common.{sym, ap, ◌∙◌, arith}
use Rattle.std.proofs.lemmas.Bool.Decides.{nat_tests}
use Rattle.std.specs.List.{filter}
use Rattle.std.specs.Map.{values_of}
use Rattle.nb_records.specs.Network.{Network}
use Rattle.nb_records.specs.Routers.{contains}
use Rattle.nb_records.specs.Ways.{Way, best_of, best_by, is_better_way, ways_of_port, network_ways}
use Rattle.nb_records.specs.declared.router.RouterPort.{RouterPort}
use Rattle.ovn_base.specs.declared.address.Cidr.{Cidr}
use Rattle.ovn_base.specs.declared.address.Ip4.{Ip4}
use Rattle.ovn_base.specs.declared.name.Name.{Name}
use Rattle.ovn_base.specs.names.SameName.{same_name}
use Rattle.router_stages.specs.Exits.{exit_of, exit_towards, is_longer, longest, or_longer, exit_over, exits_over, exits_by, exits_among}
use Rattle.router_stages.specs.declared.facts.exits.Exit.{Exit}

-- ---- the order

longer_by : (l m n : ℕ) → nat_lt l m ≡ true → nat_lt m n ≡ true → nat_lt l n ≡ true
longer_by l m n h k = grind (arith, nat_tests)

not_longer_by : (l m n : ℕ) → nat_lt l m ≡ false → nat_lt m n ≡ false → nat_lt l n ≡ false
not_longer_by l m n h k = grind (arith, nat_tests)

-- ---- the longest of several

longer_three : (x y z : Exit) (p q : Bool) → is_longer z y ≡ p → is_longer y x ≡ q
    → cond (is_longer (cond p z y) x) (cond p z y) x ≡ cond (is_longer z (cond q y x)) z (cond q y x)
longer_three x y z true true e f = ap (λ (b : Bool). cond b z x) (longer_by x.length y.length z.length f e) ∙ sym (ap (λ (b : Bool). cond b z y) e)
longer_three x y z true false e f = refl
longer_three x y z false true e f = ap (λ (b : Bool). cond b y x) f ∙ sym (ap (λ (b : Bool). cond b z y) e)
longer_three x y z false false e f = ap (λ (b : Bool). cond b y x) f ∙ sym (ap (λ (b : Bool). cond b z x) (not_longer_by x.length y.length z.length f e))

longer_assoc : (a b c : Option Exit) → or_longer a (or_longer b c) ≡ or_longer (or_longer a b) c
longer_assoc None b c = refl
longer_assoc (Some x) None c = refl
longer_assoc (Some x) (Some y) None = refl
longer_assoc (Some x) (Some y) (Some z) = ap (λ (exit : Exit). Some exit) (longer_three x y z (is_longer z y) (is_longer y x) refl refl)

longest_append : (xs ys : List Exit) → longest (xs ++ ys) ≡ or_longer (longest xs) (longest ys)
longest_append [] ys = refl
longest_append (x ∷ xs) ys = ap (or_longer (Some x)) (longest_append xs ys) ∙ longer_assoc (Some x) (longest xs) (longest ys)

-- ---- one more

-- the longest so far, the next ones, and those behind them
after_more : (best more : Option Exit) (rest : List Exit) (all : Option Exit) → all ≡ or_longer more (longest rest) → or_longer (or_longer best more) (longest rest) ≡ or_longer best all
after_more best more rest all e = sym (longer_assoc best more (longest rest)) ∙ ap (or_longer best) (sym e)

over_cond : (q : RouterPort) (ip : Ip4) (n : Cidr) (ns : List Cidr) (b : Bool) → contains n ip ≡ b
    → longest (exits_over q ip (n ∷ ns)) ≡ longest (map (exit_over q) (cond b (n ∷ filter (λ m. contains m ip) ns) (filter (λ m. contains m ip) ns)))
over_cond q ip n ns b e = ap (λ (c : Bool). longest (map (exit_over q) (cond c (n ∷ filter (λ m. contains m ip) ns) (filter (λ m. contains m ip) ns)))) e

pub over_more : (q : RouterPort) (ip : Ip4) (n : Cidr) (ns : List Cidr) (best : Option Exit) → contains n ip ≡ true
    → or_longer (or_longer best (Some (exit_over q n))) (longest (exits_over q ip ns)) ≡ or_longer best (longest (exits_over q ip (n ∷ ns)))
over_more q ip n ns best h = after_more best (Some (exit_over q n)) (exits_over q ip ns) (longest (exits_over q ip (n ∷ ns))) (over_cond q ip n ns true h)

pub over_same : (q : RouterPort) (ip : Ip4) (n : Cidr) (ns : List Cidr) (best : Option Exit) → contains n ip ≡ false
    → or_longer best (longest (exits_over q ip ns)) ≡ or_longer best (longest (exits_over q ip (n ∷ ns)))
over_same q ip n ns best h = ap (or_longer best) (sym (over_cond q ip n ns false h))

ports_cond : (router : Name) (ip : Ip4) (e : Name × RouterPort) (es : List (Name × RouterPort)) (b : Bool) → same_name e.1.router router ≡ b
    → longest (exits_among (e ∷ es) router ip) ≡ or_longer (longest (cond b (exits_over e.1 ip e.1.networks) [])) (longest (exits_among es router ip))
ports_cond router ip e es b h =
    longest_append (exits_by router ip e) (exits_among es router ip)
    ∙ ap (λ (c : Bool). or_longer (longest (cond c (exits_over e.1 ip e.1.networks) [])) (longest (exits_among es router ip))) h

pub ports_more : (router : Name) (ip : Ip4) (e : Name × RouterPort) (es : List (Name × RouterPort)) (best : Option Exit) → same_name e.1.router router ≡ true
    → or_longer (or_longer best (longest (exits_over e.1 ip e.1.networks))) (longest (exits_among es router ip)) ≡ or_longer best (longest (exits_among (e ∷ es) router ip))
ports_more router ip e es best h =
    after_more best (longest (exits_over e.1 ip e.1.networks)) (exits_among es router ip) (longest (exits_among (e ∷ es) router ip)) (ports_cond router ip e es true h)

pub ports_same : (router : Name) (ip : Ip4) (e : Name × RouterPort) (es : List (Name × RouterPort)) (best : Option Exit) → same_name e.1.router router ≡ false
    → or_longer best (longest (exits_among es router ip)) ≡ or_longer best (longest (exits_among (e ∷ es) router ip))
ports_same router ip e es best h = ap (or_longer best) (sym (ports_cond router ip e es false h))

-- ---- ways by networks as exits

-- all of the ways are by networks
abbrev AreByNetworks : List Way → Type 0
AreByNetworks [] = Unit {0}
AreByNetworks (w ∷ ws) = (w.is_network ≡ true) × AreByNetworks ws

no_tie : (t x p : Bool) → (t || (x && (p && false))) ≡ t
no_tie true x p = refl
no_tie false true true = refl
no_tie false true false = refl
no_tie false false p = refl

better_is_longer : (v w : Way) → w.is_network ≡ true → is_better_way v w ≡ is_longer (exit_of v) (exit_of w)
better_is_longer v w h =
    ap (λ (c : Bool). nat_lt w.length v.length || ((v.length == w.length) && (v.is_network && not c))) h
    ∙ no_tie (nat_lt w.length v.length) (v.length == w.length) v.is_network

longest_map : (ws : List Way) → AreByNetworks ws → longest (map exit_of ws) ≡ option_map exit_of (best_by is_better_way ws)
longest_map [] h = refl
longest_map (w ∷ ws) h = ap (or_longer (Some (exit_of w))) (longest_map ws h.1) ∙ by (best_by is_better_way ws)
  where
    choice : (v : Way) (b : Bool) → cond b (exit_of v) (exit_of w) ≡ exit_of (cond b v w)
    choice v true = refl
    choice v false = refl

    by : (o : Option Way) → or_longer (Some (exit_of w)) (option_map exit_of o) ≡ Some (exit_of (best_of is_better_way w o))
    by None = refl
    by (Some v) =
        ap (λ (b : Bool). Some (cond b (exit_of v) (exit_of w))) (sym (better_is_longer v w h.0))
        ∙ ap (λ (exit : Exit). Some exit) (choice v (is_better_way v w))

abbrev way_over : RouterPort → Ip4 → Cidr → Way
way_over q ip n = record { length = n.len; is_network = true; hop = record { port = q; next = ip } }

over_networks : (q : RouterPort) (ip : Ip4) (ns : List Cidr) → AreByNetworks (map (way_over q ip) ns)
over_networks q ip [] = tt
over_networks q ip (n ∷ ns) = (refl, over_networks q ip ns)

by_networks_append : (xs ys : List Way) → AreByNetworks xs → AreByNetworks ys → AreByNetworks (xs ++ ys)
by_networks_append [] ys h k = k
by_networks_append (x ∷ xs) ys h k = (h.0, by_networks_append xs ys h.1 k)

map_append : (xs ys : List Way) → map exit_of (xs ++ ys) ≡ map exit_of xs ++ map exit_of ys
map_append [] ys = refl
map_append (x ∷ xs) ys = ap (λ (exits : List Exit). exit_of x ∷ exits) (map_append xs ys)

map_over : (q : RouterPort) (ip : Ip4) (ns : List Cidr) → map exit_of (map (way_over q ip) ns) ≡ map (exit_over q) ns
map_over q ip [] = refl
map_over q ip (n ∷ ns) = ap (λ (exits : List Exit). exit_over q n ∷ exits) (map_over q ip ns)

-- the ports of the router among these
abbrev ports_among : List (Name × RouterPort) → Name → List RouterPort
ports_among es router = filter (λ p. same_name p.router router) (values_of es)

abbrev ways_among : List (Name × RouterPort) → Name → Ip4 → List Way
ways_among es router ip = flat_map (ways_of_port ip) (ports_among es router)

are_by_networks : (es : List (Name × RouterPort)) (router : Name) (ip : Ip4) → AreByNetworks (ways_among es router ip)
are_by_networks [] router ip = tt
are_by_networks (e ∷ es) router ip = by (same_name e.1.router router) (are_by_networks es router ip)
  where
    by : (b : Bool) → AreByNetworks (ways_among es router ip) → AreByNetworks (flat_map (ways_of_port ip) (cond b (e.1 ∷ ports_among es router) (ports_among es router)))
    by true ih = by_networks_append (ways_of_port ip e.1) (ways_among es router ip) (over_networks e.1 ip (filter (λ n. contains n ip) e.1.networks)) ih
    by false ih = ih

ways_as_exits : (es : List (Name × RouterPort)) (router : Name) (ip : Ip4) → map exit_of (ways_among es router ip) ≡ exits_among es router ip
ways_as_exits [] router ip = refl
ways_as_exits (e ∷ es) router ip = by (same_name e.1.router router) (ways_as_exits es router ip)
  where
    by : (b : Bool) → map exit_of (ways_among es router ip) ≡ exits_among es router ip
        → map exit_of (flat_map (ways_of_port ip) (cond b (e.1 ∷ ports_among es router) (ports_among es router))) ≡ cond b (exits_over e.1 ip e.1.networks) [] ++ exits_among es router ip
    by true ih =
        map_append (ways_of_port ip e.1) (ways_among es router ip)
        ∙ ap (λ (exits : List Exit). exits ++ map exit_of (ways_among es router ip)) (map_over e.1 ip (filter (λ n. contains n ip) e.1.networks))
        ∙ ap (λ (exits : List Exit). exits_over e.1 ip e.1.networks ++ exits) ih
    by false ih = ih

-- so the longest exit is that of the best way
pub longest_is : (net : Network) (router : Name) (ip : Ip4) → longest (exits_among net.router_ports router ip) ≡ exit_towards net router ip
longest_is net router ip = ap longest (sym (ways_as_exits net.router_ports router ip)) ∙ longest_map (network_ways net router ip) (are_by_networks net.router_ports router ip)
