-- Owners of keys, by the records that own them.
use Rattle.std.specs.Prelude.{◌≡◌, ◌⊎◌, ◌++◌, ◌&&◌, Bool, true, false, not, List, map, Option, Some, None, refl}
use Rattle.std.specs.Cmp.{first_so, second_so}
use Rattle.std.specs.List.{filter}
use Rattle.std.proofs.lemmas.Bool.{false≢true, and_from, or_cases, or_left, or_right}
use mathlib.Core.Path.{sym, ap, subst, ◌∙◌}
use mathlib.Core.Logic.{inl, inr}
use Rattle.ovn_base.specs.declared.address.Birth.{Birth}
use Rattle.ovn_base.specs.declared.name.Name.{Name}
use Rattle.ovn_base.specs.lists.Among.{Among}
use Rattle.ovn_base.specs.lists.Once.{EachOnce}
use Rattle.ovn_base.specs.names.ByName.{at}
use Rattle.ovn_base.specs.names.SameName.{same_name}
use Rattle.ovn_base.proofs.AmongLaws.{among_all, among_append, among_left, among_right, among_map, map_among, among_any, any_among}
use Rattle.ovn_base.proofs.ByNameLaws.{at_among, among_at}
use Rattle.ovn_base.proofs.OnceLaws.{once_append, once_named}
use Rattle.nb_records.specs.Network.{Network, AreInOrder}
use Rattle.nb_records.specs.declared.router.Router.{Router}
use Rattle.nb_records.specs.declared.router.RouterPort.{RouterPort}
use Rattle.nb_records.specs.declared.switch.Switch.{Switch}
use Rattle.nb_records.specs.declared.switch.SwitchPort.{SwitchPort}
use Rattle.nb_rules.specs.Valid.{IsValid, AreApart}
use Rattle.net_model.specs.Owners.{switch_owner, router_owner, router_port_owner, switch_port_owner, owners_of, owners_only_in}
use Rattle.tunnel_keys.specs.Owners.{is_listed, name_in}
use Rattle.tunnel_keys.specs.Same.{same_birth, same_owner, name_exact, name_own, birth_exact, birth_own, owner_exact, owner_own}
use Rattle.tunnel_keys.specs.declared.owner.KeyOwner.{KeyOwner}
use Rattle.tunnel_keys.specs.declared.owner.KeyOwner.TheVariants.{Datapath, Port}
use Rattle.nb_edits.specs.Owners.{passes, has_owner, only_in}

-- ---- who owns

-- the record at the name was born so
abbrev pub IsDatapath : Network → Name → Birth → Type 0
IsDatapath net name birth = ((r : Switch) × (at net.switches name ≡ Some r) × (r.birth ≡ birth)) ⊎ ((r : Router) × (at net.routers name ≡ Some r) × (r.birth ≡ birth))

abbrev pub IsPort : Network → Name → Name → Birth → Type 0
IsPort net datapath name birth =
    ((r : RouterPort) × (at net.router_ports name ≡ Some r) × (r.router ≡ datapath) × (r.birth ≡ birth))
    ⊎ ((r : SwitchPort) × (at net.switch_ports name ≡ Some r) × (r.switch ≡ datapath) × (r.birth ≡ birth))

abbrev pub Owns : Network → KeyOwner → Type 0
Owns net (Datapath name birth) = IsDatapath net name birth
Owns net (Port datapath name birth) = IsPort net datapath name birth

module _ (net : Network) where
  abbrev switches : List KeyOwner
  switches = map switch_owner net.switches

  abbrev routers : List KeyOwner
  routers = map router_owner net.routers

  abbrev router_ports : List KeyOwner
  router_ports = map router_port_owner net.router_ports

  abbrev switch_ports : List KeyOwner
  switch_ports = map switch_port_owner net.switch_ports

  -- ---- listed owners own

  module _ (order : AreInOrder net) (o : KeyOwner) where
    pub from_switches : Among o switches → Owns net o
    from_switches m = let r = map_among switch_owner o net.switches m in subst (λ (x : KeyOwner). Owns net x) (sym r.2) (inl (r.0.1, among_at r.0.0 r.0.1 net.switches order.switches r.1, refl))

    pub from_routers : Among o routers → Owns net o
    from_routers m = let r = map_among router_owner o net.routers m in subst (λ (x : KeyOwner). Owns net x) (sym r.2) (inr (r.0.1, among_at r.0.0 r.0.1 net.routers order.routers r.1, refl))

    pub from_router_ports : Among o router_ports → Owns net o
    from_router_ports m = let r = map_among router_port_owner o net.router_ports m in subst (λ (x : KeyOwner). Owns net x) (sym r.2) (inl (r.0.1, among_at r.0.0 r.0.1 net.router_ports order.router_ports r.1, refl, refl))

    pub from_switch_ports : Among o switch_ports → Owns net o
    from_switch_ports m = let r = map_among switch_port_owner o net.switch_ports m in subst (λ (x : KeyOwner). Owns net x) (sym r.2) (inr (r.0.1, among_at r.0.0 r.0.1 net.switch_ports order.switch_ports r.1, refl, refl))

    pub among_owns : Among o (owners_of net) → Owns net o
    among_owns m = elim (among_append o (switches ++ routers ++ router_ports) switch_ports m) [
      | inl c ↦ elim (among_append o (switches ++ routers) router_ports c) [
        | inl b ↦ elim (among_append o switches routers b) [ inl a ↦ from_switches a | inr d ↦ from_routers d ]
        | inr d ↦ from_router_ports d
      ]
      | inr d ↦ from_switch_ports d
    ]

  -- ---- who owns is listed

  among_switch : (name : Name) (r : Switch) → at net.switches name ≡ Some r → Among (Datapath name r.birth) (owners_of net)
  among_switch name r there =
      among_left (Datapath name r.birth) (switches ++ routers ++ router_ports) switch_ports
      (among_left (Datapath name r.birth) (switches ++ routers) router_ports
      (among_left (Datapath name r.birth) switches routers (among_map switch_owner (name, r) net.switches (at_among net.switches name r there))))

  among_router : (name : Name) (r : Router) → at net.routers name ≡ Some r → Among (Datapath name r.birth) (owners_of net)
  among_router name r there =
      among_left (Datapath name r.birth) (switches ++ routers ++ router_ports) switch_ports
      (among_left (Datapath name r.birth) (switches ++ routers) router_ports
      (among_right (Datapath name r.birth) switches routers (among_map router_owner (name, r) net.routers (at_among net.routers name r there))))

  among_router_port : (name : Name) (r : RouterPort) → at net.router_ports name ≡ Some r → Among (Port r.router name r.birth) (owners_of net)
  among_router_port name r there =
      among_left (Port r.router name r.birth) (switches ++ routers ++ router_ports) switch_ports
      (among_right (Port r.router name r.birth) (switches ++ routers) router_ports (among_map router_port_owner (name, r) net.router_ports (at_among net.router_ports name r there)))

  among_switch_port : (name : Name) (r : SwitchPort) → at net.switch_ports name ≡ Some r → Among (Port r.switch name r.birth) (owners_of net)
  among_switch_port name r there =
      among_right (Port r.switch name r.birth) (switches ++ routers ++ router_ports) switch_ports (among_map switch_port_owner (name, r) net.switch_ports (at_among net.switch_ports name r there))

  pub datapath_among : (name : Name) (birth : Birth) → IsDatapath net name birth → Among (Datapath name birth) (owners_of net)
  datapath_among name birth (inl h) = subst (λ (b : Birth). Among (Datapath name b) (owners_of net)) h.2 (among_switch name h.0 h.1)
  datapath_among name birth (inr h) = subst (λ (b : Birth). Among (Datapath name b) (owners_of net)) h.2 (among_router name h.0 h.1)

  pub port_among : (datapath name : Name) (birth : Birth) → IsPort net datapath name birth → Among (Port datapath name birth) (owners_of net)
  port_among datapath name birth (inl h) =
      subst (λ (b : Birth). Among (Port datapath name b) (owners_of net)) h.3 (subst (λ (d : Name). Among (Port d name h.0.birth) (owners_of net)) h.2 (among_router_port name h.0 h.1))
  port_among datapath name birth (inr h) =
      subst (λ (b : Birth). Among (Port datapath name b) (owners_of net)) h.3 (subst (λ (d : Name). Among (Port d name h.0.birth) (owners_of net)) h.2 (among_switch_port name h.0 h.1))

  pub owns_among : (o : KeyOwner) → Owns net o → Among o (owners_of net)
  owns_among (Datapath name birth) h = datapath_among name birth h
  owns_among (Port datapath name birth) h = port_among datapath name birth h

-- ---- the test by look-ups

bool_same : (a b : Bool) → (a ≡ true → b ≡ true) → (b ≡ true → a ≡ true) → a ≡ b
bool_same true b h k = sym (h refl)
bool_same false true h k = k refl
bool_same false false h k = refl

module _ {X : Type 0} (test : X → Bool) where
  passing : (a : Option X) (x : X) → a ≡ Some x → test x ≡ true → passes test a ≡ true
  passing a x there h = ap (passes test) there ∙ h

  passed : (a : Option X) → passes test a ≡ true → (x : X) × (a ≡ Some x) × (test x ≡ true)
  passed None h = absurd (false≢true h)
  passed (Some x) h = (x, refl, h)

same_birth_if : (a b : Birth) → a ≡ b → same_birth a b ≡ true
same_birth_if a b h = subst (λ (x : Birth). same_birth a x ≡ true) h (birth_own a)

same_name_if : (a b : Name) → a ≡ b → same_name a b ≡ true
same_name_if a b h = subst (λ (x : Name). same_name a x ≡ true) h (name_own a)

module _ (net : Network) where
  abbrev switch_is : Birth → Switch → Bool
  switch_is birth r = same_birth r.birth birth

  abbrev router_is : Birth → Router → Bool
  router_is birth r = same_birth r.birth birth

  abbrev router_port_is : Name → Birth → RouterPort → Bool
  router_port_is datapath birth r = same_name r.router datapath && same_birth r.birth birth

  abbrev switch_port_is : Name → Birth → SwitchPort → Bool
  switch_port_is datapath birth r = same_name r.switch datapath && same_birth r.birth birth

  datapath_has : (name : Name) (birth : Birth) → IsDatapath net name birth → has_owner net (Datapath name birth) ≡ true
  datapath_has name birth (inl h) = or_left _ _ (passing (switch_is birth) (at net.switches name) h.0 h.1 (same_birth_if h.0.birth birth h.2))
  datapath_has name birth (inr h) = or_right (passes (switch_is birth) (at net.switches name)) _ (passing (router_is birth) (at net.routers name) h.0 h.1 (same_birth_if h.0.birth birth h.2))

  port_has : (datapath name : Name) (birth : Birth) → IsPort net datapath name birth → has_owner net (Port datapath name birth) ≡ true
  port_has datapath name birth (inl h) =
      or_left _ _ (passing (router_port_is datapath birth) (at net.router_ports name) h.0 h.1 (and_from _ _ (same_name_if h.0.router datapath h.2) (same_birth_if h.0.birth birth h.3)))
  port_has datapath name birth (inr h) =
      or_right (passes (router_port_is datapath birth) (at net.router_ports name)) _
      (passing (switch_port_is datapath birth) (at net.switch_ports name) h.0 h.1 (and_from _ _ (same_name_if h.0.switch datapath h.2) (same_birth_if h.0.birth birth h.3)))

  pub owns_has : (o : KeyOwner) → Owns net o → has_owner net o ≡ true
  owns_has (Datapath name birth) h = datapath_has name birth h
  owns_has (Port datapath name birth) h = port_has datapath name birth h

  has_owns : (o : KeyOwner) → has_owner net o ≡ true → Owns net o
  has_owns (Datapath name birth) h = elim (or_cases (passes (switch_is birth) (at net.switches name)) (passes (router_is birth) (at net.routers name)) h) [
    | inl a ↦ (let r = passed (switch_is birth) (at net.switches name) a in inl (r.0, r.1, birth_exact r.0.birth birth r.2))
    | inr b ↦ (let r = passed (router_is birth) (at net.routers name) b in inr (r.0, r.1, birth_exact r.0.birth birth r.2))
  ]
  has_owns (Port datapath name birth) h = elim (or_cases (passes (router_port_is datapath birth) (at net.router_ports name)) (passes (switch_port_is datapath birth) (at net.switch_ports name)) h) [
    | inl a ↦ (let r = passed (router_port_is datapath birth) (at net.router_ports name) a in
        inl (r.0, r.1, name_exact r.0.router datapath (first_so (same_name r.0.router datapath) (same_birth r.0.birth birth) r.2), birth_exact r.0.birth birth (second_so (same_name r.0.router datapath) (same_birth r.0.birth birth) r.2)))
    | inr b ↦ (let r = passed (switch_port_is datapath birth) (at net.switch_ports name) b in
        inr (r.0, r.1, name_exact r.0.switch datapath (first_so (same_name r.0.switch datapath) (same_birth r.0.birth birth) r.2), birth_exact r.0.birth birth (second_so (same_name r.0.switch datapath) (same_birth r.0.birth birth) r.2)))
  ]

-- ---- the test by lists

pub listed_among : (owners : List KeyOwner) (o : KeyOwner) → is_listed owners o ≡ true → Among o owners
listed_among owners o h = let r = any_among (λ x. same_owner x o) owners h in subst (λ (x : KeyOwner). Among x owners) (owner_exact r.0 o r.2) r.1

pub among_listed : (owners : List KeyOwner) (o : KeyOwner) → Among o owners → is_listed owners o ≡ true
among_listed owners o m = among_any (λ x. same_owner x o) o owners m (owner_own o)

has_is_listed : (net : Network) → AreInOrder net → (o : KeyOwner) → has_owner net o ≡ is_listed (owners_of net) o
has_is_listed net order o = bool_same (has_owner net o) (is_listed (owners_of net) o)
    (λ h. among_listed (owners_of net) o (owns_among net o (has_owns net o h)))
    (λ h. owns_has net o (among_owns net order o (listed_among (owners_of net) o h)))

pub only_in_is : (net other : Network) → AreInOrder net → only_in net (owners_of other) ≡ owners_only_in other net
only_in_is net other order i = filter (λ o. not (has_is_listed net order o i)) (owners_of other)

-- ---- each once

module _ {X Y : Type 0} (f : Name × X → KeyOwner) (g : Name × Y → KeyOwner) (named : (e : Name × X) → name_in (f e) ≡ e.0) (named_too : (e : Name × Y) → name_in (g e) ≡ e.0) where
  -- entries without a name in common are different owners
  apart : (es : List (Name × X)) (ds : List (Name × Y)) → AreApart es ds → (sorted : (q : Name) (w : Y) → Among (q, w) ds → at ds q ≡ Some w) → (o : KeyOwner) → Among o (map f es) → ¬ Among o (map g ds)
  apart es ds h sorted o m k =
      let a = map_among f o es m in
      let b = map_among g o ds k in
      let same : a.0.0 ≡ b.0.0 = sym (named a.0) ∙ ap name_in (sym a.2 ∙ b.2) ∙ named_too b.0 in
      let none : at ds a.0.0 ≡ None = among_all (λ (e : Name × X). at ds e.0 ≡ None) a.0 es h a.1 in
      let some : at ds b.0.0 ≡ Some b.0.1 = sorted b.0.0 b.0.1 b.1 in
      absurd cc

abbrev is_datapath : KeyOwner → Bool
is_datapath (Datapath name birth) = true
is_datapath (Port datapath name birth) = false

module _ (net : Network) (valid : IsValid net) where
  switches_apart : (o : KeyOwner) → Among o (map switch_owner net.switches) → ¬ Among o (map router_owner net.routers)
  switches_apart = apart switch_owner router_owner (λ e. refl) (λ e. refl) net.switches net.routers valid.datapaths (λ q w m. among_at q w net.routers valid.in_order.routers m)

  ports_apart : (o : KeyOwner) → Among o (map switch_port_owner net.switch_ports) → ¬ Among o (map router_port_owner net.router_ports)
  ports_apart = apart switch_port_owner router_port_owner (λ e. refl) (λ e. refl) net.switch_ports net.router_ports valid.ports (λ q w m. among_at q w net.router_ports valid.in_order.router_ports m)

  are_datapaths : (o : KeyOwner) → Among o (map switch_owner net.switches ++ map router_owner net.routers) → is_datapath o ≡ true
  are_datapaths o m = elim (among_append o (map switch_owner net.switches) (map router_owner net.routers) m) [
    | inl a ↦ (let r = map_among switch_owner o net.switches a in ap is_datapath r.2)
    | inr b ↦ (let r = map_among router_owner o net.routers b in ap is_datapath r.2)
  ]

  no_router_port : (o : KeyOwner) → Among o (map switch_owner net.switches ++ map router_owner net.routers) → ¬ Among o (map router_port_owner net.router_ports)
  no_router_port o m k = let r = map_among router_port_owner o net.router_ports k in false≢true (sym (ap is_datapath r.2) ∙ are_datapaths o m)

  no_switch_port : (o : KeyOwner) → Among o (map switch_owner net.switches ++ map router_owner net.routers) → ¬ Among o (map switch_port_owner net.switch_ports)
  no_switch_port o m k = let r = map_among switch_port_owner o net.switch_ports k in false≢true (sym (ap is_datapath r.2) ∙ are_datapaths o m)

  pub owners_once : EachOnce (owners_of net)
  owners_once =
      once_append (map switch_owner net.switches ++ map router_owner net.routers ++ map router_port_owner net.router_ports) (map switch_port_owner net.switch_ports)
      (once_append (map switch_owner net.switches ++ map router_owner net.routers) (map router_port_owner net.router_ports)
      (once_append (map switch_owner net.switches) (map router_owner net.routers)
      (once_named switch_owner (λ d e same. ap name_in same) net.switches valid.in_order.switches)
      (once_named router_owner (λ d e same. ap name_in same) net.routers valid.in_order.routers)
      switches_apart)
      (once_named router_port_owner (λ d e same. ap name_in same) net.router_ports valid.in_order.router_ports)
      no_router_port)
      (once_named switch_port_owner (λ d e same. ap name_in same) net.switch_ports valid.in_order.switch_ports)
      (λ o m k. elim (among_append o (map switch_owner net.switches ++ map router_owner net.routers) (map router_port_owner net.router_ports) m) [
        | inl a ↦ no_switch_port o a k
        | inr b ↦ ports_apart o k b
      ])
