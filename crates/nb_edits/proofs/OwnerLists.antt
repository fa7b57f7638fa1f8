-- Owners that records have and others don't are told by the names at which they can differ.
use Rattle.std.specs.Prelude.{◌≡◌, ◌≢◌, ◌⊎◌, ◌++◌, ◌∷◌, [], true, cond, not, List, map, flat_map, None, option_map, refl}
use Rattle.std.specs.Cmp.Lexicographic.{slice_cmp}
use Rattle.std.specs.List.{AllByRecursion}
use Rattle.std.specs.List.Sorted.{IsStrictlySortedBy}
use Rattle.std.specs.Map.{keys_of}
use Rattle.std.specs.Ordering.{nat_cmp, is_eq, ordering_reverse}
use Rattle.std.specs.declared.cmp.Ordering.{Ordering}
use Rattle.std.specs.declared.cmp.Ordering.TheVariants.{Less, Equal, Greater}
use Rattle.std.proofs.lemmas.Cmp.{nat_list_cmp_total}
use Rattle.std.proofs.lemmas.List.Elements.{filter-append}
use mathlib.Core.Path.{sym, ap, subst, ◌∙◌}
use mathlib.Core.Logic.{inl, inr}
use Rattle.ovn_base.specs.declared.name.Name.{Name}
use Rattle.ovn_base.specs.lists.Among.{Among, here, there}
use Rattle.ovn_base.specs.names.ByName.{at, IsByName}
use Rattle.ovn_base.proofs.AmongLaws.{among_all, among_cases, among_none}
use Rattle.ovn_base.proofs.ByNameLaws.{at_head, at_tail, among_at, below_apart, same_name}
use Rattle.nb_records.specs.Network.{Network, AreInOrder, birth_of, name_of}
use Rattle.nb_records.specs.declared.kinds.Kind.TheVariants as kind
use Rattle.nb_records.specs.declared.record.Record.{Record}
use Rattle.nb_records.specs.declared.record.Record.TheVariants as row
use Rattle.nb_records.specs.declared.router.Router.{Router}
use Rattle.nb_records.specs.declared.router.RouterPort.{RouterPort}
use Rattle.nb_records.specs.declared.switch.Switch.{Switch}
use Rattle.nb_records.specs.declared.switch.SwitchPort.{SwitchPort}
use Rattle.net_model.specs.Owners.{switch_owner, router_owner, router_port_owner, switch_port_owner, owners_of, owners_only_in}
use Rattle.tunnel_keys.specs.declared.owner.KeyOwner.{KeyOwner}
use Rattle.nb_edits.proofs.EditValidity.{some_of}
use Rattle.nb_edits.proofs.OwnerLaws as laws
use Rattle.nb_edits.specs.Owners.{has_owner, only_in, owner_in, new_at}
use Rattle.nb_edits.specs.Touched.{AgreeBut}

pub only_in_each : (net : Network) (xs ys : List KeyOwner) → only_in net (xs ++ ys) ≡ only_in net xs ++ only_in net ys
only_in_each net xs ys = filter-append (λ o. not (has_owner net o)) xs ys

pub only_in_is : (net other : Network) → AreInOrder net → only_in net (owners_of other) ≡ owners_only_in other net
only_in_is = laws.only_in_is

-- ---- names in order

abbrev AreAbove : Name → List Name → Type 0
AreAbove a names = AllByRecursion (λ y. slice_cmp nat_cmp a y ≡ Less) names

abbrev InOrder : List Name → Type 0
InOrder names = IsStrictlySortedBy (slice_cmp nat_cmp) names

above_all : (a b : Name) (names : List Name) → slice_cmp nat_cmp a b ≡ Less → AreAbove b names → AreAbove a names
above_all a b [] below h = h
above_all a b (y ∷ ys) below h = (nat_list_cmp_total.trans a b y below h.0, above_all a b ys below h.1)

nothing_below : {X : Type 0} (es : List (Name × X)) (q : Name) → AreAbove q (keys_of es) → at es q ≡ None
nothing_below [] q h = refl
nothing_below (e ∷ es) q h = at_tail e es q (λ same. below_apart q e.0 h.0 (sym same)) ∙ nothing_below es q h.1

-- ---- what one name adds

module _ (f g : Name → List KeyOwner) (a : Name) (same : (q : Name) → q ≢ a → f q ≡ g q) (none : (q : Name) → (q ≡ a) ⊎ (slice_cmp nat_cmp q a ≡ Less) → g q ≡ []) where
  later : (names : List Name) → AreAbove a names → flat_map f names ≡ flat_map g names
  later [] h = refl
  later (q ∷ names) h = λ i. same q (below_apart a q h.0) i ++ later names h.1 i

  first_out : (names : List Name) → InOrder names → (¬ Among a names → f a ≡ []) → flat_map f names ≡ f a ++ flat_map g names
  unfolding IsStrictlySortedBy
  first_out [] s out = sym (ap (λ l. l ++ []) (out (among_none a)))
  first_out (q ∷ names) s out = by (slice_cmp nat_cmp q a) refl (first_out names s.1)
    where
      by : (o : Ordering) → slice_cmp nat_cmp q a ≡ o → ((¬ Among a names → f a ≡ []) → flat_map f names ≡ f a ++ flat_map g names) → f q ++ flat_map f names ≡ f a ++ (g q ++ flat_map g names)
      by Less is rest =
          let apart : q ≢ a = λ h. below_apart q a is (sym h) in
          let gone : g q ≡ [] = none q (inr is) in
          ap (λ l. l ++ flat_map f names) (same q apart ∙ gone)
          ∙ rest (λ absent. out (λ m. elim (among_cases a q names m) [ inl h ↦ apart (sym h) | inr k ↦ absent k ]))
          ∙ ap (λ l. f a ++ (l ++ flat_map g names)) (sym gone)
      by Equal is rest =
          let one : q ≡ a = same_name q a (ap is_eq is) in
          ap (λ x. f x ++ flat_map f names) one
          ∙ ap (λ l. f a ++ l) (later names (subst (λ x. AreAbove x names) one s.0))
          ∙ ap (λ l. f a ++ (l ++ flat_map g names)) (sym (none q (inl one)))
      by Greater is rest =
          let below : slice_cmp nat_cmp a q ≡ Less = nat_list_cmp_total.antisymm a q ∙ ap ordering_reverse is in
          let above : AreAbove a names = above_all a q names below s.0 in
          let absent : ¬ Among a (q ∷ names) = λ m. elim (among_cases a q names m) [
            | inl h ↦ below_apart a q below (sym h)
            | inr k ↦ below_apart a a (among_all (λ y. slice_cmp nat_cmp a y ≡ Less) a names above k) refl
          ] in
          (λ i. same q (below_apart a q below) i ++ later names above i) ∙ ap (λ l. l ++ (g q ++ flat_map g names)) (sym (out absent))

module _ {X : Type 0} (net : Network) (owner : Name × X → KeyOwner) where
  no_entries : (names : List Name) → flat_map (new_at net owner []) names ≡ []
  no_entries [] = refl
  no_entries (q ∷ names) = no_entries names

  held_is_none : (o : KeyOwner) → has_owner net o ≡ true → only_in net (o ∷ []) ≡ []
  held_is_none o has = ap (λ b. cond (not b) (o ∷ []) []) has

  pub new_named : (names : List Name) → InOrder names → (es : List (Name × X)) → IsByName es → ((e : Name × X) → Among e es → ¬ Among e.0 names → has_owner net (owner e) ≡ true)
      → flat_map (new_at net owner es) names ≡ only_in net (map owner es)
  unfolding IsStrictlySortedBy
  new_named names o [] s all = no_entries names
  new_named names o (e ∷ es) s all =
      let head : new_at net owner (e ∷ es) e.0 ≡ only_in net (owner e ∷ []) = ap (λ x. only_in net (owner_in owner e.0 x)) (at_head e es) in
      first_out (new_at net owner (e ∷ es)) (new_at net owner es) e.0
      (λ q apart. ap (λ x. only_in net (owner_in owner q x)) (at_tail e es q apart))
      (λ q le. ap (λ x. only_in net (owner_in owner q x)) (nothing_below es q (elim le [
        | inl one ↦ subst (λ (x : Name). AreAbove x (keys_of es)) (sym one) s.0
        | inr below ↦ above_all q e.0 (keys_of es) below s.0
      ])))
      names o
      (λ absent. head ∙ held_is_none (owner e) (all e here absent))
      ∙ (λ i. head i ++ new_named names o es s.1 (λ d m absent. all d (there m) absent) i)
      ∙ sym (only_in_each net (owner e ∷ []) (map owner es))

-- ---- where the others have the same records

abbrev datapath_of : Record → Name
datapath_of (row.SwitchPort r) = r.switch
datapath_of (row.RouterPort r) = r.router
datapath_of r = name_of r

module _ (net other : Network) (names : List Name) (order : AreInOrder other) (agree : AgreeBut names net other) where
  switches_stay : (e : Name × Switch) → Among e other.switches → ¬ Among e.0 names → has_owner net (switch_owner e) ≡ true
  switches_stay e m absent =
      let old = some_of row.Switch (at net.switches e.0) (row.Switch e.1) (sym (agree kind.Switch e.0 absent) ∙ ap (option_map row.Switch) (among_at e.0 e.1 other.switches order.switches m)) in
      laws.owns_has net (switch_owner e) (inl (old.0, old.1, ap birth_of old.2))

  routers_stay : (e : Name × Router) → Among e other.routers → ¬ Among e.0 names → has_owner net (router_owner e) ≡ true
  routers_stay e m absent =
      let old = some_of row.Router (at net.routers e.0) (row.Router e.1) (sym (agree kind.Router e.0 absent) ∙ ap (option_map row.Router) (among_at e.0 e.1 other.routers order.routers m)) in
      laws.owns_has net (router_owner e) (inr (old.0, old.1, ap birth_of old.2))

  router_ports_stay : (e : Name × RouterPort) → Among e other.router_ports → ¬ Among e.0 names → has_owner net (router_port_owner e) ≡ true
  router_ports_stay e m absent =
      let old = some_of row.RouterPort (at net.router_ports e.0) (row.RouterPort e.1) (sym (agree kind.RouterPort e.0 absent) ∙ ap (option_map row.RouterPort) (among_at e.0 e.1 other.router_ports order.router_ports m)) in
      laws.owns_has net (router_port_owner e) (inl (old.0, old.1, ap datapath_of old.2, ap birth_of old.2))

  switch_ports_stay : (e : Name × SwitchPort) → Among e other.switch_ports → ¬ Among e.0 names → has_owner net (switch_port_owner e) ≡ true
  switch_ports_stay e m absent =
      let old = some_of row.SwitchPort (at net.switch_ports e.0) (row.SwitchPort e.1) (sym (agree kind.SwitchPort e.0 absent) ∙ ap (option_map row.SwitchPort) (among_at e.0 e.1 other.switch_ports order.switch_ports m)) in
      laws.owns_has net (switch_port_owner e) (inr (old.0, old.1, ap datapath_of old.2, ap birth_of old.2))

  -- the new owners, kind by kind
  pub new_is : AreInOrder net → InOrder names
      → flat_map (new_at net switch_owner other.switches) names ++ flat_map (new_at net router_owner other.routers) names ++ flat_map (new_at net router_port_owner other.router_ports) names ++ flat_map (new_at net switch_port_owner other.switch_ports) names
      ≡ owners_only_in other net
  new_is net_order in_order =
      let switches = new_named net switch_owner names in_order other.switches order.switches switches_stay in
      let routers = new_named net router_owner names in_order other.routers order.routers routers_stay in
      let router_ports = new_named net router_port_owner names in_order other.router_ports order.router_ports router_ports_stay in
      let switch_ports = new_named net switch_port_owner names in_order other.switch_ports order.switch_ports switch_ports_stay in
      (λ i. switches i ++ routers i ++ router_ports i ++ switch_ports i)
      ∙ sym (
      only_in_each net (map switch_owner other.switches ++ map router_owner other.routers ++ map router_port_owner other.router_ports) (map switch_port_owner other.switch_ports)
      ∙ ap (λ l. l ++ only_in net (map switch_port_owner other.switch_ports)) (
      only_in_each net (map switch_owner other.switches ++ map router_owner other.routers) (map router_port_owner other.router_ports)
      ∙ ap (λ l. l ++ only_in net (map router_port_owner other.router_ports)) (only_in_each net (map switch_owner other.switches) (map router_owner other.routers))
      )
      )
      ∙ only_in_is net other net_order

  -- where they come one kind after another
  pub new_are : (none switches routers router_ports all : List KeyOwner) → none ≡ [] → switches ≡ none ++ flat_map (new_at net switch_owner other.switches) names → routers ≡ switches ++ flat_map (new_at net router_owner other.routers) names
      → router_ports ≡ routers ++ flat_map (new_at net router_port_owner other.router_ports) names → all ≡ router_ports ++ flat_map (new_at net switch_port_owner other.switch_ports) names → AreInOrder net → InOrder names → all ≡ owners_only_in other net
  new_are none switches routers router_ports all e0 e1 e2 e3 e4 net_order in_order =
      e4
      ∙ ap (λ l. l ++ flat_map (new_at net switch_port_owner other.switch_ports) names) (
      e3
      ∙ ap (λ l. l ++ flat_map (new_at net router_port_owner other.router_ports) names) (
      e2
      ∙ ap (λ l. l ++ flat_map (new_at net router_owner other.routers) names) (e1 ∙ ap (λ l. l ++ flat_map (new_at net switch_owner other.switches) names) e0)
      )
      )
      ∙ new_is net_order in_order
