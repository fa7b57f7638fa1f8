-- Switches, routers and ports that an edit doesn't touch stay as they are, with a port its switch is touched, and each port that leads into another datapath is.
use Rattle.std.specs.Prelude.{◌≡◌, ◌⊎◌, ◌↔◌, ◌++◌, ℕ, true, false, cond, not, List, [], ◌∷◌, Option, Some, None, filter, map, refl}
use Rattle.std.specs.List.{AllByRecursion}
use mathlib.Core.Path.{sym, ap, subst, ◌∙◌}
use mathlib.Core.Logic.{inl, inr}
use Rattle.ovn_base.specs.declared.name.Name.{Name}
use Rattle.ovn_base.specs.lists.Among.{Among, here, there}
use Rattle.ovn_base.specs.names.ByName.{at}
use Rattle.ovn_base.proofs.AmongLaws.{among_cases, among_none, among_left, among_right, among_append, among_filter, among_flat_map, among_map, flat_map_among, map_among}
use Rattle.ovn_base.proofs.ByNameLaws.{at_among}
use Rattle.std.proofs.lemmas.Bool.{false≢true}
use Rattle.physical_flows.proofs.VirtualPorts.{virtual_ports}
use Rattle.nb_records.specs.Switches.{has_some, is_virtual}
use Rattle.nb_records.specs.declared.router.RouterPort.{RouterPort}
use Rattle.nb_records.specs.Editing.{born, operated, accepted}
use Rattle.nb_records.specs.Grammar.{IsOpInGrammar}
use Rattle.nb_records.specs.Network.{Network, record_at, kind_of, name_of}
use Rattle.nb_records.specs.declared.change.Op.{Op}
use Rattle.nb_records.specs.declared.change.Op.TheVariants as op
use Rattle.nb_records.specs.declared.kinds.Kind.{Kind}
use Rattle.nb_records.specs.declared.kinds.Kind.TheVariants as kind
use Rattle.nb_records.specs.declared.switch.SwitchPort.{SwitchPort}
use Rattle.nb_rules.specs.FirstBroken.{first_broken}
use Rattle.nb_rules.specs.Valid.{IsValid}
use Rattle.nb_edits.proofs.EditValidity.{IsFit, no_first, operated_fit, valid_fit}
use Rattle.nb_edits.specs.OpFaults.{op_fault, ops_fault, fault_of}
use Rattle.physical_flows.specs.Touching.{HasLeading}
use Rattle.physical_flows.specs.declared.unit.FlowUnit.{FlowUnit}
use Rattle.physical_flows.specs.declared.unit.FlowUnit.TheVariants as unit
use Rattle.world_setup.specs.Touched.{leading_units, named_by, ports_leading, router_port_units, switch_of, to_routers, touched_by, units_by, units_leading, units_named}
use Rattle.world_setup.proofs.NamedRecords.{born_named, named_at, switch_beside, port_beside, switch_unchanged, port_unchanged, switch_without, port_without, router_beside, router_unchanged, router_without, router_port_beside, router_port_unchanged, router_port_without}

-- an edit without a fault has none by its operations
pub ops_pass : (net : Network) (ops : List Op) (n : ℕ) → fault_of net ops n ≡ None → ops_fault net ops n ≡ None
unfolding fault_of
ops_pass net ops n none = (no_first (ops_fault net ops n) (first_broken (accepted net ops n) ops) none).0

module _ (before after : Network) where
  -- ---- who isn't named stays

  -- the switch itself is a unit of its record, and the port of its; a router and its ports have theirs at their names
  switch_named : (k : Kind) (p a : Name) → (k ≡ kind.Switch) × (p ≡ a) → Among (unit.Switch a) (units_named before after k p)
  switch_named k p a named =
      let of_kind : kind.Switch ≡ k = sym named.0 in
      let of_name : a ≡ p = sym named.1 in
      subst (λ (j : Kind). Among (unit.Switch a) (units_named before after j p)) of_kind (subst (λ (b : Name). Among (unit.Switch a) (unit.Switch b ∷ [])) of_name here)

  port_named : (k : Kind) (p q : Name) → (k ≡ kind.SwitchPort) × (p ≡ q) → Among (unit.Port q) (units_named before after k p)
  port_named k p q named =
      let of_kind : kind.SwitchPort ≡ k = sym named.0 in
      let of_name : q ≡ p = sym named.1 in
      subst (λ (j : Kind). Among (unit.Port q) (units_named before after j p)) of_kind (subst (λ (b : Name). Among (unit.Port q) (units_named before after kind.SwitchPort b)) of_name here)

  router_named : (k : Kind) (p a : Name) → (k ≡ kind.Router) × (p ≡ a) → Among (unit.Switch a) (units_named before after k p)
  router_named k p a named =
      let of_kind : kind.Router ≡ k = sym named.0 in
      let of_name : a ≡ p = sym named.1 in
      subst (λ (j : Kind). Among (unit.Switch a) (units_named before after j p)) of_kind (subst (λ (b : Name). Among (unit.Switch a) (unit.Switch b ∷ [])) of_name here)

  router_port_named : (k : Kind) (p q : Name) → (k ≡ kind.RouterPort) × (p ≡ q) → Among (unit.Port q) (units_named before after k p)
  router_port_named k p q named =
      let of_kind : kind.RouterPort ≡ k = sym named.0 in
      let of_name : q ≡ p = sym named.1 in
      subst (λ (j : Kind). Among (unit.Port q) (units_named before after j p)) of_kind (subst (λ (b : Name). Among (unit.Port q) (units_named before after kind.RouterPort b)) of_name here)

  -- one operation
  switch_operated : (net : Network) → IsFit net → (o : Op) (n : ℕ) (a : Name) → ¬ Among (unit.Switch a) (units_by before after o) → at (operated net o n).switches a ≡ at net.switches a
  switch_operated net f (op.Add r) n a out = switch_beside net a (born n r) (λ named. let is = born_named n r in out (switch_named (kind_of r) (name_of r) a (sym is.0 ∙ named.0, sym is.1 ∙ named.1)))
  switch_operated net f (op.Set k p c) n a out =
      switch_unchanged net a c (record_at net k p) (λ r found named. let is = named_at net f k p r found in out (switch_named k p a (sym is.0 ∙ named.0, sym is.1 ∙ named.1)))
  switch_operated net f (op.Remove k p) n a out = switch_without net a k p (λ named. out (switch_named k p a named))
  switch_operated net f (op.Health balancer backend true) n a out = refl
  switch_operated net f (op.Health balancer backend false) n a out = refl

  port_operated : (net : Network) → IsFit net → (o : Op) (n : ℕ) (q : Name) → ¬ Among (unit.Port q) (units_by before after o) → at (operated net o n).switch_ports q ≡ at net.switch_ports q
  port_operated net f (op.Add r) n q out = port_beside net q (born n r) (λ named. let is = born_named n r in out (port_named (kind_of r) (name_of r) q (sym is.0 ∙ named.0, sym is.1 ∙ named.1)))
  port_operated net f (op.Set k p c) n q out =
      port_unchanged net q c (record_at net k p) (λ r found named. let is = named_at net f k p r found in out (port_named k p q (sym is.0 ∙ named.0, sym is.1 ∙ named.1)))
  port_operated net f (op.Remove k p) n q out = port_without net q k p (λ named. out (port_named k p q named))
  port_operated net f (op.Health balancer backend true) n q out = refl
  port_operated net f (op.Health balancer backend false) n q out = refl

  router_operated : (net : Network) → IsFit net → (o : Op) (n : ℕ) (a : Name) → ¬ Among (unit.Switch a) (units_by before after o) → at (operated net o n).routers a ≡ at net.routers a
  router_operated net f (op.Add r) n a out = router_beside net a (born n r) (λ named. let is = born_named n r in out (router_named (kind_of r) (name_of r) a (sym is.0 ∙ named.0, sym is.1 ∙ named.1)))
  router_operated net f (op.Set k p c) n a out =
      router_unchanged net a c (record_at net k p) (λ r found named. let is = named_at net f k p r found in out (router_named k p a (sym is.0 ∙ named.0, sym is.1 ∙ named.1)))
  router_operated net f (op.Remove k p) n a out = router_without net a k p (λ named. out (router_named k p a named))
  router_operated net f (op.Health balancer backend true) n a out = refl
  router_operated net f (op.Health balancer backend false) n a out = refl

  router_port_operated : (net : Network) → IsFit net → (o : Op) (n : ℕ) (q : Name) → ¬ Among (unit.Port q) (units_by before after o) → at (operated net o n).router_ports q ≡ at net.router_ports q
  router_port_operated net f (op.Add r) n q out = router_port_beside net q (born n r) (λ named. let is = born_named n r in out (router_port_named (kind_of r) (name_of r) q (sym is.0 ∙ named.0, sym is.1 ∙ named.1)))
  router_port_operated net f (op.Set k p c) n q out =
      router_port_unchanged net q c (record_at net k p) (λ r found named. let is = named_at net f k p r found in out (router_port_named k p q (sym is.0 ∙ named.0, sym is.1 ∙ named.1)))
  router_port_operated net f (op.Remove k p) n q out = router_port_without net q k p (λ named. out (router_port_named k p q named))
  router_port_operated net f (op.Health balancer backend true) n q out = refl
  router_port_operated net f (op.Health balancer backend false) n q out = refl

  -- all of them
  switch_accepted : (net : Network) (ops : List Op) (n : ℕ) → IsFit net → AllByRecursion IsOpInGrammar ops → ops_fault net ops n ≡ None → (a : Name) → ¬ Among (unit.Switch a) (named_by before after ops)
      → at (accepted net ops n).switches a ≡ at net.switches a
  switch_accepted net [] n f g none a out = refl
  switch_accepted net (o ∷ ops) n f g none a out =
      let parts = no_first (op_fault net o) _ none in
      switch_accepted (operated net o n) ops n (operated_fit net o n f g.0 parts.0) g.1 parts.1 a (λ m. out (among_right (unit.Switch a) (units_by before after o) (named_by before after ops) m))
      ∙ switch_operated net f o n a (λ m. out (among_left (unit.Switch a) (units_by before after o) (named_by before after ops) m))

  port_accepted : (net : Network) (ops : List Op) (n : ℕ) → IsFit net → AllByRecursion IsOpInGrammar ops → ops_fault net ops n ≡ None → (q : Name) → ¬ Among (unit.Port q) (named_by before after ops)
      → at (accepted net ops n).switch_ports q ≡ at net.switch_ports q
  port_accepted net [] n f g none q out = refl
  port_accepted net (o ∷ ops) n f g none q out =
      let parts = no_first (op_fault net o) _ none in
      port_accepted (operated net o n) ops n (operated_fit net o n f g.0 parts.0) g.1 parts.1 q (λ m. out (among_right (unit.Port q) (units_by before after o) (named_by before after ops) m))
      ∙ port_operated net f o n q (λ m. out (among_left (unit.Port q) (units_by before after o) (named_by before after ops) m))

  router_accepted : (net : Network) (ops : List Op) (n : ℕ) → IsFit net → AllByRecursion IsOpInGrammar ops → ops_fault net ops n ≡ None → (a : Name) → ¬ Among (unit.Switch a) (named_by before after ops)
      → at (accepted net ops n).routers a ≡ at net.routers a
  router_accepted net [] n f g none a out = refl
  router_accepted net (o ∷ ops) n f g none a out =
      let parts = no_first (op_fault net o) _ none in
      router_accepted (operated net o n) ops n (operated_fit net o n f g.0 parts.0) g.1 parts.1 a (λ m. out (among_right (unit.Switch a) (units_by before after o) (named_by before after ops) m))
      ∙ router_operated net f o n a (λ m. out (among_left (unit.Switch a) (units_by before after o) (named_by before after ops) m))

  router_port_accepted : (net : Network) (ops : List Op) (n : ℕ) → IsFit net → AllByRecursion IsOpInGrammar ops → ops_fault net ops n ≡ None → (q : Name) → ¬ Among (unit.Port q) (named_by before after ops)
      → at (accepted net ops n).router_ports q ≡ at net.router_ports q
  router_port_accepted net [] n f g none q out = refl
  router_port_accepted net (o ∷ ops) n f g none q out =
      let parts = no_first (op_fault net o) _ none in
      router_port_accepted (operated net o n) ops n (operated_fit net o n f g.0 parts.0) g.1 parts.1 q (λ m. out (among_right (unit.Port q) (units_by before after o) (named_by before after ops) m))
      ∙ router_port_operated net f o n q (λ m. out (among_left (unit.Port q) (units_by before after o) (named_by before after ops) m))

  -- ---- a port with its switch

  -- the name of a port's unit
  abbrev name_in : Name → FlowUnit → Name
  name_in other unit.Common = other
  name_in other (unit.Switch a) = other
  name_in other (unit.Port q) = q
  name_in other (unit.RouterPort q) = other

  -- a port is none of the switches
  no_port : (q : Name) (port : Option SwitchPort) → ¬ Among (unit.Port q) (switch_of port)
  no_port q None m = among_none (unit.Port q) m
  no_port q (Some port) m = elim (among_cases (unit.Port q) (unit.Switch port.switch) [] m) [ inl e ↦ cc | inr none ↦ among_none (unit.Port q) none ]

  -- by the name of a port
  by_port : (p q : Name) (port : SwitchPort) → Among (unit.Port q) (units_named before after kind.SwitchPort p) → (at before.switch_ports q ≡ Some port) ⊎ (at after.switch_ports q ≡ Some port)
      → Among (unit.Switch port.switch) (units_named before after kind.SwitchPort p)
  by_port p q port m is =
      let olds = switch_of (at before.switch_ports p) in
      let news = switch_of (at after.switch_ports p) in
      elim (among_cases (unit.Port q) (unit.Port p) (olds ++ news) m) [
        | inl e ↦ (
            let same : q ≡ p = ap (name_in p) e in
            elim is [
              | inl was ↦ there (among_left (unit.Switch port.switch) olds news (subst (λ o. Among (unit.Switch port.switch) (switch_of o)) (sym was ∙ ap (at before.switch_ports) same) here))
              | inr new ↦ there (among_right (unit.Switch port.switch) olds news (subst (λ o. Among (unit.Switch port.switch) (switch_of o)) (sym new ∙ ap (at after.switch_ports) same) here))
            ])
        | inr later ↦ elim (among_append (unit.Port q) olds news later) [ inl m ↦ absurd (no_port q (at before.switch_ports p) m) | inr m ↦ absurd (no_port q (at after.switch_ports p) m) ]
      ]

  -- by the record that an operation names
  with_switch : (k : Kind) (p q : Name) (port : SwitchPort) → Among (unit.Port q) (units_named before after k p) → (at before.switch_ports q ≡ Some port) ⊎ (at after.switch_ports q ≡ Some port)
      → Among (unit.Switch port.switch) (units_named before after k p)
  with_switch kind.Switch p q port m is = elim (among_cases (unit.Port q) (unit.Switch p) [] m) [ inl e ↦ cc | inr none ↦ absurd (among_none (unit.Port q) none) ]
  with_switch kind.Router p q port m is = elim (among_cases (unit.Port q) (unit.Switch p) [] m) [ inl e ↦ cc | inr none ↦ absurd (among_none (unit.Port q) none) ]
  with_switch kind.SwitchPort p q port m is = by_port p q port m is
  with_switch kind.RouterPort p q port m is = by_port p q port m is
  with_switch k p q port m is = absurd (among_none (unit.Port q) m)

  -- by an operation
  with_switch_by : (o : Op) (q : Name) (port : SwitchPort) → Among (unit.Port q) (units_by before after o) → (at before.switch_ports q ≡ Some port) ⊎ (at after.switch_ports q ≡ Some port)
      → Among (unit.Switch port.switch) (units_by before after o)
  with_switch_by (op.Add r) q port m is = with_switch (kind_of r) (name_of r) q port m is
  with_switch_by (op.Set k p c) q port m is = with_switch k p q port m is
  with_switch_by (op.Remove k p) q port m is = with_switch k p q port m is
  with_switch_by (op.Health balancer backend online) q port m is = absurd (among_none (unit.Port q) m)

-- ---- ports that lead into another datapath

module _ (before after : Network) where
  -- a port of a switch is among them by its name
  leading_with_switch : (net : Network) (q : Name) (port : SwitchPort) → Among (unit.Port q) (units_leading before after net) → (at before.switch_ports q ≡ Some port) ⊎ (at after.switch_ports q ≡ Some port)
      → Among (unit.Switch port.switch) (units_leading before after net)
  leading_with_switch net q port m is =
      let by = λ (p : Name). units_named before after kind.SwitchPort p in
      let r = flat_map_among by (unit.Port q) (ports_leading net) m in
      among_flat_map by r.0 (unit.Switch port.switch) (ports_leading net) r.1 (by_port before after r.0 q port r.2 is)

  -- no port of a router is one of a switch
  no_router_port : (net : Network) (q : Name) → ¬ Among (unit.Port q) (router_port_units net)
  no_router_port net q m = let r = map_among (λ (e : Name × RouterPort). unit.RouterPort e.0) (unit.Port q) net.router_ports m in let clash = r.2 in cc

  -- a port that isn't virtual leads to a router's port, which is there
  is_leading : (net : Network) → IsValid net → (q : Name) (port : SwitchPort) → at net.switch_ports q ≡ Some port → is_virtual port ≡ false → Among (unit.Port q) (units_leading before after net)
  is_leading net valid q port found leads =
      among_flat_map (λ (p : Name). units_named before after kind.SwitchPort p) q (unit.Port q) (ports_leading net) (by net.router_ports refl) here
    where
      own : Among q (to_routers net)
      own = among_map (λ (e : Name × SwitchPort). e.0) (q, port) (filter (λ (e : Name × SwitchPort). not (is_virtual e.1)) net.switch_ports)
          (among_filter (λ (e : Name × SwitchPort). not (is_virtual e.1)) (q, port) net.switch_ports (at_among net.switch_ports q port found) (ap not leads))

      by : (ports : List (Name × RouterPort)) → net.router_ports ≡ ports → Among q (ports_leading net)
      by [] none = absurd (false≢true (sym leads ∙ virtual_ports net valid none q port found))
      by (p ∷ ps) some = subst (λ (l : List (Name × RouterPort)). Among q (cond (has_some l) (to_routers net) [])) (sym some) own

module _ (before after : Network) (ops : List Op) where
  abbrev first : List FlowUnit
  first = units_leading before after before

  abbrev second : List FlowUnit
  second = units_leading before after after

  abbrev third : List FlowUnit
  third = router_port_units before

  -- the units of ports that lead on are touched, whatever the operations are
  from_before : (u : FlowUnit) → Among u first → Among u (touched_by before after ops)
  from_before u m = among_right u (named_by before after ops) (leading_units before after) (among_left u (first ++ second ++ third) (router_port_units after) (among_left u (first ++ second) third (among_left u first second m)))

  from_after : (u : FlowUnit) → Among u second → Among u (touched_by before after ops)
  from_after u m = among_right u (named_by before after ops) (leading_units before after) (among_left u (first ++ second ++ third) (router_port_units after) (among_left u (first ++ second) third (among_right u first second m)))

  -- with a port that is touched so are the switches that it was and is on
  pub port_with_switch : (q : Name) (port : SwitchPort) → Among (unit.Port q) (touched_by before after ops) → (at before.switch_ports q ≡ Some port) ⊎ (at after.switch_ports q ≡ Some port)
      → Among (unit.Switch port.switch) (touched_by before after ops)
  port_with_switch q port m is = elim (among_append (unit.Port q) (named_by before after ops) (leading_units before after) m) [
    | inl named ↦
        let by = λ (o : Op). units_by before after o in
        let r = flat_map_among by (unit.Port q) ops named in
        among_left (unit.Switch port.switch) (named_by before after ops) (leading_units before after) (among_flat_map by r.0 (unit.Switch port.switch) ops r.1 (with_switch_by before after r.0 q port r.2 is))
    | inr leads ↦ elim (among_append (unit.Port q) (first ++ second ++ third) (router_port_units after) leads) [
      | inl a ↦ elim (among_append (unit.Port q) (first ++ second) third a) [
        | inl b ↦ elim (among_append (unit.Port q) first second b) [
          | inl was ↦ from_before (unit.Switch port.switch) (leading_with_switch before after before q port was is)
          | inr now ↦ from_after (unit.Switch port.switch) (leading_with_switch before after after q port now is)
        ]
        | inr c ↦ absurd (no_router_port before after before q c)
      ]
      | inr d ↦ absurd (no_router_port before after after q d)
    ]
  ]

  -- each port of a switch that leads to a router is touched
  pub to_router_touched : IsValid before → IsValid after → (q : Name) (port : SwitchPort) → (at before.switch_ports q ≡ Some port) ⊎ (at after.switch_ports q ≡ Some port) → is_virtual port ≡ false
      → Among (unit.Port q) (touched_by before after ops)
  to_router_touched valid valid_then q port (inl was) leads = from_before (unit.Port q) (is_leading before after before valid q port was leads)
  to_router_touched valid valid_then q port (inr now) leads = from_after (unit.Port q) (is_leading before after after valid_then q port now leads)

  -- and so is each port of a router
  pub router_port_touched : (p : Name) (port : RouterPort) → (at before.router_ports p ≡ Some port) ⊎ (at after.router_ports p ≡ Some port) → Among (unit.RouterPort p) (touched_by before after ops)
  router_port_touched p port (inl was) =
      among_right (unit.RouterPort p) (named_by before after ops) (leading_units before after)
      (among_left (unit.RouterPort p) (first ++ second ++ third) (router_port_units after)
      (among_right (unit.RouterPort p) (first ++ second) third (among_map (λ (e : Name × RouterPort). unit.RouterPort e.0) (p, port) before.router_ports (at_among before.router_ports p port was))))
  router_port_touched p port (inr now) =
      among_right (unit.RouterPort p) (named_by before after ops) (leading_units before after)
      (among_right (unit.RouterPort p) (first ++ second ++ third) (router_port_units after) (among_map (λ (e : Name × RouterPort). unit.RouterPort e.0) (p, port) after.router_ports (at_among after.router_ports p port now)))

-- all ports that lead into another datapath are among their units, with the switches of those that lead to routers
pub has_leading : (net : Network) → IsValid net → (units : List FlowUnit) → ((u : FlowUnit) → Among u units ↔ Among u (leading_units net net)) → HasLeading units net
has_leading net valid units all = record {
  router_ports = λ p port is. (all (unit.RouterPort p)).1 (router_port_touched net net [] p port (inl is));
  to_routers = λ q port is leads. (all (unit.Port q)).1 (to_router_touched net net [] valid valid q port (inl is) leads);
  on = λ q port is leads. (all (unit.Switch port.switch)).1 (port_with_switch net net [] q port (to_router_touched net net [] valid valid q port (inl is) leads) (inl is));
}

-- ---- who isn't touched stays

module _ (net : Network) (ops : List Op) (n : ℕ) (valid : IsValid net) (grammar : AllByRecursion IsOpInGrammar ops) (none : fault_of net ops n ≡ None) where
  abbrev next : Network
  next = accepted net ops n

  unnamed : (u : FlowUnit) → ¬ Among u (touched_by net next ops) → ¬ Among u (named_by net next ops)
  unnamed u out m = out (among_left u (named_by net next ops) (leading_units net next) m)

  -- a switch that isn't touched stays as it is
  pub switch_kept : (a : Name) → ¬ Among (unit.Switch a) (touched_by net next ops) → at next.switches a ≡ at net.switches a
  switch_kept a out = switch_accepted net next net ops n (valid_fit net valid) grammar (ops_pass net ops n none) a (unnamed (unit.Switch a) out)

  -- so does a router
  pub router_kept : (a : Name) → ¬ Among (unit.Switch a) (touched_by net next ops) → at next.routers a ≡ at net.routers a
  router_kept a out = router_accepted net next net ops n (valid_fit net valid) grammar (ops_pass net ops n none) a (unnamed (unit.Switch a) out)

  -- and a port
  pub port_kept : (q : Name) → ¬ Among (unit.Port q) (touched_by net next ops) → at next.switch_ports q ≡ at net.switch_ports q
  port_kept q out = port_accepted net next net ops n (valid_fit net valid) grammar (ops_pass net ops n none) q (unnamed (unit.Port q) out)

  pub router_port_kept : (p : Name) → ¬ Among (unit.Port p) (touched_by net next ops) → at next.router_ports p ≡ at net.router_ports p
  router_port_kept p out = router_port_accepted net next net ops n (valid_fit net valid) grammar (ops_pass net ops n none) p (unnamed (unit.Port p) out)
