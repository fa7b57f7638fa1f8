-- Switches, routers and their ports stay through an edit of what is built, with their births, ports on their datapaths, and those of switches of their kinds.
use Rattle.std.specs.Prelude.{◌≡◌, ℕ, true, false, List, [], ◌∷◌, Option, Some, None, option_map, refl}
use Rattle.std.specs.List.{AllByRecursion}
use Rattle.std.proofs.lemmas.Bool.{false≢true, and_parts}
use mathlib.Core.Path.{sym, ap, ◌∙◌}
use mathlib.Core.Logic.{inl, inr}
use Rattle.ovn_base.specs.declared.name.Name.{Name}
use Rattle.ovn_base.specs.names.ByName.{at, put}
use Rattle.ovn_base.proofs.ByNameLaws.{one_or_two, put_there, put_other}
use Rattle.nb_records.specs.Editing.{born, changed_record, with_change, operated, accepted}
use Rattle.nb_records.specs.Grammar.{IsOpInGrammar}
use Rattle.nb_records.specs.Network.{Network, with_record, record_at, is_there, kind_of, name_of}
use Rattle.nb_records.specs.declared.change.Change.{Change}
use Rattle.nb_records.specs.declared.change.Change.TheVariants as change
use Rattle.nb_records.specs.declared.change.Op.{Op}
use Rattle.nb_records.specs.declared.change.Op.TheVariants as op
use Rattle.nb_records.specs.declared.kinds.Kind.TheVariants as kind
use Rattle.nb_records.specs.declared.record.Record.{Record}
use Rattle.nb_records.specs.declared.record.Record.TheVariants as row
use Rattle.nb_records.specs.declared.router.Router.{Router}
use Rattle.nb_records.specs.declared.router.RouterPort.{RouterPort}
use Rattle.nb_records.specs.declared.switch.Switch.{Switch}
use Rattle.nb_records.specs.declared.switch.SwitchPort.{SwitchPort}
use Rattle.nb_rules.specs.First.{fault_if}
use Rattle.nb_rules.specs.Valid.{IsValid}
use Rattle.nb_edits.proofs.EditValidity.{IsFit, neither, not_there, no_first, no_fault, operated_fit, valid_fit}
use Rattle.nb_edits.specs.OpFaults.{is_taken_for, op_fault, ops_fault, fault_of}
use Rattle.world_setup.specs.Built.{is_built_op, is_built_edit}
use Rattle.world_setup.proofs.NamedRecords.{itself_at}
use Rattle.world_setup.proofs.TouchedRecords.{ops_pass}

-- the port is at the name, of its birth, on its switch and of its kind, or on its router
abbrev pub StaysAt : Network → Name → SwitchPort → Type 0
StaysAt net q port = (now : SwitchPort) × (at net.switch_ports q ≡ Some now) × (now.birth ≡ port.birth) × (now.switch ≡ port.switch) × (now.kind ≡ port.kind)

abbrev pub RouterPortStaysAt : Network → Name → RouterPort → Type 0
RouterPortStaysAt net p port = (now : RouterPort) × (at net.router_ports p ≡ Some now) × (now.birth ≡ port.birth) × (now.router ≡ port.router)

-- ---- a record that is put

-- none is at its name, or the switch or the router itself, or a port of its birth, on its datapath and of its kind
abbrev AgreesWith : Network → Record → Type 0
AgreesWith net (row.Switch r) = (s : Switch) → at net.switches r.name ≡ Some s → r ≡ s
AgreesWith net (row.SwitchPort r) = (s : SwitchPort) → at net.switch_ports r.name ≡ Some s → (r.birth ≡ s.birth) × (r.switch ≡ s.switch) × (r.kind ≡ s.kind)
AgreesWith net (row.Router r) = (s : Router) → at net.routers r.name ≡ Some s → r ≡ s
AgreesWith net (row.RouterPort r) = (s : RouterPort) → at net.router_ports r.name ≡ Some s → (r.birth ≡ s.birth) × (r.router ≡ s.router)
AgreesWith net r = Unit {0}

-- a new record does
born_agrees : (net : Network) (n : ℕ) (r : Record) → is_taken_for net (kind_of r) (name_of r) ≡ false → AgreesWith net (born n r)
born_agrees net n (row.Switch r) free = λ s found.
    let none = not_there row.Switch (at net.switches r.name) (neither (is_there net kind.Switch r.name) (is_there net kind.Router r.name) free).0 in
    let clash : None ≡ Some s = sym none ∙ found in
    cc
born_agrees net n (row.SwitchPort r) free = λ s found.
    let none = not_there row.SwitchPort (at net.switch_ports r.name) (neither (is_there net kind.RouterPort r.name) (is_there net kind.SwitchPort r.name) free).1 in
    let clash : None ≡ Some s = sym none ∙ found in
    absurd cc
born_agrees net n (row.Router r) free = λ s found.
    let none = not_there row.Router (at net.routers r.name) (neither (is_there net kind.Switch r.name) (is_there net kind.Router r.name) free).1 in
    let clash : None ≡ Some s = sym none ∙ found in
    cc
born_agrees net n (row.RouterPort r) free = λ s found.
    let none = not_there row.RouterPort (at net.router_ports r.name) (neither (is_there net kind.RouterPort r.name) (is_there net kind.SwitchPort r.name) free).0 in
    let clash : None ≡ Some s = sym none ∙ found in
    absurd cc
born_agrees net n r free = tt

-- the switch, the router or the port that the record is
abbrev switch_in : Switch → Option Record → Switch
switch_in other (Some (row.Switch r)) = r
switch_in other r = other

abbrev port_in : SwitchPort → Option Record → SwitchPort
port_in other (Some (row.SwitchPort r)) = r
port_in other r = other

abbrev router_in : Router → Option Record → Router
router_in other (Some (row.Router r)) = r
router_in other r = other

abbrev router_port_in : RouterPort → Option Record → RouterPort
router_port_in other (Some (row.RouterPort r)) = r
router_port_in other r = other

-- a record that is there does
there_agrees : (net : Network) (r : Record) → record_at net (kind_of r) (name_of r) ≡ Some r → AgreesWith net r
there_agrees net (row.Switch r) is = λ s found. ap (switch_in r) (sym is ∙ ap (option_map row.Switch) found)
there_agrees net (row.SwitchPort r) is = λ s found.
    let same : r ≡ s = ap (port_in r) (sym is ∙ ap (option_map row.SwitchPort) found) in
    (ap (λ (x : SwitchPort). x.birth) same, ap (λ (x : SwitchPort). x.switch) same, ap (λ (x : SwitchPort). x.kind) same)
there_agrees net (row.Router r) is = λ s found. ap (router_in r) (sym is ∙ ap (option_map row.Router) found)
there_agrees net (row.RouterPort r) is = λ s found.
    let same : r ≡ s = ap (router_port_in r) (sym is ∙ ap (option_map row.RouterPort) found) in
    (ap (λ (x : RouterPort). x.birth) same, ap (λ (x : RouterPort). x.router) same)
there_agrees net r is = tt

-- so it does when it is changed
changed_agrees : (net : Network) (c : Change) (r : Record) → AgreesWith net r → AgreesWith net (changed_record c r)
changed_agrees net (change.RouterPort mac networks peer) (row.RouterPort r) h = h
changed_agrees net (change.SwitchPort addresses port_security enabled) (row.SwitchPort r) h = h
changed_agrees net (change.AddressSet addresses) (row.AddressSet r) h = h
changed_agrees net (change.PortGroup ports) (row.PortGroup r) h = h
changed_agrees net (change.Acl priority matching action) (row.Acl r) h = h
changed_agrees net (change.Route prefix nexthop) (row.Route r) h = h
changed_agrees net (change.Nat external_ip logical_ip) (row.Nat r) h = h
changed_agrees net (change.LoadBalancer vips switches routers) (row.LoadBalancer r) h = h
changed_agrees net (change.StaticMac ip mac) (row.StaticMac r) h = h
changed_agrees net c r h = h

module _ (net : Network) where
  -- what was there stays where such a record is put
  switch_stays_with : (r : Record) → AgreesWith net r → (a : Name) (s : Switch) → at net.switches a ≡ Some s → at (with_record net r).switches a ≡ Some s
  switch_stays_with (row.Switch r) agrees a s found = elim (one_or_two a r.name) [
    | inl same ↦ ap (at (put net.switches r.name r)) same ∙ put_there net.switches r.name r ∙ ap Some (agrees s (ap (at net.switches) (sym same) ∙ found))
    | inr apart ↦ put_other net.switches r.name r a apart ∙ found
  ]
  switch_stays_with r agrees a s found = found

  port_stays_with : (r : Record) → AgreesWith net r → (q : Name) (p : SwitchPort) → at net.switch_ports q ≡ Some p → StaysAt (with_record net r) q p
  port_stays_with (row.SwitchPort r) agrees q p found = elim (one_or_two q r.name) [
    | inl same ↦ (let is = agrees p (ap (at net.switch_ports) (sym same) ∙ found) in (r, ap (at (put net.switch_ports r.name r)) same ∙ put_there net.switch_ports r.name r, is.0, is.1, is.2))
    | inr apart ↦ (p, put_other net.switch_ports r.name r q apart ∙ found, refl, refl, refl)
  ]
  port_stays_with r agrees q p found = (p, found, refl, refl, refl)

  router_stays_with : (r : Record) → AgreesWith net r → (a : Name) (s : Router) → at net.routers a ≡ Some s → at (with_record net r).routers a ≡ Some s
  router_stays_with (row.Router r) agrees a s found = elim (one_or_two a r.name) [
    | inl same ↦ ap (at (put net.routers r.name r)) same ∙ put_there net.routers r.name r ∙ ap Some (agrees s (ap (at net.routers) (sym same) ∙ found))
    | inr apart ↦ put_other net.routers r.name r a apart ∙ found
  ]
  router_stays_with r agrees a s found = found

  router_port_stays_with : (r : Record) → AgreesWith net r → (q : Name) (p : RouterPort) → at net.router_ports q ≡ Some p → RouterPortStaysAt (with_record net r) q p
  router_port_stays_with (row.RouterPort r) agrees q p found = elim (one_or_two q r.name) [
    | inl same ↦ (let is = agrees p (ap (at net.router_ports) (sym same) ∙ found) in (r, ap (at (put net.router_ports r.name r)) same ∙ put_there net.router_ports r.name r, is.0, is.1))
    | inr apart ↦ (p, put_other net.router_ports r.name r q apart ∙ found, refl, refl)
  ]
  router_port_stays_with r agrees q p found = (p, found, refl, refl)

  -- and where one is changed
  switch_stays_changed : (c : Change) (x : Option Record) → ((r : Record) → x ≡ Some r → AgreesWith net r) → (a : Name) (s : Switch) → at net.switches a ≡ Some s → at (with_change net c x).switches a ≡ Some s
  switch_stays_changed c None agrees a s found = found
  switch_stays_changed c (Some r) agrees a s found = switch_stays_with (changed_record c r) (changed_agrees net c r (agrees r refl)) a s found

  port_stays_changed : (c : Change) (x : Option Record) → ((r : Record) → x ≡ Some r → AgreesWith net r) → (q : Name) (p : SwitchPort) → at net.switch_ports q ≡ Some p → StaysAt (with_change net c x) q p
  port_stays_changed c None agrees q p found = (p, found, refl, refl, refl)
  port_stays_changed c (Some r) agrees q p found = port_stays_with (changed_record c r) (changed_agrees net c r (agrees r refl)) q p found

  router_stays_changed : (c : Change) (x : Option Record) → ((r : Record) → x ≡ Some r → AgreesWith net r) → (a : Name) (s : Router) → at net.routers a ≡ Some s → at (with_change net c x).routers a ≡ Some s
  router_stays_changed c None agrees a s found = found
  router_stays_changed c (Some r) agrees a s found = router_stays_with (changed_record c r) (changed_agrees net c r (agrees r refl)) a s found

  router_port_stays_changed : (c : Change) (x : Option Record) → ((r : Record) → x ≡ Some r → AgreesWith net r) → (q : Name) (p : RouterPort) → at net.router_ports q ≡ Some p → RouterPortStaysAt (with_change net c x) q p
  router_port_stays_changed c None agrees q p found = (p, found, refl, refl)
  router_port_stays_changed c (Some r) agrees q p found = router_port_stays_with (changed_record c r) (changed_agrees net c r (agrees r refl)) q p found

  -- ---- operations

  -- an added record has a new name
  added_agrees : (n : ℕ) (r : Record) → op_fault net (op.Add r) ≡ None → AgreesWith net (born n r)
  added_agrees n r none = born_agrees net n r (no_fault (is_taken_for net (kind_of r) (name_of r)) _ (no_first (fault_if (is_taken_for net (kind_of r) (name_of r)) _) _ none).0)

  -- what was there stays through one operation
  switch_stays_by : IsFit net → (o : Op) (n : ℕ) → is_built_op o ≡ true → op_fault net o ≡ None → (a : Name) (s : Switch) → at net.switches a ≡ Some s → at (operated net o n).switches a ≡ Some s
  switch_stays_by f (op.Add r) n is none a s found = switch_stays_with (born n r) (added_agrees n r none) a s found
  switch_stays_by f (op.Set k q c) n is none a s found = switch_stays_changed c (record_at net k q) (λ r there. there_agrees net r (itself_at net f k q r there)) a s found
  switch_stays_by f (op.Remove k q) n is none a s found = absurd (false≢true is)
  switch_stays_by f (op.Health balancer backend online) n is none a s found = absurd (false≢true is)

  port_stays_by : IsFit net → (o : Op) (n : ℕ) → is_built_op o ≡ true → op_fault net o ≡ None → (q : Name) (p : SwitchPort) → at net.switch_ports q ≡ Some p → StaysAt (operated net o n) q p
  port_stays_by f (op.Add r) n is none q p found = port_stays_with (born n r) (added_agrees n r none) q p found
  port_stays_by f (op.Set k a c) n is none q p found = port_stays_changed c (record_at net k a) (λ r there. there_agrees net r (itself_at net f k a r there)) q p found
  port_stays_by f (op.Remove k a) n is none q p found = absurd (false≢true is)
  port_stays_by f (op.Health balancer backend online) n is none q p found = absurd (false≢true is)

  router_stays_by : IsFit net → (o : Op) (n : ℕ) → is_built_op o ≡ true → op_fault net o ≡ None → (a : Name) (s : Router) → at net.routers a ≡ Some s → at (operated net o n).routers a ≡ Some s
  router_stays_by f (op.Add r) n is none a s found = router_stays_with (born n r) (added_agrees n r none) a s found
  router_stays_by f (op.Set k q c) n is none a s found = router_stays_changed c (record_at net k q) (λ r there. there_agrees net r (itself_at net f k q r there)) a s found
  router_stays_by f (op.Remove k q) n is none a s found = absurd (false≢true is)
  router_stays_by f (op.Health balancer backend online) n is none a s found = absurd (false≢true is)

  router_port_stays_by : IsFit net → (o : Op) (n : ℕ) → is_built_op o ≡ true → op_fault net o ≡ None → (q : Name) (p : RouterPort) → at net.router_ports q ≡ Some p → RouterPortStaysAt (operated net o n) q p
  router_port_stays_by f (op.Add r) n is none q p found = router_port_stays_with (born n r) (added_agrees n r none) q p found
  router_port_stays_by f (op.Set k a c) n is none q p found = router_port_stays_changed c (record_at net k a) (λ r there. there_agrees net r (itself_at net f k a r there)) q p found
  router_port_stays_by f (op.Remove k a) n is none q p found = absurd (false≢true is)
  router_port_stays_by f (op.Health balancer backend online) n is none q p found = absurd (false≢true is)

-- and through all of them
switch_stays_through : (net : Network) (ops : List Op) (n : ℕ) → IsFit net → AllByRecursion IsOpInGrammar ops → is_built_edit ops ≡ true → ops_fault net ops n ≡ None
    → (a : Name) (s : Switch) → at net.switches a ≡ Some s → at (accepted net ops n).switches a ≡ Some s
switch_stays_through net [] n f g is none a s found = found
switch_stays_through net (o ∷ ops) n f g is none a s found =
    let parts = no_first (op_fault net o) _ none in
    let each = and_parts (is_built_op o) (is_built_edit ops) is in
    switch_stays_through (operated net o n) ops n (operated_fit net o n f g.0 parts.0) g.1 each.1 parts.1 a s (switch_stays_by net f o n each.0 parts.0 a s found)

port_stays_through : (net : Network) (ops : List Op) (n : ℕ) → IsFit net → AllByRecursion IsOpInGrammar ops → is_built_edit ops ≡ true → ops_fault net ops n ≡ None
    → (q : Name) (p : SwitchPort) → at net.switch_ports q ≡ Some p → StaysAt (accepted net ops n) q p
port_stays_through net [] n f g is none q p found = (p, found, refl, refl, refl)
port_stays_through net (o ∷ ops) n f g is none q p found =
    let parts = no_first (op_fault net o) _ none in
    let each = and_parts (is_built_op o) (is_built_edit ops) is in
    let mid = port_stays_by net f o n each.0 parts.0 q p found in
    let last = port_stays_through (operated net o n) ops n (operated_fit net o n f g.0 parts.0) g.1 each.1 parts.1 q mid.0 mid.1 in
    (last.0, last.1, last.2 ∙ mid.2, last.3 ∙ mid.3, last.4 ∙ mid.4)

router_stays_through : (net : Network) (ops : List Op) (n : ℕ) → IsFit net → AllByRecursion IsOpInGrammar ops → is_built_edit ops ≡ true → ops_fault net ops n ≡ None
    → (a : Name) (s : Router) → at net.routers a ≡ Some s → at (accepted net ops n).routers a ≡ Some s
router_stays_through net [] n f g is none a s found = found
router_stays_through net (o ∷ ops) n f g is none a s found =
    let parts = no_first (op_fault net o) _ none in
    let each = and_parts (is_built_op o) (is_built_edit ops) is in
    router_stays_through (operated net o n) ops n (operated_fit net o n f g.0 parts.0) g.1 each.1 parts.1 a s (router_stays_by net f o n each.0 parts.0 a s found)

router_port_stays_through : (net : Network) (ops : List Op) (n : ℕ) → IsFit net → AllByRecursion IsOpInGrammar ops → is_built_edit ops ≡ true → ops_fault net ops n ≡ None
    → (q : Name) (p : RouterPort) → at net.router_ports q ≡ Some p → RouterPortStaysAt (accepted net ops n) q p
router_port_stays_through net [] n f g is none q p found = (p, found, refl, refl)
router_port_stays_through net (o ∷ ops) n f g is none q p found =
    let parts = no_first (op_fault net o) _ none in
    let each = and_parts (is_built_op o) (is_built_edit ops) is in
    let mid = router_port_stays_by net f o n each.0 parts.0 q p found in
    let last = router_port_stays_through (operated net o n) ops n (operated_fit net o n f g.0 parts.0) g.1 each.1 parts.1 q mid.0 mid.1 in
    (last.0, last.1, last.2 ∙ mid.2, last.3 ∙ mid.3)

module _ (net : Network) (ops : List Op) (n : ℕ) (valid : IsValid net) (grammar : AllByRecursion IsOpInGrammar ops) (none : fault_of net ops n ≡ None) where
  -- no switch goes or changes, and no router
  pub switches_stay : is_built_edit ops ≡ true → (a : Name) (s : Switch) → at net.switches a ≡ Some s → at (accepted net ops n).switches a ≡ Some s
  switches_stay is a s found = switch_stays_through net ops n (valid_fit net valid) grammar is (ops_pass net ops n none) a s found

  pub routers_stay : is_built_edit ops ≡ true → (a : Name) (r : Router) → at net.routers a ≡ Some r → at (accepted net ops n).routers a ≡ Some r
  routers_stay is a r found = router_stays_through net ops n (valid_fit net valid) grammar is (ops_pass net ops n none) a r found

  -- no port goes, is another or moves
  pub ports_stay : is_built_edit ops ≡ true → (q : Name) (p : SwitchPort) → at net.switch_ports q ≡ Some p → StaysAt (accepted net ops n) q p
  ports_stay is q p found = port_stays_through net ops n (valid_fit net valid) grammar is (ops_pass net ops n none) q p found

  pub router_ports_stay : is_built_edit ops ≡ true → (p : Name) (port : RouterPort) → at net.router_ports p ≡ Some port → RouterPortStaysAt (accepted net ops n) p port
  router_ports_stay is p port found = router_port_stays_through net ops n (valid_fit net valid) grammar is (ops_pass net ops n none) p port found
