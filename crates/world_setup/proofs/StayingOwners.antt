-- No owner of a key goes with an edit of what is built, and no binding does.
use Rattle.std.specs.Prelude.{◌≡◌, ℕ, Bool, true, false, cond, not, List, [], ◌∷◌, filter, Some, None, IsSome, option_map, refl}
use Rattle.std.specs.List.{AllByRecursion}
use mathlib.Core.Path.{sym, ap, ◌∙◌}
use mathlib.Core.Logic.{inl, inr}
use Rattle.ovn_base.specs.declared.name.Name.{Name}
use Rattle.ovn_base.specs.lists.Among.{Among, here, there}
use Rattle.ovn_base.specs.names.ByName.{at}
use Rattle.nb_records.specs.Editing.{accepted}
use Rattle.nb_records.specs.Grammar.{IsOpInGrammar}
use Rattle.nb_records.specs.Network.{Network}
use Rattle.nb_records.specs.declared.change.Op.{Op}
use Rattle.nb_records.specs.declared.kinds.Kind.TheVariants as kind
use Rattle.nb_records.specs.declared.record.Record.TheVariants as row
use Rattle.nb_records.specs.declared.switch.SwitchPort.{SwitchPort}
use Rattle.nb_rules.specs.Valid.{IsValid}
use Rattle.nb_edits.proofs.EditValidity.{Fits, valid_fit, accepted_fit}
use Rattle.nb_edits.proofs.KindLists.{kept_at}
use Rattle.nb_edits.proofs.OwnerLaws.{Owns, among_owns, owns_among, among_listed}
use Rattle.nb_edits.specs.OpFaults.{fault_of}
use Rattle.net_model.specs.Config.{port_identity}
use Rattle.net_model.specs.Owners.{owners_of, owners_only_in}
use Rattle.net_model.specs.Transition.{identity_at, is_identity, is_still_there, still_bound}
use Rattle.tunnel_keys.specs.Owners.{is_listed}
use Rattle.tunnel_keys.specs.Same.{identity_own}
use Rattle.tunnel_keys.specs.declared.owner.Identity.{Identity}
use Rattle.tunnel_keys.specs.declared.owner.KeyOwner.{KeyOwner}
use Rattle.tunnel_keys.specs.declared.owner.KeyOwner.TheVariants.{Datapath, Port}
use Rattle.physical_flows.proofs.FlowSearch.{some_of}
use Rattle.world_setup.specs.Built.{is_built_edit}
use Rattle.world_setup.proofs.StayingRecords.{ports_stay, router_ports_stay, routers_stay, switches_stay}
use Rattle.world_setup.proofs.TouchedRecords.{ops_pass}

-- ---- tests that none or all pass

-- none is left where none passes
none_pass : {X : Type 0} (test : X → Bool) (xs : List X) → ((x : X) → Among x xs → test x ≡ false) → filter test xs ≡ []
none_pass test [] h = refl
none_pass test (x ∷ xs) h = ap (λ b. cond b (x ∷ filter test xs) (filter test xs)) (h x here) ∙ none_pass test xs (λ y m. h y (there m))

-- and all are where all pass
all_pass : {X : Type 0} (test : X → Bool) (xs : List X) → ((x : X) → Among x xs → test x ≡ true) → filter test xs ≡ xs
all_pass test [] h = refl
all_pass test (x ∷ xs) h = ap (λ b. cond b (x ∷ filter test xs) (filter test xs)) (h x here) ∙ ap (λ l. x ∷ l) (all_pass test xs (λ y m. h y (there m)))

module _ (net : Network) (ops : List Op) (n : ℕ) (valid : IsValid net) (grammar : AllByRecursion IsOpInGrammar ops) (none : fault_of net ops n ≡ None) (is : is_built_edit ops ≡ true) where
  abbrev after : Network
  after = accepted net ops n

  -- ---- owners

  -- an owner stays one
  still_owns : (o : KeyOwner) → Owns net o → Owns after o
  still_owns (Datapath name birth) (inl h) = inl (h.0, switches_stay net ops n valid grammar none is name h.0 h.1, h.2)
  still_owns (Datapath name birth) (inr h) = inr (h.0, routers_stay net ops n valid grammar none is name h.0 h.1, h.2)
  still_owns (Port datapath name birth) (inl h) = let now = router_ports_stay net ops n valid grammar none is name h.0 h.1 in inl (now.0, now.1, now.3 ∙ h.2, now.2 ∙ h.3)
  still_owns (Port datapath name birth) (inr h) = let now = ports_stay net ops n valid grammar none is name h.0 h.1 in inr (now.0, now.1, now.3 ∙ h.2, now.2 ∙ h.3)

  -- no owner goes
  pub none_gone : owners_only_in net after ≡ []
  none_gone = none_pass (λ (o : KeyOwner). not (is_listed (owners_of after) o)) (owners_of net) (λ o m.
      ap not (among_listed (owners_of after) o (owns_among after o (still_owns o (among_owns net valid.in_order o m)))))

  -- ---- bindings

  -- each port is at its own name, before and after
  named_before : (q : Name) (p : SwitchPort) → at net.switch_ports q ≡ Some p → p.name ≡ q
  named_before q p found = (kept_at (λ (s : SwitchPort). s.name) (λ s. Fits (row.SwitchPort s)) net.switch_ports ((valid_fit net valid).each kind.SwitchPort) q p found).0

  named_after : (q : Name) (p : SwitchPort) → at after.switch_ports q ≡ Some p → p.name ≡ q
  named_after q p found =
      let fit = accepted_fit net ops n (valid_fit net valid) grammar (ops_pass net ops n none) in
      (kept_at (λ (s : SwitchPort). s.name) (λ s. Fits (row.SwitchPort s)) after.switch_ports (fit.each kind.SwitchPort) q p found).0

  -- a port is still there as the one that it was
  pub still_there : (q : Name) (p : SwitchPort) → at net.switch_ports q ≡ Some p → is_still_there after (identity_at net q) ≡ true
  still_there q p found =
      let now = ports_stay net ops n valid grammar none is q p found in
      let own : p.name ≡ q = named_before q p found in
      let name : now.0.name ≡ p.name = named_after q now.0 now.1 ∙ sym own in
      let birth = now.2 in
      let id : Identity = port_identity p in
      let same : port_identity now.0 ≡ id = λ i. record { name = name i; birth = birth i } in
      let before : identity_at net q ≡ Some id = ap (λ o. option_map port_identity o) found in
      let later : identity_at after id.name ≡ Some id = ap (λ a. identity_at after a) own ∙ ap (λ o. option_map port_identity o) now.1 ∙ ap Some same in
      ap (λ o. is_still_there after o) before ∙ ap (λ o. is_identity id o) later ∙ identity_own id

  -- no binding goes
  pub bindings_stay : (bindings : List (Name × Name)) → ((e : Name × Name) → Among e bindings → IsSome (at net.switch_ports e.0)) → still_bound net after bindings ≡ bindings
  bindings_stay bindings bound = all_pass (λ (e : Name × Name). is_still_there after (identity_at net e.0)) bindings (λ e m.
      let port = some_of (at net.switch_ports e.0) (bound e m) in
      still_there e.0 port.0 port.1)
