-- Crossings wait on after an edit that removes no owner.
use Rattle.std.specs.Prelude.{◌≡◌, ◌≤◌, ◌<◌, ℕ, true, List, [], Option, Some, None, IsTrue, option_map, refl}
use Rattle.std.proofs.Common.{arith, sym, ap, subst, ◌∙◌, inl, inr}
use Rattle.std.proofs.lemmas.Bool.{false≢true}
use Rattle.std.proofs.lemmas.Option.{none-some, same_Some}
use Rattle.ovn_base.specs.lists.Among.{Among}
use Rattle.ovn_base.specs.names.ByName.{at}
use Rattle.ovn_base.proofs.AmongLaws.{among_all, among_none}
use Rattle.ovn_base.proofs.ByNameLaws.{at_among}
use Rattle.ovn_base.specs.declared.name.Name.{Name}
use Rattle.nb_records.specs.Network.{Network}
use Rattle.nb_records.specs.declared.switch.Switch.{Switch}
use Rattle.net_model.specs.State.{State, event_count}
use Rattle.nb_edits.specs.EditLeaves as edits
use Rattle.nb_edits.proofs.OwnerLaws.{IsDatapath, among_owns, datapath_among}
use Rattle.tunnel_keys.specs.Edits.{GivesKeys}
use Rattle.tunnel_keys.specs.Keys.{Keys, IsKeys, held_datapaths, held_ports}
use Rattle.tunnel_keys.specs.Same.{birth_exact, birth_own, same_birth}
use Rattle.tunnel_keys.specs.declared.owner.HeldPort.{HeldPort}
use Rattle.tunnel_keys.specs.declared.owner.Identity.{Identity}
use Rattle.tunnel_keys.specs.declared.owner.KeyOwner.{KeyOwner}
use Rattle.tunnel_keys.specs.declared.owner.KeyOwner.TheVariants.{Datapath}
use Rattle.tunnel_keys.proofs.KeyStays.{datapaths_stay, ports_stay}
use Rattle.sim_laws.specs.Sound.{has_birth, is_switch, IsNoRouter}
use Rattle.world_setup.proofs.EditedKeys.{HasRecordsFrom}
use Rattle.world_setup.proofs.WaitingFrames.{AreKept}
use Rattle.net_model.specs.Config.{router_identity}
use Rattle.nb_records.specs.declared.router.Router.{Router}

-- ---- the switch of a name and birth

the_switch : (net : Network) (id : Identity) → IsTrue (is_switch net id) → (s : Switch) × (at net.switches id.name ≡ Some s) × (s.birth ≡ id.birth)
the_switch net id is = by (at net.switches id.name) refl is
  where
    by : (o : Option Switch) → at net.switches id.name ≡ o → has_birth (option_map (λ (s : Switch). s.birth) o) id.birth ≡ true → (s : Switch) × (at net.switches id.name ≡ Some s) × (s.birth ≡ id.birth)
    by None at_name other = absurd (false≢true other)
    by (Some s) at_name same = (s, at_name, birth_exact s.birth id.birth same)

is_the_switch : (net : Network) (id : Identity) (s : Switch) → at net.switches id.name ≡ Some s → s.birth ≡ id.birth → IsTrue (is_switch net id)
is_the_switch net id s at_name same =
    ap (λ o. has_birth (option_map (λ (t : Switch). t.birth) o) id.birth) at_name ∙ subst (λ b. same_birth s.birth b ≡ true) same (birth_own s.birth)

-- ---- no key is lost

module _ (m mid : State) (added : List KeyOwner) (next : Network) (after : Keys) (n : ℕ) (hold : IsKeys m.keys) (also : IsKeys after) (gives : GivesKeys m.keys added [] after) where
  -- a port's key, live or retired, stays
  port_stays : (h : HeldPort) → Among h (held_ports m.keys) → Among h (held_ports after)
  port_stays h among = elim (ports_stay m.keys added [] after hold gives also h among) [
    | inl stays ↦ stays
    | inr moved ↦ absurd (among_none (Datapath h.datapath.name h.datapath.birth) moved.gone)
  ]

  module _ (later : event_count m < n) (from : HasRecordsFrom m.config.net next) (come : edits.AreBorn m.config.net next n) where
    -- the datapath of a switch was one, since a router that was there is one still
    was_switch : (id : Identity) (s : Switch) → at next.switches id.name ≡ Some s → IsDatapath m.config.net id.name id.birth → IsTrue (is_switch m.config.net id)
    was_switch id s now (inl was) = is_the_switch m.config.net id was.0 was.1 was.2
    was_switch id s now (inr was) =
        let apart : at next.routers id.name ≡ None = among_all (λ (e : Name × Switch). at next.routers e.0 ≡ None) (id.name, s) next.switches from.after.datapaths (at_among next.switches id.name s now) in
        absurd (none-some was.0 (sym apart ∙ from.routers id.name was.0 was.1))

    -- a switch that isn't as young as the edit was there before
    switch_was : (id : Identity) → id.birth.0 ≤ event_count m → IsTrue (is_switch next id) → IsTrue (is_switch m.config.net id)
    switch_was id early is =
        let s = the_switch next id is in
        elim (come (Datapath id.name id.birth) (datapath_among next id.name id.birth (inl s))) [
          | inl old ↦ was_switch id s.0 s.1 (among_owns m.config.net from.before.in_order (Datapath id.name id.birth) old)
          | inr new ↦ absurd (omega (arith, early, later, new))
        ]

    -- nor was a router there that isn't as young
    was_router : (id : Identity) (r : Router) → IsNoRouter m.config.net id → at next.routers id.name ≡ Some r → router_identity r ≡ id → ¬ IsDatapath m.config.net id.name id.birth
    was_router id r none now is (inl was) =
        let stays = from.switches id.name was.0 was.1 in
        let apart : at next.routers id.name ≡ None = among_all (λ (e : Name × Switch). at next.routers e.0 ≡ None) (id.name, was.0) next.switches from.after.datapaths (at_among next.switches id.name was.0 stays) in
        none-some r (sym apart ∙ now)
    was_router id r none now is (inr was) = none was.0 was.1 (ap router_identity (same_Some was.0 r (sym (from.routers id.name was.0 was.1) ∙ now)) ∙ is)

    no_router_comes : (id : Identity) → id.birth.0 ≤ event_count m → IsNoRouter m.config.net id → IsNoRouter next id
    no_router_comes id early none r now is = elim (come (Datapath id.name id.birth) (datapath_among next id.name id.birth (inr (r, now, ap (λ (o : Identity). o.birth) is)))) [
      | inl old ↦ was_router id r none now is (among_owns m.config.net from.before.in_order (Datapath id.name id.birth) old)
      | inr new ↦ absurd (omega (arith, early, later, new))
    ]

    -- no key is lost, and no older switch or router is there that wasn't
    pub edit_kept : mid.config.net ≡ next → mid.keys ≡ after → AreKept m mid
    edit_kept net keys = record {
      hold = subst (λ k. IsKeys k) (sym keys) also;
      datapaths = λ h among. subst (λ k. Among h (held_datapaths k)) (sym keys) (datapaths_stay m.keys added [] after hold gives h among);
      ports = λ h among. subst (λ k. Among h (held_ports k)) (sym keys) (port_stays h among);
      switches = λ id early is. switch_was id early (subst (λ w. IsTrue (is_switch w id)) net is);
      routers = λ id early none. subst (λ w. IsNoRouter w id) (sym net) (no_router_comes id early none);
    }
