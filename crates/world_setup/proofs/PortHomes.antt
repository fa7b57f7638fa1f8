-- The homes of ports that are bound, before and after one more is.
use Rattle.std.specs.Prelude.{◌≡◌, ◌≤◌, List, [], ◌∷◌, Option, Some, length}
use Rattle.std.proofs.Common.{sym, ap, subst, ◌∙◌, arith, inl, inr}
use Rattle.std.specs.Option.{unwrap_or}
use Rattle.ovn_base.specs.declared.name.Name.{Name}
use Rattle.ovn_base.specs.names.ByName.{at, put, IsByName}
use Rattle.ovn_base.proofs.AmongLaws.{among_none}
use Rattle.ovn_base.proofs.ByNameLaws.{one_or_two, put_other, put_sorted, put_there}
use Rattle.ovn_base.proofs.SameEntries.{same_found}
use Rattle.conn_zones.specs.Rezoning.{AreHomesAfter, IsHomeChange, IsRehomed, IsRezoned}
use Rattle.conn_zones.specs.Zoning.{KnownHomes, Zoned}
use Rattle.conn_zones.proofs.ForCallers.{few_change}
use Rattle.net_model.specs.Config.{Config}
use Rattle.physical_flows.specs.Bindings.{AreBound, router_homes}
use Rattle.physical_flows.proofs.FlowSearch.{some_of}
use Rattle.physical_flows.proofs.HomedRouters.{few_router_homes}
use Rattle.world_setup.specs.Zones.{home_change}
use Rattle.world_setup.proofs.Counts.{few_entries}

module _ (config : Config) (zones : Zoned) (bound : AreBound config zones) (p c : Name) where
  -- a chassis has numbers enough for one port more
  pub can_come : length config.net.switch_ports ≤ 10000 → length config.net.routers ≤ 1024 → IsHomeChange zones.homes (home_change p c)
  can_come few few_routers =
      let all : length config.bindings ≤ length config.net.switch_ports =
      few_entries config.bindings config.net.switch_ports bound.bindings_sorted (λ q h. let home = some_of (at config.bindings q) h in bound.port_there q home.0 home.1) in
      let ports : length zones.homes.ports ≡ length config.bindings = ap (λ (h : KnownHomes). length h.ports) bound.homes in
      let routers : length zones.homes.routers ≡ length (router_homes config) = ap (λ (h : KnownHomes). length h.routers) bound.homes in
      let homed = few_router_homes config in
      few_change zones.homes (home_change p c) (among_none p, tt) tt (omega (arith, all, ports, routers, few, homed, few_routers))

  -- the port is at home there, and all others where they were
  home_found : (after : List (Name × Name)) → AreHomesAfter config.bindings ((p, Some c) ∷ []) after → (q : Name) → at after q ≡ at (put config.bindings p c) q
  home_found after h q = elim (one_or_two q p) [
    | inl same ↦
        h.homes q ∙ ap (λ (o : Option (Option Name)). unwrap_or o (at config.bindings q)) (ap (λ n. at ((p, Some c) ∷ []) n) same ∙ put_there [] p (Some c))
        ∙ sym (ap (λ n. at (put config.bindings p c) n) same ∙ put_there config.bindings p c)
    | inr other ↦
        h.homes q ∙ ap (λ (o : Option (Option Name)). unwrap_or o (at config.bindings q)) (put_other [] p (Some c) q other)
        ∙ sym (put_other config.bindings p c q other)
  ]

  ports_after : (after : List (Name × Name)) → AreHomesAfter config.bindings ((p, Some c) ∷ []) after → after ≡ put config.bindings p c
  ports_after after h =
      same_found after (put config.bindings p c) h.in_order (put_sorted config.bindings p c bound.bindings_sorted)
      (λ q v e. sym (home_found after h q) ∙ e) (λ q v e. home_found after h q ∙ e)

  -- routers stay
  routers_after : (after : List (Name × Name)) → AreHomesAfter (router_homes config) [] after → after ≡ router_homes config
  routers_after after h = same_found after (router_homes config) h.in_order sorted (λ q v e. sym (h.homes q) ∙ e) (λ q v e. h.homes q ∙ e)
    where
      sorted : IsByName (router_homes config)
      sorted = subst (λ (k : KnownHomes). IsByName k.routers) bound.homes bound.zoned.routers_in_order

  -- once it is bound, the homes of ports are the bindings again
  pub homes_after : (after : Zoned) → IsRezoned zones (home_change p c) after → after.homes ≡ record { ports = put config.bindings p c; routers = router_homes config }
  homes_after after h =
      let homes : IsRehomed (record { ports = config.bindings; routers = router_homes config }) (home_change p c) after.homes = subst (λ (l : KnownHomes). IsRehomed l (home_change p c) after.homes) bound.homes h.homes in
      let ports : after.homes.ports ≡ put config.bindings p c = ports_after after.homes.ports homes.ports in
      let routers : after.homes.routers ≡ router_homes config = routers_after after.homes.routers homes.routers in
      λ i. record { ports = ports i; routers = routers i }
