-- The least of two lists, one behind the other.
use Rattle.std.specs.Prelude.{◌≡◌, ◌<◌, ◌+◌, ℕ, length, drop, get_or, Bool, true, false, cond, List, [], ◌∷◌, ◌++◌, map, flat_map, Option, Some, None}
use Rattle.std.specs.List.{filter}
use Rattle.std.specs.Map.{values_of}
use Rattle.std.proofs.Common.{refl, sym, ap, ◌∙◌}
use Rattle.std.proofs.lemmas.List.{drop_more}
use Rattle.ovn_base.specs.declared.address.Ip4.{Ip4}
use Rattle.ovn_base.specs.declared.name.Name.{Name}
use Rattle.nb_records.specs.Network.{Network}
use Rattle.nb_records.specs.Routers.{nats_of, served_ips}
use Rattle.nb_records.specs.Switches.{serves_at, balancers_of}
use Rattle.nb_records.specs.declared.balancer.LoadBalancer.{LoadBalancer}
use Rattle.nb_records.specs.declared.router.Nat.{Nat}
use Rattle.nb_records.specs.declared.router.RouterPort.{RouterPort}
use Rattle.nb_records.specs.declared.switch.SwitchPort.{SwitchPort}
use Rattle.nb_rules.specs.First.{lesser, least_of}
use Rattle.nb_rules.specs.Holders.{ip_number, the_ip, is_ip_shared, least_shared, least_of_balancers, own_ips}

least_append : {X A : Type 0} (number : A → ℕ) (address : X → A) (test : X → Bool) (so_far : Option A) (xs ys : List X) → least_of number address test so_far (xs ++ ys) ≡ least_of number address test (least_of number address test so_far xs) ys
least_append number address test so_far [] ys = refl
least_append number address test so_far (x ∷ xs) ys = least_append number address test (cond (test x) (Some (lesser number (address x) so_far)) so_far) xs ys

module _ (net : Network) (q : SwitchPort) where
  pub shared_append : (so_far : Option Ip4) (xs ys : List Ip4) → least_shared net q so_far (xs ++ ys) ≡ least_shared net q (least_shared net q so_far xs) ys
  shared_append so_far xs ys = least_append ip_number the_ip (is_ip_shared net q) so_far xs ys

  -- those of the item at the place, and then those of the items behind it
  pub shared_at : {A : Type 0} (f : A → List Ip4) (so_far : Option Ip4) (xs : List A) (i : ℕ) (x : A) → i < length xs → x ≡ get_or xs i x
      → least_shared net q so_far (flat_map f (drop i xs)) ≡ least_shared net q (least_shared net q so_far (f x)) (flat_map f (drop (i + 1) xs))
  shared_at {A} f so_far xs i x less is =
      ap (λ (ys : List A). least_shared net q so_far (flat_map f ys)) (drop_more xs i x less ∙ ap (λ (y : A). y ∷ drop (i + 1) xs) (sym is))
      ∙ shared_append so_far (f x) (flat_map f (drop (i + 1) xs))

  abbrev vips_in : LoadBalancer → List Ip4
  vips_in b = map (λ v. v.at.ip) b.vips

  balancers_by : (router : Name) (b : LoadBalancer) (bs : List LoadBalancer) (so_far : Option Ip4) (serves : Bool)
      → least_shared net q (cond serves (least_shared net q so_far (vips_in b)) so_far) (flat_map vips_in bs) ≡ least_shared net q so_far (flat_map vips_in (cond serves (b ∷ bs) bs))
  balancers_by router b bs so_far true = sym (shared_append so_far (vips_in b) (flat_map vips_in bs))
  balancers_by router b bs so_far false = refl

  balancers_is : (router : Name) (so_far : Option Ip4) (es : List (Name × LoadBalancer)) → least_of_balancers net q router so_far es ≡ least_shared net q so_far (flat_map vips_in (filter (serves_at router) (values_of es)))
  balancers_is router so_far [] = refl
  balancers_is router so_far (e ∷ es) =
      balancers_is router (cond (serves_at router e.1) (least_shared net q so_far (vips_in e.1)) so_far) es
      ∙ balancers_by router e.1 (filter (serves_at router) (values_of es)) so_far (serves_at router e.1)

  -- the port's own, those of the rows, and those of the balancers
  pub behind_is : (p : RouterPort) → least_shared net q None (own_ips p ++ served_ips net p.router)
      ≡ least_of_balancers net q p.router (least_shared net q (least_shared net q None (own_ips p)) (map (λ (r : Nat). r.external_ip) (nats_of net p.router))) net.load_balancers
  behind_is p =
      shared_append None (own_ips p) (served_ips net p.router)
      ∙ shared_append (least_shared net q None (own_ips p)) (map (λ (r : Nat). r.external_ip) (nats_of net p.router)) (flat_map vips_in (balancers_of net p.router))
      ∙ sym (balancers_is p.router (least_shared net q (least_shared net q None (own_ips p)) (map (λ (r : Nat). r.external_ip) (nats_of net p.router))) net.load_balancers)
