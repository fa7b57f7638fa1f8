-- Who is known outside by an address, as a test of the rows and balancers.
use Rattle.std.specs.Prelude.{◌≡◌, Bool, ◌&&◌, ◌||◌, List, map, flat_map}
use Rattle.std.specs.List.{filter, list_any}
use Rattle.std.specs.Map.{values_of}
use Rattle.std.proofs.Common.{ap, ◌∙◌}
use Rattle.std.proofs.lemmas.List.Folds.{list_any-append}
use Rattle.ovn_base.specs.declared.address.Ip4.{Ip4}
use Rattle.ovn_base.specs.declared.name.Name.{Name}
use Rattle.ovn_base.specs.names.SameName.{same_name}
use Rattle.nb_records.specs.Network.{Network}
use Rattle.nb_records.specs.Routers.{nats_of, served_ips, has_vip}
use Rattle.nb_records.specs.Switches.{same_ip, serves_at, balancers_of}
use Rattle.nb_records.specs.declared.balancer.LoadBalancer.{LoadBalancer}
use Rattle.nb_records.specs.declared.router.Nat.{Nat}
use Rattle.nb_records.proofs.AnyLaws.{any_map, any_filter, any_flat_map, any_same}

module _ (net : Network) (router : Name) (ip : Ip4) where
  by_rows : list_any (same_ip ip) (map (λ (r : Nat). r.external_ip) (nats_of net router)) ≡ list_any (λ (e : Name × Nat). same_name e.1.router router && same_ip ip e.1.external_ip) net.nats
  by_rows =
      any_map (same_ip ip) (λ (r : Nat). r.external_ip) (nats_of net router)
      ∙ any_filter (λ (r : Nat). same_ip ip r.external_ip) (λ (r : Nat). same_name r.router router) (values_of net.nats)
      ∙ any_map (λ (r : Nat). same_name r.router router && same_ip ip r.external_ip) (λ (e : Name × Nat). e.1) net.nats

  by_vips : list_any (same_ip ip) (flat_map (λ (b : LoadBalancer). map (λ v. v.at.ip) b.vips) (balancers_of net router)) ≡ list_any (λ (e : Name × LoadBalancer). serves_at router e.1 && has_vip ip e.1) net.load_balancers
  by_vips =
      any_flat_map (same_ip ip) (λ (b : LoadBalancer). map (λ v. v.at.ip) b.vips) (balancers_of net router)
      ∙ any_same (λ (b : LoadBalancer). list_any (same_ip ip) (map (λ v. v.at.ip) b.vips)) (has_vip ip) (λ b. any_map (same_ip ip) (λ v. v.at.ip) b.vips) (balancers_of net router)
      ∙ any_filter (has_vip ip) (serves_at router) (values_of net.load_balancers)
      ∙ any_map (λ (b : LoadBalancer). serves_at router b && has_vip ip b) (λ (e : Name × LoadBalancer). e.1) net.load_balancers

  pub served_is : list_any (same_ip ip) (served_ips net router)
      ≡ (list_any (λ (e : Name × Nat). same_name e.1.router router && same_ip ip e.1.external_ip) net.nats || list_any (λ (e : Name × LoadBalancer). serves_at router e.1 && has_vip ip e.1) net.load_balancers)
  served_is =
      list_any-append (same_ip ip) (map (λ (r : Nat). r.external_ip) (nats_of net router)) (flat_map (λ (b : LoadBalancer). map (λ v. v.at.ip) b.vips) (balancers_of net router))
      ∙ (λ i. by_rows i || by_vips i)
