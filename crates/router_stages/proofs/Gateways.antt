-- Whether a router has rows of NAT, as a test of them one after another.
use Rattle.std.specs.Prelude.{◌≡◌}
use Rattle.std.specs.List.{list_any}
use Rattle.std.specs.Map.{values_of}
use Rattle.std.proofs.Common.{◌∙◌}
use Rattle.ovn_base.specs.declared.name.Name.{Name}
use Rattle.ovn_base.specs.names.SameName.{same_name}
use Rattle.nb_records.proofs.AnyLaws.{any_map}
use Rattle.nb_records.specs.Network.{Network}
use Rattle.nb_records.specs.Routers.{nats_of}
use Rattle.nb_records.specs.Switches.{has_some}
use Rattle.nb_records.specs.declared.router.Nat.{Nat}
use Rattle.stage_rows.proofs.SomeTests.{some_pass}

pub nats_are : (net : Network) (router : Name) → has_some (nats_of net router) ≡ list_any (λ (e : Name × Nat). same_name e.1.router router) net.nats
nats_are net router = some_pass (λ (r : Nat). same_name r.router router) (values_of net.nats) ∙ any_map (λ (r : Nat). same_name r.router router) (λ (e : Name × Nat). e.1) net.nats
