-- Whether a test passes some of the records, asked of one after another.
use Rattle.std.specs.Prelude.{◌≡◌, ◌||◌, Bool, true, false, cond, List, [], ◌∷◌}
use Rattle.std.specs.List.{filter, list_any}
use Rattle.std.specs.Map.{values_of}
use Rattle.std.proofs.Common.{refl, ◌∙◌}
use Rattle.ovn_base.specs.declared.name.Name.{Name}
use Rattle.nb_records.proofs.AnyLaws.{any_map}
use Rattle.nb_records.specs.Network.{Network}
use Rattle.nb_records.specs.Switches.{serves_at, has_balancer, has_some}
use Rattle.nb_records.specs.declared.balancer.LoadBalancer.{LoadBalancer}

some_pass_by : {X : Type 0} (p : X → Bool) (x : X) (xs : List X) (b : Bool) → has_some (filter p xs) ≡ list_any p xs → has_some (cond b (x ∷ filter p xs) (filter p xs)) ≡ (b || list_any p xs)
some_pass_by p x xs true rest = refl
some_pass_by p x xs false rest = rest

pub some_pass : {X : Type 0} (p : X → Bool) (xs : List X) → has_some (filter p xs) ≡ list_any p xs
some_pass p [] = refl
some_pass p (x ∷ xs) = some_pass_by p x xs (p x) (some_pass p xs)

pub balanced_is : (net : Network) (datapath : Name) → has_balancer net datapath ≡ list_any (λ (e : Name × LoadBalancer). serves_at datapath e.1) net.load_balancers
balanced_is net datapath = some_pass (serves_at datapath) (values_of net.load_balancers) ∙ any_map (serves_at datapath) (λ (e : Name × LoadBalancer). e.1) net.load_balancers
