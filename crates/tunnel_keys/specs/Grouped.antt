-- Values by the name that they go under.
use Rattle.std.specs.Prelude.{ℕ, List, []}
use Rattle.std.specs.Option.{option_map, unwrap_or}
use Rattle.ovn_base.specs.declared.name.Name.{Name}
use Rattle.ovn_base.specs.declared.ports.Ports.{Ports}
use Rattle.ovn_base.specs.names.ByName.{at}

-- the values under the name, in order
abbrev pub grouped_under : {X : Type 0} → List (Name × List X) → Name → List X
grouped_under groups name = unwrap_or (at groups name) []

-- the ports in the list of the datapath; none where it has no list
abbrev pub listed_on : List (Name × Ports) → Name → List (Name × ℕ)
listed_on lists datapath = unwrap_or (option_map (λ p. p.list) (at lists datapath)) []
