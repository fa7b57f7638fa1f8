-- Names in the ends of journeys, and which of their picks are in range: what a line needs to be read off again.
use Rattle.std.specs.Prelude.{◌≡◌, ◌≤◌, ℕ, List, []}
use Rattle.std.specs.List.{AllByRecursion}
use Rattle.nb_records.specs.Grammar.{IsBackend}
use Rattle.nb_records.specs.Network.{Network}
use Rattle.net_model.specs.State.{State}
use Rattle.net_model.specs.Trail.{End, leaves, is_dropped, crosses, picks_backend, picks_port, is_lost}
use Rattle.net_model.specs.declared.crossing.Aim.{Aim}
use Rattle.net_model.specs.declared.crossing.Aim.TheVariants.{ToPort, ToGroup}
use Rattle.net_model.specs.declared.crossing.Crossing.{Crossing}
use Rattle.ovn_base.specs.declared.name.Name.{Name}
use Rattle.ovn_base.specs.names.NameText.{IsName}

-- ---- ends

-- a crossing goes to a chassis, and maybe to one port
abbrev pub IsNamedAim : Aim → Type 0
IsNamedAim (ToPort id) = IsName id.name
IsNamedAim (ToGroup g) = Unit {0}

abbrev pub IsNamedCrossing : ℕ × Crossing → Type 0
IsNamedCrossing w = IsName w.1.home × IsNamedAim w.1.aim

abbrev pub IsNamedEnd : End → Type 0
IsNamedEnd (leaves q packet) = IsName q
IsNamedEnd (is_dropped datapath q cause) = IsName datapath × IsName q
IsNamedEnd (crosses chassis x) = IsName chassis × IsNamedCrossing (0, x)
IsNamedEnd (picks_backend datapath vip backend) = IsName datapath × IsBackend vip × IsBackend backend
IsNamedEnd (picks_port router port) = IsName router × (1 ≤ port) × (port ≤ 65535)
IsNamedEnd (is_lost n) = Unit {0}

abbrev pub AreNamedEnds : List End → Type 0
AreNamedEnds ends = AllByRecursion IsNamedEnd ends

-- ---- states

-- the chassis to which a port is bound
abbrev pub HasNamedHome : Name × Name → Type 0
HasNamedHome e = IsName e.1

-- Beside the records: the chassis, those to which ports are bound, and where the crossings go that wait.
pub record HasNames (m : State) : Type 0 where
  pub chassis : AllByRecursion IsName m.config.chassis
  pub homes : AllByRecursion HasNamedHome m.config.bindings
  pub waiting : AllByRecursion IsNamedCrossing m.waiting

-- ---- networks

-- nothing is left open: no port is picked without a NAT row, and no backend without a balancer
pub record OffersNoChoice (net : Network) : Type 0 where
  pub nats : net.nats ≡ []
  pub balancers : net.load_balancers ≡ []
