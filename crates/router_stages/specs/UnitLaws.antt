-- When a network admits a unit of a router's port, and the law of each unit: where what it reads is the same, it reads the same and
-- has the same rows.
use Rattle.std.specs.Prelude.{◌≡◌, Some, None}
use Rattle.ovn_base.specs.declared.address.Ip4.{Ip4}
use Rattle.ovn_base.specs.declared.name.Name.{Name}
use Rattle.ovn_base.specs.names.ByName.{at}
use Rattle.nb_records.specs.Grammar.{IsRouterPort}
use Rattle.nb_records.specs.Network.{Network}
use Rattle.nb_records.specs.declared.router.RouterPort.{RouterPort}
use Rattle.logical_flows.specs.declared.unit.UnitId.{UnitId}
use Rattle.logical_flows.specs.declared.unit.UnitId.TheVariants as unit
use Rattle.stage_rows.proofs.ReadsLaws.{reads_law}
use Rattle.stage_rows.specs.Admitting.{Admits, of_router, AdmitsRouter, AdmitsRoute, AdmitsNeighbour}
use Rattle.stage_rows.specs.Reads.{reads_of, AgreeOnReads}
use Rattle.stage_rows.specs.Units.{rows_of}

-- the port is there, and is one of a router
pub record AdmitsRouterPort (net : Network) (name : Name) : Type 0 where
  pub port : RouterPort
  pub there : at net.router_ports name ≡ Some port
  pub only : at net.switch_ports name ≡ None
  pub is_port : IsRouterPort port

-- it is then admitted as a port
pub admitted : (net : Network) (name : Name) → AdmitsRouterPort net name → Admits net (unit.Port name)
admitted net name a = of_router a.port a.only a.there a.is_port

-- the unit reads the same in both, and has the same rows
abbrev pub ReadsSame : Network → Network → UnitId → Type 0
ReadsSame f g u = (reads_of f u ≡ reads_of g u) × (rows_of f u ≡ rows_of g u)

pub port_law : (f g : Network) (name : Name) → AdmitsRouterPort f name → AdmitsRouterPort g name → AgreeOnReads f g (unit.Port name) → ReadsSame f g (unit.Port name)
port_law f g name a b same = let h = reads_law f g (unit.Port name) (admitted f name a) (admitted g name b) same in (h.reads, h.rows)

pub router_law : (f g : Network) (name : Name) → AdmitsRouter f name → AdmitsRouter g name → AgreeOnReads f g (unit.Router name) → ReadsSame f g (unit.Router name)
router_law f g name a b same = let h = reads_law f g (unit.Router name) a b same in (h.reads, h.rows)

pub route_law : (f g : Network) (name : Name) → AdmitsRoute f name → AdmitsRoute g name → AgreeOnReads f g (unit.Route name) → ReadsSame f g (unit.Route name)
route_law f g name a b same = let h = reads_law f g (unit.Route name) a b same in (h.reads, h.rows)

pub neighbour_law : (f g : Network) (port : Name) (ip : Ip4) → AdmitsNeighbour f port ip → AdmitsNeighbour g port ip → AgreeOnReads f g (unit.Neighbour port ip) → ReadsSame f g (unit.Neighbour port ip)
neighbour_law f g port ip a b same = let h = reads_law f g (unit.Neighbour port ip) a b same in (h.reads, h.rows)
