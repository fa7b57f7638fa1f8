-- Which routers are on every chassis.
use Rattle.std.specs.Prelude.{◌≡◌, Some, None}
use Rattle.nb_records.specs.Network.{Network}
use Rattle.nb_records.specs.declared.router.Router.{Router}
use Rattle.ovn_base.specs.declared.name.Name.{Name}
use Rattle.ovn_base.specs.names.ByName.{at}

-- each router of the network is distributed: none has a chassis
abbrev pub AreDistributed : Network → Type 0
AreDistributed net = (a : Name) (router : Router) → at net.routers a ≡ Some router → router.chassis ≡ None
