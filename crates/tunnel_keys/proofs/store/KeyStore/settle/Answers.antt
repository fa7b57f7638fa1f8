use Rattle.std.proofs.Common.{◌≡◌, sym, subst}
use Rattle.tunnel_keys.specs.Keys.{Keys, IsKeys, settled}
use Rattle.tunnel_keys.proofs.Invariant.{settled_hold}
use Rattle.tunnel_keys.proofs.store.KeyStore.settle.Goals as goal

pub invariant_of-self : goal.invariant_of-self
invariant_of-self c =
    let keys : Keys = record { datapath_range = c.self.inside.datapath_range; port_range = c.self.inside.port_range; datapaths = c.self.inside.datapaths.entries; ports = c.self.inside.ports.entries; retired_datapaths = c.self.inside.retired_datapaths; retired_ports = c.self.inside.retired_ports } in
    let first = sym c.clear.ensures in
    let second = sym c.clear-2.ensures in
    let same : settled keys ≡ record keys { retired_datapaths = c.clear.new.self; retired_ports = c.clear-2.new.self } = λ i. record keys { retired_datapaths = first i; retired_ports = second i } in
    (subst IsKeys same (settled_hold keys c.self.invariant.0), c.self.invariant.1)
