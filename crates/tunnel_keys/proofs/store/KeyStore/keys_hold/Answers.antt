use Rattle.std.proofs.Common.{subst}
use Rattle.tunnel_keys.specs.Keys.{IsKeys}
use Rattle.tunnel_keys.proofs.store.KeyStore.keys_hold.Goals as goal

pub returns : goal.returns
returns c = subst IsKeys c.self.view_is c.self.invariant.0
