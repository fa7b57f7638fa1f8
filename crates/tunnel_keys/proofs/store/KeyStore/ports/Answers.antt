use Rattle.std.proofs.Common.{◌∙◌, ap}
use Rattle.std.specs.Option.{option_map}
use Rattle.ovn_base.specs.names.ByName.{at}
use Rattle.tunnel_keys.specs.Keys.{Keys}
use Rattle.tunnel_keys.proofs.PortLists.{list_on, lists_at}
use Rattle.tunnel_keys.proofs.store.KeyStore.ports.Goals as goal

pub returns : goal.returns
returns c =
    c.get.ensures.value
    ∙ ap (λ es. at es c.args.datapath.now) c.self.invariant.1
    ∙ lists_at c.self.inside.ports.entries c.self.inside.datapaths.entries c.args.datapath.now
    ∙ ap (λ (k : Keys). option_map (λ d. list_on k.ports c.args.datapath.now) (at k.datapaths c.args.datapath.now)) c.self.view_is
