use Rattle.std.proofs.Common.{◌≡◌, sym, subst, ◌∙◌}
use Rattle.tunnel_keys.specs.Giving.{lists_of}
use Rattle.tunnel_keys.specs.Keys.{IsKeys, no_keys}
use Rattle.tunnel_keys.proofs.Invariant.{none_hold}
use Rattle.tunnel_keys.proofs.store.KeyStore.with_ranges.Goals as goal

pub invariant_of-result : goal.invariant_of-result
invariant_of-result c =
    let none = none_hold c.args.datapaths c.args.ports (c.requires.some_datapaths, c.requires.few_datapaths) (c.requires.some_ports, c.requires.few_ports) in
    let datapaths = sym c.new.ensures.empty in
    let ports = sym c.new-2.ensures.empty in
    let retired_datapaths = sym c.new-4.ensures in
    let retired_ports = sym c.new-5.ensures in
    let same : no_keys c.args.datapaths c.args.ports ≡ record (no_keys c.args.datapaths c.args.ports) { datapaths = c.new.result.entries; ports = c.new-2.result.entries; retired_datapaths = c.new-4.result; retired_ports = c.new-5.result } =
    λ i. record (no_keys c.args.datapaths c.args.ports) { datapaths = datapaths i; ports = ports i; retired_datapaths = retired_datapaths i; retired_ports = retired_ports i } in
    (subst IsKeys same none, c.new-3.ensures.empty ∙ (λ i. lists_of (ports i) (datapaths i)))
