use Rattle.std.proofs.Common.{◌≡◌, ◌<◌, ◌+◌, length, drop, Option, ap, sym, ◌∙◌, arith}
use Rattle.std.specs.List.{flat_map}
use Rattle.ovn_base.specs.declared.address.Ip4.{Ip4}
use Rattle.nb_records.specs.Switches.{ips_in_entry}
use Rattle.nb_rules.specs.Holders as spec
use Rattle.nb_rules.proofs.Leasts.{shared_at}
use Rattle.nb_rules.proofs.shared.least_in_entries.Goals as goal

pub entries-preserved : goal.entries-preserved
entries-preserved c =
    let net = c.args.records.now in
    let q = c.args.port.now in
    let items = c.as_slice-entry-items.result.now in
    let lt : c.entries.entry-index < length items = omega arith in
    let found : c.least_in-least.result ≡ spec.least_shared net q c.entries.least (ips_in_entry c.entry-item.result) = c.least_in-least.ensures ∙ ap (spec.least_shared net q c.entries.least) c.ips_in_entry.ensures in
    c.entries.invariant
    ∙ shared_at net q ips_in_entry c.entries.least items c.entries.entry-index c.entry-item.result lt c.entry-item.is
    ∙ ap (λ (o : Option Ip4). spec.least_shared net q o (flat_map ips_in_entry (drop (c.entries.entry-index + 1) items))) (sym found)
