use Rattle.std.proofs.Common.{◌∙◌, arith, subst, sym}
use Rattle.ovn_base.proofs.NameLemmas.{same_bytes}
use Rattle.conn_zones.specs.NameMaps.{IsPlaceAt}
use Rattle.conn_zones.proofs.NameMaps.{place_read}
use Rattle.conn_zones.proofs.name_map.NameMap.search_near.Goals as goal

-- the entry that was read has the name
pub returns-then-eq-clause-found : goal.returns-then-eq-clause-found
returns-then-eq-clause-found g c =
    let name = c.args.name.now in
    let near = c.args.near in
    let same = same_bytes c.index.result.now.0 name (sym c.eq.ensures ∙ c.if-eq.true) in
    let place = place_read c.self.inside.entries.items c.self.invariant name near c.index.result.now (omega (arith, c.if-near-len.true, c.len.ensures)) c.index.ensures same in
    subst (λ l. IsPlaceAt l name near) c.self.view_is place
