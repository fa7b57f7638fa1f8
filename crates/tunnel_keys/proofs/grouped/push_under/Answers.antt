use Rattle.std.proofs.Common.{◌++◌, ◌∷◌, [], sym, ap, subst, ◌∙◌, IsSome, refl, List, Some, cond}
use Rattle.std.specs.BTreeMap.{is_at}
use Rattle.std.specs.Cmp.Lexicographic.{slice_cmp}
use Rattle.std.specs.Ordering.{nat_cmp}
use Rattle.ovn_base.specs.names.ByName.{at, put}
use Rattle.tunnel_keys.specs.Grouped.{grouped_under}
use Rattle.tunnel_keys.proofs.UnderLaws.{put_under, set_under}
use Rattle.tunnel_keys.proofs.grouped.push_under.Goals as goal

pub returns-in-Some : goal.returns-in-Some
returns-in-Some g c =
    let before = c.args.groups.now.entries in
    let name = c.args.name in
    let there = sym c.in-Some.ensures.value in
    let updates = (c.get_mut.follows.holds c.push.new.self).3 (subst (λ o. IsSome o) (sym there) refl) in
    set_under before (c.get_mut.follows.lender c.push.new.self).entries name c.in-Some.list.now c.args.value there
    (λ q. updates.0 q ∙ ap (λ (l : List g.row.V.Denot). cond (is_at (slice_cmp nat_cmp name) q) (Some l) (at before q)) c.in_ok-push.ensures.ok)

pub returns : goal.returns
returns g c =
    let before = c.args.groups.now.entries in
    let name = c.args.name in
    let list = c.in_ok-push-2.ensures.ok ∙ ap (λ (l : List g.row.V.Denot). l ++ c.args.value ∷ []) c.new-list.ensures in
    let same = ap (λ m. m.entries) c.get_mut.follows.holds-at-none in
    let all = c.in_ok-insert.ensures.entries ∙ ap (λ es. put es name c.push-2.new.self) same ∙ ap (λ l. put before name l) list in
    λ n. ap (λ es. grouped_under es n) all ∙ put_under before name c.args.value (sym c.in_default.ensures.value) n
