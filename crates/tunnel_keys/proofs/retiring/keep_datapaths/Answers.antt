use Rattle.std.proofs.Common.{◌≡◌, refl, rules, sym, ◌∙◌}
use Rattle.std.specs.Prelude.{not}
use Rattle.std.proofs.lemmas.Map.Entries.{filter_from_retain_pairs}
use Rattle.ovn_base.specs.declared.name.Name.{Name}
use Rattle.tunnel_keys.specs.Keys.{datapath_owner}
use Rattle.tunnel_keys.specs.Owners.{is_listed}
use Rattle.tunnel_keys.specs.declared.owner.DatapathKey.{DatapathKey}
use Rattle.tunnel_keys.proofs.Lists.{no_length}
use Rattle.tunnel_keys.proofs.OwnerLaws.{all_unlisted}
use Rattle.tunnel_keys.proofs.retiring.keep_datapaths.Goals as goal

pub returns-then-is_empty : goal.returns-then-is_empty
returns-then-is_empty c = sym (all_unlisted datapath_owner c.args.removed.now (no_length c.args.removed.now (sym c.is_empty.ensures ∙ c.if-is_empty.true)) c.args.datapaths.now.entries)

pub returns : goal.returns
returns c =
    filter_from_retain_pairs _ (λ f. f.0.now ≡ c.args.removed.now) (λ (e : Name × DatapathKey). not (is_listed c.args.removed.now (datapath_owner e)))
    (λ g k v b w g' i t. let shows = t.shows in let leaves = t.leaves in let called = t.called in search rules)
    _ c.args.datapaths.now.entries c.retain.new.self.entries refl c.retain.ensures.filtered
