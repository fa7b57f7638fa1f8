use Rattle.std.proofs.Common.{sym, ap, ◌∙◌, List}
use Rattle.std.specs.List.{filter}
use Rattle.std.specs.Prelude.{not}
use Rattle.ovn_base.specs.declared.name.Name.{Name}
use Rattle.ovn_base.specs.names.ByName.{in_order}
use Rattle.tunnel_keys.specs.Keys.{datapath_owner}
use Rattle.tunnel_keys.specs.Owners.{is_listed}
use Rattle.tunnel_keys.specs.declared.owner.DatapathKey.{DatapathKey}
use Rattle.tunnel_keys.proofs.Lists.{in_order_same}
use Rattle.tunnel_keys.proofs.retiring.staying_datapaths.Goals as goal

pub returns : goal.returns
returns c =
    let left = c.keep_datapaths.ensures ∙ ap (λ (es : List (Name × DatapathKey)). filter (λ e. not (is_listed c.args.removed.now (datapath_owner e))) es) c.in_ok-staying.ensures in
    sym (in_order_same c.keep_datapaths.new.datapaths.entries c.names_ascend.ensures) ∙ ap (λ (es : List (Name × DatapathKey)). in_order es) left
