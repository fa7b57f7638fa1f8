use Rattle.std.proofs.Common.{◌∙◌, List, subst}
use Rattle.std.specs.Prelude.{Option}
use Rattle.std.proofs.lemmas.Result.{IfOk-weaker}
use Rattle.ovn_base.specs.declared.name.Name.{Name}
use Rattle.conn_zones.specs.Zoning.{KnownHomes}
use Rattle.conn_zones.specs.Giving.{AreComers}
use Rattle.conn_zones.proofs.NamedLaws.{zones_coming}
use Rattle.conn_zones.proofs.keeping.coming.Goals as goal

pub returns : goal.returns
returns c =
    let comers : KnownHomes = record { ports = c.in_ok-comers.field-0; routers = c.in_ok-comers-2.field-0 } in
    let ports = subst (λ (t : KnownHomes × List (Name × Option Name)). AreComers t.0.ports t.1 comers.ports) (λ i. (c.before-2.view_is i, c.as_slice.ensures i)) c.in_ok-comers.ensures in
    let routers = subst (λ (t : List (Name × Name) × List (Name × Option Name)). AreComers t.0 t.1 comers.routers) (λ i. (c.new-nobody.ensures i, c.as_slice-2.ensures i)) c.in_ok-comers-2.ensures in
    IfOk-weaker c.zones_in.result _ _ (λ l is after rehomed. is ∙ zones_coming c.args.before.now c.args.change.now after rehomed comers ports routers) c.zones_in.ensures
