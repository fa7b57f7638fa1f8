use Rattle.std.proofs.Common.{◌∙◌, ◌+◌, ◌∷◌, List, ap, sym, subst, drop, map}
use Rattle.std.specs.Prelude.{Option}
use Rattle.std.proofs.lemmas.List.{drop_more}
use Rattle.ovn_base.specs.declared.name.Name.{Name}
use Rattle.ovn_base.specs.lists.Once.{EachOnce}
use Rattle.conn_zones.proofs.NamedLaws.{comer_at, next_comer}
use Rattle.conn_zones.proofs.keeping.comers.Goals as goal

pub change-preserved : goal.change-preserved
change-preserved c =
    let i = c.change.name-index in
    let e : Name × Option Name = c.change-item.result in
    let rest = drop (i + 1) c.args.change.now in
    let split = drop_more c.args.change.now i e c.change-test.true ∙ ap (λ (x : Name × Option Name). x ∷ rest) (sym c.change-item.is) in
    let once = subst (λ (l : List (Name × Option Name)). EachOnce (map (λ e. e.0) l)) split c.change.invariant.once in
    let before = c.args.before.now in
    record {
      once = once.1;
      homes = λ q. next_comer before c.change.comers c.put_comer.new.comers e rest once c.in_ok-put_comer.ensures q
          ∙ sym (ap (λ (l : List (Name × Option Name)). comer_at before l c.change.comers q) split) ∙ c.change.invariant.homes q;
    }
