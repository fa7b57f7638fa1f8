use Rattle.std.proofs.Common.{◌∙◌, sym}
use Rattle.std.proofs.lemmas.Bool.{false≢true}
use Rattle.std.specs.BTreeMap.{is_at}
use Rattle.flow_refs.proofs.SetLaws.{put_filled, set_nowhere}
use Rattle.flow_refs.proofs.putting.put.Goals as goal

pub returns : goal.returns
returns g c =
    let test = is_at (g.O.Ord.cmp c.args.origin) in
    let es = c.args.origins.now.entries in
    record {
      entries = (λ i. (c.get_mut.follows.holds-at-none i).entries) ∙ sym (set_nowhere test es c.args.flows (sym c.in_default.ensures.value))
          ∙ put_filled test es c.args.flows (λ none. false≢true (sym c.if-is_empty.false ∙ c.is_empty.ensures.1 none));
    }
