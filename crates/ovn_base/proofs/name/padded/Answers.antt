use Rattle.std.proofs.Common.{◌++◌, ℕ, List, length, drop, replicate, ap, ◌∙◌}
use Rattle.std.proofs.lemmas.List.{drop-replicate}
use Rattle.ovn_base.proofs.name.padded.Goals as goal

pub returns : goal.returns
returns c =
    let n = length c.args.text.now in
    ap (λ (x : List ℕ). x ++ drop n (replicate 64 0)) c.copy_from_slice.ensures.after ∙ ap (λ (zeros : List ℕ). c.args.text.now ++ zeros) (drop-replicate n 64 0)
