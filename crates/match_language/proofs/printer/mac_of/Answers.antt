use Rattle.std.proofs.Common.{ℕ, List, [], ◌∷◌, get_or, ap, ◌∙◌}
use Rattle.ovn_base.specs.addresses.EtherAddress.{mac_of_bytes}
use Rattle.ovn_base.proofs.MacLemmas.{mac_of_low_bytes}
use Rattle.match_language.proofs.printer.mac_of.Goals as goal

pub returns : goal.returns
returns c =
    ap (λ (b : List ℕ). mac_of_bytes (get_or b 2 0 ∷ get_or b 3 0 ∷ get_or b 4 0 ∷ get_or b 5 0 ∷ get_or b 6 0 ∷ get_or b 7 0 ∷ [])) c.to_be_bytes.ensures
    ∙ mac_of_low_bytes c.args.number
