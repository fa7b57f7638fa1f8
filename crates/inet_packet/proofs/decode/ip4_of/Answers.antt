use Rattle.std.proofs.Common.{ℕ, List, ◌∷◌, ap}
use Rattle.std.proofs.lemmas.Result.{err_from_is_err_and}
use Rattle.inet_packet.specs.declared.packet.Body.TheVariants.{Ip4}
use Rattle.inet_packet.specs.Reading.{ip4_packet_of}
use Rattle.inet_packet.proofs.decode.ip4_of.Goals as goal

pub returns-in_err-options : goal.returns-in_err-options
returns-in_err-options c =
    let p = err_from_is_err_and c.from_residual.result c.from_residual.ensures.1 in
    let v = c.view_ip4-part in
    rw (p.1, p.2, c.in_err-options.ensures.err) (record {
      body = Ip4 (ip4_packet_of v.result.0 v.result.1.now v.result.2);
      tail = v.result.3.now;
      is_body = record { parts = ap (λ (l : List ℕ). 8 ∷ 0 ∷ l) v.ensures.parts; whole = v.ensures.whole };
    })
