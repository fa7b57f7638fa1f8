use Rattle.std.proofs.lemmas.Result.{on_err_weaker}
use Rattle.inet_packet.proofs.Lists.{kept_before}
use Rattle.inet_packet.proofs.encode.put_body.Goals as goal

pub returns-in_ok-put_header-in-Ip4-clause-err : goal.returns-in_ok-put_header-in-Ip4-clause-err
returns-in_ok-put_header-in-Ip4-clause-err c =
    on_err_weaker c.put_part.result (λ h. kept_before _ _ _ _ c.in_ok-put-in-Ip4.ensures.ok (kept_before _ _ _ _ c.in_ok-put_header-in-Ip4.ensures.ok h)) c.put_part.ensures.err
