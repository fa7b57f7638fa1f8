use Rattle.std.specs.Prelude.{◌++◌}
use Rattle.std.proofs.Common.{refl, ap, ◌∙◌}
use Rattle.std.proofs.lemmas.Result.{on_ok_weaker}
use Rattle.ovn_base.specs.addresses.EtherAddress.{mac_bytes}
use Rattle.inet_packet.specs.Frame.{body_bytes, frame_of}
use Rattle.inet_packet.proofs.Lists.{then_piece}
use Rattle.inet_packet.proofs.encode.put_packet.Goals as goal

pub returns-clause-ok : goal.returns-clause-ok
unfolding frame_of
returns-clause-ok c =
    let p = c.args.packet.now in
    let out = c.args.out.now.items in
    let both = mac_bytes p.dst ++ mac_bytes p.src in
    let dst = c.in_ok-put.ensures.ok ∙ ap (λ x. out ++ x) c.bytes.ensures in
    let src = then_piece out (mac_bytes p.dst) c.put.new.out.items c.bytes-2.result (mac_bytes p.src) c.put-2.new.out.items dst c.in_ok-put-2.ensures.ok c.bytes-2.ensures in
    let body = then_piece out both c.put-2.new.out.items (body_bytes p.body) (body_bytes p.body) c.put_body.new.out.items src c.in_ok-put_body.ensures.ok refl in
    on_ok_weaker c.put-3.result (λ e. then_piece out (both ++ body_bytes p.body) c.put_body.new.out.items c.as_slice.result.now p.tail c.put-3.new.out.items body e c.as_slice.ensures) c.put-3.ensures.ok
