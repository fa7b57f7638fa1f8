use Rattle.std.specs.Prelude.{◌++◌}
use Rattle.std.proofs.lemmas.Result.{on_ok_weaker}
use Rattle.ovn_base.specs.addresses.EtherAddress.{mac_bytes}
use Rattle.inet_packet.specs.Frame.{two, four, ethernet_ip4}
use Rattle.inet_packet.proofs.Lists.{then_piece}
use Rattle.inet_packet.proofs.encode.put_arp.Goals as goal

pub returns-clause-ok : goal.returns-clause-ok
returns-clause-ok c =
    let a = c.args.arp.now in
    let out = c.args.out.now.items in
    let p2 = ethernet_ip4 ++ two a.op in
    let p3 = p2 ++ mac_bytes a.sha in
    let p4 = p3 ++ four a.spa.0 in
    let p5 = p4 ++ mac_bytes a.tha in
    let op = then_piece out ethernet_ip4 c.put.new.out.items c.to_be_bytes.result (two a.op) c.put-2.new.out.items c.in_ok-put.ensures.ok c.in_ok-put-2.ensures.ok c.to_be_bytes.ensures in
    let sha = then_piece out p2 c.put-2.new.out.items c.bytes.result (mac_bytes a.sha) c.put-3.new.out.items op c.in_ok-put-3.ensures.ok c.bytes.ensures in
    let spa = then_piece out p3 c.put-3.new.out.items c.to_be_bytes-2.result (four a.spa.0) c.put-4.new.out.items sha c.in_ok-put-4.ensures.ok c.to_be_bytes-2.ensures in
    let tha = then_piece out p4 c.put-4.new.out.items c.bytes-2.result (mac_bytes a.tha) c.put-5.new.out.items spa c.in_ok-put-5.ensures.ok c.bytes-2.ensures in
    on_ok_weaker c.put-6.result (λ e. then_piece out p5 c.put-5.new.out.items c.to_be_bytes-3.result (four a.tpa.0) c.put-6.new.out.items tha e c.to_be_bytes-3.ensures) c.put-6.ensures.ok
