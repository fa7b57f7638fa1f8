use Rattle.inet_packet.specs.Frame.{frame_of}
use Rattle.chassis_sim.proofs.laws.one_carried.Goals as goal

pub returns : goal.returns
returns c bytes vni in_key out_key packet other_vni other_in other_out other a b =
    let one = c.one_reading.ensures bytes vni in_key out_key (frame_of packet) other_vni other_in other_out (frame_of other) a.spelled b.spelled in
    (one.0, one.1, one.2, c.one_packet.ensures packet other a.whole b.whole one.3)
