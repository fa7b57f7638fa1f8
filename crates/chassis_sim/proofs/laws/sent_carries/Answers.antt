use Rattle.inet_packet.specs.Frame.{frame_of}
use Rattle.chassis_sim.proofs.laws.sent_carries.Goals as goal

pub returns : goal.returns
returns c vni in_key out_key packet v i o whole = record { spelled = c.reads_back.ensures vni in_key out_key (frame_of packet) v i o; whole = whole }
