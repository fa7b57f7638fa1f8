-- The rows of balancers come out, by computing.
use Rattle.std.specs.Prelude.{map}
use Rattle.std.proofs.Common.{refl}
use Rattle.inet_packet.specs.Frame.{frame_of, ip4_header}
use Rattle.net_model.specs.Verdict.{verdict_of}
use Rattle.model_rows.specs.Frames.{AreFramesOf, hex}
use Rattle.model_rows.specs.Play.{ComesOut, all_told, all_wanted}
use Rattle.model_rows.specs.Balancers as row

pub frames : AreFramesOf row.balancer_frames
unfolding AreFramesOf frame_of ip4_header
frames = refl {a = map hex row.balancer_frames}

pub balancer_row : ComesOut row.balancer_row
unfolding ComesOut all_told frame_of ip4_header verdict_of
balancer_row = refl {a = all_wanted row.balancer_row}
