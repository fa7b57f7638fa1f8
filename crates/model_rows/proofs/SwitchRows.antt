-- The rows of switches come out, by computing.
use Rattle.std.specs.Prelude.{map}
use Rattle.std.proofs.Common.{refl}
use Rattle.inet_packet.specs.Frame.{frame_of, ip4_header}
use Rattle.net_model.specs.Verdict.{verdict_of}
use Rattle.model_rows.specs.Frames.{AreFramesOf, hex}
use Rattle.model_rows.specs.Play.{ComesOut, all_told, all_wanted}
use Rattle.model_rows.specs.Switch as row

pub frames : AreFramesOf row.switch_frames
unfolding AreFramesOf frame_of ip4_header
frames = refl {a = map hex row.switch_frames}

pub first_path : ComesOut row.first_path
unfolding ComesOut all_told frame_of ip4_header verdict_of
first_path = refl {a = all_wanted row.first_path}

pub tunnel_row : ComesOut row.tunnel_row
unfolding ComesOut all_told frame_of ip4_header verdict_of
tunnel_row = refl {a = all_wanted row.tunnel_row}

pub loopback : ComesOut row.loopback
unfolding ComesOut all_told frame_of ip4_header verdict_of
loopback = refl {a = all_wanted row.loopback}

pub arp_answers : ComesOut row.arp_answers
unfolding ComesOut all_told frame_of ip4_header verdict_of
arp_answers = refl {a = all_wanted row.arp_answers}

pub unknown_group : ComesOut row.unknown_group
unfolding ComesOut all_told frame_of ip4_header verdict_of
unknown_group = refl {a = all_wanted row.unknown_group}

pub port_security : ComesOut row.port_security
unfolding ComesOut all_told frame_of ip4_header verdict_of
port_security = refl {a = all_wanted row.port_security}

pub secured_addresses : ComesOut row.secured_addresses
unfolding ComesOut all_told frame_of ip4_header verdict_of
secured_addresses = refl {a = all_wanted row.secured_addresses}

pub broadcast_beside_distributed_router : ComesOut row.broadcast_beside_distributed_router
unfolding ComesOut all_told frame_of ip4_header verdict_of
broadcast_beside_distributed_router = refl {a = all_wanted row.broadcast_beside_distributed_router}
