-- The rows of routers come out, by computing.
use Rattle.std.specs.Prelude.{map}
use Rattle.std.proofs.Common.{refl}
use Rattle.inet_packet.specs.Frame.{frame_of, ip4_header}
use Rattle.net_model.specs.Verdict.{verdict_of}
use Rattle.model_rows.specs.Frames.{AreFramesOf, hex}
use Rattle.model_rows.specs.Play.{ComesOut, all_told, all_wanted}
use Rattle.model_rows.specs.Routers as row

pub frames : AreFramesOf row.router_frames
unfolding AreFramesOf frame_of ip4_header
frames = refl {a = map hex row.router_frames}

pub hop_limit : ComesOut row.hop_limit
unfolding ComesOut all_told frame_of ip4_header verdict_of
hop_limit = refl {a = all_wanted row.hop_limit}

pub no_route : ComesOut row.no_route
unfolding ComesOut all_told frame_of ip4_header verdict_of
no_route = refl {a = all_wanted row.no_route}

pub snat_row : ComesOut row.snat_row
unfolding ComesOut all_told frame_of ip4_header verdict_of
snat_row = refl {a = all_wanted row.snat_row}

pub dnat_row : ComesOut row.dnat_row
unfolding ComesOut all_told frame_of ip4_header verdict_of
dnat_row = refl {a = all_wanted row.dnat_row}

pub no_free_port : ComesOut row.no_free_port
unfolding ComesOut all_told frame_of ip4_header verdict_of
no_free_port = refl {a = all_wanted row.no_free_port}
