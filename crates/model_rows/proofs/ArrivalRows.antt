-- The rows of arrivals come out, by computing.
use Rattle.std.proofs.Common.{refl}
use Rattle.inet_packet.specs.Frame.{frame_of, ip4_header}
use Rattle.net_model.specs.Verdict.{verdict_of}
use Rattle.model_rows.specs.Play.{ComesOut, all_told, all_wanted}
use Rattle.model_rows.specs.Arrivals as row

pub late_frame_to_removed_port : ComesOut row.late_frame_to_removed_port
unfolding ComesOut all_told frame_of ip4_header verdict_of
late_frame_to_removed_port = refl {a = all_wanted row.late_frame_to_removed_port}

pub repeated_and_lost_frames : ComesOut row.repeated_and_lost_frames
unfolding ComesOut all_told frame_of ip4_header verdict_of
repeated_and_lost_frames = refl {a = all_wanted row.repeated_and_lost_frames}

pub retired_keys : ComesOut row.retired_keys
unfolding ComesOut all_told frame_of ip4_header verdict_of
retired_keys = refl {a = all_wanted row.retired_keys}

pub moved_port_of_entry : ComesOut row.moved_port_of_entry
unfolding ComesOut all_told frame_of ip4_header verdict_of
moved_port_of_entry = refl {a = all_wanted row.moved_port_of_entry}

pub replaced_port_of_entry : ComesOut row.replaced_port_of_entry
unfolding ComesOut all_told frame_of ip4_header verdict_of
replaced_port_of_entry = refl {a = all_wanted row.replaced_port_of_entry}
