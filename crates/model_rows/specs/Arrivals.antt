-- Rows of frames that wait, arrive and are lost.
use Rattle.std.specs.Prelude.{List, [], ◌∷◌, ◌++◌, true, false, codes}
use Rattle.net_model.specs.Journey.{enter_one, arrive_one, lose_one, arrive_all}
use Rattle.model_rows.specs.Frames.{hex, packet}
use Rattle.model_rows.specs.Play.{RowEvent, edited, bound, went, out, lost, to_one, to_all}
use Rattle.model_rows.specs.Records.{remove_port}
use Rattle.model_rows.specs.Switch.{two_ports, p1_added, p2_added, entered, arrived, asks_for_nobody, there, f}

-- the frame from p1 lies between the chassis
abbrev pub injected : RowEvent
injected = went (enter_one (codes "p1") (packet f)) (there (to_one (codes "p2")) f ∷ [])

-- another port of the name comes before the frame does
abbrev pub late_frame_to_removed_port : List RowEvent
late_frame_to_removed_port = two_ports
    ++ injected
    ∷ edited (remove_port (codes "p2") ∷ [])
    ∷ p2_added
    ∷ bound (codes "p2") (codes "hv2")
    ∷ went (arrive_one 1 false) (lost 1 ∷ [])
    ∷ []

-- twice it arrives and waits on, and then it is lost; nothing arrives any more
abbrev pub repeated_and_lost_frames : List RowEvent
repeated_and_lost_frames = two_ports
    ++ injected
    ∷ went (arrive_one 1 true) (out (codes "p2") (hex f) ∷ [])
    ∷ went (arrive_one 1 true) (out (codes "p2") (hex f) ∷ [])
    ∷ went (lose_one 1) []
    ∷ went arrive_all []
    ∷ []

-- a frame to all arrives where its port of entry is at home by now: that gets no copy; the lines of this row and the next are those of a second reading of the rules, made apart from these definitions
abbrev pub moved_port_of_entry : List RowEvent
moved_port_of_entry = two_ports
    ++ entered (codes "p1") asks_for_nobody (there to_all asks_for_nobody ∷ [])
    ∷ bound (codes "p1") (codes "hv2")
    ∷ arrived 1 (out (codes "p2") (hex asks_for_nobody) ∷ [])
    ∷ []

-- another port of its name does
abbrev pub replaced_port_of_entry : List RowEvent
replaced_port_of_entry = two_ports
    ++ entered (codes "p1") asks_for_nobody (there to_all asks_for_nobody ∷ [])
    ∷ edited (remove_port (codes "p1") ∷ [])
    ∷ p1_added
    ∷ bound (codes "p1") (codes "hv2")
    ∷ arrived 1 (out (codes "p1") (hex asks_for_nobody) ∷ out (codes "p2") (hex asks_for_nobody) ∷ [])
    ∷ []

-- its port goes before it arrives
abbrev pub retired_keys : List RowEvent
retired_keys = two_ports
    ++ injected
    ∷ edited (remove_port (codes "p2") ∷ [])
    ∷ went arrive_all (lost 1 ∷ [])
    ∷ []
