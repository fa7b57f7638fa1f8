-- The rows of a switch's port, by pipeline.
use Rattle.std.specs.Prelude.{List, [], ◌∷◌, ◌++◌, Bool}
use Rattle.nb_records.specs.Network.{Network}
use Rattle.nb_records.specs.declared.switch.SwitchPort.{SwitchPort}
use Rattle.logical_flows.specs.declared.flow.LFlow.{LFlow}
use Rattle.stage_rows.specs.Rows.{when}
use Rattle.stage_rows.specs.SwitchRows.{tracks_port, port_admit, port_port_security, port_track_row, port_arp, port_lookup, port_disabled_out, port_track_out_row, port_security_out}

-- of a port that is tracked or isn't
abbrev pub ingress_rows : Network → Bool → SwitchPort → List LFlow
ingress_rows net tracked q = port_admit q ++ port_port_security q ++ when tracked (port_track_row q ∷ []) ++ port_arp q ++ port_lookup net q

abbrev pub egress_rows : Bool → SwitchPort → List LFlow
egress_rows tracked q = port_disabled_out q ++ when tracked (port_track_out_row q ∷ []) ++ port_security_out q

abbrev pub listed_rows : Network → SwitchPort → List LFlow
listed_rows net q = ingress_rows net (tracks_port net q) q ++ egress_rows (tracks_port net q) q
