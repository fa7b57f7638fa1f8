-- That the stages of a switch, one after another, let packets in and out as the model says.
use Rattle.std.specs.Prelude.{◌≡◌, List, [], ◌∷◌, None}
use Rattle.inet_packet.specs.declared.packet.Packet.{Packet}
use Rattle.nb_records.specs.Network.{Network}
use Rattle.nb_records.specs.declared.switch.SwitchPort.{SwitchPort}
use Rattle.logical_flows.specs.declared.stage.Stage.{Stage}
use Rattle.logical_flows.specs.declared.stage.Stage.TheVariants as stage
use Rattle.tunnel_keys.specs.declared.owner.Identity.{Identity}
use Rattle.net_model.specs.Entry.{Scene, sight_in, passage_in, enter}
use Rattle.net_model.specs.Exit.{sight_out, passage_out, exit}
use Rattle.net_model.specs.Headers.{asked_ip}
use Rattle.net_model.specs.Sights.{Sight}
use Rattle.net_model.specs.Targets.{answer_target, target_of}
use Rattle.net_model.specs.Tracking.{Passage}
use Rattle.net_model.specs.Trail.{Trail, Point, goes, then, given_or}
use Rattle.row_laws.specs.Passages.{carried_out, seen_at, words_of}
use Rattle.row_laws.specs.StageActions.{actions_at, found_target}

-- what the network tells of the stage, carried out on the packet as it passes the port
abbrev pub through : Passage → Sight → Stage → Trail → Point
through g sight s t =
    carried_out g (seen_at g t sight.packet) None t sight.packet (actions_at s g.net (record { port = g.port; sight = sight; words = words_of g t sight.packet }))

-- of the stages one after another, up to where it ends
abbrev pub through_all : (Packet → Passage) → (Packet → Sight) → List Stage → Trail → Packet → Point
through_all passage sight [] t p = goes t p
through_all passage sight (s ∷ ss) t p = then (through (passage p) (sight p) s t) (through_all passage sight ss)

abbrev pub entry_stages : List Stage
entry_stages = stage.SwitchAdmit ∷ stage.SwitchPortSecurity ∷ stage.SwitchTrack ∷ stage.SwitchAclIn ∷ stage.SwitchStateIn ∷ []

abbrev pub exit_stages : List Stage
exit_stages = stage.SwitchTrackOut ∷ stage.SwitchAclOut ∷ stage.SwitchStateOut ∷ stage.SwitchSecurityOut ∷ []

-- The stages before the target is found let a packet in as the model says.
abbrev pub EnterLaw : Type 0
EnterLaw = (s : Scene) (i : SwitchPort) (t : Trail) (p : Packet) → through_all (passage_in s i) (sight_in i) entry_stages t p ≡ enter s i t p

-- The target is the model's: where no answer is given for it, that which is looked up.
abbrev pub TargetLaw : Type 0
TargetLaw = (net : Network) (i : SwitchPort) (p : Packet) → given_or (answer_target net i (asked_ip p)) (found_target net i.switch p) ≡ target_of net i p

-- The stages of the egress pipeline let it out as the model says.
abbrev pub ExitLaw : Type 0
ExitLaw =
    (s : Scene) (came : Identity) (o : SwitchPort) (t : Trail) (p : Packet)
    → through_all (passage_out s came o) (sight_out came o) exit_stages t p ≡ exit s came o t p
