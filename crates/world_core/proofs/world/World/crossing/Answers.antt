use Rattle.inet_packet.specs.Frame.{frame_of}
use Rattle.std.proofs.Common.{◌≡◌, sym, ap, ◌∙◌, subst}
use Rattle.std.proofs.lemmas.Option.{same_Some}
use Rattle.sim_laws.specs.Effects.{datapath_key, port_key, aim_key}
use Rattle.sim_laws.specs.Naming.{HasDatapathKey}
use Rattle.world_core.specs.Packets.{IsNumberOf, IsPortNumber, IsSwitchNumber}
use Rattle.world_core.proofs.FrameCrossings.{aim_number, in_number, sent_spells, switch_number}
use Rattle.world_core.proofs.world.World.crossing.Goals as goal

pub unreachable-requires : goal.unreachable-requires
unreachable-requires c =
    let m = c.args.self.now.state in
    let to = c.requires.sent.0 in
    let x = c.requires.sent.1 in
    let f = c.requires.sent.2 in
    c.in_default.ensures.only (datapath_key m.keys x.datapath) (port_key m.keys x.in_port) (aim_key m.keys x.aim) (frame_of x.packet) (sent_spells m c.requires.valid c.requires.keys to c.args.bytes.now x f)

pub unreachable-requires-in_default-switch_of_key : goal.unreachable-requires-in_default-switch_of_key
unreachable-requires-in_default-switch_of_key c =
    let m = c.args.self.now.state in
    let to = c.requires.sent.0 in
    let x = c.requires.sent.1 in
    let f = c.requires.sent.2 in
    let given = c.in-Ok.ensures.only (datapath_key m.keys x.datapath) (port_key m.keys x.in_port) (aim_key m.keys x.aim) (frame_of x.packet) (sent_spells m c.requires.valid c.requires.keys to c.args.bytes.now x f) in
    c.in_default-switch_of_key.not-Some x.datapath (c.switch_of_key.ensures x.datapath (subst (λ k. IsSwitchNumber m k x.datapath) (sym given.0) (switch_number m c.requires.valid c.requires.keys x f.may)))

pub unreachable-requires-in_default-port_of_key : goal.unreachable-requires-in_default-port_of_key
unreachable-requires-in_default-port_of_key c =
    let m = c.args.self.now.state in
    let to = c.requires.sent.0 in
    let x = c.requires.sent.1 in
    let f = c.requires.sent.2 in
    let given = c.in-Ok.ensures.only (datapath_key m.keys x.datapath) (port_key m.keys x.in_port) (aim_key m.keys x.aim) (frame_of x.packet) (sent_spells m c.requires.valid c.requires.keys to c.args.bytes.now x f) in
    let under = subst (λ k. HasDatapathKey m.keys x.datapath.name k) (sym given.0) (switch_number m c.requires.valid c.requires.keys x f.may).0 in
    c.in_default-port_of_key.not-Some x.in_port (c.port_of_key.ensures x.datapath.name x.in_port under (subst (λ k. IsPortNumber m x.datapath.name k x.in_port) (sym given.1) (in_number m c.requires.valid c.requires.keys x f.may)))

pub unreachable-requires-in_default-aim : goal.unreachable-requires-in_default-aim
unreachable-requires-in_default-aim c =
    let m = c.args.self.now.state in
    let to = c.requires.sent.0 in
    let x = c.requires.sent.1 in
    let f = c.requires.sent.2 in
    let given = c.in-Ok.ensures.only (datapath_key m.keys x.datapath) (port_key m.keys x.in_port) (aim_key m.keys x.aim) (frame_of x.packet) (sent_spells m c.requires.valid c.requires.keys to c.args.bytes.now x f) in
    let under = subst (λ k. HasDatapathKey m.keys x.datapath.name k) (sym given.0) (switch_number m c.requires.valid c.requires.keys x f.may).0 in
    c.in_default-aim.not-Some x.aim (c.aim.ensures x.datapath.name x.aim under (subst (λ k. IsNumberOf m x.datapath.name k x.aim) (sym given.2) (aim_number m c.requires.valid c.requires.keys x f.may)))

pub returns : goal.returns
returns c = λ to x f.
    let m = c.args.self.now.state in
    let given = c.in-Ok.ensures.only (datapath_key m.keys x.datapath) (port_key m.keys x.in_port) (aim_key m.keys x.aim) (frame_of x.packet) (sent_spells m c.requires.valid c.requires.keys to c.args.bytes.now x f) in
    let switch = switch_number m c.requires.valid c.requires.keys x f.may in
    let under = subst (λ k. HasDatapathKey m.keys x.datapath.name k) (sym given.0) switch.0 in
    let datapath : c.in-Some.datapath ≡ x.datapath = same_Some c.in-Some.datapath x.datapath (sym c.in-Some.is ∙ c.switch_of_key.ensures x.datapath (subst (λ k. IsSwitchNumber m k x.datapath) (sym given.0) switch)) in
    let in_port : c.in-Some-port_of_key.in_port ≡ x.in_port =
    same_Some c.in-Some-port_of_key.in_port x.in_port (sym c.in-Some-port_of_key.is ∙ c.port_of_key.ensures x.datapath.name x.in_port under (subst (λ k. IsPortNumber m x.datapath.name k x.in_port) (sym given.1) (in_number m c.requires.valid c.requires.keys x f.may))) in
    let aim : c.in-Some-aim.aim ≡ x.aim =
    same_Some c.in-Some-aim.aim x.aim (sym c.in-Some-aim.is ∙ c.aim.ensures x.datapath.name x.aim under (subst (λ k. IsNumberOf m x.datapath.name k x.aim) (sym given.2) (aim_number m c.requires.valid c.requires.keys x f.may))) in
    λ i. record { datapath = datapath i; in_port = in_port i; aim = aim i }
