use Rattle.std.proofs.Common.{◌≡◌, Some, sym, ap, ◌∙◌}
use Rattle.std.proofs.lemmas.Option.{same_Some, none-some}
use Rattle.chassis_sim.specs.InNames.{name_of}
use Rattle.nb_records.specs.Network.{Network}
use Rattle.nb_records.specs.declared.switch.SwitchPort.{SwitchPort}
use Rattle.ovn_base.specs.names.ByName.{at}
use Rattle.world_core.specs.WorldView.{WorldView}
use Rattle.world_core.proofs.NumberedNames.{port_name}
use Rattle.world_core.proofs.world.World.port_of_key.Goals as goal

pub returns-in_default : goal.returns-in_default
returns-in_default c = λ switch id under n.
    let m = c.args.self.now.state in
    let name : c.name-name.result ≡ id.name = c.name-name.ensures ∙ ap (λ (v : WorldView). name_of v.sim.names c.args.datapath c.args.key) c.self.view_is ∙ port_name m.keys c.args.self.now.sim c.requires.names switch id.name c.args.datapath c.args.key under n.0 in
    absurd (none-some n.1.0 (c.in_default.ensures ∙ ap (λ (r : Network). at r.switch_ports c.name-name.result) c.records.ensures ∙ ap (λ (v : WorldView). at v.state.config.net.switch_ports c.name-name.result) c.self.view_is ∙ ap (λ a. at m.config.net.switch_ports a) name ∙ n.1.1))

pub returns : goal.returns
returns c = λ switch id under n.
    let m = c.args.self.now.state in
    let name : c.name-name.result ≡ id.name = c.name-name.ensures ∙ ap (λ (v : WorldView). name_of v.sim.names c.args.datapath c.args.key) c.self.view_is ∙ port_name m.keys c.args.self.now.sim c.requires.names switch id.name c.args.datapath c.args.key under n.0 in
    let port : c.in-Some.port.now ≡ n.1.0 =
    same_Some c.in-Some.port.now n.1.0 (c.in-Some.ensures ∙ ap (λ (r : Network). at r.switch_ports c.name-name.result) c.records.ensures ∙ ap (λ (v : WorldView). at v.state.config.net.switch_ports c.name-name.result) c.self.view_is ∙ ap (λ a. at m.config.net.switch_ports a) name ∙ n.1.1) in
    let birth = ap (λ (p : SwitchPort). p.birth) port ∙ n.1.2 in
    λ i. Some (record { name = name i; birth = birth i })
