use Rattle.std.proofs.Common.{◌≡◌, Some, sym, ap, ◌∙◌}
use Rattle.std.proofs.lemmas.Option.{same_Some, none-some}
use Rattle.chassis_sim.specs.InNames.{name_of}
use Rattle.nb_records.specs.Network.{Network}
use Rattle.nb_records.specs.declared.switch.Switch.{Switch}
use Rattle.ovn_base.specs.names.ByName.{at}
use Rattle.world_core.specs.WorldView.{WorldView}
use Rattle.world_core.proofs.NumberedNames.{datapath_name}
use Rattle.world_core.proofs.world.World.switch_of_key.Goals as goal

pub returns-in_default : goal.returns-in_default
returns-in_default c = λ id n.
    let m = c.args.self.now.state in
    let name : c.name-name.result ≡ id.name = c.name-name.ensures ∙ ap (λ (v : WorldView). name_of v.sim.names c.args.datapath 0) c.self.view_is ∙ datapath_name m.keys c.args.self.now.sim c.requires.names id.name c.args.datapath n.0 in
    absurd (none-some n.1.0 (c.in_default.ensures ∙ ap (λ (r : Network). at r.switches c.name-name.result) c.records.ensures ∙ ap (λ (v : WorldView). at v.state.config.net.switches c.name-name.result) c.self.view_is ∙ ap (λ a. at m.config.net.switches a) name ∙ n.1.1))

pub returns : goal.returns
returns c = λ id n.
    let m = c.args.self.now.state in
    let name : c.name-name.result ≡ id.name = c.name-name.ensures ∙ ap (λ (v : WorldView). name_of v.sim.names c.args.datapath 0) c.self.view_is ∙ datapath_name m.keys c.args.self.now.sim c.requires.names id.name c.args.datapath n.0 in
    let switch : c.in-Some.switch.now ≡ n.1.0 =
    same_Some c.in-Some.switch.now n.1.0 (c.in-Some.ensures ∙ ap (λ (r : Network). at r.switches c.name-name.result) c.records.ensures ∙ ap (λ (v : WorldView). at v.state.config.net.switches c.name-name.result) c.self.view_is ∙ ap (λ a. at m.config.net.switches a) name ∙ n.1.1) in
    let birth = ap (λ (w : Switch). w.birth) switch ∙ n.1.2 in
    λ i. Some (record { name = name i; birth = birth i })
