use Rattle.std.proofs.Common.{◌≡◌, ◌∙◌, ap, ◌++◌, ℕ, List, Option, Some, sym, not}
use Rattle.std.proofs.lemmas.Result.{on_ok_weaker}
use Rattle.ovn_base.specs.names.ByName.{at}
use Rattle.ovn_base.specs.declared.name.Name.{Name}
use Rattle.nb_records.specs.declared.switch.Switch.{Switch}
use Rattle.tunnel_keys.specs.Keys.{ports_on}
use Rattle.net_model.specs.declared.crossing.Group.{Group}
use Rattle.net_model.specs.declared.crossing.Group.TheVariants.{Flood, Unknown}
use Rattle.physical_flows.specs.Compiling.{basis_of}
use Rattle.physical_flows.specs.Numbers.{datapath_number}
use Rattle.physical_flows.specs.PlacedList.{placed_among, rows_placed}
use Rattle.physical_flows.specs.Stages.{Basis}
use Rattle.physical_flows.specs.Units.{switch_here}
use Rattle.physical_flows.proofs.Members.{rows_among, group_among, groups_are}
use Rattle.physical_flows.proofs.PlacedMembers.{same_rows}
use Rattle.physical_flows.proofs.SwitchLists.{found_record, listed_ports}
use Rattle.physical_flows.proofs.compile.Maps.push_switch_here.Goals as goal

pub returns : goal.returns
returns c =
    let b : Basis = basis_of c.args.self.now in
    let a : Name = c.args.name.now in
    let dp : ℕ = c.in-Some.datapath in
    let all : List (Name × ℕ) = c.as_slice.result.now in
    let switch = found_record c.switch.result (at b.net.switches a) c.switch.ensures (c.is_none.ensures ∙ ap (λ none. not none) c.if-is_none.false) in
    let number : Some dp ≡ datapath_number b.keys a = c.in-Some.ensures in
    let ports : all ≡ ports_on b.keys.ports a = c.as_slice.ensures ∙ listed_ports b.keys a dp c.in-Some-ports.ports.now number c.in-Some-ports.ensures in
    let placed : c.as_slice-ports.result.now ≡ placed_among b all = c.as_slice-ports.ensures ∙ c.in_ok-placed.ensures in
    let group_is : (g : Group) → rows_placed b dp g c.as_slice-ports.result.now ≡ rows_among b dp g (group_among b g all) = λ g. ap (λ ps. rows_placed b dp g ps) placed ∙ same_rows b g dp all in
    let flood : c.push_group.new.flows ≡ c.args.flows.now ++ rows_among b dp Flood (group_among b Flood all) = c.in_ok-push_group.ensures ∙ ap (λ fs. c.args.flows.now ++ fs) (group_is Flood) in
    let rows : c.push_group.new.flows ++ rows_among b dp Unknown (group_among b Unknown all) ≡ c.args.flows.now ++ switch_here b a (at b.net.switches a) (datapath_number b.keys a) =
    ap (λ fs. fs ++ rows_among b dp Unknown (group_among b Unknown all)) flood
    ∙ groups_are b c.requires.sorted c.requires.named c.requires.keys a dp all c.args.flows.now ports
    ∙ ap (λ (o : Option Switch). c.args.flows.now ++ switch_here b a o (Some dp)) (sym switch.1)
    ∙ ap (λ (o : Option ℕ). c.args.flows.now ++ switch_here b a (at b.net.switches a) o) number in
    on_ok_weaker c.push_group-2.result (λ e. e ∙ ap (λ fs. c.push_group.new.flows ++ fs) (group_is Unknown) ∙ rows) c.push_group-2.ensures
