-- Facts of a switch, as tests of the records one after another.
use Rattle.std.specs.Prelude.{◌≡◌, ◌&&◌, Bool, true, false}
use Rattle.std.specs.List.{filter, list_any}
use Rattle.std.specs.Map.{values_of}
use Rattle.std.proofs.Common.{refl, ◌∙◌}
use Rattle.ovn_base.specs.declared.name.Name.{Name}
use Rattle.ovn_base.specs.names.SameName.{same_name}
use Rattle.nb_records.proofs.AnyLaws.{any_map, any_filter, any_same}
use Rattle.nb_records.specs.Network.{Network}
use Rattle.nb_records.specs.Switches.{applies, is_related, is_stateful, takes_unknown}
use Rattle.nb_records.specs.declared.rule.Acl.{Acl}
use Rattle.nb_records.specs.declared.switch.SwitchPort.{SwitchPort}
use Rattle.stage_rows.specs.SwitchRows.{some_take_unknown}
use Rattle.switch_stages.specs.SwitchTests.{makes_stateful, takes_unknown_there}

either_way : (a b : Bool) → (a && b) ≡ (b && a)
either_way true true = refl
either_way true false = refl
either_way false true = refl
either_way false false = refl

pub stateful_is : (net : Network) (switch : Name) → is_stateful net switch ≡ list_any (λ (e : Name × Acl). makes_stateful net switch e.1) net.acls
stateful_is net switch =
    any_filter (λ (r : Acl). is_related r.action) (applies net switch) (values_of net.acls)
    ∙ any_same (λ (r : Acl). applies net switch r && is_related r.action) (makes_stateful net switch) (λ r. either_way (applies net switch r) (is_related r.action)) (values_of net.acls)
    ∙ any_map (makes_stateful net switch) (λ (e : Name × Acl). e.1) net.acls

pub takes_is : (net : Network) (switch : Name) → some_take_unknown net switch ≡ list_any (λ (e : Name × SwitchPort). takes_unknown_there switch e.1) net.switch_ports
takes_is net switch =
    any_filter (λ (q : SwitchPort). takes_unknown q.addresses) (λ (q : SwitchPort). q.enabled) (filter (λ (q : SwitchPort). same_name q.switch switch) (values_of net.switch_ports))
    ∙ any_filter (λ (q : SwitchPort). q.enabled && takes_unknown q.addresses) (λ (q : SwitchPort). same_name q.switch switch) (values_of net.switch_ports)
    ∙ any_map (takes_unknown_there switch) (λ (e : Name × SwitchPort). e.1) net.switch_ports
