use Rattle.std.proofs.Common.{◌∙◌, ap, sym}
use Rattle.match_cubes.specs.Points.{members_of}
use Rattle.nb_records.specs.declared.rule.AddressSet.{AddressSet}
use Rattle.nb_records.specs.declared.rule.PortGroup.{PortGroup}
use Rattle.address_sets.specs.Members.{sets_of, members_there}
use Rattle.address_sets.proofs.Differences.{read_members, same_differ}
use Rattle.address_sets.proofs.changed.changed.Goals as goal

pub returns-clause-sets : goal.returns-clause-sets
returns-clause-sets c =
    let members = λ (s : AddressSet). s.addresses in
    let old = c.address_sets.result.now.entries in
    let new = c.address_sets-2.result.now.entries in
    same_differ (members_there members old) (members_there members new) (members_of (sets_of c.args.old.now)).entries (members_of (sets_of c.args.new.now)).entries c.in_ok-differing.field-0
    (λ n. read_members members c.args.old.now.address_sets n ∙ ap (λ es. members_there members es n) (sym c.address_sets.ensures.entries))
    (λ n. read_members members c.args.new.now.address_sets n ∙ ap (λ es. members_there members es n) (sym c.address_sets-2.ensures.entries))
    c.in_ok-differing.ensures

pub returns-clause-groups : goal.returns-clause-groups
returns-clause-groups c =
    let members = λ (g : PortGroup). g.ports in
    let old = c.port_groups.result.now.entries in
    let new = c.port_groups-2.result.now.entries in
    same_differ (members_there members old) (members_there members new) (members_of (sets_of c.args.old.now)).ports (members_of (sets_of c.args.new.now)).ports c.in_ok-differing-2.field-0
    (λ n. read_members members c.args.old.now.port_groups n ∙ ap (λ es. members_there members es n) (sym c.port_groups.ensures.entries))
    (λ n. read_members members c.args.new.now.port_groups n ∙ ap (λ es. members_there members es n) (sym c.port_groups-2.ensures.entries))
    c.in_ok-differing-2.ensures
