use Rattle.std.specs.Prelude.{◌≡◌, ◌+◌, List, [], ◌∷◌, drop}
use Rattle.std.proofs.Common.{slice_index_or, subst}
use Rattle.std.proofs.lemmas.List.{drop_all, drop_more}
use Rattle.ovn_base.specs.declared.address.Ip4.{Ip4}
use Rattle.northd_core.specs.Routed.{reached_units}
use Rattle.northd_core.proofs.Joined.{IsJoining, some_join}
use Rattle.northd_core.proofs.ReachedUnits.{first_reached, none_left_joined}
use Rattle.northd_core.proofs.neighbours.put_reached.Goals as goal

pub ips-preserved : goal.ips-preserved
ips-preserved c =
    let net = c.args.records.now in
    let port = c.args.port.now in
    let ips : List Ip4 = c.args.ips.now in
    let none : Ip4 = record { 0 = 0 } in
    let ip : Ip4 = slice_index_or ips c.ips.ip-index none in
    let rest : List Ip4 = drop (c.ips.ip-index + 1) ips in
    let left : drop c.ips.ip-index ips ≡ ip ∷ rest = drop_more ips c.ips.ip-index none c.ips-test.true in
    let start = c.args.units.now.keys in
    let before = c.ips.units.keys in
    let all = reached_units net port ips in
    some_join start all before c.put_if_reached.new.units.keys (reached_units net port (ip ∷ [])) (reached_units net port rest) c.in_ok-put_if_reached.ensures
    (subst (λ us. IsJoining start all before us) (first_reached net port ip rest) (subst (λ xs. IsJoining start all before (reached_units net port xs)) left c.ips.invariant))

pub returns : goal.returns
returns c =
    let net = c.args.records.now in
    let port = c.args.port.now in
    let ips : List Ip4 = c.args.ips.now in
    let start = c.args.units.now.keys in
    let all = reached_units net port ips in
    let left : drop c.ips.ip-index ips ≡ [] = drop_all c.ips.ip-index ips c.ips-test.false in
    none_left_joined start all c.ips.units.keys (subst (λ xs. IsJoining start all c.ips.units.keys (reached_units net port xs)) left c.ips.invariant)
