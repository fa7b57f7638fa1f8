use Rattle.std.specs.Prelude.{[], ◌∷◌, map}
use Rattle.std.specs.Map.{keys_of}
use Rattle.std.proofs.Common.{subst}
use Rattle.logical_flows.specs.declared.unit.UnitId.TheVariants.{Nat}
use Rattle.northd_core.proofs.Joined.{IsJoining, some_join, one_joins}
use Rattle.northd_core.proofs.routed.put_nats.Goals as goal

pub loop-name-preserved : goal.loop-name-preserved
loop-name-preserved c =
    let before = c.loop-name.units.keys in
    let unit = Nat c.in-Some.name.now in
    let all = map Nat (keys_of c.args.records.now.nats) in
    some_join c.args.units.now.keys all before c.insert.new.self.keys (unit ∷ []) (map Nat (keys_of c.next.new.self))
    (one_joins c.exact_unit_order.ensures before c.insert.new.self.keys unit c.in_ok-insert.ensures.keys)
    (subst (λ es. IsJoining c.args.units.now.keys all before (map Nat (keys_of es))) c.in-Some.ensures.steps c.loop-name.invariant)
