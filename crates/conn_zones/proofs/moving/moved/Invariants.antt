use Rattle.std.proofs.Common.{◌≡◌, drop, map}
use Rattle.std.specs.Option.{unwrap_or}
use Rattle.ovn_base.specs.declared.name.Name.{Name}
use Rattle.ovn_base.specs.lists.Once.{EachOnce}
use Rattle.ovn_base.specs.names.ByName.{at}
use Rattle.conn_zones.proofs.moving.moved.Given as goal

-- what is left makes of the homes now what the whole change makes of those before it
abbrev pub invariant-change : goal.invariant-change
invariant-change l = record {
  once : EachOnce (map (λ e. e.0) (drop l.name-index l.change));
  homes : (name : Name) → unwrap_or (at (drop l.name-index l.change) name) (at l.homes name) ≡ unwrap_or (at l.change name) (at l.before name);
}
