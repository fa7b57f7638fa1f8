use Rattle.std.proofs.Common.{◌≡◌, drop, map}
use Rattle.ovn_base.specs.declared.name.Name.{Name}
use Rattle.ovn_base.specs.lists.Once.{EachOnce}
use Rattle.ovn_base.specs.names.ByName.{at}
use Rattle.conn_zones.specs.Giving.{comes_to}
use Rattle.conn_zones.proofs.NamedLaws.{comer_at}
use Rattle.conn_zones.proofs.keeping.comers.Given as goal

-- those who are left come beside those so far
abbrev pub invariant-change : goal.invariant-change
invariant-change l = record {
  once : EachOnce (map (λ e. e.0) (drop l.name-index l.change));
  homes : (q : Name) → comer_at l.before (drop l.name-index l.change) l.comers q ≡ comes_to (at l.before q) (at l.change q);
}
