use Rattle.std.specs.Prelude.{◌≡◌, ◌↔◌, ◌⊎◌, ◌++◌, drop}
use Rattle.ovn_base.specs.declared.name.Name.{Name}
use Rattle.ovn_base.specs.lists.Among.{Among}
use Rattle.northd_core.proofs.touched.each_name.Given as goal

-- those that came, with those that are left, are all
abbrev pub invariant-names : goal.invariant-names
invariant-names l = (n : Name) → Among n l.names ↔ (Among n l.sorted.keys ⊎ Among n (drop l.name-index l.names))

-- the names so far, and those that are left
abbrev pub invariant-singles : goal.invariant-singles
invariant-singles l = l.singles ++ l.name-iterator ≡ l.initial.name-iterator
