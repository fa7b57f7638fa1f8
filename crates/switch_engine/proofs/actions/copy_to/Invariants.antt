use Rattle.std.proofs.Common.{◌≡◌, ◌++◌, drop}
use Rattle.std.specs.List.{AllByRecursion}
use Rattle.switch_engine.specs.Actions.{copies_for}
use Rattle.switch_engine.specs.Advance.{IsCarriedInRange}
use Rattle.switch_engine.proofs.actions.copy_to.Given as goal

-- the copies so far and those for the members that are left are those for all
abbrev pub invariant-members : goal.invariant-members
invariant-members l = record {
  copies : l.made ++ copies_for l.copy (drop l.member-index l.members) ≡ l.fn.made ++ copies_for l.fn.copy l.fn.members;
  in_range : AllByRecursion IsCarriedInRange l.made;
}
