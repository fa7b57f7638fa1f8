use Rattle.std.proofs.Common.{◌≡◌, ◌↔◌, ◌⊎◌, ◌++◌, drop}
use Rattle.ovn_base.specs.lists.Among.{Among}
use Rattle.tunnel_keys.proofs.retiring.in_order.Given as goal

-- those that came, with those that are left, are all
abbrev pub invariant-loop-key : goal.invariant-loop-key
invariant-loop-key g l = (h : g.row.H.Denot) → Among h l.held ↔ (Among h l.sorted.keys ⊎ Among h (drop l.key-index l.held))

abbrev pub invariant-loop-key-2 : goal.invariant-loop-key-2
invariant-loop-key-2 g l = l.all ++ l.key-iterator ≡ l.initial.key-iterator
