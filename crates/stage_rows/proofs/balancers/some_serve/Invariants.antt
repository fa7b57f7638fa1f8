use Rattle.std.proofs.Common.{◌≡◌}
use Rattle.std.specs.List.{list_any}
use Rattle.nb_records.specs.Switches.{serves_at}
use Rattle.stage_rows.proofs.balancers.some_serve.Given as goal

-- those that are left tell it
abbrev pub invariant-balancers : goal.invariant-balancers
invariant-balancers l = list_any (λ e. serves_at l.datapath e.1) l.records.load_balancers ≡ list_any (λ e. serves_at l.datapath e.1) l._name-iterator
