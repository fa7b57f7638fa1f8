use Rattle.std.proofs.Common.{◌≡◌, None}
use Rattle.std.specs.List.{find}
use Rattle.std.specs.Map.{values_of}
use Rattle.nb_records.specs.Routers.{peer_by}
use Rattle.nb_records.specs.Switches.{is_given}
use Rattle.nb_records.specs.declared.router.RouterPort.{RouterPort}
use Rattle.net_model.proofs.neighbours.naming.Given as goal

-- those that are left tell it
abbrev pub invariant-ports : goal.invariant-ports
invariant-ports l = find (λ (p : RouterPort). is_given l.port p.peer) (values_of l._name-iterator) ≡ peer_by l.records l.port None
