use Rattle.edit_reader.specs.Operations.{only_added}
use Rattle.edit_reader.proofs.field_names.only_added.Goals as goal

pub returns-in-RouterPort : goal.returns-in-RouterPort
unfolding only_added
returns-in-RouterPort c = rw c.in-RouterPort.is c.only-in-RouterPort.ensures

pub returns-in-Nat : goal.returns-in-Nat
unfolding only_added
returns-in-Nat c = rw c.in-Nat.is c.only-in-Nat.ensures

pub returns-in-LoadBalancer : goal.returns-in-LoadBalancer
unfolding only_added
returns-in-LoadBalancer c = rw c.in-LoadBalancer.is c.only-in-LoadBalancer.ensures
