use Rattle.edit_reader.specs.Operations.{only_set}
use Rattle.edit_reader.proofs.field_names.only_set.Goals as goal

pub returns-in-RouterPort : goal.returns-in-RouterPort
unfolding only_set
returns-in-RouterPort c = rw c.in-RouterPort.is c.only-in-RouterPort.ensures

pub returns-in-SwitchPort : goal.returns-in-SwitchPort
unfolding only_set
returns-in-SwitchPort c = rw c.in-SwitchPort.is c.only-in-SwitchPort.ensures

pub returns-in-Nat : goal.returns-in-Nat
unfolding only_set
returns-in-Nat c = rw c.in-Nat.is c.only-in-Nat.ensures

pub returns-in-LoadBalancer : goal.returns-in-LoadBalancer
unfolding only_set
returns-in-LoadBalancer c = rw c.in-LoadBalancer.is c.only-in-LoadBalancer.ensures
