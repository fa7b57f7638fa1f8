use Rattle.physical_flows.proofs.VirtualPorts.{virtual_ports}
use Rattle.physical_flows.proofs.laws.ports_are_virtual.Goals as goal

pub returns : goal.returns
returns c = virtual_ports
