use Rattle.row_laws.proofs.suited.NamedPorts.{ports_named}
use Rattle.row_laws.proofs.rows.named_ports_are_live.Goals as goal

pub returns : goal.returns
returns c = ports_named
