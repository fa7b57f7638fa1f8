use Rattle.std.specs.Option.{option_copied}
use Rattle.conn_table.proofs.FindLaws.{names_of}
use Rattle.conn_table.proofs.zone.Zone.find.Goals as goal

pub returns-clause-named : goal.returns-clause-named
returns-clause-named c = names_of c.args.self.now (option_copied c.args.tuple) c.state.result c.holds.ensures c.state.ensures
