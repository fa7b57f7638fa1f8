use Rattle.std.proofs.Common.{◌≡◌, length, rules}
use Rattle.std.specs.Prelude.{true, nat_lt}
use Rattle.ovn_base.specs.declared.limits.TheConstants.{MAX_CONNECTIONS}
use Rattle.conn_table.specs.Connections.{is_free}
use Rattle.conn_table.proofs.CommitLaws.{can_commit}
use Rattle.conn_table.proofs.zone.Zone.commit.Goals as goal

pub add-requires : goal.add-requires
add-requires c =
    let free : is_free c.args.self.now c.args.reply ≡ true = search rules in
    let room : nat_lt (length c.args.self.now) MAX_CONNECTIONS ≡ true = search rules in
    can_commit c.args.self.now c.args.forward c.args.reply c.requires.is_new c.requires.pair free room
