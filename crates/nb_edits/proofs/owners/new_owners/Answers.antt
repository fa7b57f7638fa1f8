use Rattle.nb_edits.proofs.OwnerLists.{new_are}
use Rattle.nb_edits.proofs.owners.new_owners.Goals as goal

pub returns : goal.returns
returns c =
    new_are c.args.records.now c.args.others.now c.args.names.now.keys c.hold-2.ensures c.requires _ _ _ _ _ c.new-owners.ensures c.in_ok-push_switches.ensures c.in_ok-push_routers.ensures c.in_ok-push_router_ports.ensures c.in_ok-push_switch_ports.ensures c.hold.ensures c.len-many.ensures.ordered
