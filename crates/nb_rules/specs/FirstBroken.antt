-- The first broken clause of the ten.
use Rattle.std.specs.Prelude.{List, Option}
use Rattle.nb_records.specs.Network.{Network}
use Rattle.nb_records.specs.Switches.{or_else}
use Rattle.nb_records.specs.declared.change.Op.{Op}
use Rattle.nb_rules.specs.References.{no_such, still_used}
use Rattle.nb_rules.specs.BadAddresses.{bad_address}
use Rattle.nb_rules.specs.Peers.{bad_peer}
use Rattle.nb_rules.specs.Holders.{duplicate_address}
use Rattle.nb_rules.specs.Prefixes.{duplicate_prefix, no_network}
use Rattle.nb_rules.specs.Gateways.{nat_needs_chassis}
use Rattle.nb_rules.specs.Widths.{too_wide, over_limit}
use Rattle.nb_rules.specs.declared.fault.SchemaFault.{SchemaFault}

-- the fault of the first clause that the records break, after these operations
unfoldable pub first_broken : Network → List Op → Option SchemaFault
first_broken net ops =
    or_else (no_such net ops)
    (or_else (still_used net ops)
    (or_else (bad_address net)
    (or_else (bad_peer net)
    (or_else (duplicate_address net)
    (or_else (duplicate_prefix net)
    (or_else (no_network net)
    (or_else (nat_needs_chassis net)
    (or_else (too_wide net)
    (over_limit net)))))))))
