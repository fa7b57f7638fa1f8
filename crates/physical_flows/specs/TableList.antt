-- The rows of switches, of ports and of all chassis, as lists in the compiler's order.
use Rattle.std.specs.Prelude.{ℕ, Bool, true, false, ◌&&◌, not, cond, List, [], ◌∷◌, Some, None, Option, filter}
use Rattle.std.specs.List.{list_any}
use Rattle.ovn_base.specs.declared.name.Name.{Name}
use Rattle.flow_table.specs.declared.flow.Flow.{Flow}
use Rattle.flow_table.specs.declared.flow.Member.{Member}
use Rattle.ovn_base.specs.names.SameName.{same_name}
use Rattle.nb_records.specs.Switches.{takes_unknown}
use Rattle.nb_records.specs.declared.switch.SwitchPort.{SwitchPort}
use Rattle.net_model.specs.Config.{Home, nowhere, on, everywhere}
use Rattle.net_model.specs.declared.crossing.Group.{Group}
use Rattle.net_model.specs.declared.crossing.Group.TheVariants.{Flood, Unknown}
use Rattle.physical_flows.specs.declared.beyond.Beyond.{Beyond}
use Rattle.physical_flows.specs.Rows.{entry_row, arrival_row, remote_row, spread_row, stay_row, home_row, pass_row, enter_row, copies_row, leave_row, patch_row, no_peer_row}
use Rattle.physical_flows.specs.Stages.{Basis}

-- ---- switches

-- the rows of a group, with the members that are here and those of them that are reached out of a tunnel
abbrev pub group_rows : ℕ → Group → List Name → List Member → List Member → List Flow
group_rows dp group homes members reached = spread_row dp group homes ∷ copies_row dp group false members ∷ copies_row dp group true reached ∷ []

-- ---- ports

-- the rows of a port on its home, where it has the zone: it comes in, and is reached
abbrev pub local_rows : ℕ → Name → ℕ → ℕ → List Flow
local_rows dp q key zone = entry_row q dp key zone ∷ home_row dp key zone ∷ []

abbrev pub local_part : Option ℕ → ℕ → Name → ℕ → List Flow
local_part None dp q key = []
local_part (Some zone) dp q key = local_rows dp q key zone

-- the rows of a port by its home: elsewhere than there it is reached through a tunnel
abbrev pub bound_rows : Name → Option Name → Option ℕ → ℕ → Name → ℕ → List Flow
bound_rows chassis None number dp q key = []
bound_rows chassis (Some home) number dp q key = cond (same_name home chassis) (local_part number dp q key) (remote_row dp key home ∷ [])

-- ---- ports that lead into another datapath

-- the rows of such a port by its home: here it is passed, and elsewhere than there reached through a tunnel; a distributed one is here everywhere, but
-- for what came out of a tunnel
abbrev pub homed_rows : Name → Home → ℕ → ℕ → List Flow
homed_rows chassis nowhere dp key = []
homed_rows chassis (on home) dp key = cond (same_name home chassis) (pass_row dp key ∷ []) (remote_row dp key home ∷ [])
homed_rows chassis everywhere dp key = enter_row dp key ∷ []

-- and the one by which packets pass there, where there is a way
abbrev pub way_row : ℕ → ℕ → Option Beyond → Flow
way_row dp key (Some to) = patch_row dp key to
way_row dp key None = no_peer_row dp key

-- ---- every chassis

-- the rows that every chassis has
abbrev pub common_rows : List Flow
common_rows = arrival_row ∷ stay_row ∷ leave_row ∷ []

-- ---- groups

-- the port is in the group of its switch: none is that is disabled
abbrev pub is_group_member : Group → SwitchPort → Bool
is_group_member Flood port = port.enabled
is_group_member Unknown port = port.enabled && takes_unknown port.addresses

-- the chassis of a home, where it is one
abbrev pub one_home : Home → Option Name
one_home nowhere = None
one_home (on home) = Some home
one_home everywhere = None

-- the other chassis among these
abbrev pub is_other_among : Basis → List Name → Name → Bool
is_other_among b homes c = not (same_name c b.chassis) && list_any (λ home. same_name home c) homes

abbrev pub others_among : Basis → List Name → List Name
others_among b homes = filter (λ c. is_other_among b homes c) b.all
