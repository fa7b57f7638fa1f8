-- What actions do with the connections that are there.
use Rattle.std.specs.Prelude.{ℕ, Bool, true, false, cond, Option, Some, None}
use Rattle.inet_packet.specs.declared.packet.Packet.{Packet}
use Rattle.inet_packet.specs.declared.regs.Reg.TheVariants as reg
use Rattle.inet_packet.specs.declared.regs.Regs.{Regs}
use Rattle.conn_table.specs.declared.connection.Entry.{Entry}
use Rattle.conn_table.specs.declared.connection.State.{State}
use Rattle.conn_table.specs.declared.connection.State.TheVariants.{New, Forward, Reply, Invalid}
use Rattle.conn_table.specs.declared.tuple.Tuple.{Tuple}
use Rattle.conn_table.specs.Connections.{ConnectionList, entry_of, changed, touched}
use Rattle.conn_table.specs.Order.{same_tuple}
use Rattle.conn_table.specs.Tracking.{seen, state_of, tuple_before, translated}
use Rattle.conn_table.specs.Tuples.{tuple_of}
use Rattle.switch_engine.specs.declared.carried.Carried.{Carried}
use Rattle.switch_engine.specs.declared.carried.Found.{Found}
use Rattle.switch_engine.specs.Actions.{set_reg}
use Rattle.switch_engine.specs.Zones.{ZoneLists, zone_at, over_zone}

-- ---- the entry that a state names

abbrev pub entry_named : ConnectionList → State → Option Entry
entry_named list (Forward slot) = entry_of list slot.forward
entry_named list (Reply slot) = entry_of list slot.forward
entry_named list New = None
entry_named list Invalid = None

-- the list with that entry changed so
abbrev pub entry_changed : (Entry → Entry) → State → ConnectionList → ConnectionList
entry_changed change (Forward slot) list = changed change slot.forward list
entry_changed change (Reply slot) list = changed change slot.forward list
entry_changed change New list = list
entry_changed change Invalid list = list

-- a packet of the entry, translated by it; another packet stays
abbrev pub is_of : Option Tuple → Option Tuple → Bool
is_of (Some t) (Some u) = same_tuple t u
is_of _ _ = false

abbrev pub translated_by : ConnectionList → State → Packet → Packet
translated_by list state p = cond (is_of (tuple_of p) (tuple_before list state)) (translated list state p) p

-- ---- finding

-- a state's number in the register
abbrev pub state_number : State → ℕ
state_number New = 1
state_number (Forward slot) = 2
state_number (Reply slot) = 3
state_number Invalid = 4

abbrev pub flag_number : Option Entry → ℕ
flag_number None = 0
flag_number (Some e) = cond e.blocked 1 0

-- what the list says of a packet is set and remembered
abbrev pub noted : ℕ → ConnectionList → State → Carried → Carried
noted z list state copy =
    record copy {
      regs = set_reg reg.Blocked (flag_number (entry_named list state)) (set_reg reg.State (state_number state) copy.regs);
      found = Some (record { zone = z; state = state });
    }

abbrev pub looked_up_in : ℕ → Option ConnectionList → Carried → Carried
looked_up_in z None copy = copy
looked_up_in z (Some list) copy = noted z list (state_of (seen list copy.packet)) copy

abbrev pub looked_up : ℕ → ZoneLists → Carried → Carried
looked_up z zones copy = looked_up_in z (zone_at zones z) copy

-- ---- the entry that is remembered

-- the zones with it changed so
abbrev pub found_changed : (Entry → Entry) → Option Found → ZoneLists → ZoneLists
found_changed change None zones = zones
found_changed change (Some found) zones = over_zone (entry_changed change found.state) found.zone zones

-- a packet translated by it
abbrev pub translated_in : Option ConnectionList → State → Packet → Packet
translated_in None state p = p
translated_in (Some list) state p = translated_by list state p

abbrev pub found_translates : Option Found → ZoneLists → Packet → Packet
found_translates None zones p = p
found_translates (Some found) zones p = translated_in (zone_at zones found.zone) found.state p

-- ---- undoing

-- a reply is used now, and translated back; any other packet stays
abbrev pub undone_list : ℕ → State → ConnectionList → ConnectionList
undone_list now (Reply slot) list = entry_changed (touched now) (Reply slot) list
undone_list now _ list = list

abbrev pub undone_packet : ConnectionList → State → Packet → Packet
undone_packet list (Reply slot) p = translated list (Reply slot) p
undone_packet list _ p = p

abbrev pub undone_zones : ℕ → ℕ → Packet → ZoneLists → ZoneLists
undone_zones now z p zones = over_zone (λ list. undone_list now (state_of (seen list p)) list) z zones

abbrev pub undone_in : Option ConnectionList → Packet → Packet
undone_in None p = p
undone_in (Some list) p = undone_packet list (state_of (seen list p)) p

abbrev pub undone : ℕ → ZoneLists → Packet → Packet
undone z zones p = undone_in (zone_at zones z) p
