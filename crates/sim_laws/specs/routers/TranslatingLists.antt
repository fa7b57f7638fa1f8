-- What the actions of a router's stages of NAT do with a copy and the router's connection lists, one stage at a time.
use Rattle.std.specs.Prelude.{true}
use Rattle.flow_table.specs.declared.flow.ZoneOf.TheVariants as zone
use Rattle.inet_packet.specs.declared.packet.Packet.{Packet}
use Rattle.logical_flows.specs.declared.stage.Stage.TheVariants as stage
use Rattle.net_model.specs.Dnat.{undo_snat, dnat_row, dnat}
use Rattle.net_model.specs.Headers.{src_of, dst_of}
use Rattle.net_model.specs.Snat.{snat_row, snat}
use Rattle.net_model.specs.Trail.{Lists, dnat_of, snat_of, Spot, finally}
use Rattle.row_laws.specs.Passages.{finding_of}
use Rattle.row_laws.specs.StageActions.{service_of}
use Rattle.row_laws.specs.routers.TranslatingActions.{undo_actions, dnat_actions, find_actions, snat_actions}
use Rattle.stage_rows.specs.Rows.{table_behind}
use Rattle.switch_engine.specs.Zones.{ZoneLists}
use Rattle.switch_engine.specs.declared.carried.Carried.{Carried}
use Rattle.sim_laws.specs.pipelines.HeldLists.{AreApart}
use Rattle.sim_laws.specs.pipelines.Pieces.{Piece, ComesTo}
use Rattle.sim_laws.specs.pipelines.Standing.{Chassis, net_of, IsLaidOut}
use Rattle.sim_laws.specs.routers.TranslatingWords.{IsAtSpot, HasSought, seen_by, Bring, is_none_set, GoesOnAt, GoesOnSought}

-- ---- undoing a translation of the source

abbrev pub undoing : Chassis → Spot → Packet → Piece Packet
undoing s spot p rest t = finally (undo_snat s.scene.now spot.datapath t p) rest

-- An answer in the SNAT list gets back the source that was translated, as the network says; then the packet is looked up in the DNAT list.
abbrev pub UndoesLaw : Type 0
UndoesLaw =
    (s : Chassis) → AreApart s.number → (spot : Spot) (p : Packet) (lists : Lists) (zones : ZoneLists) (copy : Carried) → IsAtSpot s spot p lists zones copy
    → Bring s (undo_actions true) zones copy (ComesTo s (undoing s spot p) lists (GoesOnSought s (table_behind stage.RouterUndo) zone.Dnat (dnat_of spot.datapath) copy))

-- ---- translating the destination

abbrev pub translating_dnat : Chassis → Spot → Packet → Piece Packet
translating_dnat s spot p rest t = finally (dnat (net_of s) s.scene.now spot t p) rest

-- A packet that was looked up in the DNAT list is translated as the network says: as its connection is, or by a connection that begins, to a backend
-- or by a row; or it goes on as it is, or is dropped.
abbrev pub DnatLaw : Type 0
DnatLaw =
    (s : Chassis) → IsLaidOut s → (spot : Spot) (p : Packet) (lists : Lists) (zones : ZoneLists) (copy : Carried) → IsAtSpot s spot p lists zones copy
    → HasSought zone.Dnat (dnat_of spot.datapath) lists p copy
    → Bring s (dnat_actions (net_of s) (service_of (net_of s) spot.datapath p) (dnat_row (net_of s) spot.datapath (dst_of p)) (finding_of (seen_by (dnat_of spot.datapath) lists p))) zones copy
    (ComesTo s (translating_dnat s spot p) lists (GoesOnAt s (table_behind stage.RouterDnat) is_none_set copy))

-- ---- translating the source

-- The packet is looked up in the SNAT list.
abbrev pub SeeksLaw : Type 0
SeeksLaw =
    (s : Chassis) → (spot : Spot) (p : Packet) (lists : Lists) (zones : ZoneLists) (copy : Carried) → IsAtSpot s spot p lists zones copy
    → Bring s (find_actions true) zones copy (ComesTo s (λ rest t. rest t p) lists (GoesOnSought s (table_behind stage.RouterFind) zone.Snat (snat_of spot.datapath) copy))

abbrev pub translating_snat : Chassis → Spot → Packet → Piece Packet
translating_snat s spot p rest t = finally (snat (net_of s) s.scene.now spot spot.datapath t p) rest

-- A packet that was looked up in the SNAT list is translated as the network says: as its connection is, or by a connection that begins, with its
-- own port or with one that is picked; or it goes on as it is, or is dropped.
abbrev pub SnatLaw : Type 0
SnatLaw =
    (s : Chassis) → IsLaidOut s → (spot : Spot) (p : Packet) (lists : Lists) (zones : ZoneLists) (copy : Carried) → IsAtSpot s spot p lists zones copy
    → HasSought zone.Snat (snat_of spot.datapath) lists p copy
    → Bring s (snat_actions (snat_row (net_of s) spot.datapath (src_of p)) (finding_of (seen_by (snat_of spot.datapath) lists p))) zones copy
    (ComesTo s (translating_snat s spot p) lists (GoesOnAt s (table_behind stage.RouterSnat) is_none_set copy))
