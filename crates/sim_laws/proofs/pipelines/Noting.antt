-- The stages that drop, that track and that judge.
use Rattle.std.specs.Prelude.{◌≡◌, ◌≤◌, ◌&&◌, ℕ, Bool, true, false, cond, List, [], ◌∷◌, Option, Some, None, refl}
use Rattle.std.specs.Int.{bit_at}
use Rattle.std.proofs.Common.{sym, ap, ◌∙◌, subst, arith}
use Rattle.std.proofs.Math.Dec.{leb as nat_le}
use Rattle.conn_table.specs.Connections.{ConnectionList}
use Rattle.conn_table.specs.Tracking.{Seen, forward, reply, invalid, new, state_of}
use Rattle.conn_table.specs.Tuples.{tuple_of}
use Rattle.conn_table.specs.declared.connection.State.{State}
use Rattle.conn_table.specs.declared.connection.State.TheVariants as states
use Rattle.flow_table.specs.declared.flow.Cause.{Cause}
use Rattle.inet_packet.specs.declared.regs.RegFlags.{RegFlags}
use Rattle.inet_packet.specs.declared.regs.Regs.{Regs}
use Rattle.logical_flows.specs.Stages.{stage_table}
use Rattle.logical_flows.specs.declared.action.Action.{Action}
use Rattle.logical_flows.specs.declared.stage.Pipeline.{Pipeline}
use Rattle.logical_flows.specs.declared.stage.Stage.{Stage}
use Rattle.nb_records.specs.Switches.{is_virtual}
use Rattle.inet_packet.specs.declared.packet.Packet.{Packet}
use Rattle.net_model.specs.Trail.{Lists, ListOwner, of_port, list_of, spot_of, unless, finally}
use Rattle.net_model.specs.Verdict.{Verdict}
use Rattle.ovn_base.specs.declared.stages.TheConstants.{LOOKUP_TABLE}
use Rattle.row_laws.specs.Copies.{Copy, Words, not_sought, flag_number, finding_code}
use Rattle.row_laws.specs.Passages.{finding_of, is_seen_blocked}
use Rattle.row_laws.specs.StageActions.{unless_dropped}
use Rattle.stage_rows.specs.Rows.{table_behind}
use Rattle.switch_engine.specs.Actions.{set_flag, gone_on}
use Rattle.switch_engine.specs.Tracking.{state_number, entry_named}
use Rattle.switch_engine.specs.Tracking.{flag_number as entry_flag}
use Rattle.switch_engine.specs.Zones.{ZoneLists, zone_number, zone_at}
use Rattle.switch_engine.specs.declared.carried.Carried.{Carried}
use Rattle.sim_laws.proofs.pipelines.Copies.{port_reg, drops_so, goes_so, stands_still}
use Rattle.sim_laws.proofs.pipelines.Doings.{go_does, drop_does}
use Rattle.sim_laws.proofs.pipelines.HeldLists.{list_is}
use Rattle.sim_laws.proofs.pipelines.Registers.{or_one, or_stays, and_zero, and_stays, Notes, LeavesFlags}
use Rattle.sim_laws.proofs.pipelines.Seeing.{IsSeen}
use Rattle.sim_laws.specs.pipelines.HeldLists.{IsGoodList}
use Rattle.sim_laws.specs.pipelines.Pieces.{Piece, ComesTo}
use Rattle.sim_laws.specs.pipelines.Standing.{Chassis, course_of, zone_of, StandsAtTable, Remembers, is_noted, IsStill}
use Rattle.sim_laws.specs.pipelines.WalkOn.{Reached, Comes}
use Rattle.sim_laws.specs.routers.TranslatingWords.{Bring}

-- the copy stands before the table, and has noted what it may
pub record Stands (s : Chassis) (way : Pipeline) (table : ℕ) (first : Carried) (c : Copy) (lists : Lists) (zones : ZoneLists) (copy : Carried) : Type 0 where
  pub stands : StandsAtTable s way table c lists zones copy
  pub still : IsStill is_noted first copy

-- and remembers what its port's list says of its packet
pub record StandsBy (s : Chassis) (way : Pipeline) (table : ℕ) (first : Carried) (c : Copy) (lists : Lists) (zones : ZoneLists) (copy : Carried) : Type 0 where
  pub here : Stands s way table first c lists zones copy
  pub remembers : Remembers way c lists copy

-- a port's zone holds its list
pub record IsOwnZone (zones : ZoneLists) (lists : Lists) (owner : ListOwner) (z : ℕ) : Type 0 where
  pub held : zone_at zones z ≡ Some (list_of lists owner)
  pub good : IsGoodList (list_of lists owner)

pub own_zone : (s : Chassis) {way : Pipeline} {table : ℕ} {c : Copy} {lists : Lists} {zones : ZoneLists} {copy : Carried} → StandsAtTable s way table c lists zones copy → is_virtual c.port ≡ true
    → IsOwnZone zones lists (of_port c.port.name) (zone_number (zone_of way) copy.regs)
own_zone s {way = way} {c = c} {lists = lists} {copy = copy} h virtual =
    let e = h.hold (of_port c.port.name) (zone_number (zone_of way) copy.regs) (h.zone virtual) in
    let same = list_is lists (of_port c.port.name) e.list e.has in
    record { held = e.held ∙ ap (λ (l : ConnectionList). Some l) (sym same); good = subst IsGoodList (sym same) e.good }

-- what is found out of a packet
abbrev pub found_words : Verdict → Bool → Seen → Words
found_words v b x = record { tracked = b; verdict = v; finding = cond b (finding_of x) not_sought; blocked = b && is_seen_blocked x }

-- ---- the numbers of what is found

pub found_code : (x : Seen) → state_number (state_of x) ≡ finding_code (finding_of x)
found_code (forward e) = refl
found_code (reply e) = refl
found_code invalid = refl
found_code (new t) = refl

pub state_small : (x : State) → state_number x ≤ 7
state_small states.New = omega arith
state_small (states.Forward slot) = omega arith
state_small (states.Reply slot) = omega arith
state_small states.Invalid = omega arith

pub blocked_code : (list : ConnectionList) (p : Packet) (x : Seen) → IsSeen list (tuple_of p) x → entry_flag (entry_named list (state_of x)) ≡ flag_number (is_seen_blocked x)
blocked_code list p (forward e) h = ap entry_flag h.0 ∙ by e.blocked
  where
    by : (b : Bool) → cond b 1 0 ≡ flag_number b
    by true = refl
    by false = refl
blocked_code list p (reply e) h = ap entry_flag h.0 ∙ by e.blocked
  where
    by : (b : Bool) → cond b 1 0 ≡ flag_number b
    by true = refl
    by false = refl
blocked_code list p invalid h = refl
blocked_code list p (new t) h = refl

pub blocked_bit : (flags : RegFlags) (b : Bool) → bit_at (set_flag 4 (flag_number b) flags).0 2 ≡ flag_number b
blocked_bit flags true = or_one flags.0 4 2 refl
blocked_bit flags false = and_zero flags.0 251 2 refl

other_bit : (flags : RegFlags) (b : Bool) (i : ℕ) → bit_at 4 i ≡ 0 → bit_at 251 i ≡ 1 → bit_at (set_flag 4 (flag_number b) flags).0 i ≡ bit_at flags.0 i
other_bit flags true i low high = or_stays flags.0 4 i low
other_bit flags false i low high = and_stays flags.0 251 i high

-- the registers once a packet is tracked
abbrev pub tracked_notes : Regs → State → ℕ → Notes
tracked_notes regs x blocked = record { out_port = regs.out_port; state = state_number x; verdict = regs.verdict; flags = set_flag 2 1 (set_flag 4 blocked regs.flags) }

pub tracked_flags : (flags : RegFlags) (b : Bool) → LeavesFlags flags (set_flag 2 1 (set_flag 4 (flag_number b) flags))
tracked_flags flags b = record {
  loopback = or_stays (set_flag 4 (flag_number b) flags).0 2 0 refl ∙ other_bit flags b 0 refl refl;
  own = or_stays (set_flag 4 (flag_number b) flags).0 2 3 refl ∙ other_bit flags b 3 refl refl;
  arrived = or_stays (set_flag 4 (flag_number b) flags).0 2 4 refl ∙ other_bit flags b 4 refl refl;
}

-- ---- a stage's step

-- a copy that stands before the table of a stage; a drop there names its port
pub record BeforeStage (s : Chassis) : Type 0 where
  pub stage : Stage
  pub way : Pipeline
  pub first : Carried
  pub c : Copy
  pub lists : Lists
  pub zones : ZoneLists
  pub copy : Carried
  pub here : Stands s way (stage_table stage) first c lists zones copy
  pub place : (regs : Regs) → cond (nat_le (stage_table stage) LOOKUP_TABLE) regs.in_port regs.out_port ≡ port_reg way regs

module _ (s : Chassis) (b : BeforeStage s) where
  open b use {stage, way, first, c, lists, zones, copy, here as h, place}

  -- what is known of the flows that are taken
  abbrev pub Step : List Action → Type 1
  Step actions = (So : Reached) → Bring s actions zones copy So → Comes (course_of s) zones (copy ∷ []) So

  abbrev pub Came : {X : Type 0} → Piece X → (Lists → X → ZoneLists → Carried → Type 0) → Type 0
  Came piece Goes = Comes (course_of s) zones (copy ∷ []) (ComesTo s piece lists Goes)

  abbrev pub unless_piece : Option Cause → Piece Packet
  unless_piece o rest t = finally (unless o (spot_of c.port) t c.sight.packet) rest

  -- it goes on as it is
  pub goes_step : (Goes : Lists → Packet → ZoneLists → Carried → Type 0) → Goes lists c.sight.packet zones (gone_on (table_behind stage) copy) → Step (unless_dropped stage None)
      → Came (λ rest t. rest t c.sight.packet) Goes
  goes_step Goes goes step =
      step (ComesTo s (λ rest t. rest t c.sight.packet) lists Goes)
      (go_does s zones copy (ComesTo s (λ rest t. rest t c.sight.packet) lists Goes) (table_behind stage)
      (goes_so s (λ rest t. rest t c.sight.packet) lists lists Goes zones c.sight.packet (gone_on (table_behind stage) copy) goes (λ rest choices ends. refl)))

  -- it goes on, unless there is a cause to drop it
  pub unless_step : (Goes : Lists → Packet → ZoneLists → Carried → Type 0) → Goes lists c.sight.packet zones (gone_on (table_behind stage) copy) → (o : Option Cause) → Step (unless_dropped stage o)
      → Came (unless_piece o) Goes
  unless_step Goes goes None step = goes_step Goes goes step
  unless_step Goes goes (Some why) step =
      step (ComesTo s (unless_piece (Some why)) lists Goes)
      (drop_does s zones copy (ComesTo s (unless_piece (Some why)) lists Goes) why (drops_so s h.stands place why (unless_piece (Some why)) lists lists Goes zones h.stands.hold (λ rest choices ends. refl)))

  -- before the next table, with nothing new
  pub stands_next : (next : ℕ) → Stands s way next first c lists zones (gone_on next copy)
  stands_next next = record {
    stands = stands_still s h.stands c.sight.packet h.stands.at_port.whole lists zones h.stands.hold next (gone_on next copy) refl h.stands.packet refl;
    still = record { passes = h.still.passes; entry = h.still.entry; registers = h.still.registers };
  }
