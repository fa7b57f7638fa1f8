-- How a packet goes from table to table.
use Rattle.std.specs.Prelude.{◌≡◌, ℕ, cond, List, [], ◌∷◌, ◌++◌, None}
use Rattle.std.proofs.Math.Dec.{eqb as nat_eq}
use Rattle.ovn_base.specs.declared.stages.TheConstants.{LOCAL_TABLE}
use Rattle.inet_packet.specs.declared.packet.Packet.{Packet}
use Rattle.inet_packet.specs.declared.regs.At.{At}
use Rattle.inet_packet.specs.declared.regs.At.TheVariants as at
use Rattle.inet_packet.specs.declared.regs.Regs.{Regs}
use Rattle.flow_table.specs.declared.flow.Cause.TheVariants.{Unbound}
use Rattle.flow_table.specs.declared.flow.Flow.{Flow}
use Rattle.flow_table.specs.Matching.{IsBest, NoneMatches}
use Rattle.switch_engine.specs.declared.carried.Carried.{Carried}
use Rattle.switch_engine.specs.declared.effect.Effect.{Effect}
use Rattle.switch_engine.specs.declared.effect.Effect.TheVariants.{Lost}
use Rattle.switch_engine.specs.declared.effect.Entry.{Entry}
use Rattle.switch_engine.specs.declared.effect.Entry.TheVariants.{Vif, Tunnel}
use Rattle.switch_engine.specs.declared.walk.Step.{Step}
use Rattle.switch_engine.specs.Actions.{cleared, drop_at}
use Rattle.switch_engine.specs.Outcome.{outcome, going_on, Choosing, any_legal, of_program, choosing, IsDone}
use Rattle.switch_engine.specs.Zones.{ZoneLists}

-- where a packet came in, as flows match it
abbrev pub came_in : Entry → At
came_in (Vif port) = at.Local port
came_in (Tunnel vni in_key out_key) = at.Tunnel

-- the registers with which a packet comes to table 0: all are 0
abbrev pub start_regs : Entry → Regs
start_regs entry = cleared (came_in entry)

-- the packet as it comes to table 0
abbrev pub start : Entry → Packet → Carried
start entry packet = record { from = 0; table = 0; regs = start_regs entry; packet = packet; found = None; passes = 0 }

-- a copy whose port isn't at home here is lost where it came straight from a tunnel entry, and else dropped
abbrev pub stray : Entry → Carried → Effect
stray (Vif port) copy = drop_at copy.table Unbound copy.regs
stray (Tunnel vni in_key out_key) copy = cond (nat_eq copy.from 0) Lost (drop_at copy.table Unbound copy.regs)

-- what becomes of a copy that no flow of its table matches: in table 33 its port is at home nowhere, elsewhere it ends
abbrev pub unmatched : Entry → Carried → List Effect
unmatched entry copy = cond (nat_eq copy.table LOCAL_TABLE) (stray entry copy ∷ []) []

-- from zones to zones, the copies that are left may match these flows in turn at the time, with these effects, each copy going to its end before the next
-- begins; the choices of a step are those that its effects tell of
pub data IsWalk (by : Choosing) (flows : List Flow) (entry : Entry) (now : ℕ) : ZoneLists → List Carried → List Step → List Effect → ZoneLists → Type 0 where
  over : (zones : ZoneLists) → IsWalk by flows entry now zones [] [] [] zones
  ends : (zones last : ZoneLists) (copy : Carried) (others : List Carried) (steps : List Step) (more all : List Effect)
      → NoneMatches flows copy.table copy.regs copy.packet
      → IsWalk by flows entry now zones others steps more last
      → all ≡ unmatched entry copy ++ more
      → IsWalk by flows entry now zones (copy ∷ others) steps all last
  takes : (zones last : ZoneLists) (copy : Carried) (others : List Carried) (step : Step) (steps : List Step) (told more all : List Effect)
      → step.table ≡ copy.table
      → IsBest flows copy.table copy.regs copy.packet step.flow
      → IsDone by (outcome entry now step.flow.ops (choosing copy zones told)) told
      → IsWalk by flows entry now (outcome entry now step.flow.ops (choosing copy zones told)).zones (going_on (outcome entry now step.flow.ops (choosing copy zones told)) ++ others) steps more last
      → all ≡ told ++ more
      → IsWalk by flows entry now zones (copy ∷ others) (step ∷ steps) all last

-- the packet may match these flows from table 0 on at the time, until no copy is left, with these effects, and leaves these zones; any legal choice may be
-- made on the way
abbrev pub IsWalkOf : List Flow → Entry → ℕ → Packet → ZoneLists → List Step → List Effect → ZoneLists → Type 0
IsWalkOf flows entry now packet before steps effects after = IsWalk any_legal flows entry now before (start entry packet ∷ []) steps effects after

-- so it does with the choices of the program: a backend by the source and the ports, and the least free port
abbrev pub IsProgramsWalkOf : List Flow → Entry → ℕ → Packet → ZoneLists → List Step → List Effect → ZoneLists → Type 0
IsProgramsWalkOf flows entry now packet before steps effects after = IsWalk of_program flows entry now before (start entry packet ∷ []) steps effects after
