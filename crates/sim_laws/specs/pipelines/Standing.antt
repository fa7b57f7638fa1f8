-- A copy that stands before a table of a switch, in names and words.
use Rattle.std.specs.Prelude.{◌≡◌, ℕ, Bool, true, false, List, Some}
use Rattle.conn_table.specs.Tracking.{seen, state_of}
use Rattle.flow_lowering.specs.Registers.{reg_number}
use Rattle.flow_table.specs.declared.flow.Flow.{Flow}
use Rattle.flow_table.specs.declared.flow.ZoneOf.{ZoneOf}
use Rattle.flow_table.specs.declared.flow.ZoneOf.TheVariants.{In, Out}
use Rattle.inet_packet.specs.declared.regs.Reg.{Reg}
use Rattle.inet_packet.specs.declared.regs.Reg.TheVariants as reg
use Rattle.logical_flows.specs.Stages.{stage_table}
use Rattle.logical_flows.specs.declared.stage.Pipeline.{Pipeline}
use Rattle.logical_flows.specs.declared.stage.Pipeline.TheVariants.{Ingress, Egress}
use Rattle.match_cubes.specs.Points.{members_of}
use Rattle.match_cubes.specs.declared.sets.Sets.{Sets}
use Rattle.nb_records.specs.Network.{Network}
use Rattle.nb_records.specs.Switches.{is_virtual}
use Rattle.nb_rules.specs.Valid.{IsValid}
use Rattle.net_model.specs.Entry.{Scene}
use Rattle.net_model.specs.Owners.{owners_of}
use Rattle.net_model.specs.Sights.{roster_of}
use Rattle.net_model.specs.Trail.{Lists, list_of, of_port}
use Rattle.net_model.specs.Verdict.{default}
use Rattle.ovn_base.specs.lists.Among.{Among}
use Rattle.row_laws.specs.BestRow.{HoldsRows}
use Rattle.row_laws.specs.Copies.{Copy, IsAtPort, Words, not_sought}
use Rattle.row_laws.specs.Numbers.{AreSameMembers, HasNumbers}
use Rattle.row_laws.specs.StageLaws.{OfEachStage}
use Rattle.switch_engine.specs.Outcome.{Choosing}
use Rattle.switch_engine.specs.Zones.{ZoneLists, zone_number}
use Rattle.switch_engine.specs.declared.carried.Carried.{Carried}
use Rattle.switch_engine.specs.declared.effect.Entry.{Entry}
use Rattle.tunnel_keys.specs.Edits.{IsLive}
use Rattle.tunnel_keys.specs.Keys.{Keys}
use Rattle.tunnel_keys.specs.declared.owner.KeyOwner.{KeyOwner}
use Rattle.sim_laws.specs.pipelines.HeldLists.{ZoneNumbers, AreApart, HoldLists}
use Rattle.sim_laws.specs.pipelines.WalkOn.{Course}

-- ---- a chassis

-- a chassis with its tables: the configuration of the network, the time and the chassis; the keys and sets with which rows are lowered; the
-- numbers of its zones; and by which choices, through which flows and from which entry walks go
pub record Chassis : Type 0 where
  pub scene : Scene
  pub keys : Keys
  pub sets : Sets
  pub number : ZoneNumbers
  pub by : Choosing
  pub flows : List Flow
  pub entry : Entry

abbrev pub course_of : Chassis → Course
course_of s = record { by = s.by; flows = s.flows; entry = s.entry; now = s.scene.now }

abbrev pub net_of : Chassis → Network
net_of s = s.scene.config.net

-- The records are valid, and who has a key by them has a live one; the table of each stage of a switch holds the rows; the sets are those of the
-- network, and no two zones have one number.
pub record IsLaidOut (s : Chassis) : Type 0 where
  pub valid : IsValid (net_of s)
  pub live : (owner : KeyOwner) → Among owner (owners_of (net_of s)) → IsLive s.keys owner
  pub tables : OfEachStage (λ stage. HoldsRows (net_of s) s.keys s.sets s.flows (stage_table stage))
  pub members : AreSameMembers (roster_of (net_of s)).members (members_of s.sets)
  pub apart : AreApart s.number

-- ---- a copy

-- the zone of the port by which a packet came in, or by which it leaves
abbrev pub zone_of : Pipeline → ZoneOf
zone_of Ingress = In
zone_of Egress = Out

-- nothing was found out yet
abbrev pub no_words : Words
no_words = record { tracked = false; verdict = default; finding = not_sought; blocked = false }

-- The copy stands before the table of a switch's pipeline, with the numbers of its names and words; a virtual port has its zone here, and
-- the zones hold the lists.
pub record StandsAtTable (s : Chassis) (way : Pipeline) (table : ℕ) (c : Copy) (lists : Lists) (zones : ZoneLists) (copy : Carried) : Type 0 where
  pub in_table : copy.table ≡ table
  pub packet : copy.packet ≡ c.sight.packet
  pub at_port : IsAtPort (net_of s) way c copy.regs
  pub numbers : HasNumbers s.keys s.sets (roster_of (net_of s)) c.port.switch copy.regs c.sight
  pub zone : is_virtual c.port ≡ true → s.number (of_port c.port.name) ≡ Some (zone_number (zone_of way) copy.regs)
  pub hold : HoldLists s.number zones lists

-- it remembers what its port's list says of its packet, where it is tracked
abbrev pub Remembers : Pipeline → Copy → Lists → Carried → Type 0
Remembers way c lists copy =
    c.words.tracked ≡ true → copy.found ≡ Some (record { zone = zone_number (zone_of way) copy.regs; state = state_of (seen (list_of lists (of_port c.port.name)) c.sight.packet) })

-- ---- what stays

-- the registers in which the stages of a pipeline note what they find out
abbrev pub is_noted : Reg → Bool
is_noted reg.State = true
is_noted reg.Verdict = true
is_noted reg.Tracked = true
is_noted reg.Blocked = true
is_noted _ = false

-- and those that say where the packet goes
abbrev pub is_for_target : Reg → Bool
is_for_target reg.OutPort = true
is_for_target reg.Loopback = true
is_for_target r = is_noted r

-- the copy has passed into as many datapaths, came in by the same entry, and has the same numbers in all other registers
pub record IsStill (others : Reg → Bool) (before after : Carried) : Type 0 where
  pub passes : after.passes ≡ before.passes
  pub entry : after.regs.at ≡ before.regs.at
  pub registers : (r : Reg) → others r ≡ false → reg_number r after.regs ≡ reg_number r before.regs
