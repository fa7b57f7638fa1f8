-- What the actions of a flow bring on.
use Rattle.std.specs.Prelude.{◌≡◌, ℕ, nat_lt, Bool, true, false, cond, ◌&&◌, List, [], ◌∷◌, ◌++◌}
use Rattle.ovn_base.specs.declared.limits.TheConstants.{MAX_HOPS}
use Rattle.inet_packet.specs.Fields.{ip4_dst}
use Rattle.inet_packet.specs.declared.regs.Regs.{Regs}
use Rattle.conn_table.specs.Connections.{touched, blocked_as}
use Rattle.conn_table.specs.Picks.{Choice, to_backend, to_port}
use Rattle.flow_table.specs.declared.flow.Cause.TheVariants.{HopLimit}
use Rattle.flow_table.specs.declared.flow.FlowOp.{FlowOp}
use Rattle.flow_table.specs.declared.flow.FlowOp.TheVariants.{Set, OutIsIn, Find, Undo, Translate, Touch, Block, Unblock, Commit, Dnat, Snat, Balance, ArpReply, EchoReply, DecTtl, NextDst, EthSrc, EthDst, Go, Drop, Header, Frame, Copies, Output, Patch}
use Rattle.switch_engine.specs.declared.actions.Turn.{Turn}
use Rattle.switch_engine.specs.declared.actions.Turn.TheVariants.{Next, Leaves, Ends}
use Rattle.switch_engine.specs.declared.carried.Carried.{Carried}
use Rattle.switch_engine.specs.declared.effect.Effect.{Effect}
use Rattle.switch_engine.specs.declared.effect.Effect.TheVariants as effect
use Rattle.switch_engine.specs.declared.effect.Entry.{Entry}
use Rattle.switch_engine.specs.Actions.{set_reg, with_header, frame_to, gone_on, copies_for, patched, patched_regs}
use Rattle.switch_engine.specs.Acts.{Doing, Act, turns, goes_next, tells, drops}
use Rattle.switch_engine.specs.Commits.{begins, commits, translates_to, balances, hides_behind}
use Rattle.switch_engine.specs.Headers.{arp_answered, echo_answered, ttl_spent}
use Rattle.switch_engine.specs.Tracking.{looked_up, found_changed, found_translates, undone, undone_zones}
use Rattle.switch_engine.specs.Zones.{ZoneLists, zone_number}

-- ---- one action

-- what an action makes of the copy and its packet; most leave it
abbrev pub changed_copy : Entry → FlowOp → ZoneLists → Carried → Carried
changed_copy entry (Set reg n) zones copy = record copy { regs = set_reg reg n copy.regs }
changed_copy entry OutIsIn zones copy = record copy { regs = record copy.regs { out_port = copy.regs.in_port } }
changed_copy entry Header zones copy = record copy { regs = with_header entry copy.regs }
changed_copy entry NextDst zones copy = record copy { regs = record copy.regs { next = ip4_dst copy.packet.body } }
changed_copy entry (EthSrc mac) zones copy = record copy { packet = record copy.packet { src = mac } }
changed_copy entry (EthDst mac) zones copy = record copy { packet = record copy.packet { dst = mac } }
changed_copy entry (ArpReply mac ip) zones copy = record copy { packet = arp_answered mac ip copy.packet }
changed_copy entry EchoReply zones copy = record copy { packet = echo_answered copy.packet }
changed_copy entry DecTtl zones copy = record copy { packet = ttl_spent copy.packet }
changed_copy entry (Find z) zones copy = looked_up (zone_number z copy.regs) zones copy
changed_copy entry Undo zones copy = record copy { packet = undone copy.regs.z_snat zones copy.packet }
changed_copy entry Translate zones copy = record copy { packet = found_translates copy.found zones copy.packet }
changed_copy entry _ zones copy = copy

-- what an action makes of the zones, unless a connection begins; most leave them
abbrev pub changed_zones : ℕ → FlowOp → Carried → ZoneLists → ZoneLists
changed_zones now Undo copy zones = undone_zones now copy.regs.z_snat copy.packet zones
changed_zones now Touch copy zones = found_changed (touched now) copy.found zones
changed_zones now Block copy zones = found_changed (blocked_as true) copy.found zones
changed_zones now Unblock copy zones = found_changed (blocked_as false) copy.found zones
changed_zones now _ copy zones = zones

-- in another datapath the copy begins at its first table with these registers; where it has passed into one too often it is dropped at the port that
-- it would leave
abbrev pub patches : Regs → Doing → Act
patches regs d = cond (nat_lt d.copy.passes MAX_HOPS) (turns Leaves (record d { copy = patched regs d.copy })) (drops HopLimit d)

-- what an action does at a time; where a zone isn't there, or an action can't be done, it does nothing
abbrev pub act : Entry → ℕ → FlowOp → Doing → Act
act entry now (Commit z) d = begins (zone_number z d.copy.regs) (commits now) d
act entry now (Dnat z ip) d = begins (zone_number z d.copy.regs) (translates_to now ip) d
act entry now (Snat z ip) d = begins (zone_number z d.copy.regs) (hides_behind now ip) d
act entry now (Balance z vip bs) d = begins (zone_number z d.copy.regs) (balances now vip bs) d
act entry now (Go table) d = turns Leaves (record d { copy = gone_on table d.copy })
act entry now (Drop cause) d = drops cause d
act entry now (Frame chassis) d = tells (frame_to chassis d.copy) (goes_next d)
act entry now (Copies members) d = record (goes_next d) { made = copies_for d.copy members }
act entry now (Output port) d = tells (effect.Out port d.copy.packet) (goes_next d)
act entry now (Patch dp in_port z_dnat z_snat) d = patches (patched_regs dp in_port z_dnat z_snat d.copy.regs) d
act entry now op d = goes_next (record d { copy = changed_copy entry op d.zones d.copy; zones = changed_zones now op d.copy d.zones })

-- whether an action may begin a connection
abbrev pub may_begin : FlowOp → Bool
may_begin (Commit z) = true
may_begin (Dnat z ip) = true
may_begin (Snat z ip) = true
may_begin (Balance z vip bs) = true
may_begin _ = false

-- ---- all actions of a flow

-- what they bring on: their effects, the copy itself where it goes on, the copies that were made of it, in order, the zones and the choices that they
-- leave, and of the choices that they made whether they are legal, and whether they are those of the program
pub record FlowOutcome : Type 0 where
  pub effects : List Effect
  pub itself : List Carried
  pub made : List Carried
  pub zones : ZoneLists
  pub left : List Choice
  pub legal : Bool
  pub own : Bool

-- the copy itself is carried to its end before those that were made of it
abbrev pub going_on : FlowOutcome → List Carried
going_on outcome = outcome.itself ++ outcome.made

abbrev pub ended : List Carried → Doing → FlowOutcome
ended itself d = record { effects = []; itself = itself; made = []; zones = d.zones; left = d.choices; legal = true; own = true }

-- the next action follows, or the copy goes on at its table, or it ends
abbrev pub after_turn : Turn → Doing → (Doing → FlowOutcome) → FlowOutcome
after_turn Next d rest = rest d
after_turn Leaves d rest = ended (d.copy ∷ []) d
after_turn Ends d rest = ended [] d

-- what an action did, before what came after it
abbrev pub with_act : Act → FlowOutcome → FlowOutcome
with_act a outcome =
    record outcome {
      effects = a.effects ++ outcome.effects;
      made = a.made ++ outcome.made;
      legal = a.legal && outcome.legal;
      own = a.own && outcome.own;
    }

-- they are done in order, up to one after which the copy goes on at a table or ends; it also ends where they run out
abbrev pub outcome : Entry → ℕ → List FlowOp → Doing → FlowOutcome
outcome entry now [] d = ended [] d
outcome entry now (op ∷ ops) d = let a = act entry now op d in with_act a (after_turn a.turn a.after (outcome entry now ops))

-- ---- choices

-- the choices that effects tell of
abbrev pub pick_in : Effect → List Choice → List Choice
pick_in (effect.PickBackend vni vip backend) choices = to_backend backend ∷ choices
pick_in (effect.PickPort vni port) choices = to_port port ∷ choices
pick_in (effect.Out port packet) choices = choices
pick_in (effect.Frame chassis vni in_key out_key packet) choices = choices
pick_in (effect.Drop vni port cause) choices = choices
pick_in effect.Lost choices = choices

abbrev pub picks_in : List Effect → List Choice
picks_in [] = []
picks_in (e ∷ effects) = pick_in e (picks_in effects)

-- which choices may be made: any legal ones, or those of the program
pub data Choosing : Type 0 where
  any_legal : Choosing
  of_program : Choosing

abbrev pub admits : Choosing → FlowOutcome → Bool
admits any_legal outcome = outcome.legal
admits of_program outcome = outcome.legal && outcome.own

-- a copy as it comes to the actions of a flow, with the choices that these effects tell of
abbrev pub choosing : Carried → ZoneLists → List Effect → Doing
choosing copy zones told = record { copy = copy; zones = zones; choices = picks_in told }

-- these are the effects, and the choices that they tell of are made, each as it may be
pub record IsDone (by : Choosing) (outcome : FlowOutcome) (told : List Effect) : Type 0 where
  pub effects : outcome.effects ≡ told
  pub used : outcome.left ≡ []
  pub admitted : admits by outcome ≡ true
