-- What is prepared for an event that is a turn of the configuration: an edit, a binding, a chassis or a mark.
use Rattle.std.specs.Prelude.{◌≡◌, ◌+◌, ◌<◌, ◌^◌, ℕ, true, List, [], Option, None, Some, map}
use Rattle.ovn_base.specs.declared.name.Name.{Name}
use Rattle.ovn_base.specs.names.ByName.{at}
use Rattle.ovn_base.specs.names.SameName.{same_name}
use Rattle.chassis_sim.specs.Changing.{given_name}
use Rattle.chassis_sim.specs.Settings.{AreSet, set_in_turn}
use Rattle.chassis_sim.specs.State.{SimState, same_pair}
use Rattle.chassis_sim.specs.declared.change.SimChange.{SimChange}
use Rattle.conn_zones.specs.Zoning.{Zoned}
use Rattle.edit_reader.specs.Fitting.{IsEventInGrammar}
use Rattle.edit_reader.specs.declared.event.Event.{Event}
use Rattle.event_lines.specs.declared.refusal.Refusal.{Refusal}
use Rattle.event_lines.specs.declared.refusal.StepFault.{StepFault}
use Rattle.event_lines.specs.declared.refusal.StepFault.TheVariants.{Refused, Memory}
use Rattle.net_model.specs.State.{State, event_count, finished}
use Rattle.ovn_base.specs.lists.Once.{EachOnce}
use Rattle.physical_flows.specs.Switched.{IsKeyed}
use Rattle.world_setup.specs.Consistent.{IsConsistent}
use Rattle.sim_laws.specs.Held.{HaveOwnersNames, frame_of_crossing}
use Rattle.switch_engine.specs.declared.effect.NetEffect.{NetEffect}
use Rattle.tuple_space.specs.declared.space.TupleSpace.{TupleSpace}
use Rattle.nb_records.specs.Editing.{accepted}
use Rattle.nb_records.specs.Network.{Network}
use Rattle.nb_records.specs.declared.change.Op.{Op}
use Rattle.nb_rules.specs.Valid.{IsValid}
use Rattle.nb_edits.specs.OpFaults.{fault_of}
use Rattle.nb_edits.specs.Plans.{IsPlanBetween}
use Rattle.nb_edits.specs.declared.plan.EditPlan.{EditPlan}
use Rattle.event_lines.specs.declared.refusal.Refusal.TheVariants as why
use Rattle.tunnel_keys.specs.Causes.{HasKeys, IsCause}
use Rattle.tunnel_keys.specs.Edits.{IsAfter}
use Rattle.tunnel_keys.specs.Keys as held
use Rattle.tunnel_keys.specs.declared.fault.KeyFault.{KeyFault}
use Rattle.tunnel_keys.specs.declared.fault.KeyFault.TheVariants as key
use Rattle.tunnel_keys.specs.declared.fault.KeyFault.TheVariants.{NoDatapathKey, NoPortKey}
use Rattle.tunnel_keys.specs.declared.owner.KeyOwner.{KeyOwner}
use Rattle.world_setup.specs.Built.{is_built_edit}
use Rattle.world_setup.specs.Ground.{GroundView, ground_after, ground_of}
use Rattle.world_setup.specs.Refusing.{refusal}
use Rattle.world_setup.specs.Setup.{SetupView, IsSetupPatch, IsTurnOfTables}
use Rattle.world_setup.specs.Step.{Does}
use Rattle.net_model.specs.Transition as net
use Rattle.sim_laws.specs.journeys.TurnedZones.{IsTurnOfZones, turned_with}
use Rattle.world_setup.specs.Zones.{Rezones, emptied_by}
use Rattle.world_setup.specs.declared.setup.Turn.{Turn}

-- the event may turn the state, whose ground this is
pub record MayTurn (g : GroundView) (n : ℕ) (event : Event) (m : State) : Type 0 where
  pub ground : ground_of m g.zones ≡ g
  pub number : n ≡ event_count m + 1
  pub consistent : IsConsistent m g.zones
  pub few : event_count m < 2 ^ 42
  pub in_grammar : IsEventInGrammar event

-- The event turns the state: what it does to the network, with the ground after it, and what the simulated chassis are told.
pub record IsTurned (m : State) (homes : Zoned) (event : Event) (effects : List NetEffect) (change : SimChange TupleSpace) (after : GroundView) : Type 0 where
  pub allowed : refusal m event ≡ None
  -- the turn of the configuration, and the keys with it
  pub turn : net.Turn
  pub keys : held.Keys
  pub does : Does m event effects (turned_with turn keys m)
  pub ground : ground_of (turned_with turn keys m) after.zones ≡ after
  pub consistent : IsConsistent (finished (turned_with turn keys m)) after.zones
  pub unretired : held.settled keys ≡ keys
  pub zones : Rezones event homes after.zones
  pub emptied : change.emptied ≡ emptied_by event homes after.zones
  -- the frames that wait are spelled as before
  pub frames : map (frame_of_crossing keys) m.waiting ≡ map (frame_of_crossing m.keys) m.waiting
  pub bindings : (q : Name) → set_in_turn same_name change.bound q (at m.config.bindings q) ≡ at turn.next.bindings q
  pub names : (old new : SimState) → HaveOwnersNames m.keys old → AreSet same_pair (map given_name change.names) old.names new.names → HaveOwnersNames keys new
  -- everyone who has a zone then keeps it with its list, or begins with an empty one
  pub lists : IsTurnOfZones m turn homes.numbers after.zones.numbers change.emptied

-- the records and the keys of an edit are planned: nothing is wrong with it, and there are keys for who comes
pub record IsPlannedEdit (g : GroundView) (n : ℕ) (ops : List Op) (plan : EditPlan) (keys : held.Keys) : Type 0 where
  pub built : is_built_edit ops ≡ true
  pub faultless : fault_of g.config.net ops n ≡ None
  pub stands : IsPlanBetween g.config.net (accepted g.config.net ops n) plan
  pub after : IsAfter g.keys plan.added plan.removed keys
  pub enough : HasKeys g.keys plan.added plan.removed

-- the records are others in their marks alone
abbrev pub AreMarkedAlone : Network → Network → Type 0
AreMarkedAlone before after = after ≡ record before { offline = after.offline }

-- the records of a mark are planned
pub record IsPlannedMark (g : GroundView) (plan : EditPlan) : Type 0 where
  pub keyed : IsKeyed g.config.net g.keys
  pub valid : IsValid plan.after
  pub alone : AreMarkedAlone g.config.net plan.after
  pub once : EachOnce g.config.chassis
  -- ports are at home where they are bound
  pub homes : g.zones.homes.ports ≡ g.config.bindings

-- nobody is bound or named yet, no zone is emptied, and nothing is told
pub record IsBare (turn : Turn) : Type 0 where
  pub bound : turn.sim.bound ≡ []
  pub emptied : turn.sim.emptied ≡ []
  pub names : turn.sim.names ≡ []
  pub effects : turn.effects ≡ []

-- the turn was prepared for this setup, and does what the event asks for
pub record IsTurn (before : GroundView) (s : SetupView) (n : ℕ) (event : Event) (turn : Turn) : Type 0 where
  pub patch : IsSetupPatch s turn.patch
  pub tables : IsTurnOfTables before (ground_after turn.patch.change before) turn.sim
  pub turned : (m : State) → MayTurn before n event m → IsTurned m before.zones event turn.effects turn.sim (ground_after turn.patch.change before)

-- why no turn comes of it: the cause for which the event is refused, or want of memory
abbrev pub Tells : StepFault → Option Refusal → Type 0
Tells (Refused why) cause = cause ≡ Some why
Tells Memory cause = Unit {0}

-- the fault is that of the keys that are lacking
abbrev pub fault_of_keys : KeyFault → StepFault
fault_of_keys NoDatapathKey = Refused why.NoDatapathKey
fault_of_keys (NoPortKey datapath) = Refused (why.NoPortKey datapath)
fault_of_keys key.Memory = Memory

pub record LacksFor (keys : held.Keys) (added removed : List KeyOwner) (fault : StepFault) : Type 0 where
  pub lack : KeyFault
  pub fault_is : fault ≡ fault_of_keys lack
  pub cause : IsCause keys added removed lack

abbrev pub IsNoTurn : GroundView → ℕ → Event → StepFault → Type 0
IsNoTurn g n event fault = (m : State) → MayTurn g n event m → Tells fault (refusal m event)
