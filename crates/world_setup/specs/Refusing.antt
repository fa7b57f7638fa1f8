-- When an event is refused, and why: it isn't built, or else the first cause that holds.
use Rattle.std.specs.Prelude.{◌+◌, Bool, true, false, not, ℕ, List, Option, Some, None, if◌then◌else◌, is_none, is_some, length, nat_le, nat_lt, option_map}
use Rattle.ovn_base.specs.declared.address.Backend.{Backend}
use Rattle.ovn_base.specs.declared.name.Name.{Name}
use Rattle.ovn_base.specs.names.ByName.{at}
use Rattle.ovn_base.specs.declared.limits.TheConstants.{MAX_CHASSIS, MAX_WAITING}
use Rattle.nb_records.specs.Editing.{lists_backend}
use Rattle.nb_records.specs.Network.{Network}
use Rattle.nb_records.specs.Switches.{is_virtual, or_else}
use Rattle.nb_records.specs.declared.change.Op.{Op}
use Rattle.nb_records.specs.declared.switch.SwitchPort.{SwitchPort}
use Rattle.nb_edits.specs.OpFaults.{fault_of}
use Rattle.edit_reader.specs.declared.event.Event.{Event}
use Rattle.edit_reader.specs.declared.event.Event.TheVariants.{Edit, Bind, Unbind, AddChassis, RemoveChassis, Keys, Health, Clock, Inject, Deliver, Lose, Repeat, Drain, Packet, Unread}
use Rattle.event_lines.specs.declared.refusal.Refusal.{Refusal}
use Rattle.event_lines.specs.declared.refusal.Refusal.TheVariants as why
use Rattle.chassis_sim.specs.State.{numbered}
use Rattle.net_model.specs.State.{State, event_count}
use Rattle.net_model.specs.Config.{is_chassis}
use Rattle.world_setup.specs.Built.{is_built_edit}
use Rattle.world_setup.specs.Causes.{cause_if}
use Rattle.world_setup.specs.Editing.{next_net}
use Rattle.world_setup.specs.Frames.{is_too_short, is_too_big, is_bad_ip4}
use Rattle.world_setup.specs.KeyCauses.{KeyLack, datapath_keys, port_keys, key_lack}

-- ---- what is built

abbrev pub is_built : Event → Bool
is_built (Edit ops) = is_built_edit ops
is_built (Bind port chassis) = true
is_built (Unbind port) = false
is_built (AddChassis chassis) = true
is_built (RemoveChassis chassis) = false
is_built (Keys datapaths ports) = false
is_built (Health balancer backend online) = true
is_built (Clock seconds) = true
is_built (Inject port frame) = true
is_built (Deliver n) = true
is_built (Lose n) = true
is_built (Repeat n) = true
is_built Drain = true
is_built (Packet port frame) = true
is_built (Unread fault) = true

-- ---- causes

abbrev pub refusal_of_lack : KeyLack → Refusal
refusal_of_lack datapath_keys = why.NoDatapathKey
refusal_of_lack (port_keys datapath) = why.NoPortKey datapath

-- an edit: what is wrong with its operations and with the records that they leave, and then with the keys that it wants
abbrev pub cause_of_edit : State → List Op → Option Refusal
cause_of_edit m ops =
    or_else (option_map (λ fault. why.Schema fault) (fault_of m.config.net ops (event_count m + 1)))
    (option_map refusal_of_lack (key_lack m.keys m.config.net (next_net m ops)))

abbrev pub is_virtual_port : Option SwitchPort → Bool
is_virtual_port None = false
is_virtual_port (Some port) = is_virtual port

abbrev pub no_port : State → Name → Option Refusal
no_port m port = cause_if (not (is_virtual_port (at m.config.net.switch_ports port))) (why.NoSuch port)

abbrev pub no_chassis : State → Name → Option Refusal
no_chassis m chassis = cause_if (not (is_chassis m.config chassis)) (why.NoSuch chassis)

abbrev pub not_bound : State → Name → Option Refusal
not_bound m port = cause_if (is_none (at m.config.bindings port)) (why.NotBound port)

abbrev pub no_frame : State → ℕ → Option Refusal
no_frame m n = cause_if (not (is_some (numbered m.waiting n))) (why.NoFrame n)

-- so many frames wait that no event may add to them
abbrev pub too_many_wait : State → Option Refusal
too_many_wait m = cause_if (nat_le MAX_WAITING (length m.waiting)) why.TooManyFrames

-- a frame that is none
abbrev pub frame_fault : List ℕ → Option Refusal
frame_fault frame = or_else (cause_if (is_too_short frame) why.TooShort) (or_else (cause_if (is_too_big frame) why.TooBig) (cause_if (is_bad_ip4 frame) why.BadIp4))

abbrev pub cause_of_entry : State → Name → List ℕ → Option Refusal
cause_of_entry m port frame = or_else (no_port m port) (or_else (not_bound m port) (or_else (frame_fault frame) (too_many_wait m)))

-- a mark: its balancer isn't there, or no vip of that lists the backend
abbrev pub cause_of_mark : Network → Name → Backend → Option Refusal
cause_of_mark net balancer backend =
    or_else (cause_if (is_none (at net.load_balancers balancer)) (why.NoSuch balancer)) (cause_if (not (lists_backend backend (at net.load_balancers balancer))) (why.NoSuchBackend backend))

-- the first cause that holds
abbrev pub cause : State → Event → Option Refusal
cause m (Edit ops) = cause_of_edit m ops
cause m (Bind port chassis) = or_else (no_port m port) (no_chassis m chassis)
cause m (Unbind port) = or_else (no_port m port) (not_bound m port)
cause m (AddChassis chassis) = or_else (cause_if (is_chassis m.config chassis) (why.DuplicateName chassis)) (cause_if (nat_le MAX_CHASSIS (length m.config.chassis)) why.LimitChassis)
cause m (RemoveChassis chassis) = no_chassis m chassis
cause m (Keys datapaths ports) = cause_if (nat_lt 0 m.accepted) why.KeysFixed
cause m (Health balancer backend online) = cause_of_mark m.config.net balancer backend
cause m (Clock seconds) = None
cause m (Inject port frame) = cause_of_entry m port frame
cause m (Deliver n) = no_frame m n
cause m (Lose n) = no_frame m n
cause m (Repeat n) = or_else (no_frame m n) (too_many_wait m)
cause m Drain = None
cause m (Packet port frame) = cause_of_entry m port frame
cause m (Unread fault) = Some (why.Read fault)

-- ---- why an event is refused, if it is

abbrev pub refusal : State → Event → Option Refusal
refusal m event = if is_built event then cause m event else Some why.NotBuilt
