-- The packets of one event, one after another: each goes its way, and the crossings that it leaves wait.
use Rattle.std.specs.Prelude.{◌≡◌, ℕ, zero, suc, ◌+◌, ◌++◌, Bool, true, false, List, [], ◌∷◌, length, Option, Some, None, cond}
use Rattle.std.specs.BTreeMap.{is_at}
use Rattle.std.specs.Map.{lookup, remove_entry}
use Rattle.std.specs.Option.{option_and_then}
use Rattle.std.specs.Ordering.{nat_cmp}
use Rattle.inet_packet.specs.declared.packet.Packet.{Packet}
use Rattle.nb_records.specs.declared.switch.SwitchPort.{SwitchPort}
use Rattle.ovn_base.specs.declared.limits.TheConstants.{MAX_ARRIVALS}
use Rattle.ovn_base.specs.declared.name.Name.{Name}
use Rattle.ovn_base.specs.names.ByName.{at}
use Rattle.net_model.specs.declared.crossing.Crossing.{Crossing}
use Rattle.net_model.specs.Arrival.{arrival}
use Rattle.net_model.specs.Config.{is_chassis}
use Rattle.net_model.specs.Entry.{Scene}
use Rattle.net_model.specs.State.{State}
use Rattle.net_model.specs.Trail.{Trail, End, choices_in, crossings_in, is_lost, tell}
use Rattle.conn_table.specs.Picks.{Choice}
use Rattle.net_model.specs.Visit.{visit}

-- the trail of all packets so far, the crossings that wait, and the number that the next one gets
pub record Journey : Type 0 where
  pub trail : Trail
  pub waiting : List (ℕ × Crossing)
  pub next : ℕ

-- the scene on each chassis; none where the chassis is gone
abbrev pub Scenes : Type 0
Scenes = Name → Option Scene

-- ---- one packet

-- numbered from n on
abbrev pub numbered_from : ℕ → List Crossing → List (ℕ × Crossing)
numbered_from n [] = []
numbered_from n (x ∷ xs) = (n, x) ∷ numbered_from (n + 1) xs

-- the same trail, as one of a packet that has no end yet
abbrev pub without_ends : Trail → Trail
without_ends t = record t { ends = [] }

-- a packet left this trail behind: its ends come behind those of earlier packets, and its crossings wait
abbrev pub joined_by : Journey → Trail → Journey
joined_by j t = record {
  trail = record t { ends = j.trail.ends ++ t.ends };
  waiting = j.waiting ++ numbered_from j.next (crossings_in t.ends);
  next = j.next + length (crossings_in t.ends);
}

abbrev pub go : (Trail → Trail) → Journey → Journey
go way j = joined_by j (way (without_ends j.trail))

-- ---- moves

-- the packet enters at the port
abbrev pub goes_in : Scene → SwitchPort → Packet → Journey → Journey
goes_in scene i p j = go (λ t. visit scene i t p) j

abbrev pub waiting_at : List (ℕ × Crossing) → ℕ → Option Crossing
waiting_at waiting n = lookup (is_at (nat_cmp n)) waiting

-- the crossing of the number waits no more
abbrev pub takes_off : ℕ → Journey → Journey
takes_off n j = record j { waiting = remove_entry (is_at (nat_cmp n)) j.waiting }

abbrev pub kept_or_not : Bool → ℕ → Journey → Journey
kept_or_not true n j = j
kept_or_not false n j = takes_off n j

-- it arrives; where its chassis is gone it is lost
abbrev pub arrive_at : Option Scene → ℕ → Crossing → Trail → Trail
arrive_at None n x t = tell (is_lost n) t
arrive_at (Some scene) n x t = arrival scene n x t

-- the crossing of the number arrives, if it waits, and waits on where it is kept
abbrev pub comes_as : Scenes → ℕ → Bool → Option Crossing → Journey → Journey
comes_as scenes n keep None j = j
comes_as scenes n keep (Some x) j = go (arrive_at (scenes x.home) n x) (kept_or_not keep n j)

abbrev pub comes : Scenes → ℕ → Bool → Journey → Journey
comes scenes n keep j = comes_as scenes n keep (waiting_at j.waiting n) j

-- ---- many

-- the crossing of the lowest number arrives, and then the others do
abbrev pub drain_from : (Journey → Journey) → Scenes → List (ℕ × Crossing) → Journey → Journey
drain_from others scenes [] j = j
drain_from others scenes (w ∷ waiting) j = others (comes scenes w.0 false j)

-- until none waits, or so many arrived
abbrev pub drain : ℕ → Scenes → Journey → Journey
drain zero scenes j = j
drain (suc k) scenes j = drain_from (drain k scenes) scenes j.waiting j

-- in one event so many arrive at most
abbrev pub drain_all : Scenes → Journey → Journey
drain_all scenes j = drain MAX_ARRIVALS scenes j

-- ---- what an event asks of packets

pub data Traffic : Type 0 where
  -- a packet enters at a port
  enter_one : Name → Packet → Traffic
  -- the crossing of the number arrives, and waits on or not
  arrive_one : ℕ → Bool → Traffic
  -- it waits no more
  lose_one : ℕ → Traffic
  -- all arrive that wait
  arrive_all : Traffic
  -- a packet enters at a port, and then all arrive that wait
  enter_and_arrive : Name → Packet → Traffic

-- the chassis to which each port is bound, and the scene there
pub record Places : Type 0 where
  pub bindings : List (Name × Name)
  pub scenes : Scenes

-- a packet enters at the port of that name, on the chassis to which that is bound; where there is no such port, or it is bound nowhere,
-- nothing enters
abbrev pub enter_by : Scene → Option SwitchPort → Packet → Journey → Journey
enter_by scene None p j = j
enter_by scene (Some i) p j = goes_in scene i p j

abbrev pub enter_on : Option Scene → Name → Packet → Journey → Journey
enter_on None port p j = j
enter_on (Some scene) port p j = enter_by scene (at scene.config.net.switch_ports port) p j

abbrev pub enter_at : Places → Name → Packet → Journey → Journey
enter_at places port p j = enter_on (option_and_then places.scenes (at places.bindings port)) port p j

abbrev pub travel : Places → Traffic → Journey → Journey
travel places (enter_one port p) j = enter_at places port p j
travel places (arrive_one n keep) j = comes places.scenes n keep j
travel places (lose_one n) j = takes_off n j
travel places arrive_all j = drain_all places.scenes j
travel places (enter_and_arrive port p) j = drain_all places.scenes (enter_at places port p j)

-- ---- in a state

abbrev pub scene_at : State → Name → Scene
scene_at m chassis = record { config = m.config; now = m.clock; here = chassis }

abbrev pub scenes_of : State → Scenes
scenes_of m chassis = cond (is_chassis m.config chassis) (Some (scene_at m chassis)) None

abbrev pub places_of : State → Places
places_of m = record { bindings = m.config.bindings; scenes = scenes_of m }

-- with these choices to make
abbrev pub begin_journey : State → List Choice → Journey
begin_journey m choices = record { trail = record { lists = m.lists; choices = choices; legal = true; ends = [] }; waiting = m.waiting; next = m.next }

-- the journey with the choices of which the ends tell
abbrev pub journey_of : State → Traffic → List End → Journey
journey_of m traffic ends = travel (places_of m) traffic (begin_journey m (choices_in ends))

abbrev pub ended_journey : State → Journey → State
ended_journey m j = record m { lists = j.trail.lists; waiting = j.waiting; next = j.next }

-- The packets go their ways, to these ends: each choice of which the ends tell is legal, and none is left over.
pub record Travels (m : State) (traffic : Traffic) (ends : List End) (after : State) : Type 0 where
  pub legal : (journey_of m traffic ends).trail.legal ≡ true
  pub used : (journey_of m traffic ends).trail.choices ≡ []
  pub ends_are : ends ≡ (journey_of m traffic ends).trail.ends
  pub state : after ≡ ended_journey m (journey_of m traffic ends)
