-- What becomes of packets, event by event, from the empty network on.
use Rattle.std.specs.Prelude.{◌≡◌, ℕ, ◌+◌, Bool, true, List, [], ◌∷◌, map, flat_map}
use Rattle.flow_table.specs.declared.flow.Cause.{Cause}
use Rattle.inet_packet.specs.Frame.{frame_of}
use Rattle.nb_records.specs.Editing.{accepted}
use Rattle.nb_records.specs.declared.change.Op.{Op}
use Rattle.ovn_base.specs.declared.address.Backend.{Backend}
use Rattle.ovn_base.specs.declared.name.Name.{Name}
use Rattle.net_model.specs.declared.crossing.Aim.{Aim}
use Rattle.net_model.specs.declared.crossing.Aim.TheVariants as aim
use Rattle.net_model.specs.declared.crossing.Group.TheVariants as group
use Rattle.net_model.specs.Journey.{Journey, Traffic, travel, places_of, begin_journey, ended_journey}
use Rattle.net_model.specs.State.{State, empty, finished, clocked, event_count}
use Rattle.net_model.specs.Trail.{End, leaves, is_dropped, crosses, picks_backend, picks_port, is_lost}
use Rattle.conn_table.specs.Picks.{Choice, to_backend, to_port}
use Rattle.net_model.specs.Transition.{Turn, turned_by, bind, unbind, add_chassis, remove_chassis, edit, mark_backend}

-- ---- lines

-- to whom a frame between chassis goes
pub data Towards : Type 0 where
  to_one : Name → Towards
  to_all : Towards
  to_unknown : Towards

-- a line of an event, with the bytes of its frame
pub data RowLine : Type 0 where
  -- the frame leaves the port
  out : Name → List ℕ → RowLine
  -- dropped on the datapath, at the port
  drop : Name → Name → Cause → RowLine
  -- from the chassis to the other one, on the switch, from its port of entry
  tunnel : Name → Name → Name → Name → Towards → List ℕ → RowLine
  -- on the datapath, for the virtual address
  pick_backend : Name → Backend → Backend → RowLine
  pick_port : Name → ℕ → RowLine
  lost : ℕ → RowLine

abbrev pub towards_of : Aim → Towards
towards_of (aim.ToPort id) = to_one id.name
towards_of (aim.ToGroup group.Flood) = to_all
towards_of (aim.ToGroup group.Unknown) = to_unknown

abbrev pub line_of : End → RowLine
line_of (leaves q p) = out q (frame_of p)
line_of (is_dropped datapath q cause) = drop datapath q cause
line_of (crosses from x) = tunnel from x.home x.datapath.name x.in_port.name (towards_of x.aim) (frame_of x.packet)
line_of (picks_backend datapath vip backend) = pick_backend datapath vip backend
line_of (picks_port router n) = pick_port router n
line_of (is_lost n) = lost n

-- the choices of which a line tells
abbrev pub choices_in_line : RowLine → List Choice
choices_in_line (pick_backend datapath vip backend) = to_backend backend ∷ []
choices_in_line (pick_port router n) = to_port n ∷ []
choices_in_line _ = []

-- ---- events

pub data RowEvent : Type 0 where
  edited : List Op → RowEvent
  bound : Name → Name → RowEvent
  unbound : Name → RowEvent
  chassis_added : Name → RowEvent
  chassis_removed : Name → RowEvent
  marked : Name → Backend → Bool → RowEvent
  passed : ℕ → RowEvent
  -- packets go, and these lines tell what became of them
  went : Traffic → List RowLine → RowEvent

-- what the packets of an event came to: whether the choices that the lines tell of were legal, those that were not made, and the lines
pub record Told : Type 0 where
  pub legal : Bool
  pub left : List Choice
  pub lines : List RowLine

abbrev pub told : Journey → Told
told j = record { legal = j.trail.legal; left = j.trail.choices; lines = map line_of j.trail.ends }

abbrev pub wanted : List RowLine → Told
wanted lines = record { legal = true; left = []; lines = lines }

-- what is told of the packets of each event, and what is wanted
abbrev pub turn_and : (State → List Told) → Turn → State → List Told
turn_and rest turn m = rest (finished (turned_by turn m))

abbrev pub tell_and : (State → List Told) → State → Journey → List Told
tell_and rest m j = told j ∷ rest (finished (ended_journey m j))

abbrev pub event_and : RowEvent → (State → List Told) → State → List Told
event_and (edited ops) rest m = turn_and rest (edit m.config (accepted m.config.net ops (event_count m + 1))) m
event_and (bound port chassis) rest m = turn_and rest (bind m.config port chassis) m
event_and (unbound port) rest m = turn_and rest (unbind m.config port) m
event_and (chassis_added chassis) rest m = turn_and rest (add_chassis m.config chassis) m
event_and (chassis_removed chassis) rest m = turn_and rest (remove_chassis m.config chassis) m
event_and (marked balancer backend online) rest m = turn_and rest (mark_backend m.config balancer backend online) m
event_and (passed seconds) rest m = rest (finished (clocked seconds m))
event_and (went traffic lines) rest m = tell_and rest m (travel (places_of m) traffic (begin_journey m (flat_map choices_in_line lines)))

unfoldable pub all_told : List RowEvent → State → List Told
all_told [] m = []
all_told (e ∷ events) m = event_and e (all_told events) m

abbrev pub wanted_of : RowEvent → List Told
wanted_of (went traffic lines) = wanted lines ∷ []
wanted_of _ = []

abbrev pub all_wanted : List RowEvent → List Told
all_wanted events = flat_map wanted_of events

-- From the empty network on, the packets of all events come to the lines that stand beside them.
unfoldable pub ComesOut : List RowEvent → Type 0
ComesOut events = all_told events empty ≡ all_wanted events
