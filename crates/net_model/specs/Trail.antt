-- What becomes of a packet on its way, and what it leaves behind.
use Rattle.std.specs.Prelude.{◌&&◌, ◌++◌, ℕ, Bool, false, List, [], ◌∷◌, Option, Some, None, unwrap_or, cond}
use Rattle.std.specs.BTreeMap.{is_at}
use Rattle.std.specs.Cmp.Lexicographic.{slice_cmp}
use Rattle.std.specs.Map.{set_value}
use Rattle.std.specs.Ordering.{nat_cmp}
use Rattle.conn_table.specs.Connections.{ConnectionList}
use Rattle.conn_table.specs.Picks.{Choice, to_backend, to_port, Chosen}
use Rattle.flow_table.specs.declared.flow.Cause.{Cause}
use Rattle.inet_packet.specs.declared.packet.Packet.{Packet}
use Rattle.nb_records.specs.declared.router.RouterPort.{RouterPort}
use Rattle.nb_records.specs.declared.switch.SwitchPort.{SwitchPort}
use Rattle.ovn_base.specs.declared.address.Backend.{Backend}
use Rattle.ovn_base.specs.declared.name.Name.{Name}
use Rattle.ovn_base.specs.names.ByName.{at}
use Rattle.net_model.specs.declared.crossing.Crossing.{Crossing}

-- ---- connection lists

-- those of virtual ports, and the two of each gateway router, in order of name: of those alone that are at home on a chassis
pub record Lists : Type 0 where
  pub ports : List (Name × ConnectionList)
  pub dnats : List (Name × ConnectionList)
  pub snats : List (Name × ConnectionList)

pub data ListOwner : Type 0 where
  of_port : Name → ListOwner
  dnat_of : Name → ListOwner
  snat_of : Name → ListOwner

abbrev pub list_at : List (Name × ConnectionList) → Name → ConnectionList
list_at lists name = unwrap_or (at lists name) []

abbrev pub list_of : Lists → ListOwner → ConnectionList
list_of lists (of_port q) = list_at lists.ports q
list_of lists (dnat_of r) = list_at lists.dnats r
list_of lists (snat_of r) = list_at lists.snats r

-- the list in place of the owner's, if it has one
abbrev pub with_list_at : List (Name × ConnectionList) → Name → ConnectionList → List (Name × ConnectionList)
with_list_at lists name list = set_value (is_at (slice_cmp nat_cmp name)) lists list

abbrev pub with_list : Lists → ListOwner → ConnectionList → Lists
with_list lists (of_port q) list = record lists { ports = with_list_at lists.ports q list }
with_list lists (dnat_of r) list = record lists { dnats = with_list_at lists.dnats r list }
with_list lists (snat_of r) list = record lists { snats = with_list_at lists.snats r list }

-- ---- ends and choices

pub data End : Type 0 where
  -- the packet leaves the virtual port
  leaves : Name → Packet → End
  -- it is dropped on the datapath, at the port
  is_dropped : Name → Name → Cause → End
  -- it goes from the chassis to another one
  crosses : Name → Crossing → End
  -- on the datapath a backend is picked for the virtual address; on the router a port is picked
  picks_backend : Name → Backend → Backend → End
  picks_port : Name → ℕ → End
  -- it is the crossing of this number, and is lost
  is_lost : ℕ → End

-- the choices that an end tells of, before those of later ends
abbrev pub choice_in : End → List Choice → List Choice
choice_in (picks_backend datapath vip backend) choices = to_backend backend ∷ choices
choice_in (picks_port router port) choices = to_port port ∷ choices
choice_in _ choices = choices

abbrev pub choices_in : List End → List Choice
choices_in [] = []
choices_in (e ∷ ends) = choice_in e (choices_in ends)

-- the crossings among the ends, in order
abbrev pub crossing_in : End → List Crossing → List Crossing
crossing_in (crosses chassis x) xs = x ∷ xs
crossing_in _ xs = xs

abbrev pub crossings_in : List End → List Crossing
crossings_in [] = []
crossings_in (e ∷ ends) = crossing_in e (crossings_in ends)

-- ---- trails

-- the connection lists, the choices that are left, whether those that were made are legal, and the ends so far, in order
pub record Trail : Type 0 where
  pub lists : Lists
  pub choices : List Choice
  pub legal : Bool
  pub ends : List End

-- one end more
abbrev pub tell : End → Trail → Trail
tell e t = record t { ends = t.ends ++ e ∷ [] }

-- another list of the owner
abbrev pub write_list : ListOwner → ConnectionList → Trail → Trail
write_list owner list t = record t { lists = with_list t.lists owner list }

-- where a packet is: on the datapath, at the port
pub record Spot : Type 0 where
  pub datapath : Name
  pub port : Name

abbrev pub spot_of : SwitchPort → Spot
spot_of q = record { datapath = q.switch; port = q.name }

abbrev pub spot_in_router : RouterPort → Spot
spot_in_router p = record { datapath = p.router; port = p.name }

abbrev pub drop_for : Cause → Spot → Trail → Trail
drop_for cause spot t = tell (is_dropped spot.datapath spot.port cause) t

-- ---- choosing

-- the choice is taken, and whether all are legal is kept
abbrev pub after_choice : {X : Type 0} → Chosen X → Trail → Trail
after_choice c t = record t { choices = c.left; legal = t.legal && c.legal }

-- ---- pieces of the way

-- after a piece of the way a packet goes on, or it has ended
pub data Point : Type 0 where
  goes : Trail → Packet → Point
  stops : Trail → Point

-- then the next piece
abbrev pub then : Point → (Trail → Packet → Point) → Point
then (goes t p) next = next t p
then (stops t) next = stops t

-- then the rest of the way
abbrev pub finally : Point → (Trail → Packet → Trail) → Trail
finally (goes t p) rest = rest t p
finally (stops t) rest = t

-- the packet goes on, unless there is a cause to drop it
abbrev pub unless : Option Cause → Spot → Trail → Packet → Point
unless None spot t p = goes t p
unless (Some cause) spot t p = stops (drop_for cause spot t)

-- the cause that comes first among those that hold
abbrev pub first_cause : List (Bool × Cause) → Option Cause
first_cause [] = None
first_cause (x ∷ xs) = cond x.0 (Some x.1) (first_cause xs)

-- the first that holds
abbrev pub first_that : {A : Type 0} → List (Bool × A) → A → A
first_that [] otherwise = otherwise
first_that (x ∷ xs) otherwise = cond x.0 x.1 (first_that xs otherwise)

-- the first that is given
abbrev pub given_or : {A : Type 0} → Option A → A → A
given_or None otherwise = otherwise
given_or (Some x) otherwise = x

abbrev pub first_given : {A : Type 0} → List (Option A) → A → A
first_given [] otherwise = otherwise
first_given (x ∷ xs) otherwise = given_or x (first_given xs otherwise)
