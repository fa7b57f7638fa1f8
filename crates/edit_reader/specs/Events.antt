-- The event that a line asks for.
use Rattle.std.specs.Prelude.{ℕ, if◌then◌else◌, List, [], ◌∷◌, codes, Option, Some, None, is_some, option_map, option_and_then, Ok, Err, ⊤}
use Rattle.std.specs.List.{find}
use Rattle.std.specs.Str.{bytes_eq, is_utf8}
use Rattle.serde_json.specs.Data.{Data, object, no_members, member}
use Rattle.serde_json.specs.Find.{get, as_object}
use Rattle.serde_json.specs.Read.{read}
use Rattle.ovn_base.specs.declared.name.Name.{Name}
use Rattle.ovn_base.specs.names.NameText.{spelled_name}
use Rattle.edit_reader.specs.Outcomes.{Read, ◌>>=◌, of_kind}
use Rattle.edit_reader.specs.Fields.{only, text_by}
use Rattle.edit_reader.specs.Operations.{edit_of}
use Rattle.edit_reader.specs.Tables.{Row, ValuesOf, values_of, names_in, port_rows, bind_rows, key_rows, health_rows, clock_rows, entry_rows, frame_rows}
use Rattle.edit_reader.specs.declared.event.Event.{Event}
use Rattle.edit_reader.specs.declared.event.Event.TheVariants as event
use Rattle.edit_reader.specs.declared.event.ReadRefusal.TheVariants.{BadJson, NotObject, UnknownEvent}
use Rattle.edit_reader.specs.declared.form.Form.{Form}
use Rattle.edit_reader.specs.declared.form.Form.TheVariants as form

-- ---- the inner object

-- it is one, and has fields of the table alone
unfoldable pub object_in : List ℕ → List (List ℕ) → Data → Read ⊤
object_in name names d = of_kind name (as_object d) >>= λ members. only names d

-- the fields of the inner object of that name, by its table
abbrev pub inner_of : List ℕ → (rows : List Row) → Data → Read (ValuesOf rows)
inner_of name rows d = object_in name (names_in rows d) d >>= λ known. values_of rows d

-- {"bind":{"port":P,"chassis":C}}
abbrev pub bind_from : ValuesOf bind_rows → Event
bind_from (port, (chassis, end)) = event.Bind port chassis

unfoldable pub bind_of : Data → Read Event
bind_of d = inner_of (codes "bind") bind_rows d >>= λ v. Ok (bind_from v)

-- {"unbind":{"port":P}}
abbrev pub unbind_from : ValuesOf port_rows → Event
unbind_from (port, end) = event.Unbind port

unfoldable pub unbind_of : Data → Read Event
unbind_of d = inner_of (codes "unbind") port_rows d >>= λ v. Ok (unbind_from v)

-- {"chassis":{"add":C}} or {"chassis":{"remove":C}}
abbrev pub chassis_by : Option Data → Option Data → Data → Read Event
chassis_by (Some v) None d = only (codes "add" ∷ []) d >>= λ known. text_by spelled_name (codes "add") v >>= λ name. Ok (event.AddChassis name)
chassis_by None (Some v) d = only (codes "remove" ∷ []) d >>= λ known. text_by spelled_name (codes "remove") v >>= λ name. Ok (event.RemoveChassis name)
chassis_by _ _ d = Err UnknownEvent

unfoldable pub chassis_of : Data → Read Event
chassis_of d = of_kind (codes "chassis") (as_object d) >>= λ members. chassis_by (get (codes "add") d) (get (codes "remove") d) d

-- {"keys":{"datapaths":D,"ports":P}}
abbrev pub keys_from : ValuesOf key_rows → Event
keys_from (datapaths, (ports, end)) = event.Keys datapaths ports

unfoldable pub keys_of : Data → Read Event
keys_of d = inner_of (codes "keys") key_rows d >>= λ v. Ok (keys_from v)

-- {"health":{"balancer":B,"backend":"ip:port","online":true}}
abbrev pub health_from : ValuesOf health_rows → Event
health_from (balancer, (backend, (online, end))) = event.Health balancer backend online

unfoldable pub health_of : Data → Read Event
health_of d = inner_of (codes "health") health_rows d >>= λ v. Ok (health_from v)

-- {"clock":{"seconds":S}}
abbrev pub clock_from : ValuesOf clock_rows → Event
clock_from (seconds, end) = event.Clock seconds

unfoldable pub clock_of : Data → Read Event
clock_of d = inner_of (codes "clock") clock_rows d >>= λ v. Ok (clock_from v)

-- {"inject":{"port":P,"frame":HEX}} and {"packet":{"port":P,"frame":HEX}}
abbrev pub entry_in : List ℕ → Data → Read (Name × List ℕ)
entry_in name d = inner_of name entry_rows d >>= λ v. Ok (v.0, v.1.0)

unfoldable pub inject_of : Data → Read Event
inject_of d = entry_in (codes "inject") d >>= λ e. Ok (event.Inject e.0 e.1)

unfoldable pub packet_of : Data → Read Event
packet_of d = entry_in (codes "packet") d >>= λ e. Ok (event.Packet e.0 e.1)

-- {"deliver":{"frame":N}}, {"lose":{"frame":N}} and {"repeat":{"frame":N}}
unfoldable pub frame_in : List ℕ → Data → Read ℕ
frame_in name d = inner_of name frame_rows d >>= λ v. Ok v.0

-- {"drain":{}}
unfoldable pub drain_of : Data → Read Event
drain_of d = object_in (codes "drain") [] d >>= λ known. Ok event.Drain

-- ---- the event of a value

abbrev pub form_text : Form → List ℕ
form_text form.Edit = codes "edit"
form_text form.Bind = codes "bind"
form_text form.Unbind = codes "unbind"
form_text form.Chassis = codes "chassis"
form_text form.Keys = codes "keys"
form_text form.Health = codes "health"
form_text form.Clock = codes "clock"
form_text form.Inject = codes "inject"
form_text form.Deliver = codes "deliver"
form_text form.Lose = codes "lose"
form_text form.Repeat = codes "repeat"
form_text form.Drain = codes "drain"
form_text form.Packet = codes "packet"

abbrev pub all_forms : List Form
all_forms = form.Edit ∷ form.Bind ∷ form.Unbind ∷ form.Chassis ∷ form.Keys ∷ form.Health ∷ form.Clock ∷ form.Inject ∷ form.Deliver ∷ form.Lose ∷ form.Repeat ∷ form.Drain ∷ form.Packet ∷ []

unfoldable pub spelled_form : List ℕ → Option Form
spelled_form text = find (λ f. bytes_eq (form_text f) text) all_forms

abbrev pub only_member : Data → Option (List ℕ × Data)
only_member (object (member k d no_members)) = Some (k, d)
only_member _ = None

-- the form that the only member names, and its value
unfoldable pub form_in : Data → Option (Form × Data)
form_in d = option_and_then (λ m. option_map (λ f. (f, m.1)) (spelled_form m.0)) (only_member d)

abbrev pub event_by : Option (Form × Data) → Read Event
event_by (Some (form.Edit, d)) = edit_of d >>= λ ops. Ok (event.Edit ops)
event_by (Some (form.Bind, d)) = bind_of d
event_by (Some (form.Unbind, d)) = unbind_of d
event_by (Some (form.Chassis, d)) = chassis_of d
event_by (Some (form.Keys, d)) = keys_of d
event_by (Some (form.Health, d)) = health_of d
event_by (Some (form.Clock, d)) = clock_of d
event_by (Some (form.Inject, d)) = inject_of d
event_by (Some (form.Deliver, d)) = frame_in (codes "deliver") d >>= λ n. Ok (event.Deliver n)
event_by (Some (form.Lose, d)) = frame_in (codes "lose") d >>= λ n. Ok (event.Lose n)
event_by (Some (form.Repeat, d)) = frame_in (codes "repeat") d >>= λ n. Ok (event.Repeat n)
event_by (Some (form.Drain, d)) = drain_of d
event_by (Some (form.Packet, d)) = packet_of d
event_by None = Err UnknownEvent

unfoldable pub event_of : Data → Read Event
event_of d = if is_some (as_object d) then event_by (form_in d) else Err NotObject

-- ---- the event of a line

abbrev pub event_from : Option Data → Read Event
event_from (Some d) = event_of d
event_from None = Err BadJson

unfoldable pub reading_of : List ℕ → Read Event
reading_of line = event_from (if is_utf8 line then read line else None)
