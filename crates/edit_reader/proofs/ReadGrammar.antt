-- What a line asks for is in its ranges and grammars.
use Rattle.std.specs.Prelude.{◌≡◌, ℕ, List, [], ◌∷◌, codes, Option, Some, None, is_some, option_map, option_and_then, Ok, refl}
use Rattle.std.specs.Str.{is_utf8}
use Rattle.std.proofs.Common.{subst, arith}
use Rattle.serde_json.specs.Data.{Data, object, no_members, member}
use Rattle.serde_json.specs.Find.{get, as_object}
use Rattle.serde_json.specs.Read.{read}
use Rattle.ovn_base.specs.declared.name.Name.{Name}
use Rattle.ovn_base.specs.names.NameText.{IsName, spelled_name}
use Rattle.nb_records.specs.Grammar.{IfGiven}
use Rattle.edit_reader.specs.Events.{object_in, inner_of, bind_from, bind_of, unbind_from, unbind_of, chassis_by, chassis_of, keys_from, keys_of, health_from, health_of, clock_from, clock_of, entry_in, inject_of, packet_of, frame_in, drain_of, spelled_form, only_member, form_in, event_by, event_of, event_from, reading_of}
use Rattle.edit_reader.specs.Fields.{only, text_by}
use Rattle.edit_reader.specs.Fitting.{AreBytes, IsFrameNumber, IsEventInGrammar}
use Rattle.edit_reader.specs.Operations.{edit_of}
use Rattle.edit_reader.specs.Tables.{Row, ValuesOf, names_in, port_rows, bind_rows, key_rows, health_rows, clock_rows, entry_rows, frame_rows}
use Rattle.edit_reader.specs.declared.event.Event.{Event}
use Rattle.edit_reader.specs.declared.event.Event.TheVariants as event
use Rattle.edit_reader.specs.declared.event.ReadRefusal.TheVariants.{NotObject, UnknownEvent}
use Rattle.edit_reader.specs.declared.form.Form.{Form}
use Rattle.edit_reader.specs.declared.form.Form.TheVariants as form
use Rattle.edit_reader.proofs.NamesOnce.{InOrder, read_in_order}
use Rattle.edit_reader.proofs.ReadSteps.{ok_is, not_failed, bound, chosen_some, chosen_ok}
use Rattle.edit_reader.proofs.RecordsFit.{edit_fits}
use Rattle.edit_reader.proofs.TablesFit.{text_spelled, Fit, values_fit}
use Rattle.edit_reader.proofs.TextsFit.{name_fits}

-- ---- the inner object

inner_fits : (name : List ℕ) (rows : List Row) (d : Data) (v : ValuesOf rows) → InOrder d → inner_of name rows d ≡ Ok v → Fit rows d v
inner_fits name rows d v h e = let known = bound (object_in name (names_in rows d) d) _ v e in values_fit rows d v h known.2

bind_fits : (d : Data) (x : Event) → InOrder d → bind_of d ≡ Ok x → IsEventInGrammar x
unfolding bind_of
bind_fits d x h e =
    let v = bound (inner_of (codes "bind") bind_rows d) _ x e in
    let f = inner_fits (codes "bind") bind_rows d v.0 h v.1 in
    subst IsEventInGrammar (ok_is (bind_from v.0) x v.2) (f.0, f.1.0)

unbind_fits : (d : Data) (x : Event) → InOrder d → unbind_of d ≡ Ok x → IsEventInGrammar x
unfolding unbind_of
unbind_fits d x h e =
    let v = bound (inner_of (codes "unbind") port_rows d) _ x e in
    let f = inner_fits (codes "unbind") port_rows d v.0 h v.1 in
    subst IsEventInGrammar (ok_is (unbind_from v.0) x v.2) f.0

name_text_fits : (field : List ℕ) (v : Data) (name : Name) → text_by spelled_name field v ≡ Ok name → IsName name
name_text_fits field v name e = let text = text_spelled spelled_name field v name e in name_fits text.0 name text.2

chassis_by_fits : (added removed : Option Data) (d : Data) (x : Event) → chassis_by added removed d ≡ Ok x → IsEventInGrammar x
chassis_by_fits (Some v) None d x e =
    let known = bound (only (codes "add" ∷ []) d) _ x e in
    let name = bound (text_by spelled_name (codes "add") v) _ x known.2 in
    subst IsEventInGrammar (ok_is (event.AddChassis name.0) x name.2) (name_text_fits (codes "add") v name.0 name.1)
chassis_by_fits None (Some v) d x e =
    let known = bound (only (codes "remove" ∷ []) d) _ x e in
    let name = bound (text_by spelled_name (codes "remove") v) _ x known.2 in
    subst IsEventInGrammar (ok_is (event.RemoveChassis name.0) x name.2) (name_text_fits (codes "remove") v name.0 name.1)
chassis_by_fits (Some v) (Some w) d x e = absurd (not_failed UnknownEvent x e)
chassis_by_fits None None d x e = absurd (not_failed UnknownEvent x e)

chassis_fits : (d : Data) (x : Event) → chassis_of d ≡ Ok x → IsEventInGrammar x
unfolding chassis_of
chassis_fits d x e =
    let members = bound _ (λ members. chassis_by (get (codes "add") d) (get (codes "remove") d) d) x e in
    chassis_by_fits (get (codes "add") d) (get (codes "remove") d) d x members.2

keys_fit : (d : Data) (x : Event) → InOrder d → keys_of d ≡ Ok x → IsEventInGrammar x
unfolding keys_of
keys_fit d x h e =
    let v = bound (inner_of (codes "keys") key_rows d) _ x e in
    let f = inner_fits (codes "keys") key_rows d v.0 h v.1 in
    subst IsEventInGrammar (ok_is (keys_from v.0) x v.2) (record { some_datapaths = f.0.0; few_datapaths = f.0.1; some_ports = f.1.0.0; few_ports = f.1.0.1 })

health_fits : (d : Data) (x : Event) → InOrder d → health_of d ≡ Ok x → IsEventInGrammar x
unfolding health_of
health_fits d x h e =
    let v = bound (inner_of (codes "health") health_rows d) _ x e in
    let f = inner_fits (codes "health") health_rows d v.0 h v.1 in
    subst IsEventInGrammar (ok_is (health_from v.0) x v.2) (f.0, f.1.0)

clock_fits : (d : Data) (x : Event) → InOrder d → clock_of d ≡ Ok x → IsEventInGrammar x
unfolding clock_of
clock_fits d x h e =
    let v = bound (inner_of (codes "clock") clock_rows d) _ x e in
    let f = inner_fits (codes "clock") clock_rows d v.0 h v.1 in
    subst IsEventInGrammar (ok_is (clock_from v.0) x v.2) f.0.1

entry_fits : (name : List ℕ) (d : Data) (entry : Name × List ℕ) → InOrder d → entry_in name d ≡ Ok entry → IsName entry.0 × AreBytes entry.1
entry_fits name d entry h e =
    let v = bound (inner_of name entry_rows d) _ entry e in
    let f = inner_fits name entry_rows d v.0 h v.1 in
    subst (λ (t : Name × List ℕ). IsName t.0 × AreBytes t.1) (ok_is (v.0.0, v.0.1.0) entry v.2) (f.0, f.1.0)

inject_fits : (d : Data) (x : Event) → InOrder d → inject_of d ≡ Ok x → IsEventInGrammar x
unfolding inject_of
inject_fits d x h e =
    let entry = bound (entry_in (codes "inject") d) _ x e in
    subst IsEventInGrammar (ok_is (event.Inject entry.0.0 entry.0.1) x entry.2) (entry_fits (codes "inject") d entry.0 h entry.1)

packet_fits : (d : Data) (x : Event) → InOrder d → packet_of d ≡ Ok x → IsEventInGrammar x
unfolding packet_of
packet_fits d x h e =
    let entry = bound (entry_in (codes "packet") d) _ x e in
    subst IsEventInGrammar (ok_is (event.Packet entry.0.0 entry.0.1) x entry.2) (entry_fits (codes "packet") d entry.0 h entry.1)

frame_number_fits : (name : List ℕ) (d : Data) (n : ℕ) → InOrder d → frame_in name d ≡ Ok n → IsFrameNumber n
unfolding frame_in
frame_number_fits name d n h e =
    let v = bound (inner_of name frame_rows d) _ n e in
    let f = inner_fits name frame_rows d v.0 h v.1 in
    let most = f.0.1 in
    subst IsFrameNumber (ok_is v.0.0 n v.2) (omega (arith, most))

drain_fits : (d : Data) (x : Event) → drain_of d ≡ Ok x → IsEventInGrammar x
unfolding drain_of
drain_fits d x e =
    let known = bound (object_in (codes "drain") [] d) _ x e in
    subst IsEventInGrammar (ok_is event.Drain x known.2) tt

-- ---- the event of a value

event_by_fits : (found : Option (Form × Data)) (x : Event) → IfGiven (λ f. InOrder f.1) found → event_by found ≡ Ok x → IsEventInGrammar x
event_by_fits (Some (form.Edit, d)) x h e =
    let ops = bound (edit_of d) _ x e in
    subst IsEventInGrammar (ok_is (event.Edit ops.0) x ops.2) (edit_fits d ops.0 h ops.1)
event_by_fits (Some (form.Bind, d)) x h e = bind_fits d x h e
event_by_fits (Some (form.Unbind, d)) x h e = unbind_fits d x h e
event_by_fits (Some (form.Chassis, d)) x h e = chassis_fits d x e
event_by_fits (Some (form.Keys, d)) x h e = keys_fit d x h e
event_by_fits (Some (form.Health, d)) x h e = health_fits d x h e
event_by_fits (Some (form.Clock, d)) x h e = clock_fits d x h e
event_by_fits (Some (form.Inject, d)) x h e = inject_fits d x h e
event_by_fits (Some (form.Deliver, d)) x h e =
    let n = bound (frame_in (codes "deliver") d) _ x e in
    subst IsEventInGrammar (ok_is (event.Deliver n.0) x n.2) (frame_number_fits (codes "deliver") d n.0 h n.1)
event_by_fits (Some (form.Lose, d)) x h e =
    let n = bound (frame_in (codes "lose") d) _ x e in
    subst IsEventInGrammar (ok_is (event.Lose n.0) x n.2) (frame_number_fits (codes "lose") d n.0 h n.1)
event_by_fits (Some (form.Repeat, d)) x h e =
    let n = bound (frame_in (codes "repeat") d) _ x e in
    subst IsEventInGrammar (ok_is (event.Repeat n.0) x n.2) (frame_number_fits (codes "repeat") d n.0 h n.1)
event_by_fits (Some (form.Drain, d)) x h e = drain_fits d x e
event_by_fits (Some (form.Packet, d)) x h e = packet_fits d x h e
event_by_fits None x h e = absurd (not_failed UnknownEvent x e)

abbrev ValueInOrder : {A : Type 0} → Option (A × Data) → Type 0
ValueInOrder o = IfGiven (λ p. InOrder p.1) o

member_in_order : (d : Data) → InOrder d → ValueInOrder (only_member d)
member_in_order (object (member k d no_members)) h = h.1
member_in_order _ h = tt

form_in_order : (d : Data) → InOrder d → ValueInOrder (form_in d)
unfolding form_in
form_in_order d h = by (only_member d) (member_in_order d h)
  where
    named : (o : Option Form) (v : Data) → InOrder v → ValueInOrder (option_map (λ f. (f, v)) o)
    named (Some f) v g = g
    named None v g = tt

    by : (m : Option (List ℕ × Data)) → ValueInOrder m → ValueInOrder (option_and_then (λ m. option_map (λ f. (f, m.1)) (spelled_form m.0)) m)
    by (Some m) g = named (spelled_form m.0) m.1 g
    by None g = tt

event_fits : (d : Data) (x : Event) → InOrder d → event_of d ≡ Ok x → IsEventInGrammar x
unfolding event_of
event_fits d x h e = event_by_fits (form_in d) x (form_in_order d h) (chosen_ok (is_some (as_object d)) (event_by (form_in d)) NotObject x e).1

-- ---- the event of a line

event_from_fits : (found : Option Data) (x : Event) → ((d : Data) → found ≡ Some d → InOrder d) → event_from found ≡ Ok x → IsEventInGrammar x
event_from_fits (Some d) x h e = event_fits d x (h d refl) e
event_from_fits None x h e = absurd cc

pub reading_fits : (line : List ℕ) (event : Event) → reading_of line ≡ Ok event → IsEventInGrammar event
unfolding reading_of
reading_fits line event e = event_from_fits _ event (λ d is. read_in_order line d (chosen_some (is_utf8 line) (read line) d is).1) e
