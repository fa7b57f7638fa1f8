-- Leading on from trail to trail, and what follows from it.
use Rattle.std.specs.Prelude.{◌≡◌, ◌++◌, ℕ, Bool, true, false, List, [], ◌∷◌, Option, Some, None, refl}
use Rattle.std.proofs.Common.{sym, ap, ◌∙◌, append_assoc, append-nil}
use Rattle.std.specs.BTreeMap.{is_at}
use Rattle.std.specs.Cmp.{first_so}
use Rattle.std.specs.Cmp.Lexicographic.{slice_cmp}
use Rattle.std.specs.Map.{keys_of, set_value}
use Rattle.std.specs.Ordering.{nat_cmp}
use Rattle.std.specs.Prelude.{cond}
use Rattle.conn_table.specs.Connections.{ConnectionList, changed}
use Rattle.flow_table.specs.declared.flow.Cause.{Cause}
use Rattle.inet_packet.specs.declared.packet.Packet.{Packet}
use Rattle.ovn_base.specs.declared.name.Name.{Name}
use Rattle.net_model.specs.Leads.{Leads, stays, tells, commits, refreshes, chooses, PointLeads, PieceLeads, WayLeads, list_owners, IsLater}
use Rattle.net_model.specs.Trail.{Trail, ListOwner, of_port, dnat_of, snat_of, list_of, write_list, End, is_dropped, Spot, Point, goes, stops, then, finally, unless}

-- ---- one after another

pub leads_on : {now : ℕ} {t u v : Trail} → Leads now t u → Leads now u v → Leads now t v
leads_on h stays = h
leads_on h (tells e g) = tells e (leads_on h g)
leads_on h (commits owner from back list a b c g) = commits owner from back list a b c (leads_on h g)
leads_on h (refreshes owner change e a b g) = refreshes owner change e a b (leads_on h g)
leads_on h (chooses legal left g) = chooses legal left (leads_on h g)

pub point_on : {now : ℕ} {t u : Trail} (a : Point) → Leads now t u → PointLeads now u a → PointLeads now t a
point_on (goes v p) h g = leads_on h g
point_on (stops v) h g = leads_on h g

pub then_leads : (now : ℕ) (t : Trail) (a : Point) (f : Trail → Packet → Point) → PointLeads now t a → PieceLeads now f → PointLeads now t (then a f)
then_leads now t (goes u p) f h g = point_on (f u p) h (g u p)
then_leads now t (stops u) f h g = h

pub finally_leads : (now : ℕ) (t : Trail) (a : Point) (f : Trail → Packet → Trail) → PointLeads now t a → WayLeads now f → Leads now t (finally a f)
finally_leads now t (goes u p) f h g = leads_on h (g u p)
finally_leads now t (stops u) f h g = h

abbrev pub drop_end : Cause → Spot → End
drop_end why spot = is_dropped spot.datapath spot.port why

pub unless_leads : (now : ℕ) (why : Option Cause) (spot : Spot) → PieceLeads now (unless why spot)
unless_leads now None spot t p = stays
unless_leads now (Some why) spot t p = tells (drop_end why spot) stays

-- ---- what follows

ends_grow : {now : ℕ} {t u : Trail} → Leads now t u → (more : List End) × (u.ends ≡ t.ends ++ more)
ends_grow {t} stays = ([], sym (append-nil t.ends))
ends_grow {t} (tells e g) = let h = ends_grow g in (h.0 ++ e ∷ [], ap (λ (es : List End). es ++ e ∷ []) h.1 ∙ append_assoc t.ends h.0 (e ∷ []))
ends_grow (commits owner from back list a b c g) = ends_grow g
ends_grow (refreshes owner change e a b g) = ends_grow g
ends_grow (chooses legal left g) = ends_grow g

legal_before : {now : ℕ} {t u : Trail} → Leads now t u → u.legal ≡ true → t.legal ≡ true
legal_before stays l = l
legal_before (tells e g) l = legal_before g l
legal_before (commits owner from back list a b c g) l = legal_before g l
legal_before (refreshes owner change e a b g) l = legal_before g l
legal_before (chooses {u} legal left g) l = legal_before g (first_so u.legal legal l)

-- a value that takes the place of another leaves the keys as they are
keys_stay : {K X : Type 0} (test : K → Bool) (es : List (K × X)) (x : X) → keys_of (set_value test es x) ≡ keys_of es
keys_stay test [] x = refl
keys_stay {K} {X} test (e ∷ es) x = by (test e.0) (keys_stay test es x)
  where
    by : (b : Bool) → keys_of (set_value test es x) ≡ keys_of es → keys_of (cond b ((e.0, x) ∷ es) (e ∷ set_value test es x)) ≡ e.0 ∷ keys_of es
    by true ih = refl
    by false ih = ap (λ (ks : List K). e.0 ∷ ks) ih

written_owners : (t : Trail) (owner : ListOwner) (list : ConnectionList) → list_owners (write_list owner list t).lists ≡ list_owners t.lists
written_owners t (of_port q) list = ap (λ (ks : List Name). (ks, keys_of t.lists.dnats, keys_of t.lists.snats)) (keys_stay (is_at (slice_cmp nat_cmp q)) t.lists.ports list)
written_owners t (dnat_of r) list = ap (λ (ks : List Name). (keys_of t.lists.ports, ks, keys_of t.lists.snats)) (keys_stay (is_at (slice_cmp nat_cmp r)) t.lists.dnats list)
written_owners t (snat_of r) list = ap (λ (ks : List Name). (keys_of t.lists.ports, keys_of t.lists.dnats, ks)) (keys_stay (is_at (slice_cmp nat_cmp r)) t.lists.snats list)

owners_stay : {now : ℕ} {t u : Trail} → Leads now t u → list_owners u.lists ≡ list_owners t.lists
owners_stay stays = refl
owners_stay (tells e g) = owners_stay g
owners_stay (commits {u} owner from back list a b c g) = written_owners u owner list ∙ owners_stay g
owners_stay (refreshes {u} owner change e a b g) = written_owners u owner (changed change e.forward (list_of u.lists owner)) ∙ owners_stay g
owners_stay (chooses legal left g) = owners_stay g

pub is_later : {now : ℕ} {t u : Trail} → Leads now t u → IsLater t u
is_later g = record { ends = ends_grow g; legal = legal_before g; owners = owners_stay g }
