-- Visits and arrivals lead on.
use Rattle.std.specs.Prelude.{ℕ, zero, suc, Bool, true, false, Option, Some, None}
use Rattle.flow_table.specs.declared.flow.Cause.TheVariants as cause
use Rattle.inet_packet.specs.declared.packet.Packet.{Packet}
use Rattle.nb_records.specs.Routers.{switch_side, router_side}
use Rattle.nb_records.specs.declared.switch.SwitchPort.{SwitchPort}
use Rattle.ovn_base.specs.declared.limits.TheConstants.{MAX_HOPS}
use Rattle.ovn_base.specs.names.ByName.{at}
use Rattle.net_model.proofs.LeadLaws.{finally_leads, drop_end, is_later}
use Rattle.net_model.proofs.RouterLeads.{into_router_leads}
use Rattle.net_model.proofs.SwitchLeads.{enter_leads, leave_leads, copies_lead, send_to_leads}
use Rattle.net_model.specs.Arrival.{is_switch, port_reached, members_reached, reach_port, reach, reach_if, arrival}
use Rattle.net_model.specs.Entry.{Scene, Onward, enter}
use Rattle.net_model.specs.Leads.{Leads, stays, tells, WayLeads, OnwardLeads, IsLater}
use Rattle.net_model.specs.Targets.{members, target_of}
use Rattle.net_model.specs.Trail.{Trail, is_lost}
use Rattle.net_model.specs.Visit.{switch_named, send_on, into_switch, passing, passing_on, visit}
use Rattle.net_model.specs.declared.crossing.Aim.{Aim}
use Rattle.net_model.specs.declared.crossing.Aim.TheVariants.{ToPort, ToGroup}
use Rattle.net_model.specs.declared.crossing.Crossing.{Crossing}

-- ---- visits

into_switch_leads : (onward : Onward) (s : Scene) → OnwardLeads s.now onward → (i : SwitchPort) → WayLeads s.now (into_switch onward s i)
into_switch_leads onward s leads i t p = finally_leads s.now t (enter s i t p) (send_on onward s i) (enter_leads s i t p) on_leads
  where
    on_leads : WayLeads s.now (send_on onward s i)
    on_leads u q = send_to_leads onward s leads (target_of s.config.net i q) (record { switch = switch_named s.config.net i.switch; port = i }) u q

passing_leads : (left : ℕ) (s : Scene) → OnwardLeads s.now (passing left s)
passing_leads zero s spot None t p = tells (drop_end cause.NoPeer spot) stays
passing_leads (suc left) s spot None t p = tells (drop_end cause.NoPeer spot) stays
passing_leads zero s spot (Some partner) t p = tells (drop_end cause.HopLimit spot) stays
passing_leads (suc left) s spot (Some (switch_side q)) t p = into_switch_leads (passing left s) s (passing_leads left s) q t p
passing_leads (suc left) s spot (Some (router_side r)) t p = into_router_leads (passing left s) s (passing_leads left s) r t p

pub visit_leads : (s : Scene) (i : SwitchPort) (t : Trail) (p : Packet) → Leads s.now t (visit s i t p)
visit_leads s i t p = into_switch_leads (passing_on s) s (passing_leads MAX_HOPS s) i t p

pub visit_later : (s : Scene) (i : SwitchPort) (t : Trail) (p : Packet) → IsLater t (visit s i t p)
visit_later s i t p = is_later (visit_leads s i t p)

-- ---- arrivals

reach_port_leads : (s : Scene) (n : ℕ) (x : Crossing) (o : Option SwitchPort) (t : Trail) → Leads s.now t (reach_port s n x o t)
reach_port_leads s n x None t = tells (is_lost n) stays
reach_port_leads s n x (Some q) t = leave_leads (passing_on s) s (passing_leads MAX_HOPS s) x.in_port q t x.packet

reach_leads : (s : Scene) (n : ℕ) (x : Crossing) (aim : Aim) (t : Trail) → Leads s.now t (reach s n x aim t)
reach_leads s n x (ToPort id) t = reach_port_leads s n x (port_reached s id (at s.config.net.switch_ports id.name)) t
reach_leads s n x (ToGroup g) t = copies_lead (passing_on s) s (passing_leads MAX_HOPS s) x.in_port (members_reached s x.in_port (members s.config.net x.datapath.name g)) t x.packet

reach_if_leads : (b : Bool) (s : Scene) (n : ℕ) (x : Crossing) (t : Trail) → Leads s.now t (reach_if b s n x t)
reach_if_leads true s n x t = reach_leads s n x x.aim t
reach_if_leads false s n x t = tells (is_lost n) stays

pub arrival_leads : (s : Scene) (n : ℕ) (x : Crossing) (t : Trail) → Leads s.now t (arrival s n x t)
arrival_leads s n x t = reach_if_leads (is_switch s.config.net x.datapath) s n x t

pub arrival_later : (s : Scene) (n : ℕ) (x : Crossing) (t : Trail) → IsLater t (arrival s n x t)
arrival_later s n x t = is_later (arrival_leads s n x t)
