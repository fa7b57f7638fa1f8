-- Visits and arrivals tell of the records.
use Rattle.std.specs.Prelude.{◌≡◌, ◌&&◌, not, ℕ, zero, suc, Bool, true, false, cond, Option, Some, None, refl}
use Rattle.flow_table.specs.declared.flow.Cause.TheVariants as cause
use Rattle.nb_records.specs.Routers.{switch_side, router_side}
use Rattle.nb_records.specs.declared.switch.SwitchPort.{SwitchPort}
use Rattle.net_model.specs.Arrival.{is_switch, is_reached, port_reached, members_reached, reach_port, reach, reach_if, arrival}
use Rattle.net_model.specs.Config.{port_identity}
use Rattle.net_model.specs.Entry.{Scene, Onward, enter}
use Rattle.net_model.specs.Targets.{members, target_of}
use Rattle.net_model.specs.Trail.{Trail, is_lost}
use Rattle.net_model.specs.Visit.{switch_named, send_on, into_switch, passing, passing_on, visit}
use Rattle.net_model.specs.declared.crossing.Aim.{Aim}
use Rattle.net_model.specs.declared.crossing.Aim.TheVariants.{ToPort, ToGroup}
use Rattle.net_model.specs.declared.crossing.Crossing.{Crossing}
use Rattle.ovn_base.proofs.AmongLaws.{filter_among}
use Rattle.ovn_base.specs.declared.limits.TheConstants.{MAX_HOPS}
use Rattle.ovn_base.specs.lists.Among.{Among}
use Rattle.ovn_base.specs.names.ByName.{at}
use Rattle.tunnel_keys.specs.Same.{same_identity}
use Rattle.tunnel_keys.specs.declared.owner.Identity.{Identity}
use Rattle.sim_laws.proofs.told.Found.{value_at, members_there, target_there}
use Rattle.sim_laws.proofs.told.Routing.{into_router_tells}
use Rattle.sim_laws.proofs.told.Switching.{enter_tells, leave_tells, copies_tell, send_to_tells}
use Rattle.sim_laws.proofs.told.Told.{HasPort, HasChassis, loses, TellsSo, WayTells, OnwardTells, tell_tells, drop_tells, finally_tells}

module _ (s : Scene) (chassis : HasChassis s.config s.here) where
  -- ---- visits

  into_switch_tells : (onward : Onward) → OnwardTells s.config onward → (i : SwitchPort) → HasPort s.config.net i → WayTells s.config (into_switch onward s i)
  into_switch_tells onward tells i has t p h = finally_tells s.config (enter s i t p) (send_on onward s i) (enter_tells s i has t p h) on_tells
    where
      on_tells : WayTells s.config (send_on onward s i)
      on_tells u q g = send_to_tells s onward tells chassis (record { switch = switch_named s.config.net i.switch; port = i }) has (target_of s.config.net i q) (target_there s.config.net i q) u q g

  passing_tells : (left : ℕ) → OnwardTells s.config (passing left s)
  passing_tells zero spot None has partnered t p h = drop_tells s.config cause.NoPeer spot t has h
  passing_tells (suc left) spot None has partnered t p h = drop_tells s.config cause.NoPeer spot t has h
  passing_tells zero spot (Some partner) has partnered t p h = drop_tells s.config cause.HopLimit spot t has h
  passing_tells (suc left) spot (Some (switch_side q)) has partnered t p h = into_switch_tells (passing left s) (passing_tells left) q partnered t p h
  passing_tells (suc left) spot (Some (router_side r)) has partnered t p h = into_router_tells s (passing left s) (passing_tells left) r partnered t p h

  pub visit_tells : (i : SwitchPort) → HasPort s.config.net i → WayTells s.config (visit s i)
  visit_tells i has t p h = into_switch_tells (passing_on s) (passing_tells MAX_HOPS) i has t p h

  -- ---- arrivals

  abbrev HasPortIf : Option SwitchPort → Type 0
  HasPortIf None = Unit {0}
  HasPortIf (Some q) = HasPort s.config.net q

  reached_there : (id : Identity) (o : Option SwitchPort) → at s.config.net.switch_ports id.name ≡ o → HasPortIf (port_reached s id o)
  reached_there id None is = tt
  reached_there id (Some q) is = by (same_identity (port_identity q) id && is_reached s q)
    where
      by : (b : Bool) → HasPortIf (cond b (Some q) None)
      by true = value_at s.config.net.switch_ports id.name q is
      by false = tt

  reach_port_tells : (n : ℕ) (x : Crossing) (o : Option SwitchPort) → HasPortIf o → (t : Trail) → TellsSo s.config t → TellsSo s.config (reach_port s n x o t)
  reach_port_tells n x None has t h = tell_tells s.config (is_lost n) t (loses n) h
  reach_port_tells n x (Some q) has t h = leave_tells s (passing_on s) (passing_tells MAX_HOPS) x.in_port q has t x.packet h

  reach_tells : (n : ℕ) (x : Crossing) (aim : Aim) (t : Trail) → TellsSo s.config t → TellsSo s.config (reach s n x aim t)
  reach_tells n x (ToPort id) t h = reach_port_tells n x (port_reached s id (at s.config.net.switch_ports id.name)) (reached_there id (at s.config.net.switch_ports id.name) refl) t h
  reach_tells n x (ToGroup g) t h =
      let all = members s.config.net x.datapath.name g in
      let each : (q : SwitchPort) → Among q (members_reached s x.in_port all) → HasPort s.config.net q =
      λ q m. members_there s.config.net x.datapath.name g q (filter_among (λ (o : SwitchPort). is_reached s o && not (same_identity (port_identity o) x.in_port)) q all m).0 in
      copies_tell s (passing_on s) (passing_tells MAX_HOPS) x.in_port (members_reached s x.in_port all) each t x.packet h

  reach_if_tells : (b : Bool) (n : ℕ) (x : Crossing) (t : Trail) → TellsSo s.config t → TellsSo s.config (reach_if b s n x t)
  reach_if_tells true n x t h = reach_tells n x x.aim t h
  reach_if_tells false n x t h = tell_tells s.config (is_lost n) t (loses n) h

  pub arrival_tells : (n : ℕ) (x : Crossing) (t : Trail) → TellsSo s.config t → TellsSo s.config (arrival s n x t)
  arrival_tells n x t h = reach_if_tells (is_switch s.config.net x.datapath) n x t h
