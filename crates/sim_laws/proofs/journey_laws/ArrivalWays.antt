-- A packet that arrives leaves no crossing where it comes to virtual ports alone, and writes no list but those of ports that are bound to the chassis.
use Rattle.std.specs.Prelude.{◌≡◌, ◌&&◌, not, ℕ, Bool, true, false, cond, [], Option, Some, None, refl}
use Rattle.std.proofs.Common.{sym, ap, ◌∙◌}
use Rattle.std.proofs.lemmas.Bool.{and_parts}
use Rattle.nb_records.specs.Switches.{is_virtual}
use Rattle.nb_records.specs.declared.switch.SwitchPort.{SwitchPort}
use Rattle.net_model.specs.Arrival.{is_switch, is_reached, port_reached, members_reached, reach_port, reach, reach_if, arrival}
use Rattle.net_model.specs.Config.{home_by_kind, is_on, port_identity}
use Rattle.net_model.specs.Entry.{Scene}
use Rattle.net_model.specs.Targets.{members}
use Rattle.net_model.specs.Trail.{Trail, is_lost, tell}
use Rattle.net_model.specs.Visit.{passing_on}
use Rattle.net_model.specs.declared.crossing.Aim.{Aim}
use Rattle.net_model.specs.declared.crossing.Aim.TheVariants.{ToPort, ToGroup}
use Rattle.net_model.specs.declared.crossing.Crossing.{Crossing}
use Rattle.ovn_base.proofs.AmongLaws.{filter_among}
use Rattle.ovn_base.specs.lists.Among.{Among}
use Rattle.ovn_base.specs.names.ByName.{at}
use Rattle.tunnel_keys.specs.Same.{same_identity}
use Rattle.tunnel_keys.specs.declared.owner.Identity.{Identity}
use Rattle.sim_laws.proofs.Homes.{one_bound}
use Rattle.sim_laws.proofs.journey_laws.SendingWays.{OnWay, copies_on}
use Rattle.sim_laws.proofs.journey_laws.SwitchWays.{leave_on}
use Rattle.sim_laws.proofs.journey_laws.Ways.{told}
use Rattle.sim_laws.proofs.passes.Members.{virtual_is}

module _ (s : Scene) (n : ℕ) (x : Crossing) where
  -- the port is one to which it goes
  abbrev pub IsAimed : Aim → SwitchPort → Type 0
  IsAimed (ToPort id) q = (at s.config.net.switch_ports id.name ≡ Some q) × (same_identity (port_identity q) id ≡ true)
  IsAimed (ToGroup g) q = Among q (members s.config.net x.datapath.name g)

  -- a virtual port that is reached is bound here
  reached_here : (q : SwitchPort) → is_virtual q ≡ true → is_reached s q ≡ true → at s.config.bindings q.name ≡ Some s.here
  reached_here q virtual h =
      one_bound s.here (at s.config.bindings q.name) (sym (ap (λ k. is_on s.here (home_by_kind s.config q k)) (virtual_is q.kind virtual)) ∙ h)

  lost_on : (t : Trail) → OnWay s n [] t (tell (is_lost n) t)
  lost_on t = told s.config s.here n (is_lost n) t refl

  port_on : (id : Identity) → ((q : SwitchPort) → IsAimed (ToPort id) q → is_reached s q ≡ true → is_virtual q ≡ true) → (o : Option SwitchPort) → at s.config.net.switch_ports id.name ≡ o → (t : Trail) → OnWay s n [] t (reach_port s n x (port_reached s id o) t)
  port_on id virtual None e t = lost_on t
  port_on id virtual (Some q) e t = by (same_identity (port_identity q) id && is_reached s q) refl
    where
      by : (b : Bool) → (same_identity (port_identity q) id && is_reached s q) ≡ b → OnWay s n [] t (reach_port s n x (cond b (Some q) None) t)
      by true h =
          let parts = and_parts (same_identity (port_identity q) id) (is_reached s q) h in
          let is = virtual q (e, parts.0) parts.1 in
          leave_on s n (passing_on s) x.in_port q is (reached_here q is parts.1) t x.packet
      by false h = lost_on t

  aim_on : (aim : Aim) → ((q : SwitchPort) → IsAimed aim q → is_reached s q ≡ true → is_virtual q ≡ true) → (t : Trail) → OnWay s n [] t (reach s n x aim t)
  aim_on (ToPort id) virtual t = port_on id virtual (at s.config.net.switch_ports id.name) refl t
  aim_on (ToGroup g) virtual t =
      let qs = members s.config.net x.datapath.name g in
      let test : SwitchPort → Bool = λ q. is_reached s q && not (same_identity (port_identity q) x.in_port) in
      let is_there : (q : SwitchPort) → Among q (members_reached s x.in_port qs) → is_reached s q ≡ true =
      λ q among. (and_parts (is_reached s q) (not (same_identity (port_identity q) x.in_port)) (filter_among test q qs among).1).0 in
      let member : (q : SwitchPort) → Among q (members_reached s x.in_port qs) → is_virtual q ≡ true = λ q among. virtual q (filter_among test q qs among).0 (is_there q among) in
      copies_on s n (passing_on s) x.in_port (members_reached s x.in_port qs) member (λ q among. reached_here q (member q among) (is_there q among)) t x.packet

  -- an arrival
  pub arrival_on : (is_switch s.config.net x.datapath ≡ true → (q : SwitchPort) → IsAimed x.aim q → is_reached s q ≡ true → is_virtual q ≡ true) → (t : Trail) → OnWay s n [] t (arrival s n x t)
  arrival_on virtual t = by (is_switch s.config.net x.datapath) refl
    where
      by : (b : Bool) → is_switch s.config.net x.datapath ≡ b → OnWay s n [] t (reach_if b s n x t)
      by true is = aim_on x.aim (virtual is) t
      by false is = lost_on t
