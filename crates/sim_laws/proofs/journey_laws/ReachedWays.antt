-- What a packet leaves that arrives: crossings that may wait, since it may come to a gateway router, which sends it on.
use Rattle.std.specs.Prelude.{◌≡◌, ◌&&◌, not, ℕ, Bool, true, false, cond, List, Option, Some, None, refl}
use Rattle.std.proofs.lemmas.Bool.{and_parts}
use Rattle.nb_records.specs.Network.{Network}
use Rattle.nb_records.specs.declared.switch.SwitchPort.{SwitchPort}
use Rattle.nb_rules.specs.Valid.{IsValid}
use Rattle.net_model.specs.Arrival.{is_switch, is_reached, port_reached, members_reached, reach_port, reach, reach_if, arrival}
use Rattle.net_model.specs.Config.{home_of, port_identity}
use Rattle.net_model.specs.Entry.{Scene}
use Rattle.net_model.specs.Journey.{scene_at}
use Rattle.net_model.specs.State.{State}
use Rattle.net_model.specs.Targets.{members}
use Rattle.net_model.specs.Trail.{Trail, is_lost, tell}
use Rattle.net_model.specs.declared.crossing.Aim.{Aim}
use Rattle.net_model.specs.declared.crossing.Aim.TheVariants.{ToPort, ToGroup}
use Rattle.net_model.specs.declared.crossing.Crossing.{Crossing}
use Rattle.ovn_base.proofs.AmongLaws.{filter_among}
use Rattle.ovn_base.specs.declared.name.Name.{Name}
use Rattle.ovn_base.specs.names.ByName.{at}
use Rattle.physical_flows.specs.RecordKeys.{HaveKeys}
use Rattle.row_laws.proofs.records.ValidPorts.{own_place}
use Rattle.tunnel_keys.specs.Same.{same_identity}
use Rattle.tunnel_keys.specs.declared.owner.Identity.{Identity}
use Rattle.sim_laws.proofs.Homes.{reached_here}
use Rattle.sim_laws.proofs.journey_laws.SentCrossings.{member_enabled}
use Rattle.sim_laws.proofs.journey_laws.VisitWays.{Leaves, none_left, leaving_left, copying_left}
use Rattle.sim_laws.proofs.journey_laws.Ways.{told}

module _ (m : State) (valid : IsValid m.config.net) (have : HaveKeys m.config.net m.keys) (chassis : Name) (n : ℕ) (x : Crossing) where
  abbrev net : Network
  net = m.config.net

  abbrev s : Scene
  s = scene_at m chassis

  abbrev Left : Trail → Trail → Type 0
  Left t u = Leaves m valid have chassis n t u

  lost_left : (t : Trail) → Left t (tell (is_lost n) t)
  lost_left t = none_left m valid have chassis n t (tell (is_lost n) t) (told m.config chassis n (is_lost n) t refl)

  port_left : (id : Identity) (o : Option SwitchPort) → at net.switch_ports id.name ≡ o → (t : Trail) → Left t (reach_port s n x (port_reached s id o) t)
  port_left id None e t = lost_left t
  port_left id (Some q) e t = by (same_identity (port_identity q) id && is_reached s q) refl
    where
      by : (b : Bool) → (same_identity (port_identity q) id && is_reached s q) ≡ b → Left t (reach_port s n x (cond b (Some q) None) t)
      by true h =
          let reached = (and_parts (same_identity (port_identity q) id) (is_reached s q) h).1 in
          leaving_left m valid have chassis n x.in_port q (own_place net valid id.name q e) (reached_here true chassis (home_of m.config q) reached) t x.packet
      by false h = lost_left t

  aim_left : (aim : Aim) (t : Trail) → Left t (reach s n x aim t)
  aim_left (ToPort id) t = port_left id (at net.switch_ports id.name) refl t
  aim_left (ToGroup g) t =
      let qs : List SwitchPort = members net x.datapath.name g in
      let test : SwitchPort → Bool = λ q. is_reached s q && not (same_identity (port_identity q) x.in_port) in
      copying_left m valid have chassis n x.in_port (members_reached s x.in_port qs) (λ q among.
      let both = filter_among test q qs among in
      let reached = (and_parts (is_reached s q) (not (same_identity (port_identity q) x.in_port)) both.1).0 in
      ((member_enabled net valid x.datapath.name g q both.0).there, reached_here true chassis (home_of m.config q) reached)) t x.packet

  -- an arrival
  pub arrival_left : (t : Trail) → Left t (arrival s n x t)
  arrival_left t = by (is_switch net x.datapath)
    where
      by : (b : Bool) → Left t (reach_if b s n x t)
      by true = aim_left x.aim t
      by false = lost_left t
