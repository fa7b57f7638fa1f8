-- A packet that is sent to a group crosses to the chassis of its members, and copies leave by the ports that are bound here.
use Rattle.std.specs.Prelude.{◌≡◌, ℕ, true, List, [], ◌∷◌, map, Some, refl}
use Rattle.std.proofs.Common.{sym, ap, ◌∙◌}
use Rattle.inet_packet.specs.declared.packet.Packet.{Packet}
use Rattle.nb_records.specs.Switches.{is_virtual}
use Rattle.nb_records.specs.declared.switch.SwitchPort.{SwitchPort}
use Rattle.net_model.specs.Config.{home_of, home_by_kind, is_here}
use Rattle.net_model.specs.Entry.{Scene, Onward}
use Rattle.net_model.specs.Exit.{leave}
use Rattle.net_model.specs.Spread.{SentFrom, crossing_to, cross_to_each, copy_to_each}
use Rattle.net_model.specs.Trail.{Trail, crosses, tell}
use Rattle.net_model.specs.declared.crossing.Aim.TheVariants.{ToGroup}
use Rattle.net_model.specs.declared.crossing.Crossing.{Crossing}
use Rattle.net_model.specs.declared.crossing.Group.{Group}
use Rattle.ovn_base.specs.declared.name.Name.{Name}
use Rattle.ovn_base.specs.lists.Among.{Among, here, there}
use Rattle.ovn_base.specs.names.ByName.{at}
use Rattle.sim_laws.proofs.Homes.{here_bound}
use Rattle.sim_laws.proofs.journey_laws.SwitchWays.{leave_on}
use Rattle.sim_laws.proofs.journey_laws.Ways.{WayOn, stays, both, told}
use Rattle.sim_laws.proofs.passes.Members.{virtual_is}
use Rattle.tunnel_keys.specs.declared.owner.Identity.{Identity}

module _ (s : Scene) (n : ℕ) where
  abbrev pub OnWay : List Crossing → Trail → Trail → Type 0
  OnWay xs t u = WayOn s.config s.here n xs t u

  -- a virtual port that is at home here is bound here
  pub bound_here : (q : SwitchPort) → is_virtual q ≡ true → is_here s.here (home_of s.config q) ≡ true → at s.config.bindings q.name ≡ Some s.here
  bound_here q virtual h =
      here_bound s.here (at s.config.bindings q.name) (sym (ap (λ k. is_here s.here (home_by_kind s.config q k)) (virtual_is q.kind virtual)) ∙ h)

  module _ (onward : Onward) where
    -- copies leave by ports that are bound here
    pub copies_on : (came : Identity) (qs : List SwitchPort) → ((q : SwitchPort) → Among q qs → is_virtual q ≡ true) → ((q : SwitchPort) → Among q qs → at s.config.bindings q.name ≡ Some s.here) → (t : Trail) (p : Packet)
        → OnWay [] t (copy_to_each (leave onward s came) qs t p)
    copies_on came [] virtual home t p = stays s.config s.here n t
    copies_on came (q ∷ qs) virtual home t p =
        let first : Trail = leave onward s came q t p in
        both s.config s.here n [] [] t first (copy_to_each (leave onward s came) qs first p) (leave_on s n onward came q (virtual q here) (home q here) t p)
        (copies_on came qs (λ r m. virtual r (there m)) (λ r m. home r (there m)) first p)

  module _ (from : SentFrom) (p : Packet) where
    -- one crosses to each chassis with a member
    pub cross_on : (g : Group) (homes : List Name) (t : Trail) → OnWay (map (λ home. crossing_to from (ToGroup g) home p) homes) t (cross_to_each s.here from g p homes t)
    cross_on g [] t = stays s.config s.here n t
    cross_on g (home ∷ homes) t =
        let x = crossing_to from (ToGroup g) home p in
        let first : Trail = tell (crosses s.here x) t in
        both s.config s.here n (x ∷ []) (map (λ home. crossing_to from (ToGroup g) home p) homes) t first (cross_to_each s.here from g p homes first) (told s.config s.here n (crosses s.here x) t refl) (cross_on g homes first)
