-- What a packet leaves that goes in at a port of a switch from which no port leads to a router: it crosses from that port alone, to as many chassis as there
-- are at most.
use Rattle.std.specs.Prelude.{◌≡◌, ◌≤◌, ◌&&◌, not, Bool, true, false, cond, List, [], ◌∷◌, map, length, Option, Some, None, refl}
use Rattle.std.specs.List.{filter, list_any}
use Rattle.std.proofs.Common.{sym, ap, ◌∙◌, subst, append-nil, arith, inl, inr}
use Rattle.std.proofs.lemmas.Bool.{and_parts}
use Rattle.flow_table.specs.declared.flow.Cause.TheVariants as cause
use Rattle.inet_packet.specs.Rewrites.{with_arp_reply}
use Rattle.inet_packet.specs.declared.packet.Packet.{Packet}
use Rattle.nb_records.specs.Network.{Network}
use Rattle.nb_records.specs.Switches.{is_virtual}
use Rattle.nb_records.specs.declared.switch.SwitchPort.{SwitchPort}
use Rattle.nb_rules.specs.Valid.{IsValid}
use Rattle.net_model.specs.Config.{Home, home_if, on, home_of, home_by_kind, is_here, is_on, port_identity}
use Rattle.net_model.specs.Entry.{Scene, enter}
use Rattle.net_model.specs.Exit.{leave}
use Rattle.net_model.specs.Spread.{SentFrom, crossing_to, send_here, send_over, send_home, other_homes, cross_to_each, local_members, spread, send_to}
use Rattle.net_model.specs.Targets.{Target, answer_from, to_one, to_group, to_nobody, members, is_other, target_of}
use Rattle.net_model.specs.Trail.{Trail, Point, goes, stops, finally, crosses, is_dropped, tell}
use Rattle.net_model.specs.Visit.{passing_on, send_on, switch_named, visit}
use Rattle.net_model.specs.declared.crossing.Aim.TheVariants.{ToPort, ToGroup}
use Rattle.net_model.specs.declared.crossing.Crossing.{Crossing}
use Rattle.net_model.specs.declared.crossing.Group.{Group}
use Rattle.ovn_base.proofs.AmongLaws.{among_cases, among_none, filter_among, map_among}
use Rattle.ovn_base.specs.declared.limits.TheConstants.{MAX_CHASSIS}
use Rattle.ovn_base.specs.declared.name.Name.{Name}
use Rattle.ovn_base.specs.lists.Among.{Among}
use Rattle.ovn_base.specs.names.ByName.{at}
use Rattle.ovn_base.specs.names.SameName.{same_name, bytes_decides}
use Rattle.row_laws.proofs.records.SwitchPorts.{enabled_is}
use Rattle.sim_laws.proofs.journey_laws.AimedTargets.{Aims, aims}
use Rattle.sim_laws.proofs.journey_laws.SendingWays.{OnWay, bound_here, copies_on, cross_on}
use Rattle.sim_laws.proofs.journey_laws.SentCrossings.{member_enabled}
use Rattle.sim_laws.proofs.journey_laws.SwitchWays.{enter_on, leave_on}
use Rattle.sim_laws.proofs.journey_laws.Ways.{PointOn, both, told}
use Rattle.sim_laws.proofs.passes.Members.{virtual_is}
use Rattle.sim_laws.specs.journeys.Refining.{HasVirtualPorts, IsSentFrom}

few_in : {X : Type 0} (test : X → Bool) (xs : List X) → length (filter test xs) ≤ length xs
few_in test [] = omega arith
few_in test (x ∷ xs) = by (test x) (few_in test xs)
  where
    by : (b : Bool) → length (filter test xs) ≤ length xs → length (cond b (x ∷ filter test xs) (filter test xs)) ≤ length (x ∷ xs)
    by true few = omega (arith, few)
    by false few = omega (arith, few)

few_map : {X Y : Type 0} (f : X → Y) (xs : List X) → length (map f xs) ≡ length xs
few_map f [] = refl
few_map f (x ∷ xs) = let few = few_map f xs in omega (arith, few)

few_one : 1 ≤ MAX_CHASSIS
few_one = let one : 1 ≤ 64 = omega arith in one

module _ (s : Scene) (valid : IsValid s.config.net) (i : SwitchPort) (home : at s.config.bindings i.name ≡ Some s.here) (virtual : HasVirtualPorts s.config.net i.switch) where
  abbrev net : Network
  net = s.config.net

  abbrev from : SentFrom
  from = record { switch = switch_named net i.switch; port = i }

  -- a way on which such crossings are left, of which there are few where there are few chassis
  pub record Sends (t u : Trail) : Type 0 where
    pub crossings : List Crossing
    pub way : OnWay s 0 crossings t u
    pub own : (x : Crossing) → Among x crossings → IsSentFrom net i x
    pub few : length s.config.chassis ≤ MAX_CHASSIS → length crossings ≤ MAX_CHASSIS

  quiet : (t u : Trail) → OnWay s 0 [] t u → Sends t u
  quiet t u way = record { crossings = []; way = way; own = λ x m. absurd (among_none x m); few = λ _. omega arith }

  module _ (p : Packet) where
    -- to a group
    group_sends : (g : Group) (t : Trail) → Sends t (spread (passing_on s) s from g (members net i.switch g) t p)
    group_sends g t =
        let qs : List SwitchPort = members net i.switch g in
        let homes = other_homes s.config s.here qs in
        let xs = map (λ to. crossing_to from (ToGroup g) to p) homes in
        let first : Trail = cross_to_each s.here from g p homes t in
        let test : SwitchPort → Bool = λ q. is_other i q && is_here s.here (home_of s.config q) in
        let locals = local_members s i qs in
        let member : (q : SwitchPort) → Among q locals → is_virtual q ≡ true =
        λ q m. let e = member_enabled net valid i.switch g q (filter_among test q qs m).0 in virtual q.name q e.there e.on in
        let bound : (q : SwitchPort) → Among q locals → at s.config.bindings q.name ≡ Some s.here =
        λ q m. bound_here s 0 q (member q m) (and_parts (is_other i q) (is_here s.here (home_of s.config q)) (filter_among test q qs m).1).1 in
        record {
          crossings = xs;
          way = subst (λ zs. OnWay s 0 zs t (spread (passing_on s) s from g qs t p)) (append-nil xs)
              (both s.config s.here 0 xs [] t first (spread (passing_on s) s from g qs t p) (cross_on s 0 from p g homes t) (copies_on s 0 (passing_on s) (port_identity i) locals member bound first p));
          own = λ x m.
              let y = map_among (λ to. crossing_to from (ToGroup g) to p) x homes m in
              subst (IsSentFrom net i) (sym y.2) (record { datapath = refl; in_port = refl });
          few = λ few.
              let all = few_map (λ (to : Name). crossing_to from (ToGroup g) to p) homes in
              let some = few_in (λ chassis. not (same_name chassis s.here) && list_any (λ q. is_on chassis (home_of s.config q)) qs) s.config.chassis in
              omega (arith, all, some, few);
        }

    -- to one port
    module _ (o : SwitchPort) (one : is_virtual o ≡ true) (t : Trail) where
      here_sends : at s.config.bindings o.name ≡ Some s.here → (b : Bool) → Sends t (send_here b (passing_on s) s from o t p)
      here_sends bound true = quiet t (leave (passing_on s) s (port_identity i) o t p) (leave_on s 0 (passing_on s) (port_identity i) o one bound t p)
      here_sends bound false = quiet t (tell (is_dropped o.switch o.name cause.Loopback) t) (told s.config s.here 0 (is_dropped o.switch o.name cause.Loopback) t tt)

      over_sends : (to : Name) → at s.config.bindings o.name ≡ Some to → (b : Bool) → same_name to s.here ≡ b → Sends t (send_over b (passing_on s) s from o to t p)
      over_sends to bound true is = here_sends (bound ∙ ap (λ (c : Name). Some c) ((bytes_decides to s.here).0 is)) (is_other i o)
      over_sends to bound false is =
          let x = crossing_to from (ToPort (port_identity o)) to p in
          record {
            crossings = x ∷ [];
            way = told s.config s.here 0 (crosses s.here x) t refl;
            own = λ y m. elim (among_cases y x [] m) [ inl same ↦ subst (IsSentFrom net i) (sym same) (record { datapath = refl; in_port = refl }) | inr later ↦ absurd (among_none y later) ];
            few = λ _. few_one;
          }

      at_home : (b : Option Name) → at s.config.bindings o.name ≡ b → Sends t (send_home (home_if on b) (passing_on s) s from o t p)
      at_home None none = quiet t (tell (is_dropped o.switch o.name cause.Unbound) t) (told s.config s.here 0 (is_dropped o.switch o.name cause.Unbound) t tt)
      at_home (Some to) bound = over_sends to bound (same_name to s.here) refl

      one_sends : Sends t (send_home (home_of s.config o) (passing_on s) s from o t p)
      one_sends = subst (λ (h : Home). Sends t (send_home h (passing_on s) s from o t p)) (sym (ap (home_by_kind s.config o) (virtual_is o.kind one))) (at_home (at s.config.bindings o.name) refl)

    module _ (own : is_virtual i ≡ true) (t : Trail) where
      target_sends : (target : Target) → Aims net i p target → Sends t (send_to target (passing_on s) s from t p)
      target_sends (answer_from mac ip) aim =
          quiet t (leave (passing_on s) s (port_identity i) i t (with_arp_reply mac ip p)) (leave_on s 0 (passing_on s) (port_identity i) i own home t (with_arp_reply mac ip p))
      target_sends (to_one o) aim = let e = enabled_is net valid i.switch o aim in one_sends o (virtual o.name o e.there e.on) t
      target_sends (to_group g) aim = group_sends g t
      target_sends to_nobody aim = quiet t (tell (is_dropped i.switch i.name cause.UnknownAddress) t) (told s.config s.here 0 (is_dropped i.switch i.name cause.UnknownAddress) t tt)

  module _ (own : is_virtual i ≡ true) where
    entered : (t : Trail) (a : Point) → PointOn s.config s.here 0 t a → Sends t (finally a (send_on (passing_on s) s i))
    entered t (goes u q) way =
        let r : Sends u (send_on (passing_on s) s i u q) = target_sends q own u (target_of net i q) (aims net i q) in
        record { crossings = r.crossings; way = both s.config s.here 0 [] r.crossings t u (send_on (passing_on s) s i u q) way r.way; own = r.own; few = r.few }
    entered t (stops u) way = quiet t u way

    pub visit_sends : (t : Trail) (p : Packet) → Sends t (visit s i t p)
    visit_sends t p = entered t (enter s i t p) (enter_on s 0 i home t p)
