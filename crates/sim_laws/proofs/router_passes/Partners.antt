-- The partner of a port is a port of the records, and is at home where the port is.
use Rattle.std.specs.Prelude.{◌≡◌, ◌||◌, Bool, true, false, not, Option, Some, None, option_map, refl}
use Rattle.std.specs.Map.{values_of}
use Rattle.std.specs.Option.{option_and_then}
use Rattle.std.proofs.Common.{sym, ap, ◌∙◌, subst}
use Rattle.std.proofs.lemmas.Bool.{false≢true, or_parts}
use Rattle.std.proofs.lemmas.Option.{none-some, same_Some}
use Rattle.nb_records.specs.Grammar.{HasItsRouterPort}
use Rattle.nb_records.specs.Network.{Network}
use Rattle.nb_records.specs.Routers.{Partner, switch_side, router_side, switch_port_before, peer_by, switch_side_or}
use Rattle.nb_records.specs.Switches.{is_given, is_virtual, is_virtual_kind}
use Rattle.nb_records.specs.declared.router.Router.{Router}
use Rattle.nb_records.specs.declared.router.RouterPort.{RouterPort}
use Rattle.nb_records.specs.declared.switch.PortKind.{PortKind}
use Rattle.nb_records.specs.declared.switch.PortKind.TheVariants as port_kind
use Rattle.nb_records.specs.declared.switch.SwitchPort.{SwitchPort}
use Rattle.nb_rules.specs.Peers.{same_given, chassis_of, has_bad_peer, has_two_partners, is_wrong_peer, peer_of}
use Rattle.nb_rules.specs.Valid.{IsValid}
use Rattle.net_model.specs.Config.{Home, home_if, chassis_home, home_of, home_by_kind, home_of_router, home_of_router_port, is_here}
use Rattle.net_model.specs.Entry.{Scene}
use Rattle.net_model.specs.Trail.{Spot}
use Rattle.ovn_base.proofs.AmongLaws.{map_among, among_all}
use Rattle.ovn_base.proofs.ByNameLaws.{among_at, at_among}
use Rattle.ovn_base.specs.declared.name.Name.{Name}
use Rattle.ovn_base.specs.lists.Among.{Among}
use Rattle.ovn_base.specs.names.ByName.{at}
use Rattle.ovn_base.specs.names.SameName.{same_name, bytes_decides}
use Rattle.row_laws.proofs.records.Searches.{found_by}
use Rattle.row_laws.proofs.records.SwitchPorts.{router_kind}
use Rattle.row_laws.proofs.records.ValidPorts as switch
use Rattle.row_laws.proofs.routers.TakenAtRouter as router
use Rattle.sim_laws.specs.routers.Patches.{LeadsTo, IsThere, is_partner_here}

-- a port with a router port behind it leads to a router
leads_on : (k : PortKind) (o : Option Name) (name : Name) → HasItsRouterPort k o → is_given name o ≡ true → is_virtual_kind k ≡ false
leads_on port_kind.Virtual None name h given = absurd (false≢true given)
leads_on port_kind.Virtual (Some m) name h given = absurd h
leads_on port_kind.Router o name h given = refl

module _ (net : Network) (valid : IsValid net) where
  -- a port among those of the records is found at its name
  router_port_at : (r : RouterPort) → Among r (values_of net.router_ports) → at net.router_ports r.name ≡ Some r
  router_port_at r m =
      let e = map_among (λ (e : Name × RouterPort). e.1) r net.router_ports m in
      let found = among_at e.0.0 e.0.1 net.router_ports valid.in_order.router_ports e.1 in
      subst (λ (x : RouterPort). at net.router_ports x.name ≡ Some x) (sym e.2) (router.own_place net valid e.0.0 e.0.1 found)

  switch_port_at : (q : SwitchPort) → Among q (values_of net.switch_ports) → at net.switch_ports q.name ≡ Some q
  switch_port_at q m =
      let e = map_among (λ (e : Name × SwitchPort). e.1) q net.switch_ports m in
      let found = among_at e.0.0 e.0.1 net.switch_ports valid.in_order.switch_ports e.1 in
      subst (λ (x : SwitchPort). at net.switch_ports x.name ≡ Some x) (sym e.2) (switch.own_place net valid e.0.0 e.0.1 found)

  -- the peer of a router port
  peer_there : (name : Name) (peer : Option Name) (r : RouterPort) → peer_by net name peer ≡ Some r → at net.router_ports r.name ≡ Some r
  peer_there name (Some peer) r found = router.own_place net valid peer r found
  peer_there name None r found = router_port_at r (found_by (λ (p : RouterPort). is_given name p.peer) (values_of net.router_ports) r found).0

  -- the switch port behind which it is
  before_there : (o : RouterPort) (q : SwitchPort) → switch_port_before net o ≡ Some q → IsThere net (switch_side q)
  before_there o q found =
      let f = found_by (λ (x : SwitchPort). is_given o.name x.router_port) (values_of net.switch_ports) q found in
      let there = switch_port_at q f.0 in
      (there, leads_on q.kind q.router_port o.name (switch.in_grammar net valid q.name q there).router_port f.1)

  pub of_router_port : (o : RouterPort) (partner : Partner) → (q : Option SwitchPort) → switch_port_before net o ≡ q → (p : Option RouterPort) → peer_by net o.name o.peer ≡ p
      → Some partner ≡ switch_side_or p q → IsThere net partner
  of_router_port o partner (Some q) before p peer is = subst (IsThere net) (sym (same_Some partner (switch_side q) is)) (before_there o q before)
  of_router_port o partner None before (Some r) peer is = subst (IsThere net) (sym (same_Some partner (router_side r) is)) (peer_there o.name o.peer r peer)
  of_router_port o partner None before None peer is = absurd (none-some partner (sym is))

  behind_there : (name : Option Name) (r : RouterPort) → option_and_then (at net.router_ports) name ≡ Some r → at net.router_ports r.name ≡ Some r
  behind_there None r found = absurd (none-some r found)
  behind_there (Some n) r found = router.own_place net valid n r found

  pub of_switch_port : (o : SwitchPort) (partner : Partner) → (r : Option RouterPort) → option_and_then (at net.router_ports) o.router_port ≡ r → Some partner ≡ option_map router_side r → IsThere net partner
  of_switch_port o partner (Some r) behind is = subst (IsThere net) (sym (same_Some partner (router_side r) is)) (behind_there o.router_port r behind)
  of_switch_port o partner None behind is = absurd (none-some partner (sym is))

-- ---- at home

not_false : (b : Bool) → not b ≡ false → b ≡ true
not_false true h = refl
not_false false h = absurd (false≢true (sym h))

-- two that are the same are one
one_given : (v w : Option Name) → same_given v w ≡ true → v ≡ w
one_given None None same = refl
one_given (Some n) (Some m) same = ap (λ (x : Name). Some x) ((bytes_decides n m).0 same)
one_given None (Some m) same = absurd (false≢true same)
one_given (Some n) None same = absurd (false≢true same)

-- what is given is the name
given_is : (name : Name) (o : Option Name) → is_given name o ≡ true → o ≡ Some name
given_is name None given = absurd (false≢true given)
given_is name (Some n) given = ap (λ (x : Name). Some x) ((bytes_decides n name).0 given)

module _ (s : Scene) (valid : IsValid s.config.net) where
  abbrev net : Network
  net = s.config.net

  abbrev home : RouterPort → Home
  home r = home_of_router_port s.config r

  -- a port that leads to a router is at home where that is
  home_behind : (o : SwitchPort) → is_virtual o ≡ false → (r : Option RouterPort) → option_and_then (at net.router_ports) o.router_port ≡ r → home_of s.config o ≡ home_if (home_of_router_port s.config) r
  home_behind o leads r behind = ap (home_by_kind s.config o) (router_kind o.kind leads) ∙ ap (home_if (home_of_router_port s.config)) behind

  -- so is one behind which the router port is
  home_before : (o : RouterPort) → at net.router_ports o.name ≡ Some o → (q : SwitchPort) → switch_port_before net o ≡ Some q → home_of s.config q ≡ home o
  home_before o there q found =
      let f = found_by (λ (x : SwitchPort). is_given o.name x.router_port) (values_of net.switch_ports) q found in
      home_behind q (before_there net valid o q found).1 (Some o) (ap (option_and_then (at net.router_ports)) (given_is o.name q.router_port f.1) ∙ there)

  -- ---- peers

  -- the chassis of the router of a port
  chassis_is : (o : RouterPort) (router : Router) → at net.routers o.router ≡ Some router → chassis_of net o.router ≡ router.chassis
  chassis_is o router is = ap (option_and_then (λ (x : Router). x.chassis)) is

  -- router ports of routers with the same chassis have one home
  same_chassis : (o r : RouterPort) → at net.router_ports o.name ≡ Some o → at net.router_ports r.name ≡ Some r → chassis_of net o.router ≡ chassis_of net r.router → home o ≡ home r
  same_chassis o r there also same =
      let x = router.on_router net valid o.name o there in
      let y = router.on_router net valid r.name r also in
      ap (home_if (home_of_router s.config)) x.1 ∙ ap (chassis_home s.config) (sym (chassis_is o x.0 x.1) ∙ same ∙ chassis_is r y.0 y.1) ∙ ap (home_if (home_of_router s.config)) (sym y.1)

  -- so have a port and the peer that it names
  named_home : (o r : RouterPort) → at net.router_ports o.name ≡ Some o → option_and_then (at net.router_ports) o.peer ≡ Some r → at net.router_ports r.name ≡ Some r → home o ≡ home r
  named_home o r there peer also =
      let good = among_all (λ (e : Name × RouterPort). has_bad_peer net e.1 ≡ false) (o.name, o) net.router_ports (switch.whole net valid).peers (at_among net.router_ports o.name o there) in
      let right = (or_parts (is_given o.name o.peer) (is_wrong_peer net o (peer_of net o)) (or_parts (has_two_partners net o) (is_given o.name o.peer || is_wrong_peer net o (peer_of net o)) good).1).1 in
      let not_wrong : is_wrong_peer net o (Some r) ≡ false = ap (is_wrong_peer net o) (sym peer) ∙ right in
      let same = (or_parts (same_name r.router o.router) (not (same_given (chassis_of net r.router) (chassis_of net o.router))) not_wrong).1 in
      same_chassis o r there also (sym (one_given (chassis_of net r.router) (chassis_of net o.router) (not_false (same_given (chassis_of net r.router) (chassis_of net o.router)) same)))

  peer_home : (o r : RouterPort) (peer : Option Name) → o.peer ≡ peer → at net.router_ports o.name ≡ Some o → peer_by net o.name peer ≡ Some r → home r ≡ home o
  peer_home o r (Some peer) names there found = sym (named_home o r there (ap (option_and_then (at net.router_ports)) names ∙ found) (peer_there net valid o.name (Some peer) r found))
  peer_home o r None names there found =
      let f = found_by (λ (p : RouterPort). is_given o.name p.peer) (values_of net.router_ports) r found in
      named_home r o (peer_there net valid o.name None r found) (ap (option_and_then (at net.router_ports)) (given_is o.name r.peer f.1) ∙ there) there

  -- ---- partners

  of_router_home : (o : RouterPort) → at net.router_ports o.name ≡ Some o → (partner : Partner) → (q : Option SwitchPort) → switch_port_before net o ≡ q → (p : Option RouterPort) → peer_by net o.name o.peer ≡ p
      → Some partner ≡ switch_side_or p q → is_partner_here s partner ≡ is_here s.here (home o)
  of_router_home o there partner (Some q) before p peer is = ap (is_partner_here s) (same_Some partner (switch_side q) is) ∙ ap (is_here s.here) (home_before o there q before)
  of_router_home o there partner None before (Some r) peer is = ap (is_partner_here s) (same_Some partner (router_side r) is) ∙ ap (is_here s.here) (peer_home o r o.peer refl there peer)
  of_router_home o there partner None before None peer is = absurd (none-some partner (sym is))

  of_switch_home : (o : SwitchPort) → is_virtual o ≡ false → (partner : Partner) → (r : Option RouterPort) → option_and_then (at net.router_ports) o.router_port ≡ r → Some partner ≡ option_map router_side r
      → is_partner_here s partner ≡ is_here s.here (home_of s.config o)
  of_switch_home o leads partner (Some r) behind is = ap (is_partner_here s) (same_Some partner (router_side r) is) ∙ ap (is_here s.here) (sym (home_behind o leads (Some r) behind))
  of_switch_home o leads partner None behind is = absurd (none-some partner (sym is))

  pub partner_there : (by : Spot) (partner : Partner) → LeadsTo s by (Some partner) → IsThere net partner
  partner_there by partner (LeadsTo.to_router o there kind at_home is e) = of_switch_port net valid o partner (option_and_then (at net.router_ports) o.router_port) refl e
  partner_there by partner (LeadsTo.of_router o there at_home is e) = of_router_port net valid o partner (switch_port_before net o) refl (peer_by net o.name o.peer) refl e

  -- the partner of a port at home here is at home here
  pub partner_here : (by : Spot) (partner : Partner) → LeadsTo s by (Some partner) → is_partner_here s partner ≡ true
  partner_here by partner (LeadsTo.to_router o there kind at_home is e) = of_switch_home o kind partner (option_and_then (at net.router_ports) o.router_port) refl e ∙ at_home
  partner_here by partner (LeadsTo.of_router o there at_home is e) = of_router_home o there partner (switch_port_before net o) refl (peer_by net o.name o.peer) refl e ∙ at_home
