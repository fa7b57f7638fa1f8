-- A port that is bound begins with its zone, and all others keep theirs.
use Rattle.std.specs.Prelude.{◌≡◌, ◌≢◌, ◌⊎◌, ◌&&◌, ◌||◌, ℕ, Bool, true, false, List, [], ◌∷◌, not, Option, Some, is_some, option_map, refl}
use Rattle.std.specs.Map.{keys_of}
use Rattle.std.proofs.Common.{sym, ap, ◌∙◌, subst, inl, inr}
use Rattle.std.proofs.lemmas.Bool.{false_from_ne_true, false≢true}
use Rattle.std.proofs.lemmas.Option.{same_Some}
use Rattle.conn_table.specs.Connections.{ConnectionList}
use Rattle.conn_zones.specs.Rezoning.{IsRezoned, is_home_on, stays_on}
use Rattle.conn_zones.specs.Zoning.{Zoned, KnownHomes, number_on}
use Rattle.conn_zones.specs.declared.numbers.ZoneUse.TheVariants as zone
use Rattle.nb_records.specs.Switches.{is_named}
use Rattle.nb_records.specs.declared.switch.SwitchPort.{SwitchPort}
use Rattle.net_model.specs.Config.{port_identity}
use Rattle.net_model.specs.ListOwners.{names_of}
use Rattle.net_model.specs.State.{State}
use Rattle.net_model.specs.Transition.{Turn, bind, listed_if, port_emptied}
use Rattle.net_model.specs.Trail.{ListOwner, of_port, dnat_of, snat_of}
use Rattle.ovn_base.proofs.AmongLaws.{among_cases, among_map, among_none}
use Rattle.ovn_base.proofs.ByNameLaws.{at_among, one_or_two, put_there, put_other}
use Rattle.ovn_base.specs.declared.name.Name.{Name}
use Rattle.ovn_base.specs.lists.Among.{Among, here}
use Rattle.ovn_base.specs.names.ByName.{at}
use Rattle.ovn_base.specs.names.SameName.{bytes_decides, same_name}
use Rattle.physical_flows.proofs.FlowSearch.{is_some_of, some_of}
use Rattle.row_laws.proofs.records.ValidPorts.{port_named}
use Rattle.sim_laws.proofs.turn_laws.RouterZones as routers
use Rattle.sim_laws.proofs.turn_laws.RouterZones.{is_port_use, name_of_use, no_port_use, router_owner, router_stays}
use Rattle.sim_laws.proofs.turn_laws.TurnedLists.{list_empty, list_kept, owned}
use Rattle.sim_laws.specs.journeys.InState.{use_of, zones_on}
use Rattle.sim_laws.specs.journeys.TurnedZones.{BeginsZone, BindingLaw, KeepsZone, binding}
use Rattle.physical_flows.specs.Bindings.{AreBound}
use Rattle.sim_laws.specs.journeys.UnderWay.{IsUnderWay}

module _ (m : State) (zones later : Zoned) (more : ℕ) (port chassis : Name) (z : ℕ) (u : IsUnderWay m zones more) (v : AreBound (bind m.config port chassis).next later)
    (rezoned : IsRezoned zones (binding port chassis) later) (numbered : number_on later.numbers chassis (zone.Port port) ≡ Some z) where
  abbrev turn : Turn
  turn = bind m.config port chassis

  abbrev emptied : List (Name × ℕ)
  emptied = (chassis, z) ∷ []

  abbrev named : List Name
  named = names_of (port_emptied m.config.net port).ports

  abbrev IsTold : Name → ListOwner → ℕ → Type 0
  IsTold c owner n = KeepsZone m turn zones.numbers emptied c owner n ⊎ BeginsZone m turn emptied c owner n

  -- ---- whose list is emptied

  bound_then : at turn.next.bindings port ≡ Some chassis
  bound_then = put_there m.config.bindings port chassis

  named_alone : named ≡ port ∷ []
  named_alone =
      let there' = some_of (at m.config.net.switch_ports port) (v.port_there port chassis bound_then) in
      ap (λ (o : Option SwitchPort). names_of (listed_if (option_map port_identity o))) there'.1
      ∙ ap (λ (n : Name). n ∷ []) (port_named m.config.net u.valid port there'.0 there'.1)

  own_named : is_named port named ≡ true
  own_named = ap (is_named port) named_alone ∙ ap (λ b. b || false) ((bytes_decides port port).1 refl)

  other_named : (q : Name) → q ≢ port → is_named q named ≡ false
  other_named q apart =
      ap (is_named q) named_alone ∙ ap (λ b. b || false) (false_from_ne_true (same_name port q) (λ same. apart (sym ((bytes_decides port q).0 same))))

  among_bound : (q c : Name) → at turn.next.bindings q ≡ Some c → Among q (keys_of turn.next.bindings)
  among_bound q c is = among_map (λ (e : Name × Name). e.0) (q, c) turn.next.bindings (at_among turn.next.bindings q c is)

  -- ---- the port

  home_then : (q c : Name) (n : ℕ) → number_on later.numbers c (zone.Port q) ≡ Some n → at turn.next.bindings q ≡ Some c
  home_then q c n is =
      ap (λ (k : KnownHomes). at k.ports q) (sym v.homes) ∙ (v.zoned.at_home c (zone.Port q)).1 (is_some_of (number_on later.numbers c (zone.Port q)) n is)

  begins : (c : Name) (n : ℕ) → number_on later.numbers c (zone.Port port) ≡ Some n → IsTold c (of_port port) n
  begins c n is =
      let same : chassis ≡ c = same_Some chassis c (sym bound_then ∙ home_then port c n is) in
      let number : z ≡ n = same_Some z n (sym numbered ∙ ap (λ d. number_on later.numbers d (zone.Port port)) same ∙ is) in
      inr (record {
        list = list_empty named m.lists.ports (keys_of turn.next.bindings) port (among_bound port chassis bound_then) own_named;
        empties = subst (λ (e : Name × ℕ). Among e emptied) (λ i. (same i, number i)) here;
      })

  -- ---- others

  module _ (q : Name) (apart : q ≢ port) (c : Name) (n : ℕ) (is : number_on later.numbers c (zone.Port q) ≡ Some n) where
    was_bound : at m.config.bindings q ≡ Some c
    was_bound = sym (put_other m.config.bindings port chassis q apart) ∙ home_then q c n is

    was_home : at zones.homes.ports q ≡ Some c
    was_home = ap (λ (k : KnownHomes). at k.ports q) u.bound.homes ∙ was_bound

    stayed : stays_on zones.homes (binding port chassis) c (zone.Port q) ≡ true
    stayed = ap (λ o. is_home_on o c && not (is_some (at {X = Option Name} [] q))) was_home ∙ ap (λ b. b && true) ((bytes_decides c c).1 refl)

    number_kept : number_on zones.numbers c (zone.Port q) ≡ Some n
    number_kept =
        let home = (v.zoned.at_home c (zone.Port q)).1 (is_some_of (number_on later.numbers c (zone.Port q)) n is) in
        sym (rezoned.stay c (zone.Port q) home stayed) ∙ is

    -- it has a list
    own : (list : ConnectionList) × (at m.lists.ports q ≡ Some list)
    own =
        owned m.lists.ports (keys_of m.config.bindings) u.at_home.ports u.bound.bindings_sorted q (among_map (λ (e : Name × Name). e.0) (q, c) m.config.bindings (at_among m.config.bindings q c was_bound))

    not_emptied : ¬ Among (c, n) emptied
    not_emptied among = elim (among_cases (c, n) (chassis, z) [] among) [
      | inl same ↦
          let number : number_on later.numbers chassis (zone.Port q) ≡ Some z = subst (λ (e : Name × ℕ). number_on later.numbers e.0 (zone.Port q) ≡ Some e.1) same is in
          let one : zone.Port q ≡ zone.Port port = v.zoned.apart chassis (zone.Port q) (zone.Port port) z number numbered in
          apart (ap name_of_use one)
      | inr none ↦ among_none (c, n) none
    ]

    keeps : IsTold c (of_port q) n
    keeps = inl (record {
      was = u.bound.chassis_there q c was_bound;
      number = number_kept;
      list = list_kept named m.lists.ports (keys_of turn.next.bindings) q own.0 (among_bound q c (home_then q c n is)) (other_named q apart) own.1 ∙ sym own.1;
      kept = not_emptied;
    })

  -- ---- routers

  -- they stay
  router_told : (dst : Bool) (r c : Name) (n : ℕ) → zones_on later.numbers c (router_owner dst r) ≡ Some n → IsTold c (router_owner dst r) n
  router_told dst r c n is =
      inl (router_stays m zones later more turn u v dst r c n is (binding port chassis) rezoned emptied (routers.home_then m zones later more turn u v dst r c n is) refl refl
      (λ among. elim (among_cases (c, n) (chassis, z) [] among) [
        | inl same ↦
            let number : number_on later.numbers chassis (use_of (router_owner dst r)) ≡ Some z = subst (λ (e : Name × ℕ). number_on later.numbers e.0 (use_of (router_owner dst r)) ≡ Some e.1) same is in
            let one : use_of (router_owner dst r) ≡ zone.Port port = v.zoned.apart chassis (use_of (router_owner dst r)) (zone.Port port) z number numbered in
            false≢true (sym (no_port_use dst r) ∙ ap is_port_use one)
        | inr none ↦ among_none (c, n) none
      ]))

  pub is_told : (c : Name) (owner : ListOwner) (n : ℕ) → zones_on later.numbers c owner ≡ Some n → IsTold c owner n
  is_told c (of_port q) n is = elim (one_or_two q port) [
    | inl same ↦ subst (λ p. IsTold c (of_port p) n) (sym same) (begins c n (subst (λ p. number_on later.numbers c (zone.Port p) ≡ Some n) same is))
    | inr apart ↦ keeps q apart c n is
  ]
  is_told c (dnat_of r) n is = router_told true r c n is
  is_told c (snat_of r) n is = router_told false r c n is

pub binds_so : BindingLaw
binds_so m zones later more port chassis z u v rezoned numbered c then owner n is = is_told m zones later more port chassis z u v rezoned numbered c owner n is
