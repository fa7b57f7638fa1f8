-- Names stay names: in the records, on the way and in effects.
use Rattle.std.specs.Prelude.{◌≡◌, ◌≤◌, ◌<◌, ◌+◌, ◌++◌, ◌^◌, ℕ, Bool, true, false, not, List, [], ◌∷◌, None, Option, cond, map, filter, unwrap_or}
use Rattle.std.specs.BTreeMap.{is_at}
use Rattle.std.specs.BTreeSet.{insert_key}
use Rattle.std.specs.Cmp.Lexicographic.{slice_cmp}
use Rattle.std.specs.List.{AllByRecursion, filter_map}
use Rattle.std.specs.Option.{option_map}
use Rattle.std.specs.Ordering.{is_eq, match_ordering, nat_cmp}
use Rattle.std.specs.declared.cmp.Ordering.{Ordering}
use Rattle.std.specs.declared.cmp.Ordering.TheVariants.{Less, Equal, Greater}
use Rattle.std.proofs.Common.{sym, ap, subst, arith, inl, inr, refl}
use Rattle.chassis_sim.proofs.UnderlayLaws.{all_left}
use Rattle.edit_reader.specs.Fitting.{IsEventInGrammar}
use Rattle.edit_reader.specs.declared.event.Event.{Event}
use Rattle.edit_reader.specs.declared.event.Event.TheVariants as event_of
use Rattle.event_lines.specs.Picks.{IsNamedEffect, AreNamed}
use Rattle.nb_edits.proofs.EditSoundness.{edit_sound}
use Rattle.nb_edits.proofs.EditValidity.{Fits, valid_fit}
use Rattle.nb_edits.proofs.KindLists.{kept_at}
use Rattle.nb_edits.proofs.OwnerLaws.{among_owns}
use Rattle.nb_records.specs.Network.{Network}
use Rattle.nb_records.specs.declared.change.Op.{Op}
use Rattle.nb_records.specs.declared.kinds.Kind.TheVariants as kind
use Rattle.nb_records.specs.declared.record.Record.TheVariants as row
use Rattle.nb_records.specs.declared.router.Router.{Router}
use Rattle.nb_records.specs.declared.router.RouterPort.{RouterPort}
use Rattle.nb_records.specs.declared.switch.Switch.{Switch}
use Rattle.nb_records.specs.declared.switch.SwitchPort.{SwitchPort}
use Rattle.nb_rules.specs.Valid.{IsValid}
use Rattle.net_model.specs.Journey.{Traffic, enter_one, arrive_one, lose_one, arrive_all, enter_and_arrive}
use Rattle.net_model.specs.Owners.{owners_of, owners_only_in}
use Rattle.net_model.specs.State.{State, empty, event_count, finished, settled_where_none_waits}
use Rattle.net_model.specs.Trail.{End, leaves, is_dropped, crosses, picks_backend, picks_port, is_lost}
use Rattle.net_model.specs.declared.crossing.Crossing.{Crossing}
use Rattle.ovn_base.proofs.AmongLaws.{filter_among, flat_map_among}
use Rattle.ovn_base.proofs.ByNameLaws.{same_name}
use Rattle.ovn_base.specs.declared.address.Birth.{Birth}
use Rattle.ovn_base.specs.declared.name.Name.{Name}
use Rattle.ovn_base.specs.lists.Among.{Among, here, there}
use Rattle.ovn_base.specs.names.ByName.{in_order, put}
use Rattle.ovn_base.specs.names.NameText.{IsName}
use Rattle.physical_flows.specs.Numbers.{datapath_number, port_number}
use Rattle.sim_laws.proofs.told.Named.{travels_named}
use Rattle.sim_laws.specs.Effects.{effects_of}
use Rattle.sim_laws.specs.EndNames.{AreNamedEnds, HasNamedHome, HasNames, IsNamedCrossing}
use Rattle.switch_engine.specs.declared.effect.NetEffect.{NetEffect}
use Rattle.tunnel_keys.proofs.Lists.{in_order_among}
use Rattle.tunnel_keys.proofs.OwnerLaws.{in_datapaths, in_ports}
use Rattle.tunnel_keys.specs.Edits.{GivesKeysAfter}
use Rattle.tunnel_keys.specs.Keys.{Keys, retire}
use Rattle.tunnel_keys.specs.Owners.{datapaths_in, is_listed, ports_in}
use Rattle.tunnel_keys.specs.declared.owner.DatapathKey.{DatapathKey}
use Rattle.tunnel_keys.specs.declared.owner.KeyOwner.{KeyOwner}
use Rattle.tunnel_keys.specs.declared.owner.KeyOwner.TheVariants.{Datapath, Port}
use Rattle.tunnel_keys.specs.declared.owner.PortKey.{PortKey}
use Rattle.world_setup.proofs.RefusedTurns.{edit_faultless}
use Rattle.world_setup.specs.Editing.{next_net, Edits}
use Rattle.world_setup.specs.KeyLines.{added_ports, as_place, datapath_effect, key_effects, port_effect}
use Rattle.world_setup.specs.Refusing.{refusal}
use Rattle.world_setup.specs.Step.{NetworkStep, Does, Moves}

-- ---- what is named

-- the ranges of the keys are numbers of 64 bits
pub record AreRanged (keys : Keys) : Type 0 where
  pub datapaths : keys.datapath_range < 2 ^ 64
  pub ports : keys.port_range < 2 ^ 64

-- what stays so of a state beside its records: names are names, and the ranges of keys numbers of 64 bits
pub record IsNamedState (m : State) : Type 0 where
  pub names : HasNames m
  pub keys : AreRanged m.keys

-- ---- lists

module _ {X : Type 0} (P : X → Type 0) where
  all_joined : (xs ys : List X) → AllByRecursion P xs → AllByRecursion P ys → AllByRecursion P (xs ++ ys)
  all_joined [] ys h k = k
  all_joined (x ∷ xs) ys h k = (h.0, all_joined xs ys h.1 k)

module _ {X Y : Type 0} (P : Y → Type 0) (f : X → Y) where
  all_images : (xs : List X) → ((x : X) → Among x xs → P (f x)) → AllByRecursion P (map f xs)
  all_images [] h = tt
  all_images (x ∷ xs) h = (h x here, all_images xs (λ y m. h y (there m)))

module _ {X : Type 0} (P : X → Type 0) (test : X → Bool) where
  all_filtered : (xs : List X) → AllByRecursion P xs → AllByRecursion P (filter test xs)
  all_filtered [] h = tt
  all_filtered (x ∷ xs) h = by (test x) (all_filtered xs h.1)
    where
      by : (b : Bool) → AllByRecursion P (filter test xs) → AllByRecursion P (cond b (x ∷ filter test xs) (filter test xs))
      by true rest = (h.0, rest)
      by false rest = rest

module _ {X : Type 0} (P : Name × X → Type 0) where
  all_put : (es : List (Name × X)) (k : Name) (v : X) → AllByRecursion P es → P (k, v) → AllByRecursion P (put es k v)
  all_put [] k v h p = (p, tt)
  all_put (e ∷ es) k v h p = by (slice_cmp nat_cmp k e.0) refl (all_put es k v h.1 p)
    where
      by : (o : Ordering) → slice_cmp nat_cmp k e.0 ≡ o → AllByRecursion P (put es k v) → AllByRecursion P (match_ordering o ((k, v) ∷ e ∷ es) ((e.0, v) ∷ es) (e ∷ put es k v))
      by Less is rest = (p, h)
      by Equal is rest = (subst (λ n. P (n, v)) (same_name k e.0 (ap is_eq is)) p, h.1)
      by Greater is rest = (h.0, rest)

module _ (P : Name → Type 0) where
  all_with : (names : List Name) (name : Name) → AllByRecursion P names → P name → AllByRecursion P (insert_key (slice_cmp nat_cmp) names name)
  all_with [] name h p = (p, tt)
  all_with (first ∷ names) name h p = by (slice_cmp nat_cmp name first) (all_with names name h.1 p)
    where
      by : (o : Ordering) → AllByRecursion P (insert_key (slice_cmp nat_cmp) names name) → AllByRecursion P (match_ordering o (name ∷ first ∷ names) (first ∷ names) (first ∷ insert_key (slice_cmp nat_cmp) names name))
      by Less rest = (p, h)
      by Equal rest = h
      by Greater rest = (h.0, rest)

-- ---- edits

abbrev IsNamedOwner : KeyOwner → Type 0
IsNamedOwner (Datapath name birth) = IsName name
IsNamedOwner (Port datapath name birth) = IsName name

-- the owners of keys in valid records have names
owners_named : (net : Network) → IsValid net → (o : KeyOwner) → Among o (owners_of net) → IsNamedOwner o
owners_named net valid (Datapath name birth) m = elim (among_owns net valid.in_order (Datapath name birth) m) [
  | inl r ↦ let is = kept_at (λ (r : Switch). r.name) (λ r. Fits (row.Switch r)) net.switches ((valid_fit net valid).each kind.Switch) name r.0 r.1 in subst IsName is.0 is.1
  | inr r ↦ let is = kept_at (λ (r : Router). r.name) (λ r. Fits (row.Router r)) net.routers ((valid_fit net valid).each kind.Router) name r.0 r.1 in subst IsName is.0 is.1.name
]
owners_named net valid (Port datapath name birth) m = elim (among_owns net valid.in_order (Port datapath name birth) m) [
  | inl r ↦ let is = kept_at (λ (r : RouterPort). r.name) (λ r. Fits (row.RouterPort r)) net.router_ports ((valid_fit net valid).each kind.RouterPort) name r.0 r.1 in subst IsName is.0 is.1.name
  | inr r ↦ let is = kept_at (λ (r : SwitchPort). r.name) (λ r. Fits (row.SwitchPort r)) net.switch_ports ((valid_fit net valid).each kind.SwitchPort) name r.0 r.1 in subst IsName is.0 is.1.name
]

module _ (between after : Keys) (owners : List KeyOwner) (ranged : AreRanged between) (named : (o : KeyOwner) → Among o owners → IsNamedOwner o) (gives : GivesKeysAfter between owners after) where
  datapath_line : (o : Name × Birth) → Among o (in_order (datapaths_in owners)) → IsNamedEffect (datapath_effect after o)
  datapath_line o among =
      let owner : Among (Datapath o.0 o.1) owners = in_datapaths owners o.0 o.1 (in_order_among (datapaths_in owners) o.0 o.1 among) in
      let given = gives.datapath_given o.0 o.1 owner in
      let number : unwrap_or (datapath_number after o.0) 0 ≡ given.0 = ap (λ (k : Option DatapathKey). unwrap_or (option_map (λ d. d.key) k) 0) given.1 in
      let high : given.0 ≤ between.datapath_range = given.2.high in
      let range : between.datapath_range < 2 ^ 64 = ranged.datapaths in
      (named (Datapath o.0 o.1) owner, omega (arith, number, high, range))

  port_line : (o : Name × Birth) → Among o (added_ports owners) → IsNamedEffect (port_effect after o)
  port_line o among =
      let d = flat_map_among (λ (d : Name × Birth). in_order (ports_in d.0 owners)) o (in_order (filter_map as_place owners)) among in
      let owner : Among (Port d.0.0 o.0 o.1) owners = in_ports owners d.0.0 o.0 o.1 (in_order_among (ports_in d.0.0 owners) o.0 o.1 d.2) in
      let given = gives.port_given d.0.0 o.0 o.1 owner in
      let number : unwrap_or (port_number after o.0) 0 ≡ given.0 = ap (λ (k : Option PortKey). unwrap_or (option_map (λ p. p.key) k) 0) given.2 in
      let high : given.0 ≤ between.port_range = given.4.high in
      let range : between.port_range < 2 ^ 64 = ranged.ports in
      (named (Port d.0.0 o.0 o.1) owner, omega (arith, number, high, range))

  keys_named : AreNamed (key_effects owners after)
  keys_named =
      all_joined IsNamedEffect (map (datapath_effect after) (in_order (datapaths_in owners))) (map (port_effect after) (added_ports owners))
      (all_images IsNamedEffect (datapath_effect after) (in_order (datapaths_in owners)) datapath_line) (all_images IsNamedEffect (port_effect after) (added_ports owners) port_line)

  still_ranged : AreRanged after
  still_ranged = record {
    datapaths = subst (λ n. n < 2 ^ 64) (sym gives.datapath_range) ranged.datapaths;
    ports = subst (λ n. n < 2 ^ 64) (sym gives.port_range) ranged.ports;
  }

-- ---- packets

effects_named : (keys : Keys) (n : ℕ) (ends : List End) → AreNamedEnds ends → AreNamed (effects_of keys n ends)
effects_named keys n [] named = tt
effects_named keys n (leaves q packet ∷ ends) named = (named.0, effects_named keys n ends named.1)
effects_named keys n (is_dropped a q cause ∷ ends) named = (named.0, effects_named keys n ends named.1)
effects_named keys n (crosses chassis x ∷ ends) named = ((named.0.0, named.0.1.0), effects_named keys (n + 1) ends named.1)
effects_named keys n (picks_backend datapath vip backend ∷ ends) named = (named.0, effects_named keys n ends named.1)
effects_named keys n (picks_port router port ∷ ends) named = (named.0, effects_named keys n ends named.1)
effects_named keys n (is_lost k ∷ ends) named = (tt, effects_named keys n ends named.1)

-- ---- steps

-- effects in names, and a state in names
record AreStepNamed (effects : List NetEffect) (after : State) : Type 0 where
  effects_are : AreNamed effects
  state : IsNamedState after

nothing_else : (effects : List NetEffect) (after next : State) → effects ≡ [] → after ≡ next → IsNamedState next → AreStepNamed effects after
nothing_else effects after next none is named = record { effects_are = subst AreNamed (sym none) tt; state = subst IsNamedState (sym is) named }

module _ (m : State) (valid : IsValid m.config.net) (named : IsNamedState m) where
  chassis_are : AllByRecursion IsName m.config.chassis
  chassis_are = named.names.chassis

  homes_are : AllByRecursion HasNamedHome m.config.bindings
  homes_are = named.names.homes

  waiting_are : AllByRecursion IsNamedCrossing m.waiting
  waiting_are = named.names.waiting

  -- what an event asks of packets
  moves_named : (traffic : Traffic) (effects : List NetEffect) (after : State) → Moves m traffic effects after → AreStepNamed effects after
  moves_named traffic effects after h =
      let told = travels_named m valid named.names traffic h.ends after h.travels in
      record {
        effects_are = subst AreNamed (sym h.effects_are) (effects_named m.keys m.next h.ends told.0);
        state = record { names = told.1; keys = subst (λ (s : State). AreRanged s.keys) (sym h.travels.state) named.keys };
      }

  -- and of records
  edits_named : (ops : List Op) → IsEventInGrammar (event_of.Edit ops) → refusal m (event_of.Edit ops) ≡ None → (effects : List NetEffect) (after : State) → Edits m ops effects after → AreStepNamed effects after
  edits_named ops fine allowed effects after h =
      let next = next_net m ops in
      let valid_next : IsValid next = (edit_sound m.config.net ops (event_count m + 1) valid fine.each (edit_faultless m ops allowed)).valid in
      let owners = owners_only_in next m.config.net in
      let gone = owners_only_in m.config.net next in
      let between : AreRanged (retire m.keys gone) = record { datapaths = named.keys.datapaths; ports = named.keys.ports } in
      let have : (o : KeyOwner) → Among o owners → IsNamedOwner o = λ o among. owners_named next valid_next o (filter_among (λ x. not (is_listed (owners_of m.config.net) x)) o (owners_of next) among).0 in
      record {
        effects_are = subst AreNamed (sym h.effects_are) (keys_named (retire m.keys gone) h.keys owners between have h.rekeys.given);
        state = subst IsNamedState (sym h.state) (record {
          names = record { chassis = chassis_are; homes = all_filtered HasNamedHome _ m.config.bindings homes_are; waiting = waiting_are };
          keys = still_ranged (retire m.keys gone) h.keys owners between have h.rekeys.given;
        });
      }

  -- any event, where edits are ones that the records take
  does_named : (event : Event) → IsEventInGrammar event → refusal m event ≡ None → (effects : List NetEffect) (after : State) → Does m event effects after → AreStepNamed effects after
  does_named (event_of.Edit ops) fine allowed effects after h = edits_named ops fine allowed effects after h
  does_named (event_of.Bind p chassis) fine allowed effects after h = nothing_else effects after _ h.0 h.1 (record {
    names = record { chassis = chassis_are; homes = all_put HasNamedHome m.config.bindings p chassis homes_are fine.1; waiting = waiting_are };
    keys = named.keys;
  })
  does_named (event_of.Unbind p) fine allowed effects after h = nothing_else effects after _ h.0 h.1 (record {
    names = record { chassis = chassis_are; homes = all_left HasNamedHome (is_at (slice_cmp nat_cmp p)) m.config.bindings homes_are; waiting = waiting_are };
    keys = named.keys;
  })
  does_named (event_of.AddChassis chassis) fine allowed effects after h = nothing_else effects after _ h.0 h.1 (record {
    names = record { chassis = all_with IsName m.config.chassis chassis chassis_are fine; homes = homes_are; waiting = waiting_are };
    keys = named.keys;
  })
  does_named (event_of.RemoveChassis chassis) fine allowed effects after h = nothing_else effects after _ h.0 h.1 (record {
    names = record { chassis = all_filtered IsName _ m.config.chassis chassis_are; homes = all_filtered HasNamedHome _ m.config.bindings homes_are; waiting = waiting_are };
    keys = named.keys;
  })
  does_named (event_of.Keys datapaths ports) fine allowed effects after h = nothing_else effects after _ h.0 h.1 (record {
    names = record { chassis = chassis_are; homes = homes_are; waiting = waiting_are };
    keys = record { datapaths = omega (arith, fine.few_datapaths); ports = omega (arith, fine.few_ports) };
  })
  does_named (event_of.Health balancer backend online) fine allowed effects after h = nothing_else effects after _ h.0 h.1 (record {
    names = record { chassis = chassis_are; homes = homes_are; waiting = waiting_are };
    keys = named.keys;
  })
  does_named (event_of.Clock seconds) fine allowed effects after h = nothing_else effects after _ h.0 h.1 (record {
    names = record { chassis = chassis_are; homes = homes_are; waiting = waiting_are };
    keys = named.keys;
  })
  does_named (event_of.Inject p frame) fine allowed effects after h = moves_named (enter_one p h.packet) effects after h.moves
  does_named (event_of.Deliver n) fine allowed effects after h = moves_named (arrive_one n false) effects after h
  does_named (event_of.Lose n) fine allowed effects after h = moves_named (lose_one n) effects after h
  does_named (event_of.Repeat n) fine allowed effects after h = moves_named (arrive_one n true) effects after h
  does_named event_of.Drain fine allowed effects after h = moves_named arrive_all effects after h
  does_named (event_of.Packet p frame) fine allowed effects after h = moves_named (enter_and_arrive p h.packet) effects after h.moves
  does_named (event_of.Unread fault) fine allowed effects after h = absurd h

settled_ranged : (waiting : List (ℕ × Crossing)) (keys : Keys) → AreRanged keys → AreRanged (settled_where_none_waits waiting keys)
settled_ranged [] keys ranged = record { datapaths = ranged.datapaths; ports = ranged.ports }
settled_ranged (w ∷ waiting) keys ranged = ranged

finished_named : (m : State) → IsNamedState m → IsNamedState (finished m)
finished_named m named = record {
  names = record { chassis = named.names.chassis; homes = named.names.homes; waiting = named.names.waiting };
  keys = settled_ranged m.waiting m.keys named.keys;
}

-- the effects of a step are in names, and the state after it too
pub step_named : (m : State) → IsValid m.config.net → IsNamedState m → (event : Event) → IsEventInGrammar event → refusal m event ≡ None → (effects : List NetEffect) (after : State) → NetworkStep m event effects after → AreNamed effects × IsNamedState after
step_named m valid named event fine allowed effects after h =
    let does = does_named m valid named event fine allowed effects h.mid h.does in
    (does.effects_are, subst IsNamedState (sym h.state) (finished_named h.mid does.state))

-- where nothing is there, no name is none
pub none_named : IsNamedState empty
none_named = record { names = record { chassis = tt; homes = tt; waiting = tt }; keys = record { datapaths = omega arith; ports = omega arith } }
