-- An event and its picks determine its effects and the state after it, and so events and picks determine a run.
use Rattle.inet_packet.specs.declared.packet.Packet as inet
use Rattle.inet_packet.proofs.OnePacket.{one_packet_at_most}
use Rattle.net_model.specs.Journey.{Traffic, enter_one, arrive_one, lose_one, arrive_all, enter_and_arrive}
use Rattle.net_model.specs.Trail.{End, choices_in, leaves, is_dropped, crosses, picks_backend, picks_port, is_lost}
use Rattle.net_model.proofs.SparedJourneys.{same_travels}
use Rattle.sim_laws.specs.Effects.{effects_of}
use Rattle.std.specs.Prelude.{◌≡◌, ◌+◌, ◌++◌, ℕ, true, false, List, [], ◌∷◌, Some, Option, map, unwrap_or, refl}
use Rattle.std.specs.List.{filter_map}
use Rattle.std.specs.Option.{option_map}
use Rattle.std.proofs.Common.{sym, ap, ◌∙◌, subst, inl, inr}
use Rattle.std.proofs.lemmas.Option.{none-some, same_Some}
use Rattle.ovn_base.specs.declared.name.Name.{Name}
use Rattle.ovn_base.specs.lists.Among.{Among}
use Rattle.ovn_base.specs.names.ByName.{at, put, put_all, in_order, IsByName}
use Rattle.ovn_base.specs.declared.address.Birth.{Birth}
use Rattle.ovn_base.proofs.AmongLaws.{among_cases, among_filter_map, among_flat_map, among_none}
use Rattle.ovn_base.proofs.ByNameLaws.{at_among, one_or_two, put_other, put_there}
use Rattle.edit_reader.specs.declared.event.Event.{Event}
use Rattle.edit_reader.specs.declared.event.Event.TheVariants as event_of
use Rattle.conn_table.specs.Picks.{Choice, to_backend, to_port}
use Rattle.event_lines.specs.Picks.{Pick, datapath_key, port_key, vip_backend, source_port, picks_of}
use Rattle.switch_engine.specs.declared.effect.NetEffect.{NetEffect}
use Rattle.tunnel_keys.specs.declared.owner.HeldDatapath.{HeldDatapath}
use Rattle.tunnel_keys.specs.declared.owner.HeldPort.{HeldPort}
use Rattle.tunnel_keys.proofs.KeyOrder.{one_order}
use Rattle.tunnel_keys.specs.Edits.{GivesKeysAfter}
use Rattle.tunnel_keys.specs.Keys.{Keys, retire}
use Rattle.tunnel_keys.specs.Owners.{datapaths_in, ports_in}
use Rattle.tunnel_keys.specs.declared.owner.DatapathKey.{DatapathKey}
use Rattle.tunnel_keys.specs.declared.owner.KeyOwner.{KeyOwner}
use Rattle.tunnel_keys.specs.declared.owner.PortKey.{PortKey}
use Rattle.ovn_base.proofs.SameEntries.{same_found}
use Rattle.tunnel_keys.proofs.OwnerLaws.{datapaths_have, ports_have}
use Rattle.net_model.specs.Owners.{owners_only_in}
use Rattle.tunnel_keys.specs.declared.owner.KeyOwner.TheVariants.{Port}
use Rattle.world_setup.specs.Editing.{edited, next_net}
use Rattle.world_setup.specs.KeyLines.{added_ports, as_place, datapath_effect, key_effects, port_effect}
use Rattle.physical_flows.specs.Numbers.{datapath_number, port_number}
use Rattle.world_core.specs.Picks.{Fate, was_refused, was_accepted, Happens, Run}
use Rattle.net_model.specs.State.{State, finished}
use Rattle.world_setup.specs.Step.{NetworkStep, Does, Moves, Sends}

-- the same effects, the same state, and the same picks left
pub record Same (effects others : List NetEffect) (after later : State) (left more : List Pick) : Type 0 where
  pub effects_are : effects ≡ others
  pub state : after ≡ later
  pub rest : left ≡ more

-- ---- keys

-- a port's datapath is among the places
placed_there : (owners : List KeyOwner) (d q : Name) (birth : Birth) → Among (Port d q birth) owners → Among (d, birth) (filter_map as_place owners)
placed_there owners d q birth m = among_filter_map as_place (Port d q birth) (d, birth) owners m refl

abbrev key_in : Pick → ℕ
key_in (datapath_key name key) = key
key_in (port_key name key) = key
key_in (vip_backend datapath vip backend) = 0
key_in (source_port router port) = port

abbrev head_or : Pick → List Pick → Pick
head_or d [] = d
head_or d (p ∷ ps) = p

abbrev rest_of : List Pick → List Pick
rest_of [] = []
rest_of (p ∷ ps) = ps

-- the picks that the lines of owners name
abbrev datapath_pick : Keys → Name × Birth → Pick
datapath_pick keys owner = datapath_key owner.0 (unwrap_or (datapath_number keys owner.0) 0)

abbrev port_pick : Keys → Name × Birth → Pick
port_pick keys owner = port_key owner.0 (unwrap_or (port_number keys owner.0) 0)

datapaths_picked : (keys : Keys) (owners : List (Name × Birth)) (effects : List NetEffect) (left : List Pick)
    → picks_of (map (datapath_effect keys) owners ++ effects) ++ left ≡ map (datapath_pick keys) owners ++ (picks_of effects ++ left)
datapaths_picked keys [] effects left = refl
datapaths_picked keys (o ∷ os) effects left = ap (λ ps. datapath_pick keys o ∷ ps) (datapaths_picked keys os effects left)

ports_picked : (keys : Keys) (owners : List (Name × Birth)) (left : List Pick) → picks_of (map (port_effect keys) owners) ++ left ≡ map (port_pick keys) owners ++ left
ports_picked keys [] left = refl
ports_picked keys (o ∷ os) left = ap (λ ps. port_pick keys o ∷ ps) (ports_picked keys os left)

-- where two lists of picks are one, each owner's picks are one, and so are those that are left
same_picks : (f g : Name × Birth → Pick) (owners : List (Name × Birth)) (left more : List Pick) → map f owners ++ left ≡ map g owners ++ more → ((o : Name × Birth) → Among o owners → f o ≡ g o) × (left ≡ more)
same_picks f g [] left more e = ((λ o among. absurd (among_none o among)), e)
same_picks f g (o ∷ os) left more e =
    let first : f o ≡ g o = ap (λ ps. head_or (f o) ps) e in
    let rest = same_picks f g os left more (ap rest_of e) in (
      (λ p among. elim (among_cases p o os among) [ inl is ↦ ap f is ∙ first ∙ ap g (sym is) | inr later ↦ rest.0 p later ]),
      rest.1,
    )

-- some value stands at each name of a list, once the list is in order
still_there : {X : Type 0} (es gs : List (Name × X)) (n : Name) (v : X) → at es n ≡ Some v → (w : X) × (at (put_all es gs) n ≡ Some w)
still_there es [] n v found = (v, found)
still_there es (g ∷ gs) n v found = elim (one_or_two n g.0) [
  | inl same ↦ still_there (put es g.0 g.1) gs n g.1 (ap (λ k. at (put es g.0 g.1) k) same ∙ put_there es g.0 g.1)
  | inr apart ↦ still_there (put es g.0 g.1) gs n v (put_other es g.0 g.1 n apart ∙ found)
]

put_somewhere : {X : Type 0} (es gs : List (Name × X)) (n : Name) (v : X) → Among (n, v) gs → (w : X) × (at (put_all es gs) n ≡ Some w)
put_somewhere es [] n v among = absurd (among_none (n, v) among)
put_somewhere es (g ∷ gs) n v among = elim (among_cases (n, v) g gs among) [
  | inl is ↦ still_there (put es g.0 g.1) gs n g.1 (ap (λ (e : Name × _). at (put es g.0 g.1) e.0) is ∙ put_there es g.0 g.1)
  | inr later ↦ put_somewhere (put es g.0 g.1) gs n v later
]

among_ordered : {X : Type 0} (gs : List (Name × X)) (n : Name) (v : X) → Among (n, v) gs → (w : X) × Among (n, w) (in_order gs)
among_ordered gs n v among = let r = put_somewhere [] gs n v among in (r.0, at_among (in_order gs) n r.0 r.1)

module _ (between : Keys) (owners : List KeyOwner) where
  -- the datapaths that are given keys with the same picks have the same
  datapath_found : (a b : Keys) → GivesKeysAfter between owners a → GivesKeysAfter between owners b
      → ((o : Name × Birth) → Among o (in_order (datapaths_in owners)) → datapath_pick a o ≡ datapath_pick b o)
      → (n : Name) (d : DatapathKey) → at a.datapaths n ≡ Some d → at b.datapaths n ≡ Some d
  datapath_found a b ga gb same n d found = elim (ga.datapath_cases n d found) [
    | inl old ↦ gb.datapath_kept n d old
    | inr new ↦
        let given = gb.datapath_given n d.birth new in
        let o = among_ordered (datapaths_in owners) n d.birth (datapaths_have owners n d.birth new) in
        let key : d.key ≡ given.0 =
        sym (ap (λ (o : Option DatapathKey). unwrap_or (option_map (λ k. k.key) o) 0) found)
        ∙ ap key_in (same (n, o.0) o.1)
        ∙ ap (λ (o : Option DatapathKey). unwrap_or (option_map (λ k. k.key) o) 0) given.1 in
        given.1 ∙ (λ i. Some (record { birth = d.birth; key = sym key i }))
  ]

  port_found : (a b : Keys) → GivesKeysAfter between owners a → GivesKeysAfter between owners b
      → ((o : Name × Birth) → Among o (added_ports owners) → port_pick a o ≡ port_pick b o)
      → (n : Name) (p : PortKey) → at a.ports n ≡ Some p → at b.ports n ≡ Some p
  port_found a b ga gb same n p found = elim (ga.port_cases n p found) [
    | inl old ↦ gb.port_kept n p old
    | inr new ↦
        let given = gb.port_given p.datapath n p.birth new in
        let o = among_ordered (ports_in p.datapath owners) n p.birth (ports_have owners p.datapath n p.birth new) in
        let placed : Among (n, o.0) (added_ports owners) =
        let place = among_ordered (filter_map as_place owners) p.datapath p.birth (placed_there owners p.datapath n p.birth new) in
        among_flat_map (λ (d : Name × Birth). in_order (ports_in d.0 owners)) (p.datapath, place.0) (n, o.0) (in_order (filter_map as_place owners)) place.1 o.1 in
        let key : p.key ≡ given.0 =
        sym (ap (λ (o : Option PortKey). unwrap_or (option_map (λ k. k.key) o) 0) found)
        ∙ ap key_in (same (n, o.0) placed)
        ∙ ap (λ (o : Option PortKey). unwrap_or (option_map (λ k. k.key) o) 0) given.2 in
        given.2 ∙ (λ i. Some (record { birth = p.birth; datapath = p.datapath; key = sym key i }))
  ]

  -- the same picks give the same keys
  module _ (a b : Keys) (ga : GivesKeysAfter between owners a) (gb : GivesKeysAfter between owners b)
      (da : IsByName a.datapaths) (pa : IsByName a.ports) (db : IsByName b.datapaths) (pb : IsByName b.ports) where
    same_keys : (left more : List Pick) → picks_of (key_effects owners a) ++ left ≡ picks_of (key_effects owners b) ++ more → (a ≡ b) × (left ≡ more)
    same_keys left more e =
        let picked =
        sym (datapaths_picked a (in_order (datapaths_in owners)) (map (port_effect a) (added_ports owners)) left)
        ∙ e
        ∙ datapaths_picked b (in_order (datapaths_in owners)) (map (port_effect b) (added_ports owners)) more in
        let first = same_picks (datapath_pick a) (datapath_pick b) (in_order (datapaths_in owners)) (picks_of (map (port_effect a) (added_ports owners)) ++ left) (picks_of (map (port_effect b) (added_ports owners)) ++ more) picked in
        let datapaths : a.datapaths ≡ b.datapaths =
        same_found a.datapaths b.datapaths da db (datapath_found a b ga gb first.0) (datapath_found b a gb ga (λ o among. sym (first.0 o among))) in
        let after =
        sym (ports_picked a (added_ports owners) left)
        ∙ first.1
        ∙ ports_picked b (added_ports owners) more in
        let second = same_picks (port_pick a) (port_pick b) (added_ports owners) left more after in
        let ports : a.ports ≡ b.ports =
        same_found a.ports b.ports pa pb (port_found a b ga gb second.0)
        (port_found b a gb ga (λ o among. sym (second.0 o among))) in
        let datapath_range = ga.datapath_range ∙ sym gb.datapath_range in
        let port_range = ga.port_range ∙ sym gb.port_range in
        let retired_datapaths = one_order (λ (h : HeldDatapath). h.owner) between.retired_datapaths a.retired_datapaths b.retired_datapaths ga.retired_datapaths gb.retired_datapaths in
        let retired_ports = one_order (λ (h : HeldPort). h.owner) between.retired_ports a.retired_ports b.retired_ports ga.retired_ports gb.retired_ports in (
          (λ i. record { datapath_range = datapath_range i; port_range = port_range i; datapaths = datapaths i; ports = ports i; retired_datapaths = retired_datapaths i; retired_ports = retired_ports i }),
          second.1,
        )

-- ---- steps

-- where neither picks anything the picks that are left are the same
none_left : (effects others : List NetEffect) (left more : List Pick) → picks_of effects ≡ [] → picks_of others ≡ [] → picks_of effects ++ left ≡ picks_of others ++ more → left ≡ more
none_left effects others left more h k e = sym (ap (λ ps. ps ++ left) h) ∙ e ∙ ap (λ ps. ps ++ more) k

still : (effects others : List NetEffect) (after later : State) (left more : List Pick) (then : State) → effects ≡ [] → others ≡ [] → after ≡ then → later ≡ then → picks_of effects ++ left ≡ picks_of others ++ more
    → Same effects others after later left more
still effects others after later left more then h k a b e = record {
  effects_are = h ∙ sym k;
  state = a ∙ sym b;
  rest = none_left effects others left more (ap (λ es. picks_of es) h) (ap (λ es. picks_of es) k) e;
}

-- the choices that picks make
abbrev choice_of : Pick → List Choice → List Choice
choice_of (datapath_key name key) choices = choices
choice_of (port_key name key) choices = choices
choice_of (vip_backend datapath vip backend) choices = to_backend backend ∷ choices
choice_of (source_port router port) choices = to_port port ∷ choices

abbrev choices_of : List Pick → List Choice
choices_of [] = []
choices_of (p ∷ ps) = choice_of p (choices_of ps)

-- the effects of ends name the choices of which those tell
choices_named : (keys : Keys) (n : ℕ) (ends : List End) (left : List Pick) → choices_of (picks_of (effects_of keys n ends) ++ left) ≡ choices_in ends ++ choices_of left
choices_named keys n [] left = refl
choices_named keys n (leaves q packet ∷ ends) left = choices_named keys n ends left
choices_named keys n (is_dropped d q cause ∷ ends) left = choices_named keys n ends left
choices_named keys n (crosses chassis x ∷ ends) left = choices_named keys (n + 1) ends left
choices_named keys n (picks_backend d vip backend ∷ ends) left = ap (λ cs. to_backend backend ∷ cs) (choices_named keys n ends left)
choices_named keys n (picks_port router port ∷ ends) left = ap (λ cs. to_port port ∷ cs) (choices_named keys n ends left)
choices_named keys n (is_lost k ∷ ends) left = choices_named keys n ends left

-- behind the same picks
same_behind : (ps left more : List Pick) → ps ++ left ≡ ps ++ more → left ≡ more
same_behind [] left more e = e
same_behind (p ∷ ps) left more e = same_behind ps left more (ap rest_of e)

-- what is asked of packets has one outcome, with the picks that are made
moved_with : (m : State) (traffic : Traffic) (effects others : List NetEffect) (after later : State) (left more : List Pick) → Moves m traffic effects after → Moves m traffic others later
    → picks_of effects ++ left ≡ picks_of others ++ more → Same effects others after later left more
moved_with m traffic effects others after later left more h k e =
    let told = sym (ap (λ es. picks_of es ++ left) h.effects_are) ∙ e ∙ ap (λ es. picks_of es ++ more) k.effects_are in
    let choices : choices_in h.ends ++ choices_of left ≡ choices_in k.ends ++ choices_of more =
    sym (choices_named m.keys m.next h.ends left) ∙ ap (λ ps. choices_of ps) told ∙ choices_named m.keys m.next k.ends more in
    let one = same_travels m traffic h.ends k.ends after later (choices_of left) (choices_of more) h.travels k.travels choices in
    let same : effects ≡ others = h.effects_are ∙ ap (λ es. effects_of m.keys m.next es) one.0 ∙ sym k.effects_are in
    record { effects_are = same; state = one.1; rest = same_behind (picks_of effects) left more (e ∙ ap (λ es. picks_of es ++ more) (sym same)) }

sent_with : (m : State) (frame : List ℕ) (asks : inet.Packet → Traffic) (effects others : List NetEffect) (after later : State) (left more : List Pick) → Sends m frame asks effects after → Sends m frame asks others later
    → picks_of effects ++ left ≡ picks_of others ++ more → Same effects others after later left more
sent_with m frame asks effects others after later left more h k e =
    let packet : h.packet ≡ k.packet = one_packet_at_most h.packet k.packet h.whole k.whole (h.frame_is ∙ sym k.frame_is) in
    moved_with m (asks k.packet) effects others after later left more (subst (λ x. Moves m (asks x) effects after) packet h.moves) k.moves e

-- what an event does takes the same of two lists of picks that are one, and has the same effects and leaves the same state
does_with : (m : State) (event : Event) (effects others : List NetEffect) (after later : State) (left more : List Pick) → Does m event effects after → Does m event others later
    → picks_of effects ++ left ≡ picks_of others ++ more → Same effects others after later left more
does_with m (event_of.Edit ops) effects others after later left more h k e =
    let owners = owners_only_in (next_net m ops) m.config.net in
    let picked = sym (ap (λ es. picks_of es ++ left) h.effects_are) ∙ e ∙ ap (λ es. picks_of es ++ more) k.effects_are in
    let same = same_keys (retire m.keys (owners_only_in m.config.net (next_net m ops))) owners h.keys k.keys h.rekeys.given k.rekeys.given h.rekeys.hold.datapaths_in_order h.rekeys.hold.ports_in_order k.rekeys.hold.datapaths_in_order k.rekeys.hold.ports_in_order left more picked in
    record {
      effects_are = h.effects_are ∙ ap (λ keys. key_effects owners keys) same.0 ∙ sym k.effects_are;
      state = h.state ∙ ap (λ (keys : Keys). edited m (next_net m ops) keys) same.0 ∙ sym k.state;
      rest = same.1;
    }
does_with m (event_of.Bind p chassis) effects others after later left more h k e = still effects others after later left more _ h.0 k.0 h.1 k.1 e
does_with m (event_of.Unbind p) effects others after later left more h k e = still effects others after later left more _ h.0 k.0 h.1 k.1 e
does_with m (event_of.RemoveChassis chassis) effects others after later left more h k e = still effects others after later left more _ h.0 k.0 h.1 k.1 e
does_with m (event_of.Keys datapaths ports) effects others after later left more h k e = still effects others after later left more _ h.0 k.0 h.1 k.1 e
does_with m (event_of.Health balancer backend online) effects others after later left more h k e = still effects others after later left more _ h.0 k.0 h.1 k.1 e
does_with m (event_of.Clock seconds) effects others after later left more h k e = still effects others after later left more _ h.0 k.0 h.1 k.1 e
does_with m (event_of.AddChassis chassis) effects others after later left more h k e = still effects others after later left more _ h.0 k.0 h.1 k.1 e
does_with m (event_of.Inject p frame) effects others after later left more h k e = sent_with m frame (λ packet. enter_one p packet) effects others after later left more h k e
does_with m (event_of.Deliver n) effects others after later left more h k e = moved_with m (arrive_one n false) effects others after later left more h k e
does_with m (event_of.Lose n) effects others after later left more h k e = moved_with m (lose_one n) effects others after later left more h k e
does_with m (event_of.Repeat n) effects others after later left more h k e = moved_with m (arrive_one n true) effects others after later left more h k e
does_with m event_of.Drain effects others after later left more h k e = moved_with m arrive_all effects others after later left more h k e
does_with m (event_of.Packet p frame) effects others after later left more h k e = sent_with m frame (λ packet. enter_and_arrive p packet) effects others after later left more h k e
does_with m (event_of.Unread fault) effects others after later left more h k e = absurd h

-- so an event does
pub step_with : (m : State) (event : Event) (effects others : List NetEffect) (after later : State) (left more : List Pick) → NetworkStep m event effects after → NetworkStep m event others later
    → picks_of effects ++ left ≡ picks_of others ++ more → Same effects others after later left more
step_with m event effects others after later left more h k e =
    let d = does_with m event effects others h.mid k.mid left more h.does k.does e in
    record { effects_are = d.effects_are; state = h.state ∙ ap finished d.state ∙ sym k.state; rest = d.rest }

pub same_step : (m : State) (event : Event) (effects others : List NetEffect) (after later : State) → NetworkStep m event effects after → NetworkStep m event others later → picks_of effects ≡ picks_of others
    → (effects ≡ others) × (after ≡ later)
same_step m event effects others after later h k e = let s = step_with m event effects others after later [] [] h k (ap (λ ps. ps ++ []) e) in (s.effects_are, s.state)

-- ---- runs

-- the same fate, the same state, and the same picks left
pub record SameFate (fate other : Fate) (after later : State) (left more : List Pick) : Type 0 where
  pub fates_are : fate ≡ other
  pub state : after ≡ later
  pub rest : left ≡ more

pub happens_with : (m : State) (event : Event) (own their left more : List Pick) (fate other : Fate) (after later : State) → Happens m event own fate after → Happens m event their other later
    → own ++ left ≡ their ++ more → SameFate fate other after later left more
happens_with m event own their left more fate other after later (Happens.refuses why r n f s) (Happens.refuses who q o g t) e =
    let cause : why ≡ who = same_Some why who (sym r ∙ q) in
    record { fates_are = f ∙ ap was_refused cause ∙ sym g; state = s ∙ sym t; rest = sym (ap (λ ps. ps ++ left) n) ∙ e ∙ ap (λ ps. ps ++ more) o }
happens_with m event own their left more fate other after later (Happens.refuses why r n f s) (Happens.accepts others q step o g) e = absurd (none-some why (sym q ∙ r))
happens_with m event own their left more fate other after later (Happens.accepts effects q step o g) (Happens.refuses why r n f s) e = absurd (none-some why (sym q ∙ r))
happens_with m event own their left more fate other after later (Happens.accepts effects r step n f) (Happens.accepts others q walk o g) e =
    let s = step_with m event effects others after later left more step walk (sym (ap (λ ps. ps ++ left) n) ∙ e ∙ ap (λ ps. ps ++ more) o) in
    record { fates_are = f ∙ ap was_accepted s.effects_are ∙ sym g; state = s.state; rest = s.rest }

pub same_run : (m : State) (events : List Event) (picks : List Pick) (fates others : List Fate) (last end : State) → Run m events picks fates last → Run m events picks others end
    → (fates ≡ others) × (last ≡ end)
same_run m [] picks fates others last end h k = (h.1 ∙ sym k.1, h.2 ∙ sym k.2)
same_run m (event ∷ events) picks fates others last end h k =
    let one = happens_with m event h.own k.own h.left k.left h.fate k.fate h.mid k.mid h.happens k.happens (sym h.picked ∙ k.picked) in
    let moved : Run k.mid events h.left h.others last = subst (λ s. Run s events h.left h.others last) one.state h.after in
    let again : Run k.mid events k.left h.others last = subst (λ ps. Run k.mid events ps h.others last) one.rest moved in
    let rest = same_run k.mid events k.left h.others k.others last end again k.after in
    (h.all ∙ ap (λ f. f ∷ h.others) one.fates_are ∙ ap (λ fs. k.fate ∷ fs) rest.0 ∙ sym k.all, rest.1)
