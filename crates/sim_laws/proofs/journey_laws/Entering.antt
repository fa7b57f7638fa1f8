-- A packet that goes in on the simulated chassis is a journey of the network, through switches and routers.
use Rattle.std.specs.Prelude.{◌≡◌, ◌+◌, ◌++◌, ℕ, true, cond, List, [], ◌∷◌, length, Some, None, refl}
use Rattle.std.specs.Option.{option_and_then}
use Rattle.std.proofs.Common.{sym, ap, ◌∙◌, subst, arith}
use Rattle.std.proofs.lemmas.Option.{none-some, same_Some}
use Rattle.chassis_sim.specs.Holding.{IsWalkBy, with_lists}
use Rattle.chassis_sim.specs.Passing as passing
use Rattle.chassis_sim.specs.Passing.{IsTold, rezoned}
use Rattle.chassis_sim.specs.State as sim
use Rattle.chassis_sim.specs.State.{at_name}
use Rattle.chassis_sim.specs.declared.out.SimOut.{SimOut}
use Rattle.conn_zones.specs.Zoning.{Zoned}
use Rattle.flow_table.specs.declared.flow.Flow.{Flow}
use Rattle.inet_packet.specs.Whole.{IsWhole}
use Rattle.inet_packet.specs.declared.packet.Packet.{Packet}
use Rattle.match_cubes.specs.declared.sets.Sets.{Sets}
use Rattle.nb_records.specs.Switches.{is_virtual}
use Rattle.nb_records.specs.declared.switch.SwitchPort.{SwitchPort}
use Rattle.net_model.specs.Entry.{Scene}
use Rattle.net_model.specs.Journey.{joined_by, enter_by, enter_on, scene_at, scenes_of}
use Rattle.net_model.specs.State.{State}
use Rattle.net_model.specs.Trail.{Trail, choices_in, crossings_in}
use Rattle.net_model.specs.Visit.{visit}
use Rattle.net_model.specs.declared.crossing.Crossing.{Crossing}
use Rattle.ovn_base.proofs.AmongLaws.{among_any}
use Rattle.ovn_base.specs.declared.name.Name.{Name}
use Rattle.ovn_base.specs.lists.Among.{Among}
use Rattle.ovn_base.specs.names.ByName.{at}
use Rattle.ovn_base.specs.names.SameName.{same_name, bytes_decides}
use Rattle.row_laws.proofs.records.ValidPorts.{port_named, own_place}
use Rattle.switch_engine.specs.Outcome.{Choosing}
use Rattle.switch_engine.specs.Walk.{start}
use Rattle.switch_engine.specs.Zones.{ZoneLists}
use Rattle.switch_engine.specs.declared.effect.Effect.{Effect}
use Rattle.switch_engine.specs.declared.effect.Entry.TheVariants.{Vif}
use Rattle.switch_engine.specs.declared.walk.Start.TheVariants as start_of
use Rattle.switch_engine.specs.declared.walk.Step.{Step}
use Rattle.tunnel_keys.proofs.HeldKeys.{found}
use Rattle.sim_laws.proofs.journey_laws.Ready.{is_ready}
use Rattle.sim_laws.proofs.journey_laws.Rezoning.{rezoned_hold, zoned_still}
use Rattle.sim_laws.proofs.journey_laws.StraightWays.{visit_sends}
use Rattle.sim_laws.proofs.journey_laws.Telling.{at_home_still, led, led_sound, told_effects, told_held}
use Rattle.sim_laws.proofs.journey_laws.VisitWays.{visit_left}
use Rattle.sim_laws.proofs.journey_laws.Walked.{IsWalked, walked}
use Rattle.sim_laws.proofs.journey_laws.Ways.{WayOn, one_way}
use Rattle.sim_laws.specs.journeys.Filling.{FillingLaw}
use Rattle.sim_laws.specs.journeys.Holding.{HoldsNetwork}
use Rattle.sim_laws.specs.journeys.InState.{chassis_at, zones_on}
use Rattle.sim_laws.specs.journeys.Moves.{journey_in}
use Rattle.sim_laws.specs.journeys.Premises.{IsReadyForPasses}
use Rattle.sim_laws.specs.journeys.Refining.{AreStraight, HasVirtualPorts, IsPortEntry, EntryJourneyLaw}
use Rattle.sim_laws.specs.journeys.UnderWay.{IsUnderWay}
use Rattle.sim_laws.specs.routers.Visits.{RoutedVisitLaw}
use Rattle.sim_laws.specs.Sound.{MayWait}
use Rattle.sim_laws.specs.passes.Whole.{WholeWalkLaw}
use Rattle.sim_laws.specs.pipelines.HeldLists.{HoldLists}
use Rattle.sim_laws.specs.pipelines.Pieces.{trail_with}
use Rattle.sim_laws.specs.pipelines.Standing.{Chassis}

-- a chassis that is there has its scene
pub scene_there : (m : State) (chassis : Name) → Among chassis m.config.chassis → scenes_of m chassis ≡ Some (scene_at m chassis)
scene_there m chassis is =
    ap (λ b. cond b (Some (scene_at m chassis)) None) (among_any (λ c. same_name c chassis) chassis m.config.chassis is ((bytes_decides chassis chassis).1 refl))

module _ (fills : FillingLaw) (visits : RoutedVisitLaw) (whole_walk : WholeWalkLaw) (m : State) (zones : Zoned) (sets : Sets) (more : ℕ) (s new : sim.SimState) (by : Choosing) (before after : SimOut) (u : IsUnderWay m zones more) (h : HoldsNetwork m zones.numbers sets s)
    (i : SwitchPort) (there : at m.config.net.switch_ports i.name ≡ Some i) (packet : Packet) (whole : IsWhole packet) where
  abbrev Entry : Type 0
  Entry = IsPortEntry m zones sets more i.name packet before after new

  module _ (chassis : Name) (home : at m.config.bindings i.name ≡ Some chassis) (flows : List Flow) (held : at_name s.chassis chassis ≡ Some flows) (lists left : ZoneLists) (listed : at_name s.zones chassis ≡ Some lists)
      (steps : List Step) (effects : List Effect) (walk : IsWalkBy by flows (Vif i.name) m.clock packet lists steps effects left) (told : IsTold (rezoned s chassis left) chassis (start_of.Port i.name) steps effects before after new) where
    abbrev k : Chassis
    k = chassis_at m zones.numbers sets by flows (Vif i.name) chassis

    abbrev scene : Scene
    scene = scene_at m chassis

    abbrev way : Trail → Trail
    way t = visit scene i t packet

    ready : IsReadyForPasses k zones.numbers
    ready = is_ready fills m zones more sets s u h chassis flows held by (Vif i.name)

    hold : HoldLists k.number lists m.lists
    hold = h.zones chassis lists listed

    is_one : is_virtual i ≡ true
    is_one = u.bound_virtual i.name chassis i home there

    abbrev Such : List Crossing → Type 0
    Such xs = ((x : Crossing) → Among x xs → MayWait m x) × (HasVirtualPorts m.config.net i.switch → AreStraight m.config.net i xs)

    -- from a switch all whose ports are virtual it crosses straight
    straight : HasVirtualPorts m.config.net i.switch → (xs : List Crossing) (t : Trail) → WayOn m.config chassis 0 xs t (way t) → AreStraight m.config.net i xs
    straight virtual xs t on =
        let r = visit_sends scene u.valid i home virtual is_one t packet in
        subst (AreStraight m.config.net i) (one_way m.config chassis 0 r.crossings xs t (way t) r.way on) (record { few = r.few u.bound.few_chassis; each = r.own })

    w : IsWalked k 0 Such way m.lists effects left
    w =
        walked k 0 Such whole_walk way m.lists lists (start (Vif i.name) packet ∷ []) (visits k zones.numbers ready.around i there is_one home refl packet whole m.lists lists hold)
        (λ choices.
        let first : Trail = trail_with m.lists choices [] in
        let x = visit_left m u.valid u.keys chassis 0 i there is_one home first packet in
        record { crossings = x.crossings; such = λ wholes. ((λ y among. x.may y among (wholes y among)), λ virtual. straight virtual x.crossings first x.way); way = x.way }) steps effects left walk

    abbrev sent : ℕ
    sent = length (crossings_in w.own)

    hold_after : (c : Name) (lists : ZoneLists) → at_name (with_lists s.zones chassis left) c ≡ Some lists → HoldLists (zones_on zones.numbers c) lists w.after
    hold_after = rezoned_hold m zones u.bound sets s h chassis lists listed w.after left w.hold w.others

    entered : Entry
    entered =
        let few = u.few_sent in
        let bound = ap (option_and_then (scenes_of m)) home ∙ scene_there m chassis (u.bound.chassis_there i.name chassis home) in
        record {
          sent = sent;
          journey = record {
            ends = w.own;
            effects = told_effects m zones.numbers sets s h w.after m.waiting (with_lists s.zones chassis left) s.waiting hold_after h.waiting chassis (start_of.Port i.name) steps w.own effects w.numbered w.on before after new told;
            left = led m w.after m.waiting w.own;
            moves = record {
              is = λ choices ends.
                  let j = journey_in m (choices_in w.own ++ choices) ends in
                  ap (λ o. enter_on o i.name packet j) bound ∙ ap (λ o. enter_by scene o packet j) there ∙ ap (joined_by j) (w.is choices []);
              rest = refl;
            };
            sound = led_sound m zones more (more + sent) w.after m.waiting w.own u (at_home_still m.config m.lists w.after w.owners u.at_home) u.crossings w.crossings.0 (omega (arith, few));
            held = told_held m zones.numbers sets s h w.after m.waiting (with_lists s.zones chassis left) s.waiting hold_after h.waiting chassis (start_of.Port i.name) steps w.own effects w.numbered w.on before after new told (zoned_still s.chassis s.zones chassis left h.zoned);
          };
          count = refl;
          may = w.crossings.0;
          waiting = refl;
          straight = λ q found virtual.
              let same : i ≡ q = same_Some i q (sym there ∙ found) in
              subst (λ (o : SwitchPort). AreStraight m.config.net o (crossings_in w.own)) same (w.crossings.1 (subst (λ (o : SwitchPort). HasVirtualPorts m.config.net o.switch) (sym same) virtual));
        }

  enters_at : passing.IsInjected by s i.name m.clock packet before after new → Entry
  enters_at (passing.IsInjected.through chassis flows lists left steps effects bound held listed walk told) = entered chassis (sym (h.bindings i.name) ∙ bound) flows held lists left listed steps effects walk told
  enters_at (passing.IsInjected.nowhere chassis bound none told) =
      let home : at m.config.bindings i.name ≡ Some chassis = sym (h.bindings i.name) ∙ bound in
      let flows = found (at_name s.chassis chassis) ((h.held chassis).1 (u.bound.chassis_there i.name chassis home)) in
      absurd (none-some flows.0 (sym none ∙ flows.1))

-- the port is bound
bound_of : (by : Choosing) (s new : sim.SimState) (p : Name) (now : ℕ) (packet : Packet) (before after : SimOut) → passing.IsInjected by s p now packet before after new → (chassis : Name) × (at_name s.bindings p ≡ Some chassis)
bound_of by s new p now packet before after (passing.IsInjected.through chassis flows lists left steps effects bound held listed walk told) = (chassis, bound)
bound_of by s new p now packet before after (passing.IsInjected.nowhere chassis bound none told) = (chassis, bound)

pub enters_so : FillingLaw → RoutedVisitLaw → WholeWalkLaw → EntryJourneyLaw
enters_so fills visits whole_walk m zones sets more s new by p packet before after u h whole injected =
    let b = bound_of by s new p m.clock packet before after injected in
    let i = found (at m.config.net.switch_ports p) (u.bound.port_there p b.0 (sym (h.bindings p) ∙ b.1)) in
    let named = port_named m.config.net u.valid p i.0 i.1 in
    subst (λ q. passing.IsInjected by s q m.clock packet before after new → IsPortEntry m zones sets more q packet before after new) named
    (enters_at fills visits whole_walk m zones sets more s new by before after u h i.0 (own_place m.config.net u.valid p i.0 i.1) packet whole) injected
